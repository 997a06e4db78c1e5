use Rattle.std.proofs.Common.{◌∙◌, ap, sym}
use Rattle.tsa_path.specs.PathTables.{number_of, with_path, is_full}
use Rattle.tsa_path.proofs.Keys.{paths, within, number_is, insert_is}
use Rattle.tsa_path.proofs.table.PathTable.intern.Goals as goal
use Rattle.tsa_path.proofs.table.PathTable.intern.Goals.{in-Ok, in-Err}

pub invariant_of-self : goal.invariant_of-self
invariant_of-self c =
    within (record { path = c.args.path }) c.self.inside.keys.keys c.insert_full.new.self.keys c.insert_full.result
    (ap (λ ways. is_full ways c.args.path) c.self.view_is ∙ sym c.is_full.ensures ∙ c.if-is_full.false) c.self.invariant c.insert_full.ensures.keys c.insert_full.ensures.err

pub returns-clause-number : goal.returns-clause-number
returns-clause-number c = elim c.match-insert_full.branch [
  | in-Ok w ↦ rw w.result-is (w.in-Ok.ensures.index ∙ number_is (record { path = c.args.path }) c.self.inside.keys.keys ∙ ap (λ ways. number_of ways c.args.path) c.self.view_is)
  | in-Err w ↦ rw w.result-is tt
]

pub returns-clause-taken : goal.returns-clause-taken
returns-clause-taken c = elim c.match-insert_full.branch [
  | in-Ok w ↦ rw w.result-is (ap paths w.in-Ok.ensures.keys ∙ insert_is (record { path = c.args.path }) c.self.inside.keys.keys ∙ ap (λ ways. with_path ways c.args.path) c.self.view_is)
  | in-Err w ↦ rw w.result-is tt
]
