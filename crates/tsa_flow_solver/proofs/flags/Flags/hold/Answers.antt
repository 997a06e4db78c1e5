use Rattle.std.proofs.Common.{◌∙◌, ◌≡◌, subst, sym, true}
use Rattle.std.specs.List.{list_all}
use Rattle.tsa_flow_solver.proofs.EdgeComparisons.{flags_there}
use Rattle.tsa_flow_solver.proofs.flags.Flags.hold.Goals as goal

pub returns : goal.returns
returns c all lane = flags_there c.args.self.now (subst (λ xs. list_all (λ bit. bit) xs ≡ true) c.self.view_is (subst (λ xs. list_all (λ bit. bit) xs ≡ true) c.deref.ensures.value (sym c.all_hold.ensures ∙ all))) lane
