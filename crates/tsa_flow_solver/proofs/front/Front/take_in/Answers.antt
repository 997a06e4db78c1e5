use Rattle.std.proofs.Common.{◌≡◌, ◌∙◌, [], sym}
use Rattle.std.proofs.lemmas.List.{get_or_default}
use Rattle.tsa_flow_solver.specs.Rows.{row_at}
use Rattle.tsa_flow_solver.proofs.Evenly.{same_taken}
use Rattle.tsa_flow_solver.proofs.front.Front.take_in.Goals as goal

pub returns-then-is_same-clause-taken : goal.returns-then-is_same-clause-taken
returns-then-is_same-clause-taken c =
    let rows = c.args.self.now.rows.items in
    let there : c.index.result.now ≡ row_at rows c.args.block = c.index.ensures ∙ get_or_default rows c.args.block c.index.result.now [] c.requires.block in
    same_taken rows c.args.block c.args.row.now c.args.self.now.work.items (sym there ∙ c.is_same.ensures c.if-is_same.true)
