use Rattle.std.proofs.Common.{ap}
use Rattle.std.proofs.lemmas.Result.{on_ok_weaker}
use Rattle.tsa_tree.specs.declarations.Shapes.{decl_shape}
use Rattle.tsa_tree.specs.statements.Shapes.{action_shape}
use Rattle.tsa_rules_points.specs.Visits.{known_at}
use Rattle.tsa_rules_points.proofs.Uses.{begun_noted}
use Rattle.tsa_rules_points.proofs.marking.Marking.note_begun.Goals as goal

pub returns-in-Declare-clause-row : goal.returns-in-Declare-clause-row
returns-in-Declare-clause-row c =
    on_ok_weaker c.note_declaration.result
    (begun_noted c.args.self.now.numbers c.args.self.now.marks c.note_declaration.new.self c.next_local-local.result (known_at c.args.visit).here.locals (known_at c.args.visit).deed
    (decl_shape c.in-Declare.field-0.now) (ap action_shape c.in-Declare.is) c.next_local-local.ensures)
    c.note_declaration.ensures.row
