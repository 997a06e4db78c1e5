use Rattle.std.proofs.Common.{◌∙◌, ap₂}
use Rattle.std.proofs.lemmas.Result.{IfOk-weaker}
use Rattle.tsa_tree.specs.units.Shapes.{item_shapes}
use Rattle.tsa_trace.specs.Tables.{texts_by}
use Rattle.tsa_trace.proofs.DeclaredNames.{texts_same}
use Rattle.tsa_trace.proofs.functions.functions_of.Goals as goal

pub returns : goal.returns
returns c =
    IfOk-weaker c.with_points.result _ _
    (λ list h. h ∙ ap₂ texts_by c.in_ok-tables.ensures.functions c.in_ok-tables.ensures.bodies ∙ texts_same (item_shapes c.args.items.now) c.requires.typed) c.with_points.ensures
