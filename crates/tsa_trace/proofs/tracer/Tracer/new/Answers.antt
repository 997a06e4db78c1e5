use Rattle.std.proofs.Common.{◌∙◌, map, ap}
use Rattle.tsa_tree.specs.units.Shapes.{item_shapes}
use Rattle.tsa_trace.proofs.SourcesTold.{sources_told}
use Rattle.tsa_trace.specs.FunctionTexts.{function_texts}
use Rattle.tsa_trace.specs.Views.{text_of}
use Rattle.tsa_trace.proofs.tracer.Tracer.new.Goals as goal

pub returns : goal.returns
returns c =
    sources_told c.args.source.now c.in_ok-starts.starts (item_shapes c.args.unit.now.unit.now.items.now) (map text_of c.in_ok-functions.functions.items) c.args.places.now c.in_ok-starts.ensures
    (c.in_ok-functions.ensures ∙ ap (λ unit. function_texts (item_shapes unit.now.items.now)) c.unit.ensures) c.requires.placed
