-- Functions as the code keeps them, with their texts.
use Rattle.std.specs.Prelude.{List, map, option_map}
use Rattle.tsa_base.specs.declared.token.Span.{Span}
use Rattle.tsa_tree.specs.declared.stmt.Point.{Point}
use Rattle.tsa_trace.specs.FunctionTexts.{FunctionText, points_or_none}
use Rattle.tsa_trace.specs.declared.table.Function.{Function}

abbrev pub spans_of : List Point → List Span
spans_of points = map (λ p. p.span) points

abbrev pub text_of : Function → FunctionText
text_of f = record { name = f.name.now; points = points_or_none (option_map (λ points. spans_of points.now) f.points) }
