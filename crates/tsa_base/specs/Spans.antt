-- The bytes of a span.
use Rattle.std.specs.Prelude.{ℕ, ◌&&◌, List, [], length, slice_range, nat_le, if◌then◌else◌}
use Rattle.tsa_base.specs.declared.token.Span.{Span}

-- none where the span doesn't lie in the bytes
unfoldable pub span_text : List ℕ → Span → List ℕ
span_text bytes span = if nat_le span.from span.to && nat_le span.to (length bytes) then slice_range bytes span.from span.to else []
