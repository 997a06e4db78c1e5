-- A cell as it is read or written.
use Rattle.std.specs.Prelude.{Bool, List, Option}
use Rattle.tsa_base.specs.declared.token.Span.{Span}
use Rattle.tsa_place_model.specs.Ways.{Way}

-- a cell as it is read or written: where the expression stands that stands for it, and the paths of its guards in order
pub record Access : Type 0 where
  pub span : Span
  pub is_write : Bool
  pub guards : List (Option Way)
