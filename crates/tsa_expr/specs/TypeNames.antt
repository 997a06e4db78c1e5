-- The names of types that a reader is given.
use Rattle.std.specs.Prelude.{ℕ, Option, Some, None, List, [], ◌∷◌, ◌++◌, if◌then◌else◌}
use Rattle.std.specs.Borrow.{Bor}
use Rattle.std.specs.List.{list_any}
use Rattle.std.specs.Str.{bytes_eq}
use Rattle.tsa_tree.specs.tokens.Signs.{Aliases}

-- none where it is given no list
abbrev pub known : Option (Bor Aliases) → Aliases
known None = []
known (Some names) = names.now

-- one name more, after the others, where it is not among them
abbrev pub with_name : Aliases → List ℕ → Aliases
with_name names name = if list_any (bytes_eq name) names then names else names ++ name ∷ []
