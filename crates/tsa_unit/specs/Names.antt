-- How the names of types that are known grow.
use Rattle.std.specs.Prelude.{ℕ, List, [], ◌∷◌}
use Rattle.tsa_tree.specs.tokens.Signs.{Aliases}
use Rattle.tsa_expr.specs.TypeNames.{with_name}

-- some names more, one by one, each where it is not yet among them
abbrev pub with_names : Aliases → List (List ℕ) → Aliases
with_names known [] = known
with_names known (name ∷ names) = with_names (with_name known name) names
