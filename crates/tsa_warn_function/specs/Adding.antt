-- Lists to which something is added.
use Rattle.std.specs.Prelude.{◌≡◌, List, ◌++◌, Contains, AllPairs}

-- no two places have the same
abbrev pub EachOnce : {X : Type 0} → List X → Type 0
EachOnce {X} xs = AllPairs (λ x y. x ≡ y → ⊥) xs

-- What is added stands behind what was there: all of a kind and nothing else, each once.
pub record Adds {X : Type 0} (IsOne : X → Type 0) (old new : List X) : Type 0 where
  pub more : List X
  pub behind : new ≡ old ++ more
  pub told : (x : X) → Contains more x → IsOne x
  pub all : (x : X) → IsOne x → Contains more x
  pub once : EachOnce more
