-- Structs as they are kept, each with how many places it takes.
use Rattle.std.specs.Prelude.{◌≡◌, ℕ, ◌+◌, List, [], ◌∷◌, Some, slice_get}
use Rattle.tsa_place_layout.specs.declared.structures.Defined.{Defined}
use Rattle.tsa_place_model.specs.Layouts.{Part, Structure, Structures, structure_at, size_of, thing_size, capped}
use Rattle.tsa_place_model.specs.Standing.{IsOrdered}

abbrev pub shown : Defined → Structure
shown d = record { is_lock = d.is_lock; members = d.members.items }

-- in order of definition, and the latest first
abbrev pub latest : List Defined → Structures → Structures
latest [] earlier = earlier
latest (d ∷ rest) earlier = latest rest (shown d ∷ earlier)

-- where members begin, the first of them at a place; counts stop
abbrev pub begins_from : (ℕ → ℕ) → ℕ → List Part → List ℕ
begins_from size at [] = []
begins_from size at (m ∷ rest) = capped at ∷ begins_from size (at + thing_size size m.thing) rest

-- a struct used by value is defined earlier, and each has its size, which stops, and knows where its members begin
pub record IsSized (list : List Defined) : Type 0 where
  pub ordered : IsOrdered (latest list [])
  pub sized : (n : ℕ) (d : Defined) → slice_get list n ≡ Some d → d.size ≡ capped (size_of (latest list []) n)
  pub begun : (n : ℕ) (d : Defined) → slice_get list n ≡ Some d → d.begins.items ≡ begins_from (size_of (latest list [])) 0 d.members.items

-- a struct of a number as it is kept
pub record IsKept (structs : Structures) (n : ℕ) (d : Defined) : Type 0 where
  pub shows : structure_at structs n ≡ shown d
  pub size : d.size ≡ capped (size_of structs n)
  pub begins : d.begins.items ≡ begins_from (size_of structs) 0 d.members.items
