-- The layout of types (C11 6.2.5, 6.7.2.1): structs with their members, and how many places a thing takes.
use Rattle.std.specs.Prelude.{ℕ, zero, suc, ◌+◌, ◌*◌, min, nat_eq, Bool, false, List, [], ◌∷◌, length, Option, Some, None, if◌then◌else◌}
use Rattle.tsa_base.specs.declared.token.Span.{Span}
use Rattle.tsa_tree.specs.declared.kind.Kind.{Kind}
use Rattle.tsa_tree.specs.declared.kind.Kind.TheVariants as type
use Rattle.tsa_tree.specs.declared.kind.ThingType.{ThingType}
use Rattle.tsa_place_model.specs.Ways.{Way}

-- a member or a global: its name, its type, the paths of its guards in order, of which some may have none, and where its declarator stands
pub record Part : Type 0 where
  pub name : List ℕ
  pub thing : ThingType
  pub guards : List (Option Way)
  pub span : Span

-- whether a struct is a lock, and its members in order
pub record Structure : Type 0 where
  pub is_lock : Bool
  pub members : List Part

-- structs, the latest first: a struct's number is how many were defined before it
abbrev pub Structures : Type 0
Structures = List Structure

abbrev pub no_members : Structure
no_members = record { is_lock = false; members = [] }

unfoldable pub structure_at : Structures → ℕ → Structure
structure_at [] n = no_members
structure_at (s ∷ earlier) n = if nat_eq n (length earlier) then s else structure_at earlier n

-- a struct object takes as many places as its struct does, and a cell is one
abbrev pub kind_size : (ℕ → ℕ) → Kind → ℕ
kind_size size (type.Structure n) = size n
kind_size size _ = 1

-- an array takes as many as its elements together
abbrev pub times : Option ℕ → ℕ → ℕ
times None n = n
times (Some count) n = count * n

abbrev pub thing_size : (ℕ → ℕ) → ThingType → ℕ
thing_size size t = times t.length (kind_size size t.kind)

abbrev pub members_size : (ℕ → ℕ) → List Part → ℕ
members_size size [] = 0
members_size size (m ∷ rest) = thing_size size m.thing + members_size size rest

-- how many places an object of a struct takes: its own, and those of its members
unfoldable pub size_of : Structures → ℕ → ℕ
size_of [] n = 1
size_of (s ∷ earlier) n = if nat_eq n (length earlier) then 1 + members_size (size_of earlier) s.members else size_of earlier n

-- how far behind the first place of some members the one of a number begins
abbrev pub offset : (ℕ → ℕ) → List Part → ℕ → ℕ
offset size [] k = 0
offset size (m ∷ rest) zero = 0
offset size (m ∷ rest) (suc k) = thing_size size m.thing + offset size rest k

-- a count that stops at one more than a unit may have places
abbrev pub capped : ℕ → ℕ
capped n = min n 65537
