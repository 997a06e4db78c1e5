-- What is asked of the places of a unit: where globals, members and elements stand, the text of a place, and its guards.
use Rattle.std.specs.Prelude.{ℕ, zero, suc, ◌+◌, ◌*◌, nat_lt, pos, negsuc, Bool, true, false, not, ◌&&◌, List, [], ◌∷◌, ◌++◌, length}
use Rattle.std.specs.Prelude.{Option, Some, None, option_map, option_and_then, map, slice_get, if◌then◌else◌, codes}
use Rattle.std.specs.Fmt.{decimal}
use Rattle.tsa_base.specs.declared.token.Span.{Span}
use Rattle.tsa_base.specs.declared.value.Value.{Value}
use Rattle.tsa_base.specs.declared.value.Value.TheVariants.{Int, Unsigned, Pointer}
use Rattle.tsa_tree.specs.declared.kind.Kind.{Kind}
use Rattle.tsa_tree.specs.declared.kind.Kind.TheVariants as type
use Rattle.tsa_place_model.specs.Ways.{Way}
use Rattle.tsa_place_model.specs.declared.path.Root.{Root}
use Rattle.tsa_place_model.specs.declared.path.Root.TheVariants as root
use Rattle.tsa_place_model.specs.declared.path.PathStep.{PathStep}
use Rattle.tsa_place_model.specs.declared.path.PathStep.TheVariants as way
use Rattle.tsa_place_model.specs.Layouts.{Part, Structures, structure_at, kind_size, size_of, offset}
use Rattle.tsa_place_model.specs.Places.{Placed, Holder, Global, Member}
pub use Rattle.tsa_place_model.specs.declared.place.PlaceKind.{PlaceKind}
pub use Rattle.tsa_place_model.specs.declared.place.PlaceKind.TheVariants.{Cell, Structure}
pub use Rattle.tsa_place_model.specs.declared.place.Guard.{Guard}
pub use Rattle.tsa_place_model.specs.declared.place.Guard.TheVariants.{Lock, Nothing}
pub use Rattle.tsa_place_model.specs.declared.spot.Spot.{Spot}
pub use Rattle.tsa_place_model.specs.declared.spot.Spot.TheVariants.{Place, Holds}

-- what is known of the places of a unit, or of its first items: its structs, the latest first, its globals, where each begins, and all
-- places in order
pub record Layout : Type 0 where
  pub structs : Structures
  pub globals : List Part
  pub starts : List ℕ
  pub places : List Placed

-- the first place of a global
abbrev pub global_place : Layout → ℕ → Option ℕ
global_place l n = slice_get l.starts n

-- the members of the struct that a kind is
abbrev pub members_of : Layout → Kind → List Part
members_of l (type.Structure n) = (structure_at l.structs n).members
members_of l _ = []

-- what stands at a place, where there is one
abbrev pub kind_at : Layout → ℕ → Option Kind
kind_at l place = option_map (λ p. p.kind) (slice_get l.places place)

-- a place by its number, where there is one
abbrev pub there : Layout → ℕ → Option ℕ
there l place = if nat_lt place (length l.places) then Some place else None

-- the first place of a member of the struct object at a place
abbrev pub member_place : Layout → ℕ → ℕ → Option ℕ
member_place l place k = by (kind_at l place)
  where
    if_there : List Part → Option Part → Option ℕ
    if_there members None = None
    if_there members (Some m) = there l (place + 1 + offset (size_of l.structs) members k)

    by : Option Kind → Option ℕ
    by None = None
    by (Some kind) = if_there (members_of l kind) (slice_get (members_of l kind) k)

-- what declares a place
abbrev pub part_of : Layout → Holder → Option Part
part_of l (Global n) = slice_get l.globals n
part_of l (Member owner k) = option_and_then (λ kind. slice_get (members_of l kind) k) (kind_at l owner)

-- the element of an index of the array whose element 0 stands at a place
abbrev pub element_place : Layout → ℕ → ℕ → Option ℕ
element_place l place i = option_and_then first (slice_get l.places place)
  where
    within : Placed → Option ℕ → Option ℕ
    within p None = None
    within p (Some n) = if nat_lt i n then there l (place + i * kind_size (size_of l.structs) p.kind) else None

    of_array : Placed → Option ℕ → Option ℕ
    of_array p (Some zero) = within p (option_and_then (λ part. part.thing.length) (part_of l p.holder))
    of_array p other = None

    first : Placed → Option ℕ
    first p = of_array p p.index

-- a place of a struct that is a lock
abbrev pub is_lock_kind : Layout → Kind → Bool
is_lock_kind l (type.Structure n) = (structure_at l.structs n).is_lock
is_lock_kind l _ = false

abbrev pub is_structure : Kind → Bool
is_structure (type.Structure n) = true
is_structure _ = false

-- a pointer may point to a struct object that no guard stands before
abbrev pub is_addressable : Placed → Bool
is_addressable p = is_structure p.kind && not p.is_guarded

-- the place that a place lies in: the struct object whose member declares it
abbrev pub owner_of : Holder → Option ℕ
owner_of (Global g) = None
owner_of (Member owner k) = Some owner

abbrev pub owner_at : Layout → Holder → Option Placed
owner_at l holder = option_and_then (slice_get l.places) (owner_of holder)

-- a place with those that it lies in, up to a number of them: the innermost first
unfoldable pub around : Layout → ℕ → Option Placed → List Placed
around l zero p = []
around l (suc n) None = []
around l (suc n) (Some p) = p ∷ around l n (owner_at l p.holder)

-- no place lies in a later one
abbrev pub way_to : Layout → ℕ → List Placed
way_to l place = around l (suc place) (slice_get l.places place)

-- The text of a place: its global's name, then `.f` for each member and `[k]` for each index.
abbrev pub index_text : Option ℕ → List ℕ
index_text None = []
index_text (Some i) = codes "[" ++ (decimal i ++ codes "]")

abbrev pub dot : Holder → List ℕ
dot (Global g) = []
dot (Member owner k) = codes "."

abbrev pub part_name : Option Part → List ℕ
part_name None = []
part_name (Some part) = part.name

abbrev pub own_text : Layout → Placed → List ℕ
own_text l p = dot p.holder ++ (part_name (part_of l p.holder) ++ index_text p.index)

unfoldable pub text_along : Layout → List Placed → List ℕ
text_along l [] = []
text_along l (p ∷ outer) = text_along l outer ++ own_text l p

abbrev pub text_of : Layout → ℕ → List ℕ
text_of l place = text_along l (way_to l place)

-- what stands in the cell at a place at the start
abbrev pub initial_at : Layout → ℕ → Option Value
initial_at l place = option_map (λ p. p.initial) (slice_get l.places place)

abbrev pub pointee : Value → Option Spot
pointee (Pointer place) = option_map Place place
pointee _ = None

abbrev pub index_in : Value → Option ℕ
index_in (Int (pos n)) = Some n
index_in (Int (negsuc n)) = None
index_in (Unsigned n) = Some n
index_in (Pointer p) = None

-- Evaluation with the values of locals, where the struct object that has the guard stands at a place: nothing at a null pointer or an index
-- out of range.
abbrev pub take_root : Layout → (ℕ → Option Value) → Option ℕ → Root → Option Spot
take_root l locals owner (root.Global n) = option_map Place (global_place l n)
take_root l locals owner (root.Local n) = option_map Holds (locals n)
take_root l locals owner root.Owner = option_map Place owner

abbrev pub take_step : Layout → (ℕ → Option Value) → PathStep → Spot → Option Spot
take_step l locals (way.Field k) (Place place) = option_map Place (member_place l place k)
take_step l locals (way.Constant i) (Place place) = option_map Place (element_place l place i)
take_step l locals (way.Variable n) (Place place) = option_map Place (option_and_then (element_place l place) (option_and_then index_in (locals n)))
take_step l locals way.Follow (Place place) = option_and_then pointee (initial_at l place)
take_step l locals way.Follow (Holds v) = pointee v
take_step l locals _ (Holds v) = None

abbrev pub take_steps : Layout → (ℕ → Option Value) → List PathStep → Option Spot → Option Spot
take_steps l locals [] spot = spot
take_steps l locals (step ∷ rest) spot = take_steps l locals rest (option_and_then (take_step l locals step) spot)

abbrev pub place_in : Spot → Option ℕ
place_in (Place place) = Some place
place_in (Holds v) = None

abbrev pub evaluated : Layout → (ℕ → Option Value) → Option ℕ → Way → Option ℕ
evaluated l locals owner w = option_and_then place_in (take_steps l locals w.steps (take_root l locals owner w.root))

-- The guards of a place: those that are declared on the way from its global to it, each evaluated with the object whose member has it as
-- its owner.
abbrev pub no_locals : ℕ → Option Value
no_locals = slice_get []

abbrev guard_of : Option ℕ → Guard
guard_of None = Nothing
guard_of (Some place) = Lock place

abbrev pub guard_by : Layout → Option ℕ → Option Way → Guard
guard_by l owner w = guard_of (option_and_then (evaluated l no_locals owner) w)

abbrev pub guards_by : Layout → Option ℕ → List (Option Way) → List Guard
guards_by l owner ways = map (guard_by l owner) ways

abbrev pub part_guards : Option Part → List (Option Way)
part_guards None = []
part_guards (Some part) = part.guards

abbrev pub own_guards : Layout → Placed → List Guard
own_guards l p = guards_by l (owner_of p.holder) (part_guards (part_of l p.holder))

unfoldable pub guards_along : Layout → List Placed → List Guard
guards_along l [] = []
guards_along l (p ∷ outer) = guards_along l outer ++ own_guards l p

abbrev pub guards_of : Layout → ℕ → List Guard
guards_of l place = guards_along l (way_to l place)

-- where the declarator of a place stands: the last one on the way to it
abbrev pub span_of : Option Part → Span
span_of None = record { from = 0; to = 0 }
span_of (Some part) = part.span

abbrev pub declarator_of : Layout → Placed → Span
declarator_of l p = span_of (part_of l p.holder)

-- a place is a struct object, or a cell
abbrev pub place_kind : Kind → PlaceKind
place_kind (type.Structure n) = Structure
place_kind _ = Cell
