-- What a point of a body is to the rules, by what is known there and around the body.
use Rattle.std.specs.Prelude.{◌≡◌, ℕ, Bool, false, List, [], All, Option, Some, None}
use Rattle.tsa_tree.specs.declared.kind.Kind.{Kind}
use Rattle.tsa_tree.specs.points.Syntax.{Deed, declares}
use Rattle.tsa_core.specs.Bodies.{Known, Point, point_of}
use Rattle.tsa_core.specs.Programs.{Attr, Program}
use Rattle.tsa_core.specs.Uses.{Uses, uses_of}
use Rattle.tsa_core_points.specs.CoreLaws.{known_of}
use Rattle.tsa_core_points.specs.Points.{PlacedPoint}
use Rattle.tsa_rules.specs.Attributes.{all_as_called}
use Rattle.tsa_rules.specs.Points.{attrs_called}
use Rattle.tsa_profile_accesses.specs.Locks.{tries}
use Rattle.tsa_profile_accesses.specs.Expressions.{attributes_at}
use Rattle.tsa_profile_points.specs.Bodies.{Around}
use Rattle.tsa_profile_points.specs.Ways.{called_at}

-- the attributes of a function that is called, by its number, as they are declared
abbrev pub called_attributes : List (List Attr) → Option ℕ → List Attr
called_attributes attributes None = []
called_attributes attributes (Some n) = attributes_at attributes n

-- what is used at a point, and the attributes of the function that it calls, as they are there
abbrev pub uses_here : Around → Known → Uses
uses_here a k = uses_of a.layout a.stable k

abbrev pub attrs_here : Around → Known → List Attr
attrs_here a k = all_as_called (uses_here a k).arguments (called_attributes a.attributes (called_at k))

-- the local that begins there
abbrev pub begun_by : ℕ → Deed → Option ℕ
begun_by next (declares d) = Some next
begun_by next deed = None

abbrev pub begun_here : Known → Option ℕ
begun_here k = begun_by k.here.locals k.deed

-- whether a local begins there with what a try gives
abbrev pub begins_a_try_by : Deed → (tries : Bool) → Bool
begins_a_try_by (declares d) tries = tries
begins_a_try_by deed tries = false

abbrev pub begins_a_try : Around → Known → Bool
begins_a_try a k = begins_a_try_by k.deed (tries (called_attributes a.attributes (called_at k)))

-- the point of the core program, in a function whose result has a kind
abbrev pub core_at : Kind → PlacedPoint → Point
core_at kind q = point_of kind (known_of q)

-- a program's functions have the attributes that are known where some points call them
abbrev pub Agrees : Program → Around → Kind → PlacedPoint → Type 0
Agrees u a kind q = called_attributes a.attributes (called_at (known_of q)) ≡ attrs_called u (core_at kind q).call

abbrev pub AllAgree : Program → Around → Kind → List PlacedPoint → Type 0
AllAgree u a kind qs = All (Agrees u a kind) qs
