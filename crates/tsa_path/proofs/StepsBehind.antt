-- What stands before a step of a way: a pointer, a struct object, or an array.
use Rattle.std.proofs.Common.{◌≡◌, ℕ, Bool, true, false, List, Option, Some, None, refl}
use Rattle.tsa_tree.specs.declared.kind.Kind.{Kind}
use Rattle.tsa_tree.specs.declared.kind.Kind.TheVariants as type
use Rattle.tsa_tree.specs.declared.kind.ThingType.{ThingType}
use Rattle.tsa_tree.specs.expressions.Syntax.{Expression}
use Rattle.tsa_tree.specs.types.Scopes.{Scope}
use Rattle.tsa_tree.specs.types.Types.{single}
use Rattle.tsa_tree.specs.types.Lookups.{members_at, numbered}
use Rattle.tsa_place_model.specs.LockPaths as path
use Rattle.tsa_place_model.specs.LockPaths.{Led, led, pointed, member_step, element_step, to_element, index_step}
use Rattle.tsa_place_model.specs.Ways.{Way, onward}
use Rattle.tsa_place_model.specs.declared.path.PathStep.{PathStep}
use Rattle.tsa_place_model.specs.declared.path.PathStep.TheVariants.{Field, Follow}
use Rattle.tsa_core.proofs.TypedTerms.{some_same}

-- what a pointer that never changes is led to by
pub record Followed (w : Way) (kind : Kind) (length : Option ℕ) (stable : Bool) (d : Led) : Type 0 where
  pub struct : ℕ
  pub to_const : Bool
  pub kind_is : kind ≡ type.Pointer struct to_const
  pub one : length ≡ None
  pub stays : stable ≡ true
  pub led_is : led (onward Follow w) (single (type.Structure struct) to_const) ≡ d

abbrev pub a_led : Way → Kind → Option ℕ → Bool → Bool → Led
a_led w kind length c stable = record { way = w; thing = record { kind = kind; length = length; is_const = c }; is_stable = stable }

pub pointed_by : (w : Way) (kind : Kind) (length : Option ℕ) (c stable : Bool) (d : Led) → pointed (a_led w kind length c stable) ≡ Some d → Followed w kind length stable d
pointed_by w kind (Some n) c stable d e = cc
pointed_by w (type.Pointer n to_const) None c true d e = record { struct = n; to_const = to_const; kind_is = refl; one = refl; stays = refl; led_is = some_same e }
pointed_by w (type.Pointer n to_const) None c false d e = cc
pointed_by w type.Int None c stable d e = cc
pointed_by w type.Unsigned None c stable d e = cc
pointed_by w type.Void None c stable d e = cc
pointed_by w (type.Structure n) None c stable d e = cc
pointed_by w type.Null None c stable d e = cc
pointed_by w type.Function None c stable d e = cc

-- a member of the object that a way leads to
pub record Inner (here : Scope) (name : List ℕ) (w : Way) (kind : Kind) (length : Option ℕ) (d : Led) : Type 0 where
  pub struct : ℕ
  pub number : ℕ
  pub thing : ThingType
  pub kind_is : kind ≡ type.Structure struct
  pub one : length ≡ None
  pub found : numbered (members_at here struct) name 0 ≡ Some (number, thing)
  pub led_is : led (onward (Field number) w) thing ≡ d

pub member_by : (here : Scope) (name : List ℕ) (w : Way) (kind : Kind) (length : Option ℕ) (c stable : Bool) (d : Led) → member_step here name (a_led w kind length c stable) ≡ Some d
    → Inner here name w kind length d
member_by here name w kind (Some n) c stable d e = cc
member_by here name w type.Int None c stable d e = cc
member_by here name w type.Unsigned None c stable d e = cc
member_by here name w type.Void None c stable d e = cc
member_by here name w (type.Pointer n to_const) None c stable d e = cc
member_by here name w type.Null None c stable d e = cc
member_by here name w type.Function None c stable d e = cc
member_by here name w (type.Structure n) None c stable d e = by (numbered (members_at here n) name 0) refl e
  where
    by : (o : Option (ℕ × ThingType)) → numbered (members_at here n) name 0 ≡ o → path.to_member w o ≡ Some d → Inner here name w (type.Structure n) None d
    by None f e = cc
    by (Some m) f e = record { struct = n; number = m.0; thing = m.1; kind_is = refl; one = refl; found = f; led_is = some_same e }

-- an element of the array that a way leads to
pub record Piece (stable : ℕ → Bool) (here : Scope) (at : Expression) (before : Led) (d : Led) : Type 0 where
  pub count : ℕ
  pub step : PathStep
  pub many : before.thing.length ≡ Some count
  pub step_is : index_step stable here count at ≡ Some step
  pub led_is : record { way = onward step before.way; thing = single before.thing.kind before.thing.is_const; is_stable = before.is_stable } ≡ d

pub element_by : (stable : ℕ → Bool) (here : Scope) (at : Expression) (w : Way) (kind : Kind) (length : Option ℕ) (c stays : Bool) (d : Led)
    → element_step stable here at (a_led w kind length c stays) ≡ Some d → Piece stable here at (a_led w kind length c stays) d
element_by stable here at w kind None c stays d e = cc
element_by stable here at w kind (Some n) c stays d e = by (index_step stable here n at) refl e
  where
    by : (o : Option PathStep) → index_step stable here n at ≡ o → to_element (a_led w kind (Some n) c stays) o ≡ Some d → Piece stable here at (a_led w kind (Some n) c stays) d
    by None f e = cc
    by (Some step) f e = record { count = n; step = step; many = refl; step_is = f; led_is = some_same e }
