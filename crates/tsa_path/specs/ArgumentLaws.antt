-- The path of an argument says what its value is.
use Rattle.std.specs.Prelude.{◌≡◌, ℕ, Bool, true, false, List, Option, Some, slice_get}
use Rattle.tsa_base.specs.declared.value.Value.{Value}
use Rattle.tsa_tree.specs.declared.kind.ExpressionType.{ExpressionType}
use Rattle.tsa_tree.specs.declared.kind.Kind.{Kind}
use Rattle.tsa_tree.specs.declared.kind.ThingType.{ThingType}
use Rattle.tsa_tree.specs.expressions.Syntax.{Expression, Arguments}
use Rattle.tsa_tree.specs.types.Expressions.{type_of, types_of, all_typed, arguments_break}
use Rattle.tsa_tree.specs.types.Scopes.{Scope, context_of}
use Rattle.tsa_tree.specs.units.Syntax.{UnitItem}
use Rattle.tsa_place_model.specs.Ways.{Way}
use Rattle.tsa_place_model.specs.Leading.{HasPlaces}
use Rattle.tsa_place_model.specs.declared.place.Placed.{Placed}
use Rattle.tsa_place_model.specs.Calls.{Layout, is_structure}
use Rattle.tsa_place_model.specs.Stores.{Store, is_value_of, IsWellTyped}
use Rattle.tsa_core.specs.Kinds.{Setting, Belongs}
use Rattle.tsa_core.specs.Meanings.{Call, arguments, call_in}
use Rattle.tsa_core.specs.Uses.{argument_ways, call_ways}
use Rattle.tsa_path.specs.Laws.{Locals, Suits}
use Rattle.tsa_path.specs.Values.{values_of}

-- a const cell holds what it held at the start
abbrev pub KeepsConst : Layout → Store → Type 0
KeepsConst l store = (place : ℕ) (p : Placed) → slice_get l.places place ≡ Some p → is_structure p.kind ≡ false → p.is_const ≡ true → store place ≡ p.initial

-- locals hold values of their own kinds
abbrev pub HoldsKinds : Setting → Locals → Type 0
HoldsKinds k locals = (n : ℕ) (kind : Kind) (v : Value) → k.locals n ≡ Some kind → locals n ≡ Some v → is_value_of k.layout kind v ≡ true

-- What is known where a call stands belongs to the layout and to the locals, and these and the cells hold what they may.
pub record Serves (here : Scope) (k : Setting) (store : Store) (locals : Locals) : Type 0 where
  pub belongs : Belongs here k
  pub typed : IsWellTyped k.layout store
  pub constant : KeepsConst k.layout store
  pub held : HoldsKinds k locals

-- Where all arguments of a typed call have values, and these are the first locals of the callee, each path of an argument says what its
-- local holds: the local of the caller, the constant, or where the pointer points.
abbrev pub ArgumentsHaveTheirPaths : Type 0
ArgumentsHaveTheirPaths = (items : List UnitItem) (here : Scope) (k : Setting) (store : Store) (caller callee : Locals) (owner : Option ℕ) (stable : ℕ → Bool) (params : List ThingType) (args : Arguments)
    (values : List Value) → HasPlaces items k.layout → Serves here k store caller → all_typed (types_of (context_of here) args) ≡ true → arguments_break params (types_of (context_of here) args) ≡ false
    → values_of k.layout store caller (arguments here params args) ≡ Some values → ((n : ℕ) (v : Value) → slice_get values n ≡ Some v → callee n ≡ Some v)
    → Suits k.layout caller owner (argument_ways stable here params args) callee

-- So the callee's locals are what the paths that are handed on with the call of an expression ask for.
abbrev pub CallsSuitTheirPaths : Type 0
CallsSuitTheirPaths = (items : List UnitItem) (here : Scope) (k : Setting) (store : Store) (caller callee : Locals) (owner : Option ℕ) (stable : ℕ → Bool) (e : Expression)
    (t : ExpressionType) (c : Call) (ways : List (Option Way)) (values : List Value) → HasPlaces items k.layout → Serves here k store caller → type_of (context_of here) e ≡ Some t
    → call_in here e ≡ Some c → call_ways stable here e ≡ Some ways → values_of k.layout store caller c.args ≡ Some values
    → ((n : ℕ) (v : Value) → slice_get values n ≡ Some v → callee n ≡ Some v) → Suits k.layout caller owner ways callee
