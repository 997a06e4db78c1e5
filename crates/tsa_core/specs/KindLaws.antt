-- Laws of kinds in bodies: what is known at their points belongs to the layout of the unit and to their locals, and what is done there has
-- the kinds that are wanted.
use Rattle.std.specs.Prelude.{◌≡◌, ℕ, List, [], ◌++◌, All, map, Option, Some, None, option_map, slice_get}
use Rattle.tsa_tree.specs.declared.kind.Kind.{Kind}
use Rattle.tsa_tree.specs.types.DeclaredTypes.{thing_type}
use Rattle.tsa_tree.specs.types.Heads.{params_of}
use Rattle.tsa_tree.specs.types.Runnable.{Runnable}
use Rattle.tsa_tree.specs.types.Units.{outset, refusal_of_types}
use Rattle.tsa_tree.specs.units.Sound.{SpellableItems}
use Rattle.tsa_tree.specs.units.Syntax.{UnitItem}
use Rattle.tsa_place_model.specs.Calls.{Layout}
use Rattle.tsa_place_model.specs.Leading.{HasPlaces}
use Rattle.tsa_core.specs.Bodies.{Body, known_in_body}
use Rattle.tsa_core.specs.Kinds.{Setting, Belongs}
use Rattle.tsa_core.specs.PointKinds.{Signatures, PointHolds}
use Rattle.tsa_core.specs.Programs.{Function, Program, program_of, Declared, declared_functions, Bodied, bodied_function, body_in}

-- the kinds of the locals of a body: its parameters, and then those that it declares
abbrev pub param_kinds : Bodied → List Kind
param_kinds b = map (λ p. (thing_type b.here p.ctype).kind) b.head.params

abbrev pub kinds_of : Bodied → List Kind
kinds_of b = param_kinds b ++ (body_in b).locals

abbrev pub setting : Layout → Bodied → Option Kind → Setting
setting l b given = record { layout = l; locals = slice_get (kinds_of b); answer = given }

-- at each point of a body of a unit what is known belongs to the layout of the unit and to the locals of the body
abbrev pub ScopesBelong : Type 0
ScopesBelong = (items : List UnitItem) (name : List ℕ) (b : Bodied) (l : Layout) (given : Option Kind) → Runnable items → HasPlaces items l
    → bodied_function name (outset items) items ≡ Some b → All (λ k. Belongs k.here (setting l b given)) (known_in_body b.here b.body)

-- what the functions of a program give and take
abbrev pub signatures : Program → Signatures
signatures p = record {
  result = λ n. option_map (λ f. f.result) (slice_get p.functions n);
  params = λ n. option_map (λ f. map (λ t. t.kind) f.params) (slice_get p.functions n);
}

-- at each point of a body of a unit the terms of the action and of the call have the kinds that are wanted: by the layout of the unit, the
-- locals and the result of the body, and the functions of the program
abbrev pub PointsHaveTheirKinds : Type 0
PointsHaveTheirKinds = (items : List UnitItem) (name : List ℕ) (b : Bodied) (l : Layout) → SpellableItems items → Runnable items → HasPlaces items l
    → bodied_function name (outset items) items ≡ Some b
    → All (PointHolds (signatures (program_of items)) l (slice_get (kinds_of b)) (thing_type b.here b.head.result).kind) (body_in b).points

-- a body has the kinds of parameters and of result that the program's function of its name has
abbrev pub BodiesAgree : Type 0
BodiesAgree = (items : List UnitItem) (n : ℕ) (d : Declared) (b : Bodied) → refusal_of_types items ≡ None → slice_get (declared_functions (outset items) items) n ≡ Some d
    → bodied_function d.head.name.text (outset items) items ≡ Some b
    → (param_kinds b ≡ map (λ t. t.kind) (params_of d.here d.head.params)) × ((thing_type b.here b.head.result).kind ≡ (thing_type d.here d.head.result).kind)

-- at each point of the body of a program's function the terms have the kinds that are wanted: by the program's own layout and functions,
-- and by the function's own parameters, locals and result
abbrev pub function_locals : Function → Body → ℕ → Option Kind
function_locals f body = slice_get (map (λ t. t.kind) f.params ++ body.locals)

abbrev pub ProgramsAreWellKinded : Type 0
ProgramsAreWellKinded = (items : List UnitItem) (l : Layout) (n : ℕ) (f : Function) (body : Body) → SpellableItems items → Runnable items → HasPlaces items l
    → slice_get (program_of items).functions n ≡ Some f → f.body ≡ Some body
    → All (PointHolds (signatures (program_of items)) (program_of items).layout (function_locals f body) f.result) body.points
