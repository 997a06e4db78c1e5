-- The paths that are found at the body of a function are those of the core program's function.
use Rattle.std.proofs.Common.{◌≡◌, ◌∙◌, ℕ, Bool, true, List, [], ◌++◌, length, map, Some, slice_get, refl, sym, ap, ap₂}
use Rattle.tsa_base.specs.declared.token.Span.{Span}
use Rattle.tsa_tree.specs.declarations.Syntax.{Head}
use Rattle.tsa_tree.specs.statements.Syntax.{Statements}
use Rattle.tsa_tree.specs.types.DeclaredTypes.{thing_type}
use Rattle.tsa_tree.specs.types.Heads.{inside, behind_head}
use Rattle.tsa_tree.specs.types.Scopes.{Scope}
use Rattle.tsa_tree.specs.types.Symbols.{number_of}
use Rattle.tsa_tree.specs.types.Units.{outset}
use Rattle.tsa_tree.specs.units.Syntax.{UnitItem}
use Rattle.tsa_place_model.specs.LockPaths.{stable_in}
use Rattle.tsa_place_model.specs.Ways.{Way}
use Rattle.tsa_core.specs.Bodies.{known_in_body, body_of}
use Rattle.tsa_core.specs.Programs.{Bodied, Declared, Function, Program, attrs_of, bodied_function, declared_functions, function_in}
use Rattle.tsa_core.specs.Programs.{function_of, program_of, stable_locals}
use Rattle.tsa_core.specs.Uses.{uses_of}
use Rattle.tsa_profile_items.specs.Ways.{each_once, named_ways, present, unless_many}
use Rattle.tsa_profile.specs.Paths.{paths_if, paths_of, points_ways}
use Rattle.tsa_profile_items.specs.Units.{Unit, around, attributes_by, paths_at, points_in, unit_of}
use Rattle.tsa_profile.proofs.AddedNames.{adds_inside}
use Rattle.tsa_profile.proofs.BodyWays.{attributes_of, body_ways}
use Rattle.tsa_profile.proofs.FunctionScopes.{KnowsFunctions, knows_data}

-- the functions of the core program are those that are declared, in order
pub functions_are : (items : List UnitItem)
    → (program_of items).functions ≡ map (function_in (program_of items).layout items) (declared_functions (outset items) items)
unfolding program_of
functions_are items = refl

module _ (outside : List ℕ) (items : List UnitItem) (ds more : List Declared) (all : declared_functions (outset items) items ≡ ds ++ more) where
  abbrev u : Unit
  u = unit_of outside items

  abbrev p : Program
  p = program_of items

  abbrev function : Declared → Function
  function d = function_in p.layout items d

  are : p.functions ≡ map function (ds ++ more)
  are = functions_are items ∙ ap (map function) all

  module _ (here : Scope) (head : Head) (body : Statements) (d : Declared) where
    abbrev own : Bodied
    own = record { here = inside here head true; head = head; body = body }

    abbrev ways_with : (ℕ → Bool) → List Way
    ways_with stable =
        points_ways p (map (uses_of p.layout stable) (known_in_body own.here own.body)) (body_of own.here (thing_type own.here own.head.result).kind own.body).points

    -- The body is the first one of its function, whose number it has.
    pub body_paths : (close : Span) → KnowsFunctions ds (behind_head here head true) → slice_get ds (number_of here head) ≡ Some d
        → bodied_function d.head.name.text (outset items) items ≡ Some own → bodied_function head.name.text (outset items) items ≡ Some own
        → paths_at u (map (attributes_by u) ds) here head (points_in here head body) ≡ paths_if p (function_of p.layout d (Some own))
    unfolding paths_of
    body_paths close known at first first_own =
        let a = around u (map (attributes_by u) ds) here head in
        let result = (thing_type own.here own.head.result).kind in
        let stable : a.stable ≡ stable_in (stable_locals (length head.params) (Some own)) = ap (λ o. stable_in (stable_locals (length head.params) o)) first_own in
        let attributes : (function d).attrs ≡ (function_of p.layout d (Some own)).attrs =
        ap (λ o. attrs_of (stable_in (stable_locals (length d.head.params) o)) (inside d.here d.head d.with_body) d.head.attrs) first
        in
        let ways = body_ways p ds more function are a result refl refl own.here body close (knows_data ds (behind_head here head true) own.here (adds_inside here head true) known) in
        ap₂ (λ attrs ws. unless_many (each_once [] (present (named_ways attrs) ++ ws)))
        (attributes_of p ds more function are (number_of here head) d at ∙ attributes)
        (sym ways ∙ ap ways_with stable)
