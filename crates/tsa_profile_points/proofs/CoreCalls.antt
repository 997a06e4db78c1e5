-- The calls at points are those of the core program.
use Rattle.std.proofs.Common.{◌≡◌, Option, Some, None, option_map, option_and_then, refl}
use Rattle.tsa_tree.specs.declarations.Syntax.{Initialiser, value, list}
use Rattle.tsa_tree.specs.declared.kind.Kind.{Kind}
use Rattle.tsa_tree.specs.points.Syntax.{Deed, declares, evaluates, assigns, tests, switches, jumps, idles, returns, ends}
use Rattle.tsa_tree.specs.types.DeclaredTypes.{thing_type}
use Rattle.tsa_tree.specs.types.Scopes.{Scope}
use Rattle.tsa_core.specs.Bodies.{declared, point_by}
use Rattle.tsa_profile_points.specs.Laws.{CallsAreOfTheCore}
use Rattle.tsa_profile_points.specs.Ways.{calling, function_called, init_value}

init_calls : (here : Scope) (kind : Kind) (init : Option Initialiser)
    → option_map (λ c. c.function) (declared here kind init).call ≡ option_and_then (function_called here) (init_value init)
init_calls here kind None = refl
init_calls here kind (Some (value e)) = refl
init_calls here kind (Some (list items span)) = refl

deed_calls : (here : Scope) (result : Kind) (deed : Deed)
    → option_map (λ c. c.function) (point_by here result deed).call ≡ option_and_then (function_called here) (calling deed)
deed_calls here result (declares d) = init_calls here (thing_type here d.ctype).kind d.init
deed_calls here result (evaluates e) = refl
deed_calls here result (assigns left o right) = refl
deed_calls here result (tests None) = refl
deed_calls here result (tests (Some e)) = refl
deed_calls here result (switches e) = refl
deed_calls here result jumps = refl
deed_calls here result idles = refl
deed_calls here result (returns None) = refl
deed_calls here result (returns (Some e)) = refl
deed_calls here result ends = refl

pub calls_are_of_the_core : CallsAreOfTheCore
calls_are_of_the_core result k = deed_calls k.here result k.deed
