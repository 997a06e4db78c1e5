-- The end of a body asks nothing, begins no local and has no paths.
use Rattle.std.proofs.Common.{◌≡◌, ◌∙◌, List, [], ◌∷◌, ◌++◌, length, if◌then◌else◌, refl, ap}
use Rattle.std.specs.Prelude.{filter}
use Rattle.tsa_base.specs.declared.token.Span.{Span}
use Rattle.tsa_tree.specs.points.Syntax.{ends}
use Rattle.tsa_tree.specs.statements.Syntax.{Statements}
use Rattle.tsa_tree.specs.types.Scopes.{Scope, further}
use Rattle.tsa_tree.specs.types.Targets.{declared_in_all}
use Rattle.tsa_core.specs.Programs.{Attr}
use Rattle.tsa_core_points.specs.CoreLaws.{known_of}
use Rattle.tsa_core_points.specs.Points.{PlacedPoint, placed, placed_all}
use Rattle.tsa_core_points.specs.Steps.{body_steps}
use Rattle.tsa_core_points.specs.Walks.{walk, walk_behind, points_along}
use Rattle.tsa_core_points.proofs.Passing.{body_steps_are_the_points}
use Rattle.tsa_profile_accesses.specs.Premises.{first}
use Rattle.tsa_profile_context.specs.Bodies.{Around, is_try_variable, point_premises, points_premises}
use Rattle.tsa_profile_context.specs.Ways.{each_once, function_paths, named_ways, points_ways, present, unless_many, ways_at}

module _ (a : Around) (here : Scope) (close : Span) where
  abbrev end : PlacedPoint
  end = placed here ends close

  premises_end : (points : List PlacedPoint) → points_premises a (points ++ end ∷ []) ≡ points_premises a points
  unfolding points_premises
  premises_end [] = refl
  premises_end (p ∷ rest) = ap (λ x. point_premises a p ++ x) (premises_end rest)

  ways_end : (points : List PlacedPoint) → points_ways a (points ++ end ∷ []) ≡ points_ways a points
  unfolding points_ways
  ways_end [] = refl
  ways_end (p ∷ rest) = ap (λ x. ways_at a.layout a.attributes a.stable (known_of p) ++ x) (ways_end rest)

  tries_end : (points : List PlacedPoint) → filter (is_try_variable a) (points ++ end ∷ []) ≡ filter (is_try_variable a) points
  tries_end [] = refl
  tries_end (p ∷ rest) = ap (λ xs. if is_try_variable a p then p ∷ xs else xs) (tries_end rest)

-- what is found along the steps of a body is what is found of its points
module _ (a : Around) (here : Scope) (body : Statements) (close : Span) where
  abbrev along : List PlacedPoint
  along = points_along (walk here []) (body_steps body close)

  along_is : along ≡ placed_all here body ++ placed (further (declared_in_all body) here) ends close ∷ []
  along_is = (body_steps_are_the_points here [] body close).0

  pub failure_along : first (points_premises a along) ≡ first (points_premises a (placed_all here body))
  failure_along =
      ap (λ ps. first (points_premises a ps)) along_is ∙ ap first (premises_end a (further (declared_in_all body) here) close (placed_all here body))

  pub tries_along : length (filter (is_try_variable a) along) ≡ length (filter (is_try_variable a) (placed_all here body))
  tries_along =
      ap (λ ps. length (filter (is_try_variable a) ps)) along_is ∙ ap length (tries_end a (further (declared_in_all body) here) close (placed_all here body))

  pub paths_along : (own : List Attr) → function_paths a own along ≡ function_paths a own (placed_all here body)
  paths_along own =
      ap (function_paths a own) along_is
      ∙ ap (λ ways. unless_many (each_once [] (present (named_ways own) ++ ways))) (ways_end a (further (declared_in_all body) here) close (placed_all here body))

  pub scope_behind : (walk_behind (walk here []) (body_steps body close)).here ≡ further (declared_in_all body) here
  scope_behind = ap (λ w. w.here) (body_steps_are_the_points here [] body close).1
