-- The paths at the points of a body are those at the points of the core program, by the functions that are declared up to there.
use Rattle.std.proofs.Common.{◌≡◌, ◌∙◌, ℕ, Bool, List, [], ◌∷◌, ◌++◌, All, map, Option, Some, None, option_map, option_and_then, unwrap_or}
use Rattle.std.proofs.Common.{slice_get, refl, sym, ap, ap₂, subst}
use Rattle.std.proofs.lemmas.List.Elements.{All-head, All-tail}
use Rattle.std.specs.List.{flat_map}
use Rattle.tsa_base.specs.declared.token.Span.{Span}
use Rattle.tsa_tree.specs.declarations.Syntax.{Initialiser, value, list}
use Rattle.tsa_tree.specs.declared.kind.Kind.{Kind}
use Rattle.tsa_tree.specs.points.Syntax.{Deed, declares, evaluates, assigns, tests, switches, jumps, idles, returns, ends}
use Rattle.tsa_tree.specs.statements.Syntax.{Statements}
use Rattle.tsa_tree.specs.types.DeclaredTypes.{thing_type}
use Rattle.tsa_tree.specs.types.Scopes.{Scope, further}
use Rattle.tsa_tree.specs.types.Targets.{declared_in_all}
use Rattle.tsa_place_model.specs.Ways.{Way}
use Rattle.tsa_core.specs.Bodies.{Known, knows, Point, known_in_body, declared, point_of, body_of}
use Rattle.tsa_core.specs.Meanings.{Call}
use Rattle.tsa_core.specs.Programs.{Attr, Function, Program, Declared}
use Rattle.tsa_core.specs.Uses.{Uses, uses_of}
use Rattle.tsa_core.proofs.MappedLists.{map_at}
use Rattle.tsa_place_model.proofs.GlobalsInRow.{front_at}
use Rattle.tsa_core_points.specs.CoreLaws.{known_of}
use Rattle.tsa_core_points.specs.Points.{PlacedPoint, placed, placed_all}
use Rattle.tsa_core_points.proofs.PointsOfCore.{points_are_of_the_core, uses_are_of_the_core}
use Rattle.tsa_profile_accesses.specs.Expressions.{attributes_at}
use Rattle.tsa_profile_items.specs.ProfilePointsBodies.{Around}
use Rattle.tsa_profile_items.specs.Ways as deed
use Rattle.tsa_profile_items.specs.Ways.{init_value, function_called, called_at, substituted_ways, ways_at}
use Rattle.tsa_profile.specs.Paths.{called_in, called, point_ways, points_ways}
use Rattle.tsa_profile.proofs.FunctionScopes.{KnowsFunctions}
use Rattle.tsa_profile.proofs.KnownCalls.{Reaches, points_reach}

-- the function that is called at a point is that of the core program's call
abbrev pub number_called : Option Call → Option ℕ
number_called c = option_map (λ x. x.function) c

called_init : (here : Scope) (kind : Kind) (i : Option Initialiser) → option_and_then (function_called here) (init_value i) ≡ number_called (declared here kind i).call
called_init here kind None = refl
called_init here kind (Some (value e)) = refl
called_init here kind (Some (list items span)) = refl

pub called_same : (result : Kind) (here : Scope) (d : Deed) → called_at (knows here d) ≡ number_called (point_of result (knows here d)).call
called_same result here (declares d) = called_init here (thing_type here d.ctype).kind d.init
called_same result here (evaluates e) = refl
called_same result here (assigns left o right) = refl
called_same result here (tests None) = refl
called_same result here (tests (Some e)) = refl
called_same result here (switches e) = refl
called_same result here jumps = refl
called_same result here idles = refl
called_same result here (returns None) = refl
called_same result here (returns (Some e)) = refl
called_same result here ends = refl

-- A program whose first functions, in order, are those that are declared so far, with their attributes.
module _ (p : Program) (ds more : List Declared) (function : Declared → Function) (are : p.functions ≡ map function (ds ++ more)) where
  abbrev pub own_attrs : Declared → List Attr
  own_attrs d = (function d).attrs

  abbrev pub behind : List (List Attr)
  behind = map own_attrs ds

  pub attributes_of : (n : ℕ) (d : Declared) → slice_get ds n ≡ Some d → attributes_at behind n ≡ own_attrs d
  attributes_of n d at = ap (λ o. unwrap_or o []) (map_at own_attrs ds n ∙ ap (option_map own_attrs) at)

  pub function_at : (n : ℕ) (d : Declared) → slice_get ds n ≡ Some d → slice_get p.functions n ≡ Some (function d)
  function_at n d at = ap (λ fs. slice_get fs n) are ∙ map_at function (ds ++ more) n ∙ ap (option_map function) (front_at ds more n d at)

  pub called_ways_same : (ways : List (Option Way)) (c : Option Call) → Reaches ds c → deed.called_ways behind ways (number_called c) ≡ called p ways c
  called_ways_same ways None h = refl
  called_ways_same ways (Some c) h =
      ap (substituted_ways ways) (attributes_of c.function h.0 h.1) ∙ sym (ap (called_in ways) (function_at c.function h.0 h.1))

  pub point_ways_same : (stable : ℕ → Bool) (result : Kind) (k : Known) → Reaches ds (point_of result k).call
      → ways_at p.layout behind stable k ≡ point_ways p (uses_of p.layout stable k) (point_of result k)
  point_ways_same stable result k h =
      let u = uses_of p.layout stable k in
      ap (λ c. deed.used_ways behind u c) (called_same result k.here k.deed)
      ∙ ap (λ ws. deed.present (flat_map (λ x. x.guards) (u.left ++ u.right)) ++ deed.present ws) (called_ways_same u.arguments (point_of result k).call h)

  module _ (a : Around) (result : Kind) (same_layout : a.layout ≡ p.layout) (same_attributes : a.attributes ≡ behind) where
    abbrev uses_at : PlacedPoint → Uses
    uses_at q = uses_of p.layout a.stable (known_of q)

    abbrev core_at : PlacedPoint → Point
    core_at q = point_of result (known_of q)

    -- at the end of a body nothing is used
    points_same : (here : Scope) (close : Span) (qs : List PlacedPoint) → All (λ x. Reaches ds x.call) (map core_at (qs ++ placed here ends close ∷ []))
        → points_ways p (map uses_at (qs ++ placed here ends close ∷ [])) (map core_at (qs ++ placed here ends close ∷ [])) ≡ deed.points_ways a qs
    unfolding deed.points_ways
    points_same here close [] h = refl
    points_same here close (q ∷ rest) h =
        let tail = map core_at (rest ++ placed here ends close ∷ []) in
        ap₂ (λ x y. x ++ y)
        (sym (ap₂ (λ l known. ways_at l known a.stable (known_of q)) same_layout same_attributes
        ∙ point_ways_same a.stable result (known_of q) (All-head (λ x. Reaches ds x.call) (core_at q) tail h)))
        (points_same here close rest (All-tail (λ x. Reaches ds x.call) (core_at q) tail h))

    pub body_ways : (here : Scope) (body : Statements) (close : Span) → KnowsFunctions ds here
        → points_ways p (map (uses_of p.layout a.stable) (known_in_body here body)) (body_of here result body).points ≡ deed.points_ways a (placed_all here body)
    body_ways here body close h =
        let points = points_are_of_the_core here result body close in
        let uses = uses_are_of_the_core p.layout a.stable here body close in
        ap₂ (points_ways p) (sym uses) (sym points)
        ∙ points_same (further (declared_in_all body) here) close (placed_all here body) (subst (All (λ x. Reaches ds x.call)) (sym points) (points_reach ds here result body h))
