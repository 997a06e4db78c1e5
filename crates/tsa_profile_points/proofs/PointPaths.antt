-- What is used and called at a point gives the point's paths.
use Rattle.std.proofs.Common.{◌≡◌, ◌∙◌, List, [], ◌∷◌, ◌++◌, Option, Some, None, map, option_and_then, refl, sym, ap}
use Rattle.std.specs.List.{flat_map}
use Rattle.std.proofs.lemmas.List.{append-nil, map-append}
use Rattle.std.proofs.lemmas.List.Folds.{flat_map-map}
use Rattle.tsa_base.specs.declared.token.Span.{Span}
use Rattle.tsa_tree.specs.declarations.Syntax.{Initialiser, value, list}
use Rattle.tsa_tree.specs.points.Syntax.{Deed, declares, evaluates, assigns, tests, switches, jumps, idles, returns, ends}
use Rattle.tsa_tree.specs.types.Scopes.{Scope}
use Rattle.tsa_place_model.specs.Ways.{Way}
use Rattle.tsa_core.specs.Uses.{init_uses, uses_by}
use Rattle.tsa_core.specs.Uses as core
use Rattle.tsa_core_points.specs.Points.{placed}
use Rattle.tsa_profile_declarations.specs.Accesses.{reads, without_span, written}
use Rattle.tsa_profile_declarations.proofs.Spans.{reads_are_those, writes_are_those}
use Rattle.tsa_profile_points.specs.Bodies.{Around}
use Rattle.tsa_profile_points.specs.Gathering.{calls_ways, with_all, with_guards, with_ways}
use Rattle.tsa_profile_points.specs.PointAnswers.{deed_accesses, init_accesses}
use Rattle.tsa_profile_points.specs.Ways.{called_ways, calling, function_called, init_value, points_ways, present}
use Rattle.tsa_profile_points.proofs.Gathers.{all_are, guards_are, ways_append}

module _ (a : Around) (here : Scope) where
  init_used : (init : Option Initialiser) → map without_span (init_accesses a here init) ≡ (init_uses a.layout a.stable here init).left ++ (init_uses a.layout a.stable here init).right
  init_used None = refl
  init_used (Some (value e)) = reads_are_those a.layout a.stable here e
  init_used (Some (list items span)) = refl

  -- the accesses of a point are those of the core program
  used : (deed : Deed) → map without_span (deed_accesses a here deed) ≡ (uses_by a.layout a.stable here deed).left ++ (uses_by a.layout a.stable here deed).right
  used (declares d) = init_used d.init
  used (evaluates e) = reads_are_those a.layout a.stable here e
  used (assigns left o right) =
      map-append without_span (written a.layout a.stable here o left) (reads a.layout a.stable here right)
      ∙ ap (λ first. first ++ map without_span (reads a.layout a.stable here right)) (writes_are_those a.layout a.stable here o left)
      ∙ ap (λ rest. core.written a.layout a.stable here o left ++ rest) (reads_are_those a.layout a.stable here right)
  used (tests None) = refl
  used (tests (Some e)) = reads_are_those a.layout a.stable here e
  used (switches e) = reads_are_those a.layout a.stable here e
  used jumps = refl
  used idles = refl
  used (returns None) = refl
  used (returns (Some e)) = reads_are_those a.layout a.stable here e
  used ends = refl

  init_calls : (init : Option Initialiser)
      → calls_ways a here (init_value init) ≡ called_ways a.attributes (init_uses a.layout a.stable here init).arguments (option_and_then (function_called here) (init_value init))
  init_calls None = refl
  init_calls (Some (value e)) = refl
  init_calls (Some (list items span)) = refl

  -- and so are the arguments of its call
  calls : (deed : Deed)
      → calls_ways a here (calling deed) ≡ called_ways a.attributes (uses_by a.layout a.stable here deed).arguments (option_and_then (function_called here) (calling deed))
  calls (declares d) = init_calls d.init
  calls (evaluates e) = refl
  calls (assigns left o right) = refl
  calls (tests None) = refl
  calls (tests (Some e)) = refl
  calls (switches e) = refl
  calls jumps = refl
  calls idles = refl
  calls (returns None) = refl
  calls (returns (Some e)) = refl
  calls ends = refl

  guards_used : (deed : Deed) → flat_map (λ x. x.guards) (deed_accesses a here deed)
      ≡ flat_map (λ x. x.guards) ((uses_by a.layout a.stable here deed).left ++ (uses_by a.layout a.stable here deed).right)
  guards_used deed = sym (flat_map-map (λ x. x.guards) without_span (deed_accesses a here deed)) ∙ ap (flat_map (λ x. x.guards)) (used deed)

  -- a point's paths are gathered
  pub point_gathers : (s : Option (List Way)) (deed : Deed) (span : Span)
      → with_all (with_guards s (deed_accesses a here deed)) (calls_ways a here (calling deed)) ≡ with_ways s (points_ways a (placed here deed span ∷ []))
  unfolding points_ways
  point_gathers s deed span =
      let u = uses_by a.layout a.stable here deed in
      let guards = present (flat_map (λ x. x.guards) (u.left ++ u.right)) in
      let locks = present (called_ways a.attributes u.arguments (option_and_then (function_called here) (calling deed))) in
      all_are (with_guards s (deed_accesses a here deed)) (calls_ways a here (calling deed))
      ∙ ap (λ t. with_ways t (present (calls_ways a here (calling deed)))) (guards_are s (deed_accesses a here deed))
      ∙ ap (λ ws. with_ways (with_ways s (present ws)) (present (calls_ways a here (calling deed)))) (guards_used deed)
      ∙ ap (λ ws. with_ways (with_ways s guards) (present ws)) (calls deed)
      ∙ sym (ways_append s guards locks)
      ∙ ap (with_ways s) (sym (append-nil (guards ++ locks)))
