-- What is found of some points and then of others is what is found of all.
use Rattle.std.proofs.Common.{◌≡◌, ◌∙◌, ℕ, ◌+◌, ◌≤◌, suc, arith, cond, Bool, true, false, List, [], ◌∷◌, ◌++◌, drop, length, filter, map, Option}
use Rattle.std.proofs.Common.{refl, sym, ap, subst, if◌then◌else◌}
use Rattle.std.proofs.lemmas.List.{append_assoc, length-append}
use Rattle.std.proofs.lemmas.List.Elements.{filter-append}
use Rattle.tsa_tree.specs.types.Scopes.{Scope}
use Rattle.tsa_place_model.specs.Ways.{Way}
use Rattle.tsa_core_points.specs.CoreLaws.{known_of}
use Rattle.tsa_core_points.specs.Points.{PlacedPoint, placed}
use Rattle.tsa_core_points.specs.Steps.{BodyStep, does, opens, closes, step_shape}
use Rattle.tsa_core_points.specs.declared.steps.Step.{Step}
use Rattle.tsa_core_points.specs.Walks.{Walk, pass, points_along, points_at, walk_behind}
use Rattle.tsa_profile_accesses.specs.declared.premise.Failure.{Failure}
use Rattle.tsa_profile_accesses.specs.Premises.{first, or_else}
use Rattle.tsa_profile_declarations.proofs.Failures.{first_append, or_else_none, or_else_or_else}
use Rattle.tsa_profile_points.specs.Bodies.{Around, is_try_variable, point_premises, points_premises}
use Rattle.tsa_profile_points.specs.declared.judgement.Found.{Found}
use Rattle.tsa_profile_points.specs.Gathering.{with_ways}
use Rattle.tsa_profile_points.specs.Judging.{behind_points}
use Rattle.tsa_profile_points.specs.Ways.{points_ways, ways_at}
use Rattle.tsa_profile_points.proofs.Gathers.{ways_append}

module _ (a : Around) where
  premises_append : (xs ys : List PlacedPoint) → points_premises a (xs ++ ys) ≡ points_premises a xs ++ points_premises a ys
  unfolding points_premises
  premises_append [] ys = refl
  premises_append (p ∷ xs) ys =
      ap (λ rest. point_premises a p ++ rest) (premises_append xs ys) ∙ sym (append_assoc (point_premises a p) (points_premises a xs) (points_premises a ys))

  ways_append_points : (xs ys : List PlacedPoint) → points_ways a (xs ++ ys) ≡ points_ways a xs ++ points_ways a ys
  unfolding points_ways
  ways_append_points [] ys = refl
  ways_append_points (p ∷ xs) ys =
      ap (λ rest. ways_at a.layout a.attributes a.stable (known_of p) ++ rest) (ways_append_points xs ys)
      ∙ sym (append_assoc (ways_at a.layout a.attributes a.stable (known_of p)) (points_ways a xs) (points_ways a ys))

  failures : (f : Option Failure) (xs ys : List PlacedPoint)
      → or_else f (first (points_premises a (xs ++ ys))) ≡ or_else (or_else f (first (points_premises a xs))) (first (points_premises a ys))
  failures f xs ys =
      ap (λ ps. or_else f (first ps)) (premises_append xs ys)
      ∙ ap (or_else f) (first_append (points_premises a xs) (points_premises a ys))
      ∙ sym (or_else_or_else f (first (points_premises a xs)) (first (points_premises a ys)))

  counts : (n : ℕ) (xs ys : List PlacedPoint)
      → n + length (filter (is_try_variable a) (xs ++ ys)) ≡ n + length (filter (is_try_variable a) xs) + length (filter (is_try_variable a) ys)
  counts n xs ys =
      let e = ap length (filter-append (is_try_variable a) xs ys) ∙ length-append (filter (is_try_variable a) xs) (filter (is_try_variable a) ys) in
      omega (arith, e)

  gathers : (s : Option (List Way)) (xs ys : List PlacedPoint)
      → with_ways s (points_ways a (xs ++ ys)) ≡ with_ways (with_ways s (points_ways a xs)) (points_ways a ys)
  gathers s xs ys = ap (with_ways s) (ways_append_points xs ys) ∙ ways_append s (points_ways a xs) (points_ways a ys)

  pub behind_more : (found : Found) (xs ys : List PlacedPoint) → behind_points a found (xs ++ ys) ≡ behind_points a (behind_points a found xs) ys
  unfolding behind_points
  behind_more found xs ys i = record {
    failure = failures found.failure xs ys i;
    tries = counts found.tries xs ys i;
    gathered = gathers found.gathered xs ys i;
  }

  pub behind_none : (found : Found) → behind_points a found [] ≡ found
  unfolding behind_points points_premises points_ways first with_ways
  behind_none found i = record { failure = or_else_none found.failure i; tries = plus_none found.tries i; gathered = found.gathered }
    where
      plus_none : (n : ℕ) → n + 0 ≡ n
      plus_none n = omega arith

  one_counts : (p : PlacedPoint) (b : Bool) → is_try_variable a p ≡ b → length (filter (is_try_variable a) (p ∷ [])) ≡ (if b then 1 else 0)
  one_counts p true e = ap (λ b. length (cond b (p ∷ []) [])) e
  one_counts p false e = ap (λ b. length (cond b (p ∷ []) [])) e

  -- one point more
  pub behind_one : (old new : Found) (p : PlacedPoint) (failure : Option Failure) → failure ≡ first (points_premises a (p ∷ []))
      → new.gathered ≡ with_ways old.gathered (points_ways a (p ∷ [])) → new.failure ≡ or_else old.failure failure
      → new.tries ≡ old.tries + (if is_try_variable a p then 1 else 0) → new ≡ behind_points a old (p ∷ [])
  unfolding behind_points
  behind_one old new p failure told gathered fails tries i = record {
    failure = (fails ∙ ap (or_else old.failure) told) i;
    tries = (tries ∙ ap (λ n. old.tries + n) (sym (one_counts p (is_try_variable a p) refl))) i;
    gathered = gathered i;
  }

  -- a step begins one try at most
  one_or_none : (b : Bool) → (if b then 1 else 0) ≤ 1
  one_or_none true = omega arith
  one_or_none false = omega arith

  one_at_most : (here : Scope) (step : BodyStep) → length (filter (is_try_variable a) (points_at here step)) ≤ 1
  one_at_most here (does deed span) =
      let p = placed here deed span in subst (λ n. n ≤ 1) (sym (one_counts p (is_try_variable a p) refl)) (one_or_none (is_try_variable a p))
  one_at_most here opens = omega arith
  one_at_most here closes = omega arith

  pub one_more_at_most : (found new : Found) (here : Scope) (step : BodyStep) → new ≡ behind_points a found (points_at here step) → new.tries ≤ found.tries + 1
  unfolding behind_points
  one_more_at_most found new here step is =
      let tries : new.tries ≡ found.tries + length (filter (is_try_variable a) (points_at here step)) = ap (λ f. f.tries) is in
      let one = one_at_most here step in
      omega (arith, tries, one)

  -- one step more
  pub behind_step : (found new : Found) (w after : Walk) (step : BodyStep) (rest : List BodyStep) → new ≡ behind_points a found (points_at w.here step)
      → after ≡ pass w step → behind_points a new (points_along after rest) ≡ behind_points a found (points_along w (step ∷ rest))
  behind_step found new w after step rest is on =
      ap (λ f. behind_points a f (points_along after rest)) is
      ∙ ap (λ x. behind_points a (behind_points a found (points_at w.here step)) (points_along x rest)) on
      ∙ sym (behind_more found (points_at w.here step) (points_along (pass w step) rest))

  -- the steps from one on
  module _ (steps : List Step) (i : ℕ) (found : Found) (w : Walk) where
    abbrev found_from : Found → Walk → ℕ → Found
    found_from f v j = behind_points a f (points_along v (map step_shape (drop j steps)))

    pub steps_end : drop i steps ≡ [] → found_from found w i ≡ found
    steps_end e = ap (λ xs. behind_points a found (points_along w (map step_shape xs))) e ∙ behind_none found

    module _ (x : Step) (at_i : drop i steps ≡ x ∷ drop (suc i) steps) (new : Found) (after : Walk) (on : after ≡ pass w (step_shape x)) where
      plus_one : suc i ≡ i + 1
      plus_one = omega arith

      pub steps_next : new ≡ behind_points a found (points_at w.here (step_shape x)) → found_from new after (i + 1) ≡ found_from found w i
      steps_next is =
          ap (found_from new after) (sym plus_one)
          ∙ behind_step found new w after (step_shape x) (map step_shape (drop (suc i) steps)) is on
          ∙ sym (ap (λ xs. behind_points a found (points_along w (map step_shape xs))) at_i)

      pub walk_next : walk_behind after (map step_shape (drop (i + 1) steps)) ≡ walk_behind w (map step_shape (drop i steps))
      walk_next =
          ap (λ j. walk_behind after (map step_shape (drop j steps))) (sym plus_one)
          ∙ ap (λ v. walk_behind v (map step_shape (drop (suc i) steps))) on
          ∙ sym (ap (λ xs. walk_behind w (map step_shape xs)) at_i)
