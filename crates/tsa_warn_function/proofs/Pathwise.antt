-- What is noted at a point, path by path, and of the points of a function.
use Rattle.std.proofs.Common.{◌≡◌, ◌∙◌, ℕ, ◌+◌, ◌<◌, ◌⊎◌, inl, inr, List, ◌++◌, [], ◌∷◌, length, Some, slice_get, refl, sym, ap, subst}
use Rattle.std.proofs.Common.{arith}
use Rattle.std.proofs.Math.Decide.{ℕ_discrete}
use Rattle.std.proofs.lemmas.Option.{slice_get_within}
use Rattle.tsa_place_model.specs.Ways.{Way}
use Rattle.tsa_core.specs.Programs.{Function, Program}
use Rattle.tsa_rules.specs.declared.rule.Rule.TheVariants.{TS09, TS10}
use Rattle.tsa_rules.specs.Points.{points_of}
use Rattle.tsa_rules.specs.Walks.{course_of}
use Rattle.tsa_flow_solver.specs.Disagreeing.{Disagree}
use Rattle.tsa_warn_function.specs.declared.failure.RuleFailure.{RuleFailure}
use Rattle.tsa_warn_function.specs.declared.spot.Spot.{Spot}
use Rattle.tsa_warn_function.specs.Adding.{Adds}
use Rattle.tsa_warn_function.specs.Passes.{IsOfEdges, IsOfPoint, IsOfPoints, IsOfReturns}
use Rattle.tsa_warn_function.specs.Spots.{FailsOnWalks, IsNoted}
use Rattle.tsa_warn_function.proofs.ListGrowth.{and_then, as_others, none_more, one_more}
use Rattle.tsa_warn_function.proofs.Notes.{same_failure}
use Rattle.tsa_flow_solver.proofs.Slots.{one_there}

-- What is of the first paths, of one path, and of all.
abbrev pub UpTo : (RuleFailure → Type 0) → (number : ℕ) → RuleFailure → Type 0
UpTo P number x = (x.cap < number) × P x

abbrev pub OfOne : (RuleFailure → Type 0) → (number : ℕ) → RuleFailure → Type 0
OfOne P number x = (x.cap ≡ number) × P x

module _ (P : RuleFailure → Type 0) where
  pub none_yet : (xs : List RuleFailure) → Adds (UpTo P 0) xs xs
  none_yet xs = none_more (UpTo P 0) xs (λ x h. omega (arith, h.0))

  module _ (number : ℕ) where
    apart : (x : RuleFailure) → UpTo P number x → OfOne P number x → ⊥
    apart x h g = omega (arith, h.0, g.0)

    split : (x : RuleFailure) → UpTo P (number + 1) x → UpTo P number x ⊎ OfOne P number x
    split x h = elim (ℕ_discrete x.cap number) [ yes same ↦ inr (same, h.1) | no other ↦ inl (omega (arith, other, h.0), h.1) ]

    left : (x : RuleFailure) → UpTo P number x → UpTo P (number + 1) x
    left x h = (omega (arith, h.0), h.1)

    right : (x : RuleFailure) → OfOne P number x → UpTo P (number + 1) x
    right x h = (omega (arith, h.0), h.1)

    pub path_more : (old mid new : List RuleFailure) → Adds (UpTo P number) old mid → Adds (OfOne P number) mid new → Adds (UpTo P (number + 1)) old new
    path_more old mid new = and_then (UpTo P number) (OfOne P number) (UpTo P (number + 1)) old mid new apart split left right

  pub all_paths : (number : ℕ) → ((x : RuleFailure) → P x → x.cap < number) → (old new : List RuleFailure) → Adds (UpTo P number) old new → Adds P old new
  all_paths number inside old new = as_others (UpTo P number) P old new (λ x h. h.1) (λ x h. (inside x h, h))

module _ (u : Program) (f : Function) (paths : List Way) (point : ℕ) where
  pub return_there : (x : RuleFailure) → IsOfReturns u f paths point x → x.cap < length paths
  return_there x h = slice_get_within paths x.cap h.1.1.path h.1.1.is_there

  pub edges_there : (x : RuleFailure) → IsOfEdges u f paths point x → x.cap < length paths
  edges_there x h = slice_get_within paths x.cap h.1.path h.1.is_there

  module _ (within : point < length (points_of f)) (c : Way) (number : ℕ) (there : slice_get paths number ≡ Some c) where
    -- what is noted of returns at a spot is that of the path
    pub one_return : (spot : Spot) → spot.point ≡ point → spot.cap ≡ number → (old new : List RuleFailure) → Adds (IsNoted u f c spot TS09) old new
        → Adds (OfOne (IsOfReturns u f paths point) number) old new
    one_return spot at numbered old new = as_others (IsNoted u f c spot TS09) (OfOne (IsOfReturns u f paths point) number) old new told all
      where
        told : (x : RuleFailure) → IsNoted u f c spot TS09 x → OfOne (IsOfReturns u f paths point) number x
        told x h =
            let is_point : x.point ≡ spot.point = ap (λ (y : RuleFailure). y.point) h.0 in
            let is_rule : x.rule ≡ TS09 = ap (λ (y : RuleFailure). y.rule) h.0 in
            let is_cap : x.cap ≡ number = ap (λ (y : RuleFailure). y.cap) h.0 ∙ numbered in (
              is_cap,
              (
                is_point ∙ at,
                (
                  is_rule,
                  record {
                    within = subst (λ p. p < length (points_of f)) (sym (is_point ∙ at)) within;
                    path = c;
                    is_there = ap (slice_get paths) is_cap ∙ there;
                    breaks = subst (λ r. FailsOnWalks u f x.point c r) (sym is_rule) (subst (λ p. FailsOnWalks u f p c TS09) (sym is_point) h.1);
                  },
                ),
              ),
            )

        all : (x : RuleFailure) → OfOne (IsOfReturns u f paths point) number x → IsNoted u f c spot TS09 x
        all x (is_cap, (is_point, (is_rule, h))) =
            let same : h.path ≡ c = one_there paths number h.path c (ap (slice_get paths) (sym is_cap) ∙ h.is_there) there in (
              same_failure x spot.point spot.cap TS09 (is_point ∙ sym at) is_rule (is_cap ∙ sym numbered),
              subst (λ r. FailsOnWalks u f spot.point c r) is_rule (subst (λ p. FailsOnWalks u f p c x.rule) (is_point ∙ sym at) (subst (λ w. FailsOnWalks u f x.point w x.rule) same h.breaks)),
            )

    -- edges that disagree on the path, or agree
    pub one_edges : Disagree (course_of u f c) point → (old : List RuleFailure) → Adds (OfOne (IsOfEdges u f paths point) number) old (old ++ record { point = point; rule = TS10; cap = number } ∷ [])
    one_edges disagree old = one_more (OfOne (IsOfEdges u f paths point) number) old (record { point = point; rule = TS10; cap = number })
        (refl, (refl, record { within = within; path = c; is_there = there; rule = refl; disagree = disagree }))
        (λ x h. same_failure x point number TS10 h.1.0 h.1.1.rule h.0)

    pub no_edges : (Disagree (course_of u f c) point → ⊥) → (old : List RuleFailure) → Adds (OfOne (IsOfEdges u f paths point) number) old old
    no_edges agree old = none_more (OfOne (IsOfEdges u f paths point) number) old none
      where
        none : (x : RuleFailure) → OfOne (IsOfEdges u f paths point) number x → ⊥
        none x (is_cap, (is_point, h)) =
            let same : h.path ≡ c = one_there paths number h.path c (ap (slice_get paths) (sym is_cap) ∙ h.is_there) there in
            agree (subst (λ p. Disagree (course_of u f c) p) is_point (subst (λ w. Disagree (course_of u f w) x.point) same h.disagree))

  -- a point that is no return, and one at which all edges agree
  pub no_return : ((x : RuleFailure) → IsOfReturns u f paths point x → ⊥) → (old : List RuleFailure) → Adds (IsOfReturns u f paths point) old old
  no_return none old = none_more (IsOfReturns u f paths point) old none

  pub no_meeting : ((c : Way) (number : ℕ) → slice_get paths number ≡ Some c → Disagree (course_of u f c) point → ⊥) → (old : List RuleFailure) → Adds (IsOfEdges u f paths point) old old
  no_meeting agree old = none_more (IsOfEdges u f paths point) old (λ x h. agree h.1.path x.cap h.1.is_there (subst (λ p. Disagree (course_of u f h.1.path) p) h.0 h.1.disagree))

  -- both of a point
  return_apart : (x : RuleFailure) → IsOfReturns u f paths point x → IsOfEdges u f paths point x → ⊥
  return_apart x h g = let e : TS09 ≡ TS10 = sym h.1.0 ∙ g.1.rule in cc

  pub both_of_point : (old mid new : List RuleFailure) → Adds (IsOfReturns u f paths point) old mid → Adds (IsOfEdges u f paths point) mid new → Adds (IsOfPoint u f paths point) old new
  both_of_point old mid new = and_then (IsOfReturns u f paths point) (IsOfEdges u f paths point) (IsOfPoint u f paths point) old mid new return_apart (λ x h. h) (λ x h. inl h) (λ x h. inr h)

-- What is of the first points.
abbrev pub Before : Program → Function → List Way → (count : ℕ) → RuleFailure → Type 0
Before u f paths count x = (x.point < count) × IsOfPoints u f paths x

module _ (u : Program) (f : Function) (paths : List Way) where
  pub no_points : (xs : List RuleFailure) → Adds (Before u f paths 0) xs xs
  no_points xs = none_more (Before u f paths 0) xs (λ x h. omega (arith, h.0))

  module _ (point : ℕ) where
    at_point : (x : RuleFailure) → IsOfPoint u f paths point x → (x.point ≡ point) × IsOfPoints u f paths x
    at_point x h = elim h [ inl r ↦ (r.0, inl r.1) | inr e ↦ (e.0, inr e.1) ]

    to_point : (x : RuleFailure) → x.point ≡ point → IsOfPoints u f paths x → IsOfPoint u f paths point x
    to_point x same h = elim h [ inl r ↦ inl (same, r) | inr e ↦ inr (same, e) ]

    apart_point : (x : RuleFailure) → Before u f paths point x → IsOfPoint u f paths point x → ⊥
    apart_point x h g = omega (arith, h.0, (at_point x g).0)

    split_point : (x : RuleFailure) → Before u f paths (point + 1) x → Before u f paths point x ⊎ IsOfPoint u f paths point x
    split_point x h = elim (ℕ_discrete x.point point) [ yes same ↦ inr (to_point x same h.1) | no other ↦ inl (omega (arith, other, h.0), h.1) ]

    left_point : (x : RuleFailure) → Before u f paths point x → Before u f paths (point + 1) x
    left_point x h = (omega (arith, h.0), h.1)

    right_point : (x : RuleFailure) → IsOfPoint u f paths point x → Before u f paths (point + 1) x
    right_point x h = let y = at_point x h in (omega (arith, y.0), y.1)

    pub point_more : (old mid new : List RuleFailure) → Adds (Before u f paths point) old mid → Adds (IsOfPoint u f paths point) mid new → Adds (Before u f paths (point + 1)) old new
    point_more old mid new = and_then (Before u f paths point) (IsOfPoint u f paths point) (Before u f paths (point + 1)) old mid new apart_point split_point left_point right_point

  point_there : (x : RuleFailure) → IsOfPoints u f paths x → x.point < length (points_of f)
  point_there x h = elim h [ inl r ↦ r.1.within | inr e ↦ e.within ]

  pub all_points : (old new : List RuleFailure) → Adds (Before u f paths (length (points_of f))) old new → Adds (IsOfPoints u f paths) old new
  all_points old new = as_others (Before u f paths (length (points_of f))) (IsOfPoints u f paths) old new (λ x h. h.1) (λ x h. (point_there x h, h))
