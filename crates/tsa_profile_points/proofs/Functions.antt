-- What is found of a whole body.
use Rattle.std.proofs.Common.{◌≡◌, ◌∙◌, ◌+◌, ℕ, arith, List, [], ◌++◌, length, filter, Option, Some, None, sym, ap}
use Rattle.std.proofs.lemmas.List.{append-nil}
use Rattle.tsa_place_model.specs.Ways.{Way}
use Rattle.tsa_core.specs.Programs.{Attr}
use Rattle.tsa_core_points.specs.Points.{PlacedPoint}
use Rattle.tsa_profile_accesses.specs.Premises.{first, or_else}
use Rattle.tsa_profile_points.specs.Bodies.{Around, is_try_variable, points_premises}
use Rattle.tsa_profile_points.specs.declared.judgement.Found.{Found}
use Rattle.tsa_profile_points.specs.Gathering.{with_all, with_ways}
use Rattle.tsa_profile_points.specs.Judging.{behind_points}
use Rattle.tsa_profile_points.specs.Ways.{function_paths, named_ways, points_ways, present}
use Rattle.tsa_profile_points.proofs.Gathers.{all_are, ways_append}
use Rattle.tsa_profile_points.proofs.Limits.{gathered_all}

none_before : (n : ℕ) → 0 + n ≡ n
none_before n = omega arith

module _ (a : Around) (own : List Attr) (points : List PlacedPoint) where
  pub failure_is : (start found : Found) → start.failure ≡ None → found ≡ behind_points a start points → found.failure ≡ first (points_premises a points)
  unfolding behind_points
  failure_is start found none is = ap (λ f. f.failure) is ∙ ap (λ f. or_else f (first (points_premises a points))) none

  pub tries_are : (start found : Found) → start.tries ≡ 0 → found ≡ behind_points a start points → found.tries ≡ length (filter (is_try_variable a) points)
  unfolding behind_points
  tries_are start found none is = ap (λ f. f.tries) is ∙ ap (λ n. n + length (filter (is_try_variable a) points)) none ∙ none_before (length (filter (is_try_variable a) points))

  pub paths_are : (start found : Found) → start.gathered ≡ with_all (Some []) (named_ways own) → found ≡ behind_points a start points
      → found.gathered ≡ function_paths a own points
  unfolding behind_points
  paths_are start found begun is =
      ap (λ f. f.gathered) is
      ∙ ap (λ s. with_ways s (points_ways a points)) (begun ∙ all_are (Some []) (named_ways own))
      ∙ sym (ways_append (Some []) (present (named_ways own)) (points_ways a points))
      ∙ gathered_all (present (named_ways own) ++ points_ways a points)

-- that of a function without points
pub alone_are : (own : List Attr) (gathered : Option (List Way)) → gathered ≡ with_all (Some []) (named_ways own) → (a : Around) → gathered ≡ function_paths a own []
unfolding points_ways
alone_are own gathered begun a =
    begun
    ∙ all_are (Some []) (named_ways own)
    ∙ ap (with_ways (Some [])) (sym (append-nil (present (named_ways own))))
    ∙ gathered_all (present (named_ways own) ++ [])
