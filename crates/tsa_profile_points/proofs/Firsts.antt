-- The first premise that fails, and accesses that are added.
use Rattle.std.proofs.Common.{◌≡◌, List, [], ◌∷◌, None, refl, ap}
use Rattle.std.proofs.lemmas.List.{append_assoc, append-nil}
use Rattle.tsa_core_points.specs.Points.{PlacedPoint}
use Rattle.tsa_profile_accesses.specs.Premises.{Premise, failure_of, first, or_else}
use Rattle.tsa_profile_declarations.proofs.Failures.{first_append}
use Rattle.tsa_profile_points.specs.Bodies.{Around, point_premises, points_premises}

pub first_none : first [] ≡ None
unfolding first
first_none = refl

pub first_more : (p : Premise) (rest : List Premise) → first (p ∷ rest) ≡ or_else (failure_of p) (first rest)
unfolding first
first_more p rest = refl

pub point_fails : (a : Around) (p : PlacedPoint) → first (points_premises a (p ∷ [])) ≡ first (point_premises a p)
unfolding points_premises
point_fails a p = ap first (append-nil (point_premises a p))

pub ruleset firsts = (first_none, first_more, first_append, append_assoc, append-nil)
