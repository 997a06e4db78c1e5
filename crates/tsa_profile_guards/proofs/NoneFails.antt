-- Where no premise of the profile fails, each holds.
use Rattle.std.proofs.Common.{◌≡◌, Bool, true, false, List, [], ◌∷◌, ◌++◌, Option, Some, None, refl}
use Rattle.tsa_base.specs.declared.token.Span.{Span}
use Rattle.tsa_profile_accesses.specs.declared.premise.Failure.{Failure}
use Rattle.tsa_profile_accesses.specs.declared.premise.ProfileCode.{ProfileCode}
use Rattle.tsa_profile_accesses.specs.Premises.{Premise, premise, or_else, failure_of, first}

pub neither_fails : (a b : Option Failure) → or_else a b ≡ None → (a ≡ None) × (b ≡ None)
neither_fails (Some f) b h = absurd cc
neither_fails None b h = (refl, h)

none_again : (a b : Option Failure) → a ≡ None → b ≡ None → or_else a b ≡ None
none_again (Some f) b e h = absurd cc
none_again None b e h = h

pub none_of_both : (xs ys : List Premise) → first (xs ++ ys) ≡ None → (first xs ≡ None) × (first ys ≡ None)
unfolding first
none_of_both [] ys h = (refl, h)
none_of_both (p ∷ xs) ys h =
    let one = neither_fails (failure_of p) (first (xs ++ ys)) h in
    let two = none_of_both xs ys one.1 in
    (none_again (failure_of p) (first xs) one.0 two.0, two.1)

pub none_of_two : (xs ys : List Premise) → first xs ≡ None → first ys ≡ None → first (xs ++ ys) ≡ None
unfolding first
none_of_two [] ys e h = h
none_of_two (p ∷ xs) ys e h =
    let one = neither_fails (failure_of p) (first xs) e in
    none_again (failure_of p) (first (xs ++ ys)) one.0 (none_of_two xs ys one.1 h)

holds_by : (code : ProfileCode) (span : Span) (fails : Bool) → failure_of (premise code span fails) ≡ None → fails ≡ false
holds_by code span true h = absurd cc
holds_by code span false h = refl

pub none_of_first : (code : ProfileCode) (span : Span) (fails : Bool) (rest : List Premise) → first (premise code span fails ∷ rest) ≡ None → (fails ≡ false) × (first rest ≡ None)
unfolding first
none_of_first code span fails rest h = let x = neither_fails (failure_of (premise code span fails)) (first rest) h in (holds_by code span fails x.0, x.1)
