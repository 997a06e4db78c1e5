-- The members of a set are the statuses that it has.
use Rattle.std.proofs.Common.{◌≡◌, ◌∙◌, ℕ, zero, suc, ◌+◌, ◌<◌, ◌≤◌, ◌⊎◌, inl, inr, nat_eq, eqb-true, Bool, true, false, cond, List, []}
use Rattle.std.proofs.Common.{◌∷◌, ◌++◌, map, length, get_or, All, AllPairs, Contains, refl, sym, ap, subst, arith}
use Rattle.std.specs.List.{range_with_len}
use Rattle.std.proofs.Math.Decide.{ℕ_discrete}
use Rattle.std.proofs.lemmas.List.Elements.{All-map, All-filter, All-contains, filter_passes, Contains-push, Contains-append_left}
use Rattle.std.proofs.lemmas.List.FromFn.{length-range_with_len, get_or-range_with_len, length-map-range_with_len}
use Rattle.std.proofs.lemmas.List.FromFn.{get_or-map-range_with_len, filter_of_map_range_with_len_more}
use Rattle.std.proofs.lemmas.List.Kept.{AllPairs-filter}
use Rattle.tsa_rules.specs.Sets.{Has, HasPlace}
use Rattle.tsa_rules.specs.Statuses.{number_of, status_of}
use Rattle.tsa_rules.specs.declared.status.Status.{Status}
use Rattle.tsa_rules.specs.declared.statuses.Statuses.{Statuses}
use Rattle.tsa_rules.proofs.Places.{status_of-number, number_of-status, place_at, number_fits}
use Rattle.tsa_warn_text.specs.HeldLines.{is_member, members_below, MembersAreWhatSetsHave, MembersAreInOrder}

-- the status alone where the set has it, and nothing where it has not
abbrev pub if_member : Statuses → Status → List Status
if_member set s = cond (is_member set s) (s ∷ []) []

-- the status of the next number is a member more where the set has it
pub member_more : (set : Statuses) (n : ℕ) → members_below set (n + 1) ≡ members_below set n ++ if_member set (status_of n)
unfolding members_below
member_more set n = filter_of_map_range_with_len_more (is_member set) status_of 0 n n (omega arith)

-- the test of a member
pub is_had : (set : Statuses) (s : Status) → Has set s → is_member set s ≡ true
is_had set s h = ap (λ b. nat_eq b 1) h.bit

pub has_it : (set : Statuses) (s : Status) → HasPlace s → is_member set s ≡ true → Has set s
has_it set s place e = record { place = place; bit = eqb-true _ 1 e }

-- and what isn't had is no member
pub is_not_had : (set : Statuses) (s : Status) → HasPlace s → (Has set s → ⊥) → is_member set s ≡ false
is_not_had set s place none = by (is_member set s) refl
  where
    by : (b : Bool) → is_member set s ≡ b → b ≡ false
    by true e = absurd (none (has_it set s place e))
    by false e = refl

-- each member has a place and passes the test
below : (n : ℕ) → All (λ k. k < n) (range_with_len 0 n)
below n = λ k d within. let e = get_or-range_with_len 0 n k d (omega (arith, length-range_with_len 0 n)) in omega (arith, length-range_with_len 0 n)

placed : (set : Statuses) (n : ℕ) → n ≤ 64 → All HasPlace (members_below set n)
unfolding members_below
placed set n h =
    All-filter (is_member set) HasPlace (map status_of (range_with_len 0 n)) (All-map HasPlace status_of (range_with_len 0 n) at)
  where
    at : (k : ℕ) (d : ℕ) → k < length (range_with_len 0 n) → HasPlace (status_of (get_or (range_with_len 0 n) k d))
    at k d within = let fits = below n k d within in place_at (get_or (range_with_len 0 n) k d) (omega arith)

passed : (set : Statuses) (n : ℕ) → All (λ s. is_member set s ≡ true) (members_below set n)
unfolding members_below
passed set n = filter_passes (is_member set) (map status_of (range_with_len 0 n))

had : (set : Statuses) (n : ℕ) (s : Status) → n ≤ 64 → Contains (members_below set n) s → Has set s
had set n s h c =
    let place = All-contains HasPlace (members_below set n) s (placed set n h) c in
    has_it set s place (All-contains (λ t. is_member set t ≡ true) (members_below set n) s (passed set n) c)

-- what a set has is a member below each limit above its number
next_among : (set : Statuses) (s : Status) → Has set s → (n : ℕ) → (number_of s ≡ n) ⊎ Contains (members_below set n) s
    → Contains (members_below set n ++ if_member set (status_of n)) s
next_among set s h n (inl e) =
    let is : status_of n ≡ s = ap status_of (sym e) ∙ status_of-number s h.place in
    subst (λ t. Contains (members_below set n ++ if_member set t) s) (sym is)
    (subst (λ b. Contains (members_below set n ++ cond b (s ∷ []) []) s) (sym (is_had set s h)) (Contains-push (members_below set n) s))
next_among set s h n (inr c) = Contains-append_left (members_below set n) (if_member set (status_of n)) s c

among : (set : Statuses) (s : Status) → Has set s → (n : ℕ) → number_of s < n → Contains (members_below set n) s
among set s h zero l = absurd (omega arith)
among set s h (suc n) l =
    let next : n + 1 ≡ suc n = omega arith in
    let here : (number_of s ≡ n) ⊎ Contains (members_below set n) s =
    elim (ℕ_discrete (number_of s) n) [ yes e ↦ inl e | no other ↦ inr (among set s h n (omega arith)) ]
    in
    subst (λ k. Contains (members_below set k) s) next (subst (λ xs. Contains xs s) (sym (member_more set n)) (next_among set s h n here))

pub members_are_what_sets_have : MembersAreWhatSetsHave
members_are_what_sets_have set s = (had set 64 s (omega arith), λ h. among set s h 64 (number_fits s h.place))

-- the statuses of numbers in a row are in order
in_order : (n : ℕ) → AllPairs (λ s t. number_of s < number_of t) (map status_of (range_with_len 0 n))
in_order n = λ i j d before within.
    let long = length-map-range_with_len status_of 0 n in
    let first = ap number_of (get_or-map-range_with_len status_of 0 n i i d (omega arith) (omega arith)) ∙ number_of-status i in
    let second = ap number_of (get_or-map-range_with_len status_of 0 n j j d (omega arith) (omega arith)) ∙ number_of-status j in
    omega arith

below_in_order : (set : Statuses) (n : ℕ) → AllPairs (λ s t. number_of s < number_of t) (members_below set n)
unfolding members_below
below_in_order set n = AllPairs-filter (λ s t. number_of s < number_of t) (is_member set) (map status_of (range_with_len 0 n)) (in_order n)

pub members_are_in_order : MembersAreInOrder
members_are_in_order set = below_in_order set 64
