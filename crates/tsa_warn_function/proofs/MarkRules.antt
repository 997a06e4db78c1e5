-- The rules that are asked of marks.
use Rattle.std.proofs.Common.{◌≡◌, ℕ, zero, suc, ◌<◌, ◌⊎◌, inl, inr, nat_eq, nat_lt, Bool, true, false, ◌&&◌, List, [], ◌∷◌, length, get_or}
use Rattle.std.proofs.Common.{Contains, refl, ap, arith, true≢false}
use Rattle.std.proofs.lemmas.List.Elements.{All-contains}
use Rattle.tsa_rules.specs.declared.rule.Rule.{Rule}
use Rattle.tsa_rules.specs.declared.rule.Rule.TheVariants.{TS01, TS02, TS03, TS04, TS05, TS06, TS07, TS08, TS09, TS10, TS11, TS12}
use Rattle.tsa_rules.specs.Fails.{rule_number}
use Rattle.tsa_rules.proofs.Tests.{left_part, none_passes, right_part, below}
use Rattle.tsa_warn_function.specs.declared.spot.TheConstants.{MARK_RULES}
use Rattle.tsa_warn_function.specs.Adding.{EachOnce}

-- their numbers rise
rises : ℕ → List Rule → Bool
rises n [] = true
rises n (r ∷ rules) = nat_lt n (rule_number r) && rises (rule_number r) rules

above : (n : ℕ) (rules : List Rule) → rises n rules ≡ true → (k : ℕ) (d : Rule) → k < length rules → n < rule_number (get_or rules k d)
unfolding rises
above n [] up k d within = absurd (omega (arith, within))
above n (r ∷ rules) up zero d within = below n (rule_number r) (left_part (nat_lt n (rule_number r)) (rises (rule_number r) rules) up)
above n (r ∷ rules) up (suc k) d within =
    let first = below n (rule_number r) (left_part (nat_lt n (rule_number r)) (rises (rule_number r) rules) up) in
    let rest = above (rule_number r) rules (right_part (nat_lt n (rule_number r)) (rises (rule_number r) rules) up) k d (omega (arith, within)) in
    omega (arith, first, rest)

rising : (n : ℕ) (rules : List Rule) → rises n rules ≡ true → (i j : ℕ) (d : Rule) → i < j → j < length rules → rule_number (get_or rules i d) < rule_number (get_or rules j d)
unfolding rises
rising n [] up i j d less within = absurd (omega (arith, within))
rising n (r ∷ rules) up i zero d less within = absurd (omega (arith, less))
rising n (r ∷ rules) up zero (suc j) d less within = above (rule_number r) rules (right_part (nat_lt n (rule_number r)) (rises (rule_number r) rules) up) j d (omega (arith, within))
rising n (r ∷ rules) up (suc i) (suc j) d less within =
    rising (rule_number r) rules (right_part (nat_lt n (rule_number r)) (rises (rule_number r) rules) up) i j d (omega (arith, less)) (omega (arith, within))

all_rise : rises 0 MARK_RULES ≡ true
unfolding rises
all_rise = refl

pub asked_once : EachOnce MARK_RULES
asked_once i j d less within same = omega (arith, rising 0 MARK_RULES all_rise i j d less within, ap rule_number same)

-- that of returns and that of edges that meet aren't among them
pub not_of_returns : Contains MARK_RULES TS09 → ⊥
not_of_returns h = true≢false (All-contains (λ r. nat_eq (rule_number r) 9 ≡ false) MARK_RULES TS09 (none_passes (λ r. nat_eq (rule_number r) 9) MARK_RULES refl) h)

pub not_of_edges : Contains MARK_RULES TS10 → ⊥
not_of_edges h = true≢false (All-contains (λ r. nat_eq (rule_number r) 10 ≡ false) MARK_RULES TS10 (none_passes (λ r. nat_eq (rule_number r) 10) MARK_RULES refl) h)

-- each rule is one of these two, or is asked
pub two_or_asked : (r : Rule) → (r ≡ TS09) ⊎ ((r ≡ TS10) ⊎ Contains MARK_RULES r)
two_or_asked TS01 = inr (inr (0, omega arith, refl))
two_or_asked TS02 = inr (inr (1, omega arith, refl))
two_or_asked TS03 = inr (inr (2, omega arith, refl))
two_or_asked TS04 = inr (inr (3, omega arith, refl))
two_or_asked TS05 = inr (inr (4, omega arith, refl))
two_or_asked TS06 = inr (inr (5, omega arith, refl))
two_or_asked TS07 = inr (inr (6, omega arith, refl))
two_or_asked TS08 = inr (inr (7, omega arith, refl))
two_or_asked TS09 = inl refl
two_or_asked TS10 = inr (inl refl)
two_or_asked TS11 = inr (inr (8, omega arith, refl))
two_or_asked TS12 = inr (inr (9, omega arith, refl))
