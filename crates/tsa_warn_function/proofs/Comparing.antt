-- Rules that fail, compared by their points, their numbers and the ranks of their paths.
use Rattle.std.proofs.Common.{◌≡◌, ◌<◌, ◌⊎◌, inl, inr, ◌==◌, ℕ, nat_eq, Bool, true, false, List, length, Option, Some}
use Rattle.std.proofs.Common.{Ordering, Less, Equal, Greater, nat_cmp, refl, sym, ap, ◌∙◌, arith}
use Rattle.std.specs.Prelude.{find}
use Rattle.std.specs.Cmp.{IsTotalOrder}
use Rattle.std.specs.Ordering.{ordering_then}
use Rattle.std.proofs.lemmas.Cmp.{then_total, on_total, nat_cmp_total, ranked}
use borrow.Author.Tests.{eqb-true, eqb-false}
use Rattle.tsa_place_model.specs.Ways.{Way}
use Rattle.tsa_path.specs.PathTexts.{Names}
use Rattle.tsa_rules.specs.declared.rule.Rule.{Rule}
use Rattle.tsa_rules.specs.declared.rule.Rule.TheVariants.{TS01, TS02, TS03, TS04, TS05, TS06, TS07, TS08, TS09, TS10, TS11, TS12}
use Rattle.tsa_rules.specs.Fails.{all_rules, rule_number}
use Rattle.tsa_warn_text.specs.Orders.{IsToldBefore, texts_of}
use Rattle.tsa_warn_text.specs.Ranks.{PathText, rank_in}
use Rattle.tsa_warn_text.proofs.Telling.{one_is_told_first, ranks_follow_the_order, is_below}
use Rattle.tsa_warn_function.specs.declared.failure.RuleFailure.{RuleFailure}
use Rattle.tsa_warn_function.specs.Comparisons.{failure_cmp}
use Rattle.tsa_warn_function.specs.Orders.{Precedes, by_point, by_rule, by_path}

pub failure_cmp_total : (texts : List PathText) → IsTotalOrder (failure_cmp texts)
failure_cmp_total texts =
    then_total (then_total (on_total (λ v. v.point) nat_cmp_total) (on_total (λ v. rule_number v.rule) nat_cmp_total))
    (on_total (λ v. rank_in texts v.cap) nat_cmp_total)

-- the rule of a number
abbrev rule_at : ℕ → Option Rule
rule_at n = find (λ rule. nat_eq (rule_number rule) n) all_rules

back : (r : Rule) → rule_at (rule_number r) ≡ Some r
back TS01 = refl
back TS02 = refl
back TS03 = refl
back TS04 = refl
back TS05 = refl
back TS06 = refl
back TS07 = refl
back TS08 = refl
back TS09 = refl
back TS10 = refl
back TS11 = refl
back TS12 = refl

-- rules of one number are the same
same_rule : (r s : Rule) → rule_number r ≡ rule_number s → r ≡ s
same_rule r s same = let alike : Some r ≡ Some s = sym (back r) ∙ ap rule_at same ∙ back s in cc

is_same : (a b : ℕ) → nat_cmp a b ≡ Equal → a ≡ b
is_same a b e = ranked a b Equal (sym e)

-- Of three comparisons in turn that say that the first is less, the first says so that isn't a tie.
in_turn : (G : Type 0) (o p q : Ordering) → ordering_then (ordering_then o p) q ≡ Less
    → (o ≡ Less → G) → (o ≡ Equal → p ≡ Less → G) → (o ≡ Equal → p ≡ Equal → q ≡ Less → G) → G
in_turn G Less p q e one two three = one refl
in_turn G Equal Less q e one two three = two refl refl
in_turn G Equal Equal q e one two three = three refl refl e
in_turn G Equal Greater q e one two three = cc
in_turn G Greater p q e one two three = cc

-- Three that say that both are the same are ties.
all_tied : (G : Type 0) (o p q : Ordering) → ordering_then (ordering_then o p) q ≡ Equal → (o ≡ Equal → p ≡ Equal → q ≡ Equal → G) → G
all_tied G Less p q e ties = cc
all_tied G Equal Less q e ties = cc
all_tied G Equal Equal q e ties = ties refl refl e
all_tied G Equal Greater q e ties = cc
all_tied G Greater p q e ties = cc

-- the rank of the path of a number, in a function that sees such names
abbrev rank : Names → List Way → ℕ → ℕ
rank names paths cap = rank_in (texts_of names paths) cap

-- numbers of paths that have the same rank are the same
same_rank : (names : Names) (paths : List Way) (a b : ℕ) → a < length paths → b < length paths → rank names paths a ≡ rank names paths b → a ≡ b
same_rank names paths a b first second same = by (a == b) refl
  where
    lower : IsToldBefore names paths a b ⊎ IsToldBefore names paths b a → ⊥
    lower (inl told) = let less = (ranks_follow_the_order names paths a b first second).1 told in omega arith
    lower (inr told) = let less = (ranks_follow_the_order names paths b a second first).1 told in omega arith

    by : (t : Bool) → a == b ≡ t → a ≡ b
    by true e = eqb-true a b e
    by false e = absurd (lower (one_is_told_first names paths a b first second (eqb-false a b e)))

same_failure : (v w : RuleFailure) → v.point ≡ w.point → v.rule ≡ w.rule → v.cap ≡ w.cap → v ≡ w
same_failure v w point rule cap = λ i. record { point = point i; rule = rule i; cap = cap i }

-- rules that fail for paths that are there and that compare as equal are the same
pub tied_are_same : (names : Names) (paths : List Way) (v w : RuleFailure) → v.cap < length paths → w.cap < length paths
    → failure_cmp (texts_of names paths) v w ≡ Equal → v ≡ w
tied_are_same names paths v w first second e =
    all_tied (v ≡ w) _ _ _ e (λ point rule cap.
    same_failure v w (is_same _ _ point) (same_rule _ _ (is_same _ _ rule)) (same_rank names paths _ _ first second (is_same _ _ cap)))

-- the one that compares as less is told first
pub less_is_first : (names : Names) (paths : List Way) (v w : RuleFailure) → v.cap < length paths → w.cap < length paths
    → failure_cmp (texts_of names paths) v w ≡ Less → Precedes names paths v w
less_is_first names paths v w first second e =
    in_turn (Precedes names paths v w) _ _ _ e
    (λ less. by_point (is_below _ _ less))
    (λ point less. by_rule (is_same _ _ point) (is_below _ _ less))
    (λ point rule less. by_path (is_same _ _ point) (same_rule _ _ (is_same _ _ rule)) (told (is_below _ _ less)))
  where
    told : rank names paths v.cap < rank names paths w.cap → IsToldBefore names paths v.cap w.cap
    told = (ranks_follow_the_order names paths v.cap w.cap first second).0
