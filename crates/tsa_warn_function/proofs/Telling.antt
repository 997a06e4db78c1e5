-- The order in which rules that fail are told is one.
use Rattle.std.proofs.Common.{◌≡◌, ◌⊎◌, inl, inr, Ordering, Less, Equal, Greater, refl, ap, ◌∙◌, arith}
use Rattle.std.specs.Ordering.{ordering_reverse}
use Rattle.tsa_rules.specs.Fails.{rule_number}
use Rattle.tsa_warn_text.specs.Orders.{texts_of}
use Rattle.tsa_warn_text.proofs.Telling.{not_both_are_told_first, order_is_transitive}
use Rattle.tsa_warn_function.specs.Comparisons.{failure_cmp}
use Rattle.tsa_warn_function.specs.Orders.{Precedes, by_point, by_rule, by_path, OneIsFirst, NotBothAreFirst, PrecedingIsTransitive}
use Rattle.tsa_warn_function.proofs.Comparing.{failure_cmp_total, less_is_first, tied_are_same}

pub one_is_first : OneIsFirst
one_is_first names paths v w first second other = by (failure_cmp (texts_of names paths) v w) refl
  where
    by : (o : Ordering) → failure_cmp (texts_of names paths) v w ≡ o → Precedes names paths v w ⊎ Precedes names paths w v
    by Less e = inl (less_is_first names paths v w first second e)
    by Equal e = absurd (other (tied_are_same names paths v w first second e))
    by Greater e = inr (less_is_first names paths w v second first ((failure_cmp_total (texts_of names paths)).antisymm w v ∙ ap ordering_reverse e))

pub not_both_are_first : NotBothAreFirst
not_both_are_first names paths v w (by_point less) (by_point back) = omega arith
not_both_are_first names paths v w (by_point less) (by_rule same back) = omega arith
not_both_are_first names paths v w (by_point less) (by_path same alike back) = omega arith
not_both_are_first names paths v w (by_rule at less) (by_point back) = omega arith
not_both_are_first names paths v w (by_rule at less) (by_rule same back) = omega arith
not_both_are_first names paths v w (by_rule at less) (by_path same alike back) = omega (arith, ap rule_number alike)
not_both_are_first names paths v w (by_path at rule told) (by_point back) = omega arith
not_both_are_first names paths v w (by_path at rule told) (by_rule same back) = omega (arith, ap rule_number rule)
not_both_are_first names paths v w (by_path at rule told) (by_path same alike back) = not_both_are_told_first names paths v.cap w.cap told back

pub preceding_is_transitive : PrecedingIsTransitive
preceding_is_transitive names paths v w x (by_point less) (by_point more) = by_point (omega arith)
preceding_is_transitive names paths v w x (by_point less) (by_rule same more) = by_point (omega arith)
preceding_is_transitive names paths v w x (by_point less) (by_path same alike more) = by_point (omega arith)
preceding_is_transitive names paths v w x (by_rule at less) (by_point more) = by_point (omega arith)
preceding_is_transitive names paths v w x (by_rule at less) (by_rule same more) = by_rule (at ∙ same) (omega arith)
preceding_is_transitive names paths v w x (by_rule at less) (by_path same alike more) = by_rule (at ∙ same) (omega (arith, ap rule_number alike))
preceding_is_transitive names paths v w x (by_path at rule told) (by_point more) = by_point (omega arith)
preceding_is_transitive names paths v w x (by_path at rule told) (by_rule same more) = by_rule (at ∙ same) (omega (arith, ap rule_number rule))
preceding_is_transitive names paths v w x (by_path at rule told) (by_path same alike more) =
    by_path (at ∙ same) (rule ∙ alike) (order_is_transitive names paths v.cap w.cap x.cap told more)
