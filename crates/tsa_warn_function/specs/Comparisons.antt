-- How rules that fail compare.
use Rattle.std.specs.Prelude.{List}
use Rattle.std.specs.declared.cmp.Ordering.{Ordering}
use Rattle.std.specs.Ordering.{nat_cmp, on, then_cmp}
use Rattle.tsa_rules.specs.Fails.{rule_number}
use Rattle.tsa_warn_text.specs.Ranks.{PathText, rank_in}
use Rattle.tsa_warn_function.specs.declared.failure.RuleFailure.{RuleFailure}

-- by their points, then by the numbers of the rules, and last by the ranks of the paths
abbrev pub failure_cmp : List PathText → RuleFailure → RuleFailure → Ordering
failure_cmp texts = then_cmp (then_cmp (on (λ v. v.point) nat_cmp) (on (λ v. rule_number v.rule) nat_cmp)) (on (λ v. rank_in texts v.cap) nat_cmp)
