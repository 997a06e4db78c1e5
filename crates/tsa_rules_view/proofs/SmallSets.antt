-- The number of a try variable has a place in sets where there are few of them.
use Rattle.std.proofs.Common.{◌<◌, ℕ, nat_eq, not, List, arith}
use Rattle.std.proofs.lemmas.List.Sums.{prefix_len-le-length}
use Rattle.tsa_rules_roles.specs.Roles.{duty_in, role_for, role_in, tries_in, variables_in}
use Rattle.tsa_rules.specs.Cases.{IsSmall}
use Rattle.tsa_rules.specs.Sets.{pending_places}
use Rattle.tsa_rules_roles.specs.declared.duty.Duty.{Duty}
use Rattle.tsa_rules_roles.specs.declared.duty.Duty.TheVariants as duty

small_for : (duties : List Duty) (d : Duty) → tries_in duties < pending_places → IsSmall (role_for duties d)
small_for duties (duty.Declares n) few = omega (arith, prefix_len-le-length (λ x. not (nat_eq n x)) (variables_in duties), few)
small_for duties (duty.Tests t) few = tt
small_for duties (duty.Leaves a) few = tt
small_for duties duty.Passes few = tt

pub small : (duties : List Duty) (p : ℕ) → tries_in duties < pending_places → IsSmall (role_in duties p)
small duties p few = small_for duties (duty_in duties p) few
