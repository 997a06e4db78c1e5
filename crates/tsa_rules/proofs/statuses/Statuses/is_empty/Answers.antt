use Rattle.std.proofs.Common.{◌<◌, arith}
use Rattle.tsa_rules.proofs.SetBits.{empty_is_zero, zero_is_empty}
use Rattle.tsa_rules.proofs.Tests.{is_zero, zero_is}
use Rattle.tsa_rules.proofs.statuses.Statuses.is_empty.Goals as goal

pub returns : goal.returns
returns c =
    let fits : c.args.self.bits < 18446744073709551616 = omega arith in
    (λ is. zero_is_empty c.args.self.bits (is_zero c.args.self.bits is), λ none. zero_is c.args.self.bits (empty_is_zero c.args.self.bits fits none))
