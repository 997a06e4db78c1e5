use Rattle.std.proofs.Common.{◌<◌, refl, arith}
use Rattle.tsa_rules.proofs.SetBits.{first_taken}
use Rattle.std.specs.Int.{trailing_zeros}
use Rattle.std.proofs.Common.{w64}
use Rattle.tsa_rules.proofs.statuses.Statuses.take_first.Goals as goal

pub returns : goal.returns
returns c =
    let fits : c.args.self.now.bits < 18446744073709551616 = omega arith in
    let some : 0 < c.args.self.now.bits = omega arith in
    first_taken c.args.self.now.bits (trailing_zeros w64 c.args.self.now.bits) some fits refl c.of_number.result c.of_number.ensures
