use Rattle.tsa_rules.proofs.SetBits.{has_or}
use Rattle.tsa_rules.proofs.statuses.Statuses.join.Goals as goal

pub returns : goal.returns
returns c = λ t. has_or c.args.self.bits c.args.other.bits t
