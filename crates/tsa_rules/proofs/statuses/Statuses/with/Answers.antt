use Rattle.std.proofs.Common.{◌<◌, subst, sym}
use Rattle.tsa_rules.proofs.Places.{number_fits}
use Rattle.tsa_rules.proofs.SetBits.{has_with}
use Rattle.tsa_rules.proofs.statuses.Statuses.with.Goals as goal

pub returns : goal.returns
returns c = λ t.
    has_with c.args.self.bits c.number.result c.args.status c.number.ensures (subst (λ n. n < 64) (sym c.number.ensures) (number_fits c.args.status c.requires)) c.requires t
