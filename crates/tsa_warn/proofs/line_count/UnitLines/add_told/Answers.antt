use Rattle.std.proofs.Common.{subst}
use Rattle.tsa_warn_bodies.specs.Bodies.{Tells}
use Rattle.tsa_warn.specs.OneBody.{warned_of}
use Rattle.tsa_warn.proofs.Lines.{body_added}
use Rattle.tsa_warn.proofs.Progress.{the_body}
use Rattle.tsa_warn.proofs.line_count.UnitLines.add_told.Goals as goal

pub returns-in_ok-add_body : goal.returns-in_ok-add_body
returns-in_ok-add_body c = λ items done bodies tells h.
    let found = the_body items bodies c.in-Some.body (subst (Tells items bodies) c.in-Some.is tells) in
    let told = c.in_ok-add_body.ensures items found.0 found.1.1 in
    body_added c.args.starts.now items done bodies found.0 (warned_of c.args.self.now) told.0 (warned_of c.add_body.new.self) found.1.0 told.1.1 h told.1.0
