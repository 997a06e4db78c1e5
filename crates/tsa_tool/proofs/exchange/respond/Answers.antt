use Rattle.std.proofs.Common.{sym, subst}
use Rattle.std.specs.Prelude.{IfOk, OnErr}
use Rattle.tsa_tool_held.proofs.Fronts.{on_error}
use Rattle.tsa_tool.specs.Answer.{report_of}
use Rattle.tsa_tool.specs.Reports.{IsAnswerTo}
use Rattle.tsa_tool.specs.Runs.{Gives, WritesFront}
use Rattle.tsa_tool.specs.declared.command.Command.TheVariants.{Check, Print}
use Rattle.tsa_tool.proofs.Inputs.{written}
use Rattle.tsa_tool.proofs.OneReport.{one_answer}
use Rattle.tsa_tool.proofs.Writing.{front_of_one}
use Rattle.tsa_tool.proofs.exchange.respond.Goals as goal

pub returns-in_ok-check-in-Check-clause-given : goal.returns-in_ok-check-in-Check-clause-given
returns-in_ok-check-in-Check-clause-given g c =
    subst (λ k. IfOk c.write.result (Gives (IsAnswerTo k c.args.bytes.now) (g.O.Sink.taken c.args.out.now) (g.O.Sink.taken c.write.new.out))) (sym c.in-Check.is)
    (written (IsAnswerTo Check c.args.bytes.now) (g.O.Sink.taken c.args.out.now) (g.O.Sink.taken c.write.new.out) (report_of c.in_ok-check-in-Check.field-0) c.write.result
    c.in_ok-check-in-Check.ensures c.write.ensures.status c.write.ensures.all)

pub returns-in_ok-print-in-Print-clause-given : goal.returns-in_ok-print-in-Print-clause-given
returns-in_ok-print-in-Print-clause-given g c =
    subst (λ k. IfOk c.write-in-Print.result (Gives (IsAnswerTo k c.args.bytes.now) (g.O.Sink.taken c.args.out.now) (g.O.Sink.taken c.write-in-Print.new.out))) (sym c.in-Print.is)
    (written (IsAnswerTo Print c.args.bytes.now) (g.O.Sink.taken c.args.out.now) (g.O.Sink.taken c.write-in-Print.new.out) (report_of c.in_ok-print-in-Print.field-0) c.write-in-Print.result
    c.in_ok-print-in-Print.ensures c.write-in-Print.ensures.status c.write-in-Print.ensures.all)

pub returns-in_ok-check-in-Check-clause-front : goal.returns-in_ok-check-in-Check-clause-front
returns-in_ok-check-in-Check-clause-front g c =
    let bytes = c.args.bytes.now in
    let taken = g.O.Sink.taken c.args.out.now in
    let new = g.O.Sink.taken c.write.new.out in
    subst (λ k. OnErr c.write.result (WritesFront (IsAnswerTo k bytes) taken new)) (sym c.in-Check.is)
    (on_error c.write.result _ _ (front_of_one (IsAnswerTo Check bytes) (one_answer bytes Check) taken new (report_of c.in_ok-check-in-Check.field-0) c.in_ok-check-in-Check.ensures) c.write.ensures.front)
