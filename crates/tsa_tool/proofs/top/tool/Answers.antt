use Rattle.std.proofs.Common.{◌∙◌, Err, ap, subst, sym}
use Rattle.std.specs.Prelude.{IfOk}
use Rattle.tsa_tool.specs.Reports.{IsReport}
use Rattle.tsa_tool.specs.Runs.{Gives, OfInput, ReadsItsInput, WritesFront}
use Rattle.tsa_tool.proofs.Soundly.{input_sound}
use Rattle.tsa_tool.proofs.top.tool.Goals as goal

pub returns-in-Err-SinkFailed-clause-write_front : goal.returns-in-Err-SinkFailed-clause-write_front
returns-in-Err-SinkFailed-clause-write_front g c _ =
    subst (λ k. OfInput (g.I.Source.left c.args.input.now) (λ bytes. WritesFront (IsReport k bytes) (g.O.Sink.taken c.args.out.now) (g.O.Sink.taken c.ask.new.out))) c.command_from.ensures
    (c.ask.ensures.front (c.in-Err-SinkFailed.is ∙ ap (λ e. Err e) c.in-Err-SinkFailed.field-0-is))

pub returns-in-Err-NoMemory-clause-memory : goal.returns-in-Err-NoMemory-clause-memory
returns-in-Err-NoMemory-clause-memory g c _ =
    subst (λ k. OfInput (g.I.Source.left c.args.input.now) (λ bytes. WritesFront (IsReport k bytes) (g.O.Sink.taken c.args.out.now) (g.O.Sink.taken c.ask.new.out))) c.command_from.ensures
    (c.ask.ensures.memory (c.in-Err-NoMemory.is ∙ ap (λ e. Err e) c.in-Err-NoMemory.field-0-is))

pub returns-in-Ok-clause-sound : goal.returns-in-Ok-clause-sound
returns-in-Ok-clause-sound g c zero is =
    input_sound (g.I.Source.left c.args.input.now) (g.I.Source.left c.ask.new.input) (g.O.Sink.taken c.args.out.now) (g.O.Sink.taken c.ask.new.out) c.in-Ok.status
    (sym c.number.ensures ∙ zero) c.command_from.result (c.command_from.ensures ∙ is)
    (subst (λ r. IfOk r (λ s. OfInput (g.I.Source.left c.args.input.now) (λ bytes.
    Gives (IsReport c.command_from.result bytes) (g.O.Sink.taken c.args.out.now) (g.O.Sink.taken c.ask.new.out) s
    × ReadsItsInput c.command_from.result bytes (g.I.Source.left c.args.input.now) (g.I.Source.left c.ask.new.input)))) c.in-Ok.is c.ask.ensures.given)
