use Rattle.std.proofs.Common.{◌∙◌, ◌≤◌, length, Err, ap, sym, subst}
use Rattle.std.specs.Prelude.{IfOk}
use Rattle.tsa_base.specs.declared.limits.TheConstants.{INPUT_LIMIT}
use Rattle.tsa_tool.specs.Answer.{report_of}
use Rattle.tsa_tool.specs.Reports.{IsAnswerTo, IsReport}
use Rattle.tsa_tool.specs.Runs.{Gives, OfInput, ReadsItsInput, WritesFront}
use Rattle.tsa_tool.specs.declared.exchange.Trouble.TheVariants.{NoMemory, SinkFailed}
use Rattle.tsa_tool.proofs.Inputs.{answers, error_of, of_input, refuses_length, refuses_words, writes_front}
use Rattle.tsa_tool.proofs.Writing.{nothing_written}
use Rattle.tsa_tool.proofs.exchange.ask.Goals as goal

pub returns-in_default-clause-given : goal.returns-in_default-clause-given
returns-in_default-clause-given g c =
    refuses_words (g.I.Source.left c.args.input.now) (g.O.Sink.taken c.args.out.now) (g.O.Sink.taken c.write.new.out) c.args.command (report_of c.in_ok-refuse_words.field-0) c.write.result
    c.in_default.is c.in_ok-refuse_words.ensures c.write.ensures.status c.write.ensures.all

pub returns-in_err-refuse_length-in-Err-TooLong-clause-memory :
    goal.returns-in_err-refuse_length-in-Err-TooLong-clause-memory
returns-in_err-refuse_length-in-Err-TooLong-clause-memory g c _ =
    let taken = g.O.Sink.taken c.args.out.now in
    of_input (g.I.Source.left c.args.input.now) (λ bytes. WritesFront (IsReport c.args.command bytes) taken taken) (λ bytes. nothing_written (IsReport c.args.command bytes) taken)

pub returns-in-Ok-clause-given : goal.returns-in-Ok-clause-given
returns-in-Ok-clause-given g c =
    let left = g.I.Source.left c.args.input.now in
    let after = g.I.Source.left c.read_all.new.source in
    let taken = g.O.Sink.taken c.args.out.now in
    let new = g.O.Sink.taken c.respond.new.out in
    let bytes = c.in-Ok.bytes.items in
    let short = subst (λ n. n ≤ INPUT_LIMIT) (sym (sym (ap length c.deref.ensures.value) ∙ c.deref.ensures.len)) c.in-Ok.ensures.within in
    subst (λ k. IfOk c.respond.result (λ s. OfInput left (λ input. Gives (IsReport k input) taken new s × ReadsItsInput k input left after))) (sym c.in-Some.is)
    (answers c.in-Some.command bytes short left after taken new c.in-Ok.ensures.all c.in-Ok.ensures.end c.respond.result
    (subst (λ b. IfOk c.respond.result (Gives (IsAnswerTo c.in-Some.command b) taken new)) c.deref.ensures.value c.respond.ensures.given))

pub returns-in-Ok-clause-front : goal.returns-in-Ok-clause-front
returns-in-Ok-clause-front g c fails =
    let left = g.I.Source.left c.args.input.now in
    let after = g.I.Source.left c.read_all.new.source in
    let taken = g.O.Sink.taken c.args.out.now in
    let new = g.O.Sink.taken c.respond.new.out in
    let bytes = c.in-Ok.bytes.items in
    let short = subst (λ n. n ≤ INPUT_LIMIT) (sym (sym (ap length c.deref.ensures.value) ∙ c.deref.ensures.len)) c.in-Ok.ensures.within in
    subst (λ k. OfInput left (λ input. WritesFront (IsReport k input) taken new)) (sym c.in-Some.is)
    (writes_front c.in-Some.command bytes short left after taken new c.in-Ok.ensures.all c.in-Ok.ensures.end
    (subst (λ b. WritesFront (IsAnswerTo c.in-Some.command b) taken new) c.deref.ensures.value
    (error_of (WritesFront (IsAnswerTo c.in-Some.command c.deref.result.now) taken new) c.respond.result SinkFailed fails c.respond.ensures.front)))

pub returns-in-Ok-clause-memory : goal.returns-in-Ok-clause-memory
returns-in-Ok-clause-memory g c fails =
    let left = g.I.Source.left c.args.input.now in
    let after = g.I.Source.left c.read_all.new.source in
    let taken = g.O.Sink.taken c.args.out.now in
    let new = g.O.Sink.taken c.respond.new.out in
    let bytes = c.in-Ok.bytes.items in
    let short = subst (λ n. n ≤ INPUT_LIMIT) (sym (sym (ap length c.deref.ensures.value) ∙ c.deref.ensures.len)) c.in-Ok.ensures.within in
    subst (λ k. OfInput left (λ input. WritesFront (IsReport k input) taken new)) (sym c.in-Some.is)
    (writes_front c.in-Some.command bytes short left after taken new c.in-Ok.ensures.all c.in-Ok.ensures.end
    (subst (λ b. WritesFront (IsAnswerTo c.in-Some.command b) taken new) c.deref.ensures.value
    (error_of (WritesFront (IsAnswerTo c.in-Some.command c.deref.result.now) taken new) c.respond.result NoMemory fails c.respond.ensures.front)))

pub returns-in_ok-refuse_length-in-Err-TooLong-clause-given :
    goal.returns-in_ok-refuse_length-in-Err-TooLong-clause-given
returns-in_ok-refuse_length-in-Err-TooLong-clause-given g c =
    let left = g.I.Source.left c.args.input.now in
    let after = g.I.Source.left c.read_all.new.source in
    let taken = g.O.Sink.taken c.args.out.now in
    let new = g.O.Sink.taken c.write-in-Err-TooLong.new.out in
    let pulled = c.read_all.ensures.pulled in
    let long = pulled.count.1.0 (c.in-Err-TooLong.is ∙ ap (λ e. Err e) c.in-Err-TooLong.field-0-is) in
    let report = report_of c.in_ok-refuse_length-in-Err-TooLong.field-0 in
    subst (λ k. IfOk c.write-in-Err-TooLong.result (λ s. OfInput left (λ input. Gives (IsReport k input) taken new s × ReadsItsInput k input left after))) (sym c.in-Some.is)
    (refuses_length c.in-Some.command pulled.bytes long taken new report c.in_ok-refuse_length-in-Err-TooLong.ensures left after c.write-in-Err-TooLong.result pulled.taken
    c.write-in-Err-TooLong.ensures.status c.write-in-Err-TooLong.ensures.all)
