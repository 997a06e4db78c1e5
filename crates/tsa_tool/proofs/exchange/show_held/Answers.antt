use Rattle.std.proofs.Common.{◌∙◌, Err, ap}
use Rattle.tsa_tree.specs.units.Shapes.{item_shapes}
use Rattle.tsa_tool_held.proofs.Fronts.{any_error}
use Rattle.tsa_tool.specs.Answer.{report_of}
use Rattle.tsa_tool.specs.Checks.{fit_in}
use Rattle.tsa_tool.specs.Reports.{IsHeldOf, OfUnit}
use Rattle.tsa_tool.proofs.Inputs.{written}
use Rattle.tsa_tool.proofs.Writing.{held_given, nothing_written, refused_is_right}
use Rattle.tsa_tool.proofs.exchange.show_held.Goals as goal

pub returns-in-Ok-write_held-clause-given : goal.returns-in-Ok-write_held-clause-given
returns-in-Ok-write_held-clause-given g c =
    let h = c.in-Ok-write_held.ensures.all in
    held_given c.args.bytes.now (item_shapes c.in-Ok.ready.fit.typed.unit.now.items.now) (g.O.Sink.taken c.args.out.now) (g.O.Sink.taken c.write_held.new.out) c.in-Ok.ensures.tree h.0 h.1.0 h.1.1

pub returns-in-Err-Refused-clause-given : goal.returns-in-Err-Refused-clause-given
returns-in-Err-Refused-clause-given g c =
    let bytes = c.args.bytes.now in
    let report = report_of c.in_ok-refuse-in-Err-Refused.field-0 in
    written (OfUnit bytes (IsHeldOf bytes) (fit_in bytes)) (g.O.Sink.taken c.args.out.now) (g.O.Sink.taken c.write.new.out) report c.write.result
    (refused_is_right bytes (IsHeldOf bytes) (fit_in bytes) c.in-Err-Refused.refusal report (c.read_ready.ensures.refused c.in-Err-Refused.refusal (c.in-Err-Refused.is ∙ ap (λ e. Err e) c.in-Err-Refused.field-0-is)) c.in_ok-refuse-in-Err-Refused.ensures)
    c.write.ensures.status c.write.ensures.all

pub returns-in_err-refuse-in-Err-Refused-clause-front : goal.returns-in_err-refuse-in-Err-Refused-clause-front
returns-in_err-refuse-in-Err-Refused-clause-front g c =
    any_error c.from_residual.result _ (nothing_written (OfUnit c.args.bytes.now (IsHeldOf c.args.bytes.now) (fit_in c.args.bytes.now)) (g.O.Sink.taken c.args.out.now))
