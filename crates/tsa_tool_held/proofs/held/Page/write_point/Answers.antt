use Rattle.std.proofs.Common.{◌∙◌, ◌++◌, ap, subst}
use Rattle.tsa_base.specs.Transfer.{AppendsFront}
use Rattle.tsa_tool_held.proofs.HeldOnce.{point_text_once}
use Rattle.tsa_tool_held.proofs.held.Page.write_point.Goals as goal

pub returns-in-Err-Failed-clause-front : goal.returns-in-Err-Failed-clause-front
returns-in-Err-Failed-clause-front g c a is inside lines right =
    let told = c.in_ok-push_point.ensures a is inside in
    let text = c.deref.ensures.value ∙ told.1.1 ∙ ap (λ t. t ++ told.0) c.new-text.ensures.items in
    let same = point_text_once c.args.self.now.starts.now a c.args.self.now.order.now c.args.point told.0 lines told.1.0 right in
    subst (AppendsFront (g.O.Sink.taken c.args.out.now) (g.O.Sink.taken c.write_all.new.out)) (text ∙ same) c.in-Err-Failed.ensures.front

pub returns-clause-front : goal.returns-clause-front
returns-clause-front g c a is inside lines right =
    let told = c.in_ok-push_point.ensures a is inside in
    let text = c.deref.ensures.value ∙ told.1.1 ∙ ap (λ t. t ++ told.0) c.new-text.ensures.items in
    let same = point_text_once c.args.self.now.starts.now a c.args.self.now.order.now c.args.point told.0 lines told.1.0 right in
    subst (AppendsFront (g.O.Sink.taken c.args.out.now) (g.O.Sink.taken c.write_all.new.out)) (text ∙ same) c.in-Err-NoMemory.ensures.front
