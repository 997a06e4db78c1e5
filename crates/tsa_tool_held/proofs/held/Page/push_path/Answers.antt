use Rattle.std.proofs.Common.{◌∙◌, ◌++◌, ◌<◌, arith, [], refl, sym, ap, ap₂, subst, append-nil}
use Rattle.tsa_warn_text.specs.Ranks.{told_by}
use Rattle.tsa_warn_text.specs.HeldLines.{held_text}
use Rattle.tsa_tool_held.specs.Held.{paths_in, set_line, tries_in}
use Rattle.tsa_warn.specs.Lines.{place_of}
use Rattle.tsa_tool_held.proofs.HeldLine.{held_is, no_line}
use Rattle.tsa_tool_held.proofs.Paging.{path_there}
use Rattle.tsa_tool_held.proofs.held.Page.push_path.Goals as goal

pub returns-then-set-eq0 : goal.returns-then-set-eq0
returns-then-set-eq0 c a is inside within =
    let set = c.statuses-set.result in
    let small : set.bits < 18446744073709551616 = omega arith in
    let path = path_there a c.args.cap within in
    let reached = c.statuses-set.ensures a.program a.function (paths_in a) path.0 is.flow (subst (λ n. c.args.point < n) (sym is.count) inside) path.1 in
    ([], ((set, record { path = path.0; is_there = path.1; small = small; has = reached }, sym (no_line c.args.self.now.starts.now a c.args.point c.args.cap set c.if-set-eq0.true)), sym (append-nil c.args.text.now.items)))

pub returns : goal.returns
returns c a is inside within =
    let bytes = c.args.self.now.starts.now in
    let set = c.statuses-set.result in
    let small : set.bits < 18446744073709551616 = omega arith in
    let path = path_there a c.args.cap within in
    let reached = c.statuses-set.ensures a.program a.function (paths_in a) path.0 is.flow (subst (λ n. c.args.point < n) (sym is.count) inside) path.1 in
    let placed = c.push_place.new.text.items in
    let path_text = c.text.ensures ∙ ap (λ ts. (told_by ts c.args.cap).text) is.texts in (
      set_line bytes a c.args.point c.args.cap set,
      (
        (set, record { path = path.0; is_there = path.1; small = small; has = reached }, refl),
        held_is bytes a c.args.point c.args.cap set c.if-set-eq0.false c.args.text.now.items placed c.push_held.new.text.items c.extend_from_slice.new.self.items
            (c.in_ok-push_place.ensures ∙ ap (λ ps. c.args.text.now.items ++ place_of bytes ps c.args.point) is.points)
            (c.in_ok-push_held.ensures ∙ ap₂ (λ t n. placed ++ held_text t n c.text.result.now set) is.tries is.name ∙ ap (λ p. placed ++ held_text (tries_in a) a.body.name p set) path_text)
            c.in_ok-extend_from_slice.ensures.items,
      ),
    )
