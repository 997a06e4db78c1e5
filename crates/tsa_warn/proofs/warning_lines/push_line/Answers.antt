use Rattle.std.proofs.Common.{◌∙◌, ◌++◌, slice_get, refl, sym, ap, ap₂, subst}
use Rattle.tsa_core.specs.Programs.{program_of}
use Rattle.tsa_warn_text.specs.Orders.{texts_of}
use Rattle.tsa_warn_text.specs.Ranks.{told_by}
use Rattle.tsa_rules.specs.Attributes.{lock_kind_of}
use Rattle.tsa_warn_function.specs.Views.{IsViewOf, text_of}
use Rattle.tsa_warn_text.specs.Lines.{warning_text}
use Rattle.tsa_warn_bodies.specs.Bodies.{names_of}
use Rattle.tsa_warn_function.specs.Paths.{paths_of}
use Rattle.tsa_warn.specs.Lines.{place_of}
use Rattle.tsa_warn.proofs.OneLine.{kind_is, longer, warned_is}
use Rattle.tsa_warn.proofs.warning_lines.push_line.Goals as goal

pub returns-clause-longer : goal.returns-clause-longer
returns-clause-longer c =
    longer _ _ c.args.text.now.items c.push_place.new.text.items c.push_warning.new.text.items c.extend_from_slice.new.self.items c.in_ok-push_place.ensures
    c.in_ok-push_warning.ensures c.in_ok-extend_from_slice.ensures.items

pub returns-clause-line : goal.returns-clause-line
returns-clause-line c items b h =
    let u = program_of items in
    let bytes = c.args.starts.now in
    let paths = paths_of u h.function in
    let kind = c.unwrap_or.result.now in
    let placed = c.push_place.new.text.items in
    let path_text = c.text.ensures ∙ ap (λ ts. (told_by ts c.args.failure.cap).text) h.texts in
    let seen = subst (IsViewOf u h.function paths) (sym c.view.ensures) h.flow.view in
    warned_is bytes u h.function paths (texts_of (names_of items b.number) paths) b c.args.failure kind c.args.text.now.items placed c.push_warning.new.text.items c.extend_from_slice.new.self.items
    (ap (λ r. r.now) c.unwrap_or.ensures ∙ kind_is (λ r. r.now) c.kind.result (slice_get paths c.args.failure.cap) (λ x. text_of (lock_kind_of u h.function x)) _ refl (c.kind.ensures u h.function paths seen))
    (c.in_ok-push_place.ensures ∙ ap (λ ps. c.args.text.now.items ++ place_of bytes ps c.args.failure.point) h.points)
    (c.in_ok-push_warning.ensures ∙ ap₂ (λ n p. placed ++ warning_text c.args.failure.rule n kind p) h.name path_text)
    c.in_ok-extend_from_slice.ensures.items
