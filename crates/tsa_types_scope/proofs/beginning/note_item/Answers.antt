use Rattle.std.proofs.Common.{◌≡◌, ◌∙◌, ◌+◌, ◌∷◌, sym, ap}
use Rattle.std.proofs.lemmas.Result.{IfOk-weaker}
use Rattle.tsa_tree.specs.units.Shapes.{item_shape}
use Rattle.tsa_tree.specs.types.Units.{tags_behind}
use Rattle.tsa_types_scope.proofs.OutsetLaws.{Passes, structure_passes, enumeration_passes, other_passes}
use Rattle.tsa_types_scope.proofs.beginning.note_item.Goals as goal

pub returns-in_ok-note_tag-in-Structure : goal.returns-in_ok-note_tag-in-Structure
returns-in_ok-note_tag-in-Structure c =
    IfOk-weaker c.next_number.result (λ m. m ≡ c.args.number + 1) (Passes c.args.tags.now c.args.number c.args.item.now c.note_tag.new.tags)
    (λ m is rest.
    ap (λ n. tags_behind c.note_tag.new.tags n rest) is
    ∙ ap (λ known. tags_behind known (c.args.number + 1) rest) c.in_ok-note_tag-in-Structure.ensures
    ∙ structure_passes c.args.tags.now c.args.number c.in-Structure.def rest
    ∙ sym (ap (λ x. tags_behind c.args.tags.now c.args.number (item_shape x ∷ rest)) c.in-Structure.is))
    c.next_number.ensures

pub returns-in_ok-note_tag-in-Enumeration : goal.returns-in_ok-note_tag-in-Enumeration
returns-in_ok-note_tag-in-Enumeration c rest =
    ap (λ known. tags_behind known c.args.number rest) c.in_ok-note_tag-in-Enumeration.ensures
    ∙ enumeration_passes c.args.tags.now c.args.number c.in-Enumeration.def rest
    ∙ sym (ap (λ x. tags_behind c.args.tags.now c.args.number (item_shape x ∷ rest)) c.in-Enumeration.is)

pub returns-in_default : goal.returns-in_default
returns-in_default c = other_passes c.args.tags.now c.args.number c.args.item.now c.in_default.not-Structure c.in_default.not-Enumeration
