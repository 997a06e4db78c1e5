use Rattle.std.proofs.Common.{◌∙◌, ◌+◌, ◌∷◌, [], length, sym, ap, subst}
use Rattle.tsa_place_model.specs.Layouts.{capped, members_size, size_of}
use Rattle.tsa_place_model.specs.Standing.{AllBelow}
use Rattle.tsa_place_layout.specs.Tables.{latest, begins_from}
use Rattle.tsa_place_layout.proofs.Tables.{latest_behind, sized_after, size_by}
use Rattle.tsa_place_layout.proofs.structures.Structures.add.Goals as goal

pub invariant_of-self-2 : goal.invariant_of-self-2
invariant_of-self-2 c =
    sized_after c.self.inside.list.items c.push.new.self.items _ c.in_ok-push.ensures.items c.self.invariant
    (subst (λ all. AllBelow (length all) c.args.members.items) (sym c.self.view_is) c.requires)
    (c.few-size.ensures ∙ size_by _ _ (c.from.ensures ∙ c.in_ok-begins.ensures.end) ∙ ap (λ ms. capped (1 + members_size (size_of c.args.self.now) ms)) c.deref.ensures.value
    ∙ ap (λ all. capped (1 + members_size (size_of all) c.args.members.items)) (sym c.self.view_is))
    (c.in_ok-begins.ensures.places ∙ ap (λ ms. begins_from (size_of c.args.self.now) 0 ms) c.deref.ensures.value
    ∙ ap (λ all. begins_from (size_of all) 0 c.args.members.items) (sym c.self.view_is))

pub returns-clause-added : goal.returns-clause-added
returns-clause-added c =
    ap (λ list. latest list []) c.in_ok-push.ensures.items ∙ latest_behind c.self.inside.list.items _ []
    ∙ ap (λ all. record { is_lock = c.args.is_lock; members = c.args.members.items } ∷ all) c.self.view_is
