use Rattle.std.proofs.Common.{◌∙◌, Option, sym, ap}
use Rattle.std.proofs.lemmas.Result.{on_ok_weaker}
use Rattle.tsa_tree.specs.declared.item.Item.{Item}
use Rattle.tsa_tree.specs.declared.item.Item.TheVariants.{Alias, Enumeration}
use Rattle.tsa_tree.specs.types.Units.{behind_item}
use Rattle.tsa_tree.specs.units.Shapes.{item_shape}
use Rattle.tsa_profile_accesses.specs.declared.premise.Failure.{Failure}
use Rattle.tsa_profile_accesses.specs.Premises.{first}
use Rattle.tsa_profile_context.specs.Judging.{Knowledge, behind, unit_at, with_scope}
use Rattle.tsa_profile_context.specs.Units.{Unit, attributes_behind, item_premises}
use Rattle.tsa_profile_items.proofs.Behind.{alias_behind, enum_behind, global_behind, struct_behind}
use Rattle.tsa_profile_items.proofs.items.item.Goals as goal
use Rattle.tsa_profile_context.proofs.Firsts.{nothing_fails}

abbrev told : Unit → Knowledge → Item → Option Failure
told u k x = first (item_premises u k.attributes (attributes_behind u k.attributes k.here (item_shape x)) k.here (item_shape x))

pub returns-in-Structure-clause-behind : goal.returns-in-Structure-clause-behind
returns-in-Structure-clause-behind c =
    on_ok_weaker c.structure.result
    (λ h. h ∙ struct_behind (unit_at c.args.ground.now) c.args.known.now c.in-Structure.def ∙ sym (ap (λ x. behind (unit_at c.args.ground.now) c.args.known.now (item_shape x)) c.in-Structure.is))
    c.structure.ensures.known

pub returns-in-Global-clause-behind : goal.returns-in-Global-clause-behind
returns-in-Global-clause-behind c =
    on_ok_weaker c.global.result
    (λ h. h ∙ global_behind (unit_at c.args.ground.now) c.args.known.now c.in-Global.decl ∙ sym (ap (λ x. behind (unit_at c.args.ground.now) c.args.known.now (item_shape x)) c.in-Global.is))
    c.global.ensures.known

pub returns-in_ok-know_alias-in-Alias-clause-judged : goal.returns-in_ok-know_alias-in-Alias-clause-judged
returns-in_ok-know_alias-in-Alias-clause-judged c = ap (told (unit_at c.args.ground.now) c.args.known.now) c.in-Alias.is ∙ nothing_fails

pub returns-in_ok-know_alias-in-Alias-clause-behind : goal.returns-in_ok-know_alias-in-Alias-clause-behind
returns-in_ok-know_alias-in-Alias-clause-behind c =
    ap (with_scope c.know_alias.new.scope) c.known.view_is
    ∙ ap (λ s. with_scope s c.args.known.now) (c.in_ok-know_alias-in-Alias.ensures ∙ ap (λ m. behind_item m.here (item_shape (Alias c.in-Alias.def))) c.known.view_is)
    ∙ alias_behind (unit_at c.args.ground.now) c.args.known.now c.in-Alias.def
    ∙ sym (ap (λ x. behind (unit_at c.args.ground.now) c.args.known.now (item_shape x)) c.in-Alias.is)

pub returns-in_ok-know_enum-in-Enumeration-clause-judged : goal.returns-in_ok-know_enum-in-Enumeration-clause-judged
returns-in_ok-know_enum-in-Enumeration-clause-judged c = ap (told (unit_at c.args.ground.now) c.args.known.now) c.in-Enumeration.is ∙ nothing_fails

pub returns-in_ok-know_enum-in-Enumeration-clause-behind : goal.returns-in_ok-know_enum-in-Enumeration-clause-behind
returns-in_ok-know_enum-in-Enumeration-clause-behind c =
    ap (with_scope c.know_enum.new.scope) c.known-in-Enumeration.view_is
    ∙ ap (λ s. with_scope s c.args.known.now)
    (c.in_ok-know_enum-in-Enumeration.ensures ∙ ap (λ m. behind_item m.here (item_shape (Enumeration c.in-Enumeration.def))) c.known-in-Enumeration.view_is)
    ∙ enum_behind (unit_at c.args.ground.now) c.args.known.now c.in-Enumeration.def
    ∙ sym (ap (λ x. behind (unit_at c.args.ground.now) c.args.known.now (item_shape x)) c.in-Enumeration.is)
