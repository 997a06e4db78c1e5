use Rattle.std.proofs.Common.{rules, ◌≢◌, ◌∙◌, subst, ap, sym}
use Rattle.tsa_tree.specs.declared.sign.Sign.TheVariants as sign
use Rattle.tsa_tree.specs.tokens.Signs.{begins_type}
use Rattle.tsa_unit_simple.proofs.PartLaws.{init_goes, init_pointed}
use Rattle.tsa_unit_simple.proofs.parts.for_init.Goals as goal

pub returns : goal.returns
returns c = record {
  gives =
      init_goes _ _ _ _ c.in_ok-whole.whole.stmt.now _ _ (subst (λ s. s ≢ sign.Semicolon) c.sign-sign.ensures.is c.in_default.not-Semicolon)
      (ap begins_type (sym c.sign-sign.ensures.is) ∙ sym c.begins_type.ensures ∙ c.if-begins_type.false) c.in_ok-whole.ensures.gives c.in_ok-next.ensures.gives;
  pointed = init_pointed _ _ _ _ _ _ c.in_ok-whole.whole.stmt _ c.in_ok-whole.ensures.gives c.in_ok-whole.ensures.pointed;
  ends = search rules;
}
