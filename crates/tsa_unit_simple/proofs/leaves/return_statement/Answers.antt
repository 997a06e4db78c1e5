use Rattle.std.proofs.Common.{rules, ◌≢◌, subst}
use Rattle.tsa_tree.specs.declared.sign.Sign.TheVariants as sign
use Rattle.tsa_unit_simple.proofs.LeafLaws.{return_answers}
use Rattle.tsa_unit_simple.proofs.leaves.return_statement.Goals as goal

pub returns : goal.returns
returns c = record {
  gives =
      return_answers _ _ _ _ _ _ _ (subst (λ s. s ≢ sign.Semicolon) c.sign.ensures.is c.in_default.not-Semicolon) c.in_ok-value.ensures.gives
      c.value_return.ensures.gives;
  pointed = search rules;
  ends = search rules;
}
