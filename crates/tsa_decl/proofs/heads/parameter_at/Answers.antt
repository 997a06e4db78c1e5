use Rattle.std.proofs.Common.{◌∙◌, sym, arith}
use Rattle.tsa_expr.specs.Source.{input, named}
use Rattle.tsa_decl.proofs.ParameterLaws.{parameter_named, parameter_unnamed, from_star, from_type}
use Rattle.tsa_decl.proofs.heads.parameter_at.Goals.{then-star, else-star}
use Rattle.tsa_decl.proofs.heads.parameter_at.Goals as goal

pub returns-in_default : goal.returns-in_default
returns-in_default c =
    record {
      gives =
          parameter_unnamed _ _ c.args.at _ c.in_ok-specified.specified.next _ c.if-star.from c.over-span.result _ c.in_ok-specified.ensures.gives
          c.star_at-star.ensures.is (λ e. c.in_default.not-Name (c.star_at-star.ensures.there ∙ e))
          (elim c.if-star.branch [
            | then-star w ↦ from_star (input c.args.reader) (named c.args.reader) c.star_at-star.result.pointer c.args.at c.in_ok-specified.specified.next c.if-star.from w.if-star.true w.from-is
            | else-star w ↦ from_type (input c.args.reader) (named c.args.reader) c.star_at-star.result.pointer c.args.at c.in_ok-specified.specified.next c.if-star.from w.if-star.false w.from-is
          ])
          c.over-span.ensures c.parameter_of.ensures.is;
      ends =
          (omega (arith, c.in_ok-specified.ensures.ends.0, c.star_at-star.ensures.ends), c.star_at-star.ensures.within c.in_ok-specified.ensures.ends.1);
    }

pub returns-clause-gives : goal.returns-clause-gives
returns-clause-gives c =
    parameter_named _ _ c.args.at _ c.in_ok-specified.specified.next _ _ c.over-span-2.result _ c.in_ok-specified.ensures.gives
    c.star_at-star.ensures.is (sym c.star_at-star.ensures.there ∙ c.in-Name.is) c.in_ok-name.ensures c.over-span-2.ensures c.parameter_of-2.ensures.is
