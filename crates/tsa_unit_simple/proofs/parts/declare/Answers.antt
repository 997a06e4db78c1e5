use Rattle.std.proofs.Common.{◌∙◌, sym, subst, refl}
use Rattle.tsa_unit_simple.specs.PointNumbers.{ArePointed}
use Rattle.tsa_unit_simple.proofs.MarkLaws.{locals_one, locals_none, pushed}
use Rattle.tsa_unit_simple.proofs.parts.declare.Goals as goal

-- src/parts.rt:218:5
pub locals-preserved : goal.locals-preserved
locals-preserved c = record {
  listed = c.locals.invariant.listed ∙ locals_one _ _ _ _ _ _ c.locals-test.true refl c.in_ok-local.ensures.listed;
  pointed = λ start h. subst (ArePointed start c.local.new.points.items) (sym c.in_ok-local.ensures.listed) (pushed start _ _ _ _ (c.locals.invariant.pointed start h) c.in_ok-local.ensures.pointed);
}

-- src/parts.rt:206:1
pub returns-clause-listed : goal.returns-clause-listed
returns-clause-listed c = sym (c.locals.invariant.listed ∙ locals_none _ _ _ c.locals-test.false)
