use Rattle.std.proofs.Common.{rules, ◌≡◌, ◌∙◌, ◌+◌, ◌++◌, ◌∷◌, [], ap, sym, subst, drop, Some}
use Rattle.std.proofs.lemmas.List.{drop_all, drop_more}
use Rattle.std.specs.Option.{option_map}
use Rattle.tsa_tree.specs.attributes.Syntax.{without_nots}
use Rattle.tsa_tree.specs.expressions.Shapes.{shape, shapes}
use Rattle.tsa_expr.specs.Readings.{joined}
use Rattle.tsa_attr.proofs.Negatives.{taken_one, taken_all}
use Rattle.tsa_attr.proofs.nodes.without_nots.Goals as goal

pub each-preserved : goal.each-preserved
each-preserved c =
    let pushed : c.push.new.self.items ≡ c.each.items.items ++ c.in-Some.inner ∷ [] = search rules in
    subst (λ zs. option_map (joined (shapes zs)) (without_nots (shapes (drop (c.each.arg-index + 1) c.args.args.now))) ≡ without_nots (shapes c.args.args.now)) (sym pushed)
    (taken_one c.each.items.items _ _ _ c.in-Some.inner _ (drop_more c.args.args.now c.each.arg-index _ c.each-test.true)
    (sym c.without_not.ensures ∙ ap (option_map shape) c.in-Some.is) c.each.invariant)

pub returns-clause-is : goal.returns-clause-is
returns-clause-is c =
    ap (λ zs. Some (shapes zs)) c.into_bump_slice.ensures ∙ taken_all c.each.items.items _ _ (drop_all c.each.arg-index c.args.args.now c.each-test.false) c.each.invariant
