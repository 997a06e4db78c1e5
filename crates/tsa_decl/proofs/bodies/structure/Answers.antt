use Rattle.std.proofs.Common.{◌∙◌, sym, ap, refl, Ok, rules}
use Rattle.tsa_tree.specs.units.Shapes.{item_shapes}
use Rattle.tsa_decl.proofs.BegunLaws.{more_pointed}
use Rattle.tsa_decl.proofs.BodyLaws.{structure_goes, structure_bodiless, structure_nameless, structure_endless}
use Rattle.tsa_decl.proofs.bodies.structure.Goals as goal

pub returns-clause-gives : goal.returns-clause-gives
returns-clause-gives c =
    structure_goes _ _ _ _ _ _ _ _ _ _ _ _ _ _ c.over-span.result c.in_ok-body.ensures.gives c.in_ok-alias.ensures.gives c.in_ok-next.ensures.gives
    c.in_ok-next.ensures.ends.0 c.over-span.ensures refl
    ∙ ap (λ l. Ok (item_shapes l, c.in_ok-next.next)) (sym c.in_ok-keep_structure.ensures.gives)

pub returns-clause-pointed : goal.returns-clause-pointed
returns-clause-pointed c = more_pointed _ _ _ c.in_ok-keep_structure.ensures.gives tt

pub returns-in_err-body-clause-gives : goal.returns-in_err-body-clause-gives
returns-in_err-body-clause-gives c = search (rules, structure_bodiless)

pub returns-in_err-alias-clause-gives : goal.returns-in_err-alias-clause-gives
returns-in_err-alias-clause-gives c = search (rules, structure_nameless)

pub returns-in_err-next-clause-gives : goal.returns-in_err-next-clause-gives
returns-in_err-next-clause-gives c = search (rules, structure_endless)
