use Rattle.std.proofs.Common.{◌∙◌, sym, ap, refl, Ok}
use Rattle.tsa_tree.specs.declarations.Shapes.{base_shape}
use Rattle.tsa_tree.specs.units.Shapes.{item_shapes}
use Rattle.tsa_decl.proofs.BegunLaws.{more_pointed}
use Rattle.tsa_decl.proofs.BodyLaws.{gives_failed, plain_nameless, plain_endless, plain_goes}
use Rattle.tsa_decl.proofs.bodies.plain_alias.Goals as goal

pub returns-in_err-of-clause-gives : goal.returns-in_err-of-clause-gives
returns-in_err-of-clause-gives c =
    gives_failed _ _ _ _ c.from_residual.ensures.1
    (plain_nameless _ _ c.args.list.now.items (base_shape c.args.specified.base) c.args.specified.is_const c.args.specified.next _ c.in_err-of.ensures.gives)

pub returns-in_err-next-clause-gives : goal.returns-in_err-next-clause-gives
returns-in_err-next-clause-gives c =
    gives_failed _ _ _ _ c.from_residual-in_err-next.ensures.1
    (plain_endless _ _ c.args.list.now.items (base_shape c.args.specified.base) c.args.specified.is_const c.args.specified.next _ _ _ c.in_ok-of.ensures.gives c.in_err-next.ensures.gives)

pub returns-clause-gives : goal.returns-clause-gives
returns-clause-gives c =
    plain_goes _ _ c.args.list.now.items (base_shape c.args.specified.base) c.args.specified.is_const c.args.specified.next _ _ _ _ c.ctype.result c.over-span.result
    c.in_ok-of.ensures.gives c.in_ok-next.ensures.gives c.in_ok-next.ensures.ends.0 c.over-span.ensures c.ctype.ensures refl
    ∙ ap (λ l. Ok (item_shapes l, c.in_ok-next.next)) (sym c.in_ok-keep_alias.ensures.gives)

pub returns-clause-pointed : goal.returns-clause-pointed
returns-clause-pointed c = more_pointed _ _ _ c.in_ok-keep_alias.ensures.gives tt
