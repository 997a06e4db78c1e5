use Rattle.std.proofs.Common.{◌∙◌, ◌+◌, drop, sym, ap}
use Rattle.std.proofs.Math.Seq.{drop-cons}
use Rattle.std.proofs.lemmas.List.{drop_all}
use Rattle.tsa_tree.specs.attributes.Syntax.{attr_shapes}
use Rattle.tsa_tree.specs.declared.premise.Bearer.TheVariants as on
use Rattle.tsa_tree.specs.types.Attributes.{attributes_premises}
use Rattle.tsa_tree.specs.types.Premises.{or_else, first}
use Rattle.tsa_types_declarations.proofs.StructLaws.{beside, beside_end, beside_next, beside_past}
use Rattle.tsa_types_declarations.proofs.structs.beside_failure.Goals as goal
use Rattle.tsa_types_declarations.proofs.structs.beside_failure.Goals.{then-stands_beside+in_ok-attributes, else-stands_beside}

pub each-preserved : goal.each-preserved
each-preserved c =
    let at_i = drop-cons c.args.attrs.now c.each.attr-index _ c.each-test.true in
    let left = first (beside c.args.scope.now c.args.before c.args.place (attr_shapes (drop (c.each.attr-index + 1) c.args.attrs.now))) in
    elim c.if-stands_beside.branch [
      | then-stands_beside+in_ok-attributes w ↦
          ap (λ f. or_else f left) (w.failure-is ∙ w.first_of-failure.ensures)
          ∙ beside_next c.args.scope.now c.args.before c.args.place c.args.attrs.now c.each.attr-index _ at_i c.each.failure w.in_ok-attributes.field-0
          (sym c.stands_beside.ensures ∙ w.if-stands_beside.true)
          (w.in_ok-attributes.ensures.judged ∙ ap (λ l. first (attributes_premises c.args.scope.now on.Structure (attr_shapes l))) w.from_ref-alone.ensures.value)
          ∙ c.each.invariant
      | else-stands_beside w ↦
          ap (λ f. or_else f left) w.failure-is
          ∙ beside_past c.args.scope.now c.args.before c.args.place c.args.attrs.now c.each.attr-index _ at_i c.each.failure (sym c.stands_beside.ensures ∙ w.if-stands_beside.false)
          ∙ c.each.invariant
    ]

pub returns : goal.returns
returns c =
    sym (beside_end c.args.scope.now c.args.before c.args.place c.args.attrs.now c.each.attr-index c.each.failure (drop_all c.each.attr-index c.args.attrs.now c.each-test.false))
    ∙ c.each.invariant
