use Rattle.std.proofs.Common.{◌≡◌, ◌∙◌, None, sym, ap, ap₂, subst}
use Rattle.tsa_types_row.specs.ItemRows.{row_in_unit}
use Rattle.tsa_core_program.proofs.UnitFound.{bodies_are_found}
use Rattle.tsa_core_program.specs.Programs.{bodies_found}
use Rattle.tsa_core_program.specs.Walks.{lists_of, walk_behind, outset}
use Rattle.tsa_tree.proofs.types.UnitNodes.{premises_tell_it}
use Rattle.tsa_tree.specs.types.Units.{refusal_of_types}
use Rattle.tsa_tree.specs.units.Shapes.{item_shapes}
use Rattle.tsa_core_program.proofs.program.Program.new.Goals as goal

pub invariant_of-result : goal.invariant_of-result
invariant_of-result c =
    let items = item_shapes c.args.typed.now.unit.now.items.now in
    let is : c.unit-unit.result ≡ c.args.typed.now.unit = c.unit-unit.ensures in
    let found = c.into_lists-lists.ensures
    ∙ ap lists_of
    (c.in_ok-along.ensures
    ∙ ap₂ (λ w row. walk_behind 0 w row) (c.new-walk.ensures ∙ ap outset c.in_ok-counts_of.ensures)
    (c.row.ensures ∙ ap (λ u. row_in_unit (item_shapes u.now.items.now)) (sym is))) in
    let typed = subst (λ u. refusal_of_types (item_shapes u.now.items.now) ≡ None) (sym is) (sym (premises_tell_it items) ∙ c.args.typed.now.typed) in
    let here = item_shapes c.unit-unit.result.now.items.now in
    record {
      typed = typed;
      found = found;
      meant = ap (bodies_found (row_in_unit here)) found ∙ bodies_are_found here typed;
    }
