-- The names of items one by one.
use Rattle.std.proofs.Common.{ℕ, ◌≡◌, ◌∙◌, ◌+◌, suc, List, [], ◌∷◌, drop, sym, ap}
use Rattle.tsa_tree.specs.declared.item.Item.{Item}
use Rattle.tsa_tree.specs.types.Scopes.{Scope}
use Rattle.tsa_types_row.specs.ItemRows.{row_in_item, row_in_unit_items}
use Rattle.tsa_types_row.specs.declared.node.Node.{Node}
use Rattle.tsa_tree.specs.types.Units.{behind_item}
use Rattle.tsa_tree.specs.units.Shapes.{item_shape, item_shapes}
use Rattle.tsa_types_expressions.proofs.RowLaws.{Notes, noted}
use Rattle.tsa_base.proofs.Numbers.{plus_one}
use Rattle.tsa_types_statements.proofs.StatementRows.{nothing, step}

module _ (notes : Notes) (here : Scope) (items : List Item) (i : ℕ) where
  abbrev items_from : Scope → ℕ → List Node
  items_from there j = row_in_unit_items there (item_shapes (drop j items))

  pub items_end : drop i items ≡ [] → noted notes (items_from here i) ≡ notes
  unfolding row_in_unit_items
  items_end e = nothing notes (items_from here i) (ap (λ xs. row_in_unit_items here (item_shapes xs)) e)

  pub items_next : (x : Item) → drop i items ≡ x ∷ drop (suc i) items → (there : Scope) (after : Notes) → there ≡ behind_item here (item_shape x)
      → after ≡ noted notes (row_in_item here (item_shape x)) → noted after (items_from there (i + 1)) ≡ noted notes (items_from here i)
  unfolding row_in_unit_items
  items_next x at_i there after known is =
      let inner = behind_item here (item_shape x) in
      ap (λ y. noted after (items_from y (i + 1))) known
      ∙ ap (λ j. noted after (items_from inner j)) (sym (plus_one i))
      ∙ step notes after (row_in_item here (item_shape x)) (items_from inner (suc i)) (items_from here i) is
      (ap (λ xs. row_in_unit_items here (item_shapes xs)) at_i)
