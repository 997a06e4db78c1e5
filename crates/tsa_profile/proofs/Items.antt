-- What is known behind items, one by one.
use Rattle.std.proofs.Common.{◌≡◌, ◌∙◌, ℕ, ◌+◌, suc, arith, List, [], ◌∷◌, drop, None, sym, ap, subst}
use Rattle.tsa_tree.specs.declared.item.Item.{Item}
use Rattle.tsa_tree.specs.types.Premises.{first}
use Rattle.tsa_tree.specs.types.Scopes.{Scope}
use Rattle.tsa_tree.specs.types.Units.{item_premises, behind_item, items_premises}
use Rattle.tsa_tree.specs.units.Shapes.{item_shape, item_shapes}
use Rattle.tsa_core.proofs.NoFailure.{none_of_both}
use Rattle.tsa_profile.specs.Arguments.{behind_items}

module _ (items : List Item) (i : ℕ) (here : Scope) where
  -- none is left
  pub items_end : drop i items ≡ [] → behind_items here (item_shapes (drop i items)) ≡ here
  unfolding behind_items
  items_end e = ap (λ xs. behind_items here (item_shapes xs)) e

  module _ (x : Item) (at_i : drop i items ≡ x ∷ drop (suc i) items) where
    told : first (items_premises here (item_shapes (drop i items))) ≡ None
        → (first (item_premises here (item_shape x)) ≡ None) × (first (items_premises (behind_item here (item_shape x)) (item_shapes (drop (suc i) items))) ≡ None)
    unfolding items_premises
    told h =
        none_of_both (item_premises here (item_shape x)) (items_premises (behind_item here (item_shape x)) (item_shapes (drop (suc i) items)))
        (subst (λ xs. first (items_premises here (item_shapes xs)) ≡ None) at_i h)

    -- the next one is typed ..
    pub item_told : first (items_premises here (item_shapes (drop i items))) ≡ None → first (item_premises here (item_shape x)) ≡ None
    item_told h = (told h).0

    module _ (there : Scope) (known : there ≡ behind_item here (item_shape x)) where
      plus : suc i ≡ i + 1
      plus = omega arith

      -- .. and so are those behind it, where what it declares is known
      pub told_next : first (items_premises here (item_shapes (drop i items))) ≡ None → first (items_premises there (item_shapes (drop (i + 1) items))) ≡ None
      told_next h =
          ap (λ s. first (items_premises s (item_shapes (drop (i + 1) items)))) known
          ∙ ap (λ j. first (items_premises (behind_item here (item_shape x)) (item_shapes (drop j items)))) (sym plus)
          ∙ (told h).1

      pub items_next : behind_items there (item_shapes (drop (i + 1) items)) ≡ behind_items here (item_shapes (drop i items))
      unfolding behind_items
      items_next =
          ap (λ s. behind_items s (item_shapes (drop (i + 1) items))) known
          ∙ ap (λ j. behind_items (behind_item here (item_shape x)) (item_shapes (drop j items))) (sym plus)
          ∙ sym (ap (λ xs. behind_items here (item_shapes xs)) at_i)
