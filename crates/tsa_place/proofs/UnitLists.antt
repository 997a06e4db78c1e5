-- The items of a unit one by one.
use Rattle.std.proofs.Common.{◌≡◌, ◌∙◌, ℕ, suc, ◌+◌, arith, List, [], ◌∷◌, drop, length, Some, None, Result}
use Rattle.std.proofs.Common.{Ok, Err, sym, ap}
use Rattle.tsa_base.specs.declared.token.Span.{Span}
use Rattle.tsa_tree.specs.declared.item.Item.{Item}
use Rattle.tsa_tree.specs.types.Scopes.{Scope}
use Rattle.tsa_tree.specs.units.Shapes.{item_shape, item_shapes}
use Rattle.tsa_place.specs.declared.refusal.PlaceRefusal.{PlaceRefusal}
use Rattle.tsa_place.specs.declared.refusal.PlaceRefusal.TheVariants.{TooMany, NoMemory}
use Rattle.tsa_place.specs.Answers.{Places, GivesAll}
use Rattle.tsa_place_model.specs.Calls.{Layout}
use Rattle.tsa_place_model.specs.Items.{behind_data}
use Rattle.tsa_place_model.proofs.StructCounts.{same_structs}
use Rattle.tsa_place_model.specs.Units.{data_placed, too_many_at, or_behind, placed_behind}

module _ (items : List Item) (i : ℕ) (here : Scope) (l : Layout) where
  abbrev found : Scope → Layout → ℕ → Result Layout Span
  found s m j = placed_behind s m (item_shapes (drop j items))

  -- none is left
  pub items_end : drop i items ≡ [] → found here l i ≡ Ok l
  unfolding placed_behind
  items_end e = ap (λ xs. placed_behind here l (item_shapes xs)) e

  module _ (x : Item) (at_i : drop i items ≡ x ∷ drop (suc i) items) where
    whole : found here l i ≡ or_behind (too_many_at here l (item_shape x)) (found (behind_data here (item_shape x)) (data_placed here l (item_shape x)) (suc i))
    unfolding placed_behind
    whole = ap (λ xs. placed_behind here l (item_shapes xs)) at_i

    -- the next one has too many
    pub items_stop : (span : Span) → too_many_at here l (item_shape x) ≡ Some span → found here l i ≡ Err span
    items_stop span h = whole ∙ ap (λ o. or_behind o (found (behind_data here (item_shape x)) (data_placed here l (item_shape x)) (suc i))) h

    -- the next one hasn't
    pub items_next : (there : Scope) (m : Layout) → too_many_at here l (item_shape x) ≡ None → there ≡ behind_data here (item_shape x) → m ≡ data_placed here l (item_shape x)
        → found there m (i + 1) ≡ found here l i
    items_next there m none is places =
        let plus : suc i ≡ i + 1 = omega arith in
        ap (λ s. found s m (i + 1)) is ∙ ap (λ n. found (behind_data here (item_shape x)) n (i + 1)) places
        ∙ ap (found (behind_data here (item_shape x)) (data_placed here l (item_shape x))) (sym plus)
        ∙ sym (whole ∙ ap (λ o. or_behind o (found (behind_data here (item_shape x)) (data_placed here l (item_shape x)) (suc i))) none)

    pub same_next : (there : Scope) (m : Layout) → there ≡ behind_data here (item_shape x) → m ≡ data_placed here l (item_shape x) → length here.structs ≡ length l.structs
        → length there.structs ≡ length m.structs
    same_next there m is places h = ap (λ s. length s.structs) is ∙ same_structs here l (item_shape x) h ∙ ap (λ n. length n.structs) (sym places)

    -- a refusal at the next one is one of all
    pub items_refused : (there : Scope) (m : Layout) (refusal : PlaceRefusal) → Places here l (item_shape x) there m (Err refusal) → GivesAll (found here l i) m (Err refusal)
    items_refused there m (TooMany span) h = items_stop span h
    items_refused there m NoMemory h = tt
