-- Enumerators one by one.
use Rattle.std.proofs.Common.{◌≡◌, ◌∙◌, ℕ, suc, ◌+◌, arith, ℤ, List, [], ◌∷◌, drop, Option, Some, refl, sym, ap}
use Rattle.tsa_tree.specs.declared.item.Enumerator.{Enumerator}
use Rattle.tsa_tree.specs.declarations.Shapes.{enumerator_shape, enumerator_shapes}
use Rattle.tsa_tree.specs.types.Enums.{next_after, enumerator_entry}
use Rattle.tsa_tree.specs.types.Scopes.{Scope}
use Rattle.tsa_place_model.specs.Parts.{unless_taken}
use Rattle.tsa_place_model.specs.Items.{worth, enumerators_behind}

module _ (values : List Enumerator) (i : ℕ) (here : Scope) (last : Option ℤ) where
  abbrev left : Scope → ℤ → ℕ → Scope
  left s next j = enumerators_behind s next (enumerator_shapes (drop j values))

  -- none is left
  pub known_end : drop i values ≡ [] → left here (next_after last) i ≡ here
  unfolding enumerators_behind
  known_end e = ap (λ xs. enumerators_behind here (next_after last) (enumerator_shapes xs)) e

  one_more : (s : Scope) (next : ℤ) (x : Enumerator) (rest : List Enumerator) → enumerators_behind s next (enumerator_shapes (x ∷ rest))
      ≡ enumerators_behind (unless_taken x.name.text.now (enumerator_entry (worth s (enumerator_shape x) next)) s) (next_after (Some (worth s (enumerator_shape x) next))) (enumerator_shapes rest)
  unfolding enumerators_behind
  one_more s next x rest = refl

  -- the next one
  pub known_next : (x : Enumerator) → drop i values ≡ x ∷ drop (suc i) values → (y z : ℤ) (there : Scope) → y ≡ z → z ≡ worth here (enumerator_shape x) (next_after last)
      → there ≡ unless_taken x.name.text.now (enumerator_entry z) here → left there (next_after (Some y)) (i + 1) ≡ left here (next_after last) i
  known_next x at_i y z there same z_is is =
      let plus : suc i ≡ i + 1 = omega arith in
      ap (λ w. left there (next_after (Some w)) (i + 1)) same
      ∙ ap (λ s. left s (next_after (Some z)) (i + 1)) is
      ∙ ap (λ w. left (unless_taken x.name.text.now (enumerator_entry w) here) (next_after (Some w)) (i + 1)) z_is
      ∙ ap (left (unless_taken x.name.text.now (enumerator_entry (worth here (enumerator_shape x) (next_after last))) here) (next_after (Some (worth here (enumerator_shape x) (next_after last)))))
      (sym plus)
      ∙ sym (ap (λ xs. enumerators_behind here (next_after last) (enumerator_shapes xs)) at_i ∙ one_more here (next_after last) x (drop (suc i) values))
