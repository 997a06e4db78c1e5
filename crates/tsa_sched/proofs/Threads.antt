-- Texts of things one after another.
use Rattle.std.proofs.Common.{◌≡◌, ◌∙◌, ◌+◌, ◌≤◌, ◌<◌, arith, ℕ, suc, List, ◌∷◌, ◌++◌, length, drop, slice_index_or, sym, ap, append_assoc, append-nil}
use Rattle.std.proofs.Math.Seq.{drop-cons}
use Rattle.std.proofs.lemmas.List.{drop_all}
use Rattle.std.specs.List.{flat_map}

module _ {X : Type 0} (text : X → List ℕ) (xs : List X) (i : ℕ) where
  pub one_on : (d : X) (old new whole : List ℕ) → i < length xs → new ≡ old ++ text (slice_index_or xs i d) → old ++ flat_map text (drop i xs) ≡ whole
      → new ++ flat_map text (drop (i + 1) xs) ≡ whole
  one_on d old new whole less is h =
      let plus : suc i ≡ i + 1 = omega arith in
      let rest = drop-cons xs i d less ∙ ap (λ k. slice_index_or xs i d ∷ drop k xs) plus in
      ap (λ t. t ++ flat_map text (drop (i + 1) xs)) is
      ∙ append_assoc old (text (slice_index_or xs i d)) (flat_map text (drop (i + 1) xs))
      ∙ sym (ap (λ ys. old ++ flat_map text ys) rest)
      ∙ h

  pub all_on : (old whole : List ℕ) → length xs ≤ i → old ++ flat_map text (drop i xs) ≡ whole → old ≡ whole
  all_on old whole end h = sym (append-nil old) ∙ sym (ap (λ ys. old ++ flat_map text ys) (drop_all i xs end)) ∙ h
