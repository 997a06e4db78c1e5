-- A further point is put at its place.
use Rattle.std.proofs.Common.{◌≡◌, ◌∙◌, ℕ, ◌+◌, ◌<◌, arith, ◌⊎◌, inl, inr, List, take, take_all, length, length-set, get_or}
use Rattle.std.proofs.Common.{get_or-set_same, get_or-set_other, set, All, Some, slice_get, refl, sym, ap, subst}
use Rattle.std.proofs.lemmas.List.Elements.{All-get_or, All-more, All-nil, All-weaker}
use Rattle.std.proofs.lemmas.Option.{slice_get_within, slice_get-get_or, get_or_from_slice_get}
use Rattle.tsa_graph.specs.declared.blocks.GraphBlock.{GraphBlock}
use Rattle.tsa_graph.proofs.Paths.{either}
use Rattle.tsa_graph.specs.declared.sequence.Place.{Place}
use Rattle.tsa_graph.specs.Placing.{IsPlaced, ArePut}
use Rattle.tsa_graph.specs.Rows.{place}
use Rattle.tsa_graph.proofs.Members.{any_default}

module _ (blocks : List GraphBlock) (places : List Place) (k i p : ℕ) (b : GraphBlock) (there : slice_get blocks k ≡ Some b) (within : i < length b.points.items)
    (point : get_or b.points.items i 0 ≡ p) (inside : p < length places) where
  put_here : IsPlaced blocks (set places p (place k i)) p
  put_here =
      let s = length-set places p (place k i) in
      record {
        at = place k i;
        is_at = slice_get-get_or (set places p (place k i)) p (place k i) (omega (arith, s, inside)) ∙ ap Some (get_or-set_same places p (place k i) (place k i) inside);
        block = b;
        is_there = there;
        within = within;
        point_is = point;
      }

  put_beside : (q : ℕ) → IsPlaced blocks places q → IsPlaced blocks (set places p (place k i)) q
  put_beside q h = by (either q p)
    where
      by : (q ≡ p) ⊎ (q ≡ p → ⊥) → IsPlaced blocks (set places p (place k i)) q
      by (inl is) = subst (IsPlaced blocks (set places p (place k i))) (sym is) put_here
      by (inr other) =
          let s = length-set places p (place k i) in
          let w = slice_get_within places q h.at h.is_at in
          record {
            at = h.at;
            is_at = slice_get-get_or (set places p (place k i)) q h.at (omega (arith, s, w))
                ∙ ap Some (get_or-set_other places p q (place k i) h.at other ∙ get_or_from_slice_get places q h.at h.at h.is_at);
            block = h.block;
            is_there = h.is_there;
            within = h.within;
            point_is = h.point_is;
          }

pub none_put : (number : ℕ) (points : List ℕ) (places : List Place) → ArePut number points (take 0 points) places places
none_put number points places = record { size = refl; kept = λ blocks b there same p h. h; put = λ blocks b there same. All-nil (IsPlaced blocks places) }

pub next_put : (number : ℕ) (points : List ℕ) (i p : ℕ) (old mid new : List Place) → i < length points → p ≡ get_or points i p → All (λ q. q < length old) points
    → ArePut number points (take i points) old mid → new ≡ set mid p (place number i) → ArePut number points (take (i + 1) points) old new
next_put number points i p old mid new within at all h is = subst (λ xs. ArePut number points (take (i + 1) points) old xs) (sym is) (record {
  size = length-set mid p (place number i) ∙ h.size;
  kept = λ blocks b there same q s. beside blocks b there same q (h.kept blocks b there same q s);
  put = λ blocks b there same.
      All-more (IsPlaced blocks after) points i p within (All-weaker (IsPlaced blocks mid) (IsPlaced blocks after) (beside blocks b there same) (take i points) (h.put blocks b there same))
      (subst (IsPlaced blocks after) at (put_here blocks mid number i p b there (inner b same) (read b same) inside));
})
  where
    inside : p < length mid
    inside =
        let s = h.size in
        let w : p < length old = subst (λ q. q < length old) (sym at) (All-get_or (λ q. q < length old) points i p within all) in omega (arith, s, w)

    after : List Place
    after = set mid p (place number i)

    inner : (b : GraphBlock) → b.points.items ≡ points → i < length b.points.items
    inner b same = let s = ap length same in omega (arith, s, within)

    read : (b : GraphBlock) → b.points.items ≡ points → get_or b.points.items i 0 ≡ p
    read b same = ap (λ xs. get_or xs i 0) same ∙ any_default points i 0 p within ∙ sym at

    beside : (blocks : List GraphBlock) (b : GraphBlock) → slice_get blocks number ≡ Some b → b.points.items ≡ points → (q : ℕ) → IsPlaced blocks mid q → IsPlaced blocks after q
    beside blocks b there same q s = put_beside blocks mid number i p b there (inner b same) (read b same) inside q s

pub all_put : (number : ℕ) (points : List ℕ) (i : ℕ) (old new : List Place) → length points ≡ i → ArePut number points (take i points) old new → ArePut number points points old new
all_put number points i old new is h = subst (λ some. ArePut number points some old new) (take_all i points (omega (arith, is))) h

-- the points of a further block
pub next_block : (blocks : List GraphBlock) (k : ℕ) (b : GraphBlock) (old new : List Place) → k < length blocks → b ≡ get_or blocks k b
    → All (λ c. All (IsPlaced blocks old) c.points.items) (take k blocks) → ArePut k b.points.items b.points.items old new
    → All (λ c. All (IsPlaced blocks new) c.points.items) (take (k + 1) blocks)
next_block blocks k b old new within at h p =
    let there : slice_get blocks k ≡ Some b = slice_get-get_or blocks k b within ∙ ap Some (sym at) in
    All-more (λ c. All (IsPlaced blocks new) c.points.items) blocks k b within
    (All-weaker (λ c. All (IsPlaced blocks old) c.points.items) (λ c. All (IsPlaced blocks new) c.points.items)
    (λ c s. All-weaker (IsPlaced blocks old) (IsPlaced blocks new) (p.kept blocks b there refl) c.points.items s) (take k blocks) h)
    (subst (λ c. All (IsPlaced blocks new) c.points.items) at (p.put blocks b there refl))
