-- Points that stand once in the blocks of a graph.
use Rattle.std.proofs.Common.{◌≡◌, ◌∙◌, ℕ, zero, suc, ◌+◌, ◌<◌, ◌≤◌, arith, Bool, true, false, nat_eq, nat_lt, ◌⊎◌, inl, inr, List, [], ◌∷◌}
use Rattle.std.proofs.Common.{length, get_or, Some, slice_get, refl, sym, ap}
use Rattle.std.proofs.lemmas.Bool.Decides.{nat_tests}
use Rattle.std.proofs.lemmas.Option.{none-some, same_Some}
use Rattle.tsa_graph.specs.declared.blocks.GraphBlock.{GraphBlock}
use Rattle.tsa_graph.specs.Graphs.{points_in}
use Rattle.tsa_graph.proofs.WaysMade.{equal}
use Rattle.tsa_graph.specs.Runs.{bit, times, times_in}

pub side : (p n : ℕ) → (p < n) ⊎ (n ≤ p)
side p n = by (nat_lt p n) refl
  where
    by : (b : Bool) → nat_lt p n ≡ b → (p < n) ⊎ (n ≤ p)
    by true e = inl (grind (arith, nat_tests, e))
    by false e = inr (grind (arith, nat_tests, e))

pub one_bit : (p q : ℕ) → q ≡ p → bit (nat_eq p q) ≡ 1
one_bit p q e = ap bit (equal p q (sym e))

pub bit_below : (p n : ℕ) → p < n → bit (nat_lt p n) ≡ 1
bit_below p n h = let t : nat_lt p n ≡ true = grind (arith, nat_tests, h) in ap bit t

pub bit_most : (b : Bool) → bit b ≤ 1
bit_most true = omega arith
bit_most false = omega arith

pub below_bit : (p n : ℕ) → 1 ≤ bit (nat_lt p n) → p < n
below_bit p n h = by (nat_lt p n) refl h
  where
    by : (b : Bool) → nat_lt p n ≡ b → 1 ≤ bit b → p < n
    by true e g = grind (arith, nat_tests, e)
    by false e g = let no : ⊥ = omega (arith, g) in absurd no

pub times_one : (p : ℕ) (ps : List ℕ) (i : ℕ) → i < length ps → get_or ps i 0 ≡ p → 1 ≤ times p ps
times_one p [] i h e = let no : ⊥ = omega (arith, h) in absurd no
times_one p (q ∷ ps) zero h e = let y = one_bit p q e in omega (arith, y)
times_one p (q ∷ ps) (suc i) h e = let r = times_one p ps i (omega (arith, h)) e in omega (arith, r)

times_two : (p : ℕ) (ps : List ℕ) (i j : ℕ) → i < j → j < length ps → get_or ps i 0 ≡ p → get_or ps j 0 ≡ p → 2 ≤ times p ps
times_two p [] i j l h e f = let no : ⊥ = omega (arith, h) in absurd no
times_two p (q ∷ ps) i zero l h e f = let no : ⊥ = omega (arith, l) in absurd no
times_two p (q ∷ ps) zero (suc j) l h e f =
    let y = one_bit p q e in
    let r = times_one p ps j (omega (arith, h)) f in omega (arith, y, r)
times_two p (q ∷ ps) (suc i) (suc j) l h e f = let r = times_two p ps i j (omega (arith, l)) (omega (arith, h)) e f in omega (arith, r)

pub times_block : (p : ℕ) (bs : List GraphBlock) (k : ℕ) (b : GraphBlock) → slice_get bs k ≡ Some b → times p b.points.items ≤ times_in p (points_in bs)
times_block p [] k b e = absurd (none-some b e)
times_block p (c ∷ bs) zero b e = let z = ap (λ d. times p d.points.items) (same_Some c b e) in omega (arith, z)
times_block p (c ∷ bs) (suc k) b e = let r = times_block p bs k b e in omega (arith, r)

times_blocks : (p : ℕ) (bs : List GraphBlock) (k l : ℕ) (b c : GraphBlock) → k < l → slice_get bs k ≡ Some b → slice_get bs l ≡ Some c
    → times p b.points.items + times p c.points.items ≤ times_in p (points_in bs)
times_blocks p [] k l b c h e f = absurd (none-some b e)
times_blocks p (d ∷ bs) k zero b c h e f = let no : ⊥ = omega (arith, h) in absurd no
times_blocks p (d ∷ bs) zero (suc l) b c h e f =
    let z = ap (λ d. times p d.points.items) (same_Some d b e) in
    let r = times_block p bs l c f in omega (arith, z, r)
times_blocks p (d ∷ bs) (suc k) (suc l) b c h e f = let r = times_blocks p bs k l b c (omega (arith, h)) e f in omega (arith, r)

-- a point that stands at most once has one place
module _ (p : ℕ) (bs : List GraphBlock) (few : times_in p (points_in bs) ≤ 1) (k l : ℕ) (b c : GraphBlock) (e : slice_get bs k ≡ Some b) (f : slice_get bs l ≡ Some c) (i j : ℕ)
    (h : i < length b.points.items) (g : j < length c.points.items) (x : get_or b.points.items i 0 ≡ p) (y : get_or c.points.items j 0 ≡ p) where
  pub same_block : k ≡ l
  same_block = by (side k l) (side l k)
    where
      two : (m n : ℕ) (d t : GraphBlock) → m < n → slice_get bs m ≡ Some d → slice_get bs n ≡ Some t → 1 ≤ times p d.points.items → 1 ≤ times p t.points.items → ⊥
      two m n d t s v w a z = let r = times_blocks p bs m n d t s v w in omega (arith, r, a, z, few)

      by : (k < l) ⊎ (l ≤ k) → (l < k) ⊎ (k ≤ l) → k ≡ l
      by (inl s) t = absurd (two k l b c s e f (times_one p b.points.items i h x) (times_one p c.points.items j g y))
      by (inr s) (inl t) = absurd (two l k c b t f e (times_one p c.points.items j g y) (times_one p b.points.items i h x))
      by (inr s) (inr t) = omega (arith, s, t)

  pub same_index : i ≡ j
  same_index = by (side i j) (side j i)
    where
      same : c ≡ b
      same = same_Some c b (sym f ∙ ap (slice_get bs) (sym same_block) ∙ e)

      long : length c.points.items ≡ length b.points.items
      long = ap (λ d. length d.points.items) same

      other : get_or b.points.items j 0 ≡ p
      other = ap (λ d. get_or d.points.items j 0) (sym same) ∙ y

      two : (m n : ℕ) → m < n → n < length b.points.items → get_or b.points.items m 0 ≡ p → get_or b.points.items n 0 ≡ p → ⊥
      two m n s w v z =
          let r = times_two p b.points.items m n s w v z in
          let o = times_block p bs k b e in omega (arith, r, o, few)

      by : (i < j) ⊎ (j ≤ i) → (j < i) ⊎ (i ≤ j) → i ≡ j
      by (inl s) t = absurd (two i j s (omega (arith, g, long)) x other)
      by (inr s) (inl t) = absurd (two j i t h other x)
      by (inr s) (inr t) = omega (arith, s, t)

-- a point that stands somewhere has a place
stands_at : (p : ℕ) (ps : List ℕ) → 1 ≤ times p ps → (i : ℕ) × (i < length ps) × (get_or ps i 0 ≡ p)
stands_at p [] h = let no : ⊥ = omega (arith, h) in absurd no
stands_at p (q ∷ ps) h = by (nat_eq p q) refl (side 0 (times p ps)) (stands_at p ps)
  where
    by : (b : Bool) → nat_eq p q ≡ b → (0 < times p ps) ⊎ (times p ps ≤ 0) → (1 ≤ times p ps → (i : ℕ) × (i < length ps) × (get_or ps i 0 ≡ p))
        → (i : ℕ) × (i < length (q ∷ ps)) × (get_or (q ∷ ps) i 0 ≡ p)
    by true e s r = (zero, omega arith, grind (arith, nat_tests, e))
    by false e (inl s) r = let at = r (omega (arith, s)) in let w = at.1 in (suc at.0, omega (arith, w), at.2)
    by false e (inr s) r = let z = ap bit e in let no : ⊥ = omega (arith, s, z, h) in absurd no

pub stands_in : (p : ℕ) (bs : List GraphBlock) → 1 ≤ times_in p (points_in bs)
    → (k : ℕ) × (b : GraphBlock) × (slice_get bs k ≡ Some b) × (i : ℕ) × (i < length b.points.items) × (get_or b.points.items i 0 ≡ p)
stands_in p [] h = let no : ⊥ = omega (arith, h) in absurd no
stands_in p (c ∷ bs) h = by (side 0 (times p c.points.items)) (stands_in p bs)
  where
    by : (0 < times p c.points.items) ⊎ (times p c.points.items ≤ 0)
        → (1 ≤ times_in p (points_in bs) → (k : ℕ) × (b : GraphBlock) × (slice_get bs k ≡ Some b) × (i : ℕ) × (i < length b.points.items) × (get_or b.points.items i 0 ≡ p))
        → (k : ℕ) × (b : GraphBlock) × (slice_get (c ∷ bs) k ≡ Some b) × (i : ℕ) × (i < length b.points.items) × (get_or b.points.items i 0 ≡ p)
    by (inl s) r = let at = stands_at p c.points.items (omega (arith, s)) in (zero, c, refl, at.0, at.1, at.2)
    by (inr s) r = let at = r (omega (arith, s, h)) in (suc at.0, at.1, at.2, at.3, at.4, at.5)
