-- Lists of points that stand once are no longer than there are points.
use Rattle.std.proofs.Common.{◌≡◌, ℕ, zero, suc, ◌+◌, ◌<◌, ◌≤◌, arith, nat_eq, ◌⊎◌, inl, inr, List, [], ◌∷◌, length, get_or, All}
use Rattle.std.proofs.lemmas.List.Elements.{All-head, All-tail, All-cons, All-nil}
use Rattle.tsa_graph.specs.declared.blocks.GraphBlock.{GraphBlock}
use Rattle.tsa_graph.specs.Graphs.{points_in}
use Rattle.tsa_graph.specs.Runs.{bit, times, times_in}
use Rattle.tsa_graph.proofs.Counts.{side, one_bit}

-- the sum of a number for each point below another
abbrev sum_to : (ℕ → ℕ) → ℕ → ℕ
sum_to f zero = 0
sum_to f (suc n) = f n + sum_to f n

sum_ones : (f : ℕ → ℕ) → ((p : ℕ) → f p ≤ 1) → (n : ℕ) → sum_to f n ≤ n
sum_ones f h zero = omega arith
sum_ones f h (suc n) = let a = h n in let r = sum_ones f h n in omega (arith, a, r)

sum_add : (f g : ℕ → ℕ) (n : ℕ) → sum_to (λ p. f p + g p) n ≡ sum_to f n + sum_to g n
sum_add f g zero = omega arith
sum_add f g (suc n) = let r = sum_add f g n in omega (arith, r)

sum_one : (q n : ℕ) → q < n → 1 ≤ sum_to (λ p. bit (nat_eq p q)) n
sum_one q zero h = let no : ⊥ = omega (arith, h) in absurd no
sum_one q (suc n) h = by (side q n) (sum_one q n)
  where
    by : (q < n) ⊎ (n ≤ q) → (q < n → 1 ≤ sum_to (λ p. bit (nat_eq p q)) n) → 1 ≤ sum_to (λ p. bit (nat_eq p q)) (suc n)
    by (inl l) r = let s = r l in omega (arith, s)
    by (inr l) r = let y = one_bit n q (omega (arith, h, l)) in omega (arith, y)

length_sum : (qs : List ℕ) (n : ℕ) → All (λ q. q < n) qs → length qs ≤ sum_to (λ p. times p qs) n
length_sum [] n h = omega arith
length_sum (q ∷ qs) n h =
    let r = length_sum qs n (All-tail (λ q. q < n) q qs h) in
    let s = sum_one q n (All-head (λ q. q < n) q qs h) in
    let a = sum_add (λ p. bit (nat_eq p q)) (λ p. times p qs) n in omega (arith, r, s, a)

pub length_once : (qs : List ℕ) (n : ℕ) → All (λ q. q < n) qs → ((p : ℕ) → times p qs ≤ 1) → length qs ≤ n
length_once qs n h once = let a = length_sum qs n h in let b = sum_ones (λ p. times p qs) once n in omega (arith, a, b)

-- the first points of blocks
abbrev heads : List GraphBlock → List ℕ
heads [] = []
heads (b ∷ bs) = get_or b.points.items 0 0 ∷ heads bs

heads_length : (bs : List GraphBlock) → length (heads bs) ≡ length bs
heads_length [] = omega arith
heads_length (b ∷ bs) = let r = heads_length bs in omega (arith, r)

heads_inside : (bs : List GraphBlock) (n : ℕ) → All (λ b. get_or b.points.items 0 0 < n) bs → All (λ q. q < n) (heads bs)
heads_inside [] n h = All-nil (λ q. q < n)
heads_inside (b ∷ bs) n h =
    All-cons (λ q. q < n) (get_or b.points.items 0 0) (heads bs) (All-head (λ c. get_or c.points.items 0 0 < n) b bs h) (heads_inside bs n (All-tail (λ c. get_or c.points.items 0 0 < n) b bs h))

head_times : (p : ℕ) (qs : List ℕ) → 0 < length qs → bit (nat_eq p (get_or qs 0 0)) ≤ times p qs
head_times p [] h = let no : ⊥ = omega (arith, h) in absurd no
head_times p (q ∷ qs) h = omega arith

heads_times : (p : ℕ) (bs : List GraphBlock) → All (λ b. 0 < length b.points.items) bs → times p (heads bs) ≤ times_in p (points_in bs)
heads_times p [] h = omega arith
heads_times p (b ∷ bs) h =
    let r = heads_times p bs (All-tail (λ c. 0 < length c.points.items) b bs h) in
    let s = head_times p b.points.items (All-head (λ c. 0 < length c.points.items) b bs h) in omega (arith, r, s)

pub blocks_once : (bs : List GraphBlock) (n : ℕ) → All (λ b. 0 < length b.points.items) bs → All (λ b. get_or b.points.items 0 0 < n) bs → ((p : ℕ) → times_in p (points_in bs) ≤ 1) → length bs ≤ n
blocks_once bs n some inside once =
    let l = heads_length bs in
    let h = length_once (heads bs) n (heads_inside bs n inside) (λ p. let a = heads_times p bs some in let b = once p in omega (arith, a, b)) in omega (arith, l, h)
