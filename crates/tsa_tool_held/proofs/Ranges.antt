-- Numbers in a row.
use Rattle.std.proofs.Common.{◌≡◌, ◌∙◌, ℕ, zero, suc, ◌+◌, ◌-◌, ◌<◌, arith, [], ◌∷◌, ◌++◌, ap, ap₂}
use Rattle.std.specs.List.{range_with_len}

-- one number more
pub range_more : (a n : ℕ) → range_with_len a (n + 1) ≡ range_with_len a n ++ (a + n) ∷ []
range_more a zero = ap (λ x. x ∷ []) (omega arith)
range_more a (suc n) =
    let plus : a + 1 + n ≡ a + suc n = omega arith in
    let suc_plus : suc n + 1 ≡ suc (n + 1) = omega arith in
    ap (range_with_len a) suc_plus ∙ ap (λ xs. a ∷ xs) (range_more (a + 1) n ∙ ap (λ x. range_with_len (a + 1) n ++ x ∷ []) plus)

-- a number among them, with those before it and those behind
pub range_around : (a n i : ℕ) → i < n → range_with_len a n ≡ range_with_len a i ++ (a + i) ∷ range_with_len (a + i + 1) (n - (i + 1))
range_around a zero i less = absurd (omega (arith, less))
range_around a (suc n) zero less =
    let x : a ≡ a + 0 = omega arith in
    let y : a + 1 ≡ a + 0 + 1 = omega arith in
    let z : n ≡ suc n - 1 = omega arith in
    ap₂ (λ b xs. b ∷ xs) x (ap₂ range_with_len y z)
range_around a (suc n) (suc i) less =
    let x : a + 1 + i ≡ a + suc i = omega arith in
    let y : a + 1 + i + 1 ≡ a + suc i + 1 = omega arith in
    let z : n - (i + 1) ≡ suc n - (suc i + 1) = omega arith in
    ap (λ xs. a ∷ xs) (range_around (a + 1) n i (omega (arith, less)) ∙ ap₂ (λ b xs. range_with_len (a + 1) i ++ b ∷ xs) x (ap₂ range_with_len y z))

-- from 0 on
zero_plus : (n : ℕ) → 0 + n ≡ n
zero_plus n = omega arith

pub from_zero_more : (n : ℕ) → range_with_len 0 (n + 1) ≡ range_with_len 0 n ++ n ∷ []
from_zero_more n = range_more 0 n ∙ ap (λ x. range_with_len 0 n ++ x ∷ []) (zero_plus n)

pub from_zero_around : (n i : ℕ) → i < n → range_with_len 0 n ≡ range_with_len 0 i ++ i ∷ range_with_len (i + 1) (n - (i + 1))
from_zero_around n i less = range_around 0 n i less ∙ ap (λ x. range_with_len 0 i ++ x ∷ range_with_len (x + 1) (n - (i + 1))) (zero_plus i)
