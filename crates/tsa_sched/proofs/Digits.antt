-- Numbers, digit by digit.
use Rattle.std.proofs.Common.{◌≡◌, ◌∙◌, ℕ, zero, suc, ◌+◌, ◌-◌, ◌*◌, ◌/◌, ◌%◌, ◌<◌, ◌≤◌, ◌^◌, ◌++◌, ◌==◌, ◌&&◌, nat_le, nat_lt, Bool, true, false, ℤ, pos, negsuc, List, [], ◌∷◌, Option, Some, None, option_map, if◌then◌else◌, refl, sym, ap, subst, arith}
use Rattle.std.proofs.lemmas.Bool.Decides.{nat_tests}
use Rattle.std.specs.Fmt.{decimal}
use Rattle.std.proofs.lemmas.Fmt.{decimal_digit, decimal_step}
use Rattle.tsa_base.specs.Bytes.{is_digit}
use Rattle.tsa_sched.specs.Parts.{digit, longer, first_of_negative}

-- a digit is one
pub is_digit_of : (d : ℕ) → d < 10 → is_digit (48 + d) ≡ true
is_digit_of d h = grind (arith, nat_tests, h)

pub digit_of : (d : ℕ) → d < 10 → digit (48 + d) ≡ Some d
digit_of d h = ap (λ b. if b then Some (48 + d - 48) else None) (is_digit_of d h) ∙ ap Some (omega arith)

pub first_of : (d : ℕ) → 0 < d → d < 10 → first_of_negative (48 + d) ≡ Some d
first_of d p h = let is : (nat_lt 48 (48 + d) && nat_le (48 + d) 57) ≡ true = grind (arith, nat_tests, h, p) in
    ap (λ b. if b then Some (48 + d - 48) else None) is ∙ ap Some (omega arith)

pub longer_of : (limit n d : ℕ) → d < 10 → 0 < n → n * 10 + d ≤ limit → longer limit n (48 + d) ≡ Some (n * 10 + d)
longer_of limit n d h p small =
    let same : n * 10 + (48 + d - 48) ≡ n * 10 + d = omega arith in
    let fits : nat_le (n * 10 + (48 + d - 48)) limit ≡ true = grind (arith, nat_tests, same, small) in
    let some : nat_lt 0 n ≡ true = grind (arith, nat_tests, p) in
    ap (λ b. if b && (nat_lt 0 n && nat_le (n * 10 + (48 + d - 48)) limit) then Some (n * 10 + (48 + d - 48)) else None) (is_digit_of d h)
    ∙ ap (λ b. if b && nat_le (n * 10 + (48 + d - 48)) limit then Some (n * 10 + (48 + d - 48)) else None) some
    ∙ ap (λ b. if b then Some (n * 10 + (48 + d - 48)) else None) fits
    ∙ ap Some same

-- and where something is read, it was a digit
pub record IsDigit (b d : ℕ) : Type 0 where
  pub byte : b ≡ 48 + d
  pub low : d < 10

pub digit_is : (b d : ℕ) → digit b ≡ Some d → IsDigit b d
digit_is b d e = by (is_digit b) refl e
  where
    by : (t : Bool) → is_digit b ≡ t → (if t then Some (b - 48) else None) ≡ Some d → IsDigit b d
    by true is e = let same : b - 48 ≡ d = cc in
        let range : (48 ≤ b) × (b ≤ 57) = (grind (arith, nat_tests, is), grind (arith, nat_tests, is)) in
        record { byte = omega (arith, same, range.0, range.1); low = omega (arith, same, range.0, range.1) }
    by false is e = cc

pub first_is : (b d : ℕ) → first_of_negative b ≡ Some d → IsDigit b d × (0 < d)
first_is b d e = by (nat_lt 48 b && nat_le b 57) refl e
  where
    by : (t : Bool) → (nat_lt 48 b && nat_le b 57) ≡ t → (if t then Some (b - 48) else None) ≡ Some d → IsDigit b d × (0 < d)
    by true is e = let same : b - 48 ≡ d = cc in
        let range : (48 < b) × (b ≤ 57) = (grind (arith, nat_tests, is), grind (arith, nat_tests, is)) in
        (record { byte = omega (arith, same, range.0, range.1); low = omega (arith, same, range.0, range.1) }, omega (arith, same, range.0, range.1))
    by false is e = cc

pub record IsLonger (limit n b m : ℕ) : Type 0 where
  pub digit : ℕ
  pub is_digit : IsDigit b digit
  pub some : 0 < n
  pub more : m ≡ n * 10 + digit
  pub fits : m ≤ limit

pub longer_is : (limit n b m : ℕ) → longer limit n b ≡ Some m → IsLonger limit n b m
longer_is limit n b m e = by (is_digit b && (nat_lt 0 n && nat_le (n * 10 + (b - 48)) limit)) refl e
  where
    by : (t : Bool) → (is_digit b && (nat_lt 0 n && nat_le (n * 10 + (b - 48)) limit)) ≡ t → (if t then Some (n * 10 + (b - 48)) else None) ≡ Some m → IsLonger limit n b m
    by true is e = let same : n * 10 + (b - 48) ≡ m = cc in
        let low : 48 ≤ b = grind (arith, nat_tests, is) in
        let high : b ≤ 57 = grind (arith, nat_tests, is) in
        let some : 0 < n = grind (arith, nat_tests, is) in
        let fits : n * 10 + (b - 48) ≤ limit = grind (arith, nat_tests, is) in
        record {
          digit = b - 48;
          is_digit = record { byte = omega (arith, low, high); low = omega (arith, low, high) };
          some = some;
          more = sym same;
          fits = subst (λ k. k ≤ limit) same fits;
        }
    by false is e = cc

-- a decimal with one digit more
pub decimal_more : (n d : ℕ) → 0 < n → d < 10 → n * 10 + d < 2 ^ 64 → decimal (n * 10 + d) ≡ decimal n ++ ((48 + d) ∷ [])
decimal_more n d p h small =
    let tens : (n * 10 + d) / 10 ≡ n = omega (arith, h) in
    let ones : (n * 10 + d) % 10 ≡ d = omega (arith, h) in
    decimal_step (n * 10 + d) (omega (arith, p)) small
    ∙ ap (λ k. decimal k ++ ((48 + (n * 10 + d) % 10) ∷ [])) tens
    ∙ ap (λ k. decimal n ++ ((48 + k) ∷ [])) ones
