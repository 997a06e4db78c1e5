-- The suffix of a number's run, and the value of its digits one by one.
use Rattle.std.proofs.Common.{◌≡◌, ℕ, zero, suc, ◌+◌, ◌-◌, ◌*◌, ◌^◌, ◌<◌, ◌≤◌, Bool, true, false, ◌&&◌, List, [], ◌∷◌, length, get_or, take}
use Rattle.std.proofs.Common.{drop, Option, None, Some, refl, sym, ap, ◌∙◌, arith}
use Rattle.std.proofs.lemmas.Bool.Decides.{nat_tests}
use Rattle.std.proofs.lemmas.List.{drop_all, drop_more}
use Rattle.std.specs.Prelude.{nat_lt, if◌then◌else◌}
use Rattle.std.specs.List.{list_all}
use Rattle.tsa_base.specs.Numbers.{is_suffix, has_suffix, without_suffix, digit_value, is_digit_in, value_in}
use Rattle.tsa_base.proofs.Truths.{and_false}

suffix_at : (run : List ℕ) (i : ℕ) → length run ≡ i + 1 → has_suffix run ≡ is_suffix (get_or run i 0)
suffix_at [] i last = absurd (omega arith)
suffix_at (c ∷ []) zero last = refl
suffix_at (c ∷ []) (suc i) last = absurd (omega arith)
suffix_at (c ∷ d ∷ cs) zero last = absurd (omega arith)
suffix_at (c ∷ d ∷ cs) (suc i) last = suffix_at (d ∷ cs) i (omega arith)

without_at : (run : List ℕ) (i : ℕ) → length run ≡ i + 1 → without_suffix run ≡ (if is_suffix (get_or run i 0) then take i run else run)
without_at [] i last = absurd (omega arith)
without_at (c ∷ []) zero last = refl
without_at (c ∷ []) (suc i) last = absurd (omega arith)
without_at (c ∷ d ∷ cs) zero last = absurd (omega arith)
without_at (c ∷ d ∷ cs) (suc i) last = rw (without_at (d ∷ cs) i (omega arith)) (behind c (is_suffix (get_or (d ∷ cs) i 0)) (take i (d ∷ cs)) (d ∷ cs))
  where
    behind : (c : ℕ) (b : Bool) (xs ys : List ℕ) → ◌≡◌ {A = List ℕ} (c ∷ (if b then xs else ys)) (if b then (c ∷ xs) else (c ∷ ys))
    behind c true xs ys = refl
    behind c false xs ys = refl

-- the last byte decides
pub has_suffix_last : (run : List ℕ) → 1 ≤ length run → has_suffix run ≡ is_suffix (get_or run (length run - 1) 0)
has_suffix_last run some = suffix_at run (length run - 1) (omega arith)

pub with_suffix : (run : List ℕ) → 1 ≤ length run → is_suffix (get_or run (length run - 1) 0) ≡ true → take (length run - 1) run ≡ without_suffix run
with_suffix run some last = sym (without_at run (length run - 1) (omega arith) ∙ rw last refl)

pub with_none : (run : List ℕ) → 1 ≤ length run → is_suffix (get_or run (length run - 1) 0) ≡ false → run ≡ without_suffix run
with_none run some last = sym (without_at run (length run - 1) (omega arith) ∙ rw last refl)

times_one : (base v : ℕ) → 1 ≤ base → v ≤ base * v
times_one base v some = grind arith

-- more digits make no smaller value
value_grows : (base v : ℕ) (ds : List ℕ) → 1 ≤ base → v ≤ value_in base v ds
value_grows base v [] some = omega arith
value_grows base v (d ∷ ds) some = omega (arith, times_one base v some, value_grows base (base * v + digit_value d) ds some)

-- the value of digits that follow a value, where they are digits of the base and it has no more than 32 bits
abbrev pub written : ℕ → ℕ → List ℕ → Option ℕ
written base v ds = if list_all (is_digit_in base) ds && nat_lt (value_in base v ds) (2 ^ 32) then Some (value_in base v ds) else None

-- the value with one digit more
abbrev pub one_more : ℕ → ℕ → ℕ → Option ℕ
one_more base v d = if is_digit_in base d && nat_lt (base * v + digit_value d) (2 ^ 32) then Some (base * v + digit_value d) else None

abbrev pub after_one : ℕ → List ℕ → Option ℕ → Option ℕ
after_one base ds None = None
after_one base ds (Some v) = written base v ds

written_end : (base v : ℕ) → v < 2 ^ 32 → written base v [] ≡ Some v
written_end base v small = let e : nat_lt v (2 ^ 32) ≡ true = grind (arith, nat_tests) in rw e refl

too_wide : (base v : ℕ) (ds : List ℕ) → 1 ≤ base → nat_lt v (2 ^ 32) ≡ false → written base v ds ≡ None
too_wide base v ds some wide =
    let grown = value_grows base v ds some in
    let e : nat_lt (value_in base v ds) (2 ^ 32) ≡ false = grind (arith, nat_tests) in
    rw (e, and_false (list_all (is_digit_in base) ds)) refl

by_tests : (base v d : ℕ) (ds : List ℕ) → 1 ≤ base → (digit small : Bool) → is_digit_in base d ≡ digit → nat_lt (base * v + digit_value d) (2 ^ 32) ≡ small →
    written base v (d ∷ ds) ≡ after_one base ds (one_more base v d)
by_tests base v d ds some false small digit_is small_is = rw digit_is refl
by_tests base v d ds some true false digit_is small_is = rw (digit_is, small_is) (too_wide base (base * v + digit_value d) ds some small_is)
by_tests base v d ds some true true digit_is small_is = rw (digit_is, small_is) refl

written_more : (base v d : ℕ) (ds : List ℕ) → 1 ≤ base → written base v (d ∷ ds) ≡ after_one base ds (one_more base v d)
written_more base v d ds some = by_tests base v d ds some _ _ refl refl

-- the same at a place among the digits
pub written_past : (base v : ℕ) (ds : List ℕ) (i : ℕ) → length ds ≤ i → v < 2 ^ 32 → written base v (drop i ds) ≡ Some v
written_past base v ds i past small = rw (drop_all i ds past) (written_end base v small)

pub written_stop : (base v : ℕ) (ds : List ℕ) (i : ℕ) → 1 ≤ base → i < length ds → one_more base v (get_or ds i 0) ≡ None → written base v (drop i ds) ≡ None
written_stop base v ds i some within none =
    rw (drop_more ds i 0 within) (written_more base v (get_or ds i 0) (drop (i + 1) ds) some ∙ ap (after_one base (drop (i + 1) ds)) none)
