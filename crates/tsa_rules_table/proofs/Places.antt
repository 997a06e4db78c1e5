-- Marks under numbers of 64 bits, seen under rows and the numbers of paths.
use Rattle.std.proofs.Common.{◌≡◌, ◌∙◌, ℕ, ◌+◌, ◌*◌, ◌^◌, ◌<◌, ◌≤◌, arith, nat_eq, nat_lt, Bool, true, false, cond, if◌then◌else◌, List, []}
use Rattle.std.proofs.Common.{◌∷◌, map, Option, Some, None, refl, sym, ap, subst}
use Rattle.std.proofs.lemmas.Bool.Decides.{nat_tests}
use Rattle.std.specs.Map.{lookup}
use Rattle.std.specs.Option.{unwrap_or}
use Rattle.tsa_rules.specs.declared.mark.Mark.{Mark}
use Rattle.tsa_rules.specs.Marks.{no_mark}
use Rattle.tsa_rules_table.specs.Rows.{mark_in, is_place, last_row, place_of, rows_of, OnlyBegunRowsSay, Puts, Rows}

abbrev key : ℕ → ℕ → ℕ
key row n = row * 2 ^ 32 + n

test_is : (row n k : ℕ) → n < 2 ^ 32 → is_place row n (place_of k) ≡ nat_eq (key row n) k
test_is row n k small = grind (arith, nat_tests)

test_past : (row n k : ℕ) → 2 ^ 32 ≤ n → is_place row n (place_of k) ≡ false
test_past row n k past = grind (arith, nat_tests)

same_place : (row n last number : ℕ) → n < 2 ^ 32 → number < 2 ^ 32 → nat_eq (key last number) (key row n) ≡ is_place last number (row, n)
same_place row n last number small there = grind (arith, nat_tests)

no_place : (row n last number : ℕ) → 2 ^ 32 ≤ n → number < 2 ^ 32 → is_place last number (row, n) ≡ false
no_place row n last number past there = grind (arith, nat_tests)

other_row : (row n last number count : ℕ) → last < count → count ≤ row → is_place last number (row, n) ≡ false
other_row row n last number count begun past = grind (arith, nat_tests)

found_at : (row n : ℕ) (es : List (ℕ × Mark)) → n < 2 ^ 32 → lookup (is_place row n) (map (λ e. (place_of e.0, e.1)) es) ≡ lookup (nat_eq (key row n)) es
found_at row n [] small = refl
found_at row n (e ∷ es) small = λ i. cond (test_is row n e.0 small i) (Some e.1) (found_at row n es small i)

found_past : (row n : ℕ) (es : List (ℕ × Mark)) → 2 ^ 32 ≤ n → lookup (is_place row n) (map (λ e. (place_of e.0, e.1)) es) ≡ None
found_past row n [] past = refl
found_past row n (e ∷ es) past = λ i. cond (test_past row n e.0 past i) (Some e.1) (found_past row n es past i)

-- the mark of a number of 32 bits is the one under its key, and any other number has none
pub mark_at : (count row n : ℕ) (es : List (ℕ × Mark)) → n < 2 ^ 32 → mark_in (rows_of count es) row n ≡ unwrap_or (lookup (nat_eq (key row n)) es) no_mark
mark_at count row n es small = ap (λ m. unwrap_or m no_mark) (found_at row n es small)

mark_past : (count row n : ℕ) (es : List (ℕ × Mark)) → 2 ^ 32 ≤ n → mark_in (rows_of count es) row n ≡ no_mark
mark_past count row n es past = ap (λ m. unwrap_or m no_mark) (found_past row n es past)

-- after a mark is put under the key of a number in the last row
module _ (count last number k : ℕ) (mark : Mark) (before after : List (ℕ × Mark)) (there : number < 2 ^ 32) (under : k ≡ key last number)
    (update : (q : ℕ) → lookup (nat_eq q) after ≡ cond (nat_eq k q) (Some mark) (lookup (nat_eq q) before)) where
  abbrev Chosen : Bool → ℕ → ℕ → Type 0
  Chosen b row n = mark_in (rows_of count after) row n ≡ (if b then mark else mark_in (rows_of count before) row n)

  chosen : (b : Bool) (m : Option Mark) → unwrap_or (cond b (Some mark) m) no_mark ≡ (if b then mark else unwrap_or m no_mark)
  chosen true m = refl
  chosen false m = refl

  put_within : (row n : ℕ) → n < 2 ^ 32 → Chosen (is_place last number (row, n)) row n
  put_within row n small =
      let found : Chosen (nat_eq k (key row n)) row n =
      mark_at count row n after small
      ∙ ap (λ m. unwrap_or m no_mark) (update (key row n))
      ∙ chosen (nat_eq k (key row n)) (lookup (nat_eq (key row n)) before)
      ∙ ap (λ m. if nat_eq k (key row n) then mark else m) (sym (mark_at count row n before small))
      in
      subst (λ b. Chosen b row n) (ap (λ l. nat_eq l (key row n)) under ∙ same_place row n last number small there) found

  put_past : (row n : ℕ) → 2 ^ 32 ≤ n → Chosen (is_place last number (row, n)) row n
  put_past row n past = subst (λ b. Chosen b row n) (sym (no_place row n last number past there)) (mark_past count row n after past ∙ sym (mark_past count row n before past))

  put_at : (row n : ℕ) → Chosen (is_place last number (row, n)) row n
  put_at row n = by (nat_lt n (2 ^ 32)) refl
    where
      by : (b : Bool) → nat_lt n (2 ^ 32) ≡ b → Chosen (is_place last number (row, n)) row n
      by true small = put_within row n (grind (arith, nat_tests))
      by false past = put_past row n (grind (arith, nat_tests))

  -- the rows that aren't begun still say nothing
  pub put_begun : last < count → OnlyBegunRowsSay (rows_of count before) → OnlyBegunRowsSay (rows_of count after)
  put_begun begun nothing row n past = subst (λ b. Chosen b row n) (other_row row n last number count begun past) (put_at row n) ∙ nothing row n past

  pub put_is : (old : Rows) → rows_of count before ≡ old → last ≡ last_row old → Puts old (rows_of count after) number mark
  put_is old e at = subst (λ m. Puts m (rows_of count after) number mark) e
      (record { count = refl; marks = λ row n. subst (λ r. Chosen (is_place r number (row, n)) row n) (at ∙ ap last_row (sym e)) (put_at row n) })
