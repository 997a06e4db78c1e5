-- How the line and the column of a byte go on, and what a table of line starts tells of them.
use Rattle.std.proofs.Common.{◌≡◌, ℕ, zero, suc, ◌+◌, ◌-◌, ◌<◌, ◌≤◌, min, Bool, true, false, not, ◌==◌, List, [], ◌∷◌, ◌++◌, length, take}
use Rattle.std.proofs.Common.{get_or, refl, sym, ap, ◌∙◌, take-take, length-append, arith, count_by, cond, add-zero, zero-le, le_refl}
use Rattle.std.proofs.Common.{eq-eqb, ne_eqb, ⊎_elim, subst, eq-or-lt_of_le, eq-zero-or-pos}
use Rattle.std.specs.List.{suffix_len}
use Rattle.std.specs.List.Sorted.{IsNonDecreasing, IsPartitionPoint}
use Rattle.std.proofs.lemmas.List.{take_min, get_or_append_left, get_or_push}
use Rattle.std.proofs.lemmas.Bool.{cases_lt}
use Rattle.std.proofs.lemmas.Grind.{get_or_default_zero}
use Rattle.std.proofs.lemmas.List.Sums.{count_by_more_yes, count_by_more_no, suffix_len-take_yes, suffix_len-take_no, sum_by-take-le}
use Rattle.tsa_base.specs.Places.{line_at, column_at, place_at, AreStarts}
use Rattle.tsa_base.specs.declared.places.Place.{Place}

line-end : (bytes : List ℕ) (at : ℕ) → at < length bytes → (get_or bytes at 0 == 10) ≡ true → line_at bytes (at + 1) ≡ line_at bytes at + 1
unfolding line_at
line-end bytes at lt e = ap (λ n. n + 1) (count_by_more_yes (λ c. c == 10) bytes at 0 lt e)

line-other : (bytes : List ℕ) (at : ℕ) → at < length bytes → (get_or bytes at 0 == 10) ≡ false → line_at bytes (at + 1) ≡ line_at bytes at
unfolding line_at
line-other bytes at lt e = ap (λ n. n + 1) (count_by_more_no (λ c. c == 10) bytes at 0 lt e)

column-end : (bytes : List ℕ) (at : ℕ) → at < length bytes → (get_or bytes at 0 == 10) ≡ true → column_at bytes (at + 1) ≡ 1
unfolding column_at
column-end bytes at lt e =
    let same : at + 1 - 1 ≡ at = omega arith in
    let stops : not (get_or bytes (at + 1 - 1) 0 == 10) ≡ false = rw same (ap not e) in
    ap (λ n. n + 1) (suffix_len-take_no (λ c. not (c == 10)) bytes (at + 1) 0 (omega arith) (omega arith) stops)

column-other : (bytes : List ℕ) (at : ℕ) → at < length bytes → (get_or bytes at 0 == 10) ≡ false → column_at bytes (at + 1) ≡ column_at bytes at + 1
unfolding column_at
column-other bytes at lt e =
    let same : at + 1 - 1 ≡ at = omega arith in
    let passes : not (get_or bytes (at + 1 - 1) 0 == 10) ≡ true = rw same (ap not e) in
    let more = suffix_len-take_yes (λ c. not (c == 10)) bytes (at + 1) 0 (omega arith) (omega arith) passes in
    let more' : suffix_len (λ c. not (c == 10)) (take (at + 1) bytes) ≡ 1 + suffix_len (λ c. not (c == 10)) (take at bytes) = rw same at more in
    omega arith

column-some : (bytes : List ℕ) (at : ℕ) → 0 < column_at bytes at
unfolding column_at
column-some bytes at = omega arith

line-some : (bytes : List ℕ) (at : ℕ) → 0 < line_at bytes at
unfolding line_at
line-some bytes at = omega arith

line-le : (bytes : List ℕ) (s at : ℕ) → s ≤ at → line_at bytes s ≤ line_at bytes at
unfolding line_at
line-le bytes s at le =
    let fewer : count_by (λ c. c == 10) (take s bytes) ≤ count_by (λ c. c == 10) (take at bytes) = rw (take-take s at bytes le) at (sum_by-take-le (λ c. cond (c == 10) 1 0) (take at bytes) s) in
    omega arith

line-below-step : (bytes : List ℕ) (at u : ℕ) → at ≤ u → u < length bytes → column_at bytes (u + 1) ≡ 1 → (b : Bool) → (get_or bytes u 0 == 10) ≡ b → line_at bytes at < line_at bytes (u + 1)
line-below-step bytes at u le lt one true e = omega (arith, line-end bytes u lt e, line-le bytes at u le)
line-below-step bytes at u le lt one false e = absurd (omega (arith, column-other bytes u lt e, column-some bytes u))

-- the first column of a line stands after all bytes of the lines before
line-below : (bytes : List ℕ) (at s : ℕ) → at < s → s ≤ length bytes → column_at bytes s ≡ 1 → line_at bytes at < line_at bytes s
line-below bytes at s lt le one =
    let same : s - 1 + 1 ≡ s = omega arith in
    let one' : column_at bytes (s - 1 + 1) ≡ 1 = rw same one in
    rw same at (line-below-step bytes at (s - 1) (omega arith) (omega arith) one' (get_or bytes (s - 1) 0 == 10) refl)

column-add-step : (bytes : List ℕ) (s d : ℕ) → s + d < length bytes → line_at bytes (s + d + 1) ≡ line_at bytes s
    → (line_at bytes (s + d) ≡ line_at bytes s → column_at bytes (s + d) ≡ column_at bytes s + d)
    → (b : Bool) → (get_or bytes (s + d) 0 == 10) ≡ b → column_at bytes (s + d + 1) ≡ column_at bytes s + suc d
column-add-step bytes s d lt same before true e = absurd (omega (arith, line-end bytes (s + d) lt e, line-le bytes s (s + d) (omega arith)))
column-add-step bytes s d lt same before false e = omega (arith, column-other bytes (s + d) lt e, line-other bytes (s + d) lt e)

-- along a line the column rises by one
column-add : (bytes : List ℕ) (s d : ℕ) → s + d ≤ length bytes → line_at bytes (s + d) ≡ line_at bytes s → column_at bytes (s + d) ≡ column_at bytes s + d
column-add bytes s zero le same = rw (add-zero s) (omega arith)
column-add bytes s (suc d) le same =
    let next : s + suc d ≡ s + d + 1 = omega arith in
    let same' : line_at bytes (s + d + 1) ≡ line_at bytes s = rw next at same in
    rw next (column-add-step bytes s d (omega arith) same' (column-add bytes s d (omega arith)) (get_or bytes (s + d) 0 == 10) refl)

-- The table: the first start, one byte more, and what it tells of a byte.

-- what holds of all elements and of one more after them
each-push : (P : ℕ → ℕ → Type 0) (xs : List ℕ) (x : ℕ) → ((k : ℕ) → k < length xs → P k (get_or xs k 0)) → P (length xs) x
    → (k : ℕ) → k < length (xs ++ x ∷ []) → P k (get_or (xs ++ x ∷ []) k 0)
each-push P xs x each here k lt =
    ⊎_elim
    (λ same. subst (λ n. P n (get_or (xs ++ x ∷ []) n 0)) (sym same) (subst (P (length xs)) (sym (get_or_push xs x 0 (length xs) refl)) here))
    (λ below. subst (P k) (sym (get_or_append_left xs (x ∷ []) 0 k below)) (each k below))
    (eq-or-lt_of_le (omega (arith, length-append xs (x ∷ []))))

pub starts-zero : (bytes : List ℕ) → AreStarts bytes 0 (0 ∷ [])
unfolding line_at column_at
starts-zero bytes = record {
  all = refl;
  first = refl;
  within = each-push (λ k s. s ≤ 0) [] 0 (λ k none. absurd (omega arith)) (omega arith);
  line = each-push (λ k s. line_at bytes s ≡ k + 1) [] 0 (λ k none. absurd (omega arith)) refl;
  column = each-push (λ k s. column_at bytes s ≡ 1) [] 0 (λ k none. absurd (omega arith)) refl;
}

pub starts-other : (bytes starts : List ℕ) (at : ℕ) → at < length bytes → (get_or bytes at 0 ≡ 10 → ⊥) → AreStarts bytes at starts → AreStarts bytes (at + 1) starts
starts-other bytes starts at lt other t =
    let e = ne_eqb (get_or bytes at 0) 10 other in
    record {
      all = omega (arith, t.all, line-other bytes at lt e);
      first = t.first;
      within = λ k below. omega (arith, t.within k below);
      line = t.line;
      column = t.column;
    }

pub starts-end : (bytes starts : List ℕ) (at : ℕ) → at < length bytes → get_or bytes at 0 ≡ 10 → AreStarts bytes at starts → AreStarts bytes (at + 1) (starts ++ (at + 1) ∷ [])
starts-end bytes starts at lt here t =
    let e = eq-eqb (get_or bytes at 0) 10 here in
    record {
      all = omega (arith, t.all, line-end bytes at lt e, length-append starts ((at + 1) ∷ []));
      first = get_or_append_left starts ((at + 1) ∷ []) 0 0 (omega (arith, t.all, line-some bytes at)) ∙ t.first;
      within = each-push (λ k s. s ≤ at + 1) starts (at + 1) (λ k below. omega (arith, t.within k below)) (omega arith);
      line = each-push (λ k s. line_at bytes s ≡ k + 1) starts (at + 1) t.line (omega (arith, t.all, line-end bytes at lt e));
      column = each-push (λ k s. column_at bytes s ≡ 1) starts (at + 1) t.column (column-end bytes at lt e);
    }

pub starts-rise : (bytes starts : List ℕ) → AreStarts bytes (length bytes) starts → IsNonDecreasing starts
starts-rise bytes starts t i j d le lt =
    let below : i < length starts = omega arith in
    let from = get_or starts i 0 in
    let to = get_or starts j 0 in
    let ordered : from ≤ to =
    ⊎_elim
    (λ wrong. absurd (omega (arith, line-below bytes to from wrong (t.within i below) (t.column i below), t.line i below, t.line j lt)))
    (λ right. right)
    (cases_lt to from) in
    omega (arith, get_or_default_zero starts i d below, get_or_default_zero starts j d lt)

-- what the table tells of a byte at or before which so many lines begin
pub record Found (bytes starts : List ℕ) (at line : ℕ) : Type 0 where
  pub some : 0 < line
  pub from : get_or starts (line - 1) 0 ≤ at
  pub is_line : line_at bytes at ≡ line
  pub is_column : column_at bytes at ≡ at - get_or starts (line - 1) 0 + 1

found-some : (bytes starts : List ℕ) (at line : ℕ) → AreStarts bytes (length bytes) starts → IsPartitionPoint (λ s. s ≤ at) (λ s. at < s) starts line → 0 < line
found-some bytes starts at line t point =
    let lines : 0 < length starts = omega (arith, t.all, line-some bytes (length bytes)) in
    ⊎_elim (λ none. absurd (omega (arith, t.first, point.1 0 0 (omega arith) lines))) (λ some. some) (eq-zero-or-pos line)

found-most : (bytes starts : List ℕ) (at line : ℕ) → AreStarts bytes (length bytes) starts → at ≤ length bytes → line ≤ length starts
    → IsPartitionPoint (λ s. s ≤ at) (λ s. at < s) starts line → line_at bytes at ≤ line
found-most bytes starts at line t in_text in_table point =
    ⊎_elim
    (λ last. omega (arith, t.all, line-le bytes at (length bytes) in_text))
    (λ below. omega (arith, line-below bytes at (get_or starts line 0) (point.1 line 0 (le_refl line) below) (t.within line below) (t.column line below), t.line line below))
    (eq-or-lt_of_le in_table)

found : (bytes starts : List ℕ) (at line : ℕ) → AreStarts bytes (length bytes) starts → at ≤ length bytes → line ≤ length starts
    → IsPartitionPoint (λ s. s ≤ at) (λ s. at < s) starts line → Found bytes starts at line
found bytes starts at line t in_text in_table point =
    let some = found-some bytes starts at line t point in
    let s = get_or starts (line - 1) 0 in
    let from : s ≤ at = point.0 (line - 1) 0 zero-le (omega arith) in
    let first : line_at bytes s ≡ line = omega (arith, t.line (line - 1) (omega arith)) in
    let here : line_at bytes at ≡ line = omega (arith, found-most bytes starts at line t in_text in_table point, line-le bytes s at from) in
    let whole : s + (at - s) ≡ at = omega arith in
    let along : line_at bytes (s + (at - s)) ≡ line_at bytes s = rw whole (here ∙ sym first) in
    let column : column_at bytes at ≡ column_at bytes s + (at - s) = rw whole at (column-add bytes s (at - s) (omega arith) along) in
    record { some = some; from = from; is_line = here; is_column = omega (arith, column, t.column (line - 1) (omega arith)) }

pub found-in : (bytes starts searched : List ℕ) (at line : ℕ) → searched ≡ starts → AreStarts bytes (length bytes) starts → at ≤ length bytes
    → line ≤ length searched → IsPartitionPoint (λ s. s ≤ at) (λ s. at < s) searched line → Found bytes starts at line
found-in bytes starts searched at line same t in_text =
    let P : List ℕ → Type 0 = λ xs. line ≤ length xs → IsPartitionPoint (λ s. s ≤ at) (λ s. at < s) xs line → Found bytes starts at line in
    subst P (sym same) (found bytes starts at line t in_text)

-- past the end of the text stands the place of its end
place-min : (bytes : List ℕ) (at : ℕ) → place_at bytes (min at (length bytes)) ≡ place_at bytes at
unfolding line_at column_at
place-min bytes at = rw take_min refl

pub place-found : (bytes starts : List ℕ) (at inside line s : ℕ) → inside ≡ min at (length bytes) → Found bytes starts inside line → s ≡ get_or starts (line - 1) s → line ≤ length starts
    → (s ≤ inside) × (◌≡◌ {A = Place} (record { line = line; column = inside - s + 1 }) (place_at bytes at))
place-found bytes starts at inside line s same f e in_table =
    let start : s ≡ get_or starts (line - 1) 0 = e ∙ get_or_default_zero starts (line - 1) s (omega (arith, f.some)) in
    let column : column_at bytes inside ≡ inside - s + 1 = omega (arith, f.is_column) in
    let here : place_at bytes inside ≡ record { line = line; column = inside - s + 1 } = λ i. record { line = f.is_line i; column = column i } in
    (omega (arith, f.from), sym here ∙ ap (place_at bytes) same ∙ place-min bytes at)
