-- No two marks are noted under one row and one path.
use Rattle.std.proofs.Common.{◌≡◌, ◌∙◌, ℕ, ◌/◌, ◌%◌, ◌^◌, ◌<◌, nat_eq, false, List, map, length, get_or, Option, Some}
use Rattle.std.proofs.Common.{None, option_map, slice_get, refl, sym, ap, subst, arith}
use Rattle.std.proofs.Math.Decide.{dec_lt, ℕ_discrete}
use Rattle.std.proofs.lemmas.Bool.Decides.{nat_tests}
use Rattle.std.proofs.lemmas.Map.Entries.{length-keys_of}
use Rattle.std.proofs.lemmas.Map.Keys.{apart_from_distinct}
use Rattle.std.proofs.lemmas.Option.{get_or_from_slice_get, slice_get-map, slice_get_within}
use Rattle.std.specs.List.{IsDistinct}
use Rattle.std.specs.Map.{keys_of}
use Rattle.tsa_rules.specs.declared.mark.Mark.{Mark}
use Rattle.tsa_rules_table.specs.Rows.{place_of}
use Rattle.tsa_base.proofs.Options.{some_same}

-- numbers of one place are the same
same_key : (a b : ℕ) → place_of a ≡ place_of b → a ≡ b
same_key a b e =
    let rows : a / 2 ^ 32 ≡ b / 2 ^ 32 = ap (λ x. x.0) e in
    let numbers : a % 2 ^ 32 ≡ b % 2 ^ 32 = ap (λ x. x.1) e in
    omega (arith, rows, numbers)

abbrev pub placed : ℕ × Mark → (ℕ × ℕ) × Mark
placed e = (place_of e.0, e.1)

key_at : (es : List (ℕ × Mark)) (i : ℕ) (e : ℕ × Mark) → slice_get es i ≡ Some e → slice_get (keys_of es) i ≡ Some e.0
key_at es i e h = slice_get-map (λ x. x.0) es i ∙ ap (option_map (λ x. x.0)) h

-- two entries with one key stand at one place
not_before : (es : List (ℕ × Mark)) (i j : ℕ) (x y : ℕ × Mark) → IsDistinct nat_eq (keys_of es) → slice_get es i ≡ Some x → slice_get es j ≡ Some y → x.0 ≡ y.0 → i < j → ⊥
not_before es i j x y distinct here there same below =
    let keys = keys_of es in
    let inside : j < length keys = subst (λ n. j < n) (sym (length-keys_of es)) (slice_get_within es j y there) in
    let apart = apart_from_distinct nat_eq keys i j 0 distinct below inside in
    let first = get_or_from_slice_get keys i x.0 0 (key_at es i x here) in
    let second = get_or_from_slice_get keys j y.0 0 (key_at es j y there) in
    let told : nat_eq x.0 y.0 ≡ false = subst (λ k. nat_eq x.0 k ≡ false) second (subst (λ k. nat_eq k (get_or keys j 0) ≡ false) first apart) in
    grind (arith, nat_tests, told, same)

one_key : (es : List (ℕ × Mark)) (i j : ℕ) (x y : ℕ × Mark) → IsDistinct nat_eq (keys_of es) → slice_get es i ≡ Some x → slice_get es j ≡ Some y → x.0 ≡ y.0 → i ≡ j
one_key es i j x y distinct here there same = elim (ℕ_discrete i j) [
  | yes e ↦ e
  | no other ↦ elim (dec_lt i j) [
    | yes below ↦ absurd (not_before es i j x y distinct here there same below)
    | no above ↦ absurd (not_before es j i y x distinct there here (sym same) (omega (arith, other, above)))
  ]
]

by : (es : List (ℕ × Mark)) (at i : ℕ) (x : ℕ × Mark) (place : ℕ × ℕ) (m : Mark) (o : Option (ℕ × Mark)) → IsDistinct nat_eq (keys_of es) → slice_get es at ≡ Some x → place ≡ place_of x.0
    → slice_get es i ≡ o → option_map placed o ≡ Some (place, m) → i ≡ at
by es at i x place m None distinct here is found e = absurd cc
by es at i x place m (Some y) distinct here is found e =
    let same : place_of y.0 ≡ place = ap (λ z. z.0) (some_same e) in
    one_key es i at y x distinct found here (same_key y.0 x.0 (same ∙ is))

-- so no other mark is of a place
pub only_there : (es : List (ℕ × Mark)) (at i : ℕ) (x : ℕ × Mark) (place : ℕ × ℕ) (m : Mark) → IsDistinct nat_eq (keys_of es) → slice_get es at ≡ Some x → place ≡ place_of x.0
    → slice_get (map placed es) i ≡ Some (place, m) → i ≡ at
only_there es at i x place m distinct here is e = by es at i x place m (slice_get es i) distinct here is refl (sym (slice_get-map placed es i) ∙ e)
