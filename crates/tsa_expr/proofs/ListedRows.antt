-- What is listed beside a text: it is that of the first row with the text, and rows of other lengths say nothing.
use Rattle.std.proofs.Common.{◌≡◌, ℕ, Bool, true, false, List, [], ◌∷◌, Some, None, length, refl, sym, ◌∙◌, ap, arith}
use Rattle.std.proofs.lemmas.Bool.Decides.{nat_tests}
use Rattle.std.proofs.lemmas.Slice.Eq.{bytes_eq-Decides}
use Rattle.std.specs.declared.option.Option.{Option}
use Rattle.std.specs.Prelude.{◌==◌, filter}
use Rattle.std.specs.List.{find}
use Rattle.std.specs.Str.{bytes_eq}
use Rattle.tsa_tree.specs.tokens.Signs.{listed}

-- a text that another equals is as long
same_length : (text other : List ℕ) → bytes_eq text other ≡ true → (length other == length text) ≡ true
same_length text other same = let whole : text ≡ other = (bytes_eq-Decides text other).0 same in rw (sym whole) (grind (arith, nat_tests))

abbrev pub behind : {A : Type 0} → Option (List ℕ × A) → Option A
behind None = None
behind (Some row) = Some row.1

module _ {A : Type 0} (text : List ℕ) where
  abbrev is_it : List ℕ × A → Bool
  is_it row = bytes_eq text row.0

  abbrev is_as_long : List ℕ × A → Bool
  is_as_long row = length row.0 == length text

  -- what stands in the first row with the text is what is listed
  by_find : (rows : List (List ℕ × A)) → behind (find is_it rows) ≡ listed rows text
  by_find [] = refl
  by_find (row ∷ rows) = go (bytes_eq text row.0) refl (by_find rows)
    where
      go : (b : Bool) → bytes_eq text row.0 ≡ b → behind (find is_it rows) ≡ listed rows text → behind (find is_it (row ∷ rows)) ≡ listed (row ∷ rows) text
      go true e h = rw (e) refl
      go false e h = rw (e) h

  by_length : (rows : List (List ℕ × A)) → listed (filter is_as_long rows) text ≡ listed rows text
  by_length [] = refl
  by_length (row ∷ rows) = go (is_as_long row) (bytes_eq text row.0) refl refl (by_length rows)
    where
      go : (long same : Bool) → is_as_long row ≡ long → bytes_eq text row.0 ≡ same → listed (filter is_as_long rows) text ≡ listed rows text
          → listed (filter is_as_long (row ∷ rows)) text ≡ listed (row ∷ rows) text
      go true true l e h = rw (l, e) refl
      go true false l e h = rw (l, e) h
      go false true l e h = absurd (let m = same_length text row.0 e in cc)
      go false false l e h = rw (l, e) h

-- the rows of a text's own length decide
pub of_length : {A : Type 0} (rows : List (List ℕ × A)) (text : List ℕ) (n : ℕ) → length text ≡ n → listed (filter (λ row. length row.0 == n) rows) text ≡ listed rows text
of_length rows text n long = rw (← long) (by_length text rows)

pub found : {A : Type 0} (rows : List (List ℕ × A)) (text : List ℕ) (row : Option (List ℕ × A)) → row ≡ find (λ row. bytes_eq text row.0) rows → behind row ≡ listed rows text
found rows text row e = ap behind e ∙ by_find text rows
