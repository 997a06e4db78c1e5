-- Where a byte that the parts of a text don't have stands, the text tells its parts; so a name and an index are told by their text.
use Rattle.std.proofs.Common.{◌≡◌, ℕ, ◌^◌, ◌<◌, arith, true, false, List, [], ◌∷◌, ◌++◌, Option, Some, None, refl, sym, ap, subst}
use Rattle.std.proofs.Common.{append-nil, codes, ◌∙◌}
use Rattle.std.specs.Fmt.{decimal}
use Rattle.std.specs.List.{list_all}
use Rattle.std.specs.Str.Parse.{AllDigits}
use Rattle.std.proofs.lemmas.Fmt.{decimal_is_IsNumeral, decimal_injective}
use Rattle.std.proofs.lemmas.Str.Parse.{digit_from_value}
use Rattle.tsa_base.specs.Bytes.{is_word_byte}
use Rattle.tsa_base.proofs.Truths.{both, never_true as never}
use Rattle.tsa_place_model.specs.Calls.{index_text}

-- a byte isn't in a text
abbrev pub Without : ℕ → List ℕ → Type 0
Without b [] = Unit {0}
Without b (c ∷ cs) = (c ≡ b → ⊥) × Without b cs

without_append : (b : ℕ) (u v : List ℕ) → Without b u → Without b v → Without b (u ++ v)
without_append b [] v h k = k
without_append b (c ∷ u) v h k = (h.0, without_append b u v h.1 k)

not_without : (b : ℕ) (u w : List ℕ) → Without b (u ++ b ∷ w) → ⊥
not_without b [] w h = h.0 refl
not_without b (c ∷ u) w h = not_without b u w h.1

-- the first bytes, and the rests, of equal texts
heads : {c d : ℕ} {u v : List ℕ} → c ∷ u ≡ d ∷ v → c ≡ d
heads e = cc

tails : {c d : ℕ} {u v : List ℕ} → c ∷ u ≡ d ∷ v → u ≡ v
tails e = cc

-- the first place of a byte tells what stands before and behind it
pub first_tells : (b : ℕ) (u v x y : List ℕ) → Without b u → Without b v → u ++ b ∷ x ≡ v ++ b ∷ y → (u ≡ v) × (x ≡ y)
first_tells b [] [] x y h k e = (refl, tails e)
first_tells b [] (d ∷ v) x y h k e = absurd (k.0 (sym (heads e)))
first_tells b (c ∷ u) [] x y h k e = absurd (h.0 (heads e))
first_tells b (c ∷ u) (d ∷ v) x y h k e =
    let rest = first_tells b u v x y h.1 k.1 (tails e) in
    (ap (λ z. z ∷ u) (heads e) ∙ ap (λ w. d ∷ w) rest.0, rest.1)

-- and so does the last one
pub last_tells : (b : ℕ) (u v x y : List ℕ) → Without b x → Without b y → u ++ b ∷ x ≡ v ++ b ∷ y → (u ≡ v) × (x ≡ y)
last_tells b [] [] x y h k e = (refl, tails e)
last_tells b [] (d ∷ v) x y h k e = absurd (not_without b v y (subst (Without b) (tails e) h))
last_tells b (c ∷ u) [] x y h k e = absurd (not_without b u x (subst (Without b) (sym (tails e)) k))
last_tells b (c ∷ u) (d ∷ v) x y h k e =
    let rest = last_tells b u v x y h k (tails e) in
    (ap (λ z. z ∷ u) (heads e) ∙ ap (λ w. d ∷ w) rest.0, rest.1)

-- a text with the byte is none without it
pub with_and_without : (b : ℕ) (u x y : List ℕ) → Without b y → u ++ b ∷ x ≡ y → ⊥
with_and_without b u x y h e = not_without b u x (subst (Without b) (sym e) h)

-- names are of letters, digits and underscores
abbrev pub IsPlain : List ℕ → Type 0
IsPlain name = list_all is_word_byte name ≡ true

other : (b c : ℕ) → is_word_byte b ≡ false → is_word_byte c ≡ true → c ≡ b → ⊥
other b c f t e = never (sym f ∙ ap is_word_byte (sym e) ∙ t)

plain_without : (b : ℕ) (name : List ℕ) → is_word_byte b ≡ false → IsPlain name → Without b name
plain_without b [] f h = tt
plain_without b (c ∷ cs) f h = let x = both (is_word_byte c) (list_all is_word_byte cs) h in (other b c f x.0, plain_without b cs f x.1)

-- an index has a decimal
abbrev pub IsSmall : Option ℕ → Type 0
IsSmall None = Unit {0}
IsSmall (Some i) = i < 2 ^ 64

digits_without : (b : ℕ) (ds : List ℕ) → b < 48 → AllDigits 10 ds → Without b ds
digits_without b [] low h = tt
digits_without b (c ∷ cs) low h = let range = digit_from_value c h.0 in (λ e. omega (arith, range, e, low), digits_without b cs low h.1)

index_without_dot : (i : Option ℕ) → IsSmall i → Without 46 (index_text i)
index_without_dot None h = tt
index_without_dot (Some i) h =
    without_append 46 (codes "[") (decimal i ++ codes "]") ((λ e. omega (arith, e)), tt)
    (without_append 46 (decimal i) (codes "]") (digits_without 46 (decimal i) (omega arith) (decimal_is_IsNumeral i h).0.1) ((λ e. omega (arith, e)), tt))

-- the text of a name with an index or without one
pub without_dot : (name : List ℕ) (i : Option ℕ) → IsPlain name → IsSmall i → Without 46 (name ++ index_text i)
without_dot name i p h = without_append 46 name (index_text i) (plain_without 46 name refl p) (index_without_dot i h)

-- it tells both
pub name_and_index : (m n : List ℕ) (i j : Option ℕ) → IsPlain m → IsPlain n → IsSmall i → IsSmall j → m ++ index_text i ≡ n ++ index_text j → (m ≡ n) × (i ≡ j)
name_and_index m n None None p q h k e = (sym (append-nil m) ∙ e ∙ append-nil n, refl)
name_and_index m n None (Some j) p q h k e =
    absurd (with_and_without 91 n (decimal j ++ codes "]") m (plain_without 91 m refl p) (sym e ∙ append-nil m))
name_and_index m n (Some i) None p q h k e =
    absurd (with_and_without 91 m (decimal i ++ codes "]") n (plain_without 91 n refl q) (e ∙ append-nil n))
name_and_index m n (Some i) (Some j) p q h k e =
    let names = first_tells 91 m n (decimal i ++ codes "]") (decimal j ++ codes "]") (plain_without 91 m refl p) (plain_without 91 n refl q) e in
    let numbers = last_tells 93 (decimal i) (decimal j) [] [] tt tt names.1 in
    (names.0, ap Some (decimal_injective i j h k numbers.0))
