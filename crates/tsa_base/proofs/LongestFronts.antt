-- The longest front that is a token, in words, and with which bytes a token begins.
use Rattle.std.proofs.Common.{◌≡◌, ◌⊎◌, inl, inr, ℕ, zero, suc, ◌<◌, ◌≤◌, Bool, true, false, ◌==◌, ◌&&◌, not, List, [], ◌∷◌, ◌++◌, length}
use Rattle.std.proofs.Common.{take, drop, refl, sym, ◌∙◌, length-append, arith}
use Rattle.std.proofs.lemmas.Bool.{and_parts, or_cases, not-true}
use Rattle.std.proofs.lemmas.Bool.Decides.{nat_tests}
use Rattle.std.proofs.lemmas.List.{take-append-drop, take_at, length-take-le}
use Rattle.std.proofs.lemmas.Slice.Eq.{bytes_eq-Decides}
use Rattle.std.specs.List.{list_all, list_any}
use Rattle.std.specs.Str.{bytes_eq}
use Rattle.tsa_base.specs.Bytes.{is_letter, is_digit, is_blank}
use Rattle.tsa_base.specs.Tokens.{is_token, is_punctuator, punctuators, longest, longest_up_to}
use Rattle.tsa_base.specs.PieceLaws.{IsLongest, BeginsNoToken, begins_comment}
use Rattle.tsa_base.proofs.Longest.{next_token_is_the_longest}

within-step : (n : ℕ) (cs : List ℕ) (b : Bool) → is_token (take (suc n) cs) ≡ b → longest_up_to n cs ≤ n → longest_up_to (suc n) cs ≤ suc n
unfolding longest_up_to
within-step n cs true e below = rw e (omega arith)
within-step n cs false e below = rw e (omega arith)

up_to-within : (n : ℕ) (cs : List ℕ) → longest_up_to n cs ≤ n
unfolding longest_up_to
up_to-within zero cs = omega arith
up_to-within (suc n) cs = within-step n cs (is_token (take (suc n) cs)) refl (up_to-within n cs)

pub longest-within : (rest : List ℕ) → longest rest ≤ length rest
longest-within rest = up_to-within (length rest) rest

-- a front that is a token is no longer than the longest one
front-reaches : (rest front others : List ℕ) → rest ≡ front ++ others → is_token front ≡ true → length front ≤ longest rest
front-reaches rest front others whole is =
    let taken : take (length front) rest ≡ front = rw whole (take_at front others (length front) refl) in
    let within : length front ≤ length rest = rw (whole, length-append) (omega arith) in
    next_token_is_the_longest.longest_one rest (length front) within (rw taken is)

-- the longest front is the next token
pub longest-next : (n : ℕ) (rest : List ℕ) → suc n ≡ longest rest → begins_comment rest ≡ false → IsLongest (take (suc n) rest) (drop (suc n) rest)
longest-next n rest e apart = record {
  is = rw e (next_token_is_the_longest.token rest (omega arith));
  longest = λ front others whole is.
      let whole' : rest ≡ front ++ others = sym (take-append-drop (suc n) rest) ∙ whole in
      let least : length front ≤ longest rest = front-reaches rest front others whole' is in
      let within : longest rest ≤ length rest = longest-within rest in
      let many : length (take (suc n) rest) ≡ suc n = length-take-le (suc n) rest (omega arith) in
      omega arith;
  no_comment = rw (take-append-drop (suc n) rest) apart;
}

none-front : (rest front others : List ℕ) (b : Bool) → is_token front ≡ b → 0 ≡ longest rest → rest ≡ front ++ others → b ≡ false
unfolding is_token
none-front rest front others false e none whole = refl
none-front rest [] others true e none whole = sym e
none-front rest (c ∷ front) others true e none whole =
    let least : length (c ∷ front) ≤ longest rest = front-reaches rest (c ∷ front) others whole e in
    absurd (omega arith)

-- where the longest front has no bytes, none is a token
pub longest-none : (rest : List ℕ) → 0 ≡ longest rest → begins_comment rest ≡ false → BeginsNoToken rest
longest-none rest e apart = record { none = λ front others whole. none-front rest front others (is_token front) refl e whole; no_comment = apart }

none-longest : (rest : List ℕ) (n : ℕ) → n ≡ longest rest → BeginsNoToken rest → n ≡ 0
none-longest rest zero e begins = refl
none-longest rest (suc n) e begins =
    let is : is_token (take (longest rest) rest) ≡ true = next_token_is_the_longest.token rest (omega arith) in
    let other : is_token (take (longest rest) rest) ≡ false = begins.none (take (longest rest) rest) (drop (longest rest) rest) (sym (take-append-drop (longest rest) rest)) in
    absurd (cc)

-- where no front is a token, the longest one has no bytes
pub no_token-longest : (rest : List ℕ) → BeginsNoToken rest → longest rest ≡ 0
no_token-longest rest begins = none-longest rest (longest rest) refl begins

-- the next token is the longest front
pub next-longest : (text behind : List ℕ) → IsLongest text behind → longest (text ++ behind) ≡ length text
next-longest text behind next =
    let rest = text ++ behind in
    let reached : length text ≤ longest rest = front-reaches rest text behind refl next.is in
    let within : longest rest ≤ length rest = longest-within rest in
    let many : length (take (longest rest) rest) ≡ longest rest = length-take-le (longest rest) rest within in
    elim (cases_zero (longest rest)) [
      | inl none ↦ omega arith
      | inr some ↦
          let is : is_token (take (longest rest) rest) ≡ true = next_token_is_the_longest.token rest some in
          let least : length (take (longest rest) rest) ≤ length text = next.longest (take (longest rest) rest) (drop (longest rest) rest) (sym (take-append-drop (longest rest) rest)) is in
          omega arith
    ]
  where
    cases_zero : (n : ℕ) → (n ≡ 0) ⊎ (0 < n)
    cases_zero zero = inl refl
    cases_zero (suc n) = inr (omega arith)

-- First bytes.

-- no blank and no `#`
abbrev pub begins : ℕ → Bool
begins c = not (is_blank c) && not (c == 35)

first_begins : List ℕ → Bool
first_begins [] = false
first_begins (c ∷ cs) = begins c

same-begins : (c : ℕ) (cs p : List ℕ) → c ∷ cs ≡ p → first_begins p ≡ true → begins c ≡ true
unfolding first_begins
same-begins c cs [] same good = absurd (cc)
same-begins c cs (d ∷ ds) same good = let one : c ≡ d = cc in rw one good

any-begins : (c : ℕ) (cs : List ℕ) (ps : List (List ℕ)) → list_all first_begins ps ≡ true → list_any (bytes_eq (c ∷ cs)) ps ≡ true → begins c ≡ true
any-begins c cs [] good some = absurd (cc)
any-begins c cs (p ∷ ps) good some =
    let parts = and_parts (first_begins p) (list_all first_begins ps) good in
    elim (or_cases (bytes_eq (c ∷ cs) p) (list_any (bytes_eq (c ∷ cs)) ps) some) [
      | inl here ↦ same-begins c cs p ((bytes_eq-Decides (c ∷ cs) p).0 here) parts.0
      | inr later ↦ any-begins c cs ps parts.1 later
    ]

punctuator-begins : (c : ℕ) (cs : List ℕ) → is_punctuator (c ∷ cs) ≡ true → begins c ≡ true
unfolding is_punctuator punctuators first_begins
punctuator-begins c cs is = any-begins c cs punctuators refl is

by_quote : (c : ℕ) (cs : List ℕ) (b : Bool) → (c == 34) ≡ b → is_letter c ≡ false → is_digit c ≡ false → is_token (c ∷ cs) ≡ true → begins c ≡ true
unfolding is_token
by_quote c cs true e letter digit is = grind (arith, nat_tests)
by_quote c cs false e letter digit is = punctuator-begins c cs (rw (letter, digit, e) at is)

by_digit : (c : ℕ) (cs : List ℕ) (b : Bool) → is_digit c ≡ b → is_letter c ≡ false → is_token (c ∷ cs) ≡ true → begins c ≡ true
by_digit c cs true e letter is = grind (arith, nat_tests)
by_digit c cs false e letter is = by_quote c cs (c == 34) refl letter e is

by_letter : (c : ℕ) (cs : List ℕ) (b : Bool) → is_letter c ≡ b → is_token (c ∷ cs) ≡ true → begins c ≡ true
by_letter c cs true e is = grind (arith, nat_tests)
by_letter c cs false e is = by_digit c cs (is_digit c) refl e is

-- a token begins with no blank and no `#`
pub token-begins : (c : ℕ) (cs : List ℕ) → is_token (c ∷ cs) ≡ true → (is_blank c ≡ false) × ((c == 35) ≡ false)
token-begins c cs is =
    let good : begins c ≡ true = by_letter c cs (is_letter c) refl is in
    let parts = and_parts (not (is_blank c)) (not (c == 35)) good in
    (not-true (is_blank c) parts.0, not-true (c == 35) parts.1)
