-- Which punctuator a text begins with, by its first three bytes.
use Rattle.std.proofs.Common.{◌≡◌, ◌⊎◌, inl, inr, ℕ, zero, suc, ◌<◌, ◌≤◌, true, false, ◌==◌, List, [], ◌∷◌, length, take, refl, sym, subst}
use Rattle.std.proofs.Common.{◌∙◌, arith}
use Rattle.std.proofs.Math.Bool.{and-true, or-false}
use Rattle.std.proofs.lemmas.Bool.Decides.{nat_tests}
use Rattle.std.proofs.lemmas.List.{length-take}
use Rattle.std.proofs.lemmas.Map.Views.{any-filter_same}
use Rattle.std.specs.Prelude.{filter, codes}
use Rattle.std.specs.List.{list_any, AllByRecursion}
use Rattle.std.specs.Str.{bytes_eq}
use Rattle.tsa_base.specs.Bytes.{is_letter, is_digit}
use Rattle.tsa_base.specs.Tokens.{is_token, longest, is_punctuator, punctuators}
use Rattle.tsa_lex.specs.Puncts.{is_single, is_pair, is_triple, begins_pair, begins_triple}
use Rattle.tsa_lex.proofs.Longest.{longest-none, longest-found}
use Rattle.tsa_lex.proofs.Words.{same_length, differ}

-- of the punctuators those of the text's own length decide
of_length : (text : List ℕ) (n : ℕ) → length text ≡ n → list_any (bytes_eq text) (filter (λ word. length word == n) punctuators) ≡ is_punctuator text
unfolding is_punctuator
of_length text n long = rw (← long) (any-filter_same (bytes_eq text) (λ word. length word == length text) true (same_length text) punctuators)

-- a byte is this one or another
same_or : (c k : ℕ) → (c ≡ k) ⊎ ((c == k) ≡ false)
same_or c k = grind (arith, nat_tests)

of_one : (c : ℕ) → is_punctuator (c ∷ []) ≡ is_single c
unfolding punctuators
of_one c = sym (of_length (c ∷ []) 1 refl) ∙ simp and-true

of_three : (c d e : ℕ) → is_punctuator (c ∷ d ∷ e ∷ []) ≡ is_triple c d e
unfolding punctuators
of_three c d e = sym (of_length (c ∷ d ∷ e ∷ []) 3 refl) ∙ simp (and-true, or-false)

-- no punctuator has more than three bytes
of_more : (text : List ℕ) → 3 < length text → is_punctuator text ≡ false
unfolding punctuators
of_more text long =
    let n1 = differ 1 (length text) (λ e. omega arith) in
    let n2 = differ 2 (length text) (λ e. omega arith) in
    let n3 = differ 3 (length text) (λ e. omega arith) in
    sym (of_length text (length text) refl) ∙ simp (n1, n2, n3)

-- what holds at each byte of a list, and at a byte that is none of them, holds at any byte
by_byte : (P : ℕ → Type 0) (c : ℕ) (ks : List ℕ) → AllByRecursion P ks → (AllByRecursion (λ k. (c == k) ≡ false) ks → P c) → P c
by_byte P c [] each other = other tt
by_byte P c (k ∷ ks) each other =
    elim (same_or c k) [
      | inl e ↦ subst P (sym e) each.0
      | inr n ↦ by_byte P c ks each.1 (λ ns. other (n, ns))
    ]

-- pairs by their first bytes
pairs : (c d : ℕ) → list_any (bytes_eq (c ∷ d ∷ [])) (filter (λ word. length word == 2) punctuators) ≡ is_pair c d
unfolding punctuators is_pair
pairs c d =
    by_byte (λ k. list_any (bytes_eq (k ∷ d ∷ [])) (filter (λ word. length word == 2) punctuators) ≡ is_pair k d) c (codes "-+<>&|=!*/%^")
    (simp (and-true, or-false), (simp (and-true, or-false), (simp (and-true, or-false), (simp (and-true, or-false), (simp (and-true, or-false), (simp (and-true, or-false), (simp (and-true, or-false), (simp (and-true, or-false), (simp (and-true, or-false), (simp (and-true, or-false), (simp (and-true, or-false), (simp (and-true, or-false), tt))))))))))))
    (λ apart. simp (apart.0, apart.1.0, apart.1.1.0, apart.1.1.1.0, apart.1.1.1.1.0, apart.1.1.1.1.1.0, apart.1.1.1.1.1.1.0, apart.1.1.1.1.1.1.1.0, apart.1.1.1.1.1.1.1.1.0, apart.1.1.1.1.1.1.1.1.1.0, apart.1.1.1.1.1.1.1.1.1.1.0, apart.1.1.1.1.1.1.1.1.1.1.1.0))

of_two : (c d : ℕ) → is_punctuator (c ∷ d ∷ []) ≡ is_pair c d
of_two c d = sym (of_length (c ∷ d ∷ []) 2 refl) ∙ pairs c d

-- a front with no letter, digit or quote before it is a token where it is a punctuator
front_token : (c : ℕ) (cs : List ℕ) → is_letter c ≡ false → is_digit c ≡ false → (c == 34) ≡ false → is_token (c ∷ cs) ≡ is_punctuator (c ∷ cs)
unfolding is_token
front_token c cs no_letter no_digit no_quote = rw (no_letter, no_digit, no_quote) refl

token_one : (c : ℕ) (cs : List ℕ) → is_letter c ≡ false → is_digit c ≡ false → (c == 34) ≡ false → is_token (take 1 (c ∷ cs)) ≡ is_single c
token_one c cs no_letter no_digit no_quote = front_token c [] no_letter no_digit no_quote ∙ of_one c

token_two : (c : ℕ) (cs : List ℕ) → is_letter c ≡ false → is_digit c ≡ false → (c == 34) ≡ false → 2 ≤ length (c ∷ cs) → is_token (take 2 (c ∷ cs)) ≡ begins_pair c cs
token_two c [] no_letter no_digit no_quote within = absurd (omega arith)
token_two c (d ∷ ds) no_letter no_digit no_quote within = front_token c (d ∷ []) no_letter no_digit no_quote ∙ of_two c d

token_three : (c : ℕ) (cs : List ℕ) → is_letter c ≡ false → is_digit c ≡ false → (c == 34) ≡ false → 3 ≤ length (c ∷ cs) → is_token (take 3 (c ∷ cs)) ≡ begins_triple c cs
token_three c [] no_letter no_digit no_quote within = absurd (omega arith)
token_three c (d ∷ []) no_letter no_digit no_quote within = absurd (omega arith)
token_three c (d ∷ e ∷ es) no_letter no_digit no_quote within = front_token c (d ∷ e ∷ []) no_letter no_digit no_quote ∙ of_three c d e

token_more : (c : ℕ) (cs : List ℕ) (j : ℕ) → is_letter c ≡ false → is_digit c ≡ false → (c == 34) ≡ false → 3 < j → j ≤ length (c ∷ cs) → is_token (take j (c ∷ cs)) ≡ false
token_more c cs zero no_letter no_digit no_quote over within = absurd (omega arith)
token_more c cs (suc j) no_letter no_digit no_quote over within = front_token c (take j cs) no_letter no_digit no_quote ∙ of_more (c ∷ take j cs) (omega (arith, length-take j cs))

-- no front above a length is a token
after_two : (c : ℕ) (cs : List ℕ) (j : ℕ) → is_letter c ≡ false → is_digit c ≡ false → (c == 34) ≡ false → begins_triple c cs ≡ false → 2 < j → j ≤ length (c ∷ cs) → is_token (take j (c ∷ cs)) ≡ false
after_two c cs zero no_letter no_digit no_quote three over within = absurd (omega arith)
after_two c cs (suc zero) no_letter no_digit no_quote three over within = absurd (omega arith)
after_two c cs (suc (suc zero)) no_letter no_digit no_quote three over within = absurd (omega arith)
after_two c cs (suc (suc (suc zero))) no_letter no_digit no_quote three over within = token_three c cs no_letter no_digit no_quote within ∙ three
after_two c cs (suc (suc (suc (suc j)))) no_letter no_digit no_quote three over within = token_more c cs (suc (suc (suc (suc j)))) no_letter no_digit no_quote (omega arith) within

after_one : (c : ℕ) (cs : List ℕ) (j : ℕ) → is_letter c ≡ false → is_digit c ≡ false → (c == 34) ≡ false → begins_triple c cs ≡ false → begins_pair c cs ≡ false → 1 < j → j ≤ length (c ∷ cs) → is_token (take j (c ∷ cs)) ≡ false
after_one c cs zero no_letter no_digit no_quote three two over within = absurd (omega arith)
after_one c cs (suc zero) no_letter no_digit no_quote three two over within = absurd (omega arith)
after_one c cs (suc (suc zero)) no_letter no_digit no_quote three two over within = token_two c cs no_letter no_digit no_quote within ∙ two
after_one c cs (suc (suc (suc j))) no_letter no_digit no_quote three two over within = after_two c cs (suc (suc (suc j))) no_letter no_digit no_quote three (omega arith) within

after_none : (c : ℕ) (cs : List ℕ) (j : ℕ) → is_letter c ≡ false → is_digit c ≡ false → (c == 34) ≡ false → begins_triple c cs ≡ false → begins_pair c cs ≡ false → is_single c ≡ false → 0 < j → j ≤ length (c ∷ cs) → is_token (take j (c ∷ cs)) ≡ false
after_none c cs zero no_letter no_digit no_quote three two one over within = absurd (omega arith)
after_none c cs (suc zero) no_letter no_digit no_quote three two one over within = token_one c cs no_letter no_digit no_quote ∙ one
after_none c cs (suc (suc j)) no_letter no_digit no_quote three two one over within = after_one c cs (suc (suc j)) no_letter no_digit no_quote three two (omega arith) within

triple_room : (c : ℕ) (cs : List ℕ) → begins_triple c cs ≡ true → 3 ≤ length (c ∷ cs)
triple_room c [] three = absurd (cc)
triple_room c (d ∷ []) three = absurd (cc)
triple_room c (d ∷ e ∷ es) three = omega arith

pair_room : (c : ℕ) (cs : List ℕ) → begins_pair c cs ≡ true → 2 ≤ length (c ∷ cs)
pair_room c [] two = absurd (cc)
pair_room c (d ∷ ds) two = omega arith

pub triple_longest : (c : ℕ) (cs : List ℕ) → is_letter c ≡ false → is_digit c ≡ false → (c == 34) ≡ false → begins_triple c cs ≡ true → longest (c ∷ cs) ≡ 3
triple_longest c cs no_letter no_digit no_quote three =
    let room = triple_room c cs three in
    longest-found (c ∷ cs) 3 room (omega arith) (token_three c cs no_letter no_digit no_quote room ∙ three)
    (λ j over within. token_more c cs j no_letter no_digit no_quote over within)

pub pair_longest : (c : ℕ) (cs : List ℕ) → is_letter c ≡ false → is_digit c ≡ false → (c == 34) ≡ false → begins_triple c cs ≡ false → begins_pair c cs ≡ true → longest (c ∷ cs) ≡ 2
pair_longest c cs no_letter no_digit no_quote three two =
    let room = pair_room c cs two in
    longest-found (c ∷ cs) 2 room (omega arith) (token_two c cs no_letter no_digit no_quote room ∙ two)
    (λ j over within. after_two c cs j no_letter no_digit no_quote three over within)

pub single_longest : (c : ℕ) (cs : List ℕ) → is_letter c ≡ false → is_digit c ≡ false → (c == 34) ≡ false → begins_triple c cs ≡ false → begins_pair c cs ≡ false → is_single c ≡ true → longest (c ∷ cs) ≡ 1
single_longest c cs no_letter no_digit no_quote three two one =
    longest-found (c ∷ cs) 1 (omega arith) (omega arith) (token_one c cs no_letter no_digit no_quote ∙ one)
    (λ j over within. after_one c cs j no_letter no_digit no_quote three two over within)

pub no_punct : (c : ℕ) (cs : List ℕ) → is_letter c ≡ false → is_digit c ≡ false → (c == 34) ≡ false → begins_triple c cs ≡ false → begins_pair c cs ≡ false → is_single c ≡ false → longest (c ∷ cs) ≡ 0
no_punct c cs no_letter no_digit no_quote three two one =
    longest-none (c ∷ cs) (λ j some within. after_none c cs j no_letter no_digit no_quote three two one some within)
