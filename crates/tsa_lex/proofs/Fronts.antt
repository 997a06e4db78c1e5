-- How far the longest front reaches, by its first byte.
use Rattle.std.proofs.Common.{◌≡◌, ◌≢◌, ℕ, zero, suc, ◌+◌, ◌<◌, ◌≤◌, Bool, true, false, List, [], ◌∷◌, length, take, get_or, refl, ap}
use Rattle.std.proofs.Common.{arith}
use Rattle.std.proofs.lemmas.Bool.Decides.{nat_tests}
use Rattle.std.proofs.lemmas.List.Sums.{prefix_len-le-length}
use Rattle.std.specs.List.{list_all, prefix_len}
use Rattle.tsa_base.specs.Bytes.{is_letter, is_digit, is_word_byte, is_run_byte, is_text_byte}
use Rattle.tsa_base.specs.Tokens.{closes, is_token, longest, is_punctuator, punctuators}
use Rattle.tsa_base.proofs.Numbers.{one_more}
use Rattle.tsa_lex.proofs.Longest.{longest-none, longest-found}

all_front-step : (p : ℕ → Bool) (c : ℕ) (cs : List ℕ) (n : ℕ) (b : Bool) → p c ≡ b → suc n ≤ prefix_len p (c ∷ cs) → (n ≤ prefix_len p cs → list_all p (take n cs) ≡ true) → list_all p (take (suc n) (c ∷ cs)) ≡ true
all_front-step p c cs n true e within rest = let small : suc n ≤ 1 + prefix_len p cs = rw e at within in rw e (rest (omega arith))
all_front-step p c cs n false e within rest = let small : suc n ≤ 0 = rw e at within in absurd (omega arith)

all_front : (p : ℕ → Bool) (cs : List ℕ) (n : ℕ) → n ≤ prefix_len p cs → list_all p (take n cs) ≡ true
all_front p cs zero within = refl
all_front p [] (suc n) within = refl
all_front p (c ∷ cs) (suc n) within = all_front-step p c cs n (p c) refl within (all_front p cs n)

all_beyond-step : (p : ℕ → Bool) (c : ℕ) (cs : List ℕ) (n : ℕ) (b : Bool) → p c ≡ b → prefix_len p (c ∷ cs) < suc n → suc n ≤ length (c ∷ cs) → (prefix_len p cs < n → n ≤ length cs → list_all p (take n cs) ≡ false) → list_all p (take (suc n) (c ∷ cs)) ≡ false
all_beyond-step p c cs n true e over within rest = let small : 1 + prefix_len p cs < suc n = rw e at over in rw e (rest (omega arith) (omega arith))
all_beyond-step p c cs n false e over within rest = rw e refl

all_beyond : (p : ℕ → Bool) (cs : List ℕ) (n : ℕ) → prefix_len p cs < n → n ≤ length cs → list_all p (take n cs) ≡ false
all_beyond p cs zero over within = absurd (omega arith)
all_beyond p [] (suc n) over within = absurd (omega arith)
all_beyond p (c ∷ cs) (suc n) over within = all_beyond-step p c cs n (p c) refl over within (all_beyond p cs n)

closes_at-step : (p : ℕ → Bool) (closing c : ℕ) (cs : List ℕ) (b : Bool) → p c ≡ b → prefix_len p (c ∷ cs) < length (c ∷ cs) → get_or (c ∷ cs) (prefix_len p (c ∷ cs)) 0 ≡ closing → (prefix_len p cs < length cs → get_or cs (prefix_len p cs) 0 ≡ closing → closes p closing (take (suc (prefix_len p cs)) cs) ≡ true) → closes p closing (take (suc (prefix_len p (c ∷ cs))) (c ∷ cs)) ≡ true
closes_at-step p closing c cs true e within here rest =
    let within' : 1 + prefix_len p cs < suc (length cs) = rw e at within in
    let here' : get_or cs (prefix_len p cs) 0 ≡ closing = rw (e, one_more (prefix_len p cs)) at here in
    simp (e, one_more (prefix_len p cs)) (rest (omega arith) here')
closes_at-step p closing c cs false e within here rest =
    let here' : c ≡ closing = rw e at here in
    simp e (grind (arith, nat_tests))

closes_at : (p : ℕ → Bool) (closing : ℕ) (cs : List ℕ) → prefix_len p cs < length cs → get_or cs (prefix_len p cs) 0 ≡ closing → closes p closing (take (suc (prefix_len p cs)) cs) ≡ true
closes_at p closing [] within here = absurd (omega arith)
closes_at p closing (c ∷ cs) within here = closes_at-step p closing c cs (p c) refl within here (closes_at p closing cs)

closes_not-step : (p : ℕ → Bool) (closing c : ℕ) (cs : List ℕ) (j : ℕ) (b : Bool) → p c ≡ b → suc j ≤ length (c ∷ cs) → (suc j ≡ suc (prefix_len p (c ∷ cs)) → get_or (c ∷ cs) (prefix_len p (c ∷ cs)) 0 ≡ closing → ⊥) → (j ≤ length cs → (j ≡ suc (prefix_len p cs) → get_or cs (prefix_len p cs) 0 ≡ closing → ⊥) → closes p closing (take j cs) ≡ false) → closes p closing (take (suc j) (c ∷ cs)) ≡ false
closes_not-step p closing c cs j true e within other rest =
    let other' : suc j ≡ suc (suc (prefix_len p cs)) → get_or cs (prefix_len p cs) 0 ≡ closing → ⊥ = rw (e, one_more (prefix_len p cs)) at other in
    rw e (rest (omega arith) (λ same. other' (ap suc same)))
closes_not-step p closing c cs zero false e within other rest =
    let other' : suc zero ≡ suc zero → c ≡ closing → ⊥ = rw e at other in
    let differs : c ≢ closing = other' refl in
    rw e (grind (arith, nat_tests))
closes_not-step p closing c [] (suc j) false e within other rest = absurd (omega arith)
closes_not-step p closing c (d ∷ cs) (suc j) false e within other rest = rw e (grind (arith, nat_tests))

closes_not : (p : ℕ → Bool) (closing : ℕ) (cs : List ℕ) (j : ℕ) → j ≤ length cs → (j ≡ suc (prefix_len p cs) → get_or cs (prefix_len p cs) 0 ≡ closing → ⊥) → closes p closing (take j cs) ≡ false
closes_not p closing cs zero within other = refl
closes_not p closing [] (suc j) within other = absurd (omega arith)
closes_not p closing (c ∷ cs) (suc j) within other = closes_not-step p closing c cs j (p c) refl within other (closes_not p closing cs j)

word_fits : (c : ℕ) (cs : List ℕ) (n : ℕ) → is_letter c ≡ true → n ≤ prefix_len is_word_byte cs → is_token (take (suc n) (c ∷ cs)) ≡ true
unfolding is_token
word_fits c cs n first within = rw first (all_front is_word_byte cs n within)

word_no_longer : (c : ℕ) (cs : List ℕ) (j : ℕ) → is_letter c ≡ true → 1 + prefix_len is_word_byte cs < j → j ≤ length (c ∷ cs) → is_token (take j (c ∷ cs)) ≡ false
unfolding is_token
word_no_longer c cs zero first over within = absurd (omega arith)
word_no_longer c cs (suc j) first over within = rw first (all_beyond is_word_byte cs j (omega arith) (omega arith))

-- a word reaches as far as word bytes do
pub word_longest : (c : ℕ) (cs : List ℕ) → is_letter c ≡ true → longest (c ∷ cs) ≡ suc (prefix_len is_word_byte cs)
word_longest c cs first =
    longest-found (c ∷ cs) (suc (prefix_len is_word_byte cs)) (omega (arith, prefix_len-le-length is_word_byte cs)) (omega arith)
    (word_fits c cs (prefix_len is_word_byte cs) first (omega arith))
    (λ j over within. word_no_longer c cs j first (omega arith) within)

run_fits : (c : ℕ) (cs : List ℕ) (n : ℕ) → is_letter c ≡ false → is_digit c ≡ true → n ≤ prefix_len is_run_byte cs → is_token (take (suc n) (c ∷ cs)) ≡ true
unfolding is_token
run_fits c cs n not_letter first within = rw (not_letter, first) (all_front is_run_byte cs n within)

run_no_longer : (c : ℕ) (cs : List ℕ) (j : ℕ) → is_letter c ≡ false → is_digit c ≡ true → 1 + prefix_len is_run_byte cs < j → j ≤ length (c ∷ cs) → is_token (take j (c ∷ cs)) ≡ false
unfolding is_token
run_no_longer c cs zero not_letter first over within = absurd (omega arith)
run_no_longer c cs (suc j) not_letter first over within = rw (not_letter, first) (all_beyond is_run_byte cs j (omega arith) (omega arith))

-- a number's run reaches as far as run bytes do
pub run_longest : (c : ℕ) (cs : List ℕ) → is_letter c ≡ false → is_digit c ≡ true → longest (c ∷ cs) ≡ suc (prefix_len is_run_byte cs)
run_longest c cs not_letter first =
    longest-found (c ∷ cs) (suc (prefix_len is_run_byte cs)) (omega (arith, prefix_len-le-length is_run_byte cs)) (omega arith)
    (run_fits c cs (prefix_len is_run_byte cs) not_letter first (omega arith))
    (λ j over within. run_no_longer c cs j not_letter first (omega arith) within)

text_fits : (cs : List ℕ) → prefix_len is_text_byte cs < length cs → get_or cs (prefix_len is_text_byte cs) 0 ≡ 34 → is_token (take (suc (suc (prefix_len is_text_byte cs))) (34 ∷ cs)) ≡ true
unfolding is_token
text_fits cs within here = closes_at is_text_byte 34 cs within here

text_other : (cs : List ℕ) (j : ℕ) → j ≤ length (34 ∷ cs) → (j ≡ suc (suc (prefix_len is_text_byte cs)) → get_or cs (prefix_len is_text_byte cs) 0 ≡ 34 → ⊥) → is_token (take j (34 ∷ cs)) ≡ false
unfolding is_token
text_other cs zero within other = refl
text_other cs (suc j) within other = closes_not is_text_byte 34 cs j (omega arith) (λ same. other (ap suc same))

-- a text reaches to its closing quote
pub text_longest : (cs : List ℕ) → prefix_len is_text_byte cs < length cs → get_or cs (prefix_len is_text_byte cs) 0 ≡ 34 → longest (34 ∷ cs) ≡ suc (suc (prefix_len is_text_byte cs))
text_longest cs within here =
    longest-found (34 ∷ cs) (suc (suc (prefix_len is_text_byte cs))) (omega arith) (omega arith) (text_fits cs within here)
    (λ j over inside. text_other cs j inside (λ same quote. omega arith))

-- where no quote closes it, there is no text
pub text_none : (cs : List ℕ) → get_or cs (prefix_len is_text_byte cs) 0 ≢ 34 → longest (34 ∷ cs) ≡ 0
text_none cs open_end = longest-none (34 ∷ cs) (λ j some inside. text_other cs j inside (λ same quote. open_end quote))

nothing_past : (cs : List ℕ) → get_or cs (length cs) 0 ≡ 34 → ⊥
nothing_past [] past = absurd (omega arith)
nothing_past (c ∷ cs) past = nothing_past cs past

-- the input ends before a closing quote
pub text_cut_none : (cs : List ℕ) → prefix_len is_text_byte cs ≡ length cs → longest (34 ∷ cs) ≡ 0
text_cut_none cs cut = text_none cs (λ quote. let past : get_or cs (length cs) 0 ≡ 34 = rw cut at quote in nothing_past cs past)

no_sign : (j : ℕ) (cs : List ℕ) → is_token (take j (35 ∷ cs)) ≡ false
unfolding is_token is_punctuator punctuators
no_sign zero cs = refl
no_sign (suc j) cs = refl

-- no token begins with `#`
pub sign_none : (cs : List ℕ) → longest (35 ∷ cs) ≡ 0
sign_none cs = longest-none (35 ∷ cs) (λ j some inside. no_sign j cs)
