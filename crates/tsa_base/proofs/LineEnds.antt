-- Where a line ends, and that what is after it has no part in its word.
use Rattle.std.proofs.Common.{◌≡◌, ℕ, ◌+◌, Bool, true, false, List, [], ◌∷◌, ◌++◌, length, take, drop, refl, arith}
use Rattle.std.proofs.lemmas.Bool.{and_parts, and_from}
use Rattle.std.proofs.lemmas.Bool.Decides.{nat_tests}
use Rattle.std.specs.List.{list_all, prefix_len}
use Rattle.tsa_base.specs.Bytes.{is_line_byte, is_word_byte, is_indent}
use Rattle.tsa_base.specs.Tokens.{line_len, line_word, front_word}
use Rattle.tsa_base.specs.PieceLaws.{ReachesLineEnd}
use Rattle.tsa_base.proofs.Numbers.{one_more}

-- bytes that pass up to one that doesn't are as many as pass
prefix-all : (p : ℕ → Bool) (xs ys : List ℕ) → list_all p xs ≡ true → prefix_len p ys ≡ 0 → prefix_len p (xs ++ ys) ≡ length xs
prefix-all p [] ys all none = none
prefix-all p (x ∷ xs) ys all none =
    let parts = and_parts (p x) (list_all p xs) all in
    let first : p x ≡ true = parts.0 in
    let rest : prefix_len p (xs ++ ys) ≡ length xs = prefix-all p xs ys parts.1 none in
    rw first (omega arith)

all-prefix-step : (p : ℕ → Bool) (x : ℕ) (xs : List ℕ) (b : Bool) → p x ≡ b → list_all p (take (prefix_len p xs) xs) ≡ true → list_all p (take (prefix_len p (x ∷ xs)) (x ∷ xs)) ≡ true
all-prefix-step p x xs true e rest = simp (e, one_more (prefix_len p xs)) rest
all-prefix-step p x xs false e rest = rw e refl

all-prefix : (p : ℕ → Bool) (xs : List ℕ) → list_all p (take (prefix_len p xs) xs) ≡ true
all-prefix p [] = refl
all-prefix p (x ∷ xs) = all-prefix-step p x xs (p x) refl (all-prefix p xs)

none-behind-step : (p : ℕ → Bool) (x : ℕ) (xs : List ℕ) (b : Bool) → p x ≡ b → prefix_len p (drop (prefix_len p xs) xs) ≡ 0 → prefix_len p (drop (prefix_len p (x ∷ xs)) (x ∷ xs)) ≡ 0
none-behind-step p x xs true e rest = simp (e, one_more (prefix_len p xs)) rest
none-behind-step p x xs false e rest = simp e

none-behind : (p : ℕ → Bool) (xs : List ℕ) → prefix_len p (drop (prefix_len p xs) xs) ≡ 0
none-behind p [] = refl
none-behind p (x ∷ xs) = none-behind-step p x xs (p x) refl (none-behind p xs)

pub reaches-length : (text behind : List ℕ) → ReachesLineEnd text behind → line_len (text ++ behind) ≡ length text
reaches-length text behind r = prefix-all is_line_byte text behind r.within r.ends

-- a byte of the line, and the line up to its end
pub line-reaches : (c : ℕ) (cs : List ℕ) → is_line_byte c ≡ true → ReachesLineEnd (c ∷ take (line_len cs) cs) (drop (line_len cs) cs)
line-reaches c cs first = record {
  within = and_from (is_line_byte c) (list_all is_line_byte (take (line_len cs) cs)) first (all-prefix is_line_byte cs);
  ends = none-behind is_line_byte cs;
}

line_end-step : (c : ℕ) (cs : List ℕ) (b : Bool) → is_line_byte c ≡ b → line_len (c ∷ cs) ≡ 0 → c ≡ 10
line_end-step c cs true e ends = let small : 1 + line_len cs ≡ 0 = rw e at ends in absurd (omega arith)
line_end-step c cs false e ends = grind (arith, nat_tests)

no_word-behind : (cs : List ℕ) → line_len cs ≡ 0 → front_word is_word_byte cs ≡ []
no_word-behind [] ends = refl
no_word-behind (c ∷ cs) ends = let newline : c ≡ 10 = line_end-step c cs (is_line_byte c) refl ends in rw newline refl

no_line_word-behind : (cs : List ℕ) → line_len cs ≡ 0 → line_word cs ≡ []
unfolding line_word
no_line_word-behind [] ends = refl
no_line_word-behind (c ∷ cs) ends = let newline : c ≡ 10 = line_end-step c cs (is_line_byte c) refl ends in rw newline refl

front_word-step : (p : ℕ → Bool) (c : ℕ) (cs ds : List ℕ) (b : Bool) → p c ≡ b → front_word p (cs ++ ds) ≡ front_word p cs → front_word p (c ∷ cs ++ ds) ≡ front_word p (c ∷ cs)
front_word-step p c cs ds true e rest = simp (e, rest)
front_word-step p c cs ds false e rest = simp e

front_word-append : (p : ℕ → Bool) (cs ds : List ℕ) → front_word p ds ≡ [] → front_word p (cs ++ ds) ≡ front_word p cs
front_word-append p [] ds none = none
front_word-append p (c ∷ cs) ds none = front_word-step p c cs ds (p c) refl (front_word-append p cs ds none)

line_word-step : (c : ℕ) (cs ds : List ℕ) (b : Bool) → is_indent c ≡ b → line_len ds ≡ 0 → line_word (cs ++ ds) ≡ line_word cs → line_word (c ∷ cs ++ ds) ≡ line_word (c ∷ cs)
unfolding line_word
line_word-step c cs ds true e ends rest = simp (e, rest)
line_word-step c cs ds false e ends rest = rw e (front_word-append is_word_byte (c ∷ cs) ds (no_word-behind ds ends))

-- what is after a line isn't of its word
pub line_word-append : (cs ds : List ℕ) → line_len ds ≡ 0 → line_word (cs ++ ds) ≡ line_word cs
unfolding line_word
line_word-append [] ds ends = no_line_word-behind ds ends
line_word-append (c ∷ cs) ds ends = line_word-step c cs ds (is_indent c) refl ends (line_word-append cs ds ends)
