-- What only separates tokens: ends of comments, where lines open, and the words of lines.
use Rattle.std.proofs.Common.{◌≡◌, ◌≢◌, ℕ, suc, ◌+◌, ◌-◌, ◌<◌, ◌≤◌, Bool, true, false, ◌==◌, ◌&&◌, ◌||◌, Option, Some, None, List, [], ◌∷◌}
use Rattle.std.proofs.Common.{◌++◌, length, take, drop, reverse, get_or, refl, sym, ap, ◌∙◌, arith, codes}
use Rattle.std.proofs.Math.Seq.{drop-cons, take-append_seam, take-length}
use Rattle.std.proofs.lemmas.Bool.Decides.{nat_tests}
use Rattle.std.proofs.lemmas.List.{reverse-append, length-reverse, get_or-reverse, take-append-drop, length-drop}
use Rattle.std.proofs.lemmas.List.Folds.{list_all-append}
use Rattle.std.proofs.lemmas.List.Sums.{suffix_len-le-length}
use Rattle.std.specs.List.{list_all, list_any, prefix_len, suffix_len}
use Rattle.std.specs.Str.{bytes_eq}
use Rattle.tsa_base.specs.Bytes.{is_digit, is_word_byte, is_indent, is_line_byte}
use Rattle.tsa_base.specs.Tokens.{map_length, block_end, last_line, opens_line, front_word, line_word, is_skipped}
use Rattle.tsa_base.proofs.Numbers.{one_more}

map_length-none : (f : ℕ → ℕ) (e : Option ℕ) → e ≡ None → map_length f e ≡ None
map_length-none f None is = refl
map_length-none f (Some n) is = cc

pub end_begun : (xs : List ℕ) → block_end xs ≡ map_length (λ n. 0 + n) (block_end (drop 0 xs))
end_begun xs = same (block_end xs)
  where
    same : (e : Option ℕ) → e ≡ map_length (λ n. 0 + n) e
    same None = refl
    same (Some n) = let m : n ≡ 0 + n = omega arith in ap (λ k. Some k) m

-- a pair that is no end
end_step : (at a b : ℕ) (xs : List ℕ) → ((a == 42) && (b == 47)) ≡ false → map_length (λ n. at + n) (block_end (a ∷ b ∷ xs)) ≡ map_length (λ n. at + 1 + n) (block_end (b ∷ xs))
unfolding block_end
end_step at a b xs other = rw other (further (block_end (b ∷ xs)))
  where
    further : (e : Option ℕ) → map_length (λ n. at + n) (map_length suc e) ≡ map_length (λ n. at + 1 + n) e
    further None = refl
    further (Some n) = let m : at + suc n ≡ at + 1 + n = omega arith in ap (λ k. Some k) m

end_pair : (at a b : ℕ) (xs : List ℕ) → ((a == 42) && (b == 47)) ≡ true → map_length (λ n. at + n) (block_end (a ∷ b ∷ xs)) ≡ Some (at + 2)
unfolding block_end
end_pair at a b xs here = rw here refl

two_at : (xs : List ℕ) (at : ℕ) → at + 1 < length xs → drop at xs ≡ get_or xs at 0 ∷ get_or xs (at + 1) 0 ∷ drop (at + 2) xs
two_at xs at within =
    let one : suc at ≡ at + 1 = omega arith in
    let two : suc (at + 1) ≡ at + 2 = omega arith in
    drop-cons xs at 0 (omega arith) ∙ ap (λ k. get_or xs at 0 ∷ drop k xs) one
    ∙ ap (λ l. get_or xs at 0 ∷ l) (drop-cons xs (at + 1) 0 within) ∙ ap (λ k. get_or xs at 0 ∷ get_or xs (at + 1) 0 ∷ drop k xs) two

one_at : (xs : List ℕ) (at : ℕ) → at + 1 < length xs → drop (at + 1) xs ≡ get_or xs (at + 1) 0 ∷ drop (at + 2) xs
one_at xs at within =
    let two : suc (at + 1) ≡ at + 2 = omega arith in
    drop-cons xs (at + 1) 0 within ∙ ap (λ k. get_or xs (at + 1) 0 ∷ drop k xs) two

pub end_further : (xs : List ℕ) (at : ℕ) → at + 1 < length xs → ((get_or xs at 0 == 42) && (get_or xs (at + 1) 0 == 47)) ≡ false
    → map_length (λ n. at + n) (block_end (drop at xs)) ≡ map_length (λ n. at + 1 + n) (block_end (drop (at + 1) xs))
end_further xs at within other =
    ap (λ l. map_length (λ n. at + n) (block_end l)) (two_at xs at within) ∙ end_step at (get_or xs at 0) (get_or xs (at + 1) 0) (drop (at + 2) xs) other
    ∙ sym (ap (λ l. map_length (λ n. at + 1 + n) (block_end l)) (one_at xs at within))

pub end_here : (xs : List ℕ) (at : ℕ) → at + 1 < length xs → ((get_or xs at 0 == 42) && (get_or xs (at + 1) 0 == 47)) ≡ true
    → map_length (λ n. at + n) (block_end (drop at xs)) ≡ Some (at + 2)
end_here xs at within here =
    ap (λ l. map_length (λ n. at + n) (block_end l)) (two_at xs at within) ∙ end_pair at (get_or xs at 0) (get_or xs (at + 1) 0) (drop (at + 2) xs) here

short : (xs : List ℕ) → length xs ≤ 1 → block_end xs ≡ None
unfolding block_end
short [] small = refl
short (x ∷ []) small = refl
short (x ∷ y ∷ xs) small = absurd (omega arith)

pub end_nowhere : (xs : List ℕ) (at : ℕ) → length xs ≤ at + 1 → map_length (λ n. at + n) (block_end (drop at xs)) ≡ None
end_nowhere xs at over = map_length-none (λ n. at + n) (block_end (drop at xs)) (short (drop at xs) (omega (arith, length-drop at xs)))

-- Where a line opens.

list_all-turned : (p : ℕ → Bool) (xs : List ℕ) → list_all p (reverse xs) ≡ list_all p xs
list_all-turned p [] = refl
list_all-turned p (x ∷ xs) =
    ap (list_all p) (reverse-append (x ∷ []) xs) ∙ list_all-append p (reverse xs) (x ∷ []) ∙ swapped (list_all p (reverse xs)) (p x) ∙ ap (λ b. p x && b) (list_all-turned p xs)
  where
    swapped : (a b : Bool) → (a && (b && true)) ≡ (b && a)
    swapped true true = refl
    swapped true false = refl
    swapped false true = refl
    swapped false false = refl

-- the last elements, from the back
turned : (xs : List ℕ) (k : ℕ) → k ≤ length xs → reverse (drop (length xs - k) xs) ≡ take k (reverse xs)
turned xs k within =
    let m = length xs - k in
    let whole : reverse xs ≡ reverse (drop m xs) ++ reverse (take m xs) = ap reverse (sym (take-append-drop m xs)) ∙ reverse-append (take m xs) (drop m xs) in
    let long : length (reverse (drop m xs)) ≡ k = omega (arith, length-reverse (drop m xs), length-drop m xs) in
    sym (ap (take k) whole ∙ ap (λ n. take n (reverse (drop m xs) ++ reverse (take m xs))) (sym long) ∙ take-append_seam (reverse (drop m xs)) (reverse (take m xs)))

none_is_some : (n : ℕ) → (0 == suc n) ≡ false
none_is_some n = grind (arith, nat_tests)

same_more : (n m : ℕ) → (suc n == suc m) ≡ (n == m)
same_more n m = grind (arith, nat_tests)

-- the same from the back: after a line end, or from the start, spaces and tabs alone
opens_turned-step : (y : ℕ) (ys : List ℕ) (ends skips : Bool) → (y == 10) ≡ ends → is_indent y ≡ skips
    → list_all is_indent (take (prefix_len is_line_byte ys) ys) ≡ ((prefix_len is_indent ys == length ys) || (get_or ys (prefix_len is_indent ys) 0 == 10))
    → list_all is_indent (take (prefix_len is_line_byte (y ∷ ys)) (y ∷ ys)) ≡ ((prefix_len is_indent (y ∷ ys) == length (y ∷ ys)) || (get_or (y ∷ ys) (prefix_len is_indent (y ∷ ys)) 0 == 10))
opens_turned-step y ys true true end skip rest = absurd (grind (arith, nat_tests))
opens_turned-step y ys true false end skip rest = simp (end, skip, none_is_some (length ys)) refl
opens_turned-step y ys false true end skip rest = simp (end, skip, one_more, same_more) rest
opens_turned-step y ys false false end skip rest = simp (end, skip, one_more, none_is_some (length ys)) refl

opens_turned : (ys : List ℕ) → list_all is_indent (take (prefix_len is_line_byte ys) ys) ≡ ((prefix_len is_indent ys == length ys) || (get_or ys (prefix_len is_indent ys) 0 == 10))
opens_turned [] = refl
opens_turned (y ∷ ys) = opens_turned-step y ys (y == 10) (is_indent y) refl refl (opens_turned ys)

opens_reversed : (xs : List ℕ) → opens_line xs ≡ list_all is_indent (take (suffix_len is_line_byte xs) (reverse xs))
unfolding opens_line
opens_reversed xs =
    let k = suffix_len is_line_byte xs in
    sym (list_all-turned is_indent (last_line xs)) ∙ ap (list_all is_indent) (turned xs k (suffix_len-le-length is_line_byte xs))

at_margin : (k n margin a b : ℕ) → margin ≡ n - k → k ≤ n → (k < n → a ≡ b) → ((k == n) || (a == 10)) ≡ ((margin == 0) || (b == 10))
at_margin k n margin a b is within same = grind (arith, nat_tests)

opens_at : (xs : List ℕ) (margin : ℕ) → margin ≡ length xs - suffix_len is_indent xs → opens_line xs ≡ ((margin == 0) || (get_or xs (margin - 1) 0 == 10))
opens_at xs margin is =
    let k = suffix_len is_indent xs in
    let within : k ≤ length xs = suffix_len-le-length is_indent xs in
    let long : length (reverse xs) ≡ length xs = length-reverse xs in
    opens_reversed xs ∙ opens_turned (reverse xs)
    ∙ at_margin k (length (reverse xs)) margin (get_or (reverse xs) k 0) (get_or xs (margin - 1) 0) (omega arith) (omega arith) (λ less.
    let behind : length xs - 1 - k ≡ margin - 1 = omega arith in
    get_or-reverse xs k 0 (omega arith) ∙ ap (λ j. get_or xs j 0) behind)

pub opens_start : (xs : List ℕ) → length xs - suffix_len is_indent xs ≡ 0 → opens_line xs ≡ true
opens_start xs none = opens_at xs 0 (sym none)

pub opens_behind : (xs : List ℕ) (margin : ℕ) → margin ≡ length xs - suffix_len is_indent xs → margin ≢ 0 → opens_line xs ≡ (get_or xs (margin - 1) 0 == 10)
opens_behind xs margin is some = let whole = opens_at xs margin is in grind (arith, nat_tests)

-- The word of a line.

front_word-is : (p : ℕ → Bool) (xs : List ℕ) → front_word p xs ≡ take (prefix_len p xs) xs
front_word-is p [] = refl
front_word-is p (x ∷ xs) = step (p x) refl (front_word-is p xs)
  where
    step : (b : Bool) → p x ≡ b → front_word p xs ≡ take (prefix_len p xs) xs → front_word p (x ∷ xs) ≡ take (prefix_len p (x ∷ xs)) (x ∷ xs)
    step true is rest = simp (is, one_more) (ap (λ l. x ∷ l) rest)
    step false is rest = simp is refl

line_word-step : (c : ℕ) (cs : List ℕ) (b : Bool) → is_indent c ≡ b → line_word cs ≡ front_word is_word_byte (drop (prefix_len is_indent cs) cs) → line_word (c ∷ cs) ≡ front_word is_word_byte (drop (prefix_len is_indent (c ∷ cs)) (c ∷ cs))
unfolding line_word
line_word-step c cs true is rest = simp (is, one_more) rest
line_word-step c cs false is rest = simp is refl

line_word-is : (xs : List ℕ) → line_word xs ≡ front_word is_word_byte (drop (prefix_len is_indent xs) xs)
unfolding line_word
line_word-is [] = refl
line_word-is (c ∷ cs) = line_word-step c cs (is_indent c) refl (line_word-is cs)

word_is : (xs : List ℕ) → line_word xs ≡ take (prefix_len is_word_byte (drop (prefix_len is_indent xs) xs)) (drop (prefix_len is_indent xs) xs)
word_is xs = line_word-is xs ∙ front_word-is is_word_byte (drop (prefix_len is_indent xs) xs)

pub word_at : (xs : List ℕ) (n m : ℕ) → n ≡ prefix_len is_indent xs → m ≡ prefix_len is_word_byte (take (length xs - n) (drop n xs)) → take m (take (length xs - n) (drop n xs)) ≡ line_word xs
word_at xs n m indent word =
    let rest : take (length xs - n) (drop n xs) ≡ drop n xs = ap (λ k. take k (drop n xs)) (sym (length-drop n xs)) ∙ take-length (drop n xs) in
    ap (take m) rest ∙ ap (λ k. take k (drop n xs)) (word ∙ ap (prefix_len is_word_byte) rest)
    ∙ ap (λ i. take (prefix_len is_word_byte (drop i xs)) (drop i xs)) indent ∙ sym (word_is xs)

pub skipped_none : (word : List ℕ) → length word < 1 → is_skipped word ≡ true
unfolding is_skipped
skipped_none [] small = refl
skipped_none (c ∷ cs) small = absurd (omega arith)

pub skipped_some : (word : List ℕ) → 1 ≤ length word → is_skipped word ≡ (is_digit (get_or word 0 0) || list_any (bytes_eq word) (codes "include" ∷ codes "pragma" ∷ codes "line" ∷ []))
unfolding is_skipped
skipped_some [] some = absurd (omega arith)
skipped_some (c ∷ cs) some = refl
