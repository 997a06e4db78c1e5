-- Reserved words, by their lengths.
use Rattle.std.proofs.Common.{◌≡◌, ◌≢◌, ℕ, true, false, List, [], ◌∷◌, length, refl, sym, ◌∙◌, arith}
use Rattle.std.proofs.lemmas.Bool.Decides.{nat_tests}
use Rattle.std.proofs.lemmas.Map.Views.{any-filter_same}
use Rattle.std.proofs.lemmas.Slice.Eq.{bytes_eq-Decides}
use Rattle.std.specs.Prelude.{◌==◌, filter, codes}
use Rattle.std.specs.List.{list_any}
use Rattle.std.specs.Str.{bytes_eq}
use Rattle.tsa_base.specs.Words.{keywords, macro_words, reserved, is_reserved}

-- a word that a text equals is as long as the text
pub same_length : (text word : List ℕ) → bytes_eq text word ≡ true → (length word == length text) ≡ true
same_length text word same = let whole : text ≡ word = (bytes_eq-Decides text word).0 same in rw (sym whole) (grind (arith, nat_tests))

-- of the reserved words those of the text's own length decide
of_length : (text : List ℕ) (n : ℕ) → length text ≡ n → list_any (bytes_eq text) (filter (λ word. length word == n) reserved) ≡ is_reserved text
unfolding is_reserved
of_length text n long = rw (← long) (any-filter_same (bytes_eq text) (λ word. length word == length text) true (same_length text) reserved)

pub of_two : (text : List ℕ) → length text ≡ 2 → list_any (bytes_eq text) (codes "do" ∷ codes "if" ∷ []) ≡ is_reserved text
unfolding reserved keywords macro_words
of_two text long = of_length text 2 long

pub of_three : (text : List ℕ) → length text ≡ 3 → list_any (bytes_eq text) (codes "for" ∷ codes "int" ∷ []) ≡ is_reserved text
unfolding reserved keywords macro_words
of_three text long = of_length text 3 long

pub of_four : (text : List ℕ) → length text ≡ 4 → list_any (bytes_eq text) (codes "auto" ∷ codes "case" ∷ codes "char" ∷ codes "else" ∷ codes "enum" ∷ codes "goto" ∷ codes "long" ∷ codes "void" ∷ codes "NULL" ∷ []) ≡ is_reserved text
unfolding reserved keywords macro_words
of_four text long = of_length text 4 long

pub of_five : (text : List ℕ) → length text ≡ 5 → list_any (bytes_eq text) (codes "break" ∷ codes "const" ∷ codes "float" ∷ codes "short" ∷ codes "union" ∷ codes "while" ∷ codes "_Bool" ∷ []) ≡ is_reserved text
unfolding reserved keywords macro_words
of_five text long = of_length text 5 long

pub of_six : (text : List ℕ) → length text ≡ 6 → list_any (bytes_eq text) (codes "double" ∷ codes "extern" ∷ codes "inline" ∷ codes "return" ∷ codes "signed" ∷ codes "sizeof" ∷ codes "static" ∷ codes "struct" ∷ codes "switch" ∷ []) ≡ is_reserved text
unfolding reserved keywords macro_words
of_six text long = of_length text 6 long

pub of_seven : (text : List ℕ) → length text ≡ 7 → list_any (bytes_eq text) (codes "default" ∷ codes "typedef" ∷ codes "_Atomic" ∷ codes "ACQUIRE" ∷ codes "RELEASE" ∷ []) ≡ is_reserved text
unfolding reserved keywords macro_words
of_seven text long = of_length text 7 long

pub of_eight : (text : List ℕ) → length text ≡ 8 → list_any (bytes_eq text) (codes "continue" ∷ codes "register" ∷ codes "restrict" ∷ codes "unsigned" ∷ codes "volatile" ∷ codes "_Alignas" ∷ codes "_Alignof" ∷ codes "_Complex" ∷ codes "_Generic" ∷ codes "REQUIRES" ∷ codes "EXCLUDES" ∷ []) ≡ is_reserved text
unfolding reserved keywords macro_words
of_eight text long = of_length text 8 long

pub of_nine : (text : List ℕ) → length text ≡ 9 → list_any (bytes_eq text) (codes "_Noreturn" ∷ []) ≡ is_reserved text
unfolding reserved keywords macro_words
of_nine text long = of_length text 9 long

pub of_ten : (text : List ℕ) → length text ≡ 10 → list_any (bytes_eq text) (codes "_Imaginary" ∷ codes "CAPABILITY" ∷ codes "GUARDED_BY" ∷ []) ≡ is_reserved text
unfolding reserved keywords macro_words
of_ten text long = of_length text 10 long

pub of_eleven : (text : List ℕ) → length text ≡ 11 → list_any (bytes_eq text) (codes "TRY_ACQUIRE" ∷ []) ≡ is_reserved text
unfolding reserved keywords macro_words
of_eleven text long = of_length text 11 long

pub of_thirteen : (text : List ℕ) → length text ≡ 13 → list_any (bytes_eq text) (codes "_Thread_local" ∷ codes "PT_GUARDED_BY" ∷ codes "__attribute__" ∷ []) ≡ is_reserved text
unfolding reserved keywords macro_words
of_thirteen text long = of_length text 13 long

pub of_fourteen : (text : List ℕ) → length text ≡ 14 → list_any (bytes_eq text) (codes "_Static_assert" ∷ codes "ACQUIRE_SHARED" ∷ codes "RELEASE_SHARED" ∷ codes "ACQUIRED_AFTER" ∷ []) ≡ is_reserved text
unfolding reserved keywords macro_words
of_fourteen text long = of_length text 14 long

pub of_fifteen : (text : List ℕ) → length text ≡ 15 → list_any (bytes_eq text) (codes "REQUIRES_SHARED" ∷ codes "RELEASE_GENERIC" ∷ codes "ACQUIRED_BEFORE" ∷ []) ≡ is_reserved text
unfolding reserved keywords macro_words
of_fifteen text long = of_length text 15 long

pub of_seventeen : (text : List ℕ) → length text ≡ 17 → list_any (bytes_eq text) (codes "RETURN_CAPABILITY" ∷ codes "ASSERT_CAPABILITY" ∷ codes "SCOPED_CAPABILITY" ∷ []) ≡ is_reserved text
unfolding reserved keywords macro_words
of_seventeen text long = of_length text 17 long

pub of_eighteen : (text : List ℕ) → length text ≡ 18 → list_any (bytes_eq text) (codes "TRY_ACQUIRE_SHARED" ∷ []) ≡ is_reserved text
unfolding reserved keywords macro_words
of_eighteen text long = of_length text 18 long

pub of_twenty_four : (text : List ℕ) → length text ≡ 24 → list_any (bytes_eq text) (codes "ASSERT_SHARED_CAPABILITY" ∷ []) ≡ is_reserved text
unfolding reserved keywords macro_words
of_twenty_four text long = of_length text 24 long

pub of_twenty_five : (text : List ℕ) → length text ≡ 25 → list_any (bytes_eq text) (codes "NO_THREAD_SAFETY_ANALYSIS" ∷ []) ≡ is_reserved text
unfolding reserved keywords macro_words
of_twenty_five text long = of_length text 25 long

pub differ : (k m : ℕ) → m ≢ k → (k == m) ≡ false
differ k m other = grind (arith, nat_tests)

-- no reserved word has another length
pub of_no_length : (text : List ℕ) → length text ≢ 2 → length text ≢ 3 → length text ≢ 4 → length text ≢ 5 → length text ≢ 6 → length text ≢ 7 → length text ≢ 8 → length text ≢ 9 → length text ≢ 10 → length text ≢ 11 → length text ≢ 13 → length text ≢ 14 → length text ≢ 15 → length text ≢ 17 → length text ≢ 18 → length text ≢ 24 → length text ≢ 25 → is_reserved text ≡ false
unfolding reserved keywords macro_words
of_no_length text n2 n3 n4 n5 n6 n7 n8 n9 n10 n11 n13 n14 n15 n17 n18 n24 n25 =
    sym (of_length text (length text) refl) ∙ simp (differ 2 (length text) n2, differ 3 (length text) n3, differ 4 (length text) n4, differ 5 (length text) n5, differ 6 (length text) n6, differ 7 (length text) n7, differ 8 (length text) n8, differ 9 (length text) n9, differ 10 (length text) n10, differ 11 (length text) n11, differ 13 (length text) n13, differ 14 (length text) n14, differ 15 (length text) n15, differ 17 (length text) n17, differ 18 (length text) n18, differ 24 (length text) n24, differ 25 (length text) n25)
