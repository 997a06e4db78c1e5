-- The test of texts decides which number is told before.
use Rattle.std.proofs.Common.{◌≡◌, ◌<◌, inl, inr, ℕ, zero, suc, true, List, [], ◌∷◌, length, AllPairs, Option, Some, None, option_map}
use Rattle.std.proofs.Common.{unwrap_or, slice_get, slice_index_or, ⊎_elim, Ordering, Less, Equal, Greater, is_lt, nat_cmp, refl, sym, ap}
use Rattle.std.proofs.Common.{subst, ◌∙◌, true≢false, arith}
use Rattle.std.specs.Ordering.{ordering_then}
use Rattle.std.specs.Cmp.Lexicographic.{slice_cmp}
use Rattle.std.proofs.lemmas.Cmp.{ranked, nat_list_cmp_total, tied_itself}
use Rattle.std.proofs.lemmas.List.{length-map}
use Rattle.std.proofs.lemmas.Option.{none-some, slice_get-map, slice_get_within}
use Rattle.tsa_place_model.specs.Ways.{Way}
use Rattle.tsa_path.specs.PathTexts.{Names, path_text}
use Rattle.tsa_rules.specs.Warnings.{StandsBefore, by_text, by_locals, locals_in}
use Rattle.tsa_warn_text.specs.Orders.{IsToldBefore, by_path, by_number, text_of, texts_of, OneIsToldFirst, NotBothAreToldFirst}
use Rattle.tsa_warn_text.specs.Orders.{OrderIsTransitive, RanksFollowTheOrder}
use Rattle.tsa_warn_text.specs.Ranks.{PathText, told_by, told_cmp, is_told_before}
use Rattle.tsa_warn_text.proofs.Comparing.{Compares, compares, told_before, is_less, one_is_before, not_both, chained}
use Rattle.tsa_warn_text.proofs.Ranking.{lower_rank, before_by_rank}

both_equal : (o p : Ordering) → ordering_then o p ≡ Equal → (o ≡ Equal) × (p ≡ Equal)
both_equal Less p e = cc
both_equal Equal p e = (refl, e)
both_equal Greater p e = cc

-- lists of numbers that compare as equal are the same
tied_lists : (xs ys : List ℕ) → slice_cmp nat_cmp xs ys ≡ Equal → xs ≡ ys
tied_lists [] [] e = refl
tied_lists [] (y ∷ ys) e = cc
tied_lists (x ∷ xs) [] e = cc
tied_lists (x ∷ xs) (y ∷ ys) e =
    let both = both_equal (nat_cmp x y) (slice_cmp nat_cmp xs ys) e in
    let first : x ≡ y = ranked x y Equal (sym both.0) in
    let rest = tied_lists xs ys both.1 in
    cc

same_tie : (xs ys : List ℕ) → xs ≡ ys → slice_cmp nat_cmp xs ys ≡ Equal
same_tie xs ys same = ap (slice_cmp nat_cmp xs) (sym same) ∙ tied_itself nat_list_cmp_total xs

pub is_below : (a b : ℕ) → nat_cmp a b ≡ Less → a < b
is_below a b e = ranked a b Less (sym e)

below_is : (a b : ℕ) → a < b → nat_cmp a b ≡ Less
below_is a b h = by (nat_cmp a b) refl
  where
    by : (o : Ordering) → nat_cmp a b ≡ o → o ≡ Less
    by Less e = refl
    by Equal e = let same : a ≡ b = ranked a b Equal (sym e) in absurd (omega arith)
    by Greater e = let later : b < a = ranked a b Greater (sym e) in absurd (omega arith)

-- what the path of a number is told by is what that path is told by
pub at_path : (names : Names) (paths : List Way) (a : ℕ) (c : Way) → slice_get paths a ≡ Some c → told_by (texts_of names paths) a ≡ text_of names c
at_path names paths a c there = ap (λ o. unwrap_or o (record { text = []; locals = [] })) (slice_get-map (text_of names) paths a ∙ ap (option_map (text_of names)) there)

-- how the texts of two paths, their locals and their numbers compare
abbrev path_cmp : Names → (c d : Way) (a b : ℕ) → Ordering
path_cmp names c d a b = ordering_then (ordering_then (slice_cmp nat_cmp (path_text names c) (path_text names d)) (slice_cmp nat_cmp (locals_in c) (locals_in d))) (nat_cmp a b)

compared : (names : Names) (paths : List Way) (a b : ℕ) (c d : Way) → slice_get paths a ≡ Some c → slice_get paths b ≡ Some d → told_cmp (texts_of names paths) a b ≡ path_cmp names c d a b
compared names paths a b c d first second = λ i. ordering_then (ordering_then (slice_cmp nat_cmp (one i).text (two i).text) (slice_cmp nat_cmp (one i).locals (two i).locals)) (nat_cmp a b)
  where
    one : told_by (texts_of names paths) a ≡ text_of names c
    one = at_path names paths a c first

    two : told_by (texts_of names paths) b ≡ text_of names d
    two = at_path names paths b d second

-- a comparison by texts, locals and numbers that says so
tells : (names : Names) (paths : List Way) (a b : ℕ) (c d : Way) → slice_get paths a ≡ Some c → slice_get paths b ≡ Some d
    → (t l : Ordering) → slice_cmp nat_cmp (path_text names c) (path_text names d) ≡ t → slice_cmp nat_cmp (locals_in c) (locals_in d) ≡ l → ordering_then (ordering_then t l) (nat_cmp a b) ≡ Less → IsToldBefore names paths a b
tells names paths a b c d first second Less l e f less = by_path c d first second (by_text (ap is_lt e))
tells names paths a b c d first second Equal Less e f less = by_path c d first second (by_locals (tied_lists _ _ e) (ap is_lt f))
tells names paths a b c d first second Equal Equal e f less = by_number c d first second (tied_lists _ _ e) (tied_lists _ _ f) (is_below a b less)
tells names paths a b c d first second Equal Greater e f less = cc
tells names paths a b c d first second Greater l e f less = cc

as_many : (names : Names) (paths : List Way) → length (texts_of names paths) ≡ length paths
as_many names paths = length-map paths (text_of names)

is_there : (paths : List Way) (a : ℕ) → a < length paths → ¬ (slice_get paths a ≡ None)
is_there [] a within none = absurd (omega arith)
is_there (c ∷ paths) zero within none = none-some c (sym none)
is_there (c ∷ paths) (suc a) within none = is_there paths a (omega arith) none

-- what comes before by the test is told before
pub test_tells : (names : Names) (paths : List Way) (a b : ℕ) → is_told_before (texts_of names paths) a b ≡ true → IsToldBefore names paths a b
test_tells names paths a b e = by (slice_get paths a) (slice_get paths b) refl refl
  where
    h : Compares (texts_of names paths) a b
    h = compares (texts_of names paths) a b e

    by : (o p : Option Way) → slice_get paths a ≡ o → slice_get paths b ≡ p → IsToldBefore names paths a b
    by None p first second = absurd (is_there paths a (omega (arith, h.first, as_many names paths)) first)
    by (Some c) None first second = absurd (is_there paths b (omega (arith, h.second, as_many names paths)) second)
    by (Some c) (Some d) first second = tells names paths a b c d first second _ _ refl refl (sym (compared names paths a b c d first second) ∙ h.less)

-- what is told before comes before by the test
pub told_tests : (names : Names) (paths : List Way) (a b : ℕ) → IsToldBefore names paths a b → is_told_before (texts_of names paths) a b ≡ true
told_tests names paths a b told = told_before (texts_of names paths) a b (by told)
  where
    found : (c d : Way) → slice_get paths a ≡ Some c → slice_get paths b ≡ Some d → path_cmp names c d a b ≡ Less → Compares (texts_of names paths) a b
    found c d first second less =
        let one = slice_get_within paths a c first in
        let two = slice_get_within paths b d second in
        record { first = omega (arith, as_many names paths); second = omega (arith, as_many names paths); less = compared names paths a b c d first second ∙ less }

    stands : (c d : Way) → StandsBefore names c d → path_cmp names c d a b ≡ Less
    stands c d (by_text e) = ap (λ o. ordering_then (ordering_then o (slice_cmp nat_cmp (locals_in c) (locals_in d))) (nat_cmp a b)) (is_less _ e)
    stands c d (by_locals same e) =
        ap (λ o. ordering_then (ordering_then o (slice_cmp nat_cmp (locals_in c) (locals_in d))) (nat_cmp a b)) (same_tie _ _ same)
        ∙ ap (λ o. ordering_then o (nat_cmp a b)) (is_less _ e)

    ties : (c d : Way) → path_text names c ≡ path_text names d → locals_in c ≡ locals_in d → a < b → path_cmp names c d a b ≡ Less
    ties c d same alike h =
        ap (λ o. ordering_then (ordering_then o (slice_cmp nat_cmp (locals_in c) (locals_in d))) (nat_cmp a b)) (same_tie _ _ same)
        ∙ ap (λ o. ordering_then o (nat_cmp a b)) (same_tie _ _ alike) ∙ below_is a b h

    by : IsToldBefore names paths a b → Compares (texts_of names paths) a b
    by (by_path c d first second before) = found c d first second (stands c d before)
    by (by_number c d first second same alike h) = found c d first second (ties c d same alike h)

pub one_is_told_first : OneIsToldFirst
one_is_told_first names paths a b first second other =
    let long = as_many names paths in
    ⊎_elim (λ e. inl (test_tells names paths a b e)) (λ e. inr (test_tells names paths b a e)) (one_is_before (texts_of names paths) a b (omega arith) (omega arith) other)

pub not_both_are_told_first : NotBothAreToldFirst
not_both_are_told_first names paths a b told back = true≢false (sym (told_tests names paths b a back) ∙ not_both (texts_of names paths) a b (told_tests names paths a b told))

pub order_is_transitive : OrderIsTransitive
order_is_transitive names paths a b c one two = test_tells names paths a c (chained (texts_of names paths) a b c (told_tests names paths a b one) (told_tests names paths b c two))

pub ranks_follow_the_order : RanksFollowTheOrder
ranks_follow_the_order names paths a b first second =
    let long = as_many names paths in
    (λ lower. test_tells names paths a b (before_by_rank (texts_of names paths) a b (omega arith) (omega arith) lower), λ told. lower_rank (texts_of names paths) a b (told_tests names paths a b told))

-- an order of the texts of paths is one of the paths
pub order_tells : (texts : List PathText) (order : List ℕ) → AllPairs (λ a b. is_told_before texts a b ≡ true) order → (names : Names) (paths : List Way) → texts ≡ texts_of names paths → AllPairs (IsToldBefore names paths) order
order_tells texts order told names paths same i j d before within = test_tells names paths _ _ (subst (λ l. is_told_before l (slice_index_or order i d) (slice_index_or order j d) ≡ true) same (told i j d before within))
