-- The functions of a unit by number.
use Rattle.std.proofs.Common.{ℕ, ◌+◌, ◌-◌, ◌≡◌, ◌∙◌, ◌<◌, ◌≤◌, true, false, Some, None, ap, sym, refl, List, [], ◌∷◌, ◌++◌, length, get_or}
use Rattle.std.proofs.Common.{take, drop, slice_get, if◌then◌else◌, arith}
use Rattle.std.proofs.lemmas.List.{drop_more, drop_all, take_more}
use Rattle.std.proofs.lemmas.Option.{slice_get_past}
use native.Mathlib.Numerals.{unary_clauses}
use Rattle.std.specs.List.{list_any}
use Rattle.tsa_tree.specs.declared.item.FnTree.{FnTree}
use Rattle.tsa_tree.specs.declared.item.Item.{Item}
use Rattle.tsa_tree.specs.declared.item.Item.TheVariants as item
use Rattle.tsa_tree.specs.units.Functions.{functions_in, bears, firsts_behind}

list-nil : (xs : List FnTree) → xs ++ [] ≡ xs
list-nil [] = refl
list-nil (x ∷ xs) = ap (λ ys. x ∷ ys) (list-nil xs)

slice_get_after : (f : FnTree) (fs : List FnTree) (n : ℕ) → slice_get (f ∷ fs) (n + 1) ≡ slice_get fs n
slice_get_after f fs n = simp unary_clauses refl

functions_append : (xs ys : List Item) → functions_in (xs ++ ys) ≡ functions_in xs ++ functions_in ys
functions_append [] ys = refl
functions_append (item.Function f ∷ xs) ys = ap (λ fs. f ∷ fs) (functions_append xs ys)
functions_append (_ ∷ xs) ys = functions_append xs ys

-- the next item is a function, or none
pub function_next : (xs : List Item) (i : ℕ) (d : Item) (f : FnTree) → i < length xs → get_or xs i d ≡ item.Function f
    → functions_in (drop i xs) ≡ f ∷ functions_in (drop (i + 1) xs)
function_next xs i d f lt e = ap functions_in (drop_more xs i d lt) ∙ ap (λ x. functions_in (x ∷ drop (i + 1) xs)) e

abbrev IsNone : Item → Type 0
IsNone (item.Function f) = ⊥
IsNone other = Unit {0}

other_first : (x : Item) (xs : List Item) → IsNone x → functions_in (x ∷ xs) ≡ functions_in xs
other_first (item.Function f) xs h = absurd h
other_first _ xs h = refl

no_function : (x : Item) → ((f : FnTree) → x ≡ item.Function f → ⊥) → IsNone x
no_function (item.Function f) h = h f refl
no_function _ h = tt

pub other_next : (xs : List Item) (i : ℕ) (d : Item) → i < length xs → ((f : FnTree) → get_or xs i d ≡ item.Function f → ⊥)
    → functions_in (drop i xs) ≡ functions_in (drop (i + 1) xs)
other_next xs i d lt h =
    ap functions_in (drop_more xs i d lt) ∙ other_first (get_or xs i d) (drop (i + 1) xs) (no_function (get_or xs i d) h)

-- the items before the next one
function_seen : (xs : List Item) (i : ℕ) (d : Item) (f : FnTree) → i < length xs → get_or xs i d ≡ item.Function f
    → functions_in (take (i + 1) xs) ≡ functions_in (take i xs) ++ f ∷ []
function_seen xs i d f lt e =
    ap functions_in (take_more xs i d lt) ∙ functions_append (take i xs) (get_or xs i d ∷ [])
    ∙ ap (λ x. functions_in (take i xs) ++ functions_in (x ∷ [])) e

other_seen : (xs : List Item) (i : ℕ) (d : Item) → i < length xs → ((f : FnTree) → get_or xs i d ≡ item.Function f → ⊥)
    → functions_in (take (i + 1) xs) ≡ functions_in (take i xs)
other_seen xs i d lt h =
    ap functions_in (take_more xs i d lt) ∙ functions_append (take i xs) (get_or xs i d ∷ [])
    ∙ ap (λ fs. functions_in (take i xs) ++ fs) (other_first (get_or xs i d) [] (no_function (get_or xs i d) h)) ∙ list-nil (functions_in (take i xs))

-- each function's first declaration, from the next item on
declared_again : (seen fs : List FnTree) (f : FnTree) → list_any (bears f.name.text.now) seen ≡ true
    → firsts_behind seen (f ∷ fs) ≡ firsts_behind (seen ++ f ∷ []) fs
declared_again seen fs f h = ap (λ b. if b then firsts_behind (seen ++ f ∷ []) fs else f ∷ firsts_behind (seen ++ f ∷ []) fs) h

declared_first : (seen fs : List FnTree) (f : FnTree) → list_any (bears f.name.text.now) seen ≡ false
    → firsts_behind seen (f ∷ fs) ≡ f ∷ firsts_behind (seen ++ f ∷ []) fs
declared_first seen fs f h = ap (λ b. if b then firsts_behind (seen ++ f ∷ []) fs else f ∷ firsts_behind (seen ++ f ∷ []) fs) h

pub first_other : (xs : List Item) (i : ℕ) (d : Item) (n : ℕ) → i < length xs → ((f : FnTree) → get_or xs i d ≡ item.Function f → ⊥)
    → slice_get (firsts_behind (functions_in (take i xs)) (functions_in (drop i xs))) n
    ≡ slice_get (firsts_behind (functions_in (take (i + 1) xs)) (functions_in (drop (i + 1) xs))) n
first_other xs i d n lt h =
    ap (λ fs. slice_get (firsts_behind (functions_in (take i xs)) fs) n) (other_next xs i d lt h)
    ∙ ap (λ seen. slice_get (firsts_behind seen (functions_in (drop (i + 1) xs))) n) (sym (other_seen xs i d lt h))

pub first_again : (xs : List Item) (i : ℕ) (d : Item) (f : FnTree) (n : ℕ) → i < length xs → get_or xs i d ≡ item.Function f
    → list_any (bears f.name.text.now) (functions_in (take i xs)) ≡ true
    → slice_get (firsts_behind (functions_in (take i xs)) (functions_in (drop i xs))) n
    ≡ slice_get (firsts_behind (functions_in (take (i + 1) xs)) (functions_in (drop (i + 1) xs))) n
first_again xs i d f n lt e h =
    ap (λ fs. slice_get (firsts_behind (functions_in (take i xs)) fs) n) (function_next xs i d f lt e)
    ∙ ap (λ fs. slice_get fs n) (declared_again (functions_in (take i xs)) (functions_in (drop (i + 1) xs)) f h)
    ∙ ap (λ seen. slice_get (firsts_behind seen (functions_in (drop (i + 1) xs))) n) (sym (function_seen xs i d f lt e))

pub first_here : (xs : List Item) (i : ℕ) (d : Item) (f : FnTree) → i < length xs → get_or xs i d ≡ item.Function f
    → list_any (bears f.name.text.now) (functions_in (take i xs)) ≡ false
    → slice_get (firsts_behind (functions_in (take i xs)) (functions_in (drop i xs))) 0 ≡ Some f
first_here xs i d f lt e h =
    ap (λ fs. slice_get (firsts_behind (functions_in (take i xs)) fs) 0) (function_next xs i d f lt e)
    ∙ ap (λ fs. slice_get fs 0) (declared_first (functions_in (take i xs)) (functions_in (drop (i + 1) xs)) f h)

pub first_counts : (xs : List Item) (i : ℕ) (d : Item) (f : FnTree) (n : ℕ) → i < length xs → get_or xs i d ≡ item.Function f
    → list_any (bears f.name.text.now) (functions_in (take i xs)) ≡ false
    → slice_get (firsts_behind (functions_in (take i xs)) (functions_in (drop i xs))) (n + 1)
    ≡ slice_get (firsts_behind (functions_in (take (i + 1) xs)) (functions_in (drop (i + 1) xs))) n
first_counts xs i d f n lt e h =
    ap (λ fs. slice_get (firsts_behind (functions_in (take i xs)) fs) (n + 1)) (function_next xs i d f lt e)
    ∙ ap (λ fs. slice_get fs (n + 1)) (declared_first (functions_in (take i xs)) (functions_in (drop (i + 1) xs)) f h)
    ∙ slice_get_after f (firsts_behind (functions_in (take i xs) ++ f ∷ []) (functions_in (drop (i + 1) xs))) n
    ∙ ap (λ seen. slice_get (firsts_behind seen (functions_in (drop (i + 1) xs))) n) (sym (function_seen xs i d f lt e))

pub first_left : (xs : List Item) (i : ℕ) (d : Item) (f : FnTree) (n : ℕ) → i < length xs → get_or xs i d ≡ item.Function f
    → list_any (bears f.name.text.now) (functions_in (take i xs)) ≡ false → 1 ≤ n
    → slice_get (firsts_behind (functions_in (take i xs)) (functions_in (drop i xs))) n
    ≡ slice_get (firsts_behind (functions_in (take (i + 1) xs)) (functions_in (drop (i + 1) xs))) (n - 1)
first_left xs i d f n lt e h le =
    let q : n ≡ n - 1 + 1 = omega (arith, le) in
    ap (slice_get (firsts_behind (functions_in (take i xs)) (functions_in (drop i xs)))) q ∙ first_counts xs i d f (n - 1) lt e h

pub first_none : (xs : List Item) (i n : ℕ) → length xs ≤ i → slice_get (firsts_behind (functions_in (take i xs)) (functions_in (drop i xs))) n ≡ None
first_none xs i n le = ap (λ ys. slice_get (firsts_behind (functions_in (take i xs)) (functions_in ys)) n) (drop_all i xs le) ∙ slice_get_past [] n (omega arith)

pub ruleset names = (function_next, other_next)

pub ruleset firsts = (first_other, first_again, first_here, first_left, first_none)

pub ruleset bodies = (function_next, other_next)
