-- Rules that fail, sorted: each is told before all that follow it.
use Rattle.std.proofs.Common.{◌≡◌, ◌<◌, ℕ, false, List, length, AllPairs, Contains, slice_index_or}
use Rattle.std.proofs.Common.{Ordering, Less, Equal, Greater, is_lt, refl, sym, ap, ◌∙◌, true≢false, arith}
use Rattle.std.specs.List.{IsDistinct}
use Rattle.std.specs.List.Sorted.{IsPermutation, IsSorted}
use Rattle.std.specs.Cmp.{IsTotalOrder}
use Rattle.std.specs.Ordering.{eq_by_cmp, is_eq, ordering_reverse}
use Rattle.std.proofs.lemmas.Cmp.{eq_by_cmp_equiv}
use Rattle.std.proofs.lemmas.List.Elements.{Contains-get_or}
use Rattle.std.proofs.lemmas.List.Sorted.{ranks_by, sorted_far, Contains-permutation, IsPermutation-sym}
use Rattle.std.proofs.lemmas.Map.Keys.{apart_from_distinct, IsDistinct-from_apart, IsDistinct-IsPermutation}
use Rattle.std.proofs.lemmas.Option.{slice_get_within}
use Rattle.tsa_place_model.specs.Ways.{Way}
use Rattle.tsa_core.specs.Programs.{Function, Program}
use Rattle.tsa_path.specs.PathTexts.{Names}
use Rattle.tsa_warn_text.specs.Orders.{texts_of}
use Rattle.tsa_warn_function.specs.Failures.{AreFailures, FailsThere}
use Rattle.tsa_warn_function.specs.declared.failure.RuleFailure.{RuleFailure}
use Rattle.tsa_warn_function.specs.Comparisons.{failure_cmp}
use Rattle.tsa_warn_function.specs.Orders.{AreToldInOrder}
use Rattle.tsa_warn_function.proofs.Comparing.{failure_cmp_total, less_is_first, tied_are_same}

not_equal : (o : Ordering) → (o ≡ Equal → ⊥) → is_eq o ≡ false
not_equal Less other = refl
not_equal Equal other = absurd (other refl)
not_equal Greater other = refl

-- in a total order what neither is equal nor comes after is less
less_of_both : {X : Type 0} (cmp : X → X → Ordering) → IsTotalOrder cmp → (x y : X) → is_eq (cmp x y) ≡ false → is_lt (cmp y x) ≡ false
    → cmp x y ≡ Less
less_of_both cmp total x y other after = by (cmp x y) refl
  where
    by : (o : Ordering) → cmp x y ≡ o → cmp x y ≡ Less
    by Less e = e
    by Equal e = absurd (true≢false (sym (ap is_eq e) ∙ other))
    by Greater e = absurd (true≢false (sym (ap is_lt (total.antisymm y x ∙ ap ordering_reverse e)) ∙ after))

-- so a sorted list of which no two compare as equal rises
rises : {X : Type 0} (cmp : X → X → Ordering) → IsTotalOrder cmp → (xs : List X) → IsDistinct (eq_by_cmp cmp) xs → IsSorted cmp xs
    → AllPairs (λ x y. cmp x y ≡ Less) xs
rises {X} cmp total xs differ up i j d before within =
    less_of_both cmp total _ _ (apart_from_distinct (eq_by_cmp cmp) xs i j d differ before within)
    (sorted_far (λ x y. is_lt (cmp x y)) (ranks_by total (λ (x : X). x)) xs up i j d (omega arith) within)

-- the path of a number for which a rule fails is there
path_within : (u : Program) (f : Function) (paths : List Way) (x : RuleFailure) → FailsThere u f paths x → x.cap < length paths
path_within u f paths x fails = slice_get_within paths x.cap fails.path fails.is_there

-- all rules that fail, each once, compare as different
apart : (names : Names) (u : Program) (f : Function) (paths : List Way) (found : List RuleFailure) → AreFailures u f paths found
    → IsDistinct (eq_by_cmp (failure_cmp (texts_of names paths))) found
apart names u f paths found are = IsDistinct-from_apart (eq_by_cmp (failure_cmp (texts_of names paths))) found (λ i j d before within.
    let first = path_within u f paths _ (are.told _ (Contains-get_or found i d (omega arith))) in
    let second = path_within u f paths _ (are.told _ (Contains-get_or found j d within)) in
    not_equal _ (λ e. are.once i j d before within (tied_are_same names paths _ _ first second e)))

-- and sorted they are told in order
pub sorted_are_told : (names : Names) (u : Program) (f : Function) (paths : List Way) (found sorted : List RuleFailure) → AreFailures u f paths found
    → IsPermutation found sorted → IsSorted (failure_cmp (texts_of names paths)) sorted → AreToldInOrder names u f paths sorted
sorted_are_told names u f paths found sorted are moved up = record {
  told = told;
  all = λ w fails. Contains-permutation found sorted w moved (are.all w fails);
  ordered = λ i j d before within.
      less_is_first names paths _ _ (there i d (omega arith)) (there j d within) (rises _ total sorted distinct up i j d before within);
}
  where
    told : (w : RuleFailure) → Contains sorted w → FailsThere u f paths w
    told w has = are.told w (Contains-permutation sorted found w (IsPermutation-sym found sorted moved) has)

    there : (i : ℕ) (d : RuleFailure) → i < length sorted → (slice_index_or sorted i d).cap < length paths
    there i d within = path_within u f paths _ (told _ (Contains-get_or sorted i d within))

    total : IsTotalOrder (failure_cmp (texts_of names paths))
    total = failure_cmp_total (texts_of names paths)

    distinct : IsDistinct (eq_by_cmp (failure_cmp (texts_of names paths))) sorted
    distinct = IsDistinct-IsPermutation _ (eq_by_cmp_equiv total).symm found sorted moved (apart names u f paths found are)
