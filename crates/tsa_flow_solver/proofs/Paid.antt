-- What waits is paid by greater sets.
use Rattle.std.proofs.Common.{◌≡◌, ◌∙◌, ℕ, ◌+◌, ◌*◌, ◌-◌, ◌<◌, ◌≤◌, Bool, true, false, List, [], ◌∷◌, ◌++◌, length, set, if◌then◌else◌}
use Rattle.std.proofs.Common.{refl, sym, ap, subst, arith, length-append, length-set}
use Rattle.std.proofs.lemmas.List.Elements.{All-push, All-set, Contains-append_left}
use Rattle.std.proofs.lemmas.List.Sums.{sum_by-set}
use Rattle.tsa_rules.specs.declared.statuses.Statuses.{Statuses}
use Rattle.tsa_flow_solver.specs.Fronts.{IsPaid}
use Rattle.tsa_flow_solver.specs.Rows.{AreAllSmall, AreWide, IsTakenIn, row_at, total, weight}
use Rattle.tsa_flow_solver.proofs.Grids.{bounded, row_long, small_set}

-- nothing is worked out yet
pub none_paid : (n : ℕ) (rows : List (List Statuses)) (work : List ℕ) → AreWide n rows → IsPaid n rows rows work work
none_paid n rows work wide = record {
  long = refl;
  wide = wide;
  small = λ h. h;
  keeps = λ c h. h;
  within = λ h. h;
  pays = omega arith;
}

-- one row more is taken in
module _ (n to : ℕ) (row taken : List Statuses) (old rows new : List (List Statuses)) (work mid : List ℕ) (before : IsPaid n old rows work mid) (inside : to < length rows) (is_new : new ≡ set rows to taken) where
  heavier : total new + weight (row_at rows to) ≡ total rows + weight taken
  heavier = subst (λ g. total g + weight (row_at rows to) ≡ total rows + weight taken) (sym is_new) (sum_by-set weight rows to taken [] inside)

  long : length new ≡ length old
  long = ap length is_new ∙ (length-set rows to taken ∙ before.long)

  wide : length taken ≡ length (row_at rows to) → AreWide n new
  wide same = subst (AreWide n) (sym is_new) (All-set (λ r. length r ≡ n) rows to taken (same ∙ row_long n rows to before.wide inside) before.wide)

  small : (grown : Bool) → IsTakenIn (row_at rows to) row taken grown → AreAllSmall old → AreAllSmall new
  small grown is h = subst AreAllSmall (sym is_new) (small_set rows to taken inside (before.small h) (is.small (before.small h to)))

  by : (grown : Bool) → IsTakenIn (row_at rows to) row taken grown → IsPaid n old new work (if grown then mid ++ to ∷ [] else mid)
  by true is = record {
    long = long;
    wide = wide is.long;
    small = small true is;
    keeps = λ c h. Contains-append_left mid (to ∷ []) c (before.keeps c h);
    within = λ h. All-push (λ c. c < length old) mid to (before.within h) (subst (λ m. to < m) before.long inside);
    pays = omega (arith, heavier, length-append mid (to ∷ []), before.pays, is.more refl);
  }
  by false is = record {
    long = long;
    wide = wide is.long;
    small = small false is;
    keeps = before.keeps;
    within = before.within;
    pays = let same : weight taken ≡ weight (row_at rows to) = ap weight (is.same refl) in omega (arith, heavier, before.pays, same);
  }

  pub one_paid : (grown : Bool) → IsTakenIn (row_at rows to) row taken grown → (mid' : List ℕ) → mid' ≡ (if grown then mid ++ to ∷ [] else mid) → IsPaid n old new work mid'
  one_paid grown is mid' waits = subst (IsPaid n old new work) (sym waits) (by grown is)

-- what waits, and what sets may still grow
pub falls : (n : ℕ) (rows new : List (List Statuses)) (number : ℕ) (before work work' : List ℕ) → AreAllSmall new → IsPaid n rows new work work' → before ≡ work ++ number ∷ []
    → (length new * (n * 18446744073709551616) - total new) + length work' < (length rows * (n * 18446744073709551616) - total rows) + length before
falls n rows new number before work work' small paid is =
    let one : length before ≡ length work + 1 = ap length is ∙ length-append work (number ∷ []) in
    let most : total new ≤ length new * (n * 18446744073709551616) = bounded n new paid.wide small in
    let same : length new * (n * 18446744073709551616) ≡ length rows * (n * 18446744073709551616) = ap (λ m. m * (n * 18446744073709551616)) paid.long in
    let pays = paid.pays in
    omega (arith, one, most, same, pays)
