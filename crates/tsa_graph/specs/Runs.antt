-- Runs of points along the only way from one to the next.
use Rattle.std.specs.Prelude.{ℕ, zero, suc, ◌≡◌, ◌+◌, ◌<◌, nat_eq, Bool, true, false, List, [], ◌∷◌, ◌++◌, length, Option, Some, None}
use Rattle.std.specs.Prelude.{slice_index_or, if◌then◌else◌}

-- where a point leads alone to a point that is led to by it alone; a point behind the last one leads nowhere
abbrev pub step : List (Option ℕ) → ℕ → Option ℕ
step ways p = slice_index_or ways p None

-- ways on and the same ways back, between as many points
pub record AreWays (next back : List (Option ℕ)) : Type 0 where
  pub size : length back ≡ length next
  pub on : (p q : ℕ) → step next p ≡ Some q → step back q ≡ Some p
  pub from : (p q : ℕ) → step back q ≡ Some p → step next p ≡ Some q
  pub within : (p q : ℕ) → step next p ≡ Some q → q < length next
  pub inside : (p q : ℕ) → step next p ≡ Some q → p < length next

-- the first and the last point of a run
abbrev pub first_of : List ℕ → ℕ
first_of [] = 0
first_of (p ∷ ps) = p

abbrev pub last_of : List ℕ → ℕ
last_of [] = 0
last_of (p ∷ []) = p
last_of (p ∷ q ∷ ps) = last_of (q ∷ ps)

-- each point of a run leads to the next one
abbrev pub IsChain : List (Option ℕ) → List ℕ → Type 0
IsChain next [] = ⊥
IsChain next (p ∷ []) = Unit {0}
IsChain next (p ∷ q ∷ ps) = (step next p ≡ Some q) × IsChain next (q ∷ ps)

-- A run can't go on: its last point leads nowhere but to its own first one. Where each point stands in one run, once, and none of these can
-- go on, none can begin earlier either: what leads to its first point would stand at the end of a run that goes on.
pub record IsLongest (next : List (Option ℕ)) (run : List ℕ) : Type 0 where
  pub chain : IsChain next run
  pub ends : (q : ℕ) → step next (last_of run) ≡ Some q → q ≡ first_of run

abbrev pub AreLongest : List (Option ℕ) → List (List ℕ) → Type 0
AreLongest next [] = Unit {0}
AreLongest next (run ∷ runs) = IsLongest next run × AreLongest next runs

-- how often a point stands in a list, and in lists
abbrev pub bit : Bool → ℕ
bit true = 1
bit false = 0

abbrev pub times : ℕ → List ℕ → ℕ
times p [] = 0
times p (q ∷ qs) = bit (nat_eq p q) + times p qs

abbrev pub times_in : ℕ → List (List ℕ) → ℕ
times_in p [] = 0
times_in p (run ∷ runs) = times p run + times_in p runs
