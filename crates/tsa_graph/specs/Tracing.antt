-- Which points are in a run already.
use Rattle.std.specs.Prelude.{ℕ, ◌≡◌, ◌+◌, ◌<◌, nat_eq, Bool, true, false, List, [], ◌∷◌, ◌++◌, reverse, length, Option, Some, None}
use Rattle.std.specs.Prelude.{slice_index_or, if◌then◌else◌}
use Rattle.tsa_graph.specs.Runs.{step, last_of, first_of, IsChain, AreLongest, bit, times, times_in}

abbrev pub is_seen : List Bool → ℕ → Bool
is_seen seen p = slice_index_or seen p false

-- a point is seen exactly where the one to which it leads is
abbrev pub IsClosed : List (Option ℕ) → List Bool → Type 0
IsClosed next seen = (p q : ℕ) → step next p ≡ Some q → is_seen seen p ≡ is_seen seen q

-- the points of a run are seen from then on, each once
abbrev pub IsMarked : List ℕ → (old new : List Bool) → Type 0
IsMarked run old new = (p : ℕ) → times p run + bit (is_seen old p) ≡ bit (is_seen new p)

-- what is seen stays so
abbrev pub Keeps : (old new : List Bool) → Type 0
Keeps old new = (p : ℕ) → is_seen old p ≡ true → is_seen new p ≡ true

-- where a point is seen, so is the one to which it leads
abbrev pub GoesOn : List (Option ℕ) → List Bool → Type 0
GoesOn next seen = (p q : ℕ) → step next p ≡ Some q → is_seen seen p ≡ true → is_seen seen q ≡ true

-- each point that none leads to is seen, below a number
abbrev pub SeesHeads : List (Option ℕ) → List Bool → ℕ → Type 0
SeesHeads back seen n = (q : ℕ) → q < n → step back q ≡ None → is_seen seen q ≡ true

abbrev pub SeesAll : List Bool → ℕ → Type 0
SeesAll seen n = (q : ℕ) → q < n → is_seen seen q ≡ true

-- the runs so far
pub record AreRuns (next : List (Option ℕ)) (seen : List Bool) (runs : List (List ℕ)) : Type 0 where
  pub size : length seen ≡ length next
  pub each : AreLongest next runs
  pub once : (p : ℕ) → times_in p runs ≡ bit (is_seen seen p)

-- the way back from a point, but to another
abbrev pub but : Option ℕ → ℕ → Option ℕ
but None head = None
but (Some p) head = if nat_eq p head then None else Some p

-- each point of a list leads back to the next one
abbrev pub IsBack : List (Option ℕ) → ℕ → List ℕ → Type 0
IsBack back p [] = Unit {0}
IsBack back p (q ∷ qs) = (step back p ≡ Some q) × IsBack back q qs

abbrev pub end_of : ℕ → List ℕ → ℕ
end_of p [] = p
end_of p (q ∷ qs) = end_of q qs

-- from a point all the way back to it
abbrev pub IsRound : List (Option ℕ) → ℕ → List ℕ → Type 0
IsRound back head rest = IsBack back head rest × (step back (end_of head rest) ≡ Some head)
