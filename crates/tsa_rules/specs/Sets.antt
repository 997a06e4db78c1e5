-- Sets of statuses: the status of each number is in a set where that bit of it is 1.
use Rattle.std.specs.Prelude.{◌≡◌, ℕ, ◌<◌, ◌≤◌, ◌^◌, Bool, true, Option, Some, None, ◌↔◌}
use Rattle.std.specs.Int.{bit_at}
use Rattle.tsa_rules.specs.Statuses.{Status, try_limit, is_possible, number_of}
use Rattle.tsa_rules.specs.declared.statuses.Statuses.{Statuses}

-- A set has 64 places. Those of a lock that may be taken again leave 54 for try variables, and a function has at most 48.
abbrev pub pending_places : ℕ
pending_places = 54

abbrev pub HasPlace : Status → Type 0
HasPlace s = is_possible true pending_places s ≡ true

pub record Has (set : Statuses) (s : Status) : Type 0 where
  pub place : HasPlace s
  pub bit : bit_at set.bits (number_of s) ≡ 1

-- it has none
abbrev pub IsEmpty : Statuses → Type 0
IsEmpty set = (s : Status) → Has set s → ⊥

-- What is left of a set behind the member of the smallest number: it is taken out where there is one.
pub record IsTaken (before : Statuses) (s : Status) (after : Statuses) : Type 0 where
  pub member : Has before s
  pub smallest : (t : Status) → Has before t → number_of s ≤ number_of t
  pub left : (t : Status) → Has after t ↔ (Has before t × (t ≡ s → ⊥))
  pub smaller : after.bits < before.bits

abbrev pub TakesFirst : (before : Statuses) → Option Status → (after : Statuses) → Type 0
TakesFirst before None after = IsEmpty before × (after ≡ before)
TakesFirst before (Some s) after = IsTaken before s after

-- what a function makes of the statuses of a set, and whether some of them pass a test
abbrev pub IsImage : (Status → Status) → Statuses → Status → Type 0
IsImage f set t = (s : Status) × (Has set s × (f s ≡ t))

abbrev pub HasSome : (Status → Bool) → Statuses → Type 0
HasSome test set = (s : Status) × (Has set s × (test s ≡ true))

-- sets with the same statuses are equal
abbrev pub SetsAreTheirStatuses : Type 0
SetsAreTheirStatuses = (a b : Statuses) → a.bits < 2 ^ 64 → b.bits < 2 ^ 64 → ((s : Status) → Has a s ↔ Has b s) → a ≡ b

-- a status that a path can have has a place, where the function has no more try variables than it may
abbrev pub PossibleStatusesHavePlaces : Type 0
PossibleStatusesHavePlaces = (r : Bool) (tries : ℕ) (s : Status) → tries ≤ try_limit → is_possible r tries s ≡ true → HasPlace s
