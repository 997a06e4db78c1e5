-- What the watchers keep of events, and what they report.
use Rattle.std.specs.Prelude.{ℕ, ◌+◌, ◌-◌, ◌^◌, ◌++◌, min, nat_lt, Bool, true, false, List, [], ◌∷◌, length, flat_map, codes, if◌then◌else◌}
use Rattle.std.specs.Fmt.{decimal}
use Rattle.tsa_sched.specs.declared.event.Event.{Event}
use Rattle.tsa_sched.specs.declared.event.EventKind.{EventKind}
use Rattle.tsa_sched.specs.declared.event.EventKind.TheVariants.{Read, Write, Waits}

-- a count that stays at the greatest 64-bit number
abbrev pub counted : Bool → ℕ → ℕ
counted true n = min (n + 1) (2 ^ 64 - 1)
counted false n = n

abbrev pub is_read : EventKind → Bool
is_read (Read place value) = true
is_read kind = false

abbrev pub is_write : EventKind → Bool
is_write (Write place value) = true
is_write kind = false

abbrev pub is_wait : EventKind → Bool
is_wait (Waits lock holder) = true
is_wait kind = false

-- reads, writes, waits and violations
abbrev pub counts_next : (state : List ℕ) → Event → List ℕ
counts_next (r ∷ w ∷ q ∷ v ∷ []) e = counted (is_read e.kind) r ∷ counted (is_write e.kind) w ∷ counted (is_wait e.kind) q ∷ counted e.violation v ∷ []
counts_next state e = state

abbrev pub counts_text : (state : List ℕ) → List ℕ
counts_text (r ∷ w ∷ q ∷ v ∷ []) =
    codes "reads " ++ decimal r ++ codes " writes " ++ decimal w ++ codes " waits " ++ decimal q ++ codes " violations " ++ decimal v ++ codes "\n"
counts_text state = []

-- the threads of the last four events, the oldest one first
abbrev pub without_first : List ℕ → List ℕ
without_first [] = []
without_first (t ∷ ts) = ts

abbrev pub last_next : (state : List ℕ) → Event → List ℕ
last_next state e = (if nat_lt (length state) 4 then state else without_first state) ++ e.thread ∷ []

abbrev pub last_text : (state : List ℕ) → List ℕ
last_text state = codes "last threads" ++ flat_map (λ t. codes " " ++ decimal t) state ++ codes "\n"
