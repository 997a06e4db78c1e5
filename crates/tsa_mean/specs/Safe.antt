-- Which acts are safe: they go along with what guards and attributes say.
use Rattle.std.specs.Prelude.{◌≡◌, ℕ, ◌+◌, ◌<◌, true, Option, Some, None, length, All, IsSome}
use Rattle.tsa_base.specs.declared.value.Value.{Value}
use Rattle.tsa_place_model.specs.Calls.{guards_of}
use Rattle.tsa_place_model.specs.declared.place.Guard.{Guard}
use Rattle.tsa_place_model.specs.declared.place.Guard.TheVariants.{Lock, Nothing}
use Rattle.tsa_core.specs.Programs.{Program}
use Rattle.tsa_sched.specs.declared.event.Mode.{Mode}
use Rattle.tsa_sched.specs.declared.event.Mode.TheVariants.{Exclusive}
use Rattle.tsa_mean.specs.Acts.{Act, to_read, to_write, to_give, to_leave}
use Rattle.tsa_mean.specs.Returns.{attrs_of, change_in, given_back, lock_of, taken_over}
use Rattle.tsa_mean.specs.States.{Frame, Holds}

-- a guard is held in some mode, or alone; one that names no lock isn't
abbrev pub IsHeld : Holds → Guard → Type 0
IsHeld held Nothing = ⊥
IsHeld held (Lock l) = (mode : Mode) × (0 < held l mode)

abbrev pub IsHeldAlone : Holds → Guard → Type 0
IsHeldAlone held Nothing = ⊥
IsHeldAlone held (Lock l) = 0 < held l Exclusive

-- a lock that is given back is held in that mode, or where none is named in some mode
abbrev pub CanBeGiven : Holds → Option Mode → (lock : ℕ) → Type 0
CanBeGiven held None lock = (mode : Mode) × (0 < held lock mode)
CanBeGiven held (Some mode) lock = 0 < held lock mode

-- A return leaves the holds of the call, less those that its function gives back, and with those that it takes, counted for each lock and
-- mode; and the paths of its function's attributes name locks.
pub record LeavesAsDeclared (u : Program) (held : Holds) (frame : Frame) (answer : Value) : Type 0 where
  pub names : All (λ a. (change_in a answer).counts ≡ true → IsSome (lock_of u frame a)) (attrs_of u frame)
  pub holds : (lock : ℕ) → lock < length u.layout.places → (m : Mode)
      → held lock m + given_back u frame answer (attrs_of u frame) lock m ≡ frame.at_call lock m + taken_over u frame answer (attrs_of u frame) lock m

-- What the next act of a thread with these holds has to be: a read of a cell whose guards are all held, a write of one whose guards are all
-- held alone, a giving of what is held, or a return that leaves the holds as declared. All other acts are safe.
abbrev pub IsSafe : Program → Holds → Frame → Act → Type 0
IsSafe u held frame (to_read place left) = All (IsHeld held) (guards_of u.layout place)
IsSafe u held frame (to_write place v) = All (IsHeldAlone held) (guards_of u.layout place)
IsSafe u held frame (to_give mode lock) = CanBeGiven held mode lock
IsSafe u held frame (to_leave v) = LeavesAsDeclared u held frame v
IsSafe u held frame act = Unit {0}
