-- What is still to come of statements as they are written, with what their reads give.
use Rattle.std.specs.Prelude.{◌≡◌, ℕ, pos, true, None, List, [], ◌∷◌, ◌++◌, codes}
use Rattle.tsa_base.specs.declared.value.Value.{Value}
use Rattle.tsa_base.specs.declared.value.Value.TheVariants.{Int, Pointer}
use Rattle.tsa_core.specs.Examples.{program}
use Rattle.tsa_core.specs.Programs.{Program}
use Rattle.tsa_rules.specs.Points.{function_at, point_at}
use Rattle.tsa_sched.specs.declared.event.Mode.TheVariants.{Exclusive}
use Rattle.tsa_sched.specs.declared.event.TrapKind.TheVariants.{Division, NullPointer, OutOfRange}
use Rattle.tsa_mean.specs.Acts.{Act, to_write, to_set, to_branch, to_take}
use Rattle.tsa_mean.specs.Frames.{work_at}
use Rattle.tsa_mean.specs.Outs.{Out, traps, reads, yields}
use Rattle.tsa_mean.specs.Texts.{a_lock}
use Rattle.tsa_mean.specs.Working.{Locals}
use Rattle.tsa_lower_going.specs.Going.{Going, asks, first_of}
use Rattle.tsa_lower_going.specs.Doing.{doing}

-- cells that are read in turn, and what comes then
pub record Course : Type 0 where
  pub cells : List ℕ
  pub next : Out Act

abbrev pub reading : List ℕ → Out Act → Course
reading cells next = record { cells = cells; next = next }

-- what is still to come, where reads give these values in turn
abbrev pub course : Going Act → List Value → Course
course (asks place left) (v ∷ rest) = reading (place ∷ (course (left v) rest).cells) (course (left v) rest).next
course going given = reading [] (first_of going)

-- A unit with a lock `mu` at place 0, a number `g` at place 2, and numbers `a` at places 3 and 4; function 2 begins with the statement.
abbrev pub unit_with : List ℕ → Program
unit_with statement = program (a_lock ++ (codes "int a[2]; void w(int i, int j, struct lock *p) { " ++ (statement ++ codes " }")))

abbrev pub going_in : Program → Locals → Going Act
going_in u locals = doing u locals (point_at (function_at u 2) 0) (work_at u 2 0)

abbrev pub course_of : (statement : List ℕ) → Locals → (given : List Value) → Course
course_of statement locals given = course (going_in (unit_with statement) locals) given

abbrev int : ℕ → Value
int n = Int (pos n)

abbrev pub with_null : ℕ → ℕ → Locals
with_null i j = int i ∷ int j ∷ Pointer None ∷ []

pub record ReadsComeInTurn : Type 0 where
  -- `&&` asks its right side where the left one isn't 0
  pub both_sides : course_of (codes "i = g && 10 / j;") (with_null 7 2) (int 5 ∷ []) ≡ reading (2 ∷ []) (yields (to_set 0 (int 1)))
  pub left_side_alone : course_of (codes "i = g && 10 / j;") (with_null 7 0) (int 0 ∷ []) ≡ reading (2 ∷ []) (yields (to_set 0 (int 0)))
  pub right_side_traps : course_of (codes "i = g && 10 / j;") (with_null 7 0) (int 5 ∷ []) ≡ reading (2 ∷ []) (traps Division)
  pub nothing_read : course_of (codes "i = g && 10 / j;") (with_null 7 2) [] ≡ reading [] (reads 2)
  pub both_read : course_of (codes "if (g || a[i]) ;") (with_null 1 2) (int 0 ∷ int 3 ∷ []) ≡ reading (2 ∷ 4 ∷ []) (yields (to_branch true))
  -- the right side is read first, and the old value last
  pub old_value : course_of (codes "a[i] += g;") (with_null 1 0) (int 30 ∷ int 12 ∷ [])
      ≡ reading (2 ∷ 4 ∷ []) (yields (to_write 4 (int 42)))
  pub no_element : course_of (codes "a[i] += g;") (with_null 2 0) (int 30 ∷ []) ≡ reading (2 ∷ []) (traps OutOfRange)
  -- a lock function takes what its argument points to, and null is no lock
  pub lock_taken : course_of (codes "acq(&mu);") (with_null 0 0) [] ≡ reading [] (yields (to_take Exclusive 0))
  pub no_lock : course_of (codes "acq(p);") (with_null 0 0) [] ≡ reading [] (traps NullPointer)
