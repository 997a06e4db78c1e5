-- Walks of functions as they are written, and the rules that fail on them.
use Rattle.std.specs.Prelude.{ℕ, List, ◌++◌, codes}
use Rattle.tsa_core.specs.Examples.{program}
use Rattle.tsa_core.specs.ManyPlaces.{large_program}
use Rattle.tsa_core.specs.Programs.{Program}
use Rattle.tsa_rules.specs.Fails.{TS02, TS06, TS09, TS10}
use Rattle.tsa_rules.specs.Texts.{global}
use Rattle.tsa_rules.specs.Warnings.{FailsIn, HasNoWarnings, warning}

-- a function of some statements that takes a lock
abbrev pub taking : List ℕ → Program
taking body = program (codes "struct CAPABILITY(\"mutex\") l { int s; }; struct l mu; void acq(struct l *m) ACQUIRE(m); void w(int c) { " ++ (body ++ codes " }"))

-- points 0 to 3 are the test, the call, `;` and the end
abbrev pub branch : Program
branch = taking (codes "if (c) acq(&mu); ;")

pub record BranchesMeet : Type 0 where
  pub where_they_meet : FailsIn branch (warning 1 2 TS10 (global 0))
  pub at_the_end : FailsIn branch (warning 1 3 TS09 (global 0))

-- points 0 to 2 are the test, the call and the end
abbrev pub loop : Program
loop = taking (codes "while (c) acq(&mu);")

-- what the body makes of a status comes back to the test
pub record LoopsComeBack : Type 0 where
  pub at_the_test : FailsIn loop (warning 1 0 TS10 (global 0))
  pub at_the_call : FailsIn loop (warning 1 1 TS06 (global 0))
  pub at_the_end : FailsIn loop (warning 1 2 TS09 (global 0))

-- a unit with more places than it may have is judged as any other: its write without the lock breaks a rule
pub record LargeUnitsAreJudged : Type 0 where
  pub unlocked_write : FailsIn large_program (warning 0 0 TS02 (global 0))
  pub not_quiet : HasNoWarnings large_program → ⊥
