-- Units that meet all that the laws ask of a program: one that takes a lock, writes what is under it, and gives the lock back; and one that
-- hands the lock over to a function that gives it back.
use Rattle.std.specs.Prelude.{ℕ, nat_eq, [], ◌∷◌, ◌++◌, codes, if◌then◌else◌}
use Rattle.tsa_rules.specs.declared.status.Status.TheVariants.{Free, Exclusive}
use Rattle.tsa_core.specs.Examples.{program}
use Rattle.tsa_core.specs.Programs.{Program}
use Rattle.tsa_rules.specs.KeptLaws.{each_alone, locked_write, pointed}
use Rattle.tsa_rules.specs.Sheets.{Sheet, rows_of}
use Rattle.tsa_rules.specs.Texts.{global}
use Rattle.tsa_sound.specs.Facts.{ProgramFacts}
use Rattle.tsa_sound.specs.FramesFit.{ProgramRows}

-- its function has one path, with these statuses at its points
abbrev pub sheet : Sheet
sheet = record { paths = global 0 ∷ []; points = each_alone (Free ∷ Exclusive 1 ∷ Exclusive 1 ∷ Free ∷ []) }

abbrev pub rows : ProgramRows
rows = record { paths = λ n. sheet.paths; rows = λ n. rows_of sheet }

abbrev pub ALockedWriteMeetsTheFacts : Type 0
ALockedWriteMeetsTheFacts = ProgramFacts locked_write rows

-- a unit with a function that gives back the lock to which its parameter points
abbrev pub locked_call : Program
locked_call = program (
    codes "struct CAPABILITY(\"mutex\") lock { int s; }; void acq(struct lock *m) ACQUIRE(m); void rel(struct lock *m) RELEASE(m); struct lock mu; int g GUARDED_BY(mu); "
    ++ codes "void give(struct lock *m) RELEASE(m) { rel(m); } void w(void) { acq(&mu); g = 1; give(&mu); }")

abbrev pub give_sheet : Sheet
give_sheet = record { paths = pointed 0 ∷ []; points = each_alone (Exclusive 1 ∷ Free ∷ []) }

abbrev pub call_sheet : ℕ → Sheet
call_sheet n = if nat_eq n 2 then give_sheet else sheet

abbrev pub call_rows : ProgramRows
call_rows = record { paths = λ n. (call_sheet n).paths; rows = λ n. rows_of (call_sheet n) }

abbrev pub ACallMeetsTheFacts : Type 0
ACallMeetsTheFacts = ProgramFacts locked_call call_rows
