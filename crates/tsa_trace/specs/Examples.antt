-- The lines of events and races of one unit, kind by kind.
use Rattle.std.specs.Prelude.{◌≡◌, ℕ, pos, negsuc, Bool, true, false, Some, None, List, ◌++◌, codes}
use Rattle.tsa_base.specs.declared.value.Value.TheVariants.{Int, Unsigned, Pointer}
use Rattle.tsa_lex.specs.Quick.{quick_tokens_of}
use Rattle.tsa_tree.specs.types.Texts.{unit_in}
use Rattle.tsa_sched.specs.declared.event.EventKind.{EventKind}
use Rattle.tsa_sched.specs.declared.event.EventKind.TheVariants.{Read, Write, Took, Waits, Tried, Gave, NotHeld, Environment}
use Rattle.tsa_sched.specs.declared.event.EventKind.TheVariants.{Called, Returned, Branched, Switched, Stepped, Trap, AlreadyEnded, AlreadyTrapped, NoThread}
use Rattle.tsa_sched.specs.declared.event.Mode.TheVariants.{Exclusive, Shared}
use Rattle.tsa_sched.specs.declared.event.Touch.{Touch}
use Rattle.tsa_sched.specs.declared.event.TrapKind.TheVariants.{Overflow, Division, NullPointer, OutOfRange, Depth}
use Rattle.tsa_trace.specs.EventLines.{Sources, sources_of, event_text}
use Rattle.tsa_trace.specs.RaceLines.{race_text}

-- A lock `mu` at place 0 with a member, an array `c` of two structs of four places each from place 2 on, and a number `g` at place 10.
-- Functions 0 and 1 have no body, 2 is declared before its body, and the body of 3 stands before that.
abbrev pub text : List ℕ
text =
    codes "struct CAPABILITY(\"mutex\") lock { int s; };\nstruct cell { struct lock own; int v; };\nstruct lock mu;\nstruct cell c[2];\n"
    ++ (codes "int g GUARDED_BY(mu);\nvoid acq(struct lock *m) ACQUIRE(m);\nint ask(int n);\nvoid w(void);\n"
    ++ codes "int f(int n) {\n  return n;\n}\nvoid w(void) {\n  acq(&mu);\n  g = ask(1);\n}\n")

abbrev pub sources : Sources
sources = sources_of text (unit_in (quick_tokens_of text))

-- in the turn of a number, at the point of a function
abbrev line : (turn thread function point : ℕ) → EventKind → (violation : Bool) → List ℕ
line n t f p kind violation = event_text sources n (record { thread = t; site = Some (record { function = f; point = p }); kind = kind; violation = violation })

-- without a point
abbrev line_without : (turn thread : ℕ) → EventKind → List ℕ
line_without n t kind = event_text sources n (record { thread = t; site = None; kind = kind; violation = false })

pub record EventLinesAreAsWritten : Type 0 where
  pub read : line 3 0 2 1 (Read 9 (Int (negsuc 6))) false ≡ codes "3 t0 14:3 read c[1].v = -7"
  pub read_of_null : line 3 0 2 1 (Read 10 (Pointer None)) false ≡ codes "3 t0 14:3 read g = null"
  pub read_of_a_pointer : line 3 0 2 1 (Read 10 (Pointer (Some 7))) false ≡ codes "3 t0 14:3 read g = &c[1].own"
  pub write : line 0 1 2 1 (Write 10 (Int (pos 1))) true ≡ codes "0 t1 14:3 write g = 1 !"
  pub took : line 12 0 2 0 (Took 0 Exclusive) false ≡ codes "12 t0 13:3 lock mu exclusive"
  pub took_shared : line 12 0 2 0 (Took 3 Shared) false ≡ codes "12 t0 13:3 lock c[0].own shared"
  pub waits : line 4 1 2 0 (Waits 0 2) false ≡ codes "4 t1 13:3 waits mu t2"
  pub tried : line 4 1 2 0 (Tried 0 Exclusive true) false ≡ codes "4 t1 13:3 try mu exclusive took"
  pub tried_in_vain : line 4 1 2 0 (Tried 0 Shared false) false ≡ codes "4 t1 13:3 try mu shared not"
  pub gave : line 5 1 2 0 (Gave 0 Exclusive) false ≡ codes "5 t1 13:3 unlock mu exclusive"
  pub gave_shared : line 5 1 2 0 (Gave 0 Shared) false ≡ codes "5 t1 13:3 unlock mu shared"
  pub not_held : line 5 1 2 0 (NotHeld 0) true ≡ codes "5 t1 13:3 unlock mu none !"
  pub environment : line 6 0 2 1 (Environment 1 (Some (Int (pos 5)))) false ≡ codes "6 t0 14:3 env ask = 5"
  pub environment_without_an_answer : line 6 0 2 1 (Environment 1 None) false ≡ codes "6 t0 14:3 env ask"
  pub called : line 7 0 2 1 (Called 3) false ≡ codes "7 t0 14:3 call f"
  pub returned : line 8 0 3 0 (Returned 3) false ≡ codes "8 t0 10:3 return f"
  pub returned_at_the_end : line 8 0 2 2 (Returned 2) true ≡ codes "8 t0 15:1 return w !"
  pub branched : line 9 0 3 0 (Branched true) false ≡ codes "9 t0 10:3 branch true"
  pub branched_otherwise : line 9 0 3 0 (Branched false) false ≡ codes "9 t0 10:3 branch false"
  pub switched : line 9 0 3 0 (Switched (Unsigned 4294967295)) false ≡ codes "9 t0 10:3 switch 4294967295"
  pub stepped : line 99999 63 3 1 Stepped false ≡ codes "99999 t63 11:1 step"
  pub overflow : line 1 0 3 0 (Trap Overflow) false ≡ codes "1 t0 10:3 trap overflow"
  pub division : line 1 0 3 0 (Trap Division) false ≡ codes "1 t0 10:3 trap division"
  pub null : line 1 0 3 0 (Trap NullPointer) false ≡ codes "1 t0 10:3 trap null"
  pub index : line 1 0 3 0 (Trap OutOfRange) false ≡ codes "1 t0 10:3 trap index"
  pub depth : line 1 0 3 0 (Trap Depth) false ≡ codes "1 t0 10:3 trap depth"
  pub ended : line_without 7 0 AlreadyEnded ≡ codes "7 t0 ended"
  pub trapped : line_without 7 0 AlreadyTrapped ≡ codes "7 t0 trapped"
  pub unknown : line_without 7 0 NoThread ≡ codes "7 t0 unknown"

abbrev touch : (place function point : ℕ) → (is_write : Bool) → Touch
touch place f p is_write = record { place = place; is_write = is_write; site = record { function = f; point = p } }

pub record RaceLinesAreAsWritten : Type 0 where
  pub read_and_write : race_text sources 0 (touch 10 2 1 false) 1 (touch 10 3 0 true) ≡ codes "race g: t0 14:3 read, t1 10:3 write"
  pub of_a_member : race_text sources 3 (touch 9 3 1 true) 12 (touch 9 2 0 true) ≡ codes "race c[1].v: t3 11:1 write, t12 13:3 write"
