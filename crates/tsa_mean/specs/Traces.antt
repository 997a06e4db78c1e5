-- Worked runs of whole units, turn by turn.
use Rattle.std.specs.Prelude.{◌≡◌, ℕ, pos, true, false, Some, None, List, [], ◌∷◌, ◌++◌, replicate, codes}
use Rattle.tsa_base.specs.declared.value.Value.TheVariants.{Int, Pointer}
use Rattle.tsa_sched.specs.declared.event.EventKind.TheVariants.{Read, Write, Took, Waits, Tried, Gave, Environment, Called, Returned}
use Rattle.tsa_sched.specs.declared.event.EventKind.TheVariants.{Branched, Stepped, Trap, AlreadyEnded, AlreadyTrapped}
use Rattle.tsa_sched.specs.declared.event.Mode.TheVariants.{Exclusive}
use Rattle.tsa_sched.specs.declared.event.TrapKind.TheVariants.{Overflow, Division, NullPointer, OutOfRange, Depth}
use Rattle.tsa_mean.specs.Starts.{Begin}
use Rattle.tsa_mean.specs.Texts.{a_lock, a_lock_with_tries, at, begin, events, lock_of_kind, turn, turns, violating, without}

-- two threads that begin with a function without parameters
abbrev pub twice : (function : ℕ) → List Begin
twice f = begin f [] ∷ begin f [] ∷ []

abbrev pub locked_write : List ℕ
locked_write = a_lock ++ codes "void w(void) { acq(&mu); g = 1; rel(&mu); }"

pub record ThreadsWait : Type 0 where
  pub until_it_is_given : events locked_write (twice 2) (turns (0 ∷ 1 ∷ 1 ∷ 0 ∷ 0 ∷ 1 ∷ 0 ∷ 0 ∷ [])) ≡
      at 0 2 0 (Took 0 Exclusive)
      ∷ at 1 2 0 (Waits 0 0)
      ∷ at 1 2 0 (Waits 0 0)
      ∷ at 0 2 1 (Write 2 (Int (pos 1)))
      ∷ at 0 2 2 (Gave 0 Exclusive)
      ∷ at 1 2 0 (Took 0 Exclusive)
      ∷ at 0 2 3 (Returned 2)
      ∷ without 0 AlreadyEnded
      ∷ []
  pub in_turn : events locked_write (twice 2) (turns (0 ∷ 1 ∷ 0 ∷ 1 ∷ 0 ∷ [])) ≡
      at 0 2 0 (Took 0 Exclusive)
      ∷ at 1 2 0 (Waits 0 0)
      ∷ at 0 2 1 (Write 2 (Int (pos 1)))
      ∷ at 1 2 0 (Waits 0 0)
      ∷ at 0 2 2 (Gave 0 Exclusive)
      ∷ []

-- a write without the lock
abbrev pub unlocked_write : List ℕ
unlocked_write = a_lock ++ codes "void w(void) { g = 1; }"

pub record UnlockedWritesAreViolations : Type 0 where
  pub each : events unlocked_write (twice 2) (turns (0 ∷ 1 ∷ 0 ∷ [])) ≡
      violating 0 2 0 (Write 2 (Int (pos 1))) ∷ violating 1 2 0 (Write 2 (Int (pos 1))) ∷ at 0 2 1 (Returned 2) ∷ []

-- two accounts of four places each: itself, its lock, the lock's member, and its balance; the transfer is function 2
abbrev pub bank : List ℕ
bank =
    codes "# 1 \"bank.c\"\n#include \"lock.h\"\n/* a bank of two accounts */\ntypedef struct CAPABILITY(\"mutex\") lock { int s; } lock_t;\n"
    ++ (codes "void mtx_lock(lock_t *m) ACQUIRE(m);\nvoid mtx_unlock(lock_t *m) RELEASE(m);\nstruct account { lock_t mu; int balance GUARDED_BY(mu); };\n"
    ++ (codes "struct account bank[2] = { { { 0 }, 100 }, { { 0 }, 50 } };\nint transfer(struct account *from, struct account *to, int amount) {\n"
    ++ (codes "  int done = 0;\n  mtx_lock(&from->mu);\n  mtx_lock(&to->mu);\n  if (amount < 1 || from->balance < amount) goto out;\n"
    ++ (codes "  from->balance -= amount;\n  to->balance += amount;\n  done = 1;\nout:\n  mtx_unlock(&to->mu);\n"
    ++ codes "  mtx_unlock(&from->mu);\n  return done;\n}\n"))))

pub record TransfersLockTheirAccounts : Type 0 where
  pub to_itself : events bank (begin 2 (Pointer (Some 0) ∷ Pointer (Some 0) ∷ Int (pos 1) ∷ []) ∷ []) (turns (0 ∷ 0 ∷ 0 ∷ [])) ≡
      at 0 2 0 Stepped ∷ at 0 2 1 (Took 1 Exclusive) ∷ at 0 2 2 (Waits 1 0) ∷ []
  -- the old value is the last read of an assignment with an operator
  pub to_another : events bank (begin 2 (Pointer (Some 0) ∷ Pointer (Some 4) ∷ Int (pos 1) ∷ []) ∷ []) (turns (replicate 14 0)) ≡
      at 0 2 0 Stepped
      ∷ at 0 2 1 (Took 1 Exclusive)
      ∷ at 0 2 2 (Took 5 Exclusive)
      ∷ at 0 2 3 (Read 3 (Int (pos 100)))
      ∷ at 0 2 3 (Branched false)
      ∷ at 0 2 5 (Read 3 (Int (pos 100)))
      ∷ at 0 2 5 (Write 3 (Int (pos 99)))
      ∷ at 0 2 6 (Read 7 (Int (pos 50)))
      ∷ at 0 2 6 (Write 7 (Int (pos 51)))
      ∷ at 0 2 7 Stepped
      ∷ at 0 2 8 (Gave 5 Exclusive)
      ∷ at 0 2 9 (Gave 1 Exclusive)
      ∷ at 0 2 10 (Returned 2)
      ∷ without 0 AlreadyEnded
      ∷ []

pub record ThreadsTrap : Type 0 where
  pub too_great : events (codes "void w(void) { int x = 2147483647; x = x + 1; }") (begin 0 [] ∷ []) (turns (0 ∷ 0 ∷ 0 ∷ [])) ≡
      at 0 0 0 Stepped ∷ at 0 0 1 (Trap Overflow) ∷ without 0 AlreadyTrapped ∷ []
  pub no_divisor : events (codes "void w(void) { int x = 1 / 0; }") (begin 0 [] ∷ []) (turns (0 ∷ [])) ≡ at 0 0 0 (Trap Division) ∷ []
  pub null_followed : events (codes "struct s { int v; }; void w(struct s *p) { p->v = 1; }") (begin 0 (Pointer None ∷ []) ∷ []) (turns (0 ∷ [])) ≡
      at 0 0 0 (Trap NullPointer) ∷ []
  pub out_of_range : events (codes "int a[2]; void w(int i) { a[i] = 1; }") (begin 0 (Int (pos 2) ∷ []) ∷ []) (turns (0 ∷ [])) ≡ at 0 0 0 (Trap OutOfRange) ∷ []
  pub too_deep : events (codes "void w(void) { w(); }")
      (begin 0 [] ∷ []) (turns (replicate 256 0)) ≡ replicate 255 (at 0 0 0 (Called 0)) ++ at 0 0 0 (Trap Depth) ∷ []

-- the environment is function 2 and answers a number; its caller is function 3
abbrev pub a_question : List ℕ
a_question = a_lock ++ codes "int ask(int n);\nvoid w(void) { int x = ask(1); acq(&mu); g = g + x; rel(&mu); }"

abbrev pub a_try : List ℕ
a_try = a_lock_with_tries ++ codes "void w(void) {\n  int ok = tr(&mu);\n  if (ok) { g = 1; rel(&mu); }\n}\n"

pub record AnswersCome : Type 0 where
  pub from_the_environment : events a_question (begin 3 [] ∷ []) (turn 0 (pos 7) ∷ turns (0 ∷ 0 ∷ 0 ∷ 0 ∷ [])) ≡
      at 0 3 0 (Environment 2 (Some (Int (pos 7))))
      ∷ at 0 3 1 (Took 0 Exclusive)
      ∷ at 0 3 2 (Read 2 (Int (pos 0)))
      ∷ at 0 3 2 (Write 2 (Int (pos 7)))
      ∷ at 0 3 3 (Gave 0 Exclusive)
      ∷ []
  pub from_tries : events a_try (twice 5) (turns (0 ∷ 1 ∷ 1 ∷ 1 ∷ 0 ∷ [])) ≡
      at 0 5 0 (Tried 0 Exclusive true)
      ∷ at 1 5 0 (Tried 0 Exclusive false)
      ∷ at 1 5 1 (Branched false)
      ∷ at 1 5 4 (Returned 5)
      ∷ at 0 5 1 (Branched true)
      ∷ []

abbrev pub taken_twice : List ℕ
taken_twice = lock_of_kind (codes "reentrant mutex") ++ codes "void w(void) { acq(&mu); acq(&mu); g = 1; rel(&mu); rel(&mu); }"

pub record HoldersTakeTheirLockAgain : Type 0 where
  pub until_all_is_given : events taken_twice (twice 2) (turns (0 ∷ 0 ∷ 1 ∷ 0 ∷ 0 ∷ 1 ∷ 0 ∷ 1 ∷ [])) ≡
      at 0 2 0 (Took 0 Exclusive)
      ∷ at 0 2 1 (Took 0 Exclusive)
      ∷ at 1 2 0 (Waits 0 0)
      ∷ at 0 2 2 (Write 2 (Int (pos 1)))
      ∷ at 0 2 3 (Gave 0 Exclusive)
      ∷ at 1 2 0 (Waits 0 0)
      ∷ at 0 2 4 (Gave 0 Exclusive)
      ∷ at 1 2 0 (Took 0 Exclusive)
      ∷ []
