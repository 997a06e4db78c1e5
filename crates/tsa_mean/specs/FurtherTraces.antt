-- Further runs: loops and switches, readers, constants and initial values, tries, releases without a mode, calls and their answers.
use Rattle.std.specs.Prelude.{◌≡◌, ℕ, pos, negsuc, true, false, Some, None, List, [], ◌∷◌, ◌++◌, replicate, codes}
use Rattle.std.specs.List.{repeat}
use Rattle.tsa_base.specs.declared.value.Value.TheVariants.{Int, Unsigned, Pointer}
use Rattle.tsa_sched.specs.declared.event.EventKind.TheVariants.{Read, Write, Took, Waits, Tried, Gave, NotHeld, Environment, Called}
use Rattle.tsa_sched.specs.declared.event.EventKind.TheVariants.{Returned, Branched, Switched, Stepped, Trap, AlreadyEnded, AlreadyTrapped}
use Rattle.tsa_sched.specs.declared.event.Mode.TheVariants.{Exclusive, Shared}
use Rattle.tsa_sched.specs.declared.event.TrapKind.TheVariants.{Division}
use Rattle.tsa_mean.specs.Texts.{a_lock_with_tries, at, begin, events, turn, turns, violating, without}
use Rattle.tsa_mean.specs.Traces.{twice}

-- the array `a` stands from place 0 on, `u` at place 3; `sum` is function 0 and `w` function 1
abbrev loops : List ℕ
loops =
    codes "enum { two = 2, three };\nint a[three];\nunsigned u;\nint sum(int n) {\n  int s = 0;\n"
    ++ (codes "  for (int i = 0; i < n; ++i) { if (i == 1) continue; s += i * two; if (s > 5) break; }\n  do s = s - 1; while (s > 2);\n"
    ++ (codes "  while (s) { s -= 1; if (s == 1) goto out; }\nout:\n"
    ++ (codes "  switch (n) { case 0: s = 7; break; case three: a[n - 1] = s; case 5: s = -s; default: s = s * 10; }\n  return s;\n}\n"
    ++ codes "void w(void) {\n  u = u - 1;\n  a[0] = sum(3);\n  u = -7 / 2 + -7 % 2;\n  a[1] = a[0] + a[2] * 3;\n}\n")))

pub record LoopsGoRound : Type 0 where
  pub and_switches_choose : events loops (begin 1 [] ∷ []) (turns (replicate 40 0)) ≡
      at 0 1 0 (Read 3 (Unsigned 0)) ∷ at 0 1 0 (Write 3 (Unsigned 4294967295)) ∷ at 0 1 1 (Called 0) ∷ at 0 0 0 Stepped ∷ at 0 0 1 Stepped
      ∷ at 0 0 2 (Branched true) ∷ at 0 0 4 (Branched false) ∷ at 0 0 6 Stepped ∷ at 0 0 7 (Branched false) ∷ at 0 0 3 Stepped
      ∷ at 0 0 2 (Branched true) ∷ at 0 0 4 (Branched true) ∷ at 0 0 5 Stepped ∷ at 0 0 3 Stepped ∷ at 0 0 2 (Branched true)
      ∷ at 0 0 4 (Branched false) ∷ at 0 0 6 Stepped ∷ at 0 0 7 (Branched false) ∷ at 0 0 3 Stepped ∷ at 0 0 2 (Branched false) ∷ at 0 0 9 Stepped
      ∷ at 0 0 10 (Branched true) ∷ at 0 0 9 Stepped ∷ at 0 0 10 (Branched false) ∷ at 0 0 11 (Branched true) ∷ at 0 0 12 Stepped
      ∷ at 0 0 13 (Branched true) ∷ at 0 0 14 Stepped ∷ at 0 0 15 (Switched (Int (pos 3))) ∷ at 0 0 18 (Write 2 (Int (pos 1))) ∷ at 0 0 19 Stepped
      ∷ at 0 0 20 Stepped ∷ at 0 0 21 (Returned 0) ∷ at 0 1 1 (Write 0 (Int (negsuc 9))) ∷ at 0 1 2 (Write 3 (Unsigned 4294967292))
      ∷ at 0 1 3 (Read 0 (Int (negsuc 9))) ∷ at 0 1 3 (Read 2 (Int (pos 1))) ∷ at 0 1 3 (Write 1 (Int (negsuc 6))) ∷ at 0 1 4 (Returned 1)
      ∷ without 0 AlreadyEnded ∷ []

-- a switch goes to its default, or without one behind itself, where no case has its value
pub record SwitchesGoOn : Type 0 where
  pub by_default : events (codes "int n; void w(int x) { switch (x) { case 1: n = 1; default: n = 2; } n = 3; }")
      (begin 0 (Int (pos 5) ∷ []) ∷ []) (turns (replicate 4 0)) ≡
      at 0 0 0 (Switched (Int (pos 5))) ∷ at 0 0 2 (Write 0 (Int (pos 2))) ∷ at 0 0 3 (Write 0 (Int (pos 3))) ∷ at 0 0 4 (Returned 0) ∷ []
  pub behind : events (codes "int n; void w(int x) { switch (x) { case 1: n = 1; } n = 3; }") (begin 0 (Int (pos 5) ∷ []) ∷ []) (turns (replicate 2 0)) ≡
      at 0 0 0 (Switched (Int (pos 5))) ∷ at 0 0 2 (Write 0 (Int (pos 3))) ∷ []

-- an account is five places: itself, its lock, the lock's member, `x` and `y`; accounts stand at 3 and 8, and a pointer to the second that
-- never changes at 13
abbrev accounts : List ℕ
accounts =
    a_lock_with_tries
    ++ (codes "struct acc { struct lock mu; int x GUARDED_BY(mu); int y; };\nstruct acc two[2] = { { { 3 }, 4 }, { { 0 }, -1, 9 } };\n"
    ++ (codes "struct acc *const first = &two[1];\nvoid r(struct acc *p, int k) {\n  acqs(&two[k].mu);\n  two[k].y = two[k].x + p->y;\n  rels(&two[k].mu);\n"
    ++ (codes "  acqs(&first->mu);\n  first->y = first->x;\n  first->x = 5;\n  rels(&first->mu);\n}\n"
    ++ codes "void w(struct acc *p) {\n  acq(&p->mu);\n  p->x = (*p).x + 1;\n  rel(&p->mu);\n  rel(&p->mu);\n}\n")))

pub record ReadersShareALock : Type 0 where
  pub beside_writers : events accounts
      (begin 5 (Pointer (Some 3) ∷ Int (pos 0) ∷ []) ∷ begin 5 (Pointer (Some 8) ∷ Int (pos 1) ∷ []) ∷ begin 6 (Pointer (Some 3) ∷ []) ∷ begin 6 (Pointer (Some 8) ∷ []) ∷ [])
      (turns ((0 ∷ 1 ∷ 2 ∷ 2 ∷ []) ++ (repeat 10 (0 ∷ 1 ∷ 2 ∷ 3 ∷ []) ++ repeat 4 (0 ∷ 1 ∷ [])))) ≡
      at 0 5 0 (Took 4 Shared) ∷ at 1 5 0 (Took 9 Shared) ∷ at 2 6 0 (Waits 4 0) ∷ at 2 6 0 (Waits 4 0) ∷ at 0 5 1 (Read 6 (Int (pos 4)))
      ∷ at 1 5 1 (Read 11 (Int (negsuc 0))) ∷ at 2 6 0 (Waits 4 0) ∷ at 3 6 0 (Waits 9 1) ∷ at 0 5 1 (Read 7 (Int (pos 0)))
      ∷ at 1 5 1 (Read 12 (Int (pos 9))) ∷ at 2 6 0 (Waits 4 0) ∷ at 3 6 0 (Waits 9 1) ∷ at 0 5 1 (Write 7 (Int (pos 4)))
      ∷ at 1 5 1 (Write 12 (Int (pos 8))) ∷ at 2 6 0 (Waits 4 0) ∷ at 3 6 0 (Waits 9 1) ∷ at 0 5 2 (Gave 4 Shared) ∷ at 1 5 2 (Gave 9 Shared)
      ∷ at 2 6 0 (Took 4 Exclusive) ∷ at 3 6 0 (Took 9 Exclusive) ∷ at 0 5 3 (Read 13 (Pointer (Some 8))) ∷ at 1 5 3 (Read 13 (Pointer (Some 8)))
      ∷ at 2 6 1 (Read 6 (Int (pos 4))) ∷ at 3 6 1 (Read 11 (Int (negsuc 0))) ∷ at 0 5 3 (Waits 9 3) ∷ at 1 5 3 (Waits 9 3)
      ∷ at 2 6 1 (Write 6 (Int (pos 5))) ∷ at 3 6 1 (Write 11 (Int (pos 0))) ∷ at 0 5 3 (Waits 9 3) ∷ at 1 5 3 (Waits 9 3)
      ∷ at 2 6 2 (Gave 4 Exclusive) ∷ at 3 6 2 (Gave 9 Exclusive) ∷ at 0 5 3 (Took 9 Shared) ∷ at 1 5 3 (Took 9 Shared) ∷ violating 2 6 3 (NotHeld 4)
      ∷ violating 3 6 3 (NotHeld 9) ∷ at 0 5 4 (Read 13 (Pointer (Some 8))) ∷ at 1 5 4 (Read 13 (Pointer (Some 8))) ∷ at 2 6 4 (Returned 6)
      ∷ at 3 6 4 (Returned 6) ∷ at 0 5 4 (Read 11 (Int (pos 0))) ∷ at 1 5 4 (Read 11 (Int (pos 0))) ∷ without 2 AlreadyEnded ∷ without 3 AlreadyEnded
      ∷ at 0 5 4 (Read 13 (Pointer (Some 8))) ∷ at 1 5 4 (Read 13 (Pointer (Some 8))) ∷ at 0 5 4 (Write 12 (Int (pos 0)))
      ∷ at 1 5 4 (Write 12 (Int (pos 0))) ∷ at 0 5 5 (Read 13 (Pointer (Some 8))) ∷ at 1 5 5 (Read 13 (Pointer (Some 8)))
      ∷ violating 0 5 5 (Write 11 (Int (pos 5))) ∷ violating 1 5 5 (Write 11 (Int (pos 5))) ∷ []

-- two reentrant locks at places 0 and 2, `c` at 4 under the second, and a pointer to that at 5
abbrev forms : List ℕ
forms =
    codes "typedef struct CAPABILITY(\"reentrant lock\") lock { int s; } lock_t;\ntypedef lock_t *handle;\nvoid take(lock_t *m) ACQUIRE(m);\n"
    ++ (codes "int try(const lock_t *m) TRY_ACQUIRE_SHARED(0, m);\nvoid both(lock_t *m) RELEASE_GENERIC(m);\nint read(void);\nunsigned rnd(int a);\n"
    ++ (codes "lock_t l[2];\nint c GUARDED_BY(l[1]);\nhandle const h = &l[1];\nint inc(int by) REQUIRES(l[1]) { c = c + by; return c; }\n"
    ++ (codes "void w(void) {\n  take(h); take(&l[1]);\n  int v = inc(3);\n  both(&l[1]); both(h);\n  if (!try(&l[0])) { if (h && v > 2 || c) ; both(&l[0]); }\n"
    ++ codes "  unsigned q = rnd(v + 1);\n  v = read();\n  v += inc(1);\n  int z = read();\n  v = v / z;\n}\n")))

-- a call without the lock that it requires is no violation by itself, but what its function reads and writes is
pub record CallsAreAnswered : Type 0 where
  pub in_all_places : events forms (twice 6)
      (turns ((0 ∷ 1 ∷ []) ++ replicate 15 0) ++ turn 0 (negsuc 0) ∷ turns (replicate 7 0 ++ (replicate 6 1 ++ replicate 4 0))) ≡
      at 0 6 0 (Read 5 (Pointer (Some 2))) ∷ at 1 6 0 (Read 5 (Pointer (Some 2))) ∷ at 0 6 0 (Took 2 Exclusive) ∷ at 0 6 1 (Took 2 Exclusive)
      ∷ at 0 6 2 (Called 5) ∷ at 0 5 0 (Read 4 (Int (pos 0))) ∷ at 0 5 0 (Write 4 (Int (pos 3))) ∷ at 0 5 1 (Read 4 (Int (pos 3)))
      ∷ at 0 5 1 (Returned 5) ∷ at 0 6 3 (Gave 2 Exclusive) ∷ at 0 6 4 (Read 5 (Pointer (Some 2))) ∷ at 0 6 4 (Gave 2 Exclusive)
      ∷ at 0 6 5 (Tried 0 Shared true) ∷ at 0 6 6 (Read 5 (Pointer (Some 2))) ∷ at 0 6 6 (Branched true) ∷ at 0 6 7 Stepped ∷ at 0 6 8 (Gave 0 Shared)
      ∷ at 0 6 9 (Environment 4 (Some (Unsigned 4294967295))) ∷ at 0 6 10 (Environment 3 (Some (Int (pos 0)))) ∷ at 0 6 10 Stepped
      ∷ at 0 6 11 (Called 5) ∷ violating 0 5 0 (Read 4 (Int (pos 3))) ∷ violating 0 5 0 (Write 4 (Int (pos 4)))
      ∷ violating 0 5 1 (Read 4 (Int (pos 4))) ∷ at 0 5 1 (Returned 5) ∷ at 1 6 0 (Took 2 Exclusive) ∷ at 1 6 1 (Took 2 Exclusive)
      ∷ at 1 6 2 (Called 5) ∷ at 1 5 0 (Read 4 (Int (pos 4))) ∷ at 1 5 0 (Write 4 (Int (pos 7))) ∷ at 1 5 1 (Read 4 (Int (pos 7))) ∷ at 0 6 11 Stepped
      ∷ at 0 6 12 (Environment 3 (Some (Int (pos 0)))) ∷ at 0 6 13 (Trap Division) ∷ without 0 AlreadyTrapped ∷ []

pub record AnswersGoWhereCallsStand : Type 0 where
  -- into a return and an assignment, in a turn of its own
  pub to_a_return : events (codes "int n; int one(void) { return 1; } int two(void) { return one(); } void w(void) { n = two(); }")
      (begin 2 [] ∷ []) (turns (replicate 6 0)) ≡
      at 0 2 0 (Called 1) ∷ at 0 1 0 (Called 0) ∷ at 0 0 0 (Returned 0) ∷ at 0 1 0 (Returned 1) ∷ at 0 2 0 (Write 0 (Int (pos 1))) ∷ at 0 2 1 (Returned 2) ∷ []
  -- into a local and a condition, in the same turn
  pub to_a_local : events (codes "int n; int one(void) { return 1; } void w(void) { int x = one(); if (one() == 1) n = x; }")
      (begin 1 [] ∷ []) (turns (replicate 6 0)) ≡
      at 0 1 0 (Called 0) ∷ at 0 0 0 (Returned 0) ∷ at 0 1 1 (Called 0) ∷ at 0 0 0 (Returned 0) ∷ at 0 1 2 (Write 0 (Int (pos 1))) ∷ at 0 1 3 (Returned 1) ∷ []
  pub converted : events (codes "unsigned u; int least(void) { return -1; } void w(void) { u = least(); }") (begin 1 [] ∷ []) (turns (replicate 3 0)) ≡
      at 0 1 0 (Called 0) ∷ at 0 0 0 (Returned 0) ∷ at 0 1 0 (Write 0 (Unsigned 4294967295)) ∷ []
  -- behind an operator the old value is read once the call is answered
  pub joined : events (codes "int n; int one(void) { n = 5; return 1; } void w(void) { n += one(); }") (begin 1 [] ∷ []) (turns (replicate 5 0)) ≡
      at 0 1 0 (Called 0) ∷ at 0 0 0 (Write 0 (Int (pos 5))) ∷ at 0 0 1 (Returned 0) ∷ at 0 1 0 (Read 0 (Int (pos 5))) ∷ at 0 1 0 (Write 0 (Int (pos 6))) ∷ []
  -- the end gives 0 or null
  pub of_the_end : events (codes "struct s { int v; }; int n; int f(void) { } struct s *g(void) { } void w(void) { n = 5; n = f(); if (g()) n = 7; }")
      (begin 2 [] ∷ []) (turns (replicate 7 0)) ≡
      at 0 2 0 (Write 0 (Int (pos 5))) ∷ at 0 2 1 (Called 0) ∷ at 0 0 0 (Returned 0) ∷ at 0 2 1 (Write 0 (Int (pos 0))) ∷ at 0 2 2 (Called 1)
      ∷ at 0 1 0 (Returned 1)
      ∷ at 0 2 4 (Returned 2) ∷ []
  -- arguments are worked out before the call, a read a turn
  pub of_arguments : events (codes "int a; int b; void f(int x, unsigned y) { a = x; b = y; } void w(void) { a = 2; f(a - 3, a + b); }")
      (begin 1 [] ∷ []) (turns (replicate 8 0)) ≡
      at 0 1 0 (Write 0 (Int (pos 2))) ∷ at 0 1 1 (Read 0 (Int (pos 2))) ∷ at 0 1 1 (Read 0 (Int (pos 2))) ∷ at 0 1 1 (Read 1 (Int (pos 0)))
      ∷ at 0 1 1 (Called 0)
      ∷ at 0 0 0 (Write 0 (Int (negsuc 0))) ∷ at 0 0 1 (Write 1 (Int (pos 2))) ∷ at 0 0 2 (Returned 0) ∷ []

-- a function that tries two locks, of which `nu` stands at place 3, and one that calls it: functions 5 and 6
abbrev a_try_of_two : List ℕ
a_try_of_two =
    a_lock_with_tries
    ++ (codes "int both(struct lock *a, struct lock *b) TRY_ACQUIRE(1, a, b) {\n  if (!tr(a)) return 0;\n  if (tr(b)) return 1;\n  rel(a);\n  return 0;\n}\n"
    ++ codes "struct lock nu;\nvoid w(void) { if (both(&mu, &nu)) { g = 1; rel(&nu); rel(&mu); } }")

pub record ReturnsAreJudged : Type 0 where
  pub as_tried : events a_try_of_two (begin 6 [] ∷ []) (turns (replicate 8 0)) ≡
      at 0 6 0 (Called 5) ∷ at 0 5 0 (Tried 0 Exclusive true) ∷ at 0 5 2 (Tried 3 Exclusive true) ∷ at 0 5 3 (Returned 5) ∷ at 0 6 1 (Write 2 (Int (pos 1)))
      ∷ at 0 6 2 (Gave 3 Exclusive) ∷ at 0 6 3 (Gave 0 Exclusive) ∷ at 0 6 4 (Returned 6) ∷ []
  -- the first try fails while the other thread holds the lock
  pub in_vain : events a_try_of_two (twice 6) (turns (0 ∷ 0 ∷ 1 ∷ 1 ∷ 1 ∷ 1 ∷ [])) ≡
      at 0 6 0 (Called 5) ∷ at 0 5 0 (Tried 0 Exclusive true) ∷ at 1 6 0 (Called 5) ∷ at 1 5 0 (Tried 0 Exclusive false) ∷ at 1 5 1 (Returned 5)
      ∷ at 1 6 4 (Returned 6) ∷ []
  pub still_held : events (a_lock_with_tries ++ codes "void w(void) { acqs(&mu); }") (begin 5 [] ∷ []) (turns (0 ∷ 0 ∷ [])) ≡
      at 0 5 0 (Took 0 Shared) ∷ violating 0 5 1 (Returned 5) ∷ []
  -- a path that meets null names no lock
  pub of_null : events (a_lock_with_tries ++ codes "void f(struct lock *p) REQUIRES(p) { }\nvoid w(struct lock *q) { f(q); }")
      (begin 6 (Pointer None ∷ []) ∷ []) (turns (0 ∷ 0 ∷ 0 ∷ [])) ≡
      at 0 6 0 (Called 5) ∷ violating 0 5 0 (Returned 5) ∷ at 0 6 1 (Returned 6) ∷ []
  -- the answer of a lock function is 0, and is written in a turn of its own
  pub of_a_lock_function : events (a_lock_with_tries ++ codes "int take(struct lock *m) ACQUIRE(m);\nint n;\nvoid w(void) { n = take(&mu); n += 2; rel(&mu); }")
      (begin 6 [] ∷ []) (turns (replicate 6 0)) ≡
      at 0 6 0 (Took 0 Exclusive) ∷ at 0 6 0 (Write 3 (Int (pos 0))) ∷ at 0 6 1 (Read 3 (Int (pos 0))) ∷ at 0 6 1 (Write 3 (Int (pos 2)))
      ∷ at 0 6 2 (Gave 0 Exclusive)
      ∷ at 0 6 3 (Returned 6) ∷ []

-- functions 5 to 8, which take and give the lock as they are declared, called by function 9
abbrev declared : List ℕ
declared =
    a_lock_with_tries
    ++ (codes "void lock(void) ACQUIRE(mu) { acq(&mu); }\nvoid unlock(void) RELEASE(mu) { rel(&mu); }\nvoid share(void) ACQUIRE_SHARED(mu) { acqs(&mu); }\n"
    ++ codes "void leave(void) RELEASE_SHARED(mu) { rels(&mu); }\nvoid w(void) { lock(); unlock(); share(); leave(); }")

pub record ReturnsLeaveWhatIsDeclared : Type 0 where
  pub each_as_declared : events declared (begin 9 [] ∷ []) (turns (replicate 13 0)) ≡
      at 0 9 0 (Called 5) ∷ at 0 5 0 (Took 0 Exclusive) ∷ at 0 5 1 (Returned 5) ∷ at 0 9 1 (Called 6) ∷ at 0 6 0 (Gave 0 Exclusive) ∷ at 0 6 1 (Returned 6)
      ∷ at 0 9 2 (Called 7) ∷ at 0 7 0 (Took 0 Shared) ∷ at 0 7 1 (Returned 7) ∷ at 0 9 3 (Called 8) ∷ at 0 8 0 (Gave 0 Shared) ∷ at 0 8 1 (Returned 8)
      ∷ at 0 9 4 (Returned 9) ∷ []
  pub in_another_mode : events (a_lock_with_tries ++ codes "void lock(void) ACQUIRE(mu) { acqs(&mu); }") (begin 5 [] ∷ []) (turns (0 ∷ 0 ∷ [])) ≡
      at 0 5 0 (Took 0 Shared) ∷ violating 0 5 1 (Returned 5) ∷ []
  pub not_given : events (a_lock_with_tries ++ codes "void unlock(void) RELEASE(mu) { }\nvoid w(void) { acq(&mu); unlock(); }")
      (begin 6 [] ∷ []) (turns (replicate 4 0)) ≡
      at 0 6 0 (Took 0 Exclusive) ∷ at 0 6 1 (Called 5) ∷ violating 0 5 0 (Returned 5) ∷ violating 0 6 2 (Returned 6) ∷ []
  pub not_kept : events (a_lock_with_tries ++ codes "void f(void) REQUIRES(mu) { rel(&mu); }\nvoid w(void) { acq(&mu); f(); }")
      (begin 6 [] ∷ []) (turns (replicate 5 0)) ≡
      at 0 6 0 (Took 0 Exclusive) ∷ at 0 6 1 (Called 5) ∷ at 0 5 0 (Gave 0 Exclusive) ∷ violating 0 5 1 (Returned 5) ∷ at 0 6 2 (Returned 6) ∷ []
  pub given_and_taken : events (a_lock_with_tries ++ codes "void f(void) REQUIRES(mu) { rel(&mu); acq(&mu); }\nvoid w(void) { acq(&mu); f(); rel(&mu); }")
      (begin 6 [] ∷ []) (turns (replicate 7 0)) ≡
      at 0 6 0 (Took 0 Exclusive) ∷ at 0 6 1 (Called 5) ∷ at 0 5 0 (Gave 0 Exclusive) ∷ at 0 5 1 (Took 0 Exclusive) ∷ at 0 5 2 (Returned 5)
      ∷ at 0 6 2 (Gave 0 Exclusive)
      ∷ at 0 6 3 (Returned 6) ∷ []
  -- a lock by a parameter's name is the one that was handed over
  pub by_parameter : events (a_lock_with_tries ++ codes "void lock(struct lock *p) ACQUIRE(p) { acq(p); }\nvoid w(void) { lock(&mu); rel(&mu); }")
      (begin 6 [] ∷ []) (turns (replicate 5 0)) ≡
      at 0 6 0 (Called 5) ∷ at 0 5 0 (Took 0 Exclusive) ∷ at 0 5 1 (Returned 5) ∷ at 0 6 1 (Gave 0 Exclusive) ∷ at 0 6 2 (Returned 6) ∷ []
  pub shared_of_null : events (a_lock_with_tries ++ codes "void f(struct lock *p) REQUIRES_SHARED(p) { }")
      (begin 5 (Pointer None ∷ []) ∷ []) (turns (0 ∷ [])) ≡ violating 0 5 0 (Returned 5) ∷ []
  -- a try that is shared takes its lock so
  pub shared_try : events (a_lock_with_tries ++ codes "int t(void) TRY_ACQUIRE_SHARED(1, mu) { acqs(&mu); return 1; }") (begin 5 [] ∷ []) (turns (0 ∷ 0 ∷ [])) ≡
      at 0 5 0 (Took 0 Shared) ∷ at 0 5 1 (Returned 5) ∷ []
  pub shared_try_alone : events (a_lock_with_tries ++ codes "int t(void) TRY_ACQUIRE_SHARED(1, mu) { acq(&mu); return 1; }")
      (begin 5 [] ∷ []) (turns (0 ∷ 0 ∷ [])) ≡
      at 0 5 0 (Took 0 Exclusive) ∷ violating 0 5 1 (Returned 5) ∷ []
  -- what is excluded takes no part in a return
  pub excluded : events (a_lock_with_tries ++ codes "void f(struct lock *p) EXCLUDES(p) { }")
      (begin 5 (Pointer None ∷ []) ∷ []) (turns (0 ∷ [])) ≡ at 0 5 0 (Returned 5) ∷ []
  -- a try that gives neither 0 nor 1 has no success
  pub neither : events (a_lock_with_tries ++ codes "int t(void) TRY_ACQUIRE(1, mu) { return 2; }")
      (begin 5 [] ∷ []) (turns (0 ∷ [])) ≡ at 0 5 0 (Returned 5) ∷ []
  pub success_for_nothing : events (a_lock_with_tries ++ codes "int t(void) TRY_ACQUIRE(0, mu) { }")
      (begin 5 [] ∷ []) (turns (0 ∷ [])) ≡ violating 0 5 0 (Returned 5) ∷ []
