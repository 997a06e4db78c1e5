-- Functions as they should be, as they are written, with sheets of rows that pass; and some that leave what they shouldn't.
use Rattle.std.specs.Prelude.{◌≡◌, ℕ, Bool, true, false, List, [], ◌∷◌, ◌++◌, Option, Some, None, codes}
use Rattle.tsa_place_model.specs.Ways.{Way}
use Rattle.tsa_place_model.specs.declared.path.Root.TheVariants.{Local}
use Rattle.tsa_place_model.specs.declared.path.PathStep.TheVariants.{Field, Follow}
use Rattle.tsa_core.specs.Examples.{program}
use Rattle.tsa_core.specs.Programs.{Program}
use Rattle.tsa_rules.specs.Statuses.{Status, Free, Shared, Exclusive, Lent, Pending}
use Rattle.tsa_rules.specs.Points.{function_at}
use Rattle.tsa_rules.specs.Sheets.{passes}
use Rattle.tsa_rules.specs.Texts.{global}
use Rattle.tsa_rules.specs.Warnings.{HasNoWarnings}

-- a lock `mu` of a kind, a number `g` under it, and functions that take, give and try locks
abbrev locks : List ℕ → List ℕ
locks kind =
    codes "struct CAPABILITY(\"" ++ (kind
    ++ (codes "\") lock { int s; }; void acq(struct lock *m) ACQUIRE(m); void rel(struct lock *m) RELEASE(m); struct lock mu; int g GUARDED_BY(mu); "
    ++ codes "int tr(struct lock *m) TRY_ACQUIRE(1, m); void acqs(struct lock *m) ACQUIRE_SHARED(m); void rels(struct lock *m) RELEASE_SHARED(m); "))

-- whether the points of a function have these statuses of some paths, of `mu` alone, and of that where its holder may take it again
abbrev pub has_rows : (kind text : List ℕ) → (function : ℕ) → List Way → List (Option (List Status)) → Bool
has_rows kind text n paths points = passes (program (locks kind ++ text)) (function_at (program (locks kind ++ text)) n) (record { paths = paths; points = points })

abbrev pub each_alone : List Status → List (Option (List Status))
each_alone [] = []
each_alone (s ∷ statuses) = Some (s ∷ []) ∷ each_alone statuses

abbrev pub has : (text : List ℕ) → List Status → Bool
has text statuses = has_rows (codes "mutex") text 5 (global 0 ∷ []) (each_alone statuses)

abbrev pub has_again : (text : List ℕ) → List Status → Bool
has_again text statuses = has_rows (codes "reentrant mutex") text 5 (global 0 ∷ []) (each_alone statuses)

-- the last point isn't reached
abbrev pub has_before_end : (text : List ℕ) → List Status → Bool
has_before_end text statuses = has_rows (codes "mutex") text 5 (global 0 ∷ []) (each_alone statuses ++ None ∷ [])

-- two locks at a point
abbrev both : Status → Status → Option (List Status)
both s t = Some (s ∷ t ∷ [])

abbrev pub pointed : ℕ → Way
pointed n = record { root = Local n; steps = Follow ∷ [] }

abbrev of_account : ℕ → Way
of_account n = record { root = Local n; steps = Follow ∷ Field 0 ∷ [] }

-- a function that tries two locks, and one that calls it
abbrev two : List ℕ
two =
    codes "int both(struct lock *a, struct lock *b) TRY_ACQUIRE(1, a, b) { if (!tr(a)) return 0; if (tr(b)) return 1; rel(a); return 0; } "
    ++ codes "struct lock nu; void w(void) { if (both(&mu, &nu)) { g = 1; rel(&nu); rel(&mu); } }"

pub record AcceptedFunctionsHaveSheets : Type 0 where
  pub locked : has (codes "void w(void) { acq(&mu); g = 1; rel(&mu); }") (Free ∷ Exclusive 1 ∷ Exclusive 1 ∷ Free ∷ []) ≡ true
  pub shared : has (codes "void r(void) { int x = 0; acqs(&mu); x = g; rels(&mu); }") (Free ∷ Free ∷ Shared ∷ Shared ∷ Free ∷ []) ≡ true
  pub lent : has_before_end (codes "int r(void) REQUIRES_SHARED(mu) { return g; }") (Lent ∷ []) ≡ true
  pub released_and_taken : has (codes "void r(void) REQUIRES(mu) { rel(&mu); acq(&mu); g = 1; }") (Exclusive 1 ∷ Free ∷ Exclusive 1 ∷ Exclusive 1 ∷ []) ≡ true
  pub tried_in_a_loop : has (codes "void w(void) { while (!tr(&mu)) { } g = 1; rel(&mu); }") (Free ∷ Exclusive 1 ∷ Exclusive 1 ∷ Free ∷ []) ≡ true
  pub tried_into_a_variable : has (codes "void w(void) { int ok = tr(&mu); if (ok) { g = 1; rel(&mu); } }") (Free ∷ Pending 0 ∷ Exclusive 1 ∷ Exclusive 1 ∷ Free ∷ []) ≡ true
  pub tried_in_vain : has (codes "void w(void) { int ok = tr(&mu); if (ok == 0) return; rel(&mu); }") (Free ∷ Pending 0 ∷ Free ∷ Exclusive 1 ∷ Free ∷ []) ≡ true
  pub taken_again : has_again (codes "void w(void) { acq(&mu); acq(&mu); g = 1; rel(&mu); rel(&mu); }")
      (Free ∷ Exclusive 1 ∷ Exclusive 2 ∷ Exclusive 2 ∷ Exclusive 1 ∷ Free ∷ []) ≡ true
  pub in_a_loop : has (codes "void w(int c) { while (c) { acq(&mu); if (c == 2) { rel(&mu); break; } rel(&mu); } }")
      (Free ∷ Free ∷ Exclusive 1 ∷ Exclusive 1 ∷ Free ∷ Exclusive 1 ∷ Free ∷ []) ≡ true
  pub a_try_with_a_body : has_before_end (codes "int once(void) TRY_ACQUIRE(1, mu) { if (tr(&mu)) return 1; return 0; }") (Free ∷ Exclusive 1 ∷ Free ∷ []) ≡ true
  pub a_try_of_two : has_rows (codes "mutex") two 5 (pointed 0 ∷ pointed 1 ∷ [])
      (both Free Free ∷ both Free Free ∷ both (Exclusive 1) Free ∷ both (Exclusive 1) (Exclusive 1) ∷ both (Exclusive 1) Free ∷ both Free Free ∷ None ∷ []) ≡ true
  pub a_call_of_that : has_rows (codes "mutex") two 6 (global 0 ∷ global 2 ∷ [])
      (both Free Free ∷ both (Exclusive 1) (Exclusive 1) ∷ both (Exclusive 1) (Exclusive 1) ∷ both (Exclusive 1) Free ∷ both Free Free ∷ []) ≡ true
  pub a_transfer : has_rows (codes "mutex")
      (codes "struct account { struct lock mu; int balance GUARDED_BY(mu); }; int transfer(struct account *from, struct account *to, int amount) { int done = 0; "
      ++ (codes "acq(&from->mu); acq(&to->mu); if (amount < 1 || from->balance < amount) goto out; from->balance -= amount; to->balance += amount; done = 1; "
      ++ codes "out: rel(&to->mu); rel(&from->mu); return done; }"))
      5 (of_account 0 ∷ of_account 1 ∷ [])
      (both Free Free ∷ both Free Free ∷ both (Exclusive 1) Free ∷ both (Exclusive 1) (Exclusive 1) ∷ both (Exclusive 1) (Exclusive 1) ∷ both (Exclusive 1) (Exclusive 1)
      ∷ both (Exclusive 1) (Exclusive 1) ∷ both (Exclusive 1) (Exclusive 1) ∷ both (Exclusive 1) (Exclusive 1) ∷ both (Exclusive 1) Free ∷ both Free Free ∷ None ∷ []) ≡ true
  -- what is still held, what the rows don't go along with, and what is taken by another answer
  pub left_held : has (codes "void w(void) { acq(&mu); g = 1; }") (Free ∷ Exclusive 1 ∷ Exclusive 1 ∷ []) ≡ false
  pub not_along : has (codes "void w(void) { acq(&mu); g = 1; rel(&mu); }") (Free ∷ Free ∷ Exclusive 1 ∷ Free ∷ []) ≡ false
  pub by_another_answer : has_before_end (codes "int once(void) TRY_ACQUIRE(0, mu) { if (tr(&mu)) return 1; return 0; }") (Free ∷ Exclusive 1 ∷ Free ∷ []) ≡ false

-- a whole unit that writes under its lock
abbrev pub locked_write : Program
locked_write = program (
    codes "struct CAPABILITY(\"mutex\") lock { int s; }; void acq(struct lock *m) ACQUIRE(m); void rel(struct lock *m) RELEASE(m); struct lock mu; int g GUARDED_BY(mu); "
    ++ codes "void w(void) { acq(&mu); g = 1; rel(&mu); }")

abbrev pub ALockedWriteIsAccepted : Type 0
ALockedWriteIsAccepted = HasNoWarnings locked_write
