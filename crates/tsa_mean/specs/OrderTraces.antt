-- Short runs that show in which order a thread works things out, and what numbers come to at their edges.
use Rattle.std.specs.Prelude.{◌≡◌, ℕ, pos, negsuc, true, false, Some, None, List, [], ◌∷◌, ◌++◌, replicate, codes}
use Rattle.tsa_base.specs.declared.value.Value.{Value}
use Rattle.tsa_base.specs.declared.value.Value.TheVariants.{Int, Unsigned, Pointer}
use Rattle.tsa_sched.specs.declared.event.Event.{Event}
use Rattle.tsa_sched.specs.declared.event.EventKind.TheVariants.{Read, Write, Branched, Switched, Stepped, Trap, NoThread}
use Rattle.tsa_sched.specs.declared.event.TrapKind.TheVariants.{Overflow, Division, NullPointer, OutOfRange}
use Rattle.tsa_mean.specs.Texts.{a_lock, at, begin, events, turns, without}

-- What one thread does in some turns in a function, which is function 0, after some globals.
abbrev alone : (globals function : List ℕ) → List Value → (turns : ℕ) → List Event
alone globals function args n = events (globals ++ function) (begin 0 args ∷ []) (turns (replicate n 0))

-- a pair of numbers at place 0, with `x` at place 1 and `y` at place 2, and an array from place 3 on
abbrev pair : List ℕ
pair = codes "struct pair { int x, y; }; struct pair p; int a[2]; "

pub record TermsAreWorkedOutInOrder : Type 0 where
  -- operands from left to right, and a trap where it comes
  pub trap_first : alone pair (codes "void w(void) { p.x = 1 / 0 + p.y; }") [] 1 ≡ at 0 0 0 (Trap Division) ∷ []
  pub read_first : alone pair (codes "void w(void) { p.x = p.y + 1 / 0; }") [] 2 ≡ at 0 0 0 (Read 2 (Int (pos 0))) ∷ at 0 0 0 (Trap Division) ∷ []
  -- the right side, then the left side, whose old value is the last that an operator needs, and then the write
  pub right_first : alone pair (codes "void w(struct pair *q) { q->x = p.y; }") (Pointer None ∷ []) 2 ≡
      at 0 0 0 (Read 2 (Int (pos 0))) ∷ at 0 0 0 (Trap NullPointer) ∷ []
  pub old_last : alone pair (codes "void w(void) { a[p.x] += p.y; }") [] 4 ≡
      at 0 0 0 (Read 2 (Int (pos 0))) ∷ at 0 0 0 (Read 1 (Int (pos 0))) ∷ at 0 0 0 (Read 3 (Int (pos 0))) ∷ at 0 0 0 (Write 3 (Int (pos 0))) ∷ []
  pub base_first : alone pair (codes "void w(struct pair *q) { p.x = a[q->y]; }") (Pointer None ∷ []) 1 ≡ at 0 0 0 (Trap NullPointer) ∷ []
  -- `&&` and `||` stop early
  pub and_stops : alone pair (codes "void w(struct pair *q) { if (q && q->x) ; }") (Pointer None ∷ []) 1 ≡ at 0 0 0 (Branched false) ∷ []
  pub and_goes_on : alone pair (codes "void w(struct pair *q) { if (q && q->x) ; }") (Pointer (Some 0) ∷ []) 2 ≡
      at 0 0 0 (Read 1 (Int (pos 0))) ∷ at 0 0 0 (Branched false) ∷ []
  pub or_stops : alone pair (codes "void w(struct pair *q) { p.y = q || q->x; }") (Pointer (Some 0) ∷ []) 1 ≡ at 0 0 0 (Write 2 (Int (pos 1))) ∷ []
  pub or_goes_on : alone pair (codes "void w(struct pair *q) { p.y = q || q->x; }") (Pointer None ∷ []) 1 ≡ at 0 0 0 (Trap NullPointer) ∷ []
  -- an address costs nothing, but its index has to be in range
  pub address : alone pair (codes "void w(int i) { struct pair *q = &p; q->y = i; }") (Int (pos 5) ∷ []) 2 ≡
      at 0 0 0 Stepped ∷ at 0 0 1 (Write 2 (Int (pos 5))) ∷ []
  pub before_the_first : alone pair (codes "void w(int i) { a[i] = 0; }") (Int (negsuc 0) ∷ []) 1 ≡ at 0 0 0 (Trap OutOfRange) ∷ []
  -- a local is zero or null until it is declared, and a declaration without an initialiser makes it so again
  pub declared_again : alone pair (codes "void w(void) { for (int i = 0; i < 2; ++i) { int x; p.x = x; x = 5; } }") [] 12 ≡
      at 0 0 0 Stepped ∷ at 0 0 1 (Branched true) ∷ at 0 0 3 Stepped ∷ at 0 0 4 (Write 1 (Int (pos 0))) ∷ at 0 0 5 Stepped ∷ at 0 0 2 Stepped
      ∷ at 0 0 1 (Branched true)
      ∷ at 0 0 3 Stepped ∷ at 0 0 4 (Write 1 (Int (pos 0))) ∷ at 0 0 5 Stepped ∷ at 0 0 2 Stepped ∷ at 0 0 1 (Branched false) ∷ []
  -- a struct that stands as a statement has no value, but the way to it is followed
  pub way_to_a_struct : alone pair (codes "void w(struct pair *q) { p; *q; }") (Pointer None ∷ []) 2 ≡ at 0 0 0 Stepped ∷ at 0 0 1 (Trap NullPointer) ∷ []
  -- null is no lock
  pub null_handed : events (a_lock ++ codes "void w(struct lock *m) { acq(m); }")
      (begin 2 (Pointer None ∷ []) ∷ []) (turns (0 ∷ [])) ≡ at 0 2 0 (Trap NullPointer) ∷ []
  pub unknown : events (codes "void w(void) { }") [] (turns (0 ∷ [])) ≡ without 0 NoThread ∷ []

-- an `int` and an `unsigned` at places 0 and 1
abbrev numbers : List ℕ
numbers = codes "int n; unsigned u; "

abbrev least : Value
least = Int (negsuc 2147483647)

abbrev greatest : Value
greatest = Unsigned 4294967295

pub record NumbersTurnAtTheirEdges : Type 0 where
  pub quotient : alone numbers (codes "void w(int x) { n = x / -1; }") (least ∷ []) 1 ≡ at 0 0 0 (Trap Overflow) ∷ []
  pub remainder : alone numbers (codes "void w(int x) { n = x % -1; }") (least ∷ []) 1 ≡ at 0 0 0 (Trap Overflow) ∷ []
  pub negated : alone numbers (codes "void w(int x) { n = -x; }") (least ∷ []) 1 ≡ at 0 0 0 (Trap Overflow) ∷ []
  pub difference : alone numbers (codes "void w(int x) { n = x; n -= 1; }") (least ∷ []) 3 ≡
      at 0 0 0 (Write 0 least) ∷ at 0 0 1 (Read 0 least) ∷ at 0 0 1 (Trap Overflow) ∷ []
  pub product : alone numbers (codes "void w(int x) { n = x * 65536; }") (Int (pos 32768) ∷ []) 1 ≡ at 0 0 0 (Trap Overflow) ∷ []
  pub no_divisor : alone numbers (codes "void w(int x) { n = 7 % x; }") (Int (pos 0) ∷ []) 1 ≡ at 0 0 0 (Trap Division) ∷ []
  pub no_unsigned_divisor : alone numbers (codes "void w(unsigned x) { n = 7 / x; }") (Unsigned 0 ∷ []) 1 ≡ at 0 0 0 (Trap Division) ∷ []
  pub truncated : alone numbers (codes "void w(int x) { n = x / 2; n = x % 2; }") (Int (negsuc 6) ∷ []) 2 ≡
      at 0 0 0 (Write 0 (Int (negsuc 2))) ∷ at 0 0 1 (Write 0 (Int (negsuc 0))) ∷ []
  pub wraps : alone numbers (codes "void w(unsigned x) { u = x + 2; u = x * x; u = -x; }") (greatest ∷ []) 3 ≡
      at 0 0 0 (Write 1 (Unsigned 1)) ∷ at 0 0 1 (Write 1 (Unsigned 1)) ∷ at 0 0 2 (Write 1 (Unsigned 1)) ∷ []
  pub to_unsigned : alone numbers (codes "void w(int x) { u = x; }") (Int (negsuc 1) ∷ []) 1 ≡ at 0 0 0 (Write 1 (Unsigned 4294967294)) ∷ []
  pub to_int : alone numbers (codes "void w(unsigned x) { n = x; }") (greatest ∷ []) 1 ≡ at 0 0 0 (Write 0 (Int (negsuc 0))) ∷ []
  -- beside an `unsigned` an `int` is converted, and so is what an operator makes for an `int`
  pub compared : alone numbers (codes "void w(int x, unsigned y) { n = x < y; }") (Int (negsuc 0) ∷ Unsigned 1 ∷ []) 1 ≡ at 0 0 0 (Write 0 (Int (pos 0))) ∷ []
  pub added : alone numbers (codes "void w(unsigned y) { n += y; }") (greatest ∷ []) 2 ≡
      at 0 0 0 (Read 0 (Int (pos 0))) ∷ at 0 0 0 (Write 0 (Int (negsuc 0))) ∷ []
  pub chosen : alone numbers (codes "void w(unsigned y) { switch (y) { case 0: n = 1; case -1: n = 2; } }") (greatest ∷ []) 2 ≡
      at 0 0 0 (Switched greatest) ∷ at 0 0 2 (Write 0 (Int (pos 2))) ∷ []
  pub bits : alone numbers (codes "void w(unsigned y) { u = ~y; u = y & 12; u = y ^ 1 | 8; }") (Unsigned 10 ∷ []) 3 ≡
      at 0 0 0 (Write 1 (Unsigned 4294967285)) ∷ at 0 0 1 (Write 1 (Unsigned 8)) ∷ at 0 0 2 (Write 1 (Unsigned 11)) ∷ []
