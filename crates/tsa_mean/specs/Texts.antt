-- How worked runs are written: which threads begin, which of them take turns, and what is told of each turn.
use Rattle.std.specs.Prelude.{ℕ, ℤ, pos, true, false, Some, None, List, ◌++◌, map, codes}
use Rattle.tsa_base.specs.declared.value.Value.{Value}
use Rattle.tsa_base.specs.Tokens.{tokens_of}
use Rattle.tsa_tree.specs.types.Texts.{unit_in}
use Rattle.tsa_core.specs.Programs.{Program, program_of}
use Rattle.tsa_sched.specs.declared.event.Event.{Event}
use Rattle.tsa_sched.specs.declared.event.EventKind.{EventKind}
use Rattle.tsa_sched.specs.declared.pick.Pick.{Pick}
use Rattle.tsa_mean.specs.Runs.{run}
use Rattle.tsa_mean.specs.Starts.{Begin, first_state}

-- a thread that begins with the function of a number
abbrev pub begin : (function : ℕ) → List Value → Begin
begin f args = record { function = f; args = args }

-- a turn in which the environment answers a number, and turns in which it answers 0
abbrev pub turn : (thread : ℕ) → (answer : ℤ) → Pick
turn t z = record { thread = t; answer = z }

abbrev pub turns : List ℕ → List Pick
turns ts = map (λ t. turn t (pos 0)) ts

-- what is told at the point of a function: of a turn that is safe, and of one that is a violation
abbrev pub at : (thread function point : ℕ) → EventKind → Event
at t f p kind = record { thread = t; site = Some (record { function = f; point = p }); kind = kind; violation = false }

abbrev pub violating : (thread function point : ℕ) → EventKind → Event
violating t f p kind = record { thread = t; site = Some (record { function = f; point = p }); kind = kind; violation = true }

-- what is told of a thread that makes no turn
abbrev pub without : (thread : ℕ) → EventKind → Event
without t kind = record { thread = t; site = None; kind = kind; violation = false }

-- what is told of a run of the unit of a text
abbrev pub events_in : Program → List Begin → List Pick → List Event
events_in u begins picks = (run u (first_state u begins) picks).1

unfoldable pub events : List ℕ → List Begin → List Pick → List Event
events text begins picks = events_in (program_of (unit_in (tokens_of text))) begins picks

-- A lock `mu` of a kind with functions 0 and 1 that take and give one, and a number `g` under it: `mu` stands at place 0, and `g` at place
-- 2. Then function 2, which tries a lock, and functions 3 and 4, which take and give one together with others.
abbrev pub lock_of_kind : List ℕ → List ℕ
lock_of_kind kind =
    codes "struct CAPABILITY(\"" ++ (kind
    ++ codes "\") lock { int s; };\nvoid acq(struct lock *m) ACQUIRE(m);\nvoid rel(struct lock *m) RELEASE(m);\nstruct lock mu;\nint g GUARDED_BY(mu);\n")

abbrev pub a_lock : List ℕ
a_lock = lock_of_kind (codes "mutex")

abbrev pub a_lock_with_tries : List ℕ
a_lock_with_tries =
    a_lock
    ++ codes "int tr(struct lock *m) TRY_ACQUIRE(1, m);\nvoid acqs(struct lock *m) ACQUIRE_SHARED(m);\nvoid rels(struct lock *m) RELEASE_SHARED(m);\n"
