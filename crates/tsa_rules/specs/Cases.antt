-- The case of a path at a point: all that the rules go by there, and the rules by that alone.
use Rattle.std.specs.Prelude.{◌≡◌, ◌<◌, ◌≤◌, ℕ, Bool, true, false, ◌&&◌, ◌||◌, not, length, Option, Some, None, option_map, is_some}
use Rattle.tsa_tree.specs.declared.attr.AttrKind.TheVariants as attr
use Rattle.tsa_place_model.specs.Ways.{Way}
use Rattle.tsa_core.specs.Bodies.{Action, declare, test, give}
use Rattle.tsa_core.specs.Control.{Outcome, Next, Yes, No}
use Rattle.tsa_core.specs.Programs.{Function, Program}
use Rattle.tsa_rules.specs.declared.case.Asked.{Asked}
use Rattle.tsa_rules.specs.declared.case.Asked.TheVariants as asked
use Rattle.tsa_rules.specs.declared.case.Case.{Case}
use Rattle.tsa_rules.specs.declared.case.Lock.{Lock}
use Rattle.tsa_rules.specs.declared.case.Role.{Role}
use Rattle.tsa_rules.specs.declared.case.Role.TheVariants as role
use Rattle.tsa_rules.specs.declared.case.Test.{Test}
use Rattle.tsa_rules.specs.declared.mark.Claim.{Claim}
use Rattle.tsa_rules.specs.Statuses.{Status, try_limit, Free, is_free, is_exclusive, is_unheld, same_status}
use Rattle.tsa_rules.specs.Attributes.{claim, is_reentrant}
use Rattle.tsa_rules.specs.Conditions.{Subject, the_call, the_local, Condition, condition_in, condition_at, answer_of}
use Rattle.tsa_rules.specs.Points.{point_at, is_a_try, try_variables, try_number, try_kept}
use Rattle.tsa_rules.specs.Effects.{entry_by, entry, exit_by, exit, taken_by, if_taken, same_answer, is_success, Attempt, answer_kept}
use Rattle.tsa_rules.specs.Effects.{lock_missed, attempt_of, after_attribute, after_decision, effect}
use Rattle.tsa_rules.specs.Fails.{Rule, TS01, TS02, TS03, TS04, TS05, TS06, TS07, TS08, TS09, TS10, TS11, TS12, wants_takable}
use Rattle.tsa_rules.specs.Fails.{is_otherwise_held, fails}
use Rattle.tsa_rules.specs.KindSets.{has_kind}
use Rattle.tsa_rules.specs.Marks.{claim_in, claim_kind, mark_of, no_mark}
use Rattle.tsa_rules.specs.Sets.{pending_places, HasPlace}

-- what a function says of a lock
abbrev pub lock_of : Program → Function → Way → Lock
lock_of u f c = record { is_reentrant = is_reentrant u f c; claim = option_map claim_in (claim f.attrs c) }

-- What a point does for the rules: it begins a try variable, tests the answer of its call or a local, leaves with an answer, or does none
-- of these.
abbrev pub asked_by : Program → Function → Subject → Asked
asked_by u f the_call = asked.Call
asked_by u f (the_local n) = asked.Variable (try_number u f n)

abbrev pub tests_by : Program → Function → Option Condition → Role
tests_by u f None = role.Passes
tests_by u f (Some k) = role.Tests (record { asked = asked_by u f k.subject; yes_means = k.yes_means })

abbrev pub begins_by : (is_a_try : Bool) → (variable : ℕ) → Role
begins_by true v = role.Declares v
begins_by false v = role.Passes

abbrev pub role_by : Program → Function → (is_a_try : Bool) → Action → Role
role_by u f is_try (declare n kind value) = begins_by is_try (try_number u f n)
role_by u f is_try (test value) = tests_by u f (condition_in value)
role_by u f is_try (give kind value) = role.Leaves (answer_of value)
role_by u f is_try _ = role.Passes

abbrev pub role_of : Program → Function → (point : ℕ) → Role
role_of u f p = role_by u f (is_a_try u (point_at f p).call) (point_at f p).action

-- what a test of a local finds there of a path: the try whose answer it has
abbrev pub kept_for : Program → Function → Way → Subject → Option Claim
kept_for u f c the_call = None
kept_for u f c (the_local n) = option_map claim_in (try_kept u f n c)

abbrev pub kept_by : Program → Function → Way → Option Condition → Option Claim
kept_by u f c None = None
kept_by u f c (Some k) = kept_for u f c k.subject

abbrev pub kept_of : Program → Function → (point : ℕ) → Way → Option Claim
kept_of u f p c = kept_by u f c (condition_at (point_at f p).action)

abbrev pub case_of : Program → Function → (point : ℕ) → Way → Case
case_of u f p c = record { lock = lock_of u f c; role = role_of u f p; mark = mark_of u f p c; kept = kept_of u f p c }

-- the status at the entry, and that with which a point may leave
abbrev pub entry_in : Lock → Status
entry_in lock = entry_by (claim_kind lock.claim)

abbrev pub answer_in : Role → Option Bool
answer_in (role.Leaves answer) = answer
answer_in _ = None

abbrev pub is_taken_in : Option Bool → Option Claim → Bool
is_taken_in answer None = false
is_taken_in answer (Some a) = is_success a.success answer

abbrev pub exit_in : Case → Status
exit_in x = exit_by (is_taken_in (answer_in x.role) x.lock.claim) (claim_kind x.lock.claim)

-- what comes of a try
abbrev pub answer_told : Outcome → Test → Option Bool
answer_told Yes t = Some t.yes_means
answer_told No t = Some (not t.yes_means)
answer_told _ t = None

abbrev pub of_the_call : Asked → Option Bool → Option Bool
of_the_call asked.Call answer = answer
of_the_call (asked.Variable v) answer = None

abbrev pub attempt_in : Role → Outcome → (success : Bool) → Attempt
attempt_in (role.Declares v) o success = answer_kept v
attempt_in (role.Tests t) o success = attempt_of (is_success success (of_the_call t.asked (answer_told o t)))
attempt_in _ o success = lock_missed

abbrev pub after_claim_in : Case → Outcome → Option Claim → Status → Status
after_claim_in x o None s = s
after_claim_in x o (Some a) s = after_attribute x.lock.is_reentrant (attempt_in x.role o a.success) a.kind s

-- what a test of a try variable leaves
abbrev pub left_by_claim : Option Claim → (answer : Bool) → Status
left_by_claim None answer = Free
left_by_claim (Some a) answer = if_taken (same_answer a.success answer) (taken_by a.kind)

abbrev pub after_variable : (variable : ℕ) → Option Claim → Option Bool → Status → Status
after_variable v kept None s = s
after_variable v kept (Some answer) s = after_decision v (left_by_claim kept answer) s

abbrev pub after_asked : Asked → Option Claim → Option Bool → Status → Status
after_asked asked.Call kept answer s = s
after_asked (asked.Variable v) kept answer s = after_variable v kept answer s

abbrev pub after_role : Role → Option Claim → Outcome → Status → Status
after_role (role.Tests t) kept o s = after_asked t.asked kept (answer_told o t) s
after_role _ kept o s = s

-- the status after the point
abbrev pub effect_in : Case → Outcome → Status → Status
effect_in x o s = after_role x.role x.kept o (after_claim_in x o x.mark.claim s)

abbrev pub later_in : Case → Status → Status
later_in x s = effect_in x Next s

-- whether the point is a return, or the end
abbrev pub is_leaving_in : Role → Bool
is_leaving_in (role.Leaves answer) = true
is_leaving_in _ = false

-- the premises of what is taken, of what is given back, and of the mode in which it is
abbrev pub breaks_taking : Case → Status → Bool
breaks_taking x s =
    (has_kind x.mark.kinds attr.Acquire && wants_takable x.lock.is_reentrant attr.Acquire s)
    || ((has_kind x.mark.kinds attr.AcquireShared || (has_kind x.mark.kinds attr.TryAcquire || has_kind x.mark.kinds attr.TryAcquireShared)) && not (is_free s))

abbrev pub breaks_giving : Case → Status → Bool
breaks_giving x s =
    (has_kind x.mark.kinds attr.Release || (has_kind x.mark.kinds attr.ReleaseShared || has_kind x.mark.kinds attr.ReleaseGeneric)) && is_unheld s

abbrev pub breaks_mode : Case → Status → Bool
breaks_mode x s =
    (has_kind x.mark.kinds attr.Release && is_otherwise_held attr.Release s)
    || ((has_kind x.mark.kinds attr.ReleaseShared && is_otherwise_held attr.ReleaseShared s)
    || (has_kind x.mark.kinds attr.ReleaseGeneric && is_otherwise_held attr.ReleaseGeneric s))

-- the rules
abbrev pub fails_in : Rule → Case → Status → Bool
fails_in TS01 x s = (x.mark.reads_before && is_unheld s) || (x.mark.reads_after && is_unheld (later_in x s))
fails_in TS02 x s = x.mark.writes && not (is_exclusive (later_in x s))
fails_in TS03 x s = has_kind x.mark.kinds attr.Requires && not (is_exclusive s)
fails_in TS04 x s = has_kind x.mark.kinds attr.RequiresShared && is_unheld s
fails_in TS05 x s = has_kind x.mark.kinds attr.Excludes && not (is_free s)
fails_in TS06 x s = breaks_taking x s
fails_in TS07 x s = breaks_giving x s
fails_in TS08 x s = breaks_mode x s
fails_in TS09 x s = is_leaving_in x.role && not (same_status (later_in x s) (exit_in x))
fails_in TS10 x s = false
fails_in TS11 x s = x.mark.is_claimed_twice
fails_in TS12 x s = x.mark.is_declared && not (is_free s)

-- a try variable that begins there has a place
abbrev pub IsSmall : Role → Type 0
IsSmall (role.Declares v) = v < pending_places
IsSmall _ = Unit {0}

-- a case that changes no status: nothing claims the path there, and no local is tested
abbrev pub is_variable : Asked → Bool
is_variable asked.Call = false
is_variable (asked.Variable v) = true

abbrev pub tests_variable : Role → Bool
tests_variable (role.Tests t) = is_variable t.asked
tests_variable _ = false

abbrev pub is_still : Case → Bool
is_still x = not (is_some x.mark.claim) && not (tests_variable x.role)

-- The case of a path at a point tells all that the rules say of it there.
pub record CasesTellTheRules : Type 0 where
  pub entries : (u : Program) (f : Function) (c : Way) → entry_in (lock_of u f c) ≡ entry f c
  pub exits : (u : Program) (f : Function) (p : ℕ) (c : Way) → exit_in (case_of u f p c) ≡ exit f p c
  pub effects : (u : Program) (f : Function) (p : ℕ) (c : Way) (o : Outcome) (s : Status) → effect_in (case_of u f p c) o s ≡ effect u f p c o s
  pub failures : (rule : Rule) (u : Program) (f : Function) (p : ℕ) (c : Way) (s : Status) → fails_in rule (case_of u f p c) s ≡ fails rule u f p c s

-- Statuses keep places in sets, and a function has no more try variables than have such.
pub record StatusesKeepPlaces : Type 0 where
  pub begins : (lock : Lock) → HasPlace (entry_in lock)
  pub ends : (x : Case) → HasPlace (exit_in x)
  pub goes_on : (x : Case) (o : Outcome) (s : Status) → IsSmall x.role → HasPlace s → HasPlace (effect_in x o s)
  pub small : (u : Program) (f : Function) (p : ℕ) → length (try_variables u f) ≤ try_limit → IsSmall (role_of u f p)

-- A still case keeps each status. A path of which the point says nothing breaks no rule but that of returns, and that of edges that meet.
pub record QuietCases : Type 0 where
  pub still : (x : Case) (o : Outcome) (s : Status) → is_still x ≡ true → effect_in x o s ≡ s
  pub quiet : (rule : Rule) (x : Case) (s : Status) → x.mark ≡ no_mark → is_leaving_in x.role ≡ false → fails_in rule x s ≡ false
