-- A path has only statuses that it can have.
use Rattle.std.proofs.Common.{◌≡◌, ℕ, zero, suc, ◌+◌, ◌-◌, ◌<◌, ◌≤◌, min, nat_eq, nat_lt, nat_le, Bool, true, false, ◌&&◌, ◌||◌, List, []}
use Rattle.std.proofs.Common.{◌∷◌, length, find, filter_map, Option, Some, None, slice_get, if◌then◌else◌, refl, sym, ◌∙◌, ap, arith}
use Rattle.std.proofs.lemmas.Bool.Decides.{nat_tests}
use Rattle.std.specs.List.{list_any, position_or_len, cons_option}
use Rattle.tsa_tree.specs.declared.attr.AttrKind.{AttrKind}
use Rattle.tsa_tree.specs.declared.attr.AttrKind.TheVariants as attr
use Rattle.tsa_tree.specs.declared.kind.Kind.{Kind}
use Rattle.tsa_place_model.specs.Ways.{Way}
use Rattle.tsa_core.specs.Bodies.{Action, evaluate, set_local, set_cell, declare, test, branch, go_on, give, Point}
use Rattle.tsa_core.specs.Control.{Outcome}
use Rattle.tsa_core.specs.Programs.{Attr, Function, Program}
use Rattle.tsa_core.specs.Terms.{Term}
use Rattle.tsa_rules.specs.Statuses.{Status, Free, Shared, Exclusive, Lent, Pending, depth_of, is_possible}
use Rattle.tsa_rules.specs.Attributes.{is_try, claims_path, claim, kind_of, all_as_called, is_reentrant}
use Rattle.tsa_rules.specs.Conditions.{Subject, the_call, the_local, Condition, condition_at, answer_by}
use Rattle.tsa_rules.specs.Points.{points_of, or_idle, point_at, uses_at, attrs_called, attrs_at, is_a_try, try_variable_at, try_variables}
use Rattle.tsa_rules.specs.Points.{try_number, try_kept, is_status}
use Rattle.tsa_rules.specs.Effects.{entry_by, exit_by, is_taken_by, answer_given, taken_by, if_taken, deeper, given_back, Attempt}
use Rattle.tsa_rules.specs.Effects.{answer_kept, lock_taken, lock_missed, after_attempt, after_attribute, attempt_of, is_success}
use Rattle.tsa_rules.specs.Effects.{answer_of_call, attempt_at, after_claim, after_call, same_answer, left_by_try, after_decision}
use Rattle.tsa_rules.specs.Effects.{after_asking, after_test}
use Rattle.tsa_rules.specs.StatusLaws.{StatusesStayPossible}
use Rattle.tsa_rules.proofs.Tests.{never, right_part}
use Rattle.tsa_base.proofs.Numbers.{itself}
use Rattle.tsa_base.proofs.Options.{some_same}

pub both : (a b : Bool) → a ≡ true → b ≡ true → (a && b) ≡ true
both true b e f = f
both false b e f = never (sym e)

pub once : (r : Bool) (tries : ℕ) → is_possible r tries (Exclusive 1) ≡ true
once true tries = refl
once false tries = refl

pub within : (n m : ℕ) → n ≤ m → nat_le n m ≡ true
within n m h = grind (arith, nat_tests)

pub from_within : (n m : ℕ) → nat_le n m ≡ true → n ≤ m
from_within n m h = grind (arith, nat_tests)

-- one hold more, and one less
deeper_possible : (tries : ℕ) (s : Status) → is_possible true tries (deeper s) ≡ true
deeper_possible tries Free = refl
deeper_possible tries Shared = refl
deeper_possible tries (Exclusive n) = both (nat_le 1 (min (n + 1) 7)) (nat_le (min (n + 1) 7) 7) (within 1 (min (n + 1) 7) (omega arith)) (within (min (n + 1) 7) 7 (omega arith))
deeper_possible tries Lent = refl
deeper_possible tries (Pending v) = refl

less_possible : (r : Bool) (tries n : ℕ) (b : Bool) → nat_lt 1 n ≡ b → is_possible r tries (Exclusive n) ≡ true → is_possible r tries (if b then Exclusive (n - 1) else Free) ≡ true
less_possible r tries n false e h = refl
less_possible r tries n true e h =
    let deep : 1 < n = grind (arith, nat_tests) in
    let low : n ≤ depth_of r = from_within n (depth_of r) (right_part (nat_le 1 n) (nat_le n (depth_of r)) h) in
    both (nat_le 1 (n - 1)) (nat_le (n - 1) (depth_of r)) (within 1 (n - 1) (omega arith)) (within (n - 1) (depth_of r) (omega arith))

given_possible : (r : Bool) (tries : ℕ) (s : Status) → is_possible r tries s ≡ true → is_possible r tries (given_back s) ≡ true
given_possible r tries Free h = refl
given_possible r tries Shared h = refl
given_possible r tries (Exclusive n) h = less_possible r tries n (nat_lt 1 n) refl h
given_possible r tries Lent h = refl
given_possible r tries (Pending v) h = refl

-- the try variable of a try is one of the function
abbrev pub IsKept : ℕ → Attempt → Type 0
IsKept tries (answer_kept v) = nat_lt v tries ≡ true
IsKept tries lock_taken = Unit {0}
IsKept tries lock_missed = Unit {0}

tried_possible : (r : Bool) (tries : ℕ) (t : Attempt) (taken s : Status) → IsKept tries t → is_possible r tries taken ≡ true → is_possible r tries s ≡ true
    → is_possible r tries (after_attempt t taken s) ≡ true
tried_possible r tries (answer_kept v) taken s k e h = k
tried_possible r tries lock_taken taken s k e h = e
tried_possible r tries lock_missed taken s k e h = h

pub called_possible : (r : Bool) (tries : ℕ) (t : Attempt) (kind : AttrKind) (s : Status) → (is_try kind ≡ true → IsKept tries t) → is_possible r tries s ≡ true
    → is_possible r tries (after_attribute r t kind s) ≡ true
called_possible r tries t attr.Requires s k h = h
called_possible r tries t attr.RequiresShared s k h = h
called_possible r tries t attr.Excludes s k h = h
called_possible false tries t attr.Acquire s k h = refl
called_possible true tries t attr.Acquire s k h = deeper_possible tries s
called_possible r tries t attr.AcquireShared s k h = refl
called_possible r tries t attr.TryAcquire s k h = tried_possible r tries t (Exclusive 1) s (k refl) (once r tries) h
called_possible r tries t attr.TryAcquireShared s k h = tried_possible r tries t Shared s (k refl) refl h
called_possible r tries t attr.Release s k h = given_possible r tries s h
called_possible r tries t attr.ReleaseShared s k h = given_possible r tries s h
called_possible r tries t attr.ReleaseGeneric s k h = given_possible r tries s h
called_possible r tries t attr.Capability s k h = h
called_possible r tries t attr.GuardedBy s k h = h
called_possible r tries t attr.AcquiredBefore s k h = h
called_possible r tries t attr.AcquiredAfter s k h = h

-- A local that begins with what a try gives is among the try variables.
position_step : (n x : ℕ) (xs : List ℕ) (b : Bool) → nat_eq n x ≡ b → (list_any (nat_eq n) xs ≡ true → position_or_len (nat_eq n) xs < length xs)
    → list_any (nat_eq n) (x ∷ xs) ≡ true → position_or_len (nat_eq n) (x ∷ xs) < length (x ∷ xs)
position_step n x xs true same rest e = rw same (omega arith)
position_step n x xs false same rest e =
    let near : position_or_len (nat_eq n) xs < length xs = rest (rw same at e) in
    rw same (omega arith)

pub position_below : (n : ℕ) (xs : List ℕ) → list_any (nat_eq n) xs ≡ true → position_or_len (nat_eq n) xs < length xs
position_below n [] e = never (sym e)
position_below n (x ∷ xs) e = position_step n x xs (nat_eq n x) refl (position_below n xs) e

pub or_true : (b : Bool) → (b || true) ≡ true
or_true true = refl
or_true false = refl

kept_behind : (n : ℕ) (o : Option ℕ) (xs : List ℕ) → list_any (nat_eq n) xs ≡ true → list_any (nat_eq n) (cons_option o xs) ≡ true
kept_behind n None xs e = e
kept_behind n (Some m) xs e = rw e (or_true (nat_eq n m))

kept_first : (n : ℕ) (o : Option ℕ) (xs : List ℕ) → o ≡ Some n → list_any (nat_eq n) (cons_option o xs) ≡ true
kept_first n o xs e = rw (e, itself n) refl

pub listed : (u : Program) (points : List Point) (p : ℕ) (x : Point) (n : ℕ) → slice_get points p ≡ Some x → try_variable_at u x ≡ Some n
    → list_any (nat_eq n) (filter_map (try_variable_at u) points) ≡ true
listed u [] p x n e t = cc
listed u (y ∷ points) zero x n e t = kept_first n (try_variable_at u y) (filter_map (try_variable_at u) points) (ap (try_variable_at u) (some_same e) ∙ t)
listed u (y ∷ points) (suc p) x n e t = kept_behind n (try_variable_at u y) (filter_map (try_variable_at u) points) (listed u points p x n e t)

pub begun : (u : Program) (f : Function) (p n : ℕ) (kind : Kind) (v : Term) (q : Option Point) → slice_get (points_of f) p ≡ q → is_a_try u (or_idle q).call ≡ true
    → (or_idle q).action ≡ declare n kind v → list_any (nat_eq n) (try_variables u f) ≡ true
begun u f p n kind v None e t act = cc
begun u f p n kind v (Some x) e t act =
    let same : try_variable_at u x ≡ Some n = rw (t, act) refl in
    listed u (points_of f) p x n e same

pub seen_kept : (tries : ℕ) (b : Bool) → IsKept tries (attempt_of b)
seen_kept tries true = tt
seen_kept tries false = tt

below_test : (m n : ℕ) → m < n → nat_lt m n ≡ true
below_test m n h = grind (arith, nat_tests)

comes_kept : (u : Program) (f : Function) (p : ℕ) (o : Outcome) (a : Attr) → is_a_try u (point_at f p).call ≡ true → (action : Action) → (point_at f p).action ≡ action
    → IsKept (length (try_variables u f)) (attempt_at u f action o a)
comes_kept u f p o a t (declare n kind v) e =
    below_test (try_number u f n) (length (try_variables u f)) (position_below n (try_variables u f) (begun u f p n kind v (slice_get (points_of f) p) refl t e))
comes_kept u f p o a t (evaluate v) e = seen_kept (length (try_variables u f)) (is_success a.success None)
comes_kept u f p o a t (set_local n op kind v) e = seen_kept (length (try_variables u f)) (is_success a.success None)
comes_kept u f p o a t (set_cell place op kind v) e = seen_kept (length (try_variables u f)) (is_success a.success None)
comes_kept u f p o a t (test v) e = seen_kept (length (try_variables u f)) (is_success a.success (answer_of_call o (condition_at (test v))))
comes_kept u f p o a t (branch v) e = seen_kept (length (try_variables u f)) (is_success a.success None)
comes_kept u f p o a t go_on e = seen_kept (length (try_variables u f)) (is_success a.success None)
comes_kept u f p o a t (give kind v) e = seen_kept (length (try_variables u f)) (is_success a.success None)

-- a try that is found among attributes is one of them, and as its caller has it, it is one still
found_step : {X : Type 0} (passes is : X → Bool) (x : X) (xs : List X) (a : X) (b : Bool) → passes x ≡ b → (find passes xs ≡ Some a → list_any is xs ≡ true)
    → find passes (x ∷ xs) ≡ Some a → is a ≡ true → list_any is (x ∷ xs) ≡ true
found_step passes is x xs a true e rest h i =
    let same : Some x ≡ Some a = rw e at h in
    let first : is x ≡ true = ap is (some_same same) ∙ i in
    rw first refl
found_step passes is x xs a false e rest h i =
    let behind : find passes xs ≡ Some a = rw e at h in
    rw (rest behind) (or_true (is x))

pub found : {X : Type 0} (passes is : X → Bool) (xs : List X) (a : X) → find passes xs ≡ Some a → is a ≡ true → list_any is xs ≡ true
found passes is [] a h i = cc
found passes is (x ∷ xs) a h i = found_step passes is x xs a (passes x) refl (λ g. found passes is xs a g i) h i

pub tries_called : (args : List (Option Way)) (attrs : List Attr) → list_any (λ a. is_try a.kind) (all_as_called args attrs) ≡ list_any (λ a. is_try a.kind) attrs
tries_called args [] = refl
tries_called args (a ∷ attrs) = ap (λ b. is_try a.kind || b) (tries_called args attrs)

claim_kept : (u : Program) (f : Function) (p : ℕ) (c : Way) (o : Outcome) (a : Attr) → claim (attrs_at u f p) c ≡ Some a → is_try a.kind ≡ true
    → IsKept (length (try_variables u f)) (attempt_at u f (point_at f p).action o a)
claim_kept u f p c o a e t =
    comes_kept u f p o a
    (sym (tries_called (uses_at f p).arguments (attrs_called u (point_at f p).call)) ∙ found (claims_path c) (λ b. is_try b.kind) (attrs_at u f p) a e t)
    (point_at f p).action refl

call_possible : (u : Program) (f : Function) (p : ℕ) (c : Way) (o : Outcome) (a : Option Attr) (s : Status) → claim (attrs_at u f p) c ≡ a → is_status u f c s ≡ true
    → is_status u f c (after_claim u f p c o a s) ≡ true
call_possible u f p c o None s e h = h
call_possible u f p c o (Some a) s e h =
    called_possible (is_reentrant u f c) (length (try_variables u f)) (attempt_at u f (point_at f p).action o a) a.kind s (claim_kept u f p c o a e) h

-- What a test decides.
pub taken_possible : (r : Bool) (tries : ℕ) (b : Bool) (kind : AttrKind) → is_possible r tries (if_taken b (taken_by kind)) ≡ true
taken_possible r tries false kind = refl
taken_possible r tries true attr.TryAcquire = once r tries
taken_possible r tries true attr.TryAcquireShared = refl
taken_possible r tries true _ = refl

left_possible : (r : Bool) (tries : ℕ) (a : Option Attr) (answer : Bool) → is_possible r tries (left_by_try a answer) ≡ true
left_possible r tries None answer = refl
left_possible r tries (Some a) answer = taken_possible r tries (same_answer a.success answer) a.kind

either_possible : (r : Bool) (tries : ℕ) (b : Bool) (x y : Status) → is_possible r tries x ≡ true → is_possible r tries y ≡ true → is_possible r tries (if b then x else y) ≡ true
either_possible r tries true x y h k = h
either_possible r tries false x y h k = k

pub decided_possible : (r : Bool) (tries v : ℕ) (after s : Status) → is_possible r tries after ≡ true → is_possible r tries s ≡ true → is_possible r tries (after_decision v after s) ≡ true
decided_possible r tries v after Free k h = h
decided_possible r tries v after Shared k h = h
decided_possible r tries v after (Exclusive n) k h = h
decided_possible r tries v after Lent k h = h
decided_possible r tries v after (Pending w) k h = either_possible r tries (nat_eq v w) after (Pending w) k h

told_possible : (u : Program) (f : Function) (c : Way) (subject : Subject) (answer : Option Bool) (s : Status) → is_status u f c s ≡ true → is_status u f c (after_asking u f c subject answer s) ≡ true
told_possible u f c the_call answer s h = h
told_possible u f c (the_local n) None s h = h
told_possible u f c (the_local n) (Some answer) s h =
    decided_possible (is_reentrant u f c) (length (try_variables u f)) (try_number u f n) (left_by_try (try_kept u f n c) answer) s
    (left_possible (is_reentrant u f c) (length (try_variables u f)) (try_kept u f n c) answer) h

test_possible : (u : Program) (f : Function) (c : Way) (o : Outcome) (k : Option Condition) (s : Status) → is_status u f c s ≡ true → is_status u f c (after_test u f c o k s) ≡ true
test_possible u f c o None s h = h
test_possible u f c o (Some k) s h = told_possible u f c k.subject (answer_by o k) s h

-- The entry and the exit.
pub entry_possible : (r : Bool) (tries : ℕ) (kind : Option AttrKind) → is_possible r tries (entry_by kind) ≡ true
entry_possible r tries None = refl
entry_possible r tries (Some attr.Requires) = once r tries
entry_possible r tries (Some attr.Release) = once r tries
entry_possible r tries (Some _) = refl

if_possible : (r : Bool) (tries : ℕ) (b : Bool) (s : Status) → is_possible r tries s ≡ true → is_possible r tries (if_taken b s) ≡ true
if_possible r tries true s h = h
if_possible r tries false s h = refl

pub exit_possible : (r : Bool) (tries : ℕ) (b : Bool) (kind : Option AttrKind) → is_possible r tries (exit_by b kind) ≡ true
exit_possible r tries b None = refl
exit_possible r tries b (Some attr.Requires) = once r tries
exit_possible r tries b (Some attr.Acquire) = once r tries
exit_possible r tries b (Some attr.TryAcquire) = if_possible r tries b (Exclusive 1) (once r tries)
exit_possible r tries b (Some attr.TryAcquireShared) = if_possible r tries b Shared refl
exit_possible r tries b (Some _) = refl

pub statuses_stay_possible : StatusesStayPossible
statuses_stay_possible = record {
  begins = λ u f c. entry_possible (is_reentrant u f c) (length (try_variables u f)) (kind_of (claim f.attrs c));
  ends = λ u f p c. exit_possible (is_reentrant u f c) (length (try_variables u f)) (is_taken_by (answer_given (point_at f p).action) (claim f.attrs c)) (kind_of (claim f.attrs c));
  goes_on = λ u f p c o s h. test_possible u f c o (condition_at (point_at f p).action) (after_call u f p c o s) (call_possible u f p c o (claim (attrs_at u f p) c) s refl h);
}
