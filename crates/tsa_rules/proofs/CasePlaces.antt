-- Statuses keep their places in sets.
use Rattle.std.proofs.Common.{◌≡◌, ℕ, ◌<◌, ◌≤◌, nat_eq, Bool, true, false, List, [], ◌∷◌, length, Option, Some, None, refl, arith}
use Rattle.std.proofs.lemmas.Bool.Decides.{nat_tests}
use Rattle.std.specs.List.{position_or_len}
use Rattle.tsa_tree.specs.declared.attr.AttrKind.{AttrKind}
use Rattle.tsa_tree.specs.declared.attr.AttrKind.TheVariants as attr
use Rattle.tsa_core.specs.Bodies.{Action, evaluate, set_local, set_cell, declare, test, branch, go_on, give}
use Rattle.tsa_core.specs.Control.{Outcome}
use Rattle.tsa_core.specs.Programs.{Function, Program}
use Rattle.tsa_rules.specs.declared.case.Asked.{Asked}
use Rattle.tsa_rules.specs.declared.case.Asked.TheVariants as asked
use Rattle.tsa_rules.specs.declared.case.Case.{Case}
use Rattle.tsa_rules.specs.declared.case.Role.{Role}
use Rattle.tsa_rules.specs.declared.case.Role.TheVariants as role
use Rattle.tsa_rules.specs.declared.mark.Claim.{Claim}
use Rattle.tsa_rules.specs.Statuses.{Status, try_limit}
use Rattle.tsa_rules.specs.Conditions.{Condition, condition_in}
use Rattle.tsa_rules.specs.Points.{point_at, is_a_try, try_variables, try_number}
use Rattle.tsa_rules.specs.Effects.{Attempt, is_success, same_answer, after_attribute}
use Rattle.tsa_rules.specs.Marks.{claim_kind}
use Rattle.tsa_rules.specs.Sets.{HasPlace}
use Rattle.tsa_rules.specs.Cases.{role_by, begins_by, tests_by, answer_in, is_taken_in, answer_told, of_the_call, attempt_in}
use Rattle.tsa_rules.specs.Cases.{after_claim_in, left_by_claim, after_variable, after_asked, after_role, effect_in, IsSmall}
use Rattle.tsa_rules.specs.Cases.{StatusesKeepPlaces}
use Rattle.tsa_rules.proofs.Possible.{IsKept, seen_kept, called_possible, decided_possible, taken_possible, entry_possible, exit_possible}

-- what comes of a try
kept : (r : Role) (o : Outcome) (success : Bool) → IsSmall r → IsKept 54 (attempt_in r o success)
kept (role.Declares v) o success h = grind (arith, nat_tests)
kept (role.Tests t) o success h = seen_kept 54 (is_success success (of_the_call t.asked (answer_told o t)))
kept (role.Leaves answer) o success h = tt
kept role.Passes o success h = tt

called_placed : (r : Bool) (t : Attempt) (kind : AttrKind) (s : Status) → IsKept 54 t → HasPlace s → HasPlace (after_attribute r t kind s)
called_placed true t kind s k h = called_possible true 54 t kind s (λ e. k) h
called_placed false t attr.Acquire s k h = refl
called_placed false t attr.TryAcquire s k h = called_possible true 54 t attr.TryAcquire s (λ e. k) h
called_placed false t attr.TryAcquireShared s k h = called_possible true 54 t attr.TryAcquireShared s (λ e. k) h
called_placed false t attr.AcquireShared s k h = refl
called_placed false t attr.Release s k h = called_possible true 54 t attr.Release s (λ e. k) h
called_placed false t attr.ReleaseShared s k h = called_possible true 54 t attr.ReleaseShared s (λ e. k) h
called_placed false t attr.ReleaseGeneric s k h = called_possible true 54 t attr.ReleaseGeneric s (λ e. k) h
called_placed false t _ s k h = h

claimed : (x : Case) (o : Outcome) (a : Option Claim) (s : Status) → IsSmall x.role → HasPlace s → HasPlace (after_claim_in x o a s)
claimed x o None s small h = h
claimed x o (Some a) s small h = by x.lock.is_reentrant
  where
    by : (r : Bool) → HasPlace (after_attribute r (attempt_in x.role o a.success) a.kind s)
    by r = called_placed r (attempt_in x.role o a.success) a.kind s (kept x.role o a.success small) h

left_placed : (a : Option Claim) (answer : Bool) → HasPlace (left_by_claim a answer)
left_placed None answer = refl
left_placed (Some a) answer = taken_possible true 54 (same_answer a.success answer) a.kind

told_placed : (v : ℕ) (kept : Option Claim) (answer : Option Bool) (s : Status) → HasPlace s → HasPlace (after_variable v kept answer s)
told_placed v kept None s h = h
told_placed v kept (Some answer) s h = decided_possible true 54 v (left_by_claim kept answer) s (left_placed kept answer) h

asked_placed : (a : Asked) (kept : Option Claim) (answer : Option Bool) (s : Status) → HasPlace s → HasPlace (after_asked a kept answer s)
asked_placed asked.Call kept answer s h = h
asked_placed (asked.Variable v) kept answer s h = told_placed v kept answer s h

role_placed : (r : Role) (kept : Option Claim) (o : Outcome) (s : Status) → HasPlace s → HasPlace (after_role r kept o s)
role_placed (role.Tests t) kept o s h = asked_placed t.asked kept (answer_told o t) s h
role_placed (role.Declares v) kept o s h = h
role_placed (role.Leaves answer) kept o s h = h
role_placed role.Passes kept o s h = h

pub effect_placed : (x : Case) (o : Outcome) (s : Status) → IsSmall x.role → HasPlace s → HasPlace (effect_in x o s)
effect_placed x o s small h = role_placed x.role x.kept o (after_claim_in x o x.mark.claim s) (claimed x o x.mark.claim s small h)

-- the numbers of try variables
position_step : (n x : ℕ) (xs : List ℕ) (b : Bool) → nat_eq n x ≡ b → position_or_len (nat_eq n) xs ≤ length xs → position_or_len (nat_eq n) (x ∷ xs) ≤ length (x ∷ xs)
position_step n x xs true e rest = rw e (omega arith)
position_step n x xs false e rest = rw e (omega arith)

position_within : (n : ℕ) (xs : List ℕ) → position_or_len (nat_eq n) xs ≤ length xs
position_within n [] = omega arith
position_within n (x ∷ xs) = position_step n x xs (nat_eq n x) refl (position_within n xs)

begins_small : (b : Bool) (v : ℕ) → v < 54 → IsSmall (begins_by b v)
begins_small true v h = h
begins_small false v h = tt

tests_small : (u : Program) (f : Function) (k : Option Condition) → IsSmall (tests_by u f k)
tests_small u f None = tt
tests_small u f (Some k) = tt

role_small : (u : Program) (f : Function) (b : Bool) (action : Action) → length (try_variables u f) ≤ try_limit → IsSmall (role_by u f b action)
role_small u f b (declare n kind value) h = begins_small b (try_number u f n) (omega (arith, position_within n (try_variables u f)))
role_small u f b (test value) h = tests_small u f (condition_in value)
role_small u f b (give kind value) h = tt
role_small u f b (evaluate value) h = tt
role_small u f b (set_local n op kind value) h = tt
role_small u f b (set_cell place op kind value) h = tt
role_small u f b (branch value) h = tt
role_small u f b go_on h = tt

pub statuses_keep_places : StatusesKeepPlaces
statuses_keep_places = record {
  begins = λ lock. entry_possible true 54 (claim_kind lock.claim);
  ends = λ x. exit_possible true 54 (is_taken_in (answer_in x.role) x.lock.claim) (claim_kind x.lock.claim);
  goes_on = effect_placed;
  small = λ u f p h. role_small u f (is_a_try u (point_at f p).call) (point_at f p).action h;
}
