-- Cases that change nothing, and that break nothing.
use Rattle.std.proofs.Common.{◌≡◌, Bool, true, false, not, Option, Some, None, is_some, refl, sym, ap, ◌∙◌}
use Rattle.tsa_tree.specs.declared.attr.AttrKind.{AttrKind}
use Rattle.tsa_tree.specs.declared.attr.AttrKind.TheVariants as attr
use Rattle.tsa_core.specs.Control.{Outcome}
use Rattle.tsa_rules.specs.declared.case.Asked.{Asked}
use Rattle.tsa_rules.specs.declared.case.Asked.TheVariants as asked
use Rattle.tsa_rules.specs.declared.case.Case.{Case}
use Rattle.tsa_rules.specs.declared.case.Role.{Role}
use Rattle.tsa_rules.specs.declared.case.Role.TheVariants as role
use Rattle.tsa_rules.specs.declared.mark.Claim.{Claim}
use Rattle.tsa_rules.specs.Statuses.{Status}
use Rattle.tsa_rules.specs.Fails.{Rule, TS01, TS02, TS03, TS04, TS05, TS06, TS07, TS08, TS09, TS10, TS11, TS12}
use Rattle.tsa_rules.specs.KindSets.{has_kind}
use Rattle.tsa_rules.specs.Marks.{no_mark}
use Rattle.tsa_rules.specs.Cases.{is_variable, tests_variable, is_still, is_leaving_in, answer_told, after_claim_in, after_asked}
use Rattle.tsa_rules.specs.Cases.{after_role, effect_in, fails_in, QuietCases}
use Rattle.tsa_rules.proofs.Tests.{never, left_part, right_part}
use Rattle.tsa_rules.proofs.KindBits.{none_has}

denied : (b : Bool) → not b ≡ true → b ≡ false
denied true e = sym e
denied false e = refl

asked_still : (a : Asked) (kept : Option Claim) (answer : Option Bool) (s : Status) → is_variable a ≡ false → after_asked a kept answer s ≡ s
asked_still asked.Call kept answer s e = refl
asked_still (asked.Variable v) kept answer s e = never e

role_still : (r : Role) (kept : Option Claim) (o : Outcome) (s : Status) → tests_variable r ≡ false → after_role r kept o s ≡ s
role_still (role.Tests t) kept o s e = asked_still t.asked kept (answer_told o t) s e
role_still (role.Declares v) kept o s e = refl
role_still (role.Leaves answer) kept o s e = refl
role_still role.Passes kept o s e = refl

claim_still : (x : Case) (o : Outcome) (a : Option Claim) (s : Status) → is_some a ≡ false → after_claim_in x o a s ≡ s
claim_still x o None s e = refl
claim_still x o (Some a) s e = never e

still : (x : Case) (o : Outcome) (s : Status) → is_still x ≡ true → effect_in x o s ≡ s
still x o s e =
    role_still x.role x.kept o (after_claim_in x o x.mark.claim s) (denied (tests_variable x.role) (right_part (not (is_some x.mark.claim)) (not (tests_variable x.role)) e))
    ∙ claim_still x o x.mark.claim s (denied (is_some x.mark.claim) (left_part (not (is_some x.mark.claim)) (not (tests_variable x.role)) e))

has_none : (x : Case) → x.mark ≡ no_mark → (k : AttrKind) → has_kind x.mark.kinds k ≡ false
has_none x e k = ap (λ m. has_kind m.kinds k) e ∙ none_has k

quiet : (rule : Rule) (x : Case) (s : Status) → x.mark ≡ no_mark → is_leaving_in x.role ≡ false → fails_in rule x s ≡ false
quiet TS01 x s e l = rw (ap (λ m. m.reads_before) e, ap (λ m. m.reads_after) e) refl
quiet TS02 x s e l = rw (ap (λ m. m.writes) e) refl
quiet TS03 x s e l = rw (has_none x e attr.Requires) refl
quiet TS04 x s e l = rw (has_none x e attr.RequiresShared) refl
quiet TS05 x s e l = rw (has_none x e attr.Excludes) refl
quiet TS06 x s e l = rw (has_none x e attr.Acquire, has_none x e attr.AcquireShared, has_none x e attr.TryAcquire, has_none x e attr.TryAcquireShared) refl
quiet TS07 x s e l = rw (has_none x e attr.Release, has_none x e attr.ReleaseShared, has_none x e attr.ReleaseGeneric) refl
quiet TS08 x s e l = rw (has_none x e attr.Release, has_none x e attr.ReleaseShared, has_none x e attr.ReleaseGeneric) refl
quiet TS09 x s e l = rw l refl
quiet TS10 x s e l = refl
quiet TS11 x s e l = ap (λ m. m.is_claimed_twice) e
quiet TS12 x s e l = rw (ap (λ m. m.is_declared) e) refl

pub quiet_cases : QuietCases
quiet_cases = record { still = still; quiet = quiet }
