-- Duties that are told of actions are those of the points.
use Rattle.std.proofs.Common.{◌≡◌, ◌∙◌, ℕ, zero, suc, nat_eq, Bool, true, false, List, [], ◌∷◌, ◌++◌, Option, Some, None, is_some}
use Rattle.std.proofs.Common.{slice_get, if◌then◌else◌, refl, sym, ap, subst, arith}
use Rattle.std.proofs.lemmas.Bool.Decides.{nat_tests}
use Rattle.std.specs.List.{AllZip}
use Rattle.tsa_tree.specs.declared.attr.AttrKind.TheVariants as attr
use Rattle.tsa_tree.specs.declared.kind.Kind.TheVariants as type
use Rattle.tsa_core.specs.Bodies.{Action, evaluate, set_local, set_cell, declare, test, branch, go_on, give, Point, point}
use Rattle.tsa_core.specs.Programs.{Function, Program}
use Rattle.tsa_core.specs.Terms.{answer}
use Rattle.tsa_rules.specs.declared.case.Role.{Role}
use Rattle.tsa_rules.specs.declared.case.Role.TheVariants as role
use Rattle.tsa_rules.specs.Cases.{role_by, tests_by}
use Rattle.tsa_rules.specs.Conditions.{Condition, condition_in}
use Rattle.tsa_rules.specs.Points.{no_function, or_idle, local_begun, is_a_try, try_number, try_variable_at}
use Rattle.tsa_rules.specs.TryVariables.{AreInOrder}
use Rattle.tsa_rules.proofs.Tests.{never}
use Rattle.tsa_rules_roles.specs.declared.duty.Duty.{Duty}
use Rattle.tsa_rules_roles.specs.declared.duty.Duty.TheVariants as duty
use Rattle.tsa_rules_roles.specs.Duties.{Tells, role_with}
use Rattle.tsa_rules_roles.specs.Roles.{duty_in, duty_with}
use Rattle.tsa_rules_roles.specs.ProgramDuties.{AreRoles, Grows, IsDuty}
use Rattle.tsa_base.proofs.Numbers.{itself}

-- A function whose one point begins a local with what a try gives, in a program with that try: there the number of the local tells it from
-- others.
abbrev with_try : Program → Program
with_try u = record {
  layout = u.layout;
  locks = u.locks;
  functions = record { params = []; result = type.Int; attrs = record { kind = attr.TryAcquire; success = true; path = None } ∷ []; body = None; uses = []; is_lock = false; is_environment = false } ∷ [];
}

abbrev begins_one : ℕ → Function
begins_one n = record {
  params = [];
  result = type.Int;
  attrs = [];
  body = Some (record { points = point (Some (record { function = 0; args = [] })) (declare n type.Int answer) ∷ []; edges = []; locals = []; stable = [] });
  uses = [];
  is_lock = false;
  is_environment = false;
}

same_local : (u : Program) (n m : ℕ) (b : Bool) → nat_eq m n ≡ b → try_number (with_try u) (begins_one n) n ≡ try_number (with_try u) (begins_one n) m → m ≡ n
same_local u n m true e h = grind (arith, nat_tests)
same_local u n m false e h =
    let first : try_number (with_try u) (begins_one n) n ≡ 0 = rw (itself n) refl in
    let other : try_number (with_try u) (begins_one n) m ≡ 1 = rw e refl in
    absurd (omega (arith, h))

-- what begins a local, by its role
abbrev is_declaring : Role → Bool
is_declaring (role.Declares v) = true
is_declaring _ = false

declaring_test : (u : Program) (f : Function) (o : Option Condition) → is_declaring (tests_by u f o) ≡ false
declaring_test u f None = refl
declaring_test u f (Some k) = refl

begins_as : (u : Program) (f : Function) (a : Action) → is_declaring (role_by u f true a) ≡ is_some (local_begun a)
begins_as u f (evaluate v) = refl
begins_as u f (set_local n op kind v) = refl
begins_as u f (set_cell place op kind v) = refl
begins_as u f (declare n kind v) = refl
begins_as u f (test v) = declaring_test u f (condition_in v)
begins_as u f (branch v) = refl
begins_as u f go_on = refl
begins_as u f (give kind v) = refl

not_some : {A : Type 0} (o : Option A) → is_some o ≡ false → o ≡ None
not_some None e = refl
not_some (Some x) e = never e

begun_by : (u : Program) (n : ℕ) (a : Action) (r : Role) → r ≡ role_by (with_try u) (begins_one n) true a → r ≡ role.Declares (try_number (with_try u) (begins_one n) n)
    → local_begun a ≡ Some n
begun_by u n (declare m kind v) r e is =
    let same : try_number (with_try u) (begins_one n) n ≡ try_number (with_try u) (begins_one n) m = cc in
    ap Some (same_local u n m (nat_eq m n) refl same)
begun_by u n (evaluate v) r e is = never (sym (ap is_declaring (sym e ∙ is)))
begun_by u n (set_local m op kind v) r e is = never (sym (ap is_declaring (sym e ∙ is)))
begun_by u n (set_cell place op kind v) r e is = never (sym (ap is_declaring (sym e ∙ is)))
begun_by u n (test v) r e is = never (sym (ap is_declaring (sym e ∙ is)) ∙ declaring_test (with_try u) (begins_one n) (condition_in v))
begun_by u n (branch v) r e is = never (sym (ap is_declaring (sym e ∙ is)))
begun_by u n go_on r e is = never (sym (ap is_declaring (sym e ∙ is)))
begun_by u n (give kind v) r e is = never (sym (ap is_declaring (sym e ∙ is)))

begins_none : (u : Program) (d : Duty) (a : Action) → Tells d a → is_declaring (role_with u no_function true d) ≡ false → local_begun a ≡ None
begins_none u d a t h = not_some (local_begun a) (sym (begins_as u no_function a) ∙ sym (ap is_declaring (t.role u no_function true)) ∙ h)

-- the duties of a point
module _ (u : Program) (x : Point) where
  variable_by : (b : Bool) → is_a_try u x.call ≡ b → try_variable_at u x ≡ (if b then local_begun x.action else None)
  variable_by b e = ap (λ b. if b then local_begun x.action else None) e

  declares : (n : ℕ) (b is_try : Bool) → is_a_try u x.call ≡ is_try → Tells (duty.Declares n) x.action → local_begun x.action ≡ Some n → is_some (try_variable_at u x) ≡ b
      → IsDuty u x (if b then duty.Declares n else duty.Passes)
  declares n true true e t begun h = record {
    role = λ f. t.role u f true ∙ ap (λ b. role_by u f b x.action) (sym e);
    condition = t.condition;
    variable = sym (variable_by true e ∙ begun);
  }
  declares n true false e t begun h = never (sym h ∙ ap is_some (variable_by false e))
  declares n false true e t begun h = never (sym (ap is_some (variable_by true e ∙ begun)) ∙ h)
  declares n false false e t begun h = record {
    role = λ f. t.role u f false ∙ ap (λ b. role_by u f b x.action) (sym e);
    condition = t.condition;
    variable = sym (variable_by false e);
  }

  none_either : (b : Bool) → local_begun x.action ≡ None → (if b then local_begun x.action else None) ≡ None
  none_either true e = e
  none_either false e = refl

  none : (d : Duty) → Tells d x.action → is_declaring (role_with u no_function true d) ≡ false → None ≡ try_variable_at u x
  none d t h = sym (none_either (is_a_try u x.call) (begins_none u d x.action t h))

  begun : (n : ℕ) → Tells (duty.Declares n) x.action → local_begun x.action ≡ Some n
  begun n t = begun_by u n x.action (role.Declares (try_number (with_try u) (begins_one n) n)) (t.role (with_try u) (begins_one n) true) refl

  pub is_duty : (d : Duty) (b : Bool) → Tells d x.action → is_some (try_variable_at u x) ≡ b → IsDuty u x (duty_with d b)
  is_duty (duty.Declares n) b t h = declares n b (is_a_try u x.call) refl t (begun n t) h
  is_duty (duty.Tests told) b t h = record { role = λ f. t.role u f (is_a_try u x.call); condition = t.condition; variable = none (duty.Tests told) t refl }
  is_duty (duty.Leaves a) b t h = record { role = λ f. t.role u f (is_a_try u x.call); condition = t.condition; variable = none (duty.Leaves a) t refl }
  is_duty duty.Passes b t h = record { role = λ f. t.role u f (is_a_try u x.call); condition = t.condition; variable = none duty.Passes t refl }

-- one point more
zip_push : (u : Program) (points : List Point) (duties : List Duty) (x : Point) (d : Duty) → AllZip (IsDuty u) points duties → IsDuty u x d
    → AllZip (IsDuty u) (points ++ x ∷ []) (duties ++ d ∷ [])
zip_push u [] [] x d h is = (is, tt)
zip_push u [] (e ∷ duties) x d h is = absurd h
zip_push u (y ∷ points) [] x d h is = absurd h
zip_push u (y ∷ points) (e ∷ duties) x d h is = (h.0, zip_push u points duties x d h.1 is)

more : (u : Program) (first : ℕ) (points : List Point) (x : Point) (old new : List Duty) (d : Duty) → new ≡ old ++ d ∷ [] → AreRoles u first points old
    → AreInOrder first (points ++ x ∷ []) → IsDuty u x d → AreRoles u first (points ++ x ∷ []) new
more u first points x old new d e roles ordered is =
    record { in_order = ordered; each = subst (AllZip (IsDuty u) (points ++ x ∷ [])) (sym e) (zip_push u points old x d roles.each is) }

pub grows : (d : Duty) (is_try : Bool) (old new : List Duty) → new ≡ old ++ duty_with d is_try ∷ [] → Grows d is_try old new
grows d is_try old new e u first points x roles ordered tells tried = more u first points x old new (duty_with d is_try) e roles ordered (is_duty u x d is_try tells tried)

pub none_yet : (u : Program) (first : ℕ) → AreRoles u first [] []
none_yet u first = record { in_order = tt; each = tt }

-- each point has its duty, and one that isn't there passes
idle : (u : Program) → IsDuty u (or_idle None) duty.Passes
idle u = record { role = λ f. refl; condition = refl; variable = refl }

pub at_point : (u : Program) (points : List Point) (duties : List Duty) (p : ℕ) → AllZip (IsDuty u) points duties → IsDuty u (or_idle (slice_get points p)) (duty_in duties p)
at_point u [] [] p h = idle u
at_point u [] (d ∷ duties) p h = absurd h
at_point u (x ∷ points) [] p h = absurd h
at_point u (x ∷ points) (d ∷ duties) zero h = h.0
at_point u (x ∷ points) (d ∷ duties) (suc p) h = at_point u points duties p h.1
