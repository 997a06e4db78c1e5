-- What the duties of the points of a function tell of it.
use Rattle.std.proofs.Common.{◌≡◌, ◌∙◌, ℕ, zero, suc, ◌<◌, ◌≤◌, nat_eq, Bool, true, false, List, [], ◌∷◌, length, filter_map, Option, Some}
use Rattle.std.proofs.Common.{None, slice_get, if◌then◌else◌, refl, sym, ap, ap₂, le_of_eq, arith}
use Rattle.std.proofs.lemmas.Bool.Decides.{nat_tests}
use Rattle.std.proofs.lemmas.List.Quantifiers.{position-Some}
use Rattle.std.specs.List.{AllZip, cons_option, position_or_len}
use Rattle.tsa_place_model.specs.Ways.{Way}
use Rattle.tsa_core.specs.Bodies.{Point}
use Rattle.tsa_core.specs.Programs.{Function, Program}
use Rattle.tsa_rules.specs.declared.case.Asked.TheVariants as asked
use Rattle.tsa_rules.specs.declared.case.Role.TheVariants as role
use Rattle.tsa_rules.specs.Cases.{asked_by, kept_by, kept_for, kept_of}
use Rattle.tsa_rules.specs.Conditions.{the_local}
use Rattle.tsa_rules.specs.Marks.{mark_of}
use Rattle.tsa_rules.specs.Points.{points_of, point_at, or_idle, local_begun, is_a_try, try_variable_at, try_variables, try_number}
use Rattle.tsa_rules.proofs.KeptTries.{try_variables_are_told_by_declarations}
use Rattle.tsa_rules_roles.specs.declared.duty.Duty.{Duty}
use Rattle.tsa_rules_roles.specs.declared.duty.Duty.TheVariants as duty
use Rattle.tsa_rules_roles.specs.declared.answers.Looked.{Looked}
use Rattle.tsa_rules_roles.specs.declared.answers.Looked.TheVariants as looked
use Rattle.tsa_rules_roles.specs.Duties.{role_with}
use Rattle.tsa_rules_roles.specs.ValueAnswers.{subject_of}
use Rattle.tsa_rules_roles.specs.RoleLaws.{AreRolesOf, RolesAreOfTheProgram}
use Rattle.tsa_rules_roles.specs.Roles.{asked_in, begin_for, begin_of, begins, declared_in, duty_in, local_in, number_in, role_for}
use Rattle.tsa_rules_roles.specs.Roles.{variables_in}
use Rattle.tsa_rules_roles.specs.ProgramDuties.{AreRoles, IsDuty}
use Rattle.tsa_rules_roles.proofs.RoleDuties.{at_point}
use Rattle.tsa_rules_roles.proofs.Places.{counted_all}

same_count : (u : Program) (points : List Point) (duties : List Duty) → AllZip (IsDuty u) points duties → length duties ≡ length points
same_count u [] [] h = refl
same_count u [] (d ∷ duties) h = absurd h
same_count u (x ∷ points) [] h = absurd h
same_count u (x ∷ points) (d ∷ duties) h = ap suc (same_count u points duties h.1)

same_variables : (u : Program) (points : List Point) (duties : List Duty) → AllZip (IsDuty u) points duties → variables_in duties ≡ filter_map (try_variable_at u) points
same_variables u [] [] h = refl
same_variables u [] (d ∷ duties) h = absurd h
same_variables u (x ∷ points) [] h = absurd h
same_variables u (x ∷ points) (d ∷ duties) h = ap₂ cons_option h.0.variable (same_variables u points duties h.1)

there : (points : List Point) (p : ℕ) → p < length points → slice_get points p ≡ Some (or_idle (slice_get points p))
there [] p h = absurd (omega arith)
there (x ∷ points) zero h = refl
there (x ∷ points) (suc p) h = there points p (omega arith)

-- a point that begins a local does so by a try or otherwise
begun_there : (b : Bool) (o : Option ℕ) (n : ℕ) → (if b then o else None) ≡ Some n → o ≡ Some n
begun_there true o n e = e
begun_there false o n e = cc

begun_in : (n : ℕ) (d : Duty) → begins n d ≡ true → local_in d ≡ Some n
begun_in n (duty.Declares m) e = let same : m ≡ n = grind (arith, nat_tests) in ap Some same
begun_in n (duty.Tests t) e = cc
begun_in n (duty.Leaves a) e = cc
begun_in n duty.Passes e = cc

module _ (u : Program) (f : Function) (first : ℕ) (duties : List Duty) (h : AreRoles u first (points_of f) duties) where
  at : (p : ℕ) → IsDuty u (point_at f p) (duty_in duties p)
  at p = at_point u (points_of f) duties p h.each

  variables : variables_in duties ≡ try_variables u f
  variables = same_variables u (points_of f) duties h.each

  numbers : (n : ℕ) → number_in duties n ≡ try_number u f n
  numbers n = ap (position_or_len (nat_eq n)) variables

  -- roles
  asked_is : (l : Looked) → asked_in duties l ≡ asked_by u f (subject_of l)
  asked_is looked.Call = refl
  asked_is (looked.Local n) = ap asked.Variable (numbers n)

  role_is : (d : Duty) → role_for duties d ≡ role_with u f true d
  role_is (duty.Declares n) = ap role.Declares (numbers n)
  role_is (duty.Tests t) = ap (λ a. role.Tests (record { asked = a; yes_means = t.yes_means })) (asked_is t.asked)
  role_is (duty.Leaves a) = refl
  role_is duty.Passes = refl

  -- the tries that tests look for
  begun : (n q : ℕ) → declared_in duties n ≡ Some q → q < length (points_of f) × local_begun (point_at f q).action ≡ Some n
  begun n q e =
      let found = position-Some (begins n) duties q duty.Passes e in
      let size : length duties ≡ length (points_of f) = same_count u (points_of f) duties h.each in
      let within : q < length duties = found.0 in
      (omega arith, begun_there (is_a_try u (point_at f q).call) (local_begun (point_at f q).action) n (sym (at q).variable ∙ begun_in n (duty_in duties q) found.1))

  kept_local : (n q : ℕ) (c : Way) → declared_in duties n ≡ Some q → kept_for u f c (the_local n) ≡ (mark_of u f q c).tried
  kept_local n q c e =
      let b = begun n q e in
      try_variables_are_told_by_declarations.kept u f first q (point_at f q) n c h.in_order (there (points_of f) q b.0) b.1

  none_local : (n : ℕ) (c : Way) → declared_in duties n ≡ None → kept_for u f c (the_local n) ≡ None
  none_local n c e =
      let last : length (try_variables u f) ≤ try_number u f n = le_of_eq (sym (ap length variables) ∙ sym (counted_all duties n e) ∙ numbers n) in
      try_variables_are_told_by_declarations.none u f c n last

  begun_by : (l : Looked) (q : ℕ) → begin_of duties l ≡ Some q → q < length (points_of f)
  begun_by looked.Call q e = cc
  begun_by (looked.Local n) q e = (begun n q e).0

  kept_look : (l : Looked) (q : ℕ) (c : Way) → begin_of duties l ≡ Some q → kept_for u f c (subject_of l) ≡ (mark_of u f q c).tried
  kept_look looked.Call q c e = cc
  kept_look (looked.Local n) q c e = kept_local n q c e

  none_look : (l : Looked) (c : Way) → begin_of duties l ≡ None → kept_for u f c (subject_of l) ≡ None
  none_look looked.Call c e = refl
  none_look (looked.Local n) c e = none_local n c e

  begun_at : (d : Duty) (q : ℕ) → begin_for duties d ≡ Some q → q < length (points_of f)
  begun_at (duty.Declares n) q e = cc
  begun_at (duty.Tests t) q e = begun_by t.asked q e
  begun_at (duty.Leaves a) q e = cc
  begun_at duty.Passes q e = cc

  kept_at : (p q : ℕ) (c : Way) (d : Duty) → IsDuty u (point_at f p) d → begin_for duties d ≡ Some q → kept_of u f p c ≡ (mark_of u f q c).tried
  kept_at p q c (duty.Declares n) is e = cc
  kept_at p q c (duty.Tests t) is e = sym (ap (kept_by u f c) is.condition) ∙ kept_look t.asked q c e
  kept_at p q c (duty.Leaves a) is e = cc
  kept_at p q c duty.Passes is e = cc

  none_at : (p : ℕ) (c : Way) (d : Duty) → IsDuty u (point_at f p) d → begin_for duties d ≡ None → kept_of u f p c ≡ None
  none_at p c (duty.Declares n) is e = sym (ap (kept_by u f c) is.condition)
  none_at p c (duty.Tests t) is e = sym (ap (kept_by u f c) is.condition) ∙ none_look t.asked c e
  none_at p c (duty.Leaves a) is e = sym (ap (kept_by u f c) is.condition)
  none_at p c duty.Passes is e = sym (ap (kept_by u f c) is.condition)

  pub are_roles_of : AreRolesOf u f duties
  are_roles_of = record {
    points = same_count u (points_of f) duties h.each;
    count = ap length variables;
    roles = λ p. role_is (duty_in duties p) ∙ (at p).role f;
    begins = λ p q e. begun_at (duty_in duties p) q e;
    kept = λ p q c e. kept_at p q c (duty_in duties p) (at p) e;
    none = λ p c e. none_at p c (duty_in duties p) (at p) e;
  }

pub roles_are_of_the_program : RolesAreOfTheProgram
roles_are_of_the_program = are_roles_of
