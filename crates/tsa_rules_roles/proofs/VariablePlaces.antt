-- Try variables at their locals.
use Rattle.std.proofs.Common.{◌≡◌, ◌∙◌, ℕ, zero, suc, ◌+◌, ◌<◌, ◌≤◌, ◌^◌, nat_eq, Bool, true, false, List, [], ◌∷◌, ◌++◌, length, take}
use Rattle.std.proofs.Common.{take_all, length-append, get_or, set, get_or-set_same, get_or-set_other, length-take-le, Option, Some, None}
use Rattle.std.proofs.Common.{option_map, if◌then◌else◌, refl, sym, ap, subst, arith}
use Rattle.std.proofs.lemmas.Bool.Decides.{nat_tests}
use Rattle.std.proofs.lemmas.List.{take-append-le}
use Rattle.std.proofs.lemmas.List.Elements.{filter_map-append}
use Rattle.std.specs.List.{cons_option}
use Rattle.std.specs.Option.{option_or}
use Rattle.tsa_rules_roles.specs.declared.duty.Duty.{Duty}
use Rattle.tsa_rules_roles.specs.declared.duty.Duty.TheVariants as duty
use Rattle.tsa_rules_roles.specs.declared.variables.Variable.{Variable}
use Rattle.tsa_rules_roles.specs.Roles.{begins, declared_in, local_in, number_in, tries_in, variables_in}
use Rattle.tsa_rules_roles.specs.Variables.{AreKept, variable_after, variable_at, variable_in}
use Rattle.tsa_rules_roles.proofs.Places.{position_push, place, counted_at, counted_all}
use Rattle.tsa_base.proofs.Options.{some_same as same_some}

known : (duties : List Duty) (local : ℕ) (v : Variable) (o : Option ℕ) → declared_in duties local ≡ o → option_map (variable_at duties) o ≡ Some v
    → (v.number ≡ number_in duties local) × (Some v.begin ≡ declared_in duties local)
known duties local v None e h = cc
known duties local v (Some q) e h =
    let is : variable_at duties q ≡ v = same_some h in
    let within : q < length duties = (place (begins local) duties q e).1 in
    let size : length (take q duties) ≡ q = length-take-le q duties (omega arith) in
    (sym (ap (λ w. w.number) is) ∙ sym (counted_at duties local q e), ap Some (sym (ap (λ w. w.begin) is) ∙ size) ∙ sym e)

unknown : (duties : List Duty) (local : ℕ) (o : Option ℕ) → declared_in duties local ≡ o → option_map (variable_at duties) o ≡ None
    → (tries_in duties ≡ number_in duties local) × (None ≡ declared_in duties local)
unknown duties local None e h = (sym (counted_all duties local e), sym e)
unknown duties local (Some q) e h = cc

pub number_some : (duties : List Duty) (local : ℕ) (v : Variable) → variable_in duties local ≡ Some v → v.number ≡ number_in duties local
number_some duties local v h = (known duties local v (declared_in duties local) refl h).0

pub number_none : (duties : List Duty) (local : ℕ) → variable_in duties local ≡ None → tries_in duties ≡ number_in duties local
number_none duties local h = (unknown duties local (declared_in duties local) refl h).0

pub begin_some : (duties : List Duty) (local : ℕ) (v : Variable) → variable_in duties local ≡ Some v → Some v.begin ≡ declared_in duties local
begin_some duties local v h = (known duties local v (declared_in duties local) refl h).1

pub begin_none : (duties : List Duty) (local : ℕ) → variable_in duties local ≡ None → None ≡ declared_in duties local
begin_none duties local h = (unknown duties local (declared_in duties local) refl h).1

-- one point more
at_place : (duties : List Duty) (d : Duty) (local : ℕ) (o : Option ℕ) → declared_in duties local ≡ o
    → option_map (variable_at (duties ++ d ∷ [])) (option_or o (if begins local d then Some (length duties) else None))
    ≡ option_or (option_map (variable_at duties) o) (if begins local d then Some (variable_after duties) else None)
at_place duties d local (Some q) e =
    let within : q < length duties = (place (begins local) duties q e).1 in
    ap (λ ds. Some (variable_after ds)) (take-append-le q duties (d ∷ []) (omega arith))
at_place duties d local None e = by (begins local d)
  where
    by : (b : Bool) → option_map (variable_at (duties ++ d ∷ [])) (if b then Some (length duties) else None) ≡ (if b then Some (variable_after duties) else None)
    by true = ap (λ ds. Some (variable_after ds)) (take-append-le (length duties) duties (d ∷ []) (omega arith) ∙ take_all (length duties) duties (omega arith))
    by false = refl

variable_push : (duties : List Duty) (d : Duty) (local : ℕ) → variable_in (duties ++ d ∷ []) local ≡ option_or (variable_in duties local) (if begins local d then Some (variable_after duties) else None)
variable_push duties d local = ap (option_map (variable_at (duties ++ d ∷ []))) (position_push (begins local) duties d) ∙ at_place duties d local (declared_in duties local) refl

tries_push : (duties : List Duty) (d : Duty) → tries_in (duties ++ d ∷ []) ≡ tries_in duties + length (cons_option (local_in d) [])
tries_push duties d = ap length (filter_map-append local_in duties (d ∷ [])) ∙ length-append (variables_in duties) (cons_option (local_in d) [])

or_none : {A : Type 0} (o : Option A) → option_or o None ≡ o
or_none None = refl
or_none (Some x) = refl

begun : (d : Duty) (local : ℕ) → local_in d ≡ None → begins local d ≡ false
begun (duty.Declares n) local e = cc
begun (duty.Tests t) local e = refl
begun (duty.Leaves a) local e = refl
begun duty.Passes local e = refl

passes : (duties : List Duty) (variables : List (Option Variable)) (tries : ℕ) (d : Duty) → AreKept duties variables tries → length duties + 1 < 2 ^ 32 → local_in d ≡ None
    → AreKept (duties ++ d ∷ []) variables tries
passes duties variables tries d h room e = record {
  each = λ local. h.each local ∙ sym (or_none (variable_in duties local)) ∙ ap (λ b. option_or (variable_in duties local) (if b then Some (variable_after duties) else None)) (sym (begun d local e))
      ∙ sym (variable_push duties d local);
  count = h.count ∙ sym (let none : length (cons_option (local_in d) []) ≡ 0 = ap (λ o. length (cons_option o [])) e in omega (arith, tries_push duties d));
  size = omega (arith, length-append duties (d ∷ []));
}

pub passed : (view duties new : List Duty) (variables : List (Option Variable)) (tries : ℕ) (d : Duty) → AreKept duties variables tries → duties ≡ view → length view + 1 < 2 ^ 32
    → local_in d ≡ None → new ≡ duties ++ d ∷ [] → AreKept new variables tries
passed view duties new variables tries d h is room e put =
    let size : length duties + 1 < 2 ^ 32 = omega (arith, ap length is) in
    subst (λ ds. AreKept ds variables tries) (sym put) (passes duties variables tries d h size e)

-- which begins a try variable
put_at : (xs : List (Option Variable)) (at local : ℕ) (y o : Option Variable) (b : Bool) → nat_eq at local ≡ b → at < length xs → get_or xs local None ≡ o
    → get_or (set xs at (option_or (get_or xs at None) y)) local None ≡ option_or o (if b then y else None)
put_at xs at local y o true e h is =
    let same : local ≡ at = grind (arith, nat_tests) in
    ap (λ l. get_or (set xs at (option_or (get_or xs at None) y)) l None) same ∙ get_or-set_same xs at (option_or (get_or xs at None) y) None h
    ∙ ap (λ o. option_or o y) (ap (λ l. get_or xs l None) (sym same) ∙ is)
put_at xs at local y o false e h is =
    get_or-set_other xs at local (option_or (get_or xs at None) y) None (λ same. grind (arith, nat_tests)) ∙ is ∙ sym (or_none o)

declares : (duties : List Duty) (old new : List (Option Variable)) (tries local : ℕ) → AreKept duties old tries → length duties + 1 < 2 ^ 32
    → local < length new → ((l : ℕ) → get_or new l None ≡ get_or old l None)
    → AreKept (duties ++ duty.Declares local ∷ []) (set new local (option_or (get_or new local None) (Some (variable_after duties)))) (tries_in duties + 1)
declares duties old new tries local h room within same = record {
  each = λ l. put_at new local l (Some (variable_after duties)) (variable_in duties l) (nat_eq local l) refl within (same l ∙ h.each l)
      ∙ sym (variable_push duties (duty.Declares local) l);
  count = sym (tries_push duties (duty.Declares local));
  size = omega (arith, length-append duties (duty.Declares local ∷ []));
}

pub declared : (view duties later : List Duty) (old new put : List (Option Variable)) (tries local : ℕ) (v : Variable) → AreKept duties old tries → duties ≡ view
    → length view + 1 < 2 ^ 32 → v ≡ variable_after view → local < length new → ((l : ℕ) → get_or new l None ≡ get_or old l None)
    → later ≡ duties ++ duty.Declares local ∷ [] → put ≡ set new local (option_or (get_or new local None) (Some v)) → AreKept later put (v.number + 1)
declared view duties later old new put tries local v h is room next within same more at =
    let size : length duties + 1 < 2 ^ 32 = omega (arith, ap length is) in
    let v_is : v ≡ variable_after duties = next ∙ ap variable_after (sym is) in
    subst (λ ds. AreKept ds put (v.number + 1)) (sym more)
    (subst (λ vs. AreKept (duties ++ duty.Declares local ∷ []) vs (v.number + 1)) (sym at)
    (subst (λ w. AreKept (duties ++ duty.Declares local ∷ []) (set new local (option_or (get_or new local None) (Some w))) (w.number + 1)) (sym v_is)
    (declares duties old new tries local h size within same)))

-- there are no more try variables than points
pub few : (duties : List Duty) → tries_in duties ≤ length duties
few [] = omega arith
few (duty.Declares n ∷ duties) = omega (arith, few duties)
few (duty.Tests t ∷ duties) = omega (arith, few duties)
few (duty.Leaves a ∷ duties) = omega (arith, few duties)
few (duty.Passes ∷ duties) = omega (arith, few duties)

pub next_fits : (duties : List Duty) (v : Variable) → v ≡ variable_after duties → length duties + 1 < 2 ^ 32 → v.number + 1 < 2 ^ 32
next_fits duties v is room = omega (arith, ap (λ w. w.number) is, few duties)

-- room for more locals
pub none_push : (variables : List (Option Variable)) (local : ℕ) → get_or (variables ++ None ∷ []) local None ≡ get_or variables local None
none_push [] zero = refl
none_push [] (suc local) = refl
none_push (v ∷ variables) zero = refl
none_push (v ∷ variables) (suc local) = none_push variables local
