-- The first premise that fails among some behind others, and what an answer says of it.
use Rattle.std.proofs.Common.{◌≡◌, ◌∙◌, List, ◌++◌, Option, Some, None, Result, Ok, Err, refl, sym, ap, subst}
use Rattle.std.specs.Prelude.{⊤, OnOk}
use Rattle.tsa_tree.specs.declared.premise.Failure.{Failure}
use Rattle.tsa_tree.specs.types.Premises.{Premise, or_else, first}
use Rattle.tsa_types_expressions.specs.declared.refusal.TypeRefusal.{TypeRefusal}
use Rattle.tsa_types_expressions.specs.declared.refusal.TypeRefusal.TheVariants.{At}
use Rattle.tsa_types_expressions.specs.Judgements.{Judges, judgement}
use Rattle.tsa_types_expressions.proofs.Steps.{first_append}

-- a refusal by the first premise that fails
pub judges_at : (x : Option Failure) (f : Failure) (r : TypeRefusal) → r ≡ At f.code f.span → x ≡ Some f → Judges x (Err r)
judges_at x f r e h = subst (λ y. Judges x (Err y)) (sym e) h

-- a refusal stays right for what is the same
pub judges_err : (x y : Option Failure) (e : TypeRefusal) → x ≡ y → Judges x (Err e) → Judges y (Err e)
judges_err x y e is h = subst (λ o. Judges o (Err e)) is h

-- what was found to fail first is judged: the answer, and what is known of it by its two cases
it : (f : Option Failure) → Judges f (judgement f)
it None = refl
it (Some f) = refl

module _ (x f : Option Failure) (r : Result ⊤ TypeRefusal) (found : f ≡ x) (is : r ≡ judgement f) where
  pub judged_so : Judges x r
  judged_so = subst (λ y. Judges x y) (sym is) (subst (λ o. Judges o (judgement f)) found (it f))

  pub judged_fails : (e : TypeRefusal) → r ≡ Err e → Judges x (Err e)
  judged_fails e h = subst (λ y. Judges x y) h judged_so

  pub judged_holds : (u : ⊤) → r ≡ Ok u → x ≡ None
  judged_holds u h = sym found ∙ by f (sym is ∙ h)
    where
      by : (g : Option Failure) → judgement g ≡ Ok u → g ≡ None
      by None k = refl
      by (Some g) k = cc

  -- what follows where nothing fails is so where the answer is right
  pub on_kept : {P : Type 0} → (x ≡ None → P) → OnOk r P
  on_kept {P} p = by r refl
    where
      by : (s : Result ⊤ TypeRefusal) → r ≡ s → OnOk s P
      by (Ok u) h = p (judged_holds u h)
      by (Err e) h = tt

pub judged_rest : (xs ys : List Premise) (r : Result ⊤ TypeRefusal) → first xs ≡ None → Judges (first ys) r → Judges (first (xs ++ ys)) r
judged_rest xs ys r none h = subst (λ o. Judges o r) (sym (first_append xs ys ∙ ap (λ x. or_else x (first ys)) none)) h

-- where neither of two fails, the first doesn't
pub first_holds : (x y : Option Failure) → or_else x y ≡ None → x ≡ None
first_holds None y h = refl
first_holds (Some f) y h = cc

-- failures one before the other
pub or_nothing : (x : Option Failure) → or_else x None ≡ x
or_nothing None = refl
or_nothing (Some f) = refl

pub or_else_same : (x y z : Option Failure) → or_else x (or_else y z) ≡ or_else (or_else x y) z
or_else_same None y z = refl
or_else_same (Some f) y z = refl

-- what is so either way is so where nothing fails
pub on_ok : {P : Type 0} (r : Result ⊤ TypeRefusal) → P → OnOk r P
on_ok (Ok u) p = p
on_ok (Err e) p = tt
