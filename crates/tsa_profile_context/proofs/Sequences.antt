-- The first failure of premises one behind the other, as answers tell it.
use Rattle.std.proofs.Common.{◌≡◌, ◌∙◌, Bool, true, false, List, [], ◌∷◌, ◌++◌, Option, Some, None, Result, Ok, Err, refl, sym, ap, subst}
use Rattle.std.proofs.Common.{if◌then◌else◌}
use Rattle.std.specs.Prelude.{⊤}
use Rattle.tsa_base.specs.declared.token.Span.{Span}
use Rattle.tsa_profile_accesses.specs.declared.premise.Failure.{Failure}
use Rattle.tsa_profile_accesses.specs.declared.premise.ProfileCode.{ProfileCode}
use Rattle.tsa_profile_accesses.specs.Premises.{Premise, premise, or_else, first}
use Rattle.tsa_profile_context.specs.ItemJudgements.{Judges, is_limit, judgement}
use Rattle.tsa_profile_context.specs.declared.refusal.ProfileRefusal.{ProfileRefusal}
use Rattle.tsa_profile_context.specs.declared.refusal.ProfileRefusal.TheVariants.{At, Function, NoMemory}
use Rattle.tsa_profile_points.proofs.Failures.{first_append}

pub or_else_none : (o : Option Failure) → or_else o None ≡ o
or_else_none None = refl
or_else_none (Some f) = refl

-- what fails in front fails in all ..
pub judges_some : (a b : Option Failure) (e : ProfileRefusal) → Judges a (Err e) → Judges (or_else a b) (Err e)
judges_some (Some f) b e h = h
judges_some None b (At code span) h = absurd cc
judges_some None b (Function code span) h = absurd cc
judges_some None b NoMemory h = tt

-- .. and what fails behind premises of which none fails
pub judges_rest : (a b : Option Failure) (r : Result ⊤ ProfileRefusal) → a ≡ None → Judges b r → Judges (or_else a b) r
judges_rest (Some f) b r e h = absurd cc
judges_rest None b r e h = h

pub some_of_both : (xs ys : List Premise) (e : ProfileRefusal) → Judges (first xs) (Err e) → Judges (first (xs ++ ys)) (Err e)
some_of_both xs ys e h = subst (λ o. Judges o (Err e)) (sym (first_append xs ys)) (judges_some (first xs) (first ys) e h)

pub rest_of_both : (xs ys : List Premise) (r : Result ⊤ ProfileRefusal) → first xs ≡ None → Judges (first ys) r → Judges (first (xs ++ ys)) r
rest_of_both xs ys r e h = subst (λ o. Judges o r) (sym (first_append xs ys)) (judges_rest (first xs) (first ys) r e h)

pub none_of_all : (xs ys : List Premise) → first xs ≡ None → first ys ≡ None → first (xs ++ ys) ≡ None
none_of_all xs ys e h = first_append xs ys ∙ ap (λ o. or_else o (first ys)) e ∙ h

-- what is found to fail first is judged: what its answer says, and what is so by its two cases
module _ (x f : Option Failure) (r : Result ⊤ ProfileRefusal) (found : f ≡ x) (is : r ≡ judgement f) where
  by_limit : (f : Failure) (b : Bool) → is_limit f.code ≡ b → Judges (Some f) (Err (if b then Function f.code f.span else At f.code f.span))
  by_limit f true h = (refl, h)
  by_limit f false h = (refl, h)

  it : (g : Option Failure) → Judges g (judgement g)
  it None = refl
  it (Some g) = by_limit g (is_limit g.code) refl

  pub judged_so : Judges x r
  judged_so = subst (λ y. Judges x y) (sym is) (subst (λ o. Judges o (judgement f)) found (it f))

  pub judged_fails : (e : ProfileRefusal) → r ≡ Err e → Judges x (Err e)
  judged_fails e h = subst (λ y. Judges x y) h judged_so

  pub judged_holds : (u : ⊤) → r ≡ Ok u → x ≡ None
  judged_holds u h = sym found ∙ by f (sym is ∙ h)
    where
      by : (g : Option Failure) → judgement g ≡ Ok u → g ≡ None
      by None k = refl
      by (Some g) k = cc

-- a refusal stays right for what is the same
pub judges_err : (x y : Option Failure) (e : ProfileRefusal) → x ≡ y → Judges x (Err e) → Judges y (Err e)
judges_err x y e is h = subst (λ o. Judges o (Err e)) is h

-- of one premise alone one fails where it fails
pub alone_fails : (code : ProfileCode) (span : Span) (fails : Bool) → fails ≡ true → Some (record { code = code; span = span }) ≡ first (premise code span fails ∷ [])
unfolding first
alone_fails code span fails h = rw h refl

pub alone_holds : (code : ProfileCode) (span : Span) (fails : Bool) → fails ≡ false → None ≡ first (premise code span fails ∷ [])
unfolding first
alone_holds code span fails h = rw h refl
