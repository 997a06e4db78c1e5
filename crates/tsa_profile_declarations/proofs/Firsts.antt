-- The first premise that fails, where nothing fails before it.
use Rattle.std.proofs.Common.{◌≡◌, ◌∙◌, Bool, true, false, List, [], ◌∷◌, ◌++◌, Option, Some, None, refl, ap, sym}
use Rattle.tsa_base.specs.declared.token.Span.{Span}
use Rattle.tsa_profile_accesses.specs.declared.premise.Failure.{Failure}
use Rattle.tsa_profile_accesses.specs.declared.premise.ProfileCode.{ProfileCode}
use Rattle.tsa_profile_accesses.specs.declared.premise.ProfileCode.TheVariants.{PF1, PF2, PF9}
use Rattle.tsa_profile_accesses.specs.Premises.{Premise, premise, or_else, failure_of, first}
use Rattle.tsa_profile_guards.proofs.Failures.{first_append}

pub stops : (xs ys : List Premise) (f : Failure) → Some f ≡ first xs → Some f ≡ first (xs ++ ys)
stops xs ys f h = ap (λ a. or_else a (first ys)) h ∙ sym (first_append xs ys)

pub goes_on : (xs ys : List Premise) → None ≡ first xs → first ys ≡ first (xs ++ ys)
goes_on xs ys h = ap (λ a. or_else a (first ys)) h ∙ sym (first_append xs ys)

pub nothing_fails : first [] ≡ None
unfolding first
nothing_fails = refl

pub never_none : {A : Type 0} (a : Option Failure) (f : Failure) → or_else a (Some f) ≡ None → A
never_none None f h = absurd cc
never_none (Some g) f h = absurd cc

-- one premise before others
module _ (code : ProfileCode) (span : Span) (rest : List Premise) where
  pub told_first : (fails : Bool) → fails ≡ true → Some (record { code = code; span = span }) ≡ first (premise code span fails ∷ rest)
  unfolding first
  told_first true h = refl
  told_first false h = absurd cc

  pub passed_first : (fails : Bool) → fails ≡ false → first rest ≡ first (premise code span fails ∷ rest)
  unfolding first
  passed_first true h = absurd cc
  passed_first false h = refl

-- what is asked of an argument, by whether each of its premises fails
module _ (span : Span) (owns inner : List Premise) where
  abbrev asked : (a b c : Bool) → List Premise
  asked a b c = premise PF1 span a ∷ premise PF2 span b ∷ owns ++ premise PF9 span c ∷ inner

  pub calls : (a b c : Bool) → a ≡ true → Some (record { code = PF1; span = span }) ≡ first (asked a b c)
  calls a b c h = told_first PF1 span (premise PF2 span b ∷ owns ++ premise PF9 span c ∷ inner) a h

  pub lacks : (a b c : Bool) → a ≡ false → b ≡ true → Some (record { code = PF2; span = span }) ≡ first (asked a b c)
  lacks a b c h k =
      told_first PF2 span (owns ++ premise PF9 span c ∷ inner) b k ∙ passed_first PF1 span (premise PF2 span b ∷ owns ++ premise PF9 span c ∷ inner) a h

  passes : (a b c : Bool) → a ≡ false → b ≡ false → or_else (first owns) (first (premise PF9 span c ∷ inner)) ≡ first (asked a b c)
  passes a b c h k =
      sym (first_append owns (premise PF9 span c ∷ inner))
      ∙ passed_first PF2 span (owns ++ premise PF9 span c ∷ inner) b k
      ∙ passed_first PF1 span (premise PF2 span b ∷ owns ++ premise PF9 span c ∷ inner) a h

  pub repeats : (a b c : Bool) → a ≡ false → b ≡ false → c ≡ true → or_else (first owns) (Some (record { code = PF9; span = span })) ≡ first (asked a b c)
  repeats a b c h k e = ap (or_else (first owns)) (told_first PF9 span inner c e) ∙ passes a b c h k

  pub stands : (a b c : Bool) → a ≡ false → b ≡ false → c ≡ false → first (owns ++ inner) ≡ first (asked a b c)
  stands a b c h k e = first_append owns inner ∙ ap (or_else (first owns)) (passed_first PF9 span inner c e) ∙ passes a b c h k
