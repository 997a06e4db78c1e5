-- Going through the statuses of a set.
use Rattle.std.proofs.Common.{◌≡◌, ℕ, Bool, false, ◌↔◌, ◌⊎◌, inl, inr, sym, ap, ◌∙◌, subst}
use Rattle.std.proofs.Math.Decide.{ℕ_discrete}
use Rattle.tsa_place_model.specs.Ways.{Way}
use Rattle.tsa_core.specs.Control.{Outcome}
use Rattle.tsa_core.specs.Programs.{Function, Program}
use Rattle.tsa_rules.specs.declared.case.Case.{Case}
use Rattle.tsa_rules.specs.Statuses.{Status, number_of}
use Rattle.tsa_rules.specs.Effects.{effect}
use Rattle.tsa_rules.specs.Fails.{Rule, fails}
use Rattle.tsa_rules.specs.Cases.{case_of, effect_in, fails_in}
use Rattle.tsa_rules.specs.Sets.{Has, HasSome, IsEmpty, IsImage, IsTaken}
use Rattle.tsa_rules.specs.declared.statuses.Statuses.{Statuses}
use Rattle.tsa_rules.proofs.Tests.{never}
use Rattle.tsa_rules.proofs.Places.{same_number}
use Rattle.tsa_rules.proofs.CaseEffects.{effects}
use Rattle.tsa_rules.proofs.CaseFailures.{failures}

-- what is left is of the set
abbrev pub Inside : (before left : Statuses) → Type 0
Inside before left = (s : Status) → Has left s → Has before s

-- what was made is an image, and of what isn't left the image was made
abbrev pub Made : (Status → Status) → (before after : Statuses) → Type 0
Made f before after = (t : Status) → Has after t → IsImage f before t

abbrev pub Done : (Status → Status) → (before left after : Statuses) → Type 0
Done f before left after = (s : Status) → Has before s → Has left s ⊎ Has after (f s)

-- what isn't left doesn't pass
abbrev pub Failed : (Status → Bool) → (before left : Statuses) → Type 0
Failed test before left = (s : Status) → Has before s → Has left s ⊎ (test s ≡ false)

pub inside_on : (before left new : Statuses) (s : Status) → IsTaken left s new → Inside before left → Inside before new
inside_on before left new s taken h t x = h t ((taken.left t).0 x).0

-- a member is the one that is taken out, or left
pub taken_or_left : (left new : Statuses) (s : Status) → IsTaken left s new → (t : Status) → Has left t → (t ≡ s) ⊎ Has new t
taken_or_left left new s taken t x = elim (ℕ_discrete (number_of t) (number_of s)) [ yes e ↦ inl (same_number t s x.place taken.member.place e) | no other ↦ inr ((taken.left t).1 (x, λ e. other (ap number_of e))) ]

pub made_on : (f : Status → Status) (before left new after more : Statuses) (s : Status) → IsTaken left s new → ((t : Status) → Has more t ↔ (Has after t ⊎ (t ≡ f s))) → Inside before left
    → Made f before after → Made f before more
made_on f before left new after more s taken adds inside h t x = elim ((adds t).0 x) [ inl y ↦ h t y | inr e ↦ (s, (inside s taken.member, sym e)) ]

pub done_on : (f : Status → Status) (before left new after more : Statuses) (s : Status) → IsTaken left s new → ((t : Status) → Has more t ↔ (Has after t ⊎ (t ≡ f s)))
    → Done f before left after → Done f before new more
done_on f before left new after more s taken adds h t x = elim (h t x) [ inl y ↦ by (taken_or_left left new s taken t y) | inr z ↦ inr ((adds (f t)).1 (inl z)) ]
  where
    by : (t ≡ s) ⊎ Has new t → Has new t ⊎ Has more (f t)
    by o = elim o [ inl e ↦ inr ((adds (f t)).1 (inr (ap f e))) | inr y ↦ inl y ]

pub image_at_end : (f : Status → Status) (before left after : Statuses) → IsEmpty left → Made f before after → Done f before left after → (t : Status) → Has after t ↔ IsImage f before t
image_at_end f before left after empty made done t = (made t, back)
  where
    back : IsImage f before t → Has after t
    back (s, (x, e)) = elim (done s x) [ inl y ↦ absurd (empty s y) | inr z ↦ subst (Has after) e z ]

pub failed_on : (test : Status → Bool) (before left new : Statuses) (s : Status) → IsTaken left s new → test s ≡ false → Failed test before left → Failed test before new
failed_on test before left new s taken fails h t x = elim (h t x) [ inl y ↦ by (taken_or_left left new s taken t y) | inr z ↦ inr z ]
  where
    by : (t ≡ s) ⊎ Has new t → Has new t ⊎ (test t ≡ false)
    by o = elim o [ inl e ↦ inr (ap test e ∙ fails) | inr y ↦ inl y ]

pub none_at_end : (test : Status → Bool) (before left : Statuses) → IsEmpty left → Failed test before left → HasSome test before → ⊥
none_at_end test before left empty failed (s, (x, e)) = elim (failed s x) [ inl y ↦ empty s y | inr z ↦ never (sym e ∙ z) ]

-- The same of the case of a path at a point, in the words of the rules.
pub image_is : (u : Program) (f : Function) (p : ℕ) (c : Way) (x : Case) (o : Outcome) (before after : Statuses) → ((t : Status) → Has after t ↔ IsImage (effect_in x o) before t)
    → x ≡ case_of u f p c → (t : Status) → Has after t ↔ IsImage (effect u f p c o) before t
image_is u f p c x o before after h e =
    let same : effect_in x o ≡ effect u f p c o = λ i s. (ap (λ y. effect_in y o s) e ∙ effects u f p c o s) i in
    subst (λ g. (t : Status) → Has after t ↔ IsImage g before t) same h

pub some_fails : (rule : Rule) (u : Program) (f : Function) (p : ℕ) (c : Way) (x : Case) (before : Statuses) → x ≡ case_of u f p c
    → HasSome (fails_in rule x) before ↔ HasSome (fails rule u f p c) before
some_fails rule u f p c x before e =
    let same : fails_in rule x ≡ fails rule u f p c = λ i s. (ap (λ y. fails_in rule y s) e ∙ failures rule u f p c s) i in
    (subst (λ g. HasSome g before) same, subst (λ g. HasSome g before) (sym same))
