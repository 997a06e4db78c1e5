-- Attributes of which none lacks a path, and what holds of all elements of a list.
use Rattle.std.proofs.Common.{◌≡◌, ℕ, zero, suc, false, ◌||◌, List, [], ◌∷◌, All, Option, Some, None, IsSome, is_none, option_and_then}
use Rattle.std.proofs.Common.{slice_get, refl, ap₂, subst}
use Rattle.std.proofs.lemmas.List.Elements.{All-cons, All-head, All-nil, All-tail}
use Rattle.std.specs.List.{list_any}
use Rattle.tsa_place_model.specs.Ways.{Way}
use Rattle.tsa_core.specs.Bodies.{Known}
use Rattle.tsa_core.specs.Programs.{Attr}
use Rattle.tsa_core.proofs.KindTests.{neither}
use Rattle.tsa_core.proofs.ScopesBelong.{Each}
use Rattle.tsa_core.proofs.TypedTerms.{some_same}
use Rattle.tsa_path.specs.Substitution.{substituted}
use Rattle.tsa_rules.specs.Attributes as rules
use Rattle.tsa_rules.specs.Attributes.{all_as_called, as_called}
use Rattle.tsa_profile_accesses.specs.Locks.{lacks_path, tries}
use Rattle.tsa_sound_accepted.proofs.called.AttributeKinds.{same_test}
use Rattle.tsa_base.proofs.Truths.{never}

-- what holds of all points holds of one
pub each_at : (P : Known → Type 0) (ks : List Known) (n : ℕ) (k : Known) → Each P ks → slice_get ks n ≡ Some k → P k
each_at P [] zero k h at = absurd cc
each_at P [] (suc n) k h at = absurd cc
each_at P (x ∷ ks) zero k h at = subst P (some_same at) h.0
each_at P (x ∷ ks) (suc n) k h at = each_at P ks n k h.1 at

pub all_at : {A : Type 0} (P : A → Type 0) (xs : List A) (n : ℕ) (x : A) → All P xs → slice_get xs n ≡ Some x → P x
all_at P [] zero x h at = absurd cc
all_at P [] (suc n) x h at = absurd cc
all_at P (y ∷ xs) zero x h at = subst P (some_same at) (All-head P y xs h)
all_at P (y ∷ xs) (suc n) x h at = all_at P xs n x (All-tail P y xs h) at

-- the two tests of tries are one
pub same_tries : (attrs : List Attr) → list_any (λ a. rules.is_try a.kind) attrs ≡ tries attrs
same_tries [] = refl
same_tries (a ∷ attrs) = ap₂ (λ b c. b || c) (same_test a.kind) (same_tries attrs)

-- attributes of which none lacks a path
some_path : (o : Option Way) → is_none o ≡ false → IsSome o
some_path None h = never h
some_path (Some w) h = refl

pub all_named : (ways : List (Option Way)) (attrs : List Attr) → list_any (lacks_path ways) attrs ≡ false → All (λ a. IsSome a.path) (all_as_called ways attrs)
all_named ways [] h = All-nil (λ a. IsSome a.path)
all_named ways (a ∷ attrs) h =
    let both = neither (lacks_path ways a) (list_any (lacks_path ways) attrs) h in
    All-cons (λ x. IsSome x.path) (as_called ways a) (all_as_called ways attrs) (some_path (option_and_then (substituted ways) a.path) both.0)
    (all_named ways attrs both.1)
