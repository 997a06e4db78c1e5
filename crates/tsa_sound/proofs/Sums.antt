-- Sums of holds over paths.
use Rattle.std.proofs.Common.{◌≡◌, ◌∙◌, ℕ, suc, nat_eq, Bool, true, false, List, [], ◌∷◌, Option, Some, None, ◌⊎◌, inl, inr, if◌then◌else◌}
use Rattle.std.proofs.Common.{refl, ap, sym, arith}
use Rattle.std.specs.Prelude.{Contains}
use Rattle.tsa_place_model.specs.Ways.{Way}
use Rattle.tsa_core.specs.Programs.{Program}
use Rattle.tsa_rules.specs.declared.status.Status.{Status}
use Rattle.tsa_rules.specs.declared.status.Status.TheVariants.{Free}
use Rattle.tsa_sched.specs.declared.event.Mode.{Mode}
use Rattle.tsa_mean.specs.Returns.{if_lock}
use Rattle.tsa_mean.specs.Working.{Locals}
use Rattle.tsa_sound.specs.SettledStatuses.{hold, holds_for, lock_in, total, units}

-- the first of a list is there, and what is in the rest
pub first_in : {A : Type 0} (x : A) (xs : List A) → Contains (x ∷ xs) x
first_in x xs = (0, omega arith, refl)

pub rest_in : {A : Type 0} (x y : A) (xs : List A) → Contains xs y → Contains (x ∷ xs) y
rest_in x y xs i = (suc i.0, (let l = i.1 in omega (arith, l)), i.2)

-- a sum of the same is the same
pub total_same : {A : Type 0} (f g : A → ℕ) (xs : List A) → ((x : A) → Contains xs x → f x ≡ g x) → total f xs ≡ total g xs
total_same f g [] same = refl
total_same f g (x ∷ xs) same =
    let here : f x ≡ g x = same x (first_in x xs) in
    let there : total f xs ≡ total g xs = total_same f g xs (λ y i. same y (rest_in x y xs i)) in
    omega (arith, here, there)

-- nothing is held of a path that is free
pub no_hold : (lock : ℕ) (o : Option ℕ) → if_lock lock o 0 ≡ 0
no_hold lock None = refl
no_hold lock (Some l) = by (nat_eq lock l)
  where
    by : (b : Bool) → ◌≡◌ {A = ℕ} (if b then 0 else 0) 0
    by true = refl
    by false = refl

free_units : (mode : Mode) → units Free mode ≡ 0
free_units mode = refl

pub free_hold : (u : Program) (locals : Locals) (c : Way) (lock : ℕ) (mode : Mode) → hold u locals c Free lock mode ≡ 0
free_hold u locals c lock mode = no_hold lock (lock_in u locals c)

-- a path whose status stays, and that is free or leads where it led, counts as it did
pub hold_same : (u : Program) (old new : Locals) (c : Way) (s t : Status) → t ≡ s → (s ≡ Free) ⊎ (lock_in u new c ≡ lock_in u old c) → (lock : ℕ) (mode : Mode)
    → hold u new c t lock mode ≡ hold u old c s lock mode
hold_same u old new c s t same (inl free) lock mode =
    ap (λ r. hold u new c r lock mode) (same ∙ free) ∙ free_hold u new c lock mode
    ∙ sym (free_hold u old c lock mode) ∙ ap (λ r. hold u old c r lock mode) (sym free)
hold_same u old new c s t same (inr leads) lock mode =
    ap (λ r. hold u new c r lock mode) same ∙ ap (λ o. if_lock lock o (units s mode)) leads

pub holds_same : (u : Program) (old new : Locals) (paths : List Way) (s t : Way → Status) → ((c : Way) → Contains paths c → t c ≡ s c)
    → ((c : Way) → Contains paths c → (s c ≡ Free) ⊎ (lock_in u new c ≡ lock_in u old c)) → (lock : ℕ) (mode : Mode)
    → holds_for u new paths t lock mode ≡ holds_for u old paths s lock mode
holds_same u old new paths s t same leads lock mode =
    total_same (λ c. hold u new c (t c) lock mode) (λ c. hold u old c (s c) lock mode) paths (λ c i. hold_same u old new c (s c) (t c) (same c i) (leads c i) lock mode)
