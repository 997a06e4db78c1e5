-- What a local that is set leaves of paths and of what is settled.
use Rattle.std.proofs.Common.{◌≡◌, ◌∙◌, ℕ, zero, suc, ◌<◌, nat_eq, Bool, true, false, ◌||◌, List, [], ◌∷◌, length, Option, Some, None}
use Rattle.std.proofs.Common.{option_map, option_and_then, slice_get, if◌then◌else◌, inl, inr, refl, ap, sym, subst, arith, eq-eqb}
use Rattle.std.specs.List.{list_any}
use Rattle.std.specs.Prelude.{All, IsSome}
use Rattle.tsa_base.specs.declared.value.Value.{Value}
use Rattle.tsa_place_model.specs.declared.spot.Spot.{Spot}
use Rattle.tsa_place_model.specs.declared.spot.Spot.TheVariants.{Place, Holds}
use Rattle.tsa_place_model.specs.Ways.{Way}
use Rattle.tsa_place_model.specs.declared.path.PathStep.{PathStep}
use Rattle.tsa_place_model.specs.declared.path.PathStep.TheVariants.{Field, Constant, Variable, Follow}
use Rattle.tsa_place_model.specs.declared.path.Root.{Root}
use Rattle.tsa_place_model.specs.declared.path.Root.TheVariants.{Global, Local, Owner}
use Rattle.tsa_place_model.specs.Calls.{element_place, index_in, place_in, take_root, take_step, take_steps}
use Rattle.tsa_core.specs.Programs.{Function, Program}
use Rattle.tsa_rules.specs.declared.status.Status.{Status}
use Rattle.tsa_rules.specs.declared.status.Status.TheVariants as status
use Rattle.tsa_rules.specs.declared.status.Status.TheVariants.{Free, Pending}
use Rattle.tsa_rules.specs.Points.{is_index, is_rooted_at, mentions, try_kept, try_variables}
use Rattle.tsa_mean.specs.WorthLaws.{values}
use Rattle.tsa_mean.specs.Working.{Locals, local_at, or_zero, with_local}
use Rattle.tsa_mean.proofs.Lists.{all_first, all_more, all_none, all_rest, set_elsewhere}
use Rattle.tsa_sound.specs.Facts.{IsUnmentioned}
use Rattle.tsa_sound.specs.FramesFit.{IsDecided}
use Rattle.tsa_sound.specs.SettledStatuses.{answer_held, left_by, left_in, lock_in, settled}
use Rattle.tsa_sound.proofs.Constants.{differ}

pub all_of_both : {A : Type 0} (P Q R : A → Type 0) → ((x : A) → P x → Q x → R x) → (xs : List A) → All P xs → All Q xs → All R xs
all_of_both P Q R each [] one other = all_none R
all_of_both P Q R each (x ∷ xs) one other = all_more R x xs (each x (all_first P x xs one) (all_first Q x xs other))
    (all_of_both P Q R each xs (all_rest P x xs one) (all_rest Q x xs other))

-- what holds of each local, and of the one that is set, holds after it is set
pub locals_keep : (P : ℕ → Value → Type 0) (xs : Locals) (i : ℕ) (v : Value) → ((j : ℕ) → P j (local_at xs j)) → P i v → (j : ℕ) → P j (local_at (with_local xs i v) j)
locals_keep P [] i v all new j = all j
locals_keep P (y ∷ ys) zero v all new zero = new
locals_keep P (y ∷ ys) zero v all new (suc j) = all (suc j)
locals_keep P (y ∷ ys) (suc i) v all new zero = all zero
locals_keep P (y ∷ ys) (suc i) v all new (suc j) = locals_keep (λ k. P (suc k)) ys i v (λ k. all (suc k)) new j

-- a local that is set is one of as many
pub set_length : (xs : Locals) (i : ℕ) (v : Value) → length (with_local xs i v) ≡ length xs
set_length [] i v = refl
set_length (y ∷ ys) zero v = refl
set_length (y ∷ ys) (suc i) v = ap suc (set_length ys i v)

-- and has the value to which it is set
pub set_local_at : (xs : Locals) (i : ℕ) (v : Value) → i < length xs → local_at (with_local xs i v) i ≡ v
set_local_at [] i v l = absurd (omega (arith, l))
set_local_at (y ∷ ys) zero v l = refl
set_local_at (y ∷ ys) (suc i) v l = set_local_at ys i v (omega (arith, l))

pub neither : (a b : Bool) → (a || b) ≡ false → (a ≡ false) × (b ≡ false)
neither true b e = differ (sym e)
neither false b e = (refl, e)

no_true : (b : Bool) (c : Bool) → (if b then true else c) ≡ false → (b ≡ false) × (c ≡ false)
no_true true c e = differ (sym e)
no_true false c e = (refl, e)

module _ (u : Program) (locals : Locals) (n : ℕ) (v : Value) where
  abbrev new : Locals
  new = with_local locals n v

  -- another local is as it was
  pub other_local : (m : ℕ) → nat_eq m n ≡ false → local_at new m ≡ local_at locals m
  other_local m not = ap or_zero (set_elsewhere locals n m v (λ same. differ (sym not ∙ eq-eqb m n same)))

  other_step : (step : PathStep) → is_index n step ≡ false → (s : Option Spot) → option_and_then (take_step u.layout (values new) step) s ≡ option_and_then (take_step u.layout (values locals) step) s
  other_step step not None = refl
  other_step (Field k) not (Some (Place p)) = refl
  other_step (Constant k) not (Some (Place p)) = refl
  other_step Follow not (Some (Place p)) = refl
  other_step (Variable m) not (Some (Place p)) = ap (λ w. option_map Place (option_and_then (element_place u.layout p) (index_in w))) (other_local m not)
  other_step (Field k) not (Some (Holds w)) = refl
  other_step (Constant k) not (Some (Holds w)) = refl
  other_step Follow not (Some (Holds w)) = refl
  other_step (Variable m) not (Some (Holds w)) = refl

  other_steps : (steps : List PathStep) → list_any (is_index n) steps ≡ false → (s : Option Spot) → take_steps u.layout (values new) steps s ≡ take_steps u.layout (values locals) steps s
  other_steps [] not s = refl
  other_steps (step ∷ rest) not s =
      let parts = neither (is_index n step) (list_any (is_index n) rest) not in
      other_steps rest parts.1 (option_and_then (take_step u.layout (values new) step) s) ∙ ap (take_steps u.layout (values locals) rest) (other_step step parts.0 s)

  other_root : (root : Root) → is_rooted_at n root ≡ false → take_root u.layout (values new) None root ≡ take_root u.layout (values locals) None root
  other_root (Global m) not = refl
  other_root (Local m) not = ap (λ w. Some (Holds w)) (other_local m not)
  other_root Owner not = refl

  -- a path that doesn't mention the local leads where it led
  pub lock_stays : (c : Way) → mentions n c ≡ false → lock_in u new c ≡ lock_in u locals c
  lock_stays c not =
      let parts = no_true (is_rooted_at n c.root) (list_any (is_index n) c.steps) not in
      ap (option_and_then place_in) (other_steps c.steps parts.1 (take_root u.layout (values new) None c.root)
      ∙ ap (take_steps u.layout (values locals) c.steps) (other_root c.root parts.0))

  pub named_stays : (w : Option Way) → IsUnmentioned n w → option_and_then (lock_in u new) w ≡ option_and_then (lock_in u locals) w
  named_stays None not = refl
  named_stays (Some c) not = lock_stays c not

  -- what is pending in other variables is settled as it was
  module _ (f : Function) (c : Way) (tries : (w m : ℕ) → slice_get (try_variables u f) w ≡ Some m → nat_eq m n ≡ false) where
    left_stays : (w : ℕ) (o : Option ℕ) → slice_get (try_variables u f) w ≡ o → left_in u f new c o ≡ left_in u f locals c o
    left_stays w None e = refl
    left_stays w (Some m) e = ap (λ x. left_by (try_kept u f m c) (answer_held x)) (other_local m (tries w m e))

    pub settled_stays : (s : Status) → settled u f new c s ≡ settled u f locals c s
    settled_stays Free = refl
    settled_stays status.Shared = refl
    settled_stays (status.Exclusive d) = refl
    settled_stays status.Lent = refl
    settled_stays (Pending w) = left_stays w (slice_get (try_variables u f) w) refl

    decided_by : (w : ℕ) (o : Option ℕ) → slice_get (try_variables u f) w ≡ o → IsDecided u f locals c o → IsDecided u f new c o
    decided_by w None e is = tt
    decided_by w (Some m) e (inl free) = inl free
    decided_by w (Some m) e (inr some) = inr (subst (λ x. IsSome (answer_held x)) (sym (other_local m (tries w m e))) some)

    pub decided_stays : (w : ℕ) → IsDecided u f locals c (slice_get (try_variables u f) w) → IsDecided u f new c (slice_get (try_variables u f) w)
    decided_stays w is = decided_by w (slice_get (try_variables u f) w) refl is
