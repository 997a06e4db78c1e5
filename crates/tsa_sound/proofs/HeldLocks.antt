-- What a frame's statuses say of the holds of its thread.
use Rattle.std.proofs.Common.{◌≡◌, ◌∙◌, ℕ, zero, suc, ◌+◌, ◌<◌, ◌≤◌, nat_le, Bool, true, List, [], ◌∷◌, length, Option, Some, None}
use Rattle.std.proofs.Common.{slice_index_or, if◌then◌else◌, refl, ap, sym, arith, eq-eqb, leb-true}
use Rattle.std.specs.Prelude.{Contains, IsSome}
use Rattle.tsa_place_model.specs.Ways.{Way}
use Rattle.tsa_core.specs.Control.{Next}
use Rattle.tsa_core.specs.Programs.{Program}
use Rattle.tsa_rules.specs.declared.status.Status.{Status}
use Rattle.tsa_rules.specs.declared.status.Status.TheVariants as status
use Rattle.tsa_rules.specs.declared.status.Status.TheVariants.{Free, Pending}
use Rattle.tsa_rules.specs.Points.{is_status}
use Rattle.tsa_rules.specs.Statuses.{IsHeld, IsExclusive}
use Rattle.tsa_rules.proofs.Possible.{statuses_stay_possible}
use Rattle.tsa_sched.specs.declared.event.Mode.{Mode}
use Rattle.tsa_sched.specs.declared.event.Mode.TheVariants.{Exclusive, Shared}
use Rattle.tsa_mean.specs.Returns.{if_lock}
use Rattle.tsa_mean.specs.States.{Frame, Holds, Work, calling, working}
use Rattle.tsa_sound.specs.Facts.{FunctionFacts}
use Rattle.tsa_sound.specs.FramesFit.{IsLentOf, ProgramRows, function_of, owned_below, paths_of, settled_in, status_before, status_by}
use Rattle.tsa_sound.specs.FramesFit.{status_now}
use Rattle.tsa_sound.specs.Invariant.{StackFits}
use Rattle.tsa_sound.specs.SettledStatuses.{hold, lock_in, settled, total, units}
use Rattle.tsa_sound.proofs.Constants.{both}

-- one of a sum is no more than the sum
pub total_has : {A : Type 0} (f : A → ℕ) (xs : List A) (x : A) → Contains xs x → f x ≤ total f xs
total_has f [] x i = let l = i.1 in absurd (omega (arith, l))
total_has f (y ∷ ys) x i = by i.0 i.1 i.2 (λ k l is. total_has f ys x (k, l, is))
  where
    by : (k : ℕ) → k < length (y ∷ ys) → slice_index_or (y ∷ ys) k x ≡ x → ((j : ℕ) → j < length ys → slice_index_or ys j x ≡ x → f x ≤ total f ys) → f x ≤ f y + total f ys
    by zero l is rest = let same : f y ≡ f x = ap f is in omega (arith, same)
    by (suc k) l is rest = let more : f x ≤ total f ys = rest k (omega (arith, l)) is in omega (arith, more)

-- a thread holds a lock in some mode
abbrev pub IsHeldBy : Holds → ℕ → Type 0
IsHeldBy held lock = (mode : Mode) × (0 < held lock mode)

pub hold_is : (u : Program) (frame : Frame) (c : Way) (s : Status) (lock : ℕ) (mode : Mode) → lock_in u frame.locals c ≡ Some lock → hold u frame.locals c s lock mode ≡ units s mode
hold_is u frame c s lock mode is =
    ap (λ o. if_lock lock o (units s mode)) is ∙ ap (λ (b : Bool). if b then units s mode else 0) (eq-eqb lock lock refl)

module _ (u : Program) (x : ProgramRows) (held : Holds) (frame : Frame) (below : List Frame) (facts : FunctionFacts u x frame.function) (fits : StackFits u x held frame below)
    (c : Way) (i : Contains (paths_of x frame) c) where
  -- the status now is one that the path can have
  possible_by : (work : Work) → is_status u (function_of u frame) c (status_by u frame work c (status_before x frame c)) ≡ true
  possible_by (calling args) = facts.possible frame.point c fits.top.listed i
  possible_by (working right left old) =
      statuses_stay_possible.goes_on u (function_of u frame) frame.point c Next (status_before x frame c) (facts.possible frame.point c fits.top.listed i)

  -- what a frame owns its thread holds
  owns : (s : Status) (lock : ℕ) (mode : Mode) → settled_in u frame (status_now u x frame) c ≡ s → lock_in u frame.locals c ≡ Some lock → 0 < units s mode → 0 < held lock mode
  owns s lock mode is leads some =
      let sum = fits.sum lock mode in
      let one = total_has (λ d. hold u frame.locals d (settled_in u frame (status_now u x frame) d) lock mode) (paths_of x frame) c i in
      let worth : hold u frame.locals c (settled_in u frame (status_now u x frame) c) lock mode ≡ units s mode =
      ap (λ s. hold u frame.locals c s lock mode) is ∙ hold_is u frame c s lock mode leads in
      omega (arith, sum, one, worth, some)

  leads_some : (s : Status) → settled_in u frame (status_now u x frame) c ≡ s → (s ≡ Free → ⊥) → (lock : ℕ) × (lock_in u frame.locals c ≡ Some lock)
  leads_some s is some = by (lock_in u frame.locals c) refl (fits.top.locks c i (λ free. some (sym is ∙ free)))
    where
      by : (o : Option ℕ) → lock_in u frame.locals c ≡ o → IsSome o → (lock : ℕ) × (lock_in u frame.locals c ≡ Some lock)
      by None e h = absurd cc
      by (Some lock) e h = (lock, e)

  lent_by : (o : Option ℕ) → lock_in u frame.locals c ≡ o → IsLentOf (owned_below u x below) o → (lock : ℕ) × (lock_in u frame.locals c ≡ Some lock) × IsHeldBy held lock
  lent_by None e lent = absurd lent
  lent_by (Some lock) e lent =
      (lock, e, (lent.0, (let sum = fits.sum lock lent.0 in let some = lent.1 in omega (arith, sum, some))))

  depth : (n : ℕ) → status_now u x frame c ≡ status.Exclusive n → 0 < n
  depth n is = by (sym (ap (is_status u (function_of u frame) c) is) ∙ possible_by frame.work)
    where
      by : is_status u (function_of u frame) c (status.Exclusive n) ≡ true → 0 < n
      by e = let l : 1 ≤ n = leb-true 1 n (both (nat_le 1 n) _ e).0 in omega (arith, l)

  -- a path that is held leads to a lock that the thread holds
  held_as : (s : Status) → status_now u x frame c ≡ s → IsHeld s → (lock : ℕ) × (lock_in u frame.locals c ≡ Some lock) × IsHeldBy held lock
  held_as Free is h = absurd h
  held_as status.Shared is h =
      let settles : settled_in u frame (status_now u x frame) c ≡ status.Shared = ap (settled u (function_of u frame) frame.locals c) is in
      let lock = leads_some status.Shared settles (λ e. cc) in
      (lock.0, lock.1, (Shared, owns status.Shared lock.0 Shared settles lock.1 (omega arith)))
  held_as (status.Exclusive n) is h =
      let settles : settled_in u frame (status_now u x frame) c ≡ status.Exclusive n = ap (settled u (function_of u frame) frame.locals c) is in
      let lock = leads_some (status.Exclusive n) settles (λ e. cc) in
      (lock.0, lock.1, (Exclusive, owns (status.Exclusive n) lock.0 Exclusive settles lock.1 (depth n is)))
  held_as status.Lent is h = lent_by (lock_in u frame.locals c) refl (fits.top.lent c i (ap (settled u (function_of u frame) frame.locals c) is))
  held_as (Pending v) is h = absurd h

  pub held_lock : IsHeld (status_now u x frame c) → (lock : ℕ) × (lock_in u frame.locals c ≡ Some lock) × IsHeldBy held lock
  held_lock h = held_as (status_now u x frame c) refl h

  alone_as : (s : Status) → status_now u x frame c ≡ s → IsExclusive s → (lock : ℕ) × (lock_in u frame.locals c ≡ Some lock) × (0 < held lock Exclusive)
  alone_as (status.Exclusive n) is h =
      let settles : settled_in u frame (status_now u x frame) c ≡ status.Exclusive n = ap (settled u (function_of u frame) frame.locals c) is in
      let lock = leads_some (status.Exclusive n) settles (λ e. cc) in
      (lock.0, lock.1, owns (status.Exclusive n) lock.0 Exclusive settles lock.1 (depth n is))
  alone_as Free is h = absurd h
  alone_as status.Shared is h = absurd h
  alone_as status.Lent is h = absurd h
  alone_as (Pending v) is h = absurd h

  -- and one that is owned alone leads to a lock that it holds alone
  pub alone_lock : IsExclusive (status_now u x frame c) → (lock : ℕ) × (lock_in u frame.locals c ≡ Some lock) × (0 < held lock Exclusive)
  alone_lock h = alone_as (status_now u x frame c) refl h
