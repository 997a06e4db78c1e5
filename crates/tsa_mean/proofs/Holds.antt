-- Holds change by what events tell.
use Rattle.std.proofs.Common.{◌≡◌, ◌∙◌, ℕ, ◌+◌, ◌<◌, nat_eq, Bool, true, false, Some, length, slice_index_or, slice_set, if◌then◌else◌}
use Rattle.std.proofs.Common.{refl, ap, sym, subst, arith, eq-eqb, eqb-true}
use Rattle.std.proofs.lemmas.List.{get_or-set_same, get_or-set_other}
use Rattle.std.proofs.Math.Decide.{ℕ_discrete}
use Rattle.tsa_core.specs.Programs.{Program}
use Rattle.tsa_locks.specs.Laws.{HasOneMore, IsLock}
use Rattle.tsa_sched.specs.declared.event.Mode.TheVariants.{Exclusive, Shared}
use Rattle.tsa_locks.specs.Locks.{free, give, holds, Lock, owned, shared_by, take, taken}
use Rattle.tsa_sched.specs.declared.event.Mode.{Mode}
use Rattle.tsa_locks.proofs.Holding.{holds_change}
use Rattle.tsa_sched.specs.declared.event.EventKind.{EventKind}
use Rattle.tsa_sched.specs.declared.event.EventKind.TheVariants as event
use Rattle.tsa_mean.specs.HoldLaws.{gained, HoldsChangeAsTold, lost}
use Rattle.tsa_mean.specs.Laws.{Changes}
use Rattle.tsa_mean.specs.Returns.{if_lock, once}
use Rattle.tsa_mean.specs.Runs.{step}
use Rattle.tsa_mean.specs.StateLaws.{IsLockAt}
use Rattle.tsa_mean.specs.States.{State, holds_of, lock_at, thread_at}
use Rattle.tsa_mean.specs.Steps.{is_reentrant_at}
use Rattle.tsa_mean.proofs.Lists.{set_keeps}
use Rattle.tsa_mean.proofs.Turns.{turn_changes}
use Rattle.tsa_mean.proofs.Keeping.{AllLocks}

is_lock : (u : Program) (place : ℕ) (x : Lock) → IsLockAt u place x → IsLock x
is_lock u place (owned t n) is = is.0
is_lock u place (shared_by ns) is = tt

-- the changed lock, and all others
there : (n lock : ℕ) → nat_eq lock lock ≡ true → if_lock lock (Some lock) n ≡ n
there n lock e = by (nat_eq lock lock) e
  where
    by : (b : Bool) → b ≡ true → (if b then n else 0) ≡ n
    by true e = refl
    by false e = absurd cc

elsewhere : (n lock l : ℕ) → (lock ≡ l → ⊥) → if_lock lock (Some l) n ≡ 0
elsewhere n lock l other = by (nat_eq lock l) (eqb-true lock l)
  where
    by : (b : Bool) → (b ≡ true → lock ≡ l) → (if b then n else 0) ≡ 0
    by true says = absurd (other (says refl))
    by false says = refl

exclusive_shared : Exclusive ≡ Shared → ⊥
exclusive_shared e = cc

-- in each mode one hold more, or none
by_mode : (old new : Lock) (t : ℕ) (m mode : Mode) → HasOneMore old new t m → holds new t mode ≡ holds old t mode + once m mode
by_mode old new t Exclusive Exclusive more = more.more
by_mode old new t Shared Shared more = more.more
by_mode old new t Exclusive Shared more = let same = more.others t Shared (λ a b. exclusive_shared (sym b)) in omega (arith, same)
by_mode old new t Shared Exclusive more = let same = more.others t Exclusive (λ a b. exclusive_shared b) in omega (arith, same)

module _ (old new : State) (t l : ℕ) (x : Lock) (same : new.locks ≡ slice_set old.locks l x) where
  changed : l < length old.locks → lock_at new l ≡ x
  changed inside = ap (λ locks. slice_index_or locks l free) same ∙ get_or-set_same old.locks l x free inside

  unchanged : (lock : ℕ) → (lock ≡ l → ⊥) → lock_at new lock ≡ lock_at old lock
  unchanged lock other = ap (λ locks. slice_index_or locks lock free) same ∙ get_or-set_other old.locks l lock x free other

  one_more : (m : Mode) → HasOneMore (lock_at old l) x t m → (lock : ℕ) → lock < length old.locks → (mode : Mode)
      → holds_of new t lock mode ≡ holds_of old t lock mode + if_lock lock (Some l) (once m mode)
  one_more m more lock inside mode = elim (ℕ_discrete lock l) [
    | yes is ↦ subst (λ k. k < length old.locks → holds_of new t k mode ≡ holds_of old t k mode + if_lock k (Some l) (once m mode)) (sym is) here inside
    | no other ↦ let same = ap (λ x. holds x t mode) (unchanged lock other) in let none = elsewhere (once m mode) lock l other in omega (arith, same, none)
  ]
    where
      here : l < length old.locks → holds_of new t l mode ≡ holds_of old t l mode + if_lock l (Some l) (once m mode)
      here inside = ap (λ x. holds x t mode) (changed inside) ∙ by_mode (lock_at old l) x t m mode more ∙ sym (ap (λ n. holds_of old t l mode + n) (there (once m mode) l (eq-eqb l l refl)))

  one_less : (m : Mode) → HasOneMore x (lock_at old l) t m → (lock : ℕ) → lock < length old.locks → (mode : Mode)
      → holds_of new t lock mode + if_lock lock (Some l) (once m mode) ≡ holds_of old t lock mode
  one_less m more lock inside mode = elim (ℕ_discrete lock l) [
    | yes is ↦ subst (λ k. k < length old.locks → holds_of new t k mode + if_lock k (Some l) (once m mode) ≡ holds_of old t k mode) (sym is) here inside
    | no other ↦ let same = ap (λ x. holds x t mode) (unchanged lock other) in let none = elsewhere (once m mode) lock l other in omega (arith, same, none)
  ]
    where
      here : l < length old.locks → holds_of new t l mode + if_lock l (Some l) (once m mode) ≡ holds_of old t l mode
      here inside = ap (λ k. k + if_lock l (Some l) (once m mode)) (ap (λ x. holds x t mode) (changed inside))
          ∙ ap (λ n. holds x t mode + n) (there (once m mode) l (eq-eqb l l refl)) ∙ sym (by_mode x (lock_at old l) t m mode more)

  -- another thread
  of_another : (thread : ℕ) → ((mode : Mode) → holds x thread mode ≡ holds (lock_at old l) thread mode) → (lock : ℕ) (mode : Mode)
      → holds_of new thread lock mode ≡ holds_of old thread lock mode
  of_another thread stays lock mode = ap (λ locks. holds (slice_index_or locks lock free) thread mode) same
      ∙ set_keeps (λ k y. holds y thread mode ≡ holds (lock_at old k) thread mode) old.locks l x free (λ j. refl) (stays mode) lock

module _ (u : Program) (t : ℕ) (old new : State) (all : AllLocks u old) where
  takes : (l : ℕ) (m : Mode) (x : Lock) → take (is_reentrant_at u l) m t (lock_at old l) ≡ taken x → HasOneMore (lock_at old l) x t m
  takes l m x e = holds_change.taking (is_reentrant_at u l) m t (lock_at old l) x (is_lock u l (lock_at old l) (all l)) e

  gives : (l : ℕ) (m : Mode) (x : Lock) → give m t (lock_at old l) ≡ Some x → HasOneMore x (lock_at old l) t m
  gives l m x e = holds_change.giving m t (lock_at old l) x (is_lock u l (lock_at old l) (all l)) e

  abbrev Counted : EventKind → Type 0
  Counted kind = (lock : ℕ) → lock < length old.locks → (mode : Mode) → holds_of new t lock mode + lost kind lock mode ≡ holds_of old t lock mode + gained kind lock mode

  taken_counted : (l : ℕ) (m : Mode) (x : Lock) → new.locks ≡ slice_set old.locks l x → take (is_reentrant_at u l) m t (lock_at old l) ≡ taken x
      → (lock : ℕ) → lock < length old.locks → (mode : Mode) → holds_of new t lock mode + 0 ≡ holds_of old t lock mode + if_lock lock (Some l) (once m mode)
  taken_counted l m x same e lock inside mode = let more = one_more old new t l x same m (takes l m x e) lock inside mode in omega (arith, more)

  given_counted : (l : ℕ) (m : Mode) (x : Lock) → new.locks ≡ slice_set old.locks l x → give m t (lock_at old l) ≡ Some x
      → (lock : ℕ) → lock < length old.locks → (mode : Mode) → holds_of new t lock mode + if_lock lock (Some l) (once m mode) ≡ holds_of old t lock mode + 0
  given_counted l m x same e lock inside mode = let less = one_less old new t l x same m (gives l m x e) lock inside mode in omega (arith, less)

  same_counted : new.locks ≡ old.locks → (lock : ℕ) → lock < length old.locks → (mode : Mode) → holds_of new t lock mode + 0 ≡ holds_of old t lock mode + 0
  same_counted same lock inside mode = ap (λ locks. holds (slice_index_or locks lock free) t mode + 0) same

  own : (kind : EventKind) → Changes u t old new kind → Counted kind
  own (event.Took l m) c = taken_counted l m c.after c.locks c.takes
  own (event.Tried l m true) c = taken_counted l m c.after c.locks c.takes
  own (event.Gave l m) c = given_counted l m c.after c.locks c.gives
  own (event.Tried l m false) c = same_counted c.locks
  own (event.Write place v) c = same_counted c.locks
  own (event.Read place v) c = same_counted c.locks
  own (event.Waits lock holder) c = same_counted c.locks
  own (event.NotHeld lock) c = same_counted c.locks
  own (event.Environment f v) c = same_counted c.locks
  own (event.Called f) c = same_counted c.locks
  own (event.Returned f) c = same_counted c.locks
  own (event.Branched b) c = same_counted c.locks
  own (event.Switched v) c = same_counted c.locks
  own event.Stepped c = same_counted c.locks
  own (event.Trap kind) c = same_counted c.locks
  own event.AlreadyEnded c = same_counted c.locks
  own event.AlreadyTrapped c = same_counted c.locks
  own event.NoThread c = same_counted c.locks

  module _ (thread : ℕ) (differs : thread ≡ t → ⊥) where
    abbrev Stays : Type 0
    Stays = (lock : ℕ) (mode : Mode) → holds_of new thread lock mode ≡ holds_of old thread lock mode

    taken_stays : (l : ℕ) (m : Mode) (x : Lock) → new.locks ≡ slice_set old.locks l x → take (is_reentrant_at u l) m t (lock_at old l) ≡ taken x → Stays
    taken_stays l m x same e = of_another old new t l x same thread (λ mode. (takes l m x e).others thread mode (λ a b. differs a))

    given_stays : (l : ℕ) (m : Mode) (x : Lock) → new.locks ≡ slice_set old.locks l x → give m t (lock_at old l) ≡ Some x → Stays
    given_stays l m x same e = of_another old new t l x same thread (λ mode. sym ((gives l m x e).others thread mode (λ a b. differs a)))

    same_stays : new.locks ≡ old.locks → Stays
    same_stays same lock mode = ap (λ locks. holds (slice_index_or locks lock free) thread mode) same

    others : (kind : EventKind) → Changes u t old new kind → Stays
    others (event.Took l m) c = taken_stays l m c.after c.locks c.takes
    others (event.Tried l m true) c = taken_stays l m c.after c.locks c.takes
    others (event.Gave l m) c = given_stays l m c.after c.locks c.gives
    others (event.Tried l m false) c = same_stays c.locks
    others (event.Write place v) c = same_stays c.locks
    others (event.Read place v) c = same_stays c.locks
    others (event.Waits lock holder) c = same_stays c.locks
    others (event.NotHeld lock) c = same_stays c.locks
    others (event.Environment f v) c = same_stays c.locks
    others (event.Called f) c = same_stays c.locks
    others (event.Returned f) c = same_stays c.locks
    others (event.Branched b) c = same_stays c.locks
    others (event.Switched v) c = same_stays c.locks
    others event.Stepped c = same_stays c.locks
    others (event.Trap kind) c = same_stays c.locks
    others event.AlreadyEnded c = same_stays c.locks
    others event.AlreadyTrapped c = same_stays c.locks
    others event.NoThread c = same_stays c.locks

pub holds_change_as_told : HoldsChangeAsTold
unfolding step
holds_change_as_told = record {
  own = λ u s pick is. own u pick.thread s (step u s pick).0 is.locks (step u s pick).1.kind (turn_changes u s pick.thread pick.answer (thread_at s pick.thread));
  others = λ u s pick is thread differs.
      others u pick.thread s (step u s pick).0 is.locks thread differs (step u s pick).1.kind (turn_changes u s pick.thread pick.answer (thread_at s pick.thread));
}
