-- What a turn leaves as it was, and what it changes.
use Rattle.std.proofs.Common.{◌≡◌, ◌∙◌, ℕ, ◌+◌, ◌<◌, nat_lt, ℤ, Bool, true, false, List, length, Option, Some, None, if◌then◌else◌, ◌⊎◌}
use Rattle.std.proofs.Common.{inl, inr, slice_get, slice_set, refl, ap, sym, subst}
use Rattle.tsa_tree.specs.declared.kind.Kind.{Kind}
use Rattle.tsa_tree.specs.declared.kind.Kind.TheVariants as type
use Rattle.tsa_core.specs.Programs.{Program}
use Rattle.tsa_locks.specs.Laws.{IsLock}
use Rattle.tsa_locks.specs.Locks.{Lock, Taking, taken, blocked, take, give, holds}
use Rattle.tsa_sched.specs.declared.event.Mode.{Mode}
use Rattle.tsa_locks.proofs.Holding.{holds_change}
use Rattle.tsa_sched.specs.declared.event.Event.{Event}
use Rattle.tsa_sched.specs.declared.event.EventKind.TheVariants as event
use Rattle.tsa_mean.specs.Acts.{Act, act_of, to_read, to_write, to_step, to_set, to_branch, to_choose, to_take, to_try, to_give, to_ask}
use Rattle.tsa_mean.specs.Acts.{to_enter, to_leave, to_trap}
use Rattle.tsa_mean.specs.Laws.{Changes, NothingIsDoneWhereNoneRuns, NothingIsDoneWhileWaiting}
use Rattle.tsa_mean.specs.Runs.{step, turn_of}
use Rattle.tsa_mean.specs.States.{Frame, State, Thread, running, trapped, ended, lock_at, thread_at}
use Rattle.tsa_mean.specs.Steps.{after_give, after_take, after_try, asking, frame_limit, is_reentrant_at, mode_or_held, perform, Turn}
use Rattle.tsa_mean.proofs.Lists.{set_elsewhere}

pub nothing_is_done_where_none_runs : NothingIsDoneWhereNoneRuns
unfolding step
nothing_is_done_where_none_runs = record {
  absent = λ u s pick is. ap (turn_of u s pick.thread pick.answer) is;
  over = λ u s pick is. ap (turn_of u s pick.thread pick.answer) is;
  stopped = λ u s pick frame below is. ap (turn_of u s pick.thread pick.answer) is;
}

-- what holds of both branches
abbrev changes_in : Program → ℕ → State → Turn → Type 0
changes_in u t s turn = Changes u t s turn.0 turn.1

pub either : (P : Turn → Type 0) (b : Bool) (one other : Turn) → P one → P other → P (if b then one else other)
either P true one other first second = first
either P false one other first second = second

-- the store and the locks
module _ (u : Program) (s : State) (t : ℕ) (frame : Frame) (below : List Frame) where
  take_changes : (mode : Mode) (lock : ℕ) (x : Taking) → take (is_reentrant_at u lock) mode t (lock_at s lock) ≡ x → changes_in u t s (after_take u s t frame below mode lock x)
  take_changes mode lock (taken y) e = record { after = y; takes = e; locks = refl; store = refl }
  take_changes mode lock (blocked holder) e = record { store = refl; locks = refl }

  try_changes : (mode : Mode) (success : Bool) (lock : ℕ) (x : Taking) → take (is_reentrant_at u lock) mode t (lock_at s lock) ≡ x
      → changes_in u t s (after_try u s t frame below mode success lock x)
  try_changes mode success lock (taken y) e = record { after = y; takes = e; locks = refl; store = refl }
  try_changes mode success lock (blocked holder) e = record { store = refl; locks = refl }

  give_changes : (mode : Mode) (lock : ℕ) (x : Option Lock) → give mode t (lock_at s lock) ≡ x → changes_in u t s (after_give u s t frame below mode lock x)
  give_changes mode lock (Some y) e = record { after = y; gives = e; locks = refl; store = refl }
  give_changes mode lock None e = record { store = refl; locks = refl }

  ask_changes : (f : ℕ) (kind : Kind) (z : ℤ) → changes_in u t s (asking u s t frame below f kind z)
  ask_changes f type.Void z = record { store = refl; locks = refl }
  ask_changes f kind z = record { store = refl; locks = refl }

  perform_changes : (z : ℤ) (act : Act) → changes_in u t s (perform u s t frame below z act)
  perform_changes z (to_read place left) = record { store = refl; locks = refl }
  perform_changes z (to_write place v) = record { store = refl; locks = refl }
  perform_changes z to_step = record { store = refl; locks = refl }
  perform_changes z (to_set n v) = record { store = refl; locks = refl }
  perform_changes z (to_branch b) = record { store = refl; locks = refl }
  perform_changes z (to_choose v) = record { store = refl; locks = refl }
  perform_changes z (to_take mode lock) = take_changes mode lock (take (is_reentrant_at u lock) mode t (lock_at s lock)) refl
  perform_changes z (to_try mode success lock) = try_changes mode success lock (take (is_reentrant_at u lock) mode t (lock_at s lock)) refl
  perform_changes z (to_give mode lock) = give_changes (mode_or_held u s t frame below mode lock) lock (give (mode_or_held u s t frame below mode lock) t (lock_at s lock)) refl
  perform_changes z (to_ask f kind) = ask_changes f kind z
  perform_changes z (to_enter f args) =
      either (changes_in u t s) (nat_lt (length below + 1) frame_limit) _ _ (record { store = refl; locks = refl }) (record { store = refl; locks = refl })
  perform_changes z (to_leave v) = record { store = refl; locks = refl }
  perform_changes z (to_trap kind) = record { store = refl; locks = refl }

pub turn_changes : (u : Program) (s : State) (t : ℕ) (z : ℤ) (x : Option Thread) → Changes u t s (turn_of u s t z x).0 (turn_of u s t z x).1.kind
turn_changes u s t z None = record { store = refl; locks = refl }
turn_changes u s t z (Some ended) = record { store = refl; locks = refl }
turn_changes u s t z (Some (trapped frame below)) = record { store = refl; locks = refl }
turn_changes u s t z (Some (running frame below)) = perform_changes u s t frame below z (act_of u frame)

-- the other threads: all stay as they were, or one is set
abbrev OneThread : State → ℕ → Turn → Type 0
OneThread s t turn = (turn.0.threads ≡ s.threads) ⊎ ((x : Thread) × (turn.0.threads ≡ slice_set s.threads t x))

module _ (u : Program) (s : State) (t : ℕ) (frame : Frame) (below : List Frame) where
  take_threads : (mode : Mode) (lock : ℕ) (x : Taking) → OneThread s t (after_take u s t frame below mode lock x)
  take_threads mode lock (taken y) = inr (_, refl)
  take_threads mode lock (blocked holder) = inl refl

  try_threads : (mode : Mode) (success : Bool) (lock : ℕ) (x : Taking) → OneThread s t (after_try u s t frame below mode success lock x)
  try_threads mode success lock (taken y) = inr (_, refl)
  try_threads mode success lock (blocked holder) = inr (_, refl)

  give_threads : (mode : Mode) (lock : ℕ) (x : Option Lock) → OneThread s t (after_give u s t frame below mode lock x)
  give_threads mode lock (Some y) = inr (_, refl)
  give_threads mode lock None = inr (_, refl)

  ask_threads : (f : ℕ) (kind : Kind) (z : ℤ) → OneThread s t (asking u s t frame below f kind z)
  ask_threads f type.Void z = inr (_, refl)
  ask_threads f kind z = inr (_, refl)

  perform_threads : (z : ℤ) (act : Act) → OneThread s t (perform u s t frame below z act)
  perform_threads z (to_read place left) = inr (_, refl)
  perform_threads z (to_write place v) = inr (_, refl)
  perform_threads z to_step = inr (_, refl)
  perform_threads z (to_set n v) = inr (_, refl)
  perform_threads z (to_branch b) = inr (_, refl)
  perform_threads z (to_choose v) = inr (_, refl)
  perform_threads z (to_take mode lock) = take_threads mode lock (take (is_reentrant_at u lock) mode t (lock_at s lock))
  perform_threads z (to_try mode success lock) = try_threads mode success lock (take (is_reentrant_at u lock) mode t (lock_at s lock))
  perform_threads z (to_give mode lock) = give_threads (mode_or_held u s t frame below mode lock) lock (give (mode_or_held u s t frame below mode lock) t (lock_at s lock))
  perform_threads z (to_ask f kind) = ask_threads f kind z
  perform_threads z (to_enter f args) = either (OneThread s t) (nat_lt (length below + 1) frame_limit) _ _ (inr (_, refl)) (inr (_, refl))
  perform_threads z (to_leave v) = inr (_, refl)
  perform_threads z (to_trap kind) = inr (_, refl)

stay : (s : State) (t other : ℕ) (turn : Turn) → (other ≡ t → ⊥) → OneThread s t turn → thread_at turn.0 other ≡ thread_at s other
stay s t other turn differs (inl same) = ap (λ threads. slice_get threads other) same
stay s t other turn differs (inr x) = ap (λ threads. slice_get threads other) x.1 ∙ set_elsewhere s.threads t other x.0 differs

pub turn_stays : (u : Program) (s : State) (t : ℕ) (z : ℤ) (other : ℕ) → (other ≡ t → ⊥) → (x : Option Thread) → thread_at (turn_of u s t z x).0 other ≡ thread_at s other
turn_stays u s t z other differs None = refl
turn_stays u s t z other differs (Some ended) = refl
turn_stays u s t z other differs (Some (trapped frame below)) = refl
turn_stays u s t z other differs (Some (running frame below)) =
    stay s t other (perform u s t frame below z (act_of u frame)) differs (perform_threads u s t frame below z (act_of u frame))

-- turns that wait
abbrev SameWhileWaiting : State → Turn → Type 0
SameWhileWaiting s turn = (lock holder : ℕ) → turn.1 ≡ event.Waits lock holder → turn.0 ≡ s

abbrev HolderHolds : State → Turn → Type 0
HolderHolds s turn = (lock holder : ℕ) → IsLock (lock_at s lock) → turn.1 ≡ event.Waits lock holder → (mode : Mode) × (0 < holds (lock_at s lock) holder mode)

-- an event of another kind
abbrev WaitsNot : Turn → Type 0
WaitsNot turn = (lock holder : ℕ) → turn.1 ≡ event.Waits lock holder → ⊥

not_waiting : (s : State) (turn : Turn) → WaitsNot turn → SameWhileWaiting s turn × HolderHolds s turn
not_waiting s turn never = (λ lock holder e. absurd (never lock holder e), λ lock holder is e. absurd (never lock holder e))

module _ (u : Program) (s : State) (t : ℕ) (frame : Frame) (below : List Frame) where
  abbrev Waiting : Turn → Type 0
  Waiting turn = SameWhileWaiting s turn × HolderHolds s turn

  in_the_way : (mode : Mode) (lock h : ℕ) → take (is_reentrant_at u lock) mode t (lock_at s lock) ≡ blocked h → (other holder : ℕ) → lock ≡ other → h ≡ holder
      → IsLock (lock_at s other) → (m : Mode) × (0 < holds (lock_at s other) holder m)
  in_the_way mode lock h e other holder same_lock same_holder is =
      subst (λ k. (m : Mode) × (0 < holds (lock_at s other) k m)) same_holder
      (subst (λ l. (m : Mode) × (0 < holds (lock_at s l) h m)) same_lock
      (holds_change.waiting (is_reentrant_at u lock) mode t h (lock_at s lock) (subst (λ l. IsLock (lock_at s l)) (sym same_lock) is) e))

  same_first : {a b c d : ℕ} → event.Waits a b ≡ event.Waits c d → a ≡ c
  same_first e = cc

  same_second : {a b c d : ℕ} → event.Waits a b ≡ event.Waits c d → b ≡ d
  same_second e = cc

  take_waits : (mode : Mode) (lock : ℕ) (x : Taking) → take (is_reentrant_at u lock) mode t (lock_at s lock) ≡ x → Waiting (after_take u s t frame below mode lock x)
  take_waits mode lock (taken y) e = not_waiting s _ (λ l h same. cc)
  take_waits mode lock (blocked h) e =
      (λ l k same. refl, λ l k is same. in_the_way mode lock h e l k (same_first same) (same_second same) is)

  try_waits : (mode : Mode) (success : Bool) (lock : ℕ) (x : Taking) → WaitsNot (after_try u s t frame below mode success lock x)
  try_waits mode success lock (taken y) l h same = cc
  try_waits mode success lock (blocked k) l h same = cc

  give_waits : (mode : Mode) (lock : ℕ) (x : Option Lock) → WaitsNot (after_give u s t frame below mode lock x)
  give_waits mode lock (Some y) l h same = cc
  give_waits mode lock None l h same = cc

  ask_waits : (f : ℕ) (kind : Kind) (z : ℤ) → WaitsNot (asking u s t frame below f kind z)
  ask_waits f type.Void z l h same = cc
  ask_waits f kind z l h same = cc

  perform_waits : (z : ℤ) (act : Act) → Waiting (perform u s t frame below z act)
  perform_waits z (to_read place left) = not_waiting s _ (λ l h same. cc)
  perform_waits z (to_write place v) = not_waiting s _ (λ l h same. cc)
  perform_waits z to_step = not_waiting s _ (λ l h same. cc)
  perform_waits z (to_set n v) = not_waiting s _ (λ l h same. cc)
  perform_waits z (to_branch b) = not_waiting s _ (λ l h same. cc)
  perform_waits z (to_choose v) = not_waiting s _ (λ l h same. cc)
  perform_waits z (to_take mode lock) = take_waits mode lock (take (is_reentrant_at u lock) mode t (lock_at s lock)) refl
  perform_waits z (to_try mode success lock) = not_waiting s _ (try_waits mode success lock (take (is_reentrant_at u lock) mode t (lock_at s lock)))
  perform_waits z (to_give mode lock) =
      not_waiting s _ (give_waits (mode_or_held u s t frame below mode lock) lock (give (mode_or_held u s t frame below mode lock) t (lock_at s lock)))
  perform_waits z (to_ask f kind) = not_waiting s _ (ask_waits f kind z)
  perform_waits z (to_enter f args) =
      either Waiting (nat_lt (length below + 1) frame_limit) _ _ (not_waiting s _ (λ l h same. cc)) (not_waiting s _ (λ l h same. cc))
  perform_waits z (to_leave v) = not_waiting s _ (λ l h same. cc)
  perform_waits z (to_trap kind) = not_waiting s _ (λ l h same. cc)

abbrev as_turn : State × Event → Turn
as_turn turn = (turn.0, turn.1.kind)

turn_waits : (u : Program) (s : State) (t : ℕ) (z : ℤ) (x : Option Thread) → SameWhileWaiting s (as_turn (turn_of u s t z x)) × HolderHolds s (as_turn (turn_of u s t z x))
turn_waits u s t z None = not_waiting s _ (λ l h same. cc)
turn_waits u s t z (Some ended) = not_waiting s _ (λ l h same. cc)
turn_waits u s t z (Some (trapped frame below)) = not_waiting s _ (λ l h same. cc)
turn_waits u s t z (Some (running frame below)) = perform_waits u s t frame below z (act_of u frame)

pub nothing_is_done_while_waiting : NothingIsDoneWhileWaiting
unfolding step
nothing_is_done_while_waiting = record {
  same = λ u s pick lock holder e. (turn_waits u s pick.thread pick.answer (thread_at s pick.thread)).0 lock holder e;
  holder = λ u s pick lock holder is e. (turn_waits u s pick.thread pick.answer (thread_at s pick.thread)).1 lock holder is e;
}
