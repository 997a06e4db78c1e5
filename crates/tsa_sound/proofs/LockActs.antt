-- What lock functions do by their attributes: in which mode they take, try and give back, and what that is in holds.
use Rattle.std.proofs.Common.{◌≡◌, ℕ, ◌<◌, nat_eq, Bool, true, false, not, List, Option, Some, None, if◌then◌else◌, refl, ap, sym, subst}
use Rattle.std.proofs.Common.{arith, eq-eqb}
use Rattle.std.proofs.lemmas.Bool.Decides.{nat_tests}
use Rattle.tsa_tree.specs.declared.attr.AttrKind.{AttrKind}
use Rattle.tsa_tree.specs.declared.attr.AttrKind.TheVariants as attr
use Rattle.tsa_core.specs.Programs.{Program}
use Rattle.tsa_rules.specs.declared.status.Status.{Status}
use Rattle.tsa_rules.specs.declared.status.Status.TheVariants as status
use Rattle.tsa_rules.specs.declared.status.Status.TheVariants.{Free, Lent, Pending}
use Rattle.tsa_rules.specs.Effects.{exit_by, same_answer}
use Rattle.tsa_locks.specs.Locks.{Lock, give, given, holds, owned, shared_by}
use Rattle.tsa_sched.specs.declared.event.Mode.{Mode}
use Rattle.tsa_sched.specs.declared.event.Mode.TheVariants.{Exclusive, Shared}
use Rattle.tsa_mean.specs.Acts.{Act, changes_lock, on_lock, to_ask, to_give, to_take, to_try}
use Rattle.tsa_mean.specs.Returns.{if_lock, once}
use Rattle.tsa_mean.specs.Safe.{CanBeGiven}
use Rattle.tsa_mean.specs.States.{Frame, State, lock_at}
use Rattle.tsa_mean.specs.Steps.{mode_or_held}
use Rattle.tsa_sound.specs.Laws.{IsGive, IsTake, IsTry}
use Rattle.tsa_sound.specs.SettledStatuses.{units}
use Rattle.tsa_sound.proofs.Constants.{differ}
use Rattle.tsa_sound.proofs.Tables.{FitsClaim, handed}

-- which attribute takes in which mode, tries, or gives back
abbrev pub IsTaking : AttrKind → Mode → Type 0
IsTaking attr.Acquire Exclusive = Unit {0}
IsTaking attr.AcquireShared Shared = Unit {0}
IsTaking kind mode = ⊥

abbrev pub IsTrying : AttrKind → Mode → Type 0
IsTrying attr.TryAcquire Exclusive = Unit {0}
IsTrying attr.TryAcquireShared Shared = Unit {0}
IsTrying kind mode = ⊥

abbrev pub IsGiving : AttrKind → Option Mode → Type 0
IsGiving attr.Release (Some Exclusive) = Unit {0}
IsGiving attr.ReleaseShared (Some Shared) = Unit {0}
IsGiving attr.ReleaseGeneric None = Unit {0}
IsGiving kind mode = ⊥

same_take : (m n : Mode) (k l : ℕ) → to_take m k ≡ to_take n l → (m ≡ n) × (k ≡ l)
same_take m n k l e = ((let is : m ≡ n = cc in is), (let is : k ≡ l = cc in is))

same_try : (m n : Mode) (b c : Bool) (k l : ℕ) → to_try m b k ≡ to_try n c l → (m ≡ n) × (b ≡ c) × (k ≡ l)
same_try m n b c k l e = ((let is : m ≡ n = cc in is), (let is : b ≡ c = cc in is), (let is : k ≡ l = cc in is))

same_give : (m n : Option Mode) (k l : ℕ) → to_give m k ≡ to_give n l → (m ≡ n) × (k ≡ l)
same_give m n k l e = ((let is : m ≡ n = cc in is), (let is : k ≡ l = cc in is))

pub take_is_not : {A : Type 0} (m : Mode) (k : ℕ) (act : Act) → (IsTake act → ⊥) → to_take m k ≡ act → A
take_is_not m k act not e = absurd (not (subst IsTake e tt))

pub try_is_not : {A : Type 0} (m : Mode) (b : Bool) (k : ℕ) (act : Act) → (IsTry act → ⊥) → to_try m b k ≡ act → A
try_is_not m b k act not e = absurd (not (subst IsTry e tt))

pub give_is_not : {A : Type 0} (m : Option Mode) (k : ℕ) (act : Act) → (IsGive act → ⊥) → to_give m k ≡ act → A
give_is_not m k act not e = absurd (not (subst IsGive e tt))

pub takes_as : (kind : AttrKind) (success : Bool) (lock n : ℕ) (result : _) (mode : Mode) (at : ℕ) → changes_lock kind ≡ true
    → to_take mode at ≡ on_lock kind success lock (to_ask n result)
    → IsTaking kind mode × (at ≡ lock)
takes_as attr.Acquire success lock n result mode at c e = let same = same_take mode Exclusive at lock e in (subst (IsTaking attr.Acquire) (sym same.0) tt, same.1)
takes_as attr.AcquireShared success lock n result mode at c e = let same = same_take mode Shared at lock e in
    (subst (IsTaking attr.AcquireShared) (sym same.0) tt, same.1)
takes_as attr.TryAcquire success lock n result mode at c e = take_is_not mode at _ (λ h. h) e
takes_as attr.TryAcquireShared success lock n result mode at c e = take_is_not mode at _ (λ h. h) e
takes_as attr.Release success lock n result mode at c e = take_is_not mode at _ (λ h. h) e
takes_as attr.ReleaseShared success lock n result mode at c e = take_is_not mode at _ (λ h. h) e
takes_as attr.ReleaseGeneric success lock n result mode at c e = take_is_not mode at _ (λ h. h) e
takes_as kind success lock n result mode at c e = differ c

pub tries_as : (kind : AttrKind) (success : Bool) (lock n : ℕ) (result : _) (mode : Mode) (b : Bool) (at : ℕ) → changes_lock kind ≡ true
    → to_try mode b at ≡ on_lock kind success lock (to_ask n result)
    → IsTrying kind mode × (b ≡ success) × (at ≡ lock)
tries_as attr.TryAcquire success lock n result mode b at c e =
    let same = same_try mode Exclusive b success at lock e in (subst (IsTrying attr.TryAcquire) (sym same.0) tt, same.1, same.2)
tries_as attr.TryAcquireShared success lock n result mode b at c e =
    let same = same_try mode Shared b success at lock e in (subst (IsTrying attr.TryAcquireShared) (sym same.0) tt, same.1, same.2)
tries_as attr.Acquire success lock n result mode b at c e = try_is_not mode b at _ (λ h. h) e
tries_as attr.AcquireShared success lock n result mode b at c e = try_is_not mode b at _ (λ h. h) e
tries_as attr.Release success lock n result mode b at c e = try_is_not mode b at _ (λ h. h) e
tries_as attr.ReleaseShared success lock n result mode b at c e = try_is_not mode b at _ (λ h. h) e
tries_as attr.ReleaseGeneric success lock n result mode b at c e = try_is_not mode b at _ (λ h. h) e
tries_as kind success lock n result mode b at c e = differ c

pub gives_as : (kind : AttrKind) (success : Bool) (lock n : ℕ) (result : _) (mode : Option Mode) (at : ℕ) → changes_lock kind ≡ true
    → to_give mode at ≡ on_lock kind success lock (to_ask n result)
    → IsGiving kind mode × (at ≡ lock)
gives_as attr.Release success lock n result mode at c e = let same = same_give mode (Some Exclusive) at lock e in
    (subst (IsGiving attr.Release) (sym same.0) tt, same.1)
gives_as attr.ReleaseShared success lock n result mode at c e = let same = same_give mode (Some Shared) at lock e in
    (subst (IsGiving attr.ReleaseShared) (sym same.0) tt, same.1)
gives_as attr.ReleaseGeneric success lock n result mode at c e = let same = same_give mode None at lock e in
    (subst (IsGiving attr.ReleaseGeneric) (sym same.0) tt, same.1)
gives_as attr.Acquire success lock n result mode at c e = give_is_not mode at _ (λ h. h) e
gives_as attr.AcquireShared success lock n result mode at c e = give_is_not mode at _ (λ h. h) e
gives_as attr.TryAcquire success lock n result mode at c e = give_is_not mode at _ (λ h. h) e
gives_as attr.TryAcquireShared success lock n result mode at c e = give_is_not mode at _ (λ h. h) e
gives_as kind success lock n result mode at c e = differ c

-- what they are handed, and what they hand back
exclusive_units : (m : Mode) → units (status.Exclusive 1) m ≡ once Exclusive m
exclusive_units Exclusive = refl
exclusive_units Shared = refl

shared_units : (m : Mode) → units status.Shared m ≡ once Shared m
shared_units Exclusive = refl
shared_units Shared = refl

pub take_handed : (kind : AttrKind) (mode : Mode) (s : Status) → IsTaking kind mode → (m : Mode) → units (handed (Some kind) s) m ≡ 0
take_handed attr.Acquire Exclusive s is m = refl
take_handed attr.AcquireShared Shared s is m = refl
take_handed kind mode s is m = absurd is

pub take_back : (kind : AttrKind) (mode : Mode) (t : Bool) → IsTaking kind mode → (m : Mode) → units (exit_by t (Some kind)) m ≡ once mode m
take_back attr.Acquire Exclusive t is m = exclusive_units m
take_back attr.AcquireShared Shared t is m = shared_units m
take_back kind mode t is m = absurd is

pub try_handed : (kind : AttrKind) (mode : Mode) (s : Status) → IsTrying kind mode → (m : Mode) → units (handed (Some kind) s) m ≡ 0
try_handed attr.TryAcquire Exclusive s is m = refl
try_handed attr.TryAcquireShared Shared s is m = refl
try_handed kind mode s is m = absurd is

pub try_back : (kind : AttrKind) (mode : Mode) → IsTrying kind mode → (m : Mode) → units (exit_by true (Some kind)) m ≡ once mode m
try_back attr.TryAcquire Exclusive is m = exclusive_units m
try_back attr.TryAcquireShared Shared is m = shared_units m
try_back kind mode is m = absurd is

pub missed_back : (kind : AttrKind) (mode : Mode) → IsTrying kind mode → (m : Mode) → units (exit_by false (Some kind)) m ≡ 0
missed_back attr.TryAcquire Exclusive is m = refl
missed_back attr.TryAcquireShared Shared is m = refl
missed_back kind mode is m = absurd is

pub give_back : (kind : AttrKind) (mode : Option Mode) (t : Bool) → IsGiving kind mode → (m : Mode) → units (exit_by t (Some kind)) m ≡ 0
give_back attr.Release (Some Exclusive) t is m = refl
give_back attr.ReleaseShared (Some Shared) t is m = refl
give_back attr.ReleaseGeneric None t is m = refl
give_back kind mode t is m = absurd is

abbrev pub IsOfMode : Option Mode → Mode → Type 0
IsOfMode None m = Unit {0}
IsOfMode (Some n) m = n ≡ m

-- one hold of some mode
pub record GivesOne (kind : AttrKind) (mode : Option Mode) (s : Status) : Type 0 where
  pub m : Mode
  pub of_mode : IsOfMode mode m
  pub one : (n : Mode) → units (handed (Some kind) s) n ≡ once m n

pub gives_one : (r : Bool) (kind : AttrKind) (mode : Option Mode) (s : Status) → IsGiving kind mode → FitsClaim r (Some kind) s → GivesOne kind mode s
gives_one r attr.Release (Some Exclusive) s is fits = record { m = Exclusive; of_mode = refl; one = exclusive_units }
gives_one r attr.ReleaseShared (Some Shared) s is fits = record { m = Shared; of_mode = refl; one = shared_units }
gives_one r attr.ReleaseGeneric None (status.Exclusive n) is fits = record { m = Exclusive; of_mode = tt; one = exclusive_units }
gives_one r attr.ReleaseGeneric None status.Shared is fits = record { m = Shared; of_mode = tt; one = shared_units }
gives_one r attr.ReleaseGeneric None Free is fits = absurd fits
gives_one r attr.ReleaseGeneric None Lent is fits = absurd fits
gives_one r attr.ReleaseGeneric None (Pending v) is fits = absurd fits
gives_one r kind mode s is fits = absurd is

pub once_self : (m : Mode) → once m m ≡ 1
once_self Exclusive = refl
once_self Shared = refl

pub here_is : (lock n : ℕ) → if_lock lock (Some lock) n ≡ n
here_is lock n = ap (λ (b : Bool). if b then n else 0) (eq-eqb lock lock refl)

pub same_success : (b : Bool) → same_answer b b ≡ true
same_success true = refl
same_success false = refl

pub other_success : (b : Bool) → same_answer b (not b) ≡ false
other_success true = refl
other_success false = refl

-- a lock that is shared isn't owned
shared_alone : (lock : Lock) (t : ℕ) → 0 < holds lock t Shared → holds lock t Exclusive ≡ 0
shared_alone (owned o n) t some = absurd (omega (arith, some))
shared_alone (shared_by ns) t some = refl

some_is_not_zero : (n : ℕ) → 0 < n → nat_eq n 0 ≡ false
some_is_not_zero n some = grind (arith, nat_tests)

pub gives_held : (mode : Mode) (t : ℕ) (lock : Lock) → 0 < holds lock t mode → give mode t lock ≡ Some (given mode t lock)
gives_held mode t lock some = ap (λ (b : Bool). if b then None else Some (given mode t lock)) (some_is_not_zero (holds lock t mode) some)

pub mode_is : (mode : Option Mode) (m : Mode) (u : Program) (s : State) (t : ℕ) (frame : Frame) (below : List Frame) (lock : ℕ) → IsOfMode mode m
    → 0 < holds (lock_at s lock) t m
    → mode_or_held u s t frame below mode lock ≡ m
mode_is (Some n) m u s t frame below lock of some = of
mode_is None Exclusive u s t frame below lock of some = ap (λ (b : Bool). if b then Shared else Exclusive) (some_is_not_zero (holds (lock_at s lock) t Exclusive) some)
mode_is None Shared u s t frame below lock of some =
    ap (λ n. if nat_eq n 0 then Shared else Exclusive) (shared_alone (lock_at s lock) t some)

pub can_be_given : (held : ℕ → Mode → ℕ) (mode : Option Mode) (m : Mode) (lock : ℕ) → IsOfMode mode m → 0 < held lock m → CanBeGiven held mode lock
can_be_given held None m lock of some = (m, some)
can_be_given held (Some n) m lock of some = subst (λ n. 0 < held lock n) (sym of) some
