-- What a call takes along of one path, and what it leaves: the tables of statuses, as holds.
use Rattle.std.proofs.Common.{◌≡◌, ◌∙◌, ℕ, ◌+◌, ◌-◌, ◌<◌, min, nat_le, nat_lt, Bool, true, false, Option, Some, None, ◌⊎◌, inl, inr}
use Rattle.std.proofs.Common.{if◌then◌else◌, refl, ap, sym, subst, arith}
use Rattle.std.proofs.lemmas.Bool.Decides.{nat_tests}
use Rattle.tsa_tree.specs.declared.attr.AttrKind.{AttrKind}
use Rattle.tsa_tree.specs.declared.attr.AttrKind.TheVariants as attr
use Rattle.tsa_place_model.specs.Ways.{Way}
use Rattle.tsa_core.specs.Programs.{Function, Program}
use Rattle.tsa_rules.specs.Statuses.{IsExclusive, IsHeld, IsTakableAgain, is_possible}
use Rattle.tsa_rules.specs.declared.status.Status.{Status}
use Rattle.tsa_rules.specs.declared.status.Status.TheVariants as status
use Rattle.tsa_rules.specs.declared.status.Status.TheVariants.{Free, Lent, Pending}
use Rattle.tsa_rules.specs.Attributes.{claims, is_try}
use Rattle.tsa_rules.specs.Effects.{Attempt, after_attempt, after_attribute, deeper, entry_by, exit_by, given_back, if_taken, taken_by}
use Rattle.tsa_rules.specs.Fits.{FitsAcquire, FitsMode, FitsRelease, FitsRequires, FitsRequiresShared}
use Rattle.tsa_sched.specs.declared.event.Mode.{Mode}
use Rattle.tsa_sched.specs.declared.event.Mode.TheVariants.{Exclusive, Shared}
use Rattle.tsa_mean.specs.Working.{Locals}
use Rattle.tsa_sound.specs.FramesFit.{kept_back}
use Rattle.tsa_sound.specs.SettledStatuses.{settled, units}
use Rattle.tsa_sound.proofs.Constants.{both, differ}
use Rattle.tsa_sound.proofs.Deciding.{IsSettled, free, shared, exclusive, lent, not_pending, settled_is}

-- a lock that is taken alone
abbrev pub taken_alone : (is_reentrant : Bool) → Status → Status
taken_alone false s = status.Exclusive 1
taken_alone true s = deeper s

-- what a call leaves of a path, where the answer of a try is known
abbrev pub left_by_call : (is_reentrant is_taken : Bool) → Option AttrKind → Status → Status
left_by_call r t None s = s
left_by_call r t (Some attr.Acquire) s = taken_alone r s
left_by_call r t (Some attr.AcquireShared) s = status.Shared
left_by_call r t (Some attr.TryAcquire) s = if_taken t (status.Exclusive 1)
left_by_call r t (Some attr.TryAcquireShared) s = if_taken t status.Shared
left_by_call r t (Some attr.Release) s = given_back s
left_by_call r t (Some attr.ReleaseShared) s = given_back s
left_by_call r t (Some attr.ReleaseGeneric) s = given_back s
left_by_call r t (Some kind) s = s

-- what a call is handed of a path: one hold of what it requires or gives back
abbrev pub handed : Option AttrKind → Status → Status
handed None s = Free
handed (Some attr.ReleaseGeneric) (status.Exclusive n) = status.Exclusive 1
handed (Some attr.ReleaseGeneric) status.Shared = status.Shared
handed (Some attr.ReleaseGeneric) s = Free
handed (Some kind) s = entry_by (Some kind)

-- What holds of the status of a path that an attribute of the call claims.
abbrev pub IsOwned : Status → Type 0
IsOwned (status.Exclusive n) = 0 < n
IsOwned s = ⊥

abbrev pub IsOwnedOrShared : Status → Type 0
IsOwnedOrShared (status.Exclusive n) = 0 < n
IsOwnedOrShared status.Shared = Unit {0}
IsOwnedOrShared s = ⊥

abbrev pub FitsTaking : (is_reentrant : Bool) → Status → Type 0
FitsTaking false s = s ≡ Free
FitsTaking true s = IsTakableAgain s

abbrev pub FitsClaim : (is_reentrant : Bool) → Option AttrKind → Status → Type 0
FitsClaim r None s = Unit {0}
FitsClaim r (Some attr.Requires) s = IsOwned s
FitsClaim r (Some attr.RequiresShared) s = IsHeld s
FitsClaim r (Some attr.Acquire) s = FitsTaking r s
FitsClaim r (Some attr.AcquireShared) s = s ≡ Free
FitsClaim r (Some attr.TryAcquire) s = s ≡ Free
FitsClaim r (Some attr.TryAcquireShared) s = s ≡ Free
FitsClaim r (Some attr.Release) s = IsOwned s
FitsClaim r (Some attr.ReleaseShared) s = s ≡ status.Shared
FitsClaim r (Some attr.ReleaseGeneric) s = IsOwnedOrShared s
FitsClaim r (Some kind) s = Unit {0}

-- the rules give it
owned : (r : Bool) (tries : ℕ) (s : Status) → is_possible r tries s ≡ true → IsExclusive s → IsOwned s
owned r tries (status.Exclusive n) possible is = let l : nat_le 1 n ≡ true = (both (nat_le 1 n) _ possible).0 in grind (arith, nat_tests)
owned r tries Free possible is = absurd is
owned r tries status.Shared possible is = absurd is
owned r tries Lent possible is = absurd is
owned r tries (Pending v) possible is = absurd is

released : (r : Bool) (tries : ℕ) (s : Status) → is_possible r tries s ≡ true → IsHeld s → FitsMode attr.Release s → IsOwned s
released r tries (status.Exclusive n) possible held mode = owned r tries (status.Exclusive n) possible tt
released r tries Free possible held mode = absurd held
released r tries status.Shared possible held mode = absurd mode
released r tries Lent possible held mode = absurd mode
released r tries (Pending v) possible held mode = absurd held

released_shared : (s : Status) → IsHeld s → FitsMode attr.ReleaseShared s → s ≡ status.Shared
released_shared (status.Exclusive n) held mode = absurd mode
released_shared Free held mode = absurd held
released_shared status.Shared held mode = refl
released_shared Lent held mode = absurd mode
released_shared (Pending v) held mode = absurd held

released_any : (r : Bool) (tries : ℕ) (s : Status) → is_possible r tries s ≡ true → IsHeld s → FitsMode attr.ReleaseGeneric s → IsOwnedOrShared s
released_any r tries (status.Exclusive n) possible held mode = owned r tries (status.Exclusive n) possible tt
released_any r tries Free possible held mode = absurd held
released_any r tries status.Shared possible held mode = tt
released_any r tries Lent possible held mode = absurd mode
released_any r tries (Pending v) possible held mode = absurd held

pub fits_claim : (r : Bool) (tries : ℕ) (kind : AttrKind) (s : Status) → is_possible r tries s ≡ true → FitsRequires kind s → FitsRequiresShared kind s
    → FitsAcquire r kind s
    → FitsRelease kind s → FitsMode kind s → FitsClaim r (Some kind) s
fits_claim r tries attr.Requires s possible requires requires_shared acquire release mode = owned r tries s possible requires
fits_claim r tries attr.RequiresShared s possible requires requires_shared acquire release mode = requires_shared
fits_claim false tries attr.Acquire s possible requires requires_shared acquire release mode = acquire
fits_claim true tries attr.Acquire s possible requires requires_shared acquire release mode = acquire
fits_claim false tries attr.AcquireShared s possible requires requires_shared acquire release mode = acquire
fits_claim true tries attr.AcquireShared s possible requires requires_shared acquire release mode = acquire
fits_claim false tries attr.TryAcquire s possible requires requires_shared acquire release mode = acquire
fits_claim true tries attr.TryAcquire s possible requires requires_shared acquire release mode = acquire
fits_claim false tries attr.TryAcquireShared s possible requires requires_shared acquire release mode = acquire
fits_claim true tries attr.TryAcquireShared s possible requires requires_shared acquire release mode = acquire
fits_claim r tries attr.Release s possible requires requires_shared acquire release mode = released r tries s possible release mode
fits_claim r tries attr.ReleaseShared s possible requires requires_shared acquire release mode = released_shared s release mode
fits_claim r tries attr.ReleaseGeneric s possible requires requires_shared acquire release mode = released_any r tries s possible release mode
fits_claim r tries attr.Capability s possible requires requires_shared acquire release mode = tt
fits_claim r tries attr.GuardedBy s possible requires requires_shared acquire release mode = tt
fits_claim r tries attr.Excludes s possible requires requires_shared acquire release mode = tt
fits_claim r tries attr.AcquiredBefore s possible requires requires_shared acquire release mode = tt
fits_claim r tries attr.AcquiredAfter s possible requires requires_shared acquire release mode = tt

-- such a status is settled
owned_settled : (s : Status) → IsOwned s → IsSettled s
owned_settled (status.Exclusive n) is = exclusive n
owned_settled Free is = absurd is
owned_settled status.Shared is = absurd is
owned_settled Lent is = absurd is
owned_settled (Pending v) is = absurd is

shared_settled : (s : Status) → IsOwnedOrShared s → IsSettled s
shared_settled (status.Exclusive n) is = exclusive n
shared_settled Free is = absurd is
shared_settled status.Shared is = shared
shared_settled Lent is = absurd is
shared_settled (Pending v) is = absurd is

pub held_settled : (s : Status) → IsHeld s → IsSettled s
held_settled (status.Exclusive n) is = exclusive n
held_settled Free is = absurd is
held_settled status.Shared is = shared
held_settled Lent is = lent
held_settled (Pending v) is = absurd is

again_settled : (s : Status) → IsTakableAgain s → IsSettled s
again_settled (status.Exclusive n) is = exclusive n
again_settled Free is = free
again_settled status.Shared is = absurd is
again_settled Lent is = absurd is
again_settled (Pending v) is = absurd is

free_settled : (s : Status) → s ≡ Free → IsSettled s
free_settled s is = subst IsSettled (sym is) free

pub claim_settled : (r : Bool) (kind : AttrKind) (s : Status) → claims kind ≡ true → FitsClaim r (Some kind) s → IsSettled s
claim_settled r attr.Requires s c is = owned_settled s is
claim_settled r attr.RequiresShared s c is = held_settled s is
claim_settled false attr.Acquire s c is = free_settled s is
claim_settled true attr.Acquire s c is = again_settled s is
claim_settled r attr.AcquireShared s c is = free_settled s is
claim_settled r attr.TryAcquire s c is = free_settled s is
claim_settled r attr.TryAcquireShared s c is = free_settled s is
claim_settled r attr.Release s c is = owned_settled s is
claim_settled r attr.ReleaseShared s c is = subst IsSettled (sym is) shared
claim_settled r attr.ReleaseGeneric s c is = shared_settled s is
claim_settled r attr.Capability s c is = differ c
claim_settled r attr.GuardedBy s c is = differ c
claim_settled r attr.Excludes s c is = differ c
claim_settled r attr.AcquiredBefore s c is = differ c
claim_settled r attr.AcquiredAfter s c is = differ c

deeper_settled : (s : Status) → IsSettled (deeper s)
deeper_settled (status.Exclusive n) = exclusive (min (n + 1) 7)
deeper_settled Free = exclusive 1
deeper_settled status.Shared = exclusive 1
deeper_settled Lent = exclusive 1
deeper_settled (Pending v) = exclusive 1

less_settled : (b : Bool) (n : ℕ) → IsSettled (if b then status.Exclusive n else Free)
less_settled true n = exclusive n
less_settled false n = free

given_settled : (s : Status) → IsSettled (given_back s)
given_settled (status.Exclusive n) = less_settled (nat_lt 1 n) (n - 1)
given_settled Free = free
given_settled status.Shared = free
given_settled Lent = lent
given_settled (Pending v) = free

-- What a call leaves of a path that it claims is what the table says of its settled status.
module _ (u : Program) (f : Function) (old new : Locals) (c : Way) (r t : Bool) (attempt : Attempt) where
  by_table : (kind : AttrKind) (s after : Status) → IsSettled s → IsSettled after → after ≡ left_by_call r t (Some kind) s
      → settled u f new c after ≡ left_by_call r t (Some kind) (settled u f old c s)
  by_table kind s after is settles table = settled_is u f new c after settles ∙ (table ∙ ap (left_by_call r t (Some kind)) (sym (settled_is u f old c s is)))

  pub call_settled : (kind : AttrKind) (s : Status) → claims kind ≡ true → FitsClaim r (Some kind) s
      → (is_try kind ≡ true → settled u f new c (after_attempt attempt (taken_by kind) Free) ≡ if_taken t (taken_by kind))
      → settled u f new c (after_attribute r attempt kind s) ≡ left_by_call r t (Some kind) (settled u f old c s)
  call_settled attr.Requires s claimed fits told = by_table attr.Requires s s (owned_settled s fits) (owned_settled s fits) refl
  call_settled attr.RequiresShared s claimed fits told = by_table attr.RequiresShared s s (held_settled s fits) (held_settled s fits) refl
  call_settled attr.Acquire s claimed fits told = by_table attr.Acquire s (after_attribute r attempt attr.Acquire s) (claim_settled r attr.Acquire s refl fits)
      (taken_settled r) (table r)
    where
      taken_settled : (r : Bool) → IsSettled (after_attribute r attempt attr.Acquire s)
      taken_settled true = deeper_settled s
      taken_settled false = exclusive 1

      table : (r : Bool) → after_attribute r attempt attr.Acquire s ≡ left_by_call r t (Some attr.Acquire) s
      table true = refl
      table false = refl
  call_settled attr.AcquireShared s claimed fits told = refl
  call_settled attr.TryAcquire s claimed fits told = ap (λ s. settled u f new c (after_attempt attempt (status.Exclusive 1) s)) fits ∙ told refl
  call_settled attr.TryAcquireShared s claimed fits told = ap (λ s. settled u f new c (after_attempt attempt status.Shared s)) fits ∙ told refl
  call_settled attr.Release s claimed fits told = by_table attr.Release s (given_back s) (owned_settled s fits) (given_settled s) refl
  call_settled attr.ReleaseShared s claimed fits told = by_table attr.ReleaseShared s (given_back s) (subst IsSettled (sym fits) shared) (given_settled s) refl
  call_settled attr.ReleaseGeneric s claimed fits told = by_table attr.ReleaseGeneric s (given_back s) (shared_settled s fits) (given_settled s) refl
  call_settled attr.Capability s claimed fits told = differ claimed
  call_settled attr.GuardedBy s claimed fits told = differ claimed
  call_settled attr.Excludes s claimed fits told = differ claimed
  call_settled attr.AcquiredBefore s claimed fits told = differ claimed
  call_settled attr.AcquiredAfter s claimed fits told = differ claimed

-- what is pending behind a call is what it tried
pub call_pending : (r : Bool) (attempt : Attempt) (kind : AttrKind) (s : Status) → claims kind ≡ true → FitsClaim r (Some kind) s → (v : ℕ)
    → after_attribute r attempt kind s ≡ Pending v
    → (is_try kind ≡ true) × (after_attempt attempt (taken_by kind) Free ≡ Pending v)
call_pending r attempt attr.Requires s claimed fits v e = not_pending s v (owned_settled s fits) e
call_pending r attempt attr.RequiresShared s claimed fits v e = not_pending s v (held_settled s fits) e
call_pending false attempt attr.Acquire s claimed fits v e = not_pending (status.Exclusive 1) v (exclusive 1) e
call_pending true attempt attr.Acquire s claimed fits v e = not_pending (deeper s) v (deeper_settled s) e
call_pending r attempt attr.AcquireShared s claimed fits v e = not_pending status.Shared v shared e
call_pending r attempt attr.TryAcquire s claimed fits v e = (refl, ap (after_attempt attempt (status.Exclusive 1)) (sym fits) ∙ e)
call_pending r attempt attr.TryAcquireShared s claimed fits v e = (refl, ap (after_attempt attempt status.Shared) (sym fits) ∙ e)
call_pending r attempt attr.Release s claimed fits v e = not_pending (given_back s) v (given_settled s) e
call_pending r attempt attr.ReleaseShared s claimed fits v e = not_pending (given_back s) v (given_settled s) e
call_pending r attempt attr.ReleaseGeneric s claimed fits v e = not_pending (given_back s) v (given_settled s) e
call_pending r attempt attr.Capability s claimed fits v e = differ claimed
call_pending r attempt attr.GuardedBy s claimed fits v e = differ claimed
call_pending r attempt attr.Excludes s claimed fits v e = differ claimed
call_pending r attempt attr.AcquiredBefore s claimed fits v e = differ claimed
call_pending r attempt attr.AcquiredAfter s claimed fits v e = differ claimed

-- One hold less, and one more.
less_by : (n : ℕ) → 0 < n → (b : Bool) → nat_lt 1 n ≡ b → (mode : Mode)
    → units (status.Exclusive n) mode ≡ units (if b then status.Exclusive (n - 1) else Free) mode + units (status.Exclusive 1) mode
less_by n some true e Exclusive = omega (arith, some)
less_by n some true e Shared = refl
less_by n some false e Exclusive = let one : n ≡ 1 = grind (arith, nat_tests) in omega (arith, one)
less_by n some false e Shared = refl

less_units : (s : Status) → IsOwned s → (mode : Mode) → units s mode ≡ units (given_back s) mode + units (status.Exclusive 1) mode
less_units (status.Exclusive n) is mode = less_by n is (nat_lt 1 n) refl mode
less_units Free is mode = absurd is
less_units status.Shared is mode = absurd is
less_units Lent is mode = absurd is
less_units (Pending v) is mode = absurd is

no_more : (n : ℕ) → n ≡ n + 0
no_more n = omega arith

more_units : (s : Status) → IsTakableAgain s → (mode : Mode) → units (deeper s) mode ≡ units s mode + units (status.Exclusive 1) mode
more_units (status.Exclusive n) is Exclusive = omega (arith, is)
more_units (status.Exclusive n) is Shared = refl
more_units Free is mode = omega arith
more_units status.Shared is mode = absurd is
more_units Lent is mode = absurd is
more_units (Pending v) is mode = absurd is

from_free : (s t : Status) → s ≡ Free → (mode : Mode) → units t mode ≡ units s mode + units t mode
from_free s t is mode = let none : units s mode ≡ 0 = ap (λ s. units s mode) is in omega (arith, none)

-- what is left is what the caller keeps with what the call hands back
pub after_units : (r t : Bool) (kind : Option AttrKind) (s : Status) → FitsClaim r kind s → (mode : Mode)
    → units (left_by_call r t kind s) mode ≡ units (kept_back kind s) mode + units (exit_by t kind) mode
after_units r t None s fits mode = no_more (units s mode)
after_units r t (Some attr.Requires) s fits mode = less_units s fits mode
after_units r t (Some attr.RequiresShared) s fits mode = no_more (units s mode)
after_units false t (Some attr.Acquire) s fits mode = from_free s (status.Exclusive 1) fits mode
after_units true t (Some attr.Acquire) s fits mode = more_units s fits mode
after_units r t (Some attr.AcquireShared) s fits mode = from_free s status.Shared fits mode
after_units r t (Some attr.TryAcquire) s fits mode = from_free s (if_taken t (status.Exclusive 1)) fits mode
after_units r t (Some attr.TryAcquireShared) s fits mode = from_free s (if_taken t status.Shared) fits mode
after_units r t (Some attr.Release) s fits mode = no_more (units (given_back s) mode)
after_units r t (Some attr.ReleaseShared) s fits mode = no_more (units (given_back s) mode)
after_units r t (Some attr.ReleaseGeneric) s fits mode = no_more (units (given_back s) mode)
after_units r t (Some attr.Capability) s fits mode = no_more (units s mode)
after_units r t (Some attr.GuardedBy) s fits mode = no_more (units s mode)
after_units r t (Some attr.Excludes) s fits mode = no_more (units s mode)
after_units r t (Some attr.AcquiredBefore) s fits mode = no_more (units s mode)
after_units r t (Some attr.AcquiredAfter) s fits mode = no_more (units s mode)

any_units : (s : Status) → IsOwnedOrShared s → (mode : Mode) → units s mode ≡ units (given_back s) mode + units (handed (Some attr.ReleaseGeneric) s) mode
any_units (status.Exclusive n) is mode = less_by n is (nat_lt 1 n) refl mode
any_units status.Shared is mode = omega arith
any_units Free is mode = absurd is
any_units Lent is mode = absurd is
any_units (Pending v) is mode = absurd is

shared_units : (s : Status) → s ≡ status.Shared → (mode : Mode) → units s mode ≡ units (given_back s) mode + units status.Shared mode
shared_units s is mode =
    let one : units s mode ≡ units status.Shared mode = ap (λ s. units s mode) is in
    let none : units (given_back s) mode ≡ 0 = ap (λ s. units (given_back s) mode) is in
    omega (arith, one, none)

-- and what is there before is what the caller keeps with what the call is handed
pub before_units : (r : Bool) (kind : Option AttrKind) (s : Status) → FitsClaim r kind s → (mode : Mode)
    → units s mode ≡ units (kept_back kind s) mode + units (handed kind s) mode
before_units r None s fits mode = no_more (units s mode)
before_units r (Some attr.Requires) s fits mode = less_units s fits mode
before_units r (Some attr.RequiresShared) s fits mode = no_more (units s mode)
before_units r (Some attr.Acquire) s fits mode = no_more (units s mode)
before_units r (Some attr.AcquireShared) s fits mode = no_more (units s mode)
before_units r (Some attr.TryAcquire) s fits mode = no_more (units s mode)
before_units r (Some attr.TryAcquireShared) s fits mode = no_more (units s mode)
before_units r (Some attr.Release) s fits mode = less_units s fits mode
before_units r (Some attr.ReleaseShared) s fits mode = shared_units s fits mode
before_units r (Some attr.ReleaseGeneric) s fits mode = any_units s fits mode
before_units r (Some attr.Capability) s fits mode = no_more (units s mode)
before_units r (Some attr.GuardedBy) s fits mode = no_more (units s mode)
before_units r (Some attr.Excludes) s fits mode = no_more (units s mode)
before_units r (Some attr.AcquiredBefore) s fits mode = no_more (units s mode)
before_units r (Some attr.AcquiredAfter) s fits mode = no_more (units s mode)

-- what is left lent was lent, and what is left at all was there or is handed back
given_lent : (s : Status) → given_back s ≡ Lent → s ≡ Lent
given_lent Lent e = refl
given_lent Free e = absurd cc
given_lent status.Shared e = absurd cc
given_lent (status.Exclusive n) e = by (nat_lt 1 n) e
  where
    by : (b : Bool) → (if b then status.Exclusive (n - 1) else Free) ≡ Lent → status.Exclusive n ≡ Lent
    by true e = absurd cc
    by false e = absurd cc
given_lent (Pending v) e = absurd cc

if_lent : {A : Type 0} (t : Bool) (s : Status) → (s ≡ Lent → ⊥) → if_taken t s ≡ Lent → A
if_lent true s not e = absurd (not e)
if_lent false s not e = absurd cc

exclusive_lent : (n : ℕ) → status.Exclusive n ≡ Lent → ⊥
exclusive_lent n e = cc

shared_lent : status.Shared ≡ Lent → ⊥
shared_lent e = cc

deeper_lent : (s : Status) → deeper s ≡ Lent → s ≡ Lent
deeper_lent (status.Exclusive n) e = absurd (exclusive_lent (min (n + 1) 7) e)
deeper_lent Free e = absurd (exclusive_lent 1 e)
deeper_lent status.Shared e = absurd (exclusive_lent 1 e)
deeper_lent Lent e = refl
deeper_lent (Pending v) e = absurd (exclusive_lent 1 e)

pub left_lent : (r t : Bool) (kind : Option AttrKind) (s : Status) → left_by_call r t kind s ≡ Lent → s ≡ Lent
left_lent r t None s e = e
left_lent r t (Some attr.Requires) s e = e
left_lent r t (Some attr.RequiresShared) s e = e
left_lent false t (Some attr.Acquire) s e = absurd (exclusive_lent 1 e)
left_lent true t (Some attr.Acquire) s e = deeper_lent s e
left_lent r t (Some attr.AcquireShared) s e = absurd (shared_lent e)
left_lent r t (Some attr.TryAcquire) s e = if_lent t (status.Exclusive 1) (exclusive_lent 1) e
left_lent r t (Some attr.TryAcquireShared) s e = if_lent t status.Shared shared_lent e
left_lent r t (Some attr.Release) s e = given_lent s e
left_lent r t (Some attr.ReleaseShared) s e = given_lent s e
left_lent r t (Some attr.ReleaseGeneric) s e = given_lent s e
left_lent r t (Some attr.Capability) s e = e
left_lent r t (Some attr.GuardedBy) s e = e
left_lent r t (Some attr.Excludes) s e = e
left_lent r t (Some attr.AcquiredBefore) s e = e
left_lent r t (Some attr.AcquiredAfter) s e = e

exclusive_free : (n : ℕ) → status.Exclusive n ≡ Free → ⊥
exclusive_free n e = cc

shared_free : status.Shared ≡ Free → ⊥
shared_free e = cc

pub left_some : (r t : Bool) (kind : Option AttrKind) (s : Status) → (left_by_call r t kind s ≡ Free → ⊥) → (s ≡ Free → ⊥) ⊎ (exit_by t kind ≡ Free → ⊥)
left_some r t None s some = inl some
left_some r t (Some attr.Requires) s some = inl some
left_some r t (Some attr.RequiresShared) s some = inl some
left_some r t (Some attr.Acquire) s some = inr (exclusive_free 1)
left_some r t (Some attr.AcquireShared) s some = inr shared_free
left_some r t (Some attr.TryAcquire) s some = inr some
left_some r t (Some attr.TryAcquireShared) s some = inr some
left_some r t (Some attr.Release) s some = inl (λ e. some (ap given_back e))
left_some r t (Some attr.ReleaseShared) s some = inl (λ e. some (ap given_back e))
left_some r t (Some attr.ReleaseGeneric) s some = inl (λ e. some (ap given_back e))
left_some r t (Some attr.Capability) s some = inl some
left_some r t (Some attr.GuardedBy) s some = inl some
left_some r t (Some attr.Excludes) s some = inl some
left_some r t (Some attr.AcquiredBefore) s some = inl some
left_some r t (Some attr.AcquiredAfter) s some = inl some
