-- What takings and givings do to the holds of threads.
use Rattle.std.proofs.Common.{◌≡◌, ◌∙◌, ℕ, zero, suc, ◌+◌, ◌<◌, nat_eq, Bool, true, false, List, [], ◌∷◌, Option, Some, None, if◌then◌else◌}
use Rattle.std.proofs.Common.{refl, sym, ap, subst, arith, true≢false, eq-eqb, eqb-true}
use Rattle.std.proofs.Math.Decide.{ℕ_discrete}
use Rattle.tsa_locks.specs.Laws.{HasOneMore, HoldsChange, IsLock}
use Rattle.tsa_locks.specs.Locks.{blocked, by_owner, count_of, Exclusive, given, holds, Lock, Mode, one_less, one_more, owned, owned_less}
use Rattle.tsa_locks.specs.Locks.{Shared, shared_by, sharer_from, take, taken, unless_shared}

pub same_taken : {a b : Lock} → taken a ≡ taken b → a ≡ b
same_taken e = cc

same_blocked : {a b : ℕ} → blocked a ≡ blocked b → a ≡ b
same_blocked e = cc

never : {a : Lock} {b : ℕ} {A : Type 0} → taken a ≡ blocked b → A
never e = cc

pub same_some : {a b : Lock} → Some a ≡ Some b → a ≡ b
same_some e = cc

none_some : {a : Lock} {A : Type 0} → None ≡ Some a → A
none_some e = cc

-- counts of a list
pub one_more_at : (ns : List ℕ) (t : ℕ) → count_of (one_more ns t) t ≡ count_of ns t + 1
unfolding count_of one_more
one_more_at [] zero = refl
one_more_at [] (suc t) = one_more_at [] t
one_more_at (n ∷ ns) zero = omega arith
one_more_at (n ∷ ns) (suc t) = one_more_at ns t

pub none_more_at : (ns : List ℕ) (t u : ℕ) → (u ≡ t → ⊥) → count_of (one_more ns t) u ≡ count_of ns u
unfolding count_of one_more
none_more_at [] zero zero other = absurd (other refl)
none_more_at [] zero (suc u) other = refl
none_more_at [] (suc t) zero other = refl
none_more_at [] (suc t) (suc u) other = none_more_at [] t u (λ e. other (ap suc e))
none_more_at (n ∷ ns) zero zero other = absurd (other refl)
none_more_at (n ∷ ns) zero (suc u) other = refl
none_more_at (n ∷ ns) (suc t) zero other = refl
none_more_at (n ∷ ns) (suc t) (suc u) other = none_more_at ns t u (λ e. other (ap suc e))

pub one_less_at : (ns : List ℕ) (t : ℕ) → 0 < count_of ns t → count_of ns t ≡ count_of (one_less ns t) t + 1
unfolding count_of one_less
one_less_at [] t some = absurd (omega (arith, some))
one_less_at (zero ∷ ns) zero some = absurd (omega (arith, some))
one_less_at (suc n ∷ ns) zero some = omega arith
one_less_at (n ∷ ns) (suc t) some = one_less_at ns t some

pub none_less_at : (ns : List ℕ) (t u : ℕ) → (u ≡ t → ⊥) → count_of ns u ≡ count_of (one_less ns t) u
unfolding count_of one_less
none_less_at [] t u other = refl
none_less_at (n ∷ ns) zero zero other = absurd (other refl)
none_less_at (n ∷ ns) zero (suc u) other = refl
none_less_at (n ∷ ns) (suc t) zero other = refl
none_less_at (n ∷ ns) (suc t) (suc u) other = none_less_at ns t u (λ e. other (ap suc e))

-- the first sharer shares, and where there is none nobody does
pub no_sharer : (from : ℕ) (ns : List ℕ) → sharer_from from ns ≡ None → (t : ℕ) → count_of ns t ≡ 0
unfolding count_of sharer_from
no_sharer from [] e t = refl
no_sharer from (zero ∷ ns) e zero = refl
no_sharer from (zero ∷ ns) e (suc t) = no_sharer (from + 1) ns e t
no_sharer from (suc n ∷ ns) e t = cc

pub sharer_shares : (from : ℕ) (ns : List ℕ) (t : ℕ) → sharer_from from ns ≡ Some t → (k : ℕ) × ((t ≡ from + k) × (0 < count_of ns k))
unfolding count_of sharer_from
sharer_shares from [] t e = cc
sharer_shares from (zero ∷ ns) t e = let x = sharer_shares (from + 1) ns t e in (suc x.0, (omega (arith, x.1.0), x.1.1))
sharer_shares from (suc n ∷ ns) t e = let same : from ≡ t = cc in (0, (omega (arith, same), omega arith))

-- the holds of an owner
pub owner_holds : (t n : ℕ) → holds (owned t n) t Exclusive ≡ n
owner_holds t n = by (nat_eq t t) (eq-eqb t t refl)
  where
    by : (b : Bool) → b ≡ true → (if b then n else 0) ≡ n
    by true e = refl
    by false e = absurd (true≢false (sym e))

pub none_holds : (o n t : ℕ) → (t ≡ o → ⊥) → holds (owned o n) t Exclusive ≡ 0
none_holds o n t other = by (nat_eq o t) (λ e. other (sym (eqb-true o t e)))
  where
    by : (b : Bool) → (b ≡ true → ⊥) → (if b then n else 0) ≡ 0
    by true wrong = absurd (wrong refl)
    by false wrong = refl

-- the owner takes it once more, or somebody takes a free one
owned_more : (o n : ℕ) → 0 < n + 1 → HasOneMore (owned o n) (owned o (n + 1)) o Exclusive
owned_more o n some = record { more = owner_holds o (n + 1) ∙ sym (ap (λ k. k + 1) (owner_holds o n)); others = others; is_lock = some }
  where
    others : (t : ℕ) (m : Mode) → (t ≡ o → m ≡ Exclusive → ⊥) → holds (owned o (n + 1)) t m ≡ holds (owned o n) t m
    others t Exclusive other = none_holds o (n + 1) t (λ e. other e refl) ∙ sym (none_holds o n t (λ e. other e refl))
    others t Shared other = refl

from_free : (t : ℕ) (ns : List ℕ) → ((u : ℕ) → count_of ns u ≡ 0) → HasOneMore (shared_by ns) (owned t 1) t Exclusive
from_free t ns none = record { more = owner_holds t 1; others = others; is_lock = omega arith }
  where
    others : (u : ℕ) (m : Mode) → (u ≡ t → m ≡ Exclusive → ⊥) → holds (owned t 1) u m ≡ holds (shared_by ns) u m
    others u Exclusive other = none_holds t 1 u (λ e. other e refl)
    others u Shared other = sym (none u)

shared_more : (t : ℕ) (ns : List ℕ) → HasOneMore (shared_by ns) (shared_by (one_more ns t)) t Shared
shared_more t ns = record { more = one_more_at ns t; others = others; is_lock = tt }
  where
    others : (u : ℕ) (m : Mode) → (u ≡ t → m ≡ Shared → ⊥) → holds (shared_by (one_more ns t)) u m ≡ holds (shared_by ns) u m
    others u Exclusive other = refl
    others u Shared other = none_more_at ns t u (λ e. other e refl)

taking_owned : (r b : Bool) (t o n : ℕ) (new : Lock) → nat_eq o t ≡ b → by_owner r b o n ≡ taken new → HasOneMore (owned o n) new t Exclusive
taking_owned true true t o n new same e =
    subst (λ l. HasOneMore (owned o n) l t Exclusive) (same_taken e) (subst (λ u. HasOneMore (owned o n) (owned o (n + 1)) u Exclusive) (eqb-true o t same) (owned_more o n (omega arith)))
taking_owned true false t o n new same e = never (sym e)
taking_owned false b t o n new same e = never (sym e)

taking_shared : (t : ℕ) (ns : List ℕ) (first : Option ℕ) (new : Lock) → sharer_from 0 ns ≡ first → unless_shared t first ≡ taken new → HasOneMore (shared_by ns) new t Exclusive
taking_shared t ns None new is e = subst (λ l. HasOneMore (shared_by ns) l t Exclusive) (same_taken e) (from_free t ns (no_sharer 0 ns is))
taking_shared t ns (Some holder) new is e = never (sym e)

taking : (r : Bool) (m : Mode) (t : ℕ) (old new : Lock) → IsLock old → take r m t old ≡ taken new → HasOneMore old new t m
taking r Exclusive t (owned o n) new is e = taking_owned r (nat_eq o t) t o n new refl e
taking r Exclusive t (shared_by ns) new is e = taking_shared t ns (sharer_from 0 ns) new refl e
taking r Shared t (owned o n) new is e = never (sym e)
taking r Shared t (shared_by ns) new is e = subst (λ l. HasOneMore (shared_by ns) l t Shared) (same_taken e) (shared_more t ns)

-- what is given back
nobody : (u : ℕ) → count_of [] u ≡ 0
unfolding count_of
nobody u = refl

less_owned : (o n : ℕ) → 0 < n → HasOneMore (owned_less o n) (owned o n) o Exclusive
less_owned o zero some = absurd (omega (arith, some))
less_owned o (suc zero) some = from_free o [] nobody
less_owned o (suc (suc n)) some = subst (λ k. HasOneMore (owned o (suc n)) (owned o k) o Exclusive) (omega arith) (owned_more o (suc n) (omega arith))

shared_less : (t : ℕ) (ns : List ℕ) → 0 < count_of ns t → HasOneMore (shared_by (one_less ns t)) (shared_by ns) t Shared
shared_less t ns some = record { more = one_less_at ns t some; others = others; is_lock = tt }
  where
    others : (u : ℕ) (m : Mode) → (u ≡ t → m ≡ Shared → ⊥) → holds (shared_by ns) u m ≡ holds (shared_by (one_less ns t)) u m
    others u Exclusive other = refl
    others u Shared other = none_less_at ns t u (λ e. other e refl)

given_less : (m : Mode) (t : ℕ) (old : Lock) → IsLock old → 0 < holds old t m → HasOneMore (given m t old) old t m
given_less Exclusive t (owned o n) is some = elim (ℕ_discrete t o) [
  | yes e ↦ subst (λ u. HasOneMore (owned_less o n) (owned o n) u Exclusive) (sym e) (less_owned o n is)
  | no other ↦ absurd (let none = none_holds o n t other in omega (arith, some, none))
]
given_less Shared t (owned o n) is some = absurd (omega (arith, some))
given_less Exclusive t (shared_by ns) is some = absurd (omega (arith, some))
given_less Shared t (shared_by ns) is some = shared_less t ns some

giving_by : (m : Mode) (t : ℕ) (old new : Lock) → IsLock old → (b : Bool) → nat_eq (holds old t m) 0 ≡ b → (if b then None else Some (given m t old)) ≡ Some new → HasOneMore new old t m
giving_by m t old new is true none e = none_some e
giving_by m t old new is false some e = subst (λ l. HasOneMore l old t m) (same_some e) (given_less m t old is (positive (holds old t m) some))
  where
    positive : (k : ℕ) → nat_eq k 0 ≡ false → 0 < k
    positive zero f = absurd (true≢false (sym (eq-eqb 0 0 refl) ∙ f))
    positive (suc k) f = omega arith

-- who is in the way
waiting_owned : (r b : Bool) (o n holder : ℕ) → 0 < n → by_owner r b o n ≡ blocked holder → (mode : Mode) × (0 < holds (owned o n) holder mode)
waiting_owned true true o n holder some e = never e
waiting_owned true false o n holder some e = (Exclusive, subst (λ k. 0 < holds (owned o n) k Exclusive) (same_blocked e) (subst (λ k. 0 < k) (sym (owner_holds o n)) some))
waiting_owned false b o n holder some e = (Exclusive, subst (λ k. 0 < holds (owned o n) k Exclusive) (same_blocked e) (subst (λ k. 0 < k) (sym (owner_holds o n)) some))

waiting_shared : (t : ℕ) (ns : List ℕ) (first : Option ℕ) (holder : ℕ) → sharer_from 0 ns ≡ first → unless_shared t first ≡ blocked holder → (mode : Mode) × (0 < holds (shared_by ns) holder mode)
waiting_shared t ns None holder is e = never e
waiting_shared t ns (Some h) holder is e =
    let x = sharer_shares 0 ns h is in
    let same : x.0 ≡ holder = sym (omega (arith, x.1.0)) ∙ same_blocked e in
    (Shared, subst (λ k. 0 < count_of ns k) same x.1.1)

waiting : (r : Bool) (m : Mode) (t holder : ℕ) (lock : Lock) → IsLock lock → take r m t lock ≡ blocked holder → (mode : Mode) × (0 < holds lock holder mode)
waiting r Exclusive t holder (owned o n) is e = waiting_owned r (nat_eq o t) o n holder is e
waiting r Exclusive t holder (shared_by ns) is e = waiting_shared t ns (sharer_from 0 ns) holder refl e
waiting r Shared t holder (owned o n) is e = (Exclusive, subst (λ k. 0 < holds (owned o n) k Exclusive) (same_blocked e) (subst (λ k. 0 < k) (sym (owner_holds o n)) is))
waiting r Shared t holder (shared_by ns) is e = never e

pub holds_change : HoldsChange
holds_change = record { taking = taking; giving = λ m t old new is. giving_by m t old new is (nat_eq (holds old t m) 0) refl; waiting = waiting }
