-- Locks with the same holds are taken and given back alike.
use Rattle.std.proofs.Common.{◌≡◌, ◌∙◌, ℕ, zero, suc, ◌+◌, ◌<◌, nat_eq, Bool, true, false, List, [], ◌∷◌, Option, Some, None, if◌then◌else◌}
use Rattle.std.proofs.Common.{refl, sym, ap, subst, arith}
use Rattle.std.proofs.Math.Decide.{ℕ_discrete}
use Rattle.tsa_locks.specs.Laws.{IsLock}
use Rattle.tsa_locks.specs.Locks.{by_owner, count_of, Exclusive, free, give, given, holds, Lock, Mode, mode_to_give, one_less, one_more}
use Rattle.tsa_locks.specs.Locks.{owned, Shared, shared_by, sharer_from, take, unless_shared}
use Rattle.tsa_locks.specs.Sameness.{IsSameGiving, IsSameLock, IsSameTaking, LocksAreTheirHolds}
use Rattle.tsa_locks.proofs.Holding.{none_holds, owner_holds, one_more_at, none_more_at, one_less_at, none_less_at}

-- counts of two lists that are the same for each thread
abbrev AreSame : List ℕ → List ℕ → Type 0
AreSame ns ms = (t : ℕ) → count_of ns t ≡ count_of ms t

none_shares : (from : ℕ) (ns : List ℕ) → ((t : ℕ) → count_of ns t ≡ 0) → sharer_from from ns ≡ None
unfolding count_of sharer_from
none_shares from [] none = refl
none_shares from (zero ∷ ns) none = none_shares (from + 1) ns (λ t. none (suc t))
none_shares from (suc n ∷ ns) none = let e = none 0 in absurd (omega (arith, e))

nobody : (t : ℕ) → count_of [] t ≡ 0
unfolding count_of
nobody t = refl

same_sharer : (from : ℕ) (ns ms : List ℕ) → AreSame ns ms → sharer_from from ns ≡ sharer_from from ms
unfolding count_of sharer_from
same_sharer from [] ms same = sym (none_shares from ms (λ t. sym (same t) ∙ nobody t))
same_sharer from (n ∷ ns) [] same = none_shares from (n ∷ ns) (λ t. same t ∙ nobody t)
same_sharer from (zero ∷ ns) (zero ∷ ms) same = same_sharer (from + 1) ns ms (λ t. same (suc t))
same_sharer from (suc n ∷ ns) (suc m ∷ ms) same = refl
same_sharer from (zero ∷ ns) (suc m ∷ ms) same = let e = same 0 in absurd (omega (arith, e))
same_sharer from (suc n ∷ ns) (zero ∷ ms) same = let e = same 0 in absurd (omega (arith, e))

one_more_same : (ns ms : List ℕ) (t : ℕ) → AreSame ns ms → AreSame (one_more ns t) (one_more ms t)
one_more_same ns ms t same u = elim (ℕ_discrete u t) [
  | yes e ↦ subst (λ v. count_of (one_more ns t) v ≡ count_of (one_more ms t) v) (sym e) (one_more_at ns t ∙ ap (λ k. k + 1) (same t) ∙ sym (one_more_at ms t))
  | no other ↦ none_more_at ns t u other ∙ same u ∙ sym (none_more_at ms t u other)
]

one_less_same : (ns ms : List ℕ) (t : ℕ) → AreSame ns ms → 0 < count_of ns t → AreSame (one_less ns t) (one_less ms t)
one_less_same ns ms t same some u = elim (ℕ_discrete u t) [
  | yes e ↦ subst (λ v. count_of (one_less ns t) v ≡ count_of (one_less ms t) v) (sym e)
      (let a = one_less_at ns t some in let b = one_less_at ms t (subst (λ k. 0 < k) (same t) some) in let c = same t in omega (arith, a, b, c))
  | no other ↦ sym (none_less_at ns t u other) ∙ same u ∙ none_less_at ms t u other
]

shared_same : (ns ms : List ℕ) → AreSame ns ms → IsSameLock (shared_by ns) (shared_by ms)
shared_same ns ms same t Exclusive = refl
shared_same ns ms same t Shared = same t

-- an owned lock has the holds of no other
its_owner : (o n p k : ℕ) → 0 < n → IsSameLock (owned o n) (owned p k) → o ≡ p
its_owner o n p k some same = elim (ℕ_discrete o p) [
  | yes e ↦ e
  | no other ↦ absurd (let a = owner_holds o n in let b = same o Exclusive in let c = none_holds p k o other in omega (arith, some, a, b, c))
]

its_depth : (o n k : ℕ) → IsSameLock (owned o n) (owned o k) → n ≡ k
its_depth o n k same = sym (owner_holds o n) ∙ same o Exclusive ∙ owner_holds o k

same_owned : (o n p k : ℕ) → 0 < n → IsSameLock (owned o n) (owned p k) → owned o n ≡ owned p k
same_owned o n p k some same =
    let e = its_owner o n p k some same in
    let depth = its_depth o n k (subst (λ q. IsSameLock (owned o n) (owned q k)) (sym e) same) in
    ap (λ q. owned q n) e ∙ ap (owned p) depth

owned_shared : (o n : ℕ) (ns : List ℕ) {A : Type 0} → 0 < n → IsSameLock (owned o n) (shared_by ns) → A
owned_shared o n ns some same = absurd (let a = owner_holds o n in let b = same o Exclusive in omega (arith, some, a, b))

turned : (a b : Lock) → IsSameLock a b → IsSameLock b a
turned a b same t m = sym (same t m)

-- takings
itself_taken : (r : Bool) (m : Mode) (t : ℕ) (a : Lock) → IsSameTaking (take r m t a) (take r m t a)
itself_taken r Exclusive t (owned o n) = by r (nat_eq o t)
  where
    by : (r own : Bool) → IsSameTaking (by_owner r own o n) (by_owner r own o n)
    by true true = λ u m. refl
    by true false = refl
    by false own = refl
itself_taken r Exclusive t (shared_by ns) = by (sharer_from 0 ns)
  where
    by : (first : Option ℕ) → IsSameTaking (unless_shared t first) (unless_shared t first)
    by None = λ u m. refl
    by (Some h) = refl
itself_taken r Shared t (owned o n) = refl
itself_taken r Shared t (shared_by ns) = λ u m. refl

taking : (r : Bool) (m : Mode) (t : ℕ) (a b : Lock) → IsLock a → IsLock b → IsSameLock a b → IsSameTaking (take r m t a) (take r m t b)
taking r m t (owned o n) (owned p k) is also same = subst (λ l. IsSameTaking (take r m t (owned o n)) (take r m t l)) (same_owned o n p k is same) (itself_taken r m t (owned o n))
taking r m t (owned o n) (shared_by ns) is also same = owned_shared o n ns is same
taking r m t (shared_by ns) (owned o n) is also same = owned_shared o n ns also (turned (shared_by ns) (owned o n) same)
taking r Exclusive t (shared_by ns) (shared_by ms) is also same =
    subst (λ first. IsSameTaking (unless_shared t (sharer_from 0 ns)) (unless_shared t first)) (same_sharer 0 ns ms (λ u. same u Shared))
    (itself_taken r Exclusive t (shared_by ns))
taking r Shared t (shared_by ns) (shared_by ms) is also same = shared_same (one_more ns t) (one_more ms t) (one_more_same ns ms t (λ u. same u Shared))

-- givings
abbrev GivesAlike : Mode → ℕ → Lock → Lock → Bool → Type 0
GivesAlike m t a b none = IsSameGiving (if none then None else Some (given m t a)) (if none then None else Some (given m t b))

itself_given : (m : Mode) (t : ℕ) (a : Lock) (none : Bool) → GivesAlike m t a a none
itself_given m t a true = tt
itself_given m t a false = λ u k. refl

shared_given : (ns ms : List ℕ) (t : ℕ) → AreSame ns ms → (none : Bool) → nat_eq (count_of ns t) 0 ≡ none → GivesAlike Shared t (shared_by ns) (shared_by ms) none
shared_given ns ms t same true e = tt
shared_given ns ms t same false e = shared_same (one_less ns t) (one_less ms t) (one_less_same ns ms t same (positive (count_of ns t) e))
  where
    positive : (k : ℕ) → nat_eq k 0 ≡ false → 0 < k
    positive zero f = absurd cc
    positive (suc k) f = omega arith

by_holds : (m : Mode) (t : ℕ) (a b : Lock) → IsSameLock a b → GivesAlike m t a b (nat_eq (holds a t m) 0) → IsSameGiving (give m t a) (give m t b)
by_holds m t a b same alike = subst (λ k. IsSameGiving (give m t a) (if nat_eq k 0 then None else Some (given m t b))) (same t m) alike

giving : (m : Mode) (t : ℕ) (a b : Lock) → IsLock a → IsLock b → IsSameLock a b → IsSameGiving (give m t a) (give m t b)
giving m t (owned o n) (owned p k) is also same =
    subst (λ l. IsSameGiving (give m t (owned o n)) (give m t l)) (same_owned o n p k is same) (itself_given m t (owned o n) (nat_eq (holds (owned o n) t m) 0))
giving m t (owned o n) (shared_by ns) is also same = owned_shared o n ns is same
giving m t (shared_by ns) (owned o n) is also same = owned_shared o n ns also (turned (shared_by ns) (owned o n) same)
giving Exclusive t (shared_by ns) (shared_by ms) is also same = tt
giving Shared t (shared_by ns) (shared_by ms) is also same =
    by_holds Shared t (shared_by ns) (shared_by ms) same (shared_given ns ms t (λ u. same u Shared) (nat_eq (count_of ns t) 0) refl)

pub locks_are_their_holds : LocksAreTheirHolds
locks_are_their_holds = record {
  taking = taking;
  giving = giving;
  mode = λ t a b same. ap (λ k. if nat_eq k 0 then Shared else Exclusive) (same t Exclusive);
  unshared = λ counts none. shared_same counts [] (λ t. none t ∙ sym (nobody t));
}
