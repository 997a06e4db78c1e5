-- Locks are taken exactly where they can be.
use Rattle.std.proofs.Common.{◌≡◌, ◌∙◌, ◌↔◌, ℕ, ◌+◌, ◌<◌, nat_eq, Bool, true, false, List, Option, Some, None, refl, sym, arith, eq-eqb}
use Rattle.std.proofs.Common.{eqb-true}
use Rattle.std.proofs.Math.Decide.{ℕ_discrete}
use Rattle.tsa_locks.specs.Laws.{CanBeTaken, IsLock, LocksAreTakenWhereTheyCanBe}
use Rattle.tsa_locks.specs.Locks.{blocked, by_owner, count_of, Exclusive, holds, Lock, Mode, owned, Shared, shared_by, sharer_from, take}
use Rattle.tsa_locks.specs.Locks.{taken, unless_shared}
use Rattle.tsa_locks.proofs.Holding.{no_sharer, none_holds, owner_holds, sharer_shares}

abbrev Taken : Bool → Mode → ℕ → Lock → Type 0
Taken r m t lock = (new : Lock) × (take r m t lock ≡ taken new)

never : {holder : ℕ} {new : Lock} {A : Type 0} → blocked holder ≡ taken new → A
never e = cc

-- an owner holds the lock
owns : (o n : ℕ) → 0 < n → holds (owned o n) o Exclusive ≡ 0 → ⊥
owns o n some none = let all = owner_holds o n in omega (arith, some, none, all)

-- of a shared lock: nobody shares it, or somebody does
shared_taken : (t : ℕ) (ns : List ℕ) (first : Option ℕ) → sharer_from 0 ns ≡ first → ((new : Lock) × (unless_shared t first ≡ taken new)) → (u : ℕ) → count_of ns u ≡ 0
shared_taken t ns None is x u = no_sharer 0 ns is u
shared_taken t ns (Some h) is x u = never x.1

shares_none : (t : ℕ) (ns : List ℕ) (first : Option ℕ) → sharer_from 0 ns ≡ first → ((u : ℕ) → count_of ns u ≡ 0) → (new : Lock) × (unless_shared t first ≡ taken new)
shares_none t ns None is none = (owned t 1, refl)
shares_none t ns (Some h) is none = let x = sharer_shares 0 ns h is in let zero = none x.0 in absurd (omega (arith, x.1.1, zero))

-- of one that its owner may take again
again_taken : (b : Bool) (o n t : ℕ) → nat_eq o t ≡ b → ((new : Lock) × (by_owner true b o n ≡ taken new)) → o ≡ t
again_taken true o n t same x = eqb-true o t same
again_taken false o n t same x = never x.1

takes_again : (b : Bool) (o n : ℕ) → b ≡ true → (new : Lock) × (by_owner true b o n ≡ taken new)
takes_again true o n e = (owned o (n + 1), refl)
takes_again false o n e = absurd cc

others_none : (o n t : ℕ) → o ≡ t → (u : ℕ) (m : Mode) → (u ≡ t → m ≡ Exclusive → ⊥) → holds (owned o n) u m ≡ 0
others_none o n t same u Exclusive other = none_holds o n u (λ e. other (e ∙ same) refl)
others_none o n t same u Shared other = refl

its_owner : (o n t : ℕ) → 0 < n → ((u : ℕ) (m : Mode) → (u ≡ t → m ≡ Exclusive → ⊥) → holds (owned o n) u m ≡ 0) → o ≡ t
its_owner o n t some none = elim (ℕ_discrete o t) [
  | yes e ↦ e
  | no other ↦ absurd (owns o n some (none o Exclusive (λ e alone. other e)))
]

shared_exclusive : Shared ≡ Exclusive → ⊥
shared_exclusive e = cc

taken_where : (r : Bool) (m : Mode) (t : ℕ) (lock : Lock) → IsLock lock → Taken r m t lock ↔ CanBeTaken r m t lock
taken_where false Exclusive t (owned o n) is = (λ x. never x.1, λ none. absurd (owns o n is (none o Exclusive)))
taken_where true Exclusive t (owned o n) is = (
  λ x. others_none o n t (again_taken (nat_eq o t) o n t refl x),
  λ none. takes_again (nat_eq o t) o n (eq-eqb o t (its_owner o n t is none)),
)
taken_where false Exclusive t (shared_by ns) is = (there, λ none. shares_none t ns (sharer_from 0 ns) refl (λ u. none u Shared))
  where
    there : Taken false Exclusive t (shared_by ns) → (u : ℕ) (m : Mode) → holds (shared_by ns) u m ≡ 0
    there x u Exclusive = refl
    there x u Shared = shared_taken t ns (sharer_from 0 ns) refl x u
taken_where true Exclusive t (shared_by ns) is = (there, λ none. shares_none t ns (sharer_from 0 ns) refl (λ u. none u Shared (λ a b. shared_exclusive b)))
  where
    there : Taken true Exclusive t (shared_by ns) → (u : ℕ) (m : Mode) → (u ≡ t → m ≡ Exclusive → ⊥) → holds (shared_by ns) u m ≡ 0
    there x u Exclusive other = refl
    there x u Shared other = shared_taken t ns (sharer_from 0 ns) refl x u
taken_where false Shared t (owned o n) is = (λ x. never x.1, λ none. absurd (owns o n is (none o)))
taken_where true Shared t (owned o n) is = (λ x. never x.1, λ none. absurd (owns o n is (none o)))
taken_where false Shared t (shared_by ns) is = (λ x u. refl, λ none. (_, refl))
taken_where true Shared t (shared_by ns) is = (λ x u. refl, λ none. (_, refl))

-- an owner is alone
alone : (lock : Lock) (t u : ℕ) (m : Mode) → 0 < holds lock t Exclusive → (u ≡ t → m ≡ Exclusive → ⊥) → holds lock u m ≡ 0
alone (owned o n) t u m some other = elim (ℕ_discrete t o) [
  | yes same ↦ others_none o n t (sym same) u m other
  | no differs ↦ absurd (let none = none_holds o n t differs in omega (arith, some, none))
]
alone (shared_by ns) t u m some other = absurd (omega (arith, some))

pub locks_are_taken_where_they_can_be : LocksAreTakenWhereTheyCanBe
locks_are_taken_where_they_can_be = record { taken = taken_where; alone = alone }
