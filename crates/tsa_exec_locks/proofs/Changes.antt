-- What takings and givings do to a table: locks beyond it, and the counts of holds.
use Rattle.std.proofs.Common.{◌≡◌, ◌∙◌, ℕ, zero, suc, ◌+◌, ◌-◌, ◌^◌, ◌<◌, ◌≤◌, ◌⊎◌, inl, inr, nat_eq, Bool, true, false, Option, Some, None, List, [], ◌∷◌, length, slice_index_or, slice_set, if◌then◌else◌, refl, sym, ap, subst, arith}
use Rattle.tsa_locks.specs.Locks.{Exclusive, free, give, Lock, Mode, mode_to_give, Shared, take}
use Rattle.tsa_locks.specs.Locks as lock
use Rattle.tsa_locks.specs.Tables.{count_of, depth_in, depth_of, GiveAnswers, GiveAnyAnswers, GiveSharedAnswers, holds_in, IsFree, less, locks_of, owner_in, SetsCount, SetsOwner, ShareAnswers, TakeAgainAnswers, TakeAnswers}
use Rattle.tsa_locks.specs.Tables as table
use Rattle.tsa_locks.specs.TableStates.{GivesIn, lock_in, StandFor, TakesIn}
use Rattle.tsa_locks.specs.declared.table.Giving.{Giving}
use Rattle.tsa_locks.specs.declared.table.Giving.TheVariants as giving
use Rattle.tsa_locks.specs.declared.table.LockTable.{LockTable}
use Rattle.tsa_locks.specs.declared.table.Owner.{Owner}
use Rattle.tsa_locks.specs.declared.table.Taking.{Taking}
use Rattle.tsa_locks.specs.declared.table.Taking.TheVariants.{Done, Waits}
use Rattle.tsa_locks.proofs.TableLocks.{same_or_not}
use Rattle.tsa_exec_locks.specs.Changes.{GivesBackIn, GivesBackOfAll, HasRoom, HoldsAtMost, mode_asked, OneMoreAtMost, TakesOfAll}
use Rattle.tsa_exec_locks.specs.Laws.{RoomLasts}

-- a lock beyond the list is free, and setting it changes nothing
set_beyond : {A : Type 0} (xs : List A) (i : ℕ) (x : A) → length xs ≤ i → slice_set xs i x ≡ xs
set_beyond [] i x h = refl
set_beyond (y ∷ ys) zero x h = absurd (omega (arith, h))
set_beyond (y ∷ ys) (suc i) x h = ap (λ zs. y ∷ zs) (set_beyond ys i x (omega (arith, h)))

read_beyond : {A : Type 0} (xs : List A) (i : ℕ) (d : A) → length xs ≤ i → slice_index_or xs i d ≡ d
read_beyond [] i d h = refl
read_beyond (y ∷ ys) zero d h = absurd (omega (arith, h))
read_beyond (y ∷ ys) (suc i) d h = read_beyond ys i d (omega (arith, h))

free_beyond : (old : LockTable) (l : ℕ) (all : List Lock) → locks_of old ≤ l → StandFor old all → lock_in all l ≡ free
free_beyond old l all h st = read_beyond all l free (subst (λ n. n ≤ l) (sym st.long) h)

stays_beyond : (old : LockTable) (l : ℕ) (all : List Lock) (x : Lock) → locks_of old ≤ l → StandFor old all → StandFor old (slice_set all l x)
stays_beyond old l all x h st = subst (λ k. StandFor old k) (sym (set_beyond all l x (subst (λ n. n ≤ l) (sym st.long) h))) st

free_is_taken : (again : Bool) (mode : Mode) (t : ℕ) (old : LockTable) (l : ℕ) (all : List Lock) → locks_of old ≤ l → StandFor old all
    → TakesIn (take again mode t free) Done old all l
unfolding lock.sharer_from
free_is_taken again Exclusive t old l all h st = stays_beyond old l all _ h st
free_is_taken again Shared t old l all h st = stays_beyond old l all _ h st

pub taken_beyond : (again : Bool) (mode : Mode) (t : ℕ) (old : LockTable) (l : ℕ) → locks_of old ≤ l → TakesOfAll again mode l t Done old old
taken_beyond again mode t old l h = λ all st. subst (λ x. TakesIn (take again mode t x) Done old all l) (sym (free_beyond old l all h st)) (free_is_taken again mode t old l all h st)

free_is_not_held : (mode : Option Mode) (t : ℕ) (old : LockTable) (l : ℕ) (all : List Lock) → StandFor old all → GivesBackIn mode free t None old all l
unfolding lock.count_of
free_is_not_held None t old l all st = st
free_is_not_held (Some Exclusive) t old l all st = st
free_is_not_held (Some Shared) t old l all st = st

pub kept_beyond : (mode : Option Mode) (t : ℕ) (old : LockTable) (l : ℕ) → locks_of old ≤ l → GivesBackOfAll mode l t None old old
kept_beyond mode t old l h = λ all st. subst (λ x. GivesBackIn mode x t None old all l) (sym (free_beyond old l all h st)) (free_is_not_held mode t old l all st)

-- the counts of holds
pub no_more : (old new : LockTable) → new ≡ old → OneMoreAtMost old new
no_more old new e = subst (λ k. OneMoreAtMost old k) (sym e) (record { threads = refl; locks = refl; holds = λ l t h m. omega arith })

owned_more : (t u k : ℕ) (own : Option Owner) → k ≤ depth_in own t + 1 → depth_in (table.owned t k) u ≤ depth_in own u + 1
owned_more t u k own h = by (nat_eq t u) refl
  where
    by : (b : Bool) → nat_eq t u ≡ b → (if b then k else 0) ≤ depth_in own u + 1
    by true is = let same : t ≡ u = grind (arith, is) in subst (λ v. k ≤ depth_in own v + 1) same h
    by false is = omega arith

less_more : (t u d : ℕ) (own : Option Owner) → d ≤ depth_in own t + 1 → depth_in (less t d) u ≤ depth_in own u + 1
less_more t u zero own h = omega arith
less_more t u (suc zero) own h = omega arith
less_more t u (suc (suc n)) own h = owned_more t u (suc n) own (omega (arith, h))

owner_more : (old new : LockTable) (l : ℕ) (o : Option Owner) → SetsOwner old new l o → ((u : ℕ) → depth_in o u ≤ depth_of old l u + 1) → OneMoreAtMost old new
owner_more old new l o sets more = record { threads = sets.threads; locks = sets.locks; holds = by }
  where
    alone : (j u : ℕ) → (j ≡ l) ⊎ (j ≡ l → ⊥) → depth_of new j u ≤ depth_of old j u + 1
    alone j u (inl e) = subst (λ k. depth_of new k u ≤ depth_of old k u + 1) (sym e) (subst (λ w. depth_in w u ≤ depth_of old l u + 1) (sym sets.here) (more u))
    alone j u (inr d) = subst (λ w. depth_in w u ≤ depth_of old j u + 1) (sym (sets.elsewhere j d)) (omega arith)

    by : (j u : ℕ) → u < old.threads → (m : Mode) → holds_in new j u m ≤ holds_in old j u m + 1
    by j u h Exclusive = alone j u (same_or_not j l)
    by j u h Shared = omega (arith, sets.counts j u)

count_more : (old new : LockTable) (l t n : ℕ) → SetsCount old new l t n → n ≤ count_of old l t + 1 → OneMoreAtMost old new
count_more old new l t n sets more = record { threads = sets.threads; locks = sets.locks; holds = by }
  where
    shared : (j u : ℕ) → u < old.threads → (j ≡ l) ⊎ (j ≡ l → ⊥) → (u ≡ t) ⊎ (u ≡ t → ⊥) → count_of new j u ≤ count_of old j u + 1
    shared j u h (inl e) (inl f) =
        subst (λ k. count_of new k u ≤ count_of old k u + 1) (sym e) (subst (λ k. count_of new l k ≤ count_of old l k + 1) (sym f) (subst (λ k. k ≤ count_of old l t + 1) (sym sets.here) more))
    shared j u h (inr d) f = omega (arith, sets.elsewhere j u h (λ e _. d e))
    shared j u h e (inr d) = omega (arith, sets.elsewhere j u h (λ _ e. d e))

    by : (j u : ℕ) → u < old.threads → (m : Mode) → holds_in new j u m ≤ holds_in old j u m + 1
    by j u h Exclusive = subst (λ w. depth_in w u ≤ depth_of old j u + 1) (sym (sets.owners j)) (omega arith)
    by j u h Shared = shared j u h (same_or_not j l) (same_or_not u t)

pub takes_more : (old new : LockTable) (l t : ℕ) (answer : Taking) → TakeAnswers old l t answer new → OneMoreAtMost old new
takes_more old new l t Done a = owner_more old new l (table.owned t 1) a.1 (λ u. owned_more t u 1 (owner_in old l) (omega arith))
takes_more old new l t (Waits h) a = no_more old new a.1

pub takes_again_more : (old new : LockTable) (l t : ℕ) (answer : Taking) → TakeAgainAnswers old l t answer new → OneMoreAtMost old new
takes_again_more old new l t Done a = owner_more old new l (table.owned t (depth_of old l t + 1)) a.1 (λ u. owned_more t u (depth_of old l t + 1) (owner_in old l) (omega arith))
takes_again_more old new l t (Waits h) a = no_more old new a.2

pub shares_more : (old new : LockTable) (l t : ℕ) (answer : Taking) → ShareAnswers old l t answer new → OneMoreAtMost old new
shares_more old new l t Done a = count_more old new l t (count_of old l t + 1) a.1 (omega arith)
shares_more old new l t (Waits h) a = no_more old new a.1

pub gives_more : (old new : LockTable) (l t : ℕ) (answer : Giving) → GiveAnswers old l t answer new → OneMoreAtMost old new
gives_more old new l t giving.Done a = owner_more old new l (less t (depth_of old l t)) a.1 (λ u. less_more t u (depth_of old l t) (owner_in old l) (omega arith))
gives_more old new l t giving.NotHeld a = no_more old new a.1

pub gives_shared_more : (old new : LockTable) (l t : ℕ) (answer : Giving) → GiveSharedAnswers old l t answer new → OneMoreAtMost old new
gives_shared_more old new l t giving.Done (n, is, sets) = count_more old new l t n sets (omega (arith, is))
gives_shared_more old new l t giving.NotHeld a = no_more old new a.1

pub gives_any_more : (old new : LockTable) (l t : ℕ) (answer : Option Mode) → GiveAnyAnswers old l t answer new → OneMoreAtMost old new
gives_any_more old new l t (Some Exclusive) a = gives_more old new l t giving.Done a
gives_any_more old new l t (Some Shared) a = gives_shared_more old new l t giving.Done a.1
gives_any_more old new l t None a = gives_shared_more old new l t giving.NotHeld a.1

-- room for turns
new_holds : (table : LockTable) → ((lock : ℕ) → lock < locks_of table → IsFree table lock) → HoldsAtMost table 0
new_holds table free l t b h Exclusive = subst (λ own. depth_in own t ≤ 0) (sym (free l b).unowned) (omega arith)
new_holds table free l t b h Shared = omega (arith, (free l b).unshared t h)

room_of : (table : LockTable) (n l t : ℕ) → HoldsAtMost table n → n < 2 ^ 32 - 1 → t < table.threads → HasRoom table l t
room_of table n l t most h k = record { depth = λ b. omega (arith, most l t b k Exclusive, h); count = λ b. omega (arith, most l t b k Shared, h) }

pub room_lasts : RoomLasts
room_lasts = record { new_table = new_holds; turn = by; room = room_of }
  where
    by : (old new : LockTable) (n : ℕ) → OneMoreAtMost old new → HoldsAtMost old n → HoldsAtMost new (n + 1)
    by old new n more most l t b h mode =
        let k : t < old.threads = subst (λ c. t < c) more.threads h in
        let i : l < locks_of old = subst (λ c. l < c) more.locks b in omega (arith, more.holds l t k mode, most l t i k mode)
