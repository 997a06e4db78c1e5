-- The table's calls do to all locks of a state what the machine does.
use Rattle.std.proofs.Common.{◌≡◌, ◌∙◌, ℕ, zero, suc, ◌+◌, ◌<◌, ◌≤◌, Bool, true, false, Option, Some, None, List, [], ◌∷◌, length, slice_index_or, slice_set, refl, sym, ap, subst, arith, ◌⊎◌, inl, inr}
use Rattle.tsa_locks.specs.Locks.{Lock, Mode, Exclusive, Shared, take, give, free, taken, blocked, mode_to_give}
use Rattle.tsa_locks.specs.Locks as lock
use Rattle.tsa_locks.specs.Tables.{depth_in, holds_in, locks_of, GiveAnswers, GiveAnyAnswers, GiveSharedAnswers, IsFree, SetsCount, SetsOwner, ShareAnswers, TakeAgainAnswers, TakeAnswers}
use Rattle.tsa_locks.specs.Tables as table
use Rattle.tsa_locks.specs.TableLocks.{StandsFor, TakesAs, GivesAs}
use Rattle.tsa_locks.specs.TableStates.{lock_in, StandFor, TakesIn, GivesIn, GivesAnyIn, InRange, TheTableIsTheState}
use Rattle.tsa_locks.specs.declared.table.LockTable.{LockTable}
use Rattle.tsa_locks.specs.declared.table.Owner.{Owner}
use Rattle.tsa_locks.specs.declared.table.Taking.{Taking}
use Rattle.tsa_locks.specs.declared.table.Taking.TheVariants.{Done, Waits}
use Rattle.tsa_locks.specs.declared.table.Giving.{Giving}
use Rattle.tsa_locks.specs.declared.table.Giving.TheVariants as giving
use Rattle.tsa_locks.proofs.TableLocks.{same_or_not, the_table_is_the_locks}

-- a list of which one element is set
set_here : {A : Type 0} (xs : List A) (i : ℕ) (x d : A) → i < length xs → slice_index_or (slice_set xs i x) i d ≡ x
set_here [] i x d h = absurd (omega (arith, h))
set_here (y ∷ ys) zero x d h = refl
set_here (y ∷ ys) (suc i) x d h = set_here ys i x d (omega (arith, h))

set_elsewhere : {A : Type 0} (xs : List A) (i j : ℕ) (x d : A) → (j ≡ i → ⊥) → slice_index_or (slice_set xs i x) j d ≡ slice_index_or xs j d
set_elsewhere [] i j x d other = refl
set_elsewhere (y ∷ ys) zero zero x d other = absurd (other refl)
set_elsewhere (y ∷ ys) zero (suc j) x d other = refl
set_elsewhere (y ∷ ys) (suc i) zero x d other = refl
set_elsewhere (y ∷ ys) (suc i) (suc j) x d other = set_elsewhere ys i j x d (λ same. other (ap suc same))

set_long : {A : Type 0} (xs : List A) (i : ℕ) (x : A) → length (slice_set xs i x) ≡ length xs
set_long [] i x = refl
set_long (y ∷ ys) zero x = refl
set_long (y ∷ ys) (suc i) x = ap suc (set_long ys i x)

-- all locks but one are held as before
record KeepsOthers (old new : LockTable) (l : ℕ) : Type 0 where
  threads : new.threads ≡ old.threads
  locks : locks_of new ≡ locks_of old
  others : (j t : ℕ) → (j ≡ l → ⊥) → t < old.threads → (m : Mode) → holds_in new j t m ≡ holds_in old j t m

owner_keeps : (old new : LockTable) (l : ℕ) (o : Option Owner) → SetsOwner old new l o → KeepsOthers old new l
owner_keeps old new l o sets = record { threads = sets.threads; locks = sets.locks; others = by }
  where
    by : (j t : ℕ) → (j ≡ l → ⊥) → t < old.threads → (m : Mode) → holds_in new j t m ≡ holds_in old j t m
    by j t d h Exclusive = ap (λ w. depth_in w t) (sets.elsewhere j d)
    by j t d h Shared = sets.counts j t

count_keeps : (old new : LockTable) (l t n : ℕ) → SetsCount old new l t n → KeepsOthers old new l
count_keeps old new l t n sets = record { threads = sets.threads; locks = sets.locks; others = by }
  where
    by : (j u : ℕ) → (j ≡ l → ⊥) → u < old.threads → (m : Mode) → holds_in new j u m ≡ holds_in old j u m
    by j u d h Exclusive = ap (λ w. depth_in w u) (sets.owners j)
    by j u d h Shared = sets.elsewhere j u h (λ e _. d e)

other_stands : (old new : LockTable) (l j : ℕ) (x : Lock) → KeepsOthers old new l → (j ≡ l → ⊥) → StandsFor old j x → StandsFor new j x
other_stands old new l j x k d st = record {
  same = λ u b m. st.same u (subst (λ q. u < q) k.threads b) m ∙ sym (k.others j u d (subst (λ q. u < q) k.threads b) m);
  others = λ u b m. st.others u (subst (λ q. q ≤ u) k.threads b) m;
  is_lock = st.is_lock;
}

whole : (old new : LockTable) (locks : List Lock) (l : ℕ) (x : Lock) → l < locks_of old → StandFor old locks → KeepsOthers old new l → StandsFor new l x → StandFor new (slice_set locks l x)
whole old new locks l x h st k here = record { long = set_long locks l x ∙ (st.long ∙ sym k.locks); each = λ j b. by j (subst (λ q. j < q) k.locks b) (same_or_not j l) }
  where
    by : (j : ℕ) → j < locks_of old → (j ≡ l) ⊎ (j ≡ l → ⊥) → StandsFor new j (lock_in (slice_set locks l x) j)
    by j b (inl e) = subst (λ q. StandsFor new q (lock_in (slice_set locks l x) q)) (sym e) (subst (λ y. StandsFor new l y) (sym (set_here locks l x free (subst (λ q. l < q) (sym st.long) h))) here)
    by j b (inr d) = subst (λ y. StandsFor new j y) (sym (set_elsewhere locks l j x free d)) (other_stands old new l j (lock_in locks j) k d (st.each j b))

module _ (old new : LockTable) (locks : List Lock) (l : ℕ) (h : l < locks_of old) (st : StandFor old locks) where
  takes_in : (out : lock.Taking) → TakesAs out Done new l → KeepsOthers old new l → TakesIn out Done new locks l
  takes_in (taken x) a k = whole old new locks l x h st k a
  takes_in (blocked w) a k = absurd a

  waits_in : (out : lock.Taking) (w : ℕ) → TakesAs out (Waits w) new l → new ≡ old → TakesIn out (Waits w) new locks l
  waits_in (taken x) w a e = absurd a
  waits_in (blocked holder) w a e = (a, subst (λ k. StandFor k locks) (sym e) st)

  gives_in : (out : Option Lock) → GivesAs out giving.Done new l → KeepsOthers old new l → GivesIn out giving.Done new locks l
  gives_in (Some x) a k = whole old new locks l x h st k a
  gives_in None a k = absurd a

  keeps_in : (out : Option Lock) → GivesAs out giving.NotHeld new l → new ≡ old → GivesIn out giving.NotHeld new locks l
  keeps_in (Some x) a e = absurd a
  keeps_in None a e = subst (λ k. StandFor k locks) (sym e) st

takes : (old new : LockTable) (locks : List Lock) (l t : ℕ) (answer : Taking) → InRange old l t → StandFor old locks → TakeAnswers old l t answer new → TakesIn (take false Exclusive t (lock_in locks l)) answer new locks l
takes old new locks l t Done h st a = takes_in old new locks l h.0 st (take false Exclusive t (lock_in locks l)) (the_table_is_the_locks.takes old new l t (lock_in locks l) Done h.1 (st.each l h.0) a) (owner_keeps old new l (table.owned t 1) a.1)
takes old new locks l t (Waits w) h st a = waits_in old new locks l h.0 st (take false Exclusive t (lock_in locks l)) w (the_table_is_the_locks.takes old new l t (lock_in locks l) (Waits w) h.1 (st.each l h.0) a) a.1

takes_again : (old new : LockTable) (locks : List Lock) (l t : ℕ) (answer : Taking) → InRange old l t → StandFor old locks → TakeAgainAnswers old l t answer new → TakesIn (take true Exclusive t (lock_in locks l)) answer new locks l
takes_again old new locks l t Done h st a = takes_in old new locks l h.0 st (take true Exclusive t (lock_in locks l)) (the_table_is_the_locks.takes_again old new l t (lock_in locks l) Done h.1 (st.each l h.0) a)
    (owner_keeps old new l (table.owned t (table.depth_of old l t + 1)) a.1)
takes_again old new locks l t (Waits w) h st a = waits_in old new locks l h.0 st (take true Exclusive t (lock_in locks l)) w (the_table_is_the_locks.takes_again old new l t (lock_in locks l) (Waits w) h.1 (st.each l h.0) a) a.2

shares : (old new : LockTable) (locks : List Lock) (l t : ℕ) (answer : Taking) (r : Bool) → InRange old l t → StandFor old locks → ShareAnswers old l t answer new → TakesIn (take r Shared t (lock_in locks l)) answer new locks l
shares old new locks l t Done r h st a = takes_in old new locks l h.0 st (take r Shared t (lock_in locks l)) (the_table_is_the_locks.shares old new l t (lock_in locks l) Done r h.1 (st.each l h.0) a)
    (count_keeps old new l t (table.count_of old l t + 1) a.1)
shares old new locks l t (Waits w) r h st a = waits_in old new locks l h.0 st (take r Shared t (lock_in locks l)) w (the_table_is_the_locks.shares old new l t (lock_in locks l) (Waits w) r h.1 (st.each l h.0) a) a.1

gives : (old new : LockTable) (locks : List Lock) (l t : ℕ) (answer : Giving) → InRange old l t → StandFor old locks → GiveAnswers old l t answer new → GivesIn (give Exclusive t (lock_in locks l)) answer new locks l
gives old new locks l t giving.Done h st a = gives_in old new locks l h.0 st (give Exclusive t (lock_in locks l)) (the_table_is_the_locks.gives old new l t (lock_in locks l) giving.Done h.1 (st.each l h.0) a)
    (owner_keeps old new l (table.less t (table.depth_of old l t)) a.1)
gives old new locks l t giving.NotHeld h st a = keeps_in old new locks l h.0 st (give Exclusive t (lock_in locks l)) (the_table_is_the_locks.gives old new l t (lock_in locks l) giving.NotHeld h.1 (st.each l h.0) a) a.1

gives_shared : (old new : LockTable) (locks : List Lock) (l t : ℕ) (answer : Giving) → InRange old l t → StandFor old locks → GiveSharedAnswers old l t answer new → GivesIn (give Shared t (lock_in locks l)) answer new locks l
gives_shared old new locks l t giving.Done h st a = gives_in old new locks l h.0 st (give Shared t (lock_in locks l)) (the_table_is_the_locks.gives_shared old new l t (lock_in locks l) giving.Done h.1 (st.each l h.0) a)
    (count_keeps old new l t a.0 a.2)
gives_shared old new locks l t giving.NotHeld h st a = keeps_in old new locks l h.0 st (give Shared t (lock_in locks l)) (the_table_is_the_locks.gives_shared old new l t (lock_in locks l) giving.NotHeld h.1 (st.each l h.0) a) a.1

gives_any : (old new : LockTable) (locks : List Lock) (l t : ℕ) (answer : Option Mode) → InRange old l t → StandFor old locks → GiveAnyAnswers old l t answer new → GivesAnyIn (lock_in locks l) t answer new locks l
gives_any old new locks l t (Some Exclusive) h st a = ((the_table_is_the_locks.gives_any old new l t (lock_in locks l) (Some Exclusive) h.1 (st.each l h.0) a).0, gives old new locks l t giving.Done h st a)
gives_any old new locks l t (Some Shared) h st a = ((the_table_is_the_locks.gives_any old new l t (lock_in locks l) (Some Shared) h.1 (st.each l h.0) a).0, gives_shared old new locks l t giving.Done h st a.1)
gives_any old new locks l t None h st a = keeps_in old new locks l h.0 st (give (mode_to_give t (lock_in locks l)) t (lock_in locks l)) (the_table_is_the_locks.gives_any old new l t (lock_in locks l) None h.1 (st.each l h.0) a) a.1.1

pub the_table_is_the_state : TheTableIsTheState
the_table_is_the_state = record {
  begins = λ k locks long none each. record { long = long; each = λ l h. subst (λ x. StandsFor k l x) (sym (none l)) (the_table_is_the_locks.begins k l (each l h)) };
  takes = takes;
  takes_again = takes_again;
  shares = shares;
  gives = gives;
  gives_shared = gives_shared;
  gives_any = gives_any;
}
