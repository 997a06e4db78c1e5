-- The table's calls do what the machine's locks do.
use Rattle.std.proofs.Common.{◌≡◌, ◌∙◌, ℕ, zero, suc, ◌+◌, ◌<◌, ◌≤◌, nat_eq, nat_lt, Bool, true, false, Option, Some, None, option_map, List, [], ◌∷◌, get_or, length, if◌then◌else◌, refl, sym, ap, subst, arith, ◌⊎◌, inl, inr}
use Rattle.tsa_locks.specs.Laws.{IsLock}
use Rattle.tsa_locks.specs.Locks.{Lock, owned, shared_by, Mode, Exclusive, Shared, holds, take, give, given, free, count_of, one_more, one_less, owned_less, sharer_from, taken, blocked, unless_shared, by_owner, mode_to_give}
use Rattle.tsa_locks.specs.Tables as table
use Rattle.tsa_locks.specs.Tables.{depth_in, depth_of, holds_in, owner_in, owner_of, less, GiveAnswers, GiveAnyAnswers, GiveSharedAnswers, IsFirst, IsFree, IsHolder, SetsCount, SetsOwner, ShareAnswers, TakeAgainAnswers, TakeAnswers, CanTakeAgain}
use Rattle.tsa_locks.specs.TableLocks.{StandsFor, TakesAs, GivesAs, GivesAnyAs, TheTableIsTheLocks}
use Rattle.tsa_locks.specs.declared.table.LockTable.{LockTable}
use Rattle.tsa_locks.specs.declared.table.Owner.{Owner}
use Rattle.tsa_locks.specs.declared.table.Taking.{Taking}
use Rattle.tsa_locks.specs.declared.table.Taking.TheVariants.{Done, Waits}
use Rattle.tsa_locks.specs.declared.table.Giving.{Giving}
use Rattle.tsa_locks.specs.declared.table.Giving.TheVariants as giving

-- which of two, as their test came out
eq_self : (n : ℕ) → nat_eq n n ≡ true
eq_self n = grind arith

eq_other : (m n : ℕ) → (m ≡ n → ⊥) → nat_eq m n ≡ false
eq_other m n d = grind (arith, d)

-- who owns a lock, where it is owned
owner_by : (o : Option Owner) (t n : ℕ) → 0 < n → depth_in o t ≡ n → o ≡ table.owned t n
owner_by None t n h e = absurd (omega (arith, h, e))
owner_by (Some w) t n h e = by (nat_eq w.thread t) refl e
  where
    by : (b : Bool) → nat_eq w.thread t ≡ b → (if b then w.depth else 0) ≡ n → Some w ≡ table.owned t n
    by true is e = let same : w.thread ≡ t = grind (arith, is) in ap (λ k. Some (record { thread = k; depth = w.depth })) same ∙ ap (λ k. Some (record { thread = t; depth = k })) e
    by false is e = absurd (omega (arith, h, e))

-- a thread of the table, or none
below : (t n : ℕ) → (t < n) ⊎ (n ≤ t)
below t n = by (nat_lt t n) refl
  where
    by : (b : Bool) → nat_lt t n ≡ b → (t < n) ⊎ (n ≤ t)
    by true is = inl (grind (arith, is))
    by false is = inr (grind (arith, is))

-- a list of counts: none shares, or the first that does
none_shares : (i : ℕ) (ns : List ℕ) → ((t : ℕ) → count_of ns t ≡ 0) → sharer_from i ns ≡ None
unfolding sharer_from count_of
none_shares i [] h = refl
none_shares i (zero ∷ ns) h = none_shares (i + 1) ns (λ t. h (suc t))
none_shares i (suc n ∷ ns) h = let no : suc n ≡ 0 = h 0 in cc

first_shares : (i : ℕ) (ns : List ℕ) (h : ℕ) → 0 < count_of ns h → ((t : ℕ) → t < h → count_of ns t ≡ 0) → sharer_from i ns ≡ Some (i + h)
unfolding sharer_from count_of
first_shares i [] h some none = absurd (omega (arith, some))
first_shares i (zero ∷ ns) zero some none = absurd (omega (arith, some))
first_shares i (zero ∷ ns) (suc h) some none = let e : i + 1 + h ≡ i + suc h = omega arith in first_shares (i + 1) ns h some (λ t b. none (suc t) (omega (arith, b))) ∙ ap Some e
first_shares i (suc n ∷ ns) zero some none = let e : i ≡ i + 0 = omega arith in ap Some e
first_shares i (suc n ∷ ns) (suc h) some none = let no : suc n ≡ 0 = none 0 (omega arith) in cc

one_more_here : (ns : List ℕ) (t : ℕ) → count_of (one_more ns t) t ≡ count_of ns t + 1
unfolding one_more count_of
one_more_here [] zero = refl
one_more_here [] (suc t) = one_more_here [] t
one_more_here (n ∷ ns) zero = omega arith
one_more_here (n ∷ ns) (suc t) = one_more_here ns t

one_more_there : (ns : List ℕ) (t u : ℕ) → (u ≡ t → ⊥) → count_of (one_more ns t) u ≡ count_of ns u
unfolding one_more count_of
one_more_there [] zero zero d = absurd (d refl)
one_more_there [] zero (suc u) d = refl
one_more_there [] (suc t) zero d = refl
one_more_there [] (suc t) (suc u) d = one_more_there [] t u (λ e. d (ap suc e))
one_more_there (n ∷ ns) zero zero d = absurd (d refl)
one_more_there (n ∷ ns) zero (suc u) d = refl
one_more_there (n ∷ ns) (suc t) zero d = refl
one_more_there (n ∷ ns) (suc t) (suc u) d = one_more_there ns t u (λ e. d (ap suc e))

one_less_here : (ns : List ℕ) (t n : ℕ) → count_of ns t ≡ n + 1 → count_of (one_less ns t) t ≡ n
unfolding one_less count_of
one_less_here [] t n e = absurd (omega (arith, e))
one_less_here (zero ∷ ns) zero n e = absurd (omega (arith, e))
one_less_here (suc m ∷ ns) zero n e = let is : suc m ≡ n + 1 = e in omega (arith, is)
one_less_here (m ∷ ns) (suc t) n e = one_less_here ns t n e

one_less_there : (ns : List ℕ) (t u : ℕ) → (u ≡ t → ⊥) → count_of (one_less ns t) u ≡ count_of ns u
unfolding one_less count_of
one_less_there [] t u d = refl
one_less_there (n ∷ ns) zero zero d = absurd (d refl)
one_less_there (n ∷ ns) zero (suc u) d = refl
one_less_there (n ∷ ns) (suc t) zero d = refl
one_less_there (n ∷ ns) (suc t) (suc u) d = one_less_there ns t u (λ e. d (ap suc e))

-- the same thread, or another
pub same_or_not : (t u : ℕ) → (t ≡ u) ⊎ (t ≡ u → ⊥)
same_or_not t u = by (nat_eq t u) refl
  where
    by : (b : Bool) → nat_eq t u ≡ b → (t ≡ u) ⊎ (t ≡ u → ⊥)
    by true is = inl (grind (arith, is))
    by false is = inr (λ e. grind (arith, is, e))

only_owner : (o t n : ℕ) → (o ≡ t → ⊥) → (if nat_eq o t then n else 0) ≡ 0
only_owner o t n d = ap (λ b. if b then n else 0) (eq_other o t d)

module _ (k : LockTable) (l : ℕ) where
  owned_is : (o n : ℕ) → StandsFor k l (owned o n) → (o < k.threads) × (owner_in k l ≡ table.owned o n)
  owned_is o n st = by (below o k.threads)
    where
      by : (o < k.threads) ⊎ (k.threads ≤ o) → (o < k.threads) × (owner_in k l ≡ table.owned o n)
      by (inl h) = (h, owner_by (owner_in k l) o n st.is_lock (sym (st.same o h Exclusive) ∙ ap (λ b. if b then n else 0) (eq_self o)))
      by (inr h) = absurd (omega (arith, st.is_lock, sym (ap (λ b. if b then n else 0) (eq_self o)) ∙ st.others o h Exclusive))

  shared_is : (ns : List ℕ) → StandsFor k l (shared_by ns) → owner_in k l ≡ None
  shared_is ns st = by (owner_in k l) refl
    where
      by : (o : Option Owner) → owner_in k l ≡ o → owner_in k l ≡ None
      by None e = e
      by (Some w) e = let w_known : (w.thread < k.threads) × (0 < w.depth) = k.known l w e in
          let deep : depth_in (owner_in k l) w.thread ≡ w.depth = ap (λ o. depth_in o w.thread) e ∙ ap (λ b. if b then w.depth else 0) (eq_self w.thread) in
          absurd (omega (arith, w_known.1, deep, st.same w.thread w_known.0 Exclusive))

  -- nobody has a free lock
  free_is : (x : Lock) → StandsFor k l x → IsFree k l → (ns : List ℕ) × ((x ≡ shared_by ns) × ((t : ℕ) → count_of ns t ≡ 0))
  free_is (owned o n) st f = let is : (o < k.threads) × (owner_in k l ≡ table.owned o n) = owned_is o n st in
      absurd (omega (arith, st.is_lock, sym (ap (λ b. if b then n else 0) (eq_self o)) ∙ (ap (λ w. depth_in w o) (sym is.1 ∙ f.unowned))))
  free_is (shared_by ns) st f = (ns, (refl, λ t. by t (below t k.threads)))
    where
      by : (t : ℕ) → (t < k.threads) ⊎ (k.threads ≤ t) → count_of ns t ≡ 0
      by t (inl h) = st.same t h Shared ∙ f.unshared t h
      by t (inr h) = st.others t h Shared

-- a lock that one thread has alone
owned_stands : (old new : LockTable) (l t n : ℕ) → t < old.threads → 0 < n → ((u : ℕ) → u < old.threads → table.count_of old l u ≡ 0) → SetsOwner old new l (table.owned t n) → StandsFor new l (owned t n)
owned_stands old new l t n h some unshared sets = record {
  same = λ u b m. by u (subst (λ q. u < q) sets.threads b) m;
  others = λ u b m. out u (subst (λ q. q ≤ u) sets.threads b) m;
  is_lock = some;
}
  where
    by : (u : ℕ) → u < old.threads → (m : Mode) → holds (owned t n) u m ≡ holds_in new l u m
    by u b Exclusive = sym (ap (λ o. depth_in o u) sets.here)
    by u b Shared = sym (sets.counts l u ∙ unshared u b)

    out : (u : ℕ) → old.threads ≤ u → (m : Mode) → holds (owned t n) u m ≡ 0
    out u b Exclusive = only_owner t u n (λ e. absurd (omega (arith, h, b, e)))
    out u b Shared = refl

-- a lock that nobody has alone, where each shares it as often as listed
shared_stands : (new : LockTable) (l : ℕ) (ns : List ℕ) → owner_in new l ≡ None → ((u : ℕ) → u < new.threads → count_of ns u ≡ table.count_of new l u) → ((u : ℕ) → new.threads ≤ u → count_of ns u ≡ 0) → StandsFor new l (shared_by ns)
shared_stands new l ns none same out = record { same = by; others = other; is_lock = tt }
  where
    by : (u : ℕ) → u < new.threads → (m : Mode) → holds (shared_by ns) u m ≡ holds_in new l u m
    by u b Exclusive = sym (ap (λ o. depth_in o u) none)
    by u b Shared = same u b

    other : (u : ℕ) → new.threads ≤ u → (m : Mode) → holds (shared_by ns) u m ≡ 0
    other u b Exclusive = refl
    other u b Shared = out u b

takes_free : (old new : LockTable) (l t : ℕ) (r : Bool) (x : Lock) → t < old.threads → StandsFor old l x → IsFree old l → SetsOwner old new l (table.owned t 1) → TakesAs (take r Exclusive t x) Done new l
takes_free old new l t r x h st f sets = let is : (ns : List ℕ) × ((x ≡ shared_by ns) × ((t : ℕ) → count_of ns t ≡ 0)) = free_is old l x st f in
    subst (λ y. TakesAs (take r Exclusive t y) Done new l) (sym is.1.0)
    (subst (λ o. TakesAs (unless_shared t o) Done new l) (sym (none_shares 0 is.0 is.1.1)) (owned_stands old new l t 1 h (omega arith) f.unshared sets))

waits_for : (old new : LockTable) (l t h : ℕ) (r : Bool) (x : Lock) → StandsFor old l x → IsHolder old l h → (r ≡ true → depth_of old l t ≡ 0) → TakesAs (take r Exclusive t x) (Waits h) new l
waits_for old new l t h r (owned o n) st (inl e) apart = by r apart (same_or_not o t)
  where
    is : (o < old.threads) × (owner_in old l ≡ table.owned o n)
    is = owned_is old l o n st

    holder : o ≡ h
    holder = ap of_some (sym (ap (option_map (λ w. w.thread)) is.1) ∙ e)
      where
        of_some : Option ℕ → ℕ
        of_some None = 0
        of_some (Some q) = q

    by : (r : Bool) → (r ≡ true → depth_of old l t ≡ 0) → (o ≡ t) ⊎ (o ≡ t → ⊥) → TakesAs (by_owner r (nat_eq o t) o n) (Waits h) new l
    by false apart either = holder
    by true apart (inr d) = subst (λ b. TakesAs (by_owner true b o n) (Waits h) new l) (sym (eq_other o t d)) holder
    by true apart (inl same) = absurd (omega (arith, st.is_lock, sym (ap (λ w. depth_in w t) is.1 ∙ ap (λ b. if b then n else 0) (ap (λ q. nat_eq o q) (sym same) ∙ eq_self o)) ∙ apart refl))
waits_for old new l t h r (owned o n) st (inr first) apart = let is : (o < old.threads) × (owner_in old l ≡ table.owned o n) = owned_is old l o n st in
    absurd (no_owner (table.owned o n) (record { thread = o; depth = n }) refl (sym is.1 ∙ first.unowned))
  where
    no_owner : (w : Option Owner) (v : Owner) → w ≡ Some v → w ≡ None → ⊥
    no_owner None v e z = cc
    no_owner (Some q) v e z = cc
waits_for old new l t h r (shared_by ns) st (inl e) apart = absurd (no_thread (ap (option_map (λ w. w.thread)) (sym (shared_is old l ns st)) ∙ e))
  where
    no_thread : None ≡ Some h → ⊥
    no_thread z = cc
waits_for old new l t h r (shared_by ns) st (inr first) apart = subst (λ o. TakesAs (unless_shared t o) (Waits h) new l)
    (sym (first_shares 0 ns h (subst (λ n. 0 < n) (sym (st.same h first.thread Shared)) first.shares) (λ u b. st.same u (omega (arith, b, first.thread)) Shared ∙ first.first u b))) (omega arith)

takes_lock : (old new : LockTable) (l t : ℕ) (x : Lock) (answer : Taking) → t < old.threads → StandsFor old l x → TakeAnswers old l t answer new → TakesAs (take false Exclusive t x) answer new l
takes_lock old new l t x Done h st a = takes_free old new l t false x h st a.0 a.1
takes_lock old new l t x (Waits w) h st a = waits_for old new l t w false x st a.0 (λ e. let no : false ≡ true = e in cc)

depth_zero : (k : LockTable) (l t : ℕ) → IsFree k l → depth_of k l t ≡ 0
depth_zero k l t f = ap (λ o. depth_in o t) f.unowned

again_owned : (old new : LockTable) (l t : ℕ) (x : Lock) → t < old.threads → StandsFor old l x → owner_of old l ≡ Some t → SetsOwner old new l (table.owned t (depth_of old l t + 1)) → TakesAs (take true Exclusive t x) Done new l
again_owned old new l t (owned o n) h st e sets =
    subst (λ b. TakesAs (by_owner true b o n) Done new l) (sym (ap (λ q. nat_eq q t) same ∙ eq_self t))
    (subst (λ q. StandsFor new l (owned q (n + 1))) (sym same) (owned_stands old new l t (n + 1) h (omega arith) unshared (subst (λ d. SetsOwner old new l (table.owned t (d + 1))) depth sets)))
  where
    is : (o < old.threads) × (owner_in old l ≡ table.owned o n)
    is = owned_is old l o n st

    of_some : Option ℕ → ℕ
    of_some None = 0
    of_some (Some q) = q

    same : o ≡ t
    same = ap of_some (sym (ap (option_map (λ w. w.thread)) is.1) ∙ e)

    depth : depth_of old l t ≡ n
    depth = ap (λ w. depth_in w t) is.1 ∙ ap (λ b. if b then n else 0) (ap (λ q. nat_eq q t) same ∙ eq_self t)

    unshared : (u : ℕ) → u < old.threads → table.count_of old l u ≡ 0
    unshared u b = sym (st.same u b Shared)
again_owned old new l t (shared_by ns) h st e sets = absurd (no_thread (ap (option_map (λ w. w.thread)) (sym (shared_is old l ns st)) ∙ e))
  where
    no_thread : None ≡ Some t → ⊥
    no_thread z = cc

takes_again : (old new : LockTable) (l t : ℕ) (x : Lock) (answer : Taking) → t < old.threads → StandsFor old l x → TakeAgainAnswers old l t answer new → TakesAs (take true Exclusive t x) answer new l
takes_again old new l t x Done h st a = by a.0
  where
    by : CanTakeAgain old l t → TakesAs (take true Exclusive t x) Done new l
    by (inl f) = takes_free old new l t true x h st f (subst (λ d. SetsOwner old new l (table.owned t (d + 1))) (depth_zero old l t f) a.1)
    by (inr e) = again_owned old new l t x h st e a.1
takes_again old new l t x (Waits w) h st a = waits_for old new l t w true x st a.0 (λ e. a.1)

-- one thread shares a lock as often as told
counted : (old new : LockTable) (l t n : ℕ) (ns ms : List ℕ) → t < old.threads → StandsFor old l (shared_by ns) → SetsCount old new l t n → count_of ms t ≡ n → ((u : ℕ) → (u ≡ t → ⊥) → count_of ms u ≡ count_of ns u) → StandsFor new l (shared_by ms)
counted old new l t n ns ms h st sets here there = shared_stands new l ms (sets.owners l ∙ shared_is old l ns st)
    (λ u b. by u (subst (λ q. u < q) sets.threads b) (same_or_not u t)) (λ u b. there u (λ e. absurd (omega (arith, h, subst (λ q. q ≤ u) sets.threads b, e))) ∙ st.others u (subst (λ q. q ≤ u) sets.threads b) Shared)
  where
    by : (u : ℕ) → u < old.threads → (u ≡ t) ⊎ (u ≡ t → ⊥) → count_of ms u ≡ table.count_of new l u
    by u b (inl e) = ap (λ q. count_of ms q) e ∙ (here ∙ (sym sets.here ∙ ap (λ q. table.count_of new l q) (sym e)))
    by u b (inr d) = there u d ∙ (st.same u b Shared ∙ sym (sets.elsewhere l u b (λ _ e. d e)))

shares_lock : (old new : LockTable) (l t : ℕ) (x : Lock) (answer : Taking) (r : Bool) → t < old.threads → StandsFor old l x → ShareAnswers old l t answer new → TakesAs (take r Shared t x) answer new l
shares_lock old new l t (owned o n) Done r h st a = absurd (no_owner (owner_in old l) (record { thread = o; depth = n }) (owned_is old l o n st).1 a.0)
  where
    no_owner : (w : Option Owner) (v : Owner) → w ≡ Some v → w ≡ None → ⊥
    no_owner None v e z = cc
    no_owner (Some q) v e z = cc
shares_lock old new l t (owned o n) (Waits w) r h st a = ap of_some (sym (ap (option_map (λ w. w.thread)) (owned_is old l o n st).1) ∙ a.0)
  where
    of_some : Option ℕ → ℕ
    of_some None = 0
    of_some (Some q) = q
shares_lock old new l t (shared_by ns) Done r h st a = counted old new l t (table.count_of old l t + 1) ns (one_more ns t) h st a.1 (one_more_here ns t ∙ ap (λ n. n + 1) (st.same t h Shared)) (λ u d. one_more_there ns t u d)
shares_lock old new l t (shared_by ns) (Waits w) r h st a = absurd (no_thread (ap (option_map (λ w. w.thread)) (sym (shared_is old l ns st)) ∙ a.0))
  where
    no_thread : None ≡ Some w → ⊥
    no_thread z = cc

-- a giving, by whether the thread holds the lock
gives_if : (m : Mode) (t : ℕ) (x : Lock) (new : LockTable) (l n : ℕ) → holds x t m ≡ suc n → StandsFor new l (given m t x) → GivesAs (give m t x) giving.Done new l
gives_if m t x new l n e st = subst (λ k. GivesAs (if nat_eq k 0 then None else Some (given m t x)) giving.Done new l) (sym e)
    (subst (λ b. GivesAs (if b then None else Some (given m t x)) giving.Done new l) (sym (eq_other (suc n) 0 (λ z. absurd (omega (arith, z))))) st)

gives_none : (m : Mode) (t : ℕ) (x : Lock) (new : LockTable) (l : ℕ) → holds x t m ≡ 0 → GivesAs (give m t x) giving.NotHeld new l
gives_none m t x new l e = subst (λ k. GivesAs (if nat_eq k 0 then None else Some (given m t x)) giving.NotHeld new l) (sym e) tt

less_stands : (old new : LockTable) (l t n : ℕ) → t < old.threads → ((u : ℕ) → u < old.threads → table.count_of old l u ≡ 0) → SetsOwner old new l (less t n) → StandsFor new l (owned_less t n)
unfolding count_of
less_stands old new l t zero h unshared sets = shared_stands new l [] sets.here (λ u b. sym (sets.counts l u ∙ unshared u (subst (λ q. u < q) sets.threads b))) (λ u b. refl)
less_stands old new l t (suc zero) h unshared sets = shared_stands new l [] sets.here (λ u b. sym (sets.counts l u ∙ unshared u (subst (λ q. u < q) sets.threads b))) (λ u b. refl)
less_stands old new l t (suc (suc n)) h unshared sets = owned_stands old new l t (suc n) h (omega arith) unshared sets

gives_lock : (old new : LockTable) (l t : ℕ) (x : Lock) (answer : Giving) → t < old.threads → StandsFor old l x → GiveAnswers old l t answer new → GivesAs (give Exclusive t x) answer new l
gives_lock old new l t x giving.NotHeld h st a = gives_none Exclusive t x new l (st.same t h Exclusive ∙ a.0)
gives_lock old new l t (owned o n) giving.Done h st a = by (same_or_not o t)
  where
    is : (o < old.threads) × (owner_in old l ≡ table.owned o n)
    is = owned_is old l o n st

    by : (o ≡ t) ⊎ (o ≡ t → ⊥) → GivesAs (give Exclusive t (owned o n)) giving.Done new l
    by (inr d) = absurd (omega (arith, a.0, ap (λ w. depth_in w t) is.1 ∙ only_owner o t n d))
    by (inl same) = let depth : depth_of old l t ≡ n = ap (λ w. depth_in w t) is.1 ∙ ap (λ b. if b then n else 0) (ap (λ q. nat_eq q t) same ∙ eq_self t) in
        at n refl (st.same t h Exclusive ∙ depth) (subst (λ q. StandsFor new l (owned_less q n)) (sym same) (less_stands old new l t n h (λ u b. sym (st.same u b Shared)) (subst (λ d. SetsOwner old new l (less t d)) depth a.1)))
      where
        at : (m : ℕ) → m ≡ n → holds (owned o n) t Exclusive ≡ m → StandsFor new l (owned_less o n) → GivesAs (give Exclusive t (owned o n)) giving.Done new l
        at zero e z s = absurd (omega (arith, st.is_lock, e))
        at (suc m) e z s = gives_if Exclusive t (owned o n) new l m z s
gives_lock old new l t (shared_by ns) giving.Done h st a = absurd (omega (arith, a.0, ap (λ w. depth_in w t) (shared_is old l ns st)))

gives_shared : (old new : LockTable) (l t : ℕ) (x : Lock) (answer : Giving) → t < old.threads → StandsFor old l x → GiveSharedAnswers old l t answer new → GivesAs (give Shared t x) answer new l
gives_shared old new l t x giving.NotHeld h st a = gives_none Shared t x new l (st.same t h Shared ∙ a.0)
gives_shared old new l t (owned o n) giving.Done h st a = absurd (omega (arith, a.1, st.same t h Shared))
gives_shared old new l t (shared_by ns) giving.Done h st a =
    let here : count_of ns t ≡ a.0 + 1 = st.same t h Shared ∙ a.1 in
    let more : a.0 + 1 ≡ suc a.0 = omega arith in
    gives_if Shared t (shared_by ns) new l a.0 (here ∙ more) (counted old new l t a.0 ns (one_less ns t) h st a.2 (one_less_here ns t a.0 here) (λ u d. one_less_there ns t u d))

-- whichever mode: alone where the thread has it so, else shared
mode_alone : (t : ℕ) (x : Lock) (n : ℕ) → holds x t Exclusive ≡ suc n → mode_to_give t x ≡ Exclusive
mode_alone t x n e = ap (λ k. if nat_eq k 0 then Shared else Exclusive) e ∙ ap (λ b. if b then Shared else Exclusive) (eq_other (suc n) 0 (λ z. absurd (omega (arith, z))))

mode_shared : (t : ℕ) (x : Lock) → holds x t Exclusive ≡ 0 → mode_to_give t x ≡ Shared
mode_shared t x e = ap (λ k. if nat_eq k 0 then Shared else Exclusive) e

one_less_than : (n : ℕ) → 0 < n → (m : ℕ) × (n ≡ suc m)
one_less_than zero h = absurd (omega (arith, h))
one_less_than (suc m) h = (m, refl)

gives_any : (old new : LockTable) (l t : ℕ) (x : Lock) (answer : Option Mode) → t < old.threads → StandsFor old l x → GiveAnyAnswers old l t answer new → GivesAnyAs x t answer new l
gives_any old new l t x (Some Exclusive) h st a = let n : (m : ℕ) × (depth_of old l t ≡ suc m) = one_less_than (depth_of old l t) a.0 in
    (mode_alone t x n.0 (st.same t h Exclusive ∙ n.1), gives_lock old new l t x giving.Done h st a)
gives_any old new l t x (Some Shared) h st a = (mode_shared t x (st.same t h Exclusive ∙ a.0), gives_shared old new l t x giving.Done h st a.1)
gives_any old new l t x None h st a = subst (λ m. GivesAs (give m t x) giving.NotHeld new l) (sym (mode_shared t x (st.same t h Exclusive ∙ a.0))) (gives_shared old new l t x giving.NotHeld h st a.1)

pub the_table_is_the_locks : TheTableIsTheLocks
unfolding count_of
the_table_is_the_locks = record {
  begins = λ k l f. shared_stands k l [] f.unowned (λ u b. sym (f.unshared u b)) (λ u b. refl);
  takes = takes_lock;
  takes_again = takes_again;
  shares = shares_lock;
  gives = gives_lock;
  gives_shared = gives_shared;
  gives_any = gives_any;
}
