-- Paths are put in lanes, one by one.
use Rattle.std.proofs.Common.{◌≡◌, ◌∙◌, ℕ, nat_eq, eq-eqb, Bool, true, false, ◌||◌, zero, suc, ◌+◌, ◌<◌, List, [], ◌∷◌, ◌++◌, Contains}
use Rattle.std.proofs.Common.{length, replicate, Option, Some, None, slice_get, slice_index_or, All, refl, sym, ap, subst, arith}
use Rattle.std.specs.List.{list_any}
use Rattle.std.proofs.Math.Decide.{ℕ_discrete}
use Rattle.std.proofs.lemmas.List.{length-append}
use Rattle.std.proofs.lemmas.List.Elements.{All-contains, All-get_or, All-nil, All-push, All-weaker}
use Rattle.tsa_rules.specs.Cases.{entry_in}
use Rattle.tsa_rules.specs.declared.status.Status.{Status}
use Rattle.tsa_flow_function.proofs.ClaimLists.{all_claims, never_claimed, never_tried}
use Rattle.tsa_flow_function.specs.Claims.{noted}
use Rattle.tsa_flow_function.specs.ClaimLanes.{AreLanesAt}
use Rattle.tsa_rules_roles.specs.Roles.{begin_in}
use Rattle.tsa_rules_table.specs.Rows.{rows_in}
use Rattle.tsa_rules_view.specs.declared.content.RuleView.{RuleView}
use Rattle.tsa_rules_view.specs.Views.{case_in, kept_from, lock_in}
use Rattle.tsa_flow_function.specs.declared.table.Idle.{Idle}
use Rattle.tsa_flow_function.specs.declared.table.LaneTable.{LaneTable}
use Rattle.tsa_flow_function.specs.IdlePaths.{IsIdle, shared_with}
use Rattle.tsa_flow_function.specs.Lanes.{alike, AreAssigned, AreClaimed, AreIdle, cap_of, fresh, GoesWith, IsAdded, IsAssigned, IsFound}
use Rattle.tsa_flow_function.specs.Lanes.{known, same}

at_end : {A : Type 0} (xs : List A) (x : A) → slice_get (xs ++ x ∷ []) (length xs) ≡ Some x
at_end [] x = refl
at_end (y ∷ xs) x = at_end xs x

in_front : {A : Type 0} (xs : List A) (x y : A) (i : ℕ) → slice_get xs i ≡ Some y → slice_get (xs ++ x ∷ []) i ≡ Some y
in_front [] x y i h = cc
in_front (z ∷ xs) x y zero h = h
in_front (z ∷ xs) x y (suc i) h = in_front xs x y i h

-- the lane of the paths that have a status at the entry is that of such a path
pub record IsShared (view : RuleView) (caps : List ℕ) (idle : Idle) : Type 0 where
  pub cap : ℕ
  pub has : slice_get caps idle.lane ≡ Some cap
  pub entry : idle.entry ≡ entry_in (lock_in view cap)
  pub is_idle : IsIdle view (λ p. case_in view p cap)

-- the lanes of so many first paths
pub record AreGathered (view : RuleView) (table : LaneTable) (upto : ℕ) : Type 0 where
  pub long : length table.numbers.items ≡ upto
  pub there : All (λ cap. cap < upto) table.caps.items
  pub assigned : (number : ℕ) → number < upto → IsAssigned view table.caps.items table.numbers.items number
  pub shared : All (IsShared view table.caps.items) table.idle.items

-- the lane of a path that is found, with the path of the lane
pub record HasLane (view : RuleView) (caps : List ℕ) (number lane : ℕ) : Type 0 where
  pub cap : ℕ
  pub has : slice_get caps lane ≡ Some cap
  pub goes : GoesWith view number cap

module _ (view : RuleView) (cap : ℕ) (claims : List ℕ) (entry : Status) (lane : ℕ) (old mid : LaneTable)
    (entered : entry ≡ entry_in (lock_in view cap)) (idle : claims ≡ [] → IsIdle view (λ p. case_in view p cap)) (shared : All (IsShared view old.caps.items) old.idle.items) where
  -- what is shared stays so where there are more lanes
  still_shared : mid.caps.items ≡ old.caps.items ++ cap ∷ [] → All (IsShared view mid.caps.items) old.idle.items
  still_shared more =
      All-weaker (IsShared view old.caps.items) (IsShared view mid.caps.items)
      (λ i x. record { cap = x.cap; has = ap (λ xs. slice_get xs i.lane) more ∙ in_front old.caps.items cap x.cap i.lane x.has; entry = x.entry; is_idle = x.is_idle }) old.idle.items shared

  own : lane ≡ length old.caps.items → mid.caps.items ≡ old.caps.items ++ cap ∷ [] → slice_get mid.caps.items lane ≡ Some cap
  own last more = ap (λ xs. slice_get xs lane) more ∙ subst (λ n. slice_get (old.caps.items ++ cap ∷ []) n ≡ Some cap) (sym last) (at_end old.caps.items cap)

  pub lane_found : IsFound cap claims entry lane old mid → HasLane view mid.caps.items cap lane
  lane_found (known none among kept) =
      let x = All-contains (IsShared view old.caps.items) old.idle.items (record { entry = entry; lane = lane }) shared among in
      record { cap = x.cap; has = subst (λ (t : LaneTable). slice_get t.caps.items lane ≡ Some x.cap) (sym kept) x.has; goes = alike (sym entered ∙ x.entry) (idle none) x.is_idle }
  lane_found (fresh last more shares) = record { cap = cap; has = own last more; goes = same refl }

  share_by : (xs : List ℕ) → claims ≡ xs → lane ≡ length old.caps.items → mid.caps.items ≡ old.caps.items ++ cap ∷ []
      → All (IsShared view mid.caps.items) (shared_with old.idle.items xs (record { entry = entry; lane = lane }))
  share_by [] is last more = All-push (IsShared view mid.caps.items) old.idle.items (record { entry = entry; lane = lane }) (still_shared more)
      (record { cap = cap; has = own last more; entry = entered; is_idle = idle is })
  share_by (x ∷ xs) is last more = still_shared more

  pub shared_found : IsFound cap claims entry lane old mid → All (IsShared view mid.caps.items) mid.idle.items
  shared_found (known none among kept) = subst (λ (t : LaneTable). All (IsShared view t.caps.items) t.idle.items) (sym kept) shared
  shared_found (fresh last more shares) = subst (All (IsShared view mid.caps.items)) (sym shares) (share_by claims refl last more)

  -- and each lane is that of a path which is there
  pub caps_there : All (λ k. k < cap) old.caps.items → IsFound cap claims entry lane old mid → All (λ k. k < cap + 1) mid.caps.items
  caps_there all (known none among kept) = subst (λ (t : LaneTable). All (λ k. k < cap + 1) t.caps.items) (sym kept) (All-weaker (λ k. k < cap) (λ k. k < cap + 1) (λ k low. omega (arith, low)) old.caps.items all)
  caps_there all (fresh last more shares) = subst (All (λ k. k < cap + 1)) (sym more)
      (All-push (λ k. k < cap + 1) old.caps.items cap (All-weaker (λ k. k < cap) (λ k. k < cap + 1) (λ k low. omega (arith, low)) old.caps.items all) (omega arith))

  -- lanes that are there keep their paths
  pub caps_kept : IsFound cap claims entry lane old mid → (l k : ℕ) → slice_get old.caps.items l ≡ Some k → slice_get mid.caps.items l ≡ Some k
  caps_kept (known none among kept) l k h = subst (λ (t : LaneTable). slice_get t.caps.items l ≡ Some k) (sym kept) h
  caps_kept (fresh last more shares) l k h = ap (λ xs. slice_get xs l) more ∙ in_front old.caps.items cap k l h

-- one path more
pub one_more : (view : RuleView) (cap : ℕ) (claims : List ℕ) (entry : Status) (old new : LaneTable) → entry ≡ entry_in (lock_in view cap) → (claims ≡ [] → IsIdle view (λ p. case_in view p cap))
    → AreGathered view old cap → IsAdded cap claims entry old new → AreGathered view new (cap + 1)
one_more view cap claims entry old new entered idle before x = record {
  long = ap length x.numbers ∙ (length-append old.numbers.items (x.lane ∷ []) ∙ ap (λ n. n + 1) before.long);
  there = subst (All (λ k. k < cap + 1)) (sym x.caps) (caps_there view cap claims entry x.lane old x.mid entered idle before.shared before.there x.found);
  assigned = λ number less. elim (ℕ_discrete number cap) [
    | yes is ↦ subst (IsAssigned view new.caps.items new.numbers.items) (sym is) last
    | no other ↦ kept number (before.assigned number (omega (arith, less, other)))
  ];
  shared = subst (λ cs. All (IsShared view cs) new.idle.items) (sym x.caps) (subst (All (IsShared view x.mid.caps.items)) (sym x.idle) (shared_found view cap claims entry x.lane old x.mid entered idle before.shared x.found));
}
  where
    last : IsAssigned view new.caps.items new.numbers.items cap
    last =
        let y = lane_found view cap claims entry x.lane old x.mid entered idle before.shared x.found in
        record {
          lane = x.lane;
          is_there = ap (λ xs. slice_get xs cap) x.numbers ∙ subst (λ n. slice_get (old.numbers.items ++ x.lane ∷ []) n ≡ Some x.lane) before.long (at_end old.numbers.items x.lane);
          cap = y.cap;
          has = ap (λ xs. slice_get xs x.lane) x.caps ∙ y.has;
          goes = y.goes;
        }

    kept : (number : ℕ) → IsAssigned view old.caps.items old.numbers.items number → IsAssigned view new.caps.items new.numbers.items number
    kept number h = record {
      lane = h.lane;
      is_there = ap (λ xs. slice_get xs number) x.numbers ∙ in_front old.numbers.items x.lane h.lane number h.is_there;
      cap = h.cap;
      has = ap (λ xs. slice_get xs h.lane) x.caps ∙ caps_kept view cap claims entry x.lane old x.mid entered idle before.shared x.found h.lane h.cap h.has;
      goes = h.goes;
    }

pub none_gathered : (view : RuleView) (table : LaneTable) → table.caps.items ≡ [] → table.numbers.items ≡ [] → table.idle.items ≡ [] → AreGathered view table 0
none_gathered view table caps numbers idle = record {
  long = ap length numbers;
  there = subst (All (λ k. k < 0)) (sym caps) (All-nil (λ k. k < 0));
  assigned = λ number less. absurd (omega (arith, less));
  shared = subst (All (IsShared view table.caps.items)) (sym idle) (All-nil (IsShared view table.caps.items));
}

-- a path of which no point is noted is neither claimed nor tried
module _ (view : RuleView) (paths cap : ℕ) (inside : cap < paths) (none : slice_index_or (noted view.notes.marks.marks (replicate paths [])) cap [] ≡ []) where
  kept_by : (o : Option ℕ) → kept_from view cap o ≡ None
  kept_by None = refl
  kept_by (Some p) = never_tried view.notes.marks paths cap inside none p

  pub is_idle : IsIdle view (λ p. case_in view p cap)
  is_idle = record {
    roles = λ p. refl;
    unclaimed = λ p. never_claimed view.notes.marks paths cap inside none p;
    untried = λ p. kept_by (begin_in view.notes.roles p);
  }

pub all_gathered : (view : RuleView) (table : LaneTable) → AreGathered view table (length view.numbers) → AreAssigned view table.caps.items table.numbers.items
all_gathered view table h = record { there = h.there; each = h.assigned }

-- a number among some is found there
among_tests : (xs : List ℕ) (n : ℕ) → Contains xs n → list_any (nat_eq n) xs ≡ true
among_tests [] n (i, inside, is) = absurd (omega (arith, inside))
among_tests (x ∷ xs) n (zero, inside, is) = ap (λ b. b || list_any (nat_eq n) xs) (eq-eqb n x (sym is))
among_tests (x ∷ xs) n (suc i, inside, is) = either (nat_eq n x) (list_any (nat_eq n) xs) (among_tests xs n (i, omega (arith, inside), is))
  where
    either : (a b : Bool) → b ≡ true → (a || b) ≡ true
    either true b e = refl
    either false b e = e

-- the lanes that points claim are those of the paths that are claimed there
module _ (view : RuleView) (caps : List ℕ) (claims lists : List (List ℕ)) (are : AreLanesAt (rows_in view.notes.marks) claims caps lists) (there : All (λ cap. cap < length view.numbers) caps)
    (listed : claims ≡ noted view.notes.marks.marks (replicate (length view.numbers) [])) where
  pub are_claimed : AreClaimed view caps lists
  are_claimed = record {
    rising = are.rising;
    all = λ lane p inside less claim. among_tests (slice_index_or lists p []) lane (are.all lane p less inside
        (subst (λ cs. Contains (slice_index_or cs (cap_of caps lane) []) p) (sym listed)
        (all_claims view.notes.marks (length view.numbers) p (cap_of caps lane) (All-get_or (λ cap. cap < length view.numbers) caps lane 0 less there) claim)));
  }

pub are_idle : (view : RuleView) (claims : List (List ℕ)) → claims ≡ noted view.notes.marks.marks (replicate (length view.numbers) []) → AreIdle view claims
are_idle view claims listed number inside none = is_idle view (length view.numbers) number inside (subst (λ cs. slice_index_or cs number [] ≡ []) listed none)
