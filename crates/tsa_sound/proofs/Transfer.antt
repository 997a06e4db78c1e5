-- What a frame owns before a call and behind it: what it keeps as a caller, and what the attributes of the call stand for.
use Rattle.std.proofs.Common.{◌≡◌, ◌∙◌, ℕ, ◌+◌, ◌≤◌, length, Bool, true, false, List, [], ◌∷◌, Option, Some, None, ◌⊎◌, inl, inr, refl, ap}
use Rattle.std.proofs.Common.{sym, subst}
use Rattle.std.specs.Prelude.{All, Contains, cond}
use Rattle.tsa_tree.specs.declared.attr.AttrKind.{AttrKind}
use Rattle.tsa_tree.specs.declared.attr.AttrKind.TheVariants as attr
use Rattle.tsa_place_model.specs.Ways.{Way}
use Rattle.tsa_core.specs.Control.{Outcome}
use Rattle.tsa_core.specs.Programs.{Attr, Function, Program}
use Rattle.tsa_rules.specs.declared.rule.Rule.{Rule}
use Rattle.tsa_rules.specs.declared.rule.Rule.TheVariants.{TS03, TS04, TS06, TS07, TS08, TS11}
use Rattle.tsa_rules.specs.declared.status.Status.{Status}
use Rattle.tsa_rules.specs.declared.status.Status.TheVariants.{Free, Lent}
use Rattle.tsa_rules.specs.Attributes.{all_as_called, as_called, claim, claim_count, claims, claims_path, is_reentrant, is_try, kind_of}
use Rattle.tsa_rules.specs.Attributes.{names}
use Rattle.tsa_rules.specs.Conditions.{condition_at}
use Rattle.tsa_rules.specs.Effects.{after_attempt, after_claim, after_test, attempt_at, effect, entry_by, exit_by, exit_with, if_taken}
use Rattle.tsa_rules.specs.Effects.{is_success, is_taken_by, taken_by}
use Rattle.tsa_rules.specs.Fits.{Fits, FitsAcquire, FitsMode, FitsRelease, FitsRequires, FitsRequiresShared}
use Rattle.tsa_rules.specs.Points.{attrs_at, try_variables}
use Rattle.tsa_rules.proofs.Fitting.{what_does_not_fail_fits}
use Rattle.tsa_sched.specs.declared.event.Mode.{Mode}
use Rattle.tsa_mean.specs.Acts.{point_of}
use Rattle.tsa_mean.specs.Returns.{if_lock}
use Rattle.tsa_mean.specs.States.{Frame}
use Rattle.tsa_mean.specs.Working.{Locals}
use Rattle.tsa_sound.specs.Facts.{FunctionFacts}
use Rattle.tsa_sound.specs.FramesFit.{ProgramRows, function_of, owned_by_caller, paths_of, settled_in, status_before, status_kept}
use Rattle.tsa_sound.specs.SettledStatuses.{hold, holds_for, lock_in, lock_named, settled, total, units}
use Rattle.tsa_sound.proofs.Claims.{holds_named, split_claimed, split_named, total_mapped, unclaimed, worth}
use Rattle.tsa_sound.proofs.Constants.{both, differ}
use Rattle.tsa_sound.proofs.Deciding.{settled_is}
use Rattle.tsa_sound.proofs.Sums.{first_in, hold_same, rest_in, total_same}
use Rattle.tsa_sound.proofs.Tables.{FitsClaim, after_units, before_units, call_settled, claim_settled, fits_claim, handed, left_by_call}
use Rattle.tsa_sound.proofs.Tables.{left_lent, left_some}

pub all_at : {A : Type 0} (P : A → Type 0) (xs : List A) (a : A) → All P xs → Contains xs a → P a
all_at P xs a all i = subst P i.2 (all i.0 a i.1)

-- an attribute that claims a path is one of the list
pub record IsClaim (ats : List Attr) (c : Way) (a : Attr) : Type 0 where
  pub there : Contains ats a
  pub claiming : claims a.kind ≡ true
  pub naming : names c a ≡ true

pub found : (ats : List Attr) (c : Way) (a : Attr) → claim ats c ≡ Some a → IsClaim ats c a
found [] c a e = absurd (missing e)
  where
    missing : ◌≡◌ {A = Option Attr} None (Some a) → ⊥
    missing e = cc
found (b ∷ rest) c a e = by (claims_path c b) refl e (found rest c a)
  where
    same : Some b ≡ Some a → b ≡ a
    same e = cc

    by : (t : Bool) → claims_path c b ≡ t → cond t (Some b) (claim rest c) ≡ Some a → (claim rest c ≡ Some a → IsClaim rest c a) → IsClaim (b ∷ rest) c a
    by true is e more =
        let parts = both (claims b.kind) (names c b) is in
        record {
          there = subst (Contains (b ∷ rest)) (same e) (first_in b rest);
          claiming = subst (λ a. claims a.kind ≡ true) (same e) parts.0;
          naming = subst (λ a. names c a ≡ true) (same e) parts.1;
        }
    by false is e more = let claim = more e in record { there = rest_in b a rest claim.there; claiming = claim.claiming; naming = claim.naming }

module _ (u : Program) (x : ProgramRows) (frame : Frame) (facts : FunctionFacts u x frame.function)
    (listed : (x.rows frame.function).has_point frame.point ≡ true) where
  abbrev f : Function
  f = function_of u frame

  abbrev ats : List Attr
  ats = attrs_at u (function_of u frame) frame.point

  pub fits_rule : (rule : Rule) (c : Way) → Contains (paths_of x frame) c → Fits rule u (function_of u frame) frame.point c (status_before x frame c)
  fits_rule rule c i = what_does_not_fail_fits rule u (function_of u frame) frame.point c (status_before x frame c) (facts.kept.breaks_none rule frame.point c listed i)

  -- no path is claimed twice
  pub alone : (c : Way) → Contains (paths_of x frame) c → claim_count (attrs_at u (function_of u frame) frame.point) c ≤ 1
  alone c i = fits_rule TS11 c i

  -- the status of a path fits the attribute that claims it, and so does the settled one
  pub fits_at : (c : Way) → Contains (paths_of x frame) c
      → FitsClaim (is_reentrant u (function_of u frame) c) (kind_of (claim (attrs_at u (function_of u frame) frame.point) c)) (status_before x frame c)
  fits_at c i = by (claim ats c) refl
    where
      of : (a : Attr) → IsClaim ats c a → FitsClaim (is_reentrant u f c) (Some a.kind) (status_before x frame c)
      of a is = fits_claim (is_reentrant u f c) (length (try_variables u f)) a.kind (status_before x frame c) (facts.possible frame.point c listed i)
          (all_at (λ a. names c a ≡ true → FitsRequires a.kind (status_before x frame c)) ats a (fits_rule TS03 c i) is.there is.naming)
          (all_at (λ a. names c a ≡ true → FitsRequiresShared a.kind (status_before x frame c)) ats a (fits_rule TS04 c i) is.there is.naming)
          (all_at (λ a. names c a ≡ true → FitsAcquire (is_reentrant u f c) a.kind (status_before x frame c)) ats a (fits_rule TS06 c i) is.there is.naming)
          (all_at (λ a. names c a ≡ true → FitsRelease a.kind (status_before x frame c)) ats a (fits_rule TS07 c i) is.there is.naming)
          (all_at (λ a. names c a ≡ true → FitsMode a.kind (status_before x frame c)) ats a (fits_rule TS08 c i) is.there is.naming)

      by : (o : Option Attr) → claim ats c ≡ o → FitsClaim (is_reentrant u f c) (kind_of o) (status_before x frame c)
      by None e = tt
      by (Some a) e = of a (found ats c a e)

  pub fits_settled : (c : Way) → Contains (paths_of x frame) c
      → FitsClaim (is_reentrant u (function_of u frame) c) (kind_of (claim (attrs_at u (function_of u frame) frame.point) c))
      (settled_in u frame (status_before x frame) c)
  fits_settled c i = by (claim ats c) refl (fits_at c i)
    where
      by : (o : Option Attr) → claim ats c ≡ o → FitsClaim (is_reentrant u f c) (kind_of o) (status_before x frame c)
          → FitsClaim (is_reentrant u f c) (kind_of o) (settled_in u frame (status_before x frame) c)
      by None e fits = tt
      by (Some a) e fits =
          subst (FitsClaim (is_reentrant u f c) (Some a.kind))
          (sym (settled_is u f frame.locals c (status_before x frame c) (claim_settled (is_reentrant u f c) a.kind (status_before x frame c)
          (found ats c a e).claiming fits))) fits

  -- A call is answered: the frame goes on by an outcome, with some locals, and an answer of a try.
  pub record GoesOn (new : Locals) (o : Outcome) (answer : Option Bool) : Type 0 where
    pub untested : (c : Way) (s : Status) → after_test u (function_of u frame) c o (condition_at (point_of u frame).action) s ≡ s
    -- what no attribute claims is settled as it was
    pub others : (c : Way) → Contains (paths_of x frame) c → claim (attrs_at u (function_of u frame) frame.point) c ≡ None
        → settled u (function_of u frame) new c (status_before x frame c) ≡ settled_in u frame (status_before x frame) c
    -- and what is tried by the answer
    pub tries : (c : Way) → Contains (paths_of x frame) c → (a : Attr) → claim (attrs_at u (function_of u frame) frame.point) c ≡ Some a → is_try a.kind ≡ true
        → settled u (function_of u frame) new c (after_attempt (attempt_at u (function_of u frame) (point_of u frame).action o a) (taken_by a.kind) Free)
        ≡ if_taken (is_success a.success answer) (taken_by a.kind)
    -- a path leads where it led, or is free
    pub leads : (c : Way) → Contains (paths_of x frame) c
        → (settled u (function_of u frame) new c (effect u (function_of u frame) frame.point c o (status_before x frame c)) ≡ Free) ⊎ (lock_in u new c
        ≡ lock_in u frame.locals c)

  module _ (new : Locals) (o : Outcome) (answer : Option Bool) (on : GoesOn new o answer) where
    abbrev pub status_behind : Way → Status
    status_behind c = settled u (function_of u frame) new c (effect u (function_of u frame) frame.point c o (status_before x frame c))

    -- behind the call a path has the status of the table
    pub behind_is : (c : Way) → Contains (paths_of x frame) c
        → settled u (function_of u frame) new c (effect u (function_of u frame) frame.point c o (status_before x frame c))
        ≡ left_by_call (is_reentrant u (function_of u frame) c) (is_taken_by answer (claim (attrs_at u (function_of u frame) frame.point) c))
        (kind_of (claim (attrs_at u (function_of u frame) frame.point) c)) (settled_in u frame (status_before x frame) c)
    behind_is c i = ap (settled u f new c) (on.untested c (after_claim u f frame.point c o (claim ats c) (status_before x frame c)))
        ∙ by (claim ats c) refl (fits_at c i)
      where
        by : (claimed : Option Attr) → claim ats c ≡ claimed → FitsClaim (is_reentrant u f c) (kind_of claimed) (status_before x frame c)
            → settled u f new c (after_claim u f frame.point c o claimed (status_before x frame c))
            ≡ left_by_call (is_reentrant u f c) (is_taken_by answer claimed) (kind_of claimed) (settled_in u frame (status_before x frame) c)
        by None e fits = on.others c i e
        by (Some a) e fits = call_settled u f frame.locals new c (is_reentrant u f c) (is_success a.success answer)
            (attempt_at u f (point_of u frame).action o a) a.kind (status_before x frame c)
            (found ats c a e).claiming fits (on.tries c i a e)

    pub behind_units : (c : Way) → Contains (paths_of x frame) c → (mode : Mode)
        → units (settled u (function_of u frame) new c (effect u (function_of u frame) frame.point c o (status_before x frame c))) mode
        ≡ units (status_kept u x frame c) mode + units (exit_with answer (claim (attrs_at u (function_of u frame) frame.point) c)) mode
    behind_units c i mode = ap (λ s. units s mode) (behind_is c i)
        ∙ after_units (is_reentrant u f c) (is_taken_by answer (claim ats c)) (kind_of (claim ats c)) (settled_in u frame (status_before x frame) c)
        (fits_settled c i) mode

    silent_exit : (a : Attr) → claims a.kind ≡ false → exit_with answer (Some a) ≡ Free
    silent_exit a e = by a.kind e
      where
        by : (kind : AttrKind) → claims kind ≡ false → exit_by (is_success a.success answer) (Some kind) ≡ Free
        by attr.Requires e = differ (sym e)
        by attr.RequiresShared e = differ (sym e)
        by attr.Acquire e = differ (sym e)
        by attr.AcquireShared e = differ (sym e)
        by attr.TryAcquire e = differ (sym e)
        by attr.TryAcquireShared e = differ (sym e)
        by attr.Release e = refl
        by attr.ReleaseShared e = refl
        by attr.ReleaseGeneric e = refl
        by attr.Capability e = refl
        by attr.GuardedBy e = refl
        by attr.Excludes e = refl
        by attr.AcquiredBefore e = refl
        by attr.AcquiredAfter e = refl

    -- Behind the call the frame owns what it kept as a caller, and what the attributes hand back for the answer.
    pub owned_behind : (lock : ℕ) (mode : Mode)
        → holds_for u new (paths_of x frame) (λ c. settled u (function_of u frame) new c (effect u (function_of u frame) frame.point c o
        (status_before x frame c))) lock mode
        ≡ owned_by_caller u x frame lock mode + holds_named u frame.locals (λ a. exit_with answer (Some a)) (attrs_at u (function_of u frame) frame.point) lock mode
    owned_behind lock mode =
        total_same (λ c. hold u new c (status_behind c) lock mode) (λ c. hold u frame.locals c (status_behind c) lock mode) (paths_of x frame)
        (λ c i. hold_same u frame.locals new c (status_behind c) (status_behind c) refl (on.leads c i) lock mode)
        ∙ split_named u frame.locals (paths_of x frame) facts.once ats (facts.called frame.point) alone (exit_with answer) refl silent_exit lock mode status_behind
        (status_kept u x frame)
        (λ c i. behind_units c i mode)

    -- a path that is lent behind the call was lent before
    pub lent_before : (c : Way) → Contains (paths_of x frame) c
        → settled u (function_of u frame) new c (effect u (function_of u frame) frame.point c o (status_before x frame c)) ≡ Lent
        → settled_in u frame (status_before x frame) c ≡ Lent
    lent_before c i e =
        left_lent (is_reentrant u f c) (is_taken_by answer (claim ats c)) (kind_of (claim ats c)) (settled_in u frame (status_before x frame) c)
        (sym (behind_is c i) ∙ e)

    -- and one that isn't free wasn't, or is what an attribute of its name hands back
    pub some_before : (c : Way) → Contains (paths_of x frame) c
        → (settled u (function_of u frame) new c (effect u (function_of u frame) frame.point c o (status_before x frame c)) ≡ Free → ⊥)
        → (settled_in u frame (status_before x frame) c ≡ Free → ⊥) ⊎ ((a : Attr) × IsClaim (attrs_at u (function_of u frame) frame.point) c a
        × (exit_with answer (Some a) ≡ Free → ⊥))
    some_before c i some = by (claim ats c) refl
        (left_some (is_reentrant u f c) (is_taken_by answer (claim ats c)) (kind_of (claim ats c)) (settled_in u frame (status_before x frame) c)
        (λ e. some (behind_is c i ∙ e)))
      where
        by : (claimed : Option Attr) → claim ats c ≡ claimed → (settled_in u frame (status_before x frame) c ≡ Free → ⊥) ⊎ (exit_with answer claimed ≡ Free → ⊥)
            → (settled_in u frame (status_before x frame) c ≡ Free → ⊥) ⊎ ((a : Attr) × IsClaim ats c a × (exit_with answer (Some a) ≡ Free → ⊥))
        by claimed e (inl before) = inl before
        by None e (inr exit) = absurd (exit refl)
        by (Some a) e (inr exit) = inr (a, found ats c a e, exit)

  -- Before the call the frame owns what it keeps as a caller, and what the call is handed: of each path that is claimed,
  pub owned_before_of : (lock : ℕ) (mode : Mode)
      → holds_for u frame.locals (paths_of x frame) (settled_in u frame (status_before x frame)) lock mode ≡ owned_by_caller u x frame lock mode
      + total (worth (paths_of x frame) facts.once (λ c o. hold u frame.locals c (handed (kind_of o) (settled_in u frame (status_before x frame) c)) lock mode)
      (λ c. unclaimed u frame.locals (paths_of x frame) facts.once (attrs_at u (function_of u frame) frame.point) (facts.called frame.point) alone
      (λ c o. handed (kind_of o) (settled_in u frame (status_before x frame) c)) (λ c. refl) lock mode c)) (attrs_at u (function_of u frame) frame.point)
  owned_before_of lock mode =
      split_claimed u frame.locals (paths_of x frame) facts.once ats (facts.called frame.point) alone
      (λ c o. handed (kind_of o) (settled_in u frame (status_before x frame) c)) (λ c. refl)
      lock mode (settled_in u frame (status_before x frame)) (status_kept u x frame)
      (λ c i. before_units (is_reentrant u f c) (kind_of (claim ats c)) (settled_in u frame (status_before x frame) c) (fits_settled c i) mode)

  abbrev pub IsGeneric : AttrKind → Type 0
  IsGeneric attr.ReleaseGeneric = Unit {0}
  IsGeneric kind = ⊥

  handed_entry : (kind : AttrKind) (s : Status) → (IsGeneric kind → ⊥) → handed (Some kind) s ≡ entry_by (Some kind)
  handed_entry attr.ReleaseGeneric s not = absurd (not tt)
  handed_entry attr.Requires s not = refl
  handed_entry attr.RequiresShared s not = refl
  handed_entry attr.Acquire s not = refl
  handed_entry attr.AcquireShared s not = refl
  handed_entry attr.TryAcquire s not = refl
  handed_entry attr.TryAcquireShared s not = refl
  handed_entry attr.Release s not = refl
  handed_entry attr.ReleaseShared s not = refl
  handed_entry attr.Capability s not = refl
  handed_entry attr.GuardedBy s not = refl
  handed_entry attr.Excludes s not = refl
  handed_entry attr.AcquiredBefore s not = refl
  handed_entry attr.AcquiredAfter s not = refl

  silent_entry : (a : Attr) → claims a.kind ≡ false → entry_by (kind_of (Some a)) ≡ Free
  silent_entry a e = by a.kind e
    where
      by : (kind : AttrKind) → claims kind ≡ false → entry_by (Some kind) ≡ Free
      by attr.Requires e = differ (sym e)
      by attr.RequiresShared e = differ (sym e)
      by attr.Acquire e = refl
      by attr.AcquireShared e = refl
      by attr.TryAcquire e = refl
      by attr.TryAcquireShared e = refl
      by attr.Release e = differ (sym e)
      by attr.ReleaseShared e = differ (sym e)
      by attr.ReleaseGeneric e = refl
      by attr.Capability e = refl
      by attr.GuardedBy e = refl
      by attr.Excludes e = refl
      by attr.AcquiredBefore e = refl
      by attr.AcquiredAfter e = refl

  -- and where no attribute gives a lock back in whatever mode, what each attribute is entered with
  pub owned_before : All (λ a. IsGeneric a.kind → ⊥) (attrs_at u (function_of u frame) frame.point) → (lock : ℕ) (mode : Mode)
      → holds_for u frame.locals (paths_of x frame) (settled_in u frame (status_before x frame)) lock mode
      ≡ owned_by_caller u x frame lock mode + holds_named u frame.locals (λ a. entry_by (Some a.kind)) (attrs_at u (function_of u frame) frame.point) lock mode
  owned_before none lock mode =
      split_named u frame.locals (paths_of x frame) facts.once ats (facts.called frame.point) alone (λ o. entry_by (kind_of o)) refl silent_entry lock mode
      (settled_in u frame (status_before x frame)) (status_kept u x frame) (λ c i. by c _ _ (claim ats c) refl
      (before_units (is_reentrant u f c) (kind_of (claim ats c)) (settled_in u frame (status_before x frame) c) (fits_settled c i) mode))
    where
      by : (c : Way) (n k : ℕ) (claimed : Option Attr) → claim ats c ≡ claimed
          → n ≡ k + units (handed (kind_of claimed) (settled_in u frame (status_before x frame) c)) mode
          → n ≡ k + units (entry_by (kind_of claimed)) mode
      by c n k None e is = is
      by c n k (Some a) e is = is
          ∙ ap (λ s. k + units s mode) (handed_entry a.kind (settled_in u frame (status_before x frame) c) (all_at (λ a. IsGeneric a.kind
          → ⊥) ats a none (found ats c a e).there))

-- The same sums by the attributes as they are declared, in the words of the caller.
pub named_as_called : (u : Program) (locals : Locals) (status : Attr → Status) → ((args : List (Option Way)) (a : Attr) → status (as_called args a) ≡ status a)
    → (args : List (Option Way)) (ats : List Attr) (lock : ℕ) (mode : Mode)
    → holds_named u locals status (all_as_called args ats) lock mode ≡ total (λ a. if_lock lock (lock_named u locals (as_called args a)) (units (status a) mode)) ats
named_as_called u locals status same args ats lock mode =
    total_mapped (λ a. if_lock lock (lock_named u locals a) (units (status a) mode)) (as_called args) ats
    ∙ total_same (λ a. if_lock lock (lock_named u locals (as_called args a)) (units (status (as_called args a)) mode))
    (λ a. if_lock lock (lock_named u locals (as_called args a)) (units (status a) mode)) ats
    (λ a i. ap (λ s. if_lock lock (lock_named u locals (as_called args a)) (units s mode)) (same args a))
