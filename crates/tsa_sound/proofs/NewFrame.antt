-- The frame of a function that is called: it begins with what the caller hands over.
use Rattle.std.proofs.Common.{◌≡◌, ◌∙◌, ℕ, ◌+◌, false, List, ◌∷◌, Option, Some, None, option_and_then, refl, ap, sym, subst, arith}
use Rattle.std.specs.Prelude.{All, Contains, IsSome}
use Rattle.tsa_base.specs.declared.value.Value.{Value}
use Rattle.tsa_tree.specs.declared.attr.AttrKind.{AttrKind}
use Rattle.tsa_tree.specs.declared.attr.AttrKind.TheVariants as attr
use Rattle.tsa_place_model.specs.Ways.{Way}
use Rattle.tsa_core.specs.Meanings.{Call}
use Rattle.tsa_core.specs.Programs.{Attr, Function, Program}
use Rattle.tsa_core.specs.Terms.{Term}
use Rattle.tsa_path.specs.Laws.{IsSmall}
use Rattle.tsa_rules.specs.declared.status.Status.TheVariants.{Free, Lent}
use Rattle.tsa_rules.specs.Attributes.{all_as_called, as_called, claim, claims, kind_of}
use Rattle.tsa_rules.specs.Effects.{entry, entry_by}
use Rattle.tsa_rules.specs.Points.{attrs_at, attrs_called, function_at, uses_at}
use Rattle.tsa_sched.specs.declared.event.Mode.{Mode}
use Rattle.tsa_mean.specs.Acts.{point_of}
use Rattle.tsa_mean.specs.Frames.{frame_of_call}
use Rattle.tsa_mean.specs.Outs.{yields}
use Rattle.tsa_mean.specs.Returns.{if_lock, lock_of}
use Rattle.tsa_mean.specs.States.{Frame, Holds, calling}
use Rattle.tsa_mean.specs.Working.{Locals, rvalues}
use Rattle.tsa_sound.specs.BodyFacts.{SaysItsMode}
use Rattle.tsa_sound.specs.Facts.{FunctionFacts}
use Rattle.tsa_sound.specs.FramesFit.{FrameFits, IsLentOf, ProgramRows, function_of, handed_over, owned, owned_below, paths_of, settled_in}
use Rattle.tsa_sound.specs.FramesFit.{status_before, status_by, status_now}
use Rattle.tsa_sound.specs.Invariant.{StackFits}
use Rattle.tsa_sound.specs.LaidOut.{LaidOut}
use Rattle.tsa_sound.specs.SettledStatuses.{hold, holds_for, lock_in, lock_named, settled, total, units}
use Rattle.tsa_sound.proofs.CallsAgree.{agree, locals_fit, locals_whole, steady}
use Rattle.tsa_sound.proofs.Claims.{holds_named, split_named, total_zero}
use Rattle.tsa_sound.proofs.Constants.{differ}
use Rattle.tsa_sound.proofs.Deciding.{IsSettled, exclusive, free, lent, not_pending, settled_is, shared}
use Rattle.tsa_sound.proofs.Fresh.{fresh_status, work_fits}
use Rattle.tsa_sound.proofs.HandedOver.{all_of, handed_locks, in_mapped, lent_locks, path_is}
use Rattle.tsa_sound.proofs.Lists.{all_mapped}
use Rattle.tsa_sound.proofs.Sums.{free_hold, total_same}
use Rattle.tsa_sound.proofs.Transfer.{IsClaim, IsGeneric, all_at, found, named_as_called, owned_before}

-- what a function begins with is settled
entry_settled : (kind : Option AttrKind) → IsSettled (entry_by kind)
entry_settled None = free
entry_settled (Some attr.Requires) = exclusive 1
entry_settled (Some attr.RequiresShared) = lent
entry_settled (Some attr.Release) = exclusive 1
entry_settled (Some attr.ReleaseShared) = shared
entry_settled (Some kind) = free

silent_entry : (kind : AttrKind) → claims kind ≡ false → entry_by (Some kind) ≡ Free
silent_entry attr.Requires e = differ (sym e)
silent_entry attr.RequiresShared e = differ (sym e)
silent_entry attr.Release e = differ (sym e)
silent_entry attr.ReleaseShared e = differ (sym e)
silent_entry kind e = refl

-- holds of paths that are all free
pub none_held : (u : Program) (locals : Locals) (paths : List Way) (lock : ℕ) (mode : Mode) → holds_for u locals paths (λ c. Free) lock mode ≡ 0
none_held u locals paths lock mode = total_zero (λ c. hold u locals c Free lock mode) paths (λ c i. free_hold u locals c lock mode)

-- an entry that isn't free is that of an attribute
pub entered_by : (ats : List Attr) (c : Way) → (entry_by (kind_of (claim ats c)) ≡ Free → ⊥) → (a : Attr) × (claim ats c ≡ Some a) × IsClaim ats c a
entered_by ats c some = by (claim ats c) refl some
  where
    by : (o : Option Attr) → claim ats c ≡ o → (entry_by (kind_of o) ≡ Free → ⊥) → (a : Attr) × (claim ats c ≡ Some a) × IsClaim ats c a
    by None e some = absurd (some refl)
    by (Some a) e some = (a, e, found ats c a e)

lent_not_free : Lent ≡ Free → ⊥
lent_not_free e = cc

module _ (u : Program) (x : ProgramRows) (held : Holds) (frame : Frame) (below : List Frame) (facts : FunctionFacts u x frame.function)
    (fits : StackFits u x held frame below)
    (laid : LaidOut u.layout) (small : IsSmall u.layout) where
  module _ (c : Call) (there : (point_of u frame).call ≡ Some c) (args : List Term) (is : frame.work ≡ calling args) (vs : List Value)
      (found_values : rvalues u.layout frame.locals args ≡ yields vs) (with_body : IsSome (function_at u c.function).body)
      (callee : FunctionFacts u x c.function) where
    abbrev g : Function
    g = function_at u c.function

    abbrev new : Frame
    new = frame_of_call u c.function vs held

    abbrev ways : List (Option Way)
    ways = (uses_at (function_of u frame) frame.point).arguments

    abbrev ats : List Attr
    ats = attrs_at u (function_of u frame) frame.point

    -- the caller's statuses are those before the call
    pub row : FrameFits u x (owned_below u x below) frame (status_before x frame)
    row = subst (λ work. FrameFits u x (owned_below u x below) frame (λ d. status_by u frame work d (status_before x frame d))) is fits.top

    called_in : (a : Attr) → Contains g.attrs a → Contains ats (as_called ways a)
    called_in a i = subst (λ o. Contains (all_as_called ways (attrs_called u o)) (as_called ways a)) (sym there) (in_mapped (as_called ways) g.attrs a i)

    agrees : (a : Attr) → Contains g.attrs a → lock_of u new a ≡ lock_named u frame.locals (as_called ways a)
    agrees a i = all_at (λ a. lock_of u new a ≡ lock_named u frame.locals (as_called ways a)) g.attrs a
        (agree u x held frame below facts fits laid small c there args is vs found_values callee) i

    abbrev steady_all : All (λ a. lock_of u new a ≡ lock_named u new.locals a) g.attrs
    steady_all = steady u x held frame below facts fits laid small c there args is vs found_values callee

    stays : (a : Attr) → Contains g.attrs a → lock_of u new a ≡ lock_named u new.locals a
    stays a i = all_at (λ a. lock_of u new a ≡ lock_named u new.locals a) g.attrs a steady_all i

    owes : (a : Attr) → Contains g.attrs a → (entry_by (Some a.kind) ≡ Free → ⊥) → IsSome (lock_of u new a)
    owes a i some = subst IsSome (sym (agrees a i)) (handed_locks u x frame below facts row c there (as_called ways a) (called_in a i) some)

    -- the statuses of its paths are those of its entry
    module _ (d : Way) (i : Contains (x.paths c.function) d) where
      pub now_is : status_now u x new d ≡ entry g d
      now_is = fresh_status u new d ((x.rows c.function).status 0 d) ∙ callee.kept.entry_is d i

      pub settled_now : settled_in u new (status_now u x new) d ≡ entry g d
      settled_now = ap (settled u g new.locals d) now_is ∙ settled_is u g new.locals d (entry g d) (entry_settled (kind_of (claim g.attrs d)))

      leads : (a : Attr) → IsClaim g.attrs d a → lock_of u new a ≡ lock_in u new.locals d
      leads a claimed = stays a claimed.there ∙ ap (option_and_then (lock_in u new.locals)) (path_is d a.path claimed.naming)

      entry_of : (a : Attr) → claim g.attrs d ≡ Some a → entry g d ≡ entry_by (Some a.kind)
      entry_of a e = ap (λ o. entry_by (kind_of o)) e

      new_locks : (settled_in u new (status_now u x new) d ≡ Free → ⊥) → IsSome (lock_in u new.locals d)
      new_locks some =
          let own = entered_by g.attrs d (λ e. some (settled_now ∙ e)) in
          subst IsSome (leads own.0 own.2) (owes own.0 own.2.there (λ e. some (settled_now ∙ entry_of own.0 own.1 ∙ e)))

      new_lent : settled_in u new (status_now u x new) d ≡ Lent → IsLentOf (owned_below u x (frame ∷ below)) (lock_in u new.locals d)
      new_lent e =
          let lent = sym settled_now ∙ e in
          let own = entered_by g.attrs d (λ free. lent_not_free (sym lent ∙ free)) in
          subst (IsLentOf (owned_below u x (frame ∷ below))) (sym (agrees own.0 own.2.there) ∙ leads own.0 own.2)
          (lent_locks u x frame below facts row c there (as_called ways own.0) (called_in own.0 own.2.there) (sym (entry_of own.0 own.1) ∙ lent))

    -- what it owns is what it was handed
    pub owns_handed : (lock : ℕ) (mode : Mode) → owned u x new lock mode ≡ handed_over u new lock mode
    owns_handed lock mode =
        let whole = split_named u new.locals (x.paths c.function) callee.once g.attrs callee.own (λ d i. callee.entered.once d) (λ o. entry_by (kind_of o)) refl
        (λ a e. silent_entry a.kind e) lock mode (λ d. entry g d) (λ d. Free) (λ d i. omega arith) in
        let none = none_held u new.locals (x.paths c.function) lock mode in
        let same = total_same (λ d. hold u new.locals d (settled_in u new (status_now u x new) d) lock mode) (λ d. hold u new.locals d (entry g d) lock mode)
        (x.paths c.function)
        (λ d i. ap (λ s. hold u new.locals d s lock mode) (settled_now d i)) in
        let named = total_same (λ a. if_lock lock (lock_named u new.locals a) (units (entry_by (Some a.kind)) mode))
        (λ a. if_lock lock (lock_of u new a) (units (entry_by (Some a.kind)) mode))
        g.attrs (λ a i. ap (λ o. if_lock lock o (units (entry_by (Some a.kind)) mode)) (sym (stays a i))) in
        omega (arith, whole, none, same, named)

    -- no attribute gives a lock back in whatever mode
    in_some_mode : (kind : AttrKind) → SaysItsMode kind → IsGeneric u x frame facts row.listed kind → ⊥
    in_some_mode attr.ReleaseGeneric says is = says
    in_some_mode kind says is = is

    generic_none : All (λ a. IsGeneric u x frame facts row.listed a.kind → ⊥) ats
    generic_none = subst (λ o. All (λ a. IsGeneric u x frame facts row.listed a.kind → ⊥) (all_as_called ways (attrs_called u o))) (sym there)
        (all_mapped (λ a. SaysItsMode a.kind) (λ a. SaysItsMode a.kind) (λ a. IsGeneric u x frame facts row.listed a.kind → ⊥) (as_called ways)
        (λ a says again. in_some_mode a.kind says)
        g.attrs callee.entered.modes callee.entered.modes)

    -- the holds at the call
    pub holds_at_call : (lock : ℕ) (mode : Mode) → held lock mode ≡ owned_below u x (frame ∷ below) lock mode + handed_over u new lock mode
    holds_at_call lock mode =
        let sum = fits.sum lock mode in
        let before = owned_before u x frame facts row.listed generic_none lock mode in
        let now : owned u x frame lock mode ≡ holds_for u frame.locals (paths_of x frame) (settled_in u frame (status_before x frame)) lock mode =
        ap (λ work. holds_for u frame.locals (paths_of x frame) (settled_in u frame (λ d. status_by u frame work d (status_before x frame d))) lock mode) is in
        let called : holds_named u frame.locals (λ a. entry_by (Some a.kind)) ats lock mode
        ≡ total (λ a. if_lock lock (lock_named u frame.locals (as_called ways a)) (units (entry_by (Some a.kind)) mode)) g.attrs =
        ap (λ o. holds_named u frame.locals (λ a. entry_by (Some a.kind)) (all_as_called ways (attrs_called u o)) lock mode) there
        ∙ named_as_called u frame.locals (λ a. entry_by (Some a.kind)) (λ args a. refl) ways g.attrs lock mode in
        let handed = total_same (λ a. if_lock lock (lock_named u frame.locals (as_called ways a)) (units (entry_by (Some a.kind)) mode))
        (λ a. if_lock lock (lock_of u new a) (units (entry_by (Some a.kind)) mode)) g.attrs
        (λ a i. ap (λ o. if_lock lock o (units (entry_by (Some a.kind)) mode)) (sym (agrees a i))) in
        omega (arith, sum, before, now, called, handed)

    pub new_fits : FrameFits u x (owned_below u x (frame ∷ below)) new (status_now u x new)
    new_fits = record {
      with_body = with_body;
      listed = callee.kept.start;
      locks = new_locks;
      lent = new_lent;
      answers = λ d v i e. not_pending (entry g d) v (entry_settled (kind_of (claim g.attrs d))) (sym (now_is d i) ∙ e);
      typed = locals_fit u x held frame below facts fits laid small c there args is vs found_values callee;
      whole = locals_whole u x held frame below facts fits laid small c there args is vs found_values callee;
      owed = all_of (λ a. (entry_by (Some a.kind) ≡ Free → ⊥) → IsSome (lock_of u new a)) g.attrs owes;
      steady = steady_all;
      at_call = holds_at_call;
    }

    -- the called function's frame above the caller's
    pub new_stack : StackFits u x held new (frame ∷ below)
    new_stack = record {
      top = new_fits;
      work = work_fits u c.function 0 new.locals;
      lower = (
        record {
          call = c;
          there = there;
          function = refl;
          agree = agree u x held frame below facts fits laid small c there args is vs found_values
              callee;
        },
        row,
        fits.lower,
      );
      sum = λ lock mode. (let all = holds_at_call lock mode in let own = owns_handed lock mode in omega (arith, all, own));
    }
