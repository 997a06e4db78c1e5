-- Every start has the invariant: each thread begins with a function that asks nothing of its caller, and no lock is held.
use Rattle.std.proofs.Common.{◌≡◌, ◌∙◌, ℕ, zero, suc, ◌+◌, ◌<◌, Bool, true, false, ◌&&◌, List, [], ◌∷◌, length, map, Option, Some, None}
use Rattle.std.proofs.Common.{option_and_then, slice_get, slice_index_or, refl, ap, sym, subst, arith}
use Rattle.std.specs.List.{list_any}
use Rattle.std.specs.Prelude.{All, Contains, IsSome}
use Rattle.tsa_base.specs.declared.value.Value.{Value}
use Rattle.tsa_tree.specs.declared.attr.AttrKind.{AttrKind}
use Rattle.tsa_tree.specs.declared.attr.AttrKind.TheVariants as attr
use Rattle.tsa_tree.specs.declared.kind.ThingType.{ThingType}
use Rattle.tsa_place_model.specs.Ways.{Way}
use Rattle.tsa_place_model.specs.Calls.{Layout, evaluated}
use Rattle.tsa_place_model.specs.Items.{zero_of}
use Rattle.tsa_place_model.specs.declared.place.Placed.{Placed}
use Rattle.tsa_core.specs.Programs.{Attr, Function, Program}
use Rattle.tsa_place_model.specs.Stores.{is_value_of}
use Rattle.tsa_core.proofs.MappedLists.{map_length}
use Rattle.tsa_rules.specs.declared.status.Status.{Status}
use Rattle.tsa_rules.specs.declared.status.Status.TheVariants.{Free, Lent, Pending}
use Rattle.tsa_rules.specs.Attributes.{claim, declared_kinds, kind_of}
use Rattle.tsa_rules.specs.Effects.{entry, entry_by}
use Rattle.tsa_rules.specs.Points.{function_at}
use Rattle.tsa_sched.specs.declared.event.Mode.{Mode}
use Rattle.tsa_sched.specs.declared.event.Mode.TheVariants.{Exclusive, Shared}
use Rattle.tsa_locks.specs.Locks.{count_of, free, holds}
use Rattle.tsa_mean.specs.Frames.{frame_of_call}
use Rattle.tsa_mean.specs.Returns.{if_lock, lock_of}
use Rattle.tsa_mean.specs.Sound.{Start}
use Rattle.tsa_mean.specs.Starts.{AsksNothing, Begin, BeginsWell, are_values_of, binds_caller, no_holds, thread_of}
use Rattle.tsa_mean.specs.States.{Frame, Holds, State, holds_of}
use Rattle.tsa_mean.specs.WorthLaws.{values}
use Rattle.tsa_mean.proofs.Keeping.{states_are_kept}
use Rattle.tsa_mean.proofs.Lists.{all_first, all_rest}
use Rattle.tsa_sound.specs.BodyFacts.{MentionsParameters}
use Rattle.tsa_sound.specs.Facts.{FunctionFacts, ProgramFacts}
use Rattle.tsa_sound.specs.FramesFit.{FrameFits, ProgramRows, handed_over, owned, owned_below, settled_in, status_now}
use Rattle.tsa_sound.specs.Invariant.{Invariant, StackFits, ThreadFits}
use Rattle.tsa_sound.specs.Laws.{ProgramsAreSound, StartsHaveTheInvariant}
use Rattle.tsa_sound.specs.SettledStatuses.{hold, lock_in, lock_named, settled, units}
use Rattle.tsa_sound.proofs.CallsAgree.{kinds_of}
use Rattle.tsa_sound.proofs.Claims.{total_zero}
use Rattle.tsa_sound.proofs.Constants.{both, differ}
use Rattle.tsa_sound.proofs.Fresh.{fresh_status, work_fits}
use Rattle.tsa_sound.proofs.HandedOver.{all_of}
use Rattle.tsa_sound.proofs.Lists.{all_alike}
use Rattle.tsa_sound.proofs.LocalsBegin.{AreTyped, argument_begins, begins_typed, begins_whole}
use Rattle.tsa_sound.proofs.LocalsOfPaths.{leads_alike}
use Rattle.tsa_sound.proofs.RunsSound.{runs_are_sound}
use Rattle.tsa_sound.proofs.Sums.{first_in, free_hold, no_hold, rest_in}
use Rattle.tsa_sound.proofs.Transfer.{found}
use Rattle.tsa_sound.proofs.LocalsSet.{neither}

-- what holds of no element of a list
none_of : {A : Type 0} (p : A → Bool) (xs : List A) → list_any p xs ≡ false → (a : A) → Contains xs a → p a ≡ false
none_of p [] e a (k, l, is) = absurd (omega (arith, l))
none_of p (x ∷ xs) e a (zero, l, is) = ap p (sym is) ∙ (neither (p x) (list_any p xs) e).0
none_of p (x ∷ xs) e a (suc k, l, is) = none_of p xs (neither (p x) (list_any p xs) e).1 a (k, omega (arith, l), is)

-- an attribute that doesn't bind the caller begins free
begins_free : (kind : AttrKind) → binds_caller kind ≡ false → entry_by (Some kind) ≡ Free
begins_free attr.Requires e = differ (sym e)
begins_free attr.RequiresShared e = differ (sym e)
begins_free attr.Release e = differ (sym e)
begins_free attr.ReleaseShared e = differ (sym e)
begins_free kind e = refl

-- arguments are of the kinds of the parameters
args_typed : (l : Layout) (params : List ThingType) (args : List Value) → are_values_of l params args ≡ true → AreTyped l (map (λ t. t.kind) params) args
args_typed l [] [] e = tt
args_typed l (p ∷ params) (v ∷ args) e =
    let parts = both (is_value_of l p.kind v) (are_values_of l params args) e in
    (parts.0, args_typed l params args parts.1)
args_typed l [] (v ∷ args) e = differ e
args_typed l (p ∷ params) [] e = differ e

not_lent : Free ≡ Lent → ⊥
not_lent e = cc

not_pending : (v : ℕ) → Free ≡ Pending v → ⊥
not_pending v e = cc

module _ (u : Program) (x : ProgramRows) (b : Begin) (well : BeginsWell u b) (asks_nothing : AsksNothing u b) (own : FunctionFacts u x b.function) where
  abbrev f : Function
  f = function_at u b.function

  abbrev new : Frame
  new = frame_of_call u b.function b.args no_holds

  silent : (a : Attr) → Contains f.attrs a → entry_by (Some a.kind) ≡ Free
  silent a i = begins_free a.kind (none_of (λ a. binds_caller a.kind) f.attrs asks_nothing a i)

  entry_free : (d : Way) → entry f d ≡ Free
  entry_free d = by (claim f.attrs d) refl
    where
      by : (o : Option Attr) → claim f.attrs d ≡ o → entry_by (kind_of o) ≡ Free
      by None e = refl
      by (Some a) e = silent a (found f.attrs d a e).there

  now_is : (d : Way) → Contains (x.paths b.function) d → status_now u x new d ≡ Free
  now_is d i = fresh_status u new d ((x.rows b.function).status 0 d) ∙ own.kept.entry_is d i ∙ entry_free d

  settled_now : (d : Way) → Contains (x.paths b.function) d → settled_in u new (status_now u x new) d ≡ Free
  settled_now d i = ap (settled u f new.locals d) (now_is d i)

  typed : AreTyped u.layout (kinds_of f) b.args
  typed = args_typed u.layout f.params b.args well.args

  named_alike : (o : Option Way) → MentionsParameters (length f.params) o
      → option_and_then (evaluated u.layout (slice_get b.args) None) o ≡ option_and_then (lock_in u new.locals) o
  named_alike None few = refl
  named_alike (Some w) few = leads_alike u.layout (slice_get b.args) (values new.locals) w
      (λ n e. let less = few n e in let same = map_length (λ t. t.kind) f.params in
      argument_begins u.layout (kinds_of f) b.args (map zero_of (declared_kinds f.body)) typed n (omega (arith, less, same)))

  none_handed : (lock : ℕ) (mode : Mode) → handed_over u new lock mode ≡ 0
  none_handed lock mode = total_zero (λ a. if_lock lock (lock_of u new a) (units (entry_by (Some a.kind)) mode)) f.attrs
      (λ a i. ap (λ s. if_lock lock (lock_of u new a) (units s mode)) (silent a i) ∙ no_hold lock (lock_of u new a))

  owns_none : (lock : ℕ) (mode : Mode) → owned u x new lock mode ≡ 0
  owns_none lock mode = total_zero (λ d. hold u new.locals d (settled_in u new (status_now u x new) d) lock mode) (x.paths b.function)
      (λ d i. ap (λ s. hold u new.locals d s lock mode) (settled_now d i) ∙ free_hold u new.locals d lock mode)

  new_fits : FrameFits u x (owned_below u x []) new (status_now u x new)
  new_fits = record {
    with_body = well.body;
    listed = own.kept.start;
    locks = λ c i some. absurd (some (settled_now c i));
    lent = λ c i e. absurd (not_lent (sym (settled_now c i) ∙ e));
    answers = λ c v i e. absurd (not_pending v (sym (now_is c i) ∙ e));
    typed = begins_typed u.layout (kinds_of f) (declared_kinds f.body) b.args typed own.entered.scalars;
    whole = begins_whole u.layout (kinds_of f) (declared_kinds f.body) b.args typed;
    owed = all_of (λ a. (entry_by (Some a.kind) ≡ Free → ⊥) → IsSome (lock_of u new a)) f.attrs (λ a i some. absurd (some (silent a i)));
    steady = all_alike (λ a. MentionsParameters (length f.params) a.path) (λ a. lock_of u new a ≡ lock_named u new.locals a) (λ a few. named_alike a.path few) f.attrs own.entered.parameters;
    at_call = λ lock mode. (let none = none_handed lock mode in omega (arith, none));
  }

  -- a thread that begins fits where it holds nothing
  begun : (held : Holds) → ((lock : ℕ) (mode : Mode) → held lock mode ≡ 0) → StackFits u x held new []
  begun held none = record {
    top = new_fits;
    work = work_fits u b.function 0 new.locals;
    lower = tt;
    sum = λ lock mode. (let all = none lock mode in let owns = owns_none lock mode in omega (arith, all, owns));
  }

module _ (u : Program) (x : ProgramRows) (facts : ProgramFacts u x) (held : Holds) (none : (lock : ℕ) (mode : Mode) → held lock mode ≡ 0) where
  threads_fit : (begins : List Begin) → All (BeginsWell u) begins → All (AsksNothing u) begins → (t : ℕ) → ThreadFits u x held (slice_get (map (thread_of u) begins) t)
  threads_fit [] well silent t = tt
  threads_fit (b ∷ begins) well silent zero =
      let first = all_first (BeginsWell u) b begins well in
      begun u x b first (all_first (AsksNothing u) b begins silent) (facts.functions b.function first.body) held none
  threads_fit (b ∷ begins) well silent (suc t) = threads_fit begins (all_rest (BeginsWell u) b begins well) (all_rest (AsksNothing u) b begins silent) t

free_at : (places : List Placed) (lock : ℕ) → slice_index_or (map (λ (p : Placed). free) places) lock free ≡ free
free_at [] lock = refl
free_at (p ∷ places) zero = refl
free_at (p ∷ places) (suc lock) = free_at places lock

free_holds_none : (t : ℕ) (mode : Mode) → holds free t mode ≡ 0
unfolding count_of
free_holds_none t Exclusive = refl
free_holds_none t Shared = refl

pub starts_have_the_invariant : StartsHaveTheInvariant
starts_have_the_invariant u x s facts start = record {
  typed = start.opening.typed;
  constant = start.opening.consts;
  enough = ap length start.opening.locks ∙ map_length (λ (p : Placed). free) u.layout.places;
  kept = states_are_kept.opening u s start.opening;
  threads = λ t. subst (λ ts. ThreadFits u x (holds_of s t) (slice_get ts t)) (sym start.opening.threads)
      (threads_fit u x facts (holds_of s t)
      (λ lock mode. ap (λ l. holds l t mode) (ap (λ ls. slice_index_or ls lock free) start.opening.locks ∙ free_at u.layout.places lock) ∙ free_holds_none t mode)
      start.opening.begins start.opening.well start.ask_nothing t);
}

pub programs_are_sound : ProgramsAreSound
programs_are_sound u x s picks facts start are = runs_are_sound u x s picks facts (starts_have_the_invariant u x s facts start) are
