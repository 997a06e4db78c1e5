-- What is left at a return is what was there at the call, less what is given back, and with what is taken over.
use Rattle.std.proofs.Common.{◌≡◌, ◌∙◌, ℕ, pos, negsuc, ◌+◌, nat_eq, Bool, true, false, List, [], ◌∷◌, Option, Some, None, ◌⊎◌, inl, inr}
use Rattle.std.proofs.Common.{if◌then◌else◌, refl, ap, sym, subst, arith, eqb-true}
use Rattle.std.specs.Prelude.{Contains, IsSome}
use Rattle.tsa_base.specs.declared.value.Value.{Value}
use Rattle.tsa_base.specs.declared.value.Value.TheVariants.{Int, Unsigned, Pointer}
use Rattle.tsa_tree.specs.declared.attr.AttrKind.{AttrKind}
use Rattle.tsa_tree.specs.declared.attr.AttrKind.TheVariants as attr
use Rattle.tsa_core.specs.Programs.{Attr, Program}
use Rattle.tsa_rules.specs.declared.status.Status.{Status}
use Rattle.tsa_rules.specs.declared.status.Status.TheVariants as status
use Rattle.tsa_rules.specs.declared.status.Status.TheVariants.{Free}
use Rattle.tsa_rules.specs.Conditions.{yes_or_no}
use Rattle.tsa_rules.specs.Effects as effect
use Rattle.tsa_rules.specs.Effects.{entry_by, exit_by, exit_with, if_taken}
use Rattle.tsa_sched.specs.declared.event.Mode.{Mode}
use Rattle.tsa_sched.specs.declared.event.Mode.TheVariants.{Exclusive, Shared}
use Rattle.tsa_mean.specs.Acts.{point_of, to_leave}
use Rattle.tsa_mean.specs.Returns.{attrs_of, change_in, change_of, given_back, if_lock, is_success, lock_of, taken_over, takes_if}
use Rattle.tsa_mean.specs.Safe.{LeavesAsDeclared}
use Rattle.tsa_mean.specs.States.{Frame, Holds}
use Rattle.tsa_sound.specs.BodyFacts.{SaysItsMode}
use Rattle.tsa_sound.specs.Facts.{FunctionFacts}
use Rattle.tsa_sound.specs.FramesFit.{ProgramRows}
use Rattle.tsa_sound.specs.Invariant.{StackFits}
use Rattle.tsa_sound.specs.LaidOut.{LaidOut}
use Rattle.tsa_sound.specs.SettledStatuses.{answer_held, lock_named, total, units}
use Rattle.tsa_sound.proofs.ReturnsCome.{Returns}
use Rattle.tsa_sound.proofs.Constants.{differ}
use Rattle.tsa_sound.proofs.ExitStatuses.{exits, owns_exit}
use Rattle.tsa_sound.proofs.HandedOver.{all_of}
use Rattle.tsa_sound.proofs.Sums.{total_same}
use Rattle.tsa_sound.proofs.Transfer.{all_at}

-- a try takes its lock where the value that is given is the answer for that
success_of : (success : Bool) (n : ℕ) → effect.is_success success (yes_or_no n) ≡ is_success success (Int (pos n))
success_of success n = by (nat_eq n 1) refl (nat_eq n 0) refl success
  where
    by : (one : Bool) → nat_eq n 1 ≡ one → (zero : Bool) → nat_eq n 0 ≡ zero → (success : Bool)
        → effect.is_success success (if one then Some true else if zero then Some false else None) ≡ is_success success (Int (pos n))
    by true is zero not true = sym is
    by true is zero not false = ap (λ m. nat_eq m 0) (sym (eqb-true n 1 is))
    by false is true not true = sym is
    by false is true not false = sym not
    by false is false not true = sym is
    by false is false not false = sym not

success_is : (success : Bool) (v : Value) → effect.is_success success (answer_held v) ≡ is_success success v
success_is success (Int (pos n)) = success_of success n
success_is true (Int (negsuc n)) = refl
success_is false (Int (negsuc n)) = refl
success_is true (Unsigned n) = refl
success_is false (Unsigned n) = refl
success_is true (Pointer p) = refl
success_is false (Pointer p) = refl

-- one attribute
taken_balance : (t : Bool) (mode m : Mode) (s : Status) → ((m : Mode) → units s m ≡ (takes_if true mode).more m)
    → units (if_taken t s) m + (takes_if t mode).less m ≡ units Free m + (takes_if t mode).more m
taken_balance true mode m s same = let one = same m in omega (arith, one)
taken_balance false mode m s same = refl

alone_units : (m : Mode) → units (status.Exclusive 1) m ≡ (takes_if true Exclusive).more m
alone_units Exclusive = refl
alone_units Shared = refl

shared_units : (m : Mode) → units status.Shared m ≡ (takes_if true Shared).more m
shared_units Exclusive = refl
shared_units Shared = refl

kind_balance : (kind : AttrKind) (success t : Bool) (v : Value) → is_success success v ≡ t → (m : Mode)
    → units (exit_by t (Some kind)) m + (change_of kind success v).less m ≡ units (entry_by (Some kind)) m + (change_of kind success v).more m
kind_balance attr.TryAcquire success t v is m =
    ap (λ r. units (if_taken t (status.Exclusive 1)) m + (takes_if r Exclusive).less m) is ∙ taken_balance t Exclusive m (status.Exclusive 1) alone_units
    ∙ ap (λ r. units Free m + (takes_if r Exclusive).more m) (sym is)
kind_balance attr.TryAcquireShared success t v is m =
    ap (λ r. units (if_taken t status.Shared) m + (takes_if r Shared).less m) is ∙ taken_balance t Shared m status.Shared shared_units
    ∙ ap (λ r. units Free m + (takes_if r Shared).more m) (sym is)
kind_balance attr.Acquire success t v is Exclusive = refl
kind_balance attr.Acquire success t v is Shared = refl
kind_balance attr.AcquireShared success t v is Exclusive = refl
kind_balance attr.AcquireShared success t v is Shared = refl
kind_balance attr.Release success t v is Exclusive = refl
kind_balance attr.Release success t v is Shared = refl
kind_balance attr.ReleaseShared success t v is Exclusive = refl
kind_balance attr.ReleaseShared success t v is Shared = refl
kind_balance kind success t v is m = refl

lock_balance : (lock : ℕ) (o : Option ℕ) (a b c d : ℕ) → a + b ≡ c + d → if_lock lock o a + if_lock lock o b ≡ if_lock lock o c + if_lock lock o d
lock_balance lock None a b c d e = refl
lock_balance lock (Some l) a b c d e = by (nat_eq lock l)
  where
    by : (t : Bool) → (if t then a else 0) + (if t then b else 0) ≡ (if t then c else 0) + (if t then d else 0)
    by true = e
    by false = refl

-- all of a list
balance : (u : Program) (frame : Frame) (v : Value) (lock : ℕ) (m : Mode) (ats : List Attr)
    → total (λ a. if_lock lock (lock_of u frame a) (units (exit_with (answer_held v) (Some a)) m)) ats + given_back u frame v ats lock m
    ≡ total (λ a. if_lock lock (lock_of u frame a) (units (entry_by (Some a.kind)) m)) ats + taken_over u frame v ats lock m
unfolding given_back taken_over
balance u frame v lock m [] = refl
balance u frame v lock m (a ∷ rest) =
    let more = balance u frame v lock m rest in
    let one = lock_balance lock (lock_of u frame a) (units (exit_with (answer_held v) (Some a)) m) ((change_in a v).less m) (units (entry_by (Some a.kind)) m)
    ((change_in a v).more m)
    (kind_balance a.kind a.success (effect.is_success a.success (answer_held v)) v (sym (success_is a.success v)) m) in
    omega (arith, more, one)

-- what has to be a lock was one at the call, or is one that is held now
taken_counts : (t : Bool) (mode : Mode) → (takes_if t mode).counts ≡ true → t ≡ true
taken_counts true mode e = refl
taken_counts false mode e = differ e

taken_not_free : (t : Bool) (s : Status) → t ≡ true → (s ≡ Free → ⊥) → if_taken t s ≡ Free → ⊥
taken_not_free true s is some e = some e
taken_not_free false s is some e = differ is

alone_not_free : status.Exclusive 1 ≡ Free → ⊥
alone_not_free e = cc

shared_not_free : status.Shared ≡ Free → ⊥
shared_not_free e = cc

lent_not_free : status.Lent ≡ Free → ⊥
lent_not_free e = cc

some_count : (kind : AttrKind) (success t : Bool) (v : Value) → is_success success v ≡ t → SaysItsMode kind → (change_of kind success v).counts ≡ true
    → (entry_by (Some kind) ≡ Free → ⊥) ⊎ (exit_by t (Some kind) ≡ Free → ⊥)
some_count attr.Requires success t v is says counts = inl alone_not_free
some_count attr.RequiresShared success t v is says counts = inl lent_not_free
some_count attr.Release success t v is says counts = inl alone_not_free
some_count attr.ReleaseShared success t v is says counts = inl shared_not_free
some_count attr.Acquire success t v is says counts = inr alone_not_free
some_count attr.AcquireShared success t v is says counts = inr shared_not_free
some_count attr.TryAcquire success t v is says counts =
    inr (taken_not_free t (status.Exclusive 1) (taken_counts t Exclusive (ap (λ r. (takes_if r Exclusive).counts) (sym is) ∙ counts)) alone_not_free)
some_count attr.TryAcquireShared success t v is says counts =
    inr (taken_not_free t status.Shared (taken_counts t Shared (ap (λ r. (takes_if r Shared).counts) (sym is) ∙ counts)) shared_not_free)
some_count attr.ReleaseGeneric success t v is says counts = absurd says
some_count kind success t v is says counts = differ counts

module _ (u : Program) (x : ProgramRows) (held : Holds) (frame : Frame) (below : List Frame) (facts : FunctionFacts u x frame.function)
    (fits : StackFits u x held frame below)
    (laid : LaidOut u.layout) (v : Value) (returns : Returns u frame.locals (point_of u frame).action frame.work (to_leave v)) where
  locks_by : (a : Attr) → Contains (attrs_of u frame) a → (entry_by (Some a.kind) ≡ Free → ⊥) ⊎ (exit_with (answer_held v) (Some a) ≡ Free → ⊥)
      → IsSome (lock_of u frame a)
  locks_by a i (inl some) = all_at (λ a. (entry_by (Some a.kind) ≡ Free → ⊥) → IsSome (lock_of u frame a)) (attrs_of u frame) a fits.top.owed i some
  locks_by a i (inr some) =
      subst IsSome (sym (all_at (λ a. lock_of u frame a ≡ lock_named u frame.locals a) (attrs_of u frame) a fits.top.steady i))
      (all_at (λ a. (exit_with (answer_held v) (Some a) ≡ Free → ⊥) → IsSome (lock_named u frame.locals a)) (attrs_of u frame) a
      (exits u x held frame below facts fits laid v returns) i some)

  -- A return leaves the holds as declared.
  pub leaves : LeavesAsDeclared u held frame v
  leaves = record {
    names = all_of (λ a. (change_in a v).counts ≡ true → IsSome (lock_of u frame a)) (attrs_of u frame)
        (λ a i counts. locks_by a i (some_count a.kind a.success (effect.is_success a.success (answer_held v)) v (sym (success_is a.success v))
        (all_at (λ a. SaysItsMode a.kind) (attrs_of u frame) a facts.entered.modes i) counts));
    holds = λ lock less m.
        let sum = fits.sum lock m in
        let own = owns_exit u x held frame below facts fits laid v returns lock m in
        let call = fits.top.at_call lock m in
        let all = balance u frame v lock m (attrs_of u frame) in
        let same = total_same (λ a. if_lock lock (lock_named u frame.locals a) (units (exit_with (answer_held v) (Some a)) m))
        (λ a. if_lock lock (lock_of u frame a) (units (exit_with (answer_held v) (Some a)) m)) (attrs_of u frame)
        (λ a i. ap (λ o. if_lock lock o (units (exit_with (answer_held v) (Some a)) m))
        (sym (all_at (λ a. lock_of u frame a ≡ lock_named u frame.locals a) (attrs_of u frame) a fits.top.steady i))) in
        omega (arith, sum, own, call, all, same);
  }
