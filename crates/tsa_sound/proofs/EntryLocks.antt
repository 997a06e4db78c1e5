-- What a called function counts on is a lock where it is called.
use Rattle.std.proofs.Common.{◌≡◌, ◌∙◌, Option, Some, None, true, option_and_then, refl, ap, sym, subst}
use Rattle.std.specs.Prelude.{All, Contains, IsSome}
use Rattle.tsa_tree.specs.declared.attr.AttrKind.{AttrKind}
use Rattle.tsa_tree.specs.declared.attr.AttrKind.TheVariants as attr
use Rattle.tsa_place_model.specs.Ways.{Way}
use Rattle.tsa_core.specs.Programs.{Attr, Program}
use Rattle.tsa_path.proofs.PathsApart.{way_itself}
use Rattle.tsa_rules.specs.declared.rule.Rule.TheVariants.{TS03, TS04, TS07}
use Rattle.tsa_rules.specs.declared.status.Status.{Status}
use Rattle.tsa_rules.specs.declared.status.Status.TheVariants as status
use Rattle.tsa_rules.specs.declared.status.Status.TheVariants.{Free, Lent, Pending}
use Rattle.tsa_rules.specs.Attributes.{is_path, names}
use Rattle.tsa_rules.specs.Effects.{entry_by}
use Rattle.tsa_rules.specs.Fits.{FitsRelease, FitsRequires, FitsRequiresShared}
use Rattle.tsa_rules.specs.Points.{attrs_at}
use Rattle.tsa_rules.specs.Statuses.{IsExclusive, IsHeld}
use Rattle.tsa_mean.specs.States.{Frame, Holds}
use Rattle.tsa_sound.specs.Facts.{FunctionFacts, IsAmong}
use Rattle.tsa_sound.specs.FramesFit.{FrameFits, ProgramRows, function_of, paths_of, settled_in, status_before}
use Rattle.tsa_sound.specs.SettledStatuses.{lock_in, lock_named}
use Rattle.tsa_sound.proofs.Deciding.{settled_is}
use Rattle.tsa_sound.proofs.Tables.{held_settled}
use Rattle.tsa_sound.proofs.Transfer.{all_at, fits_rule}

exclusive_held : (s : Status) → IsExclusive s → IsHeld s
exclusive_held (status.Exclusive n) is = tt
exclusive_held Free is = absurd is
exclusive_held status.Shared is = absurd is
exclusive_held Lent is = absurd is
exclusive_held (Pending v) is = absurd is

-- what isn't free at the entry is held at the call
entry_held : (kind : AttrKind) (s : Status) → (entry_by (Some kind) ≡ Free → ⊥) → FitsRequires kind s → FitsRequiresShared kind s → FitsRelease kind s → IsHeld s
entry_held attr.Requires s some requires shared release = exclusive_held s requires
entry_held attr.RequiresShared s some requires shared release = shared
entry_held attr.Release s some requires shared release = release
entry_held attr.ReleaseShared s some requires shared release = release
entry_held attr.Acquire s some requires shared release = absurd (some refl)
entry_held attr.AcquireShared s some requires shared release = absurd (some refl)
entry_held attr.TryAcquire s some requires shared release = absurd (some refl)
entry_held attr.TryAcquireShared s some requires shared release = absurd (some refl)
entry_held attr.ReleaseGeneric s some requires shared release = absurd (some refl)
entry_held attr.Capability s some requires shared release = absurd (some refl)
entry_held attr.GuardedBy s some requires shared release = absurd (some refl)
entry_held attr.Excludes s some requires shared release = absurd (some refl)
entry_held attr.AcquiredBefore s some requires shared release = absurd (some refl)
entry_held attr.AcquiredAfter s some requires shared release = absurd (some refl)

module _ (u : Program) (x : ProgramRows) (frame : Frame) (facts : FunctionFacts u x frame.function) (under : Holds)
    (top : FrameFits u x under frame (status_before x frame)) where
  -- an attribute of the call that has a path
  at_entry : (a : Attr) → Contains (attrs_at u (function_of u frame) frame.point) a → (entry_by (Some a.kind) ≡ Free → ⊥) → (o : Option Way) → a.path ≡ o → IsSome o
      → IsSome (lock_named u frame.locals a)
  at_entry a i some None is path = absurd (missing path)
    where
      missing : IsSome {T = Way} None → ⊥
      missing h = cc
  at_entry a i some (Some w) is path = subst IsSome (sym (ap (option_and_then (lock_in u frame.locals)) is)) (top.locks w among (λ free. not_free (sym settles ∙ free)))
    where
      among : Contains (paths_of x frame) w
      among = all_at (λ a. IsAmong (paths_of x frame) a.path) (attrs_at u (function_of u frame) frame.point) a (facts.called frame.point) i w is

      naming : names w a ≡ true
      naming = ap (is_path w) is ∙ way_itself w

      held : IsHeld (status_before x frame w)
      held = entry_held a.kind (status_before x frame w) some
          (all_at (λ a. names w a ≡ true → FitsRequires a.kind (status_before x frame w)) (attrs_at u (function_of u frame) frame.point) a
          (fits_rule u x frame facts top.listed TS03 w among) i naming)
          (all_at (λ a. names w a ≡ true → FitsRequiresShared a.kind (status_before x frame w)) (attrs_at u (function_of u frame) frame.point) a
          (fits_rule u x frame facts top.listed TS04 w among) i naming)
          (all_at (λ a. names w a ≡ true → FitsRelease a.kind (status_before x frame w)) (attrs_at u (function_of u frame) frame.point) a
          (fits_rule u x frame facts top.listed TS07 w among) i naming)

      settles : settled_in u frame (status_before x frame) w ≡ status_before x frame w
      settles = settled_is u (function_of u frame) frame.locals w (status_before x frame w) (held_settled (status_before x frame w) held)

      not_free : status_before x frame w ≡ Free → ⊥
      not_free e = subst IsHeld e held

  -- names a lock there, where it isn't free at the entry
  pub entry_lock : All (λ a. IsSome a.path) (attrs_at u (function_of u frame) frame.point) → (a : Attr) → Contains (attrs_at u (function_of u frame) frame.point) a
      → (entry_by (Some a.kind) ≡ Free → ⊥) → IsSome (lock_named u frame.locals a)
  entry_lock named a i some = at_entry a i some a.path refl (all_at (λ a. IsSome a.path) (attrs_at u (function_of u frame) frame.point) a named i)
