-- A frame that goes to another point.
use Rattle.std.proofs.Common.{◌≡◌, ◌∙◌, ℕ, ◌+◌, ◌≤◌, true, List, [], ◌∷◌, length, ◌⊎◌, inl, inr, ap, sym, subst}
use Rattle.std.specs.Prelude.{All, Contains, IsSome, slice_get}
use Rattle.tsa_place_model.specs.Ways.{Way}
use Rattle.tsa_core.specs.Programs.{Program}
use Rattle.tsa_rules.specs.declared.status.Status.TheVariants.{Free, Lent, Pending}
use Rattle.tsa_rules.specs.Attributes.{local_kinds}
use Rattle.tsa_rules.specs.Points.{try_variables}
use Rattle.tsa_sched.specs.declared.event.Mode.{Mode}
use Rattle.tsa_mean.specs.Frames.{frame_at}
use Rattle.tsa_mean.specs.Returns.{attrs_of, lock_of}
use Rattle.tsa_mean.specs.States.{Frame, Holds}
use Rattle.tsa_mean.specs.Working.{Locals}
use Rattle.tsa_sound.specs.FramesFit.{FrameFits, IsDecided, IsLentOf, LocalsFit, ProgramRows, function_of, owned, owned_below, paths_of}
use Rattle.tsa_sound.specs.FramesFit.{settled_in, status_now}
use Rattle.tsa_sound.specs.Invariant.{LowerFit, StackFits}
use Rattle.tsa_sound.specs.SettledStatuses.{lock_in, lock_named, settled}
use Rattle.tsa_sound.proofs.Fresh.{fresh_status, work_fits}
use Rattle.tsa_sound.proofs.Sums.{holds_same}

-- free and lent differ
pub free_is_not_lent : {A : Type 0} → Free ≡ Lent → A
free_is_not_lent e = cc

-- What is to be known of a frame that goes to a point with some locals: it is listed, settled statuses stay, and what isn't free leads
-- where it led.
pub record Goes (u : Program) (x : ProgramRows) (frame : Frame) (locals : Locals) (q : ℕ) : Type 0 where
  pub listed : (x.rows frame.function).has_point q ≡ true
  pub settles : (c : Way) → Contains (paths_of x frame) c
      → settled u (function_of u frame) locals c ((x.rows frame.function).status q c) ≡ settled_in u frame (status_now u x frame) c
  pub leads : (c : Way) → Contains (paths_of x frame) c
      → (settled_in u frame (status_now u x frame) c ≡ Free) ⊎ (lock_in u locals c ≡ lock_in u frame.locals c)
  pub answers : (c : Way) (v : ℕ) → Contains (paths_of x frame) c → (x.rows frame.function).status q c ≡ Pending v
      → IsDecided u (function_of u frame) locals c (slice_get (try_variables u (function_of u frame)) v)
  pub typed : LocalsFit u (function_of u frame) locals
  pub whole : length (local_kinds (function_of u frame)) ≤ length locals
  pub steady : All (λ a. lock_of u frame a ≡ lock_named u locals a) (attrs_of u frame)

module _ (u : Program) (x : ProgramRows) (frame : Frame) (below : List Frame) (locals : Locals) (q : ℕ) (go : Goes u x frame locals q) where
  -- the status at the point is that of its row
  at_row : (c : Way) → status_now u x (frame_at u frame locals q) c ≡ (x.rows frame.function).status q c
  at_row c = fresh_status u (frame_at u frame locals q) c ((x.rows frame.function).status q c)

  stays : (c : Way) → Contains (paths_of x frame) c
      → settled_in u (frame_at u frame locals q) (status_now u x (frame_at u frame locals q)) c ≡ settled_in u frame (status_now u x frame) c
  stays c i = ap (settled u (function_of u frame) locals c) (at_row c) ∙ go.settles c i

  module _ (under : Holds) (top : FrameFits u x under frame (status_now u x frame)) where
    locks : (c : Way) → Contains (paths_of x frame) c
        → (settled_in u (frame_at u frame locals q) (status_now u x (frame_at u frame locals q)) c ≡ Free → ⊥) → IsSome (lock_in u locals c)
    locks c i some = elim (go.leads c i) [
      | inl free ↦ absurd (some (stays c i ∙ free))
      | inr same ↦ subst IsSome (sym same) (top.locks c i (λ free. some (stays c i ∙ free)))
    ]

    lent : (c : Way) → Contains (paths_of x frame) c
        → settled_in u (frame_at u frame locals q) (status_now u x (frame_at u frame locals q)) c ≡ Lent → IsLentOf under (lock_in u locals c)
    lent c i is = elim (go.leads c i) [
      | inl free ↦ free_is_not_lent (sym free ∙ (sym (stays c i) ∙ is))
      | inr same ↦ subst (IsLentOf under) (sym same) (top.lent c i (sym (stays c i) ∙ is))
    ]

    pub top_goes : FrameFits u x under (frame_at u frame locals q) (status_now u x (frame_at u frame locals q))
    top_goes = record {
      with_body = top.with_body;
      listed = go.listed;
      locks = locks;
      lent = lent;
      answers = λ c v i is. go.answers c v i (sym (at_row c) ∙ is);
      typed = go.typed;
      whole = go.whole;
      owed = top.owed;
      steady = go.steady;
      at_call = top.at_call;
    }

  lower_goes : (rest : List Frame) → LowerFit u x frame rest → LowerFit u x (frame_at u frame locals q) rest
  lower_goes [] fits = tt
  lower_goes (other ∷ rest) fits =
      (record { call = fits.0.call; there = fits.0.there; function = fits.0.function; agree = fits.0.agree }, fits.1, fits.2)

  -- then it fits the same holds
  pub goes : (held : Holds) → StackFits u x held frame below → StackFits u x held (frame_at u frame locals q) below
  goes held fits = record {
    top = top_goes (owned_below u x below) fits.top;
    work = work_fits u frame.function q locals;
    lower = lower_goes below fits.lower;
    sum = λ lock mode. fits.sum lock mode ∙ ap (λ n. n + owned_below u x below lock mode) (sym (owns lock mode));
  }
    where
      owns : (lock : ℕ) (mode : Mode) → owned u x (frame_at u frame locals q) lock mode ≡ owned u x frame lock mode
      owns lock mode = holds_same u frame.locals locals (paths_of x frame) (settled_in u frame (status_now u x frame))
          (settled_in u (frame_at u frame locals q) (status_now u x (frame_at u frame locals q))) stays go.leads lock mode
