-- Reads of cells: their guards are held, and what is left to be worked out goes on with what was read.
use Rattle.std.proofs.Common.{false, ◌≡◌, ◌∙◌, ℕ, Bool, List, [], ◌∷◌, Option, Some, None, ◌+◌, refl, ap, sym, subst, option_and_then}
use Rattle.std.specs.Prelude.{All, Contains, IsSome}
use Rattle.tsa_base.specs.declared.value.Value.{Value}
use Rattle.tsa_place_model.specs.declared.place.Guard.{Guard}
use Rattle.tsa_place_model.specs.declared.place.Guard.TheVariants.{Lock, Nothing}
use Rattle.tsa_tree.specs.declared.expr.BinaryOp.{BinaryOp}
use Rattle.tsa_tree.specs.declared.kind.Kind.{Kind}
use Rattle.tsa_tree.specs.declared.kind.ThingType.{ThingType}
use Rattle.tsa_place_model.specs.Ways.{Way}
use Rattle.tsa_core.specs.Bodies.{set_cell}
use Rattle.tsa_place_model.specs.Calls.{guards_of}
use Rattle.tsa_core.specs.Kinds.{Setting, cell_kind, place_type}
use Rattle.tsa_core.specs.Meanings.{Call}
use Rattle.tsa_core.specs.PointKinds.{ActionHolds, IsCellOf, answer_of}
use Rattle.tsa_core.specs.KindLaws.{signatures}
use Rattle.tsa_core.specs.Programs.{Program}
use Rattle.tsa_place_model.specs.Stores.{IsWellTyped}
use Rattle.tsa_core.specs.Terms.{Term}
use Rattle.tsa_path.specs.ArgumentLaws.{KeepsConst}
use Rattle.tsa_rules.specs.declared.status.Status.{Status}
use Rattle.tsa_rules.specs.declared.rule.Rule.TheVariants.{TS01}
use Rattle.tsa_rules.specs.Fits.{FitsReading}
use Rattle.tsa_rules.specs.Points.{uses_at}
use Rattle.tsa_rules.specs.Statuses as status
use Rattle.tsa_rules.proofs.Fitting.{what_does_not_fail_fits}
use Rattle.tsa_mean.specs.Acts.{point_of, to_read}
use Rattle.tsa_mean.specs.Frames.{left_of, right_of, with_work}
use Rattle.tsa_mean.specs.Outs.{reads, yields}
use Rattle.tsa_mean.specs.Safe.{IsHeld}
use Rattle.tsa_mean.specs.States.{Frame, Holds, State, Work, calling, working, running, holds_of, value_at}
use Rattle.tsa_mean.specs.Working.{filled, filled_all, lvalue, rvalue, rvalues}
use Rattle.tsa_sound.specs.Facts.{FunctionFacts, PointFacts, ReadsUnder}
use Rattle.tsa_sound.specs.FramesFit.{OldFits, ArgsFit, FrameFits, IsWorkedLeft, settled_in, ProgramRows, SidesFit, WorkFits, function_of}
use Rattle.tsa_sound.specs.FramesFit.{owned_below, paths_of, setting_with, stable_of, status_before, status_by, status_now}
use Rattle.tsa_sound.specs.Invariant.{LowerFit, StackFits}
use Rattle.tsa_sound.specs.LaidOut.{LaidOut}
use Rattle.tsa_sound.specs.Laws.{IsRead, TurnsGoWell}
use Rattle.tsa_sound.specs.PartlyWorked.{IsOfKind, IsWorked, guard_ways}
use Rattle.tsa_sound.specs.SettledStatuses.{holds_for}
use Rattle.tsa_sound.specs.TermFacts.{AllLoad, LoadFits, Loads, TermFits}
use Rattle.tsa_sound.proofs.Constants.{differ}
use Rattle.tsa_sound.proofs.Comes.{ReadSource, of_args, of_left, of_old, of_right}
use Rattle.tsa_sound.proofs.Fresh.{later_uncalled}
use Rattle.tsa_sound.proofs.Going.{comes_from}
use Rattle.tsa_sound.proofs.Guards.{GuardHolds, IsGuard, guarded}
use Rattle.tsa_sound.proofs.HeldLocks.{IsHeldBy, held_lock}
use Rattle.tsa_sound.proofs.Lists.{all_alike}
use Rattle.tsa_sound.proofs.LoadsFit.{right_load_fits, all_load_fits, fits_load, load_fits}
use Rattle.tsa_sound.proofs.NextRead as next
use Rattle.tsa_sound.proofs.Threads.{before_turn, own_turn, safe_by_act}

-- a frame with something else to be worked out, behind which its statuses are as before
module _ (u : Program) (x : ProgramRows) (held : Holds) (frame : Frame) (below : List Frame) (fits : StackFits u x held frame below) (work : Work)
    (same : (c : Way) (s : Status) → status_by u frame work c s ≡ status_by u frame frame.work c s) where
  same_status : (c : Way) → status_now u x (with_work frame work) c ≡ status_now u x frame c
  same_status c = same c (status_before x frame c)

  statuses : status_now u x frame ≡ status_now u x (with_work frame work)
  statuses i c = sym (same_status c) i

  lower : (rest : List Frame) → LowerFit u x frame rest → LowerFit u x (with_work frame work) rest
  lower [] below = tt
  lower (other ∷ rest) below = (record { call = below.0.call; there = below.0.there; function = below.0.function; agree = below.0.agree }, below.1, below.2)

  reworked_top : (status : Way → Status) → FrameFits u x (owned_below u x below) frame status → FrameFits u x (owned_below u x below) (with_work frame work) status
  reworked_top status top = record {
    with_body = top.with_body;
    listed = top.listed;
    locks = top.locks;
    lent = top.lent;
    answers = top.answers;
    typed = top.typed;
    whole = top.whole;
    owed = top.owed;
    steady = top.steady;
    at_call = top.at_call;
  }

  pub reworked : WorkFits u (function_of u frame) (point_of u frame) frame.locals work → StackFits u x held (with_work frame work) below
  reworked fit = record {
    top = subst (FrameFits u x (owned_below u x below) (with_work frame work)) statuses (reworked_top (status_now u x frame) fits.top);
    work = fit;
    lower = lower below fits.lower;
    sum = λ lock mode. fits.sum lock mode ∙ ap (λ s. holds_with s lock mode + owned_below u x below lock mode) statuses;
  }
    where
      holds_with : (Way → Status) → Holds
      holds_with s = holds_for u frame.locals (paths_of x frame) (settled_in u frame s)

module _ (u : Program) (x : ProgramRows) (held : Holds) (frame : Frame) (below : List Frame) (facts : FunctionFacts u x frame.function) (fits : StackFits u x held frame below)
    (laid : LaidOut u.layout) where
  abbrev points : PointFacts u (x.paths frame.function) (function_of u frame) frame.point
  points = facts.points frame.point

  abbrev Guarded : List (Option Way) → Type 0
  Guarded ways = All (GuardHolds u.layout frame.locals (IsHeldBy held)) ways

  -- what the rules say of the reads of a point
  reading : (c : Way) → Contains (paths_of x frame) c → FitsReading u (function_of u frame) frame.point c (status_before x frame c)
  reading c i = what_does_not_fail_fits TS01 u (function_of u frame) frame.point c (status_before x frame c) (facts.kept.breaks_none TS01 frame.point c fits.top.listed i)

  -- reads before the call, or where there is none
  guarded_before : ((c : Way) → status_now u x frame c ≡ status_before x frame c) → (ways : List (Option Way))
      → All (ReadsUnder (paths_of x frame) (uses_at (function_of u frame) frame.point).right) ways → Guarded ways
  guarded_before now ways under = all_alike (ReadsUnder (paths_of x frame) (uses_at (function_of u frame) frame.point).right) (GuardHolds u.layout frame.locals (IsHeldBy held)) each ways under
    where
      each : (w : Option Way) → ReadsUnder (paths_of x frame) (uses_at (function_of u frame) frame.point).right w → GuardHolds u.layout frame.locals (IsHeldBy held) w
      each None under = absurd under
      each (Some c) under = held_lock u x held frame below facts fits c under.0
          (subst status.IsHeld (sym (now c)) ((reading c under.0).before_call under.1))

  -- reads of the left side
  pub guarded_behind : (right : Term) (left : Option Term) (old : Option Value) → frame.work ≡ working right left old → (ways : List (Option Way))
      → All (ReadsUnder (paths_of x frame) (uses_at (function_of u frame) frame.point).left) ways → Guarded ways
  guarded_behind right left old is ways under = all_alike (ReadsUnder (paths_of x frame) (uses_at (function_of u frame) frame.point).left) (GuardHolds u.layout frame.locals (IsHeldBy held)) each ways under
    where
      each : (w : Option Way) → ReadsUnder (paths_of x frame) (uses_at (function_of u frame) frame.point).left w → GuardHolds u.layout frame.locals (IsHeldBy held) w
      each None under = absurd under
      each (Some c) under = held_lock u x held frame below facts fits c under.0
          (subst status.IsHeld (sym (ap (λ work. status_by u frame work c (status_before x frame c)) is)) ((reading c under.0).after_call under.1))

  -- the guards of the cell are held
  held_guards : (k : Setting) → k.layout ≡ u.layout → (g : Guard) → IsGuard u.layout frame.locals (IsHeldBy held) g → IsHeld held g
  held_guards k same Nothing is = is
  held_guards k same (Lock lock) is = is

  module _ (given : Option Kind) (q now : Term) (t : ThingType) (p : ℕ) (parts : TermFits (setting_with u (function_of u frame) given) (stable_of (function_of u frame).body) q)
      (worked : IsWorked (setting_with u (function_of u frame) given) (stable_of (function_of u frame).body) frame.locals q now)
      (type : place_type (setting_with u (function_of u frame) given) q ≡ Some t) (stands : lvalue u.layout frame.locals now ≡ yields p)
      (ways : Guarded (guard_ways (setting_with u (function_of u frame) given) (stable_of (function_of u frame).body) q)) where
    safe_at : All (IsHeld held) (guards_of u.layout p)
    safe_at = all_alike (IsGuard u.layout frame.locals (IsHeldBy held)) (IsHeld held) (held_guards (setting_with u (function_of u frame) given) refl) (guards_of u.layout p)
        (guarded (setting_with u (function_of u frame) given) (stable_of (function_of u frame).body) frame.locals laid fits.top.typed (IsHeldBy held) q now t p parts worked type stands ways)

  -- what a point without a call has for its status now
  bare_now : (right : Term) (left : Option Term) (old : Option Value) → frame.work ≡ working right left old → (point_of u frame).call ≡ None → (c : Way)
      → status_now u x frame c ≡ status_before x frame c
  bare_now right left old is none c =
      ap (λ work. status_by u frame work c (status_before x frame c)) is ∙ later_uncalled u (function_of u frame) frame.point c (status_before x frame c) none

  -- what a read asks for: its guards are held, what is left fits, and no status changes
  record IsGoodRead (work : Work) (place : ℕ) (left : Value → Work) (v : Value) : Type 0 where
    pub safe : All (IsHeld held) (guards_of u.layout place)
    pub fit : WorkFits u (function_of u frame) (point_of u frame) frame.locals (left v)
    pub same : (c : Way) (s : Status) → status_by u frame (left v) c s ≡ status_by u frame work c s

  module _ (s : State) (well : IsWellTyped u.layout (value_at s)) (constants : KeepsConst u.layout (value_at s)) where
    -- what stands in the cell fits each load of it
    said : (given : Option Kind) (LoadsAt : Bool → Term → Type 0) (p : ℕ)
        → ((b : Bool) (q : Term) → LoadsAt b q → LoadFits (setting_with u (function_of u frame) given) b q
        × TermFits (setting_with u (function_of u frame) given) (stable_of (function_of u frame).body) q)
        → next.IsSaid (setting_with u (function_of u frame) given) (stable_of (function_of u frame).body) frame.locals p (value_at s p) LoadsAt
    said given LoadsAt p each b q now loads is stands =
        fits_load (setting_with u (function_of u frame) given) (stable_of (function_of u frame).body) frame.locals laid fits.top.typed (value_at s) well constants q now p b
        (each b q loads).0 (each b q loads).1 is stands

    args_read : (call : Option Call) → (point_of u frame).call ≡ call → (args : List Term) → frame.work ≡ calling args → ArgsFit u (function_of u frame) frame.locals call args
        → (p : ℕ) → rvalues u.layout frame.locals args ≡ reads p → IsGoodRead frame.work p (λ v. calling (filled_all u.layout frame.locals v args)) (value_at s p)
    args_read None none args is fit p e = absurd fit
    args_read (Some c) call args is fit p e =
        let found = next.all_read (setting_with u (function_of u frame) None) (stable_of (function_of u frame).body) frame.locals p c.args args fit e in
        let load = all_load_fits (setting_with u (function_of u frame) None) (stable_of (function_of u frame).body) c.args found.is_stable found.place (points.args_fit c call) found.loads in
        record {
          safe = safe_at None found.place found.now load.0.thing p load.1 found.worked load.0.type_is found.stands
              (guarded_before (λ d. ap (λ work. status_by u frame work d (status_before x frame d)) is) (guard_ways (setting_with u (function_of u frame) None) (stable_of (function_of u frame).body) found.place)
              (points.args_read c found.is_stable found.place call found.loads));
          fit = subst (λ call. ArgsFit u (function_of u frame) frame.locals call (filled_all u.layout frame.locals (value_at s p) args)) (sym call)
              (next.all_filled (setting_with u (function_of u frame) None) (stable_of (function_of u frame).body) frame.locals p (value_at s p) c.args args fit e
              (said None (AllLoad c.args) p (λ b q l. all_load_fits (setting_with u (function_of u frame) None) (stable_of (function_of u frame).body) c.args b q (points.args_fit c call) l)));
          same = λ d r. ap (λ work. status_by u frame work d r) (sym is);
        }

    module _ (right : Term) (left : Option Term) (old : Option Value) (is : frame.work ≡ working right left old) (sides : SidesFit u (function_of u frame) (point_of u frame) frame.locals right left old) where
      abbrev answered : Option Kind
      answered = answer_of (signatures u) (point_of u frame).call

      right_said : (p : ℕ) → next.IsSaid (setting_with u (function_of u frame) answered) (stable_of (function_of u frame).body) frame.locals p (value_at s p) (Loads (right_of (point_of u frame).action))
      right_said p = said answered (Loads (right_of (point_of u frame).action)) p
          (λ b q l. right_load_fits (setting_with u (function_of u frame) answered) (stable_of (function_of u frame).body) (point_of u frame).action b q points.right_fits l)

      right_safe : (call : Option Call) → (point_of u frame).call ≡ call → (p : ℕ) → rvalue u.layout frame.locals right ≡ reads p → All (IsHeld held) (guards_of u.layout p)
      right_safe call e p reads_it =
          let found = next.value_read (setting_with u (function_of u frame) answered) (stable_of (function_of u frame).body) frame.locals p (right_of (point_of u frame).action) right sides.right_side reads_it in
          let load = right_load_fits (setting_with u (function_of u frame) answered) (stable_of (function_of u frame).body) (point_of u frame).action found.is_stable found.place points.right_fits found.loads in
          safe_at answered found.place found.now load.0.thing p load.1 found.worked load.0.type_is found.stands (by call e found.is_stable found.place found.loads)
        where
          by : (call : Option Call) → (point_of u frame).call ≡ call → (b : Bool) (q : Term) → Loads (right_of (point_of u frame).action) b q
              → Guarded (guard_ways (setting_with u (function_of u frame) answered) (stable_of (function_of u frame).body) q)
          by None none b q l = guarded_before (bare_now right left old is none) (guard_ways (setting_with u (function_of u frame) answered) (stable_of (function_of u frame).body) q)
              (points.right_read b q none l)
          by (Some c) call b q l = absurd (points.silent b q (subst IsSome (sym call) refl) l)

      right_read : (p : ℕ) → rvalue u.layout frame.locals right ≡ reads p → IsGoodRead frame.work p (λ v. working (filled u.layout frame.locals v right) left old) (value_at s p)
      right_read p e = record {
        safe = right_safe (point_of u frame).call refl p e;
        fit = record {
          goes_on = sides.goes_on;
          right_side = next.value_filled (setting_with u (function_of u frame) answered) (stable_of (function_of u frame).body) frame.locals p (value_at s p) (right_of (point_of u frame).action) right
              sides.right_side e (right_said p);
          left_side = sides.left_side;
          old_value = sides.old_value;
        };
        same = λ d r. ap (λ work. status_by u frame work d r) (sym is);
      }

    module _ (right now : Term) (old : Option Value) (is : frame.work ≡ working right (Some now) old)
        (sides : SidesFit u (function_of u frame) (point_of u frame) frame.locals right (Some now) old) where
      abbrev given : Option Kind
      given = answer_of (signatures u) (point_of u frame).call

      left_read : (written : Option Term) → left_of (point_of u frame).action ≡ written
          → IsWorkedLeft (setting_with u (function_of u frame) given) (stable_of (function_of u frame).body) frame.locals written (Some now)
          → (p : ℕ) → lvalue u.layout frame.locals now ≡ reads p → IsGoodRead frame.work p (λ v. working right (Some (filled u.layout frame.locals v now)) old) (value_at s p)
      left_read None none fit p e = absurd fit
      left_read (Some written) there fit p e =
          let found = next.place_read (setting_with u (function_of u frame) given) (stable_of (function_of u frame).body) frame.locals p written now fit e in
          let load = load_fits (setting_with u (function_of u frame) given) (stable_of (function_of u frame).body) written found.is_stable found.place (points.left_fits written there) found.loads in
          record {
            safe = safe_at given found.place found.now load.0.thing p load.1 found.worked load.0.type_is found.stands
                (guarded_behind right (Some now) old is (guard_ways (setting_with u (function_of u frame) given) (stable_of (function_of u frame).body) found.place)
                (points.left_read written found.is_stable found.place there found.loads));
            fit = record {
              goes_on = sides.goes_on;
              right_side = sides.right_side;
              left_side = subst (λ w. IsWorkedLeft (setting_with u (function_of u frame) given) (stable_of (function_of u frame).body) frame.locals w
                  (Some (filled u.layout frame.locals (value_at s p) now))) (sym there)
                  (next.place_filled (setting_with u (function_of u frame) given) (stable_of (function_of u frame).body) frame.locals p (value_at s p) written now fit e
                  (said given (Loads written) p (λ b q l. load_fits (setting_with u (function_of u frame) given) (stable_of (function_of u frame).body) written b q (points.left_fits written there) l)));
              old_value = sides.old_value;
            };
            same = λ d r. ap (λ work. status_by u frame work d r) (sym is);
          }

      old_read : (written : Term) (o : BinaryOp) (kind : Kind) (y : Term) → (point_of u frame).action ≡ set_cell written (Some o) kind y → (p : ℕ) → lvalue u.layout frame.locals now ≡ yields p
          → IsGoodRead frame.work p (λ v. working right (Some now) (Some v)) (value_at s p)
      old_read written o kind y action p e =
          let cell : IsCellOf (setting_with u (function_of u frame) given) kind written =
          (subst (ActionHolds (setting_with u (function_of u frame) given) (function_of u frame).result) action points.kinds.1).0 in
          let worked : IsWorked (setting_with u (function_of u frame) given) (stable_of (function_of u frame).body) frame.locals written now =
          subst (λ a. IsWorkedLeft (setting_with u (function_of u frame) given) (stable_of (function_of u frame).body) frame.locals (left_of a) (Some now)) action sides.left_side in
          record {
            safe = safe_at given written now cell.0 p (points.left_fits written (ap left_of action)) worked cell.1.0 e
                (guarded_behind right (Some now) old is (guard_ways (setting_with u (function_of u frame) given) (stable_of (function_of u frame).body) written)
                (points.old_read written o kind y action));
            fit = record {
              goes_on = sides.goes_on;
              right_side = sides.right_side;
              left_side = sides.left_side;
              old_value = subst (λ a. OldFits u.layout a (Some (value_at s p))) (sym action)
                  (subst (λ o. IsOfKind u.layout o (value_at s p)) (ap (option_and_then cell_kind) cell.1.0 ∙ cell.1.1.0)
                  (fits_load (setting_with u (function_of u frame) given) (stable_of (function_of u frame).body) frame.locals laid fits.top.typed (value_at s) well constants written now p false
                  (record { thing = cell.0; type_is = cell.1.0; kind = kind; kind_is = cell.1.1.0; stable = λ e. differ e })
                  (points.left_fits written (ap left_of action)) worked e).0);
            };
            same = λ d r. ap (λ work. status_by u frame work d r) (sym is);
          }

    good : (work : Work) (p : ℕ) (rest : Value → Work) → frame.work ≡ work → WorkFits u (function_of u frame) (point_of u frame) frame.locals work
        → ReadSource u frame.locals (point_of u frame).action work p rest → IsGoodRead frame.work p rest (value_at s p)
    good work p rest is fit (of_args args q e) = args_read (point_of u frame).call refl args is fit q e
    good work p rest is fit (of_right right left old q e) = right_read right left old is fit q e
    good work p rest is fit (of_left right now old q e) = left_read right now old is fit (left_of (point_of u frame).action) refl fit.left_side q e
    good work p rest is fit (of_old right now q written o kind y action e) = old_read right now None is fit written o kind y action q e

pub reads_go_well : TurnsGoWell IsRead
reads_go_well u x s pick (to_read place rest) facts inv turn is =
    let fits = before_turn u x s pick (to_read place rest) turn inv in
    let read = good u x (holds_of s pick.thread) turn.frame turn.below (facts.functions turn.frame.function fits.top.with_body) fits facts.laid s inv.typed inv.constant
    turn.frame.work place rest refl fits.work (comes_from u x (holds_of s pick.thread) turn.frame turn.below (to_read place rest) fits turn.does) in
    record {
      kept = own_turn u x s pick (to_read place rest) turn (running (with_work turn.frame (rest (value_at s place))) turn.below) inv refl
          (reworked u x (holds_of s pick.thread) turn.frame turn.below fits (rest (value_at s place)) read.same read.fit);
      safe = safe_by_act u s pick (to_read place rest) turn read.safe;
    }
reads_go_well u x s pick act facts inv turn is = absurd is
