-- Writes of cells: their guards are held alone, and the store stays well-typed.
use Rattle.std.proofs.Common.{◌≡◌, ◌∙◌, ℕ, ◌<◌, nat_eq, Bool, true, false, not, ◌&&◌, ◌||◌, List, Option, Some, None, slice_get, refl, ap}
use Rattle.std.proofs.Common.{sym, subst, eqb-true}
use Rattle.std.specs.Prelude.{All, Contains}
use Rattle.tsa_base.specs.declared.value.Value.{Value}
use Rattle.tsa_base.specs.declared.value.Value.TheVariants.{Int, Unsigned, Pointer}
use Rattle.tsa_place_model.specs.declared.place.Guard.{Guard}
use Rattle.tsa_place_model.specs.declared.place.Guard.TheVariants.{Lock, Nothing}
use Rattle.tsa_tree.specs.declared.expr.BinaryOp.{BinaryOp}
use Rattle.tsa_tree.specs.declared.kind.Kind.{Kind}
use Rattle.tsa_tree.specs.declared.kind.Kind.TheVariants as type
use Rattle.tsa_tree.specs.types.Operands.{integer_kind}
use Rattle.tsa_place_model.specs.Ways.{Way}
use Rattle.tsa_core.specs.Bodies.{set_cell, can_have}
use Rattle.tsa_place_model.specs.Calls.{Layout, guards_of, is_addressable, is_structure}
use Rattle.tsa_core.specs.Control.{Next}
use Rattle.tsa_core.specs.KindLaws.{signatures}
use Rattle.tsa_core.specs.Kinds.{Setting, binary_kind, conversion_kind, if_so, value_kind}
use Rattle.tsa_place_model.specs.declared.place.Placed.{Placed}
use Rattle.tsa_core.specs.PointKinds.{ActionHolds, IsCellOf, answer_of, is_number, serves}
use Rattle.tsa_core.specs.Programs.{Program}
use Rattle.tsa_place_model.specs.Stores.{IsWellTyped, is_of, is_value_of, may_point}
use Rattle.tsa_core.specs.Terms.{Term}
use Rattle.tsa_path.specs.ArgumentLaws.{KeepsConst}
use Rattle.tsa_rules.specs.declared.rule.Rule.TheVariants.{TS02}
use Rattle.tsa_rules.specs.Fits.{FitsWriting}
use Rattle.tsa_rules.specs.Points.{uses_at}
use Rattle.tsa_rules.specs.Statuses as status
use Rattle.tsa_rules.proofs.Fitting.{what_does_not_fail_fits}
use Rattle.tsa_sched.specs.declared.event.Mode.TheVariants.{Exclusive}
use Rattle.tsa_mean.specs.Acts.{point_of, to_write}
use Rattle.tsa_mean.specs.Frames.{frame_behind, left_of, or_here, point_behind, right_of}
use Rattle.tsa_mean.specs.Operators.{converted_to, operate_on}
use Rattle.tsa_mean.specs.Outs.{yields}
use Rattle.tsa_mean.specs.Safe.{IsHeldAlone}
use Rattle.tsa_mean.specs.States.{Frame, Holds, State, Work, working, running, holds_of, value_at, with_thread, with_value}
use Rattle.tsa_mean.specs.Working.{lvalue, rvalue}
use Rattle.tsa_mean.proofs.Lists.{set_keeps}
use Rattle.tsa_sound.specs.Facts.{RightFits, FunctionFacts, PointFacts, WritesUnder}
use Rattle.tsa_sound.specs.FramesFit.{IsWorkedLeft, OldFits, ProgramRows, SidesFit, WorkFits, function_of, paths_of, setting_with}
use Rattle.tsa_sound.specs.FramesFit.{stable_of, status_before, status_by}
use Rattle.tsa_sound.specs.Invariant.{StackFits, ThreadFits}
use Rattle.tsa_sound.specs.LaidOut.{LaidOut}
use Rattle.tsa_sound.specs.Laws.{IsWrite, TurnsGoWell}
use Rattle.tsa_sound.specs.PartlyWorked.{IsWorked, guard_ways}
use Rattle.tsa_sound.specs.TermFacts.{TermFits}
use Rattle.tsa_sound.proofs.Comes.{WriteSource, of_operator, of_right_side}
use Rattle.tsa_sound.proofs.Constants.{both, differ}
use Rattle.tsa_sound.proofs.Going.{comes_from}
use Rattle.tsa_sound.proofs.GoingNext.{goes_next}
use Rattle.tsa_sound.proofs.Guards.{GuardHolds, IsGuard, guarded}
use Rattle.tsa_sound.proofs.HeldLocks.{alone_lock}
use Rattle.tsa_sound.proofs.Lists.{all_alike}
use Rattle.tsa_sound.proofs.LoadsFit.{cell_is}
use Rattle.tsa_sound.proofs.Moves.{goes}
use Rattle.tsa_sound.proofs.PlacesStand.{Stands, place_stands_as}
use Rattle.tsa_sound.proofs.Says.{bound}
use Rattle.tsa_sound.proofs.Tests.{same_some}
use Rattle.tsa_sound.proofs.Threads.{before_turn, safe_by_act, set_here, turn_is, turned}
use Rattle.tsa_sound.proofs.ValuesFit.{HasKind, conversion_has, operation_has, value_fits}

-- a value that serves where one of another kind is wanted
allowed : (c d e : Bool) → (not c || d) ≡ true → (c || not e) ≡ true → (d || not e) ≡ true
allowed true d e f g = either d e f
  where
    either : (d e : Bool) → d ≡ true → (d || not e) ≡ true
    either true e f = refl
    either false e f = differ f
allowed false true e f g = refl
allowed false false e f g = g

join : (a b : Bool) → a ≡ true → b ≡ true → (a && b) ≡ true
join true b one other = other
join false b one other = differ one

points_too : (m n : ℕ) (c d : Bool) (o : Option Placed) → m ≡ n → (not c || d) ≡ true → may_point m c o ≡ true → may_point n d o ≡ true
points_too m n c d None same may e = differ e
points_too m n c d (Some p) same may e =
    let outer = both (is_addressable p) (is_of m p.kind && (c || not p.is_const)) e in
    let inner = both (is_of m p.kind) (c || not p.is_const) outer.1 in
    join (is_addressable p) (is_of n p.kind && (d || not p.is_const)) outer.0
    (join (is_of n p.kind) (d || not p.is_const) (subst (λ n. is_of n p.kind ≡ true) same inner.0) (allowed c d p.is_const may inner.1))

pub served : (l : Layout) (given wanted : Kind) (v old : Value) → serves given wanted ≡ true → HasKind l given v → is_value_of l wanted old ≡ true → is_value_of l wanted v ≡ true
served l type.Int type.Int v old e h w = h
served l type.Unsigned type.Unsigned v old e h w = h
served l type.Null type.Null v old e h w = differ w
served l type.Null (type.Pointer n c) v old e h w = subst (λ v. is_value_of l (type.Pointer n c) v ≡ true) (sym h) refl
served l (type.Pointer m c) (type.Pointer n d) (Pointer None) old e h w = refl
served l (type.Pointer m c) (type.Pointer n d) (Pointer (Some p)) old e h w =
    let parts = both (nat_eq m n) (not c || d) e in points_too m n c d (slice_get l.places p) (eqb-true m n parts.0) parts.1 h
served l (type.Pointer m c) (type.Pointer n d) (Int z) old e h w = differ h
served l (type.Pointer m c) (type.Pointer n d) (Unsigned z) old e h w = differ h
served l given wanted v old e h w = differ e

pub integer_value : (l : Layout) (kind : Kind) (v : Value) → integer_kind kind ≡ true → HasKind l kind v → is_value_of l kind v ≡ true
integer_value l type.Int v e h = h
integer_value l type.Unsigned v e h = h
integer_value l type.Null v e h = differ e
integer_value l type.Void v e h = differ e
integer_value l (type.Structure n) v e h = differ e
integer_value l (type.Pointer n c) v e h = differ e
integer_value l type.Function v e h = differ e

-- what an operator makes of an old value and another is a value of the cell's kind
pub number_told : (o : Option Kind) → is_number o ≡ true → (kind : Kind) × (o ≡ Some kind) × (integer_kind kind ≡ true)
number_told None e = differ e
number_told (Some kind) e = (kind, refl, e)

pub converted_told : (to a : Kind) → integer_kind to ≡ true → integer_kind a ≡ true → conversion_kind to a ≡ Some to
converted_told to a one other = ap (λ b. if_so b to) (join (integer_kind to) (integer_kind a) one other)

pub has_integer : (l : Layout) (kind : Kind) (v : Value) → is_value_of l kind v ≡ true → integer_kind kind ≡ true → HasKind l kind v
has_integer l type.Int v h e = h
has_integer l type.Unsigned v h e = h
has_integer l type.Null v h e = differ e
has_integer l type.Void v h e = differ e
has_integer l (type.Structure n) v h e = differ e
has_integer l (type.Pointer n c) v h e = differ e
has_integer l type.Function v h e = differ e

module _ (u : Program) (x : ProgramRows) (held : Holds) (frame : Frame) (below : List Frame) (facts : FunctionFacts u x frame.function) (fits : StackFits u x held frame below)
    (laid : LaidOut u.layout) (s : State) (well : IsWellTyped u.layout (value_at s)) where
  abbrev points : PointFacts u (x.paths frame.function) (function_of u frame) frame.point
  points = facts.points frame.point

  abbrev k : Setting
  k = setting_with u (function_of u frame) (answer_of (signatures u) (point_of u frame).call)

  abbrev stable : ℕ → Bool
  stable = stable_of (function_of u frame).body

  -- what a write is of: its point sets a cell that stands here, to a value of its kind
  record IsGoodWrite (place : ℕ) (v : Value) : Type 0 where
    pub right : Term
    pub left : Term
    pub old : Option Value
    pub is : frame.work ≡ working right (Some left) old
    pub written : Term
    pub operator : Option BinaryOp
    pub kind : Kind
    pub side : Term
    pub action : (point_of u frame).action ≡ set_cell written operator kind side
    pub cell : IsCellOf k kind written
    pub worked : IsWorked k stable frame.locals written left
    pub stands : lvalue u.layout frame.locals left ≡ yields place
    pub value : is_value_of u.layout kind v ≡ true

  module _ (written side right left : Term) (operator : Option BinaryOp) (old : Option Value) (kind : Kind) (place : ℕ)
      (sides : SidesFit u (function_of u frame) (point_of u frame) frame.locals right (Some left) old)
      (action : (point_of u frame).action ≡ set_cell written operator kind side) (stands : lvalue u.layout frame.locals left ≡ yields place) where
    acts : ActionHolds k (function_of u frame).result (set_cell written operator kind side)
    acts = subst (ActionHolds k (function_of u frame).result) action points.kinds.1

    worked_left : IsWorked k stable frame.locals written left
    worked_left = subst (λ a. IsWorkedLeft k stable frame.locals (left_of a) (Some left)) action sides.left_side

    worked_right : IsWorked k stable frame.locals side right
    worked_right = subst (λ a. IsWorked k stable frame.locals (right_of a) right) action sides.right_side

    side_fits : TermFits k stable side
    side_fits = subst (RightFits k stable) action points.right_fits

    placed : Stands k stable written acts.0.0 place
    placed = place_stands_as k stable frame.locals laid fits.top.typed written left acts.0.0 place (points.left_fits written (ap left_of action)) worked_left acts.0.1.0 stands

    cell_kind_is : (is_structure acts.0.0.kind ≡ false) × (acts.0.0.kind ≡ kind)
    cell_kind_is = cell_is acts.0.0 kind acts.0.1.1.0

    -- the value that stands there is of the kind
    stood : is_value_of u.layout kind (value_at s place) ≡ true
    stood = subst (λ kind. is_value_of u.layout kind (value_at s place) ≡ true) (placed.kind ∙ cell_kind_is.1)
        (well place placed.placed placed.there (ap is_structure placed.kind ∙ cell_kind_is.0))

    side_has : (given : Kind) (v : Value) → value_kind k side ≡ Some given → rvalue u.layout frame.locals right ≡ yields v → HasKind u.layout given v
    side_has given v is e = value_fits k stable frame.locals laid fits.top.typed side right given v side_fits worked_right is e

  good : (work : Work) (place : ℕ) (v : Value) → frame.work ≡ work → WorkFits u (function_of u frame) (point_of u frame) frame.locals work
      → WriteSource u frame.locals (point_of u frame).action work place v → IsGoodWrite place v
  good work place v is sides (of_right_side right left old q w written kind side action stands value) =
      let acts = acts written side right left None old kind q sides action stands in
      record {
        right = right;
        left = left;
        old = old;
        is = is;
        written = written;
        operator = None;
        kind = kind;
        side = side;
        action = action;
        cell = acts.0;
        worked = worked_left written side right left None old kind q sides action stands;
        stands = stands;
        value = served u.layout acts.1.0 kind w (value_at s q) acts.1.1.1 (side_has written side right left None old kind q sides action stands acts.1.0 w acts.1.1.0 value)
            (stood written side right left None old kind q sides action stands);
      }
  good work place v is sides (of_operator right left w q r z written o kind side action stands value stored) =
      let acts = acts written side right left (Some o) (Some w) kind q sides action stands in
      let told = number_told (binary_kind o kind acts.1.1.0) acts.1.1.1.1 in
      let made = bound (operate_on o w r) (λ y. converted_to kind y) z stored in
      let old_value : is_value_of u.layout kind w ≡ true = subst (λ a. OldFits u.layout a (Some w)) action sides.old_value in
      record {
        right = right;
        left = left;
        old = Some w;
        is = is;
        written = written;
        operator = Some o;
        kind = kind;
        side = side;
        action = action;
        cell = acts.0;
        worked = worked_left written side right left (Some o) (Some w) kind q sides action stands;
        stands = stands;
        value = integer_value u.layout kind z acts.1.0
            (conversion_has u.layout kind told.0 kind made.0 z
            (operation_has u.layout o (points.whole written o kind side action) kind acts.1.1.0 told.0 w r made.0 (has_integer u.layout kind w old_value acts.1.0)
            (side_has written side right left (Some o) (Some w) kind q sides action stands acts.1.1.0 r acts.1.1.1.0 value) told.1 made.1)
            (converted_told kind told.0 acts.1.0 told.2) made.2);
      }

  -- its guards are held alone
  writing : (c : Way) → Contains (paths_of x frame) c → FitsWriting u (function_of u frame) frame.point c (status_before x frame c)
  writing c i = what_does_not_fail_fits TS02 u (function_of u frame) frame.point c (status_before x frame c) (facts.kept.breaks_none TS02 frame.point c fits.top.listed i)

  module _ (place : ℕ) (v : Value) (write : IsGoodWrite place v) where
    stands_here : Stands k stable write.written write.cell.0 place
    stands_here = place_stands_as k stable frame.locals laid fits.top.typed write.written write.left write.cell.0 place
        (points.left_fits write.written (ap left_of write.action)) write.worked write.cell.1.0 write.stands

    each : (w : Option Way) → WritesUnder (paths_of x frame) (uses_at (function_of u frame) frame.point).left w → GuardHolds u.layout frame.locals (λ lock. 0 < held lock Exclusive) w
    each None under = absurd under
    each (Some c) under = alone_lock u x held frame below facts fits c under.0
        (subst status.IsExclusive (sym (ap (λ work. status_by u frame work c (status_before x frame c)) write.is)) (writing c under.0 under.1))

    alone : (g : Guard) → IsGuard u.layout frame.locals (λ lock. 0 < held lock Exclusive) g → IsHeldAlone held g
    alone Nothing is = is
    alone (Lock lock) is = is

    write_safe : All (IsHeldAlone held) (guards_of u.layout place)
    write_safe = all_alike (IsGuard u.layout frame.locals (λ lock. 0 < held lock Exclusive)) (IsHeldAlone held) alone (guards_of u.layout place)
        (guarded k stable frame.locals laid fits.top.typed (λ lock. 0 < held lock Exclusive) write.written write.left write.cell.0 place
        (points.left_fits write.written (ap left_of write.action)) write.worked write.cell.1.0 write.stands
        (all_alike (WritesUnder (paths_of x frame) (uses_at (function_of u frame) frame.point).left) (GuardHolds u.layout frame.locals (λ lock. 0 < held lock Exclusive)) each
        (guard_ways k stable write.written) (points.written write.written write.operator write.kind write.side write.action)))

    abbrev Typed : ℕ → Value → Type 0
    Typed q w = (p : Placed) → slice_get u.layout.places q ≡ Some p → is_structure p.kind ≡ false → is_value_of u.layout p.kind w ≡ true

    abbrev Kept : ℕ → Value → Type 0
    Kept q w = (p : Placed) → slice_get u.layout.places q ≡ Some p → is_structure p.kind ≡ false → p.is_const ≡ true → w ≡ p.initial

    same_placed : (p : Placed) → slice_get u.layout.places place ≡ Some p → stands_here.placed ≡ p
    same_placed p there = same_some (sym stands_here.there ∙ there)

    still_typed : IsWellTyped u.layout (value_at (with_value s place v))
    still_typed q = set_keeps Typed s.store place v (Pointer None) well
        (λ p there plain. subst (λ kind. is_value_of u.layout kind v ≡ true)
        (sym (cell_is write.cell.0 write.kind write.cell.1.1.0).1 ∙ sym stands_here.kind ∙ ap (λ p. p.kind) (same_placed p there)) write.value) q

    still_constant : KeepsConst u.layout (value_at s) → KeepsConst u.layout (value_at (with_value s place v))
    still_constant constant q = set_keeps Kept s.store place v (Pointer None) constant
        (λ p there plain const. differ (sym write.cell.1.1.1 ∙ stands_here.const (ap (λ p. p.is_const) (same_placed p there) ∙ const))) q

    written_on : StackFits u x held (frame_behind u frame frame.locals Next) below
    written_on = goes u x frame below frame.locals (or_here frame.point (point_behind u frame Next))
        (goes_next u x held frame below facts fits write.right (Some write.left) write.old write.is (ap (λ a. can_have a Next) write.action)) held fits

pub writes_go_well : TurnsGoWell IsWrite
writes_go_well u x s pick (to_write place v) facts inv turn is =
    let fits = before_turn u x s pick (to_write place v) turn inv in
    let function = facts.functions turn.frame.function fits.top.with_body in
    let write = good u x (holds_of s pick.thread) turn.frame turn.below function fits facts.laid s inv.typed turn.frame.work place v refl fits.work
    (comes_from u x (holds_of s pick.thread) turn.frame turn.below (to_write place v) fits turn.does) in
    record {
      kept = turned u x s (with_thread (with_value s place v) pick.thread (running (frame_behind u turn.frame turn.frame.locals Next) turn.below)) pick
          (turn_is u s pick (to_write place v) turn) inv
          (still_typed u x (holds_of s pick.thread) turn.frame turn.below function fits facts.laid s inv.typed place v write)
          (still_constant u x (holds_of s pick.thread) turn.frame turn.below function fits facts.laid s inv.typed place v write inv.constant) refl
          (λ other differs lock mode. refl)
          (subst (ThreadFits u x (holds_of s pick.thread)) (sym (set_here s.threads pick.thread (running turn.frame turn.below)
          (running (frame_behind u turn.frame turn.frame.locals Next) turn.below) turn.runs))
          (written_on u x (holds_of s pick.thread) turn.frame turn.below function fits facts.laid s inv.typed place v write));
      safe = safe_by_act u s pick (to_write place v) turn
          (write_safe u x (holds_of s pick.thread) turn.frame turn.below function fits facts.laid s inv.typed place v write);
    }
writes_go_well u x s pick act facts inv turn is = absurd is
