-- What an act touches.
use Rattle.std.proofs.Common.{◌≡◌, ◌∙◌, ℕ, ◌+◌, Bool, false, Option, Some, None, List, drop, refl, sym, ap, subst}
use Rattle.tsa_base.specs.declared.value.Value.{Value}
use Rattle.tsa_tree.specs.declared.attr.AttrKind.{AttrKind}
use Rattle.tsa_tree.specs.declared.attr.AttrKind.TheVariants as attr
use Rattle.tsa_tree.specs.declared.kind.Kind.{Kind}
use Rattle.tsa_place_model.specs.Calls.{Layout}
use Rattle.tsa_core.specs.Programs.{Program}
use Rattle.tsa_mean.specs.Acts.{Act, to_read, to_write, to_step, to_set, to_branch, to_choose, to_take, to_try, to_give, to_ask, to_enter, to_leave, to_trap, act_of, on_lock, point_of}
use Rattle.tsa_mean.specs.States.{Frame, Work}
use Rattle.tsa_mean.specs.Working.{Locals}
use Rattle.tsa_lower_going.specs.Doing.{doing, IsRead, Tells}
use Rattle.tsa_lower_going.specs.Going.{Going, stops, asks, gives}
use Rattle.tsa_lower_going.proofs.Doings.{frames_tell}
use Rattle.tsa_lower_code.specs.Codes.{act_in, going}
use Rattle.tsa_lower_code.specs.declared.instr.Instr.{Instr}
use Rattle.tsa_lower_pools.specs.declared.code.Code.{Code}
use Rattle.tsa_exec_frames.specs.Frames.{Stands}
use Rattle.tsa_exec_frames.specs.Running.{after_halt, HaltsAs}
use Rattle.tsa_exec_frames.specs.Turning.{touched}
use Rattle.tsa_exec_frames.specs.declared.frame.Position.{Position}
use Rattle.tsa_exec_frames.specs.declared.halts.Halt.{Halt}
use Rattle.tsa_exec_frames.specs.declared.halts.Halt.TheVariants as halt
use Rattle.tsa_exec_frames.specs.declared.halts.Halted.{Halted}
use Rattle.tsa_exec_frames.specs.declared.turns.Touch.{Touch}

pub lock_touches : (kind : AttrKind) (success : Bool) (lock f : ℕ) (result : Kind) → touched (on_lock kind success lock (to_ask f result)) ≡ None
lock_touches attr.Acquire success lock f result = refl
lock_touches attr.AcquireShared success lock f result = refl
lock_touches attr.TryAcquire success lock f result = refl
lock_touches attr.TryAcquireShared success lock f result = refl
lock_touches attr.Release success lock f result = refl
lock_touches attr.ReleaseShared success lock f result = refl
lock_touches attr.ReleaseGeneric success lock f result = refl
lock_touches kind success lock f result = refl

abbrev read_of : ℕ → Option Touch
read_of place = Some (record { place = place; is_write = false })

read_touches : (on : Work → Going Act) (act : Act) (place : ℕ) (k : Value → Going Act) → IsRead on act place k → touched act ≡ read_of place
read_touches on (to_read p left) place k h = ap read_of h.0
read_touches on (to_write p v) place k h = absurd h
read_touches on to_step place k h = absurd h
read_touches on (to_set n v) place k h = absurd h
read_touches on (to_branch b) place k h = absurd h
read_touches on (to_choose v) place k h = absurd h
read_touches on (to_take m l) place k h = absurd h
read_touches on (to_try m b l) place k h = absurd h
read_touches on (to_give m l) place k h = absurd h
read_touches on (to_ask f kind) place k h = absurd h
read_touches on (to_enter f args) place k h = absurd h
read_touches on (to_leave v) place k h = absurd h
read_touches on (to_trap kind) place k h = absurd h

-- what is touched by what is still to come
abbrev pub coming_touched : Going Act → Option Touch
coming_touched (stops kind) = None
coming_touched (asks place k) = read_of place
coming_touched (gives act) = touched act

tells_touched : (on : Work → Going Act) (act : Act) (g : Going Act) → Tells on act g → touched act ≡ coming_touched g
tells_touched on act (stops kind) t = ap touched t
tells_touched on act (asks place k) t = read_touches on act place k t
tells_touched on act (gives done) t = ap touched t.0

-- what is touched where a run goes no further
abbrev pub halt_touched : Halt → List Value → Option Touch
halt_touched (halt.Read place to) slots = read_of place
halt_touched (halt.Stop kind) slots = None
halt_touched (halt.End e) slots = touched (act_in e slots)

halt_tells : (l : Layout) (locals : Locals) (h : Halt) (rest : List Instr) (slots : List Value) → halt_touched h slots ≡ coming_touched (after_halt l locals h rest slots)
halt_tells l locals (halt.Read place to) rest slots = refl
halt_tells l locals (halt.Stop kind) rest slots = refl
halt_tells l locals (halt.End e) rest slots = refl

pub touch_told : (u : Program) (code : Code) (old : Position) (halted : Halted) (l : Layout) (locals given : Locals) (slots new : List Value) (frame : Frame) → given ≡ locals → u.layout ≡ l
    → Stands u code old locals slots frame → HaltsAs l given code.instrs.items old.instr slots halted new
    → (halt_touched halted.halt new ≡ touched (act_of u frame)) × Stands u code (record { point = old.point; instr = halted.instr }) locals new frame
touch_told u code old halted l locals given slots new frame same_locals layout stands run = (
  halt_tells l locals halted.halt (drop (halted.instr + 1) code.instrs.items) new
      ∙ (ap coming_touched (sym halts.goes ∙ (still ∙ ap (λ ls. doing u ls (point_of u frame) frame.work) (sym stands.locals_are)))
      ∙ sym (tells_touched (doing u frame.locals (point_of u frame)) (act_of u frame) (doing u frame.locals (point_of u frame) frame.work) (frames_tell u frame))),
  record {
    function_is = stands.function_is;
    point_is = stands.point_is;
    locals_are = stands.locals_are;
    still_to_come = ap (λ k. going k locals 0 (drop halted.instr code.instrs.items) new) layout ∙ (halts.same ∙ still);
  },
)
  where
    halts : HaltsAs l locals code.instrs.items old.instr slots halted new
    halts = subst (λ ls. HaltsAs l ls code.instrs.items old.instr slots halted new) same_locals run

    still : going l locals 0 (drop old.instr code.instrs.items) slots ≡ doing u locals (point_of u frame) frame.work
    still = ap (λ k. going k locals 0 (drop old.instr code.instrs.items) slots) (sym layout) ∙ stands.still_to_come
