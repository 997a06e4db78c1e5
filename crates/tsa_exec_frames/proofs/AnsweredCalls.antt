-- What a frame does with the answer of its call, and a switch with its value.
use Rattle.std.proofs.Common.{◌≡◌, ◌∙◌, ℕ, ℤ, pos, ◌<◌, ◌≤◌, Bool, true, false, List, drop, length, set, Option, Some, None, refl, sym, ap, subst, arith, if◌then◌else◌, length-set, get_or-set_same}
use Rattle.tsa_base.specs.declared.value.Value.{Value}
use Rattle.tsa_base.specs.declared.value.Value.TheVariants.{Int}
use Rattle.tsa_core.specs.Bodies.{Action, evaluate, set_local, set_cell, declare, test, branch, go_on, give, Point}
use Rattle.tsa_core.specs.Control.{Next, Yes, No, Chosen}
use Rattle.tsa_core.specs.Programs.{Program}
use Rattle.tsa_path.specs.Values.{is_true}
use Rattle.tsa_place_model.specs.Calls.{Layout}
use Rattle.tsa_rules.specs.Points.{function_at, point_at}
use Rattle.tsa_mean.specs.Acts.{Act, to_set, to_branch, point_of}
use Rattle.tsa_mean.specs.Frames.{frame_at, frame_behind, frame_by_answer, frame_by_case, frame_with_answer, left_of, or_none, or_rest, outcome_of, point_behind, right_of, value_with_answer, with_work}
use Rattle.tsa_mean.specs.States.{Frame, working}
use Rattle.tsa_mean.specs.Steps.{int_in}
use Rattle.tsa_mean.specs.Working.{with_answer, with_local}
use Rattle.tsa_lower_going.specs.Doing.{doing, finish_going}
use Rattle.tsa_lower_going.specs.Going.{Going, stops, asks, gives, first_of, and_then, value_going}
use Rattle.tsa_lower_going.proofs.TermReads.{value_first}
use Rattle.tsa_lower_code.specs.Codes.{going, slot}
use Rattle.tsa_lower_pools.specs.Inside.{PointInside}
use Rattle.tsa_lower_pools.specs.Pools.{case_in, no_point, point_in}
use Rattle.tsa_lower_pools.specs.Units as unit
use Rattle.tsa_lower_pools.specs.Units.{answer_use_of, CodeStands, IsPoint, point_after, point_chosen, PointStands}
use Rattle.tsa_lower_pools.specs.declared.code.AnswerUse.{AnswerUse}
use Rattle.tsa_lower_pools.specs.declared.code.AnswerUse.TheVariants as answer
use Rattle.tsa_lower_pools.specs.declared.code.Code.{Code}
use Rattle.tsa_lower_pools.specs.declared.code.PointCode.{PointCode}
use Rattle.tsa_lower_pools.proofs.PointsOfUnits.{code_goes}
use Rattle.tsa_exec_frames.specs.Answering.{value_to_set, way_to_go}
use Rattle.tsa_exec_frames.specs.Frames.{beginning, IsInside, Pauses, Stands}
use Rattle.tsa_exec_frames.specs.declared.frame.Position.{Position}
use Rattle.tsa_exec_frames.proofs.FrameTurns.{begins_at}

-- what is worked out in the same turn, where a read and a trap count as 0
set_first : (n : ℕ) (g : Going Value) → value_to_set (and_then g (λ w. gives (to_set n w))) ≡ or_none (first_of g)
set_first n (stops kind) = refl
set_first n (asks place left) = refl
set_first n (gives w) = refl

way_first : (g : Going Value) → way_to_go (and_then g (λ w. gives (to_branch (is_true w)))) ≡ is_true (or_none (first_of g))
way_first (stops kind) = refl
way_first (asks place left) = refl
way_first (gives w) = refl

module _ (u : Program) (frame : Frame) (v : Value) where
  -- what is still to come behind the answer
  abbrev coming : Point → Going Act
  coming p = doing u frame.locals p (working (with_answer v (right_of p.action)) (left_of p.action) None)

  pass_by : (a : Action) → answer_use_of a ≡ answer.Pass → frame_by_answer u frame v a ≡ frame_behind u frame frame.locals Next
  pass_by (evaluate x) e = refl
  pass_by (declare n kind x) e = absurd cc
  pass_by (set_local n o kind x) e = absurd cc
  pass_by (set_cell place o kind x) e = absurd cc
  pass_by (test x) e = absurd cc
  pass_by (branch x) e = absurd cc
  pass_by go_on e = absurd cc
  pass_by (give kind x) e = absurd cc

  abbrev number_in : AnswerUse → ℕ
  number_in (answer.Set n) = n
  number_in other = 0

  set_by : (p : Point) (a : Action) (n : ℕ) → p.action ≡ a → answer_use_of a ≡ answer.Set n
      → frame_by_answer u frame v a ≡ frame_behind u frame (with_local frame.locals n (value_to_set (doing u frame.locals p (working (with_answer v (right_of a)) (left_of a) None)))) Next
  set_by p (declare m kind x) n is e = ap (λ k. frame_behind u frame (with_local frame.locals k (value_with_answer u frame v x)) Next) (ap number_in e)
      ∙ ap (λ w. frame_behind u frame (with_local frame.locals n w) Next)
      (sym (ap (λ b. value_to_set (and_then (value_going u.layout frame.locals None (with_answer v x)) (finish_going u.layout frame.locals b None None))) is
      ∙ (set_first m (value_going u.layout frame.locals None (with_answer v x)) ∙ ap or_none (value_first u.layout frame.locals (with_answer v x)))))
  set_by p (evaluate x) n is e = absurd cc
  set_by p (set_local m o kind x) n is e = absurd cc
  set_by p (set_cell place o kind x) n is e = absurd cc
  set_by p (test x) n is e = absurd cc
  set_by p (branch x) n is e = absurd cc
  set_by p go_on n is e = absurd cc
  set_by p (give kind x) n is e = absurd cc

  test_by : (p : Point) (a : Action) → p.action ≡ a → answer_use_of a ≡ answer.Test
      → frame_by_answer u frame v a ≡ frame_behind u frame frame.locals (outcome_of (way_to_go (doing u frame.locals p (working (with_answer v (right_of a)) (left_of a) None))))
  test_by p (test x) is e = ap (λ b. frame_behind u frame frame.locals (outcome_of b))
      (sym (ap (λ b. way_to_go (and_then (value_going u.layout frame.locals None (with_answer v x)) (finish_going u.layout frame.locals b None None))) is
      ∙ (way_first (value_going u.layout frame.locals None (with_answer v x)) ∙ ap (λ o. is_true (or_none o)) (value_first u.layout frame.locals (with_answer v x)))))
  test_by p (evaluate x) is e = absurd cc
  test_by p (declare n kind x) is e = absurd cc
  test_by p (set_local m o kind x) is e = absurd cc
  test_by p (set_cell place o kind x) is e = absurd cc
  test_by p (branch x) is e = absurd cc
  test_by p go_on is e = absurd cc
  test_by p (give kind x) is e = absurd cc

  resume_by : (a : Action) → answer_use_of a ≡ answer.Resume → frame_by_answer u frame v a ≡ with_work frame (working (with_answer v (right_of a)) (left_of a) None)
  resume_by (set_local n o kind x) e = refl
  resume_by (set_cell place o kind x) e = refl
  resume_by (branch x) e = refl
  resume_by go_on e = refl
  resume_by (give kind x) e = refl
  resume_by (evaluate x) e = absurd cc
  resume_by (declare n kind x) e = absurd cc
  resume_by (test x) e = absurd cc

module _ (u : Program) (code : Code) (frame : Frame) (stands : CodeStands u code) (at : Position) (inside : at.point < length code.points.items) (pauses : Pauses code at frame.locals frame) where
  here : PointStands u code (point_in code at.point)
  here = stands.points at.point inside

  -- the point of the frame
  point_is : point_at (function_at u (point_in code at.point).function) (point_in code at.point).point ≡ point_of u frame
  point_is = ap (λ f. point_at (function_at u f) (point_in code at.point).point) (sym pauses.function_is) ∙ ap (λ p. point_at (function_at u frame.function) p) (sym pauses.point_is)

  how_is : (point_in code at.point).answer_use ≡ answer_use_of (point_of u frame).action
  how_is = here.answer_use ∙ ap (λ p. answer_use_of p.action) point_is

  begins : (to : ℕ → ℕ → ℕ) (n : ℕ) (locals slots : List Value) → n < length code.points.items → code.slots ≤ length slots → IsPoint code n (point_in code at.point).function (to (point_in code at.point).function (point_in code at.point).point)
      → Stands u code (beginning code n) locals slots (frame_at u frame locals (to frame.function frame.point))
  begins to n locals slots inner long is = begins_at u code frame locals slots n (to frame.function frame.point) stands inner long
      (record {
        function_is = is.function_is ∙ sym pauses.function_is;
        point_is = is.point_is ∙ (ap (λ f. to f (point_in code at.point).point) (sym pauses.function_is) ∙ ap (λ p. to frame.function p) (sym pauses.point_is));
      })

  pub chosen : (z : ℤ) (locals slots : List Value) → case_in code (point_in code at.point) z < length code.points.items → code.slots ≤ length slots → frame.locals ≡ locals
      → Stands u code (beginning code (case_in code (point_in code at.point) z)) locals slots (frame_by_case u frame z)
  chosen z locals slots inner long same = subst (λ ls. Stands u code (beginning code (case_in code (point_in code at.point) z)) ls slots (frame_by_case u frame z)) same
      (subst (λ f. Stands u code (beginning code (case_in code (point_in code at.point) z)) frame.locals slots f) (case_is (point_behind u frame (Chosen z)))
      (begins (λ f p. point_chosen u f p z) (case_in code (point_in code at.point) z) frame.locals slots inner long (here.chosen z)))
    where
      case_is : (o : Option ℕ) → frame_at u frame frame.locals (unit.or_rest u frame.function frame.point o) ≡ or_rest u frame o
      case_is None = refl
      case_is (Some q) = refl

  -- what is still to come behind the answer is what is left of the point
  comes : (v : Value) (slots : List Value) → code.slots ≤ length slots → slot slots 0 ≡ v
      → going u.layout frame.locals 0 (drop (point_in code at.point).behind_call code.instrs.items) slots
      ≡ doing u frame.locals (point_of u frame) (working (with_answer v (right_of (point_of u frame).action)) (left_of (point_of u frame).action) None)
  comes v slots long has = subst (λ p. going u.layout frame.locals 0 (drop (point_in code at.point).behind_call code.instrs.items) slots ≡ doing u frame.locals p (working (with_answer v (right_of p.action)) (left_of p.action) None))
      point_is ((code_goes u code stands at.point inside).goes_on frame.locals slots v long has)

  pass_stands : (v : Value) (slots : List Value) → (point_in code at.point).answer_use ≡ answer.Pass → (point_in code at.point).next < length code.points.items → code.slots ≤ length slots
      → Stands u code (beginning code (point_in code at.point).next) frame.locals slots (frame_with_answer u frame v)
  pass_stands v slots how inner long = subst (λ f. Stands u code (beginning code (point_in code at.point).next) frame.locals slots f) (sym (pass_by u frame v (point_of u frame).action (sym how_is ∙ how)))
      (begins (λ f p. point_after u f p Next) (point_in code at.point).next frame.locals slots inner long here.next)

  set_stands : (v : Value) (n : ℕ) (mid slots : List Value) → (point_in code at.point).answer_use ≡ answer.Set n → (point_in code at.point).next < length code.points.items → code.slots ≤ length mid → slot mid 0 ≡ v
      → code.slots ≤ length slots
      → Stands u code (beginning code (point_in code at.point).next) (with_local frame.locals n (value_to_set (going u.layout frame.locals 0 (drop (point_in code at.point).behind_call code.instrs.items) mid))) slots (frame_with_answer u frame v)
  set_stands v n mid slots how inner long has room =
      subst (λ g. Stands u code (beginning code (point_in code at.point).next) (with_local frame.locals n (value_to_set g)) slots (frame_with_answer u frame v)) (sym (comes v mid long has))
      (subst (λ f. Stands u code (beginning code (point_in code at.point).next)
      (with_local frame.locals n (value_to_set (doing u frame.locals (point_of u frame) (working (with_answer v (right_of (point_of u frame).action)) (left_of (point_of u frame).action) None)))) slots f)
      (sym (set_by u frame v (point_of u frame) (point_of u frame).action n refl (sym how_is ∙ how)))
      (begins (λ f p. point_after u f p Next) (point_in code at.point).next
      (with_local frame.locals n (value_to_set (doing u frame.locals (point_of u frame) (working (with_answer v (right_of (point_of u frame).action)) (left_of (point_of u frame).action) None)))) slots inner room here.next))

  way_stands : (b : Bool) (slots : List Value) → (point_in code at.point).yes < length code.points.items → (point_in code at.point).no < length code.points.items → code.slots ≤ length slots
      → Stands u code (beginning code (if b then (point_in code at.point).yes else (point_in code at.point).no)) frame.locals slots (frame_behind u frame frame.locals (outcome_of b))
  way_stands true slots y n long = begins (λ f p. point_after u f p Yes) (point_in code at.point).yes frame.locals slots y long here.yes
  way_stands false slots y n long = begins (λ f p. point_after u f p No) (point_in code at.point).no frame.locals slots n long here.no

  test_stands : (v : Value) (mid slots : List Value) → (point_in code at.point).answer_use ≡ answer.Test → (point_in code at.point).yes < length code.points.items → (point_in code at.point).no < length code.points.items
      → code.slots ≤ length mid → slot mid 0 ≡ v → code.slots ≤ length slots
      → Stands u code (beginning code (if way_to_go (going u.layout frame.locals 0 (drop (point_in code at.point).behind_call code.instrs.items) mid) then (point_in code at.point).yes else (point_in code at.point).no)) frame.locals slots
      (frame_with_answer u frame v)
  test_stands v mid slots how y n long has room =
      subst (λ g. Stands u code (beginning code (if way_to_go g then (point_in code at.point).yes else (point_in code at.point).no)) frame.locals slots (frame_with_answer u frame v)) (sym (comes v mid long has))
      (subst (λ f. Stands u code (beginning code (if way_to_go (doing u frame.locals (point_of u frame) (working (with_answer v (right_of (point_of u frame).action)) (left_of (point_of u frame).action) None))
      then (point_in code at.point).yes else (point_in code at.point).no)) frame.locals slots f)
      (sym (test_by u frame v (point_of u frame) (point_of u frame).action refl (sym how_is ∙ how)))
      (way_stands (way_to_go (doing u frame.locals (point_of u frame) (working (with_answer v (right_of (point_of u frame).action)) (left_of (point_of u frame).action) None))) slots y n room))

  resume_stands : (v : Value) (slots : List Value) → (point_in code at.point).answer_use ≡ answer.Resume → code.slots ≤ length slots → slot slots 0 ≡ v
      → Stands u code (record { point = at.point; instr = (point_in code at.point).behind_call }) frame.locals slots (frame_with_answer u frame v)
  resume_stands v slots how long has = subst (λ f. Stands u code (record { point = at.point; instr = (point_in code at.point).behind_call }) frame.locals slots f)
      (sym (resume_by u frame v (point_of u frame).action (sym how_is ∙ how)))
      (record { function_is = pauses.function_is; point_is = pauses.point_is; locals_are = refl; still_to_come = comes v slots long has })

-- The same of the code's own locals and places.
module _ (u : Program) (code : Code) (frame : Frame) (stands : CodeStands u code) (at : Position) (inside : at.point < length code.points.items) (l : Layout) (layout : u.layout ≡ l) (locals : List Value) (pauses : Pauses code at locals frame) where
  own : Pauses code at frame.locals frame
  own = record { function_is = pauses.function_is; point_is = pauses.point_is; locals_are = refl }

  pub pass_told : (v : Value) (slots : List Value) → (point_in code at.point).answer_use ≡ answer.Pass → (point_in code at.point).next < length code.points.items → code.slots ≤ length slots
      → Stands u code (beginning code (point_in code at.point).next) locals slots (frame_with_answer u frame v)
  pass_told v slots how inner long = subst (λ ls. Stands u code (beginning code (point_in code at.point).next) ls slots (frame_with_answer u frame v)) pauses.locals_are (pass_stands u code frame stands at inside own v slots how inner long)

  pub set_told : (v w : Value) (n : ℕ) (mid slots : List Value) → (point_in code at.point).answer_use ≡ answer.Set n → (point_in code at.point).next < length code.points.items → code.slots ≤ length mid → slot mid 0 ≡ v
      → code.slots ≤ length slots → w ≡ value_to_set (going l locals 0 (drop (point_in code at.point).behind_call code.instrs.items) mid)
      → Stands u code (beginning code (point_in code at.point).next) (with_local locals n w) slots (frame_with_answer u frame v)
  set_told v w n mid slots how inner long has room is =
      subst (λ x. Stands u code (beginning code (point_in code at.point).next) (with_local locals n x) slots (frame_with_answer u frame v)) (sym is)
      (subst (λ k. Stands u code (beginning code (point_in code at.point).next) (with_local locals n (value_to_set (going k locals 0 (drop (point_in code at.point).behind_call code.instrs.items) mid))) slots (frame_with_answer u frame v)) layout
      (subst (λ ls. Stands u code (beginning code (point_in code at.point).next) (with_local ls n (value_to_set (going u.layout ls 0 (drop (point_in code at.point).behind_call code.instrs.items) mid))) slots (frame_with_answer u frame v)) pauses.locals_are
      (set_stands u code frame stands at inside own v n mid slots how inner long has room)))

  pub test_told : (v : Value) (b : Bool) (mid slots : List Value) → (point_in code at.point).answer_use ≡ answer.Test → (point_in code at.point).yes < length code.points.items → (point_in code at.point).no < length code.points.items
      → code.slots ≤ length mid → slot mid 0 ≡ v → code.slots ≤ length slots → b ≡ way_to_go (going l locals 0 (drop (point_in code at.point).behind_call code.instrs.items) mid)
      → Stands u code (beginning code (if b then (point_in code at.point).yes else (point_in code at.point).no)) locals slots (frame_with_answer u frame v)
  test_told v b mid slots how y n long has room is =
      subst (λ x. Stands u code (beginning code (if x then (point_in code at.point).yes else (point_in code at.point).no)) locals slots (frame_with_answer u frame v)) (sym is)
      (subst (λ k. Stands u code (beginning code (if way_to_go (going k locals 0 (drop (point_in code at.point).behind_call code.instrs.items) mid) then (point_in code at.point).yes else (point_in code at.point).no)) locals slots
      (frame_with_answer u frame v)) layout
      (subst (λ ls. Stands u code (beginning code (if way_to_go (going u.layout ls 0 (drop (point_in code at.point).behind_call code.instrs.items) mid) then (point_in code at.point).yes else (point_in code at.point).no)) ls slots
      (frame_with_answer u frame v)) pauses.locals_are
      (test_stands u code frame stands at inside own v mid slots how y n long has room)))

  pub resume_told : (v : Value) (slots : List Value) → (point_in code at.point).answer_use ≡ answer.Resume → code.slots ≤ length slots → slot slots 0 ≡ v
      → Stands u code (record { point = at.point; instr = (point_in code at.point).behind_call }) locals slots (frame_with_answer u frame v)
  resume_told v slots how long has = subst (λ ls. Stands u code (record { point = at.point; instr = (point_in code at.point).behind_call }) ls slots (frame_with_answer u frame v)) pauses.locals_are
      (resume_stands u code frame stands at inside own v slots how long has)

  pub chosen_told : (z : ℤ) (slots : List Value) → case_in code (point_in code at.point) z < length code.points.items → code.slots ≤ length slots
      → Stands u code (beginning code (case_in code (point_in code at.point) z)) locals slots (frame_by_case u frame z)
  chosen_told z slots inner long = chosen u code frame stands at inside own z locals slots inner long pauses.locals_are

-- The same as the code has it.
pub record Answers (u : Program) (code : Code) (frame : Frame) (at : Position) (l : Layout) (locals : List Value) (here : PointCode) (slots after : List Value) : Type 0 where
  pub stands : CodeStands u code
  pub inside : at.point < length code.points.items
  pub layout : u.layout ≡ l
  pub pauses : Pauses code at locals frame
  pub here_is : here ≡ point_in code at.point
  pub long : length slots ≡ code.slots
  pub room : length after ≡ code.slots

pub answers : (u : Program) (code : Code) (frame : Frame) (at : Position) (l : Layout) (locals : List Value) (here : PointCode) (slots after : List Value)
    → CodeStands u code → IsInside code at → u.layout ≡ l → Pauses code at locals frame → here ≡ point_in code at.point → length slots ≡ code.slots → length after ≡ code.slots → Answers u code frame at l locals here slots after
answers u code frame at l locals at_point slots after stands inside layout pauses here_is long room = record { stands = stands; inside = inside.point; layout = layout; pauses = pauses; here_is = here_is; long = long; room = room }

module _ (u : Program) (code : Code) (frame : Frame) (at : Position) (l : Layout) (locals : List Value) (here : PointCode) (slots after : List Value) (v : Value) (a : Answers u code frame at l locals here slots after) where
  mid_long : code.slots ≤ length (set slots 0 v)
  mid_long = omega (arith, a.long, length-set slots 0 v)

  mid_has : slot (set slots 0 v) 0 ≡ v
  mid_has = get_or-set_same slots 0 v (Int (pos 0)) (omega (arith, a.long, code.some))

  inner : PointInside (length code.instrs.items) (length code.points.items) (length code.cases.items) (point_in code at.point)
  inner = code.inside at.point no_point a.inside

  after_room : code.slots ≤ length after
  after_room = omega (arith, a.room)

  pub answer_pass : here.answer_use ≡ answer.Pass → Stands u code (beginning code here.next) locals after (frame_with_answer u frame v)
  answer_pass how = subst (λ h. Stands u code (beginning code h.next) locals after (frame_with_answer u frame v)) (sym a.here_is)
      (pass_told u code frame a.stands at a.inside l a.layout locals a.pauses v after (ap (λ h. h.answer_use) (sym a.here_is) ∙ how) inner.next after_room)

  pub answer_set : (n : ℕ) (w : Value) → here.answer_use ≡ answer.Set n → w ≡ value_to_set (going l locals 0 (drop here.behind_call code.instrs.items) (set slots 0 v)) → Stands u code (beginning code here.next) (with_local locals n w) after (frame_with_answer u frame v)
  answer_set n w how is = subst (λ h. Stands u code (beginning code h.next) (with_local locals n w) after (frame_with_answer u frame v)) (sym a.here_is)
      (set_told u code frame a.stands at a.inside l a.layout locals a.pauses v w n (set slots 0 v) after (ap (λ h. h.answer_use) (sym a.here_is) ∙ how) inner.next mid_long mid_has after_room
      (is ∙ ap (λ h. value_to_set (going l locals 0 (drop h.behind_call code.instrs.items) (set slots 0 v))) a.here_is))

  pub answer_test : (b : Bool) (to : ℕ) → here.answer_use ≡ answer.Test → b ≡ way_to_go (going l locals 0 (drop here.behind_call code.instrs.items) (set slots 0 v)) → to ≡ (if b then here.yes else here.no)
      → Stands u code (beginning code to) locals after (frame_with_answer u frame v)
  answer_test b to how is goes = subst (λ n. Stands u code (beginning code n) locals after (frame_with_answer u frame v)) (sym goes)
      (subst (λ h. Stands u code (beginning code (if b then h.yes else h.no)) locals after (frame_with_answer u frame v)) (sym a.here_is)
      (test_told u code frame a.stands at a.inside l a.layout locals a.pauses v b (set slots 0 v) after (ap (λ h. h.answer_use) (sym a.here_is) ∙ how) inner.yes inner.no mid_long mid_has after_room
      (is ∙ ap (λ h. way_to_go (going l locals 0 (drop h.behind_call code.instrs.items) (set slots 0 v))) a.here_is)))

  pub answer_resume : here.answer_use ≡ answer.Resume → after ≡ set slots 0 v → Stands u code (record { point = at.point; instr = here.behind_call }) locals after (frame_with_answer u frame v)
  answer_resume how same = subst (λ h. Stands u code (record { point = at.point; instr = h.behind_call }) locals after (frame_with_answer u frame v)) (sym a.here_is)
      (resume_told u code frame a.stands at a.inside l a.layout locals a.pauses v after (ap (λ h. h.answer_use) (sym a.here_is) ∙ how) after_room (ap (λ s. slot s 0) same ∙ mid_has))

pub choose_told : (u : Program) (code : Code) (frame : Frame) (at : Position) (locals slots : List Value) (v : Value) (z : ℤ) (to : ℕ) → CodeStands u code → IsInside code at → Pauses code at locals frame
    → z ≡ int_in v → to ≡ case_in code (point_in code at.point) z → to < length code.points.items → code.slots ≤ length slots → Stands u code (beginning code to) locals slots (frame_by_case u frame (int_in v))
choose_told u code frame at locals slots v z to stands inside pauses of is inner long =
    let same : to ≡ case_in code (point_in code at.point) (int_in v) = is ∙ ap (λ y. case_in code (point_in code at.point) y) of in
    subst (λ n. Stands u code (beginning code n) locals slots (frame_by_case u frame (int_in v))) (sym same)
    (chosen_told u code frame stands at inside.point u.layout refl locals pauses (int_in v) slots (subst (λ n. n < length code.points.items) same inner) long)
