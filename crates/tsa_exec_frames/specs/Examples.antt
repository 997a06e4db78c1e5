-- Turns of frames in code, worked out: at the statement with which a function begins, and at a switch.
use Rattle.std.specs.Prelude.{◌≡◌, ℕ, ℤ, ◌+◌, ◌≤◌, pos, true, false, List, [], ◌∷◌, ◌++◌, length, map, replicate, Option, Some, None, codes}
use Rattle.tsa_base.specs.declared.value.Value.{Value}
use Rattle.tsa_base.specs.declared.value.Value.TheVariants.{Int}
use Rattle.tsa_core.specs.Bodies.{Point}
use Rattle.tsa_core.specs.Examples.{program}
use Rattle.tsa_core.specs.Programs.{Program}
use Rattle.tsa_place_model.specs.Calls.{Layout}
use Rattle.tsa_place_model.specs.Items.{zero_of}
use Rattle.tsa_rules.specs.Attributes.{declared_kinds}
use Rattle.tsa_rules.specs.Points.{function_at, point_at}
use Rattle.tsa_sched.specs.declared.event.EventKind.{EventKind}
use Rattle.tsa_sched.specs.declared.event.EventKind.TheVariants as event
use Rattle.tsa_sched.specs.declared.event.TrapKind.TheVariants as trap
use Rattle.tsa_mean.specs.Acts.{act_of}
use Rattle.tsa_mean.specs.Frames.{frame_by_case, frame_with_answer}
use Rattle.tsa_mean.specs.States.{Frame, State}
use Rattle.tsa_mean.specs.Steps.{int_in}
use Rattle.tsa_mean.specs.Working.{Locals}
use Rattle.tsa_lower_code.specs.PointCodes.{action_code, begin_code}
use Rattle.tsa_lower_code.specs.declared.instr.Instr.{Instr}
use Rattle.tsa_lower_pools.specs.Pools.{no_function, point_in}
use Rattle.tsa_lower_pools.specs.Units.{answer_use_of, CodeStands}
use Rattle.tsa_lower_pools.specs.declared.code.Case.{Case}
use Rattle.tsa_lower_pools.specs.declared.code.Code.{Code}
use Rattle.tsa_lower_pools.specs.declared.code.PointCode.{PointCode}
use Rattle.tsa_exec_frames.specs.Frames.{beginning, Pauses, Stands}
use Rattle.tsa_exec_frames.specs.Turning.{touched, TurnAnswers}
use Rattle.tsa_exec_frames.specs.declared.frame.Position.{Position}
use Rattle.tsa_exec_frames.specs.declared.turns.FrameTurn.{FrameTurn}
use Rattle.tsa_exec_frames.specs.declared.turns.FrameTurn.TheVariants.{Event, Trap, Request}
use Rattle.tsa_exec_frames.specs.declared.turns.Touch.{Touch}

-- A unit with a number `g` at place 0, numbers `a` at places 1 and 2, and a function `h` of the environment; function 1 begins with the
-- statement.
abbrev pub unit_of : (statement : List ℕ) → Program
unit_of statement = program (codes "int g; int a[2]; int h(int k); void w(int i, int j) { " ++ (statement ++ codes " }"))

-- a point of that function, its code from the beginning on, and behind its call
abbrev pub point_of_w : Program → ℕ → Point
point_of_w u p = point_at (function_at u 1) p

abbrev pub begin_of : Program → ℕ → List Instr
begin_of u p = begin_code u (point_of_w u p) (point_of_w u p).call

abbrev pub rest_of : Program → ℕ → List Instr
rest_of u p = action_code u.layout true (point_of_w u p).action

abbrev pub zeros_of : Program → List Value
zeros_of u = map zero_of (declared_kinds (function_at u 1).body)

-- a point's code, where that begins at a number and each way but on and to what is left leads back to it
abbrev pub code_from : Program → (point entry next rest : ℕ) → List Case → PointCode
code_from u p entry next rest cases = record {
  function = 1;
  point = p;
  entry = entry;
  behind_call = entry + length (begin_of u p);
  answer_use = answer_use_of (point_of_w u p).action;
  next = next;
  yes = p;
  no = p;
  rest = rest;
  cases = record { from = 0; end = length cases };
}

-- code of a function whose points are these, over four slots
pub record IsCodeOf (u : Program) (instrs : List Instr) (points : List PointCode) (cases : List Case) (code : Code) : Type 0 where
  pub instrs_are : code.instrs.items ≡ instrs
  pub points_are : code.points.items ≡ points
  pub cases_are : code.cases.items ≡ cases
  pub functions_are : code.functions.items ≡ no_function ∷ record { first = 0; zeros = record { from = 0; end = length (zeros_of u) } } ∷ []
  pub zeros_are : code.zeros.items ≡ zeros_of u
  pub slots_are : code.slots ≡ 4

-- of a statement that is one point, which leads to the end
abbrev pub second_entry : Program → ℕ
second_entry u = length (begin_of u 0) + length (rest_of u 0)

abbrev pub statement_instrs : Program → List Instr
statement_instrs u = begin_of u 0 ++ (rest_of u 0 ++ (begin_of u 1 ++ rest_of u 1))

abbrev pub statement_points : Program → List PointCode
statement_points u = code_from u 0 0 1 0 [] ∷ code_from u 1 (second_entry u) 1 1 [] ∷ []

abbrev pub IsStatementCode : Program → Code → Type 0
IsStatementCode u code = IsCodeOf u (statement_instrs u) (statement_points u) [] code

-- of a switch with one case, which is a point that leads to the end
abbrev pub third_entry : Program → ℕ
third_entry u = second_entry u + (length (begin_of u 1) + length (rest_of u 1))

abbrev pub switch_instrs : Program → List Instr
switch_instrs u = begin_of u 0 ++ (rest_of u 0 ++ (begin_of u 1 ++ (rest_of u 1 ++ (begin_of u 2 ++ rest_of u 2))))

abbrev pub one_case : ℤ → List Case
one_case z = record { value = z; to = 1 } ∷ []

abbrev pub switch_points : Program → ℤ → List PointCode
switch_points u z = code_from u 0 0 0 2 (one_case z) ∷ code_from u 1 (second_entry u) 2 1 [] ∷ code_from u 2 (third_entry u) 2 2 [] ∷ []

abbrev pub IsSwitchCode : Program → ℤ → Code → Type 0
IsSwitchCode u z code = IsCodeOf u (switch_instrs u) (switch_points u z) (one_case z) code

-- A frame in code with the slots of its thread and the store, as it begins with that function.
pub record FrameState : Type 0 where
  pub at : Position
  pub locals : Locals
  pub slots : List Value
  pub store : List Value

abbrev pub int : ℕ → Value
int n = Int (pos n)

abbrev pub begun : Code → Locals → (store : List Value) → FrameState
begun code locals store = record { at = beginning code 0; locals = locals; slots = replicate 4 (int 0); store = store }

-- what the clauses of a turn, of an answer, of a choice and of a touch say of the frame before and after
abbrev pub IsTurn : Layout → Code → FrameState → FrameTurn → FrameState → Type 0
IsTurn l code old turn new = (u : Program) (s : State) (t : ℕ) (z : ℤ) (top : Frame) (below : List Frame) → u.layout ≡ l → CodeStands u code
    → s.store ≡ old.store → Stands u code old.at old.locals old.slots top → TurnAnswers u code s t z top below turn new.at new.locals new.slots new.store

abbrev pub IsAnswer : Layout → Code → FrameState → Value → FrameState → Type 0
IsAnswer l code old value new = (u : Program) (top : Frame) → u.layout ≡ l → CodeStands u code → Pauses code old.at old.locals top
    → Stands u code new.at new.locals new.slots (frame_with_answer u top value)

abbrev pub IsChoice : Code → FrameState → Value → FrameState → Type 0
IsChoice code old value new = (u : Program) (top : Frame) (slots : List Value) → CodeStands u code → code.slots ≤ length slots
    → Pauses code old.at old.locals top → Stands u code new.at new.locals slots (frame_by_case u top (int_in value))

abbrev pub IsTouch : Layout → Code → FrameState → Option Touch → FrameState → Type 0
IsTouch l code old touch new = (u : Program) (top : Frame) → u.layout ≡ l → Stands u code old.at old.locals old.slots top
    → (touch ≡ touched (act_of u top)) × Stands u code new.at new.locals new.slots top

-- what is told of a turn; a request isn't told yet
abbrev pub told_of : FrameTurn → Option EventKind
told_of (Event kind) = Some kind
told_of (Trap kind) = Some (event.Trap kind)
told_of (Request r) = None

-- One turn of a frame that begins, and two of them, whatever code with these pools it is: no other event, locals and store come of them.
abbrev pub FirstTold : (statement : List ℕ) → Locals → (store : List Value) → EventKind → Type 0
FirstTold statement locals store kind = (code : Code) → IsStatementCode (unit_of statement) code → (new : FrameState) (turn : FrameTurn)
    → IsTurn (unit_of statement).layout code (begun code locals store) turn new → told_of turn ≡ Some kind

pub record Ends (turn : FrameTurn) (new : FrameState) (kind : EventKind) (locals : Locals) (store : List Value) : Type 0 where
  pub told : told_of turn ≡ Some kind
  pub locals_are : new.locals ≡ locals
  pub store_is : new.store ≡ store

abbrev pub Second : (statement : List ℕ) → Locals → (store : List Value) → (FrameTurn → FrameState → Type 0) → Type 0
Second statement locals store Is = (code : Code) → IsStatementCode (unit_of statement) code → (mid new : FrameState) (first second : FrameTurn)
    → IsTurn (unit_of statement).layout code (begun code locals store) first mid → IsTurn (unit_of statement).layout code mid second new → Is second new

-- at which point a frame is, and with which locals
pub record Arrives (code : Code) (new : FrameState) (point : ℕ) (locals : Locals) : Type 0 where
  pub point_is : (point_in code new.at.point).point ≡ point
  pub locals_are : new.locals ≡ locals

abbrev pub Answered : (statement : List ℕ) → Locals → Value → (point : ℕ) → Locals → Type 0
Answered statement locals value point after = (code : Code) → IsStatementCode (unit_of statement) code → (new : FrameState)
    → IsAnswer (unit_of statement).layout code (begun code locals []) value new → Arrives code new point after

abbrev pub Chosen : (statement : List ℕ) → ℤ → Locals → Value → (point : ℕ) → Type 0
Chosen statement z locals value point = (code : Code) → IsSwitchCode (unit_of statement) z code → (new : FrameState)
    → IsChoice code (begun code locals []) value new → Arrives code new point locals

abbrev pub Touched : (statement : List ℕ) → Locals → Option Touch → Type 0
Touched statement locals cell = (code : Code) → IsStatementCode (unit_of statement) code → (new : FrameState) (touch : Option Touch)
    → IsTouch (unit_of statement).layout code (begun code locals []) touch new → touch ≡ cell

abbrev pub locals_of : ℕ → ℕ → Locals
locals_of i j = int i ∷ int j ∷ []

abbrev pub stored : ℕ → ℕ → ℕ → List Value
stored g x y = int g ∷ int x ∷ int y ∷ []

pub record TurnsAreAsWritten : Type 0 where
  -- a cell is read in one turn, and another written in the next
  pub reads : FirstTold (codes "g = a[i];") (locals_of 1 0) (stored 5 6 7) (event.Read 2 (int 7))
  pub then_writes : Second (codes "g = a[i];") (locals_of 1 0) (stored 5 6 7) (λ turn new. Ends turn new (event.Write 0 (int 7)) (locals_of 1 0) (stored 7 6 7))
  pub touches_what_it_reads : Touched (codes "g = a[i];") (locals_of 1 0) (Some (record { place = 2; is_write = false }))
  pub no_element : FirstTold (codes "a[i] = 1;") (locals_of 2 0) (stored 5 6 7) (event.Trap trap.OutOfRange)
  -- `&&` asks its right side where the left one isn't 0
  pub left_side_alone : Second (codes "i = g && 10 / j;") (locals_of 7 0) (stored 0 6 7) (λ turn new. Ends turn new event.Stepped (locals_of 0 0) (stored 0 6 7))
  pub right_side_traps : Second (codes "i = g && 10 / j;") (locals_of 7 0) (stored 5 6 7) (λ turn new. told_of turn ≡ Some (event.Trap trap.Division))
  -- the answer of a call sets a local in the same turn
  pub answer_sets : Answered (codes "int x = h(i) + 1;") (int 7 ∷ int 0 ∷ int 0 ∷ []) (int 41) 1 (int 7 ∷ int 0 ∷ int 42 ∷ [])
  -- a switch goes to the case of its value, else to what is left
  pub case_chosen : Chosen (codes "switch (i) { case 3: g = 1; }") (pos 3) (locals_of 3 0) (int 3) 1
  pub rest_chosen : Chosen (codes "switch (i) { case 3: g = 1; }") (pos 3) (locals_of 4 0) (int 4) 2
