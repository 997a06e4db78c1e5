-- The code of statements as they are written, and what is still to come of it.
use Rattle.std.specs.Prelude.{◌≡◌, ℕ, pos, true, false, Some, List, [], ◌∷◌, replicate, codes}
use Rattle.tsa_base.specs.declared.value.Value.{Value}
use Rattle.tsa_base.specs.declared.value.Value.TheVariants as the
use Rattle.tsa_tree.specs.declared.attr.AttrKind.TheVariants as attr
use Rattle.tsa_tree.specs.declared.expr.BinaryOp.TheVariants as op
use Rattle.tsa_tree.specs.declared.kind.Kind.TheVariants as type
use Rattle.tsa_core.specs.Bodies.{Point}
use Rattle.tsa_core.specs.Examples.{program}
use Rattle.tsa_core.specs.Programs.{Program}
use Rattle.tsa_rules.specs.Points.{function_at, point_at}
use Rattle.tsa_sched.specs.declared.event.TrapKind.TheVariants.{Division, OutOfRange}
use Rattle.tsa_mean.specs.Acts.{to_write, to_set}
use Rattle.tsa_mean.specs.Outs.{traps, yields}
use Rattle.tsa_lower_going.specs.Examples.{Course, course, reading, unit_with, with_null}
use Rattle.tsa_lower_code.specs.Codes.{going}
use Rattle.tsa_lower_code.specs.PointCodes.{action_code, begin_code, point_height}
use Rattle.tsa_lower_code.specs.declared.instr.Instr.{Instr}
use Rattle.tsa_lower_code.specs.declared.instr.Instr.TheVariants.{Constant, Local, Answer, Element, Follow, Load, Convert, Join, Skip}
use Rattle.tsa_lower_code.specs.declared.instr.Instr.TheVariants.{Truth, End}
use Rattle.tsa_lower_code.specs.declared.instr.Ending.TheVariants.{Set, Write, Enter, Lock, Ask}

-- the first point of a function, and its code
abbrev first_point : Program → (function : ℕ) → Point
first_point u f = point_at (function_at u f) 0

abbrev pub code_at : Program → Point → List Instr
code_at u p = begin_code u p p.call

abbrev pub code_of : (statement : List ℕ) → List Instr
code_of statement = code_at (unit_with statement) (first_point (unit_with statement) 2)

abbrev pub height_of : (statement : List ℕ) → ℕ
height_of statement = point_height (first_point (unit_with statement) 2) (first_point (unit_with statement) 2).call

-- the course of a statement's code over four slots, where `i` and `j` have these values and reads give those
abbrev pub code_course : (statement : List ℕ) → (i j : ℕ) → (given : List Value) → Course
code_course statement i j given =
    course (going (unit_with statement).layout (with_null i j) 0 (code_of statement) (replicate 4 (the.Int (pos 0)))) given

abbrev int : ℕ → Value
int n = the.Int (pos n)

abbrev to_place : ℕ → Value
to_place n = the.Pointer (Some n)

-- a call of the environment: function 0, which function 1 asks
abbrev asking : Program
asking = program (codes "int h(int k); int g; void w(int i) { i = h(g); }")

pub record CodeIsAsWritten : Type 0 where
  pub early : code_of (codes "i = g && 10 / j;") ≡
      Constant 1 (to_place 2) ∷ Load 1 1 ∷ Skip 1 false 4
      ∷ Constant 1 (int 10) ∷ Local 2 1 ∷ Join 1 2 1 op.Divide ∷ Truth 1 ∷ End (Set 0 1) ∷ []
  pub assignment : code_of (codes "a[i] += g;") ≡
      Constant 1 (to_place 2) ∷ Load 1 1 ∷ Constant 2 (to_place 3) ∷ Local 3 0 ∷ Element 2
      ∷ Load 2 3 ∷ Join 3 1 1 op.Plus ∷ Convert 1 type.Int ∷ End (Write 1) ∷ []
  pub high : height_of (codes "a[i] += g;") ≡ 4
  pub lock : code_of (codes "acq(&mu);") ≡ Constant 1 (to_place 0) ∷ Follow 1 ∷ End (Lock attr.Acquire false 1 0 type.Void) ∷ []
  pub body : code_of (codes "w(i, j, p);") ≡ Local 1 0 ∷ Local 2 1 ∷ Local 3 2 ∷ End (Enter 2 1 3) ∷ []
  pub question : code_at asking (first_point asking 1) ≡ Constant 1 (to_place 0) ∷ Load 1 1 ∷ End (Ask 0 type.Int) ∷ []
  pub behind_it : action_code asking.layout true (first_point asking 1).action ≡ Answer 1 ∷ End (Set 0 1) ∷ []
  -- what is still to come of it
  pub both_sides : code_course (codes "i = g && 10 / j;") 7 2 (int 5 ∷ []) ≡ reading (2 ∷ []) (yields (to_set 0 (int 1)))
  pub left_side_alone : code_course (codes "i = g && 10 / j;") 7 0 (int 0 ∷ []) ≡ reading (2 ∷ []) (yields (to_set 0 (int 0)))
  pub right_side_traps : code_course (codes "i = g && 10 / j;") 7 0 (int 5 ∷ []) ≡ reading (2 ∷ []) (traps Division)
  pub old_value : code_course (codes "a[i] += g;") 1 0 (int 30 ∷ int 12 ∷ []) ≡ reading (2 ∷ 4 ∷ []) (yields (to_write 4 (int 42)))
  pub no_element : code_course (codes "a[i] += g;") 2 0 (int 30 ∷ []) ≡ reading (2 ∷ []) (traps OutOfRange)
