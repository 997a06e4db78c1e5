-- What is put for the points of statements as they are written.
use Rattle.std.specs.Prelude.{◌≡◌, ℕ, pos, false, List, [], ◌∷◌, ◌++◌, map, Option, Some, None, codes}
use Rattle.tsa_base.specs.declared.value.Value.{Value}
use Rattle.tsa_base.specs.declared.value.Value.TheVariants as the
use Rattle.tsa_lex.specs.Quick.{quick_tokens_of}
use Rattle.tsa_tree.specs.declared.attr.AttrKind.TheVariants as attr
use Rattle.tsa_tree.specs.declared.expr.BinaryOp.TheVariants.{Divide, Plus}
use Rattle.tsa_tree.specs.declared.kind.Kind.TheVariants as type
use Rattle.tsa_tree.specs.expressions.Syntax.{nowhere}
use Rattle.tsa_tree.specs.types.Scopes.{FunctionEntry}
use Rattle.tsa_tree.specs.types.Texts.{unit_in}
use Rattle.tsa_tree.specs.types.Units.{outset}
use Rattle.tsa_tree.specs.units.Syntax.{UnitItem}
use Rattle.tsa_types_row.specs.BodyRows.{row_in_body}
use Rattle.tsa_types_row.specs.declared.node.Node.{Node}
use Rattle.tsa_core.specs.Programs.{Bodied, bodied_function, program_of}
use Rattle.tsa_mean.specs.Texts.{a_lock}
use Rattle.tsa_lower_code.specs.declared.instr.Instr.{Instr}
use Rattle.tsa_lower_code.specs.declared.instr.Instr.TheVariants.{Constant, Local, Answer, Element, Follow, Load, Convert, Join, Skip, Truth}
use Rattle.tsa_lower_code.specs.declared.instr.Instr.TheVariants.{End}
use Rattle.tsa_lower_code.specs.declared.instr.Ending.TheVariants.{Step, Set, Write, Branch, Leave, Enter, Lock}
use Rattle.tsa_lower_points.specs.Actions.{PointNode}
use Rattle.tsa_lower_points.specs.Callees.{callee_of}
use Rattle.tsa_lower_points.specs.Points.{begin_of, height_of, node_at, rest_of}
use Rattle.tsa_lower_points.specs.declared.callee.Callee.{Callee}
use Rattle.tsa_lower_terms.specs.Sources.{Source}

-- A unit with a lock `mu` at place 0, a number `g` at place 2, and numbers `a` at places 3 and 4; its function `w`, which has number 2, begins
-- with the statement.
abbrev unit_with : List ℕ → List UnitItem
unit_with statement = unit_in (quick_tokens_of (a_lock ++ (codes "int a[2]; void w(int i, int j, struct lock *p) { " ++ (statement ++ codes " }"))))

abbrev row_by : Option Bodied → List Node
row_by None = []
row_by (Some b) = row_in_body b.here 2 b.body nowhere

abbrev functions_by : Option Bodied → List FunctionEntry
functions_by None = []
functions_by (Some b) = b.here.functions

abbrev source_by : List UnitItem → Option Bodied → Source
source_by items b = record { row = row_by b; functions = functions_by b; layout = (program_of items).layout; is_answered = false }

abbrev source : List ℕ → Source
source statement = source_by (unit_with statement) (bodied_function (codes "w") (outset (unit_with statement)) (unit_with statement))

-- the first point of the function, with the functions that it may call
abbrev first_node : Source → List Node → Option PointNode
first_node s [] = None
first_node s (n ∷ rest) = Some (node_at s type.Void n 1)

abbrev first_of : List ℕ → Option PointNode
first_of statement = first_node (source statement) (source statement).row

abbrev callees : List ℕ → List Callee
callees statement = map callee_of (program_of (unit_with statement)).functions

-- what is put for it at its beginning and behind its call, and how many slots that uses
abbrev begin_by : List Callee → Option PointNode → List Instr
begin_by known None = []
begin_by known (Some p) = begin_of known p

abbrev rest_by : Option PointNode → List Instr
rest_by None = []
rest_by (Some p) = rest_of p

abbrev height_by : Option PointNode → ℕ
height_by None = 0
height_by (Some p) = height_of p

abbrev pub begin_code_of : List ℕ → List Instr
begin_code_of statement = begin_by (callees statement) (first_of statement)

abbrev pub rest_code_of : List ℕ → List Instr
rest_code_of statement = rest_by (first_of statement)

abbrev pub slots_of : List ℕ → ℕ
slots_of statement = height_by (first_of statement)

abbrev int : ℕ → Value
int n = the.Int (pos n)

abbrev to_place : ℕ → Value
to_place n = the.Pointer (Some n)

pub record PointsHaveCodeAsWritten : Type 0 where
  pub early : begin_code_of (codes "i = g && 10 / j;") ≡
      Constant 1 (to_place 2) ∷ Load 1 1 ∷ Skip 1 false 4
      ∷ Constant 1 (int 10) ∷ Local 2 1 ∷ Join 1 2 1 Divide ∷ Truth 1 ∷ End (Set 0 1) ∷ []
  pub local_joined : begin_code_of (codes "i += j;") ≡ Local 1 1 ∷ Local 2 0 ∷ Join 2 1 1 Plus ∷ Convert 1 type.Int ∷ End (Set 0 1) ∷ []
  pub cell_joined : begin_code_of (codes "a[i] += g;") ≡
      Constant 1 (to_place 2) ∷ Load 1 1 ∷ Constant 2 (to_place 3) ∷ Local 3 0 ∷ Element 2
      ∷ Load 2 3 ∷ Join 3 1 1 Plus ∷ Convert 1 type.Int ∷ End (Write 1) ∷ []
  pub high : slots_of (codes "a[i] += g;") ≡ 4
  pub lock : begin_code_of (codes "acq(&mu);") ≡ Constant 1 (to_place 0) ∷ Follow 1 ∷ End (Lock attr.Acquire false 1 0 type.Void) ∷ []
  pub behind_lock : rest_code_of (codes "acq(&mu);") ≡ Answer 1 ∷ End Step ∷ []
  pub body : begin_code_of (codes "w(i, j, p);") ≡ Local 1 0 ∷ Local 2 1 ∷ Local 3 2 ∷ End (Enter 2 1 3) ∷ []
  pub declared : begin_code_of (codes "int k = i;") ≡ Local 1 0 ∷ End (Set 3 1) ∷ []
  pub zero : begin_code_of (codes "int k;") ≡ Constant 1 (int 0) ∷ End (Set 3 1) ∷ []
  pub tested : begin_code_of (codes "if (i) ;") ≡ Local 1 0 ∷ End (Branch 1) ∷ []
  pub untested : begin_code_of (codes "for (;;) ;") ≡ Constant 1 (int 1) ∷ End (Branch 1) ∷ []
  pub jump : begin_code_of (codes ";") ≡ End Step ∷ []
  pub end : begin_code_of (codes "") ≡ Constant 1 (the.Pointer None) ∷ End (Leave 1) ∷ []
