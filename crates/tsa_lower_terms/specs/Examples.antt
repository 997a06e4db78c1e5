-- What is put for expressions as they are written.
use Rattle.std.specs.Prelude.{◌≡◌, ℕ, Bool, true, false, List, [], ◌∷◌, ◌++◌, Option, Some, None, codes}
use Rattle.tsa_base.specs.declared.value.Value.{Value}
use Rattle.tsa_base.specs.declared.value.Value.TheVariants as the
use Rattle.tsa_lex.specs.Quick.{quick_tokens_of}
use Rattle.tsa_tree.specs.declared.expr.BinaryOp.TheVariants.{Equal, Plus}
use Rattle.tsa_tree.specs.declared.expr.UnaryOp.TheVariants.{Not}
use Rattle.tsa_tree.specs.declared.kind.Kind.TheVariants as type
use Rattle.tsa_tree.specs.expressions.Syntax.{nowhere}
use Rattle.tsa_tree.specs.types.Scopes.{FunctionEntry}
use Rattle.tsa_tree.specs.types.Texts.{unit_in}
use Rattle.tsa_tree.specs.types.Units.{outset}
use Rattle.tsa_tree.specs.units.Syntax.{UnitItem}
use Rattle.tsa_types_row.specs.BodyRows.{row_in_body}
use Rattle.tsa_types_row.specs.declared.node.Node.{Node}
use Rattle.tsa_core.specs.Meanings.{Call}
use Rattle.tsa_core.specs.Programs.{Bodied, bodied_function, program_of}
use Rattle.tsa_core.specs.Terms.{variable, address, global}
use Rattle.tsa_sched.specs.declared.event.TrapKind.TheVariants.{NullPointer}
use Rattle.tsa_lower_code.specs.Codes.{height}
use Rattle.tsa_lower_code.specs.declared.instr.Instr.{Instr}
use Rattle.tsa_lower_code.specs.declared.instr.Instr.TheVariants.{Constant, Local, Answer, Member, Element, Follow, Load, Convert, Prefix}
use Rattle.tsa_lower_code.specs.declared.instr.Instr.TheVariants.{Join, Skip, Truth, Stop}
use Rattle.tsa_lower_terms.specs.Codes.{as_kind_at}
use Rattle.tsa_lower_terms.specs.Sources.{Source, call_in_part, place_at, sense_at, value_at}

-- A unit with a struct object `g` at place 0, a number `n` at place 3 and numbers `v` at places 4 and 5, whose function `h` of an integer, an
-- unsigned and a pointer begins with a statement.
abbrev unit_with : List ℕ → List UnitItem
unit_with statement = unit_in (quick_tokens_of (
    codes "struct s { int x; struct s *next; }; struct s g; int n; int v[2]; int f(int i, struct s *q); "
    ++ (codes "int h(int a, unsigned w, struct s *q) { " ++ (statement ++ codes " }"))))

abbrev row_by : Option Bodied → List Node
row_by None = []
row_by (Some b) = row_in_body b.here 1 b.body nowhere

abbrev functions_by : Option Bodied → List FunctionEntry
functions_by None = []
functions_by (Some b) = b.here.functions

abbrev source_by : Bool → List UnitItem → Option Bodied → Source
source_by is_answered items b = record {
  row = row_by b;
  functions = functions_by b;
  layout = (program_of items).layout;
  is_answered = is_answered;
}

abbrev source : Bool → List ℕ → Source
source is_answered statement = source_by is_answered (unit_with statement) (bodied_function (codes "h") (outset (unit_with statement)) (unit_with statement))

-- what is put for the value of a statement, whose node stands behind that of the point, and in a test behind the call that it makes
abbrev pub code_of : List ℕ → List Instr
code_of statement = value_at (source false statement) 1 1

abbrev pub answered_code : List ℕ → List Instr
answered_code statement = value_at (source true statement) 1 1

-- the code of what stands at a node, in a slot
abbrev pub code_at : (node slot : ℕ) → List ℕ → List Instr
code_at at k statement = value_at (source false statement) at k

abbrev pub place_code_at : (node slot : ℕ) → List ℕ → List Instr
place_code_at at k statement = place_at (source false statement) at k

-- the code of an integer where an `int` is wanted, the call of a statement, and how many slots its value uses
abbrev pub int_code : List ℕ → List Instr
int_code statement = as_kind_at (source false statement) type.Int 1 1

abbrev pub call_of : List ℕ → Option Call
call_of statement = call_in_part (source false statement) 1

abbrev pub height_of : List ℕ → ℕ
height_of statement = height (sense_at (source false statement) 1).term

abbrev to_place : ℕ → Value
to_place n = the.Pointer (Some n)

abbrev null : Value
null = the.Pointer None

pub record ExpressionsHaveTheirCode : Type 0 where
  pub sum : code_of (codes "a + n;") ≡ Local 1 0 ∷ Constant 2 (to_place 3) ∷ Load 2 2 ∷ Join 1 2 1 Plus ∷ []
  pub early : code_of (codes "a && n;") ≡ Local 1 0 ∷ Skip 1 false 3 ∷ Constant 1 (to_place 3) ∷ Load 1 1 ∷ Truth 1 ∷ []
  pub members : code_of (codes "q->next->x;") ≡ Local 1 2 ∷ Follow 1 ∷ Member 1 1 ∷ Load 1 1 ∷ Follow 1 ∷ Member 1 0 ∷ Load 1 1 ∷ []
  pub element : code_of (codes "v[w];") ≡ Constant 1 (to_place 4) ∷ Local 2 1 ∷ Element 1 ∷ Load 1 1 ∷ []
  pub null_behind : code_of (codes "q == 0;") ≡ Local 1 2 ∷ Constant 2 null ∷ Join 1 2 1 Equal ∷ []
  pub null_before : code_of (codes "0 == q;") ≡ Constant 1 null ∷ Local 2 2 ∷ Join 1 2 1 Equal ∷ []
  pub converted : int_code (codes "w;") ≡ Local 1 1 ∷ Convert 1 type.Int ∷ []
  pub set_place : place_code_at 1 2 (codes "v[a] = n;") ≡ Constant 2 (to_place 4) ∷ Local 3 0 ∷ Element 2 ∷ []
  pub set_value : code_at 4 1 (codes "v[a] = n;") ≡ Constant 1 (to_place 3) ∷ Load 1 1 ∷ []
  -- a call is made before its test, and its answer stands where it stood
  pub call : call_of (codes "if (!f(a, &g)) ;") ≡ Some (record { function = 0; args = variable 0 ∷ address (global 0) ∷ [] })
  pub argument : code_at 5 2 (codes "if (!f(a, &g)) ;") ≡ Constant 2 (to_place 0) ∷ []
  pub answered : answered_code (codes "if (!f(a, &g)) ;") ≡ Answer 1 ∷ Prefix 1 Not ∷ []
  pub unanswered : code_of (codes "if (!f(a, &g)) ;") ≡ Stop NullPointer ∷ Prefix 1 Not ∷ []
  -- a struct object has no value, and a node behind the last expression gives none
  pub structure : code_of (codes "g;") ≡ Stop NullPointer ∷ []
  pub past_it : code_at 2 1 (codes "g;") ≡ Constant 1 null ∷ []
  pub high : height_of (codes "a + v[a + n];") ≡ 4
