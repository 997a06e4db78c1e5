-- What is wrong with assignments, tests and values, by what their expressions were found to be.
use Rattle.std.proofs.Common.{◌≡◌, ◌∙◌, ℕ, Bool, true, false, not, ◌||◌, List, [], ◌∷◌, ◌++◌, Option, Some, None, option_map, Result, Ok}
use Rattle.std.proofs.Common.{Err, refl, sym, ap, if◌then◌else◌}
use Rattle.std.specs.Borrow.{Bor}
use Rattle.std.specs.Result.{result_err}
use Rattle.tsa_base.specs.declared.token.Span.{Span}
use Rattle.tsa_tree.specs.declared.decl.Decl.{Decl}
use Rattle.tsa_tree.specs.declared.expr.BinaryOp.{BinaryOp}
use Rattle.tsa_tree.specs.declared.expr.Expr.{Expr}
use Rattle.tsa_tree.specs.declared.expr.Name.{Name}
use Rattle.tsa_tree.specs.declared.kind.ExpressionType.{ExpressionType}
use Rattle.tsa_tree.specs.declared.kind.ThingType.{ThingType}
use Rattle.tsa_tree.specs.declared.premise.Failure.{Failure}
use Rattle.tsa_tree.specs.declared.premise.TypeCode.{TypeCode}
use Rattle.tsa_tree.specs.declared.premise.TypeCode.TheVariants.{TY3, TY5, TY8}
use Rattle.tsa_tree.specs.declared.stmt.StmtKind.{StmtKind, None', Some'}
use Rattle.tsa_tree.specs.declared.stmt.StmtKind.TheVariants as kind
use Rattle.tsa_tree.specs.expressions.Syntax.{Expression}
use Rattle.tsa_tree.specs.expressions.Shapes.{shape}
use Rattle.tsa_tree.specs.points.Syntax.{expression_span}
use Rattle.tsa_tree.specs.statements.Shapes.{stmt_shape, init_of, step_of}
use Rattle.tsa_tree.specs.types.Expressions.{type_of, premises_of}
use Rattle.tsa_tree.specs.types.Known.{Context}
use Rattle.tsa_tree.specs.types.Operands.{lacks, goes_to}
use Rattle.tsa_tree.specs.types.Premises.{Premise, premise, or_else, first}
use Rattle.tsa_tree.specs.types.Scopes.{Scope}
use Rattle.tsa_tree.specs.types.Simple.{assignment_breaks, is_written_to, written_type, assignment_premises, tested, tested_premises}
use Rattle.tsa_tree.specs.types.Simple.{is_void, return_premises}
use Rattle.tsa_tree.specs.types.Statements.{Around, leaf_premises, init_premises, step_premises, behind_init, is_again}
use Rattle.tsa_types_row.specs.BodyRows.{row_in_leaf, row_in_step, row_in_for_init}
use Rattle.tsa_types_expressions.specs.declared.constants.Found.{Found}
use Rattle.tsa_types_expressions.specs.Found.{constant_in, found_in}
use Rattle.tsa_types_expressions.specs.Parts.{found_thing}
use Rattle.tsa_types_expressions.specs.Verdicts.{at, verdict_of}
use Rattle.tsa_types_expressions.proofs.FoundLaws.{thing_same, err_same}
use Rattle.tsa_types_expressions.proofs.LengthLaws.{shape_span}
use Rattle.tsa_types_expressions.proofs.Steps.{alike, found_is, first_append, own}
use Rattle.tsa_types_expressions.proofs.Walk.{failed_is, or_nothing}
use Rattle.tsa_types_simple.specs.Leaves.{alone_premises, alone_nodes}
use Rattle.tsa_types_simple.specs.Simple.{written_by, assigned, passes, returned}
use Rattle.tsa_types_simple.specs.declared.verdicts.Target.{Target}

pub own_first : (b : Bool) (code : TypeCode) (s : Span) (rest : List Premise) → first (premise code s b ∷ rest) ≡ or_else (own b code s) (first rest)
unfolding first
own_first b code s rest = refl

module _ (c : Context) where
  -- what fails in an expression
  pub err_is : (e : Expression) → result_err (found_in c e) ≡ first (premises_of c e)
  unfolding found_in verdict_of
  err_is e = err_same (constant_in c e) (verdict_of c e) ∙ failed_is (first (premises_of c e)) (type_of c e) (alike c e)

  pub thing_is : (e : Expression) → type_of c e ≡ found_thing (found_in c e)
  unfolding found_in
  thing_is e = found_is c e ∙ thing_same (constant_in c e) (verdict_of c e)

  -- a test by itself, and with what fails inside it
  by_test : (test : ExpressionType → Bool) (span : Span) (r : Result Found Failure) → own (lacks test (found_thing r)) TY3 span ≡ passes test span r
  by_test test span (Err failure) = refl
  by_test test span (Ok f) = turned (test f.thing)
    where
      turned : (b : Bool) → own (not b) TY3 span ≡ (if b then None else Some (at TY3 span))
      turned true = refl
      turned false = refl

  own_passes : (test : ExpressionType → Bool) (span : Span) (e : Expression) → own (lacks test (type_of c e)) TY3 span ≡ passes test span (found_in c e)
  own_passes test span e = ap (λ t. own (lacks test t) TY3 span) (thing_is e) ∙ by_test test span (found_in c e)

  pub tested_is : (test : ExpressionType → Bool) (span : Span) (e : Expression)
      → or_else (passes test span (found_in c e)) (result_err (found_in c e)) ≡ first (tested_premises c test span e)
  unfolding tested_premises
  tested_is test span e =
      sym (own_first (lacks test (type_of c e)) TY3 span (premises_of c e)
      ∙ ap (λ o. or_else o (first (premises_of c e))) (own_passes test span e)
      ∙ ap (or_else (passes test span (found_in c e))) (sym (err_is e)))

  pub alone_is : (test : ExpressionType → Bool) (span : Span) (e : Expression) → passes test span (found_in c e) ≡ first (tested c test span e ∷ [])
  unfolding first
  alone_is test span e = sym (own_passes test span e) ∙ sym (or_nothing (own (lacks test (type_of c e)) TY3 span))

  -- assignments
  by_left : (b : Bool) (span place : Span) (left : Result Found Failure) (right : Option Failure)
      → or_else (own b TY3 span) (or_else (result_err left) (or_else (own (lacks is_written_to (found_thing left)) TY5 place) right))
      ≡ (if b then Some (at TY3 span) else written_by place left right)
  by_left true span place left right = refl
  by_left false span place (Err failure) right = refl
  by_left false span place (Ok f) right = turned (is_written_to f.thing)
    where
      turned : (b : Bool) → or_else (own (not b) TY5 place) right ≡ (if b then right else Some (at TY5 place))
      turned true = refl
      turned false = refl

  pub assignment_is : (left : Expr) (op : Option BinaryOp) (right : Expression) (span : Span) (target : Target) → target.span ≡ left.span → target.found ≡ found_in c (shape left)
      → assigned op span target (found_in c right) ≡ first (assignment_premises c (shape left) op right span)
  unfolding assignment_premises
  assignment_is left op right span target place is =
      let b = assignment_breaks op (written_type (type_of c (shape left))) (type_of c right) in
      let w = lacks is_written_to (type_of c (shape left)) in
      ap (λ s. if assignment_breaks op (written_type (found_thing target.found)) (found_thing (found_in c right)) then Some (at TY3 span) else written_by s target.found (result_err (found_in c right))) place
      ∙ ap (λ r. if assignment_breaks op (written_type (found_thing r)) (found_thing (found_in c right)) then Some (at TY3 span) else written_by left.span r (result_err (found_in c right))) is
      ∙ sym (own_first b TY3 span (premises_of c (shape left) ++ premise TY5 (expression_span (shape left)) w ∷ premises_of c right)
      ∙ ap (or_else (own b TY3 span)) (first_append (premises_of c (shape left)) (premise TY5 (expression_span (shape left)) w ∷ premises_of c right)
      ∙ ap (or_else (first (premises_of c (shape left)))) (own_first w TY5 (expression_span (shape left)) (premises_of c right)))
      ∙ ap (λ x. or_else (own b TY3 span) (or_else x (or_else (own w TY5 (expression_span (shape left))) (first (premises_of c right))))) (sym (err_is (shape left)))
      ∙ ap (λ x. or_else (own b TY3 span) (or_else (result_err (found_in c (shape left))) (or_else (own w TY5 (expression_span (shape left))) x))) (sym (err_is right))
      ∙ ap (λ s. or_else (own b TY3 span) (or_else (result_err (found_in c (shape left))) (or_else (own w TY5 s) (result_err (found_in c right))))) (shape_span left)
      ∙ ap (λ t. or_else (own (assignment_breaks op (written_type t) (type_of c right)) TY3 span) (or_else (result_err (found_in c (shape left)))
      (or_else (own (lacks is_written_to t) TY5 left.span) (result_err (found_in c right))))) (thing_is (shape left))
      ∙ ap (λ t. or_else (own (assignment_breaks op (written_type (found_thing (found_in c (shape left)))) t) TY3 span) (or_else (result_err (found_in c (shape left)))
      (or_else (own (lacks is_written_to (found_thing (found_in c (shape left)))) TY5 left.span) (result_err (found_in c right))))) (thing_is right)
      ∙ by_left (assignment_breaks op (written_type (found_thing (found_in c (shape left)))) (found_thing (found_in c right))) span left.span (found_in c (shape left)) (result_err (found_in c right)))

  -- returns
  turned : (b : Bool) (span : Span) → or_else (own (not b) TY8 span) None ≡ (if b then None else Some (at TY8 span))
  turned true span = refl
  turned false span = refl

  by_void : (gives : ThingType) (span : Span) (v : Bool) (r : Result Found Failure) → is_void gives ≡ v
      → or_else (own (v || lacks (λ t. goes_to t gives) (found_thing r)) TY8 span) (result_err r) ≡ returned gives span (Some r)
  by_void gives span true (Ok f) h = rw h refl
  by_void gives span true (Err failure) h = rw h refl
  by_void gives span false (Err failure) h = rw h refl
  by_void gives span false (Ok f) h = rw h (turned (goes_to f.thing gives) span)

  pub return_is : (gives : ThingType) (span : Span) (e : Option Expression)
      → returned gives span (option_map (found_in c) e) ≡ first (return_premises c gives e span)
  unfolding return_premises first
  return_is gives span None = sym (turned (is_void gives) span)
  return_is gives span (Some e) =
      sym (ap (λ o. or_else (own (is_void gives || lacks (λ t. goes_to t gives) (type_of c e)) TY8 span) o) (sym (err_is e))
      ∙ ap (λ t. or_else (own (is_void gives || lacks (λ t. goes_to t gives) t) TY8 span) (result_err (found_in c e))) (thing_is e)
      ∙ by_void gives span (is_void gives) (found_in c e) refl)

-- The third part of a `for`, and the first one that is no local, are such a statement alone.
module _ (here : Scope) (function : ℕ) (span : Span) where
  pub step_alone : (k : StmtKind) → (step_premises here (step_of k span) ≡ alone_premises here (stmt_shape k span)) × (row_in_step here function (step_of k span) ≡ alone_nodes here function (stmt_shape k span))
  step_alone (kind.Block' p n row) = (refl, refl)
  step_alone kind.Empty = (refl, refl)
  step_alone (kind.Local d) = (refl, refl)
  step_alone (kind.Eval x) = (refl, refl)
  step_alone (kind.Assign x op y) = (refl, refl)
  step_alone (kind.If' test p arm point arm_span None') = (refl, refl)
  step_alone (kind.If' test p arm point arm_span (Some' q k i other_span)) = (refl, refl)
  step_alone (kind.While' test p body point body_span) = (refl, refl)
  step_alone (kind.DoWhile' p body point body_span test) = (refl, refl)
  step_alone (kind.For' init test step p body point body_span) = (refl, refl)
  step_alone (kind.Switch' x p body point body_span) = (refl, refl)
  step_alone (kind.Case' x p body point body_span) = (refl, refl)
  step_alone (kind.Otherwise' p body point body_span) = (refl, refl)
  step_alone (kind.Label' x p body point body_span) = (refl, refl)
  step_alone kind.Break = (refl, refl)
  step_alone kind.Continue = (refl, refl)
  step_alone (kind.Goto x) = (refl, refl)
  step_alone (kind.Return x) = (refl, refl)

  pub init_alone : (k : StmtKind) → ((d : Bor Decl) → k ≡ kind.Local d → ⊥)
      → (init_premises here (init_of k span) ≡ alone_premises here (stmt_shape k span)) × (row_in_for_init here function (init_of k span) ≡ alone_nodes here function (stmt_shape k span))
  init_alone (kind.Block' p n row) l = (refl, refl)
  init_alone kind.Empty l = (refl, refl)
  init_alone (kind.Local d) l = absurd (l d refl)
  init_alone (kind.Eval x) l = (refl, refl)
  init_alone (kind.Assign x op y) l = (refl, refl)
  init_alone (kind.If' test p arm point arm_span None') l = (refl, refl)
  init_alone (kind.If' test p arm point arm_span (Some' q k i other_span)) l = (refl, refl)
  init_alone (kind.While' test p body point body_span) l = (refl, refl)
  init_alone (kind.DoWhile' p body point body_span test) l = (refl, refl)
  init_alone (kind.For' init test step p body point body_span) l = (refl, refl)
  init_alone (kind.Switch' x p body point body_span) l = (refl, refl)
  init_alone (kind.Case' x p body point body_span) l = (refl, refl)
  init_alone (kind.Otherwise' p body point body_span) l = (refl, refl)
  init_alone (kind.Label' x p body point body_span) l = (refl, refl)
  init_alone kind.Break l = (refl, refl)
  init_alone kind.Continue l = (refl, refl)
  init_alone (kind.Goto x) l = (refl, refl)
  init_alone (kind.Return x) l = (refl, refl)

  pub init_silent : (k : StmtKind) → ((d : Bor Decl) → k ≡ kind.Local d → ⊥) → (is_again here (init_of k span) ≡ false) × (behind_init here (init_of k span) ≡ here)
  init_silent (kind.Block' p n row) l = (refl, refl)
  init_silent kind.Empty l = (refl, refl)
  init_silent (kind.Local d) l = absurd (l d refl)
  init_silent (kind.Eval x) l = (refl, refl)
  init_silent (kind.Assign x op y) l = (refl, refl)
  init_silent (kind.If' test p arm point arm_span other) l = (refl, refl)
  init_silent (kind.While' test p body point body_span) l = (refl, refl)
  init_silent (kind.DoWhile' p body point body_span test) l = (refl, refl)
  init_silent (kind.For' init test step p body point body_span) l = (refl, refl)
  init_silent (kind.Switch' x p body point body_span) l = (refl, refl)
  init_silent (kind.Case' x p body point body_span) l = (refl, refl)
  init_silent (kind.Otherwise' p body point body_span) l = (refl, refl)
  init_silent (kind.Label' x p body point body_span) l = (refl, refl)
  init_silent kind.Break l = (refl, refl)
  init_silent kind.Continue l = (refl, refl)
  init_silent (kind.Goto x) l = (refl, refl)
  init_silent (kind.Return x) l = (refl, refl)

-- Statements that are none of these are nothing here.
module _ (here : Scope) (function : ℕ) (span : Span) where
  pub no_simple : (k : StmtKind) → ((x : Bor Expr) → k ≡ kind.Eval x → ⊥) → ((x : Bor Expr) (op : Option BinaryOp) (y : Bor Expr) → k ≡ kind.Assign x op y → ⊥)
      → (alone_premises here (stmt_shape k span) ≡ []) × (alone_nodes here function (stmt_shape k span) ≡ [])
  no_simple (kind.Block' p n row) e s = (refl, refl)
  no_simple kind.Empty e s = (refl, refl)
  no_simple (kind.Local d) e s = (refl, refl)
  no_simple (kind.Eval x) e s = absurd (e x refl)
  no_simple (kind.Assign x op y) e s = absurd (s x op y refl)
  no_simple (kind.If' test p arm point arm_span None') e s = (refl, refl)
  no_simple (kind.If' test p arm point arm_span (Some' q k i other_span)) e s = (refl, refl)
  no_simple (kind.While' test p body point body_span) e s = (refl, refl)
  no_simple (kind.DoWhile' p body point body_span test) e s = (refl, refl)
  no_simple (kind.For' init test step p body point body_span) e s = (refl, refl)
  no_simple (kind.Switch' x p body point body_span) e s = (refl, refl)
  no_simple (kind.Case' x p body point body_span) e s = (refl, refl)
  no_simple (kind.Otherwise' p body point body_span) e s = (refl, refl)
  no_simple (kind.Label' x p body point body_span) e s = (refl, refl)
  no_simple kind.Break e s = (refl, refl)
  no_simple kind.Continue e s = (refl, refl)
  no_simple (kind.Goto x) e s = (refl, refl)
  no_simple (kind.Return x) e s = (refl, refl)

  -- a leaf that is no jump and no return
  pub no_jump : (a : Around) (k : StmtKind) → (k ≡ kind.Empty → ⊥) → (k ≡ kind.Break → ⊥) → (k ≡ kind.Continue → ⊥) → ((n : Name) → k ≡ kind.Goto n → ⊥) → ((x : Option (Bor Expr)) → k ≡ kind.Return x → ⊥)
      → (leaf_premises a here (stmt_shape k span) ≡ alone_premises here (stmt_shape k span)) × (row_in_leaf here function (stmt_shape k span) ≡ alone_nodes here function (stmt_shape k span))
  no_jump a (kind.Block' p n row) o b c g r = (refl, refl)
  no_jump a kind.Empty o b c g r = absurd (o refl)
  no_jump a (kind.Local d) o b c g r = (refl, refl)
  no_jump a (kind.Eval x) o b c g r = (refl, refl)
  no_jump a (kind.Assign x op y) o b c g r = (refl, refl)
  no_jump a (kind.If' test p arm point arm_span None') o b c g r = (refl, refl)
  no_jump a (kind.If' test p arm point arm_span (Some' q k i other_span)) o b c g r = (refl, refl)
  no_jump a (kind.While' test p body point body_span) o b c g r = (refl, refl)
  no_jump a (kind.DoWhile' p body point body_span test) o b c g r = (refl, refl)
  no_jump a (kind.For' init test step p body point body_span) o b c g r = (refl, refl)
  no_jump a (kind.Switch' x p body point body_span) o b c g r = (refl, refl)
  no_jump a (kind.Case' x p body point body_span) o b c g r = (refl, refl)
  no_jump a (kind.Otherwise' p body point body_span) o b c g r = (refl, refl)
  no_jump a (kind.Label' x p body point body_span) o b c g r = (refl, refl)
  no_jump a kind.Break o b c g r = absurd (b refl)
  no_jump a kind.Continue o b c g r = absurd (c refl)
  no_jump a (kind.Goto x) o b c g r = absurd (g x refl)
  no_jump a (kind.Return x) o b c g r = absurd (r x refl)

pub ruleset tests = (tested_is, alone_is, err_is)

pub ruleset alones = (err_is)

pub ruleset leaves = (return_is)
