-- What statements and points of the arena are without the arena, and how the points of statements are numbered.
use Rattle.std.specs.Prelude.{ℕ, ◌+◌, ◌≡◌, List, [], ◌∷◌, length, option_map, Some, None}
use Rattle.std.specs.declared.option.Option.{Option}
use Rattle.std.specs.Borrow.{Bor}
use Rattle.tsa_base.specs.declared.token.Span.{Span}
use Rattle.tsa_tree.specs.declared.stmt.StmtKind.{StmtKind, Held-StmtKind-If-2, None', Some', Row_of-Stmt, end_of-Stmt, more_of-Stmt}
use Rattle.tsa_tree.specs.declared.stmt.StmtKind.TheVariants.{Block', Empty, Local, Eval, Assign, If', While', DoWhile', For', Switch'}
use Rattle.tsa_tree.specs.declared.stmt.StmtKind.TheVariants.{Case', Otherwise', Label', Break, Continue, Goto, Return}
use Rattle.tsa_tree.specs.declared.stmt.Stmt.{Stmt}
use Rattle.tsa_tree.specs.declared.stmt.Point.{Point}
use Rattle.tsa_tree.specs.declared.stmt.Action.{Action}
use Rattle.tsa_tree.specs.declared.stmt.Action.TheVariants as action
use Rattle.tsa_tree.specs.declared.stmt.Action.TheVariants.{Declare, Test, Switch, Jump, Idle, End}
use Rattle.tsa_tree.specs.expressions.Syntax.{Expression}
use Rattle.tsa_tree.specs.points.Syntax.{Deed, declares, evaluates, assigns, tests, switches, jumps, idles, returns, ends, PlacedDeed}
use Rattle.tsa_tree.specs.points.Syntax.{points_of}
use Rattle.tsa_tree.specs.expressions.Shapes.{name_shape, shape}
use Rattle.tsa_tree.specs.declarations.Shapes.{decl_shape}
use Rattle.tsa_tree.specs.statements.Syntax.{Simple, evaluation, assignment, ForInit, no_init, simple_init, local_init, Statement, block}
use Rattle.tsa_tree.specs.statements.Syntax.{empty, local, simple, if_alone, if_else, while_loop, do_loop, for_loop, switch, case}
use Rattle.tsa_tree.specs.statements.Syntax.{otherwise, label, break, continue, goto, return, Statements, none, more}

-- a statement that is the first or the third part of a `for`: neither has a `;` of its own
abbrev pub init_of : StmtKind → Span → ForInit
init_of (Local d) span = local_init (decl_shape d.now)
init_of (Eval x) span = simple_init (evaluation (shape x.now) span)
init_of (Assign left op right) span = simple_init (assignment (shape left.now) op (shape right.now) span)
init_of kind span = no_init

abbrev pub step_of : StmtKind → Span → Option Simple
step_of (Eval x) span = Some (evaluation (shape x.now) span)
step_of (Assign left op right) span = Some (assignment (shape left.now) op (shape right.now) span)
step_of kind span = None

abbrev pub init_held : Held-StmtKind-If-2 → ForInit
init_held None' = no_init
init_held (Some' pointer kind point span) = init_of kind span

abbrev pub step_held : Held-StmtKind-If-2 → Option Simple
step_held None' = None
step_held (Some' pointer kind point span) = step_of kind span

-- the same, where the part may be left out
abbrev pub init_given : Option (Bor Stmt) → ForInit
init_given None = no_init
init_given (Some x) = init_of x.now.kind x.now.span

abbrev pub step_given : Option (Bor Stmt) → Option Simple
step_given None = None
step_given (Some x) = step_of x.now.kind x.now.span

abbrev mutual
  pub stmt_shape : StmtKind → Span → Statement
  stmt_shape (Block' pointer count row) span = block (stmt_row_shape row) span
  stmt_shape Empty span = empty span
  stmt_shape (Local d) span = local (decl_shape d.now)
  stmt_shape (Eval x) span = simple (evaluation (shape x.now) span)
  stmt_shape (Assign left op right) span = simple (assignment (shape left.now) op (shape right.now) span)
  stmt_shape (If' test pointer arm point arm_span other) span = if_shape (shape test.now) (stmt_shape arm arm_span) other span
  stmt_shape (While' test pointer body point body_span) span = while_loop (shape test.now) (stmt_shape body body_span) span
  stmt_shape (DoWhile' pointer body point body_span test) span = do_loop (stmt_shape body body_span) (shape test.now) span
  stmt_shape (For' init test step pointer body point body_span) span =
      for_loop (init_held init) (option_map (λ x. shape x.now) test) (step_held step) (stmt_shape body body_span) span
  stmt_shape (Switch' value pointer body point body_span) span = switch (shape value.now) (stmt_shape body body_span) span
  stmt_shape (Case' value pointer body point body_span) span = case (shape value.now) (stmt_shape body body_span) span
  stmt_shape (Otherwise' pointer body point body_span) span = otherwise (stmt_shape body body_span) span
  stmt_shape (Label' name pointer body point body_span) span = label (name_shape name) (stmt_shape body body_span) span
  stmt_shape Break span = break span
  stmt_shape Continue span = continue span
  stmt_shape (Goto name) span = goto (name_shape name) span
  stmt_shape (Return x) span = return (option_map (λ x. shape x.now) x) span

  if_shape : Expression → Statement → Held-StmtKind-If-2 → Span → Statement
  if_shape test arm None' span = if_alone test arm span
  if_shape test arm (Some' pointer other point other_span) span = if_else test arm (stmt_shape other other_span) span

  pub stmt_row_shape : {count : _} → Row_of-Stmt count → Statements
  stmt_row_shape end_of-Stmt = none
  stmt_row_shape (more_of-Stmt kind point span rest) = more (stmt_shape kind span) (stmt_row_shape rest)

abbrev pub stmt_shapes : List Stmt → Statements
stmt_shapes [] = none
stmt_shapes (x ∷ xs) = more (stmt_shape x.kind x.span) (stmt_shapes xs)

abbrev pub action_shape : Action → Deed
action_shape (Declare d) = declares (decl_shape d.now)
action_shape (action.Eval x) = evaluates (shape x.now)
action_shape (action.Assign left op right) = assigns (shape left.now) op (shape right.now)
action_shape (Test x) = tests (option_map (λ x. shape x.now) x)
action_shape (Switch x) = switches (shape x.now)
action_shape Jump = jumps
action_shape Idle = idles
action_shape (action.Return x) = returns (option_map (λ x. shape x.now) x)
action_shape End = ends

abbrev pub point_shape : Point → PlacedDeed
point_shape p = record { deed = action_shape p.action; span = p.span }

-- how many points a statement has
abbrev pub counted : StmtKind → Span → ℕ
counted kind span = length (points_of (stmt_shape kind span))

abbrev pub counted_held : Held-StmtKind-If-2 → ℕ
counted_held None' = 0
counted_held (Some' pointer kind point span) = counted kind span

-- what may be the first part of a `for`: the span of a local is that of its declaration (C11 6.8.5.3)
abbrev pub MayBeFirst : StmtKind → Span → Type 0
MayBeFirst (Local d) span = span ≡ d.now.span
MayBeFirst (Eval x) span = Unit {0}
MayBeFirst (Assign left op right) span = Unit {0}
MayBeFirst kind span = ⊥

-- what may be the third part: a local may not
abbrev pub MayBeThird : StmtKind → Type 0
MayBeThird (Eval x) = Unit {0}
MayBeThird (Assign left op right) = Unit {0}
MayBeThird kind = ⊥

-- the part is one that may stand there, and its point has this number
abbrev pub IsFirst : Held-StmtKind-If-2 → ℕ → Type 0
IsFirst None' n = Unit {0}
IsFirst (Some' pointer kind point span) n = MayBeFirst kind span × (point ≡ Some n)

abbrev pub IsThird : Held-StmtKind-If-2 → ℕ → Type 0
IsThird None' n = Unit {0}
IsThird (Some' pointer kind point span) n = MayBeThird kind × (point ≡ Some n)

-- the points of a statement are numbered from n on, in the order of `points_of`
abbrev mutual
  pub IsNumbered : StmtKind → (point : Option ℕ) → Span → (n : ℕ) → Type 0
  IsNumbered (Block' pointer count row) point span n = (point ≡ None) × AreNumberedInRow row n
  IsNumbered Empty point span n = point ≡ Some n
  IsNumbered (Local d) point span n = (point ≡ Some n) × (span ≡ d.now.span)
  IsNumbered (Eval x) point span n = point ≡ Some n
  IsNumbered (Assign left op right) point span n = point ≡ Some n
  IsNumbered (If' test pointer arm arm_point arm_span other) point span n =
      (point ≡ Some n) × IsNumbered arm arm_point arm_span (n + 1) × IsNumberedHeld other (n + 1 + counted arm arm_span)
  IsNumbered (While' test pointer body body_point body_span) point span n = (point ≡ Some n) × IsNumbered body body_point body_span (n + 1)
  IsNumbered (DoWhile' pointer body body_point body_span test) point span n =
      IsNumbered body body_point body_span n × (point ≡ Some (n + counted body body_span))
  IsNumbered (For' init test step pointer body body_point body_span) point span n =
      IsFirst init n
      × (point ≡ Some (n + counted_held init))
      × IsThird step (n + counted_held init + 1)
      × IsNumbered body body_point body_span (n + counted_held init + 1 + counted_held step)
  IsNumbered (Switch' value pointer body body_point body_span) point span n = (point ≡ Some n) × IsNumbered body body_point body_span (n + 1)
  IsNumbered (Case' value pointer body body_point body_span) point span n = (point ≡ None) × IsNumbered body body_point body_span n
  IsNumbered (Otherwise' pointer body body_point body_span) point span n = (point ≡ None) × IsNumbered body body_point body_span n
  IsNumbered (Label' name pointer body body_point body_span) point span n = (point ≡ None) × IsNumbered body body_point body_span n
  IsNumbered Break point span n = point ≡ Some n
  IsNumbered Continue point span n = point ≡ Some n
  IsNumbered (Goto name) point span n = point ≡ Some n
  IsNumbered (Return x) point span n = point ≡ Some n

  IsNumberedHeld : Held-StmtKind-If-2 → (n : ℕ) → Type 0
  IsNumberedHeld None' n = Unit {0}
  IsNumberedHeld (Some' pointer kind point span) n = IsNumbered kind point span n

  pub AreNumberedInRow : {count : _} → Row_of-Stmt count → (n : ℕ) → Type 0
  AreNumberedInRow end_of-Stmt n = Unit {0}
  AreNumberedInRow (more_of-Stmt kind point span rest) n = IsNumbered kind point span n × AreNumberedInRow rest (n + counted kind span)

abbrev pub AreNumbered : List Stmt → (n : ℕ) → Type 0
AreNumbered [] n = Unit {0}
AreNumbered (x ∷ xs) n = IsNumbered x.kind x.point x.span n × AreNumbered xs (n + counted x.kind x.span)
