-- What the readers' results are without the arena.
use Rattle.std.specs.Prelude.{ℕ, option_map, Some, None}
use Rattle.std.specs.Borrow.{Bor}
use Rattle.std.specs.declared.option.Option.{Option}
use Rattle.tsa_base.specs.declared.token.Span.{Span}
use Rattle.tsa_tree.specs.expressions.Shapes.{shape}
use Rattle.tsa_tree.specs.statements.Shapes.{stmt_shape, init_of, step_of}
use Rattle.tsa_tree.specs.declared.stmt.Stmt.{Stmt}
use Rattle.tsa_tree.specs.statements.Syntax.{Simple, evaluation, assignment, ForInit, no_init, Statement}
use Rattle.tsa_tree.specs.expressions.Syntax.{Expression}
use Rattle.tsa_unit_simple.specs.declared.conditions.Tested.{Tested}
use Rattle.tsa_unit_simple.specs.declared.conditions.Value.{Value}
use Rattle.tsa_unit_simple.specs.declared.parts.Body.{Body}
use Rattle.tsa_unit_simple.specs.declared.parts.Part.{Part}
use Rattle.tsa_unit_simple.specs.declared.points.Read.{Read}
use Rattle.tsa_unit_simple.specs.declared.simple.Simple as read_simple
use Rattle.tsa_unit_simple.specs.declared.simple.SimpleKind.{SimpleKind}
use Rattle.tsa_unit_simple.specs.declared.simple.SimpleKind.TheVariants.{Eval, Assign}

abbrev pub kind_shape : SimpleKind → Span → Simple
kind_shape (Eval x) span = evaluation (shape x.now) span
kind_shape (Assign left op right) span = assignment (shape left.now) op (shape right.now) span

abbrev pub simple_shape : read_simple.Simple → Simple
simple_shape r = kind_shape r.kind r.span

abbrev pub seen_simple : read_simple.Simple → Simple × ℕ
seen_simple r = (simple_shape r, r.next)

abbrev pub seen_statement : Read → Statement × ℕ
seen_statement r = (stmt_shape r.stmt.kind r.stmt.span, r.next)

abbrev pub seen_tested : Tested → Expression × ℕ
seen_tested r = (shape r.tree.now, r.next)

abbrev pub seen_value : Value → Option Expression × ℕ
seen_value r = (option_map (λ x. shape x.now) r.tree, r.next)

abbrev pub seen_body : Body → Statement × ℕ
seen_body r = (stmt_shape r.stmt.now.kind r.stmt.now.span, r.next)

-- a part of a `for`, as the first one and as the third one
abbrev pub init_seen : Option (Bor Stmt) → ForInit
init_seen None = no_init
init_seen (Some s) = init_of s.now.kind s.now.span

abbrev pub step_seen : Option (Bor Stmt) → Option Simple
step_seen None = None
step_seen (Some s) = step_of s.now.kind s.now.span

abbrev pub seen_init : Part → ForInit × ℕ
seen_init r = (init_seen r.stmt, r.next)

abbrev pub seen_step : Part → Option Simple × ℕ
seen_step r = (step_seen r.stmt, r.next)
