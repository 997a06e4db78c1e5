-- Statements of one point.
use Rattle.std.proofs.Common.{ℕ, ◌≡◌, ◌∙◌, ap, subst, sym, refl, List, [], ◌∷◌, ◌++◌, Some, length, map}
use Rattle.tsa_base.specs.declared.token.Span.{Span}
use Rattle.std.specs.Borrow.{Bor}
use Rattle.std.specs.declared.option.Option.{Option}
use Rattle.tsa_tree.specs.declared.expr.BinaryOp.{BinaryOp}
use Rattle.tsa_tree.specs.declared.expr.Expr.{Expr}
use Rattle.tsa_tree.specs.declared.stmt.Stmt.{Stmt}
use Rattle.tsa_tree.specs.declared.stmt.Action.TheVariants as actions
use Rattle.tsa_tree.specs.declared.stmt.StmtKind.TheVariants as kinds
use Rattle.tsa_tree.specs.statements.Syntax.{simple}
use Rattle.tsa_unit_simple.specs.declared.simple.SimpleKind.{SimpleKind}
use Rattle.tsa_unit_simple.specs.declared.simple.SimpleKind.TheVariants.{Eval, Assign}
use Rattle.tsa_unit_simple.specs.Readings.{kind_shape}
use Rattle.tsa_tree.specs.declared.stmt.Action.{Action}
use Rattle.tsa_tree.specs.declared.stmt.Point.{Point}
use Rattle.tsa_tree.specs.declared.stmt.StmtKind.{StmtKind}
use Rattle.tsa_tree.specs.statements.Shapes.{point_shape, stmt_shape, IsNumbered}
use Rattle.tsa_decl_declarators.proofs.ListLaws.{map-push}
use Rattle.tsa_unit_simple.specs.PointNumbers.{IsPointed, IsAlone, simple_with}

pub alone_points : (old new : List Point) (kind : StmtKind) (action : Action) (span : Span) (n : ℕ) → IsAlone kind action span
    → n ≡ length old → new ≡ old ++ record { action = action; span = span } ∷ []
    → IsPointed old new (record { kind = kind; point = Some n; span = span })
alone_points old new kind action span n h e q = (
  ap (map point_shape) q ∙ map-push point_shape old (record { action = action; span = span }) ∙ ap (λ ps. map point_shape old ++ ps) (sym h.0),
  subst (λ m. IsNumbered kind (Some n) span m) e (h.1 n),
)

-- a simple statement has one point
pub eval_points : (old new : List Point) (x : Bor Expr) (span : Span) (n : ℕ) → n ≡ length old
    → new ≡ old ++ record { action = actions.Eval x; span = span } ∷ [] → IsPointed old new (simple_with (Eval x) n span)
eval_points old new x span n e q = alone_points old new (kinds.Eval x) (actions.Eval x) span n (refl, λ n. refl) e q

pub assign_points : (old new : List Point) (l r : Bor Expr) (op : Option BinaryOp) (span : Span) (n : ℕ) → n ≡ length old
    → new ≡ old ++ record { action = actions.Assign l op r; span = span } ∷ [] → IsPointed old new (simple_with (Assign l op r) n span)
assign_points old new l r op span n e q = alone_points old new (kinds.Assign l op r) (actions.Assign l op r) span n (refl, λ n. refl) e q

-- and it is the statement of its kind
pub simple_shaped : (k : SimpleKind) (n : ℕ) (span : Span) (s : Stmt) → s ≡ simple_with k n span → stmt_shape s.kind s.span ≡ simple (kind_shape k span)
simple_shaped k n span s e = ap (λ s. stmt_shape s.kind s.span) e ∙ go k
  where
    go : (k : SimpleKind) → stmt_shape (simple_with k n span).kind (simple_with k n span).span ≡ simple (kind_shape k span)
    go (Eval x) = refl
    go (Assign l op r) = refl

pub simple_pointed : (old new : List Point) (k : SimpleKind) (n : ℕ) (span : Span) (s : Stmt) → s ≡ simple_with k n span
    → IsPointed old new (simple_with k n span) → IsPointed old new s
simple_pointed old new k n span s e h = subst (λ s. IsPointed old new s) (sym e) h

pub simple_kept : (old new : List Point) (k : SimpleKind) (n : ℕ) (span : Span) (s t : Stmt) → t ≡ s → s ≡ simple_with k n span
    → IsPointed old new (simple_with k n span) → IsPointed old new t
simple_kept old new k n span s t q e h = subst (λ s. IsPointed old new s) (sym (q ∙ e)) h

pub simple_seen : (k : SimpleKind) (n : ℕ) (span : Span) (s t : Stmt) → t ≡ s → s ≡ simple_with k n span → stmt_shape t.kind t.span ≡ simple (kind_shape k span)
simple_seen k n span s t q e = simple_shaped k n span t (q ∙ e)

pub ruleset simples = (eval_points, assign_points)

pub ruleset simply = (simple_shaped, simple_pointed, simple_kept)

pub ruleset alone = (alone_points)
