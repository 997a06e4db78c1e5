-- That statements bear the numbers of their points is a proposition.
use Rattle.std.specs.Prelude.{◌≡◌, ℕ, ◌+◌, List, [], ◌∷◌, Option, Some, None}
use Rattle.std.proofs.Props.{props}
use mathlib.Core.HLevel.{×_prop, Unit-prop}
use Rattle.tsa_base.specs.declared.token.Span.{Span}
use Rattle.tsa_tree.specs.declared.stmt.Stmt.{Stmt}
use Rattle.tsa_tree.specs.declared.stmt.StmtKind.{StmtKind, Held-StmtKind-If-2, None', Some', Row_of-Stmt, end_of-Stmt, more_of-Stmt}
use Rattle.tsa_tree.specs.declared.stmt.StmtKind.TheVariants.{Block', Empty, Local, Eval, Assign, If', While', DoWhile', For', Switch'}
use Rattle.tsa_tree.specs.declared.stmt.StmtKind.TheVariants.{Case', Otherwise', Label', Break, Continue, Goto, Return}
use Rattle.tsa_tree.specs.statements.Shapes.{IsNumbered, AreNumberedInRow, AreNumbered, IsFirst, IsThird, MayBeFirst}
use Rattle.tsa_tree.specs.statements.Shapes.{MayBeThird, counted, counted_held}

same_number : (p q : Option ℕ) → IsProp (p ≡ q)
same_number p q = hlevel props

same_span : (s t : Span) → IsProp (s ≡ t)
same_span s t = hlevel props

may_first : (k : StmtKind) (s : Span) → IsProp (MayBeFirst k s)
may_first (Local d) s = same_span s d.now.span
may_first (Eval x) s = Unit-prop
may_first (Assign l o r) s = Unit-prop
may_first _ s = λ x y. absurd x

may_third : (k : StmtKind) → IsProp (MayBeThird k)
may_third (Eval x) = Unit-prop
may_third (Assign l o r) = Unit-prop
may_third _ = λ x y. absurd x

first_one : (h : Held-StmtKind-If-2) (n : ℕ) → IsProp (IsFirst h n)
first_one None' n = Unit-prop
first_one (Some' pointer kind point span) n = ×_prop (may_first kind span) (same_number point (Some n))

third_one : (h : Held-StmtKind-If-2) (n : ℕ) → IsProp (IsThird h n)
third_one None' n = Unit-prop
third_one (Some' pointer kind point span) n = ×_prop (may_third kind) (same_number point (Some n))

mutual
  numbered_one : (k : StmtKind) (p : Option ℕ) (s : Span) (n : ℕ) → IsProp (IsNumbered k p s n)
  numbered_one (Block' pointer count row) p s n = ×_prop (same_number p None) (row_one row n)
  numbered_one Empty p s n = same_number p (Some n)
  numbered_one (Local d) p s n = ×_prop (same_number p (Some n)) (same_span s d.now.span)
  numbered_one (Eval x) p s n = same_number p (Some n)
  numbered_one (Assign left op right) p s n = same_number p (Some n)
  numbered_one (If' test pointer arm arm_point arm_span None') p s n =
      λ x y i. (same_number p (Some n) x.0 y.0 i, numbered_one arm arm_point arm_span (n + 1) x.1 y.1 i, tt)
  numbered_one (If' test pointer arm arm_point arm_span (Some' at other other_point other_span)) p s n =
      λ x y i. (
        same_number p (Some n) x.0 y.0 i,
        numbered_one arm arm_point arm_span (n + 1) x.1 y.1 i,
        numbered_one other other_point other_span (n + 1 + counted arm arm_span) x.2 y.2 i,
      )
  numbered_one (While' test pointer body body_point body_span) p s n = ×_prop (same_number p (Some n)) (numbered_one body body_point body_span (n + 1))
  numbered_one (DoWhile' pointer body body_point body_span test) p s n =
      ×_prop (numbered_one body body_point body_span n) (same_number p (Some (n + counted body body_span)))
  numbered_one (For' init test step pointer body body_point body_span) p s n =
      λ x y i. (
        first_one init n x.0 y.0 i,
        same_number p (Some (n + counted_held init)) x.1 y.1 i,
        third_one step (n + counted_held init + 1) x.2 y.2 i,
        numbered_one body body_point body_span (n + counted_held init + 1 + counted_held step) x.3 y.3 i,
      )
  numbered_one (Switch' value pointer body body_point body_span) p s n = ×_prop (same_number p (Some n)) (numbered_one body body_point body_span (n + 1))
  numbered_one (Case' value pointer body body_point body_span) p s n = ×_prop (same_number p None) (numbered_one body body_point body_span n)
  numbered_one (Otherwise' pointer body body_point body_span) p s n = ×_prop (same_number p None) (numbered_one body body_point body_span n)
  numbered_one (Label' name pointer body body_point body_span) p s n = ×_prop (same_number p None) (numbered_one body body_point body_span n)
  numbered_one Break p s n = same_number p (Some n)
  numbered_one Continue p s n = same_number p (Some n)
  numbered_one (Goto name) p s n = same_number p (Some n)
  numbered_one (Return x) p s n = same_number p (Some n)

  row_one : {count : _} (row : Row_of-Stmt count) (n : ℕ) → IsProp (AreNumberedInRow row n)
  row_one end_of-Stmt n = Unit-prop
  row_one (more_of-Stmt kind point span rest) n = ×_prop (numbered_one kind point span n) (row_one rest (n + counted kind span))

pub are_numbered_one : (xs : List Stmt) (n : ℕ) → IsProp (AreNumbered xs n)
are_numbered_one [] n = Unit-prop
are_numbered_one (x ∷ xs) n = ×_prop (numbered_one x.kind x.point x.span n) (are_numbered_one xs (n + counted x.kind x.span))
