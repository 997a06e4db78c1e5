-- Rows as units are written: what each node is, and how many nodes it is with its parts.
use Rattle.std.specs.Prelude.{◌≡◌, ℕ, pos, true, false, List, [], ◌∷◌, map, Option, Some, None, codes}
use Rattle.tsa_lex.specs.Quick.{quick_tokens_of}
use Rattle.tsa_tree.specs.declared.expr.BinaryOp.TheVariants.{Plus}
use Rattle.tsa_tree.specs.declared.expr.UnaryOp.TheVariants.{Not, Address}
use Rattle.tsa_tree.specs.declared.kind.Kind.{Kind}
use Rattle.tsa_tree.specs.declared.kind.Kind.TheVariants as type
use Rattle.tsa_tree.specs.declared.meaning.Symbol.TheVariants.{Global, Local, Function, Constant}
use Rattle.tsa_tree.specs.declared.number.Number.{Number}
use Rattle.tsa_tree.specs.declared.number.Number.TheVariants.{Int, Unsigned}
use Rattle.tsa_tree.specs.types.Texts.{unit_in}
use Rattle.tsa_types_row.specs.ItemRows.{row_in_unit}
use Rattle.tsa_types_row.specs.declared.node.Node.{Node}
use Rattle.tsa_types_row.specs.declared.node.Op.{Op}
use Rattle.tsa_types_row.specs.declared.node.Op.TheVariants as op

abbrev pub row : List ℕ → List Node
row text = row_in_unit (unit_in (quick_tokens_of text))

abbrev pub nodes : List ℕ → List (Op × ℕ)
nodes text = map (λ n. (n.op, n.size)) (row text)

abbrev pub worths : List ℕ → List (Option Number)
worths text = map (λ n. n.worth) (row text)

abbrev pub kinds : List ℕ → List Kind
kinds text = map (λ n. n.thing.thing.kind) (row text)

-- where nodes begin and end
abbrev pub places : List ℕ → List (ℕ × ℕ)
places text = map (λ n. (n.span.from, n.span.to)) (row text)

pub record RowsAreAsWritten : Type 0 where
  pub set : nodes (codes "int g; void f(int n) { g = n + 1; }") ≡
      (op.Declared (Global 0), 1) ∷ (op.Declared (Function 0), 1) ∷ (op.Declared (Local 0 0), 1)
      ∷ (op.Set None, 5) ∷ (op.Name (Some (Global 0)) false, 1) ∷ (op.Binary Plus, 3) ∷ (op.Name (Some (Local 0 0)) false, 1) ∷ (op.Number, 1)
      ∷ (op.End, 1) ∷ []
  pub second_member : nodes (codes "struct s { int x; int y; }; void f(struct s *p) { p->y = 2; }") ≡
      (op.Declared (Function 0), 1) ∷ (op.Declared (Local 0 0), 1)
      ∷ (op.Set None, 4) ∷ (op.Field true 1 false, 2) ∷ (op.Name (Some (Local 0 0)) false, 1) ∷ (op.Number, 1) ∷ (op.End, 1) ∷ []
  pub fixed_pointer : nodes (codes "struct s { int x; }; struct s v; struct s *const p = &v; void f(void) { p->x = 1; }") ≡
      (op.Declared (Global 0), 1) ∷ (op.Declared (Global 1), 1) ∷ (op.Aside, 3) ∷ (op.Unary Address, 2) ∷ (op.Name (Some (Global 0)) false, 1)
      ∷ (op.Declared (Function 0), 1)
      ∷ (op.Set None, 4) ∷ (op.Field true 0 false, 2) ∷ (op.Name (Some (Global 1)) true, 1) ∷ (op.Number, 1) ∷ (op.End, 1) ∷ []
  pub call_in_a_test : nodes (codes "int a[2]; int f(int n); void g(void) { if (!f(a[1])) return; for (;;) ; }") ≡
      (op.Declared (Global 0), 1) ∷ (op.Aside, 2) ∷ (op.Number, 1) ∷ (op.Declared (Function 0), 1) ∷ (op.Declared (Local 0 0), 1)
      ∷ (op.Declared (Function 1), 1)
      ∷ (op.Test true, 7) ∷ (op.Unary Not, 6) ∷ (op.Call 0 1, 5) ∷ (op.Callee (Some (Function 0)), 1) ∷ (op.Index, 3)
      ∷ (op.Name (Some (Global 0)) false, 1) ∷ (op.Number, 1) ∷ (op.Give false, 1) ∷ (op.Test false, 1) ∷ (op.Move, 1) ∷ (op.End, 1) ∷ []
  pub enumerators : nodes (codes "enum { A = 3, B }; void f(int n) { switch (n) { case B: ; } }") ≡
      (op.Declared (Constant (pos 3)), 1) ∷ (op.Aside, 2) ∷ (op.Number, 1) ∷ (op.Declared (Constant (pos 4)), 1)
      ∷ (op.Declared (Function 0), 1) ∷ (op.Declared (Local 0 0), 1)
      ∷ (op.Branch, 2) ∷ (op.Name (Some (Local 0 0)) false, 1) ∷ (op.Aside, 2) ∷ (op.Name (Some (Constant (pos 4))) false, 1)
      ∷ (op.Move, 1) ∷ (op.End, 1) ∷ []
  pub locals : nodes (codes "int f(void) { int a = 1; { int b; } int c; return c; }") ≡
      (op.Declared (Function 0), 1)
      ∷ (op.Declare 0 true, 3) ∷ (op.Declared (Local 0 0), 1) ∷ (op.Number, 1) ∷ (op.Declare 1 false, 2) ∷ (op.Declared (Local 0 1), 1)
      ∷ (op.Declare 2 false, 2) ∷ (op.Declared (Local 0 2), 1) ∷ (op.Give true, 2) ∷ (op.Name (Some (Local 0 2)) false, 1) ∷ (op.End, 1) ∷ []
  pub worth : worths (codes "void f(void) { 2 * 3u; }") ≡ None ∷ None ∷ Some (Unsigned 6) ∷ Some (Int (pos 2)) ∷ Some (Unsigned 3) ∷ None ∷ []
  pub types : kinds (codes "void f(unsigned n) { n * 2; }") ≡ type.Void ∷ type.Void ∷ type.Void ∷ type.Unsigned ∷ type.Unsigned ∷ type.Int ∷ type.Void ∷ []
  pub spans : places (codes "void f(int n) { n = (n + 1); }") ≡ (5, 6) ∷ (11, 12) ∷ (16, 28) ∷ (16, 17) ∷ (21, 26) ∷ (21, 22) ∷ (25, 26) ∷ (29, 30) ∷ []
