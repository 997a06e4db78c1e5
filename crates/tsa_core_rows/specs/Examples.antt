-- Rows as they are written and read: which nodes a body has, and what they come to.
use Rattle.std.specs.Prelude.{◌≡◌, ℕ, pos, Bool, true, false, List, [], ◌∷◌, ◌++◌, map, Option, Some, None, codes}
use Rattle.tsa_base.specs.declared.value.Value.TheVariants.{Int}
use Rattle.tsa_lex.specs.Quick.{quick_tokens_of}
use Rattle.tsa_tree.specs.declared.expr.BinaryOp.TheVariants as binary
use Rattle.tsa_tree.specs.declared.expr.UnaryOp.TheVariants as prefix
use Rattle.tsa_tree.specs.declared.kind.Kind.{Kind}
use Rattle.tsa_tree.specs.declared.kind.Kind.TheVariants as type
use Rattle.tsa_tree.specs.declared.meaning.Symbol.TheVariants as symbol
use Rattle.tsa_tree.specs.expressions.Syntax.{nowhere}
use Rattle.tsa_tree.specs.types.DeclaredTypes.{thing_type}
use Rattle.tsa_tree.specs.types.Lookups.{params_in}
use Rattle.tsa_tree.specs.types.Texts.{unit_in}
use Rattle.tsa_tree.specs.types.Units.{outset}
use Rattle.tsa_tree.specs.units.Syntax.{UnitItem}
use Rattle.tsa_types_row.specs.BodyRows.{row_in_body}
use Rattle.tsa_types_row.specs.ItemRows.{row_in_unit}
use Rattle.tsa_types_row.specs.declared.node.Node.{Node}
use Rattle.tsa_types_row.specs.declared.node.Op.{Op}
use Rattle.tsa_types_row.specs.declared.node.Op.TheVariants as op
use Rattle.tsa_core.specs.Bodies.{Action, set_local, set_cell, declare, test, branch, go_on, give, Point, point}
use Rattle.tsa_core.specs.Meanings.{null_pointer}
use Rattle.tsa_core.specs.Programs.{Bodied, bodied_function}
use Rattle.tsa_core.specs.Terms.{Term, constant, variable, answer, global, member, target, load, address, converted, prefixed, joined}
use Rattle.tsa_core_rows.specs.Reading.{Reading, nothing_read, points_alone, read_row, kinds_read, stable_read}
use Rattle.tsa_core_rows.specs.Stretches.{stretches_read, bodies_read, bodies_in, row_of_body}

abbrev body_of_h : List UnitItem → Option Bodied
body_of_h items = bodied_function (codes "h") (outset items) items

-- statements in a function of two integers and a pointer, behind two globals and a function
abbrev body : List ℕ → Option Bodied
body text = body_of_h (unit_in (quick_tokens_of (
    codes "struct s { int x; struct s *const next; }; struct s g; int n; int f(int i, struct s *q); "
    ++ (codes "int h(int a, unsigned w, struct s *q) { " ++ (text ++ codes " }")))))

abbrev row_by : Option Bodied → List Node
row_by None = []
row_by (Some b) = row_in_body b.here 1 b.body nowhere

abbrev read_by : Option Bodied → Reading
read_by None = nothing_read
read_by (Some b) = read_row (params_in b.here) (thing_type b.here b.head.result).kind (row_by (Some b))

-- the nodes of statements, and how many nodes each is with its parts
abbrev pub ops : List ℕ → List Op
ops text = map (λ n. n.op) (row_by (body text))

abbrev pub sizes : List ℕ → List ℕ
sizes text = map (λ n. n.size) (row_by (body text))

-- what statements are read as, and the locals that their nodes declare
abbrev pub reading : List ℕ → Reading
reading text = read_by (body text)

abbrev pub kinds : List ℕ → List Kind
kinds text = kinds_read (row_by (body text))

-- which of them and of the three parameters never change
abbrev pub stables : List ℕ → List Bool
stables text = stable_read (true ∷ true ∷ true ∷ []) (row_by (body text))

abbrev alone : Action → Point
alone action = point None action

abbrev calling : ℕ → List Term → Action → Point
calling function args action = point (Some (record { function = function; args = args })) action

abbrev one : Term
one = constant (Int (pos 1))

abbrev zero_int : Term
zero_int = constant (Int (pos 0))

abbrev ending : List Point
ending = alone (give type.Int zero_int) ∷ []

pub record NodesAreAsWritten : Type 0 where
  pub declaration : ops (codes "int k = w;") ≡
      op.Declare 3 true ∷ op.Declared (symbol.Local 1 3) ∷ op.Name (Some (symbol.Local 1 1)) false ∷ op.End ∷ []
  pub call_tested : ops (codes "if (!f(a, &g)) ;") ≡
      op.Test true ∷ op.Unary prefix.Not ∷ op.Call 0 2 ∷ op.Callee (Some (symbol.Function 0)) ∷ op.Name (Some (symbol.Local 1 0)) false
      ∷ op.Unary prefix.Address ∷ op.Name (Some (symbol.Global 0)) false ∷ op.Move ∷ op.End ∷ []
  pub sizes_of_it : sizes (codes "if (!f(a, &g)) ;") ≡ 7 ∷ 6 ∷ 5 ∷ 1 ∷ 1 ∷ 2 ∷ 1 ∷ 1 ∷ 1 ∷ []
  pub length_aside : ops (codes "int v[2];") ≡ op.Declare 3 false ∷ op.Declared (symbol.Local 1 3) ∷ op.Aside ∷ op.Number ∷ op.End ∷ []

pub record RowsAreReadAsWritten : Type 0 where
  pub local_set : reading (codes "int k = w; k += n;") ≡
      points_alone (alone (declare 3 type.Int (converted type.Int (variable 1)))
      ∷ alone (set_local 3 (Some binary.Plus) type.Int (load false (global 1))) ∷ ending)
  pub call_declared : reading (codes "int k = f(a, &g);") ≡
      points_alone (calling 0 (variable 0 ∷ address (global 0) ∷ []) (declare 3 type.Int answer) ∷ ending)
  pub cell_set : reading (codes "q->next->x = 1;") ≡
      points_alone (alone (set_cell (member (target (load true (member (target (variable 2)) 1))) 0) None type.Int one) ∷ ending)
  pub call_tested : reading (codes "if (!f(a, &g)) ;") ≡
      points_alone (calling 0 (variable 0 ∷ address (global 0) ∷ []) (test (prefixed prefix.Not answer)) ∷ alone go_on ∷ ending)
  pub call_compared : reading (codes "while (f(1, NULL) == 1) break;") ≡
      points_alone (calling 0 (one ∷ null_pointer ∷ []) (test (joined binary.Equal answer one)) ∷ alone go_on ∷ ending)
  pub without_a_test : reading (codes "for (int i = 0; ; i += 1) return i;") ≡
      points_alone (alone (declare 3 type.Int zero_int) ∷ alone (test one) ∷ alone (set_local 3 (Some binary.Plus) type.Int one)
      ∷ alone (give type.Int (variable 3)) ∷ ending)
  pub cases_aside : reading (codes "switch (a) { case 1: return n; }") ≡
      points_alone (alone (branch (variable 0)) ∷ alone (give type.Int (load false (global 1))) ∷ ending)
  pub locals : kinds (codes "int k = 1; { unsigned u; } for (struct s *r = q; ; ) ;") ≡ type.Int ∷ type.Unsigned ∷ type.Pointer 0 false ∷ []
  pub never_changed : stables (codes "int k = a; k;") ≡ true ∷ true ∷ true ∷ true ∷ []
  pub changed : stables (codes "int k = a; for (w = 2; ; k += 1) ; int i;") ≡ true ∷ false ∷ true ∷ false ∷ true ∷ []
  pub changed_through : stables (codes "q->x = a; n = w; (q) = NULL;") ≡ true ∷ true ∷ false ∷ []

-- where the bodies of a unit stand in its row: function, first node, node behind
abbrev pub stretches : List ℕ → List (ℕ × ℕ × ℕ)
stretches text = map (λ s. (s.function, s.from, s.to)) (stretches_read (row_in_unit (unit_in (quick_tokens_of text))))

-- the same, by the bodies that are written
abbrev both_ways : List UnitItem → Type 0
both_ways items = bodies_read (row_in_unit items) ≡ map row_of_body (bodies_in (outset items) items)

pub record BodiesStandAsWritten : Type 0 where
  pub empty_body : stretches (codes "void f(void) {}") ≡ (0, 1, 2) ∷ []
  pub behind_prototypes : stretches (codes "int n; int f(int a, int b); void g(int); void g(int k) { n = k; } int f(int a, int b) { return a; }") ≡
      (1, 7, 11) ∷ (0, 14, 17) ∷ []
  pub behind_attributes : stretches (codes "int v[2]; struct __attribute__((capability(\"mutex\"))) m { int x; }; struct m k; void f(void) __attribute__((requires_capability(k))); void f(void) { v[0] = 1; }") ≡
      (0, 8, 14) ∷ []
  pub begins_with_a_loop : stretches (codes "void f(void) { for (;;) ; } void g(int n) { do { again: ; } while (n); } void h(void) { first: {} }") ≡
      (0, 1, 4) ∷ (1, 6, 10) ∷ (2, 11, 12) ∷ []
  pub are_the_bodies : both_ways (unit_in (quick_tokens_of (codes "int n; void f(int a) { int b[3]; n = a; } void g(void) {} int h(void) { switch (n) { case 1: return 2; } }")))
