-- Points that are marked, and the numbers of the statements of a block.
use Rattle.std.proofs.Common.{ℕ, ◌+◌, ◌≡◌, ◌∙◌, subst, Some, None, ap, sym, refl, List, [], ◌∷◌, ◌++◌, length, map, drop, get_or, ◌<◌, ◌≤◌}
use Rattle.std.proofs.Common.{nat_eq, true, false, Ok, arith}
use Rattle.std.proofs.lemmas.List.{length-append, length-map, drop_more, drop_all}
use Rattle.std.specs.Borrow.{Bor}
use Rattle.tsa_base.specs.declared.token.Span.{Span}
use Rattle.tsa_tree.specs.declared.decl.Decl.{Decl}
use Rattle.tsa_tree.specs.declared.expr.Expr.{Expr}
use Rattle.tsa_tree.specs.declared.expr.ExprKind.{ExprKind}
use Rattle.tsa_tree.specs.declared.expr.ExprKind.TheVariants.{Number, Null, Named, Call', Unary', Binary', Field', Index'}
use Rattle.tsa_tree.specs.declared.stmt.Action.TheVariants.{Declare, Test}
use Rattle.tsa_tree.specs.declared.stmt.Point.{Point}
use Rattle.tsa_tree.specs.declared.stmt.Stmt.{Stmt}
use Rattle.tsa_tree.specs.declared.stmt.StmtKind.TheVariants.{Local}
use Rattle.tsa_base.specs.Tokens.{Lexeme}
use Rattle.tsa_tree.specs.declared.sign.Sign.{Sign}
use Rattle.tsa_tree.specs.declared.sign.Sign.TheVariants as sign
use Rattle.tsa_tree.specs.Reads.{read}
use Rattle.tsa_tree.specs.Rows.{some_statements, some_declarations, statements, locals as locals_call, a_semicolon, mark}
use Rattle.tsa_tree.specs.tokens.Signs.{Aliases, sign_at, begins_type}
use Rattle.tsa_expr.specs.declared.refusal.SyntaxRefusal.{SyntaxRefusal}
use Rattle.tsa_expr.specs.Gives.{Fails}
use Rattle.tsa_decl_declarators.specs.Outcomes.{one_token}
use Rattle.tsa_tree.specs.declarations.Syntax.{Declaration}
use Rattle.tsa_tree.specs.declarations.Shapes.{decl_shape, decl_shapes}
use Rattle.tsa_tree.specs.points.Syntax.{tests, points_of, points_of_all, point_of_test, point_of_for, expression_span}
use Rattle.tsa_tree.specs.expressions.Shapes.{shape, kind_shape}
use Rattle.tsa_tree.specs.statements.Syntax.{Statements, none, more, local, locals_before}
use Rattle.tsa_tree.specs.statements.Shapes.{stmt_shape, stmt_shapes, point_shape, IsNumbered, AreNumbered}
use Rattle.tsa_decl_declarators.proofs.ListLaws.{map-push}
use Rattle.tsa_attr.proofs.Joining.{append-nil, append-append}
use Rattle.tsa_unit_simple.specs.Outcomes.{joined, statements_after}
use Rattle.tsa_unit_simple.proofs.ListRows.{joined-nothing, joined-joined, locals_fail, locals_endless, locals_go}
use Rattle.tsa_unit_simple.proofs.PointLaws.{alone_points}
use Rattle.tsa_unit_simple.specs.PointNumbers.{IsPointed, IsAlone, ArePointed}

-- a local has one point
pub local_alone : (d : Bor Decl) → IsAlone (Local d) (Declare d) d.now.span
local_alone d = (refl, λ n. (refl, refl))

pub local_points : (old new : List Point) (d : Bor Decl) → new ≡ old ++ record { action = Declare d; span = d.now.span } ∷ []
    → IsPointed old new (record { kind = Local d; point = Some (length old); span = d.now.span })
local_points old new d q = alone_points old new (Local d) (Declare d) d.now.span (length old) (local_alone d) refl q

pub local_listed : (front back : List Stmt) (d : Bor Decl) (s : Stmt) (n m : ℕ) → back ≡ front ++ s ∷ []
    → s ≡ record { kind = Local d; point = Some n; span = d.now.span } → n ≡ m
    → back ≡ front ++ record { kind = Local d; point = Some m; span = d.now.span } ∷ []
local_listed front back d s n m q h e =
    q ∙ ap (λ s. front ++ s ∷ []) h ∙ ap (λ n. front ++ record { kind = Local d; point = Some n; span = d.now.span } ∷ []) e

pub local_kept : (old new : List Point) (d : Bor Decl) (s t : Stmt) (n : ℕ) → t ≡ s
    → s ≡ record { kind = Local d; point = Some n; span = d.now.span } → n ≡ length old
    → new ≡ old ++ record { action = Declare d; span = d.now.span } ∷ [] → IsPointed old new t
local_kept old new d s t n e h k q =
    subst (λ s. IsPointed old new s) (sym (e ∙ h)) (alone_points old new (Local d) (Declare d) d.now.span n (local_alone d) k q)

-- the statements of a block, one more
pub shapes_push : (xs : List Stmt) (s : Stmt) → stmt_shapes (xs ++ s ∷ []) ≡ joined (stmt_shapes xs) (more (stmt_shape s.kind s.span) none)
shapes_push [] s = refl
shapes_push (x ∷ xs) s = ap (more (stmt_shape x.kind x.span)) (shapes_push xs s)

points_joined : (xs ys : Statements) → points_of_all (joined xs ys) ≡ points_of_all xs ++ points_of_all ys
points_joined none ys = refl
points_joined (more x xs) ys = ap (λ ps. points_of x ++ ps) (points_joined xs ys) ∙ sym (append-append (points_of x) (points_of_all xs) (points_of_all ys))

numbered_push : (xs : List Stmt) (s : Stmt) (n : ℕ) → AreNumbered xs n → IsNumbered s.kind s.point s.span (n + length (points_of_all (stmt_shapes xs)))
    → AreNumbered (xs ++ s ∷ []) n
numbered_push [] s n h k = (subst (λ n. IsNumbered s.kind s.point s.span n) (omega arith) k, tt)
numbered_push (x ∷ xs) s n h k =
    let own = points_of (stmt_shape x.kind x.span) in (
      h.0,
      numbered_push xs s (n + length own) h.1
          (subst (λ n. IsNumbered s.kind s.point s.span n) (let e = length-append own (points_of_all (stmt_shapes xs)) in omega (arith, e)) k),
    )

pub pushed : (start old new : List Point) (xs : List Stmt) (s : Stmt) → ArePointed start old xs → IsPointed old new s → ArePointed start new (xs ++ s ∷ [])
pushed start old new xs s h k = (
  k.0 ∙ ap (λ ps. ps ++ points_of (stmt_shape s.kind s.span)) h.0
      ∙ append-append (map point_shape start) (points_of_all (stmt_shapes xs)) (points_of (stmt_shape s.kind s.span))
      ∙ ap (λ ps. map point_shape start ++ ps)
      (sym (ap points_of_all (shapes_push xs s) ∙ points_joined (stmt_shapes xs) (more (stmt_shape s.kind s.span) none)
      ∙ ap (λ ps. points_of_all (stmt_shapes xs) ++ ps) (append-nil (points_of (stmt_shape s.kind s.span))))),
  numbered_push xs s (length start) h.1 (subst (λ n. IsNumbered s.kind s.point s.span n) counted k.1),
)
  where
    counted : length old ≡ length start + length (points_of_all (stmt_shapes xs))
    counted =
        sym (length-map old point_shape) ∙ ap length h.0 ∙ length-append (map point_shape start) (points_of_all (stmt_shapes xs))
        ∙ ap (λ n. n + length (points_of_all (stmt_shapes xs))) (length-map start point_shape)

-- an expression's span is that of its shape
kind_spanned : (k : ExprKind) (s : Span) → expression_span (kind_shape k s) ≡ s
kind_spanned (Number value unsigned) s = refl
kind_spanned Null s = refl
kind_spanned (Named name) s = refl
kind_spanned (Call' callee pointer count row) s = refl
kind_spanned (Unary' op pointer inner inner_span) s = refl
kind_spanned (Binary' op first left left_span second right right_span) s = refl
kind_spanned (Field' pointer base base_span name arrow) s = refl
kind_spanned (Index' first base base_span second at at_span) s = refl

pub spanned : (x : Expr) → expression_span (shape x) ≡ x.span
spanned x = kind_spanned x.kind x.span

-- the point of a test
pub tested_point : (x : Bor Expr) → point_shape (record { action = Test (Some x); span = x.now.span }) ≡ point_of_test (shape x.now)
tested_point x = ap (λ s. record { deed = tests (Some (shape x.now)); span = s }) (sym (spanned x.now))

pub one_more : (old new : List Point) (p : Point) → new ≡ old ++ p ∷ [] → map point_shape new ≡ map point_shape old ++ point_shape p ∷ []
one_more old new p h = ap (map point_shape) h ∙ map-push point_shape old p

-- the point of a `for`
pub loop_untested : (old new : List Point) (word : Span) (from : ℕ) → from ≡ word.from
    → new ≡ old ++ record { action = Test None; span = record { from = from; to = from + 3 } } ∷ []
    → map point_shape new ≡ map point_shape old ++ point_of_for word None ∷ []
loop_untested old new word from e h =
    one_more old new (record { action = Test None; span = record { from = from; to = from + 3 } }) h
    ∙ ap (λ from. map point_shape old ++ record { deed = tests None; span = record { from = from; to = from + 3 } } ∷ []) e

pub loop_tested : (old new : List Point) (word : Span) (x : Bor Expr) → new ≡ old ++ record { action = Test (Some x); span = x.now.span } ∷ []
    → map point_shape new ≡ map point_shape old ++ point_of_for word (Some (shape x.now)) ∷ []
loop_tested old new word x h =
    one_more old new (record { action = Test (Some x); span = x.now.span }) h ∙ ap (λ p. map point_shape old ++ p ∷ []) (tested_point x)

pub ruleset loops = (loop_untested, loop_tested)

pub ruleset locals = (local_points, local_listed, local_kept)

pub ruleset declared = (pushed)

-- a type's first sign is no closing brace
unclosed : (s : Sign) → begins_type s ≡ true → nat_eq (mark s) 18 ≡ false
unclosed sign.CloseBrace h = absurd cc
unclosed _ h = refl

-- one local more
pub locals_one : (front back : List Stmt) (xs : List Decl) (i : ℕ) (d : Decl) (s : Stmt) → i < length xs
    → stmt_shape s.kind s.span ≡ local (decl_shape (get_or xs i d)) → back ≡ front ++ s ∷ []
    → joined (stmt_shapes front) (locals_before (decl_shapes (drop i xs)) none) ≡ joined (stmt_shapes back) (locals_before (decl_shapes (drop (i + 1) xs)) none)
locals_one front back xs i d s lt e q =
    ap (λ ys. joined (stmt_shapes front) (locals_before (decl_shapes ys) none)) (drop_more xs i d lt)
    ∙ sym (joined-joined (stmt_shapes front) (more (local (decl_shape (get_or xs i d))) none) (locals_before (decl_shapes (drop (i + 1) xs)) none))
    ∙ ap (λ x. joined (joined (stmt_shapes front) (more x none)) (locals_before (decl_shapes (drop (i + 1) xs)) none)) (sym e)
    ∙ ap (λ ys. joined ys (locals_before (decl_shapes (drop (i + 1) xs)) none)) (sym (ap stmt_shapes q ∙ shapes_push front s))

-- and none more
pub locals_none : (front : List Stmt) (xs : List Decl) (i : ℕ) → length xs ≤ i
    → joined (stmt_shapes front) (locals_before (decl_shapes (drop i xs)) none) ≡ stmt_shapes front
locals_none front xs i le = ap (λ ys. joined (stmt_shapes front) (locals_before (decl_shapes ys) none)) (drop_all i xs le) ∙ joined-nothing (stmt_shapes front)

module _ (ts : List Lexeme) (aliases : Aliases) where
  pub declared_fails : (list : List Stmt) (d m : ℕ) (e : SyntaxRefusal) → begins_type (sign_at ts aliases m) ≡ true
      → Fails e (read ts some_declarations (locals_call aliases false d) m)
      → Fails e (statements_after (stmt_shapes list) (read ts some_statements (statements aliases d) m))
  declared_fails list d m e b f = locals_fail ts aliases (stmt_shapes list) d m e (unclosed (sign_at ts aliases m) b) b f

  pub declared_endless : (list : List Stmt) (d m : ℕ) (xs : List Declaration) (n : ℕ) (e : SyntaxRefusal) → begins_type (sign_at ts aliases m) ≡ true
      → read ts some_declarations (locals_call aliases false d) m ≡ Ok (xs, n) → Fails e (one_token ts (a_semicolon aliases) n)
      → Fails e (statements_after (stmt_shapes list) (read ts some_statements (statements aliases d) m))
  declared_endless list d m xs n e b h f = locals_endless ts aliases (stmt_shapes list) d m xs n e (unclosed (sign_at ts aliases m) b) b h f

  pub declared_go : (list new : List Stmt) (d m : ℕ) (decls : List Decl) (n k : ℕ) → begins_type (sign_at ts aliases m) ≡ true
      → read ts some_declarations (locals_call aliases false d) m ≡ Ok (decl_shapes decls, n) → one_token ts (a_semicolon aliases) n ≡ Ok (tt, k)
      → stmt_shapes new ≡ joined (stmt_shapes list) (locals_before (decl_shapes decls) none)
      → statements_after (stmt_shapes list) (read ts some_statements (statements aliases d) m)
      ≡ statements_after (stmt_shapes new) (read ts some_statements (statements aliases d) k)
  declared_go list new d m decls n k b h o q =
      locals_go ts aliases (stmt_shapes list) d m (decl_shapes decls) n k (stmt_shapes new) (unclosed (sign_at ts aliases m) b) b h o q

pub ruleset blocks = (declared_fails, declared_endless, declared_go)
