-- The parts of a `for`, and locals in a block.
use Rattle.std.proofs.Common.{ℕ, ◌+◌, ◌≡◌, ◌≢◌, ◌∙◌, slice_get, Option, Some, None, true, false, nat_eq, ap, sym, refl, List, [], ◌∷◌, ◌++◌}
use Rattle.std.proofs.Common.{length, map, Ok, Err}
use Rattle.std.specs.Borrow.{Bor}
use Rattle.tsa_base.specs.declared.token.Span.{Span}
use Rattle.tsa_base.specs.Tokens.{Lexeme}
use Rattle.tsa_grammar.proofs.Cases.{goes, chosen, other}
use Rattle.tsa_grammar.specs.Reading.{Outcome, stop, then}
use Rattle.tsa_tree.specs.declared.decl.Decl.{Decl}
use Rattle.tsa_tree.specs.declared.sign.Sign.{Sign}
use Rattle.tsa_tree.specs.declared.sign.Sign.TheVariants as sign
use Rattle.tsa_tree.specs.declared.stmt.Point.{Point}
use Rattle.tsa_tree.specs.declared.stmt.Stmt.{Stmt}
use Rattle.tsa_tree.specs.declared.stmt.StmtKind.{StmtKind, None', Some'}
use Rattle.tsa_tree.specs.declared.stmt.StmtKind.TheVariants.{Local, Eval, Assign, If'}
use Rattle.tsa_tree.specs.declarations.Syntax.{Declaration}
use Rattle.tsa_tree.specs.declarations.Shapes.{decl_shape, decl_shapes}
use Rattle.tsa_tree.specs.points.Syntax.{points_of, points_of_init, points_of_step}
use Rattle.tsa_tree.specs.Reads.{read}
use Rattle.tsa_tree.specs.Rows.{a_for_init, some_declarations, for_init, locals, a_close, a_semicolon, mark}
use Rattle.tsa_tree.specs.tokens.Signs.{Aliases, sign_at, begins_type}
use Rattle.tsa_tree.specs.statements.Syntax.{Simple, ForInit, no_init, simple_init, local_init, Statement}
use Rattle.tsa_tree.specs.statements.Syntax as plain
use Rattle.tsa_tree.specs.statements.Shapes.{stmt_shape, point_shape, init_of, step_of, IsNumbered, MayBeFirst, MayBeThird}
use Rattle.tsa_expr.specs.declared.refusal.SyntaxRefusal.{SyntaxRefusal}
use Rattle.tsa_expr.specs.declared.refusal.SyntaxRefusal.TheVariants.{At, Function, NoMemory}
use Rattle.tsa_expr.specs.declared.refusal.SyntaxCode.TheVariants.{SY1, AT1, AT2, LM2, LM3, LM5}
use Rattle.tsa_expr.specs.Gives.{Fails}
use Rattle.tsa_expr.proofs.Answering.{fails_then, fails_same, not_close}
use Rattle.tsa_decl_declarators.specs.Outcomes.{one_token}
use Rattle.tsa_decl_declarators.proofs.TokenLaws.{not_semicolon}
use Rattle.tsa_unit_simple.specs.Outcomes.{simple_at, simply_at, step_at}
use Rattle.tsa_unit_simple.specs.PointNumbers.{IsPointed, IsBegun, IsStepped}
use Rattle.tsa_unit_simple.specs.Readings.{simple_shape}
use Rattle.tsa_unit_simple.proofs.PointLaws.{simple_kept, simple_seen}
use Rattle.tsa_unit_simple.specs.declared.simple.Simple as read_simple
use Rattle.tsa_attr.proofs.Joining.{append-nil}
use Rattle.tsa_unit_simple.proofs.ListRows.{init_absent, init_simple, init_local, lone}

-- a statement that is a simple one may be a part of a `for`
abbrev IsSimple : StmtKind → Span → Simple → Type 0
IsSimple kind span x = stmt_shape kind span ≡ plain.simple x

init_simply : (kind : StmtKind) (span : Span) (x : Simple) → IsSimple kind span x → init_of kind span ≡ simple_init x
init_simply (Eval e) span x h = cc
init_simply (Assign l o r) span x h = cc
init_simply (If' test pointer arm point arm_span None') span x h = cc
init_simply (If' test pointer arm point arm_span (Some' p k n s)) span x h = cc
init_simply _ span x h = cc

step_simply : (kind : StmtKind) (span : Span) (x : Simple) → IsSimple kind span x → step_of kind span ≡ Some x
step_simply (Eval e) span x h = cc
step_simply (Assign l o r) span x h = cc
step_simply (If' test pointer arm point arm_span None') span x h = cc
step_simply (If' test pointer arm point arm_span (Some' p k n s)) span x h = cc
step_simply _ span x h = cc

part_simply : (kind : StmtKind) (point : Option ℕ) (span : Span) (x : Simple) (n : ℕ) → IsSimple kind span x → IsNumbered kind point span n
    → MayBeFirst kind span × (point ≡ Some n)
part_simply (Eval e) point span x n h q = (tt, q)
part_simply (Assign l o r) point span x n h q = (tt, q)
part_simply (If' test pointer arm arm_point arm_span None') point span x n h q = absurd cc
part_simply (If' test pointer arm arm_point arm_span (Some' p k m s)) point span x n h q = absurd cc
part_simply _ point span x n h q = absurd cc

step_part : (kind : StmtKind) (point : Option ℕ) (span : Span) (x : Simple) (n : ℕ) → IsSimple kind span x → IsNumbered kind point span n
    → MayBeThird kind × (point ≡ Some n)
step_part (Eval e) point span x n h q = (tt, q)
step_part (Assign l o r) point span x n h q = (tt, q)
step_part (If' test pointer arm arm_point arm_span None') point span x n h q = absurd cc
step_part (If' test pointer arm arm_point arm_span (Some' p k m s)) point span x n h q = absurd cc
step_part _ point span x n h q = absurd cc

abbrev held : Statement → Outcome Statement → Statement
held y (Ok p) = p.0
held y (Err e) = y

-- what a simple statement is made of
made : (r : Outcome Simple) (y : Statement) (n : ℕ) → then r (λ x n. Ok (plain.simple x, n)) ≡ Ok (y, n)
    → (x : Simple) × (r ≡ Ok (x, n)) × (y ≡ plain.simple x)
unfolding then
made (Ok p) y n h = (p.0, ap (λ n. Ok (p.0, n)) (ap stop h), sym (ap (held y) h))
made (Err e) y n h = absurd cc

unmade : (r : Outcome Simple) (e : SyntaxRefusal) → Fails e (then r (λ x n. Ok (plain.simple x, n))) → Fails e r
unfolding then
unmade (Err q) (At SY1 token) h = cc
unmade (Err q) (At LM2 token) h = cc
unmade (Err q) (At AT1 token) h = cc
unmade (Err q) (At AT2 token) h = cc
unmade (Err q) (At LM3 token) h = absurd h
unmade (Err q) (At LM5 token) h = absurd h
unmade (Err q) (Function code span) h = absurd h
unmade (Err q) NoMemory h = tt
unmade (Ok p) (At SY1 token) h = absurd cc
unmade (Ok p) (At LM2 token) h = absurd cc
unmade (Ok p) (At AT1 token) h = absurd cc
unmade (Ok p) (At AT2 token) h = absurd cc
unmade (Ok p) (At LM3 token) h = absurd h
unmade (Ok p) (At LM5 token) h = absurd h
unmade (Ok p) (Function code span) h = absurd h
unmade (Ok p) NoMemory h = tt

-- a type's first sign is no `;`
typed : (s : Sign) → begins_type s ≡ true → nat_eq (mark s) 19 ≡ false
typed sign.Semicolon h = absurd cc
typed _ h = refl

module _ (ts : List Lexeme) (aliases : Aliases) where
  simply_made : (d m : ℕ) (y : Statement) (n : ℕ) → simply_at ts aliases d m ≡ Ok (y, n)
      → (x : Simple) × (simple_at ts aliases d m ≡ Ok (x, n)) × (y ≡ plain.simple x)
  unfolding simply_at
  simply_made d m y n h = made (simple_at ts aliases d m) y n h

  simply_unmade : (d m : ℕ) (e : SyntaxRefusal) → Fails e (simply_at ts aliases d m) → Fails e (simple_at ts aliases d m)
  unfolding simply_at
  simply_unmade d m e h = unmade (simple_at ts aliases d m) e h

  -- a simple statement as a part
  pub simply_fails : (d m : ℕ) (e : SyntaxRefusal) → Fails e (simple_at ts aliases d m) → Fails e (simply_at ts aliases d m)
  unfolding simply_at
  simply_fails d m e f = fails_then e _ _ f

  pub simply_goes : (d m : ℕ) (r : read_simple.Simple) (s : Stmt) → simple_at ts aliases d m ≡ Ok (simple_shape r, r.next)
      → stmt_shape s.kind s.span ≡ plain.simple (simple_shape r) → simply_at ts aliases d m ≡ Ok (stmt_shape s.kind s.span, r.next)
  unfolding simply_at
  simply_goes d m r s h q = goes _ _ (simple_shape r) r.next h ∙ ap (λ x. Ok (x, r.next)) (sym q)

  -- the first part of a `for`
  pub init_fails : (d m : ℕ) (e : SyntaxRefusal) → sign_at ts aliases m ≢ sign.Semicolon → begins_type (sign_at ts aliases m) ≡ false
      → Fails e (simply_at ts aliases d m) → Fails e (read ts a_for_init (for_init aliases d) m)
  init_fails d m e a b f =
      fails_same e _ _ (init_simple ts aliases d m (not_semicolon (sign_at ts aliases m) a) b) (fails_then e _ _ (simply_unmade d m e f))

  pub init_endless : (d m : ℕ) (y : Statement) (n : ℕ) (e : SyntaxRefusal) → sign_at ts aliases m ≢ sign.Semicolon
      → begins_type (sign_at ts aliases m) ≡ false → simply_at ts aliases d m ≡ Ok (y, n) → Fails e (one_token ts (a_semicolon aliases) n)
      → Fails e (read ts a_for_init (for_init aliases d) m)
  init_endless d m y n e a b h f =
      let x = simply_made d m y n h in
      fails_same e _ _ (init_simple ts aliases d m (not_semicolon (sign_at ts aliases m) a) b ∙ goes _ _ x.0 n x.1) (fails_then e _ _ f)

  pub init_goes : (d m : ℕ) (s : Stmt) (n k : ℕ) → sign_at ts aliases m ≢ sign.Semicolon → begins_type (sign_at ts aliases m) ≡ false
      → simply_at ts aliases d m ≡ Ok (stmt_shape s.kind s.span, n) → one_token ts (a_semicolon aliases) n ≡ Ok (tt, k)
      → read ts a_for_init (for_init aliases d) m ≡ Ok (init_of s.kind s.span, k)
  init_goes d m s n k a b h o =
      let x = simply_made d m (stmt_shape s.kind s.span) n h in
      init_simple ts aliases d m (not_semicolon (sign_at ts aliases m) a) b ∙ goes _ _ x.0 n x.1 ∙ goes _ _ tt k o
      ∙ ap (λ i. Ok (i, k)) (sym (init_simply s.kind s.span x.0 x.2))

  pub init_pointed : (d m : ℕ) (old new : List Point) (s : Bor Stmt) (n : ℕ) → simply_at ts aliases d m ≡ Ok (stmt_shape s.now.kind s.now.span, n)
      → IsPointed old new s.now → IsBegun old new (Some s)
  init_pointed d m old new s n h p =
      let x = simply_made d m (stmt_shape s.now.kind s.now.span) n h in (
        p.0 ∙ ap (λ ps. map point_shape old ++ ps) (ap points_of x.2 ∙ sym (ap points_of_init (init_simply s.now.kind s.now.span x.0 x.2))),
        part_simply s.now.kind s.now.point s.now.span x.0 (length old) x.2 p.1,
      )

  -- one that is a local
  pub local_fails : (d m : ℕ) (e : SyntaxRefusal) → begins_type (sign_at ts aliases m) ≡ true
      → Fails e (read ts some_declarations (locals aliases true d) m) → Fails e (read ts a_for_init (for_init aliases d) m)
  local_fails d m e b f = fails_same e _ _ (init_local ts aliases d m (typed (sign_at ts aliases m) b) b) (fails_then e _ _ f)

  pub local_endless : (d m : ℕ) (xs : List Declaration) (n : ℕ) (e : SyntaxRefusal) → begins_type (sign_at ts aliases m) ≡ true
      → read ts some_declarations (locals aliases true d) m ≡ Ok (xs, n) → Fails e (one_token ts (a_semicolon aliases) n)
      → Fails e (read ts a_for_init (for_init aliases d) m)
  local_endless d m xs n e b h f =
      fails_same e _ _ (init_local ts aliases d m (typed (sign_at ts aliases m) b) b ∙ goes _ _ xs n h) (fails_then e _ _ f)

  pub local_goes : (d m : ℕ) (decls : List Decl) (n k : ℕ) (i : ForInit) → begins_type (sign_at ts aliases m) ≡ true
      → read ts some_declarations (locals aliases true d) m ≡ Ok (decl_shapes decls, n) → one_token ts (a_semicolon aliases) n ≡ Ok (tt, k)
      → i ≡ lone (decl_shapes decls) → read ts a_for_init (for_init aliases d) m ≡ Ok (i, k)
  local_goes d m decls n k i b h o q =
      init_local ts aliases d m (typed (sign_at ts aliases m) b) b ∙ goes _ _ (decl_shapes decls) n h ∙ goes _ _ tt k o ∙ ap (λ i. Ok (i, k)) (sym q)

  -- the third part
  pub step_absent : (d m : ℕ) → sign_at ts aliases m ≡ sign.Close → step_at ts aliases d m ≡ Ok (None, m + 1)
  unfolding step_at
  step_absent d m e = chosen _ _ _ (ap (λ s. nat_eq (mark s) 7) e)

  pub step_fails : (d m : ℕ) (e : SyntaxRefusal) → sign_at ts aliases m ≢ sign.Close → Fails e (simply_at ts aliases d m)
      → Fails e (step_at ts aliases d m)
  unfolding step_at
  step_fails d m e a f = fails_same e _ _ (other _ _ _ (not_close (sign_at ts aliases m) a)) (fails_then e _ _ (simply_unmade d m e f))

  pub step_unclosed : (d m : ℕ) (y : Statement) (n : ℕ) (e : SyntaxRefusal) → sign_at ts aliases m ≢ sign.Close
      → simply_at ts aliases d m ≡ Ok (y, n) → Fails e (one_token ts (a_close aliases) n) → Fails e (step_at ts aliases d m)
  unfolding step_at
  step_unclosed d m y n e a h f =
      let x = simply_made d m y n h in
      fails_same e _ _ (other _ _ _ (not_close (sign_at ts aliases m) a) ∙ goes _ _ x.0 n x.1) (fails_then e _ _ f)

  pub step_goes : (d m : ℕ) (s : Stmt) (n k : ℕ) → sign_at ts aliases m ≢ sign.Close
      → simply_at ts aliases d m ≡ Ok (stmt_shape s.kind s.span, n) → one_token ts (a_close aliases) n ≡ Ok (tt, k)
      → step_at ts aliases d m ≡ Ok (step_of s.kind s.span, k)
  unfolding step_at
  step_goes d m s n k a h o =
      let x = simply_made d m (stmt_shape s.kind s.span) n h in
      other _ _ _ (not_close (sign_at ts aliases m) a) ∙ goes _ _ x.0 n x.1 ∙ goes _ _ tt k o
      ∙ ap (λ i. Ok (i, k)) (sym (step_simply s.kind s.span x.0 x.2))

  pub step_pointed : (d m : ℕ) (old new : List Point) (s : Bor Stmt) (n : ℕ) → simply_at ts aliases d m ≡ Ok (stmt_shape s.now.kind s.now.span, n)
      → IsPointed old new s.now → IsStepped old new (Some s)
  step_pointed d m old new s n h p =
      let x = simply_made d m (stmt_shape s.now.kind s.now.span) n h in (
        p.0 ∙ ap (λ ps. map point_shape old ++ ps) (ap points_of x.2 ∙ sym (ap points_of_step (step_simply s.now.kind s.now.span x.0 x.2))),
        step_part s.now.kind s.now.point s.now.span x.0 (length old) x.2 p.1,
      )

pub nothing_begun : (old : List Point) → IsBegun old old None
nothing_begun old = (sym (append-nil (map point_shape old)), tt)

pub nothing_stepped : (old : List Point) → IsStepped old old None
nothing_stepped old = (sym (append-nil (map point_shape old)), tt)

-- a local as the first part
pub local_begun : (old new : List Point) (s : Bor Stmt) (d : Bor Decl) → (s.now.kind ≡ Local d) × (s.now.span ≡ d.now.span) → IsPointed old new s.now
    → IsBegun old new (Some s)
local_begun old new s d i p = go s.now.kind s.now.point s.now.span i p
  where
    go : (kind : StmtKind) (point : Option ℕ) (span : Span) → (kind ≡ Local d) × (span ≡ d.now.span)
        → (map point_shape new ≡ map point_shape old ++ points_of (stmt_shape kind span)) × IsNumbered kind point span (length old)
        → (map point_shape new ≡ map point_shape old ++ points_of_init (init_of kind span)) × (MayBeFirst kind span × (point ≡ Some (length old)))
    go (Local e) point span i p = (p.0, (p.1.1, p.1.0))
    go kind point span i p = absurd cc

pub local_seen : (s : Stmt) (d : Bor Decl) → (s.kind ≡ Local d) × (s.span ≡ d.now.span) → init_of s.kind s.span ≡ local_init (decl_shape d.now)
local_seen s d i = ap (λ kind. init_of kind s.span) i.0

pub ruleset simples = (simply_fails, simply_goes, simple_kept, simple_seen)

pub ruleset for_locals = (local_fails, local_endless, local_goes, nothing_begun, local_begun)

pub ruleset inits = (init_absent, init_fails, init_endless, init_goes, init_pointed, nothing_begun)

pub ruleset steps = (step_absent, step_fails, step_unclosed, step_goes, step_pointed, nothing_stepped)

-- the first of some locals
pub lone_none : (decls : List Decl) → slice_get decls 0 ≡ None → lone (decl_shapes decls) ≡ no_init
lone_none [] h = refl
lone_none (d ∷ decls) h = absurd cc

pub lone_first : (decls : List Decl) (d : Decl) → slice_get decls 0 ≡ Some d
    → lone (decl_shapes decls) ≡ local_init (decl_shape d)
lone_first [] d h = absurd cc
lone_first (e ∷ decls) d h = cc
