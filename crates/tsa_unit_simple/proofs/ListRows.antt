-- The statements of a block, one by one, and what stands before the first `;` of a `for`.
use Rattle.std.proofs.Common.{ℕ, ◌+◌, ◌≡◌, ◌∙◌, Bool, true, false, nat_eq, ap, sym, refl, List, [], ◌∷◌, Ok, Err}
use Rattle.tsa_base.specs.Tokens.{Lexeme}
use Rattle.tsa_grammar.proofs.Cases.{goes, chosen, other}
use Rattle.tsa_grammar.specs.Reading.{Outcome, refuse, syntax, deep, then, choose}
use Rattle.tsa_tree.proofs.RowsRead.{read_steps}
use Rattle.tsa_tree.specs.declared.sign.Sign.TheVariants as sign
use Rattle.tsa_tree.specs.expressions.Answers.{below_limit}
use Rattle.tsa_tree.specs.declarations.Syntax.{Declaration}
use Rattle.tsa_tree.specs.Reads.{read}
use Rattle.tsa_tree.specs.Rows.{a_simple, a_specifier, a_variable, a_for_init, a_statement, some_statements, some_declarations, simple}
use Rattle.tsa_tree.specs.Rows.{specifier, variable, locals, for_init, statement, statements, an_open_brace, a_close_brace, a_semicolon}
use Rattle.tsa_tree.specs.Rows.{sees, mark}
use Rattle.tsa_tree.specs.tokens.Signs.{Aliases, sign_at, span_over, begins_type}
use Rattle.tsa_tree.specs.statements.Syntax.{ForInit, no_init, simple_init, local_init, Statement, Statements, none, more, local, block}
use Rattle.tsa_tree.specs.statements.Syntax.{locals_before}
use Rattle.tsa_expr.specs.declared.refusal.SyntaxRefusal.{SyntaxRefusal}
use Rattle.tsa_expr.specs.Gives.{Fails}
use Rattle.tsa_expr.proofs.Answering.{fails_then, fails_same}
use Rattle.tsa_attr.proofs.Joining.{then-then, then-same, then-ok}
use Rattle.tsa_decl_declarators.specs.Outcomes.{one_token, opening_brace}
use Rattle.tsa_unit_simple.specs.Outcomes.{simple_at, joined, statements_after}
use Rattle.tsa_unit_simple.proofs.RowLaws.{stmt, stmts, token_at, row_is}

brace_law : {A : Type 0} (b c : Bool) (m : ℕ) (x : ℕ → Outcome A) → b ≡ true
    → choose c (choose b (x (m + 1)) (Err (refuse syntax m))) (Err (refuse deep m))
    ≡ then (choose b (choose c (Ok (tt {0}, m + 1)) (Err (refuse deep m))) (Err (refuse syntax m))) (λ u n. x n)
unfolding choose then
brace_law true true m x h = refl
brace_law true false m x h = refl
brace_law false c m x h = cc

abbrev initial : ForInit → ℕ → Outcome ForInit
initial x n = Ok (x, n)

-- statements after others
pub joined-nothing : (front : Statements) → joined front none ≡ front
joined-nothing none = refl
joined-nothing (more x front) = ap (more x) (joined-nothing front)

pub joined-joined : (front middle rest : Statements) → joined (joined front middle) rest ≡ joined front (joined middle rest)
joined-joined none middle rest = refl
joined-joined (more x front) middle rest = ap (more x) (joined-joined front middle rest)

joined-locals : (xs : List Declaration) (rest : Statements) → joined (locals_before xs none) rest ≡ locals_before xs rest
joined-locals [] rest = refl
joined-locals (x ∷ xs) rest = ap (more (local x)) (joined-locals xs rest)

pub after-nothing : (r : Outcome Statements) → statements_after none r ≡ r
unfolding then
after-nothing (Ok p) = refl
after-nothing (Err e) = refl

-- what is put before the rest is put after the front
after-more : (front middle : Statements) (r : Outcome Statements)
    → statements_after front (statements_after middle r) ≡ statements_after (joined front middle) r
unfolding then
after-more front middle (Ok p) = ap (λ xs. Ok (xs, p.1)) (sym (joined-joined front middle p.0))
after-more front middle (Err e) = refl

after-locals : (front : Statements) (xs : List Declaration) (r : Outcome Statements)
    → statements_after front (then r (λ ys f. Ok (locals_before xs ys, f))) ≡ statements_after (joined front (locals_before xs none)) r
unfolding then
after-locals front xs (Ok p) =
    ap (λ ys. Ok (ys, p.1)) (ap (joined front) (sym (joined-locals xs p.0)) ∙ sym (joined-joined front (locals_before xs none) p.0))
after-locals front xs (Err e) = refl

-- one local alone
abbrev pub lone : List Declaration → ForInit
lone [] = no_init
lone (x ∷ xs) = local_init x

module _ (ts : List Lexeme) (aliases : Aliases) where
  -- a block
  pub block_is : (d m : ℕ) → sign_at ts aliases m ≡ sign.OpenBrace
      → stmt ts aliases d m ≡ then (opening_brace ts aliases d m) (λ u n. then (stmts ts aliases (d + 1) n) (λ xs e. Ok (block xs (span_over ts m e), e)))
  unfolding opening_brace
  block_is d m e =
      row_is ts aliases d m _ e
      ∙ brace_law (sees ts (an_open_brace aliases) m) (below_limit d) m (λ n. then (stmts ts aliases (d + 1) n) (λ xs e. Ok (block xs (span_over ts m e), e)))
      (ap (λ s. nat_eq (mark s) 17) e)

  -- the brace that closes it
  pub stmts_close : (front : Statements) (d m : ℕ) → sees ts (a_close_brace aliases) m ≡ true
      → statements_after front (read ts some_statements (statements aliases d) m) ≡ Ok (front, m + 1)
  unfolding then
  stmts_close front d m c =
      ap (statements_after front) (read_steps ts some_statements (statements aliases d) m ∙ chosen _ _ _ c ∙ chosen _ _ _ c)
      ∙ ap (λ xs. Ok (xs, m + 1)) (joined-nothing front)

  -- locals and their `;`
  abbrev locals_at : (d m : ℕ) → Outcome (List Declaration)
  locals_at d m =
      then (read ts some_declarations (locals aliases false d) m) (λ xs n. then (one_token ts (a_semicolon aliases) n) (λ u e. Ok (xs, e)))

  declared_is : (d m : ℕ) → sees ts (a_close_brace aliases) m ≡ false → begins_type (sign_at ts aliases m) ≡ true
      → stmts ts aliases d m
      ≡ then (read ts some_declarations (locals aliases false d) m) (λ xs n. then (one_token ts (a_semicolon aliases) n) (λ u e.
      then (stmts ts aliases d e) (λ ys f. Ok (locals_before xs ys, f))))
  declared_is d m c b =
      read_steps ts some_statements (statements aliases d) m ∙ other _ _ _ c ∙ chosen _ _ _ b
      ∙ then-same (read ts some_declarations (locals aliases false d) m) _ _ (λ xs n.
      token_at ts aliases (a_semicolon aliases) n (λ e. then (stmts ts aliases d e) (λ ys f. Ok (locals_before xs ys, f))))

  pub locals_fail : (front : Statements) (d m : ℕ) (e : SyntaxRefusal) → sees ts (a_close_brace aliases) m ≡ false
      → begins_type (sign_at ts aliases m) ≡ true → Fails e (read ts some_declarations (locals aliases false d) m)
      → Fails e (statements_after front (read ts some_statements (statements aliases d) m))
  locals_fail front d m e c b f = fails_then e _ _ (fails_same e _ _ (declared_is d m c b) (fails_then e _ _ f))

  pub locals_endless : (front : Statements) (d m : ℕ) (xs : List Declaration) (n : ℕ) (e : SyntaxRefusal) → sees ts (a_close_brace aliases) m ≡ false
      → begins_type (sign_at ts aliases m) ≡ true → read ts some_declarations (locals aliases false d) m ≡ Ok (xs, n)
      → Fails e (one_token ts (a_semicolon aliases) n)
      → Fails e (statements_after front (read ts some_statements (statements aliases d) m))
  locals_endless front d m xs n e c b r f = fails_then e _ _ (fails_same e _ _ (declared_is d m c b ∙ goes _ _ xs n r) (fails_then e _ _ f))

  pub locals_go : (front : Statements) (d m : ℕ) (xs : List Declaration) (n k : ℕ) (back : Statements) → sees ts (a_close_brace aliases) m ≡ false
      → begins_type (sign_at ts aliases m) ≡ true → read ts some_declarations (locals aliases false d) m ≡ Ok (xs, n)
      → one_token ts (a_semicolon aliases) n ≡ Ok (tt, k) → back ≡ joined front (locals_before xs none)
      → statements_after front (read ts some_statements (statements aliases d) m) ≡ statements_after back (read ts some_statements (statements aliases d) k)
  locals_go front d m xs n k back c b r o q =
      ap (statements_after front) (declared_is d m c b ∙ goes _ _ xs n r ∙ goes _ _ tt k o) ∙ after-locals front xs (stmts ts aliases d k)
      ∙ ap (λ back. statements_after back (stmts ts aliases d k)) (sym q)

  -- another statement
  another_is : (d m : ℕ) → sees ts (a_close_brace aliases) m ≡ false → begins_type (sign_at ts aliases m) ≡ false
      → stmts ts aliases d m ≡ then (stmt ts aliases d m) (λ x n. then (stmts ts aliases d n) (λ ys e. Ok (more x ys, e)))
  another_is d m c b = read_steps ts some_statements (statements aliases d) m ∙ other _ _ _ c ∙ other _ _ _ b

  pub another_fails : (front : Statements) (d m : ℕ) (e : SyntaxRefusal) → sees ts (a_close_brace aliases) m ≡ false
      → begins_type (sign_at ts aliases m) ≡ false → Fails e (read ts a_statement (statement aliases d) m)
      → Fails e (statements_after front (read ts some_statements (statements aliases d) m))
  another_fails front d m e c b f = fails_then e _ _ (fails_same e _ _ (another_is d m c b) (fails_then e _ _ f))

  pub another_goes : (front : Statements) (d m : ℕ) (x : Statement) (n : ℕ) (back : Statements) → sees ts (a_close_brace aliases) m ≡ false
      → begins_type (sign_at ts aliases m) ≡ false → read ts a_statement (statement aliases d) m ≡ Ok (x, n)
      → back ≡ joined front (more x none)
      → statements_after front (read ts some_statements (statements aliases d) m) ≡ statements_after back (read ts some_statements (statements aliases d) n)
  another_goes front d m x n back c b r q =
      ap (statements_after front) (another_is d m c b ∙ goes _ _ x n r) ∙ after-more front (more x none) (stmts ts aliases d n)
      ∙ ap (λ back. statements_after back (stmts ts aliases d n)) (sym q)

  -- before the first `;` of a `for`
  abbrev init : (d m : ℕ) → Outcome ForInit
  init d m = read ts a_for_init (for_init aliases d) m

  pub init_absent : (d m : ℕ) → sign_at ts aliases m ≡ sign.Semicolon → init d m ≡ Ok (no_init, m + 1)
  init_absent d m e =
      read_steps ts a_for_init (for_init aliases d) m ∙ chosen _ _ _ (ap (λ s. nat_eq (mark s) 19) e) ∙ chosen _ _ _ (ap (λ s. nat_eq (mark s) 19) e)

  -- one local alone
  one_local : (d m : ℕ)
      → read ts some_declarations (locals aliases true d) m
      ≡ then (read ts a_specifier (specifier aliases) m) (λ t n. then (read ts a_variable (variable aliases d t) n) (λ x e. Ok (x ∷ [], e)))
  one_local d m = read_steps ts some_declarations (locals aliases true d) m

  pub init_local : (d m : ℕ) → sees ts (a_semicolon aliases) m ≡ false → begins_type (sign_at ts aliases m) ≡ true
      → init d m ≡ then (read ts some_declarations (locals aliases true d) m) (λ xs n. then (one_token ts (a_semicolon aliases) n) (λ u e. Ok (lone xs, e)))
  init_local d m c b =
      read_steps ts a_for_init (for_init aliases d) m ∙ other _ _ _ c ∙ chosen _ _ _ b
      ∙ then-same (read ts a_specifier (specifier aliases) m) _ _ (λ t n.
      then-same (read ts a_variable (variable aliases d t) n) _ _ (λ x e.
      token_at ts aliases (a_semicolon aliases) e (λ k. initial (local_init x) k)
      ∙ sym (then-ok (x ∷ []) e (λ xs n. then (one_token ts (a_semicolon aliases) n) (λ u e. initial (lone xs) e))))
      ∙ sym (then-then (read ts a_variable (variable aliases d t) n) (λ x e. Ok (x ∷ [], e)) (λ xs n. then (one_token ts (a_semicolon aliases) n) (λ u e. initial (lone xs) e))))
      ∙ sym (then-then (read ts a_specifier (specifier aliases) m) (λ t n. then (read ts a_variable (variable aliases d t) n) (λ x e. Ok (x ∷ [], e)))
      (λ xs n. then (one_token ts (a_semicolon aliases) n) (λ u e. initial (lone xs) e)))
      ∙ ap (λ r. then r (λ xs n. then (one_token ts (a_semicolon aliases) n) (λ u e. initial (lone xs) e))) (sym (one_local d m))

  pub init_simple : (d m : ℕ) → sees ts (a_semicolon aliases) m ≡ false → begins_type (sign_at ts aliases m) ≡ false
      → init d m ≡ then (simple_at ts aliases d m) (λ x n. then (one_token ts (a_semicolon aliases) n) (λ u e. Ok (simple_init x, e)))
  unfolding simple_at
  init_simple d m c b =
      read_steps ts a_for_init (for_init aliases d) m ∙ other _ _ _ c ∙ other _ _ _ b
      ∙ then-same (read ts a_simple (simple aliases d) m) _ _ (λ x n.
      token_at ts aliases (a_semicolon aliases) n (λ k. initial (simple_init x.simple) k)
      ∙ sym (then-ok x.simple n (λ x n. then (one_token ts (a_semicolon aliases) n) (λ u e. initial (simple_init x) e))))
      ∙ sym (then-then (read ts a_simple (simple aliases d) m) (λ x n. Ok (x.simple, n)) (λ x n. then (one_token ts (a_semicolon aliases) n) (λ u e. initial (simple_init x) e)))
