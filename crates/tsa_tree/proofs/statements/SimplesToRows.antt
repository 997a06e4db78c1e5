-- The rows spell whatever simple statements the productions spell.
use Rattle.std.proofs.Common.{ℕ, ◌+◌, ◌≡◌, ◌∙◌, ap, sym, subst, refl, Bool, true, false, Option, Some, None, List, arith}
use Rattle.tsa_base.specs.Tokens.{Lexeme}
use Rattle.tsa_tree.specs.declared.expr.UnaryOp.{UnaryOp}
use Rattle.tsa_tree.specs.declared.expr.BinaryOp.{BinaryOp}
use Rattle.tsa_tree.specs.declared.sign.Sign.{Sign}
use Rattle.tsa_tree.specs.declared.sign.Sign.TheVariants as sign
use Rattle.tsa_tree.specs.expressions.Syntax.{Expression}
use Rattle.tsa_tree.specs.tokens.Signs.{Aliases, sign_at, span_over, operator, prefix, access, assigns}
use Rattle.tsa_tree.specs.expressions.Spelling.{IsExpression, of_unary, of_binary, IsUnary, of_postfix, of_prefix, IsPostfix, of_primary}
use Rattle.tsa_tree.specs.expressions.Spelling.{of_field, of_index, IsPrimary, of_number, of_null, of_name, of_call, of_parentheses}
use Rattle.tsa_tree.specs.statements.Spelling.{one_at, IsSimple, of_evaluation, of_assignment, of_step_behind, of_step_before}
use Rattle.tsa_tree.specs.statements.Syntax.{Simple, evaluation, assignment, SimplePart, Ending, by_expression, by_operand, by_step}
use Rattle.tsa_tree.specs.Rows.{Sort, an_expression, a_simple, Node, Call, expression, operand, simple, a_colon, an_assignment}
use Rattle.tsa_tree.specs.Rows.{is_assignment, sees, Row, tightest, climb, climb_on, simple_behind, simple_row, rule}
use Rattle.tsa_tree.proofs.tokens.Facts.{is_plain}
use Rattle.tsa_tree.proofs.RowFacts.{begins_operand, begins_simple, is_prefix}
use Rattle.tsa_tree.proofs.tokens.ProductionSigns.{seen}
use Rattle.tsa_tree.proofs.declarations.Signs.{shows_colon}
use Rattle.tsa_tree.proofs.expressions.ToRows.{expression_rows, operand_rows}
use Rattle.tsa_tree.proofs.statements.Facts.{operand_simple}
use Rattle.tsa_grammar.specs.Form.{done, part}
use Rattle.tsa_grammar.specs.Spelling as forms
use Rattle.tsa_grammar.specs.Spelling.{by_rule, goes_done, goes_token, goes_part, goes_only, goes_left, goes_right}

module _ (tokens : List Lexeme) (aliases : Aliases) (fits : ℕ → Bool) where
  abbrev Spells : (s : Sort) → Call s → Node s → (a b : ℕ) → Type 0
  Spells s c x a b = forms.Spells (rule tokens) (sees tokens) fits s c x a b

  abbrev Goes : (s : Sort) → Row s → Node s → (a b : ℕ) → Type 0
  Goes s f x a b = forms.Goes (rule tokens) (sees tokens) fits s f x a b

  prefix_begins : (s : Sign) (o : UnaryOp) → prefix s ≡ Some o → begins_operand s ≡ true
  prefix_begins sign.Not o e = refl
  prefix_begins sign.Flip o e = refl
  prefix_begins (sign.Operator p) o e = ap is_prefix e
  prefix_begins _ o e = cc

  -- The first token of an expression is one with which an operand can begin.
  primary_starts : {d : ℕ} {t : Expression} {a b : ℕ} → IsPrimary tokens aliases fits d t a b → begins_operand (sign_at tokens aliases a) ≡ true
  primary_starts (of_number q) = ap begins_operand q
  primary_starts (of_null q) = ap begins_operand q
  primary_starts (of_name q) = ap begins_operand q
  primary_starts (of_call q o f xs c) = ap begins_operand q
  primary_starts (of_parentheses q f t c) = ap begins_operand q

  postfix_starts : {d : ℕ} {t : Expression} {a b : ℕ} → IsPostfix tokens aliases fits d t a b → begins_operand (sign_at tokens aliases a) ≡ true
  postfix_starts (of_primary p) = primary_starts p
  postfix_starts (of_field p x f n) = postfix_starts p
  postfix_starts (of_index p o f g i c) = postfix_starts p

  unary_starts : {d : ℕ} {t : Expression} {a b : ℕ} → IsUnary tokens aliases fits d t a b → begins_operand (sign_at tokens aliases a) ≡ true
  unary_starts (of_postfix p) = postfix_starts p
  unary_starts {a = a} (of_prefix {op = o} q f u) = prefix_begins (sign_at tokens aliases a) o q

  expression_starts : {d k : ℕ} {t : Expression} {a b : ℕ} → IsExpression tokens aliases fits d k t a b
      → begins_operand (sign_at tokens aliases a) ≡ true
  expression_starts (of_unary u) = unary_starts u
  expression_starts (of_binary l o le f r) = expression_starts l

  pub simple_starts : {d : ℕ} {x : Simple} {a b : ℕ} → IsSimple tokens aliases fits d x a b → begins_simple (sign_at tokens aliases a) ≡ true
  simple_starts {a = a} (of_evaluation i) = operand_simple (sign_at tokens aliases a) (expression_starts i)
  simple_starts {a = a} (of_assignment u e i) = operand_simple (sign_at tokens aliases a) (unary_starts u)
  simple_starts {a = a} (of_step_behind u q) = operand_simple (sign_at tokens aliases a) (unary_starts u)
  simple_starts (of_step_before q u) = ap begins_simple q

  -- A name before a colon is all of the expression that begins with it.
  module _ (a : ℕ) (name : sign_at tokens aliases a ≡ sign.Name) (colon : sign_at tokens aliases (a + 1) ≡ sign.Colon) where
    primary_ends : {d : ℕ} {t : Expression} {b : ℕ} → IsPrimary tokens aliases fits d t a b → b ≡ a + 1
    primary_ends (of_number q) = refl
    primary_ends (of_null q) = refl
    primary_ends (of_name q) = refl
    primary_ends (of_call q o f xs c) = let never : sign.Open ≡ sign.Colon = sym o ∙ colon in cc
    primary_ends (of_parentheses q f t c) = let never : sign.Open ≡ sign.Name = sym q ∙ name in cc

    at_colon : {b : ℕ} → b ≡ a + 1 → sign_at tokens aliases b ≡ sign.Colon
    at_colon e = ap (sign_at tokens aliases) e ∙ colon

    postfix_ends : {d : ℕ} {t : Expression} {b : ℕ} → IsPostfix tokens aliases fits d t a b → b ≡ a + 1
    postfix_ends (of_primary p) = primary_ends p
    postfix_ends (of_field {arrow = w} p x f n) =
        let never : Some w ≡ None = sym x ∙ ap access (at_colon (postfix_ends p)) in cc
    postfix_ends (of_index p o f g i c) = let never : sign.OpenBracket ≡ sign.Colon = sym o ∙ at_colon (postfix_ends p) in cc

    unary_ends : {d : ℕ} {t : Expression} {b : ℕ} → IsUnary tokens aliases fits d t a b → b ≡ a + 1
    unary_ends (of_postfix p) = postfix_ends p
    unary_ends (of_prefix {op = o} q f u) = let never : Some o ≡ None = sym q ∙ ap prefix name in cc

    expression_ends : {d k : ℕ} {t : Expression} {b : ℕ} → IsExpression tokens aliases fits d k t a b → b ≡ a + 1
    expression_ends (of_unary u) = unary_ends u
    expression_ends (of_binary {op = o} l q le f r) = let never : Some o ≡ None = sym q ∙ ap operator (at_colon (expression_ends l)) in cc

    -- so no `;` stands after it
    no_simple : {d : ℕ} {x : Simple} {b : ℕ} → IsSimple tokens aliases fits d x a b → sign_at tokens aliases b ≡ sign.Semicolon → ⊥
    no_simple (of_evaluation i) s = let never : sign.Semicolon ≡ sign.Colon = sym s ∙ at_colon (expression_ends i) in cc
    no_simple (of_assignment {op = o} u e i) s = let never : Some o ≡ None = sym e ∙ ap assigns (at_colon (unary_ends u)) in cc
    no_simple (of_step_behind {op = o} u q) s = let never : sign.Step o ≡ sign.Colon = sym q ∙ at_colon (unary_ends u) in cc
    no_simple (of_step_before {op = o} q u) s = let never : sign.Step o ≡ sign.Name = sym q ∙ name in cc

  -- A simple statement isn't a label.
  pub no_label : {d : ℕ} {x : Simple} {a b : ℕ} → IsSimple tokens aliases fits d x a b → sign_at tokens aliases a ≡ sign.Name
      → sign_at tokens aliases b ≡ sign.Semicolon → sees tokens (a_colon aliases) (a + 1) ≡ false
  no_label {a = a} i name s = go (sees tokens (a_colon aliases) (a + 1)) (λ h. no_simple a name (shows_colon tokens aliases (a + 1) h) i s)
    where
      go : (b : Bool) → (b ≡ true → ⊥) → b ≡ false
      go true h = absurd (h refl)
      go false h = refl

  module _ (d a : ℕ) where
    abbrev Evaluated : Expression → ℕ → Row a_simple
    Evaluated x n = done (record { simple = evaluation x (span_over tokens a n); ending = by_expression x })

    abbrev evaluated : Expression → ℕ → SimplePart
    evaluated x b = record { simple = evaluation x (span_over tokens a b); ending = by_expression x }

    -- What goes on after an operand does so in a simple statement too.
    on_climb : (l x : Expression) (n b : ℕ) (o : Option BinaryOp)
        → Goes an_expression (climb_on tokens aliases d 0 tightest a l n (λ x e. done x) o) x n b
        → Goes a_simple (climb_on tokens aliases d 0 tightest a l n Evaluated o) (evaluated x b) n b
    on_climb l x n b None goes_done = goes_done
    on_climb l x n b (Some o) (goes_left (goes_only le (goes_part sp goes_done))) = goes_left (goes_only le (goes_part sp goes_done))
    on_climb l x n b (Some o) (goes_right goes_done) = goes_right goes_done

    -- neither a step nor an assignment stands there
    abbrev calm : Sign → Bool
    calm (sign.Step o) = false
    calm sign.Equals = false
    calm (sign.Assign o) = false
    calm _ = true

    plain_calm : (s : Sign) → is_plain s ≡ true → calm s ≡ true
    plain_calm (sign.Step o) e = cc
    plain_calm sign.Equals e = cc
    plain_calm (sign.Assign o) e = cc
    plain_calm _ e = refl

    operator_calm : (s : Sign) (o : BinaryOp) → operator s ≡ Some o → calm s ≡ true
    operator_calm (sign.Operator p) o e = refl
    operator_calm _ o e = cc

    behind_calm : (l : Expression) (n : ℕ) (s : Sign) → calm s ≡ true
        → simple_behind tokens aliases d a l n s (assigns s) ≡ climb tokens aliases d 0 tightest a l n Evaluated
    behind_calm l n (sign.Step o) e = cc
    behind_calm l n sign.Equals e = cc
    behind_calm l n (sign.Assign o) e = cc
    behind_calm l n _ e = refl

    -- where the expression ends before a plain token, an operator or that token stands after its first operand
    calm_there : (l x : Expression) (n b : ℕ) (o : Option BinaryOp) → operator (sign_at tokens aliases n) ≡ o
        → Goes an_expression (climb_on tokens aliases d 0 tightest a l n (λ x e. done x) o) x n b
        → is_plain (sign_at tokens aliases b) ≡ true → calm (sign_at tokens aliases n) ≡ true
    calm_there l x n b None q goes_done h = plain_calm (sign_at tokens aliases n) h
    calm_there l x n b (Some o) q g h = operator_calm (sign_at tokens aliases n) o q

    -- a simple statement that begins with an operand
    by_operand_first : (x : SimplePart) (b : ℕ) → begins_operand (sign_at tokens aliases a) ≡ true
        → Goes a_simple
        (part an_expression (operand aliases d) (λ l n.
        simple_behind tokens aliases d a l n (sign_at tokens aliases n) (assigns (sign_at tokens aliases n))))
        x a b
        → Spells a_simple (simple aliases d) x a b
    by_operand_first x b h g = by_rule (go (sign_at tokens aliases a) h)
      where
        go : (s : Sign) → begins_operand s ≡ true → Goes a_simple (simple_row tokens aliases d a s) x a b
        go (sign.Step o) h = cc
        go _ h = g

    of_expression : (x : Expression) (b : ℕ) → Spells an_expression (expression aliases d 0) x a b
        → begins_operand (sign_at tokens aliases a) ≡ true → is_plain (sign_at tokens aliases b) ≡ true
        → Spells a_simple (simple aliases d) (evaluated x b) a b
    of_expression x b (by_rule (goes_part {y = l} {m = n} sp g)) h p =
        by_operand_first (evaluated x b) b h (goes_part sp (subst (λ f. Goes a_simple f (evaluated x b) n b)
        (sym (behind_calm l n (sign_at tokens aliases n) (calm_there l x n b (operator (sign_at tokens aliases n)) refl g p)))
        (on_climb l x n b (operator (sign_at tokens aliases n)) g)))

    assigned : (l r : Expression) (op : Option BinaryOp) (m b : ℕ) (s : Sign) → assigns s ≡ Some op
        → sees tokens (an_assignment aliases) m ≡ true → Spells an_expression (expression aliases d 0) r (m + 1) b
        → Goes a_simple (simple_behind tokens aliases d a l m s (assigns s))
        (record { simple = assignment l op r (span_over tokens a b); ending = by_expression r }) m b
    assigned l r op m b sign.Equals e h sp = let same : None ≡ op = cc in
        subst (λ o. Goes a_simple (simple_behind tokens aliases d a l m sign.Equals (Some None))
        (record { simple = assignment l o r (span_over tokens a b); ending = by_expression r }) m b) same
        (goes_token h (goes_part sp goes_done))
    assigned l r op m b (sign.Assign p) e h sp = let same : Some p ≡ op = cc in
        subst (λ o. Goes a_simple (simple_behind tokens aliases d a l m (sign.Assign p) (Some (Some p)))
        (record { simple = assignment l o r (span_over tokens a b); ending = by_expression r }) m b) same
        (goes_token h (goes_part sp goes_done))
    assigned l r op m b _ e h sp = cc

    -- The rows spell a simple statement that ends before a plain token.
    pub simple_rows : (x : Simple) (b : ℕ) → IsSimple tokens aliases fits d x a b → is_plain (sign_at tokens aliases b) ≡ true
        → (e : Ending) × Spells a_simple (simple aliases d) (record { simple = x; ending = e }) a b
    simple_rows x b (of_evaluation {x = t} i) p =
        (by_expression t, of_expression t b (expression_rows tokens aliases fits i (omega arith)) (expression_starts i) p)
    simple_rows x b (of_assignment {op = op} {l = l} {r = r} {m = m} u e i) p = (
      by_expression r,
      by_operand_first _ b (unary_starts u) (goes_part (operand_rows tokens aliases fits u)
          (assigned l r op m b (sign_at tokens aliases m) e (ap is_assignment e) (expression_rows tokens aliases fits i (omega arith)))),
    )
    simple_rows x b (of_step_behind {op = op} {l = l} {m = m} u q) p = (
      by_step,
      by_operand_first _ b (unary_starts u) (goes_part (operand_rows tokens aliases fits u)
          (subst (λ s. Goes a_simple (simple_behind tokens aliases d a l m s (assigns s))
          (record { simple = assignment l (Some op) (one_at tokens m) (span_over tokens a (m + 1)); ending = by_step }) m (m + 1)) (sym q)
          (goes_token (seen tokens aliases 25 m (sign.Step op) q refl) goes_done))),
    )
    simple_rows x b (of_step_before {op = op} {l = l} q u) p = (
      by_operand l,
      by_rule (subst (λ s. Goes a_simple (simple_row tokens aliases d a s)
          (record { simple = assignment l (Some op) (one_at tokens a) (span_over tokens a b); ending = by_operand l }) a b) (sym q)
          (goes_token (seen tokens aliases 25 a (sign.Step op) q refl) (goes_part (operand_rows tokens aliases fits u) goes_done))),
    )
