-- Whatever begins a part by the productions begins it by the rows.
use Rattle.std.proofs.Common.{ℕ, ◌+◌, ◌≤◌, ◌≡◌, sym, subst, refl, List, Bool, true, false, Some, None, arith, inl, inr}
use Rattle.std.proofs.lemmas.Bool.{le-leb}
use Rattle.tsa_base.specs.Tokens.{Lexeme}
use Rattle.tsa_tree.specs.declared.expr.BinaryOp.{BinaryOp}
use Rattle.tsa_tree.specs.declared.sign.Sign.{Sign}
use Rattle.tsa_tree.specs.declared.sign.Sign.TheVariants as sign
use Rattle.tsa_tree.specs.expressions.Syntax.{Expression, binary, field, index, height}
use Rattle.tsa_tree.specs.tokens.Signs.{Aliases, sign_at, span_over, identifier_at, operator, level, access}
use Rattle.tsa_tree.specs.expressions.Spelling.{IsExpression, of_unary, of_binary, IsPostfix, of_primary, of_field, of_index, IsPrimary}
use Rattle.tsa_tree.specs.expressions.Spelling.{of_number, of_null, of_name, of_call, of_parentheses, of_none, of_some}
use Rattle.tsa_tree.specs.expressions.Beginnings.{BeginsExpression, begins_unary, begins_left, begins_right, BeginsUnary, begins_nothing}
use Rattle.tsa_tree.specs.expressions.Beginnings.{begins_operand, begins_call, begins_parentheses, begins_base, begins_member, begins_index}
use Rattle.tsa_tree.specs.expressions.Beginnings.{BeginsArguments, begins_item, begins_next}
use Rattle.tsa_tree.specs.Rows.{Sort, an_expression, some_arguments, Call, expression, operand, series, sees, Row, kind, tightest, climb_on}
use Rattle.tsa_tree.specs.Rows.{operation_row, postfix_row, call_row, operand_row, rule}
use Rattle.tsa_tree.proofs.tokens.ProductionSigns.{level_low, operator_sign, access_sign, seen, prefix_sign}
use Rattle.tsa_tree.proofs.Inductions.{begins_whole}
use Rattle.tsa_tree.proofs.expressions.ToRows.{behind, after, expression_rows, operand_rows, postfix_on, series_rows}
use Rattle.tsa_grammar.specs.Form.{done, token, part}
use Rattle.tsa_grammar.specs.Spelling as forms
use Rattle.tsa_grammar.specs.Spelling.{goes_done, goes_right, begins_rule, starts_here, starts_token, starts_in, starts_over, starts_limit}
use Rattle.tsa_grammar.specs.Spelling.{starts_only, starts_left, starts_right}

module _ (tokens : List Lexeme) (aliases : Aliases) (fits : ℕ → Bool) where
  abbrev pub Begins : (s : Sort) → Call s → (a b : ℕ) → Type 0
  Begins s c a b = forms.Begins (rule tokens) (sees tokens) fits s c a b None

  abbrev pub Starts : (s : Sort) → Row s → (a b : ℕ) → Type 0
  Starts s f a b = forms.Starts (rule tokens) (sees tokens) fits s f a b None

  -- Behind an operand and the operators up to `top`, and after its postfix operators so far.
  abbrev Behind : (d k top start : ℕ) → Expression → (m e : ℕ) → Type 0
  Behind d k top start t m e = Starts an_expression (behind tokens aliases fits d k top start t m) m e

  abbrev After : (d start : ℕ) → Expression → (m e : ℕ) → Type 0
  After d start t m e = Starts an_expression (after tokens aliases fits d start t m) m e

  -- An operator goes on where its right operand begins.
  starts_operator : (d low top start m : ℕ) (o : BinaryOp) (l : Expression) (e : ℕ)
      → operator (sign_at tokens aliases m) ≡ Some o → low ≤ level o → level o ≤ top → fits (height l) ≡ true
      → Starts an_expression (part an_expression (expression aliases d (level o + 1))
      (λ r n. behind tokens aliases fits d low (level o) start (binary o l r (span_over tokens start n)) n)) (m + 1) e
      → Behind d low top start l m e
  starts_operator d low top start m o l e q le le' fit g =
      subst (λ p. Starts an_expression (climb_on tokens aliases d low top start l m (λ x e. done x) p) m e) (sym q)
      (starts_left (starts_only (le-leb (level o) top le') (starts_in (begins_rule made))))
    where
      made : Starts an_expression (operation_row tokens aliases d low start l m (operator (sign_at tokens aliases m))) m e
      made =
          subst (λ p. Starts an_expression (operation_row tokens aliases d low start l m p) m e) (sym q)
          (starts_left (starts_only (le-leb low (level o) le) (starts_limit fit
          (starts_token (seen tokens aliases 14 m (sign.Operator o) (operator_sign (sign_at tokens aliases m) o q) refl) g))))

  -- A member goes on where its name stands.
  starts_member : (d start m : ℕ) (t : Expression) (arrow : Bool) (e : ℕ)
      → access (sign_at tokens aliases m) ≡ Some arrow → fits (height t) ≡ true
      → Starts an_expression (token (kind aliases 2) (after tokens aliases fits d start
      (field t (identifier_at tokens (m + 1)) arrow (span_over tokens start (m + 1 + 1))) (m + 1 + 1))) (m + 1) e
      → After d start t m e
  starts_member d start m t arrow e q fit g =
      elim (access_sign (sign_at tokens aliases m) arrow q) [ inl h ↦ dot h.0 h.1 | inr h ↦ an_arrow h.0 h.1 ]
    where
      Rest : Bool → Type 0
      Rest w =
          Starts an_expression (token (kind aliases 2) (after tokens aliases fits d start
          (field t (identifier_at tokens (m + 1)) w (span_over tokens start (m + 1 + 1))) (m + 1 + 1))) (m + 1) e

      dot : sign_at tokens aliases m ≡ sign.Dot → false ≡ arrow → After d start t m e
      dot h f =
          starts_left (starts_in (begins_rule (subst (λ s. Starts an_expression (postfix_row tokens aliases d start t m s) m e) (sym h)
          (starts_limit fit (starts_token (seen tokens aliases 10 m sign.Dot h refl) (subst (λ w. Rest w) (sym f) g))))))

      an_arrow : sign_at tokens aliases m ≡ sign.Arrow → true ≡ arrow → After d start t m e
      an_arrow h f =
          starts_left (starts_in (begins_rule (subst (λ s. Starts an_expression (postfix_row tokens aliases d start t m s) m e) (sym h)
          (starts_limit fit (starts_token (seen tokens aliases 11 m sign.Arrow h refl) (subst (λ w. Rest w) (sym f) g))))))

  -- A bracket goes on where its index begins.
  starts_index : (d start m : ℕ) (t : Expression) (e : ℕ)
      → sign_at tokens aliases m ≡ sign.OpenBracket → fits (height t) ≡ true → fits d ≡ true
      → Starts an_expression (part an_expression (expression aliases (d + 1) 0) (λ i n. token (kind aliases 8)
      (after tokens aliases fits d start (index t i (span_over tokens start (n + 1))) (n + 1)))) (m + 1) e
      → After d start t m e
  starts_index d start m t e q fit fit' g =
      starts_left (starts_in (begins_rule (subst (λ s. Starts an_expression (postfix_row tokens aliases d start t m s) m e) (sym q)
      (starts_limit fit (starts_limit fit' (starts_token (seen tokens aliases 7 m sign.OpenBracket q refl) g))))))

  -- An operand is begun by the row of the sign at its first token.
  by_sign : (d a b : ℕ) (s : Sign) → sign_at tokens aliases a ≡ s → Starts an_expression (operand_row tokens aliases d a s) a b
      → Begins an_expression (operand aliases d) a b
  by_sign d a b s e g = begins_rule (subst (λ s. Starts an_expression (operand_row tokens aliases d a s) a b) (sym e) g)

  -- A call goes on where its arguments begin.
  starts_call : (d a e : ℕ) → sign_at tokens aliases a ≡ sign.Name → sign_at tokens aliases (a + 1) ≡ sign.Open
      → fits d ≡ true → Starts an_expression (call_row tokens aliases d a) (a + 1 + 1) e → Begins an_expression (operand aliases d) a e
  starts_call d a e q open_ fit g =
      by_sign d a e sign.Name q
      (starts_token (seen tokens aliases 2 a sign.Name q refl)
      (starts_left (starts_limit fit (starts_token (seen tokens aliases 5 (a + 1) sign.Open open_ refl) g))))

  primary_starts : {d : ℕ} {t : Expression} {a b : ℕ} → IsPrimary tokens aliases fits d t a b → (e : ℕ) → After d a t b e
      → Begins an_expression (operand aliases d) a e
  primary_starts {d = d} {a = a} (of_number q) e g =
      by_sign d a e sign.Number q (starts_token (seen tokens aliases 3 a sign.Number q refl) g)
  primary_starts {d = d} {a = a} (of_null q) e g = by_sign d a e sign.Null q (starts_token (seen tokens aliases 4 a sign.Null q refl) g)
  primary_starts {d = d} {a = a} (of_name q) e g =
      by_sign d a e sign.Name q (starts_token (seen tokens aliases 2 a sign.Name q refl) (starts_right g))
  primary_starts {d = d} {a = a} (of_call q open_ fit of_none close) e g =
      starts_call d a e q open_ fit (starts_left (starts_token (seen tokens aliases 6 (a + 1 + 1) sign.Close close refl) g))
  primary_starts {d = d} {a = a} (of_call q open_ fit (of_some s) close) e g =
      starts_call d a e q open_ fit (starts_right (starts_over (series_rows tokens aliases fits s close) g))
  primary_starts {d = d} {a = a} (of_parentheses {b = b} q fit ie close) e g =
      by_sign d a e sign.Open q
      (starts_limit fit (starts_token (seen tokens aliases 5 a sign.Open q refl)
      (starts_over (expression_rows tokens aliases fits ie (omega arith)) (starts_token (seen tokens aliases 6 b sign.Close close refl) g))))

  -- What goes on after an operand begins the operand's part.
  postfix_starts : {d : ℕ} {t : Expression} {a b : ℕ} → IsPostfix tokens aliases fits d t a b → (e : ℕ) → After d a t b e
      → Begins an_expression (operand aliases d) a e
  postfix_starts (of_primary p) e g = primary_starts p e g
  postfix_starts {d = d} {a = a} (of_field {t = t} {arrow = arrow} {m = m} p q fit name) e g =
      postfix_starts p e (starts_member d a m t arrow e q fit (starts_token (seen tokens aliases 2 (m + 1) sign.Name name refl) g))
  postfix_starts {d = d} {a = a} (of_index {t = t} {m = m} {b = b} p q fit fit' ie close) e g =
      postfix_starts p e (starts_index d a m t e q fit fit'
      (starts_over (expression_rows tokens aliases fits ie (omega arith))
      (starts_token (seen tokens aliases 8 b sign.CloseBracket close refl) g)))

  -- What goes on after an expression, at every level of operators that it leaves, begins the expression's part.
  expression_starts : {d k : ℕ} {t : Expression} {a b : ℕ} → IsExpression tokens aliases fits d k t a b → k ≤ tightest
      → (low : ℕ) → low ≤ k → (e : ℕ) → ((top : ℕ) → k ≤ top → Behind d low top a t b e)
      → Begins an_expression (expression aliases d low) a e
  expression_starts (of_unary u) le low le' e h = begins_rule (starts_over (operand_rows tokens aliases fits u) (h tightest le))
  expression_starts {d = d} {a = a} (of_binary {op = o} {l = l} {m = m} il q k_le fit ir) le low le' e h =
      let tight = level_low o in
      expression_starts il (omega arith) low (omega arith) e (λ top lt.
      starts_operator d low top a m o l e q (omega arith) lt fit
      (starts_over (expression_rows tokens aliases fits ir tight) (h (level o) k_le)))

  mutual
    -- What begins an expression does so by the rows.
    pub expression_begins : {d k a b : ℕ} → BeginsExpression tokens aliases fits d k a b → k ≤ tightest
        → Begins an_expression (expression aliases d k) a b
    expression_begins (begins_unary u) le = begins_rule (starts_in (operand_begins u))
    expression_begins (begins_left i) le = begins_whole (rule tokens) (sees tokens) fits (expression_rows tokens aliases fits i le)
    expression_begins {d = d} {k = k} {a = a} {b = b} (begins_right {op = o} {l = l} {m = m} il q k_le fit r) le =
        let tight = level_low o in
        expression_starts il (omega arith) k k_le b (λ top lt.
        starts_operator d k top a m o l b q k_le lt fit (starts_in (expression_begins r tight)))

    -- What begins a unary expression does so by the rows.
    pub operand_begins : {d a b : ℕ} → BeginsUnary tokens aliases fits d a b → Begins an_expression (operand aliases d) a b
    operand_begins begins_nothing = begins_rule starts_here
    operand_begins {d = d} {a = a} {b = b} (begins_operand {op = o} q fit u) =
        let row = prefix_sign tokens aliases (sign_at tokens aliases a) o q in
        begins_rule (subst (λ f. Starts an_expression f a b) (sym (row.2 d a))
        (starts_limit fit (starts_token (seen tokens aliases row.0 a (sign_at tokens aliases a) refl row.1) (starts_in (operand_begins u)))))
    operand_begins {d = d} {a = a} {b = b} (begins_call q open_ fit xs) =
        starts_call d a b q open_ fit (starts_right (starts_in (series_begins xs)))
    operand_begins {d = d} {a = a} {b = b} (begins_parentheses q fit i) =
        by_sign d a b sign.Open q
        (starts_limit fit (starts_token (seen tokens aliases 5 a sign.Open q refl) (starts_in (expression_begins i (omega arith)))))
    operand_begins {b = b} (begins_base {t = t} p) =
        begins_whole (rule tokens) (sees tokens) fits (postfix_on tokens aliases fits p t b (goes_right goes_done))
    operand_begins {d = d} {a = a} (begins_member {t = t} {arrow = arrow} {m = m} p q fit) =
        postfix_starts p (m + 1) (starts_member d a m t arrow (m + 1) q fit starts_here)
    operand_begins {d = d} {a = a} {b = b} (begins_index {t = t} {m = m} p q fit fit' i) =
        postfix_starts p b (starts_index d a m t b q fit fit' (starts_in (expression_begins i (omega arith))))

    -- What begins arguments begins a series of the rows.
    pub series_begins : {d a b : ℕ} → BeginsArguments tokens aliases fits d a b → Begins some_arguments (series aliases d) a b
    series_begins (begins_item i) = begins_rule (starts_in (expression_begins i (omega arith)))
    series_begins (begins_next {m = m} i comma xs) =
        begins_rule (starts_over (expression_rows tokens aliases fits i (omega arith))
        (starts_left (starts_token (seen tokens aliases 9 m sign.Comma comma refl) (starts_in (series_begins xs)))))
