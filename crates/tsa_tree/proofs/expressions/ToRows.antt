-- The rows spell whatever the productions spell.
use Rattle.std.proofs.Common.{ℕ, ◌+◌, ◌≤◌, ◌≡◌, sym, subst, refl, List, Bool, true, false, Some, None, arith, inl, inr}
use Rattle.std.proofs.lemmas.Bool.{le-leb}
use Rattle.std.specs.declared.option.Option.{Option}
use Rattle.tsa_base.specs.Tokens.{Lexeme}
use Rattle.tsa_tree.specs.declared.expr.BinaryOp.{BinaryOp}
use Rattle.tsa_tree.specs.declared.sign.Sign.{Sign}
use Rattle.tsa_tree.specs.declared.sign.Sign.TheVariants as sign
use Rattle.tsa_tree.specs.expressions.Syntax.{Expression, Arguments, unary, binary, field, index, height}
use Rattle.tsa_tree.specs.tokens.Signs.{Aliases, sign_at, span_over, identifier_at, operator, level, access}
use Rattle.tsa_tree.specs.expressions.Spelling.{IsExpression, of_unary, of_binary, IsUnary, of_postfix, of_prefix, IsPostfix, of_primary}
use Rattle.tsa_tree.specs.expressions.Spelling.{of_field, of_index, IsPrimary, of_number, of_null, of_name, of_call, of_parentheses}
use Rattle.tsa_tree.specs.expressions.Spelling.{of_none, of_some, IsSeries, of_last, of_further}
use Rattle.tsa_tree.specs.Rows.{Sort, an_expression, some_arguments, Node, Call, expression, operand, series, sees, Row, tightest, climb}
use Rattle.tsa_tree.specs.Rows.{climb_on, operation_row, post, postfix_row, call_row, operand_row, rule}
use Rattle.tsa_tree.proofs.tokens.ProductionSigns.{level_low, operator_sign, access_sign, seen, prefix_sign}
use Rattle.tsa_grammar.specs.Form.{done}
use Rattle.tsa_grammar.specs.Spelling as forms
use Rattle.tsa_grammar.specs.Spelling.{by_rule, goes_done, goes_token, goes_part, goes_limit, goes_only, goes_left, goes_right}

module _ (tokens : List Lexeme) (aliases : Aliases) (fits : ℕ → Bool) where
  abbrev pub Spells : (s : Sort) → Call s → Node s → (a b : ℕ) → Type 0
  Spells s c x a b = forms.Spells (rule tokens) (sees tokens) fits s c x a b

  abbrev pub Goes : (s : Sort) → Row s → Node s → (a b : ℕ) → Type 0
  Goes s f x a b = forms.Goes (rule tokens) (sees tokens) fits s f x a b

  -- Behind an operand and the operators up to `top`.
  abbrev pub behind : (d k top start : ℕ) → Expression → ℕ → Row an_expression
  behind d k top start t b = climb tokens aliases d k top start t b (λ x e. done x)

  -- Behind an operand and its postfix operators so far.
  abbrev pub after : (d start : ℕ) → Expression → ℕ → Row an_expression
  after d start t b = post tokens aliases d start t b (λ x e. done x)

  -- An expression may end after every operand of it.
  pub stop_behind : (d k top start : ℕ) (t : Expression) (b : ℕ) → Goes an_expression (behind d k top start t b) t b b
  stop_behind d k top start t b = go (operator (sign_at tokens aliases b))
    where
      go : (o : Option BinaryOp) → Goes an_expression (climb_on tokens aliases d k top start t b (λ x e. done x) o) t b b
      go None = goes_done
      go (Some o) = goes_right goes_done

  -- An operator goes on where its right operand does.
  on_operator : (d low top start m : ℕ) (o : BinaryOp) (l r x : Expression) (b e : ℕ)
      → operator (sign_at tokens aliases m) ≡ Some o → low ≤ level o → level o ≤ top → fits (height l) ≡ true
      → Spells an_expression (expression aliases d (level o + 1)) r (m + 1) b
      → Goes an_expression (behind d low (level o) start (binary o l r (span_over tokens start b)) b) x b e
      → Goes an_expression (behind d low top start l m) x m e
  on_operator d low top start m o l r x b e q le le' fit sp g =
      subst (λ p. Goes an_expression (climb_on tokens aliases d low top start l m (λ x e. done x) p) x m e) (sym q)
      (goes_left (goes_only (le-leb (level o) top le') (goes_part (by_rule made) goes_done)))
    where
      made : Goes an_expression (operation_row tokens aliases d low start l m (operator (sign_at tokens aliases m))) x m e
      made =
          subst (λ p. Goes an_expression (operation_row tokens aliases d low start l m p) x m e) (sym q)
          (goes_left (goes_only (le-leb low (level o) le) (goes_limit fit
          (goes_token (seen tokens aliases 14 m (sign.Operator o) (operator_sign (sign_at tokens aliases m) o q) refl) (goes_part sp g)))))

  -- A member goes on where what follows it does.
  on_member : (d start m : ℕ) (t x : Expression) (arrow : Bool) (e : ℕ)
      → access (sign_at tokens aliases m) ≡ Some arrow → fits (height t) ≡ true → sign_at tokens aliases (m + 1) ≡ sign.Name
      → Goes an_expression (after d start (field t (identifier_at tokens (m + 1)) arrow (span_over tokens start (m + 1 + 1))) (m + 1 + 1))
      x (m + 1 + 1) e
      → Goes an_expression (after d start t m) x m e
  on_member d start m t x arrow e q fit name g =
      elim (access_sign (sign_at tokens aliases m) arrow q) [ inl h ↦ dot h.0 h.1 | inr h ↦ an_arrow h.0 h.1 ]
    where
      Rest : Bool → Type 0
      Rest w =
          Goes an_expression (after d start (field t (identifier_at tokens (m + 1)) w (span_over tokens start (m + 1 + 1))) (m + 1 + 1))
          x (m + 1 + 1) e

      dot : sign_at tokens aliases m ≡ sign.Dot → false ≡ arrow → Goes an_expression (after d start t m) x m e
      dot h f =
          goes_left (goes_part (by_rule (subst (λ s. Goes an_expression (postfix_row tokens aliases d start t m s) x m e) (sym h)
          (goes_limit fit (goes_token (seen tokens aliases 10 m sign.Dot h refl)
          (goes_token (seen tokens aliases 2 (m + 1) sign.Name name refl) (subst (λ w. Rest w) (sym f) g)))))) goes_done)

      an_arrow : sign_at tokens aliases m ≡ sign.Arrow → true ≡ arrow → Goes an_expression (after d start t m) x m e
      an_arrow h f =
          goes_left (goes_part (by_rule (subst (λ s. Goes an_expression (postfix_row tokens aliases d start t m s) x m e) (sym h)
          (goes_limit fit (goes_token (seen tokens aliases 11 m sign.Arrow h refl)
          (goes_token (seen tokens aliases 2 (m + 1) sign.Name name refl) (subst (λ w. Rest w) (sym f) g)))))) goes_done)

  -- An index goes on where what follows it does.
  on_index : (d start m : ℕ) (t i x : Expression) (b e : ℕ)
      → sign_at tokens aliases m ≡ sign.OpenBracket → fits (height t) ≡ true → fits d ≡ true
      → Spells an_expression (expression aliases (d + 1) 0) i (m + 1) b → sign_at tokens aliases b ≡ sign.CloseBracket
      → Goes an_expression (after d start (index t i (span_over tokens start (b + 1))) (b + 1)) x (b + 1) e
      → Goes an_expression (after d start t m) x m e
  on_index d start m t i x b e q fit fit' sp close g =
      goes_left (goes_part (by_rule (subst (λ s. Goes an_expression (postfix_row tokens aliases d start t m s) x m e) (sym q)
      (goes_limit fit (goes_limit fit' (goes_token (seen tokens aliases 7 m sign.OpenBracket q refl)
      (goes_part sp (goes_token (seen tokens aliases 8 b sign.CloseBracket close refl) g))))))) goes_done)

  -- An operand is spelled by the row of the sign at its first token.
  pub by_sign : (d a b : ℕ) (x : Expression) (s : Sign) → sign_at tokens aliases a ≡ s
      → Goes an_expression (operand_row tokens aliases d a s) x a b → Spells an_expression (operand aliases d) x a b
  by_sign d a b x s e g = by_rule (subst (λ s. Goes an_expression (operand_row tokens aliases d a s) x a b) (sym e) g)

  -- A call goes on where its arguments do.
  on_call : (d a : ℕ) (x : Expression) (e : ℕ) → sign_at tokens aliases a ≡ sign.Name → sign_at tokens aliases (a + 1) ≡ sign.Open
      → fits d ≡ true → Goes an_expression (call_row tokens aliases d a) x (a + 1 + 1) e → Spells an_expression (operand aliases d) x a e
  on_call d a x e q open_ fit g =
      by_sign d a e x sign.Name q
      (goes_token (seen tokens aliases 2 a sign.Name q refl)
      (goes_left (goes_limit fit (goes_token (seen tokens aliases 5 (a + 1) sign.Open open_ refl) g))))

  mutual
    -- Where the rows go on after the tree, at every level of operators that it leaves, they spell what they go on to.
    pub expression_on : {d k : ℕ} {t : Expression} {a b : ℕ} → IsExpression tokens aliases fits d k t a b → k ≤ tightest
        → (low : ℕ) → low ≤ k → (x : Expression) (e : ℕ)
        → ((top : ℕ) → k ≤ top → Goes an_expression (behind d low top a t b) x b e)
        → Spells an_expression (expression aliases d low) x a e
    expression_on (of_unary u) le low le' x e h = by_rule (goes_part (operand_rows u) (h tightest le))
    expression_on {d = d} {a = a} {b = b} (of_binary {op = o} {l = l} {r = r} {m = m} il q k_le fit ir) le low le' x e h =
        let tight = level_low o in
        expression_on il (omega arith) low (omega arith) x e (λ top lt.
        on_operator d low top a m o l r x b e q (omega arith) lt fit (expression_rows ir tight) (h (level o) k_le))

    -- The rows spell an expression.
    pub expression_rows : {d k : ℕ} {t : Expression} {a b : ℕ} → IsExpression tokens aliases fits d k t a b → k ≤ tightest
        → Spells an_expression (expression aliases d k) t a b
    expression_rows {d = d} {k = k} {t = t} {a = a} {b = b} (of_unary u) le =
        by_rule (goes_part (operand_rows u) (stop_behind d k tightest a t b))
    expression_rows {d = d} {k = k} {a = a} {b = b} (of_binary {op = o} {l = l} {r = r} {m = m} il q k_le fit ir) le =
        let tight = level_low o in
        let t = binary o l r (span_over tokens a b) in
        expression_on il (omega arith) k k_le t b (λ top lt.
        on_operator d k top a m o l r t b b q k_le lt fit (expression_rows ir tight) (stop_behind d k (level o) a t b))

    -- The rows spell a unary expression.
    pub operand_rows : {d : ℕ} {t : Expression} {a b : ℕ} → IsUnary tokens aliases fits d t a b
        → Spells an_expression (operand aliases d) t a b
    operand_rows {t = t} {b = b} (of_postfix p) = postfix_on p t b (goes_right goes_done)
    operand_rows {d = d} {a = a} {b = b} (of_prefix {op = o} {t = t} q fit u) =
        let row = prefix_sign tokens aliases (sign_at tokens aliases a) o q in
        by_rule (subst (λ f. Goes an_expression f (unary o t (span_over tokens a b)) a b) (sym (row.2 d a))
        (goes_limit fit (goes_token (seen tokens aliases row.0 a (sign_at tokens aliases a) refl row.1)
        (goes_part (operand_rows u) goes_done))))

    -- Where the rows go on after an operand, they spell what they go on to.
    pub postfix_on : {d : ℕ} {t : Expression} {a b : ℕ} → IsPostfix tokens aliases fits d t a b → (x : Expression) (e : ℕ)
        → Goes an_expression (after d a t b) x b e → Spells an_expression (operand aliases d) x a e
    postfix_on (of_primary p) x e g = primary_on p x e g
    postfix_on {d = d} {a = a} (of_field {t = t} {arrow = arrow} {m = m} p q fit name) x e g =
        postfix_on p x e (on_member d a m t x arrow e q fit name g)
    postfix_on {d = d} {a = a} (of_index {t = t} {i = i} {m = m} {b = b} p q fit fit' ie close) x e g =
        postfix_on p x e (on_index d a m t i x b e q fit fit' (expression_rows ie (omega arith)) close g)

    primary_on : {d : ℕ} {t : Expression} {a b : ℕ} → IsPrimary tokens aliases fits d t a b → (x : Expression) (e : ℕ)
        → Goes an_expression (after d a t b) x b e → Spells an_expression (operand aliases d) x a e
    primary_on {d = d} {a = a} (of_number q) x e g =
        by_sign d a e x sign.Number q (goes_token (seen tokens aliases 3 a sign.Number q refl) g)
    primary_on {d = d} {a = a} (of_null q) x e g = by_sign d a e x sign.Null q (goes_token (seen tokens aliases 4 a sign.Null q refl) g)
    primary_on {d = d} {a = a} (of_name q) x e g =
        by_sign d a e x sign.Name q (goes_token (seen tokens aliases 2 a sign.Name q refl) (goes_right g))
    primary_on {d = d} {a = a} (of_call q open_ fit of_none close) x e g =
        on_call d a x e q open_ fit (goes_left (goes_token (seen tokens aliases 6 (a + 1 + 1) sign.Close close refl) g))
    primary_on {d = d} {a = a} (of_call q open_ fit (of_some s) close) x e g =
        on_call d a x e q open_ fit (goes_right (goes_part (series_rows s close) g))
    primary_on {d = d} {a = a} (of_parentheses {b = b} q fit ie close) x e g =
        by_sign d a e x sign.Open q
        (goes_limit fit (goes_token (seen tokens aliases 5 a sign.Open q refl)
        (goes_part (expression_rows ie (omega arith)) (goes_token (seen tokens aliases 6 b sign.Close close refl) g))))

    -- The rows spell a series with the parenthesis that closes it.
    pub series_rows : {d : ℕ} {xs : Arguments} {a b : ℕ} → IsSeries tokens aliases fits d xs a b → sign_at tokens aliases b ≡ sign.Close
        → Spells some_arguments (series aliases d) xs a (b + 1)
    series_rows {b = b} (of_last ie) close =
        by_rule (goes_part (expression_rows ie (omega arith))
        (goes_right (goes_token (seen tokens aliases 6 b sign.Close close refl) goes_done)))
    series_rows (of_further {m = m} ie comma s) close =
        by_rule (goes_part (expression_rows ie (omega arith))
        (goes_left (goes_token (seen tokens aliases 9 m sign.Comma comma refl) (goes_part (series_rows s close) goes_done))))
