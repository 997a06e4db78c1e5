-- The rows of blocks and of a `for`'s beginning meet what their reader needs, and no limit stops a reader where a statement begins.
use Rattle.std.proofs.Common.{ℕ, ◌≡◌, ◌∙◌, ap, refl, List, [], ◌∷◌, true, false, Option, Some, None, arith, ◌⊎◌, inl, inr, nat_eq}
use Rattle.tsa_base.specs.Tokens.{Lexeme}
use Rattle.tsa_tree.specs.declared.expr.UnaryOp.{UnaryOp}
use Rattle.tsa_tree.specs.declared.sign.Keyword.TheVariants as key
use Rattle.tsa_tree.specs.declared.sign.Sign.{Sign}
use Rattle.tsa_tree.specs.declared.sign.Sign.TheVariants as sign
use Rattle.tsa_tree.specs.declarations.Syntax.{Declaration}
use Rattle.tsa_tree.specs.tokens.Signs.{Aliases, sign_at, prefix, prefix_of}
use Rattle.tsa_tree.specs.Rows.{Sort, an_expression, a_simple, a_for_init, a_statement, some_statements, Call, expression, operand, simple}
use Rattle.tsa_tree.specs.Rows.{for_init, statement, statements, rank, mark, Kind, a_semicolon, a_not, a_flip, an_operator, sees}
use Rattle.tsa_tree.specs.Rows.{is_keyword, Row, prefix_row, operand_row, simple_row, statement_row, rule}
use Rattle.tsa_grammar.proofs.Good as g
use Rattle.tsa_tree.proofs.RowFacts.{begins_operand, begins_type, begins_statement, begins_simple, begins_inner, is_prefix, First, Ends}
use Rattle.tsa_tree.proofs.RowFacts.{Moves, EndsVariables, EndsLocals, Start, Good}
use Rattle.tsa_tree.proofs.declarations.Facts.{semicolon_plain, semicolon_no_comma, type_no_brace}
use Rattle.tsa_tree.proofs.declarations.Meet.{settled_declarator}
use Rattle.tsa_tree.proofs.declarations.DeclaratorsMeet.{local_over}
use Rattle.tsa_tree.proofs.statements.Facts.{simple_no_semicolon, type_no_semicolon, simple_no_type, statement_no_type, statement_no_brace}
use Rattle.tsa_tree.proofs.statements.Facts.{inner_no_else, brace_inner, type_inner, statement_inner}
use Rattle.tsa_tree.proofs.statements.Meet.{simple_over}

module _ (tokens : List Lexeme) where
  variables_over : (aliases : Aliases) (x : Declaration) (xs : List Declaration) (n : ℕ) → sees tokens (a_semicolon aliases) n ≡ true
      → EndsVariables tokens aliases x xs n
  variables_over aliases x [] n h =
      (local_over tokens aliases x.ctype.length x.init n (semicolon_plain (sign_at tokens aliases n) h), semicolon_no_comma (sign_at tokens aliases n) h)
  variables_over aliases x (y ∷ ys) n h = variables_over aliases y ys n h

  -- Locals are over before their `;`.
  locals_over : (aliases : Aliases) (xs : List Declaration) (n : ℕ) → sees tokens (a_semicolon aliases) n ≡ true
      → EndsLocals tokens aliases false xs n
  locals_over aliases [] n h = tt
  locals_over aliases (x ∷ xs) n h = variables_over aliases x xs n h

  -- What stands in a block ends before what stands next in it.
  pub good_statements : (aliases : Aliases) (d m : ℕ)
      → Good tokens some_statements (statements aliases d) true (rule tokens some_statements (statements aliases d) m) m
  good_statements aliases d m = (
    (λ h. h),
    (λ h. no_brace h),
    (λ e p. tt),
    (λ e. (
      (λ h. h),
      (λ h. statement_no_type (sign_at tokens aliases m) h),
      (λ p. (
        omega arith,
        λ xs n. (
          (λ h. locals_over aliases xs n h),
          (λ h q. (tt, λ ys e. ((λ h. tt), (λ h. tt)))),
        ),
      )),
      (λ p. (
        omega arith,
        λ x n. (
          (λ h q. inner_no_else (sign_at tokens aliases n) h),
          (λ h. (tt, λ ys e. ((λ h. tt), (λ h. tt)))),
        ),
      )),
    )),
  )
    where
      no_brace : (begins_type (sign_at tokens aliases m) ≡ true) ⊎ (begins_statement (sign_at tokens aliases m) ≡ true)
          → nat_eq (mark (sign_at tokens aliases m)) 18 ≡ false
      no_brace (inl h) = type_no_brace (sign_at tokens aliases m) h
      no_brace (inr h) = statement_no_brace (sign_at tokens aliases m) h

  pub first_statements : (aliases : Aliases) (d m : ℕ)
      → Start tokens some_statements (rule tokens some_statements (statements aliases d) m) m → begins_inner (sign_at tokens aliases m) ≡ true
  first_statements aliases d m (inl h) = brace_inner (sign_at tokens aliases m) h
  first_statements aliases d m (inr (inl h)) = type_inner (sign_at tokens aliases m) h
  first_statements aliases d m (inr (inr h)) = statement_inner (sign_at tokens aliases m) h

  pub good_for_init : (aliases : Aliases) (d m : ℕ)
      → Good tokens a_for_init (for_init aliases d) true (rule tokens a_for_init (for_init aliases d) m) m
  good_for_init aliases d m = (
    (λ h. h),
    (λ h. no_semicolon h),
    (λ e p. tt),
    (λ e. (
      (λ h. h),
      (λ h. simple_no_type (sign_at tokens aliases m) h),
      (λ p. (
        omega arith,
        λ t n. (
          (λ h. settled_declarator tokens aliases n h),
          (λ h. (
            tt,
            λ x e. (
              (λ h. local_over tokens aliases x.ctype.length x.init e (semicolon_plain (sign_at tokens aliases e) h)),
              (λ h q. tt),
            ),
          )),
        ),
      )),
      (λ p. (
        omega arith,
        λ x n. (
          (λ h. simple_over tokens aliases x.ending n (semicolon_plain (sign_at tokens aliases n) h)),
          (λ h q. tt),
        ),
      )),
    )),
  )
    where
      no_semicolon : (begins_type (sign_at tokens aliases m) ≡ true) ⊎ (begins_simple (sign_at tokens aliases m) ≡ true)
          → nat_eq (mark (sign_at tokens aliases m)) 19 ≡ false
      no_semicolon (inl h) = type_no_semicolon (sign_at tokens aliases m) h
      no_semicolon (inr h) = simple_no_semicolon (sign_at tokens aliases m) h

  abbrev Past : (s : Sort) → Row s → ℕ → Type 0
  Past s f m = g.Past (sees tokens) (First tokens) (Ends tokens) (Moves tokens) rank s f m

  past_prefix : (aliases : Aliases) (d m : ℕ) (k : Kind) (o : Option UnaryOp) → is_prefix o ≡ true → sees tokens k m ≡ true
      → Past an_expression (prefix_row tokens aliases d m k o) m
  past_prefix aliases d m k None h e = cc
  past_prefix aliases d m k (Some o) h e = e

  past_operand : (aliases : Aliases) (d m : ℕ) (s : Sign) → sign_at tokens aliases m ≡ s → begins_operand s ≡ true
      → Past an_expression (operand_row tokens aliases d m s) m
  past_operand aliases d m sign.Not q h = past_prefix aliases d m (a_not aliases) (prefix sign.Not) refl (ap (λ s. nat_eq (mark s) 13) q)
  past_operand aliases d m sign.Flip q h = past_prefix aliases d m (a_flip aliases) (prefix sign.Flip) refl (ap (λ s. nat_eq (mark s) 14) q)
  past_operand aliases d m (sign.Operator o) q h =
      past_prefix aliases d m (an_operator aliases) (prefix_of o) h (ap (λ s. nat_eq (mark s) 15) q)
  past_operand aliases d m sign.Number q h = ap (λ s. nat_eq (mark s) 4) q
  past_operand aliases d m sign.Null q h = ap (λ s. nat_eq (mark s) 5) q
  past_operand aliases d m sign.Name q h = ap (λ s. nat_eq (mark s) 3) q
  past_operand aliases d m sign.Open q h = ap (λ s. nat_eq (mark s) 6) q
  past_operand aliases d m _ q h = cc

  past_simple : (aliases : Aliases) (d m : ℕ) (s : Sign) → sign_at tokens aliases m ≡ s → begins_simple s ≡ true
      → Past a_simple (simple_row tokens aliases d m s) m
  past_simple aliases d m (sign.Step o) q h = ap (λ s. nat_eq (mark s) 26) q
  past_simple aliases d m _ q h = ap begins_operand q ∙ h

  past_statement : (aliases : Aliases) (d m : ℕ) (s : Sign) → sign_at tokens aliases m ≡ s → begins_statement s ≡ true
      → Past a_statement (statement_row tokens aliases d m s) m
  past_statement aliases d m sign.OpenBrace q h = ap (λ s. nat_eq (mark s) 17) q
  past_statement aliases d m sign.Semicolon q h = ap (λ s. nat_eq (mark s) 19) q
  past_statement aliases d m (sign.Keyword key.If) q h = ap (is_keyword key.If) q
  past_statement aliases d m (sign.Keyword key.While) q h = ap (is_keyword key.While) q
  past_statement aliases d m (sign.Keyword key.Do) q h = ap (is_keyword key.Do) q
  past_statement aliases d m (sign.Keyword key.For) q h = ap (is_keyword key.For) q
  past_statement aliases d m (sign.Keyword key.Switch) q h = ap (is_keyword key.Switch) q
  past_statement aliases d m (sign.Keyword key.Case) q h = ap (is_keyword key.Case) q
  past_statement aliases d m (sign.Keyword key.Default) q h = ap (is_keyword key.Default) q
  past_statement aliases d m (sign.Keyword key.Break) q h = ap (is_keyword key.Break) q
  past_statement aliases d m (sign.Keyword key.Continue) q h = ap (is_keyword key.Continue) q
  past_statement aliases d m (sign.Keyword key.Goto) q h = ap (is_keyword key.Goto) q
  past_statement aliases d m (sign.Keyword key.Return) q h = ap (is_keyword key.Return) q
  past_statement aliases d m sign.Name q h = (
    (λ e. ap (λ s. nat_eq (mark s) 3) q),
    (λ e. ap begins_simple q),
  )
  past_statement aliases d m (sign.Step o) q h = ap begins_simple q
  past_statement aliases d m (sign.Keyword _) q h = cc
  past_statement aliases d m _ q h = ap begins_simple q ∙ h

  -- A reader goes past the first token of a statement.
  pub moves : (s : Sort) (c : Call s) (m : ℕ) → Moves tokens s c m → Past s (rule tokens s c m) m
  moves _ (expression aliases d k) m h = h
  moves _ (operand aliases d) m h = past_operand aliases d m (sign_at tokens aliases m) refl h
  moves _ (simple aliases d) m h = past_simple aliases d m (sign_at tokens aliases m) refl h
  moves _ (statement aliases d) m h = past_statement aliases d m (sign_at tokens aliases m) refl h
  moves _ other m h = absurd h
