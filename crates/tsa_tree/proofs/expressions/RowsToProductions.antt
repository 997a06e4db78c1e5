-- The productions spell whatever the rows spell.
use Rattle.std.proofs.Common.{ℕ, ◌+◌, ◌≤◌, ◌≡◌, ap, sym, subst, refl, List, Bool, true, false, Some, None, arith}
use Rattle.std.proofs.lemmas.Bool.{leb-true}
use Rattle.std.specs.declared.option.Option.{Option}
use Rattle.tsa_base.specs.Tokens.{Lexeme}
use Rattle.tsa_tree.specs.declared.expr.UnaryOp.{UnaryOp}
use Rattle.tsa_tree.specs.declared.expr.BinaryOp.{BinaryOp}
use Rattle.tsa_tree.specs.declared.sign.Sign.{Sign}
use Rattle.tsa_tree.specs.declared.sign.Sign.TheVariants as sign
use Rattle.tsa_tree.specs.expressions.Syntax.{Expression, call, binary}
use Rattle.tsa_tree.specs.tokens.Signs.{Aliases, sign_at, span_over, identifier_at, operator, prefix, prefix_of, level, access}
use Rattle.tsa_tree.specs.expressions.Spelling.{IsExpression, of_unary, of_binary, IsUnary, of_postfix, of_prefix, IsPostfix, of_primary}
use Rattle.tsa_tree.specs.expressions.Spelling.{of_field, of_index, of_number, of_null, of_name, of_call, of_parentheses, of_none, of_some}
use Rattle.tsa_tree.specs.expressions.Spelling.{of_last, of_further}
use Rattle.tsa_tree.specs.Rows.{Sort, an_expression, some_arguments, Node, Call, expression, operation, operand, postfix, series}
use Rattle.tsa_tree.specs.Rows.{attributes, group, entries, balanced, Kind, kind, sees, tightest, climb, climb_on, operation_row, post}
use Rattle.tsa_tree.specs.Rows.{postfix_row, prefix_row, call_row, operand_row, series_end, rule}
use Rattle.tsa_tree.proofs.tokens.ProductionSigns.{shows_name, shows_open, shows_close, shows_close_bracket, shows_comma}
use Rattle.tsa_tree.proofs.Inductions as all
pub use Rattle.tsa_tree.proofs.attributes.Meanings.{Needs, Closed, Means, Keeps}
use Rattle.tsa_tree.proofs.attributes.RowSoundness.{keeps_attributes, keeps_one_group, keeps_entries, keeps_skip}
use Rattle.tsa_grammar.specs.Form.{done}
use Rattle.tsa_grammar.specs.Spelling as forms

-- what is tighter is as tight
pub weaken : {tokens : List Lexeme} {aliases : Aliases} {fits : ℕ → Bool} {d k l : ℕ} {t : Expression} {a b : ℕ}
    → IsExpression tokens aliases fits d k t a b → l ≤ k → IsExpression tokens aliases fits d l t a b
weaken (of_unary u) le = of_unary u
weaken (of_binary il q k_le fit ir) le = of_binary il q (omega arith) fit ir

module _ (tokens : List Lexeme) (fits : ℕ → Bool) where
  module _ (aliases : Aliases) where
    abbrev Unaries : (d a : ℕ) → Expression → ℕ → Type 0
    Unaries d a x b = IsUnary tokens aliases fits d x a b

    abbrev Postfixes : (d a : ℕ) → Expression → ℕ → Type 0
    Postfixes d a x b = IsPostfix tokens aliases fits d x a b

    abbrev Expressions : (d k a : ℕ) → Expression → ℕ → Type 0
    Expressions d k a x b = IsExpression tokens aliases fits d k x a b

    -- Behind an operand, more of the expression keeps to it.
    keeps_behind : (d k top start : ℕ) (l : Expression) (m : ℕ)
        → IsExpression tokens aliases fits d top l start m → IsExpression tokens aliases fits d k l start m
        → Keeps tokens fits an_expression (Expressions d k start) (climb tokens aliases d k top start l m (λ x e. done x)) m
    keeps_behind d k top start l m i j = go (operator (sign_at tokens aliases m)) refl
      where
        go : (o : Option BinaryOp) → operator (sign_at tokens aliases m) ≡ o
            → Keeps tokens fits an_expression (Expressions d k start) (climb_on tokens aliases d k top start l m (λ x e. done x) o) m
        go None q = j
        go (Some o) q =
            ((λ le. ((top, (λ p e. let same : o ≡ p = cc in subst (λ p. level p ≤ top) same (leb-true (level o) top le)), i, j), λ y n h. h)), j)

    keeps_operation : (d k start : ℕ) (l : Expression) (m : ℕ) → Needs tokens fits an_expression (operation aliases d k start l) m
        → Keeps tokens fits an_expression (Expressions d k start) (operation_row tokens aliases d k start l m (operator (sign_at tokens aliases m))) m
    keeps_operation d k start l m need = go (operator (sign_at tokens aliases m)) refl
      where
        go : (o : Option BinaryOp) → operator (sign_at tokens aliases m) ≡ o
            → Keeps tokens fits an_expression (Expressions d k start) (operation_row tokens aliases d k start l m o) m
        go None q = λ e. absurd (let never : false ≡ true = e in cc)
        go (Some o) q = (
          (λ le fit seen. (
            tt,
            λ r n ir.
                let left = weaken need.2 (need.1 o q) in
                keeps_behind d k (level o) start (binary o l r (span_over tokens start n)) n
                (of_binary left q (omega arith) fit ir) (of_binary left q (leb-true k (level o) le) fit ir),
          )),
          (λ e. absurd (let never : false ≡ true = e in cc)),
        )

    -- Behind an operand, postfix operators keep to it.
    keeps_after : (d start : ℕ) (base : Expression) (m : ℕ) → IsPostfix tokens aliases fits d base start m
        → Keeps tokens fits an_expression (Postfixes d start) (post tokens aliases d start base m (λ x e. done x)) m
    keeps_after d start base m i = ((i, λ y n h. h), i)

    keeps_unary : (d start : ℕ) (base : Expression) (m : ℕ) → IsPostfix tokens aliases fits d base start m
        → Keeps tokens fits an_expression (Unaries d start) (post tokens aliases d start base m (λ x e. done x)) m
    keeps_unary d start base m i = ((i, λ y n h. of_postfix h), of_postfix i)

    never : {A : Type 0} → false ≡ true → A
    never e = absurd cc

    keeps_postfix : (d start : ℕ) (base : Expression) (m : ℕ) → IsPostfix tokens aliases fits d base start m → (s : Sign)
        → sign_at tokens aliases m ≡ s → Keeps tokens fits an_expression (Postfixes d start) (postfix_row tokens aliases d start base m s) m
    keeps_postfix d start base m i sign.Dot q =
        λ fit seen name. keeps_after d start _ (m + 1 + 1) (of_field i (ap access q) fit (shows_name tokens aliases (m + 1) name))
    keeps_postfix d start base m i sign.Arrow q =
        λ fit seen name. keeps_after d start _ (m + 1 + 1) (of_field i (ap access q) fit (shows_name tokens aliases (m + 1) name))
    keeps_postfix d start base m i sign.OpenBracket q =
        λ fit fit' seen. (
          tt,
          λ x n ix close. keeps_after d start _ (n + 1)
              (of_index i q fit fit' ix (shows_close_bracket tokens aliases n close)),
        )
    keeps_postfix d start base m i _ q = never

    keeps_prefix : (d m : ℕ) (k : Kind) (o : Option UnaryOp) → prefix (sign_at tokens aliases m) ≡ o
        → Keeps tokens fits an_expression (Unaries d m) (prefix_row tokens aliases d m k o) m
    keeps_prefix d m k None q = never
    keeps_prefix d m k (Some o) q = λ fit seen. (tt, λ x n u. of_prefix q fit u)

    keeps_call : (d m : ℕ) → sign_at tokens aliases m ≡ sign.Name → sign_at tokens aliases (m + 1) ≡ sign.Open → fits d ≡ true
        → Keeps tokens fits an_expression (Unaries d m) (call_row tokens aliases d m) (m + 1 + 1)
    keeps_call d m q open_ fit = (
      (λ close. keeps_unary d m _ (m + 1 + 1 + 1) (of_primary (of_call q open_ fit of_none (shows_close tokens aliases (m + 1 + 1) close)))),
      (
        tt,
        λ xs n closed. keeps_unary d m _ n
            (subst (λ n. IsPostfix tokens aliases fits d (call (identifier_at tokens m) xs (span_over tokens m n)) m n) (sym closed.3)
            (of_primary (of_call q open_ fit (of_some closed.1) closed.2))),
      ),
    )

    keeps_operand : (d m : ℕ) (s : Sign) → sign_at tokens aliases m ≡ s
        → Keeps tokens fits an_expression (Unaries d m) (operand_row tokens aliases d m s) m
    keeps_operand d m sign.Not q = keeps_prefix d m (kind aliases 12) (prefix sign.Not) (ap prefix q)
    keeps_operand d m sign.Flip q = keeps_prefix d m (kind aliases 13) (prefix sign.Flip) (ap prefix q)
    keeps_operand d m (sign.Operator o) q = keeps_prefix d m (kind aliases 14) (prefix_of o) (ap prefix q)
    keeps_operand d m sign.Number q = λ seen. keeps_unary d m _ (m + 1) (of_primary (of_number q))
    keeps_operand d m sign.Null q = λ seen. keeps_unary d m _ (m + 1) (of_primary (of_null q))
    keeps_operand d m sign.Name q =
        λ seen. ((λ fit open_. keeps_call d m q (shows_open tokens aliases (m + 1) open_) fit), keeps_unary d m _ (m + 1) (of_primary (of_name q)))
    keeps_operand d m sign.Open q =
        λ fit seen. (
          tt,
          λ x n ix close. keeps_unary d m x (n + 1)
              (of_primary (of_parentheses q fit ix (shows_close tokens aliases n close))),
        )
    keeps_operand d m _ q = never

    keeps_series : (d a : ℕ) (x : Expression) (n : ℕ) → IsExpression tokens aliases fits d 0 x a n
        → Keeps tokens fits some_arguments (λ xs b. Closed tokens fits aliases d xs a b) (series_end tokens aliases d x n) n
    keeps_series d a x n i = (
      (λ comma. (
        tt,
        λ xs b closed.
            (closed.0, of_further i (shows_comma tokens aliases n comma) closed.1, closed.2, closed.3),
      )),
      (λ close. (n, of_last i, shows_close tokens aliases n close, refl)),
    )

  -- Every row keeps to its production.
  pub keeps : (s : Sort) (c : Call s) (a : ℕ) → Needs tokens fits s c a
      → Keeps tokens fits s (λ x b. Means tokens fits s c x a b) (rule tokens s c a) a
  keeps _ (expression aliases d k) a need = (tt, λ x n u. keeps_behind aliases d k tightest a x n (of_unary u) (of_unary u))
  keeps _ (operation aliases d k start l) a need = keeps_operation aliases d k start l a need
  keeps _ (operand aliases d) a need = keeps_operand aliases d a (sign_at tokens aliases a) refl
  keeps _ (postfix aliases d start base) a need = keeps_postfix aliases d start base a need (sign_at tokens aliases a) refl
  keeps _ (series aliases d) a need = (tt, λ x n i. keeps_series aliases d a x n i)
  keeps _ (attributes aliases d) a need = keeps_attributes tokens aliases fits d a
  keeps _ (group aliases d) a need = keeps_one_group tokens aliases fits d a
  keeps _ (entries aliases d) a need = keeps_entries tokens aliases fits d a
  keeps _ (balanced aliases d closer) a need = keeps_skip tokens aliases fits d closer a
  keeps _ other a need = absurd need

  -- What the rows spell is what the productions spell.
  pub production_of : {s : Sort} {c : Call s} {x : Node s} {a b : ℕ} → forms.Spells (rule tokens) (sees tokens) fits s c x a b
      → Needs tokens fits s c a → Means tokens fits s c x a b
  production_of sp need = all.means (rule tokens) (sees tokens) fits (Needs tokens fits) (Means tokens fits) keeps sp need
