-- Whatever begins a part by the rows begins it by the productions.
use Rattle.std.proofs.Common.{ℕ, ◌+◌, ◌≤◌, ◌≡◌, ap, sym, subst, refl, List, Bool, true, false, Some, None, arith, inl, inr}
use Rattle.std.proofs.lemmas.Bool.{leb-true}
use Rattle.std.specs.declared.option.Option.{Option}
use Rattle.tsa_base.specs.Tokens.{Lexeme}
use Rattle.tsa_base.proofs.Truths.{never_true as never}
use Rattle.tsa_tree.specs.declared.expr.UnaryOp.{UnaryOp}
use Rattle.tsa_tree.specs.declared.expr.BinaryOp.{BinaryOp}
use Rattle.tsa_tree.specs.declared.sign.Sign.{Sign}
use Rattle.tsa_tree.specs.declared.sign.Sign.TheVariants as sign
use Rattle.tsa_tree.specs.expressions.Syntax.{Expression, Arguments, call, binary, none, more}
use Rattle.tsa_tree.specs.tokens.Signs.{Aliases, sign_at, span_over, identifier_at, operator, prefix, prefix_of, level, access}
use Rattle.tsa_tree.specs.expressions.Spelling.{IsExpression, of_unary, of_binary, IsUnary, of_postfix, of_prefix, IsPostfix, of_primary}
use Rattle.tsa_tree.specs.expressions.Spelling.{of_field, of_index, of_number, of_null, of_name, of_call, of_parentheses, of_none, of_some}
use Rattle.tsa_tree.specs.expressions.Spelling.{of_last, of_further}
use Rattle.tsa_tree.specs.expressions.Beginnings.{BeginsExpression, begins_unary, begins_left, begins_right, BeginsUnary, begins_nothing}
use Rattle.tsa_tree.specs.expressions.Beginnings.{begins_operand, begins_call, begins_parentheses, begins_base, begins_member, begins_index}
use Rattle.tsa_tree.specs.expressions.Beginnings.{begins_item, begins_next}
use Rattle.tsa_tree.specs.Rows.{Sort, an_expression, some_arguments, Call, expression, operation, operand, postfix, series, attributes}
use Rattle.tsa_tree.specs.Rows.{group, entries, balanced, Kind, kind, sees, tightest, climb, climb_on, operation_row, post, postfix_row}
use Rattle.tsa_tree.specs.Rows.{prefix_row, call_row, operand_row, series_end, rule}
use Rattle.tsa_tree.proofs.tokens.ProductionSigns.{shows_name, shows_open, shows_close, shows_close_bracket, shows_comma}
use Rattle.tsa_tree.proofs.Inductions as all
use Rattle.tsa_tree.proofs.attributes.Meanings.{Needs, Closed, Means, Begun, Refused, Opens}
use Rattle.tsa_tree.proofs.attributes.Beginnings.{opens_attributes, opens_one_group, opens_entries}
use Rattle.tsa_tree.proofs.attributes.Skips.{opens_skip}
use Rattle.tsa_tree.proofs.expressions.RowsToProductions.{weaken, keeps}
use Rattle.tsa_grammar.specs.Form.{done}
use Rattle.tsa_grammar.specs.Spelling as forms

-- a whole unary expression begins one
pub whole_unary : {tokens : List Lexeme} {aliases : Aliases} {fits : ℕ → Bool} {d : ℕ} {t : Expression} {a b : ℕ}
    → IsUnary tokens aliases fits d t a b → BeginsUnary tokens aliases fits d a b
whole_unary (of_postfix p) = begins_base p
whole_unary (of_prefix q fit u) = begins_operand q fit (whole_unary u)

-- nothing of an expression is refused by a rule of the grammar's own
abbrev Nowhere : ℕ → ℕ → Type 0
Nowhere b q = ⊥

module _ (tokens : List Lexeme) (fits : ℕ → Bool) where
  module _ (aliases : Aliases) where
    nothing_yet : {d k a : ℕ} → BeginsExpression tokens aliases fits d k a a
    nothing_yet = begins_unary begins_nothing

    opens_behind : (d k top start : ℕ) (l : Expression) (m : ℕ)
        → IsExpression tokens aliases fits d top l start m → IsExpression tokens aliases fits d k l start m
        → Opens tokens fits an_expression (λ b. BeginsExpression tokens aliases fits d k start b) Nowhere
        (climb tokens aliases d k top start l m (λ x e. done x)) m
    opens_behind d k top start l m i j = go (operator (sign_at tokens aliases m)) refl
      where
        go : (o : Option BinaryOp) → operator (sign_at tokens aliases m) ≡ o
            → Opens tokens fits an_expression (λ b. BeginsExpression tokens aliases fits d k start b) Nowhere
            (climb_on tokens aliases d k top start l m (λ x e. done x) o) m
        go None q = begins_left j
        go (Some o) q = (
          (
            begins_left j,
            λ le. (
              begins_left j,
              (top, (λ p e. let same : o ≡ p = cc in subst (λ p. level p ≤ top) same (leb-true (level o) top le)), i, j),
              (λ b h. h),
              (λ b q h. h),
              (λ y n h. begins_left h),
            ),
          ),
          begins_left j,
        )

    opens_operation : (d k start : ℕ) (l : Expression) (m : ℕ) → Needs tokens fits an_expression (operation aliases d k start l) m
        → Opens tokens fits an_expression (λ b. BeginsExpression tokens aliases fits d k start b) Nowhere
        (operation_row tokens aliases d k start l m (operator (sign_at tokens aliases m))) m
    opens_operation d k start l m need = go (operator (sign_at tokens aliases m)) refl
      where
        go : (o : Option BinaryOp) → operator (sign_at tokens aliases m) ≡ o
            → Opens tokens fits an_expression (λ b. BeginsExpression tokens aliases fits d k start b) Nowhere
            (operation_row tokens aliases d k start l m o) m
        go None q = (begins_left need.3, λ e. absurd (let no : false ≡ true = e in cc))
        go (Some o) q =
            let left = weaken need.2 (need.1 o q) in (
              (
                begins_left need.3,
                λ le. (
                  begins_left need.3,
                  λ fit. (
                    begins_left need.3,
                    λ seen. (
                      begins_right left q (leb-true k (level o) le) fit nothing_yet,
                      tt,
                      (λ b h. begins_right left q (leb-true k (level o) le) fit h),
                      (λ b q h. h),
                      (λ r n ir. opens_behind d k (level o) start (binary o l r (span_over tokens start n)) n
                          (of_binary left q (omega arith) fit ir) (of_binary left q (leb-true k (level o) le) fit ir)),
                    ),
                  ),
                ),
              ),
              (begins_left need.3, λ e. absurd (let no : false ≡ true = e in cc)),
            )

    opens_after : (d start : ℕ) (base : Expression) (m : ℕ) → IsPostfix tokens aliases fits d base start m
        → Opens tokens fits an_expression (λ b. BeginsUnary tokens aliases fits d start b) Nowhere
        (post tokens aliases d start base m (λ x e. done x)) m
    opens_after d start base m i = ((begins_base i, i, (λ b h. h), (λ b q h. h), (λ y n h. begins_base h)), begins_base i)

    opens_postfix : (d start : ℕ) (base : Expression) (m : ℕ) → IsPostfix tokens aliases fits d base start m → (s : Sign)
        → sign_at tokens aliases m ≡ s
        → Opens tokens fits an_expression (λ b. BeginsUnary tokens aliases fits d start b) Nowhere
        (postfix_row tokens aliases d start base m s) m
    opens_postfix d start base m i sign.Dot q = (
      begins_base i,
      λ fit. (
        begins_base i,
        λ seen. (
          begins_member i (ap access q) fit,
          λ name.
              opens_after d start _ (m + 1 + 1) (of_field i (ap access q) fit (shows_name tokens aliases (m + 1) name)),
        ),
      ),
    )
    opens_postfix d start base m i sign.Arrow q = (
      begins_base i,
      λ fit. (
        begins_base i,
        λ seen. (
          begins_member i (ap access q) fit,
          λ name.
              opens_after d start _ (m + 1 + 1) (of_field i (ap access q) fit (shows_name tokens aliases (m + 1) name)),
        ),
      ),
    )
    opens_postfix d start base m i sign.OpenBracket q = (
      begins_base i,
      λ fit. (
        begins_base i,
        λ fit'. (
          begins_base i,
          λ seen. (
            begins_index i q fit fit' nothing_yet,
            tt,
            (λ b h. begins_index i q fit fit' h),
            (λ b q h. h),
            (λ x n ix. (
              begins_index i q fit fit' (begins_left ix),
              λ close.
                  opens_after d start _ (n + 1) (of_index i q fit fit' ix (shows_close_bracket tokens aliases n close)),
            )),
          ),
        ),
      ),
    )
    opens_postfix d start base m i _ q = (begins_base i, never)

    opens_prefix : (d m : ℕ) (k : Kind) (o : Option UnaryOp) → prefix (sign_at tokens aliases m) ≡ o
        → Opens tokens fits an_expression (λ b. BeginsUnary tokens aliases fits d m b) Nowhere (prefix_row tokens aliases d m k o) m
    opens_prefix d m k None q = (begins_nothing, never)
    opens_prefix d m k (Some o) q = (
      begins_nothing,
      λ fit. (
        begins_nothing,
        λ seen. (
          begins_operand q fit begins_nothing,
          tt,
          (λ b h. begins_operand q fit h),
          (λ b q h. h),
          (λ x n u. begins_operand q fit (whole_unary u)),
        ),
      ),
    )

    -- a call whose series of arguments is closed
    closed_call : (d m n : ℕ) (xs : Arguments) → sign_at tokens aliases m ≡ sign.Name → sign_at tokens aliases (m + 1) ≡ sign.Open
        → fits d ≡ true → Closed tokens fits aliases (d + 1) xs (m + 1 + 1) n
        → IsPostfix tokens aliases fits d (call (identifier_at tokens m) xs (span_over tokens m n)) m n
    closed_call d m n xs q open_ fit closed =
        subst (λ n. IsPostfix tokens aliases fits d (call (identifier_at tokens m) xs (span_over tokens m n)) m n) (sym closed.3)
        (of_primary (of_call q open_ fit (of_some closed.1) closed.2))

    opens_call : (d m : ℕ) → sign_at tokens aliases m ≡ sign.Name → sign_at tokens aliases (m + 1) ≡ sign.Open → fits d ≡ true
        → Opens tokens fits an_expression (λ b. BeginsUnary tokens aliases fits d m b) Nowhere (call_row tokens aliases d m) (m + 1 + 1)
    opens_call d m q open_ fit =
        let no_argument = begins_call q open_ fit (begins_item nothing_yet) in (
          (
            no_argument,
            λ close. opens_after d m _ (m + 1 + 1 + 1)
                (of_primary (of_call q open_ fit of_none (shows_close tokens aliases (m + 1 + 1) close))),
          ),
          (
            no_argument,
            tt,
            (λ b h. elim h [ inl h ↦ begins_call q open_ fit h | inr h ↦ begins_base (closed_call d m b h.0 q open_ fit h.1) ]),
            (λ b q h. h),
            (λ xs n closed. opens_after d m _ n (closed_call d m n xs q open_ fit closed)),
          ),
        )

    opens_operand : (d m : ℕ) (s : Sign) → sign_at tokens aliases m ≡ s
        → Opens tokens fits an_expression (λ b. BeginsUnary tokens aliases fits d m b) Nowhere (operand_row tokens aliases d m s) m
    opens_operand d m sign.Not q = opens_prefix d m (kind aliases 12) (prefix sign.Not) (ap prefix q)
    opens_operand d m sign.Flip q = opens_prefix d m (kind aliases 13) (prefix sign.Flip) (ap prefix q)
    opens_operand d m (sign.Operator o) q = opens_prefix d m (kind aliases 14) (prefix_of o) (ap prefix q)
    opens_operand d m sign.Number q = (begins_nothing, λ seen. opens_after d m _ (m + 1) (of_primary (of_number q)))
    opens_operand d m sign.Null q = (begins_nothing, λ seen. opens_after d m _ (m + 1) (of_primary (of_null q)))
    opens_operand d m sign.Name q =
        let named = begins_base (of_primary (of_name q)) in (
          begins_nothing,
          λ seen. (
            (named, λ fit. (named, λ open_. opens_call d m q (shows_open tokens aliases (m + 1) open_) fit)),
            opens_after d m _ (m + 1) (of_primary (of_name q)),
          ),
        )
    opens_operand d m sign.Open q = (
      begins_nothing,
      λ fit. (
        begins_nothing,
        λ seen. (
          begins_parentheses q fit nothing_yet,
          tt,
          (λ b h. begins_parentheses q fit h),
          (λ b q h. h),
          (λ x n ix. (
            begins_parentheses q fit (begins_left ix),
            λ close.
                opens_after d m x (n + 1) (of_primary (of_parentheses q fit ix (shows_close tokens aliases n close))),
          )),
        ),
      ),
    )
    opens_operand d m _ q = (begins_nothing, never)

    opens_series : (d a : ℕ) (x : Expression) (n : ℕ) → IsExpression tokens aliases fits d 0 x a n
        → Opens tokens fits some_arguments (λ b. Begun tokens fits some_arguments (series aliases d) a b) Nowhere
        (series_end tokens aliases d x n) n
    opens_series d a x n i = (
      (
        inl (begins_item (begins_left i)),
        λ comma. (
          inl (begins_next i (shows_comma tokens aliases n comma) (begins_item nothing_yet)),
          tt,
          (λ b h. elim h [
            | inl h ↦ inl (begins_next i (shows_comma tokens aliases n comma) h)
            | inr h ↦ inr (more x h.0, (h.1.0, of_further i (shows_comma tokens aliases n comma) h.1.1, h.1.2, h.1.3))
          ]),
          (λ b q h. h),
          (λ xs b h. inr (more x xs, (h.0, of_further i (shows_comma tokens aliases n comma) h.1, h.2, h.3))),
        ),
      ),
      (inl (begins_item (begins_left i)), λ close. inr (more x none, (n, of_last i, shows_close tokens aliases n close, refl))),
    )

  -- Every row begins as its production does.
  opens : (s : Sort) (c : Call s) (a : ℕ) → Needs tokens fits s c a
      → Opens tokens fits s (λ b. Begun tokens fits s c a b) (λ b q. Refused tokens fits s c a b q) (rule tokens s c a) a
  opens _ (expression aliases d k) a need = (
    nothing_yet aliases,
    tt,
    (λ b h. begins_unary h),
    (λ b q h. h),
    (λ x n u. opens_behind aliases d k tightest a x n (of_unary u) (of_unary u)),
  )
  opens _ (operation aliases d k start l) a need = opens_operation aliases d k start l a need
  opens _ (operand aliases d) a need = opens_operand aliases d a (sign_at tokens aliases a) refl
  opens _ (postfix aliases d start base) a need = opens_postfix aliases d start base a need (sign_at tokens aliases a) refl
  opens _ (series aliases d) a need = (
    inl (begins_item (nothing_yet aliases)),
    tt,
    (λ b h. inl (begins_item h)),
    (λ b q h. h),
    (λ x n i. opens_series aliases d a x n i),
  )
  opens _ (attributes aliases d) a need = opens_attributes tokens aliases fits d a
  opens _ (group aliases d) a need = opens_one_group tokens aliases fits d a
  opens _ (entries aliases d) a need = opens_entries tokens aliases fits d a
  opens _ (balanced aliases d closer) a need = opens_skip tokens aliases fits d closer a
  opens _ other a need = absurd need

  -- What begins a part by the rows begins it by the productions.
  pub beginning_of : {s : Sort} {c : Call s} {a b : ℕ} → forms.Begins (rule tokens) (sees tokens) fits s c a b None
      → Needs tokens fits s c a → Begun tokens fits s c a b
  beginning_of g need =
      all.reached (rule tokens) (sees tokens) fits (Needs tokens fits) (Means tokens fits) (Begun tokens fits) (Refused tokens fits)
      (keeps tokens fits) opens g need

  -- What the rows refuse in a part by a rule of their own, the productions refuse there by the same rule.
  pub refusal_of : {s : Sort} {c : Call s} {a b q : ℕ} → forms.Begins (rule tokens) (sees tokens) fits s c a b (Some q)
      → Needs tokens fits s c a → Refused tokens fits s c a b q
  refusal_of g need =
      all.reached (rule tokens) (sees tokens) fits (Needs tokens fits) (Means tokens fits) (Begun tokens fits) (Refused tokens fits)
      (keeps tokens fits) opens g need
