-- The rows meet what their reader needs.
use Rattle.std.proofs.Common.{ℕ, ◌+◌, ◌<◌, ◌≤◌, ◌≡◌, ◌∙◌, ap, sym, subst, refl, true, false, Option, Some, None, List, arith, ◌⊎◌, inl, inr}
use Rattle.std.proofs.Common.{nat_eq, nat_le}
use Rattle.std.proofs.lemmas.Bool.{leb-true, leb-false, le-leb, lt-leb}
use Rattle.tsa_base.specs.Tokens.{Lexeme}
use Rattle.tsa_tree.specs.declared.expr.UnaryOp.{UnaryOp}
use Rattle.tsa_tree.specs.declared.expr.BinaryOp.{BinaryOp}
use Rattle.tsa_tree.specs.declared.sign.Sign.{Sign}
use Rattle.tsa_tree.specs.declared.sign.Sign.TheVariants as sign
use Rattle.tsa_tree.specs.expressions.Syntax.{Expression, number, null, named, call, binary, field, index, none}
use Rattle.tsa_tree.specs.tokens.Signs.{Aliases, sign_at, span_at, span_over, identifier_at, value_at, unsigned_at, operator, prefix}
use Rattle.tsa_tree.specs.tokens.Signs.{prefix_of, level, entry_meaning}
use Rattle.tsa_tree.specs.Rows.{Sort, an_expression, some_arguments, Call, expression, operation, operand, postfix, series, attributes}
use Rattle.tsa_tree.specs.Rows.{group, entries, balanced, consts, storage, specifier, declarator, initialiser, initialisers, declared_rest}
use Rattle.tsa_tree.specs.Rows.{declarators, member_line, members, variable, variables, locals, parameter_list, parameters, signature, head}
use Rattle.tsa_tree.specs.Rows.{struct_body, constants, enum_body, declared, item, items, simple, for_init, statement, statements, rank}
use Rattle.tsa_tree.specs.Rows.{mark, Kind, a_name, an_open, a_close, a_comma, a_not, a_flip, an_operator, sees, is_postfix, tightest}
use Rattle.tsa_tree.specs.Rows.{climb_on, operation_row, post, postfix_row, prefix_row, call_row, operand_row, rule}
use Rattle.tsa_grammar.specs.Form.{done}
use Rattle.tsa_tree.proofs.tokens.Facts.{is_plain, operator_mark, operator_no_postfix, operator_no_open, postfix_no_open, close_plain}
use Rattle.tsa_tree.proofs.tokens.Facts.{bracket_plain, comma_plain, plain_no_name, close_no_comma, level_low}
use Rattle.tsa_tree.proofs.RowFacts.{begins_no_close, lone, Ended, Loose, Ends, Next, Good, never, ended, no_callee, is_lone}
use Rattle.tsa_tree.proofs.declarations.Meet.{good_consts, good_specifier, good_declarator, good_initialiser, good_initialisers}
use Rattle.tsa_tree.proofs.declarations.DeclaratorsMeet.{good_rest, good_declarators, good_member_line, good_members, good_variable}
use Rattle.tsa_tree.proofs.declarations.DeclaratorsMeet.{good_variables, good_locals}
use Rattle.tsa_tree.proofs.declarations.ItemsMeet.{good_storage, good_parameter_list, good_parameters, good_signature, good_head}
use Rattle.tsa_tree.proofs.declarations.ItemsMeet.{good_struct_body, good_constants, good_enum_body, good_declared}
use Rattle.tsa_tree.proofs.declarations.ItemRowsMeet.{good_item}
use Rattle.tsa_tree.proofs.units.Meet.{good_items}
use Rattle.tsa_tree.proofs.statements.Meet.{good_simple, good_statement}
use Rattle.tsa_tree.proofs.statements.BlocksMeet.{good_for_init, good_statements}
use Rattle.tsa_tree.proofs.attributes.Meet.{good_attributes, good_group, good_entry, good_balanced}

some_same : (o p : BinaryOp) → Some o ≡ Some p → o ≡ p
some_same o p e = cc

-- Fewer parts stand at one token, one in another, than 64.
pub low : (s : Sort) (c : Call s) → rank s c < 64
low _ (expression aliases d k) = omega arith
low _ (operand aliases d) = omega arith
low _ (series aliases d) = omega arith
low _ c = omega arith

module _ (tokens : List Lexeme) where
  same_op : (aliases : Aliases) (m : ℕ) (o p : BinaryOp) → operator (sign_at tokens aliases m) ≡ Some o
      → operator (sign_at tokens aliases m) ≡ Some p → o ≡ p
  same_op aliases m o p e q = some_same o p (sym e ∙ q)

  no_op : (aliases : Aliases) (m : ℕ) (o : BinaryOp) → operator (sign_at tokens aliases m) ≡ None
      → operator (sign_at tokens aliases m) ≡ Some o → ⊥
  no_op aliases m o e q = let z : Some o ≡ None = sym q ∙ e in cc

  -- An operand ends before an operator.
  before_operator : (aliases : Aliases) (x : Expression) (m : ℕ) (o : BinaryOp) → operator (sign_at tokens aliases m) ≡ Some o
      → Ended tokens aliases x m
  before_operator aliases x m o e =
      (operator_no_postfix (sign_at tokens aliases m) o e, λ h. operator_no_open (sign_at tokens aliases m) o e)

  -- An operand ends where more of the expression or its end stands.
  next_climb : (aliases : Aliases) (d k top start : ℕ) (l : Expression) (m : ℕ) (o : Option BinaryOp)
      → operator (sign_at tokens aliases m) ≡ o
      → Next tokens an_expression (λ x e. Ended tokens aliases x e × Loose tokens aliases k e)
      (climb_on tokens aliases d k top start l m (λ x e. done x) o) m
      → Ended tokens aliases l m
  next_climb aliases d k top start l m None e h = h.0
  next_climb aliases d k top start l m (Some o) e (inl h) = before_operator aliases l m o e
  next_climb aliases d k top start l m (Some o) e (inr h) = h.0

  -- No operator that belongs to a right operand stands after it.
  ends_right : (aliases : Aliases) (d k top start : ℕ) (l : Expression) (m : ℕ) (o : Option BinaryOp)
      → operator (sign_at tokens aliases m) ≡ o → k ≤ top
      → Next tokens an_expression (λ x e. Ended tokens aliases x e × Loose tokens aliases k e)
      (climb_on tokens aliases d k top start l m (λ x e. done x) o) m
      → Loose tokens aliases (top + 1) m
  ends_right aliases d k top start l m None e le h = λ o q. absurd (no_op aliases m o e q)
  ends_right aliases d k top start l m (Some o) e le (inl h) =
      λ p q. lt-leb (top + 1) (level p) (omega (arith, leb-true (level o) top h.0, ap level (same_op aliases m o p e q)))
  ends_right aliases d k top start l m (Some o) e le (inr h) =
      λ p q. lt-leb (top + 1) (level p) (omega (arith, leb-false k (level p) (h.1 p q)))

  -- after an operand
  good_climb : (c : Call an_expression) (aliases : Aliases) (d k top start : ℕ) (l : Expression) (m : ℕ) (o : Option BinaryOp)
      → operator (sign_at tokens aliases m) ≡ o
      → ((x : Expression) (n : ℕ) → Ended tokens aliases x n × Loose tokens aliases k n → Ends tokens an_expression c x n)
      → ((x : Expression) (n : ℕ) → Ends tokens an_expression c x n → Ended tokens aliases x n × Loose tokens aliases k n)
      → Ended tokens aliases l m
      → ((o : BinaryOp) → operator (sign_at tokens aliases m) ≡ Some o → nat_le (level o) top ≡ true)
      → Good tokens an_expression c false (climb_on tokens aliases d k top start l m (λ x e. done x) o) m
  good_climb c aliases d k top start l m None e to from en low = to l m (en, λ o q. absurd (no_op aliases m o e q))
  good_climb c aliases d k top start l m (Some o) e to from en low = (
    (λ h. subst (λ o. nat_le k (level o) ≡ true) (same_op aliases m h.1.0 o h.1.1 e) h.1.2),
    (λ h. (from l m h).1 o e),
    (λ q. (low o e, (tt, λ y n. ((λ h. from y n h), (λ h. to y n h))))),
    (λ q. to l m (en, λ p q'. subst (λ o. nat_le k (level o) ≡ false) (same_op aliases m o p e q') q)),
  )

  good_expression : (aliases : Aliases) (d k m : ℕ)
      → Good tokens an_expression (expression aliases d k) true (rule tokens an_expression (expression aliases d k) m) m
  good_expression aliases d k m = (
    omega arith,
    λ x n. (
      (λ h. next_climb aliases d k tightest m x n (operator (sign_at tokens aliases n)) refl h),
      (λ h. good_climb (expression aliases d k) aliases d k tightest m x n (operator (sign_at tokens aliases n)) refl
          (λ x n h. h) (λ x n h. h) h (λ o q. level_low o)),
    ),
  )

  good_operation : (aliases : Aliases) (d k start : ℕ) (l : Expression) (m : ℕ) (o : Option BinaryOp)
      → operator (sign_at tokens aliases m) ≡ o
      → Good tokens an_expression (operation aliases d k start l) true (operation_row tokens aliases d k start l m o) m
  good_operation aliases d k start l m None e = λ q. never tokens m q
  good_operation aliases d k start l m (Some o) e = (
    (λ h. h.0),
    (λ h. never tokens m h),
    (λ p. (
      p,
      (
        operator_mark (sign_at tokens aliases m) o e,
        λ q. (
          tt,
          λ r n. (
            (λ h. (
              next_climb aliases d k (level o) start (binary o l r (span_over tokens start n)) n
                  (operator (sign_at tokens aliases n)) refl h,
              ends_right aliases d k (level o) start (binary o l r (span_over tokens start n)) n
                  (operator (sign_at tokens aliases n)) refl (leb-true k (level o) p) h,
            )),
            (λ h. good_climb (operation aliases d k start l) aliases d k (level o) start (binary o l r (span_over tokens start n)) n
                (operator (sign_at tokens aliases n)) refl (λ x n h. h) (λ x n h. h) h.0
                (λ o' q. le-leb (level o') (level o) (omega (arith, leb-false (level o + 1) (level o') (h.1 o' q))))),
          ),
        ),
      ),
    )),
    (λ p q. never tokens m q),
  )

  -- after a primary or a postfix operator
  good_post : (c : Call an_expression) (aliases : Aliases) (d start : ℕ) (base : Expression) (m : ℕ)
      → ((x : Expression) (n : ℕ) → Ended tokens aliases x n → Ends tokens an_expression c x n)
      → ((x : Expression) (n : ℕ) → Ends tokens an_expression c x n → Ended tokens aliases x n)
      → (lone tokens aliases base m ≡ true → sees tokens (an_open aliases) m ≡ false)
      → Good tokens an_expression c false (post tokens aliases d start base m (λ x e. done x)) m
  good_post c aliases d start base m to from callee =
      ((λ h. h), (λ h. (from base m h).0), (λ q. (tt, λ y n. ((λ h. from y n h), (λ h. to y n h)))), (λ q. to base m (q, callee)))

  post_operand : (aliases : Aliases) (d start : ℕ) (base : Expression) (n : ℕ)
      → (lone tokens aliases base n ≡ true → sees tokens (an_open aliases) n ≡ false)
      → Good tokens an_expression (operand aliases d) false (post tokens aliases d start base n (λ x e. done x)) n
  post_operand aliases d start base n callee =
      good_post (operand aliases d) aliases d start base n (λ x n h. h) (λ x n h. h) callee

  post_postfix : (aliases : Aliases) (d start : ℕ) (left base : Expression) (n : ℕ)
      → (lone tokens aliases base n ≡ true → sees tokens (an_open aliases) n ≡ false)
      → Good tokens an_expression (postfix aliases d start left) false (post tokens aliases d start base n (λ x e. done x)) n
  post_postfix aliases d start left base n callee =
      good_post (postfix aliases d start left) aliases d start base n (λ x n h. h) (λ x n h. h) callee

  good_postfix : (aliases : Aliases) (d start : ℕ) (base : Expression) (m : ℕ) (s : Sign) → sign_at tokens aliases m ≡ s
      → Good tokens an_expression (postfix aliases d start base) true (postfix_row tokens aliases d start base m s) m
  good_postfix aliases d start base m sign.Dot e = (
    ap (λ s. nat_eq (mark s) 11) e,
    λ q q'.
        post_postfix aliases d start base (field base (identifier_at tokens (m + 1)) false (span_over tokens start (m + 1 + 1))) (m + 1 + 1)
        (λ z. cc),
  )
  good_postfix aliases d start base m sign.Arrow e = (
    ap (λ s. nat_eq (mark s) 12) e,
    λ q q'.
        post_postfix aliases d start base (field base (identifier_at tokens (m + 1)) true (span_over tokens start (m + 1 + 1))) (m + 1 + 1)
        (λ z. cc),
  )
  good_postfix aliases d start base m sign.OpenBracket e = (
    ap (λ s. nat_eq (mark s) 8) e,
    (
      ap (λ s. nat_eq (mark s) 8) e,
      λ q. (
        tt,
        λ i n. (
          (λ h. ended tokens aliases i 0 n (bracket_plain (sign_at tokens aliases n) h)),
          (λ h h'. post_postfix aliases d start base (index base i (span_over tokens start (n + 1))) (n + 1) (λ z. cc)),
        ),
      ),
    ),
  )
  good_postfix aliases d start base m _ e = λ q. never tokens m q

  good_prefix : (aliases : Aliases) (d m : ℕ) (q : Kind) (o : Option UnaryOp) → sees tokens q m ≡ true
      → Good tokens an_expression (operand aliases d) true (prefix_row tokens aliases d m q o) m
  good_prefix aliases d m q None e = λ z. never tokens m z
  good_prefix aliases d m q (Some o) e = (e, λ z. (tt, λ x n. ((λ h. h), (λ h. h))))

  -- after a callee and its parenthesis
  good_call : (aliases : Aliases) (d m : ℕ) → Good tokens an_expression (operand aliases d) false (call_row tokens aliases d m) (m + 1 + 1)
  good_call aliases d m = (
    (λ h. h),
    (λ h. begins_no_close (sign_at tokens aliases (m + 1 + 1)) h),
    (λ p z. post_operand aliases d m (call (identifier_at tokens m) none (span_over tokens m (m + 1 + 1 + 1))) (m + 1 + 1 + 1)
        (λ z. cc)),
    (λ p. (
      tt,
      λ xs n. (
        (λ h. tt),
        (λ h. post_operand aliases d m (call (identifier_at tokens m) xs (span_over tokens m n)) n (λ z. cc)),
      ),
    )),
  )

  -- Where a name is no callee, no parenthesis follows it.
  no_open : (aliases : Aliases) (d m : ℕ) → sees tokens (a_name aliases) m ≡ true
      → (is_postfix (sign_at tokens aliases (m + 1)) ≡ true)
      ⊎ Ended tokens aliases (named (identifier_at tokens m) (span_at tokens m)) (m + 1)
      → sees tokens (an_open aliases) (m + 1) ≡ false
  no_open aliases d m q (inl h) = postfix_no_open (sign_at tokens aliases (m + 1)) h
  no_open aliases d m q (inr h) = h.1 (is_lone tokens aliases m q)

  good_operand : (aliases : Aliases) (d m : ℕ) (s : Sign) → sign_at tokens aliases m ≡ s
      → Good tokens an_expression (operand aliases d) true (operand_row tokens aliases d m s) m
  good_operand aliases d m sign.Not e = good_prefix aliases d m (a_not aliases) (prefix sign.Not) (ap (λ s. nat_eq (mark s) 13) e)
  good_operand aliases d m sign.Flip e = good_prefix aliases d m (a_flip aliases) (prefix sign.Flip) (ap (λ s. nat_eq (mark s) 14) e)
  good_operand aliases d m (sign.Operator o) e =
      good_prefix aliases d m (an_operator aliases) (prefix_of o) (ap (λ s. nat_eq (mark s) 15) e)
  good_operand aliases d m sign.Number e = λ q.
      post_operand aliases d m (number (value_at tokens m) (unsigned_at tokens m) (span_at tokens m)) (m + 1) (λ z. cc)
  good_operand aliases d m sign.Null e = λ q. post_operand aliases d m (null (span_at tokens m)) (m + 1) (λ z. cc)
  good_operand aliases d m sign.Name e = λ q. (
    (λ h. h),
    (λ h. no_open aliases d m q h),
    (λ p. (p, λ z. good_call aliases d m)),
    (λ p. post_operand aliases d m (named (identifier_at tokens m) (span_at tokens m)) (m + 1) (λ z. p)),
  )
  good_operand aliases d m sign.Open e = (
    ap (λ s. nat_eq (mark s) 6) e,
    λ q. (
      tt,
      λ x n. (
        (λ h. ended tokens aliases x 0 n (close_plain (sign_at tokens aliases n) h)),
        (λ h h'. post_operand aliases d m x (n + 1)
            (λ z. absurd (no_callee tokens aliases x n
            (plain_no_name (sign_at tokens aliases n) (close_plain (sign_at tokens aliases n) h')) z))),
      ),
    ),
  )
  good_operand aliases d m _ e = λ q. never tokens m q

  good_series : (aliases : Aliases) (d m : ℕ)
      → Good tokens some_arguments (series aliases d) true (rule tokens some_arguments (series aliases d) m) m
  good_series aliases d m = (
    omega arith,
    λ x n. (
      (λ h. ended tokens aliases x 0 n (closes n h)),
      (λ en. (
        (λ h. h),
        (λ h. close_no_comma (sign_at tokens aliases n) h),
        (λ p q. (tt, λ xs e. ((λ h. tt), (λ h. tt)))),
        (λ p q. tt),
      )),
    ),
  )
    where
      closes : (n : ℕ) → (sees tokens (a_comma aliases) n ≡ true) ⊎ (sees tokens (a_close aliases) n ≡ true)
          → is_plain (sign_at tokens aliases n) ≡ true
      closes n (inl h) = comma_plain (sign_at tokens aliases n) h
      closes n (inr h) = close_plain (sign_at tokens aliases n) h

  -- Each choice is decided by the token in sight, and each part ends where the rest may go on.
  pub good : (s : Sort) (c : Call s) (m : ℕ) → Good tokens s c true (rule tokens s c m) m
  good _ (expression aliases d k) m = good_expression aliases d k m
  good _ (operation aliases d k start l) m = good_operation aliases d k start l m (operator (sign_at tokens aliases m)) refl
  good _ (operand aliases d) m = good_operand aliases d m (sign_at tokens aliases m) refl
  good _ (postfix aliases d start base) m = good_postfix aliases d start base m (sign_at tokens aliases m) refl
  good _ (series aliases d) m = good_series aliases d m
  good _ (attributes aliases d) m = good_attributes tokens aliases d m
  good _ (group aliases d) m = good_group tokens aliases d m (sign_at tokens aliases m)
  good _ (entries aliases d) m = good_entry tokens aliases d m (entry_meaning tokens aliases m)
  good _ (balanced aliases d closer) m = good_balanced tokens aliases d closer m
  good _ (consts aliases) m = good_consts tokens aliases m
  good _ (storage aliases) m = good_storage tokens aliases m
  good _ (specifier aliases) m = good_specifier tokens aliases m
  good _ (declarator aliases) m = good_declarator tokens aliases m
  good _ (initialiser aliases d) m = good_initialiser tokens aliases d m
  good _ (initialisers aliases d) m = good_initialisers tokens aliases d m
  good _ (declared_rest aliases r d t c) m = good_rest tokens aliases r d t c m
  good _ (declarators aliases r d t) m = good_declarators tokens aliases r d t m
  good _ (member_line aliases d) m = good_member_line tokens aliases d m
  good _ (members aliases d) m = good_members tokens aliases d m
  good _ (variable aliases d t) m = good_variable tokens aliases d t m
  good _ (variables aliases d t) m = good_variables tokens aliases d t m
  good _ (locals aliases single d) m = good_locals tokens aliases single d m
  good _ (parameter_list aliases) m = good_parameter_list tokens aliases m
  good _ (parameters aliases) m = good_parameters tokens aliases m
  good _ (signature aliases) m = good_signature tokens aliases m
  good _ (head aliases) m = good_head tokens aliases m
  good _ (struct_body aliases) m = good_struct_body tokens aliases m
  good _ (constants aliases) m = good_constants tokens aliases m
  good _ (enum_body aliases) m = good_enum_body tokens aliases m
  good _ (declared aliases bodies t) m = good_declared tokens aliases bodies t m
  good _ (item aliases bodies) m = good_item tokens aliases bodies m
  good _ (items aliases) m = good_items tokens aliases m
  good _ (simple aliases d) m = good_simple tokens aliases d m
  good _ (for_init aliases d) m = good_for_init tokens aliases d m
  good _ (statement aliases d) m = good_statement tokens aliases d m
  good _ (statements aliases d) m = good_statements tokens aliases d m
