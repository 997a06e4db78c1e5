-- The rows of types, declarators and initialisers meet what their reader needs.
use Rattle.std.proofs.Common.{ℕ, ◌+◌, ◌-◌, ◌<◌, ◌≡◌, ◌∙◌, ap, sym, subst, refl, List, [], Bool, true, false, Option, Some, None, arith, ◌⊎◌}
use Rattle.std.proofs.Common.{inl, inr}
use Rattle.tsa_base.specs.Tokens.{Lexeme}
use Rattle.tsa_tree.specs.declared.sign.Keyword.TheVariants as key
use Rattle.tsa_tree.specs.declared.sign.Sign.{Sign}
use Rattle.tsa_tree.specs.declared.sign.Sign.TheVariants as sign
use Rattle.tsa_tree.specs.attributes.Syntax.{Attribute}
use Rattle.tsa_tree.specs.declarations.Syntax.{Base, int, unsigned, void, structure, enumerated, alias, Initialiser, value, list}
use Rattle.tsa_tree.specs.expressions.Syntax.{Expression}
use Rattle.tsa_tree.specs.tokens.Signs.{Aliases, sign_at, identifier_at, is_star}
use Rattle.tsa_tree.specs.Rows.{Sort, a_skip, a_specifier, a_declarator, an_initialiser, some_initialisers, some_attributes, Call}
use Rattle.tsa_tree.specs.Rows.{attributes, consts, specifier, declarator, initialiser, initialisers, rank, a_name, a_comma}
use Rattle.tsa_tree.specs.Rows.{an_open_bracket, a_close_brace, sees, is_keyword, Row, behind_consts, specified, with_int, specifier_row}
use Rattle.tsa_tree.specs.Rows.{behind_star, behind_length, behind_attributes, list_row, rule}
use Rattle.tsa_grammar.specs.Form.{done, token}
use Rattle.tsa_grammar.proofs.Good as g
use Rattle.tsa_tree.proofs.tokens.Facts.{is_plain, comma_plain, bracket_plain}
use Rattle.tsa_tree.proofs.RowFacts.{begins_type, begins_declarator, begins_initialiser, is_signing, First, Ends, Moves, Next, Start, Good}
use Rattle.tsa_tree.proofs.RowFacts.{Settled, EndsValue, Bare, never, ended}
use Rattle.tsa_tree.proofs.declarations.Facts.{declarator_no_keyword, name_no_star, name_no_keyword, brace_plain, brace_no_comma}
use Rattle.tsa_tree.proofs.declarations.Facts.{const_no_int, unsigning, tag_unsigned, operand_no_brace, operand_begins, brace_begins}
use Rattle.tsa_tree.proofs.declarations.Facts.{initialiser_no_brace, star_begins, name_begins}

module _ (tokens : List Lexeme) where
  -- what is known of the token before m, where it is told of the place before m + 1
  pub before : (P : Sign → Type 0) (aliases : Aliases) (m : ℕ) → P (sign_at tokens aliases m) → P (sign_at tokens aliases (m + 1 - 1))
  before P aliases m h = let back : m ≡ m + 1 - 1 = omega arith in subst (λ i. P (sign_at tokens aliases i)) back h

  -- after a token that is neither `unsigned` nor `signed`, `int` makes no more of the type
  pub unsigned_no_more : (aliases : Aliases) (m : ℕ) → is_signing (sign_at tokens aliases m) ≡ false
      → is_signing (sign_at tokens aliases (m + 1 - 1)) ≡ true → is_keyword key.Int (sign_at tokens aliases (m + 1)) ≡ false
  unsigned_no_more aliases m e h =
      let back : m ≡ m + 1 - 1 = omega arith in
      let never : false ≡ true = sym e ∙ (subst (λ i. is_signing (sign_at tokens aliases i) ≡ true) (sym back) h) in cc

  -- a type is over before a declarator
  pub settled_declarator : (aliases : Aliases) (m : ℕ) → begins_declarator (sign_at tokens aliases m) ≡ true → Settled tokens aliases m
  settled_declarator aliases m h =
      (declarator_no_keyword key.Const (sign_at tokens aliases m) h, λ q. declarator_no_keyword key.Int (sign_at tokens aliases m) h)

  -- after a type's first part, `const` may follow
  pub good_behind_consts : {s : Sort} (c : Call s) (aliases : Aliases) (m : ℕ) (end : Bool → ℕ → Row s)
      → (Next tokens s (Ends tokens s c) (end false m) m → is_keyword key.Const (sign_at tokens aliases m) ≡ false)
      → ((n : ℕ) → Next tokens s (Ends tokens s c) (end true n) n → Settled tokens aliases n)
      → ((n : ℕ) → Settled tokens aliases n → Good tokens s c false (end true n) n)
      → (is_keyword key.Const (sign_at tokens aliases m) ≡ false → Good tokens s c false (end false m) m)
      → Good tokens s c false (behind_consts tokens aliases m end) m
  good_behind_consts c aliases m end without settles with_it goes = ((λ e. e), without, (λ e. (tt, λ u n. (settles n, with_it n))), goes)

  pub good_consts : (aliases : Aliases) (m : ℕ) → Good tokens a_skip (consts aliases) true (rule tokens a_skip (consts aliases) m) m
  good_consts aliases m = λ e.
      good_behind_consts (consts aliases) aliases (m + 1) (λ c n. done tt) (λ h. h.0) (λ n h. h) (λ n h. h)
      (λ h. (h, unsigned_no_more aliases m (unsigning key.Const (sign_at tokens aliases m) refl e)))

  good_specified : (aliases : Aliases) (base : Base) (m : ℕ)
      → (is_signing (sign_at tokens aliases (m - 1)) ≡ true → is_keyword key.Int (sign_at tokens aliases m) ≡ false)
      → Good tokens a_specifier (specifier aliases) false (specified tokens aliases base m) m
  good_specified aliases base m over =
      good_behind_consts (specifier aliases) aliases m (λ c n. done (record { base = base; is_const = c })) (λ h. h.0) (λ n h. h) (λ n h. h) (λ h. (h, over))

  -- where no `int` follows `unsigned` at once, the type may go on with `const` or end
  no_int : (aliases : Aliases) (base : Base) (m : ℕ) → is_signing (sign_at tokens aliases (m - 1)) ≡ true
      → Next tokens a_specifier (Ends tokens a_specifier (specifier aliases)) (specified tokens aliases base m) m
      → is_keyword key.Int (sign_at tokens aliases m) ≡ false
  no_int aliases base m q (inl h) = const_no_int (sign_at tokens aliases m) h
  no_int aliases base m q (inr h) = h.1 q

  good_with_int : (aliases : Aliases) (base : Base) (m : ℕ) → is_signing (sign_at tokens aliases (m - 1)) ≡ true
      → Good tokens a_specifier (specifier aliases) false (with_int tokens aliases base m) m
  good_with_int aliases base m q = (
    (λ h. h),
    (λ h. no_int aliases base m q h),
    (λ e p. good_specified aliases base (m + 1) (unsigned_no_more aliases m (unsigning key.Int (sign_at tokens aliases m) refl e))),
    (λ e. good_specified aliases base m (λ z. e)),
  )

  good_specifier_row : (aliases : Aliases) (m : ℕ) (s : Sign) → sign_at tokens aliases m ≡ s
      → Good tokens a_specifier (specifier aliases) true (specifier_row tokens aliases m s) m
  good_specifier_row aliases m (sign.Keyword key.Const) q = λ e. (tt, λ t n. ((λ h. h), (λ h. h)))
  good_specifier_row aliases m (sign.Keyword key.Int) q =
      λ e. good_specified aliases int (m + 1) (unsigned_no_more aliases m (ap is_signing q))
  good_specifier_row aliases m (sign.Keyword key.Unsigned) q =
      λ e. good_with_int aliases unsigned (m + 1) (before (λ s. is_signing s ≡ true) aliases m (ap is_signing q))
  good_specifier_row aliases m (sign.Keyword key.Signed) q =
      λ e. good_with_int aliases int (m + 1) (before (λ s. is_signing s ≡ true) aliases m (ap is_signing q))
  good_specifier_row aliases m (sign.Keyword key.Void) q =
      λ e. good_specified aliases void (m + 1) (unsigned_no_more aliases m (ap is_signing q))
  good_specifier_row aliases m (sign.Keyword key.Struct) q =
      λ e tag. good_specified aliases (structure (identifier_at tokens (m + 1))) (m + 1 + 1)
      (unsigned_no_more aliases (m + 1) (tag_unsigned (sign_at tokens aliases (m + 1)) tag))
  good_specifier_row aliases m (sign.Keyword key.Enum) q =
      λ e tag. good_specified aliases (enumerated (identifier_at tokens (m + 1))) (m + 1 + 1)
      (unsigned_no_more aliases (m + 1) (tag_unsigned (sign_at tokens aliases (m + 1)) tag))
  good_specifier_row aliases m sign.TypeName q =
      λ e. good_specified aliases (alias (identifier_at tokens m)) (m + 1) (unsigned_no_more aliases m (ap is_signing q))
  good_specifier_row aliases m _ q = λ z. never tokens m z

  pub good_specifier : (aliases : Aliases) (m : ℕ)
      → Good tokens a_specifier (specifier aliases) true (rule tokens a_specifier (specifier aliases) m) m
  good_specifier aliases m = good_specifier_row aliases m (sign_at tokens aliases m) refl

  pub first_specifier : (aliases : Aliases) (m : ℕ) (s : Sign) → sign_at tokens aliases m ≡ s
      → Start tokens a_specifier (specifier_row tokens aliases m s) m → begins_type (sign_at tokens aliases m) ≡ true
  first_specifier aliases m (sign.Keyword key.Const) q h = ap begins_type q
  first_specifier aliases m (sign.Keyword key.Int) q h = ap begins_type q
  first_specifier aliases m (sign.Keyword key.Unsigned) q h = ap begins_type q
  first_specifier aliases m (sign.Keyword key.Signed) q h = ap begins_type q
  first_specifier aliases m (sign.Keyword key.Void) q h = ap begins_type q
  first_specifier aliases m (sign.Keyword key.Struct) q h = ap begins_type q
  first_specifier aliases m (sign.Keyword key.Enum) q h = ap begins_type q
  first_specifier aliases m sign.TypeName q h = ap begins_type q
  first_specifier aliases m _ q h = never tokens m h

  -- a star, or what stands there without one
  pub good_behind_star : {s : Sort} (c : Call s) (fresh : Bool) (aliases : Aliases) (m : ℕ) (end : Bool → Bool → ℕ → Row s)
      → (Next tokens s (Ends tokens s c) (end false false m) m → is_star (sign_at tokens aliases m) ≡ false)
      → (Next tokens s (Ends tokens s c) (end true false (m + 1)) (m + 1) → is_keyword key.Const (sign_at tokens aliases (m + 1)) ≡ false)
      → Good tokens s c false (end true true (m + 1 + 1)) (m + 1 + 1)
      → Good tokens s c false (end true false (m + 1)) (m + 1)
      → Good tokens s c fresh (end false false m) m
      → Good tokens s c fresh (behind_star tokens aliases m end) m
  good_behind_star c fresh aliases m end no_star no_const both one none =
      ((λ h. h), no_star, (λ e p. ((λ h. h), no_const, (λ e q. both), (λ e. one))), (λ e. none))

  pub good_declarator : (aliases : Aliases) (m : ℕ)
      → Good tokens a_declarator (declarator aliases) true (rule tokens a_declarator (declarator aliases) m) m
  good_declarator aliases m =
      good_behind_star (declarator aliases) true aliases m
      (λ p c n. token (a_name aliases) (done (record { pointer = p; pointer_const = c; name = identifier_at tokens n; start = m })))
      (λ h. name_no_star (sign_at tokens aliases m) h)
      (λ h. name_no_keyword key.Const (sign_at tokens aliases (m + 1)) h) (λ e. tt) (λ e. tt) (λ e. tt)

  pub first_declarator : (aliases : Aliases) (m : ℕ) → Start tokens a_declarator (rule tokens a_declarator (declarator aliases) m) m
      → begins_declarator (sign_at tokens aliases m) ≡ true
  first_declarator aliases m (inl h) = star_begins (sign_at tokens aliases m) h
  first_declarator aliases m (inr h) = name_begins (sign_at tokens aliases m) h

  pub good_behind_length : {s : Sort} (c : Call s) (fresh : Bool) (aliases : Aliases) (d m : ℕ) (end : Option Expression → ℕ → Row s)
      → (Next tokens s (Ends tokens s c) (end None m) m → sees tokens (an_open_bracket aliases) m ≡ false)
      → ((x : Expression) (n : ℕ) → Good tokens s c false (end (Some x) (n + 1)) (n + 1))
      → (sees tokens (an_open_bracket aliases) m ≡ false → Good tokens s c fresh (end None m) m)
      → Good tokens s c fresh (behind_length tokens aliases d m end) m
  good_behind_length c fresh aliases d m end none some goes = (
    (λ h. h),
    none,
    (λ e. (
      e,
      λ p. (
        tt,
        λ x n. (
          (λ h. ended tokens aliases x 0 n (bracket_plain (sign_at tokens aliases n) h)),
          (λ h q. some x n),
        ),
      ),
    )),
    goes,
  )

  pub good_behind_attributes : {s : Sort} (c : Call s) (fresh : Bool) (aliases : Aliases) (d m : ℕ) (end : List Attribute → ℕ → Row s)
      → g.Lower (sees tokens) (First tokens) (Ends tokens) (Moves tokens) rank fresh (rank some_attributes (attributes aliases d) < rank s c)
      → (Next tokens s (Ends tokens s c) (end [] m) m → Bare tokens aliases m)
      → ((xs : List Attribute) (n : ℕ) → Next tokens s (Ends tokens s c) (end xs n) n → Bare tokens aliases n)
      → ((xs : List Attribute) (n : ℕ) → Bare tokens aliases n → Good tokens s c false (end xs n) n)
      → (Bare tokens aliases m → Good tokens s c fresh (end [] m) m)
      → Good tokens s c fresh (behind_attributes tokens aliases d m end) m
  good_behind_attributes c fresh aliases d m end lower none bare with_them goes =
      ((λ h. h), none, (λ e. (lower, λ xs n. (bare xs n, with_them xs n))), goes)

  -- A value in a list or before a delimiter is over.
  pub value_over : (aliases : Aliases) (x : Initialiser) (n : ℕ) → is_plain (sign_at tokens aliases n) ≡ true → EndsValue tokens aliases x n
  value_over aliases (value x) n h = ended tokens aliases x 0 n h
  value_over aliases (list xs span) n h = tt

  good_list : (aliases : Aliases) (d m : ℕ) → Good tokens an_initialiser (initialiser aliases d) false (list_row tokens aliases d m) (m + 1)
  good_list aliases d m = (
    (λ h. h),
    (λ h. initialiser_no_brace (sign_at tokens aliases (m + 1)) h),
    (λ e p. tt),
    (λ e. (tt, λ xs n. ((λ h. tt), (λ h. tt)))),
  )

  pub good_initialiser : (aliases : Aliases) (d m : ℕ)
      → Good tokens an_initialiser (initialiser aliases d) true (rule tokens an_initialiser (initialiser aliases d) m) m
  good_initialiser aliases d m = (
    (λ h. h),
    (λ h. operand_no_brace (sign_at tokens aliases m) h),
    (λ e. (e, λ p. good_list aliases d m)),
    (λ e. (omega arith, λ x n. ((λ h. h), (λ h. h)))),
  )

  pub first_initialiser : (aliases : Aliases) (d m : ℕ)
      → Start tokens an_initialiser (rule tokens an_initialiser (initialiser aliases d) m) m
      → begins_initialiser (sign_at tokens aliases m) ≡ true
  first_initialiser aliases d m (inl h) = brace_begins (sign_at tokens aliases m) h
  first_initialiser aliases d m (inr h) = operand_begins (sign_at tokens aliases m) h

  pub good_initialisers : (aliases : Aliases) (d m : ℕ)
      → Good tokens some_initialisers (initialisers aliases d) true (rule tokens some_initialisers (initialisers aliases d) m) m
  good_initialisers aliases d m = (
    omega arith,
    λ x n. (
      (λ h. value_over aliases x n (closes n h)),
      (λ en. (
        (λ h. h),
        (λ h. brace_no_comma (sign_at tokens aliases n) h),
        (λ p q. (
          (λ h. h),
          (λ h. initialiser_no_brace (sign_at tokens aliases (n + 1)) h),
          (λ e p. tt),
          (λ e. (tt, λ xs e. ((λ h. tt), (λ h. tt)))),
        )),
        (λ p q. tt),
      )),
    ),
  )
    where
      closes : (n : ℕ) → (sees tokens (a_comma aliases) n ≡ true) ⊎ (sees tokens (a_close_brace aliases) n ≡ true)
          → is_plain (sign_at tokens aliases n) ≡ true
      closes n (inl h) = comma_plain (sign_at tokens aliases n) h
      closes n (inr h) = brace_plain (sign_at tokens aliases n) h
