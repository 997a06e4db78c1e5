-- The rows of types, declarators, initialisers, members and locals spell them by the productions only.
use Rattle.std.proofs.Common.{ℕ, ◌+◌, ◌≡◌, sym, subst, refl, List, [], ◌∷◌, Bool, true, false, not, Some, None}
use Rattle.std.proofs.lemmas.Bool.{not-true}
use Rattle.std.specs.declared.option.Option.{Option}
use Rattle.tsa_base.specs.Tokens.{Lexeme}
use Rattle.tsa_base.proofs.Truths.{never_true as never}
use Rattle.tsa_tree.specs.declared.sign.Keyword.TheVariants as key
use Rattle.tsa_tree.specs.declared.sign.Sign.{Sign}
use Rattle.tsa_tree.specs.declared.sign.Sign.TheVariants as sign
use Rattle.tsa_tree.specs.attributes.Syntax.{Attribute}
use Rattle.tsa_tree.specs.attributes.Spelling.{IsAttributes, of_no_group}
use Rattle.tsa_tree.specs.declarations.Syntax.{Base, int, unsigned, void, Specified, constant, Initialiser, value, list, Initialisers}
use Rattle.tsa_tree.specs.declarations.Syntax.{Declaration, declaration, Declarator, Declared}
use Rattle.tsa_tree.specs.declarations.Spelling.{Role, a_member, a_global, IsConsts, no_const, of_const, IsBase, of_int, of_unsigned}
use Rattle.tsa_tree.specs.declarations.Spelling.{of_unsigned_int, of_signed, of_signed_int, of_void, of_struct, of_enum, of_alias}
use Rattle.tsa_tree.specs.declarations.Spelling.{IsSpecifier, of_specifier, IsStar, no_star, of_star, of_const_star, IsDeclarator}
use Rattle.tsa_tree.specs.declarations.Spelling.{of_declarator, IsLength, no_length, of_length, IsInitialiser, of_value, of_no_values}
use Rattle.tsa_tree.specs.declarations.Spelling.{of_values, IsInitialisers, of_last_value, of_value_and_comma, of_further_value, IsInit}
use Rattle.tsa_tree.specs.declarations.Spelling.{no_init, of_init, IsRest, of_rest, IsDeclarators, of_last_declarator}
use Rattle.tsa_tree.specs.declarations.Spelling.{of_further_declarator, IsMembers, no_member, of_members, IsVariable, of_unset, of_set}
use Rattle.tsa_tree.specs.declarations.Spelling.{IsVariables, of_last_variable, of_further_variable, IsLocals, of_locals, of_one_local}
use Rattle.tsa_tree.specs.expressions.Syntax.{Expression}
use Rattle.tsa_tree.specs.tokens.Signs.{Aliases, sign_at, span_over, identifier_at}
use Rattle.tsa_tree.specs.Rows.{Sort, an_expression, a_skip, a_specifier, a_declarator, an_initialiser, some_initialisers, a_declared}
use Rattle.tsa_tree.specs.Rows.{some_declarations, a_variable, some_variables, Node, expression, consts, specifier, declarator, initialiser}
use Rattle.tsa_tree.specs.Rows.{initialisers, declared_rest, declarators, member_line, members, variable, variables, locals, Row, a_name}
use Rattle.tsa_tree.specs.Rows.{an_equals, sees, behind_consts, specified, specifier_row, behind_star, behind_length, behind_attributes}
use Rattle.tsa_tree.specs.Rows.{behind_init, delimiter, rule}
use Rattle.tsa_tree.proofs.tokens.ProductionSigns.{shows_name, shows_close_bracket, shows_comma, shows_close_brace}
use Rattle.tsa_tree.proofs.declarations.Signs.{shows_open_bracket, shows_open_brace, shows_semicolon, shows_equals, shows_keyword}
use Rattle.tsa_tree.proofs.declarations.Signs.{shows_star}
use Rattle.tsa_tree.proofs.expressions.RowsToProductions.{production_of}
use Rattle.tsa_grammar.specs.Form.{done, token, part, either}
use Rattle.tsa_tree.proofs.declarations.Meanings.{Closed, delimiter_sign, Keeps, Means}

module _ (tokens : List Lexeme) (aliases : Aliases) (fits : ℕ → Bool) where
  -- Any number of `const` keeps to what comes after it.
  pub keeps_behind_consts : (s : Sort) (P : Node s → ℕ → Type 0) (m : ℕ) (end : Bool → ℕ → Row s)
      → ((c : Bool) (n : ℕ) → IsConsts tokens aliases c m n → Keeps tokens fits s P (end c n) n)
      → Keeps tokens fits s P (behind_consts tokens aliases m end) m
  keeps_behind_consts s P m end go = ((tt, λ u n i. go true n i), go false m no_const)

  pub keeps_consts : (a : ℕ)
      → Keeps tokens fits a_skip (λ u b. IsConsts tokens aliases true a b) (rule tokens a_skip (consts aliases) a) a
  keeps_consts a = λ seen.
      keeps_behind_consts a_skip (λ u b. IsConsts tokens aliases true a b) (a + 1) (λ c n. done tt)
      (λ c n i. of_const (shows_keyword tokens aliases key.Const a seen) i)

  -- Behind a base, `const` makes a specifier.
  keeps_specified : (a m : ℕ) (base : Base) → IsBase tokens aliases base a m
      → Keeps tokens fits a_specifier (λ t b. IsSpecifier tokens aliases t a b) (specified tokens aliases base m) m
  keeps_specified a m base i =
      keeps_behind_consts a_specifier (λ t b. IsSpecifier tokens aliases t a b) m (λ c n. done (record { base = base; is_const = c }))
      (λ c n j. of_specifier no_const i j)

  -- A `const` before a specifier makes it constant.
  const_before : (t : Specified) (a b : ℕ) → sign_at tokens aliases a ≡ sign.Keyword key.Const → IsSpecifier tokens aliases t (a + 1) b
      → IsSpecifier tokens aliases (constant t) a b
  const_before t a b q (of_specifier i base j) = of_specifier (of_const q i) base j

  keeps_specifier_row : (a : ℕ) (s : Sign) → sign_at tokens aliases a ≡ s
      → Keeps tokens fits a_specifier (λ t b. IsSpecifier tokens aliases t a b) (specifier_row tokens aliases a s) a
  keeps_specifier_row a (sign.Keyword key.Const) q = λ seen. (tt, λ t n i. const_before t a n q i)
  keeps_specifier_row a (sign.Keyword key.Int) q = λ seen. keeps_specified a (a + 1) int (of_int q)
  keeps_specifier_row a (sign.Keyword key.Unsigned) q = λ seen. (
    (λ more. keeps_specified a (a + 1 + 1) unsigned (of_unsigned_int q (shows_keyword tokens aliases key.Int (a + 1) more))),
    keeps_specified a (a + 1) unsigned (of_unsigned q),
  )
  keeps_specifier_row a (sign.Keyword key.Signed) q = λ seen. (
    (λ more. keeps_specified a (a + 1 + 1) int (of_signed_int q (shows_keyword tokens aliases key.Int (a + 1) more))),
    keeps_specified a (a + 1) int (of_signed q),
  )
  keeps_specifier_row a (sign.Keyword key.Void) q = λ seen. keeps_specified a (a + 1) void (of_void q)
  keeps_specifier_row a (sign.Keyword key.Struct) q = λ seen tag. keeps_specified a (a + 1 + 1) _ (of_struct q tag)
  keeps_specifier_row a (sign.Keyword key.Enum) q = λ seen tag. keeps_specified a (a + 1 + 1) _ (of_enum q tag)
  keeps_specifier_row a sign.TypeName q = λ seen. keeps_specified a (a + 1) _ (of_alias q)
  keeps_specifier_row a _ q = never

  pub keeps_specifier : (a : ℕ)
      → Keeps tokens fits a_specifier (λ t b. IsSpecifier tokens aliases t a b) (rule tokens a_specifier (specifier aliases) a) a
  keeps_specifier a = keeps_specifier_row a (sign_at tokens aliases a) refl

  -- A star, or none, keeps to what comes after it.
  pub keeps_behind_star : (s : Sort) (P : Node s → ℕ → Type 0) (m : ℕ) (end : Bool → Bool → ℕ → Row s)
      → ((p c : Bool) (n : ℕ) → IsStar tokens aliases p c m n → Keeps tokens fits s P (end p c n) n)
      → Keeps tokens fits s P (behind_star tokens aliases m end) m
  keeps_behind_star s P m end go = (
    (λ star. (
      (λ const. go true true (m + 1 + 1) (of_const_star (shows_star tokens aliases m star) (shows_keyword tokens aliases key.Const (m + 1) const))),
      go true false (m + 1) (of_star (shows_star tokens aliases m star)),
    )),
    go false false m no_star,
  )

  pub keeps_declarator : (a : ℕ)
      → Keeps tokens fits a_declarator (λ c b. IsDeclarator tokens aliases c a b) (rule tokens a_declarator (declarator aliases) a) a
  keeps_declarator a =
      keeps_behind_star a_declarator (λ c b. IsDeclarator tokens aliases c a b) a
      (λ p c n. token (a_name aliases) (done (record { pointer = p; pointer_const = c; name = identifier_at tokens n; start = a })))
      (λ p c n i name. of_declarator i (shows_name tokens aliases n name))

  -- The length of an array, or none, keeps to what comes after it.
  pub keeps_behind_length : (s : Sort) (P : Node s → ℕ → Type 0) (d m : ℕ) (end : Option Expression → ℕ → Row s)
      → ((l : Option Expression) (n : ℕ) → IsLength tokens aliases fits d l m n → Keeps tokens fits s P (end l n) n)
      → Keeps tokens fits s P (behind_length tokens aliases d m end) m
  keeps_behind_length s P d m end go = (
    (λ fit bracket. (
      tt,
      λ x n sp close. go (Some x) (n + 1)
          (of_length (shows_open_bracket tokens aliases m bracket) fit (production_of tokens fits sp tt)
          (shows_close_bracket tokens aliases n close)),
    )),
    go None m no_length,
  )

  -- Any number of groups of attributes keeps to what comes after it.
  pub keeps_behind_attributes : (s : Sort) (P : Node s → ℕ → Type 0) (d m : ℕ) (end : List Attribute → ℕ → Row s)
      → ((xs : List Attribute) (n : ℕ) → IsAttributes tokens aliases fits d xs m n → Keeps tokens fits s P (end xs n) n)
      → Keeps tokens fits s P (behind_attributes tokens aliases d m end) m
  keeps_behind_attributes s P d m end go = ((tt, λ xs n sp. go xs n (production_of tokens fits sp tt)), go [] m of_no_group)

  keeps_behind_init : (P : Declared → ℕ → Type 0) (r : Role) (d m : ℕ) (end : Option Initialiser → ℕ → Row a_declared)
      → ((i : Option Initialiser) (n : ℕ) → IsInit tokens aliases fits r d i m n → Keeps tokens fits a_declared P (end i n) n)
      → Keeps tokens fits a_declared P (behind_init tokens aliases r d m end) m
  keeps_behind_init P a_member d m end go = go None m no_init
  keeps_behind_init P a_global d m end go =
      ((λ equals. (tt, λ x n i. go (Some x) n (of_init (shows_equals tokens aliases m equals) i))), go None m no_init)

  -- The comma or the `;` after a declaration tells whether another one follows.
  keeps_delimiter : (r : Role) (d : ℕ) (t : Specified) (c : Declarator) (a : ℕ) (x : Declaration) (m : ℕ)
      → IsRest tokens aliases fits r d t c x a m
      → Keeps tokens fits a_declared (λ y b. Means tokens fits a_declared (declared_rest aliases r d t c) y a b) (delimiter tokens aliases x m) m
  keeps_delimiter r d t c a x m i =
      ((λ comma. (m, i, shows_comma tokens aliases m comma, refl)), (λ semicolon. (m, i, shows_semicolon tokens aliases m semicolon, refl)))

  pub keeps_rest : (r : Role) (d : ℕ) (t : Specified) (c : Declarator) (a : ℕ)
      → Keeps tokens fits a_declared (λ y b. Means tokens fits a_declared (declared_rest aliases r d t c) y a b)
      (rule tokens a_declared (declared_rest aliases r d t c) a) a
  keeps_rest r d t c a =
      keeps_behind_length a_declared Whole d a behind_the_length (λ l n length.
      keeps_behind_attributes a_declared Whole d n (behind_the_attributes l) (λ xs e attributes.
      keeps_behind_init Whole r d e (behind_the_init l xs) (λ i f init.
      keeps_delimiter r d t c a (made l xs i f) f (of_rest length attributes init))))
    where
      Whole : Declared → ℕ → Type 0
      Whole y b = Means tokens fits a_declared (declared_rest aliases r d t c) y a b

      made : Option Expression → List Attribute → Option Initialiser → ℕ → Declaration
      made l xs i f = declaration t c l xs i (span_over tokens c.start f)

      behind_the_init : Option Expression → List Attribute → Option Initialiser → ℕ → Row a_declared
      behind_the_init l xs i f = delimiter tokens aliases (made l xs i f) f

      behind_the_attributes : Option Expression → List Attribute → ℕ → Row a_declared
      behind_the_attributes l xs e = behind_init tokens aliases r d e (behind_the_init l xs)

      behind_the_length : Option Expression → ℕ → Row a_declared
      behind_the_length l n = behind_attributes tokens aliases d n (behind_the_attributes l)

  -- The sign after a declaration, by whether another one follows.
  pub goes_on_comma : (x : Declared) (n : ℕ) → sign_at tokens aliases n ≡ delimiter_sign tokens fits x.goes_on → x.goes_on ≡ true
      → sign_at tokens aliases n ≡ sign.Comma
  goes_on_comma x n q on = subst (λ g. sign_at tokens aliases n ≡ delimiter_sign tokens fits g) on q

  pub ends_semicolon : (x : Declared) (n : ℕ) → sign_at tokens aliases n ≡ delimiter_sign tokens fits x.goes_on → not x.goes_on ≡ true
      → sign_at tokens aliases n ≡ sign.Semicolon
  ends_semicolon x n q off = subst (λ g. sign_at tokens aliases n ≡ delimiter_sign tokens fits g) (not-true x.goes_on off) q

  pub keeps_declarators : (r : Role) (d : ℕ) (t : Specified) (a : ℕ)
      → Keeps tokens fits some_declarations (λ xs b. Means tokens fits some_declarations (declarators aliases r d t) xs a b)
      (rule tokens some_declarations (declarators aliases r d t) a) a
  keeps_declarators r d t a = (
    tt,
    λ c n i. (
      tt,
      λ x e rest. (
        (λ on. (
          tt,
          λ xs f others. (
            others.0,
            of_further_declarator i rest.1 (goes_on_comma x rest.0 rest.2 on)
                (subst (λ e. IsDeclarators tokens aliases fits r d t xs e others.0) rest.3 others.1),
            others.2,
            others.3,
          ),
        )),
        (λ off. (rest.0, of_last_declarator i rest.1, ends_semicolon x rest.0 rest.2 off, rest.3)),
      ),
    ),
  )

  pub keeps_member_line : (d a : ℕ)
      → Keeps tokens fits some_declarations (λ xs b. Means tokens fits some_declarations (member_line aliases d) xs a b)
      (rule tokens some_declarations (member_line aliases d) a) a
  keeps_member_line d a = (tt, λ t n i. (tt, λ xs e h. (h.0, (t, n, i, h.1), h.2, h.3)))

  pub keeps_members : (d a : ℕ)
      → Keeps tokens fits some_declarations (λ xs b. Means tokens fits some_declarations (members aliases d) xs a b)
      (rule tokens some_declarations (members aliases d) a) a
  keeps_members d a = (
    (λ close. (a, no_member, shows_close_brace tokens aliases a close, refl)),
    (
      tt,
      λ xs n line. (
        tt,
        λ ys e others. (
          others.0,
          of_members line.1.2 line.1.3 line.2 (subst (λ n. IsMembers tokens aliases fits d ys n others.0) line.3 others.1),
          others.2,
          others.3,
        ),
      ),
    ),
  )

  -- A list of initialisers and the brace that closes it make an initialiser whole.
  closed_values : (d m : ℕ) → sign_at tokens aliases m ≡ sign.OpenBrace → fits d ≡ true → (xs : Initialisers) (n : ℕ)
      → Closed tokens fits aliases (λ n. IsInitialisers tokens aliases fits (d + 1) xs (m + 1) n) sign.CloseBrace n
      → IsInitialiser tokens aliases fits d (list xs (span_over tokens m n)) m n
  closed_values d m q fit xs n closed =
      subst (λ n. IsInitialiser tokens aliases fits d (list xs (span_over tokens m n)) m n) (sym closed.3) (of_values q fit closed.1 closed.2)

  pub keeps_initialiser : (d a : ℕ)
      → Keeps tokens fits an_initialiser (λ x b. IsInitialiser tokens aliases fits d x a b)
      (rule tokens an_initialiser (initialiser aliases d) a) a
  keeps_initialiser d a = (
    (λ fit brace. (
      (λ close. of_no_values (shows_open_brace tokens aliases a brace) fit (shows_close_brace tokens aliases (a + 1) close)),
      (tt, λ xs n closed. closed_values d a (shows_open_brace tokens aliases a brace) fit xs n closed),
    )),
    (tt, λ x n sp. of_value (production_of tokens fits sp tt)),
  )

  pub keeps_initialisers : (d a : ℕ)
      → Keeps tokens fits some_initialisers (λ xs b. Means tokens fits some_initialisers (initialisers aliases d) xs a b)
      (rule tokens some_initialisers (initialisers aliases d) a) a
  keeps_initialisers d a = (
    tt,
    λ x n i. (
      (λ comma. (
        (λ close. (n + 1, of_value_and_comma i (shows_comma tokens aliases n comma), shows_close_brace tokens aliases (n + 1) close, refl)),
        (tt, λ xs e others. (others.0, of_further_value i (shows_comma tokens aliases n comma) others.1, others.2, others.3)),
      )),
      (λ close. (n, of_last_value i, shows_close_brace tokens aliases n close, refl)),
    ),
  )

  pub keeps_variable : (d : ℕ) (t : Specified) (a : ℕ)
      → Keeps tokens fits a_variable (λ x b. IsVariable tokens aliases fits d t x a b) (rule tokens a_variable (variable aliases d t) a) a
  keeps_variable d t a = (
    tt,
    λ c m i.
        keeps_behind_length a_variable (λ x b. IsVariable tokens aliases fits d t x a b) d m (behind_the_length c) (λ l n length. (
          (λ equals. (tt, λ x e sp. of_set i length (shows_equals tokens aliases n equals) (production_of tokens fits sp tt))),
          of_unset i length,
        )),
  )
    where
      behind_the_length : Declarator → Option Expression → ℕ → Row a_variable
      behind_the_length c l n =
          either (sees tokens (an_equals aliases) n)
          (token (an_equals aliases) (part an_expression (expression aliases d 0) (λ x e.
          done (declaration t c l [] (Some (value x)) (span_over tokens c.start e)))))
          (done (declaration t c l [] None (span_over tokens c.start n)))

  pub keeps_variables : (d : ℕ) (t : Specified) (a : ℕ)
      → Keeps tokens fits some_variables (λ xs b. IsVariables tokens aliases fits d t (xs.0 ∷ xs.1) a b)
      (rule tokens some_variables (variables aliases d t) a) a
  keeps_variables d t a = (
    tt,
    λ x n i. (
      (λ comma. (tt, λ xs e others. of_further_variable i (shows_comma tokens aliases n comma) others)),
      of_last_variable i,
    ),
  )

  pub keeps_locals : (single : Bool) (d a : ℕ)
      → Keeps tokens fits some_declarations (λ xs b. IsLocals tokens aliases fits single d xs a b)
      (rule tokens some_declarations (locals aliases single d) a) a
  keeps_locals false d a = (tt, λ t n i. (tt, λ xs e others. of_locals i others))
  keeps_locals true d a = (tt, λ t n i. (tt, λ x e one. of_one_local i one))
