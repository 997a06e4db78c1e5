-- The rows spell the types, declarators, initialisers, members and locals that the productions spell.
use Rattle.std.proofs.Common.{ℕ, ◌+◌, ◌≡◌, ap, sym, subst, refl, List, [], ◌∷◌, Bool, true, false, ◌||◌, Some, None, arith}
use Rattle.std.specs.declared.option.Option.{Option}
use Rattle.tsa_base.specs.Tokens.{Lexeme}
use Rattle.tsa_tree.specs.declared.sign.Keyword.TheVariants as key
use Rattle.tsa_tree.specs.declared.sign.Sign.{Sign}
use Rattle.tsa_tree.specs.declared.sign.Sign.TheVariants as sign
use Rattle.tsa_tree.specs.attributes.Syntax.{Attribute}
use Rattle.tsa_tree.specs.attributes.Spelling.{IsAttributes, of_no_group, of_group}
use Rattle.tsa_tree.specs.declarations.Syntax.{Base, Specified, Declarator, Declared, Declaration, declaration, Initialiser, value}
use Rattle.tsa_tree.specs.declarations.Syntax.{Initialisers}
use Rattle.tsa_tree.specs.declarations.Spelling as spells
use Rattle.tsa_tree.specs.declarations.Spelling.{Role, a_member, a_global, IsConsts, no_const, of_const, IsBase, IsSpecifier, of_specifier}
use Rattle.tsa_tree.specs.declarations.Spelling.{IsStar, no_star, of_star, of_const_star, IsDeclarator, of_declarator, IsLength, no_length}
use Rattle.tsa_tree.specs.declarations.Spelling.{of_length, IsInitialiser, of_value, of_no_values, of_values, IsInitialisers, of_last_value}
use Rattle.tsa_tree.specs.declarations.Spelling.{of_value_and_comma, of_further_value, IsInit, no_init, of_init, IsRest, of_rest}
use Rattle.tsa_tree.specs.declarations.Spelling.{IsDeclarators, of_last_declarator, of_further_declarator, IsMembers, no_member, of_members}
use Rattle.tsa_tree.specs.declarations.Spelling.{IsVariable, of_unset, of_set, IsVariables, of_last_variable, of_further_variable, IsLocals}
use Rattle.tsa_tree.specs.declarations.Spelling.{of_locals, of_one_local}
use Rattle.tsa_tree.specs.expressions.Syntax.{Expression}
use Rattle.tsa_tree.specs.tokens.Signs.{Aliases, sign_at, span_over, identifier_at, is_star}
use Rattle.tsa_tree.specs.Rows.{Sort, an_expression, a_skip, a_specifier, a_declarator, an_initialiser, some_initialisers, a_declared}
use Rattle.tsa_tree.specs.Rows.{some_declarations, a_variable, some_variables, Node, Call, expression, consts, specifier, declarator}
use Rattle.tsa_tree.specs.Rows.{initialiser, initialisers, declared_rest, declarators, members, variable, variables, locals, a_name}
use Rattle.tsa_tree.specs.Rows.{an_equals, is_keyword, sees, Row, behind_consts, specified, specifier_row, behind_star, behind_length}
use Rattle.tsa_tree.specs.Rows.{behind_attributes, behind_init, delimiter, rule}
use Rattle.tsa_tree.proofs.tokens.ProductionSigns.{seen}
use Rattle.tsa_tree.proofs.expressions.ToRows.{expression_rows}
use Rattle.tsa_tree.proofs.attributes.ListsToRows.{attributes_rows}
use Rattle.tsa_tree.proofs.attributes.TokenCounts.{ahead-group, ahead-attributes}
use Rattle.tsa_grammar.specs.Form.{done, token, part, either}
use Rattle.tsa_grammar.specs.Spelling as forms
use Rattle.tsa_grammar.specs.Spelling.{by_rule, goes_done, goes_token, goes_part, goes_limit, goes_only, goes_left, goes_right}

module _ (tokens : List Lexeme) (aliases : Aliases) (fits : ℕ → Bool) where
  abbrev pub Spells : (s : Sort) → Call s → Node s → (a b : ℕ) → Type 0
  Spells s c x a b = forms.Spells (rule tokens) (sees tokens) fits s c x a b

  abbrev pub Goes : (s : Sort) → Row s → Node s → (a b : ℕ) → Type 0
  Goes s f x a b = forms.Goes (rule tokens) (sees tokens) fits s f x a b

  -- types ---------------------------------------------------------------------

  -- A row goes on after any number of `const` where it does after them all.
  pub consts_goes : {v : Bool} {a m : ℕ} → IsConsts tokens aliases v a m → {s : Sort} (end : Bool → ℕ → Row s) (x : Node s) (b : ℕ)
      → Goes s (end v m) x m b → Goes s (behind_consts tokens aliases a end) x a b
  consts_goes no_const end x b g = goes_right g
  consts_goes {m = m} (of_const q i) end x b g =
      goes_left (goes_part
      (by_rule (goes_token (ap (is_keyword key.Const) q) (consts_goes i (λ c n. done tt) tt m goes_done)))
      g)

  -- The rows spell one `const` or more.
  pub consts_rows : {v : Bool} {a b : ℕ} → sign_at tokens aliases a ≡ sign.Keyword key.Const → IsConsts tokens aliases v (a + 1) b
      → Spells a_skip (consts aliases) tt a b
  consts_rows {b = b} q i = by_rule (goes_token (ap (is_keyword key.Const) q) (consts_goes i (λ c n. done tt) tt b goes_done))

  -- A specifier has the row of its first token's sign.
  specifier_by : (a b : ℕ) (x : Specified) (s : Sign) → sign_at tokens aliases a ≡ s
      → Goes a_specifier (specifier_row tokens aliases a s) x a b → Spells a_specifier (specifier aliases) x a b
  specifier_by a b x s e g = by_rule (subst (λ s. Goes a_specifier (specifier_row tokens aliases a s) x a b) (sym e) g)

  -- A base may end a specifier with what stands after it.
  specified_goes : {base : Base} {v : Bool} {a b : ℕ} → IsConsts tokens aliases v a b
      → Goes a_specifier (specified tokens aliases base a) (record { base = base; is_const = v }) a b
  specified_goes {base = base} {v = v} {b = b} i =
      consts_goes i (λ c n. done (record { base = base; is_const = c })) (record { base = base; is_const = v }) b goes_done

  -- The rows spell a base with `const` after it.
  pub base_rows : {base : Base} {v : Bool} {a m b : ℕ} → IsBase tokens aliases base a m → IsConsts tokens aliases v m b
      → Spells a_specifier (specifier aliases) (record { base = base; is_const = v }) a b
  base_rows {base = base} {v = v} {a = a} {b = b} (spells.of_int q) i =
      specifier_by a b (record { base = base; is_const = v }) (sign.Keyword key.Int) q
      (goes_token (ap (is_keyword key.Int) q) (specified_goes i))
  base_rows {base = base} {v = v} {a = a} {b = b} (spells.of_unsigned q) i =
      specifier_by a b (record { base = base; is_const = v }) (sign.Keyword key.Unsigned) q
      (goes_token (ap (is_keyword key.Unsigned) q) (goes_right (specified_goes i)))
  base_rows {base = base} {v = v} {a = a} {b = b} (spells.of_unsigned_int q q') i =
      specifier_by a b (record { base = base; is_const = v }) (sign.Keyword key.Unsigned) q
      (goes_token (ap (is_keyword key.Unsigned) q) (goes_left (goes_token (ap (is_keyword key.Int) q') (specified_goes i))))
  base_rows {base = base} {v = v} {a = a} {b = b} (spells.of_signed q) i =
      specifier_by a b (record { base = base; is_const = v }) (sign.Keyword key.Signed) q
      (goes_token (ap (is_keyword key.Signed) q) (goes_right (specified_goes i)))
  base_rows {base = base} {v = v} {a = a} {b = b} (spells.of_signed_int q q') i =
      specifier_by a b (record { base = base; is_const = v }) (sign.Keyword key.Signed) q
      (goes_token (ap (is_keyword key.Signed) q) (goes_left (goes_token (ap (is_keyword key.Int) q') (specified_goes i))))
  base_rows {base = base} {v = v} {a = a} {b = b} (spells.of_void q) i =
      specifier_by a b (record { base = base; is_const = v }) (sign.Keyword key.Void) q
      (goes_token (ap (is_keyword key.Void) q) (specified_goes i))
  base_rows {base = base} {v = v} {a = a} {b = b} (spells.of_struct q tag) i =
      specifier_by a b (record { base = base; is_const = v }) (sign.Keyword key.Struct) q
      (goes_token (ap (is_keyword key.Struct) q) (goes_token tag (specified_goes i)))
  base_rows {base = base} {v = v} {a = a} {b = b} (spells.of_enum q tag) i =
      specifier_by a b (record { base = base; is_const = v }) (sign.Keyword key.Enum) q
      (goes_token (ap (is_keyword key.Enum) q) (goes_token tag (specified_goes i)))
  base_rows {base = base} {v = v} {a = a} {b = b} (spells.of_alias q) i =
      specifier_by a b (record { base = base; is_const = v }) sign.TypeName q
      (goes_token (seen tokens aliases 1 a sign.TypeName q refl) (specified_goes i))

  -- The rows spell a base with `const` before and after it.
  pub qualified_rows : {base : Base} {before behind : Bool} {a m n b : ℕ} → IsConsts tokens aliases before a m
      → IsBase tokens aliases base m n → IsConsts tokens aliases behind n b
      → Spells a_specifier (specifier aliases) (record { base = base; is_const = before || behind }) a b
  qualified_rows no_const base i = base_rows base i
  qualified_rows {base = base} {a = a} {b = b} (of_const q before) of_base i =
      specifier_by a b (record { base = base; is_const = true }) (sign.Keyword key.Const) q
      (goes_token (ap (is_keyword key.Const) q) (goes_part (qualified_rows before of_base i) goes_done))

  pub specifier_rows : {t : Specified} {a b : ℕ} → IsSpecifier tokens aliases t a b → Spells a_specifier (specifier aliases) t a b
  specifier_rows (of_specifier before base behind) = qualified_rows before base behind

  -- declarators -----------------------------------------------------------------

  -- A row goes on after a star, or nothing, where it does after that.
  pub star_goes : {s : Sort} {p c : Bool} {a m : ℕ} → IsStar tokens aliases p c a m
      → (end : Bool → Bool → ℕ → Row s) (x : Node s) (b : ℕ)
      → Goes s (end p c m) x m b → Goes s (behind_star tokens aliases a end) x a b
  star_goes no_star end x b g = goes_right g
  star_goes (of_star q) end x b g = goes_left (goes_token (ap is_star q) (goes_right g))
  star_goes (of_const_star q q') end x b g = goes_left (goes_token (ap is_star q) (goes_left (goes_token (ap (is_keyword key.Const) q') g)))

  -- the name of a declarator that begins at `start`
  abbrev Named : (start : ℕ) → Bool → Bool → ℕ → Row a_declarator
  Named start p c n = token (a_name aliases) (done (record { pointer = p; pointer_const = c; name = identifier_at tokens n; start = start }))

  -- The rows spell a declarator.
  pub declarator_rows : {c : Declarator} {a b : ℕ} → IsDeclarator tokens aliases c a b → Spells a_declarator (declarator aliases) c a b
  declarator_rows {c = c} {a = a} {b = b} (of_declarator {m = m} star name) =
      by_rule (star_goes star (Named a) c b (goes_token (seen tokens aliases 2 m sign.Name name refl) goes_done))

  -- A row goes on after a length, or nothing, where it does after that.
  pub length_goes : {s : Sort} {d : ℕ} {l : Option Expression} {a m : ℕ} → IsLength tokens aliases fits d l a m
      → (end : Option Expression → ℕ → Row s) (x : Node s) (b : ℕ)
      → Goes s (end l m) x m b → Goes s (behind_length tokens aliases d a end) x a b
  length_goes no_length end x b g = goes_right g
  length_goes {a = a} (of_length {b = n} q fit i close) end x b g =
      goes_left (goes_limit fit (goes_token (seen tokens aliases 7 a sign.OpenBracket q refl)
      (goes_part (expression_rows tokens aliases fits i (omega arith))
      (goes_token (seen tokens aliases 8 n sign.CloseBracket close refl) g))))

  -- A row goes on after any number of attributes where it does after them all.
  pub attributes_goes : {s : Sort} {d : ℕ} {xs : List Attribute} {a m : ℕ} → IsAttributes tokens aliases fits d xs a m
      → (end : List Attribute → ℕ → Row s) (x : Node s) (b : ℕ)
      → Goes s (end xs m) x m b → Goes s (behind_attributes tokens aliases d a end) x a b
  attributes_goes of_no_group end x b g = goes_right g
  attributes_goes (of_group h r) end x b g =
      goes_left (goes_part (attributes_rows tokens aliases fits (of_group h r) (omega (arith, ahead-group h, ahead-attributes r))) g)

  -- initialisers ----------------------------------------------------------------

  mutual
    -- The rows spell an initialiser.
    pub initialiser_rows : {d : ℕ} {x : Initialiser} {a b : ℕ} → IsInitialiser tokens aliases fits d x a b
        → Spells an_initialiser (initialiser aliases d) x a b
    initialiser_rows (of_value i) = by_rule (goes_right (goes_part (expression_rows tokens aliases fits i (omega arith)) goes_done))
    initialiser_rows {a = a} (of_no_values q fit close) =
        by_rule (goes_left (goes_limit fit (goes_token (seen tokens aliases 16 a sign.OpenBrace q refl)
        (goes_left (goes_token (seen tokens aliases 17 (a + 1) sign.CloseBrace close refl) goes_done)))))
    initialiser_rows {a = a} (of_values q fit i close) =
        by_rule (goes_left (goes_limit fit (goes_token (seen tokens aliases 16 a sign.OpenBrace q refl)
        (goes_right (goes_part (initialisers_rows i close) goes_done)))))

    -- The rows spell a list of initialisers with the brace that closes it.
    pub initialisers_rows : {d : ℕ} {xs : Initialisers} {a b : ℕ} → IsInitialisers tokens aliases fits d xs a b
        → sign_at tokens aliases b ≡ sign.CloseBrace → Spells some_initialisers (initialisers aliases d) xs a (b + 1)
    initialisers_rows {b = b} (of_last_value i) close =
        by_rule (goes_part (initialiser_rows i) (goes_right (goes_token (seen tokens aliases 17 b sign.CloseBrace close refl) goes_done)))
    initialisers_rows (of_value_and_comma {b = m} i comma) close =
        by_rule (goes_part (initialiser_rows i) (goes_left (goes_token (seen tokens aliases 9 m sign.Comma comma refl)
        (goes_left (goes_token (seen tokens aliases 17 (m + 1) sign.CloseBrace close refl) goes_done)))))
    initialisers_rows (of_further_value {m = m} i comma r) close =
        by_rule (goes_part (initialiser_rows i) (goes_left (goes_token (seen tokens aliases 9 m sign.Comma comma refl)
        (goes_right (goes_part (initialisers_rows r close) goes_done)))))

  -- A row goes on after an initialiser with its `=`, or nothing, where it does after that.
  pub init_goes : {r : Role} {d : ℕ} {v : Option Initialiser} {a m : ℕ} → IsInit tokens aliases fits r d v a m
      → (end : Option Initialiser → ℕ → Row a_declared) (x : Declared) (b : ℕ) → Goes a_declared (end v m) x m b
      → Goes a_declared (behind_init tokens aliases r d a end) x a b
  init_goes (no_init {r = a_member}) end x b g = g
  init_goes (no_init {r = a_global}) end x b g = goes_right g
  init_goes {a = a} (of_init q i) end x b g =
      goes_left (goes_token (seen tokens aliases 23 a sign.Equals q refl) (goes_part (initialiser_rows i) g))

  -- members and globals -----------------------------------------------------------

  -- the delimiter of a declaration, after what initialises it
  abbrev Delimited : Specified → Declarator → Option Expression → List Attribute → Option Initialiser → ℕ → Row a_declared
  Delimited t c l xs i n = delimiter tokens aliases (declaration t c l xs i (span_over tokens c.start n)) n

  -- what stands after its attributes
  abbrev Attributed : Role → (d : ℕ) → Specified → Declarator → Option Expression → List Attribute → ℕ → Row a_declared
  Attributed r d t c l xs n = behind_init tokens aliases r d n (Delimited t c l xs)

  -- what stands after its length
  abbrev Measured : Role → (d : ℕ) → Specified → Declarator → Option Expression → ℕ → Row a_declared
  Measured r d t c l n = behind_attributes tokens aliases d n (Attributed r d t c l)

  -- What stands after a declarator's name is spelled where its delimiter is.
  rest_on : {r : Role} {d : ℕ} {t : Specified} {c : Declarator} {x : Declaration} {a m : ℕ} → IsRest tokens aliases fits r d t c x a m
      → (y : Declared) (b : ℕ) → Goes a_declared (delimiter tokens aliases x m) y m b
      → Spells a_declared (declared_rest aliases r d t c) y a b
  rest_on {r = r} {d = d} {t = t} {c = c} (of_rest {l = l} {xs = xs} length attributes init) y b g =
      by_rule (length_goes length (Measured r d t c) y b
      (attributes_goes attributes (Attributed r d t c l) y b (init_goes init (Delimited t c l xs) y b g)))

  -- The rows spell it with the comma after it.
  pub rest_rows_comma : {r : Role} {d : ℕ} {t : Specified} {c : Declarator} {x : Declaration} {a b : ℕ}
      → IsRest tokens aliases fits r d t c x a b → sign_at tokens aliases b ≡ sign.Comma
      → Spells a_declared (declared_rest aliases r d t c) (record { declaration = x; goes_on = true }) a (b + 1)
  rest_rows_comma {x = x} {b = b} i comma =
      rest_on i (record { declaration = x; goes_on = true }) (b + 1)
      (goes_left (goes_token (seen tokens aliases 9 b sign.Comma comma refl) goes_done))

  -- The rows spell it with the semicolon after it.
  pub rest_rows_semicolon : {r : Role} {d : ℕ} {t : Specified} {c : Declarator} {x : Declaration} {a b : ℕ}
      → IsRest tokens aliases fits r d t c x a b → sign_at tokens aliases b ≡ sign.Semicolon
      → Spells a_declared (declared_rest aliases r d t c) (record { declaration = x; goes_on = false }) a (b + 1)
  rest_rows_semicolon {x = x} {b = b} i semicolon =
      rest_on i (record { declaration = x; goes_on = false }) (b + 1)
      (goes_right (goes_token (seen tokens aliases 18 b sign.Semicolon semicolon refl) goes_done))

  -- The rows spell declarators with their semicolon.
  pub declarators_rows : {r : Role} {d : ℕ} {t : Specified} {xs : List Declaration} {a b : ℕ}
      → IsDeclarators tokens aliases fits r d t xs a b → sign_at tokens aliases b ≡ sign.Semicolon
      → Spells some_declarations (declarators aliases r d t) xs a (b + 1)
  declarators_rows (of_last_declarator c i) semicolon =
      by_rule (goes_part (declarator_rows c) (goes_part (rest_rows_semicolon i semicolon) (goes_right (goes_only refl goes_done))))
  declarators_rows (of_further_declarator c i comma more) semicolon =
      by_rule (goes_part (declarator_rows c) (goes_part (rest_rows_comma i comma)
      (goes_left (goes_only refl (goes_part (declarators_rows more semicolon) goes_done)))))

  -- The rows spell members with the brace that closes them.
  pub members_rows : {d : ℕ} {xs : List Declaration} {a b : ℕ} → IsMembers tokens aliases fits d xs a b
      → sign_at tokens aliases b ≡ sign.CloseBrace → Spells some_declarations (members aliases d) xs a (b + 1)
  members_rows {b = b} no_member close = by_rule (goes_left (goes_token (seen tokens aliases 17 b sign.CloseBrace close refl) goes_done))
  members_rows (of_members t xs semicolon more) close =
      by_rule (goes_right (goes_part
      (by_rule (goes_part (specifier_rows t) (goes_part (declarators_rows xs semicolon) goes_done)))
      (goes_part (members_rows more close) goes_done)))

  -- locals ------------------------------------------------------------------------

  -- what stands after the length of a local's declarator
  abbrev Local : (d : ℕ) → Specified → Declarator → Option Expression → ℕ → Row a_variable
  Local d t c l n =
      either (sees tokens (an_equals aliases) n)
      (token (an_equals aliases) (part an_expression (expression aliases d 0) (λ x e.
      done (declaration t c l [] (Some (value x)) (span_over tokens c.start e)))))
      (done (declaration t c l [] None (span_over tokens c.start n)))

  -- The rows spell a local's declarator.
  pub variable_rows : {d : ℕ} {t : Specified} {x : Declaration} {a b : ℕ} → IsVariable tokens aliases fits d t x a b
      → Spells a_variable (variable aliases d t) x a b
  variable_rows {d = d} {t = t} {x = x} {b = b} (of_unset {c = c} i length) =
      by_rule (goes_part (declarator_rows i) (length_goes length (Local d t c) x b (goes_right goes_done)))
  variable_rows {d = d} {t = t} {x = x} {b = b} (of_set {c = c} {n = n} i length equals set) =
      by_rule (goes_part (declarator_rows i) (length_goes length (Local d t c) x b
      (goes_left (goes_token (seen tokens aliases 23 n sign.Equals equals refl)
      (goes_part (expression_rows tokens aliases fits set (omega arith)) goes_done)))))

  -- The rows spell a first variable and the others.
  pub variables_rows : {d : ℕ} {t : Specified} {xs : List Declaration} {a b : ℕ} → IsVariables tokens aliases fits d t xs a b
      → (x : Declaration) × (ys : List Declaration) × (xs ≡ x ∷ ys) × Spells some_variables (variables aliases d t) (x, ys) a b
  variables_rows (of_last_variable {x = x} i) = (x, [], refl, by_rule (goes_part (variable_rows i) (goes_right goes_done)))
  variables_rows {d = d} {t = t} {b = b} (of_further_variable {x = x} {xs = xs} {m = m} i comma more) =
      let rest = variables_rows more in (
        x,
        xs,
        refl,
        by_rule (goes_part (variable_rows i) (goes_left (goes_token (seen tokens aliases 9 m sign.Comma comma refl)
            (goes_part rest.3 (subst (λ zs. Goes some_variables (done (x, rest.0 ∷ rest.1)) (x, zs) b b) (sym rest.2) goes_done))))),
      )

  -- The rows spell locals.
  pub locals_rows : {single : Bool} {d : ℕ} {xs : List Declaration} {a b : ℕ} → IsLocals tokens aliases fits single d xs a b
      → Spells some_declarations (locals aliases single d) xs a b
  locals_rows {b = b} (of_locals {xs = xs} t i) =
      let all = variables_rows i in
      by_rule (goes_part (specifier_rows t)
      (goes_part all.3 (subst (λ zs. Goes some_declarations (done (all.0 ∷ all.1)) zs b b) (sym all.2) goes_done)))
  locals_rows (of_one_local t i) = by_rule (goes_part (specifier_rows t) (goes_part (variable_rows i) goes_done))
