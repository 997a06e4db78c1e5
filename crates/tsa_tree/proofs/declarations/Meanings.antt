-- What the parts of declarations, items and statements are in terms of the productions. Expressions and attributes are what their rows
-- spell.
use Rattle.std.proofs.Common.{ℕ, ◌+◌, ◌≡◌, List, [], ◌∷◌, map, Bool, true, false, ◌⊎◌}
use Rattle.tsa_base.specs.Tokens.{Lexeme}
use Rattle.tsa_tree.specs.declared.sign.Sign.{Sign}
use Rattle.tsa_tree.specs.declared.sign.Sign.TheVariants as sign
use Rattle.tsa_tree.specs.declarations.Syntax.{Specified, Declarator, Declaration, Signature, head_of}
use Rattle.tsa_tree.specs.units.Syntax.{UnitItem, global_item, function_item, body_item}
use Rattle.tsa_tree.specs.declarations.Spelling.{a_member, a_global, IsConsts, IsSpecifier, IsDeclarator, IsInitialiser, IsInitialisers}
use Rattle.tsa_tree.specs.declarations.Spelling.{IsRest, IsDeclarators, IsMembers, IsVariable, IsVariables, IsLocals}
use Rattle.tsa_tree.specs.declarations.ItemSpelling.{IsParameterList, IsParameters, IsStorage, IsSignature, IsHead, IsStructBody}
use Rattle.tsa_tree.specs.declarations.ItemSpelling.{IsConstants, IsEnumBody, IsItem}
use Rattle.tsa_tree.specs.units.Spelling.{IsItems}
use Rattle.tsa_tree.specs.statements.Syntax.{Statements}
use Rattle.tsa_tree.specs.statements.Spelling.{IsSimple, IsForInit, IsStatement, IsStatements}
use Rattle.tsa_tree.specs.tokens.Signs.{Aliases, sign_at, span_at}
use Rattle.tsa_tree.specs.Rows.{Sort, Node, Call, consts, storage, specifier, declarator, initialiser, initialisers, declared_rest}
use Rattle.tsa_tree.specs.Rows.{declarators, member_line, members, variable, variables, locals, parameter_list, parameters, signature, head}
use Rattle.tsa_tree.specs.Rows.{struct_body, constants, enum_body, declared, item, items, simple, for_init, statement, statements, is_past}
use Rattle.tsa_tree.specs.Rows.{sees, Row, rule}
use Rattle.tsa_tree.proofs.Inductions as all
use Rattle.tsa_grammar.specs.Spelling as forms

module _ (tokens : List Lexeme) (fits : ℕ → Bool) where
  -- nothing is asked of the place of a part
  abbrev pub Needs : (s : Sort) → Call s → ℕ → Type 0
  Needs s c a = Unit {0}

  -- what the tokens up to before n spell, and the token of this sign at n, which is the last one before b
  abbrev pub Closed : Aliases → (ℕ → Type 0) → Sign → (b : ℕ) → Type 0
  Closed aliases Spelled s b = (n : ℕ) × Spelled n × (sign_at tokens aliases n ≡ s) × (b ≡ n + 1)

  abbrev pub delimiter_sign : Bool → Sign
  delimiter_sign true = sign.Comma
  delimiter_sign false = sign.Semicolon

  abbrev pub IsLine : Aliases → (d : ℕ) → List Declaration → (a n : ℕ) → Type 0
  IsLine aliases d xs a n =
      (t : Specified) × (m : ℕ) × IsSpecifier tokens aliases t a m × IsDeclarators tokens aliases fits a_member d t xs m n

  -- globals, or a function
  abbrev pub IsGlobals : Aliases → Specified → List UnitItem → (a n : ℕ) → Type 0
  IsGlobals aliases t xs a n =
      (ys : List Declaration) × IsDeclarators tokens aliases fits a_global 0 t ys a n × (xs ≡ map global_item ys)

  abbrev pub IsFunction : Aliases → Specified → List UnitItem → (a n : ℕ) → Type 0
  IsFunction aliases t xs a n =
      (c : Declarator) × (s : Signature) × (m : ℕ) × IsDeclarator tokens aliases c a m × IsSignature tokens aliases fits s m n
      × (xs ≡ function_item (head_of t c s) ∷ [])

  -- a function with its body up to before its brace
  abbrev pub IsBodied : Aliases → Bool → Specified → List UnitItem → (a n : ℕ) → Type 0
  IsBodied aliases bodies t xs a n =
      (c : Declarator) × (s : Signature) × (m : ℕ) × (inner : Statements) × IsDeclarator tokens aliases c a m
      × (e : ℕ) × IsSignature tokens aliases fits s m e × (sign_at tokens aliases e ≡ sign.OpenBrace) × (fits 0 ≡ true)
      × IsStatements tokens aliases fits 1 inner (e + 1) n × (xs ≡ body_item (head_of t c s) inner (span_at tokens n) ∷ [])
      × (bodies ≡ true)

  abbrev pub Means : (s : Sort) → Call s → Node s → (a b : ℕ) → Type 0
  Means _ (consts aliases) u a b = IsConsts tokens aliases true a b
  Means _ (storage aliases) u a b = IsStorage tokens aliases a b
  Means _ (specifier aliases) t a b = IsSpecifier tokens aliases t a b
  Means _ (declarator aliases) c a b = IsDeclarator tokens aliases c a b
  Means _ (initialiser aliases d) x a b = IsInitialiser tokens aliases fits d x a b
  Means _ (initialisers aliases d) xs a b = Closed aliases (λ n. IsInitialisers tokens aliases fits d xs a n) sign.CloseBrace b
  Means _ (declared_rest aliases r d t c) x a b =
      Closed aliases (λ n. IsRest tokens aliases fits r d t c x.declaration a n) (delimiter_sign x.goes_on) b
  Means _ (declarators aliases r d t) xs a b = Closed aliases (λ n. IsDeclarators tokens aliases fits r d t xs a n) sign.Semicolon b
  Means _ (member_line aliases d) xs a b = Closed aliases (λ n. IsLine aliases d xs a n) sign.Semicolon b
  Means _ (members aliases d) xs a b = Closed aliases (λ n. IsMembers tokens aliases fits d xs a n) sign.CloseBrace b
  Means _ (variable aliases d t) x a b = IsVariable tokens aliases fits d t x a b
  Means _ (variables aliases d t) xs a b = IsVariables tokens aliases fits d t (xs.0 ∷ xs.1) a b
  Means _ (locals aliases single d) xs a b = IsLocals tokens aliases fits single d xs a b
  Means _ (parameter_list aliases) xs a b = Closed aliases (λ n. IsParameterList tokens aliases xs a n) sign.Close b
  Means _ (parameters aliases) xs a b = Closed aliases (λ n. IsParameters tokens aliases xs a n) sign.Close b
  Means _ (signature aliases) s a b = IsSignature tokens aliases fits s a b
  Means _ (head aliases) h a b = IsHead tokens aliases fits h a b
  Means _ (struct_body aliases) s a b = IsStructBody tokens aliases fits s a b
  Means _ (constants aliases) xs a b = Closed aliases (λ n. IsConstants tokens aliases fits xs a n) sign.CloseBrace b
  Means _ (enum_body aliases) xs a b = IsEnumBody tokens aliases fits xs a b
  Means _ (declared aliases bodies t) xs a b =
      Closed aliases (λ n. IsGlobals aliases t xs a n) sign.Semicolon b
      ⊎ (Closed aliases (λ n. IsFunction aliases t xs a n) sign.Semicolon b ⊎ Closed aliases (λ n. IsBodied aliases bodies t xs a n) sign.CloseBrace b)
  Means _ (item aliases bodies) xs a b = IsItem tokens aliases fits bodies xs a b
  Means _ (items aliases) xs a b = IsItems tokens fits aliases xs a b × (is_past tokens b ≡ true)
  Means _ (simple aliases d) x a b = IsSimple tokens aliases fits d x.simple a b
  Means _ (for_init aliases d) x a b = Closed aliases (λ n. IsForInit tokens aliases fits d x a n) sign.Semicolon b
  Means _ (statement aliases d) x a b = IsStatement tokens aliases fits d x a b
  Means _ (statements aliases d) xs a b = Closed aliases (λ n. IsStatements tokens aliases fits d xs a n) sign.CloseBrace b
  Means s c x a b = forms.Spells (rule tokens) (sees tokens) fits s c x a b

  abbrev pub Keeps : (s : Sort) → (Node s → ℕ → Type 0) → Row s → ℕ → Type 0
  Keeps s P f a = all.Keeps (rule tokens) (sees tokens) fits Needs Means s P f a
