-- The rows spell the items that the productions spell.
use Rattle.std.proofs.Common.{ℕ, ◌+◌, ◌≡◌, ap, sym, subst, refl, List, [], ◌∷◌, ◌++◌, map, Bool, true, false, ◌||◌, Some, None, arith, ◌-◌}
use Rattle.std.specs.declared.option.Option.{Option}
use Rattle.tsa_base.specs.Tokens.{Lexeme}
use Rattle.tsa_base.proofs.Truths.{never_true as never}
use Rattle.tsa_tree.specs.declared.sign.Keyword.TheVariants as key
use Rattle.tsa_tree.specs.declared.sign.Sign.{Sign}
use Rattle.tsa_tree.specs.declared.sign.Sign.TheVariants as sign
use Rattle.tsa_tree.specs.attributes.Syntax.{Attribute}
use Rattle.tsa_tree.specs.attributes.Spelling.{IsGroup, IsAttributes, of_no_group, of_group}
use Rattle.tsa_tree.specs.declarations.Syntax.{Base, structure, enumerated, Specified, Declarator, Declaration, EnumConstant, Signature}
use Rattle.tsa_tree.specs.declarations.Syntax.{StructBody, head_of, made_of}
use Rattle.tsa_tree.specs.units.Syntax.{UnitItem, structure_item, alias_item, enumeration_item, global_item, function_item, body_item}
use Rattle.tsa_tree.specs.declarations.Spelling as spells
use Rattle.tsa_tree.specs.declarations.Spelling.{a_global, IsConsts, no_const, of_const, IsBase, of_specifier, IsSpecifier, IsDeclarator}
use Rattle.tsa_tree.specs.declarations.Spelling.{IsDeclarators, of_last_declarator, of_further_declarator}
use Rattle.tsa_tree.specs.expressions.Syntax.{Identifier}
use Rattle.tsa_tree.specs.declarations.ItemSpelling.{IsStorage, no_storage, of_storage, IsTag, no_tag, of_tag, IsSignature, of_head}
use Rattle.tsa_tree.specs.declarations.ItemSpelling.{IsStructBody, IsEnumBody, IsItem, of_structure, of_tag_alone, of_structure_alias}
use Rattle.tsa_tree.specs.declarations.ItemSpelling.{of_enumeration, of_enumeration_alias, of_alias_item, of_globals, of_function}
use Rattle.tsa_tree.specs.declarations.ItemSpelling.{of_body_item}
use Rattle.tsa_tree.specs.tokens.Signs.{Aliases, sign_at, span_over, identifier_at, is_storage, span_at}
use Rattle.tsa_tree.specs.Rows.{Sort, some_attributes, a_specifier, some_items, Node, Call, attributes, specifier, declared, item, a_name}
use Rattle.tsa_tree.specs.Rows.{a_semicolon, a_tag, is_keyword, sees, Row, behind_storage, structure_end, structure_alias_end}
use Rattle.tsa_tree.specs.Rows.{enumeration_end, enumeration_alias_end, alias_end, tagged_alias, typedef_row, item_row, rule, function_end}
use Rattle.tsa_tree.proofs.attributes.ListsToRows.{attributes_rows}
use Rattle.tsa_tree.proofs.attributes.TokenCounts.{ahead-group, ahead-attributes}
use Rattle.tsa_tree.proofs.declarations.ToRows.{consts_goes, qualified_rows, specifier_rows, declarator_rows, rest_rows_comma}
use Rattle.tsa_tree.proofs.declarations.ToRows.{rest_rows_semicolon, declarators_rows}
use Rattle.tsa_tree.proofs.declarations.HeadsToRows.{storage_goes, signature_rows, struct_body_rows, enum_body_rows}
use Rattle.tsa_tree.proofs.tokens.ProductionSigns.{seen}
use Rattle.tsa_tree.specs.statements.Syntax.{Statements}
use Rattle.tsa_tree.specs.statements.Spelling.{IsStatements}
use Rattle.tsa_tree.proofs.statements.BlocksToRows.{statements_rows}
use Rattle.tsa_grammar.specs.Form.{done, token, part, either}
use Rattle.tsa_grammar.specs.Spelling as forms
use Rattle.tsa_grammar.specs.Spelling.{by_rule, goes_done, goes_token, goes_part, goes_only, goes_left, goes_right, goes_limit}

-- a sign at which an item begins with storage words or a type, and not with a struct or an enum
abbrev begins_type : Sign → Bool
begins_type (sign.Keyword key.Struct) = false
begins_type (sign.Keyword key.Enum) = false
begins_type (sign.Keyword key.Typedef) = false
begins_type _ = true

storage_begins : (s : Sign) → is_storage s ≡ true → begins_type s ≡ true
storage_begins (sign.Keyword key.Struct) e = never e
storage_begins (sign.Keyword key.Enum) e = never e
storage_begins (sign.Keyword key.Typedef) e = never e
storage_begins _ e = refl

module _ (tokens : List Lexeme) (aliases : Aliases) (fits : ℕ → Bool) (bodies : Bool) where
  abbrev Spells : (s : Sort) → Call s → Node s → (a b : ℕ) → Type 0
  Spells s c x a b = forms.Spells (rule tokens) (sees tokens) fits s c x a b

  abbrev Goes : (s : Sort) → Row s → Node s → (a b : ℕ) → Type 0
  Goes s f x a b = forms.Goes (rule tokens) (sees tokens) fits s f x a b

  sees_name : (m : ℕ) → sign_at tokens aliases m ≡ sign.Name → sees tokens (a_name aliases) m ≡ true
  sees_name m e = seen tokens aliases 2 m sign.Name e refl

  sees_semicolon : (m : ℕ) → sign_at tokens aliases m ≡ sign.Semicolon → sees tokens (a_semicolon aliases) m ≡ true
  sees_semicolon m e = seen tokens aliases 18 m sign.Semicolon e refl

  -- An item has the row of its first token's sign.
  item_by : (a b : ℕ) (xs : List UnitItem) (s : Sign) → sign_at tokens aliases a ≡ s
      → Goes some_items (item_row tokens aliases bodies a s) xs a b → Spells some_items (item aliases bodies) xs a b
  item_by a b xs s e g = by_rule (subst (λ s. Goes some_items (item_row tokens aliases bodies a s) xs a b) (sym e) g)

  -- A typedef has the row of the sign after its first token.
  typedef_by : (a b : ℕ) (xs : List UnitItem) (s : Sign) → sign_at tokens aliases a ≡ sign.Keyword key.Typedef
      → sign_at tokens aliases (a + 1) ≡ s → Goes some_items (typedef_row tokens aliases a s) xs (a + 1) b
      → Spells some_items (item aliases bodies) xs a b
  typedef_by a b xs s q e g =
      item_by a b xs (sign.Keyword key.Typedef) q
      (goes_token (ap (is_keyword key.Typedef) q) (subst (λ s. Goes some_items (typedef_row tokens aliases a s) xs (a + 1) b) (sym e) g))

  -- One group of attributes or more are spelled.
  groups_rows : {xs ys : List Attribute} {a m b : ℕ} → IsGroup tokens aliases fits 0 xs a m → IsAttributes tokens aliases fits 0 ys m b
      → Spells some_attributes (attributes aliases 0) (xs ++ ys) a b
  groups_rows g r = attributes_rows tokens aliases fits (of_group g r) (omega (arith, ahead-group g, ahead-attributes r))

  -- a struct's body and its semicolon
  structure_goes : {body : StructBody} {m n : ℕ} → IsStructBody tokens aliases fits body m n → sign_at tokens aliases n ≡ sign.Semicolon
      → (start : ℕ) (xs : List Attribute) (tag : Option Identifier)
      → Goes some_items (structure_end tokens aliases start xs tag)
      (structure_item tag None (xs ++ body.attrs) body.members (span_over tokens start (n + 1)) ∷ []) m (n + 1)
  structure_goes {n = n} i semicolon start xs tag =
      goes_part (struct_body_rows tokens aliases fits i) (goes_token (sees_semicolon n semicolon) goes_done)

  -- a struct's body, its alias and its semicolon
  structure_alias_goes : {body : StructBody} {m n : ℕ} → IsStructBody tokens aliases fits body m n → sign_at tokens aliases n ≡ sign.Name
      → sign_at tokens aliases (n + 1) ≡ sign.Semicolon → (start : ℕ) (xs : List Attribute) (tag : Option Identifier)
      → Goes some_items (structure_alias_end tokens aliases start xs tag)
      (structure_item tag (Some (identifier_at tokens n)) (xs ++ body.attrs) body.members (span_over tokens start (n + 1 + 1)) ∷ []) m (n + 1 + 1)
  structure_alias_goes {n = n} i name semicolon start xs tag =
      goes_part (struct_body_rows tokens aliases fits i) (goes_token (sees_name n name) (goes_token (sees_semicolon (n + 1) semicolon) goes_done))

  -- the same after attributes, with a tag or without
  tagged_alias_goes : {tag : Option Identifier} {m n : ℕ} → IsTag tokens aliases tag m n → (start : ℕ) (xs : List Attribute)
      → (ys : List UnitItem) (b : ℕ) → Goes some_items (structure_alias_end tokens aliases start xs tag) ys n b
      → Goes some_items (tagged_alias tokens aliases start xs m) ys m b
  tagged_alias_goes no_tag start xs ys b g = goes_left g
  tagged_alias_goes (of_tag tag) start xs ys b g = goes_right (goes_token tag g)

  -- an enum's body and its semicolon
  enumeration_goes : {xs : List EnumConstant} {m n : ℕ} → IsEnumBody tokens aliases fits xs m n → sign_at tokens aliases n ≡ sign.Semicolon
      → (start : ℕ) (tag : Option Identifier)
      → Goes some_items (enumeration_end tokens aliases start tag) (enumeration_item tag None xs (span_over tokens start (n + 1)) ∷ []) m (n + 1)
  enumeration_goes {n = n} i semicolon start tag =
      goes_part (enum_body_rows tokens aliases fits i) (goes_token (sees_semicolon n semicolon) goes_done)

  -- an enum's body, its alias and its semicolon
  enumeration_alias_goes : {xs : List EnumConstant} {m n : ℕ} → IsEnumBody tokens aliases fits xs m n → sign_at tokens aliases n ≡ sign.Name
      → sign_at tokens aliases (n + 1) ≡ sign.Semicolon → (start : ℕ) (tag : Option Identifier)
      → Goes some_items (enumeration_alias_end tokens aliases start tag)
      (enumeration_item tag (Some (identifier_at tokens n)) xs (span_over tokens start (n + 1 + 1)) ∷ []) m (n + 1 + 1)
  enumeration_alias_goes {n = n} i name semicolon start tag =
      goes_part (enum_body_rows tokens aliases fits i) (goes_token (sees_name n name) (goes_token (sees_semicolon (n + 1) semicolon) goes_done))

  -- A row goes on after a tag, or nothing, where it does after that, whatever else may stand after a tag.
  tag_goes : {tag : Option Identifier} {a m : ℕ} → IsTag tokens aliases tag a m → (end : Option Identifier → Row some_items)
      → (unnamed named : Bool) (other : Row some_items) (xs : List UnitItem) (b : ℕ) → Goes some_items (end tag) xs m b
      → Goes some_items (either unnamed (end None) (token (a_tag aliases) (either named (end (Some (identifier_at tokens a))) other))) xs a b
  tag_goes no_tag end unnamed named other xs b g = goes_left g
  tag_goes (of_tag tag) end unnamed named other xs b g = goes_right (goes_token tag (goes_left g))

  -- the declarator of an alias and its semicolon
  alias_goes : {c : Declarator} {m n : ℕ} → IsDeclarator tokens aliases c m n → sign_at tokens aliases n ≡ sign.Semicolon → (t : Specified)
      → Goes some_items (alias_end tokens aliases t m)
      (alias_item c.name (made_of t c.pointer c.pointer_const None) (span_over tokens m n) ∷ []) m (n + 1)
  alias_goes {n = n} i semicolon t =
      goes_part (declarator_rows tokens aliases fits i) (goes_token (sees_semicolon n semicolon) goes_done)

  -- The rows spell globals after their type.
  pub globals_rows : {t : Specified} {xs : List Declaration} {a b : ℕ} → IsDeclarators tokens aliases fits a_global 0 t xs a b
      → sign_at tokens aliases b ≡ sign.Semicolon → Spells some_items (declared aliases bodies t) (map global_item xs) a (b + 1)
  globals_rows (of_last_declarator c i) semicolon =
      by_rule (goes_part (declarator_rows tokens aliases fits c) (goes_right
      (goes_part (rest_rows_semicolon tokens aliases fits i semicolon) (goes_right (goes_only refl goes_done)))))
  globals_rows (of_further_declarator c i comma more) semicolon =
      by_rule (goes_part (declarator_rows tokens aliases fits c) (goes_right
      (goes_part (rest_rows_comma tokens aliases fits i comma)
      (goes_left (goes_only refl (goes_part (declarators_rows tokens aliases fits more semicolon) goes_done))))))

  -- The rows spell a function after its type.
  pub function_rows : {t : Specified} {c : Declarator} {s : Signature} {a m b : ℕ} → IsDeclarator tokens aliases c a m
      → IsSignature tokens aliases fits s m b → sign_at tokens aliases b ≡ sign.Semicolon
      → Spells some_items (declared aliases bodies t) (function_item (head_of t c s) ∷ []) a (b + 1)
  function_rows {t = t} {c = of} {s = signed} {b = b} c s semicolon =
      by_rule (goes_part (declarator_rows tokens aliases fits c)
      (goes_left (goes_part (signature_rows tokens aliases fits s) (ended bodies))))
    where
      ended : (bodies : Bool) → Goes some_items (function_end tokens aliases bodies (head_of t of signed) b) (function_item (head_of t of signed) ∷ []) b (b + 1)
      ended false = goes_token (sees_semicolon b semicolon) goes_done
      ended true = goes_left (goes_token (sees_semicolon b semicolon) goes_done)

  -- The rows spell a function with its body after its type, where items may have bodies.
  body_rows : {t : Specified} {c : Declarator} {s : Signature} {inner : Statements} {a m e b : ℕ} → bodies ≡ true → IsDeclarator tokens aliases c a m
      → IsSignature tokens aliases fits s m e → sign_at tokens aliases e ≡ sign.OpenBrace → fits 0 ≡ true
      → IsStatements tokens aliases fits 1 inner (e + 1) b → sign_at tokens aliases b ≡ sign.CloseBrace
      → Spells some_items (declared aliases bodies t) (body_item (head_of t c s) inner (span_at tokens b) ∷ []) a (b + 1)
  body_rows {t = t} {c = of} {s = signed} {inner = inner} {e = e} {b = b} q c s brace fit i close =
      by_rule (goes_part (declarator_rows tokens aliases fits c) (goes_left (goes_part (signature_rows tokens aliases fits s)
      (subst (λ w. Goes some_items (function_end tokens aliases w (head_of t of signed) e) (made b) e (b + 1)) (sym q)
      (goes_right (goes_left (goes_limit fit (goes_token (seen tokens aliases 16 e sign.OpenBrace brace refl)
      (goes_part (statements_rows tokens aliases fits i close)
      (subst (λ k. Goes some_items (done (made (b + 1 - 1))) (made k) (b + 1) (b + 1)) back goes_done))))))))))
    where
      made : ℕ → List UnitItem
      made k = body_item (head_of t of signed) inner (span_at tokens k) ∷ []

      back : b + 1 - 1 ≡ b
      back = omega arith

  -- the row of an item that begins with storage words or a type
  abbrev Typed : Row some_items
  Typed = part a_specifier (specifier aliases) (λ t n. part some_items (declared aliases bodies t) (λ xs e. done xs))

  -- what stands after a type that has a row of its own
  abbrev Behind : Base → Bool → ℕ → Row some_items
  Behind base c n = part some_items (declared aliases bodies (record { base = base; is_const = c })) (λ xs e. done xs)

  typed_row : (m : ℕ) (s : Sign) → begins_type s ≡ true → item_row tokens aliases bodies m s ≡ behind_storage tokens aliases m Typed
  typed_row m (sign.Keyword key.Struct) e = never e
  typed_row m (sign.Keyword key.Enum) e = never e
  typed_row m (sign.Keyword key.Typedef) e = never e
  typed_row m _ e = refl

  typed_by : (a b : ℕ) (xs : List UnitItem) → begins_type (sign_at tokens aliases a) ≡ true
      → Goes some_items (behind_storage tokens aliases a Typed) xs a b → Spells some_items (item aliases bodies) xs a b
  typed_by a b xs e g =
      by_rule (subst (λ f. Goes some_items f xs a b) (sym (typed_row a (sign_at tokens aliases a) e)) g)

  -- the row of an alias of any other type than a struct or an enum
  abbrev Aliased : Row some_items
  Aliased = part a_specifier (specifier aliases) (λ t n. alias_end tokens aliases t n)

  aliased_row : (m : ℕ) (s : Sign) → begins_type s ≡ true → typedef_row tokens aliases m s ≡ Aliased
  aliased_row m (sign.Keyword key.Struct) e = never e
  aliased_row m (sign.Keyword key.Enum) e = never e
  aliased_row m _ e = refl

  aliased_by : (a b : ℕ) (xs : List UnitItem) → sign_at tokens aliases a ≡ sign.Keyword key.Typedef
      → begins_type (sign_at tokens aliases (a + 1)) ≡ true → Goes some_items Aliased xs (a + 1) b → Spells some_items (item aliases bodies) xs a b
  aliased_by a b xs q e g =
      typedef_by a b xs (sign_at tokens aliases (a + 1)) q refl
      (subst (λ f. Goes some_items f xs (a + 1) b) (sym (aliased_row a (sign_at tokens aliases (a + 1)) e)) g)

  -- a base that has a tag
  abbrev is_tagged : Base → Bool
  is_tagged (structure tag) = true
  is_tagged (enumerated tag) = true
  is_tagged _ = false

  untagged : {base : Base} {a m : ℕ} → IsBase tokens aliases base a m → is_tagged base ≡ false
      → begins_type (sign_at tokens aliases a) ≡ true
  untagged (spells.of_int q) e = ap begins_type q
  untagged (spells.of_unsigned q) e = ap begins_type q
  untagged (spells.of_unsigned_int q q') e = ap begins_type q
  untagged (spells.of_signed q) e = ap begins_type q
  untagged (spells.of_signed_int q q') e = ap begins_type q
  untagged (spells.of_void q) e = ap begins_type q
  untagged (spells.of_struct q tag) e = absurd cc
  untagged (spells.of_enum q tag) e = absurd cc
  untagged (spells.of_alias q) e = ap begins_type q

  -- Where the rows go on after a type, they spell an item from the type on.
  qualified_on : {base : Base} {before behind : Bool} {a m n e : ℕ} → IsConsts tokens aliases before a m → IsBase tokens aliases base m n
      → IsConsts tokens aliases behind n e → (xs : List UnitItem) (b : ℕ)
      → Spells some_items (declared aliases bodies (record { base = base; is_const = before || behind })) xs e b
      → Spells some_items (item aliases bodies) xs a b
  qualified_on {a = a} (of_const q i) base behind xs b g =
      typed_by a b xs (ap begins_type q)
      (goes_right (goes_part (qualified_rows tokens aliases fits (of_const q i) base behind) (goes_part g goes_done)))
  qualified_on {base = base} {a = a} no_const (spells.of_struct q tag) behind xs b g =
      item_by a b xs (sign.Keyword key.Struct) q
      (goes_token (ap (is_keyword key.Struct) q) (goes_right (goes_token tag (goes_right (goes_right
      (consts_goes tokens aliases fits behind (Behind base) xs b (goes_part g goes_done)))))))
  qualified_on {base = base} {a = a} no_const (spells.of_enum q tag) behind xs b g =
      item_by a b xs (sign.Keyword key.Enum) q
      (goes_token (ap (is_keyword key.Enum) q) (goes_right (goes_token tag (goes_right
      (consts_goes tokens aliases fits behind (Behind base) xs b (goes_part g goes_done))))))
  qualified_on {a = a} no_const base behind xs b g =
      typed_by a b xs (untagged base refl)
      (goes_right (goes_part (qualified_rows tokens aliases fits no_const base behind) (goes_part g goes_done)))

  -- Where the rows go on after storage words and a type, they spell an item.
  typed_on : {t : Specified} {a m n : ℕ} → IsStorage tokens aliases a m → IsSpecifier tokens aliases t m n → (xs : List UnitItem) (b : ℕ)
      → Spells some_items (declared aliases bodies t) xs n b → Spells some_items (item aliases bodies) xs a b
  typed_on no_storage (of_specifier before base behind) xs b g = qualified_on before base behind xs b g
  typed_on {a = a} (of_storage q i) type xs b g =
      typed_by a b xs (storage_begins (sign_at tokens aliases a) q)
      (storage_goes tokens aliases fits (of_storage q i) Typed xs b (goes_part (specifier_rows tokens aliases fits type) (goes_part g goes_done)))

  -- what stands after the tag of a struct or an enum that is given an alias
  abbrev Renamed : Base → Bool → ℕ → Row some_items
  Renamed base c n = alias_end tokens aliases (record { base = base; is_const = c }) n

  -- Where the rows go on after a type, they spell an alias of it.
  aliased_on : {a : ℕ} {base : Base} {before behind : Bool} {m n e : ℕ} → sign_at tokens aliases a ≡ sign.Keyword key.Typedef
      → IsConsts tokens aliases before (a + 1) m → IsBase tokens aliases base m n → IsConsts tokens aliases behind n e
      → (xs : List UnitItem) (b : ℕ) → Goes some_items (alias_end tokens aliases (record { base = base; is_const = before || behind }) e) xs e b
      → Spells some_items (item aliases bodies) xs a b
  aliased_on {a = a} q (of_const q' i) base behind xs b g =
      aliased_by a b xs q (ap begins_type q') (goes_part (qualified_rows tokens aliases fits (of_const q' i) base behind) g)
  aliased_on {a = a} {base = base} q no_const (spells.of_struct q' tag) behind xs b g =
      typedef_by a b xs (sign.Keyword key.Struct) q q'
      (goes_token (ap (is_keyword key.Struct) q') (goes_right (goes_right (goes_token tag (goes_right
      (consts_goes tokens aliases fits behind (Renamed base) xs b g))))))
  aliased_on {a = a} {base = base} q no_const (spells.of_enum q' tag) behind xs b g =
      typedef_by a b xs (sign.Keyword key.Enum) q q'
      (goes_token (ap (is_keyword key.Enum) q') (goes_right (goes_token tag (goes_right
      (consts_goes tokens aliases fits behind (Renamed base) xs b g)))))
  aliased_on {a = a} q no_const base behind xs b g =
      aliased_by a b xs q (untagged base refl) (goes_part (qualified_rows tokens aliases fits no_const base behind) g)

  -- The rows spell an item.
  pub items_rows : {xs : List UnitItem} {a b : ℕ} → IsItem tokens aliases fits bodies xs a b → Spells some_items (item aliases bodies) xs a b
  items_rows {xs = xs} {a = a} {b = b} (of_structure q of_no_group tag i semicolon) =
      item_by a b xs (sign.Keyword key.Struct) q
      (goes_token (ap (is_keyword key.Struct) q) (goes_right (goes_token tag (goes_left (structure_goes i semicolon a [] _)))))
  items_rows {xs = xs} {a = a} {b = b} (of_structure q (of_group h r) tag i semicolon) =
      item_by a b xs (sign.Keyword key.Struct) q
      (goes_token (ap (is_keyword key.Struct) q) (goes_left (goes_part (groups_rows h r) (goes_token tag (structure_goes i semicolon a _ _)))))
  items_rows {xs = xs} {a = a} {b = b} (of_tag_alone q tag semicolon) =
      item_by a b xs (sign.Keyword key.Struct) q
      (goes_token (ap (is_keyword key.Struct) q) (goes_right (goes_token tag
      (goes_right (goes_left (goes_token (sees_semicolon (a + 1 + 1) semicolon) goes_done))))))
  items_rows {xs = xs} {a = a} {b = b} (of_structure_alias q q' of_no_group tag i name semicolon) =
      typedef_by a b xs (sign.Keyword key.Struct) q q'
      (goes_token (ap (is_keyword key.Struct) q')
      (goes_right (tag_goes tag (λ t. structure_alias_end tokens aliases a [] t) _ _ _ xs b (structure_alias_goes i name semicolon a [] _))))
  items_rows {xs = xs} {a = a} {b = b} (of_structure_alias q q' (of_group h r) tag i name semicolon) =
      typedef_by a b xs (sign.Keyword key.Struct) q q'
      (goes_token (ap (is_keyword key.Struct) q') (goes_left (goes_part (groups_rows h r)
      (tagged_alias_goes tag a _ xs b (structure_alias_goes i name semicolon a _ _)))))
  items_rows {xs = xs} {a = a} {b = b} (of_enumeration q tag i semicolon) =
      item_by a b xs (sign.Keyword key.Enum) q
      (goes_token (ap (is_keyword key.Enum) q)
      (tag_goes tag (λ t. enumeration_end tokens aliases a t) _ _ _ xs b (enumeration_goes i semicolon a _)))
  items_rows {xs = xs} {a = a} {b = b} (of_enumeration_alias q q' tag i name semicolon) =
      typedef_by a b xs (sign.Keyword key.Enum) q q'
      (goes_token (ap (is_keyword key.Enum) q')
      (tag_goes tag (λ t. enumeration_alias_end tokens aliases a t) _ _ _ xs b (enumeration_alias_goes i name semicolon a _)))
  items_rows {xs = xs} {b = b} (of_alias_item q (of_specifier before base behind) c semicolon) =
      aliased_on q before base behind xs b (alias_goes c semicolon _)
  items_rows {xs = xs} {b = b} (of_globals stored type ds semicolon) = typed_on stored type xs b (globals_rows ds semicolon)
  items_rows {xs = xs} {b = b} (of_function (of_head stored type c s) semicolon) = typed_on stored type xs b (function_rows c s semicolon)
  items_rows {xs = xs} {b = b} (of_body_item q (of_head stored type c s) brace fit inner close) =
      typed_on stored type xs b (body_rows q c s brace fit inner close)
