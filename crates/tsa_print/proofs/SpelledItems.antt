-- A run of the pieces of an item spells it up to spans.
use Rattle.std.proofs.Common.{ℕ, ◌+◌, ◌≡◌, ◌∙◌, ap, subst, sym, refl, List, [], ◌∷◌, ◌++◌, map, true, Some, None, option_map}
use Rattle.std.proofs.lemmas.List.{append-nil}
use Rattle.std.specs.declared.option.Option.{Option}
use Rattle.tsa_base.specs.Tokens.{Lexeme}
use Rattle.tsa_base.specs.declared.token.Span.{Span}
use Rattle.tsa_tree.specs.declared.sign.Keyword.TheVariants as key
use Rattle.tsa_tree.specs.attributes.Syntax.{Attribute, plain_attribute}
use Rattle.tsa_tree.specs.attributes.Spelling.{of_no_group}
use Rattle.tsa_tree.specs.declarations.Syntax.{DeclaredType, Declaration, EnumConstant, Head, StructBody, made_of}
use Rattle.tsa_tree.specs.declarations.Spelling.{of_declarator}
use Rattle.tsa_tree.specs.expressions.Syntax.{Identifier, plain, plain_name, nowhere}
use Rattle.tsa_tree.specs.declarations.ItemSpelling.{no_storage, IsTag, no_tag, of_tag, IsStructBody, of_struct_body, IsEnumBody}
use Rattle.tsa_tree.specs.declarations.ItemSpelling.{of_enum_body, IsItem, of_structure, of_structure_alias, of_enumeration}
use Rattle.tsa_tree.specs.declarations.ItemSpelling.{of_enumeration_alias, of_alias_item, of_globals, of_function, of_body_item}
use Rattle.tsa_tree.specs.declarations.Plain.{plain_type, plain_declaration, plain_constant, plain_head}
use Rattle.tsa_tree.specs.units.Plain.{plain_item}
use Rattle.tsa_tree.specs.statements.Plain.{plain_statements}
use Rattle.tsa_tree.specs.tokens.Signs.{Aliases, span_at, span_over, identifier_at}
use Rattle.tsa_tree.specs.statements.Syntax.{Statements}
use Rattle.tsa_tree.specs.units.Syntax.{UnitItem, structure_item, alias_item, enumeration_item, global_item, function_item, body_item}
use Rattle.tsa_tree.specs.expressions.Sound.{words_beside, is_name}
use Rattle.tsa_tree.specs.attributes.Sound.{SoundAttributes}
use Rattle.tsa_tree.specs.declarations.Sound.{SoundType, SoundMembers, SoundGlobal, SoundName, SoundHead, SoundConstants}
use Rattle.tsa_tree.specs.statements.Sound.{SoundStatements}
use Rattle.tsa_tree.specs.units.Sound.{SoundTag, SoundItem}
use Rattle.tsa_grammar.specs.Reading.{all}
use Rattle.tsa_print.specs.declared.mark.Mark.TheVariants as marks
use Rattle.tsa_print.specs.Canonical.{Piece, word, mark}
use Rattle.tsa_print.specs.DeclarationPieces.{name_pieces, attributes_pieces, type_pieces, declaration_pieces, members_pieces, head_pieces}
use Rattle.tsa_print.specs.DeclarationPieces.{constants_pieces}
use Rattle.tsa_print.specs.UnitPieces.{statements_pieces, item_pieces}
use Rattle.tsa_print.proofs.PieceSigns.{seen, name_seen, named_so}
use Rattle.tsa_print.proofs.Runs.{Run, run_split}
use Rattle.tsa_print.proofs.SpelledAttributes.{attributes_spelled}
use Rattle.tsa_print.proofs.SpelledDeclarations.{global_spelled, members_spelled}
use Rattle.tsa_print.proofs.SpelledHeads.{head_spelled, constants_spelled}
use Rattle.tsa_print.proofs.SpelledStatements.{statements_spelled}
use Rattle.tsa_print.proofs.SpelledTypes.{made_plain, type_spelled}
use Rattle.tsa_print.proofs.WordSigns.{keyword_seen, tag_seen}

-- attributes and no others are equal but for spans where those are
no_others : (us xs : List Attribute) → map plain_attribute us ≡ map plain_attribute xs → map plain_attribute (us ++ []) ≡ map plain_attribute xs
no_others us xs e = ap (map plain_attribute) (append-nil us) ∙ e

structure_plain : (t u m n : Option Identifier) (xs ys : List Attribute) (ds es : List Declaration) → option_map plain_name t ≡ option_map plain_name u
    → option_map plain_name m ≡ option_map plain_name n → map plain_attribute xs ≡ map plain_attribute ys
    → map plain_declaration ds ≡ map plain_declaration es
    → structure_item (option_map plain_name t) (option_map plain_name m) (map plain_attribute xs) (map plain_declaration ds) nowhere
    ≡ structure_item (option_map plain_name u) (option_map plain_name n) (map plain_attribute ys) (map plain_declaration es) nowhere
structure_plain t u m n xs ys ds es e f g h = rw (e, f, g, h) refl

enumeration_plain : (t u m n : Option Identifier) (xs ys : List EnumConstant) → option_map plain_name t ≡ option_map plain_name u
    → option_map plain_name m ≡ option_map plain_name n → map plain_constant xs ≡ map plain_constant ys
    → enumeration_item (option_map plain_name t) (option_map plain_name m) (map plain_constant xs) nowhere
    ≡ enumeration_item (option_map plain_name u) (option_map plain_name n) (map plain_constant ys) nowhere
enumeration_plain t u m n xs ys e f g = rw (e, f, g) refl

module _ (aliases : Aliases) (ts : List Lexeme) where
  abbrev pub ItemRead : UnitItem → (a b : ℕ) → Type 0
  ItemRead x a b = (u : UnitItem) × IsItem ts aliases all true (u ∷ []) a b × (plain_item u ≡ plain_item x)

  abbrev TagRead : Option Identifier → (a b : ℕ) → Type 0
  TagRead tag a b = (u : Option Identifier) × IsTag ts aliases u a b × (option_map plain_name u ≡ option_map plain_name tag)

  tag_spelled : (tag : Option Identifier) (a b : ℕ) → SoundTag tag → Run ts a (name_pieces tag) b → TagRead tag a b
  tag_spelled None a b ok h = subst (TagRead None a) h (None, no_tag, refl)
  tag_spelled (Some tag) a b ok h = subst (TagRead (Some tag) a) h.1
      (Some (identifier_at ts a), of_tag (tag_seen aliases ts a tag.text ok h.0), ap Some (named_so ts a tag h.0))

  abbrev bare_body : List Declaration → StructBody
  bare_body members = record { members = members; attrs = [] }

  -- the members of a struct in their braces, before other pieces
  abbrev BodyRead : List Declaration → List Piece → (a b : ℕ) → Type 0
  BodyRead xs ps a b =
      (us : List Declaration)
      × (m : ℕ)
      × IsStructBody ts aliases all (bare_body us) a m
      × (map plain_declaration us ≡ map plain_declaration xs)
      × Run ts m ps b

  body_spelled : (xs : List Declaration) (ps : List Piece) (a b : ℕ) → SoundMembers (words_beside aliases) xs
      → Run ts a (mark marks.OpenBlock ∷ (members_pieces xs ++ (mark marks.CloseStruct ∷ ps))) b → BodyRead xs ps a b
  body_spelled xs ps a b ok h =
      let two = run_split ts (a + 1) b (members_pieces xs) (mark marks.CloseStruct ∷ ps) h.1 in
      let us = members_spelled aliases ts 1 xs (a + 1) two.0 ok two.1 in (
        us.0,
        two.0 + 1,
        of_struct_body (seen aliases ts a (mark marks.OpenBlock) h.0) refl us.1 (seen aliases ts two.0 (mark marks.CloseStruct) two.2.0) of_no_group,
        us.2,
        two.2.1,
      )

  -- a struct without an alias
  structure_spelled : (tag : Identifier) (attrs : List Attribute) (members : List Declaration) (s : Span) (a b : ℕ) → SoundTag (Some tag)
      → SoundAttributes (words_beside aliases) attrs → SoundMembers (words_beside aliases) members
      → Run ts a (item_pieces (structure_item (Some tag) None attrs members s)) b
      → ItemRead (structure_item (Some tag) None attrs members s) a b
  structure_spelled tag attrs members s a b tag_ok attrs_ok ok h =
      let last = mark marks.Semicolon ∷ [] in
      let body = mark marks.OpenBlock ∷ (members_pieces members ++ (mark marks.CloseStruct ∷ last)) in
      let two = run_split ts (a + 1) b (attributes_pieces attrs) (word tag.text ∷ body) h.1 in
      let xs = attributes_spelled aliases ts 0 attrs (a + 1) two.0 attrs_ok two.1 in
      let us = body_spelled members last (two.0 + 1) b ok two.2.1 in
      subst (ItemRead (structure_item (Some tag) None attrs members s) a) us.4.1 (
        structure_item (Some (identifier_at ts two.0)) None (xs.0 ++ []) us.0 (span_over ts a (us.1 + 1)),
        of_structure (keyword_seen aliases ts a key.Struct h.0) xs.1 (tag_seen aliases ts two.0 tag.text tag_ok two.2.0) us.2
            (seen aliases ts us.1 (mark marks.Semicolon) us.4.0),
        structure_plain (Some (identifier_at ts two.0)) (Some tag) None None (xs.0 ++ []) attrs us.0 members (ap Some (named_so ts two.0 tag two.2.0))
            refl (no_others xs.0 attrs xs.2) us.3,
      )

  -- a struct with one
  structure_alias_spelled : (tag : Option Identifier) (name : Identifier) (attrs : List Attribute) (members : List Declaration) (s : Span) (a b : ℕ)
      → SoundTag tag → is_name aliases name.text ≡ true → SoundAttributes (words_beside aliases) attrs → SoundMembers (words_beside aliases) members
      → Run ts a (item_pieces (structure_item tag (Some name) attrs members s)) b → ItemRead (structure_item tag (Some name) attrs members s) a b
  structure_alias_spelled tag name attrs members s a b tag_ok name_ok attrs_ok ok h =
      let last = word name.text ∷ (mark marks.Semicolon ∷ []) in
      let body = mark marks.OpenBlock ∷ (members_pieces members ++ (mark marks.CloseStruct ∷ last)) in
      let one = run_split ts (a + 1 + 1) b (attributes_pieces attrs) (name_pieces tag ++ body) h.1.1 in
      let two = run_split ts one.0 b (name_pieces tag) body one.2 in
      let xs = attributes_spelled aliases ts 0 attrs (a + 1 + 1) one.0 attrs_ok one.1 in
      let t = tag_spelled tag one.0 two.0 tag_ok two.1 in
      let us = body_spelled members last two.0 b ok two.2 in
      subst (ItemRead (structure_item tag (Some name) attrs members s) a) us.4.1.1 (
        structure_item t.0 (Some (identifier_at ts us.1)) (xs.0 ++ []) us.0 (span_over ts a (us.1 + 1 + 1)),
        of_structure_alias (keyword_seen aliases ts a key.Typedef h.0) (keyword_seen aliases ts (a + 1) key.Struct h.1.0) xs.1 t.1 us.2
            (name_seen aliases ts us.1 name.text name_ok us.4.0) (seen aliases ts (us.1 + 1) (mark marks.Semicolon) us.4.1.0),
        structure_plain t.0 tag (Some (identifier_at ts us.1)) (Some name) (xs.0 ++ []) attrs us.0 members t.2
            (ap Some (named_so ts us.1 name us.4.0)) (no_others xs.0 attrs xs.2) us.3,
      )

  -- the enumerators of an enum in their braces, before other pieces
  abbrev EnumRead : List EnumConstant → List Piece → (a b : ℕ) → Type 0
  EnumRead xs ps a b =
      (us : List EnumConstant)
      × (m : ℕ)
      × IsEnumBody ts aliases all us a m
      × (map plain_constant us ≡ map plain_constant xs)
      × Run ts m ps b

  enum_spelled : (xs : List EnumConstant) (ps : List Piece) (a b : ℕ) → SoundConstants (words_beside aliases) xs
      → Run ts a (mark marks.OpenBrace ∷ (constants_pieces xs ++ (mark marks.CloseBrace ∷ ps))) b → EnumRead xs ps a b
  enum_spelled xs ps a b ok h =
      let two = run_split ts (a + 1) b (constants_pieces xs) (mark marks.CloseBrace ∷ ps) h.1 in
      let us = constants_spelled aliases ts xs (a + 1) two.0 ok two.1 in (
        us.0,
        two.0 + 1,
        of_enum_body (seen aliases ts a (mark marks.OpenBrace) h.0) refl us.1 (seen aliases ts two.0 (mark marks.CloseBrace) two.2.0),
        us.2,
        two.2.1,
      )

  enumeration_spelled : (tag other : Option Identifier) (values : List EnumConstant) (s : Span) (a b : ℕ) → SoundTag tag
      → SoundName (words_beside aliases) other
      → SoundConstants (words_beside aliases) values → Run ts a (item_pieces (enumeration_item tag other values s)) b
      → ItemRead (enumeration_item tag other values s) a b
  enumeration_spelled tag None values s a b tag_ok name_ok ok h =
      let last = mark marks.Semicolon ∷ [] in
      let body = mark marks.OpenBrace ∷ (constants_pieces values ++ (mark marks.CloseBrace ∷ last)) in
      let two = run_split ts (a + 1) b (name_pieces tag) body h.1 in
      let t = tag_spelled tag (a + 1) two.0 tag_ok two.1 in
      let us = enum_spelled values last two.0 b ok two.2 in
      subst (ItemRead (enumeration_item tag None values s) a) us.4.1 (
        enumeration_item t.0 None us.0 (span_over ts a (us.1 + 1)),
        of_enumeration (keyword_seen aliases ts a key.Enum h.0) t.1 us.2 (seen aliases ts us.1 (mark marks.Semicolon) us.4.0),
        enumeration_plain t.0 tag None None us.0 values t.2 refl us.3,
      )
  enumeration_spelled tag (Some name) values s a b tag_ok name_ok ok h =
      let last = word name.text ∷ (mark marks.Semicolon ∷ []) in
      let body = mark marks.OpenBrace ∷ (constants_pieces values ++ (mark marks.CloseBrace ∷ last)) in
      let two = run_split ts (a + 1 + 1) b (name_pieces tag) body h.1.1 in
      let t = tag_spelled tag (a + 1 + 1) two.0 tag_ok two.1 in
      let us = enum_spelled values last two.0 b ok two.2 in
      subst (ItemRead (enumeration_item tag (Some name) values s) a) us.4.1.1 (
        enumeration_item t.0 (Some (identifier_at ts us.1)) us.0 (span_over ts a (us.1 + 1 + 1)),
        of_enumeration_alias (keyword_seen aliases ts a key.Typedef h.0) (keyword_seen aliases ts (a + 1) key.Enum h.1.0) t.1 us.2
            (name_seen aliases ts us.1 name.text name_ok us.4.0) (seen aliases ts (us.1 + 1) (mark marks.Semicolon) us.4.1.0),
        enumeration_plain t.0 tag (Some (identifier_at ts us.1)) (Some name) us.0 values t.2 (ap Some (named_so ts us.1 name us.4.0)) us.3,
      )

  alias_spelled : (name : Identifier) (t : DeclaredType) (s : Span) (a b : ℕ) → SoundType (words_beside aliases) t → t.length ≡ None
      → is_name aliases name.text ≡ true
      → Run ts a (item_pieces (alias_item name t s)) b → ItemRead (alias_item name t s) a b
  alias_spelled name t s a b ok long named h =
      let two = run_split ts (a + 1) b (type_pieces t) (word name.text ∷ (mark marks.Semicolon ∷ [])) h.1 in
      let r = type_spelled aliases ts t (a + 1) two.0 ok two.1 in
      subst (ItemRead (alias_item name t s) a) two.2.1.1 (
        alias_item (identifier_at ts two.0) (made_of r.0 t.pointer t.pointer_const None) (span_over ts r.1 (two.0 + 1)),
        of_alias_item (keyword_seen aliases ts a key.Typedef h.0) r.2 (of_declarator r.3 (name_seen aliases ts two.0 name.text named two.2.0))
            (seen aliases ts (two.0 + 1) (mark marks.Semicolon) two.2.1.0),
        ap (λ n. alias_item n (plain_type (made_of r.0 t.pointer t.pointer_const None)) nowhere) (named_so ts two.0 name two.2.0)
            ∙ ap (λ t. alias_item (plain_name name) t nowhere) (made_plain r.0 t None r.4 r.5 (sym (ap (option_map plain) long))),
      )

  global_item_spelled : (x : Declaration) (a b : ℕ) → SoundGlobal (words_beside aliases) x → Run ts a (declaration_pieces x ++ mark marks.Semicolon ∷ []) b
      → ItemRead (global_item x) a b
  global_item_spelled x a b ok h =
      let two = run_split ts a b (declaration_pieces x) (mark marks.Semicolon ∷ []) h in
      let u = global_spelled aliases ts x a two.0 ok two.1 in
      subst (ItemRead (global_item x) a) two.2.1
      (global_item u.1, of_globals no_storage u.3 u.4 (seen aliases ts two.0 (mark marks.Semicolon) two.2.0), ap global_item u.5)

  function_spelled : (x : Head) (a b : ℕ) → SoundHead (words_beside aliases) x → Run ts a (head_pieces x ++ mark marks.Semicolon ∷ []) b
      → ItemRead (function_item x) a b
  function_spelled x a b ok h =
      let two = run_split ts a b (head_pieces x) (mark marks.Semicolon ∷ []) h in
      let u = head_spelled aliases ts x a two.0 ok two.1 in
      subst (ItemRead (function_item x) a) two.2.1
      (function_item u.0, of_function u.1 (seen aliases ts two.0 (mark marks.Semicolon) two.2.0), ap function_item u.2)

  body_item_spelled : (x : Head) (xs : Statements) (s : Span) (a b : ℕ) → SoundHead (words_beside aliases) x → SoundStatements (words_beside aliases) xs
      → Run ts a (item_pieces (body_item x xs s)) b → ItemRead (body_item x xs s) a b
  body_item_spelled x xs s a b head_ok ok h =
      let two = run_split ts a b (head_pieces x) (mark marks.OpenBlock ∷ (statements_pieces xs ++ mark marks.CloseBlock ∷ [])) h in
      let inner = run_split ts (two.0 + 1) b (statements_pieces xs) (mark marks.CloseBlock ∷ []) two.2.1 in
      let u = head_spelled aliases ts x a two.0 head_ok two.1 in
      let us = statements_spelled aliases ts xs 1 (two.0 + 1) inner.0 ok inner.1 in
      subst (ItemRead (body_item x xs s) a) inner.2.1 (
        body_item u.0 us.0 (span_at ts inner.0),
        of_body_item refl u.1 (seen aliases ts two.0 (mark marks.OpenBlock) two.2.0) refl us.1
            (seen aliases ts inner.0 (mark marks.CloseBlock) inner.2.0),
        ap (λ x. body_item x (plain_statements us.0) nowhere) u.2 ∙ ap (λ xs. body_item (plain_head x) xs nowhere) us.2,
      )

  pub item_spelled : (x : UnitItem) (a b : ℕ) → SoundItem (words_beside aliases) x → Run ts a (item_pieces x) b → ItemRead x a b
  item_spelled (structure_item None None attrs members s) a b ok h = absurd ok.0
  item_spelled (structure_item (Some tag) None attrs members s) a b ok h = structure_spelled tag attrs members s a b ok.0.0 ok.1 ok.2 h
  item_spelled (structure_item None (Some name) attrs members s) a b ok h =
      structure_alias_spelled None name attrs members s a b tt ok.0.1 ok.1 ok.2 h
  item_spelled (structure_item (Some tag) (Some name) attrs members s) a b ok h =
      structure_alias_spelled (Some tag) name attrs members s a b ok.0.0 ok.0.1 ok.1 ok.2 h
  item_spelled (alias_item name t s) a b ok h = alias_spelled name t s a b ok.0 ok.1 ok.2 h
  item_spelled (enumeration_item tag other values s) a b ok h = enumeration_spelled tag other values s a b ok.0 ok.1 ok.2 h
  item_spelled (global_item x) a b ok h = global_item_spelled x a b ok h
  item_spelled (function_item x) a b ok h = function_spelled x a b ok h
  item_spelled (body_item x xs s) a b ok h = body_item_spelled x xs s a b ok.0 ok.1 h
