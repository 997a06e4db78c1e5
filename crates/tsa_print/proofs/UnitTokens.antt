-- The pieces of a unit that the grammar can spell stay tokens of their own, and its text is read as them.
use Rattle.std.proofs.Common.{◌≡◌, List, [], ◌∷◌, ◌++◌, true, Some, None, Ok, refl}
use Rattle.std.specs.Prelude.{codes}
use Rattle.std.specs.declared.option.Option.{Option}
use Rattle.tsa_base.specs.declared.token.Span.{Span}
use Rattle.tsa_base.specs.Tokens.{Lexeme, tokens_of}
use Rattle.tsa_tree.specs.attributes.Syntax.{Attribute}
use Rattle.tsa_tree.specs.declarations.Syntax.{Declaration, EnumConstant}
use Rattle.tsa_tree.specs.expressions.Syntax.{Identifier}
use Rattle.tsa_tree.specs.tokens.Signs.{Aliases}
use Rattle.tsa_tree.specs.units.Syntax.{UnitItem, structure_item, alias_item, enumeration_item, global_item, function_item, body_item}
use Rattle.tsa_tree.specs.units.Syntax.{names_of_item}
use Rattle.tsa_tree.specs.expressions.Sound.{words_beside}
use Rattle.tsa_tree.specs.declarations.Sound.{SoundName}
use Rattle.tsa_tree.specs.units.Sound.{SoundTag, SoundTags, SoundItem, SoundItems}
use Rattle.tsa_print.specs.declared.mark.Mark.TheVariants as marks
use Rattle.tsa_print.specs.declared.sheet.Behind.TheVariants.{LineStart}
use Rattle.tsa_print.specs.Canonical.{word, mark}
use Rattle.tsa_print.specs.DeclarationPieces.{name_pieces, attributes_pieces, type_pieces, declaration_pieces, members_pieces, head_pieces}
use Rattle.tsa_print.specs.DeclarationPieces.{constants_pieces, typedef_pieces}
use Rattle.tsa_print.specs.UnitBases.{in_attributes, in_declarations, in_constants, in_statements, in_item, expressions_of, HasPlainBases}
use Rattle.tsa_print.specs.UnitPieces.{statements_pieces, item_pieces, unit_pieces, canonical_unit}
use Rattle.tsa_print.proofs.Apart.{AreTokens}
use Rattle.tsa_print.proofs.AttributesApart.{ArePlain, plain_parts, joins_word, joins_mark_before, joins_name, joins_attributes}
use Rattle.tsa_print.proofs.CanonicalApart.{word_of_name}
use Rattle.tsa_print.proofs.DeclarationsApart.{joins_type, joins_global, joins_members}
use Rattle.tsa_print.proofs.HeadsApart.{joins_head, joins_constants}
use Rattle.tsa_print.proofs.Joins.{Joins, joins_none, joins_apart, joins_append}
use Rattle.tsa_print.proofs.CanonicalTokens.{laid_tokens}
use Rattle.tsa_print.proofs.StatementsApart.{semicolon, joins_ended, joins_block, joins_statements}

joins_tag : (tag : Option Identifier) → SoundTag tag → Joins true (name_pieces tag)
joins_tag None sound = joins_none true
joins_tag (Some tag) sound = joins_name [] (Some tag) sound

joins_typedef : (other : Option Identifier) → Joins true (typedef_pieces other)
joins_typedef None = joins_none true
joins_typedef (Some name) = joins_word (codes "typedef") [] refl (joins_none true)

-- the tag and the other name of a struct
tags_parts : (aliases : Aliases) (tag other : Option Identifier) → SoundTags (words_beside aliases) tag other
    → SoundTag tag × SoundName (words_beside aliases) other
tags_parts aliases None None sound = absurd sound
tags_parts aliases None (Some name) sound = sound
tags_parts aliases (Some tag) None sound = sound
tags_parts aliases (Some tag) (Some name) sound = sound

-- what stands after the closing brace of a struct or an enum
joins_behind_brace : (aliases : Aliases) (other : Option Identifier) → SoundName (words_beside aliases) other
    → Joins true (name_pieces other ++ mark marks.Semicolon ∷ [])
joins_behind_brace aliases other sound = joins_ended marks.Semicolon (name_pieces other) refl (joins_name aliases other sound)

joins_structure : (aliases : Aliases) (tag other : Option Identifier) (attrs : List Attribute) (members : List Declaration) (span : Span) →
    SoundItem (words_beside aliases) (structure_item tag other attrs members span) → ArePlain (in_attributes attrs ++ in_declarations members) →
    Joins true (item_pieces (structure_item tag other attrs members span))
joins_structure aliases tag other attrs members span sound plain =
    let parts = plain_parts (in_attributes attrs) (in_declarations members) plain in
    let names = tags_parts aliases tag other sound.0 in
    let behind = name_pieces other ++ mark marks.Semicolon ∷ [] in
    let inner = members_pieces members ++ (mark marks.CloseStruct ∷ behind) in
    let named = name_pieces tag ++ (mark marks.OpenBlock ∷ inner) in
    joins_append true (typedef_pieces other) (word (codes "struct") ∷ (attributes_pieces attrs ++ named)) refl (joins_typedef other)
    (joins_word (codes "struct") (attributes_pieces attrs ++ named) refl
    (joins_append true (attributes_pieces attrs) named refl (joins_attributes aliases attrs sound.1 parts.0)
    (joins_append true (name_pieces tag) (mark marks.OpenBlock ∷ inner) refl (joins_tag tag names.0)
    (joins_mark_before marks.OpenBlock inner refl
    (joins_append true (members_pieces members) (mark marks.CloseStruct ∷ behind) refl (joins_members aliases members sound.2 parts.1)
    (joins_mark_before marks.CloseStruct behind refl (joins_behind_brace aliases other names.1)))))))

joins_enumeration : (aliases : Aliases) (tag other : Option Identifier) (values : List EnumConstant) (span : Span) →
    SoundItem (words_beside aliases) (enumeration_item tag other values span) → ArePlain (in_constants values) →
    Joins true (item_pieces (enumeration_item tag other values span))
joins_enumeration aliases tag other values span sound plain =
    let behind = name_pieces other ++ mark marks.Semicolon ∷ [] in
    let inner = constants_pieces values ++ (mark marks.CloseBrace ∷ behind) in
    let named = name_pieces tag ++ (mark marks.OpenBrace ∷ inner) in
    joins_append true (typedef_pieces other) (word (codes "enum") ∷ named) refl (joins_typedef other)
    (joins_word (codes "enum") named refl
    (joins_append true (name_pieces tag) (mark marks.OpenBrace ∷ inner) refl (joins_tag tag sound.0)
    (joins_mark_before marks.OpenBrace inner refl
    (joins_append true (constants_pieces values) (mark marks.CloseBrace ∷ behind) refl (joins_constants aliases values sound.2 plain)
    (joins_mark_before marks.CloseBrace behind refl (joins_behind_brace aliases other sound.1))))))

joins_item : (aliases : Aliases) (item : UnitItem) → SoundItem (words_beside aliases) item → ArePlain (in_item item) → Joins true (item_pieces item)
joins_item aliases (structure_item tag other attrs members span) sound plain = joins_structure aliases tag other attrs members span sound plain
joins_item aliases (alias_item name ctype span) sound plain =
    let named = word name.text ∷ (mark marks.Semicolon ∷ []) in
    joins_word (codes "typedef") (type_pieces ctype ++ named) refl
    (joins_type aliases ctype named sound.0 refl
    (joins_word name.text (mark marks.Semicolon ∷ []) (word_of_name aliases name.text sound.2) semicolon))
joins_item aliases (enumeration_item tag other values span) sound plain = joins_enumeration aliases tag other values span sound plain
joins_item aliases (global_item d) sound plain = joins_ended marks.Semicolon (declaration_pieces d) refl (joins_global aliases d sound plain)
joins_item aliases (function_item head) sound plain = joins_ended marks.Semicolon (head_pieces head) refl (joins_head aliases head sound plain)
joins_item aliases (body_item head body close) sound plain =
    let parts = plain_parts (in_attributes head.attrs) (in_statements body) plain in
    joins_append true (head_pieces head) (mark marks.OpenBlock ∷ (statements_pieces body ++ mark marks.CloseBlock ∷ [])) refl
    (joins_head aliases head sound.0 parts.0)
    (joins_block marks.CloseBlock (statements_pieces body) refl (joins_statements aliases body sound.1 parts.1))

joins_items : (aliases : Aliases) (items : List UnitItem) → SoundItems aliases items → ArePlain (expressions_of items) → Joins true (unit_pieces items)
joins_items aliases [] sound plain = joins_none true
joins_items aliases (item ∷ items) sound plain =
    let parts = plain_parts (in_item item) (expressions_of items) plain in
    joins_append true (item_pieces item) (unit_pieces items) refl (joins_item aliases item sound.0 parts.0)
    (joins_items (aliases ++ names_of_item item) items sound.1 parts.1)

-- the text of a unit has its pieces as tokens
pub unit_tokens : (items : List UnitItem) → SoundItems [] items → HasPlainBases items →
    (ts : List Lexeme) × (tokens_of (canonical_unit items) ≡ Ok ts) × AreTokens (unit_pieces items) ts
unfolding canonical_unit
unit_tokens items sound plain = laid_tokens 0 LineStart (unit_pieces items) (joins_apart true (unit_pieces items) (joins_items [] items sound plain))
