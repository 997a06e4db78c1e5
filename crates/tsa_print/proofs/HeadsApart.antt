-- The pieces of heads and enumerators that the grammar can spell go well before others.
use Rattle.std.proofs.Common.{◌≡◌, List, [], ◌∷◌, ◌++◌, true, Some, None, refl, sym, subst}
use Rattle.std.specs.Prelude.{codes}
use Rattle.std.specs.declared.option.Option.{Option}
use Rattle.std.proofs.lemmas.List.{append_assoc}
use Rattle.tsa_tree.specs.declarations.Syntax.{DeclaredType, Parameter, EnumConstant, Head}
use Rattle.tsa_tree.specs.expressions.Syntax.{Expression, Identifier}
use Rattle.tsa_tree.specs.tokens.Signs.{Aliases}
use Rattle.tsa_tree.specs.expressions.Sound.{words_beside, SoundOptional}
use Rattle.tsa_tree.specs.declarations.Sound.{SoundType, SoundName, SoundParameter, SoundEachParameter, SoundHead, SoundConstant}
use Rattle.tsa_tree.specs.declarations.Sound.{SoundEachConstant, SoundConstants}
use Rattle.tsa_print.specs.declared.mark.Mark.TheVariants as marks
use Rattle.tsa_print.specs.Canonical.{Piece, word, mark}
use Rattle.tsa_print.specs.DeclarationPieces.{name_pieces, attributes_pieces, type_pieces, parameter_pieces, further_parameters}
use Rattle.tsa_print.specs.DeclarationPieces.{parameters_pieces, head_pieces, value_pieces, constant_pieces, further_constants}
use Rattle.tsa_print.specs.DeclarationPieces.{constants_pieces}
use Rattle.tsa_print.specs.UnitBases.{in_optional, in_attributes, in_constants}
use Rattle.tsa_print.proofs.AttributesApart.{ArePlain, plain_parts, plain_first, joins_word, joins_mark_before, joins_attributes}
use Rattle.tsa_print.proofs.CanonicalApart.{word_of_name}
use Rattle.tsa_print.proofs.DeclarationsApart.{behind_star, joins_type, joins_assigned}
use Rattle.tsa_print.proofs.Joins.{Joins, joins_none, joins_append}

-- Parameters: after one without a name stands a comma or a parenthesis.

joins_named : (aliases : Aliases) (t : DeclaredType) (name : Option Identifier) (qs : List Piece) → SoundType (words_beside aliases) t →
    SoundName (words_beside aliases) name →
    behind_star qs ≡ true → Joins true qs → Joins true (type_pieces t ++ (name_pieces name ++ qs))
joins_named aliases t None qs sound named may joins = joins_type aliases t qs sound may joins
joins_named aliases t (Some name) qs sound named may joins =
    joins_type aliases t (word name.text ∷ qs) sound refl (joins_word name.text qs (word_of_name aliases name.text named) joins)

joins_parameter : (aliases : Aliases) (p : Parameter) (qs : List Piece) → SoundParameter (words_beside aliases) p → behind_star qs ≡ true → Joins true qs →
    Joins true (parameter_pieces p ++ qs)
joins_parameter aliases p qs sound may joins =
    subst (λ ps. Joins true ps) (sym (append_assoc (type_pieces p.ctype) (name_pieces p.name) qs))
    (joins_named aliases p.ctype p.name qs sound.0 sound.2 may joins)

further_star : (ps : List Parameter) (qs : List Piece) → behind_star qs ≡ true → behind_star (further_parameters ps ++ qs) ≡ true
further_star [] qs may = may
further_star (p ∷ others) qs may = refl

joins_further_parameters : (aliases : Aliases) (ps : List Parameter) (qs : List Piece) → SoundEachParameter (words_beside aliases) ps → behind_star qs ≡ true →
    Joins true qs → Joins true (further_parameters ps ++ qs)
joins_further_parameters aliases [] qs sound may joins = joins
joins_further_parameters aliases (p ∷ others) qs sound may joins =
    joins_mark_before marks.Comma ((parameter_pieces p ++ further_parameters others) ++ qs) refl
    (subst (λ ps. Joins true ps) (sym (append_assoc (parameter_pieces p) (further_parameters others) qs))
    (joins_parameter aliases p (further_parameters others ++ qs) sound.0 (further_star others qs may)
    (joins_further_parameters aliases others qs sound.1 may joins)))

joins_parameters : (aliases : Aliases) (ps : List Parameter) (qs : List Piece) → SoundEachParameter (words_beside aliases) ps → behind_star qs ≡ true →
    Joins true qs → Joins true (parameters_pieces ps ++ qs)
joins_parameters aliases [] qs sound may joins = joins_word (codes "void") qs refl joins
joins_parameters aliases (p ∷ others) qs sound may joins =
    subst (λ ps. Joins true ps) (sym (append_assoc (parameter_pieces p) (further_parameters others) qs))
    (joins_parameter aliases p (further_parameters others ++ qs) sound.0 (further_star others qs may)
    (joins_further_parameters aliases others qs sound.1 may joins))

pub joins_head : (aliases : Aliases) (h : Head) → SoundHead (words_beside aliases) h → ArePlain (in_attributes h.attrs) → Joins true (head_pieces h)
joins_head aliases h sound plain =
    let behind = mark marks.CloseParenthesis ∷ attributes_pieces h.attrs in
    let call = mark marks.OpenCall ∷ (parameters_pieces h.params ++ behind) in
    joins_type aliases h.result (word h.name.text ∷ call) sound.0 refl
    (joins_word h.name.text call (word_of_name aliases h.name.text sound.2)
    (joins_mark_before marks.OpenCall (parameters_pieces h.params ++ behind) refl
    (joins_parameters aliases h.params behind sound.3.0 refl
    (joins_mark_before marks.CloseParenthesis (attributes_pieces h.attrs) refl (joins_attributes aliases h.attrs sound.4 plain)))))

-- Enumerators.

joins_value : (aliases : Aliases) (x : Option Expression) → SoundOptional (words_beside aliases) x → ArePlain (in_optional x) → Joins true (value_pieces x)
joins_value aliases None sound plain = joins_none true
joins_value aliases (Some x) sound plain = joins_assigned aliases None x refl sound (plain_first x [] plain).0

joins_constant : (aliases : Aliases) (c : EnumConstant) → SoundConstant (words_beside aliases) c → ArePlain (in_optional c.value)
    → Joins true (constant_pieces c)
joins_constant aliases c sound plain =
    joins_word c.name.text (value_pieces c.value) (word_of_name aliases c.name.text sound.0) (joins_value aliases c.value sound.1 plain)

joins_further_constants : (aliases : Aliases) (cs : List EnumConstant) → SoundEachConstant (words_beside aliases) cs → ArePlain (in_constants cs) →
    Joins true (further_constants cs)
joins_further_constants aliases [] sound plain = joins_none true
joins_further_constants aliases (c ∷ others) sound plain =
    let parts = plain_parts (in_optional c.value) (in_constants others) plain in
    joins_mark_before marks.Comma (constant_pieces c ++ further_constants others) refl
    (joins_append true (constant_pieces c) (further_constants others) refl (joins_constant aliases c sound.0 parts.0)
    (joins_further_constants aliases others sound.1 parts.1))

pub joins_constants : (aliases : Aliases) (cs : List EnumConstant) → SoundConstants (words_beside aliases) cs → ArePlain (in_constants cs) →
    Joins true (constants_pieces cs)
joins_constants aliases [] sound plain = joins_none true
joins_constants aliases (c ∷ others) sound plain =
    let parts = plain_parts (in_optional c.value) (in_constants others) plain in
    joins_append true (constant_pieces c) (further_constants others) refl (joins_constant aliases c sound.0 parts.0)
    (joins_further_constants aliases others sound.1 parts.1)
