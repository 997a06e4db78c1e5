-- The pieces of attributes that the grammar can spell go well before others.
use Rattle.std.proofs.Common.{ℕ, ◌≡◌, List, [], ◌∷◌, ◌++◌, Bool, true, false, Some, None, refl, sym, ◌∙◌}
use Rattle.std.specs.declared.option.Option.{Option}
use Rattle.std.specs.List.{list_all}
use Rattle.std.proofs.lemmas.Bool.{and_parts, and_from}
use Rattle.std.proofs.lemmas.List.Folds.{list_all-append}
use Rattle.tsa_base.specs.Bytes.{is_text_byte}
use Rattle.tsa_tree.specs.declared.attr.AttrKind.{AttrKind}
use Rattle.tsa_tree.specs.declared.attr.AttrKind.TheVariants as attr
use Rattle.tsa_tree.specs.attributes.Syntax.{Attribute, Taking, taking, a_text, one_expression, expressions, a_try}
use Rattle.tsa_tree.specs.expressions.Syntax.{Expression, Identifier, Arguments, none, more}
use Rattle.tsa_tree.specs.tokens.Signs.{Aliases}
use Rattle.tsa_tree.specs.expressions.Sound.{words_beside, is_sound, are_sound}
use Rattle.tsa_tree.specs.attributes.Sound.{SoundTaken, SoundAttributes}
use Rattle.tsa_tree.specs.declarations.Sound.{SoundName}
use Rattle.tsa_print.specs.declared.mark.Mark.{Mark}
use Rattle.tsa_print.specs.declared.mark.Mark.TheVariants as marks
use Rattle.tsa_print.specs.Canonical.{Piece, word, numeral, quoted, mark, further}
use Rattle.tsa_print.specs.DeclarationPieces.{name_pieces, macro_word, taken, attribute_pieces, attributes_pieces}
use Rattle.tsa_print.specs.UnitBases.{in_arguments, in_attributes}
use Rattle.tsa_print.specs.Writable.{has_plain_bases, have_plain_bases}
use Rattle.tsa_print.proofs.Apart.{is_word}
use Rattle.tsa_print.proofs.CanonicalApart.{word_of_name, joins_arguments, joins_further}
use Rattle.tsa_print.proofs.Joins.{is_closed, Joins, joins_none, joins_loose, joins_append, joins_behind, joins_between}

-- none of them has a `.` after a number
abbrev pub ArePlain : List Expression → Type 0
ArePlain xs = list_all has_plain_bases xs ≡ true

pub plain_parts : (xs ys : List Expression) → ArePlain (xs ++ ys) → ArePlain xs × ArePlain ys
plain_parts xs ys plain = and_parts (list_all has_plain_bases xs) (list_all has_plain_bases ys) (sym (list_all-append has_plain_bases xs ys) ∙ plain)

pub plain_first : (x : Expression) (xs : List Expression) → ArePlain (x ∷ xs) → (has_plain_bases x ≡ true) × ArePlain xs
plain_first x xs plain = and_parts (has_plain_bases x) (list_all has_plain_bases xs) plain

plain_arguments : (args : Arguments) → ArePlain (in_arguments args) → have_plain_bases args ≡ true
plain_arguments none plain = refl
plain_arguments (more x xs) plain =
    let parts = plain_first x (in_arguments xs) plain in
    and_from (has_plain_bases x) (have_plain_bases xs) parts.0 (plain_arguments xs parts.1)

-- Words.

-- a word before more
pub joins_word : (text : List ℕ) (ps : List Piece) → is_word text ≡ true → Joins true ps → Joins true (word text ∷ ps)
joins_word text ps good joins = joins_behind true (word text) ps good refl refl joins

-- a closed mark before more
pub joins_mark_before : (k : Mark) (ps : List Piece) → is_closed (mark k) ≡ true → Joins true ps → Joins true (mark k ∷ ps)
joins_mark_before k ps closed joins = joins_behind true (mark k) ps refl closed refl joins

pub joins_name : (aliases : Aliases) (name : Option Identifier) → SoundName (words_beside aliases) name → Joins true (name_pieces name)
joins_name aliases None sound = joins_none true
joins_name aliases (Some name) sound = joins_word name.text [] (word_of_name aliases name.text sound) (joins_none true)

-- pieces between parentheses
pub joins_enclosed : (ps : List Piece) → Joins true ps → Joins true (mark marks.OpenCall ∷ (ps ++ mark marks.CloseParenthesis ∷ []))
joins_enclosed ps joins =
    joins_loose false (mark marks.OpenCall ∷ (ps ++ mark marks.CloseParenthesis ∷ [])) (joins_between marks.OpenCall marks.CloseParenthesis ps refl refl joins)

-- Attributes.

macro_is_word : (kind : AttrKind) → is_word (macro_word kind) ≡ true
macro_is_word attr.Capability = refl
macro_is_word attr.GuardedBy = refl
macro_is_word attr.Requires = refl
macro_is_word attr.RequiresShared = refl
macro_is_word attr.Acquire = refl
macro_is_word attr.AcquireShared = refl
macro_is_word attr.Release = refl
macro_is_word attr.ReleaseShared = refl
macro_is_word attr.ReleaseGeneric = refl
macro_is_word attr.TryAcquire = refl
macro_is_word attr.TryAcquireShared = refl
macro_is_word attr.Excludes = refl
macro_is_word attr.AcquiredBefore = refl
macro_is_word attr.AcquiredAfter = refl

-- in each way of taking something, a text has bytes of a text, and expressions are sound
text_good : (aliases : Aliases) (way : Taking) (text : List ℕ) (success : Option Bool) (args : Arguments) →
    SoundTaken (words_beside aliases) way (Some text) success args → list_all is_text_byte text ≡ true
text_good aliases a_text text None none sound = sound
text_good aliases a_text text None (more x xs) sound = absurd sound
text_good aliases a_text text (Some result) args sound = absurd sound
text_good aliases one_expression text success args sound = absurd sound
text_good aliases expressions text success args sound = absurd sound
text_good aliases a_try text success args sound = absurd sound

arguments_good : (aliases : Aliases) (way : Taking) (success : Option Bool) (args : Arguments) →
    SoundTaken (words_beside aliases) way None success args → are_sound (words_beside aliases) args ≡ true
arguments_good aliases one_expression None (more x none) sound = and_from (is_sound (words_beside aliases) x) true sound refl
arguments_good aliases expressions None (more x xs) sound = sound
arguments_good aliases a_try (Some result) (more x xs) sound = sound
arguments_good aliases a_text success args sound = absurd sound
arguments_good aliases one_expression None none sound = absurd sound
arguments_good aliases one_expression None (more x (more y ys)) sound = absurd sound
arguments_good aliases one_expression (Some result) args sound = absurd sound
arguments_good aliases expressions None none sound = absurd sound
arguments_good aliases expressions (Some result) args sound = absurd sound
arguments_good aliases a_try None args sound = absurd sound
arguments_good aliases a_try (Some result) none sound = absurd sound

joins_taken : (aliases : Aliases) (way : Taking) (text : Option (List ℕ)) (success : Option Bool) (args : Arguments) →
    SoundTaken (words_beside aliases) way text success args → ArePlain (in_arguments args) → Joins true (taken text success args)
joins_taken aliases way (Some text) success args sound plain =
    joins_behind true (quoted text) [] (text_good aliases way text success args sound) refl refl (joins_none true)
joins_taken aliases way None (Some true) args sound plain =
    joins_behind true (numeral 1 false) (further args) refl refl refl
    (joins_further aliases args (arguments_good aliases way (Some true) args sound) (plain_arguments args plain))
joins_taken aliases way None (Some false) args sound plain =
    joins_behind true (numeral 0 false) (further args) refl refl refl
    (joins_further aliases args (arguments_good aliases way (Some false) args sound) (plain_arguments args plain))
joins_taken aliases way None None args sound plain =
    joins_arguments aliases args (arguments_good aliases way None args sound) (plain_arguments args plain)

pub joins_attributes : (aliases : Aliases) (attrs : List Attribute) → SoundAttributes (words_beside aliases) attrs → ArePlain (in_attributes attrs) →
    Joins true (attributes_pieces attrs)
joins_attributes aliases [] sound plain = joins_none true
joins_attributes aliases (a ∷ others) sound plain =
    let parts = plain_parts (in_arguments a.args) (in_attributes others) plain in
    joins_append true (attribute_pieces a) (attributes_pieces others) refl
    (joins_word (macro_word a.kind) (mark marks.OpenCall ∷ (taken a.text a.success a.args ++ mark marks.CloseParenthesis ∷ [])) (macro_is_word a.kind)
    (joins_enclosed (taken a.text a.success a.args) (joins_taken aliases (taking a.kind) a.text a.success a.args sound.0.0 parts.0)))
    (joins_attributes aliases others sound.1 parts.1)
