-- Attributes that the grammar can spell, by the words that may be names.
use Rattle.std.specs.Prelude.{ℕ, ◌≡◌, List, [], ◌∷◌, Bool, true, Some, None}
use Rattle.std.specs.List.{list_all}
use Rattle.std.specs.declared.option.Option.{Option}
use Rattle.tsa_base.specs.Bytes.{is_text_byte}
use Rattle.tsa_tree.specs.attributes.Syntax.{Attribute, Taking, taking, a_text, one_expression, expressions, a_try, negative}
use Rattle.tsa_tree.specs.expressions.Sound.{Words, are_sound, SoundExpression}
use Rattle.tsa_tree.specs.expressions.Syntax.{Arguments, none, more}

-- one text, one expression, one or more, or the result of a try before one or more
abbrev pub SoundTaken : Words → Taking → Option (List ℕ) → Option Bool → Arguments → Type 0
SoundTaken words a_text (Some text) None none = list_all is_text_byte text ≡ true
SoundTaken words one_expression None None (more x none) = SoundExpression words x
SoundTaken words expressions None None (more x xs) = are_sound words (more x xs) ≡ true
SoundTaken words a_try None (Some result) (more x xs) = are_sound words (more x xs) ≡ true
SoundTaken words _ _ _ _ = ⊥

-- what requires of each of its locks that it isn't held excludes them, so it isn't there as a requirement
abbrev pub SoundAttribute : Words → Attribute → Type 0
SoundAttribute words a = SoundTaken words (taking a.kind) a.text a.success a.args × (negative a.kind a.args ≡ None)

abbrev pub SoundAttributes : Words → List Attribute → Type 0
SoundAttributes words [] = Unit {0}
SoundAttributes words (a ∷ others) = SoundAttribute words a × SoundAttributes words others
