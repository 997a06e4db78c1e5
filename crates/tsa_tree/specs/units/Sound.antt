-- Items and units that the grammar can spell.
use Rattle.std.specs.Prelude.{◌≡◌, List, [], ◌∷◌, ◌++◌, true, Some, None}
use Rattle.std.specs.declared.option.Option.{Option}
use Rattle.tsa_tree.specs.attributes.Sound.{SoundAttributes}
use Rattle.tsa_tree.specs.declarations.Sound.{SoundType, SoundMembers, SoundGlobal, SoundName, SoundHead, SoundConstants}
use Rattle.tsa_tree.specs.expressions.Sound.{Words, words_beside, all_words, is_tag_name}
use Rattle.tsa_tree.specs.expressions.Syntax.{Identifier}
use Rattle.tsa_tree.specs.statements.Sound.{SoundStatements}
use Rattle.tsa_tree.specs.tokens.Signs.{Aliases}
use Rattle.tsa_tree.specs.units.Syntax.{UnitItem, structure_item, alias_item, enumeration_item, global_item, function_item, body_item}
use Rattle.tsa_tree.specs.units.Syntax.{names_of_item}

abbrev pub SoundTag : Option Identifier → Type 0
SoundTag None = Unit {0}
SoundTag (Some tag) = is_tag_name tag.text ≡ true

-- a struct without an alias has a tag
abbrev pub SoundTags : Words → (tag alias : Option Identifier) → Type 0
SoundTags words None None = ⊥
SoundTags words tag alias = SoundTag tag × SoundName words alias

abbrev pub SoundItem : Words → UnitItem → Type 0
SoundItem words (structure_item tag other attrs members span) =
    SoundTags words tag other × SoundAttributes words attrs × SoundMembers words members
SoundItem words (alias_item name ctype span) =
    SoundType words ctype × (ctype.length ≡ None) × (words.things name.text ≡ true)
SoundItem words (enumeration_item tag other values span) =
    SoundTag tag × SoundName words other × SoundConstants words values
SoundItem words (global_item d) = SoundGlobal words d
SoundItem words (function_item head) = SoundHead words head
SoundItem words (body_item head body close) = SoundHead words head × SoundStatements words body

-- a name of a type is known from the item after its own one on
abbrev pub SoundItems : Aliases → List UnitItem → Type 0
SoundItems aliases [] = Unit {0}
SoundItems aliases (item ∷ items) = SoundItem (words_beside aliases) item × SoundItems (aliases ++ names_of_item item) items

-- What the laws of a unit ask of its text: the grammar can spell each item, where a word may name both a thing and a type. So the items of
-- several texts as one list can be spelled, also where a member or a label of one bears the name of a type of another.
abbrev pub SpellableItem : UnitItem → Type 0
SpellableItem item = SoundItem all_words item

abbrev pub SpellableItems : List UnitItem → Type 0
SpellableItems [] = Unit {0}
SpellableItems (item ∷ items) = SpellableItem item × SpellableItems items
