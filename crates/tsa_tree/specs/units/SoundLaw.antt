-- What is well read is sound, and what is sound can be spelled.
use Rattle.std.specs.Prelude.{List, [], ◌++◌}
use Rattle.tsa_tree.specs.declared.item.Item.{Item}
use Rattle.tsa_tree.specs.tokens.Signs.{Aliases}
use Rattle.tsa_tree.specs.units.Shapes.{item_shapes}
use Rattle.tsa_tree.specs.units.Sound.{SoundItems, SpellableItems}
use Rattle.tsa_tree.specs.units.Syntax.{UnitItem}
use Rattle.tsa_tree.specs.units.WellRead.{IsWellRead}

-- the names of a well-read unit are names, and its numbers fit their types
abbrev pub WellReadIsSound : Type 0
WellReadIsSound = (items : List Item) → IsWellRead items → SoundItems [] (item_shapes items)

-- what can be spelled where some names are names of types can be spelled
abbrev pub SoundIsSpellable : Type 0
SoundIsSpellable = (aliases : Aliases) (items : List UnitItem) → SoundItems aliases items → SpellableItems items

abbrev pub WellReadIsSpellable : Type 0
WellReadIsSpellable = (items : List Item) → IsWellRead items → SpellableItems (item_shapes items)

-- and so can the items of two texts as one list, whatever names of types each of them has
abbrev pub SpellableTogether : Type 0
SpellableTogether = (xs ys : List UnitItem) → SpellableItems xs → SpellableItems ys → SpellableItems (xs ++ ys)
