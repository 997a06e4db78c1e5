-- Laws of the canonical text of units.
use Rattle.std.specs.Prelude.{ℕ, ◌≡◌, List, [], Ok, map}
use Rattle.tsa_base.specs.Tokens.{Lexeme, tokens_of}
use Rattle.tsa_tree.specs.units.Plain.{plain_item}
use Rattle.tsa_tree.specs.units.Answers.{Spells}
use Rattle.tsa_tree.specs.units.Syntax.{UnitItem}
use Rattle.tsa_tree.specs.units.Sound.{SoundItems}
use Rattle.tsa_grammar.specs.Reading.{all}
use Rattle.tsa_print.specs.UnitBases.{HasPlainBases}
use Rattle.tsa_print.specs.UnitPieces.{canonical_unit}

-- the tokens of its canonical text spell the same unit, and no other, and that is printed as the same bytes
pub record IsUnitReadAgain (items : List UnitItem) : Type 0 where
  pub tokens : List Lexeme
  pub of_text : tokens_of (canonical_unit items) ≡ Ok tokens
  pub read : List UnitItem
  pub spelled : Spells tokens all read
  pub same : map plain_item read ≡ map plain_item items
  pub no_other : (other : List UnitItem) → Spells tokens all other → other ≡ read
  pub again : canonical_unit read ≡ canonical_unit items

abbrev pub SoundUnitIsReadAgain : Type 0
SoundUnitIsReadAgain = (items : List UnitItem) → SoundItems [] items → HasPlainBases items → IsUnitReadAgain items

-- what the tokens of a text spell is sound
abbrev pub ReadUnitIsSound : Type 0
ReadUnitIsSound = (text : List ℕ) (tokens : List Lexeme) (items : List UnitItem) →
    tokens_of text ≡ Ok tokens → Spells tokens all items → SoundItems [] items
