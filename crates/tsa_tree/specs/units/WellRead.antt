-- Trees that are well read: what the reader of units makes.
use Rattle.std.specs.Prelude.{List}
use Rattle.tsa_base.specs.Tokens.{Lexeme}
use Rattle.tsa_tree.specs.declared.item.Item.{Item}
use Rattle.tsa_tree.specs.tokens.Texts.{AreOfText}
use Rattle.tsa_tree.specs.units.Answers.{Spells}
use Rattle.tsa_tree.specs.units.Shapes.{item_shapes, HaveTheirPoints}
use Rattle.tsa_grammar.specs.Reading.{all}

-- the tokens of some text spell them, and the points of their bodies are those of the rules
pub record IsWellRead (items : List Item) : Type 0 where
  pub tokens : List Lexeme
  pub of_text : AreOfText tokens
  pub spelled : Spells tokens all (item_shapes items)
  pub points : HaveTheirPoints items
