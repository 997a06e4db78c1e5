-- What reading by the rows gives for items one after another.
use Rattle.std.specs.Prelude.{ℕ, List, [], Ok}
use Rattle.tsa_base.specs.Tokens.{Lexeme}
use Rattle.tsa_tree.specs.declared.item.Item.{Item}
use Rattle.tsa_tree.specs.Reads.{read}
use Rattle.tsa_tree.specs.Rows.{some_items, items, is_past}
use Rattle.tsa_tree.specs.tokens.Signs.{Aliases}
use Rattle.tsa_tree.specs.units.Syntax.{UnitItem}
use Rattle.tsa_tree.specs.units.Shapes.{item_shapes}
use Rattle.tsa_decl_declarators.specs.Outcomes.{after}
use Rattle.tsa_grammar.specs.Reading.{Outcome, choose}

-- the items from a place on up to the last token, any number, where these names of types are known
unfoldable pub items_at : List Lexeme → Aliases → (at : ℕ) → Outcome (List UnitItem)
items_at tokens aliases at = choose (is_past tokens at) (Ok ([], at)) (read tokens some_items (items aliases) at)

-- items that were read before, and those from a place on
abbrev pub on_from : List Lexeme → List Item → Aliases → (at : ℕ) → Outcome (List UnitItem)
on_from tokens list aliases at = after (item_shapes list) (items_at tokens aliases at)

-- nothing but a place
abbrev pub passed : ℕ → Unit {0} × ℕ
passed at = (tt, at)
