-- The tokens of statements, items and whole units in canonical form, and the text of a unit.
use Rattle.std.specs.Prelude.{ℕ, List, [], ◌∷◌, ◌++◌, Some, None, codes}
use Rattle.std.specs.declared.option.Option.{Option}
use Rattle.tsa_tree.specs.expressions.Syntax.{Expression}
use Rattle.tsa_tree.specs.statements.Syntax.{Simple, evaluation, assignment, ForInit, no_init, simple_init, local_init, Statement, block}
use Rattle.tsa_tree.specs.statements.Syntax.{empty, local, simple, if_alone, if_else, while_loop, do_loop, for_loop, switch, case}
use Rattle.tsa_tree.specs.statements.Syntax.{otherwise, label, break, continue, goto, return, Statements, none, more}
use Rattle.tsa_tree.specs.units.Syntax.{UnitItem, structure_item, alias_item, enumeration_item, global_item, function_item, body_item}
use Rattle.tsa_print.specs.declared.mark.Mark.{Mark}
use Rattle.tsa_print.specs.declared.mark.Mark.TheVariants as marks
use Rattle.tsa_print.specs.declared.sheet.Behind.TheVariants.{LineStart}
use Rattle.tsa_print.specs.Canonical.{Piece, word, assigned, mark, pieces}
use Rattle.tsa_print.specs.DeclarationPieces.{name_pieces, attributes_pieces, type_pieces, declaration_pieces, members_pieces, head_pieces}
use Rattle.tsa_print.specs.DeclarationPieces.{constants_pieces, typedef_pieces}
use Rattle.tsa_print.specs.Layout.{laid}

-- the left side of an assignment is in parentheses where it is a binary operator with its operands
abbrev pub simple_pieces : Simple → List Piece
simple_pieces (evaluation x span) = pieces x 0
simple_pieces (assignment left op right span) = pieces left 10 ++ (assigned op ∷ pieces right 0)

abbrev pub optional_pieces : Option Expression → List Piece
optional_pieces None = []
optional_pieces (Some x) = pieces x 0

abbrev pub test_pieces : Expression → List Piece
test_pieces x = mark marks.OpenParenthesis ∷ (pieces x 0 ++ mark marks.CloseParenthesis ∷ [])

abbrev pub for_init_pieces : ForInit → List Piece
for_init_pieces no_init = []
for_init_pieces (simple_init x) = simple_pieces x
for_init_pieces (local_init d) = declaration_pieces d

abbrev pub for_step_pieces : Option Simple → List Piece
for_step_pieces None = []
for_step_pieces (Some x) = simple_pieces x

-- The brace that closes a block depends on whether the `while` of its `do` follows.
abbrev mutual
  pub statement_pieces : (closing : Mark) → Statement → List Piece
  statement_pieces closing (block items span) = mark marks.OpenBlock ∷ (statements_pieces items ++ mark closing ∷ [])
  statement_pieces closing (empty span) = mark marks.Semicolon ∷ []
  statement_pieces closing (local d) = declaration_pieces d ++ mark marks.Semicolon ∷ []
  statement_pieces closing (simple x) = simple_pieces x ++ mark marks.Semicolon ∷ []
  statement_pieces closing (if_alone test arm span) = word (codes "if") ∷ (test_pieces test ++ statement_pieces marks.CloseBlock arm)
  statement_pieces closing (if_else test arm other span) =
      word (codes "if") ∷ (test_pieces test ++ (statement_pieces marks.CloseBlock arm ++ (word (codes "else") ∷ statement_pieces marks.CloseBlock other)))
  statement_pieces closing (while_loop test body span) = word (codes "while") ∷ (test_pieces test ++ statement_pieces marks.CloseBlock body)
  statement_pieces closing (do_loop body test span) =
      word (codes "do") ∷ (statement_pieces marks.CloseBody body ++ (word (codes "while") ∷ (test_pieces test ++ mark marks.Semicolon ∷ [])))
  statement_pieces closing (for_loop init test step body span) =
      word (codes "for") ∷ (mark marks.OpenParenthesis ∷ (for_init_pieces init ++ (mark marks.ForSemicolon ∷ (optional_pieces test
      ++ (mark marks.ForSemicolon ∷ (for_step_pieces step ++ (mark marks.CloseParenthesis ∷ statement_pieces marks.CloseBlock body)))))))
  statement_pieces closing (switch x body span) = word (codes "switch") ∷ (test_pieces x ++ statement_pieces marks.CloseBlock body)
  statement_pieces closing (case x body span) = word (codes "case") ∷ (pieces x 0 ++ (mark marks.Colon ∷ statement_pieces marks.CloseBlock body))
  statement_pieces closing (otherwise body span) = word (codes "default") ∷ (mark marks.Colon ∷ statement_pieces marks.CloseBlock body)
  statement_pieces closing (label name body span) = word name.text ∷ (mark marks.Colon ∷ statement_pieces marks.CloseBlock body)
  statement_pieces closing (break span) = word (codes "break") ∷ (mark marks.Semicolon ∷ [])
  statement_pieces closing (continue span) = word (codes "continue") ∷ (mark marks.Semicolon ∷ [])
  statement_pieces closing (goto name span) = word (codes "goto") ∷ (word name.text ∷ (mark marks.Semicolon ∷ []))
  statement_pieces closing (return x span) = word (codes "return") ∷ (optional_pieces x ++ mark marks.Semicolon ∷ [])

  pub statements_pieces : Statements → List Piece
  statements_pieces none = []
  statements_pieces (more first rest) = statement_pieces marks.CloseBlock first ++ statements_pieces rest

-- attributes of a struct stand after the word `struct`
abbrev pub item_pieces : UnitItem → List Piece
item_pieces (structure_item tag other attrs members span) =
    typedef_pieces other
    ++ (word (codes "struct") ∷ (attributes_pieces attrs ++ (name_pieces tag
    ++ (mark marks.OpenBlock ∷ (members_pieces members ++ (mark marks.CloseStruct ∷ (name_pieces other ++ mark marks.Semicolon ∷ [])))))))
item_pieces (alias_item name ctype span) = word (codes "typedef") ∷ (type_pieces ctype ++ (word name.text ∷ (mark marks.Semicolon ∷ [])))
item_pieces (enumeration_item tag other values span) =
    typedef_pieces other
    ++ (word (codes "enum") ∷ (name_pieces tag
    ++ (mark marks.OpenBrace ∷ (constants_pieces values ++ (mark marks.CloseBrace ∷ (name_pieces other ++ mark marks.Semicolon ∷ []))))))
item_pieces (global_item d) = declaration_pieces d ++ mark marks.Semicolon ∷ []
item_pieces (function_item head) = head_pieces head ++ mark marks.Semicolon ∷ []
item_pieces (body_item head body close) =
    head_pieces head ++ (mark marks.OpenBlock ∷ (statements_pieces body ++ mark marks.CloseBlock ∷ []))

abbrev pub unit_pieces : List UnitItem → List Piece
unit_pieces [] = []
unit_pieces (item ∷ items) = item_pieces item ++ unit_pieces items

-- the canonical text of a unit: its pieces, laid out in lines
unfoldable pub canonical_unit : List UnitItem → List ℕ
canonical_unit items = laid 0 LineStart (unit_pieces items)
