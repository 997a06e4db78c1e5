-- The tokens of canonical text don't depend on where a tree stood: statements, items and units. Units that are equal but for
-- their spans have one text.
use Rattle.std.proofs.Common.{◌≡◌, ap, sym, ◌∙◌, refl, List, [], ◌∷◌, ◌++◌, Some, None, map, option_map}
use Rattle.std.specs.declared.option.Option.{Option}
use Rattle.tsa_tree.specs.expressions.Syntax.{Expression, plain}
use Rattle.tsa_tree.specs.units.Plain.{plain_item}
use Rattle.tsa_tree.specs.statements.Plain.{plain_simple, plain_for_init, plain_statement, plain_statements}
use Rattle.tsa_tree.specs.statements.Syntax.{Simple, evaluation, assignment, ForInit, no_init, simple_init, local_init, Statement, block}
use Rattle.tsa_tree.specs.statements.Syntax.{empty, local, simple, if_alone, if_else, while_loop, do_loop, for_loop, switch, case}
use Rattle.tsa_tree.specs.statements.Syntax.{otherwise, label, break, continue, goto, return, Statements, none, more}
use Rattle.tsa_tree.specs.units.Syntax.{UnitItem, structure_item, alias_item, enumeration_item, global_item, function_item, body_item}
use Rattle.tsa_print.specs.declared.mark.Mark.{Mark}
use Rattle.tsa_print.specs.declared.mark.Mark.TheVariants as marks
use Rattle.tsa_print.specs.declared.sheet.Behind.TheVariants.{LineStart}
use Rattle.tsa_print.specs.Canonical.{mark}
use Rattle.tsa_print.specs.Layout.{laid}
use Rattle.tsa_print.specs.UnitPieces.{simple_pieces, optional_pieces, for_init_pieces, for_step_pieces, statement_pieces}
use Rattle.tsa_print.specs.UnitPieces.{statements_pieces, item_pieces, unit_pieces, canonical_unit}
use Rattle.tsa_print.proofs.PlainDeclarationPieces.{pieces_of_plain, name_of_plain, typedef_of_plain, attributes_of_plain, type_of_plain}
use Rattle.tsa_print.proofs.PlainDeclarationPieces.{declaration_of_plain, members_of_plain, head_of_plain, constants_of_plain}

simple_of_plain : (x : Simple) → simple_pieces (plain_simple x) ≡ simple_pieces x
simple_of_plain (evaluation x span) = pieces_of_plain x 0
simple_of_plain (assignment left op right span) = rw (pieces_of_plain left 10, pieces_of_plain right 0) refl

optional_of_plain : (x : Option Expression) → optional_pieces (option_map plain x) ≡ optional_pieces x
optional_of_plain None = refl
optional_of_plain (Some x) = pieces_of_plain x 0

for_init_of_plain : (x : ForInit) → for_init_pieces (plain_for_init x) ≡ for_init_pieces x
for_init_of_plain no_init = refl
for_init_of_plain (simple_init x) = simple_of_plain x
for_init_of_plain (local_init d) = declaration_of_plain d

for_step_of_plain : (x : Option Simple) → for_step_pieces (option_map plain_simple x) ≡ for_step_pieces x
for_step_of_plain None = refl
for_step_of_plain (Some x) = simple_of_plain x

mutual
  statement_of_plain : (closing : Mark) (x : Statement) → statement_pieces closing (plain_statement x) ≡ statement_pieces closing x
  statement_of_plain closing (block items span) = rw (statements_of_plain items) refl
  statement_of_plain closing (empty span) = refl
  statement_of_plain closing (local d) = ap (λ ps. ps ++ mark marks.Semicolon ∷ []) (declaration_of_plain d)
  statement_of_plain closing (simple x) = rw (simple_of_plain x) refl
  statement_of_plain closing (if_alone test arm span) = rw (pieces_of_plain test 0, statement_of_plain marks.CloseBlock arm) refl
  statement_of_plain closing (if_else test arm other span) =
      rw (pieces_of_plain test 0, statement_of_plain marks.CloseBlock arm, statement_of_plain marks.CloseBlock other) refl
  statement_of_plain closing (while_loop test body span) = rw (pieces_of_plain test 0, statement_of_plain marks.CloseBlock body) refl
  statement_of_plain closing (do_loop body test span) = rw (statement_of_plain marks.CloseBody body, pieces_of_plain test 0) refl
  statement_of_plain closing (for_loop init test step body span) =
      rw (for_init_of_plain init, optional_of_plain test, for_step_of_plain step, statement_of_plain marks.CloseBlock body) refl
  statement_of_plain closing (switch x body span) = rw (pieces_of_plain x 0, statement_of_plain marks.CloseBlock body) refl
  statement_of_plain closing (case x body span) = rw (pieces_of_plain x 0, statement_of_plain marks.CloseBlock body) refl
  statement_of_plain closing (otherwise body span) = rw (statement_of_plain marks.CloseBlock body) refl
  statement_of_plain closing (label name body span) = rw (statement_of_plain marks.CloseBlock body) refl
  statement_of_plain closing (break span) = refl
  statement_of_plain closing (continue span) = refl
  statement_of_plain closing (goto name span) = refl
  statement_of_plain closing (return x span) = rw (optional_of_plain x) refl

  statements_of_plain : (xs : Statements) → statements_pieces (plain_statements xs) ≡ statements_pieces xs
  statements_of_plain none = refl
  statements_of_plain (more first rest) = rw (statement_of_plain marks.CloseBlock first, statements_of_plain rest) refl

item_of_plain : (x : UnitItem) → item_pieces (plain_item x) ≡ item_pieces x
item_of_plain (structure_item tag other attrs members span) =
    rw (typedef_of_plain other, attributes_of_plain attrs, name_of_plain tag, members_of_plain members, name_of_plain other) refl
item_of_plain (alias_item name ctype span) = rw (type_of_plain ctype) refl
item_of_plain (enumeration_item tag other values span) =
    rw (typedef_of_plain other, name_of_plain tag, constants_of_plain values, name_of_plain other) refl
item_of_plain (global_item d) = ap (λ ps. ps ++ mark marks.Semicolon ∷ []) (declaration_of_plain d)
item_of_plain (function_item head) = ap (λ ps. ps ++ mark marks.Semicolon ∷ []) (head_of_plain head)
item_of_plain (body_item head body close) =
    rw (statements_of_plain body) (ap (λ ps. ps ++ (mark marks.OpenBlock ∷ (statements_pieces body ++ mark marks.CloseBlock ∷ []))) (head_of_plain head))

pub unit_pieces_of_plain : (items : List UnitItem) → unit_pieces (map plain_item items) ≡ unit_pieces items
unit_pieces_of_plain [] = refl
unit_pieces_of_plain (item ∷ items) = rw (unit_pieces_of_plain items) (ap (λ ps. ps ++ unit_pieces items) (item_of_plain item))

pub same_text : (xs ys : List UnitItem) → map plain_item xs ≡ map plain_item ys → canonical_unit xs ≡ canonical_unit ys
unfolding canonical_unit
same_text xs ys e =
    ap (laid 0 LineStart) (sym (unit_pieces_of_plain xs) ∙ (ap unit_pieces e ∙ unit_pieces_of_plain ys))
