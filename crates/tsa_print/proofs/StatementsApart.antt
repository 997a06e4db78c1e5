-- The pieces of statements that the grammar can spell go well before others.
use Rattle.std.proofs.Common.{ℕ, ◌≡◌, List, [], ◌∷◌, ◌++◌, Bool, true, false, Some, None, refl}
use Rattle.std.specs.Prelude.{codes}
use Rattle.std.specs.declared.option.Option.{Option}
use Rattle.tsa_tree.specs.declarations.Syntax.{Declaration}
use Rattle.tsa_tree.specs.expressions.Syntax.{Expression}
use Rattle.tsa_tree.specs.tokens.Signs.{Aliases}
use Rattle.tsa_tree.specs.statements.Syntax.{Simple, evaluation, assignment, ForInit, no_init, simple_init, local_init, Statement, block}
use Rattle.tsa_tree.specs.statements.Syntax.{empty, local, simple, if_alone, if_else, while_loop, do_loop, for_loop, switch, case}
use Rattle.tsa_tree.specs.statements.Syntax.{otherwise, label, break, continue, goto, return, Statements, none, more}
use Rattle.tsa_tree.specs.expressions.Sound.{words_beside, SoundExpression, SoundOptional}
use Rattle.tsa_tree.specs.statements.Sound.{SoundSimple, SoundForInit, SoundForStep, SoundLocalIn, SoundStatement, SoundStatements}
use Rattle.tsa_print.specs.declared.mark.Mark.{Mark}
use Rattle.tsa_print.specs.declared.mark.Mark.TheVariants as marks
use Rattle.tsa_print.specs.Canonical.{Piece, word, assigned, mark, pieces}
use Rattle.tsa_print.specs.DeclarationPieces.{declaration_pieces}
use Rattle.tsa_print.specs.UnitBases.{in_optional, in_declaration, in_simple, in_for_init, in_for_step, in_statement, in_statements}
use Rattle.tsa_print.specs.UnitPieces.{simple_pieces, optional_pieces, test_pieces, for_init_pieces, for_step_pieces, statement_pieces}
use Rattle.tsa_print.specs.UnitPieces.{statements_pieces}
use Rattle.tsa_print.specs.Writable.{has_plain_bases}
use Rattle.tsa_print.proofs.Apart.{is_word}
use Rattle.tsa_print.proofs.AttributesApart.{ArePlain, plain_parts, plain_first, joins_word, joins_mark_before}
use Rattle.tsa_print.proofs.CanonicalApart.{word_of_name, joins_expression}
use Rattle.tsa_print.proofs.DeclarationsApart.{joins_assigned, joins_local}
use Rattle.tsa_print.proofs.Joins.{is_closed, Joins, joins_none, joins_loose, joins_append, joins_then, joins_between}

-- pieces and a closed mark after them
pub joins_ended : (k : Mark) (ps : List Piece) → is_closed (mark k) ≡ true → Joins true ps → Joins true (ps ++ mark k ∷ [])
joins_ended k ps closed joins = joins_loose false (ps ++ mark k ∷ []) (joins_then k ps closed joins)

joins_simple : (aliases : Aliases) (x : Simple) → SoundSimple (words_beside aliases) x → ArePlain (in_simple x) → Joins true (simple_pieces x)
joins_simple aliases (evaluation x span) sound plain = joins_expression aliases x 0 sound (plain_first x [] plain).0
joins_simple aliases (assignment left o right span) sound plain =
    let parts = plain_first left (right ∷ []) plain in
    joins_append true (pieces left 10) (assigned o ∷ pieces right 0) refl (joins_expression aliases left 10 sound.0 parts.0)
    (joins_assigned aliases o right sound.1 sound.2 (plain_first right [] parts.1).0)

joins_optional : (aliases : Aliases) (x : Option Expression) → SoundOptional (words_beside aliases) x → ArePlain (in_optional x)
    → Joins true (optional_pieces x)
joins_optional aliases None sound plain = joins_none true
joins_optional aliases (Some x) sound plain = joins_expression aliases x 0 sound (plain_first x [] plain).0

joins_for_init : (aliases : Aliases) (init : ForInit) → SoundForInit (words_beside aliases) init → ArePlain (in_for_init init)
    → Joins true (for_init_pieces init)
joins_for_init aliases no_init sound plain = joins_none true
joins_for_init aliases (simple_init x) sound plain = joins_simple aliases x sound plain
joins_for_init aliases (local_init d) sound plain = joins_local aliases d sound plain

joins_for_step : (aliases : Aliases) (step : Option Simple) → SoundForStep (words_beside aliases) step → ArePlain (in_for_step step) →
    Joins true (for_step_pieces step)
joins_for_step aliases None sound plain = joins_none true
joins_for_step aliases (Some x) sound plain = joins_simple aliases x sound plain

joins_local_in : (aliases : Aliases) (in_block : Bool) (d : Declaration) → SoundLocalIn (words_beside aliases) in_block d → ArePlain (in_declaration d) →
    Joins true (declaration_pieces d)
joins_local_in aliases true d sound plain = joins_local aliases d sound plain
joins_local_in aliases false d sound plain = absurd sound

-- a test, and what is after it
joins_test : (aliases : Aliases) (x : Expression) (ps : List Piece) → SoundExpression (words_beside aliases) x → has_plain_bases x ≡ true → Joins true ps →
    Joins true (test_pieces x ++ ps)
joins_test aliases x ps sound plain joins =
    joins_append true (test_pieces x) ps refl
    (joins_loose false (test_pieces x)
    (joins_between marks.OpenParenthesis marks.CloseParenthesis (pieces x 0) refl refl (joins_expression aliases x 0 sound plain))) joins

-- a word, a test and what is after them
joins_tested : (aliases : Aliases) (text : List ℕ) (x : Expression) (ps : List Piece) → is_word text ≡ true → SoundExpression (words_beside aliases) x →
    has_plain_bases x ≡ true → Joins true ps → Joins true (word text ∷ (test_pieces x ++ ps))
joins_tested aliases text x ps good sound plain joins = joins_word text (test_pieces x ++ ps) good (joins_test aliases x ps sound plain joins)

-- the head of a `for`, and what is after it
joins_for : (aliases : Aliases) (init : ForInit) (test : Option Expression) (step : Option Simple) (ps : List Piece) →
    SoundForInit (words_beside aliases) init → SoundOptional (words_beside aliases) test → SoundForStep (words_beside aliases) step →
    ArePlain (in_for_init init) → ArePlain (in_optional test) → ArePlain (in_for_step step) → Joins true ps →
    Joins true (word (codes "for") ∷ (mark marks.OpenParenthesis ∷ (for_init_pieces init ++ (mark marks.ForSemicolon ∷ (optional_pieces test
    ++ (mark marks.ForSemicolon ∷ (for_step_pieces step ++ (mark marks.CloseParenthesis ∷ ps))))))))
joins_for aliases init test step ps on_init on_test on_step plain_init plain_test plain_step joins =
    let third = for_step_pieces step ++ (mark marks.CloseParenthesis ∷ ps) in
    let second = optional_pieces test ++ (mark marks.ForSemicolon ∷ third) in
    let first = for_init_pieces init ++ (mark marks.ForSemicolon ∷ second) in
    joins_word (codes "for") (mark marks.OpenParenthesis ∷ first) refl
    (joins_mark_before marks.OpenParenthesis first refl
    (joins_append true (for_init_pieces init) (mark marks.ForSemicolon ∷ second) refl (joins_for_init aliases init on_init plain_init)
    (joins_mark_before marks.ForSemicolon second refl
    (joins_append true (optional_pieces test) (mark marks.ForSemicolon ∷ third) refl (joins_optional aliases test on_test plain_test)
    (joins_mark_before marks.ForSemicolon third refl
    (joins_append true (for_step_pieces step) (mark marks.CloseParenthesis ∷ ps) refl (joins_for_step aliases step on_step plain_step)
    (joins_mark_before marks.CloseParenthesis ps refl joins)))))))

-- `else`, or the `while` of a `do`, after a statement
joins_else : (text : List ℕ) (ps qs : List Piece) → is_word text ≡ true → Joins true ps → Joins true qs → Joins true (ps ++ (word text ∷ qs))
joins_else text ps qs good on_ps on_qs = joins_append true ps (word text ∷ qs) refl on_ps (joins_word text qs good on_qs)

-- a semicolon alone
pub semicolon : Joins true (mark marks.Semicolon ∷ [])
semicolon = joins_mark_before marks.Semicolon [] refl (joins_none true)

-- `return`, and what is after it
joins_return : (aliases : Aliases) (x : Option Expression) → SoundOptional (words_beside aliases) x → ArePlain (in_optional x) →
    Joins true (word (codes "return") ∷ (optional_pieces x ++ mark marks.Semicolon ∷ []))
joins_return aliases x sound plain =
    joins_word (codes "return") (optional_pieces x ++ mark marks.Semicolon ∷ []) refl
    (joins_ended marks.Semicolon (optional_pieces x) refl (joins_optional aliases x sound plain))

-- the statements of a block
pub joins_block : (closing : Mark) (ps : List Piece) → is_closed (mark closing) ≡ true → Joins true ps →
    Joins true (mark marks.OpenBlock ∷ (ps ++ mark closing ∷ []))
joins_block closing ps closed joins =
    joins_loose false (mark marks.OpenBlock ∷ (ps ++ mark closing ∷ [])) (joins_between marks.OpenBlock closing ps refl closed joins)

module _ (aliases : Aliases) where
  mutual
    joins_statement : (closing : Mark) (in_block : Bool) (s : Statement) → is_closed (mark closing) ≡ true → SoundStatement (words_beside aliases) in_block s →
        ArePlain (in_statement s) → Joins true (statement_pieces closing s)
    joins_statement closing in_block (block items span) closed sound plain =
        joins_block closing (statements_pieces items) closed (joins_statements items sound plain)
    joins_statement closing in_block (empty span) closed sound plain = semicolon
    joins_statement closing in_block (local d) closed sound plain =
        joins_ended marks.Semicolon (declaration_pieces d) refl (joins_local_in aliases in_block d sound plain)
    joins_statement closing in_block (simple x) closed sound plain =
        joins_ended marks.Semicolon (simple_pieces x) refl (joins_simple aliases x sound plain)
    joins_statement closing in_block (if_alone test arm span) closed sound plain =
        let parts = plain_first test (in_statement arm) plain in
        joins_tested aliases (codes "if") test (statement_pieces marks.CloseBlock arm) refl sound.0 parts.0
        (joins_statement marks.CloseBlock false arm refl sound.1 parts.1)
    joins_statement closing in_block (if_else test arm other span) closed sound plain =
        let parts = plain_first test (in_statement arm ++ in_statement other) plain in
        let arms = plain_parts (in_statement arm) (in_statement other) parts.1 in
        joins_tested aliases (codes "if") test (statement_pieces marks.CloseBlock arm ++ (word (codes "else") ∷ statement_pieces marks.CloseBlock other)) refl
        sound.0 parts.0
        (joins_else (codes "else") (statement_pieces marks.CloseBlock arm) (statement_pieces marks.CloseBlock other) refl
        (joins_statement marks.CloseBlock false arm refl sound.1 arms.0) (joins_statement marks.CloseBlock false other refl sound.3 arms.1))
    joins_statement closing in_block (while_loop test body span) closed sound plain =
        let parts = plain_first test (in_statement body) plain in
        joins_tested aliases (codes "while") test (statement_pieces marks.CloseBlock body) refl sound.0 parts.0
        (joins_statement marks.CloseBlock false body refl sound.1 parts.1)
    joins_statement closing in_block (do_loop body test span) closed sound plain =
        let parts = plain_parts (in_statement body) (test ∷ []) plain in
        let tail = test_pieces test ++ mark marks.Semicolon ∷ [] in
        joins_word (codes "do") (statement_pieces marks.CloseBody body ++ (word (codes "while") ∷ tail)) refl
        (joins_else (codes "while") (statement_pieces marks.CloseBody body) tail refl (joins_statement marks.CloseBody false body refl sound.0 parts.0)
        (joins_test aliases test (mark marks.Semicolon ∷ []) sound.1 (plain_first test [] parts.1).0 semicolon))
    joins_statement closing in_block (for_loop init test step body span) closed sound plain =
        let first = plain_parts (in_for_init init) (in_optional test ++ (in_for_step step ++ in_statement body)) plain in
        let second = plain_parts (in_optional test) (in_for_step step ++ in_statement body) first.1 in
        let third = plain_parts (in_for_step step) (in_statement body) second.1 in
        joins_for aliases init test step (statement_pieces marks.CloseBlock body) sound.0 sound.1 sound.2 first.0 second.0 third.0
        (joins_statement marks.CloseBlock false body refl sound.3 third.1)
    joins_statement closing in_block (switch x body span) closed sound plain =
        let parts = plain_first x (in_statement body) plain in
        joins_tested aliases (codes "switch") x (statement_pieces marks.CloseBlock body) refl sound.0 parts.0
        (joins_statement marks.CloseBlock false body refl sound.1 parts.1)
    joins_statement closing in_block (case x body span) closed sound plain =
        let parts = plain_first x (in_statement body) plain in
        let tail = mark marks.Colon ∷ statement_pieces marks.CloseBlock body in
        joins_word (codes "case") (pieces x 0 ++ tail) refl
        (joins_append true (pieces x 0) tail refl (joins_expression aliases x 0 sound.0 parts.0)
        (joins_mark_before marks.Colon (statement_pieces marks.CloseBlock body) refl (joins_statement marks.CloseBlock false body refl sound.1 parts.1)))
    joins_statement closing in_block (otherwise body span) closed sound plain =
        joins_word (codes "default") (mark marks.Colon ∷ statement_pieces marks.CloseBlock body) refl
        (joins_mark_before marks.Colon (statement_pieces marks.CloseBlock body) refl (joins_statement marks.CloseBlock false body refl sound plain))
    joins_statement closing in_block (label name body span) closed sound plain =
        joins_word name.text (mark marks.Colon ∷ statement_pieces marks.CloseBlock body) (word_of_name aliases name.text sound.0)
        (joins_mark_before marks.Colon (statement_pieces marks.CloseBlock body) refl (joins_statement marks.CloseBlock false body refl sound.1 plain))
    joins_statement closing in_block (break span) closed sound plain = joins_word (codes "break") (mark marks.Semicolon ∷ []) refl semicolon
    joins_statement closing in_block (continue span) closed sound plain = joins_word (codes "continue") (mark marks.Semicolon ∷ []) refl semicolon
    joins_statement closing in_block (goto name span) closed sound plain =
        joins_word (codes "goto") (word name.text ∷ (mark marks.Semicolon ∷ [])) refl
        (joins_word name.text (mark marks.Semicolon ∷ []) (word_of_name aliases name.text sound) semicolon)
    joins_statement closing in_block (return x span) closed sound plain = joins_return aliases x sound plain

    pub joins_statements : (items : Statements) → SoundStatements (words_beside aliases) items → ArePlain (in_statements items)
        → Joins true (statements_pieces items)
    joins_statements none sound plain = joins_none true
    joins_statements (more first rest) sound plain =
        let parts = plain_parts (in_statement first) (in_statements rest) plain in
        joins_append true (statement_pieces marks.CloseBlock first) (statements_pieces rest) refl
        (joins_statement marks.CloseBlock true first refl sound.0 parts.0) (joins_statements rest sound.1 parts.1)
