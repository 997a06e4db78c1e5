-- A run of the pieces of statements spells them up to spans.
use Rattle.std.proofs.Common.{ℕ, ◌+◌, ◌≡◌, ◌∙◌, subst, refl, List, [], ◌∷◌, ◌++◌, Bool, true, false, codes}
use Rattle.tsa_base.specs.Tokens.{Lexeme}
use Rattle.tsa_tree.specs.declared.sign.Keyword.TheVariants as key
use Rattle.tsa_tree.specs.declared.sign.Sign.TheVariants as sign
use Rattle.tsa_tree.specs.tokens.Signs.{Aliases}
use Rattle.tsa_tree.specs.statements.Syntax.{Statement, block, empty, local, simple, if_alone, if_else, while_loop, do_loop, for_loop}
use Rattle.tsa_tree.specs.statements.Syntax.{switch, case, otherwise, label, break, continue, goto, return, Statements, none, more}
use Rattle.tsa_tree.specs.statements.Spelling.{no_statement}
use Rattle.tsa_tree.specs.expressions.Sound.{words_beside}
use Rattle.tsa_tree.specs.statements.Sound.{SoundStatement, SoundStatements}
use Rattle.tsa_print.specs.declared.mark.Mark.{Mark}
use Rattle.tsa_print.specs.declared.mark.Mark.TheVariants as marks
use Rattle.tsa_print.specs.Canonical.{word, mark, pieces}
use Rattle.tsa_print.specs.UnitPieces.{optional_pieces, test_pieces, for_init_pieces, for_step_pieces, statement_pieces, statements_pieces}
use Rattle.tsa_print.proofs.PieceSigns.{piece_sign, seen, name_seen, named_so}
use Rattle.tsa_print.proofs.Runs.{Run, run_split}
use Rattle.tsa_print.proofs.SpelledOperands.{expression_spelled}
use Rattle.tsa_print.proofs.SpelledSimples.{tested, optional_spelled, for_init_spelled, for_step_spelled}
use Rattle.tsa_print.proofs.StatementSteps.{Read, All, anywhere, local_first, simple_step, block_step, if_step, if_else_step, while_step}
use Rattle.tsa_print.proofs.StatementSteps.{do_step, for_step, switch_step, case_step, default_step, label_step, empty_step, break_step}
use Rattle.tsa_print.proofs.StatementSteps.{continue_step, goto_step, return_step}
use Rattle.tsa_print.proofs.WordSigns.{keyword_seen}

module _ (aliases : Aliases) (ts : List Lexeme) where
  mutual
    statement_spelled : (w : Bool) (x : Statement) (closing : Mark) (d a b : ℕ) → piece_sign aliases (mark closing) ≡ sign.CloseBrace
        → SoundStatement (words_beside aliases) w x → Run ts a (statement_pieces closing x) b → Read aliases ts w d x a b
    statement_spelled true (local x) closing d a b e ok h = local_first aliases ts x d a b ok h
    statement_spelled false (local x) closing d a b e ok h = absurd ok
    statement_spelled w (block xs s) closing d a b e ok h =
        let two = run_split ts (a + 1) b (statements_pieces xs) (mark closing ∷ []) h.1 in
        let us = statements_spelled xs (d + 1) (a + 1) two.0 ok two.1 in
        let closes = seen aliases ts two.0 (mark closing) two.2.0 ∙ e in
        subst (Read aliases ts w d (block xs s) a) two.2.1 (anywhere aliases ts w d (block xs s) a (two.0 + 1)
        (block_step aliases ts xs s d a two.0 (seen aliases ts a (mark marks.OpenBlock) h.0) us closes))
    statement_spelled w (empty s) closing d a b e ok h = anywhere aliases ts w d (empty s) a b (empty_step aliases ts s d a b h)
    statement_spelled w (simple x) closing d a b e ok h = anywhere aliases ts w d (simple x) a b (simple_step aliases ts x d a b ok h)
    statement_spelled w (if_alone x arm s) closing d a b e ok h =
        let t = tested aliases ts key.If x (statement_pieces marks.CloseBlock arm) d a b ok.0 h in
        let u = statement_spelled false arm marks.CloseBlock (d + 1) t.0 b refl ok.1 t.3 in
        anywhere aliases ts w d (if_alone x arm s) a b (if_step aliases ts x arm s d a t.0 b t.1 t.2 u)
    statement_spelled w (if_else x arm other s) closing d a b e ok h =
        let behind = word (codes "else") ∷ statement_pieces marks.CloseBlock other in
        let t = tested aliases ts key.If x (statement_pieces marks.CloseBlock arm ++ behind) d a b ok.0 h in
        let two = run_split ts t.0 b (statement_pieces marks.CloseBlock arm) behind t.3 in
        let u = statement_spelled false arm marks.CloseBlock (d + 1) t.0 two.0 refl ok.1 two.1 in
        let v = statement_spelled false other marks.CloseBlock (d + 1) (two.0 + 1) b refl ok.3 two.2.1 in
        anywhere aliases ts w d (if_else x arm other s) a b
        (if_else_step aliases ts x arm other s d a t.0 two.0 b t.1 t.2 u ok.2 (keyword_seen aliases ts two.0 key.Else two.2.0) v)
    statement_spelled w (while_loop x body s) closing d a b e ok h =
        let t = tested aliases ts key.While x (statement_pieces marks.CloseBlock body) d a b ok.0 h in
        let u = statement_spelled false body marks.CloseBlock (d + 1) t.0 b refl ok.1 t.3 in
        anywhere aliases ts w d (while_loop x body s) a b (while_step aliases ts x body s d a t.0 b t.1 t.2 u)
    statement_spelled w (do_loop body x s) closing d a b e ok h =
        let behind = word (codes "while") ∷ (test_pieces x ++ mark marks.Semicolon ∷ []) in
        let two = run_split ts (a + 1) b (statement_pieces marks.CloseBody body) behind h.1 in
        let u = statement_spelled false body marks.CloseBody (d + 1) (a + 1) two.0 refl ok.0 two.1 in
        let t = tested aliases ts key.While x (mark marks.Semicolon ∷ []) d two.0 b ok.1 two.2 in
        let semicolon = seen aliases ts t.0 (mark marks.Semicolon) t.3.0 in
        subst (Read aliases ts w d (do_loop body x s) a) t.3.1 (anywhere aliases ts w d (do_loop body x s) a (t.0 + 1)
        (do_step aliases ts body x s d a two.0 t.0 (keyword_seen aliases ts a key.Do h.0) u t.1 t.2 semicolon))
    statement_spelled w (for_loop i x t body s) closing d a b e ok h =
        let last = mark marks.CloseParenthesis ∷ statement_pieces marks.CloseBlock body in
        let third = mark marks.ForSemicolon ∷ (for_step_pieces t ++ last) in
        let second = mark marks.ForSemicolon ∷ (optional_pieces x ++ third) in
        let one = run_split ts (a + 1 + 1) b (for_init_pieces i) second h.1.1 in
        let two = run_split ts (one.0 + 1) b (optional_pieces x) third one.2.1 in
        let three = run_split ts (two.0 + 1) b (for_step_pieces t) last two.2.1 in
        let init = for_init_spelled aliases ts i (d + 1) (a + 1 + 1) one.0 ok.0 one.1 in
        let test = optional_spelled aliases ts x (d + 1) (one.0 + 1) two.0 ok.1 two.1 in
        let step = for_step_spelled aliases ts t (d + 1) (two.0 + 1) three.0 ok.2 three.1 in
        let u = statement_spelled false body marks.CloseBlock (d + 1) (three.0 + 1) b refl ok.3 three.2.1 in
        anywhere aliases ts w d (for_loop i x t body s) a b
        (for_step aliases ts i x t body s d a one.0 two.0 three.0 b (keyword_seen aliases ts a key.For h.0)
        (seen aliases ts (a + 1) (mark marks.OpenParenthesis) h.1.0) init (seen aliases ts one.0 (mark marks.ForSemicolon) one.2.0) test
        (seen aliases ts two.0 (mark marks.ForSemicolon) two.2.0) step (seen aliases ts three.0 (mark marks.CloseParenthesis) three.2.0) u)
    statement_spelled w (switch x body s) closing d a b e ok h =
        let t = tested aliases ts key.Switch x (statement_pieces marks.CloseBlock body) d a b ok.0 h in
        let u = statement_spelled false body marks.CloseBlock (d + 1) t.0 b refl ok.1 t.3 in
        anywhere aliases ts w d (switch x body s) a b (switch_step aliases ts x body s d a t.0 b t.1 t.2 u)
    statement_spelled w (case x body s) closing d a b e ok h =
        let two = run_split ts (a + 1) b (pieces x 0) (mark marks.Colon ∷ statement_pieces marks.CloseBlock body) h.1 in
        let t = expression_spelled aliases ts x d (a + 1) two.0 ok.0 two.1 in
        let u = statement_spelled false body marks.CloseBlock (d + 1) (two.0 + 1) b refl ok.1 two.2.1 in
        anywhere aliases ts w d (case x body s) a b
        (case_step aliases ts x body s d a two.0 b (keyword_seen aliases ts a key.Case h.0) t (seen aliases ts two.0 (mark marks.Colon) two.2.0) u)
    statement_spelled w (otherwise body s) closing d a b e ok h =
        let u = statement_spelled false body marks.CloseBlock (d + 1) (a + 1 + 1) b refl ok h.1.1 in
        anywhere aliases ts w d (otherwise body s) a b
        (default_step aliases ts body s d a b (keyword_seen aliases ts a key.Default h.0) (seen aliases ts (a + 1) (mark marks.Colon) h.1.0) u)
    statement_spelled w (label name body s) closing d a b e ok h =
        let u = statement_spelled false body marks.CloseBlock (d + 1) (a + 1 + 1) b refl ok.1 h.1.1 in
        anywhere aliases ts w d (label name body s) a b
        (label_step aliases ts name body s d a b (name_seen aliases ts a name.text ok.0 h.0) (named_so ts a name h.0)
        (seen aliases ts (a + 1) (mark marks.Colon) h.1.0) u)
    statement_spelled w (break s) closing d a b e ok h = anywhere aliases ts w d (break s) a b (break_step aliases ts s d a b h)
    statement_spelled w (continue s) closing d a b e ok h = anywhere aliases ts w d (continue s) a b (continue_step aliases ts s d a b h)
    statement_spelled w (goto name s) closing d a b e ok h = anywhere aliases ts w d (goto name s) a b (goto_step aliases ts name s d a b ok h)
    statement_spelled w (return x s) closing d a b e ok h = anywhere aliases ts w d (return x s) a b (return_step aliases ts x s d a b ok h)

    pub statements_spelled : (xs : Statements) (d a b : ℕ) → SoundStatements (words_beside aliases) xs → Run ts a (statements_pieces xs) b
        → All aliases ts d xs a b
    statements_spelled none d a b ok h = subst (All aliases ts d none a) h (none, no_statement, refl)
    statements_spelled (more x xs) d a b ok h =
        let two = run_split ts a b (statement_pieces marks.CloseBlock x) (statements_pieces xs) h in
        let u = statement_spelled true x marks.CloseBlock d a two.0 refl ok.0 two.1 in
        let us = statements_spelled xs d two.0 b ok.1 two.2 in
        (more u.0 us.0, u.2 us.0 b us.1, rw (u.1, us.2) refl)
