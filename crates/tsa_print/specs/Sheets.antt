-- What stands on a sheet, and what is put on it piece by piece.
use Rattle.std.specs.Prelude.{ℕ, ◌-◌, List, [], ◌∷◌, ◌++◌, Bool, Some, None, codes, vec_len, if◌then◌else◌}
use Rattle.std.specs.Borrow.{Bor}
use Rattle.std.specs.declared.option.Option.{Option}
use Rattle.tsa_tree.specs.declared.stmt.Stmt.{Stmt}
use Rattle.tsa_tree.specs.expressions.Syntax.{Expression, nowhere}
use Rattle.tsa_tree.specs.statements.Syntax.{Simple, ForInit, Statement, if_alone, if_else}
use Rattle.tsa_tree.specs.statements.Shapes.{stmt_shape}
use Rattle.tsa_print.specs.declared.sheet.Behind.{Behind}
use Rattle.tsa_print.specs.declared.sheet.Behind.TheVariants.{LineStart, Tight, Loose}
use Rattle.tsa_print.specs.declared.sheet.Sheet.{Sheet}
use Rattle.tsa_print.specs.Canonical.{Piece, word, mark, piece_text}
use Rattle.tsa_print.specs.declared.mark.Mark.TheVariants as marks
use Rattle.tsa_print.specs.UnitPieces.{optional_pieces, for_init_pieces, for_step_pieces, statement_pieces}
use Rattle.tsa_print.specs.Layout.{indentation, levels_behind, behind_of, lead, line_end}

-- a text, how many blocks and structs are open after it, and what the next piece stands after
pub record Page : Type 0 where
  pub text : List ℕ
  pub levels : ℕ
  pub behind : Behind

abbrev pub page_of : Sheet → Page
page_of sheet = record { text = sheet.text.items; levels = vec_len sheet.opened; behind = sheet.behind }

-- what stands before a piece that closes a block or a struct or not, and that binds left or not
abbrev pub lead_by : ℕ → Behind → (closes joins : Bool) → List ℕ
lead_by levels LineStart closes joins = indentation (if closes then levels - 1 else levels)
lead_by levels Tight closes joins = []
lead_by levels Loose closes joins = if joins then [] else 32 ∷ []

-- one more piece
unfoldable pub put_one : Page → Piece → Page
put_one page p =
    record {
      text = page.text ++ (lead page.levels page.behind p ++ (piece_text p ++ line_end p));
      levels = levels_behind page.levels p;
      behind = behind_of p;
    }

abbrev pub put : Page → List Piece → Page
put page [] = page
put page (p ∷ ps) = put (put_one page p) ps

-- what stands before the body of a `for`
abbrev pub for_pieces : ForInit → Option Expression → Option Simple → List Piece
for_pieces init test step =
    word (codes "for") ∷ (mark marks.OpenParenthesis ∷ (for_init_pieces init ++ (mark marks.ForSemicolon ∷ (optional_pieces test
    ++ (mark marks.ForSemicolon ∷ (for_step_pieces step ++ mark marks.CloseParenthesis ∷ []))))))

-- an `if` with its second arm in the arena
abbrev pub if_given : Expression → Statement → Option (Bor Stmt) → Statement
if_given test arm None = if_alone test arm nowhere
if_given test arm (Some x) = if_else test arm (stmt_shape x.now.kind x.now.span) nowhere

abbrev pub if_pieces : Expression → Statement → Option (Bor Stmt) → List Piece
if_pieces test arm other = statement_pieces marks.CloseBlock (if_given test arm other)
