-- Where lines of canonical text end, and how far they are indented.
use Rattle.std.specs.Prelude.{ℕ, zero, suc, ◌+◌, ◌-◌, List, [], ◌∷◌, ◌++◌, Bool, true, false, if◌then◌else◌}
use Rattle.tsa_print.specs.declared.mark.Mark.TheVariants as marks
use Rattle.tsa_print.specs.declared.sheet.Behind.{Behind}
use Rattle.tsa_print.specs.declared.sheet.Behind.TheVariants.{LineStart, Tight, Loose}
use Rattle.tsa_print.specs.Canonical.{Piece, mark, piece_text, binds_left, binds_right}

-- a line ends after the `{` of a block or struct, the `}` of a block unless the `while` of its `do` follows, and a `;`
-- outside the parentheses of a `for`
abbrev pub ends_line : Piece → Bool
ends_line (mark marks.OpenBlock) = true
ends_line (mark marks.CloseBlock) = true
ends_line (mark marks.Semicolon) = true
ends_line _ = false

-- the `}` of a block or struct
abbrev pub closes_level : Piece → Bool
closes_level (mark marks.CloseBlock) = true
closes_level (mark marks.CloseBody) = true
closes_level (mark marks.CloseStruct) = true
closes_level _ = false

abbrev pub opens_level : Piece → Bool
opens_level (mark marks.OpenBlock) = true
opens_level _ = false

-- how many blocks and structs are open after a piece
abbrev pub levels_behind : ℕ → Piece → ℕ
levels_behind levels p = if opens_level p then levels + 1 else (if closes_level p then levels - 1 else levels)

-- two blanks for each open block or struct
unfoldable pub indentation : ℕ → List ℕ
indentation zero = []
indentation (suc levels) = 32 ∷ 32 ∷ indentation levels

-- what the next piece stands after
abbrev pub behind_of : Piece → Behind
behind_of p = if ends_line p then LineStart else (if binds_right p then Tight else Loose)

-- What stands before a piece: in a line a blank or nothing. A line is indented for the blocks and structs that are open, but
-- for one that it closes at once.
abbrev pub lead : ℕ → Behind → Piece → List ℕ
lead levels LineStart p = indentation (if closes_level p then levels - 1 else levels)
lead levels Tight p = []
lead levels Loose p = if binds_left p then [] else 32 ∷ []

abbrev pub line_end : Piece → List ℕ
line_end p = if ends_line p then 10 ∷ [] else []

-- pieces where so many blocks and structs are open
unfoldable pub laid : ℕ → Behind → List Piece → List ℕ
laid levels behind [] = []
laid levels behind (p ∷ ps) = lead levels behind p ++ (piece_text p ++ (line_end p ++ laid (levels_behind levels p) (behind_of p) ps))
