-- The tokens of canonical text, those of an expression with no more parentheses than they need, and the blanks between tokens
-- of a line.
use Rattle.std.specs.Prelude.{ℕ, ◌+◌, List, [], ◌∷◌, ◌++◌, Bool, true, false, ◌||◌, nat_lt, Some, None, codes, if◌then◌else◌}
use Rattle.std.specs.Fmt.{decimal}
use Rattle.std.specs.declared.option.Option.{Option}
use Rattle.tsa_tree.specs.declared.expr.UnaryOp.{UnaryOp}
use Rattle.tsa_tree.specs.declared.expr.UnaryOp.TheVariants as prefix_op
use Rattle.tsa_tree.specs.declared.expr.BinaryOp.{BinaryOp}
use Rattle.tsa_tree.specs.declared.expr.BinaryOp.TheVariants as op
use Rattle.tsa_tree.specs.expressions.Syntax.{Expression, Arguments, number, null, named, call, unary, binary, field, index, none, more}
use Rattle.tsa_tree.specs.tokens.Signs.{level}
use Rattle.tsa_print.specs.declared.mark.Mark.{Mark}
use Rattle.tsa_print.specs.declared.mark.Mark.TheVariants as marks

-- a token of the text, and what it stands for where its neighbours have to know
pub data Piece : Type 0 where
  word : (text : List ℕ) → Piece
  numeral : (value : ℕ) (unsigned : Bool) → Piece
  -- a text between quotes
  quoted : (text : List ℕ) → Piece
  operator : BinaryOp → Piece
  prefix : UnaryOp → Piece
  -- `=`, or that after an operator
  assigned : Option BinaryOp → Piece
  -- `.`, or `->` where there is an arrow
  access : (arrow : Bool) → Piece
  mark : Mark → Piece

abbrev pub operator_text : BinaryOp → List ℕ
operator_text op.Or = codes "||"
operator_text op.And = codes "&&"
operator_text op.BitOr = codes "|"
operator_text op.BitXor = codes "^"
operator_text op.BitAnd = codes "&"
operator_text op.Equal = codes "=="
operator_text op.Unequal = codes "!="
operator_text op.Less = codes "<"
operator_text op.More = codes ">"
operator_text op.LessEqual = codes "<="
operator_text op.MoreEqual = codes ">="
operator_text op.Plus = codes "+"
operator_text op.Minus = codes "-"
operator_text op.Times = codes "*"
operator_text op.Divide = codes "/"
operator_text op.Remainder = codes "%"

abbrev pub prefix_text : UnaryOp → List ℕ
prefix_text prefix_op.Minus = codes "-"
prefix_text prefix_op.Not = codes "!"
prefix_text prefix_op.Flip = codes "~"
prefix_text prefix_op.Address = codes "&"
prefix_text prefix_op.Follow = codes "*"

abbrev pub assign_text : Option BinaryOp → List ℕ
assign_text None = codes "="
assign_text (Some o) = operator_text o ++ codes "="

abbrev pub mark_text : Mark → List ℕ
mark_text marks.Comma = codes ","
mark_text marks.OpenParenthesis = codes "("
mark_text marks.OpenCall = codes "("
mark_text marks.CloseParenthesis = codes ")"
mark_text marks.OpenBracket = codes "["
mark_text marks.CloseBracket = codes "]"
mark_text marks.Star = codes "*"
mark_text marks.Colon = codes ":"
mark_text marks.Semicolon = codes ";"
mark_text marks.ForSemicolon = codes ";"
mark_text marks.OpenBrace = codes "{"
mark_text marks.CloseBrace = codes "}"
mark_text marks.OpenBlock = codes "{"
mark_text marks.CloseBlock = codes "}"
mark_text marks.CloseBody = codes "}"
mark_text marks.CloseStruct = codes "}"

-- numbers are decimal, unsigned ones with `u`
abbrev pub piece_text : Piece → List ℕ
piece_text (word text) = text
piece_text (numeral value unsigned) = decimal value ++ (if unsigned then codes "u" else [])
piece_text (quoted text) = 34 ∷ (text ++ 34 ∷ [])
piece_text (operator o) = operator_text o
piece_text (prefix o) = prefix_text o
piece_text (assigned o) = assign_text o
piece_text (access arrow) = if arrow then codes "->" else codes "."
piece_text (mark k) = mark_text k

-- how tight an expression binds: a binary one as its operator, a unary one tighter than all operators, and primaries and
-- postfix expressions tighter than that
abbrev pub binds : Expression → ℕ
binds (unary o inner span) = 10
binds (binary o left right span) = level o
binds _ = 11

abbrev pub wrapped : Bool → List Piece → List Piece
wrapped true ps = mark marks.OpenParenthesis ∷ (ps ++ mark marks.CloseParenthesis ∷ [])
wrapped false ps = ps

-- An expression is in parentheses where it binds looser than its place needs. Right of a binary operator, a place needs
-- more than the operator itself binds; after a prefix operator and before a postfix one it needs a primary or a postfix
-- expression.
abbrev mutual
  pub pieces : Expression → (place : ℕ) → List Piece
  pieces (number value unsigned span) place = numeral value unsigned ∷ []
  pieces (null span) place = word (codes "NULL") ∷ []
  pieces (named name span) place = word name.text ∷ []
  pieces (call callee args span) place = word callee.text ∷ (mark marks.OpenCall ∷ (arguments args ++ mark marks.CloseParenthesis ∷ []))
  pieces (unary o inner span) place = wrapped (nat_lt 10 place) (prefix o ∷ pieces inner 11)
  pieces (binary o left right span) place =
      wrapped (nat_lt (level o) place) (pieces left (level o) ++ operator o ∷ pieces right (level o + 1))
  pieces (field base name arrow span) place = pieces base 11 ++ access arrow ∷ (word name.text ∷ [])
  pieces (index base at span) place = pieces base 11 ++ mark marks.OpenBracket ∷ (pieces at 0 ++ mark marks.CloseBracket ∷ [])

  pub arguments : Arguments → List Piece
  arguments none = []
  arguments (more first rest) = pieces first 0 ++ further rest

  pub further : Arguments → List Piece
  further none = []
  further (more first rest) = mark marks.Comma ∷ (pieces first 0 ++ further rest)

-- no blank stands after these
abbrev pub binds_right : Piece → Bool
binds_right (prefix o) = true
binds_right (access arrow) = true
binds_right (mark marks.OpenParenthesis) = true
binds_right (mark marks.OpenCall) = true
binds_right (mark marks.OpenBracket) = true
binds_right (mark marks.Star) = true
binds_right _ = false

-- no blank stands before these
abbrev pub binds_left : Piece → Bool
binds_left (access arrow) = true
binds_left (mark marks.Comma) = true
binds_left (mark marks.OpenCall) = true
binds_left (mark marks.CloseParenthesis) = true
binds_left (mark marks.OpenBracket) = true
binds_left (mark marks.CloseBracket) = true
binds_left (mark marks.Colon) = true
binds_left (mark marks.Semicolon) = true
binds_left (mark marks.ForSemicolon) = true
binds_left _ = false

-- between two tokens stands one blank, or none
abbrev pub gap : Piece → Piece → List ℕ
gap p q = if binds_right p || binds_left q then [] else 32 ∷ []

unfoldable pub written : List Piece → List ℕ
written [] = []
written (p ∷ []) = piece_text p
written (p ∷ q ∷ ps) = piece_text p ++ (gap p q ++ written (q ∷ ps))

unfoldable pub canonical : Expression → List ℕ
canonical tree = written (pieces tree 0)
