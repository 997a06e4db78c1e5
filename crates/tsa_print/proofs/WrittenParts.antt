-- What is written of an expression is written of its parts, with the texts of the signs between them: the blanks depend on
-- neighbours alone.
use Rattle.std.proofs.Common.{ℕ, ◌≡◌, ◌+◌, List, [], ◌∷◌, ◌++◌, Bool, true, false, not, ◌||◌, nat_lt, if◌then◌else◌, codes, refl, sym, ap}
use Rattle.std.proofs.Common.{◌∙◌}
use Rattle.std.proofs.lemmas.List.{append_assoc, append-nil}
use Rattle.tsa_tree.specs.declared.expr.UnaryOp.{UnaryOp}
use Rattle.tsa_tree.specs.declared.expr.BinaryOp.{BinaryOp}
use Rattle.tsa_tree.specs.tokens.Signs.{level}
use Rattle.tsa_tree.specs.expressions.Syntax.{Expression, Arguments, number, null, named, call, unary, binary, field, index, none, more}
use Rattle.tsa_print.specs.declared.mark.Mark.TheVariants as marks
use Rattle.tsa_print.specs.Canonical.{Piece, word, numeral, quoted, assigned, operator, prefix, access, mark, piece_text, operator_text}
use Rattle.tsa_print.specs.Canonical.{prefix_text, gap, binds_left, binds_right, written, pieces, wrapped, arguments, further}
use Rattle.tsa_print.proofs.Starts.{starts, starts-append, starts-pieces}

-- the last piece is one that a blank may stand after
abbrev pub closes : List Piece → Bool
closes [] = false
closes (p ∷ []) = not (binds_right p)
closes (p ∷ q ∷ ps) = closes (q ∷ ps)

closes-more : (p : Piece) (ps : List Piece) → closes ps ≡ true → closes (p ∷ ps) ≡ true
closes-more p [] e = cc
closes-more p (q ∷ qs) e = e

closes-append : (ps qs : List Piece) → closes qs ≡ true → closes (ps ++ qs) ≡ true
closes-append [] qs e = e
closes-append (p ∷ ps) qs e = closes-more p (ps ++ qs) (closes-append ps qs e)

closes-wrapped : (b : Bool) (ps : List Piece) → closes ps ≡ true → closes (wrapped b ps) ≡ true
closes-wrapped true ps e = closes-append (mark marks.OpenParenthesis ∷ ps) (mark marks.CloseParenthesis ∷ []) refl
closes-wrapped false ps e = e

pub closes-pieces : (tree : Expression) (place : ℕ) → closes (pieces tree place) ≡ true
closes-pieces (number value unsigned span) place = refl
closes-pieces (null span) place = refl
closes-pieces (named name span) place = refl
closes-pieces (call callee args span) place =
    closes-append (word callee.text ∷ (mark marks.OpenCall ∷ arguments args)) (mark marks.CloseParenthesis ∷ []) refl
closes-pieces (unary o inner span) place =
    closes-wrapped (nat_lt 10 place) (prefix o ∷ pieces inner 11) (closes-more (prefix o) (pieces inner 11) (closes-pieces inner 11))
closes-pieces (binary o left right span) place =
    let rs = operator o ∷ pieces right (level o + 1) in
    closes-wrapped (nat_lt (level o) place) (pieces left (level o) ++ rs)
    (closes-append (pieces left (level o)) rs (closes-more (operator o) (pieces right (level o + 1)) (closes-pieces right (level o + 1))))
closes-pieces (field base name arrow span) place = closes-append (pieces base 11) (access arrow ∷ (word name.text ∷ [])) refl
closes-pieces (index base at span) place =
    closes-append (pieces base 11) (mark marks.OpenBracket ∷ (pieces at 0 ++ mark marks.CloseBracket ∷ []))
    (closes-append (mark marks.OpenBracket ∷ pieces at 0) (mark marks.CloseBracket ∷ []) refl)

-- no blank stands after a piece that binds right
tight-behind : (p : Piece) (qs : List Piece) → binds_right p ≡ true → written (p ∷ qs) ≡ piece_text p ++ written qs
unfolding written
tight-behind p [] e = sym (append-nil (piece_text p))
tight-behind p (q ∷ qs) e = rw e refl

-- nor before one that binds left
tight-before : (ps : List Piece) (q : Piece) (qs : List Piece) → binds_left q ≡ true
    → written (ps ++ q ∷ qs) ≡ written ps ++ written (q ∷ qs)
unfolding written
tight-before [] q qs e = refl
tight-before (p ∷ []) q qs e = at_gap (binds_right p) (binds_left q) e
  where
    at_gap : (a b : Bool) → b ≡ true
        → piece_text p ++ ((if a || b then [] else 32 ∷ []) ++ written (q ∷ qs)) ≡ piece_text p ++ written (q ∷ qs)
    at_gap true b e = refl
    at_gap false true e = refl
    at_gap false false e = cc
tight-before (p ∷ r ∷ ps) q qs e =
    ap (λ x. piece_text p ++ (gap p r ++ x)) (tight-before (r ∷ ps) q qs e)
    ∙ ap (λ x. piece_text p ++ x) (sym (append_assoc (gap p r) (written (r ∷ ps)) (written (q ∷ qs))))
    ∙ sym (append_assoc (piece_text p) (gap p r ++ written (r ∷ ps)) (written (q ∷ qs)))

-- a blank stands before an operator
blank-before : (ps : List Piece) (o : BinaryOp) (qs : List Piece) → closes ps ≡ true
    → written (ps ++ operator o ∷ qs) ≡ written ps ++ 32 ∷ written (operator o ∷ qs)
unfolding written
blank-before [] o qs e = cc
blank-before (p ∷ []) o qs e = at_gap (binds_right p) e
  where
    at_gap : (a : Bool) → not a ≡ true
        → piece_text p ++ ((if a || false then [] else 32 ∷ []) ++ written (operator o ∷ qs))
        ≡ piece_text p ++ 32 ∷ written (operator o ∷ qs)
    at_gap true e = cc
    at_gap false e = refl
blank-before (p ∷ r ∷ ps) o qs e =
    ap (λ x. piece_text p ++ (gap p r ++ x)) (blank-before (r ∷ ps) o qs e)
    ∙ ap (λ x. piece_text p ++ x) (sym (append_assoc (gap p r) (written (r ∷ ps)) (32 ∷ written (operator o ∷ qs))))
    ∙ sym (append_assoc (piece_text p) (gap p r ++ written (r ∷ ps)) (32 ∷ written (operator o ∷ qs)))

-- and after one, and after a comma
blank-behind : (p : Piece) (qs : List Piece) → binds_right p ≡ false → starts qs ≡ true → written (p ∷ qs) ≡ piece_text p ++ 32 ∷ written qs
unfolding written
blank-behind p [] e s = cc
blank-behind p (word text ∷ qs) e s = rw e refl
blank-behind p (numeral value unsigned ∷ qs) e s = rw e refl
blank-behind p (prefix b ∷ qs) e s = rw e refl
blank-behind p (mark marks.OpenParenthesis ∷ qs) e s = rw e refl
blank-behind p (operator b ∷ qs) e s = cc
blank-behind p (access arrow ∷ qs) e s = cc
blank-behind p (mark marks.Comma ∷ qs) e s = cc
blank-behind p (mark marks.OpenCall ∷ qs) e s = cc
blank-behind p (mark marks.CloseParenthesis ∷ qs) e s = cc
blank-behind p (mark marks.OpenBracket ∷ qs) e s = cc
blank-behind p (mark marks.CloseBracket ∷ qs) e s = cc
blank-behind p (quoted text ∷ qs) e s = cc
blank-behind p (assigned o ∷ qs) e s = cc
blank-behind p (mark marks.Star ∷ qs) e s = cc
blank-behind p (mark marks.Colon ∷ qs) e s = cc
blank-behind p (mark marks.Semicolon ∷ qs) e s = cc
blank-behind p (mark marks.ForSemicolon ∷ qs) e s = cc
blank-behind p (mark marks.OpenBrace ∷ qs) e s = cc
blank-behind p (mark marks.CloseBrace ∷ qs) e s = cc
blank-behind p (mark marks.OpenBlock ∷ qs) e s = cc
blank-behind p (mark marks.CloseBlock ∷ qs) e s = cc
blank-behind p (mark marks.CloseBody ∷ qs) e s = cc
blank-behind p (mark marks.CloseStruct ∷ qs) e s = cc

pub written_one : (p : Piece) → written (p ∷ []) ≡ piece_text p
unfolding written
written_one p = refl

-- the parentheses of an expression that needs them
abbrev pub opening : Bool → List ℕ
opening needed = if needed then codes "(" else []

abbrev pub closing : Bool → List ℕ
closing needed = if needed then codes ")" else []

written-wrapped : (b : Bool) (ps : List Piece) → written (wrapped b ps) ≡ opening b ++ (written ps ++ closing b)
written-wrapped true ps =
    tight-behind (mark marks.OpenParenthesis) (ps ++ mark marks.CloseParenthesis ∷ []) refl
    ∙ ap (λ x. codes "(" ++ x) (tight-before ps (mark marks.CloseParenthesis) [] refl ∙ ap (λ x. written ps ++ x) (written_one (mark marks.CloseParenthesis)))
written-wrapped false ps = sym (append-nil (written ps))

pub written_unary : (o : UnaryOp) (inner : Expression) (place : ℕ)
    → written (wrapped (nat_lt 10 place) (prefix o ∷ pieces inner 11))
    ≡ opening (nat_lt 10 place) ++ ((prefix_text o ++ written (pieces inner 11)) ++ closing (nat_lt 10 place))
written_unary o inner place =
    written-wrapped (nat_lt 10 place) (prefix o ∷ pieces inner 11)
    ∙ ap (λ x. opening (nat_lt 10 place) ++ (x ++ closing (nat_lt 10 place))) (tight-behind (prefix o) (pieces inner 11) refl)

pub written_binary : (o : BinaryOp) (left right : Expression) (place : ℕ)
    → written (wrapped (nat_lt (level o) place) (pieces left (level o) ++ operator o ∷ pieces right (level o + 1)))
    ≡ opening (nat_lt (level o) place)
    ++ ((written (pieces left (level o)) ++ 32 ∷ (operator_text o ++ 32 ∷ written (pieces right (level o + 1))))
    ++ closing (nat_lt (level o) place))
written_binary o left right place =
    let ls = pieces left (level o) in
    let rs = pieces right (level o + 1) in
    written-wrapped (nat_lt (level o) place) (ls ++ operator o ∷ rs)
    ∙ ap (λ x. opening (nat_lt (level o) place) ++ (x ++ closing (nat_lt (level o) place)))
    (blank-before ls o rs (closes-pieces left (level o))
    ∙ ap (λ x. written ls ++ 32 ∷ x) (blank-behind (operator o) rs refl (starts-pieces right (level o + 1))))

pub written_field : (base : Expression) (text : List ℕ) (arrow : Bool)
    → written (pieces base 11 ++ access arrow ∷ (word text ∷ []))
    ≡ written (pieces base 11) ++ ((if arrow then codes "->" else codes ".") ++ text)
written_field base text arrow =
    tight-before (pieces base 11) (access arrow) (word text ∷ []) refl
    ∙ ap (λ x. written (pieces base 11) ++ x) (tight-behind (access arrow) (word text ∷ []) refl
    ∙ ap (λ x. piece_text (access arrow) ++ x) (written_one (word text)))

pub written_index : (base at : Expression)
    → written (pieces base 11 ++ mark marks.OpenBracket ∷ (pieces at 0 ++ mark marks.CloseBracket ∷ []))
    ≡ written (pieces base 11) ++ (codes "[" ++ (written (pieces at 0) ++ codes "]"))
written_index base at =
    tight-before (pieces base 11) (mark marks.OpenBracket) (pieces at 0 ++ mark marks.CloseBracket ∷ []) refl
    ∙ ap (λ x. written (pieces base 11) ++ x) (tight-behind (mark marks.OpenBracket) (pieces at 0 ++ mark marks.CloseBracket ∷ []) refl
    ∙ ap (λ x. codes "[" ++ x) (tight-before (pieces at 0) (mark marks.CloseBracket) [] refl
    ∙ ap (λ x. written (pieces at 0) ++ x) (written_one (mark marks.CloseBracket))))

-- arguments are written with this text before the first of them, and a comma and a blank before each further one
abbrev pub listed : List ℕ → Arguments → List ℕ
listed separator none = []
listed separator (more first rest) = separator ++ (written (pieces first 0) ++ listed (codes ", ") rest)

before_further : (ps : List Piece) (args : Arguments) → written (ps ++ further args) ≡ written ps ++ written (further args)
unfolding written
before_further ps none = ap written (append-nil ps) ∙ sym (append-nil (written ps))
before_further ps (more first rest) = tight-before ps (mark marks.Comma) (pieces first 0 ++ further rest) refl

written-further : (args : Arguments) → written (further args) ≡ listed (codes ", ") args
unfolding written
written-further none = refl
written-further (more first rest) =
    blank-behind (mark marks.Comma) (pieces first 0 ++ further rest) refl (starts-append (pieces first 0) (further rest) (starts-pieces first 0))
    ∙ ap (λ x. codes ", " ++ x) (before_further (pieces first 0) rest ∙ ap (λ x. written (pieces first 0) ++ x) (written-further rest))

pub written_arguments : (args : Arguments) → written (arguments args) ≡ listed [] args
unfolding written
written_arguments none = refl
written_arguments (more first rest) = before_further (pieces first 0) rest ∙ ap (λ x. written (pieces first 0) ++ x) (written-further rest)

pub written_call : (text : List ℕ) (args : Arguments)
    → written (word text ∷ (mark marks.OpenCall ∷ (arguments args ++ mark marks.CloseParenthesis ∷ [])))
    ≡ text ++ (codes "(" ++ (written (arguments args) ++ codes ")"))
unfolding written
written_call text args =
    ap (λ x. text ++ x) (tight-behind (mark marks.OpenCall) (arguments args ++ mark marks.CloseParenthesis ∷ []) refl
    ∙ ap (λ x. codes "(" ++ x) (tight-before (arguments args) (mark marks.CloseParenthesis) [] refl))
