-- What the pieces of an expression begin with.
use Rattle.std.proofs.Common.{ℕ, ◌≡◌, ◌+◌, List, [], ◌∷◌, ◌++◌, Bool, true, false, nat_lt, refl}
use Rattle.tsa_tree.specs.declared.expr.BinaryOp.{BinaryOp}
use Rattle.tsa_tree.specs.declared.expr.BinaryOp.TheVariants as op
use Rattle.tsa_tree.specs.tokens.Signs.{level}
use Rattle.tsa_tree.specs.expressions.Syntax.{Expression, number, null, named, call, unary, binary, field, index}
use Rattle.tsa_print.specs.declared.mark.Mark.TheVariants as marks
use Rattle.tsa_print.specs.Canonical.{Piece, word, numeral, operator, prefix, access, mark, pieces, wrapped}
use Rattle.tsa_print.proofs.Apart.{is_tight}

-- an expression can begin with these
abbrev pub is_start : Piece → Bool
is_start (word text) = true
is_start (numeral value unsigned) = true
is_start (prefix o) = true
is_start (mark marks.OpenParenthesis) = true
is_start _ = false

abbrev pub starts : List Piece → Bool
starts [] = false
starts (p ∷ ps) = is_start p

abbrev pub tight : List Piece → Bool
tight [] = false
tight (p ∷ ps) = is_tight p

pub starts-append : (ps qs : List Piece) → starts ps ≡ true → starts (ps ++ qs) ≡ true
starts-append [] qs e = cc
starts-append (p ∷ ps) qs e = e

tight-append : (ps qs : List Piece) → tight ps ≡ true → tight (ps ++ qs) ≡ true
tight-append [] qs e = cc
tight-append (p ∷ ps) qs e = e

starts-wrapped : (b : Bool) (ps : List Piece) → starts ps ≡ true → starts (wrapped b ps) ≡ true
starts-wrapped true ps e = refl
starts-wrapped false ps e = e

-- every expression begins with a word, a number, a prefix operator or a parenthesis
pub starts-pieces : (tree : Expression) (place : ℕ) → starts (pieces tree place) ≡ true
starts-pieces (number value unsigned span) place = refl
starts-pieces (null span) place = refl
starts-pieces (named name span) place = refl
starts-pieces (call callee args span) place = refl
starts-pieces (unary o inner span) place = starts-wrapped (nat_lt 10 place) (prefix o ∷ pieces inner 11) refl
starts-pieces (binary o left right span) place =
    starts-wrapped (nat_lt (level o) place) (pieces left (level o) ++ operator o ∷ pieces right (level o + 1))
    (starts-append (pieces left (level o)) (operator o ∷ pieces right (level o + 1)) (starts-pieces left (level o)))
starts-pieces (field base name arrow span) place =
    starts-append (pieces base 11) (access arrow ∷ (word name.text ∷ [])) (starts-pieces base 11)
starts-pieces (index base at span) place =
    starts-append (pieces base 11) (mark marks.OpenBracket ∷ (pieces at 0 ++ mark marks.CloseBracket ∷ [])) (starts-pieces base 11)

-- binary expressions after a prefix operator or before a postfix one are in parentheses
wrapped-binary : (o : BinaryOp) (ps : List Piece) → tight (wrapped (nat_lt (level o) 11) ps) ≡ true
wrapped-binary op.Or ps = refl
wrapped-binary op.And ps = refl
wrapped-binary op.BitOr ps = refl
wrapped-binary op.BitXor ps = refl
wrapped-binary op.BitAnd ps = refl
wrapped-binary op.Equal ps = refl
wrapped-binary op.Unequal ps = refl
wrapped-binary op.Less ps = refl
wrapped-binary op.More ps = refl
wrapped-binary op.LessEqual ps = refl
wrapped-binary op.MoreEqual ps = refl
wrapped-binary op.Plus ps = refl
wrapped-binary op.Minus ps = refl
wrapped-binary op.Times ps = refl
wrapped-binary op.Divide ps = refl
wrapped-binary op.Remainder ps = refl

-- after a prefix operator there is no other one
pub tight-bare : (tree : Expression) → tight (pieces tree 11) ≡ true
tight-bare (number value unsigned span) = refl
tight-bare (null span) = refl
tight-bare (named name span) = refl
tight-bare (call callee args span) = refl
tight-bare (unary o inner span) = refl
tight-bare (binary o left right span) = wrapped-binary o (pieces left (level o) ++ operator o ∷ pieces right (level o + 1))
tight-bare (field base name arrow span) =
    tight-append (pieces base 11) (access arrow ∷ (word name.text ∷ [])) (tight-bare base)
tight-bare (index base at span) =
    tight-append (pieces base 11) (mark marks.OpenBracket ∷ (pieces at 0 ++ mark marks.CloseBracket ∷ [])) (tight-bare base)
