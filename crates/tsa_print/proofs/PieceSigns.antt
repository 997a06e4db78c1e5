-- What the grammar sees at a token that is a piece of a canonical text.
use Rattle.std.proofs.Common.{ℕ, suc, ◌+◌, ◌≡◌, ◌∙◌, ap, subst, refl, arith, List, [], ◌∷◌, ◌++◌, Bool, true, false, ◌&&◌, not, Some, None}
use Rattle.std.proofs.Common.{length, slice_get, codes, add-zero}
use Rattle.std.proofs.lemmas.Bool.{and_parts, not-true}
use Rattle.std.specs.List.{list_all, list_any}
use Rattle.std.specs.Str.{bytes_eq}
use Rattle.tsa_base.specs.Bytes.{is_letter, is_word_byte}
use Rattle.tsa_base.specs.Tokens.{Lexeme}
use Rattle.tsa_base.specs.Words.{is_reserved}
use Rattle.tsa_tree.specs.declared.expr.UnaryOp.{UnaryOp}
use Rattle.tsa_tree.specs.declared.expr.UnaryOp.TheVariants as prefix_op
use Rattle.tsa_tree.specs.declared.expr.BinaryOp.{BinaryOp}
use Rattle.tsa_tree.specs.declared.expr.BinaryOp.TheVariants as op
use Rattle.std.specs.declared.option.Option.{Option}
use Rattle.tsa_tree.specs.declared.sign.Sign.{Sign}
use Rattle.tsa_tree.specs.declared.sign.Sign.TheVariants as sign
use Rattle.tsa_tree.specs.expressions.Syntax.{Identifier, plain_name, nowhere}
use Rattle.tsa_tree.specs.tokens.Signs.{Aliases, punctuator_signs, punctuator_sign, word_signs, word_sign, sign_of, sign_in, sign_at}
use Rattle.tsa_tree.specs.tokens.Signs.{identifier_in, identifier_at, value_of, unsigned_of, kind_in, value_at, unsigned_at}
use Rattle.tsa_tree.specs.tokens.Signs as signs
use Rattle.tsa_tree.specs.expressions.Sound.{is_name}
use Rattle.tsa_tree.specs.statements.Sound.{is_assigning}
use Rattle.tsa_print.specs.declared.mark.Mark.TheVariants as marks
use Rattle.tsa_print.specs.Canonical.{Piece, word, numeral, quoted, operator, prefix, assigned, access, mark, piece_text, assign_text}
use Rattle.tsa_tree.proofs.tokens.ReservedWords.{not_listed}
use Rattle.tsa_print.proofs.Apart.{piece_kind, AreTokens}

-- the token at this place is this piece
abbrev pub Looks : List Lexeme → ℕ → Piece → Type 0
Looks ts i p = (t : Lexeme) × (slice_get ts i ≡ Some t) × (t.kind ≡ piece_kind p) × (t.text ≡ piece_text p)

-- these pieces stand from a place on
abbrev pub Shows : List Lexeme → ℕ → List Piece → Type 0
Shows ts a [] = Unit {0}
Shows ts a (p ∷ ps) = Looks ts a p × Shows ts (a + 1) ps

shifted : (t : Lexeme) (ts : List Lexeme) (a : ℕ) (ps : List Piece) → Shows ts a ps → Shows (t ∷ ts) (a + 1) ps
shifted t ts a [] h = tt
shifted t ts a (p ∷ ps) h =
    let next : suc a ≡ a + 1 = omega arith in
    ((h.0.0, subst (λ n. slice_get (t ∷ ts) n ≡ Some h.0.0) next h.0.1, h.0.2, h.0.3), shifted t ts (a + 1) ps h.1)

-- tokens that are pieces show them, each at its place
pub shown : (ps : List Piece) (ts : List Lexeme) → AreTokens ps ts → Shows ts 0 ps
shown [] ts h = tt
shown (p ∷ ps) [] h = absurd h
shown (p ∷ ps) (t ∷ ts) h = ((t, refl, h.0, h.1), shifted t ts 0 ps (shown ps ts h.2))

pub as_many : (ps : List Piece) (ts : List Lexeme) → AreTokens ps ts → length ts ≡ length ps
as_many [] [] h = refl
as_many [] (t ∷ ts) h = absurd h
as_many (p ∷ ps) [] h = absurd h
as_many (p ∷ ps) (t ∷ ts) h = ap suc (as_many ps ts h.2)

-- what stands after some pieces stands so many places on
pub split : (ts : List Lexeme) (a : ℕ) (ps qs : List Piece) → Shows ts a (ps ++ qs) → Shows ts a ps × Shows ts (a + length ps) qs
split ts a [] qs h = (tt, rw add-zero h)
split ts a (p ∷ ps) qs h =
    let s = split ts (a + 1) ps qs h.1 in
    ((h.0, s.0), subst (λ n. Shows ts n qs) (omega arith) s.1)

-- A name is neither a word with a meaning of its own, nor another reserved word, nor the name of a type.
named_sign : (aliases : Aliases) (text : List ℕ) → is_reserved text ≡ false → list_any (bytes_eq text) aliases ≡ false
    → word_sign aliases text ≡ sign.Name
unfolding word_sign
named_sign aliases text r l = let n = not_listed text r in rw (n, r, l) refl

pub name_sign : (aliases : Aliases) (text : List ℕ) → is_name aliases text ≡ true → word_sign aliases text ≡ sign.Name
name_sign aliases [] e = cc
name_sign aliases (c ∷ cs) e =
    let parts = and_parts (is_letter c && list_all is_word_byte cs) _ e in
    let words = and_parts (not (is_reserved (c ∷ cs))) _ parts.1 in
    named_sign aliases (c ∷ cs) (not-true _ words.0) (not-true _ words.1)

abbrev pub prefix_sign : UnaryOp → Sign
prefix_sign prefix_op.Minus = sign.Operator op.Minus
prefix_sign prefix_op.Not = sign.Not
prefix_sign prefix_op.Flip = sign.Flip
prefix_sign prefix_op.Address = sign.Operator op.BitAnd
prefix_sign prefix_op.Follow = sign.Operator op.Times

abbrev pub access_sign : Bool → Sign
access_sign true = sign.Arrow
access_sign false = sign.Dot

-- the sign of a piece; a word's depends on its text
abbrev pub piece_sign : Aliases → Piece → Sign
piece_sign aliases (word text) = word_sign aliases text
piece_sign aliases (numeral value unsigned) = sign.Number
piece_sign aliases (operator o) = sign.Operator o
piece_sign aliases (prefix o) = prefix_sign o
piece_sign aliases (access arrow) = access_sign arrow
piece_sign aliases (quoted text) = sign.Text
piece_sign aliases (assigned o) = punctuator_sign (assign_text o)
piece_sign aliases (mark marks.Comma) = sign.Comma
piece_sign aliases (mark marks.OpenParenthesis) = sign.Open
piece_sign aliases (mark marks.OpenCall) = sign.Open
piece_sign aliases (mark marks.CloseParenthesis) = sign.Close
piece_sign aliases (mark marks.OpenBracket) = sign.OpenBracket
piece_sign aliases (mark marks.CloseBracket) = sign.CloseBracket
piece_sign aliases (mark marks.Star) = sign.Operator op.Times
piece_sign aliases (mark marks.Colon) = sign.Colon
piece_sign aliases (mark marks.Semicolon) = sign.Semicolon
piece_sign aliases (mark marks.ForSemicolon) = sign.Semicolon
piece_sign aliases (mark marks.OpenBrace) = sign.OpenBrace
piece_sign aliases (mark marks.CloseBrace) = sign.CloseBrace
piece_sign aliases (mark marks.OpenBlock) = sign.OpenBrace
piece_sign aliases (mark marks.CloseBlock) = sign.CloseBrace
piece_sign aliases (mark marks.CloseBody) = sign.CloseBrace
piece_sign aliases (mark marks.CloseStruct) = sign.CloseBrace

of_piece : (aliases : Aliases) (p : Piece) → sign_of aliases (piece_kind p) (piece_text p) ≡ piece_sign aliases p
unfolding sign_of punctuator_sign punctuator_signs
of_piece aliases (word text) = refl
of_piece aliases (numeral value unsigned) = refl
of_piece aliases (operator op.Or) = refl
of_piece aliases (operator op.And) = refl
of_piece aliases (operator op.BitOr) = refl
of_piece aliases (operator op.BitXor) = refl
of_piece aliases (operator op.BitAnd) = refl
of_piece aliases (operator op.Equal) = refl
of_piece aliases (operator op.Unequal) = refl
of_piece aliases (operator op.Less) = refl
of_piece aliases (operator op.More) = refl
of_piece aliases (operator op.LessEqual) = refl
of_piece aliases (operator op.MoreEqual) = refl
of_piece aliases (operator op.Plus) = refl
of_piece aliases (operator op.Minus) = refl
of_piece aliases (operator op.Times) = refl
of_piece aliases (operator op.Divide) = refl
of_piece aliases (operator op.Remainder) = refl
of_piece aliases (prefix prefix_op.Minus) = refl
of_piece aliases (prefix prefix_op.Not) = refl
of_piece aliases (prefix prefix_op.Flip) = refl
of_piece aliases (prefix prefix_op.Address) = refl
of_piece aliases (prefix prefix_op.Follow) = refl
of_piece aliases (access true) = refl
of_piece aliases (access false) = refl
of_piece aliases (mark marks.Comma) = refl
of_piece aliases (mark marks.OpenParenthesis) = refl
of_piece aliases (mark marks.OpenCall) = refl
of_piece aliases (mark marks.CloseParenthesis) = refl
of_piece aliases (mark marks.OpenBracket) = refl
of_piece aliases (mark marks.CloseBracket) = refl
of_piece aliases (quoted text) = refl
of_piece aliases (assigned o) = refl
of_piece aliases (mark marks.Star) = refl
of_piece aliases (mark marks.Colon) = refl
of_piece aliases (mark marks.Semicolon) = refl
of_piece aliases (mark marks.ForSemicolon) = refl
of_piece aliases (mark marks.OpenBrace) = refl
of_piece aliases (mark marks.CloseBrace) = refl
of_piece aliases (mark marks.OpenBlock) = refl
of_piece aliases (mark marks.CloseBlock) = refl
of_piece aliases (mark marks.CloseBody) = refl
of_piece aliases (mark marks.CloseStruct) = refl

-- a token that is a piece is seen as the piece
pub seen : (aliases : Aliases) (ts : List Lexeme) (i : ℕ) (p : Piece) → Looks ts i p → sign_at ts aliases i ≡ piece_sign aliases p
unfolding sign_at
seen aliases ts i p (t, at, kind, text) =
    ap (sign_in aliases) at ∙ (ap (λ k. sign_of aliases k t.text) kind ∙ (ap (sign_of aliases (piece_kind p)) text ∙ of_piece aliases p))

pub name_seen : (aliases : Aliases) (ts : List Lexeme) (i : ℕ) (text : List ℕ) → is_name aliases text ≡ true
    → Looks ts i (word text) → sign_at ts aliases i ≡ sign.Name
name_seen aliases ts i text e h = seen aliases ts i (word text) h ∙ name_sign aliases text e

pub null_seen : (aliases : Aliases) (ts : List Lexeme) (i : ℕ) → Looks ts i (word (codes "NULL")) → sign_at ts aliases i ≡ sign.Null
unfolding word_sign word_signs
null_seen aliases ts i h = seen aliases ts i (word (codes "NULL")) h

pub prefix_seen : (aliases : Aliases) (ts : List Lexeme) (i : ℕ) (o : UnaryOp) → Looks ts i (prefix o)
    → signs.prefix (sign_at ts aliases i) ≡ Some o
prefix_seen aliases ts i o h = ap signs.prefix (seen aliases ts i (prefix o) h) ∙ same o
  where
    same : (o : UnaryOp) → signs.prefix (prefix_sign o) ≡ Some o
    same prefix_op.Minus = refl
    same prefix_op.Not = refl
    same prefix_op.Flip = refl
    same prefix_op.Address = refl
    same prefix_op.Follow = refl

pub access_seen : (aliases : Aliases) (ts : List Lexeme) (i : ℕ) (arrow : Bool) → Looks ts i (access arrow)
    → signs.access (sign_at ts aliases i) ≡ Some arrow
access_seen aliases ts i true h = ap signs.access (seen aliases ts i (access true) h)
access_seen aliases ts i false h = ap signs.access (seen aliases ts i (access false) h)

-- an operator that can stand before the `=` of an assignment makes one of it
pub assign_seen : (aliases : Aliases) (ts : List Lexeme) (i : ℕ) (o : Option BinaryOp) → is_assigning o ≡ true → Looks ts i (assigned o)
    → signs.assigns (sign_at ts aliases i) ≡ Some o
unfolding punctuator_sign punctuator_signs
assign_seen aliases ts i o is h = ap signs.assigns (seen aliases ts i (assigned o) h) ∙ same o is
  where
    same : (o : Option BinaryOp) → is_assigning o ≡ true → signs.assigns (punctuator_sign (assign_text o)) ≡ Some o
    same None is = refl
    same (Some op.Plus) is = refl
    same (Some op.Minus) is = refl
    same (Some op.Times) is = refl
    same (Some op.Divide) is = refl
    same (Some op.Remainder) is = refl
    same (Some op.BitAnd) is = refl
    same (Some op.BitOr) is = refl
    same (Some op.BitXor) is = refl
    same (Some op.Or) is = cc
    same (Some op.And) is = cc
    same (Some op.Equal) is = cc
    same (Some op.Unequal) is = cc
    same (Some op.Less) is = cc
    same (Some op.More) is = cc
    same (Some op.LessEqual) is = cc
    same (Some op.MoreEqual) is = cc

-- a word's token has its text, and a numeral's its value and type
pub named_so : (ts : List Lexeme) (i : ℕ) (name : Identifier) → Looks ts i (word name.text) → plain_name (identifier_at ts i) ≡ plain_name name
unfolding identifier_at
named_so ts i name (t, at, kind, text) =
    ap (λ o. plain_name (identifier_in o)) at ∙ ap (λ x. record { text = x; span = nowhere }) text

pub value_so : (ts : List Lexeme) (i value : ℕ) (unsigned : Bool) → Looks ts i (numeral value unsigned) → value_at ts i ≡ value
unfolding value_at
value_so ts i value unsigned (t, at, kind, text) = ap (λ o. value_of (kind_in o)) at ∙ ap value_of kind

pub unsigned_so : (ts : List Lexeme) (i value : ℕ) (unsigned : Bool) → Looks ts i (numeral value unsigned) → unsigned_at ts i ≡ unsigned
unfolding unsigned_at
unsigned_so ts i value unsigned (t, at, kind, text) = ap (λ o. unsigned_of (kind_in o)) at ∙ ap unsigned_of kind
