-- What is written after a piece may follow it, where the next piece may stand after it.
use Rattle.std.proofs.Common.{ℕ, ◌≡◌, ◌<◌, List, [], ◌∷◌, ◌++◌, length, Bool, true, false, ◌||◌, not, ◌==◌, refl, ap, ◌∙◌, arith}
use Rattle.std.specs.Fmt.{decimal}
use Rattle.std.proofs.lemmas.Bool.{and_parts, not-true}
use Rattle.std.proofs.lemmas.List.{append_assoc}
use Rattle.std.specs.List.{list_all}
use Rattle.tsa_base.specs.Bytes.{is_letter, is_digit, is_word_byte}
use Rattle.tsa_tree.specs.declared.expr.UnaryOp.{UnaryOp}
use Rattle.tsa_tree.specs.declared.expr.UnaryOp.TheVariants as prefix_op
use Rattle.tsa_tree.specs.expressions.Sound.{is_value}
use Rattle.tsa_print.specs.declared.mark.Mark.{Mark}
use Rattle.tsa_print.specs.declared.mark.Mark.TheVariants as marks
use Rattle.tsa_print.specs.Canonical.{Piece, word, numeral, quoted, assigned, operator, prefix, access, mark, prefix_text, piece_text}
use Rattle.tsa_print.specs.Canonical.{mark_text, gap, binds_left}
use Rattle.tsa_print.specs.Layout.{lead, line_end, behind_of}
use Rattle.tsa_print.proofs.Apart.{is_word, is_good, follows, follows_first, is_dot, is_name_piece, is_tight, is_equality, safe}
use Rattle.tsa_print.proofs.Longer.{not-of-kind}
use Rattle.tsa_print.proofs.Numerals.{decimal-IsDecimal, suffix, value-small}

-- The first byte of a number is a digit.

-- the piece may stand before a text that begins with a digit
abbrev FollowsDigits : Piece → Type 0
FollowsDigits p = (c : ℕ) (cs : List ℕ) → is_digit c ≡ true → follows_first p (c ∷ cs) ≡ true

before_digits : (p : Piece) (text rest : List ℕ) → FollowsDigits p → 0 < length text → list_all is_digit text ≡ true →
    follows_first p (text ++ rest) ≡ true
before_digits p [] rest may some digits = absurd (omega (arith, some))
before_digits p (c ∷ cs) rest may some digits = may c (cs ++ rest) (and_parts (is_digit c) (list_all is_digit cs) digits).0

before_numeral : (p : Piece) (value : ℕ) (unsigned : Bool) (rest : List ℕ) → FollowsDigits p → is_value value unsigned ≡ true →
    follows_first p (piece_text (numeral value unsigned) ++ rest) ≡ true
before_numeral p value unsigned rest may good =
    let written = decimal-IsDecimal value (value-small value unsigned good) in
    ap (follows_first p) (append_assoc (decimal value) (suffix unsigned) rest)
    ∙ before_digits p (decimal value) (suffix unsigned ++ rest) may written.some written.digits

-- Behind a prefix operator, and after `.` and `->`.

prefix_digits : (o : UnaryOp) → FollowsDigits (prefix o)
prefix_digits o c cs digit = go (is_letter c) (is_digit c) (c == 40) digit
  where
    go : (l d p : Bool) → d ≡ true → ((l || d) || p) ≡ true
    go true d p e = refl
    go false true p e = refl
    go false false p e = cc

prefix_word : (o : UnaryOp) (text rest : List ℕ) → is_word text ≡ true → follows_first (prefix o) (text ++ rest) ≡ true
prefix_word o [] rest e = cc
prefix_word o (c ∷ cs) rest e = let l : is_letter c ≡ true = (and_parts (is_letter c) (list_all is_word_byte cs) e).0 in rw l refl

prefix_gap : (o : UnaryOp) (q : Piece) (rest : List ℕ) → is_good q ≡ true → is_tight q ≡ true → follows_first (prefix o) (piece_text q ++ rest) ≡ true
prefix_gap o (word text) rest good tight = prefix_word o text rest good
prefix_gap o (numeral value unsigned) rest good tight = before_numeral (prefix o) value unsigned rest (prefix_digits o) good
prefix_gap o (quoted text) rest good tight = absurd (cc)
prefix_gap o (operator b) rest good tight = absurd (cc)
prefix_gap o (prefix b) rest good tight = absurd (cc)
prefix_gap o (assigned b) rest good tight = absurd (cc)
prefix_gap o (mark marks.Comma) rest good tight = absurd (cc)
prefix_gap o (mark marks.OpenParenthesis) rest good tight = refl
prefix_gap o (mark marks.OpenCall) rest good tight = absurd (cc)
prefix_gap o (mark marks.CloseParenthesis) rest good tight = absurd (cc)
prefix_gap o (mark marks.OpenBracket) rest good tight = absurd (cc)
prefix_gap o (mark marks.CloseBracket) rest good tight = absurd (cc)
prefix_gap o (mark marks.Star) rest good tight = absurd (cc)
prefix_gap o (mark marks.Colon) rest good tight = absurd (cc)
prefix_gap o (mark marks.Semicolon) rest good tight = absurd (cc)
prefix_gap o (mark marks.ForSemicolon) rest good tight = absurd (cc)
prefix_gap o (mark marks.OpenBrace) rest good tight = absurd (cc)
prefix_gap o (mark marks.CloseBrace) rest good tight = absurd (cc)
prefix_gap o (mark marks.OpenBlock) rest good tight = absurd (cc)
prefix_gap o (mark marks.CloseBlock) rest good tight = absurd (cc)
prefix_gap o (mark marks.CloseBody) rest good tight = absurd (cc)
prefix_gap o (mark marks.CloseStruct) rest good tight = absurd (cc)
prefix_gap o (access arrow) rest good tight = absurd (cc)

access_word : (arrow : Bool) (text rest : List ℕ) → is_word text ≡ true → follows_first (access arrow) (text ++ rest) ≡ true
access_word arrow [] rest good = cc
access_word arrow (c ∷ cs) rest good = (and_parts (is_letter c) (list_all is_word_byte cs) good).0

access_gap : (arrow : Bool) (q : Piece) (rest : List ℕ) → is_good q ≡ true → is_name_piece q ≡ true → follows_first (access arrow) (piece_text q ++ rest) ≡ true
access_gap arrow (word text) rest good name = access_word arrow text rest good
access_gap arrow (numeral value unsigned) rest good name = absurd (cc)
access_gap arrow (quoted text) rest good name = absurd (cc)
access_gap arrow (operator b) rest good name = absurd (cc)
access_gap arrow (prefix b) rest good name = absurd (cc)
access_gap arrow (assigned b) rest good name = absurd (cc)
access_gap arrow (access other) rest good name = absurd (cc)
access_gap arrow (mark k) rest good name = absurd (cc)

-- Behind the star of a declarator.

star_digits : FollowsDigits (mark marks.Star)
star_digits c cs digit = let other : (c == 61) ≡ false = not-of-kind is_digit c 61 digit refl in rw other refl

star_word : (text rest : List ℕ) → is_word text ≡ true → follows_first (mark marks.Star) (text ++ rest) ≡ true
star_word [] rest e = cc
star_word (c ∷ cs) rest e =
    let l : is_letter c ≡ true = (and_parts (is_letter c) (list_all is_word_byte cs) e).0 in
    let other : (c == 61) ≡ false = not-of-kind is_letter c 61 l refl in
    rw other refl

star_prefix : (o : UnaryOp) (rest : List ℕ) → follows_first (mark marks.Star) (prefix_text o ++ rest) ≡ true
star_prefix prefix_op.Minus rest = refl
star_prefix prefix_op.Not rest = refl
star_prefix prefix_op.Flip rest = refl
star_prefix prefix_op.Address rest = refl
star_prefix prefix_op.Follow rest = refl

star_mark : (k : Mark) (rest : List ℕ) → follows_first (mark marks.Star) (mark_text k ++ rest) ≡ true
star_mark marks.Comma rest = refl
star_mark marks.OpenParenthesis rest = refl
star_mark marks.OpenCall rest = refl
star_mark marks.CloseParenthesis rest = refl
star_mark marks.OpenBracket rest = refl
star_mark marks.CloseBracket rest = refl
star_mark marks.Star rest = refl
star_mark marks.Colon rest = refl
star_mark marks.Semicolon rest = refl
star_mark marks.ForSemicolon rest = refl
star_mark marks.OpenBrace rest = refl
star_mark marks.CloseBrace rest = refl
star_mark marks.OpenBlock rest = refl
star_mark marks.CloseBlock rest = refl
star_mark marks.CloseBody rest = refl
star_mark marks.CloseStruct rest = refl

star_gap : (q : Piece) (rest : List ℕ) → is_good q ≡ true → not (is_equality q) ≡ true → follows_first (mark marks.Star) (piece_text q ++ rest) ≡ true
star_gap (word text) rest good other = star_word text rest good
star_gap (numeral value unsigned) rest good other = before_numeral (mark marks.Star) value unsigned rest star_digits good
star_gap (quoted text) rest good other = refl
star_gap (operator b) rest good other = absurd (cc)
star_gap (prefix b) rest good other = star_prefix b rest
star_gap (assigned b) rest good other = absurd (cc)
star_gap (access true) rest good other = refl
star_gap (access false) rest good other = refl
star_gap (mark k) rest good other = star_mark k rest

-- Behind a word and after a number.

word_mark : (text : List ℕ) (k : Mark) (rest : List ℕ) → follows_first (word text) (gap (word text) (mark k) ++ (mark_text k ++ rest)) ≡ true
word_mark text marks.Comma rest = refl
word_mark text marks.OpenParenthesis rest = refl
word_mark text marks.OpenCall rest = refl
word_mark text marks.CloseParenthesis rest = refl
word_mark text marks.OpenBracket rest = refl
word_mark text marks.CloseBracket rest = refl
word_mark text marks.Star rest = refl
word_mark text marks.Colon rest = refl
word_mark text marks.Semicolon rest = refl
word_mark text marks.ForSemicolon rest = refl
word_mark text marks.OpenBrace rest = refl
word_mark text marks.CloseBrace rest = refl
word_mark text marks.OpenBlock rest = refl
word_mark text marks.CloseBlock rest = refl
word_mark text marks.CloseBody rest = refl
word_mark text marks.CloseStruct rest = refl

word_gap : (text : List ℕ) (q : Piece) (rest : List ℕ) → follows_first (word text) (gap (word text) q ++ (piece_text q ++ rest)) ≡ true
word_gap text (word other) rest = refl
word_gap text (numeral value unsigned) rest = refl
word_gap text (quoted inside) rest = refl
word_gap text (operator b) rest = refl
word_gap text (prefix b) rest = refl
word_gap text (assigned b) rest = refl
word_gap text (access true) rest = refl
word_gap text (access false) rest = refl
word_gap text (mark k) rest = word_mark text k rest

numeral_mark : (value : ℕ) (unsigned : Bool) (k : Mark) (rest : List ℕ) →
    follows_first (numeral value unsigned) (gap (numeral value unsigned) (mark k) ++ (mark_text k ++ rest)) ≡ true
numeral_mark value unsigned marks.Comma rest = refl
numeral_mark value unsigned marks.OpenParenthesis rest = refl
numeral_mark value unsigned marks.OpenCall rest = refl
numeral_mark value unsigned marks.CloseParenthesis rest = refl
numeral_mark value unsigned marks.OpenBracket rest = refl
numeral_mark value unsigned marks.CloseBracket rest = refl
numeral_mark value unsigned marks.Star rest = refl
numeral_mark value unsigned marks.Colon rest = refl
numeral_mark value unsigned marks.Semicolon rest = refl
numeral_mark value unsigned marks.ForSemicolon rest = refl
numeral_mark value unsigned marks.OpenBrace rest = refl
numeral_mark value unsigned marks.CloseBrace rest = refl
numeral_mark value unsigned marks.OpenBlock rest = refl
numeral_mark value unsigned marks.CloseBlock rest = refl
numeral_mark value unsigned marks.CloseBody rest = refl
numeral_mark value unsigned marks.CloseStruct rest = refl

numeral_gap : (value : ℕ) (unsigned : Bool) (q : Piece) (rest : List ℕ) → not (is_dot q) ≡ true →
    follows_first (numeral value unsigned) (gap (numeral value unsigned) q ++ (piece_text q ++ rest)) ≡ true
numeral_gap value unsigned (word text) rest other = refl
numeral_gap value unsigned (numeral number more) rest other = refl
numeral_gap value unsigned (quoted text) rest other = refl
numeral_gap value unsigned (operator b) rest other = refl
numeral_gap value unsigned (prefix b) rest other = refl
numeral_gap value unsigned (assigned b) rest other = refl
numeral_gap value unsigned (access true) rest other = refl
numeral_gap value unsigned (access false) rest other = absurd (cc)
numeral_gap value unsigned (mark k) rest other = numeral_mark value unsigned k rest

-- Behind the others.

free_follows : (p : Piece) → ((c : ℕ) → follows p c ≡ true) → (bytes : List ℕ) → follows_first p bytes ≡ true
free_follows p free [] = refl
free_follows p free (c ∷ cs) = free c

mark_gap : (k : Mark) (q : Piece) (rest : List ℕ) → is_good q ≡ true → safe (mark k) q ≡ true → follows_first (mark k) (gap (mark k) q ++ (piece_text q ++ rest)) ≡ true
mark_gap marks.Comma q rest good may = free_follows (mark marks.Comma) (λ c. refl) (gap (mark marks.Comma) q ++ (piece_text q ++ rest))
mark_gap marks.OpenParenthesis q rest good may = free_follows (mark marks.OpenParenthesis) (λ c. refl) (gap (mark marks.OpenParenthesis) q ++ (piece_text q ++ rest))
mark_gap marks.OpenCall q rest good may = free_follows (mark marks.OpenCall) (λ c. refl) (gap (mark marks.OpenCall) q ++ (piece_text q ++ rest))
mark_gap marks.CloseParenthesis q rest good may = free_follows (mark marks.CloseParenthesis) (λ c. refl) (gap (mark marks.CloseParenthesis) q ++ (piece_text q ++ rest))
mark_gap marks.OpenBracket q rest good may = free_follows (mark marks.OpenBracket) (λ c. refl) (gap (mark marks.OpenBracket) q ++ (piece_text q ++ rest))
mark_gap marks.CloseBracket q rest good may = free_follows (mark marks.CloseBracket) (λ c. refl) (gap (mark marks.CloseBracket) q ++ (piece_text q ++ rest))
mark_gap marks.Star q rest good may = star_gap q rest good may
mark_gap marks.Colon q rest good may = free_follows (mark marks.Colon) (λ c. refl) (gap (mark marks.Colon) q ++ (piece_text q ++ rest))
mark_gap marks.Semicolon q rest good may = free_follows (mark marks.Semicolon) (λ c. refl) (gap (mark marks.Semicolon) q ++ (piece_text q ++ rest))
mark_gap marks.ForSemicolon q rest good may = free_follows (mark marks.ForSemicolon) (λ c. refl) (gap (mark marks.ForSemicolon) q ++ (piece_text q ++ rest))
mark_gap marks.OpenBrace q rest good may = free_follows (mark marks.OpenBrace) (λ c. refl) (gap (mark marks.OpenBrace) q ++ (piece_text q ++ rest))
mark_gap marks.CloseBrace q rest good may = free_follows (mark marks.CloseBrace) (λ c. refl) (gap (mark marks.CloseBrace) q ++ (piece_text q ++ rest))
mark_gap marks.OpenBlock q rest good may = free_follows (mark marks.OpenBlock) (λ c. refl) (gap (mark marks.OpenBlock) q ++ (piece_text q ++ rest))
mark_gap marks.CloseBlock q rest good may = free_follows (mark marks.CloseBlock) (λ c. refl) (gap (mark marks.CloseBlock) q ++ (piece_text q ++ rest))
mark_gap marks.CloseBody q rest good may = free_follows (mark marks.CloseBody) (λ c. refl) (gap (mark marks.CloseBody) q ++ (piece_text q ++ rest))
mark_gap marks.CloseStruct q rest good may = free_follows (mark marks.CloseStruct) (λ c. refl) (gap (mark marks.CloseStruct) q ++ (piece_text q ++ rest))

-- what stands after a piece in a line may follow it
pub follows-gap : (p q : Piece) (rest : List ℕ) → is_good q ≡ true → safe p q ≡ true → follows_first p (gap p q ++ (piece_text q ++ rest)) ≡ true
follows-gap (word text) q rest good may = word_gap text q rest
follows-gap (numeral value unsigned) q rest good may = numeral_gap value unsigned q rest may
follows-gap (quoted text) q rest good may = free_follows (quoted text) (λ c. refl) (gap (quoted text) q ++ (piece_text q ++ rest))
follows-gap (operator o) q rest good may = let loose : binds_left q ≡ false = not-true (binds_left q) may in rw loose refl
follows-gap (assigned o) q rest good may = let loose : binds_left q ≡ false = not-true (binds_left q) may in rw loose refl
follows-gap (prefix o) q rest good may = prefix_gap o q rest good may
follows-gap (access arrow) q rest good may = access_gap arrow q rest good may
follows-gap (mark k) q rest good may = mark_gap k q rest good may

mark_lead : (k : Mark) (q : Piece) (levels : ℕ) (rest : List ℕ) → is_good q ≡ true → safe (mark k) q ≡ true →
    follows_first (mark k) (line_end (mark k) ++ (lead levels (behind_of (mark k)) q ++ (piece_text q ++ rest))) ≡ true
mark_lead marks.Comma q levels rest good may = mark_gap marks.Comma q rest good may
mark_lead marks.OpenParenthesis q levels rest good may = mark_gap marks.OpenParenthesis q rest good may
mark_lead marks.OpenCall q levels rest good may = mark_gap marks.OpenCall q rest good may
mark_lead marks.CloseParenthesis q levels rest good may = mark_gap marks.CloseParenthesis q rest good may
mark_lead marks.OpenBracket q levels rest good may = mark_gap marks.OpenBracket q rest good may
mark_lead marks.CloseBracket q levels rest good may = mark_gap marks.CloseBracket q rest good may
mark_lead marks.Star q levels rest good may = mark_gap marks.Star q rest good may
mark_lead marks.Colon q levels rest good may = mark_gap marks.Colon q rest good may
mark_lead marks.Semicolon q levels rest good may = refl
mark_lead marks.ForSemicolon q levels rest good may = mark_gap marks.ForSemicolon q rest good may
mark_lead marks.OpenBrace q levels rest good may = mark_gap marks.OpenBrace q rest good may
mark_lead marks.CloseBrace q levels rest good may = mark_gap marks.CloseBrace q rest good may
mark_lead marks.OpenBlock q levels rest good may = refl
mark_lead marks.CloseBlock q levels rest good may = refl
mark_lead marks.CloseBody q levels rest good may = mark_gap marks.CloseBody q rest good may
mark_lead marks.CloseStruct q levels rest good may = mark_gap marks.CloseStruct q rest good may

-- and after a piece and the end of its line
pub follows-lead : (p q : Piece) (levels : ℕ) (rest : List ℕ) → is_good q ≡ true → safe p q ≡ true →
    follows_first p (line_end p ++ (lead levels (behind_of p) q ++ (piece_text q ++ rest))) ≡ true
follows-lead (word text) q levels rest good may = follows-gap (word text) q rest good may
follows-lead (numeral value unsigned) q levels rest good may = follows-gap (numeral value unsigned) q rest good may
follows-lead (quoted text) q levels rest good may = follows-gap (quoted text) q rest good may
follows-lead (operator o) q levels rest good may = follows-gap (operator o) q rest good may
follows-lead (assigned o) q levels rest good may = follows-gap (assigned o) q rest good may
follows-lead (prefix o) q levels rest good may = follows-gap (prefix o) q rest good may
follows-lead (access arrow) q levels rest good may = follows-gap (access arrow) q rest good may
follows-lead (mark k) q levels rest good may = mark_lead k q levels rest good may

-- the end of a line may follow a piece that ends it
mark_end : (k : Mark) → follows_first (mark k) (line_end (mark k) ++ []) ≡ true
mark_end marks.Comma = refl
mark_end marks.OpenParenthesis = refl
mark_end marks.OpenCall = refl
mark_end marks.CloseParenthesis = refl
mark_end marks.OpenBracket = refl
mark_end marks.CloseBracket = refl
mark_end marks.Star = refl
mark_end marks.Colon = refl
mark_end marks.Semicolon = refl
mark_end marks.ForSemicolon = refl
mark_end marks.OpenBrace = refl
mark_end marks.CloseBrace = refl
mark_end marks.OpenBlock = refl
mark_end marks.CloseBlock = refl
mark_end marks.CloseBody = refl
mark_end marks.CloseStruct = refl

pub follows-end : (p : Piece) → follows_first p (line_end p ++ []) ≡ true
follows-end (word text) = refl
follows-end (numeral value unsigned) = refl
follows-end (quoted text) = refl
follows-end (operator b) = refl
follows-end (prefix b) = refl
follows-end (assigned b) = refl
follows-end (access arrow) = refl
follows-end (mark k) = mark_end k
