-- Each punctuator is the next token where it stands, if what follows it may follow it.
use Rattle.std.proofs.Common.{◌≡◌, ℕ, Bool, true, false, ◌==◌, ◌||◌, List, [], ◌∷◌, ◌++◌, Some, None, refl, arith}
use Rattle.std.proofs.lemmas.Bool.{not-true}
use Rattle.std.proofs.lemmas.Bool.Decides.{nat_tests}
use Rattle.tsa_base.specs.declared.token.TokenKind.TheVariants.{Punct}
use Rattle.tsa_base.specs.Bytes.{is_letter, is_word_byte}
use Rattle.tsa_base.specs.Tokens.{is_token, is_punctuator, punctuators, kind_of}
use Rattle.tsa_base.specs.PieceLaws.{IsNextToken, begins_comment}
use Rattle.tsa_tree.specs.declared.expr.UnaryOp.{UnaryOp}
use Rattle.tsa_tree.specs.declared.expr.UnaryOp.TheVariants as prefix_op
use Rattle.tsa_tree.specs.declared.expr.BinaryOp.{BinaryOp}
use Rattle.tsa_tree.specs.declared.expr.BinaryOp.TheVariants as op
use Rattle.tsa_tree.specs.statements.Sound.{is_assigning}
use Rattle.std.specs.declared.option.Option.{Option}
use Rattle.tsa_print.specs.declared.mark.Mark.{Mark}
use Rattle.tsa_print.specs.declared.mark.Mark.TheVariants as marks
use Rattle.tsa_print.specs.Canonical.{Piece, word, numeral, quoted, operator, prefix, assigned, access, mark, operator_text, prefix_text}
use Rattle.tsa_print.specs.Canonical.{assign_text, mark_text, piece_text}
use Rattle.tsa_print.proofs.Apart.{piece_kind, is_good, follows, follows_first}
use Rattle.tsa_print.proofs.Longer.{closed-longest, no-slash, not-of-kind}
use Rattle.tsa_print.proofs.PieceTokens.{first-follows}

-- a byte that no operator goes on with after a prefix operator
abbrev follows_prefix : ℕ → Bool
follows_prefix c = is_word_byte c || (c == 40)

-- The texts with a byte more.

operator_blank : (o : BinaryOp) (more : List ℕ) → is_token (operator_text o ++ 32 ∷ more) ≡ false
unfolding is_token is_punctuator punctuators
operator_blank op.Or more = refl
operator_blank op.And more = refl
operator_blank op.BitOr more = refl
operator_blank op.BitXor more = refl
operator_blank op.BitAnd more = refl
operator_blank op.Equal more = refl
operator_blank op.Unequal more = refl
operator_blank op.Less more = refl
operator_blank op.More more = refl
operator_blank op.LessEqual more = refl
operator_blank op.MoreEqual more = refl
operator_blank op.Plus more = refl
operator_blank op.Minus more = refl
operator_blank op.Times more = refl
operator_blank op.Divide more = refl
operator_blank op.Remainder more = refl

prefix_more : (o : UnaryOp) (d : ℕ) (more : List ℕ) → (d == 38) ≡ false → (d == 45) ≡ false → (d == 61) ≡ false → (d == 62) ≡ false →
    is_token (prefix_text o ++ d ∷ more) ≡ false
unfolding is_token is_punctuator punctuators
prefix_more prefix_op.Minus d more ampersand minus equal above = simp (minus, equal, above)
prefix_more prefix_op.Not d more ampersand minus equal above = simp equal
prefix_more prefix_op.Flip d more ampersand minus equal above = refl
prefix_more prefix_op.Address d more ampersand minus equal above = simp (ampersand, equal)
prefix_more prefix_op.Follow d more ampersand minus equal above = simp equal

access_more : (arrow : Bool) (d : ℕ) (more : List ℕ) → (d == 46) ≡ false → is_token (piece_text (access arrow) ++ d ∷ more) ≡ false
unfolding is_token is_punctuator punctuators
access_more true d more dot = refl
access_more false d more dot = simp dot

assigned_blank : (o : Option BinaryOp) (more : List ℕ) → is_assigning o ≡ true → is_token (assign_text o ++ 32 ∷ more) ≡ false
unfolding is_token is_punctuator punctuators
assigned_blank None more good = refl
assigned_blank (Some op.Or) more good = absurd (cc)
assigned_blank (Some op.And) more good = absurd (cc)
assigned_blank (Some op.BitOr) more good = refl
assigned_blank (Some op.BitXor) more good = refl
assigned_blank (Some op.BitAnd) more good = refl
assigned_blank (Some op.Equal) more good = absurd (cc)
assigned_blank (Some op.Unequal) more good = absurd (cc)
assigned_blank (Some op.Less) more good = absurd (cc)
assigned_blank (Some op.More) more good = absurd (cc)
assigned_blank (Some op.LessEqual) more good = absurd (cc)
assigned_blank (Some op.MoreEqual) more good = absurd (cc)
assigned_blank (Some op.Plus) more good = refl
assigned_blank (Some op.Minus) more good = refl
assigned_blank (Some op.Times) more good = refl
assigned_blank (Some op.Divide) more good = refl
assigned_blank (Some op.Remainder) more good = refl

mark_more : (k : Mark) (d : ℕ) (more : List ℕ) → follows (mark k) d ≡ true → is_token (mark_text k ++ d ∷ more) ≡ false
unfolding is_token is_punctuator punctuators
mark_more marks.Comma d more may = refl
mark_more marks.OpenParenthesis d more may = refl
mark_more marks.OpenCall d more may = refl
mark_more marks.CloseParenthesis d more may = refl
mark_more marks.OpenBracket d more may = refl
mark_more marks.CloseBracket d more may = refl
mark_more marks.Star d more may = let other : (d == 61) ≡ false = not-true (d == 61) may in simp other
mark_more marks.Colon d more may = refl
mark_more marks.Semicolon d more may = refl
mark_more marks.ForSemicolon d more may = refl
mark_more marks.OpenBrace d more may = refl
mark_more marks.CloseBrace d more may = refl
mark_more marks.OpenBlock d more may = refl
mark_more marks.CloseBlock d more may = refl
mark_more marks.CloseBody d more may = refl
mark_more marks.CloseStruct d more may = refl

-- a byte that may follow a punctuator makes no longer token of it
goes_no_further : (p : Piece) (d : ℕ) (more : List ℕ) → piece_kind p ≡ Punct → is_good p ≡ true → follows p d ≡ true →
    is_token (piece_text p ++ d ∷ more) ≡ false
goes_no_further (word text) d more punct good may = absurd (cc)
goes_no_further (numeral value unsigned) d more punct good may = absurd (cc)
goes_no_further (quoted text) d more punct good may = absurd (cc)
goes_no_further (operator o) d more punct good may = let blank : d ≡ 32 = grind (arith, nat_tests) in rw blank (operator_blank o more)
goes_no_further (assigned o) d more punct good may = let blank : d ≡ 32 = grind (arith, nat_tests) in rw blank (assigned_blank o more good)
goes_no_further (prefix o) d more punct good may =
    prefix_more o d more (not-of-kind follows_prefix d 38 may refl) (not-of-kind follows_prefix d 45 may refl)
    (not-of-kind follows_prefix d 61 may refl) (not-of-kind follows_prefix d 62 may refl)
goes_no_further (access arrow) d more punct good may = access_more arrow d more (not-of-kind is_letter d 46 may refl)
goes_no_further (mark k) d more punct good may = mark_more k d more may

-- The texts alone.

abbrev IsPunct : List ℕ → Type 0
IsPunct text = (is_token text ≡ true) × (kind_of text ≡ Some Punct)

operator_punct : (o : BinaryOp) → IsPunct (operator_text o)
unfolding is_token is_punctuator punctuators kind_of
operator_punct op.Or = (refl, refl)
operator_punct op.And = (refl, refl)
operator_punct op.BitOr = (refl, refl)
operator_punct op.BitXor = (refl, refl)
operator_punct op.BitAnd = (refl, refl)
operator_punct op.Equal = (refl, refl)
operator_punct op.Unequal = (refl, refl)
operator_punct op.Less = (refl, refl)
operator_punct op.More = (refl, refl)
operator_punct op.LessEqual = (refl, refl)
operator_punct op.MoreEqual = (refl, refl)
operator_punct op.Plus = (refl, refl)
operator_punct op.Minus = (refl, refl)
operator_punct op.Times = (refl, refl)
operator_punct op.Divide = (refl, refl)
operator_punct op.Remainder = (refl, refl)

prefix_punct : (o : UnaryOp) → IsPunct (prefix_text o)
unfolding is_token is_punctuator punctuators kind_of
prefix_punct prefix_op.Minus = (refl, refl)
prefix_punct prefix_op.Not = (refl, refl)
prefix_punct prefix_op.Flip = (refl, refl)
prefix_punct prefix_op.Address = (refl, refl)
prefix_punct prefix_op.Follow = (refl, refl)

assigned_punct : (o : Option BinaryOp) → is_assigning o ≡ true → IsPunct (assign_text o)
unfolding is_token is_punctuator punctuators kind_of
assigned_punct None good = (refl, refl)
assigned_punct (Some op.Or) good = absurd (cc)
assigned_punct (Some op.And) good = absurd (cc)
assigned_punct (Some op.BitOr) good = (refl, refl)
assigned_punct (Some op.BitXor) good = (refl, refl)
assigned_punct (Some op.BitAnd) good = (refl, refl)
assigned_punct (Some op.Equal) good = absurd (cc)
assigned_punct (Some op.Unequal) good = absurd (cc)
assigned_punct (Some op.Less) good = absurd (cc)
assigned_punct (Some op.More) good = absurd (cc)
assigned_punct (Some op.LessEqual) good = absurd (cc)
assigned_punct (Some op.MoreEqual) good = absurd (cc)
assigned_punct (Some op.Plus) good = (refl, refl)
assigned_punct (Some op.Minus) good = (refl, refl)
assigned_punct (Some op.Times) good = (refl, refl)
assigned_punct (Some op.Divide) good = (refl, refl)
assigned_punct (Some op.Remainder) good = (refl, refl)

mark_punct : (k : Mark) → IsPunct (mark_text k)
unfolding is_token is_punctuator punctuators kind_of
mark_punct marks.Comma = (refl, refl)
mark_punct marks.OpenParenthesis = (refl, refl)
mark_punct marks.OpenCall = (refl, refl)
mark_punct marks.CloseParenthesis = (refl, refl)
mark_punct marks.OpenBracket = (refl, refl)
mark_punct marks.CloseBracket = (refl, refl)
mark_punct marks.Star = (refl, refl)
mark_punct marks.Colon = (refl, refl)
mark_punct marks.Semicolon = (refl, refl)
mark_punct marks.ForSemicolon = (refl, refl)
mark_punct marks.OpenBrace = (refl, refl)
mark_punct marks.CloseBrace = (refl, refl)
mark_punct marks.OpenBlock = (refl, refl)
mark_punct marks.CloseBlock = (refl, refl)
mark_punct marks.CloseBody = (refl, refl)
mark_punct marks.CloseStruct = (refl, refl)

other_punct : (p : Piece) → piece_kind p ≡ Punct → is_good p ≡ true → IsPunct (piece_text p)
unfolding is_token is_punctuator punctuators kind_of
other_punct (word text) punct good = absurd (cc)
other_punct (numeral value unsigned) punct good = absurd (cc)
other_punct (quoted text) punct good = absurd (cc)
other_punct (operator o) punct good = operator_punct o
other_punct (prefix o) punct good = prefix_punct o
other_punct (assigned o) punct good = assigned_punct o good
other_punct (access true) punct good = (refl, refl)
other_punct (access false) punct good = (refl, refl)
other_punct (mark k) punct good = mark_punct k

-- No comment.

slash_blank : (behind : List ℕ) → follows_first (operator op.Divide) behind ≡ true → begins_comment (47 ∷ behind) ≡ false
slash_blank [] may = refl
slash_blank (d ∷ ds) may = let blank : d ≡ 32 = grind (arith, nat_tests) in rw blank refl

operator_apart : (o : BinaryOp) (behind : List ℕ) → follows_first (operator o) behind ≡ true → begins_comment (operator_text o ++ behind) ≡ false
operator_apart op.Or behind may = refl
operator_apart op.And behind may = refl
operator_apart op.BitOr behind may = no-slash 124 behind refl
operator_apart op.BitXor behind may = no-slash 94 behind refl
operator_apart op.BitAnd behind may = no-slash 38 behind refl
operator_apart op.Equal behind may = refl
operator_apart op.Unequal behind may = refl
operator_apart op.Less behind may = no-slash 60 behind refl
operator_apart op.More behind may = no-slash 62 behind refl
operator_apart op.LessEqual behind may = refl
operator_apart op.MoreEqual behind may = refl
operator_apart op.Plus behind may = no-slash 43 behind refl
operator_apart op.Minus behind may = no-slash 45 behind refl
operator_apart op.Times behind may = no-slash 42 behind refl
operator_apart op.Divide behind may = slash_blank behind may
operator_apart op.Remainder behind may = no-slash 37 behind refl

prefix_apart : (o : UnaryOp) (behind : List ℕ) → begins_comment (prefix_text o ++ behind) ≡ false
prefix_apart prefix_op.Minus behind = no-slash 45 behind refl
prefix_apart prefix_op.Not behind = no-slash 33 behind refl
prefix_apart prefix_op.Flip behind = no-slash 126 behind refl
prefix_apart prefix_op.Address behind = no-slash 38 behind refl
prefix_apart prefix_op.Follow behind = no-slash 42 behind refl

assigned_apart : (o : Option BinaryOp) (behind : List ℕ) → is_assigning o ≡ true → begins_comment (assign_text o ++ behind) ≡ false
assigned_apart None behind good = no-slash 61 behind refl
assigned_apart (Some op.Or) behind good = absurd (cc)
assigned_apart (Some op.And) behind good = absurd (cc)
assigned_apart (Some op.BitOr) behind good = refl
assigned_apart (Some op.BitXor) behind good = refl
assigned_apart (Some op.BitAnd) behind good = refl
assigned_apart (Some op.Equal) behind good = absurd (cc)
assigned_apart (Some op.Unequal) behind good = absurd (cc)
assigned_apart (Some op.Less) behind good = absurd (cc)
assigned_apart (Some op.More) behind good = absurd (cc)
assigned_apart (Some op.LessEqual) behind good = absurd (cc)
assigned_apart (Some op.MoreEqual) behind good = absurd (cc)
assigned_apart (Some op.Plus) behind good = refl
assigned_apart (Some op.Minus) behind good = refl
assigned_apart (Some op.Times) behind good = refl
assigned_apart (Some op.Divide) behind good = refl
assigned_apart (Some op.Remainder) behind good = refl

mark_apart : (k : Mark) (behind : List ℕ) → begins_comment (mark_text k ++ behind) ≡ false
mark_apart marks.Comma behind = no-slash 44 behind refl
mark_apart marks.OpenParenthesis behind = no-slash 40 behind refl
mark_apart marks.OpenCall behind = no-slash 40 behind refl
mark_apart marks.CloseParenthesis behind = no-slash 41 behind refl
mark_apart marks.OpenBracket behind = no-slash 91 behind refl
mark_apart marks.CloseBracket behind = no-slash 93 behind refl
mark_apart marks.Star behind = no-slash 42 behind refl
mark_apart marks.Colon behind = no-slash 58 behind refl
mark_apart marks.Semicolon behind = no-slash 59 behind refl
mark_apart marks.ForSemicolon behind = no-slash 59 behind refl
mark_apart marks.OpenBrace behind = no-slash 123 behind refl
mark_apart marks.CloseBrace behind = no-slash 125 behind refl
mark_apart marks.OpenBlock behind = no-slash 123 behind refl
mark_apart marks.CloseBlock behind = no-slash 125 behind refl
mark_apart marks.CloseBody behind = no-slash 125 behind refl
mark_apart marks.CloseStruct behind = no-slash 125 behind refl

punct_apart : (p : Piece) (behind : List ℕ) → piece_kind p ≡ Punct → is_good p ≡ true → follows_first p behind ≡ true →
    begins_comment (piece_text p ++ behind) ≡ false
punct_apart (word text) behind punct good may = absurd (cc)
punct_apart (numeral value unsigned) behind punct good may = absurd (cc)
punct_apart (quoted text) behind punct good may = absurd (cc)
punct_apart (operator o) behind punct good may = operator_apart o behind may
punct_apart (prefix o) behind punct good may = prefix_apart o behind
punct_apart (assigned o) behind punct good may = assigned_apart o behind good
punct_apart (access true) behind punct good may = refl
punct_apart (access false) behind punct good may = no-slash 46 behind refl
punct_apart (mark k) behind punct good may = mark_apart k behind

pub punct-next : (p : Piece) (behind : List ℕ) → piece_kind p ≡ Punct → is_good p ≡ true → follows_first p behind ≡ true →
    IsNextToken Punct (piece_text p) behind
punct-next p behind punct good may =
    let alone = other_punct p punct good in
    record {
      next = closed-longest (piece_text p) behind alone.0
          (λ byte more rest same. goes_no_further p byte more punct good (first-follows p behind byte rest may same)) (punct_apart p behind punct good may);
      of_kind = alone.1;
    }
