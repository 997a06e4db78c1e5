-- Pieces that stay tokens of their own where they are written one after the other.
use Rattle.std.proofs.Common.{ℕ, ◌≡◌, ◌==◌, List, [], ◌∷◌, Bool, true, false, ◌&&◌, ◌||◌, not}
use Rattle.std.specs.List.{list_all}
use Rattle.tsa_base.specs.declared.token.TokenKind.{TokenKind}
use Rattle.tsa_base.specs.declared.token.TokenKind.TheVariants.{Word, Number, Text, Punct}
use Rattle.tsa_base.specs.Bytes.{is_letter, is_word_byte, is_run_byte, is_text_byte}
use Rattle.tsa_base.specs.Tokens.{Lexeme}
use Rattle.tsa_tree.specs.expressions.Sound.{is_value}
use Rattle.tsa_tree.specs.statements.Sound.{is_assigning}
use Rattle.tsa_print.specs.declared.mark.Mark.TheVariants as marks
use Rattle.tsa_print.specs.Canonical.{Piece, word, numeral, quoted, assigned, operator, prefix, access, mark, piece_text, binds_left}

abbrev pub piece_kind : Piece → TokenKind
piece_kind (word text) = Word
piece_kind (numeral value unsigned) = Number value unsigned
piece_kind (quoted text) = Text
piece_kind _ = Punct

-- the tokens are these pieces, one by one
abbrev pub AreTokens : List Piece → List Lexeme → Type 0
AreTokens [] [] = Unit {0}
AreTokens (p ∷ ps) (t ∷ ts) = (t.kind ≡ piece_kind p) × (t.text ≡ piece_text p) × AreTokens ps ts
AreTokens _ _ = ⊥

abbrev pub is_word : List ℕ → Bool
is_word [] = false
is_word (c ∷ cs) = is_letter c && list_all is_word_byte cs

abbrev pub is_good : Piece → Bool
is_good (word text) = is_word text
is_good (numeral value unsigned) = is_value value unsigned
is_good (quoted text) = list_all is_text_byte text
is_good (assigned o) = is_assigning o
is_good _ = true

-- the byte may stand after the piece: with it, the piece is no front of a longer token
abbrev pub follows : Piece → ℕ → Bool
follows (word text) c = not (is_word_byte c)
follows (numeral value unsigned) c = not (is_run_byte c)
follows (operator o) c = c == 32
follows (assigned o) c = c == 32
follows (prefix o) c = is_word_byte c || (c == 40)
follows (access arrow) c = is_letter c
follows (mark marks.Star) c = not (c == 61)
follows _ c = true

abbrev pub follows_first : Piece → List ℕ → Bool
follows_first p [] = true
follows_first p (c ∷ cs) = follows p c

-- Which pieces go after which.

abbrev pub is_dot : Piece → Bool
is_dot (access arrow) = not arrow
is_dot _ = false

abbrev pub is_name_piece : Piece → Bool
is_name_piece (word text) = true
is_name_piece _ = false

-- what stands after a prefix operator can begin with these
abbrev pub is_tight : Piece → Bool
is_tight (word text) = true
is_tight (numeral value unsigned) = true
is_tight (mark marks.OpenParenthesis) = true
is_tight _ = false

-- the text of these can begin with `=`
abbrev pub is_equality : Piece → Bool
is_equality (operator o) = true
is_equality (assigned o) = true
is_equality _ = false

-- the second piece may stand after the first one
abbrev pub safe : Piece → Piece → Bool
safe (numeral value unsigned) q = not (is_dot q)
safe (operator o) q = not (binds_left q)
safe (assigned o) q = not (binds_left q)
safe (prefix o) q = is_tight q
safe (access arrow) q = is_name_piece q
safe (mark marks.Star) q = not (is_equality q)
safe _ q = true

abbrev pub safe_before : Piece → List Piece → Bool
safe_before p [] = true
safe_before p (q ∷ qs) = safe p q

abbrev pub Apart : List Piece → Type 0
Apart [] = Unit {0}
Apart (p ∷ ps) = (is_good p ≡ true) × (safe_before p ps ≡ true) × Apart ps
