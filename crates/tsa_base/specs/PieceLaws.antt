-- What it is, in the standard's words, that a text falls into pieces, and that it has a first bad byte (C11 6.4).
use Rattle.std.specs.Prelude.{◌≡◌, ◌⊎◌, ℕ, ◌+◌, ◌-◌, ◌<◌, ◌≤◌, Bool, true, false, ◌||◌, ◌&&◌, List, [], ◌∷◌, ◌++◌, length, take, drop, Some}
use Rattle.std.specs.Prelude.{None, Ok, Err, ◌==◌}
use Rattle.std.specs.List.{list_all, filter_map}
use Rattle.tsa_base.specs.declared.token.Span.{Span}
use Rattle.tsa_base.specs.declared.token.TokenKind.{TokenKind}
use Rattle.tsa_base.specs.declared.token.LexCode.{LexCode}
use Rattle.tsa_base.specs.declared.token.LexCode.TheVariants.{LX1, LX2, LX3, LX4, LX5}
use Rattle.tsa_base.specs.Bytes.{is_blank, is_line_byte}
use Rattle.tsa_base.specs.Tokens.{PieceKind, blank, comment, skipped_line, token, Piece, BadByte, Lexeme, lexeme_of, tokens_of, pieces_of}
use Rattle.tsa_base.specs.Tokens.{is_token, kind_of, opens_line, line_len, line_word, is_skipped}

-- What a piece of each kind is, given the bytes before it and those after it.

-- one byte that is a blank
pub record IsBlank (text : List ℕ) : Type 0 where
  pub byte : ℕ
  pub alone : text ≡ byte ∷ []
  pub white : is_blank byte ≡ true

-- `/*` to the first `*/` after it (C11 6.4.9p1)
pub record IsBlock (text : List ℕ) : Type 0 where
  pub inner : List ℕ
  pub whole : text ≡ 47 ∷ 42 ∷ inner ++ 42 ∷ 47 ∷ []
  pub first : (u v : List ℕ) → inner ++ 42 ∷ 47 ∷ [] ≡ u ++ 42 ∷ 47 ∷ v → v ≡ []

-- no line end is in the text, and one is after it, or nothing
pub record ReachesLineEnd (text behind : List ℕ) : Type 0 where
  pub within : list_all is_line_byte text ≡ true
  pub ends : line_len behind ≡ 0

-- `//` up to the line end, which is left out (C11 6.4.9p2)
pub record IsLineComment (text behind : List ℕ) : Type 0 where
  pub inner : List ℕ
  pub whole : text ≡ 47 ∷ 47 ∷ inner
  pub to_end : ReachesLineEnd text behind

-- a line from its `#` on up to the line end; only spaces and tabs stand before that, and `skipped` tells of its word (C11 6.10)
pub record IsDirective (skipped : Bool) (before text behind : List ℕ) : Type 0 where
  pub line : List ℕ
  pub whole : text ≡ 35 ∷ line
  pub opens : opens_line before ≡ true
  pub to_end : ReachesLineEnd text behind
  pub word : is_skipped (line_word line) ≡ skipped

-- `/*` and `//` begin a comment and no token
abbrev pub begins_comment : List ℕ → Bool
begins_comment [] = false
begins_comment (c ∷ []) = false
begins_comment (c ∷ d ∷ cs) = (c == 47) && ((d == 42) || (d == 47))

-- a token, and no longer front of the text and what is after it is one (C11 6.4p4)
pub record IsLongest (text behind : List ℕ) : Type 0 where
  pub is : is_token text ≡ true
  pub longest : (front others : List ℕ) → text ++ behind ≡ front ++ others → is_token front ≡ true → length front ≤ length text
  pub no_comment : begins_comment (text ++ behind) ≡ false

pub record IsNextToken (kind : TokenKind) (text behind : List ℕ) : Type 0 where
  pub next : IsLongest text behind
  pub of_kind : kind_of text ≡ Some kind

unfoldable pub IsPiece : (before : List ℕ) → PieceKind → (text behind : List ℕ) → Type 0
IsPiece before blank text behind = IsBlank text
IsPiece before comment text behind = IsBlock text ⊎ IsLineComment text behind
IsPiece before skipped_line text behind = IsDirective true before text behind
IsPiece before (token kind) text behind = IsNextToken kind text behind

-- What a text falls into.

-- a piece stands after these bytes, and its own and those after it are the rest
pub record Stands (before rest : List ℕ) (p : Piece) (behind : List ℕ) : Type 0 where
  pub whole : rest ≡ p.text ++ behind
  pub span : ◌≡◌ {A = Span} p.span (record { from = length before; to = length before + length p.text })
  pub is : IsPiece before p.kind p.text behind

-- the rest after these bytes is the pieces, one after another, and then what is left
unfoldable pub Falls : (before rest : List ℕ) → List Piece → (left : List ℕ) → Type 0
Falls before rest [] left = rest ≡ left
Falls before rest (p ∷ ps) left = (behind : List ℕ) × Stands before rest p behind × Falls (before ++ p.text) behind ps left

-- Why no piece begins a rest.

-- no front of it is a token, and no comment begins it
pub record BeginsNoToken (rest : List ℕ) : Type 0 where
  pub none : (front others : List ℕ) → rest ≡ front ++ others → is_token front ≡ false
  pub no_comment : begins_comment rest ≡ false

abbrev pub begins_with : (ℕ → Bool) → List ℕ → Bool
begins_with p [] = false
begins_with p (c ∷ cs) = p c

-- nor does a blank, a quote or the `#` of a preprocessing line begin it
pub record BeginsNothing (before rest : List ℕ) : Type 0 where
  pub no_token : BeginsNoToken rest
  pub no_blank : begins_with is_blank rest ≡ false
  pub no_quote : begins_with (λ c. c == 34) rest ≡ false
  pub no_line : (begins_with (λ c. c == 35) rest && opens_line before) ≡ false

-- a quote begins it, and no text
pub record BeginsOpenText (rest : List ℕ) : Type 0 where
  pub no_token : BeginsNoToken rest
  pub quote : begins_with (λ c. c == 34) rest ≡ true

-- a `/*` without a `*/` after it
pub record IsOpenComment (rest : List ℕ) : Type 0 where
  pub inner : List ℕ
  pub whole : rest ≡ 47 ∷ 42 ∷ inner
  pub endless : (u v : List ℕ) → inner ≡ u ++ 42 ∷ 47 ∷ v → ⊥

-- the longest front that is a token is the run of no number
pub record BeginsNoNumber (rest : List ℕ) : Type 0 where
  pub run : List ℕ
  pub behind : List ℕ
  pub whole : rest ≡ run ++ behind
  pub next : IsLongest run behind
  pub no_kind : kind_of run ≡ None

-- a preprocessing line that isn't skipped
pub record BeginsOtherLine (before rest : List ℕ) : Type 0 where
  pub line : List ℕ
  pub behind : List ℕ
  pub whole : rest ≡ line ++ behind
  pub is : IsDirective false before line behind

unfoldable pub IsBad : (before : List ℕ) → LexCode → (rest : List ℕ) → Type 0
IsBad before LX1 rest = BeginsNothing before rest
IsBad before LX2 rest = IsOpenComment rest
IsBad before LX3 rest = BeginsNoNumber rest
IsBad before LX4 rest = BeginsOtherLine before rest
IsBad before LX5 rest = BeginsOpenText rest

-- a text falls into pieces up to its first bad byte, where no piece begins, and the code says why
pub record FallsUpTo (text : List ℕ) (bad : BadByte) : Type 0 where
  pub pieces : List Piece
  pub left : List ℕ
  pub falls : Falls [] text pieces left
  pub byte : bad.byte + length left ≡ length text
  pub some : 0 < length left
  pub code : IsBad (take bad.byte text) bad.code left
  pub none : (kind : PieceKind) (piece behind : List ℕ) → left ≡ piece ++ behind → IsPiece (take bad.byte text) kind piece behind → ⊥

-- the tokens stand in the text, each with its bytes, and one after the other
unfoldable pub InOrder : (text : List ℕ) (from : ℕ) → List Lexeme → Type 0
InOrder text from [] = from ≤ length text
InOrder text from (t ∷ ts) = (from ≤ t.span.from) × (t.span.from < t.span.to) × (t.text ≡ take (t.span.to - t.span.from) (drop t.span.from text)) × InOrder text t.span.to ts

-- A text is its pieces one after another, or it is up to its first bad byte, and in one way only; its tokens are the
-- pieces that aren't blanks, comments or skipped lines.
pub record TextsFallIntoPieces : Type 0 where
  pub whole : (text : List ℕ) (pieces : List Piece) → pieces_of text ≡ Ok pieces → Falls [] text pieces []
  pub one_way : (text : List ℕ) (pieces : List Piece) → Falls [] text pieces [] → pieces_of text ≡ Ok pieces
  pub bad : (text : List ℕ) (bad : BadByte) → pieces_of text ≡ Err bad → FallsUpTo text bad
  pub one_bad : (text : List ℕ) (bad : BadByte) → FallsUpTo text bad → pieces_of text ≡ Err bad
  pub tokens : (text : List ℕ) (tokens : List Lexeme) → tokens_of text ≡ Ok tokens → (pieces : List Piece) × Falls [] text pieces [] × (tokens ≡ filter_map lexeme_of pieces)
  pub order : (text : List ℕ) (tokens : List Lexeme) → tokens_of text ≡ Ok tokens → InOrder text 0 tokens
