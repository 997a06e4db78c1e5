-- The text of pieces that stand apart is read as those pieces, one token for each.
use Rattle.std.proofs.Common.{◌≡◌, ℕ, zero, suc, ◌-◌, Bool, true, false, ◌||◌, List, [], ◌∷◌, ◌++◌, Ok, if◌then◌else◌, refl, sym, ◌∙◌, ap}
use Rattle.std.proofs.Common.{append-nil}
use Rattle.std.proofs.lemmas.Bool.{and_parts}
use Rattle.std.specs.List.{list_all, filter_map}
use Rattle.tsa_base.specs.Bytes.{is_blank}
use Rattle.tsa_base.specs.Tokens.{blank, token, Piece as Front, Lexeme, lexeme_of, tokens_of, tokens_among}
use Rattle.tsa_base.specs.PieceLaws.{IsPiece, IsNextToken, Falls}
use Rattle.tsa_base.proofs.PieceSteps.{standing}
use Rattle.tsa_base.proofs.OneWay.{one_way}
use Rattle.tsa_print.specs.declared.sheet.Behind.{Behind}
use Rattle.tsa_print.specs.declared.sheet.Behind.TheVariants.{LineStart, Tight, Loose}
use Rattle.tsa_print.specs.Canonical.{Piece, word, numeral, quoted, operator, prefix, assigned, access, mark, piece_text, binds_left}
use Rattle.tsa_print.specs.Canonical.{binds_right, gap, written}
use Rattle.tsa_print.specs.Layout.{ends_line, closes_level, levels_behind, indentation, behind_of, lead, line_end, laid}
use Rattle.tsa_print.proofs.Apart.{piece_kind, AreTokens, is_good, follows_first, Apart}
use Rattle.tsa_print.proofs.Follows.{follows-gap, follows-lead, follows-end}
use Rattle.tsa_print.proofs.PieceTokens.{word-next, numeral-next, text-next}
use Rattle.tsa_print.proofs.PunctPieces.{punct-next}

-- what is written after a piece
abbrev behind : Piece → List Piece → List ℕ
behind p [] = []
behind p (q ∷ qs) = gap p q ++ written (q ∷ qs)

-- a piece is the next token of the text that begins with it, if what is after it may follow it
pub piece-next : (p : Piece) (rest : List ℕ) → is_good p ≡ true → follows_first p rest ≡ true → IsNextToken (piece_kind p) (piece_text p) rest
piece-next (word text) rest good may = word-next text rest good may
piece-next (numeral value unsigned) rest good may = numeral-next value unsigned rest good may
piece-next (quoted text) rest good may = text-next text rest good
piece-next (operator o) rest good may = punct-next (operator o) rest refl good may
piece-next (prefix o) rest good may = punct-next (prefix o) rest refl good may
piece-next (assigned o) rest good may = punct-next (assigned o) rest refl good may
piece-next (access arrow) rest good may = punct-next (access arrow) rest refl good may
piece-next (mark k) rest good may = punct-next (mark k) rest refl good may

-- what a text falls into after other bytes, with the pieces for its tokens
record FallsInto (before text : List ℕ) (ps : List Piece) : Type 0 where
  fronts : List Front
  falls : Falls before text fronts []
  tokens : AreTokens ps (filter_map lexeme_of fronts)

-- a token before what the rest falls into
token_before : (before : List ℕ) (p : Piece) (rest : List ℕ) (ps : List Piece) → IsNextToken (piece_kind p) (piece_text p) rest →
    FallsInto (before ++ piece_text p) rest ps → FallsInto before (piece_text p ++ rest) (p ∷ ps)
unfolding Falls IsPiece
token_before before p rest ps next later = record {
  fronts = standing before (token (piece_kind p)) (piece_text p) ∷ later.fronts;
  falls = (rest, record { whole = refl; span = refl; is = next }, later.falls);
  tokens = (refl, refl, later.tokens);
}

-- a blank and a line end are no tokens
white_before : (c : ℕ) (before rest : List ℕ) (ps : List Piece) → is_blank c ≡ true → FallsInto (before ++ c ∷ []) rest ps →
    FallsInto before (c ∷ rest) ps
unfolding Falls IsPiece
white_before c before rest ps white later = record {
  fronts = standing before blank (c ∷ []) ∷ later.fronts;
  falls = (rest, record { whole = refl; span = refl; is = record { byte = c; alone = refl; white = white } }, later.falls);
  tokens = later.tokens;
}

nothing_left : (before : List ℕ) → FallsInto before [] []
unfolding Falls
nothing_left before = record { fronts = []; falls = refl; tokens = tt }

-- what a rest falls into, whatever stands before it
abbrev AnywhereFalls : List ℕ → List Piece → Type 0
AnywhereFalls rest ps = (before : List ℕ) → FallsInto before rest ps

blanks_before : (cs rest : List ℕ) (ps : List Piece) → list_all is_blank cs ≡ true → AnywhereFalls rest ps → AnywhereFalls (cs ++ rest) ps
blanks_before [] rest ps white later before = later before
blanks_before (c ∷ cs) rest ps white later before =
    let parts = and_parts (is_blank c) (list_all is_blank cs) white in
    white_before c before (cs ++ rest) ps parts.0 (blanks_before cs rest ps parts.1 later (before ++ c ∷ []))

-- In a line.

blank_if : (b : Bool) → list_all is_blank (if b then [] else 32 ∷ []) ≡ true
blank_if true = refl
blank_if false = refl

follows_behind : (p : Piece) (ps : List Piece) → Apart (p ∷ ps) → follows_first p (behind p ps) ≡ true
unfolding written
follows_behind p [] apart = refl
follows_behind p (q ∷ []) (good, may, (next, none, last)) =
    ap (λ x. follows_first p (gap p q ++ x)) (sym (append-nil (piece_text q))) ∙ follows-gap p q [] next may
follows_behind p (q ∷ r ∷ rs) (good, may, (next, others, later)) = follows-gap p q (gap q r ++ written (r ∷ rs)) next may

pieces_fall : (ps : List Piece) → Apart ps → AnywhereFalls (written ps) ps
unfolding written
pieces_fall [] apart before = nothing_left before
pieces_fall (p ∷ []) (good, may, none) before =
    rw (← append-nil (piece_text p)) (token_before before p [] [] (piece-next p [] good refl) (nothing_left (before ++ piece_text p)))
pieces_fall (p ∷ q ∷ ps) (good, may, later) before =
    token_before before p (behind p (q ∷ ps)) (q ∷ ps) (piece-next p (behind p (q ∷ ps)) good (follows_behind p (q ∷ ps) (good, may, later)))
    (blanks_before (gap p q) (written (q ∷ ps)) (q ∷ ps) (blank_if (binds_right p || binds_left q)) (pieces_fall (q ∷ ps) later) (before ++ piece_text p))

pub written_tokens : (ps : List Piece) → Apart ps → (ts : List Lexeme) × (tokens_of (written ps) ≡ Ok ts) × AreTokens ps ts
written_tokens ps apart =
    let fallen = pieces_fall ps apart [] in
    (filter_map lexeme_of fallen.fronts, ap tokens_among (one_way (written ps) fallen.fronts fallen.falls), fallen.tokens)

-- In lines.

indentation_blank : (levels : ℕ) → list_all is_blank (indentation levels) ≡ true
unfolding indentation
indentation_blank zero = refl
indentation_blank (suc levels) = indentation_blank levels

lead_blank : (levels : ℕ) (behind : Behind) (p : Piece) → list_all is_blank (lead levels behind p) ≡ true
lead_blank levels LineStart p = indentation_blank (if closes_level p then levels - 1 else levels)
lead_blank levels Tight p = refl
lead_blank levels Loose p = blank_if (binds_left p)

end_blank : (b : Bool) → list_all is_blank (if b then 10 ∷ [] else []) ≡ true
end_blank true = refl
end_blank false = refl

follows_laid : (levels : ℕ) (p : Piece) (ps : List Piece) → Apart (p ∷ ps) → follows_first p (line_end p ++ laid levels (behind_of p) ps) ≡ true
unfolding laid
follows_laid levels p [] apart = follows-end p
follows_laid levels p (q ∷ qs) (good, may, (next, others, later)) =
    follows-lead p q levels (line_end q ++ laid (levels_behind levels q) (behind_of q) qs) next may

laid_falls : (levels : ℕ) (behind : Behind) (ps : List Piece) → Apart ps → AnywhereFalls (laid levels behind ps) ps
unfolding laid
laid_falls levels behind [] apart before = nothing_left before
laid_falls levels behind (p ∷ ps) (good, may, later) before =
    let deeper = levels_behind levels p in
    let rest = laid deeper (behind_of p) ps in
    blanks_before (lead levels behind p) (piece_text p ++ (line_end p ++ rest)) (p ∷ ps) (lead_blank levels behind p)
    (λ z. token_before z p (line_end p ++ rest) ps (piece-next p (line_end p ++ rest) good (follows_laid deeper p ps (good, may, later)))
    (blanks_before (line_end p) rest ps (end_blank (ends_line p)) (laid_falls deeper (behind_of p) ps later) (z ++ piece_text p))) before

pub laid_tokens : (levels : ℕ) (behind : Behind) (ps : List Piece) → Apart ps →
    (ts : List Lexeme) × (tokens_of (laid levels behind ps) ≡ Ok ts) × AreTokens ps ts
laid_tokens levels behind ps apart =
    let fallen = laid_falls levels behind ps apart [] in
    (filter_map lexeme_of fallen.fronts, ap tokens_among (one_way (laid levels behind ps) fallen.fronts fallen.falls), fallen.tokens)
