-- The tokens of a text of a size that is taken begin inside it, and they are no more than its bytes.
use Rattle.std.proofs.Common.{◌≡◌, ℕ, zero, suc, ◌+◌, ◌-◌, ◌≤◌, List, [], ◌∷◌, length, take, Ok, Err, Result, refl, subst, arith}
use Rattle.tsa_base.specs.declared.limits.TheConstants.{INPUT_LIMIT}
use Rattle.tsa_base.specs.declared.token.LexCode.{LexCode}
use Rattle.tsa_base.specs.Tokens.{PieceKind, blank, comment, skipped_line, token, Piece, BadByte, Lexeme, pieces_at, tokens_of}
use Rattle.tsa_base.specs.Tokens.{tokens_among, front_of, opens_line, begun}
use Rattle.tsa_tree.specs.tokens.Signs.{span_at}
use Rattle.tsa_tree.specs.tokens.Texts.{AreOfText}

-- each token begins no later than at a place
abbrev BeginBy : ℕ → List Lexeme → Type 0
BeginBy limit ts = (at : ℕ) → (span_at ts at).from ≤ limit

abbrev BeginByIn : ℕ → Result (List Lexeme) BadByte → Type 0
BeginByIn limit (Ok ts) = BeginBy limit ts
BeginByIn limit (Err bad) = Unit {0}

none_begin : (limit : ℕ) → BeginBy limit []
unfolding span_at
none_begin limit at = omega arith

more_begin : (limit : ℕ) (t : Lexeme) (ts : List Lexeme) → t.span.from ≤ limit → BeginBy limit ts → BeginBy limit (t ∷ ts)
unfolding span_at
more_begin limit t ts here more zero = here
more_begin limit t ts here more (suc at) = more at

piece_begins : (limit at : ℕ) (whole : List ℕ) (kind : PieceKind) (n : ℕ) (rest : Result (List Piece) BadByte) (behind : ℕ → Result (List Piece) BadByte) → at ≤ limit → behind n ≡ rest → BeginByIn limit (tokens_among rest) → BeginByIn limit (tokens_among (begun at whole (Ok (kind, n)) behind))
piece_begins limit at whole kind n (Err bad) behind here is more = rw is tt
piece_begins limit at whole blank n (Ok pieces) behind here is more = rw is more
piece_begins limit at whole comment n (Ok pieces) behind here is more = rw is more
piece_begins limit at whole skipped_line n (Ok pieces) behind here is more = rw is more
piece_begins limit at whole (token kind) n (Ok pieces) behind here is more = rw is (more_begin limit _ _ here more)

begun_begins : (limit at : ℕ) (whole : List ℕ) (r : Result (PieceKind × ℕ) LexCode) (behind : ℕ → Result (List Piece) BadByte) → at ≤ limit → ((n : ℕ) → BeginByIn limit (tokens_among (behind n))) → BeginByIn limit (tokens_among (begun at whole r behind))
begun_begins limit at whole (Err code) behind here more = tt
begun_begins limit at whole (Ok r) behind here more = piece_begins limit at whole r.0 r.1 (behind r.1) behind here refl (more r.1)

pieces_begin : (limit : ℕ) (text : List ℕ) (at covered : ℕ) (rest : List ℕ) → at + length rest ≤ limit → BeginByIn limit (tokens_among (pieces_at text at covered rest))
unfolding pieces_at
pieces_begin limit text at zero [] within = none_begin limit
pieces_begin limit text at (suc covered) [] within = none_begin limit
pieces_begin limit text at (suc covered) (c ∷ cs) within = pieces_begin limit text (at + 1) covered cs (omega arith)
pieces_begin limit text at zero (c ∷ cs) within = begun_begins limit at (c ∷ cs) (front_of (opens_line (take at text)) (c ∷ cs)) _ (omega arith) (λ n. pieces_begin limit text (at + 1) (n - 1) cs (omega arith))

-- no more than so many of them
abbrev FewIn : ℕ → Result (List Lexeme) BadByte → Type 0
FewIn limit (Ok ts) = length ts ≤ limit
FewIn limit (Err bad) = Unit {0}

few_more : (n m : ℕ) (r : Result (List Lexeme) BadByte) → n ≤ m → FewIn n r → FewIn m r
few_more n m (Ok ts) le few = omega (arith, few)
few_more n m (Err bad) le few = tt

piece_few : (n m at : ℕ) (whole : List ℕ) (kind : PieceKind) (len : ℕ) (rest : Result (List Piece) BadByte) (behind : ℕ → Result (List Piece) BadByte) → n + 1 ≤ m → behind len ≡ rest → FewIn n (tokens_among rest) → FewIn m (tokens_among (begun at whole (Ok (kind, len)) behind))
piece_few n m at whole kind len (Err bad) behind le is few = rw is tt
piece_few n m at whole blank len (Ok pieces) behind le is few = rw is (omega (arith, few))
piece_few n m at whole comment len (Ok pieces) behind le is few = rw is (omega (arith, few))
piece_few n m at whole skipped_line len (Ok pieces) behind le is few = rw is (omega (arith, few))
piece_few n m at whole (token kind) len (Ok pieces) behind le is few = rw is (omega (arith, few))

begun_few : (n m at : ℕ) (whole : List ℕ) (r : Result (PieceKind × ℕ) LexCode) (behind : ℕ → Result (List Piece) BadByte) → n + 1 ≤ m → ((len : ℕ) → FewIn n (tokens_among (behind len))) → FewIn m (tokens_among (begun at whole r behind))
begun_few n m at whole (Err code) behind le few = tt
begun_few n m at whole (Ok r) behind le few = piece_few n m at whole r.0 r.1 (behind r.1) behind le refl (few r.1)

pieces_few : (text : List ℕ) (at covered : ℕ) (rest : List ℕ) → FewIn (length rest) (tokens_among (pieces_at text at covered rest))
unfolding pieces_at
pieces_few text at zero [] = omega arith
pieces_few text at (suc covered) [] = omega arith
pieces_few text at (suc covered) (c ∷ cs) = few_more (length cs) (length (c ∷ cs)) _ (omega arith) (pieces_few text (at + 1) covered cs)
pieces_few text at zero (c ∷ cs) = begun_few (length cs) (length (c ∷ cs)) at (c ∷ cs) (front_of (opens_line (take at text)) (c ∷ cs)) _ (omega arith) (λ n. pieces_few text (at + 1) (n - 1) cs)

pub of_text : (text : List ℕ) (ts : List Lexeme) → length text ≤ INPUT_LIMIT → tokens_of text ≡ Ok ts → AreOfText ts
of_text text ts small lexed = record { text = text; small = small; lexed = lexed }

-- each token of a text of a size that is taken begins inside it
pub text_near : (ts : List Lexeme) → AreOfText ts → (at : ℕ) → (span_at ts at).from ≤ INPUT_LIMIT
text_near ts of = subst (BeginByIn INPUT_LIMIT) of.lexed (pieces_begin INPUT_LIMIT of.text 0 zero of.text (omega (arith, of.small)))

-- and they are no more than its bytes
pub text_few : (ts : List Lexeme) → AreOfText ts → length ts ≤ INPUT_LIMIT
text_few ts of =
    let few : length ts ≤ length of.text = subst (FewIn (length of.text)) of.lexed (pieces_few of.text 0 zero of.text) in
    omega (arith, few, of.small)
