-- The front that is computed is a piece, or the rest is bad for the reason that its code gives.
use Rattle.std.proofs.Common.{◌≡◌, inl, inr, ℕ, zero, suc, ◌+◌, Bool, true, false, ◌==◌, ◌&&◌, ◌||◌, cond, List, [], ◌∷◌, ◌++◌, length}
use Rattle.std.proofs.Common.{take, drop, Option, None, Some, Result, Ok, Err, refl, sym, ap, ◌∙◌, append_assoc, length-append, arith}
use Rattle.std.proofs.lemmas.Bool.{and_parts, or_from, and_left, eqb-true}
use Rattle.std.proofs.lemmas.List.{take-append-drop, length-take-le}
use Rattle.std.proofs.lemmas.List.Sums.{prefix_len-le-length}
use Rattle.tsa_base.specs.declared.token.TokenKind.{TokenKind}
use Rattle.tsa_base.specs.declared.token.LexCode.{LexCode}
use Rattle.tsa_base.specs.declared.token.LexCode.TheVariants.{LX4}
use Rattle.tsa_base.specs.Bytes.{is_blank, is_line_byte}
use Rattle.tsa_base.specs.Tokens.{PieceKind, comment, skipped_line, front_of, slash_front, token_front, block_front, block_end, no_token}
use Rattle.tsa_base.specs.Tokens.{of_kind, kind_of, longest, opens_line, line_len, line_word, is_skipped}
use Rattle.tsa_base.specs.PieceLaws.{IsPiece, IsBad, IsDirective, begins_comment, BeginsNoToken}
use Rattle.tsa_base.proofs.LongestFronts.{longest-next, longest-none, longest-within}
use Rattle.tsa_base.proofs.LineEnds.{line-reaches, line_word-append}
use Rattle.tsa_base.proofs.BlockEnds.{EndsOrNot, ends_or_not}
use Rattle.tsa_base.proofs.PieceFronts.{token-front}

-- a rest begins with a piece of so many bytes
pub record Front (before : List ℕ) (kind : PieceKind) (n : ℕ) (rest : List ℕ) : Type 0 where
  pub piece : List ℕ
  pub behind : List ℕ
  pub whole : rest ≡ piece ++ behind
  pub many : length piece ≡ n
  pub is : IsPiece before kind piece behind

abbrev pub Judged : (before rest : List ℕ) → Result (PieceKind × ℕ) LexCode → Type 0
Judged before rest (Err code) = IsBad before code rest
Judged before rest (Ok (kind, n)) = Front before kind n rest

-- Tokens.

no_token-judged : (before : List ℕ) (c : ℕ) (cs : List ℕ) (b : Bool) → (c == 34) ≡ b → is_blank c ≡ false → ((c == 35) && opens_line before) ≡ false → BeginsNoToken (c ∷ cs) → IsBad before (no_token (c ∷ cs)) (c ∷ cs)
unfolding IsBad
no_token-judged before c cs true e dark inside none = rw e (record { no_token = none; quote = e })
no_token-judged before c cs false e dark inside none = rw e (record { no_token = none; no_blank = dark; no_quote = e; no_line = inside })

kind-judged : (before rest : List ℕ) (n : ℕ) (o : Option TokenKind) → kind_of (take (suc n) rest) ≡ o → suc n ≡ longest rest → begins_comment rest ≡ false → Judged before rest (of_kind (suc n) o)
unfolding IsBad IsPiece
kind-judged before rest n None is e apart = record {
  run = take (suc n) rest;
  behind = drop (suc n) rest;
  whole = sym (take-append-drop (suc n) rest);
  next = longest-next n rest e apart;
  no_kind = is;
}
kind-judged before rest n (Some kind) is e apart = record {
  piece = take (suc n) rest;
  behind = drop (suc n) rest;
  whole = sym (take-append-drop (suc n) rest);
  many = let within = longest-within rest in length-take-le (suc n) rest (omega arith);
  is = record { next = longest-next n rest e apart; of_kind = is };
}

length-judged : (before : List ℕ) (c : ℕ) (cs : List ℕ) (n : ℕ) → n ≡ longest (c ∷ cs) → is_blank c ≡ false → ((c == 35) && opens_line before) ≡ false → begins_comment (c ∷ cs) ≡ false → Judged before (c ∷ cs) (token_front (c ∷ cs) n)
length-judged before c cs zero e dark inside apart = no_token-judged before c cs (c == 34) refl dark inside (longest-none (c ∷ cs) e apart)
length-judged before c cs (suc n) e dark inside apart = kind-judged before (c ∷ cs) n (kind_of (take (suc n) (c ∷ cs))) refl e apart

token-judged : (before : List ℕ) (c : ℕ) (cs : List ℕ) → is_blank c ≡ false → ((c == 35) && opens_line before) ≡ false → begins_comment (c ∷ cs) ≡ false → Judged before (c ∷ cs) (token_front (c ∷ cs) (longest (c ∷ cs)))
token-judged before c cs dark inside apart = length-judged before c cs (longest (c ∷ cs)) refl dark inside apart

-- Comments.

block-judged : (before ds : List ℕ) (o : Option ℕ) → EndsOrNot ds o → Judged before (47 ∷ 42 ∷ ds) (block_front o)
unfolding IsBad IsPiece
block-judged before ds None e = record { inner = ds; whole = refl; endless = e }
block-judged before ds (Some n) e =
    let whole' : ds ≡ (e.inner ++ 42 ∷ 47 ∷ []) ++ e.behind = e.whole ∙ sym (append_assoc e.inner (42 ∷ 47 ∷ []) e.behind) in
    let many' : suc (suc (length (e.inner ++ 42 ∷ 47 ∷ []))) ≡ n + 2 = let many = e.many in rw length-append (omega arith) in
    record {
      piece = 47 ∷ 42 ∷ e.inner ++ 42 ∷ 47 ∷ [];
      behind = e.behind;
      whole = ap (λ z. 47 ∷ 42 ∷ z) whole';
      many = many';
      is = inl (record { inner = e.inner; whole = refl; first = e.first });
    }

line-judged : (before ds : List ℕ) → Judged before (47 ∷ 47 ∷ ds) (Ok (comment, line_len (47 ∷ 47 ∷ ds)))
unfolding IsPiece
line-judged before ds =
    let n = line_len ds in
    let reached = line-reaches 47 ds refl in
    let many' : length (take n ds) ≡ n = length-take-le n ds (prefix_len-le-length is_line_byte ds) in
    record {
      piece = 47 ∷ 47 ∷ take n ds;
      behind = drop n ds;
      whole = ap (λ z. 47 ∷ 47 ∷ z) (sym (take-append-drop n ds));
      many = omega arith;
      is = inr (record { inner = take n ds; whole = refl; to_end = record { within = reached.within; ends = reached.ends } });
    }

second-slash : (before : List ℕ) (d : ℕ) (ds : List ℕ) (b : Bool) → (d == 47) ≡ b → (d == 42) ≡ false → Judged before (47 ∷ d ∷ ds) (slash_front (47 ∷ d ∷ ds) (d ∷ ds))
second-slash before d ds true e star = let slash : d ≡ 47 = eqb-true d 47 e in rw slash (line-judged before ds)
second-slash before d ds false e star = rw (star, e) (token-judged before 47 (d ∷ ds) refl refl (or_from (d == 42) (d == 47) star e))

second-star : (before : List ℕ) (d : ℕ) (ds : List ℕ) (b : Bool) → (d == 42) ≡ b → Judged before (47 ∷ d ∷ ds) (slash_front (47 ∷ d ∷ ds) (d ∷ ds))
second-star before d ds true e = let star : d ≡ 42 = eqb-true d 42 e in rw star (block-judged before ds (block_end ds) (ends_or_not ds))
second-star before d ds false e = second-slash before d ds (d == 47) refl e

slash-judged : (before cs : List ℕ) → Judged before (47 ∷ cs) (slash_front (47 ∷ cs) cs)
slash-judged before [] = token-judged before 47 [] refl refl refl
slash-judged before (d ∷ ds) = second-star before d ds (d == 42) refl

-- Preprocessing lines.

directive : (before cs : List ℕ) (skipped : Bool) → is_skipped (line_word cs) ≡ skipped → opens_line before ≡ true → IsDirective skipped before (35 ∷ take (line_len cs) cs) (drop (line_len cs) cs)
directive before cs skipped e opens =
    let n = line_len cs in
    let reached = line-reaches 35 cs refl in
    let parts : take n cs ++ drop n cs ≡ cs = take-append-drop n cs in
    let same : line_word cs ≡ line_word (take n cs) = ap line_word (sym parts) ∙ line_word-append (take n cs) (drop n cs) reached.ends in
    record { line = take n cs; whole = refl; opens = opens; to_end = reached; word = ap is_skipped (sym same) ∙ e }

directive-judged : (before cs : List ℕ) (b : Bool) → is_skipped (line_word cs) ≡ b → opens_line before ≡ true → Judged before (35 ∷ cs) (cond b (Ok (skipped_line, line_len (35 ∷ cs))) (Err LX4))
unfolding IsPiece IsBad
directive-judged before cs true e opens =
    let n = line_len cs in
    let many' : length (take n cs) ≡ n = length-take-le n cs (prefix_len-le-length is_line_byte cs) in
    record {
      piece = 35 ∷ take n cs;
      behind = drop n cs;
      whole = ap (λ z. 35 ∷ z) (sym (take-append-drop n cs));
      many = omega arith;
      is = directive before cs true e opens;
    }
directive-judged before cs false e opens =
    let n = line_len cs in
    record {
      line = 35 ∷ take n cs;
      behind = drop n cs;
      whole = ap (λ z. 35 ∷ z) (sym (take-append-drop n cs));
      is = directive before cs false e opens;
    }

-- Any rest.

by_sign : (before : List ℕ) (c : ℕ) (cs : List ℕ) (b : Bool) → ((c == 35) && opens_line before) ≡ b → is_blank c ≡ false → (c == 47) ≡ false → Judged before (c ∷ cs) (front_of (opens_line before) (c ∷ cs))
unfolding front_of
by_sign before c cs true e dark plain =
    let parts = and_parts (c == 35) (opens_line before) e in
    let sign : c ≡ 35 = eqb-true c 35 parts.0 in
    let opens : opens_line before ≡ true = parts.1 in
    rw (sign, opens) (directive-judged before cs (is_skipped (line_word cs)) refl opens)
by_sign before c cs false e dark plain = let apart : begins_comment (c ∷ cs) ≡ false = no_comment c cs plain in rw (token-front (opens_line before) c cs dark e apart) (token-judged before c cs dark e apart)
  where
    no_comment : (c : ℕ) (cs : List ℕ) → (c == 47) ≡ false → begins_comment (c ∷ cs) ≡ false
    no_comment c [] plain = refl
    no_comment c (d ∷ ds) plain = and_left (c == 47) ((d == 42) || (d == 47)) plain

by_slash : (before : List ℕ) (c : ℕ) (cs : List ℕ) (b : Bool) → (c == 47) ≡ b → is_blank c ≡ false → Judged before (c ∷ cs) (front_of (opens_line before) (c ∷ cs))
unfolding front_of
by_slash before c cs true e dark = let slash : c ≡ 47 = eqb-true c 47 e in rw slash (slash-judged before cs)
by_slash before c cs false e dark = by_sign before c cs ((c == 35) && opens_line before) refl dark e

by_blank : (before : List ℕ) (c : ℕ) (cs : List ℕ) (b : Bool) → is_blank c ≡ b → Judged before (c ∷ cs) (front_of (opens_line before) (c ∷ cs))
unfolding front_of IsPiece
by_blank before c cs true e = rw e (record { piece = c ∷ []; behind = cs; whole = refl; many = refl; is = record { byte = c; alone = refl; white = e } })
by_blank before c cs false e = by_slash before c cs (c == 47) refl e

-- the front of a rest is a piece, or the rest is bad
pub judged : (before : List ℕ) (c : ℕ) (cs : List ℕ) → Judged before (c ∷ cs) (front_of (opens_line before) (c ∷ cs))
judged before c cs = by_blank before c cs (is_blank c) refl
