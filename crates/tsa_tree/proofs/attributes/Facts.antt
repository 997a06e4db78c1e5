-- What one token tells of another thing that it could be, among attributes and in balanced tokens.
use Rattle.std.proofs.Common.{ℕ, suc, ◌≡◌, refl, subst, sym, List, [], ◌∷◌, Bool, true, false, ◌&&◌, Option, Some, None, slice_get, nat_eq}
use Rattle.std.proofs.Common.{codes, if◌then◌else◌}
use Rattle.std.specs.List.{list_all, list_any}
use Rattle.std.specs.Str.{bytes_eq}
use Rattle.std.proofs.lemmas.Slice.Eq.{bytes_eq-Decides}
use Rattle.tsa_base.specs.Tokens.{Lexeme}
use Rattle.tsa_base.specs.Words.{is_reserved}
use Rattle.tsa_base.specs.declared.token.TokenKind.{TokenKind}
use Rattle.tsa_base.specs.declared.token.TokenKind.TheVariants.{Word, Number, Text, Punct}
use Rattle.tsa_tree.specs.declared.sign.Sign.{Sign}
use Rattle.tsa_tree.specs.declared.sign.Sign.TheVariants as sign
use Rattle.tsa_tree.specs.attributes.Syntax.{try_value}
use Rattle.tsa_tree.specs.tokens.Signs.{Aliases, listed, sign_or, word_signs, word_sign, punctuator_signs, punctuator_sign, sign_of}
use Rattle.tsa_tree.specs.tokens.Signs.{sign_in, sign_at, kind_in, is_word, is_word_at, identifier_in, identifier_at, is_plain_sign}
use Rattle.tsa_tree.specs.Rows.{mark, Closer, closing_parenthesis, closing_bracket, closing_brace, closer_kind, a_result, a_close, is_given}
use Rattle.tsa_tree.specs.Rows.{sees}

pub both : (p q : Bool) → (p && q) ≡ true → (p ≡ true) × (q ≡ true)
both true q e = (refl, e)
both false q e = cc

-- closing tokens --------------------------------------------------------------

abbrev pub is_closing : Sign → Bool
is_closing sign.Close = true
is_closing sign.CloseBracket = true
is_closing sign.CloseBrace = true
is_closing _ = false

-- Balanced tokens are closed by a closing token.
pub no_closer : (s : Sign) → is_closing s ≡ false → (c : Closer) → nat_eq (mark s) (suc (closer_kind c)) ≡ false
no_closer sign.Close e c = cc
no_closer sign.CloseBracket e c = cc
no_closer sign.CloseBrace e c = cc
no_closer _ e closing_parenthesis = refl
no_closer _ e closing_bracket = refl
no_closer _ e closing_brace = refl

pub open_no_closing : (s : Sign) → nat_eq (mark s) 6 ≡ true → is_closing s ≡ false
open_no_closing sign.Open e = refl
open_no_closing _ e = cc

pub bracket_no_closing : (s : Sign) → nat_eq (mark s) 8 ≡ true → is_closing s ≡ false
bracket_no_closing sign.OpenBracket e = refl
bracket_no_closing _ e = cc

pub brace_no_closing : (s : Sign) → nat_eq (mark s) 17 ≡ true → is_closing s ≡ false
brace_no_closing sign.OpenBrace e = refl
brace_no_closing _ e = cc

pub plain_no_closing : (s : Sign) → is_plain_sign s ≡ true → is_closing s ≡ false
plain_no_closing sign.Close e = cc
plain_no_closing sign.CloseBracket e = cc
plain_no_closing sign.CloseBrace e = cc
plain_no_closing _ e = refl

-- `)` is no text.
pub close_no_text : (s : Sign) → nat_eq (mark s) 7 ≡ true → nat_eq (mark s) 16 ≡ false
close_no_text sign.Close e = refl
close_no_text _ e = cc

-- words and results -------------------------------------------------------------

-- any sign but that of `)`
abbrev no_close : Sign → Bool
no_close sign.Close = false
no_close _ = true

no_close_mark : (s : Sign) → no_close s ≡ true → nat_eq (mark s) 7 ≡ false
no_close_mark sign.Close e = cc
no_close_mark _ e = refl

here : (test : Sign → Bool) (otherwise s : Sign) (rest : Option Sign) (b : Bool) → test s ≡ true → test (sign_or otherwise rest) ≡ true
    → test (sign_or otherwise (if b then Some s else rest)) ≡ true
here test otherwise s rest true e e' = e
here test otherwise s rest false e e' = e'

-- What holds of every sign of a list holds of the sign that a text has by it.
listed_all : (test : Sign → Bool) (otherwise : Sign) (rows : List (List ℕ × Sign)) (text : List ℕ) → test otherwise ≡ true
    → list_all (λ row. test row.1) rows ≡ true → test (sign_or otherwise (listed rows text)) ≡ true
listed_all test otherwise [] text e all = e
listed_all test otherwise (row ∷ rows) text e all =
    let parts = both _ _ all in
    here test otherwise row.1 (listed rows text) (bytes_eq text row.0) parts.0 (listed_all test otherwise rows text e parts.1)

word_no_close : (aliases : Aliases) (text : List ℕ) → no_close (word_sign aliases text) ≡ true
unfolding word_sign word_signs
word_no_close aliases text = listed_all no_close _ word_signs text (go (is_reserved text) (list_any (bytes_eq text) aliases)) refl
  where
    go : (p q : Bool) → no_close (if p then sign.Other else (if q then sign.TypeName else sign.Name)) ≡ true
    go true q = refl
    go false true = refl
    go false false = refl

one_of : (p q r s : Bool)
    → is_given (if p then Some false else (if q then Some true else (if r then Some false else (if s then Some true else None)))) ≡ true
    → (P : Bool → Type 0) → P p → P q → P r → P s → P true
one_of true q r s e P h i j k = h
one_of false true r s e P h i j k = i
one_of false false true s e P h i j k = j
one_of false false false true e P h i j k = k
one_of false false false false e P h i j k = cc

-- A result is no punctuator.
result_no_punctuator : (text : List ℕ) → is_given (try_value text) ≡ true → no_close (punctuator_sign text) ≡ true
unfolding try_value punctuator_sign punctuator_signs
result_no_punctuator text e =
    one_of (bytes_eq text (codes "0")) (bytes_eq text (codes "1")) (bytes_eq text (codes "false")) (bytes_eq text (codes "true")) e
    (λ b. b ≡ true → no_close (punctuator_sign text) ≡ true)
    (at (codes "0") refl) (at (codes "1") refl) (at (codes "false") refl) (at (codes "true") refl) refl
  where
    at : (word : List ℕ) → no_close (punctuator_sign word) ≡ true → bytes_eq text word ≡ true → no_close (punctuator_sign text) ≡ true
    at word h e = subst (λ t. no_close (punctuator_sign t) ≡ true) (sym ((bytes_eq-Decides text word).0 e)) h

word_kind : (aliases : Aliases) (k : TokenKind) (text : List ℕ) → is_word k ≡ true → no_close (sign_of aliases k text) ≡ true
unfolding sign_of
word_kind aliases Word text e = word_no_close aliases text
word_kind aliases (Number value unsigned) text e = cc
word_kind aliases Text text e = cc
word_kind aliases Punct text e = cc

result_kind : (aliases : Aliases) (k : TokenKind) (text : List ℕ) → is_given (try_value text) ≡ true
    → no_close (sign_of aliases k text) ≡ true
unfolding sign_of
result_kind aliases Word text e = word_no_close aliases text
result_kind aliases (Number value unsigned) text e = refl
result_kind aliases Text text e = refl
result_kind aliases Punct text e = result_no_punctuator text e

module _ (tokens : List Lexeme) (aliases : Aliases) where
  -- No word is `)`.
  pub word_at_no_close : (m : ℕ) → is_word_at tokens m ≡ true → sees tokens (a_close aliases) m ≡ false
  unfolding sign_at is_word_at
  word_at_no_close m e = no_close_mark (sign_in aliases (slice_get tokens m)) (go (slice_get tokens m) e)
    where
      go : (o : Option Lexeme) → is_word (kind_in o) ≡ true → no_close (sign_in aliases o) ≡ true
      go None e = cc
      go (Some token) e = word_kind aliases token.kind token.text e

  result_at_no_close : (m : ℕ) → sees tokens a_result m ≡ true → sees tokens (a_close aliases) m ≡ false
  unfolding sign_at identifier_at
  result_at_no_close m e = no_close_mark (sign_in aliases (slice_get tokens m)) (go (slice_get tokens m) e)
    where
      go : (o : Option Lexeme) → is_given (try_value (identifier_in o).text) ≡ true → no_close (sign_in aliases o) ≡ true
      go None e = refl
      go (Some token) e = result_kind aliases token.kind token.text e

  -- `)` is no result of a try.
  pub close_no_result : (m : ℕ) → sees tokens (a_close aliases) m ≡ true → sees tokens a_result m ≡ false
  close_no_result m e = go (sees tokens a_result m) (result_at_no_close m)
    where
      go : (b : Bool) → (b ≡ true → sees tokens (a_close aliases) m ≡ false) → b ≡ false
      go true h = let never = h refl in cc
      go false h = refl
