-- What the tokens of a text show as names are names, and what they show as numbers fits its type.
use Rattle.std.proofs.Common.{ℕ, zero, suc, ◌^◌, ◌≡◌, ◌≢◌, ◌∙◌, ap, sym, subst, refl, arith, List, [], ◌∷◌, ◌++◌, Bool, true, false, ◌&&◌}
use Rattle.std.proofs.Common.{◌||◌, not, Some, None, Ok, slice_get, length, nat_lt, nat_le, ◌==◌, if◌then◌else◌}
use Rattle.std.proofs.lemmas.Bool.{and_from, ltb-true, lt-ltb, leb-false}
use Rattle.std.specs.List.{list_all, list_any, filter_map}
use Rattle.std.specs.Str.{bytes_eq}
use Rattle.std.specs.declared.option.Option.{Option}
use Rattle.tsa_base.specs.declared.token.Span.{Span}
use Rattle.tsa_base.specs.declared.token.TokenKind.{TokenKind}
use Rattle.tsa_base.specs.declared.token.TokenKind.TheVariants.{Word, Number, Text, Punct}
use Rattle.tsa_base.specs.Bytes.{is_letter, is_word_byte}
use Rattle.tsa_base.specs.Numbers.{has_suffix, base_of, without_suffix, digits_of, is_digit_in, value_in, number_limit, number_of}
use Rattle.tsa_base.specs.Tokens.{PieceKind, blank, comment, skipped_line, token, Lexeme, lexeme_of, tokens_of, is_token, kind_of}
use Rattle.tsa_base.specs.Tokens as base
use Rattle.tsa_base.specs.PieceLaws.{Falls, IsPiece}
use Rattle.tsa_base.specs.Words.{is_reserved}
use Rattle.tsa_base.proofs.TokenPlaces.{texts_fall_into_pieces}
use Rattle.tsa_tree.specs.declared.sign.Sign.{Sign}
use Rattle.tsa_tree.specs.declared.sign.Sign.TheVariants as sign
use Rattle.tsa_tree.specs.expressions.Sound.{is_name, is_value}
use Rattle.tsa_tree.specs.tokens.Signs.{Aliases, punctuator_signs, punctuator_sign, word_signs, word_sign, listed, sign_or, sign_of}
use Rattle.tsa_tree.specs.tokens.Signs.{sign_in, sign_at, identifier_in, identifier_at, value_of, unsigned_of, kind_in, value_at}
use Rattle.tsa_tree.specs.tokens.Signs.{unsigned_at}

-- its bytes are a token's, of its kind
abbrev pub IsTokenOfKind : Lexeme → Type 0
IsTokenOfKind t = (is_token t.text ≡ true) × (kind_of t.text ≡ Some t.kind)

abbrev pub AreTokensOfKinds : List Lexeme → Type 0
AreTokensOfKinds [] = Unit {0}
AreTokensOfKinds (t ∷ ts) = IsTokenOfKind t × AreTokensOfKinds ts

of_kinds-step : (before behind : List ℕ) (kind : PieceKind) (text : List ℕ) (span : Span) (ps : List base.Piece) → IsPiece before kind text behind
    → AreTokensOfKinds (filter_map lexeme_of ps) → AreTokensOfKinds (filter_map lexeme_of (record { kind = kind; text = text; span = span } ∷ ps))
unfolding IsPiece
of_kinds-step before behind blank text span ps is later = later
of_kinds-step before behind comment text span ps is later = later
of_kinds-step before behind skipped_line text span ps is later = later
of_kinds-step before behind (token kind) text span ps is later = ((is.next.is, is.of_kind), later)

of_kinds : (before rest : List ℕ) (ps : List base.Piece) → Falls before rest ps [] → AreTokensOfKinds (filter_map lexeme_of ps)
unfolding Falls
of_kinds before rest [] falls = tt
of_kinds before rest (p ∷ ps) (behind, stands, falls) =
    of_kinds-step before behind p.kind p.text p.span ps stands.is (of_kinds (before ++ p.text) behind ps falls)

-- the tokens of a text are tokens, of the kinds that their bytes have
pub tokens_of_kinds : (text : List ℕ) (tokens : List Lexeme) → tokens_of text ≡ Ok tokens → AreTokensOfKinds tokens
tokens_of_kinds text tokens e =
    let among = texts_fall_into_pieces.tokens text tokens e in
    rw among.2 (of_kinds [] text among.0 among.1)

pub at_place : (tokens : List Lexeme) (i : ℕ) (t : Lexeme) → AreTokensOfKinds tokens → slice_get tokens i ≡ Some t → IsTokenOfKind t
at_place [] i t h e = cc
at_place (x ∷ xs) zero t h e = let same : x ≡ t = cc in subst IsTokenOfKind same h.0
at_place (x ∷ xs) (suc i) t h e = at_place xs i t h.1 e

-- Numbers. A run writes no number that its type can't hold, and nothing but numbers.

unsigned_fits : (v : ℕ) (b ten : Bool) → nat_le (2 ^ 31) v ≡ b → nat_lt v (if false || not ten then 2 ^ 32 else 2 ^ 31) ≡ true → is_value v b ≡ true
unsigned_fits v true true e l = lt-ltb v (2 ^ 32) (let under = ltb-true v (2 ^ 31) l in omega arith)
unsigned_fits v true false e l = l
unsigned_fits v false ten e l = lt-ltb v (2 ^ 31) (leb-false (2 ^ 31) v e)

fits : (suffixed : Bool) (v base : ℕ) → nat_lt v (number_limit suffixed base) ≡ true → is_value v (suffixed || nat_le (2 ^ 31) v) ≡ true
fits true v base l = l
fits false v base l = unsigned_fits v (nat_le (2 ^ 31) v) (base == 10) refl l

written_number : (suffixed : Bool) (base v : ℕ) (digits under : Bool) (value : ℕ) (unsigned : Bool) → nat_lt v (number_limit suffixed base) ≡ under
    → (if digits && under then Some (Number v (suffixed || nat_le (2 ^ 31) v)) else None) ≡ Some (Number value unsigned) → is_value value unsigned ≡ true
written_number suffixed base v true true value unsigned l e =
    let same_value : v ≡ value = cc in
    let same_type : (suffixed || nat_le (2 ^ 31) v) ≡ unsigned = cc in
    subst (λ n. is_value n unsigned ≡ true) same_value (subst (λ b. is_value v b ≡ true) same_type (fits suffixed v base l))
written_number suffixed base v true false value unsigned l e = cc
written_number suffixed base v false under value unsigned l e = cc

number_fits : (run : List ℕ) (value : ℕ) (unsigned : Bool) → number_of run ≡ Some (Number value unsigned) → is_value value unsigned ≡ true
unfolding number_of
number_fits run value unsigned e =
    let digits = digits_of (without_suffix run) in
    let base = base_of (without_suffix run) in
    written_number (has_suffix run) base (value_in base 0 digits) (nat_lt 0 (length digits) && list_all (is_digit_in base) digits)
    _ value unsigned refl e

abbrev pub is_numeric : Option TokenKind → Bool
is_numeric (Some (Number value unsigned)) = true
is_numeric None = true
is_numeric _ = false

numeric_if : (b : Bool) (value : ℕ) (unsigned : Bool) → is_numeric (if b then Some (Number value unsigned) else None) ≡ true
numeric_if true value unsigned = refl
numeric_if false value unsigned = refl

pub number_numeric : (run : List ℕ) → is_numeric (number_of run) ≡ true
unfolding number_of
number_numeric run = numeric_if _ _ _

-- What the kind of a token's bytes tells of them.

word_kind : (c : ℕ) (cs : List ℕ) (letter digit quote other : Bool) → is_letter c ≡ letter
    → (if letter then list_all is_word_byte cs else other) ≡ true
    → (if letter then Some Word else (if digit then number_of (c ∷ cs) else (if quote then Some Text else Some Punct))) ≡ Some Word
    → (is_letter c && list_all is_word_byte cs) ≡ true
word_kind c cs true digit quote other l t k = and_from (is_letter c) _ l t
word_kind c cs false true quote other l t k = let never : true ≡ false = sym (number_numeric (c ∷ cs)) ∙ ap is_numeric k in cc
word_kind c cs false false true other l t k = cc
word_kind c cs false false false other l t k = cc

number_kind : (c : ℕ) (cs : List ℕ) (letter digit quote : Bool) (value : ℕ) (unsigned : Bool)
    → (if letter then Some Word else (if digit then number_of (c ∷ cs) else (if quote then Some Text else Some Punct))) ≡ Some (Number value unsigned)
    → is_value value unsigned ≡ true
number_kind c cs true digit quote value unsigned k = cc
number_kind c cs false true quote value unsigned k = number_fits (c ∷ cs) value unsigned k
number_kind c cs false false true value unsigned k = cc
number_kind c cs false false false value unsigned k = cc

pub word_of_token : (aliases : Aliases) (text : List ℕ) → is_token text ≡ true → kind_of text ≡ Some Word
    → is_reserved text ≡ false → list_any (bytes_eq text) aliases ≡ false → is_name aliases text ≡ true
unfolding is_token kind_of
word_of_token aliases [] t k r l = cc
word_of_token aliases (c ∷ cs) t k r l =
    let w = word_kind c cs (is_letter c) _ _ _ refl t k in
    rw (r, l) (and_from _ _ w refl)

number_of_token : (text : List ℕ) (value : ℕ) (unsigned : Bool) → kind_of text ≡ Some (Number value unsigned) → is_value value unsigned ≡ true
unfolding kind_of
number_of_token [] value unsigned k = cc
number_of_token (c ∷ cs) value unsigned k = number_kind c cs _ _ _ value unsigned k

-- Signs. Only a word is seen as a name, and only a number as a number.

abbrev is_listed : Sign → Bool
is_listed sign.Name = false
is_listed sign.Number = false
is_listed _ = true

listed-step : (b : Bool) (s : Sign) (later : Option Sign) → is_listed s ≡ true → is_listed (sign_or sign.Other later) ≡ true
    → is_listed (sign_or sign.Other (if b then Some s else later)) ≡ true
listed-step true s later e f = e
listed-step false s later e f = f

abbrev all_listed : List (List ℕ × Sign) → Type 0
all_listed [] = Unit {0}
all_listed (row ∷ rows) = (is_listed row.1 ≡ true) × all_listed rows

sign_listed : (rows : List (List ℕ × Sign)) (text : List ℕ) → all_listed rows → is_listed (sign_or sign.Other (listed rows text)) ≡ true
sign_listed [] text h = refl
sign_listed (row ∷ rows) text h = listed-step (bytes_eq text row.0) row.1 (listed rows text) h.0 (sign_listed rows text h.1)

punctuators_listed : (text : List ℕ) → is_listed (punctuator_sign text) ≡ true
unfolding punctuator_sign punctuator_signs
punctuators_listed text = let all : all_listed punctuator_signs = search in sign_listed punctuator_signs text all

words_listed : (text : List ℕ) → is_listed (sign_or sign.Other (listed word_signs text)) ≡ true
unfolding word_signs
words_listed text = let all : all_listed word_signs = search in sign_listed word_signs text all

word_is_name : (o : Option Sign) (reserved alias : Bool) → is_listed (sign_or sign.Other o) ≡ true
    → sign_or (if reserved then sign.Other else (if alias then sign.TypeName else sign.Name)) o ≡ sign.Name
    → (reserved ≡ false) × (alias ≡ false)
word_is_name (Some s) reserved alias h e = absurd (let never : true ≡ false = sym h ∙ ap is_listed e in cc)
word_is_name None true alias h e = cc
word_is_name None false true h e = cc
word_is_name None false false h e = (refl, refl)

word_no_number : (o : Option Sign) (reserved alias : Bool) → is_listed (sign_or sign.Other o) ≡ true
    → sign_or (if reserved then sign.Other else (if alias then sign.TypeName else sign.Name)) o ≢ sign.Number
word_no_number (Some s) reserved alias h e = absurd (let never : true ≡ false = sym h ∙ ap is_listed e in cc)
word_no_number None true alias h e = cc
word_no_number None false true h e = cc
word_no_number None false false h e = cc

of_name_sign : (aliases : Aliases) (kind : TokenKind) (text : List ℕ) → is_token text ≡ true → kind_of text ≡ Some kind
    → sign_of aliases kind text ≡ sign.Name → is_name aliases text ≡ true
unfolding sign_of word_sign
of_name_sign aliases Word text t k e = let w = word_is_name (listed word_signs text) (is_reserved text) (list_any (bytes_eq text) aliases) (words_listed text) e in word_of_token aliases text t k w.0 w.1
of_name_sign aliases (Number value unsigned) text t k e = cc
of_name_sign aliases Text text t k e = cc
of_name_sign aliases Punct text t k e =
    let never : true ≡ false = sym (punctuators_listed text) ∙ ap is_listed e in cc

of_number_sign : (aliases : Aliases) (kind : TokenKind) (text : List ℕ) → kind_of text ≡ Some kind
    → sign_of aliases kind text ≡ sign.Number → is_value (value_of kind) (unsigned_of kind) ≡ true
unfolding sign_of word_sign
of_number_sign aliases Word text k e = absurd (word_no_number (listed word_signs text) (is_reserved text) (list_any (bytes_eq text) aliases) (words_listed text) e)
of_number_sign aliases (Number value unsigned) text k e = number_of_token text value unsigned k
of_number_sign aliases Text text k e = cc
of_number_sign aliases Punct text k e =
    let never : true ≡ false = sym (punctuators_listed text) ∙ ap is_listed e in cc

module _ (aliases : Aliases) (tokens : List Lexeme) (real : AreTokensOfKinds tokens) where
  name-in : (i : ℕ) (o : Option Lexeme) → slice_get tokens i ≡ o → sign_in aliases o ≡ sign.Name → is_name aliases (identifier_in o).text ≡ true
  name-in i None at e = cc
  name-in i (Some t) at e = let is = at_place tokens i t real at in of_name_sign aliases t.kind t.text is.0 is.1 e

  -- a token that is seen as a name is a name
  pub name_at : (i : ℕ) → sign_at tokens aliases i ≡ sign.Name → is_name aliases (identifier_at tokens i).text ≡ true
  unfolding sign_at identifier_at
  name_at i e = name-in i (slice_get tokens i) refl e

  number-in : (i : ℕ) (o : Option Lexeme) → slice_get tokens i ≡ o → sign_in aliases o ≡ sign.Number
      → is_value (value_of (kind_in o)) (unsigned_of (kind_in o)) ≡ true
  number-in i None at e = cc
  number-in i (Some t) at e = let is = at_place tokens i t real at in of_number_sign aliases t.kind t.text is.1 e

  -- and one that is seen as a number has its type
  pub number_at : (i : ℕ) → sign_at tokens aliases i ≡ sign.Number → is_value (value_at tokens i) (unsigned_at tokens i) ≡ true
  unfolding sign_at value_at unsigned_at
  number_at i e = number-in i (slice_get tokens i) refl e
