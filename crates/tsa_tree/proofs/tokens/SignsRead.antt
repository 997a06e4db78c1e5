-- What the sign of a token tells of its bytes: a tag, the name of a type, a text; and with what operators tokens assign.
use Rattle.std.proofs.Common.{ℕ, zero, suc, ◌-◌, ◌≡◌, ◌∙◌, ap, sym, refl, arith, List, [], ◌∷◌, Bool, true, false, ◌&&◌, Some, None}
use Rattle.std.proofs.Common.{slice_get, length, take, ◌==◌, if◌then◌else◌}
use Rattle.std.proofs.lemmas.Bool.{and_from}
use Rattle.std.proofs.lemmas.Bool.Decides.{nat_tests}
use Rattle.std.specs.List.{list_all, list_any}
use Rattle.std.specs.Str.{bytes_eq}
use Rattle.std.specs.declared.option.Option.{Option}
use Rattle.tsa_base.specs.declared.token.TokenKind.{TokenKind}
use Rattle.tsa_base.specs.declared.token.TokenKind.TheVariants.{Word, Number, Text, Punct}
use Rattle.tsa_base.specs.Bytes.{is_letter, is_digit, is_text_byte}
use Rattle.tsa_base.specs.Numbers.{number_of}
use Rattle.tsa_base.specs.Tokens.{Lexeme, closes, is_token, kind_of}
use Rattle.tsa_base.specs.Words.{is_reserved}
use Rattle.tsa_tree.specs.declared.expr.BinaryOp.{BinaryOp}
use Rattle.tsa_tree.specs.declared.sign.Sign.{Sign}
use Rattle.tsa_tree.specs.declared.sign.Sign.TheVariants as sign
use Rattle.tsa_tree.specs.attributes.Syntax.{unquoted}
use Rattle.tsa_tree.specs.tokens.Signs.{Aliases, punctuator_signs, punctuator_sign, word_signs, word_sign, listed, sign_or, sign_of}
use Rattle.tsa_tree.specs.tokens.Signs.{sign_in, sign_at, identifier_in, identifier_at, is_tag, assigns}
use Rattle.tsa_tree.specs.expressions.Sound.{is_tag_name, is_alias_name}
use Rattle.tsa_tree.specs.statements.Sound.{is_assigning}
use Rattle.tsa_tree.proofs.tokens.NamesAndNumbers.{AreTokensOfKinds, at_place, word_of_token, number_numeric, is_numeric}

-- Facts of all signs that stand in a list.

abbrev AllHave : (Sign → Bool) → List (List ℕ × Sign) → Type 0
AllHave p [] = Unit {0}
AllHave p (row ∷ rows) = (p row.1 ≡ true) × AllHave p rows

have-step : (p : Sign → Bool) (b : Bool) (s otherwise : Sign) (later : Option Sign) → p s ≡ true → p (sign_or otherwise later) ≡ true
    → p (sign_or otherwise (if b then Some s else later)) ≡ true
have-step p true s otherwise later e f = e
have-step p false s otherwise later e f = f

all_have : (p : Sign → Bool) (rows : List (List ℕ × Sign)) (otherwise : Sign) (text : List ℕ) → AllHave p rows → p otherwise ≡ true
    → p (sign_or otherwise (listed rows text)) ≡ true
all_have p [] otherwise text h e = e
all_have p (row ∷ rows) otherwise text h e =
    have-step p (bytes_eq text row.0) row.1 otherwise (listed rows text) h.0 (all_have p rows otherwise text h.1 e)

-- Only a word is seen as a tag or as the name of a type, and only a text as a text.

abbrev is_fixed : Sign → Bool
is_fixed sign.Name = false
is_fixed sign.TypeName = false
is_fixed sign.Text = false
is_fixed _ = true

fixed_words : (text : List ℕ) → is_fixed (sign_or sign.Other (listed word_signs text)) ≡ true
unfolding word_signs
fixed_words text = let all : AllHave is_fixed word_signs = search in all_have is_fixed word_signs sign.Other text all refl

fixed_punctuators : (text : List ℕ) → is_fixed (punctuator_sign text) ≡ true
unfolding punctuator_sign punctuator_signs
fixed_punctuators text = let all : AllHave is_fixed punctuator_signs = search in all_have is_fixed punctuator_signs sign.Other text all refl

no_fixed_tag : (s : Sign) → is_fixed s ≡ true → is_tag s ≡ true → ⊥
no_fixed_tag sign.Name f t = cc
no_fixed_tag sign.TypeName f t = cc
no_fixed_tag _ f t = cc

word_is_tag : (o : Option Sign) (reserved known : Bool) → is_fixed (sign_or sign.Other o) ≡ true
    → is_tag (sign_or (if reserved then sign.Other else (if known then sign.TypeName else sign.Name)) o) ≡ true → reserved ≡ false
word_is_tag (Some s) reserved known h e = absurd (no_fixed_tag s h e)
word_is_tag None true known h e = cc
word_is_tag None false known h e = refl

word_is_type : (o : Option Sign) (reserved known : Bool) → is_fixed (sign_or sign.Other o) ≡ true
    → sign_or (if reserved then sign.Other else (if known then sign.TypeName else sign.Name)) o ≡ sign.TypeName
    → (reserved ≡ false) × (known ≡ true)
word_is_type (Some s) reserved known h e = absurd (let never : true ≡ false = sym h ∙ ap is_fixed e in cc)
word_is_type None true known h e = cc
word_is_type None false true h e = (refl, refl)
word_is_type None false false h e = cc

word_no_text : (o : Option Sign) (reserved known : Bool) → is_fixed (sign_or sign.Other o) ≡ true
    → sign_or (if reserved then sign.Other else (if known then sign.TypeName else sign.Name)) o ≡ sign.Text → ⊥
word_no_text (Some s) reserved known h e = let never : true ≡ false = sym h ∙ ap is_fixed e in cc
word_no_text None true known h e = cc
word_no_text None false true h e = cc
word_no_text None false false h e = cc

of_tag_sign : (aliases : Aliases) (kind : TokenKind) (text : List ℕ) → is_token text ≡ true → kind_of text ≡ Some kind
    → is_tag (sign_of aliases kind text) ≡ true → is_tag_name text ≡ true
unfolding sign_of word_sign
of_tag_sign aliases Word text t k e =
    word_of_token [] text t k (word_is_tag (listed word_signs text) (is_reserved text) (list_any (bytes_eq text) aliases) (fixed_words text) e) refl
of_tag_sign aliases (Number value unsigned) text t k e = cc
of_tag_sign aliases Text text t k e = cc
of_tag_sign aliases Punct text t k e = absurd (no_fixed_tag (punctuator_sign text) (fixed_punctuators text) e)

of_type_sign : (aliases : Aliases) (kind : TokenKind) (text : List ℕ) → is_token text ≡ true → kind_of text ≡ Some kind
    → sign_of aliases kind text ≡ sign.TypeName → is_alias_name aliases text ≡ true
unfolding sign_of word_sign
of_type_sign aliases Word text t k e =
    let w = word_is_type (listed word_signs text) (is_reserved text) (list_any (bytes_eq text) aliases) (fixed_words text) e in
    and_from _ _ (word_of_token [] text t k w.0 refl) w.1
of_type_sign aliases (Number value unsigned) text t k e = cc
of_type_sign aliases Text text t k e = cc
of_type_sign aliases Punct text t k e = let never : true ≡ false = sym (fixed_punctuators text) ∙ ap is_fixed e in cc

-- Texts.

closed-step : (p : ℕ → Bool) (closing c n : ℕ) (cs : List ℕ) (b : Bool) → p c ≡ b
    → (if b then closes p closing cs else ((c == closing) && (length cs == 0))) ≡ true → suc n ≡ length cs
    → (closes p closing cs ≡ true → list_all p (take n cs) ≡ true) → list_all p (take (suc n) (c ∷ cs)) ≡ true
closed-step p closing c n cs true f h e later = and_from (p c) _ f (later h)
closed-step p closing c n cs false f h e later = grind (arith, nat_tests)

front_of_closed : (p : ℕ → Bool) (closing n : ℕ) (cs : List ℕ) → closes p closing cs ≡ true → suc n ≡ length cs → list_all p (take n cs) ≡ true
front_of_closed p closing zero cs h e = refl
front_of_closed p closing (suc n) [] h e = cc
front_of_closed p closing (suc n) (c ∷ cs) h e =
    let same : suc n ≡ length cs = omega (arith, e) in
    closed-step p closing c n cs (p c) refl h same (λ later. front_of_closed p closing n cs later same)

closed_text : (c : ℕ) (cs : List ℕ) → closes is_text_byte 34 cs ≡ true → list_all is_text_byte (unquoted (c ∷ cs)) ≡ true
closed_text c [] h = cc
closed_text c (d ∷ ds) h = front_of_closed is_text_byte 34 (length (c ∷ d ∷ ds) - 2) (d ∷ ds) h (omega arith)

text_kind : (c : ℕ) (cs : List ℕ) (letter digit quote : Bool) (w r x : Bool)
    → (if letter then w else (if digit then r else (if quote then closes is_text_byte 34 cs else x))) ≡ true
    → (if letter then Some Word else (if digit then number_of (c ∷ cs) else (if quote then Some Text else Some Punct))) ≡ Some Text
    → closes is_text_byte 34 cs ≡ true
text_kind c cs true digit quote w r x t k = cc
text_kind c cs false true quote w r x t k = absurd (let never : true ≡ false = sym (number_numeric (c ∷ cs)) ∙ ap is_numeric k in cc)
text_kind c cs false false true w r x t k = t
text_kind c cs false false false w r x t k = cc

text_of_token : (text : List ℕ) → is_token text ≡ true → kind_of text ≡ Some Text → list_all is_text_byte (unquoted text) ≡ true
unfolding is_token kind_of
text_of_token [] t k = cc
text_of_token (c ∷ cs) t k = closed_text c cs (text_kind c cs (is_letter c) (is_digit c) (c == 34) _ _ _ t k)

of_text_sign : (aliases : Aliases) (kind : TokenKind) (text : List ℕ) → is_token text ≡ true → kind_of text ≡ Some kind
    → sign_of aliases kind text ≡ sign.Text → list_all is_text_byte (unquoted text) ≡ true
unfolding sign_of word_sign
of_text_sign aliases Word text t k e = absurd (word_no_text (listed word_signs text) (is_reserved text) (list_any (bytes_eq text) aliases) (fixed_words text) e)
of_text_sign aliases (Number value unsigned) text t k e = cc
of_text_sign aliases Text text t k e = text_of_token text t k
of_text_sign aliases Punct text t k e = let never : true ≡ false = sym (fixed_punctuators text) ∙ ap is_fixed e in cc

-- Assignments.

abbrev assigns_well : Sign → Bool
assigns_well (sign.Assign o) = is_assigning (Some o)
assigns_well (sign.Step o) = is_assigning (Some o)
assigns_well _ = true

plain_word_well : (reserved known : Bool) → assigns_well (if reserved then sign.Other else (if known then sign.TypeName else sign.Name)) ≡ true
plain_word_well true known = refl
plain_word_well false true = refl
plain_word_well false false = refl

words_well : (text : List ℕ) (otherwise : Sign) → assigns_well otherwise ≡ true → assigns_well (sign_or otherwise (listed word_signs text)) ≡ true
unfolding word_signs
words_well text otherwise e = let all : AllHave assigns_well word_signs = search in all_have assigns_well word_signs otherwise text all e

punctuators_well : (text : List ℕ) → assigns_well (punctuator_sign text) ≡ true
unfolding punctuator_sign punctuator_signs
punctuators_well text = let all : AllHave assigns_well punctuator_signs = search in all_have assigns_well punctuator_signs sign.Other text all refl

sign_well : (aliases : Aliases) (kind : TokenKind) (text : List ℕ) → assigns_well (sign_of aliases kind text) ≡ true
unfolding sign_of word_sign
sign_well aliases Word text = words_well text _ (plain_word_well (is_reserved text) (list_any (bytes_eq text) aliases))
sign_well aliases (Number value unsigned) text = refl
sign_well aliases Text text = refl
sign_well aliases Punct text = punctuators_well text

well_in : (aliases : Aliases) (o : Option Lexeme) → assigns_well (sign_in aliases o) ≡ true
well_in aliases None = refl
well_in aliases (Some t) = sign_well aliases t.kind t.text

assigning : (s : Sign) (o : Option BinaryOp) → assigns_well s ≡ true → assigns s ≡ Some o → is_assigning o ≡ true
assigning sign.Equals o w e = let same : None ≡ o = cc in ap is_assigning (sym same)
assigning (sign.Assign x) o w e = let same : Some x ≡ o = cc in ap is_assigning (sym same) ∙ w
assigning _ o w e = cc

module _ (aliases : Aliases) (tokens : List Lexeme) where
  -- the operator of an assignment can be one
  pub assigning_at : (i : ℕ) (o : Option BinaryOp) → assigns (sign_at tokens aliases i) ≡ Some o → is_assigning o ≡ true
  unfolding sign_at
  assigning_at i o e = assigning (sign_in aliases (slice_get tokens i)) o (well_in aliases (slice_get tokens i)) e

  -- so can that of a `++` or a `--`
  pub stepping_at : (i : ℕ) (o : BinaryOp) → sign_at tokens aliases i ≡ sign.Step o → is_assigning (Some o) ≡ true
  unfolding sign_at
  stepping_at i o e = sym (ap assigns_well e) ∙ well_in aliases (slice_get tokens i)

module _ (aliases : Aliases) (tokens : List Lexeme) (real : AreTokensOfKinds tokens) where
  tag-in : (i : ℕ) (o : Option Lexeme) → slice_get tokens i ≡ o → is_tag (sign_in aliases o) ≡ true → is_tag_name (identifier_in o).text ≡ true
  tag-in i None at e = cc
  tag-in i (Some t) at e = let is = at_place tokens i t real at in of_tag_sign aliases t.kind t.text is.0 is.1 e

  -- a token that can be a tag is a name but for those of types
  pub tag_at : (i : ℕ) → is_tag (sign_at tokens aliases i) ≡ true → is_tag_name (identifier_at tokens i).text ≡ true
  unfolding sign_at identifier_at
  tag_at i e = tag-in i (slice_get tokens i) refl e

  type-in : (i : ℕ) (o : Option Lexeme) → slice_get tokens i ≡ o → sign_in aliases o ≡ sign.TypeName → is_alias_name aliases (identifier_in o).text ≡ true
  type-in i None at e = cc
  type-in i (Some t) at e = let is = at_place tokens i t real at in of_type_sign aliases t.kind t.text is.0 is.1 e

  pub type_at : (i : ℕ) → sign_at tokens aliases i ≡ sign.TypeName → is_alias_name aliases (identifier_at tokens i).text ≡ true
  unfolding sign_at identifier_at
  type_at i e = type-in i (slice_get tokens i) refl e

  text-in : (i : ℕ) (o : Option Lexeme) → slice_get tokens i ≡ o → sign_in aliases o ≡ sign.Text → list_all is_text_byte (unquoted (identifier_in o).text) ≡ true
  text-in i None at e = cc
  text-in i (Some t) at e = let is = at_place tokens i t real at in of_text_sign aliases t.kind t.text is.0 is.1 e

  -- between the quotes of a text stand bytes of a text
  pub text_at : (i : ℕ) → sign_at tokens aliases i ≡ sign.Text → list_all is_text_byte (unquoted (identifier_at tokens i).text) ≡ true
  unfolding sign_at identifier_at
  text_at i e = text-in i (slice_get tokens i) refl e
