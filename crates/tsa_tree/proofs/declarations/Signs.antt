-- What the kinds of tokens of declarations tell of the sign in sight.
use Rattle.std.proofs.Common.{ℕ, ◌≡◌, ◌∙◌, ap, sym, refl, List, [], ◌∷◌, slice_get, true, Some, arith}
use Rattle.std.proofs.lemmas.Bool.{eqb-true}
use Rattle.tsa_base.specs.Tokens.{Lexeme}
use Rattle.tsa_tree.specs.declared.expr.BinaryOp.TheVariants as op
use Rattle.tsa_tree.specs.declared.sign.Keyword.{Keyword}
use Rattle.tsa_tree.specs.declared.sign.Keyword.TheVariants as key
use Rattle.tsa_tree.specs.declared.sign.Sign.{Sign}
use Rattle.tsa_tree.specs.declared.sign.Sign.TheVariants as sign
use Rattle.tsa_tree.specs.tokens.Signs.{Aliases, sign_at, is_star}
use Rattle.tsa_tree.specs.Rows.{kind, a_keyword, a_star, sees, mark, keyword_number, is_keyword}

-- the keywords by their numbers
abbrev keywords : List Keyword
keywords =
    key.Typedef ∷ key.Struct ∷ key.Enum ∷ key.Static ∷ key.Extern ∷ key.Inline ∷ key.Const ∷ key.Int ∷ key.Unsigned ∷
    key.Signed ∷ key.Void ∷ key.If ∷ key.Else ∷ key.While ∷ key.Do ∷ key.For ∷ key.Switch ∷ key.Case ∷ key.Default ∷
    key.Break ∷ key.Continue ∷ key.Goto ∷ key.Return ∷ []

numbered : (word : Keyword) → slice_get keywords (keyword_number word) ≡ Some word
numbered key.Typedef = refl
numbered _ = refl

-- Keywords of the same number are the same.
same_keyword : (word other : Keyword) → keyword_number other ≡ keyword_number word → other ≡ word
same_keyword word other e =
    let h : Some other ≡ Some word = sym (numbered other) ∙ ap (slice_get keywords) e ∙ numbered word in cc

keyword_sign : (word : Keyword) (s : Sign) → is_keyword word s ≡ true → s ≡ sign.Keyword word
keyword_sign word (sign.Keyword other) e = ap sign.Keyword (same_keyword word other (eqb-true (keyword_number other) (keyword_number word) e))
keyword_sign word _ e = cc

star_sign : (s : Sign) → is_star s ≡ true → s ≡ sign.Operator op.Times
star_sign (sign.Operator op.Times) e = refl
star_sign _ e = cc

-- Punctuators have numbers of their own.
open_bracket_sign : (s : Sign) → mark s ≡ 8 → s ≡ sign.OpenBracket
open_bracket_sign sign.OpenBracket e = refl
open_bracket_sign _ e = absurd (omega (arith, e))

open_brace_sign : (s : Sign) → mark s ≡ 17 → s ≡ sign.OpenBrace
open_brace_sign sign.OpenBrace e = refl
open_brace_sign _ e = absurd (omega (arith, e))

semicolon_sign : (s : Sign) → mark s ≡ 19 → s ≡ sign.Semicolon
semicolon_sign sign.Semicolon e = refl
semicolon_sign _ e = absurd (omega (arith, e))

equals_sign : (s : Sign) → mark s ≡ 24 → s ≡ sign.Equals
equals_sign sign.Equals e = refl
equals_sign _ e = absurd (omega (arith, e))

colon_sign : (s : Sign) → mark s ≡ 20 → s ≡ sign.Colon
colon_sign sign.Colon e = refl
colon_sign _ e = absurd (omega (arith, e))

module _ (tokens : List Lexeme) (aliases : Aliases) where
  -- Where a kind is seen, its sign stands.
  pub shows_open_bracket : (at : ℕ) → sees tokens (kind aliases 7) at ≡ true → sign_at tokens aliases at ≡ sign.OpenBracket
  shows_open_bracket at e = open_bracket_sign (sign_at tokens aliases at) (eqb-true (mark (sign_at tokens aliases at)) 8 e)

  pub shows_open_brace : (at : ℕ) → sees tokens (kind aliases 16) at ≡ true → sign_at tokens aliases at ≡ sign.OpenBrace
  shows_open_brace at e = open_brace_sign (sign_at tokens aliases at) (eqb-true (mark (sign_at tokens aliases at)) 17 e)

  pub shows_semicolon : (at : ℕ) → sees tokens (kind aliases 18) at ≡ true → sign_at tokens aliases at ≡ sign.Semicolon
  shows_semicolon at e = semicolon_sign (sign_at tokens aliases at) (eqb-true (mark (sign_at tokens aliases at)) 19 e)

  pub shows_equals : (at : ℕ) → sees tokens (kind aliases 23) at ≡ true → sign_at tokens aliases at ≡ sign.Equals
  shows_equals at e = equals_sign (sign_at tokens aliases at) (eqb-true (mark (sign_at tokens aliases at)) 24 e)

  pub shows_keyword : (word : Keyword) (at : ℕ) → sees tokens (a_keyword aliases word) at ≡ true
      → sign_at tokens aliases at ≡ sign.Keyword word
  shows_keyword word at e = keyword_sign word (sign_at tokens aliases at) e

  pub shows_star : (at : ℕ) → sees tokens (a_star aliases) at ≡ true → sign_at tokens aliases at ≡ sign.Operator op.Times
  shows_star at e = star_sign (sign_at tokens aliases at) e

  pub shows_colon : (at : ℕ) → sees tokens (kind aliases 19) at ≡ true → sign_at tokens aliases at ≡ sign.Colon
  shows_colon at e = colon_sign (sign_at tokens aliases at) (eqb-true (mark (sign_at tokens aliases at)) 20 e)
