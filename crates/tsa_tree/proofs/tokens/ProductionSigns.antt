-- What the kinds of tokens and the tests of operators tell of the sign in sight.
use Rattle.std.proofs.Common.{ℕ, suc, ◌+◌, ◌<◌, ◌≤◌, ◌≡◌, ◌∙◌, ap, refl, List, [], ◌∷◌, slice_get, Bool, true, false, Some, arith, ◌⊎◌, inl}
use Rattle.std.proofs.Common.{inr}
use Rattle.std.proofs.lemmas.Bool.{eq-eqb, eqb-true}
use Rattle.tsa_base.specs.Tokens.{Lexeme}
use Rattle.tsa_tree.specs.declared.expr.UnaryOp.{UnaryOp}
use Rattle.tsa_tree.specs.declared.expr.BinaryOp.{BinaryOp}
use Rattle.tsa_tree.specs.declared.expr.BinaryOp.TheVariants as op
use Rattle.tsa_tree.specs.declared.sign.Sign.{Sign}
use Rattle.tsa_tree.specs.declared.sign.Sign.TheVariants as sign
use Rattle.tsa_tree.specs.tokens.Signs.{Aliases, sign_at, operator, prefix, level, access}
use Rattle.tsa_tree.specs.Rows.{Row, an_expression, kind, sees, mark, tightest, prefix_row, operand_row}

-- every operator is less tight than an operand
pub level_low : (o : BinaryOp) → level o + 1 ≤ tightest
level_low op.Or = omega arith
level_low op.And = omega arith
level_low op.BitOr = omega arith
level_low op.BitXor = omega arith
level_low op.BitAnd = omega arith
level_low op.Equal = omega arith
level_low op.Unequal = omega arith
level_low op.Less = omega arith
level_low op.More = omega arith
level_low op.LessEqual = omega arith
level_low op.MoreEqual = omega arith
level_low op.Plus = omega arith
level_low op.Minus = omega arith
level_low op.Times = omega arith
level_low op.Divide = omega arith
level_low op.Remainder = omega arith

-- The signs that are no operators, by their numbers.
abbrev signs : List Sign
signs =
    sign.End ∷ sign.Other ∷ sign.TypeName ∷ sign.Name ∷ sign.Number ∷ sign.Null ∷ sign.Open ∷ sign.Close ∷
    sign.OpenBracket ∷ sign.CloseBracket ∷ sign.Comma ∷ sign.Dot ∷ sign.Arrow ∷ sign.Not ∷ sign.Flip ∷ []

marked : (s : Sign) (n : ℕ) → mark s ≡ n → n < 15 → Some s ≡ slice_get signs n
marked sign.End n e lt = ap (slice_get signs) e
marked sign.Other n e lt = ap (slice_get signs) e
marked sign.TypeName n e lt = ap (slice_get signs) e
marked sign.Name n e lt = ap (slice_get signs) e
marked sign.Number n e lt = ap (slice_get signs) e
marked sign.Null n e lt = ap (slice_get signs) e
marked sign.Open n e lt = ap (slice_get signs) e
marked sign.Close n e lt = ap (slice_get signs) e
marked sign.OpenBracket n e lt = ap (slice_get signs) e
marked sign.CloseBracket n e lt = ap (slice_get signs) e
marked sign.Comma n e lt = ap (slice_get signs) e
marked sign.Dot n e lt = ap (slice_get signs) e
marked sign.Arrow n e lt = ap (slice_get signs) e
marked sign.Not n e lt = ap (slice_get signs) e
marked sign.Flip n e lt = ap (slice_get signs) e
marked _ n e lt = absurd (omega (arith, e))

-- A text and a closing brace have numbers of their own.
text_sign : (s : Sign) → mark s ≡ 16 → s ≡ sign.Text
text_sign sign.Text e = refl
text_sign _ e = absurd (omega (arith, e))

brace_sign : (s : Sign) → mark s ≡ 18 → s ≡ sign.CloseBrace
brace_sign sign.CloseBrace e = refl
brace_sign _ e = absurd (omega (arith, e))

-- What is an operator has an operator's sign.
pub operator_sign : (s : Sign) (o : BinaryOp) → operator s ≡ Some o → s ≡ sign.Operator o
operator_sign (sign.Operator p) o e = ap sign.Operator (let q : p ≡ o = cc in q)
operator_sign _ o e = cc

-- What asks for a member is a dot or an arrow.
pub access_sign : (s : Sign) (arrow : Bool) → access s ≡ Some arrow → ((s ≡ sign.Dot) × (false ≡ arrow)) ⊎ ((s ≡ sign.Arrow) × (true ≡ arrow))
access_sign sign.Dot arrow e = inl (refl, (let q : false ≡ arrow = cc in q))
access_sign sign.Arrow arrow e = inr (refl, (let q : true ≡ arrow = cc in q))
access_sign _ arrow e = absurd cc

module _ (tokens : List Lexeme) (aliases : Aliases) where
  -- A kind of tokens is seen where its sign stands.
  pub seen : (k at : ℕ) (s : Sign) → sign_at tokens aliases at ≡ s → mark s ≡ suc k → sees tokens (kind aliases k) at ≡ true
  seen k at s e m = eq-eqb (mark (sign_at tokens aliases at)) (suc k) (ap mark e ∙ m)

  shown : (k at : ℕ) → sees tokens (kind aliases k) at ≡ true → suc k < 15 → Some (sign_at tokens aliases at) ≡ slice_get signs (suc k)
  shown k at e lt = marked (sign_at tokens aliases at) (suc k) (eqb-true (mark (sign_at tokens aliases at)) (suc k) e) lt

  -- Where a kind is seen, its sign stands.
  pub shows_name : (at : ℕ) → sees tokens (kind aliases 2) at ≡ true → sign_at tokens aliases at ≡ sign.Name
  shows_name at e = let h : Some (sign_at tokens aliases at) ≡ Some sign.Name = shown 2 at e (omega arith) in cc

  pub shows_open : (at : ℕ) → sees tokens (kind aliases 5) at ≡ true → sign_at tokens aliases at ≡ sign.Open
  shows_open at e = let h : Some (sign_at tokens aliases at) ≡ Some sign.Open = shown 5 at e (omega arith) in cc

  pub shows_close : (at : ℕ) → sees tokens (kind aliases 6) at ≡ true → sign_at tokens aliases at ≡ sign.Close
  shows_close at e = let h : Some (sign_at tokens aliases at) ≡ Some sign.Close = shown 6 at e (omega arith) in cc

  pub shows_close_bracket : (at : ℕ) → sees tokens (kind aliases 8) at ≡ true → sign_at tokens aliases at ≡ sign.CloseBracket
  shows_close_bracket at e = let h : Some (sign_at tokens aliases at) ≡ Some sign.CloseBracket = shown 8 at e (omega arith) in cc

  pub shows_comma : (at : ℕ) → sees tokens (kind aliases 9) at ≡ true → sign_at tokens aliases at ≡ sign.Comma
  shows_comma at e = let h : Some (sign_at tokens aliases at) ≡ Some sign.Comma = shown 9 at e (omega arith) in cc

  pub shows_text : (at : ℕ) → sees tokens (kind aliases 15) at ≡ true → sign_at tokens aliases at ≡ sign.Text
  shows_text at e = text_sign (sign_at tokens aliases at) (eqb-true (mark (sign_at tokens aliases at)) 16 e)

  pub shows_close_brace : (at : ℕ) → sees tokens (kind aliases 17) at ≡ true → sign_at tokens aliases at ≡ sign.CloseBrace
  shows_close_brace at e = brace_sign (sign_at tokens aliases at) (eqb-true (mark (sign_at tokens aliases at)) 18 e)

  -- The row of an operand that a prefix operator begins.
  abbrev pub prefix_form : (d m k : ℕ) → UnaryOp → Row an_expression
  prefix_form d m k op = prefix_row tokens aliases d m (kind aliases k) (Some op)

  pub prefix_sign : (s : Sign) (o : UnaryOp) → prefix s ≡ Some o
      → (k : ℕ) × (mark s ≡ suc k) × ((d m : ℕ) → operand_row tokens aliases d m s ≡ prefix_form d m k o)
  prefix_sign sign.Not o e = (12, refl, λ d m. ap (prefix_row tokens aliases d m (kind aliases 12)) e)
  prefix_sign sign.Flip o e = (13, refl, λ d m. ap (prefix_row tokens aliases d m (kind aliases 13)) e)
  prefix_sign (sign.Operator p) o e = (14, refl, λ d m. ap (prefix_row tokens aliases d m (kind aliases 14)) e)
  prefix_sign _ o e = absurd cc
