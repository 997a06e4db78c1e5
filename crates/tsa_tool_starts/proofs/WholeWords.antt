-- The tokens of a word are those of one expression, or of none.
use Rattle.std.proofs.Common.{◌≡◌, ◌∙◌, ℕ, List, [], Ok, Err, length, refl, sym, ap, subst}
use Rattle.std.proofs.lemmas.List.{length-map}
use Rattle.tsa_base.specs.Tokens.{Lexeme, lexeme}
use Rattle.tsa_base.specs.declared.token.Token.{Token}
use Rattle.tsa_expr.specs.declared.refusal.SyntaxCode.{SyntaxCode}
use Rattle.tsa_expr.specs.declared.refusal.SyntaxCode.TheVariants.{SY1, LM2}
use Rattle.tsa_expr.specs.declared.refusal.SyntaxRefusal.TheVariants.{At}
use Rattle.tsa_expr.specs.Gives.{IsOfExpressions}
use Rattle.tsa_grammar.specs.Reading.{Outcome, Refusal, syntax, deep, refuse}
use Rattle.tsa_tree.proofs.expressions.Answers.{one_answer}
use Rattle.tsa_tree.specs.expressions.Answers.{an_expression, IsLongest, IsBroken, IsTooDeep}
use Rattle.tsa_tree.specs.expressions.Syntax.{Expression}
use Rattle.tsa_tree.specs.tokens.Signs.{lexemes}
use Rattle.tsa_tool_starts.specs.Words.{IsWhole}

module _ (tokens : List Lexeme) where
  abbrev found : Expression → ℕ → Outcome Expression
  found e n = Ok (e, n)

  abbrev refused_at : Refusal → Outcome Expression
  refused_at r = Err r

  -- two lists that are the longest ones end at the same token, and spell the same
  both : (e x : Expression) (n m : ℕ) → IsLongest tokens [] an_expression 0 0 e n → IsLongest tokens [] an_expression 0 0 x m → found e n ≡ found x m
  both e x n m h k = one_answer tokens [] an_expression 0 0 (found e n) (found x m) h k

  same_pair : (x y : Expression × ℕ) → found x.0 x.1 ≡ found y.0 y.1 → x ≡ y
  same_pair x y h = cc

  pub same_end : (e x : Expression) (n m : ℕ) → IsLongest tokens [] an_expression 0 0 e n → IsLongest tokens [] an_expression 0 0 x m → n ≡ m
  same_end e x n m h k = ap (λ p. p.1) (same_pair (e, n) (x, m) (both e x n m h k))

  pub same_tree : (e x : Expression) → IsWhole tokens e → IsWhole tokens x → e ≡ x
  same_tree e x h k = ap (λ p. p.0) (same_pair (e, length tokens) (x, length tokens) (both e x (length tokens) (length tokens) h k))

  pub not_broken : (i : ℕ) (e : Expression) → IsBroken tokens [] an_expression 0 0 i → IsWhole tokens e → ⊥
  not_broken i e h k = let same = one_answer tokens [] an_expression 0 0 (refused_at (refuse syntax i)) (found e (length tokens)) h k in cc

  pub not_deep : (i : ℕ) (e : Expression) → IsTooDeep tokens [] an_expression 0 0 i → IsWhole tokens e → ⊥
  not_deep i e h k = let same = one_answer tokens [] an_expression 0 0 (refused_at (refuse deep i)) (found e (length tokens)) h k in cc

-- the last token is that of the text
module _ (tokens : List Token) where
  pub at_all : (e : Expression) (n : ℕ) → n ≡ length tokens → IsLongest (lexemes tokens) [] an_expression 0 0 e n → IsWhole (lexemes tokens) e
  at_all e n same h = subst (IsLongest (lexemes tokens) [] an_expression 0 0 e) (same ∙ sym (length-map tokens lexeme)) h

  pub not_all : (e x : Expression) (n : ℕ) → (n ≡ length tokens → ⊥) → IsLongest (lexemes tokens) [] an_expression 0 0 e n → IsWhole (lexemes tokens) x → ⊥
  not_all e x n other h k = other (same_end (lexemes tokens) e x n (length (lexemes tokens)) h k ∙ length-map tokens lexeme)

-- an expression is read, or refused for its tokens
pub refused : (tokens : List Lexeme) (code : SyntaxCode) (token : ℕ) → IsOfExpressions (At code token)
    → ((i : ℕ) → At code token ≡ At SY1 i → IsBroken tokens [] an_expression 0 0 i) → ((i : ℕ) → At code token ≡ At LM2 i → IsTooDeep tokens [] an_expression 0 0 i)
    → (e : Expression) → IsWhole tokens e → ⊥
refused tokens SY1 token own broken too_deep e h = not_broken tokens token e (broken token refl) h
refused tokens LM2 token own broken too_deep e h = not_deep tokens token e (too_deep token refl) h
refused tokens _ token own broken too_deep e h = absurd own
