-- The comma or the `;` after a declaration.
use Rattle.std.proofs.Common.{ℕ, ◌+◌, ◌≡◌, ◌≢◌, ◌∙◌, ap, true, false, List, Ok, Err, nat_eq}
use Rattle.tsa_base.specs.Tokens.{Lexeme}
use Rattle.tsa_grammar.proofs.Cases.{chosen, other}
use Rattle.tsa_grammar.specs.Reading.{refuse, syntax}
use Rattle.tsa_tree.specs.declared.sign.Sign.TheVariants as sign
use Rattle.tsa_tree.specs.Rows.{mark}
use Rattle.tsa_tree.specs.tokens.Signs.{Aliases, sign_at}
use Rattle.tsa_expr.proofs.Answering.{not_comma}
use Rattle.tsa_decl_declarators.specs.Outcomes.{delimiter_at}
use Rattle.tsa_decl_declarators.proofs.TokenLaws.{not_semicolon}

module _ (ts : List Lexeme) (aliases : Aliases) where
  pub delimiter_comma : (m : ℕ) → sign_at ts aliases m ≡ sign.Comma → delimiter_at ts aliases m ≡ Ok (true, m + 1)
  unfolding delimiter_at
  delimiter_comma m e = chosen _ _ _ (ap (λ s. nat_eq (mark s) 10) e)

  pub delimiter_ends : (m : ℕ) → sign_at ts aliases m ≡ sign.Semicolon → delimiter_at ts aliases m ≡ Ok (false, m + 1)
  unfolding delimiter_at
  delimiter_ends m e = other _ _ _ (ap (λ s. nat_eq (mark s) 10) e) ∙ chosen _ _ _ (ap (λ s. nat_eq (mark s) 19) e)

  pub delimiter_wrong : (m : ℕ) → sign_at ts aliases m ≢ sign.Comma → sign_at ts aliases m ≢ sign.Semicolon
      → delimiter_at ts aliases m ≡ Err (refuse syntax m)
  unfolding delimiter_at
  delimiter_wrong m a b = other _ _ _ (not_comma (sign_at ts aliases m) a) ∙ other _ _ _ (not_semicolon (sign_at ts aliases m) b)

pub ruleset delimiters = (delimiter_comma, delimiter_ends, delimiter_wrong)
