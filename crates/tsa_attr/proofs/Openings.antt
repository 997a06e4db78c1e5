-- Parentheses and other single tokens.
use Rattle.std.proofs.Common.{ℕ, ◌+◌, ◌<◌, ◌≤◌, ◌≡◌, ◌≢◌, ◌∙◌, ap, List, Ok, Err, nat_eq}
use Rattle.tsa_base.specs.Tokens.{Lexeme}
use Rattle.tsa_grammar.proofs.Cases.{chosen, other}
use Rattle.tsa_grammar.specs.Reading.{Outcome, refuse, syntax, deep, then, follow}
use Rattle.tsa_tree.specs.declared.sign.Sign.TheVariants as sign
use Rattle.tsa_tree.specs.expressions.Answers.{below_limit}
use Rattle.tsa_tree.specs.Reads.{read}
use Rattle.tsa_tree.specs.Rows.{Sort, Node, Row, an_open, a_close, sees, mark, opens}
use Rattle.tsa_tree.specs.tokens.Signs.{Aliases, sign_at}
use Rattle.tsa_expr.proofs.Answering.{in_limit, over_limit, not_open, not_close}
use Rattle.tsa_attr.specs.Outcomes.{one_token, opening}
use Rattle.tsa_attr.proofs.Joining.{opens-law}

module _ (ts : List Lexeme) where
  abbrev pub going : (s : Sort) → Row s → ℕ → Outcome (Node s)
  going s f m = follow (sees ts) below_limit (read ts) s f m

module _ (ts : List Lexeme) (aliases : Aliases) where
  pub open_wrong : (d m : ℕ) → sign_at ts aliases m ≢ sign.Open → opening ts aliases d m ≡ Err (refuse syntax m)
  unfolding opening
  open_wrong d m h = other _ _ _ (not_open (sign_at ts aliases m) h)

  pub open_deep : (d m : ℕ) → sign_at ts aliases m ≡ sign.Open → 100 ≤ d → opening ts aliases d m ≡ Err (refuse deep m)
  unfolding opening
  open_deep d m e h = chosen _ _ _ (ap (λ s. nat_eq (mark s) 6) e) ∙ other _ _ _ (over_limit d h)

  pub open_goes : (d m : ℕ) → sign_at ts aliases m ≡ sign.Open → d < 100 → opening ts aliases d m ≡ Ok (tt, m + 1)
  unfolding opening
  open_goes d m e h = chosen _ _ _ (ap (λ s. nat_eq (mark s) 6) e) ∙ chosen _ _ _ (in_limit d h)

  pub close_wrong : (m : ℕ) → sign_at ts aliases m ≢ sign.Close → one_token ts (a_close aliases) m ≡ Err (refuse syntax m)
  unfolding one_token
  close_wrong m h = other _ _ _ (not_close (sign_at ts aliases m) h)

  pub close_goes : (m : ℕ) → sign_at ts aliases m ≡ sign.Close → one_token ts (a_close aliases) m ≡ Ok (tt, m + 1)
  unfolding one_token
  close_goes m e = chosen _ _ _ (ap (λ s. nat_eq (mark s) 7) e)

  pub opens_at : (s : Sort) (d m : ℕ) (rest : Row s) → going ts s (opens ts aliases d m rest) m ≡ then (opening ts aliases d m) (λ u n. going ts s rest (m + 1))
  unfolding opening
  opens_at s d m rest = opens-law (sees ts (an_open aliases) m) (below_limit d) m (going ts s rest (m + 1)) (going ts s rest (m + 1))

pub ruleset openings = (open_wrong, open_deep, open_goes)

pub ruleset closings = (close_wrong, close_goes)
