-- Postfix operators after an operand.
use Rattle.std.proofs.Common.{ℕ, ◌+◌, ◌<◌, ◌≤◌, ◌≡◌, ◌≢◌, ◌∙◌, ap, refl, Bool, true, false, List, Some, Ok, Err, nat_eq}
use Rattle.tsa_base.specs.Tokens.{Lexeme}
use Rattle.tsa_grammar.proofs.Cases.{chosen, other, goes}
use Rattle.tsa_grammar.specs.Form.{done, token}
use Rattle.tsa_grammar.specs.Reading.{Outcome, refuse, syntax, deep, then, choose, follow}
use Rattle.tsa_tree.proofs.RowsRead.{read_steps}
use Rattle.tsa_tree.specs.declared.sign.Sign.{Sign}
use Rattle.tsa_tree.specs.declared.sign.Sign.TheVariants as sign
use Rattle.tsa_tree.specs.expressions.Answers.{below_limit}
use Rattle.tsa_tree.specs.expressions.Syntax.{Expression, field, index, height}
use Rattle.tsa_tree.specs.Reads.{read, read_behind}
use Rattle.tsa_tree.specs.Rows.{an_expression, expression, postfix, sees, mark, is_postfix, Row, a_name, a_close_bracket, postfix_row, post}
use Rattle.tsa_tree.specs.tokens.Signs.{Aliases, sign_at, span_over, identifier_at, access}
use Rattle.tsa_expr.specs.declared.refusal.SyntaxRefusal.{SyntaxRefusal}
use Rattle.tsa_expr.specs.Gives.{Fails}
use Rattle.tsa_expr.proofs.Answering.{fails_then, fails_same, gives_same, then_done, in_limit, over_limit, not_name, not_close_bracket}
use Rattle.tsa_expr.proofs.Answering.{not_postfix}
use Rattle.tsa_expr.proofs.Places.{sign_within, access_within}

module _ (ts : List Lexeme) (aliases : Aliases) where
  abbrev going : Row an_expression → ℕ → Outcome Expression
  going f m = follow (sees ts) below_limit (read ts) an_expression f m

  pub access_none : (d start : ℕ) (base : Expression) (m : ℕ) → sign_at ts aliases m ≢ sign.Dot → sign_at ts aliases m ≢ sign.Arrow → sign_at ts aliases m ≢ sign.OpenBracket
      → read_behind ts aliases d start base m ≡ Ok (base, m)
  unfolding read_behind
  access_none d start base m a b c = other _ _ _ (not_postfix (sign_at ts aliases m) a b c)

  access_at : (d start : ℕ) (base : Expression) (m : ℕ) (s : Sign) → sign_at ts aliases m ≡ s → is_postfix s ≡ true
      → read_behind ts aliases d start base m ≡ going (postfix_row ts aliases d start base m s) m
  unfolding read_behind
  access_at d start base m s e p =
      chosen _ _ _ (ap is_postfix e ∙ p) ∙ then_done _ ∙ read_steps ts an_expression (postfix aliases d start base) m
      ∙ ap (λ s. going (postfix_row ts aliases d start base m s) m) e

  -- members
  abbrev naming : (d start : ℕ) (base : Expression) (m : ℕ) → Bool → Outcome Expression
  naming d start base m arrow =
      choose (below_limit (height base))
      (choose (sees ts (a_name aliases) (m + 1))
      (read_behind ts aliases d start (field base (identifier_at ts (m + 1)) arrow (span_over ts start (m + 1 + 1))) (m + 1 + 1))
      (Err (refuse syntax (m + 1))))
      (Err (refuse deep m))

  member_sign : (d start : ℕ) (base : Expression) (m : ℕ) (arrow : Bool) (s : Sign) → sign_at ts aliases m ≡ s → access s ≡ Some arrow
      → read_behind ts aliases d start base m ≡ naming d start base m arrow
  unfolding read_behind
  member_sign d start base m arrow sign.Dot t e =
      let plain : false ≡ arrow = cc in
      access_at d start base m sign.Dot t refl
      ∙ ap (λ r. choose (below_limit (height base)) r (Err (refuse deep m))) (chosen _ _ _ (ap (λ s. nat_eq (mark s) 11) t))
      ∙ ap (naming d start base m) plain
  member_sign d start base m arrow sign.Arrow t e =
      let behind : true ≡ arrow = cc in
      access_at d start base m sign.Arrow t refl
      ∙ ap (λ r. choose (below_limit (height base)) r (Err (refuse deep m))) (chosen _ _ _ (ap (λ s. nat_eq (mark s) 12) t))
      ∙ ap (naming d start base m) behind
  member_sign d start base m arrow _ t e = cc

  member_at : (d start : ℕ) (base : Expression) (m : ℕ) (arrow : Bool) → access (sign_at ts aliases m) ≡ Some arrow
      → read_behind ts aliases d start base m ≡ naming d start base m arrow
  member_at d start base m arrow e = member_sign d start base m arrow (sign_at ts aliases m) refl e

  pub member_high : (d start : ℕ) (base : Expression) (m : ℕ) (arrow : Bool) → access (sign_at ts aliases m) ≡ Some arrow → 100 ≤ height base
      → read_behind ts aliases d start base m ≡ Err (refuse deep m)
  member_high d start base m arrow e h = member_at d start base m arrow e ∙ other _ _ _ (over_limit (height base) h)

  pub member_nameless : (d start : ℕ) (base : Expression) (m : ℕ) (arrow : Bool) → access (sign_at ts aliases m) ≡ Some arrow → height base < 100
      → sign_at ts aliases (m + 1) ≢ sign.Name → read_behind ts aliases d start base m ≡ Err (refuse syntax (m + 1))
  member_nameless d start base m arrow e h n =
      member_at d start base m arrow e ∙ chosen _ _ _ (in_limit (height base) h) ∙ other _ _ _ (not_name (sign_at ts aliases (m + 1)) n)

  pub member_leads : (d start : ℕ) (base : Expression) (m : ℕ) (arrow : Bool) → access (sign_at ts aliases m) ≡ Some arrow → height base < 100
      → sign_at ts aliases (m + 1) ≡ sign.Name
      → read_behind ts aliases d start base m ≡ read_behind ts aliases d start (field base (identifier_at ts (m + 1)) arrow (span_over ts start (m + 1 + 1))) (m + 1 + 1)
  member_leads d start base m arrow e h n =
      member_at d start base m arrow e ∙ chosen _ _ _ (in_limit (height base) h) ∙ chosen _ _ _ (ap (λ s. nat_eq (mark s) 3) n)

  -- indices
  bracket_at : (d start : ℕ) (base : Expression) (m : ℕ) → sign_at ts aliases m ≡ sign.OpenBracket
      → read_behind ts aliases d start base m ≡ going (postfix_row ts aliases d start base m sign.OpenBracket) m
  bracket_at d start base m e = access_at d start base m sign.OpenBracket e refl

  pub index_high : (d start : ℕ) (base : Expression) (m : ℕ) → sign_at ts aliases m ≡ sign.OpenBracket → 100 ≤ height base
      → read_behind ts aliases d start base m ≡ Err (refuse deep m)
  index_high d start base m e h = bracket_at d start base m e ∙ other _ _ _ (over_limit (height base) h)

  pub index_deep : (d start : ℕ) (base : Expression) (m : ℕ) → sign_at ts aliases m ≡ sign.OpenBracket → height base < 100 → 100 ≤ d
      → read_behind ts aliases d start base m ≡ Err (refuse deep m)
  index_deep d start base m e h o =
      bracket_at d start base m e ∙ chosen _ _ _ (in_limit (height base) h) ∙ other _ _ _ (over_limit d o)

  index_at : (d start : ℕ) (base : Expression) (m : ℕ) → sign_at ts aliases m ≡ sign.OpenBracket → height base < 100 → d < 100
      → read_behind ts aliases d start base m ≡ then (read ts an_expression (expression aliases (d + 1) 0) (m + 1)) (λ i n. going (token (a_close_bracket aliases)
      (post ts aliases d start (index base i (span_over ts start (n + 1))) (n + 1) (λ x e. done x))) n)
  index_at d start base m e h o =
      bracket_at d start base m e ∙ chosen _ _ _ (in_limit (height base) h) ∙ chosen _ _ _ (in_limit d o)
      ∙ chosen _ _ _ (ap (λ s. nat_eq (mark s) 8) e)

  pub index_fails : (d start : ℕ) (base : Expression) (m : ℕ) (e : SyntaxRefusal) → sign_at ts aliases m ≡ sign.OpenBracket → height base < 100 → d < 100
      → Fails e (read ts an_expression (expression aliases (d + 1) 0) (m + 1)) → Fails e (read_behind ts aliases d start base m)
  index_fails d start base m e s h o f = fails_same e _ _ (index_at d start base m s h o) (fails_then e _ _ f)

  pub index_unclosed : (d start : ℕ) (base : Expression) (m : ℕ) (i : Expression) (n : ℕ) → sign_at ts aliases m ≡ sign.OpenBracket → height base < 100 → d < 100
      → read ts an_expression (expression aliases (d + 1) 0) (m + 1) ≡ Ok (i, n) → sign_at ts aliases n ≢ sign.CloseBracket
      → read_behind ts aliases d start base m ≡ Err (refuse syntax n)
  index_unclosed d start base m i n s h o e c =
      index_at d start base m s h o ∙ goes _ _ i n e ∙ other _ _ _ (not_close_bracket (sign_at ts aliases n) c)

  pub index_leads : (d start : ℕ) (base : Expression) (m : ℕ) (i : Expression) (n : ℕ) → sign_at ts aliases m ≡ sign.OpenBracket → height base < 100 → d < 100
      → read ts an_expression (expression aliases (d + 1) 0) (m + 1) ≡ Ok (i, n) → sign_at ts aliases n ≡ sign.CloseBracket
      → read_behind ts aliases d start base m ≡ read_behind ts aliases d start (index base i (span_over ts start (n + 1))) (n + 1)
  unfolding read_behind
  index_leads d start base m i n s h o e c =
      index_at d start base m s h o ∙ goes _ _ i n e ∙ chosen _ _ _ (ap (λ s. nat_eq (mark s) 9) c)

pub ruleset accesses = (access_none, fails_same, gives_same)

pub ruleset members = (member_high, member_nameless, member_leads, access_within)

pub ruleset elements = (index_high, index_deep, index_fails, index_unclosed, index_leads, sign_within)
