-- What stands at a place, by its sign.
use Rattle.std.proofs.Common.{ℕ, ◌+◌, ◌<◌, ◌≤◌, ◌≡◌, ◌≢◌, ◌∙◌, ap, refl, sym, true, false, List, Ok, Err, nat_eq}
use Rattle.tsa_base.specs.Tokens.{Lexeme}
use Rattle.tsa_grammar.proofs.Cases.{chosen, other}
use Rattle.tsa_grammar.specs.Reading.{refuse, syntax, deep}
use Rattle.tsa_tree.specs.declared.sign.Sign.{Sign}
use Rattle.tsa_tree.specs.declared.sign.Sign.TheVariants as sign
use Rattle.tsa_tree.specs.expressions.Syntax.{Identifier}
use Rattle.tsa_tree.specs.Rows.{a_semicolon, mark}
use Rattle.tsa_tree.specs.tokens.Signs.{Aliases, sign_at, identifier_at, is_tag}
use Rattle.tsa_expr.proofs.Answering.{in_limit, over_limit, not_name, not_open}
use Rattle.tsa_decl_declarators.specs.Outcomes.{one_token, opening, opening_brace, name_at, tag_at}

pub not_open_brace : (s : Sign) → s ≢ sign.OpenBrace → nat_eq (mark s) 17 ≡ false
not_open_brace sign.OpenBrace h = absurd (h refl)
not_open_brace _ h = refl

pub not_semicolon : (s : Sign) → s ≢ sign.Semicolon → nat_eq (mark s) 19 ≡ false
not_semicolon sign.Semicolon h = absurd (h refl)
not_semicolon _ h = refl

pub not_equals : (s : Sign) → s ≢ sign.Equals → nat_eq (mark s) 24 ≡ false
not_equals sign.Equals h = absurd (h refl)
not_equals _ h = refl

not_tag : (s : Sign) → s ≢ sign.Name → s ≢ sign.TypeName → is_tag s ≡ false
not_tag sign.Name a b = absurd (a refl)
not_tag sign.TypeName a b = absurd (b refl)
not_tag _ a b = refl

module _ (ts : List Lexeme) (aliases : Aliases) where
  pub name_wrong : (m : ℕ) → sign_at ts aliases m ≢ sign.Name → name_at ts aliases m ≡ Err (refuse syntax m)
  unfolding name_at
  name_wrong m h = other _ _ _ (not_name (sign_at ts aliases m) h)

  pub name_goes : (m : ℕ) (x : Identifier) → sign_at ts aliases m ≡ sign.Name → x ≡ identifier_at ts m → name_at ts aliases m ≡ Ok (x, m + 1)
  unfolding name_at
  name_goes m x e h = chosen _ _ _ (ap (λ s. nat_eq (mark s) 3) e) ∙ ap (λ x. Ok (x, m + 1)) (sym h)

  pub tag_wrong : (m : ℕ) → sign_at ts aliases m ≢ sign.Name → sign_at ts aliases m ≢ sign.TypeName → tag_at ts aliases m ≡ Err (refuse syntax m)
  unfolding tag_at
  tag_wrong m a b = other _ _ _ (not_tag (sign_at ts aliases m) a b)

  pub tag_goes : (m : ℕ) (x : Identifier) → is_tag (sign_at ts aliases m) ≡ true → x ≡ identifier_at ts m → tag_at ts aliases m ≡ Ok (x, m + 1)
  unfolding tag_at
  tag_goes m x e h = chosen _ _ _ e ∙ ap (λ x. Ok (x, m + 1)) (sym h)

  pub semicolon_wrong : (m : ℕ) → sign_at ts aliases m ≢ sign.Semicolon → one_token ts (a_semicolon aliases) m ≡ Err (refuse syntax m)
  unfolding one_token
  semicolon_wrong m h = other _ _ _ (not_semicolon (sign_at ts aliases m) h)

  pub semicolon_goes : (m : ℕ) → sign_at ts aliases m ≡ sign.Semicolon → one_token ts (a_semicolon aliases) m ≡ Ok (tt, m + 1)
  unfolding one_token
  semicolon_goes m e = chosen _ _ _ (ap (λ s. nat_eq (mark s) 19) e)

  pub open_wrong : (d m : ℕ) → sign_at ts aliases m ≢ sign.Open → opening ts aliases d m ≡ Err (refuse syntax m)
  unfolding opening
  open_wrong d m h = other _ _ _ (not_open (sign_at ts aliases m) h)

  pub open_deep : (d m : ℕ) → sign_at ts aliases m ≡ sign.Open → 100 ≤ d → opening ts aliases d m ≡ Err (refuse deep m)
  unfolding opening
  open_deep d m e h = chosen _ _ _ (ap (λ s. nat_eq (mark s) 6) e) ∙ other _ _ _ (over_limit d h)

  pub open_goes : (d m : ℕ) → sign_at ts aliases m ≡ sign.Open → d < 100 → opening ts aliases d m ≡ Ok (tt, m + 1)
  unfolding opening
  open_goes d m e h = chosen _ _ _ (ap (λ s. nat_eq (mark s) 6) e) ∙ chosen _ _ _ (in_limit d h)

  pub brace_wrong : (d m : ℕ) → sign_at ts aliases m ≢ sign.OpenBrace → opening_brace ts aliases d m ≡ Err (refuse syntax m)
  unfolding opening_brace
  brace_wrong d m h = other _ _ _ (not_open_brace (sign_at ts aliases m) h)

  pub brace_deep : (d m : ℕ) → sign_at ts aliases m ≡ sign.OpenBrace → 100 ≤ d → opening_brace ts aliases d m ≡ Err (refuse deep m)
  unfolding opening_brace
  brace_deep d m e h = chosen _ _ _ (ap (λ s. nat_eq (mark s) 17) e) ∙ other _ _ _ (over_limit d h)

  pub brace_goes : (d m : ℕ) → sign_at ts aliases m ≡ sign.OpenBrace → d < 100 → opening_brace ts aliases d m ≡ Ok (tt, m + 1)
  unfolding opening_brace
  brace_goes d m e h = chosen _ _ _ (ap (λ s. nat_eq (mark s) 17) e) ∙ chosen _ _ _ (in_limit d h)

pub ruleset names = (name_wrong, name_goes)

pub ruleset tags = (tag_wrong, tag_goes)

pub ruleset semicolons = (semicolon_wrong, semicolon_goes)

pub ruleset openings = (open_wrong, open_deep, open_goes)

pub ruleset opening_braces = (brace_wrong, brace_deep, brace_goes)
