-- The rows spell and begin balanced tokens wherever the productions do.
use Rattle.std.proofs.Common.{ℕ, ◌+◌, ◌≡◌, ap, sym, subst, refl, List, Bool, true, None}
use Rattle.tsa_base.specs.Tokens.{Lexeme}
use Rattle.tsa_base.proofs.Truths.{never_true as never}
use Rattle.tsa_tree.specs.declared.sign.Sign.{Sign}
use Rattle.tsa_tree.specs.declared.sign.Sign.TheVariants as sign
use Rattle.tsa_tree.specs.tokens.Signs.{Aliases, sign_at, is_plain_sign}
use Rattle.tsa_tree.specs.attributes.Spelling.{IsBalanced, of_nothing, of_token, of_parentheses, of_brackets, of_braces}
use Rattle.tsa_tree.specs.attributes.Beginnings.{BeginsBalanced, begins_balanced, begins_parentheses, begins_brackets, begins_braces}
use Rattle.tsa_tree.specs.Rows.{a_skip, balanced, Closer, closer_kind, closing_parenthesis, closing_bracket, closing_brace, kind, a_plain}
use Rattle.tsa_tree.specs.Rows.{sees, Row, balanced_row, rule}
use Rattle.tsa_tree.proofs.tokens.ProductionSigns.{seen}
use Rattle.tsa_grammar.specs.Form.{done, token, part}
use Rattle.tsa_grammar.specs.Spelling as forms
use Rattle.tsa_grammar.specs.Spelling.{by_rule, goes_done, goes_token, goes_part, goes_limit, goes_left, goes_right, begins_rule}
use Rattle.tsa_grammar.specs.Spelling.{starts_here, starts_token, starts_in, starts_over, starts_limit, starts_right}

module _ (tokens : List Lexeme) (aliases : Aliases) (fits : ℕ → Bool) where
  abbrev pub Skips : (d : ℕ) (closer : Closer) (a b : ℕ) → Type 0
  Skips d closer a b = forms.Spells (rule tokens) (sees tokens) fits a_skip (balanced aliases d closer) tt a b

  abbrev pub Skipping : (d : ℕ) (closer : Closer) (a b : ℕ) → Type 0
  Skipping d closer a b = forms.Begins (rule tokens) (sees tokens) fits a_skip (balanced aliases d closer) a b None

  -- A token that opens and closes nothing has the row of such tokens.
  abbrev Plain : (d : ℕ) (closer : Closer) → Row a_skip
  Plain d closer = token (a_plain aliases) (part a_skip (balanced aliases d closer) (λ u e. done tt))

  plain_row : (d : ℕ) (closer : Closer) (m : ℕ) (s : Sign) → is_plain_sign s ≡ true → balanced_row tokens aliases d closer m s ≡ Plain d closer
  plain_row d closer m sign.Open e = never e
  plain_row d closer m sign.OpenBracket e = never e
  plain_row d closer m sign.OpenBrace e = never e
  plain_row d closer m _ e = refl

  skips_by : (d : ℕ) (closer : Closer) (a b : ℕ) (f : Row a_skip) → balanced_row tokens aliases d closer a (sign_at tokens aliases a) ≡ f
      → forms.Goes (rule tokens) (sees tokens) fits a_skip f tt a b → Skips d closer a b
  skips_by d closer a b f e g = by_rule (goes_right (subst (λ f. forms.Goes (rule tokens) (sees tokens) fits a_skip f tt a b) (sym e) g))

  skipping_by : (d : ℕ) (closer : Closer) (a b : ℕ) (f : Row a_skip) → balanced_row tokens aliases d closer a (sign_at tokens aliases a) ≡ f
      → forms.Starts (rule tokens) (sees tokens) fits a_skip f a b None → Skipping d closer a b
  skipping_by d closer a b f e g =
      begins_rule (starts_right (subst (λ f. forms.Starts (rule tokens) (sees tokens) fits a_skip f a b None) (sym e) g))

  -- The row of the sign at a place.
  row_of : (d : ℕ) (closer : Closer) (a : ℕ) (s : Sign) → sign_at tokens aliases a ≡ s
      → balanced_row tokens aliases d closer a (sign_at tokens aliases a) ≡ balanced_row tokens aliases d closer a s
  row_of d closer a s e = ap (balanced_row tokens aliases d closer a) e

  -- The rows spell balanced tokens with the token that closes them.
  pub balanced_rows : {d a b : ℕ} → IsBalanced tokens aliases fits d a b → (closer : Closer)
      → sees tokens (kind aliases (closer_kind closer)) b ≡ true → Skips d closer a (b + 1)
  balanced_rows of_nothing closer s = by_rule (goes_left (goes_token s goes_done))
  balanced_rows {d = d} {a = a} {b = b} (of_token q i) closer s =
      skips_by d closer a (b + 1) (Plain d closer) (plain_row d closer a (sign_at tokens aliases a) q)
      (goes_token q (goes_part (balanced_rows i closer s) goes_done))
  balanced_rows {d = d} {a = a} {b = b} (of_parentheses {m = m} q fit i close r) closer s =
      skips_by d closer a (b + 1) _ (row_of d closer a sign.Open q)
      (goes_limit fit (goes_token (seen tokens aliases 5 a sign.Open q refl)
      (goes_part (balanced_rows i closing_parenthesis (seen tokens aliases 6 m sign.Close close refl))
      (goes_part (balanced_rows r closer s) goes_done))))
  balanced_rows {d = d} {a = a} {b = b} (of_brackets {m = m} q fit i close r) closer s =
      skips_by d closer a (b + 1) _ (row_of d closer a sign.OpenBracket q)
      (goes_limit fit (goes_token (seen tokens aliases 7 a sign.OpenBracket q refl)
      (goes_part (balanced_rows i closing_bracket (seen tokens aliases 8 m sign.CloseBracket close refl))
      (goes_part (balanced_rows r closer s) goes_done))))
  balanced_rows {d = d} {a = a} {b = b} (of_braces {m = m} q fit i close r) closer s =
      skips_by d closer a (b + 1) _ (row_of d closer a sign.OpenBrace q)
      (goes_limit fit (goes_token (seen tokens aliases 16 a sign.OpenBrace q refl)
      (goes_part (balanced_rows i closing_brace (seen tokens aliases 17 m sign.CloseBrace close refl))
      (goes_part (balanced_rows r closer s) goes_done))))

  -- What begins more of them after balanced tokens begins them.
  behind_balanced : {d a m : ℕ} → IsBalanced tokens aliases fits d a m → (closer : Closer) (b : ℕ) → Skipping d closer m b → Skipping d closer a b
  behind_balanced of_nothing closer b h = h
  behind_balanced {d = d} {a = a} (of_token q i) closer b h =
      skipping_by d closer a b (Plain d closer) (plain_row d closer a (sign_at tokens aliases a) q)
      (starts_token q (starts_in (behind_balanced i closer b h)))
  behind_balanced {d = d} {a = a} (of_parentheses {m = m} q fit i close r) closer b h =
      skipping_by d closer a b _ (row_of d closer a sign.Open q)
      (starts_limit fit (starts_token (seen tokens aliases 5 a sign.Open q refl)
      (starts_over (balanced_rows i closing_parenthesis (seen tokens aliases 6 m sign.Close close refl))
      (starts_in (behind_balanced r closer b h)))))
  behind_balanced {d = d} {a = a} (of_brackets {m = m} q fit i close r) closer b h =
      skipping_by d closer a b _ (row_of d closer a sign.OpenBracket q)
      (starts_limit fit (starts_token (seen tokens aliases 7 a sign.OpenBracket q refl)
      (starts_over (balanced_rows i closing_bracket (seen tokens aliases 8 m sign.CloseBracket close refl))
      (starts_in (behind_balanced r closer b h)))))
  behind_balanced {d = d} {a = a} (of_braces {m = m} q fit i close r) closer b h =
      skipping_by d closer a b _ (row_of d closer a sign.OpenBrace q)
      (starts_limit fit (starts_token (seen tokens aliases 16 a sign.OpenBrace q refl)
      (starts_over (balanced_rows i closing_brace (seen tokens aliases 17 m sign.CloseBrace close refl))
      (starts_in (behind_balanced r closer b h)))))

  -- What begins balanced tokens does so by the rows, whichever token closes them.
  pub balanced_begins : {d a b : ℕ} → BeginsBalanced tokens aliases fits d a b → (closer : Closer) → Skipping d closer a b
  balanced_begins {b = b} (begins_balanced i) closer = behind_balanced i closer b (begins_rule starts_here)
  balanced_begins {d = d} {b = b} (begins_parentheses {m = m} i q fit h) closer =
      behind_balanced i closer b (skipping_by d closer m b _ (row_of d closer m sign.Open q)
      (starts_limit fit (starts_token (seen tokens aliases 5 m sign.Open q refl) (starts_in (balanced_begins h closing_parenthesis)))))
  balanced_begins {d = d} {b = b} (begins_brackets {m = m} i q fit h) closer =
      behind_balanced i closer b (skipping_by d closer m b _ (row_of d closer m sign.OpenBracket q)
      (starts_limit fit (starts_token (seen tokens aliases 7 m sign.OpenBracket q refl) (starts_in (balanced_begins h closing_bracket)))))
  balanced_begins {d = d} {b = b} (begins_braces {m = m} i q fit h) closer =
      behind_balanced i closer b (skipping_by d closer m b _ (row_of d closer m sign.OpenBrace q)
      (starts_limit fit (starts_token (seen tokens aliases 16 m sign.OpenBrace q refl) (starts_in (balanced_begins h closing_brace)))))
