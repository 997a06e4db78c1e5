-- Balanced tokens, one by one.
use Rattle.std.proofs.Common.{ℕ, suc, ◌+◌, ◌<◌, ◌≤◌, ◌≡◌, ◌∙◌, ap, sym, subst, refl, Bool, true, false, List, Some, None, Ok, Err, nat_eq}
use Rattle.tsa_base.specs.Tokens.{Lexeme}
use Rattle.tsa_grammar.proofs.Cases.{chosen, other, goes}
use Rattle.tsa_grammar.specs.Reading.{Outcome, refuse, syntax, deep, then, choose}
use Rattle.tsa_tree.proofs.RowsRead.{read_steps}
use Rattle.tsa_tree.specs.declared.sign.Sign.{Sign}
use Rattle.tsa_tree.specs.declared.sign.Sign.TheVariants as sign
use Rattle.tsa_tree.specs.expressions.Answers.{below_limit}
use Rattle.tsa_tree.specs.Reads.{read}
use Rattle.tsa_tree.specs.Rows.{a_skip, balanced, closer_kind, mark, balanced_row}
use Rattle.tsa_tree.specs.tokens.Signs.{Aliases, sign_at, is_plain_sign}
use Rattle.tsa_expr.specs.declared.refusal.SyntaxRefusal.{SyntaxRefusal}
use Rattle.tsa_expr.specs.declared.refusal.SyntaxRefusal.TheVariants.{At}
use Rattle.tsa_expr.specs.declared.refusal.SyntaxCode.TheVariants.{LM2}
use Rattle.tsa_expr.specs.Gives.{Fails}
use Rattle.tsa_expr.proofs.Answering.{fails_then, fails_same, gives_same, in_limit, over_limit}
use Rattle.tsa_attr.specs.declared.balance.Closer.{Closer}
use Rattle.tsa_attr.specs.declared.balance.Closer.TheVariants.{Parenthesis, Bracket, Brace}
use Rattle.tsa_attr.specs.Readings.{row_closer, opened_by}
use Rattle.tsa_attr.proofs.Joining.{then-same, then-unit}
use Rattle.tsa_attr.proofs.Openings.{going}

pub fails_deep : {A : Type 0} (e : SyntaxRefusal) (r : Outcome A) (m : ℕ) → e ≡ At LM2 m → r ≡ Err (refuse deep m) → Fails e r
fails_deep e r m h k = subst (λ e. Fails e r) (sym h) k

module _ (ts : List Lexeme) (aliases : Aliases) where
  abbrev skip : (d : ℕ) → Closer → ℕ → Outcome (Unit {0})
  skip d c m = read ts a_skip (balanced aliases d (row_closer c)) m

  abbrev closing : Closer → Sign → Bool
  closing c s = nat_eq (mark s) (suc (closer_kind (row_closer c)))

  row_at : (d : ℕ) (c : Closer) (m : ℕ) (s : Sign) → s ≡ sign_at ts aliases m → closing c s ≡ false
      → skip d c m ≡ going ts a_skip (balanced_row ts aliases d (row_closer c) m s) m
  row_at d c m s t e =
      read_steps ts a_skip (balanced aliases d (row_closer c)) m ∙ other _ _ _ (ap (closing c) (sym t) ∙ e)
      ∙ ap (λ s. going ts a_skip (balanced_row ts aliases d (row_closer c) m s) m) (sym t)

  pub balance_closes : (d : ℕ) (c : Closer) (m : ℕ) (s : Sign) → s ≡ sign_at ts aliases m → closing c s ≡ true → skip d c m ≡ Ok (tt, m + 1)
  balance_closes d c m s t e =
      let here = ap (closing c) (sym t) ∙ e in
      read_steps ts a_skip (balanced aliases d (row_closer c)) m ∙ chosen _ _ _ here ∙ chosen _ _ _ here

  -- a list within
  abbrev inner : (d : ℕ) (c : Closer) (m : ℕ) → Closer → Outcome (Unit {0})
  inner d c m i = choose (below_limit d) (then (skip (d + 1) i (m + 1)) (λ u n. skip d c n)) (Err (refuse deep m))

  inner_by : (d : ℕ) (c : Closer) (m : ℕ) (i : Closer) (b : Bool) → b ≡ true
      → choose (below_limit d) (choose b (then (skip (d + 1) i (m + 1)) (λ u n. then (skip d c n) (λ u e. Ok (tt, e)))) (Err (refuse syntax m))) (Err (refuse deep m))
      ≡ inner d c m i
  inner_by d c m i b e =
      ap (λ r. choose (below_limit d) r (Err (refuse deep m)))
      (chosen _ _ _ e ∙ then-same (skip (d + 1) i (m + 1)) _ _ (λ u n. then-unit (skip d c n)))

  inner_row : (d : ℕ) (c : Closer) (m : ℕ) (i : Closer) (s : Sign) → s ≡ sign_at ts aliases m → opened_by s ≡ Some i
      → going ts a_skip (balanced_row ts aliases d (row_closer c) m s) m ≡ inner d c m i
  inner_row d c m i sign.Open t e =
      let same : Parenthesis ≡ i = cc in
      inner_by d c m Parenthesis _ (ap (λ s. nat_eq (mark s) 6) (sym t)) ∙ ap (inner d c m) same
  inner_row d c m i sign.OpenBracket t e =
      let same : Bracket ≡ i = cc in
      inner_by d c m Bracket _ (ap (λ s. nat_eq (mark s) 8) (sym t)) ∙ ap (inner d c m) same
  inner_row d c m i sign.OpenBrace t e =
      let same : Brace ≡ i = cc in
      inner_by d c m Brace _ (ap (λ s. nat_eq (mark s) 17) (sym t)) ∙ ap (inner d c m) same
  inner_row d c m i _ t e = cc

  inner_at : (d : ℕ) (c : Closer) (m : ℕ) (i : Closer) (s : Sign) → s ≡ sign_at ts aliases m → closing c s ≡ false → opened_by s ≡ Some i
      → skip d c m ≡ inner d c m i
  inner_at d c m i s t e o = row_at d c m s t e ∙ inner_row d c m i s t o

  pub balance_deep : (d : ℕ) (c : Closer) (m : ℕ) (i : Closer) (s : Sign) → s ≡ sign_at ts aliases m → closing c s ≡ false → opened_by s ≡ Some i
      → 100 ≤ d → skip d c m ≡ Err (refuse deep m)
  balance_deep d c m i s t e o h = inner_at d c m i s t e o ∙ other _ _ _ (over_limit d h)

  pub balance_fails : (d : ℕ) (c : Closer) (m : ℕ) (i : Closer) (s : Sign) (e : SyntaxRefusal) → s ≡ sign_at ts aliases m → closing c s ≡ false → opened_by s ≡ Some i
      → d < 100 → Fails e (skip (d + 1) i (m + 1)) → Fails e (skip d c m)
  balance_fails d c m i s e t n o h f = fails_same e _ _ (inner_at d c m i s t n o ∙ chosen _ _ _ (in_limit d h)) (fails_then e _ _ f)

  pub balance_goes : (d : ℕ) (c : Closer) (m : ℕ) (i : Closer) (s : Sign) (n : ℕ) → s ≡ sign_at ts aliases m → closing c s ≡ false → opened_by s ≡ Some i
      → d < 100 → skip (d + 1) i (m + 1) ≡ Ok (tt, n) → skip d c m ≡ skip d c n
  balance_goes d c m i s n t e o h f = inner_at d c m i s t e o ∙ chosen _ _ _ (in_limit d h) ∙ goes _ _ tt n f

  -- another token
  plain_row : (d : ℕ) (c : Closer) (m : ℕ) (s : Sign) → opened_by s ≡ None
      → going ts a_skip (balanced_row ts aliases d (row_closer c) m s) m
      ≡ choose (is_plain_sign (sign_at ts aliases m)) (then (skip d c (m + 1)) (λ u e. Ok (tt, e))) (Err (refuse syntax m))
  plain_row d c m sign.Open o = cc
  plain_row d c m sign.OpenBracket o = cc
  plain_row d c m sign.OpenBrace o = cc
  plain_row d c m _ o = refl

  pub balance_wrong : (d : ℕ) (c : Closer) (m : ℕ) (s : Sign) → s ≡ sign_at ts aliases m → closing c s ≡ false → opened_by s ≡ None
      → is_plain_sign s ≡ false → skip d c m ≡ Err (refuse syntax m)
  balance_wrong d c m s t e o p = row_at d c m s t e ∙ plain_row d c m s o ∙ other _ _ _ (ap is_plain_sign (sym t) ∙ p)

  pub balance_passes : (d : ℕ) (c : Closer) (m : ℕ) (s : Sign) → s ≡ sign_at ts aliases m → closing c s ≡ false → opened_by s ≡ None
      → is_plain_sign s ≡ true → skip d c m ≡ skip d c (m + 1)
  balance_passes d c m s t e o p =
      row_at d c m s t e ∙ plain_row d c m s o ∙ chosen _ _ _ (ap is_plain_sign (sym t) ∙ p) ∙ then-unit (skip d c (m + 1))

pub ruleset balances = (balance_closes, balance_deep, balance_fails, balance_goes, balance_wrong, balance_passes, fails_same, gives_same)
