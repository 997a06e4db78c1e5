-- Stars, names and lengths, one by one.
use Rattle.std.proofs.Common.{ℕ, ◌+◌, ◌<◌, ◌≤◌, ◌≡◌, ◌≢◌, ◌∙◌, ap, refl, sym, Bool, true, false, List, Option, Some, None, Ok, Err, nat_eq}
use Rattle.tsa_base.specs.Tokens.{Lexeme}
use Rattle.tsa_grammar.proofs.Cases.{chosen, other, goes}
use Rattle.tsa_grammar.specs.Form.{done, token}
use Rattle.tsa_grammar.specs.Reading.{refuse, syntax, deep, then, choose}
use Rattle.tsa_tree.proofs.RowsRead.{read_steps}
use Rattle.tsa_tree.specs.declared.expr.BinaryOp.TheVariants as op
use Rattle.tsa_tree.specs.declared.expr.Expr.{Expr}
use Rattle.tsa_tree.specs.declared.sign.Keyword.TheVariants as key
use Rattle.tsa_tree.specs.declared.sign.Sign.{Sign}
use Rattle.tsa_tree.specs.declared.sign.Sign.TheVariants as sign
use Rattle.tsa_tree.specs.declarations.Syntax.{Declarator}
use Rattle.tsa_tree.specs.expressions.Syntax.{Expression, Identifier}
use Rattle.tsa_tree.specs.Reads.{read}
use Rattle.tsa_tree.specs.Rows.{an_expression, a_declarator, expression, declarator, a_name, is_keyword, a_close_bracket, mark, sees}
use Rattle.tsa_tree.specs.expressions.Shapes.{shape}
use Rattle.tsa_tree.specs.tokens.Signs.{Aliases, sign_at, identifier_at, is_star}
use Rattle.tsa_expr.specs.declared.refusal.SyntaxRefusal.{SyntaxRefusal}
use Rattle.tsa_expr.specs.Gives.{Fails}
use Rattle.tsa_expr.proofs.Answering.{fails_then, fails_same, in_limit, over_limit, not_close_bracket}
use Rattle.tsa_decl_declarators.specs.declared.declarators.Star.{Star}
use Rattle.tsa_decl_declarators.specs.Outcomes.{name_at, star_at, length_at}
use Rattle.tsa_decl_declarators.specs.Readings.{seen_star}
use Rattle.tsa_decl_declarators.proofs.Pieces.{star_then}
use Rattle.tsa_decl_declarators.proofs.TokenLaws.{name_wrong, name_goes}

not_star : (s : Sign) → s ≢ sign.Operator op.Times → is_star s ≡ false
not_star (sign.Operator op.Times) h = absurd (h refl)
not_star _ h = refl

not_open_bracket : (s : Sign) → s ≢ sign.OpenBracket → nat_eq (mark s) 8 ≡ false
not_open_bracket sign.OpenBracket h = absurd (h refl)
not_open_bracket _ h = refl

module _ (ts : List Lexeme) (aliases : Aliases) where
  -- a star
  pub star_none : (m : ℕ) → sign_at ts aliases m ≢ sign.Operator op.Times → star_at ts aliases m ≡ (false, false, m)
  unfolding star_at
  star_none m h = other _ _ _ (not_star (sign_at ts aliases m) h)

  pub star_const : (m : ℕ) (s : Sign) → sign_at ts aliases m ≡ sign.Operator op.Times → s ≡ sign_at ts aliases (m + 1) → is_keyword key.Const s ≡ true
      → star_at ts aliases m ≡ (true, true, m + 1 + 1)
  unfolding star_at
  star_const m s e q c = chosen _ _ _ (ap is_star e) ∙ chosen _ _ _ (ap (is_keyword key.Const) (sym q) ∙ c)

  pub star_plain : (m : ℕ) (s : Sign) → sign_at ts aliases m ≡ sign.Operator op.Times → s ≡ sign_at ts aliases (m + 1) → is_keyword key.Const s ≡ false
      → star_at ts aliases m ≡ (true, false, m + 1)
  unfolding star_at
  star_plain m s e q c = chosen _ _ _ (ap is_star e) ∙ other _ _ _ (ap (is_keyword key.Const) (sym q) ∙ c)

  -- a star and a name
  abbrev declarator_of : (m : ℕ) → Bool → Bool → Identifier → Declarator
  declarator_of m p c x = record { pointer = p; pointer_const = c; name = x; start = m }

  named-law : (b : Bool) (n : ℕ) (x : Identifier) (f : Identifier → Declarator)
      → choose b (Ok (f x, n + 1)) (Err (refuse syntax n)) ≡ then (choose b (Ok (x, n + 1)) (Err (refuse syntax n))) (λ x e. Ok (f x, e))
  unfolding choose then
  named-law true n x f = refl
  named-law false n x f = refl

  declarator_at : (m : ℕ) (p c : Bool) (n : ℕ) → star_at ts aliases m ≡ (p, c, n)
      → read ts a_declarator (declarator aliases) m ≡ then (name_at ts aliases n) (λ x e. Ok (declarator_of m p c x, e))
  unfolding name_at
  declarator_at m p c n h =
      read_steps ts a_declarator (declarator aliases) m
      ∙ star_then ts aliases a_declarator m (λ p c n. token (a_name aliases) (done (declarator_of m p c (identifier_at ts n))))
      ∙ named-law (sees ts (a_name aliases) (star_at ts aliases m).2) _ _ (declarator_of m (star_at ts aliases m).0 (star_at ts aliases m).1)
      ∙ ap (λ star. then (name_at ts aliases star.2) (λ x e. Ok (declarator_of m star.0 star.1 x, e))) h

  pub declarator_wrong : (m : ℕ) (s : Star) → star_at ts aliases m ≡ seen_star s → s.sign ≡ sign_at ts aliases s.next → s.sign ≢ sign.Name
      → read ts a_declarator (declarator aliases) m ≡ Err (refuse syntax s.next)
  unfolding then
  declarator_wrong m s h e k =
      declarator_at m s.pointer s.constant s.next h
      ∙ ap (λ r. then r (λ x e. Ok (declarator_of m s.pointer s.constant x, e))) (name_wrong ts aliases s.next (λ q. k (e ∙ q)))

  pub declarator_goes : (m : ℕ) (s : Star) (x : Identifier) → star_at ts aliases m ≡ seen_star s → s.sign ≡ sign_at ts aliases s.next → s.sign ≡ sign.Name
      → x ≡ identifier_at ts s.next → read ts a_declarator (declarator aliases) m ≡ Ok (declarator_of m s.pointer s.constant x, s.next + 1)
  declarator_goes m s x h e k q =
      declarator_at m s.pointer s.constant s.next h ∙ goes _ _ x (s.next + 1) (name_goes ts aliases s.next x (sym e ∙ k) q)

  -- the length of an array
  length_open : (d m : ℕ) → sign_at ts aliases m ≡ sign.OpenBracket → d < 100
      → length_at ts aliases d m
      ≡ then (read ts an_expression (expression aliases (d + 1) 0) (m + 1)) (λ x n.
      choose (sees ts (a_close_bracket aliases) n) (Ok (Some x, n + 1)) (Err (refuse syntax n)))
  unfolding length_at
  length_open d m e h = chosen _ _ _ (ap (λ s. nat_eq (mark s) 8) e) ∙ chosen _ _ _ (in_limit d h)

  pub length_none : (d m : ℕ) → sign_at ts aliases m ≢ sign.OpenBracket → length_at ts aliases d m ≡ Ok (None, m)
  unfolding length_at
  length_none d m h = other _ _ _ (not_open_bracket (sign_at ts aliases m) h)

  pub length_deep : (d m : ℕ) → sign_at ts aliases m ≡ sign.OpenBracket → 100 ≤ d → length_at ts aliases d m ≡ Err (refuse deep m)
  unfolding length_at
  length_deep d m e h = chosen _ _ _ (ap (λ s. nat_eq (mark s) 8) e) ∙ other _ _ _ (over_limit d h)

  pub length_fails : (d m : ℕ) (e : SyntaxRefusal) → sign_at ts aliases m ≡ sign.OpenBracket → d < 100
      → Fails e (read ts an_expression (expression aliases (d + 1) 0) (m + 1)) → Fails e (length_at ts aliases d m)
  length_fails d m e s h f = fails_same e _ _ (length_open d m s h) (fails_then e _ _ f)

  pub length_unclosed : (d m : ℕ) (x : Expression) (n : ℕ) → sign_at ts aliases m ≡ sign.OpenBracket → d < 100
      → read ts an_expression (expression aliases (d + 1) 0) (m + 1) ≡ Ok (x, n) → sign_at ts aliases n ≢ sign.CloseBracket
      → length_at ts aliases d m ≡ Err (refuse syntax n)
  length_unclosed d m x n s h r c = length_open d m s h ∙ goes _ _ x n r ∙ other _ _ _ (not_close_bracket (sign_at ts aliases n) c)

  pub length_goes : (d m : ℕ) (x : Expr) (n : ℕ) (r : Option Expression × ℕ) → sign_at ts aliases m ≡ sign.OpenBracket → d < 100
      → read ts an_expression (expression aliases (d + 1) 0) (m + 1) ≡ Ok (shape x, n) → sign_at ts aliases n ≡ sign.CloseBracket
      → r ≡ (Some (shape x), n + 1) → length_at ts aliases d m ≡ Ok r
  length_goes d m x n r s h q c e =
      length_open d m s h ∙ goes _ _ (shape x) n q ∙ chosen _ _ _ (ap (λ s. nat_eq (mark s) 9) c) ∙ ap Ok (sym e)

pub ruleset stars = (star_none, star_const, star_plain)

pub ruleset named = (declarator_wrong, declarator_goes)

pub ruleset lengths = (length_none, length_deep, length_fails, length_unclosed, length_goes)
