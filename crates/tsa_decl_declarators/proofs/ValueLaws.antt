-- Initialisers, one by one.
use Rattle.std.proofs.Common.{ℕ, ◌+◌, ◌<◌, ◌≤◌, ◌≡◌, ◌≢◌, ◌∙◌, ap, sym, refl, Bool, true, false, List, [], ◌∷◌, ◌++◌, Ok, Err, nat_eq}
use Rattle.std.specs.Borrow.{Bor}
use Rattle.tsa_base.specs.declared.token.Span.{Span}
use Rattle.tsa_base.specs.Tokens.{Lexeme}
use Rattle.tsa_grammar.proofs.Cases.{chosen, other, goes}
use Rattle.tsa_grammar.specs.Reading.{Outcome, refuse, syntax, deep, then, choose}
use Rattle.tsa_tree.proofs.RowsRead.{read_steps}
use Rattle.tsa_tree.specs.declared.decl.Init.{Init, List as init_list, items_hidden-the_row-Init-0}
use Rattle.tsa_tree.specs.declared.sign.Sign.{Sign}
use Rattle.tsa_tree.specs.declared.sign.Sign.TheVariants as sign
use Rattle.tsa_tree.specs.declarations.Syntax.{Initialiser, value, list, Initialisers, no_more, one_more}
use Rattle.tsa_tree.specs.expressions.Syntax.{Expression}
use Rattle.tsa_tree.specs.declarations.Shapes.{init_shape, init_shapes}
use Rattle.tsa_tree.specs.Reads.{read}
use Rattle.tsa_tree.specs.Rows.{an_expression, an_initialiser, some_initialisers, expression, initialiser, initialisers, a_close_brace}
use Rattle.tsa_tree.specs.Rows.{sees, mark}
use Rattle.tsa_tree.specs.tokens.Signs.{Aliases, sign_at, span_over}
use Rattle.tsa_tree.proofs.declarations.Trees.{row-shapes, row_of}
use Rattle.tsa_expr.specs.declared.refusal.SyntaxRefusal.{SyntaxRefusal}
use Rattle.tsa_expr.specs.Gives.{Fails}
use Rattle.tsa_expr.proofs.Answering.{fails_then, fails_same, gives_same, in_limit, over_limit, not_comma}
use Rattle.tsa_decl_declarators.specs.Outcomes.{joined, values_after, braced_at, expression_at}
use Rattle.tsa_decl_declarators.proofs.TokenLaws.{not_open_brace}

pub not_close_brace : (s : Sign) → s ≢ sign.CloseBrace → nat_eq (mark s) 18 ≡ false
not_close_brace sign.CloseBrace h = absurd (h refl)
not_close_brace _ h = refl

-- a list in the arena, as it was kept
pub shape-list : (items : Bor (List Init)) (span : Span) → init_shape (init_list items span) ≡ list (init_shapes items.now) span
shape-list items span =
    let row = row_of (init_list items span) in
    ap (λ xs. list xs span) (row-shapes row.0 row.1 ∙ ap init_shapes (items_hidden-the_row-Init-0 items.now))

-- initialisers after others
joined-nothing : (front : Initialisers) → joined front no_more ≡ front
joined-nothing no_more = refl
joined-nothing (one_more x front) = ap (one_more x) (joined-nothing front)

joined-one : (front : Initialisers) (x : Initialiser) (rest : Initialisers) → joined (joined front (one_more x no_more)) rest ≡ joined front (one_more x rest)
joined-one no_more x rest = refl
joined-one (one_more y front) x rest = ap (one_more y) (joined-one front x rest)

shapes-push : (xs : List Init) (x : Init) → init_shapes (xs ++ x ∷ []) ≡ joined (init_shapes xs) (one_more (init_shape x) no_more)
shapes-push [] x = refl
shapes-push (y ∷ xs) x = ap (one_more (init_shape y)) (shapes-push xs x)

values-nothing : (r : Outcome Initialisers) → values_after no_more r ≡ r
unfolding then
values-nothing (Ok p) = refl
values-nothing (Err e) = refl

values-more : (front : Initialisers) (x : Initialiser) (r : Outcome Initialisers)
    → values_after front (then r (λ xs e. Ok (one_more x xs, e))) ≡ values_after (joined front (one_more x no_more)) r
unfolding then
values-more front x (Ok p) = ap (λ xs. Ok (xs, p.1)) (sym (joined-one front x p.0))
values-more front x (Err e) = refl

-- a brace at once, or initialisers and a brace
closing-law : {B : Type 0} (b : Bool) (m : ℕ) (r : Outcome Initialisers) (f : Initialisers → ℕ → Outcome B)
    → choose b (choose b (f no_more (m + 1)) (Err (refuse syntax m))) (then r f) ≡ then (choose b (Ok (no_more, m + 1)) r) f
unfolding choose then
closing-law true m r f = refl
closing-law false m r f = refl

module _ (ts : List Lexeme) (aliases : Aliases) where
  abbrev one : (d m : ℕ) → Outcome Initialiser
  one d m = read ts an_initialiser (initialiser aliases d) m

  -- an expression
  pub value_same : (d m : ℕ) → sign_at ts aliases m ≢ sign.OpenBrace → read ts an_initialiser (initialiser aliases d) m ≡ expression_at ts aliases d m
  unfolding expression_at
  value_same d m s = read_steps ts an_initialiser (initialiser aliases d) m ∙ other _ _ _ (not_open_brace (sign_at ts aliases m) s)

  pub value_fails : (d m : ℕ) (e : SyntaxRefusal) → Fails e (read ts an_expression (expression aliases d 0) m) → Fails e (expression_at ts aliases d m)
  unfolding expression_at
  value_fails d m e h = fails_then e _ _ h

  pub value_goes : (d m : ℕ) (x : Expression) (n : ℕ) → read ts an_expression (expression aliases d 0) m ≡ Ok (x, n)
      → expression_at ts aliases d m ≡ Ok (value x, n)
  unfolding expression_at
  value_goes d m x n h = goes _ _ x n h

  -- initialisers in braces
  pub braces_deep : (d m : ℕ) → sign_at ts aliases m ≡ sign.OpenBrace → 100 ≤ d → read ts an_initialiser (initialiser aliases d) m ≡ Err (refuse deep m)
  braces_deep d m s h =
      read_steps ts an_initialiser (initialiser aliases d) m ∙ chosen _ _ _ (ap (λ s. nat_eq (mark s) 17) s) ∙ other _ _ _ (over_limit d h)

  braces_at : (d m : ℕ) → sign_at ts aliases m ≡ sign.OpenBrace → d < 100
      → one d m ≡ then (braced_at ts aliases (d + 1) (m + 1)) (λ xs n. Ok (list xs (span_over ts m n), n))
  unfolding braced_at
  braces_at d m s h =
      read_steps ts an_initialiser (initialiser aliases d) m ∙ chosen _ _ _ (ap (λ s. nat_eq (mark s) 17) s) ∙ chosen _ _ _ (in_limit d h)
      ∙ chosen _ _ _ (ap (λ s. nat_eq (mark s) 17) s)
      ∙ closing-law (sees ts (a_close_brace aliases) (m + 1)) (m + 1) (read ts some_initialisers (initialisers aliases (d + 1)) (m + 1))
      (λ xs n. Ok (list xs (span_over ts m n), n))

  pub braces_fail : (d m : ℕ) (e : SyntaxRefusal) → sign_at ts aliases m ≡ sign.OpenBrace → d < 100
      → Fails e (values_after no_more (braced_at ts aliases (d + 1) (m + 1))) → Fails e (read ts an_initialiser (initialiser aliases d) m)
  braces_fail d m e s l h = fails_same e _ _ (braces_at d m s l) (fails_then e _ _ (fails_same e _ _ (sym (values-nothing _)) h))

  pub braces_go : (d m : ℕ) (zs : List Init) (xs ys : Initialisers) (n : ℕ) (span : Span) (x : Initialiser) → sign_at ts aliases m ≡ sign.OpenBrace → d < 100
      → zs ≡ [] → values_after (init_shapes zs) (braced_at ts aliases (d + 1) (m + 1)) ≡ Ok (xs, n)
      → x ≡ list ys span → ys ≡ xs → span ≡ span_over ts m n → read ts an_initialiser (initialiser aliases d) m ≡ Ok (x, n)
  braces_go d m zs xs ys n span x s l z h p q r =
      braces_at d m s l
      ∙ goes _ _ xs n (sym (values-nothing _) ∙ ap (λ zs. values_after (init_shapes zs) (braced_at ts aliases (d + 1) (m + 1))) (sym z) ∙ h)
      ∙ ap (λ xs. Ok (list xs (span_over ts m n), n)) (sym q)
      ∙ ap (λ span. Ok (list ys span, n)) (sym r)
      ∙ ap (λ x. Ok (x, n)) (sym p)

  -- initialisers up to their brace, one by one
  abbrev behind_value : (d : ℕ) → Initialiser → (n : ℕ) → Outcome Initialisers
  behind_value d x n =
      choose (nat_eq (mark (sign_at ts aliases n)) 10)
      (choose (nat_eq (mark (sign_at ts aliases n)) 10) (then (braced_at ts aliases d (n + 1)) (λ xs e. Ok (one_more x xs, e))) (Err (refuse syntax n)))
      (choose (sees ts (a_close_brace aliases) n) (Ok (one_more x no_more, n + 1)) (Err (refuse syntax n)))

  values_at : (d m : ℕ) (x : Initialiser) (n : ℕ) → sees ts (a_close_brace aliases) m ≡ false → one d m ≡ Ok (x, n)
      → braced_at ts aliases d m ≡ behind_value d x n
  unfolding braced_at
  values_at d m x n c h =
      other _ _ _ c ∙ read_steps ts some_initialisers (initialisers aliases d) m ∙ goes _ _ x n h
      ∙ ap (λ r. choose (nat_eq (mark (sign_at ts aliases n)) 10) (choose (nat_eq (mark (sign_at ts aliases n)) 10) r (Err (refuse syntax n)))
      (choose (sees ts (a_close_brace aliases) n) (Ok (one_more x no_more, n + 1)) (Err (refuse syntax n))))
      (closing-law (sees ts (a_close_brace aliases) (n + 1)) (n + 1) (read ts some_initialisers (initialisers aliases d) (n + 1)) (λ xs e. Ok (one_more x xs, e)))

  pub values_close : (xs : List Init) (d m : ℕ) → sees ts (a_close_brace aliases) m ≡ true
      → values_after (init_shapes xs) (braced_at ts aliases d m) ≡ Ok (init_shapes xs, m + 1)
  unfolding braced_at then
  values_close xs d m c = ap (values_after (init_shapes xs)) (chosen _ _ _ c) ∙ ap (λ ys. Ok (ys, m + 1)) (joined-nothing (init_shapes xs))

  pub values_fail : (xs : List Init) (d m : ℕ) (e : SyntaxRefusal) → sees ts (a_close_brace aliases) m ≡ false
      → Fails e (read ts an_initialiser (initialiser aliases d) m) → Fails e (values_after (init_shapes xs) (braced_at ts aliases d m))
  unfolding braced_at
  values_fail xs d m e c h =
      fails_then e _ _ (fails_same e _ _ (other _ _ _ c ∙ read_steps ts some_initialisers (initialisers aliases d) m) (fails_then e _ _ h))

  pub values_wrong : (xs : List Init) (d m : ℕ) (x : Init) (n : ℕ) → sees ts (a_close_brace aliases) m ≡ false
      → read ts an_initialiser (initialiser aliases d) m ≡ Ok (init_shape x, n) → sign_at ts aliases n ≢ sign.Comma → sign_at ts aliases n ≢ sign.CloseBrace
      → values_after (init_shapes xs) (braced_at ts aliases d m) ≡ Err (refuse syntax n)
  unfolding then
  values_wrong xs d m x n c h a b =
      ap (values_after (init_shapes xs))
      (values_at d m (init_shape x) n c h ∙ other _ _ _ (not_comma (sign_at ts aliases n) a) ∙ other _ _ _ (not_close_brace (sign_at ts aliases n) b))

  pub values_last : (xs : List Init) (d m : ℕ) (x : Init) (n : ℕ) → sees ts (a_close_brace aliases) m ≡ false
      → read ts an_initialiser (initialiser aliases d) m ≡ Ok (init_shape x, n) → sign_at ts aliases n ≡ sign.CloseBrace
      → values_after (init_shapes xs) (braced_at ts aliases d m) ≡ Ok (init_shapes (xs ++ x ∷ []), n + 1)
  unfolding then
  values_last xs d m x n c h s =
      ap (values_after (init_shapes xs))
      (values_at d m (init_shape x) n c h ∙ other _ _ _ (ap (λ s. nat_eq (mark s) 10) s) ∙ chosen _ _ _ (ap (λ s. nat_eq (mark s) 18) s))
      ∙ ap (λ ys. Ok (ys, n + 1)) (sym (shapes-push xs x))

  pub values_more : (xs : List Init) (d m : ℕ) (x : Init) (n : ℕ) → sees ts (a_close_brace aliases) m ≡ false
      → read ts an_initialiser (initialiser aliases d) m ≡ Ok (init_shape x, n) → sign_at ts aliases n ≡ sign.Comma
      → values_after (init_shapes xs) (braced_at ts aliases d m) ≡ values_after (init_shapes (xs ++ x ∷ [])) (braced_at ts aliases d (n + 1))
  values_more xs d m x n c h s =
      ap (values_after (init_shapes xs))
      (values_at d m (init_shape x) n c h ∙ chosen _ _ _ (ap (λ s. nat_eq (mark s) 10) s) ∙ chosen _ _ _ (ap (λ s. nat_eq (mark s) 10) s))
      ∙ values-more (init_shapes xs) (init_shape x) (braced_at ts aliases d (n + 1))
      ∙ ap (λ ys. values_after ys (braced_at ts aliases d (n + 1))) (sym (shapes-push xs x))

pub ruleset lists_of = (shape-list)

pub ruleset expressions = (value_fails, value_goes)

pub ruleset alone = (value_same, braces_deep, braces_fail, braces_go, gives_same)

pub ruleset values = (values_close, values_fail, values_wrong, values_last, values_more, fails_same, gives_same)
