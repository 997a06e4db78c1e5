-- Locals: a declarator with its length and value, and those that follow it.
use Rattle.std.proofs.Common.{ℕ, ◌+◌, ◌≡◌, ◌≢◌, ◌∙◌, ap, sym, refl, Bool, true, false, List, [], ◌∷◌, ◌++◌, Option, Some, None, Ok, Err}
use Rattle.std.proofs.Common.{nat_eq}
use Rattle.tsa_base.specs.declared.token.Span.{Span}
use Rattle.tsa_base.specs.Tokens.{Lexeme}
use Rattle.tsa_grammar.proofs.Cases.{chosen, other, goes}
use Rattle.tsa_grammar.specs.Form.{done, token, part, either}
use Rattle.tsa_grammar.specs.Reading.{Outcome, refuse, syntax, then, choose}
use Rattle.tsa_tree.proofs.RowsRead.{read_steps}
use Rattle.tsa_tree.specs.declared.decl.Decl.{Decl}
use Rattle.tsa_tree.specs.declared.sign.Sign.TheVariants as sign
use Rattle.tsa_tree.specs.declarations.Syntax.{Specified, Declarator, Declaration, declaration, Initialiser, value}
use Rattle.tsa_tree.specs.expressions.Syntax.{Expression}
use Rattle.tsa_tree.specs.declarations.Shapes.{decl_shape, decl_shapes}
use Rattle.tsa_tree.specs.Reads.{read}
use Rattle.tsa_tree.specs.Rows.{an_expression, a_specifier, a_declarator, some_declarations, a_variable, some_variables, Row, expression}
use Rattle.tsa_tree.specs.Rows.{specifier, declarator, variable, variables, locals, a_comma, an_equals, mark, sees}
use Rattle.tsa_tree.specs.tokens.Signs.{Aliases, sign_at, span_over}
use Rattle.tsa_expr.specs.declared.refusal.SyntaxRefusal.{SyntaxRefusal}
use Rattle.tsa_expr.specs.Gives.{Fails}
use Rattle.tsa_expr.proofs.Answering.{fails_then, fails_same, gives_same, not_comma}
use Rattle.tsa_attr.proofs.Joining.{then-then, then-same}
use Rattle.tsa_decl_declarators.specs.Outcomes.{after, length_at, expression_at, value_at, variables_at}
use Rattle.tsa_decl_declarators.proofs.ListLaws.{map-push, after-nothing, after-over, after-more}
use Rattle.tsa_decl_declarators.proofs.TokenLaws.{not_equals}
use Rattle.tsa_decl_declarators.proofs.Pieces.{length_then}

-- an expression after its `=`, or nothing
value-law : {A B C : Type 0} (b : Bool) (m : ℕ) (r : Outcome A) (g : A → B) (f : Option B → ℕ → Outcome C)
    → choose b (choose b (then r (λ x n. f (Some (g x)) n)) (Err (refuse syntax m))) (f None m)
    ≡ then (choose b (then (then r (λ x n. Ok (g x, n))) (λ x n. Ok (Some x, n))) (Ok (None, m))) f
unfolding choose then
value-law true m (Ok p) g f = refl
value-law true m (Err e) g f = refl
value-law false m r g f = refl

module _ (ts : List Lexeme) (aliases : Aliases) where
  -- the expression that may initialise a local
  pub value_unset : (d m : ℕ) → sign_at ts aliases m ≢ sign.Equals → value_at ts aliases d m ≡ Ok (None, m)
  unfolding value_at
  value_unset d m h = other _ _ _ (not_equals (sign_at ts aliases m) h)

  pub value_fails : (d m : ℕ) (e : SyntaxRefusal) → sign_at ts aliases m ≡ sign.Equals → Fails e (expression_at ts aliases d (m + 1))
      → Fails e (value_at ts aliases d m)
  unfolding value_at
  value_fails d m e s h = fails_same e _ _ (chosen _ _ _ (ap (λ s. nat_eq (mark s) 24) s)) (fails_then e _ _ h)

  pub value_goes : (d m : ℕ) (x : Initialiser) (n : ℕ) → sign_at ts aliases m ≡ sign.Equals → expression_at ts aliases d (m + 1) ≡ Ok (x, n)
      → value_at ts aliases d m ≡ Ok (Some x, n)
  unfolding value_at
  value_goes d m x n s h = chosen _ _ _ (ap (λ s. nat_eq (mark s) 24) s) ∙ goes _ _ x n h

  -- a local
  abbrev behind_length_at : (d : ℕ) → Specified → Declarator → Option Expression → ℕ → Outcome Declaration
  behind_length_at d t c l n = then (value_at ts aliases d n) (λ v e. Ok (declaration t c l [] v (span_over ts c.start e), e))

  abbrev behind_name_at : (d : ℕ) → Specified → Declarator → ℕ → Outcome Declaration
  behind_name_at d t c m = then (length_at ts aliases d m) (behind_length_at d t c)

  abbrev value_row : (d : ℕ) → Specified → Declarator → Option Expression → ℕ → Row a_variable
  value_row d t c l n =
      either (sees ts (an_equals aliases) n)
      (token (an_equals aliases) (part an_expression (expression aliases d 0) (λ x e.
      done (declaration t c l [] (Some (value x)) (span_over ts c.start e)))))
      (done (declaration t c l [] None (span_over ts c.start n)))

  variable_at : (d : ℕ) (t : Specified) (m : ℕ)
      → read ts a_variable (variable aliases d t) m ≡ then (read ts a_declarator (declarator aliases) m) (behind_name_at d t)
  unfolding value_at expression_at
  variable_at d t m =
      read_steps ts a_variable (variable aliases d t) m
      ∙ then-same (read ts a_declarator (declarator aliases) m) _ (behind_name_at d t) (λ c m.
      length_then ts aliases a_variable d m (value_row d t c)
      ∙ then-same (length_at ts aliases d m) _ (behind_length_at d t c) (λ l n.
      value-law (sees ts (an_equals aliases) n) n (read ts an_expression (expression aliases d 0) (n + 1)) value
      (λ v e. Ok (declaration t c l [] v (span_over ts c.start e), e))))

  pub variable_name : (d : ℕ) (t : Specified) (m : ℕ) (e : SyntaxRefusal) → Fails e (read ts a_declarator (declarator aliases) m)
      → Fails e (read ts a_variable (variable aliases d t) m)
  variable_name d t m e h = fails_same e _ _ (variable_at d t m) (fails_then e _ _ h)

  pub variable_length : (d : ℕ) (t : Specified) (m : ℕ) (c : Declarator) (n : ℕ) (e : SyntaxRefusal)
      → read ts a_declarator (declarator aliases) m ≡ Ok (c, n) → Fails e (length_at ts aliases d n) → Fails e (read ts a_variable (variable aliases d t) m)
  variable_length d t m c n e h f = fails_same e _ _ (variable_at d t m ∙ goes _ _ c n h) (fails_then e _ _ f)

  with_length : (d : ℕ) (t : Specified) (m : ℕ) (c : Declarator) (n : ℕ) (l : Option Expression) (a : ℕ)
      → read ts a_declarator (declarator aliases) m ≡ Ok (c, n) → length_at ts aliases d n ≡ Ok (l, a)
      → read ts a_variable (variable aliases d t) m ≡ behind_length_at d t c l a
  with_length d t m c n l a h k = variable_at d t m ∙ goes _ _ c n h ∙ goes _ _ l a k

  pub variable_value : (d : ℕ) (t : Specified) (m : ℕ) (c : Declarator) (n : ℕ) (l : Option Expression) (a : ℕ) (e : SyntaxRefusal)
      → read ts a_declarator (declarator aliases) m ≡ Ok (c, n) → length_at ts aliases d n ≡ Ok (l, a) → Fails e (value_at ts aliases d a)
      → Fails e (read ts a_variable (variable aliases d t) m)
  variable_value d t m c n l a e h k f = fails_same e _ _ (with_length d t m c n l a h k) (fails_then e _ _ f)

  pub variable_goes : (d : ℕ) (t : Specified) (m : ℕ) (c : Declarator) (n : ℕ) (l : Option Expression) (a : ℕ) (v : Option Initialiser) (b : ℕ)
      (x : Declaration) (s : Span) → read ts a_declarator (declarator aliases) m ≡ Ok (c, n) → length_at ts aliases d n ≡ Ok (l, a)
      → value_at ts aliases d a ≡ Ok (v, b) → c.start ≡ m → x ≡ declaration t c l [] v s → s ≡ span_over ts m b
      → read ts a_variable (variable aliases d t) m ≡ Ok (x, b)
  variable_goes d t m c n l a v b x s h k j p q r =
      with_length d t m c n l a h k ∙ goes _ _ v b j
      ∙ ap (λ m. Ok (declaration t c l [] v (span_over ts m b), b)) p
      ∙ ap (λ s. Ok (declaration t c l [] v s, b)) (sym r)
      ∙ ap (λ x. Ok (x, b)) (sym q)

  -- locals after their type
  abbrev pair_list : Declaration × List Declaration → ℕ → Outcome (List Declaration)
  pair_list xs n = Ok (xs.0 ∷ xs.1, n)

  abbrev variables_on : (d : ℕ) → Specified → List Declaration → Declaration → ℕ → Outcome (List Declaration)
  variables_on d t front x n =
      choose (sees ts (a_comma aliases) n) (after (front ++ x ∷ []) (variables_at ts aliases false d t (n + 1))) (Ok (front ++ x ∷ [], n))

  pair-law : (front : List Declaration) (b : Bool) (x : Declaration) (n : ℕ) (r : Outcome (Declaration × List Declaration))
      → after front (then (choose b (choose b (then r (λ xs e. Ok ((x, xs.0 ∷ xs.1), e))) (Err (refuse syntax n))) (Ok ((x, []), n))) pair_list)
      ≡ choose b (after (front ++ x ∷ []) (then r pair_list)) (Ok (front ++ x ∷ [], n))
  unfolding choose then
  pair-law front true x n (Ok p) = after-more front x (Ok (p.0.0 ∷ p.0.1, p.1))
  pair-law front true x n (Err e) = refl
  pair-law front false x n r = refl

  after-variables : (front : List Declaration) (d : ℕ) (t : Specified) (m : ℕ)
      → after front (variables_at ts aliases false d t m) ≡ then (read ts a_variable (variable aliases d t) m) (variables_on d t front)
  unfolding variables_at
  after-variables front d t m =
      ap (λ r. after front (then r pair_list)) (read_steps ts some_variables (variables aliases d t) m)
      ∙ ap (after front) (then-then (read ts a_variable (variable aliases d t) m) _ pair_list)
      ∙ after-over front (read ts a_variable (variable aliases d t) m) _
      ∙ then-same (read ts a_variable (variable aliases d t) m) _ (variables_on d t front) (λ x n.
      pair-law front (sees ts (a_comma aliases) n) x n (read ts some_variables (variables aliases d t) (n + 1)))

  after-single : (front : List Declaration) (d : ℕ) (t : Specified) (m : ℕ)
      → after front (variables_at ts aliases true d t m) ≡ then (read ts a_variable (variable aliases d t) m) (λ x n. Ok (front ++ x ∷ [], n))
  unfolding variables_at
  after-single front d t m =
      after-over front (read ts a_variable (variable aliases d t) m) _
      ∙ then-same (read ts a_variable (variable aliases d t) m) _ (λ x n. Ok (front ++ x ∷ [], n)) (λ x n. goes _ _ (x ∷ []) n refl)

  pub variables_fail : (xs : List Decl) (single : Bool) (d : ℕ) (t : Specified) (m : ℕ) (e : SyntaxRefusal)
      → Fails e (read ts a_variable (variable aliases d t) m) → Fails e (after (decl_shapes xs) (variables_at ts aliases single d t m))
  variables_fail xs true d t m e h = fails_same e _ _ (after-single (decl_shapes xs) d t m) (fails_then e _ _ h)
  variables_fail xs false d t m e h = fails_same e _ _ (after-variables (decl_shapes xs) d t m) (fails_then e _ _ h)

  pub variables_single : (xs : List Decl) (single : Bool) (d : ℕ) (t : Specified) (m : ℕ) (x : Decl) (n : ℕ) → single ≡ true
      → read ts a_variable (variable aliases d t) m ≡ Ok (decl_shape x, n)
      → after (decl_shapes xs) (variables_at ts aliases single d t m) ≡ Ok (decl_shapes (xs ++ x ∷ []), n)
  variables_single xs single d t m x n s h =
      ap (λ single. after (decl_shapes xs) (variables_at ts aliases single d t m)) s
      ∙ after-single (decl_shapes xs) d t m ∙ goes _ _ (decl_shape x) n h ∙ ap (λ ys. Ok (ys, n)) (sym (map-push decl_shape xs x))

  variables_first : (xs : List Decl) (single : Bool) (d : ℕ) (t : Specified) (m : ℕ) (x : Decl) (n : ℕ) → single ≡ false
      → read ts a_variable (variable aliases d t) m ≡ Ok (decl_shape x, n)
      → after (decl_shapes xs) (variables_at ts aliases single d t m) ≡ variables_on d t (decl_shapes xs) (decl_shape x) n
  variables_first xs single d t m x n s h =
      ap (λ single. after (decl_shapes xs) (variables_at ts aliases single d t m)) s
      ∙ after-variables (decl_shapes xs) d t m ∙ goes _ _ (decl_shape x) n h

  pub variables_last : (xs : List Decl) (single : Bool) (d : ℕ) (t : Specified) (m : ℕ) (x : Decl) (n : ℕ) → single ≡ false
      → read ts a_variable (variable aliases d t) m ≡ Ok (decl_shape x, n) → sign_at ts aliases n ≢ sign.Comma
      → after (decl_shapes xs) (variables_at ts aliases single d t m) ≡ Ok (decl_shapes (xs ++ x ∷ []), n)
  variables_last xs single d t m x n s h c =
      variables_first xs single d t m x n s h ∙ other _ _ _ (not_comma (sign_at ts aliases n) c)
      ∙ ap (λ ys. Ok (ys, n)) (sym (map-push decl_shape xs x))

  pub variables_more : (xs : List Decl) (single : Bool) (d : ℕ) (t : Specified) (m : ℕ) (x : Decl) (n : ℕ) → single ≡ false
      → read ts a_variable (variable aliases d t) m ≡ Ok (decl_shape x, n) → sign_at ts aliases n ≡ sign.Comma
      → after (decl_shapes xs) (variables_at ts aliases single d t m) ≡ after (decl_shapes (xs ++ x ∷ [])) (variables_at ts aliases single d t (n + 1))
  variables_more xs single d t m x n s h c =
      variables_first xs single d t m x n s h ∙ chosen _ _ _ (ap (λ s. nat_eq (mark s) 10) c)
      ∙ ap (λ ys. after ys (variables_at ts aliases false d t (n + 1))) (sym (map-push decl_shape xs x))
      ∙ ap (λ single. after (decl_shapes (xs ++ x ∷ [])) (variables_at ts aliases single d t (n + 1))) (sym s)

  -- a type and its locals
  locals_at : (single : Bool) (d m : ℕ)
      → read ts some_declarations (locals aliases single d) m ≡ then (read ts a_specifier (specifier aliases) m) (variables_at ts aliases single d)
  unfolding variables_at
  locals_at true d m = read_steps ts some_declarations (locals aliases true d) m
  locals_at false d m = read_steps ts some_declarations (locals aliases false d) m

  pub locals_type : (single : Bool) (d m : ℕ) (e : SyntaxRefusal) → Fails e (read ts a_specifier (specifier aliases) m)
      → Fails e (read ts some_declarations (locals aliases single d) m)
  locals_type single d m e h = fails_same e _ _ (locals_at single d m) (fails_then e _ _ h)

  locals_behind : (single : Bool) (d m : ℕ) (t : Specified) (n : ℕ) (xs : List Decl) → read ts a_specifier (specifier aliases) m ≡ Ok (t, n) → xs ≡ []
      → read ts some_declarations (locals aliases single d) m ≡ after (decl_shapes xs) (variables_at ts aliases single d t n)
  locals_behind single d m t n xs h e =
      locals_at single d m ∙ goes _ _ t n h ∙ sym (after-nothing (variables_at ts aliases single d t n))
      ∙ ap (λ xs. after (decl_shapes xs) (variables_at ts aliases single d t n)) (sym e)

  pub locals_fail : (single : Bool) (d m : ℕ) (t : Specified) (n : ℕ) (xs : List Decl) (e : SyntaxRefusal)
      → read ts a_specifier (specifier aliases) m ≡ Ok (t, n) → xs ≡ [] → Fails e (after (decl_shapes xs) (variables_at ts aliases single d t n))
      → Fails e (read ts some_declarations (locals aliases single d) m)
  locals_fail single d m t n xs e h p f = fails_same e _ _ (locals_behind single d m t n xs h p) f

  pub locals_go : (single : Bool) (d m : ℕ) (t : Specified) (n : ℕ) (xs ys : List Decl) (e : ℕ)
      → read ts a_specifier (specifier aliases) m ≡ Ok (t, n) → xs ≡ []
      → after (decl_shapes xs) (variables_at ts aliases single d t n) ≡ Ok (decl_shapes ys, e)
      → read ts some_declarations (locals aliases single d) m ≡ Ok (decl_shapes ys, e)
  locals_go single d m t n xs ys e h p f = locals_behind single d m t n xs h p ∙ f

pub ruleset values = (value_unset, value_fails, value_goes)

pub ruleset one_variable = (variable_name, variable_length, variable_value, variable_goes)

pub ruleset lists = (variables_fail, variables_single, variables_last, variables_more, fails_same, gives_same)

pub ruleset behind_types = (locals_type, locals_fail, locals_go)
