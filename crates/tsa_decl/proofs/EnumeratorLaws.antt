-- Enumerators, one by one.
use Rattle.std.proofs.Common.{ℕ, ◌+◌, ◌≡◌, ◌≢◌, ◌∙◌, ap, sym, refl, Bool, true, false, List, [], ◌∷◌, ◌++◌, Some, None, Ok, Err, nat_eq}
use Rattle.std.specs.declared.option.Option.{Option}
use Rattle.tsa_base.specs.Tokens.{Lexeme}
use Rattle.tsa_grammar.proofs.Cases.{chosen, other, goes}
use Rattle.tsa_grammar.specs.Form.{done, part}
use Rattle.tsa_grammar.specs.Reading.{Outcome, refuse, syntax, then, choose}
use Rattle.tsa_tree.proofs.RowsRead.{read_steps}
use Rattle.tsa_tree.specs.declared.item.Enumerator.{Enumerator}
use Rattle.tsa_tree.specs.declared.sign.Sign.TheVariants as sign
use Rattle.tsa_tree.specs.expressions.Answers.{below_limit}
use Rattle.tsa_tree.specs.declarations.Syntax.{EnumConstant}
use Rattle.tsa_tree.specs.expressions.Syntax.{Identifier, Expression}
use Rattle.tsa_tree.specs.declarations.Shapes.{enumerator_shape, enumerator_shapes}
use Rattle.tsa_tree.specs.Reads.{read}
use Rattle.tsa_tree.specs.Rows.{Sort, an_expression, some_constants, Row, expression, constants, enum_body, a_name, an_open_brace}
use Rattle.tsa_tree.specs.Rows.{a_close_brace, an_equals, sees, mark, opens_brace, constants_end}
use Rattle.tsa_tree.specs.tokens.Signs.{Aliases, sign_at, identifier_at}
use Rattle.tsa_expr.specs.declared.refusal.SyntaxRefusal.{SyntaxRefusal}
use Rattle.tsa_expr.specs.Gives.{Fails}
use Rattle.tsa_expr.proofs.Answering.{fails_then, fails_same, gives_same, then_done, not_comma}
use Rattle.tsa_attr.proofs.Joining.{opens-law}
use Rattle.tsa_decl_declarators.specs.Outcomes.{after, going, opening_brace, name_at}
use Rattle.tsa_decl.specs.Outcomes.{constant_at}
use Rattle.tsa_decl_declarators.proofs.ListLaws.{map-push, after-nothing, after-over, after-more}
use Rattle.tsa_decl_declarators.proofs.TokenLaws.{not_equals}
use Rattle.tsa_decl_declarators.proofs.ValueLaws.{not_close_brace}

abbrev named : Identifier → Option Expression → EnumConstant
named name v = record { name = name; value = v }

-- a value, or none, and what follows
valued-law : {B : Type 0} (c : Bool) (i : Identifier) (m : ℕ) (r : Outcome Expression) (f : EnumConstant → ℕ → Outcome B)
    → choose c (choose c (then r (λ x n. f (named i (Some x)) n)) (Err (refuse syntax m))) (f (named i None) m)
    ≡ then (choose c (then r (λ x n. Ok (named i (Some x), n))) (Ok (named i None, m))) f
unfolding choose then
valued-law true i m (Ok p) f = refl
valued-law true i m (Err e) f = refl
valued-law false i m r f = refl

named-law : {B : Type 0} (b : Bool) (i : Identifier) (m : ℕ) (c : ℕ → Bool) (r : ℕ → Outcome Expression) (f : EnumConstant → ℕ → Outcome B)
    → choose b
    (choose (c (m + 1)) (choose (c (m + 1)) (then (r (m + 1 + 1)) (λ x n. f (named i (Some x)) n)) (Err (refuse syntax (m + 1)))) (f (named i None) (m + 1)))
    (Err (refuse syntax m))
    ≡ then
    (then (choose b (Ok (i, m + 1)) (Err (refuse syntax m)))
    (λ i n. choose (c n) (then (r (n + 1)) (λ x e. Ok (named i (Some x), e))) (Ok (named i None, n))))
    f
unfolding choose then
named-law true i m c r f = valued-law (c (m + 1)) i (m + 1) (r (m + 1 + 1)) f
named-law false i m c r f = refl

module _ (ts : List Lexeme) (aliases : Aliases) where
  -- an enumerator
  pub constant_fails : (m : ℕ) (e : SyntaxRefusal) → Fails e (name_at ts aliases m) → Fails e (constant_at ts aliases m)
  unfolding constant_at
  constant_fails m e h = fails_then e _ _ h

  pub constant_alone : (m : ℕ) (x : Identifier) → name_at ts aliases m ≡ Ok (x, m + 1) → sign_at ts aliases (m + 1) ≢ sign.Equals
      → constant_at ts aliases m ≡ Ok (named x None, m + 1)
  unfolding constant_at
  constant_alone m x h s = goes _ _ x (m + 1) h ∙ other _ _ _ (not_equals (sign_at ts aliases (m + 1)) s)

  valued_at : (m : ℕ) (x : Identifier) → name_at ts aliases m ≡ Ok (x, m + 1) → sign_at ts aliases (m + 1) ≡ sign.Equals
      → constant_at ts aliases m ≡ then (read ts an_expression (expression aliases 1 0) (m + 1 + 1)) (λ v n. Ok (named x (Some v), n))
  unfolding constant_at
  valued_at m x h s = goes _ _ x (m + 1) h ∙ chosen _ _ _ (ap (λ s. nat_eq (mark s) 24) s)

  pub constant_wrong : (m : ℕ) (x : Identifier) (e : SyntaxRefusal) → name_at ts aliases m ≡ Ok (x, m + 1) → sign_at ts aliases (m + 1) ≡ sign.Equals
      → Fails e (read ts an_expression (expression aliases 1 0) (m + 1 + 1)) → Fails e (constant_at ts aliases m)
  constant_wrong m x e h s f = fails_same e _ _ (valued_at m x h s) (fails_then e _ _ f)

  pub constant_goes : (m : ℕ) (x : Identifier) (v : Expression) (n : ℕ) → name_at ts aliases m ≡ Ok (x, m + 1) → sign_at ts aliases (m + 1) ≡ sign.Equals
      → read ts an_expression (expression aliases 1 0) (m + 1 + 1) ≡ Ok (v, n) → constant_at ts aliases m ≡ Ok (named x (Some v), n)
  constant_goes m x v n h s r = valued_at m x h s ∙ goes _ _ v n r

  -- enumerators up to their brace
  abbrev constants_on : EnumConstant → ℕ → Outcome (List EnumConstant)
  constants_on x n = going ts some_constants (constants_end ts aliases x n) n

  constants_at : (m : ℕ) → read ts some_constants (constants aliases) m ≡ then (constant_at ts aliases m) (λ x n. constants_on x n)
  unfolding constant_at name_at
  constants_at m =
      read_steps ts some_constants (constants aliases) m
      ∙ named-law (sees ts (a_name aliases) m) (identifier_at ts m) m (λ n. sees ts (an_equals aliases) n)
      (λ n. read ts an_expression (expression aliases 1 0) n) (λ x n. constants_on x n)

  after-constants : (front : List EnumConstant) (m : ℕ)
      → after front (read ts some_constants (constants aliases) m) ≡ then (constant_at ts aliases m) (λ x n. after front (constants_on x n))
  after-constants front m = ap (after front) (constants_at m) ∙ after-over front (constant_at ts aliases m) (λ x n. constants_on x n)

  behind_constant : (xs : List Enumerator) (m : ℕ) (x : Enumerator) (n : ℕ) → constant_at ts aliases m ≡ Ok (enumerator_shape x, n)
      → after (enumerator_shapes xs) (read ts some_constants (constants aliases) m) ≡ after (enumerator_shapes xs) (constants_on (enumerator_shape x) n)
  behind_constant xs m x n h = after-constants (enumerator_shapes xs) m ∙ goes _ _ (enumerator_shape x) n h

  pub constants_fail : (xs : List Enumerator) (m : ℕ) (e : SyntaxRefusal) → Fails e (constant_at ts aliases m)
      → Fails e (after (enumerator_shapes xs) (read ts some_constants (constants aliases) m))
  constants_fail xs m e h = fails_same e _ _ (after-constants (enumerator_shapes xs) m) (fails_then e _ _ h)

  pub constants_wrong : (xs : List Enumerator) (m : ℕ) (x : Enumerator) (n : ℕ) → constant_at ts aliases m ≡ Ok (enumerator_shape x, n)
      → sign_at ts aliases n ≢ sign.Comma → sign_at ts aliases n ≢ sign.CloseBrace
      → after (enumerator_shapes xs) (read ts some_constants (constants aliases) m) ≡ Err (refuse syntax n)
  unfolding then
  constants_wrong xs m x n h a b =
      behind_constant xs m x n h
      ∙ ap (after (enumerator_shapes xs))
      (other _ _ _ (not_comma (sign_at ts aliases n) a) ∙ other _ _ _ (not_close_brace (sign_at ts aliases n) b))

  pub constants_last : (xs : List Enumerator) (m : ℕ) (x : Enumerator) (n : ℕ) → constant_at ts aliases m ≡ Ok (enumerator_shape x, n)
      → sign_at ts aliases n ≡ sign.CloseBrace
      → after (enumerator_shapes xs) (read ts some_constants (constants aliases) m) ≡ Ok (enumerator_shapes (xs ++ x ∷ []), n + 1)
  unfolding then
  constants_last xs m x n h s =
      behind_constant xs m x n h
      ∙ ap (after (enumerator_shapes xs)) (other _ _ _ (ap (λ s. nat_eq (mark s) 10) s) ∙ chosen _ _ _ (ap (λ s. nat_eq (mark s) 18) s))
      ∙ ap (λ ys. Ok (ys, n + 1)) (sym (map-push enumerator_shape xs x))

  pub constants_trail : (xs : List Enumerator) (m : ℕ) (x : Enumerator) (n : ℕ) → constant_at ts aliases m ≡ Ok (enumerator_shape x, n)
      → sign_at ts aliases n ≡ sign.Comma → sees ts (a_close_brace aliases) (n + 1) ≡ true
      → after (enumerator_shapes xs) (read ts some_constants (constants aliases) m) ≡ Ok (enumerator_shapes (xs ++ x ∷ []), n + 1 + 1)
  unfolding then
  constants_trail xs m x n h s c =
      behind_constant xs m x n h
      ∙ ap (after (enumerator_shapes xs))
      (chosen _ _ _ (ap (λ s. nat_eq (mark s) 10) s) ∙ chosen _ _ _ (ap (λ s. nat_eq (mark s) 10) s) ∙ chosen _ _ _ c ∙ chosen _ _ _ c)
      ∙ ap (λ ys. Ok (ys, n + 1 + 1)) (sym (map-push enumerator_shape xs x))

  pub constants_more : (xs : List Enumerator) (m : ℕ) (x : Enumerator) (n : ℕ) → constant_at ts aliases m ≡ Ok (enumerator_shape x, n)
      → sign_at ts aliases n ≡ sign.Comma → sees ts (a_close_brace aliases) (n + 1) ≡ false
      → after (enumerator_shapes xs) (read ts some_constants (constants aliases) m)
      ≡ after (enumerator_shapes (xs ++ x ∷ [])) (read ts some_constants (constants aliases) (n + 1))
  constants_more xs m x n h s c =
      behind_constant xs m x n h
      ∙ ap (after (enumerator_shapes xs))
      (chosen _ _ _ (ap (λ s. nat_eq (mark s) 10) s) ∙ chosen _ _ _ (ap (λ s. nat_eq (mark s) 10) s) ∙ other _ _ _ c)
      ∙ after-more (enumerator_shapes xs) (enumerator_shape x) (read ts some_constants (constants aliases) (n + 1))
      ∙ ap (λ ys. after ys (read ts some_constants (constants aliases) (n + 1))) (sym (map-push enumerator_shape xs x))

  -- and the brace before them
  pub brace_at : (s : Sort) (d m : ℕ) (rest : Row s)
      → going ts s (opens_brace ts aliases d m rest) m ≡ then (opening_brace ts aliases d m) (λ u n. going ts s rest (m + 1))
  unfolding opening_brace
  brace_at s d m rest = opens-law (sees ts (an_open_brace aliases) m) (below_limit d) m (going ts s rest (m + 1)) (going ts s rest (m + 1))

  body_at : (m : ℕ)
      → read ts some_constants (enum_body aliases) m ≡ then (opening_brace ts aliases 0 m) (λ u n. read ts some_constants (constants aliases) (m + 1))
  body_at m =
      read_steps ts some_constants (enum_body aliases) m ∙ brace_at some_constants 0 m (part some_constants (constants aliases) (λ xs n. done xs))
      ∙ ap (λ r. then (opening_brace ts aliases 0 m) (λ u n. r)) (then_done (read ts some_constants (constants aliases) (m + 1)))

  pub body_fails : (m : ℕ) (e : SyntaxRefusal) → Fails e (opening_brace ts aliases 0 m) → Fails e (read ts some_constants (enum_body aliases) m)
  body_fails m e h = fails_same e _ _ (body_at m) (fails_then e _ _ h)

  pub body_wrong : (m i : ℕ) (e : SyntaxRefusal) → opening_brace ts aliases 0 m ≡ Ok (tt, i) → i ≡ m + 1
      → Fails e (after [] (read ts some_constants (constants aliases) i)) → Fails e (read ts some_constants (enum_body aliases) m)
  body_wrong m i e h p f =
      fails_same e _ _
      (body_at m ∙ goes _ _ tt i h ∙ ap (λ i. read ts some_constants (constants aliases) i) (sym p) ∙ sym (after-nothing _))
      f

  pub body_goes : (m i : ℕ) (zs : List Enumerator) (xs ys : List EnumConstant) (n : ℕ) → opening_brace ts aliases 0 m ≡ Ok (tt, i) → i ≡ m + 1
      → zs ≡ [] → after (enumerator_shapes zs) (read ts some_constants (constants aliases) i) ≡ Ok (xs, n) → ys ≡ xs
      → read ts some_constants (enum_body aliases) m ≡ Ok (ys, n)
  body_goes m i zs xs ys n h p z f q =
      body_at m ∙ goes _ _ tt i h ∙ ap (λ i. read ts some_constants (constants aliases) i) (sym p) ∙ sym (after-nothing _)
      ∙ ap (λ zs. after (enumerator_shapes zs) (read ts some_constants (constants aliases) i)) (sym z) ∙ f
      ∙ ap (λ xs. Ok (xs, n)) (sym q)

pub ruleset alone = (constant_fails, constant_alone, constant_wrong, constant_goes)

pub ruleset listed = (constants_fail, constants_wrong, constants_last, constants_trail, constants_more, fails_same, gives_same)

pub ruleset bodies = (body_fails, body_wrong, body_goes)
