-- An attribute, from its name or macro word to its parenthesis.
use Rattle.std.proofs.Common.{ℕ, ◌+◌, ◌<◌, ◌≤◌, ◌≡◌, ◌≢◌, ◌∙◌, ap, sym, subst, refl, Bool, true, false, List, [], ◌∷◌, ◌++◌, Some, None}
use Rattle.std.proofs.Common.{Result, Ok, Err, IfOk, OnErr, nat_eq}
use Rattle.tsa_base.specs.declared.token.Span.{Span}
use Rattle.tsa_base.specs.Tokens.{Lexeme}
use Rattle.tsa_grammar.proofs.Cases.{chosen, other, goes}
use Rattle.tsa_grammar.specs.Reading.{Outcome, refuse, syntax, deep, barred, then, choose}
use Rattle.tsa_tree.specs.declared.attr.Attr.{Attr}
use Rattle.tsa_tree.specs.declared.attr.AttrKind.{AttrKind}
use Rattle.tsa_tree.specs.declared.sign.Sign.{Sign}
use Rattle.tsa_tree.specs.declared.sign.Sign.TheVariants as sign
use Rattle.tsa_tree.specs.attributes.Refusals.{lacking}
use Rattle.tsa_tree.specs.attributes.Syntax as takes
use Rattle.tsa_tree.specs.attributes.Syntax.{Attribute, Taking, taking, unquoted, try_value, attr_shape, attr_shapes}
use Rattle.tsa_tree.specs.attributes.Spelling.{attribute, attribute_of}
use Rattle.tsa_tree.specs.expressions.Syntax.{Expression, Arguments, none, more}
use Rattle.tsa_tree.specs.Reads.{read}
use Rattle.tsa_tree.specs.Rows.{an_expression, some_arguments, some_attributes, expression, series, Row, a_close, a_comma, a_text, is_given}
use Rattle.tsa_tree.specs.Rows.{mark, sees, lacking_at, arguments_row}
use Rattle.tsa_tree.specs.tokens.Signs.{Aliases, sign_at, identifier_at, span_over}
use Rattle.tsa_expr.specs.declared.refusal.SyntaxRefusal.{SyntaxRefusal}
use Rattle.tsa_expr.specs.declared.refusal.SyntaxRefusal.TheVariants.{NoMemory}
use Rattle.tsa_expr.specs.Gives.{Fails, Gives}
use Rattle.tsa_expr.proofs.Answering.{fails_then, fails_same, gives_same, not_comma}
use Rattle.tsa_attr.specs.Outcomes.{after, one_token, opening, arguments_at, attribute_at}
use Rattle.tsa_attr.specs.declared.reading.Reading.{Reading}
use Rattle.tsa_attr.specs.Readings.{made, seen}
use Rattle.tsa_attr.proofs.Joining.{then-then, then-same, then-choose, token-law, shapes-push}
use Rattle.tsa_attr.proofs.Openings.{going, open_wrong, open_deep, open_goes}

not_text : (s : Sign) → s ≢ sign.Text → nat_eq (mark s) 16 ≡ false
not_text sign.Text h = absurd (h refl)
not_text _ h = refl

module _ (ts : List Lexeme) (aliases : Aliases) where
  -- by what stands after the name
  attribute_at_sign : (d : ℕ) (k : AttrKind) (m : ℕ) (s : Sign) → sign_at ts aliases (m + 1) ≡ s
      → attribute_at ts aliases d k m
      ≡ choose (lacking_at ts aliases k m s) (Err (refuse (barred lacking) m)) (then (opening ts aliases d (m + 1)) (λ u n. arguments_at ts aliases (d + 1) k m (taking k)))
  unfolding attribute_at
  attribute_at_sign d k m s e =
      ap (λ s. choose (lacking_at ts aliases k m s) (Err (refuse (barred lacking) m)) (then (opening ts aliases d (m + 1)) (λ u n. arguments_at ts aliases (d + 1) k m (taking k)))) e

  pub attribute_ended : (d : ℕ) (k : AttrKind) (m : ℕ) → sign_at ts aliases (m + 1) ≡ sign.End → attribute_at ts aliases d k m ≡ Err (refuse syntax (m + 1))
  unfolding then
  attribute_ended d k m e =
      attribute_at_sign d k m sign.End e ∙ other _ _ _ refl
      ∙ ap (λ r. then r (λ u n. arguments_at ts aliases (d + 1) k m (taking k))) (open_wrong ts aliases d (m + 1) (λ h. let never : sign.End ≡ sign.Open = sym e ∙ h in cc))

  lacking_bare : (k : AttrKind) (m : ℕ) (s : Sign) → s ≢ sign.End → s ≢ sign.Open → lacking_at ts aliases k m s ≡ true
  lacking_bare k m sign.End h o = absurd (h refl)
  lacking_bare k m sign.Open h o = absurd (o refl)
  lacking_bare k m _ h o = refl

  pub attribute_bare : (d : ℕ) (k : AttrKind) (m : ℕ) → sign_at ts aliases (m + 1) ≢ sign.End → sign_at ts aliases (m + 1) ≢ sign.Open
      → attribute_at ts aliases d k m ≡ Err (refuse (barred lacking) m)
  attribute_bare d k m h o = attribute_at_sign d k m _ refl ∙ chosen _ _ _ (lacking_bare k m (sign_at ts aliases (m + 1)) h o)

  pub attribute_empty : (d : ℕ) (k : AttrKind) (m : ℕ) → sign_at ts aliases (m + 1) ≡ sign.Open → lacking_at ts aliases k m sign.Open ≡ true
      → attribute_at ts aliases d k m ≡ Err (refuse (barred lacking) m)
  attribute_empty d k m e l = attribute_at_sign d k m sign.Open e ∙ chosen _ _ _ l

  pub attribute_deep : (d : ℕ) (k : AttrKind) (m : ℕ) → sign_at ts aliases (m + 1) ≡ sign.Open → lacking_at ts aliases k m sign.Open ≡ false → 100 ≤ d
      → attribute_at ts aliases d k m ≡ Err (refuse deep (m + 1))
  unfolding then
  attribute_deep d k m e l h =
      attribute_at_sign d k m sign.Open e ∙ other _ _ _ l
      ∙ ap (λ r. then r (λ u n. arguments_at ts aliases (d + 1) k m (taking k))) (open_deep ts aliases d (m + 1) e h)

  pub attribute_goes : (d : ℕ) (k : AttrKind) (m : ℕ) (t : Taking) → sign_at ts aliases (m + 1) ≡ sign.Open → lacking_at ts aliases k m sign.Open ≡ false → d < 100
      → taking k ≡ t → attribute_at ts aliases d k m ≡ arguments_at ts aliases (d + 1) k m t
  attribute_goes d k m t e l h q =
      attribute_at_sign d k m sign.Open e ∙ other _ _ _ l ∙ goes _ _ tt (m + 1 + 1) (open_goes ts aliases d (m + 1) e h)
      ∙ ap (arguments_at ts aliases (d + 1) k m) q

  -- at the end of a list
  pub appended_fails : (xs : List Attr) (r : Outcome (List Attribute)) (e : SyntaxRefusal) → Fails e r → Fails e (after (attr_shapes xs) r)
  appended_fails xs r e h = fails_then e _ _ h

  pub appended_goes : (xs : List Attr) (r : Outcome (List Attribute)) (x : Attr) (n : ℕ) → r ≡ Ok (attr_shape x ∷ [], n)
      → after (attr_shapes xs) r ≡ Ok (attr_shapes (xs ++ x ∷ []), n)
  appended_goes xs r x n h = goes _ _ (attr_shape x ∷ []) n h ∙ ap (λ ys. Ok (ys, n)) (sym (shapes-push xs x))

  -- a text
  text_at : (d : ℕ) (k : AttrKind) (m : ℕ) → sign_at ts aliases (m + 1 + 1) ≡ sign.Text
      → arguments_at ts aliases d k m takes.a_text
      ≡ then (one_token ts (a_close aliases) (m + 1 + 1 + 1))
      (λ u n. Ok (attribute ts k (Some (unquoted (identifier_at ts (m + 1 + 1)).text)) None none m (m + 1 + 1 + 1 + 1) ∷ [], m + 1 + 1 + 1 + 1))
  unfolding arguments_at one_token
  text_at d k m e = chosen _ _ _ (ap (λ s. nat_eq (mark s) 16) e) ∙ token-law _ (m + 1 + 1 + 1) _

  pub text_wrong : (d : ℕ) (k : AttrKind) (m : ℕ) → sign_at ts aliases (m + 1 + 1) ≢ sign.Text
      → arguments_at ts aliases d k m takes.a_text ≡ Err (refuse syntax (m + 1 + 1))
  unfolding arguments_at
  text_wrong d k m h = other _ _ _ (not_text (sign_at ts aliases (m + 1 + 1)) h)

  pub text_fails : (d : ℕ) (k : AttrKind) (m : ℕ) (e : SyntaxRefusal) → sign_at ts aliases (m + 1 + 1) ≡ sign.Text
      → Fails e (one_token ts (a_close aliases) (m + 1 + 1 + 1)) → Fails e (arguments_at ts aliases d k m takes.a_text)
  text_fails d k m e t h = fails_same e _ _ (text_at d k m t) (fails_then e _ _ h)

  pub text_goes : (d : ℕ) (k : AttrKind) (m n : ℕ) (x : Attribute) (text : List ℕ) (span : Span) → sign_at ts aliases (m + 1 + 1) ≡ sign.Text
      → one_token ts (a_close aliases) (m + 1 + 1 + 1) ≡ Ok (tt, n) → n ≡ m + 1 + 1 + 1 + 1
      → x ≡ made k (Some text) None none span → text ≡ unquoted (identifier_at ts (m + 1 + 1)).text → span ≡ span_over ts m n
      → arguments_at ts aliases d k m takes.a_text ≡ Ok (x ∷ [], n)
  text_goes d k m n x text span t h e p q r =
      text_at d k m t ∙ goes _ _ tt n h
      ∙ ap (λ n. Ok (attribute ts k (Some (unquoted (identifier_at ts (m + 1 + 1)).text)) None none m n ∷ [], n)) (sym e)
      ∙ ap (λ text. Ok (made k (Some text) None none (span_over ts m n) ∷ [], n)) (sym q)
      ∙ ap (λ span. Ok (made k (Some text) None none span ∷ [], n)) (sym r)
      ∙ ap (λ x. Ok (x ∷ [], n)) (sym p)

  -- one expression
  one_at : (d : ℕ) (k : AttrKind) (m : ℕ) (x : Expression) (n : ℕ) → read ts an_expression (expression aliases d 0) (m + 1 + 1) ≡ Ok (x, n)
      → arguments_at ts aliases d k m takes.one_expression
      ≡ then (one_token ts (a_close aliases) n) (λ u e. Ok (attribute ts k None None (more x none) m (n + 1) ∷ [], n + 1))
  unfolding arguments_at one_token
  one_at d k m x n h = goes _ _ x n h ∙ token-law _ n _

  pub one_fails : (d : ℕ) (k : AttrKind) (m : ℕ) (e : SyntaxRefusal) → Fails e (read ts an_expression (expression aliases d 0) (m + 1 + 1))
      → Fails e (arguments_at ts aliases d k m takes.one_expression)
  unfolding arguments_at
  one_fails d k m e h = fails_then e _ _ h

  pub one_unclosed : (d : ℕ) (k : AttrKind) (m : ℕ) (x : Expression) (n : ℕ) (e : SyntaxRefusal) → read ts an_expression (expression aliases d 0) (m + 1 + 1) ≡ Ok (x, n)
      → Fails e (one_token ts (a_close aliases) n) → Fails e (arguments_at ts aliases d k m takes.one_expression)
  one_unclosed d k m x n e h f = fails_same e _ _ (one_at d k m x n h) (fails_then e _ _ f)

  pub one_goes : (d : ℕ) (k : AttrKind) (m : ℕ) (x : Expression) (n i : ℕ) (y : Attribute) (xs : Arguments) (span : Span)
      → read ts an_expression (expression aliases d 0) (m + 1 + 1) ≡ Ok (x, n) → one_token ts (a_close aliases) n ≡ Ok (tt, i) → i ≡ n + 1
      → y ≡ made k None None xs span → xs ≡ more x none → span ≡ span_over ts m i
      → arguments_at ts aliases d k m takes.one_expression ≡ Ok (y ∷ [], i)
  one_goes d k m x n i y xs span h c e p q r =
      one_at d k m x n h ∙ goes _ _ tt i c
      ∙ ap (λ i. Ok (attribute ts k None None (more x none) m i ∷ [], i)) (sym e)
      ∙ ap (λ xs. Ok (made k None None xs (span_over ts m i) ∷ [], i)) (sym q)
      ∙ ap (λ span. Ok (made k None None xs span ∷ [], i)) (sym r)
      ∙ ap (λ y. Ok (y ∷ [], i)) (sym p)

  -- expressions
  pub list_fails : (d : ℕ) (k : AttrKind) (m : ℕ) (e : SyntaxRefusal) → Fails e (read ts some_arguments (series aliases d) (m + 1 + 1))
      → Fails e (arguments_at ts aliases d k m takes.expressions)
  unfolding arguments_at
  list_fails d k m e h = fails_then e _ _ h

  pub list_goes : (d : ℕ) (k : AttrKind) (m : ℕ) (xs : Arguments) (n i : ℕ) (x : Attribute) → read ts some_arguments (series aliases d) (m + 1 + 1) ≡ Ok (xs, n)
      → x ≡ attribute_of ts k xs m n → i ≡ n → arguments_at ts aliases d k m takes.expressions ≡ Ok (x ∷ [], i)
  unfolding arguments_at
  list_goes d k m xs n i x h p q = goes _ _ xs n h ∙ ap (λ x. Ok (x ∷ [], n)) (sym p) ∙ ap (λ n. Ok (x ∷ [], n)) (sym q)

  pub list_gives : (d : ℕ) (k : AttrKind) (m : ℕ) (xs : Arguments) (n : ℕ) (r : Result Reading SyntaxRefusal)
      → read ts some_arguments (series aliases d) (m + 1 + 1) ≡ Ok (xs, n) → IfOk r (λ x. attr_shape x.attr ≡ attribute_of ts k xs m n)
      → IfOk r (λ x. x.next ≡ n) → OnErr r (r ≡ Err NoMemory) → Gives seen r (arguments_at ts aliases d k m takes.expressions)
  list_gives d k m xs n (Ok x) h p q e = list_goes d k m xs n x.next (attr_shape x.attr) h p q
  list_gives d k m xs n (Err y) h p q e =
      let same : NoMemory ≡ y = cc in subst (λ y. Fails y (arguments_at ts aliases d k m takes.expressions)) same tt

  -- a try
  pub try_wrong : (d : ℕ) (k : AttrKind) (m : ℕ) → try_value (identifier_at ts (m + 1 + 1)).text ≡ None
      → arguments_at ts aliases d k m takes.a_try ≡ Err (refuse syntax (m + 1 + 1))
  unfolding arguments_at
  try_wrong d k m e = other _ _ _ (ap is_given e)

  pub try_alone : (d : ℕ) (k : AttrKind) (m : ℕ) (v : Bool) → try_value (identifier_at ts (m + 1 + 1)).text ≡ Some v
      → sign_at ts aliases (m + 1 + 1 + 1) ≢ sign.Comma → arguments_at ts aliases d k m takes.a_try ≡ Err (refuse syntax (m + 1 + 1 + 1))
  unfolding arguments_at
  try_alone d k m v e h = chosen _ _ _ (ap is_given e) ∙ other _ _ _ (not_comma (sign_at ts aliases (m + 1 + 1 + 1)) h)

  try_at : (d : ℕ) (k : AttrKind) (m : ℕ) (v : Bool) → try_value (identifier_at ts (m + 1 + 1)).text ≡ Some v
      → sign_at ts aliases (m + 1 + 1 + 1) ≡ sign.Comma → arguments_at ts aliases d k m takes.a_try
      ≡ then (read ts some_arguments (series aliases d) (m + 1 + 1 + 1 + 1)) (λ xs n. Ok (attribute ts k None (Some v) xs m n ∷ [], n))
  unfolding arguments_at
  try_at d k m v e h =
      chosen _ _ _ (ap is_given e) ∙ chosen _ _ _ (ap (λ s. nat_eq (mark s) 10) h)
      ∙ ap (λ v. then (read ts some_arguments (series aliases d) (m + 1 + 1 + 1 + 1)) (λ xs n. Ok (attribute ts k None v xs m n ∷ [], n))) e

  pub try_fails : (d : ℕ) (k : AttrKind) (m : ℕ) (v : Bool) (e : SyntaxRefusal) → try_value (identifier_at ts (m + 1 + 1)).text ≡ Some v
      → sign_at ts aliases (m + 1 + 1 + 1) ≡ sign.Comma → Fails e (read ts some_arguments (series aliases d) (m + 1 + 1 + 1 + 1))
      → Fails e (arguments_at ts aliases d k m takes.a_try)
  try_fails d k m v e t c h = fails_same e _ _ (try_at d k m v t c) (fails_then e _ _ h)

  pub try_goes : (d : ℕ) (k : AttrKind) (m : ℕ) (v : Bool) (xs : Arguments) (n i : ℕ) (x : Attribute) → try_value (identifier_at ts (m + 1 + 1)).text ≡ Some v
      → sign_at ts aliases (m + 1 + 1 + 1) ≡ sign.Comma → read ts some_arguments (series aliases d) (m + 1 + 1 + 1 + 1) ≡ Ok (xs, n)
      → x ≡ attribute ts k None (Some v) xs m n → i ≡ n → arguments_at ts aliases d k m takes.a_try ≡ Ok (x ∷ [], i)
  try_goes d k m v xs n i x t c h p q =
      try_at d k m v t c ∙ goes _ _ xs n h ∙ ap (λ x. Ok (x ∷ [], n)) (sym p) ∙ ap (λ n. Ok (x ∷ [], n)) (sym q)

  -- what follows an attribute
  pub follows : (d : ℕ) (k : AttrKind) (m : ℕ) (t : Taking) (end : List Attribute → ℕ → Row some_attributes)
      → going ts some_attributes (arguments_row ts aliases d k m t (λ x e. end (x ∷ []) e)) (m + 1 + 1)
      ≡ then (arguments_at ts aliases d k m t) (λ xs e. going ts some_attributes (end xs e) e)
  unfolding arguments_at then
  follows d k m takes.a_text end =
      ap (λ r. choose (sees ts (a_text aliases) (m + 1 + 1)) r (Err (refuse syntax (m + 1 + 1)))) (sym (then-choose (sees ts (a_close aliases) (m + 1 + 1 + 1)) _ _ _))
      ∙ sym (then-choose (sees ts (a_text aliases) (m + 1 + 1)) _ _ _)
  follows d k m takes.one_expression end =
      then-same (read ts an_expression (expression aliases d 0) (m + 1 + 1)) _ _ (λ x n. sym (then-choose (sees ts (a_close aliases) n) _ _ _))
      ∙ sym (then-then (read ts an_expression (expression aliases d 0) (m + 1 + 1)) _ _)
  follows d k m takes.expressions end = sym (then-then (read ts some_arguments (series aliases d) (m + 1 + 1)) _ _)
  follows d k m takes.a_try end =
      ap (λ r. choose (is_given (try_value (identifier_at ts (m + 1 + 1)).text)) r (Err (refuse syntax (m + 1 + 1))))
      (ap (λ r. choose (sees ts (a_comma aliases) (m + 1 + 1 + 1)) r (Err (refuse syntax (m + 1 + 1 + 1))))
      (sym (then-then (read ts some_arguments (series aliases d) (m + 1 + 1 + 1 + 1)) _ _))
      ∙ sym (then-choose (sees ts (a_comma aliases) (m + 1 + 1 + 1)) _ _ _))
      ∙ sym (then-choose (is_given (try_value (identifier_at ts (m + 1 + 1)).text)) _ _ _)

pub ruleset appended = (appended_fails, appended_goes)

pub ruleset attributes = (attribute_ended, attribute_bare, attribute_empty, attribute_deep, attribute_goes, gives_same)

pub ruleset texts = (text_wrong, text_fails, text_goes)

pub ruleset expressions = (one_fails, one_unclosed, one_goes)

pub ruleset lists = (list_fails, list_goes)

pub ruleset attempts = (try_wrong, try_alone, try_fails, try_goes)
