-- Groups of attributes, one by one.
use Rattle.std.proofs.Common.{ℕ, ◌+◌, ◌≡◌, ◌∙◌, ap, sym, refl, Bool, true, false, List, [], ◌∷◌, ◌++◌, Result, Ok, Err, nat_eq}
use Rattle.tsa_base.specs.Tokens.{Lexeme}
use Rattle.tsa_grammar.proofs.Cases.{chosen, other, goes}
use Rattle.tsa_grammar.specs.Form.{done, token, part, either}
use Rattle.tsa_grammar.specs.Reading.{Outcome, refuse, syntax, barred, then, choose}
use Rattle.tsa_tree.proofs.RowsRead.{read_steps}
use Rattle.tsa_tree.specs.declared.attr.Attr.{Attr}
use Rattle.tsa_tree.specs.declared.attr.AttrKind.{AttrKind}
use Rattle.tsa_tree.specs.declared.sign.Sign.{Sign}
use Rattle.tsa_tree.specs.declared.sign.Sign.TheVariants as sign
use Rattle.tsa_tree.specs.attributes.Refusals.{left_out, lacking}
use Rattle.tsa_tree.specs.attributes.Syntax.{Attribute, taking, attr_shapes}
use Rattle.tsa_tree.specs.Reads.{read}
use Rattle.tsa_tree.specs.Rows.{some_attributes, attributes, group, entries, Row, a_close, mark, sees, lacks, opens, arguments_row}
use Rattle.tsa_tree.specs.Rows.{group_row, is_attribute_sign}
use Rattle.tsa_tree.specs.tokens.Signs.{Aliases, sign_at}
use Rattle.tsa_expr.specs.declared.refusal.SyntaxRefusal.{SyntaxRefusal}
use Rattle.tsa_expr.specs.Gives.{Fails, Gives}
use Rattle.tsa_expr.proofs.Answering.{fails_then, fails_same, gives_same}
use Rattle.tsa_expr.proofs.Places.{sign_within}
use Rattle.tsa_attr.specs.Outcomes.{after, one_token, opening, arguments_at, attribute_at}
use Rattle.tsa_tree.specs.attributes.Answers.{read_any}
use Rattle.tsa_attr.specs.Readings.{passed}
use Rattle.tsa_attr.proofs.Joining.{then-same, then-ok, append-nil, passed_at, after-then, after-then-as, after-after, after-nothing}
use Rattle.tsa_attr.proofs.Openings.{going, opens_at}

close-law : {A : Type 0} (b : Bool) (x : A) (m : ℕ)
    → choose b (Ok (x, m + 1)) (Err (refuse syntax m)) ≡ then (choose b (passed_at (m + 1)) (Err (refuse syntax m))) (λ u e. Ok (x, e))
unfolding choose then
close-law true x m = refl
close-law false x m = refl

after-close : (front xs : List Attribute) (r : Outcome (Unit {0})) → after front (then r (λ u e. Ok (xs, e))) ≡ then r (λ u e. Ok (front ++ xs, e))
unfolding then
after-close front xs (Ok p) = refl
after-close front xs (Err e) = refl

module _ (ts : List Lexeme) (aliases : Aliases) where
  at_sign : (d m : ℕ) (s : Sign) → sign_at ts aliases m ≡ s → read ts some_attributes (group aliases d) m ≡ going ts some_attributes (group_row ts aliases d m s) m
  at_sign d m s e = read_steps ts some_attributes (group aliases d) m ∙ ap (λ s. going ts some_attributes (group_row ts aliases d m s) m) e

  -- macro words
  macro_at : (d : ℕ) (k : AttrKind) (m : ℕ) → sign_at ts aliases m ≡ sign.Macro k → read ts some_attributes (group aliases d) m ≡ attribute_at ts aliases d k m
  unfolding attribute_at arguments_at
  macro_at d k m e =
      at_sign d m (sign.Macro k) e
      ∙ ap (λ r. choose (lacks ts aliases k m) (Err (refuse (barred lacking) m)) r)
      (chosen _ _ _ (ap (λ s. nat_eq (mark s) 23) e)
      ∙ opens_at ts aliases some_attributes d (m + 1) (arguments_row ts aliases (d + 1) k m (taking k) (λ x e. done (x ∷ []))))

  -- lists
  abbrev within : (d m : ℕ) → Row some_attributes
  within d i =
      either (sees ts (a_close aliases) i)
      (token (a_close aliases) (token (a_close aliases) (done [])))
      (part some_attributes (entries aliases d) (λ xs n. token (a_close aliases) (done xs)))

  bracketed_at : (d m : ℕ) → sign_at ts aliases m ≡ sign.Attribute
      → read ts some_attributes (group aliases d) m
      ≡ then (opening ts aliases d (m + 1)) (λ u n. then (opening ts aliases (d + 1) (m + 1 + 1)) (λ u n. going ts some_attributes (within (d + 1 + 1) (m + 1 + 1 + 1)) (m + 1 + 1 + 1)))
  bracketed_at d m e =
      at_sign d m sign.Attribute e ∙ chosen _ _ _ (ap (λ s. nat_eq (mark s) 21) e)
      ∙ opens_at ts aliases some_attributes d (m + 1) (opens ts aliases (d + 1) (m + 1 + 1) (within (d + 1 + 1) (m + 1 + 1 + 1)))
      ∙ then-same (opening ts aliases d (m + 1)) _ _ (λ u n. opens_at ts aliases some_attributes (d + 1) (m + 1 + 1) (within (d + 1 + 1) (m + 1 + 1 + 1)))

  pub bracketed_first : (xs : List Attr) (d m : ℕ) (e : SyntaxRefusal) → sign_at ts aliases m ≡ sign.Attribute → Fails e (opening ts aliases d (m + 1))
      → Fails e (after (attr_shapes xs) (read ts some_attributes (group aliases d) m))
  bracketed_first xs d m e s h = fails_then e _ _ (fails_same e _ _ (bracketed_at d m s) (fails_then e _ _ h))

  pub bracketed_second : (xs : List Attr) (d m o : ℕ) (e : SyntaxRefusal) → sign_at ts aliases m ≡ sign.Attribute → opening ts aliases d (m + 1) ≡ Ok (tt, o)
      → o ≡ m + 1 + 1 → Fails e (opening ts aliases (d + 1) o) → Fails e (after (attr_shapes xs) (read ts some_attributes (group aliases d) m))
  bracketed_second xs d m o e s h p f =
      fails_then e _ _ (fails_same e _ _ (bracketed_at d m s ∙ goes _ _ tt o h) (fails_then e _ _ (fails_same e _ _ (ap (opening ts aliases (d + 1)) (sym p)) f)))

  opened_at : (d m o i : ℕ) → sign_at ts aliases m ≡ sign.Attribute → opening ts aliases d (m + 1) ≡ Ok (tt, o) → o ≡ m + 1 + 1
      → opening ts aliases (d + 1) o ≡ Ok (tt, i) → i ≡ o + 1
      → read ts some_attributes (group aliases d) m ≡ going ts some_attributes (within (d + 1 + 1) i) i
  opened_at d m o i s h p k q =
      bracketed_at d m s ∙ goes _ _ tt o h ∙ goes _ _ tt i (ap (opening ts aliases (d + 1)) (sym p) ∙ k)
      ∙ ap (λ o. going ts some_attributes (within (d + 1 + 1) (o + 1)) (o + 1)) (sym p)
      ∙ ap (λ i. going ts some_attributes (within (d + 1 + 1) i) i) (sym q)

  -- a list up to its second closing parenthesis, which leaves the place after it
  close_at : (xs : List Attribute) (n : ℕ) → going ts some_attributes (token (a_close aliases) (done xs)) n ≡ then (one_token ts (a_close aliases) n) (λ u e. Ok (xs, e))
  unfolding one_token
  close_at xs n = close-law (sees ts (a_close aliases) n) xs n

  closing_gives : (xs : List Attribute) (n : ℕ) (r : Result ℕ SyntaxRefusal) → Gives passed r (one_token ts (a_close aliases) n)
      → Gives (λ e. (xs, e)) r (then (one_token ts (a_close aliases) n) (λ u e. Ok (xs, e)))
  closing_gives xs n (Ok e) h = goes _ _ tt e h
  closing_gives xs n (Err e) h = fails_then e _ _ h

  -- with entries
  full_at : (front : List Attribute) (d m o i : ℕ) → sign_at ts aliases m ≡ sign.Attribute
      → opening ts aliases d (m + 1) ≡ Ok (tt, o) → o ≡ m + 1 + 1 → opening ts aliases (d + 1) o ≡ Ok (tt, i) → i ≡ o + 1 → sees ts (a_close aliases) i ≡ false
      → after front (read ts some_attributes (group aliases d) m)
      ≡ then (after front (read ts some_attributes (entries aliases (d + 1 + 1)) i)) (λ xs n. then (one_token ts (a_close aliases) n) (λ u e. Ok (xs, e)))
  full_at front d m o i s h p k q c =
      ap (after front)
      (opened_at d m o i s h p k q ∙ other _ _ _ c
      ∙ then-same (read ts some_attributes (entries aliases (d + 1 + 1)) i) _ (λ xs n. then (one_token ts (a_close aliases) n) (λ u e. Ok (xs, e))) (λ xs n. close_at xs n))
      ∙ after-then front (read ts some_attributes (entries aliases (d + 1 + 1)) i) _ (λ xs n. after-close front xs (one_token ts (a_close aliases) n))

  pub bracketed_empty : (xs : List Attr) (d m o i : ℕ) (r : Result ℕ SyntaxRefusal) → sign_at ts aliases m ≡ sign.Attribute
      → opening ts aliases d (m + 1) ≡ Ok (tt, o) → o ≡ m + 1 + 1 → opening ts aliases (d + 1) o ≡ Ok (tt, i) → i ≡ o + 1
      → sees ts (a_close aliases) i ≡ true → Gives passed r (one_token ts (a_close aliases) (i + 1))
      → Gives (λ e. (attr_shapes xs, e)) r (after (attr_shapes xs) (read ts some_attributes (group aliases d) m))
  bracketed_empty xs d m o i r s h p k q c g =
      gives_same (λ e. (attr_shapes xs, e)) r _ _
      (ap (after (attr_shapes xs)) (opened_at d m o i s h p k q ∙ chosen _ _ _ c ∙ chosen _ _ _ c ∙ close_at [] (i + 1))
      ∙ after-close (attr_shapes xs) [] (one_token ts (a_close aliases) (i + 1)) ∙ ap (λ ys. then (one_token ts (a_close aliases) (i + 1)) (λ u e. Ok (ys, e))) (append-nil (attr_shapes xs)))
      (closing_gives (attr_shapes xs) (i + 1) r g)

  pub bracketed_full : (xs ys : List Attr) (d m o i n : ℕ) (r : Result ℕ SyntaxRefusal) → sign_at ts aliases m ≡ sign.Attribute
      → opening ts aliases d (m + 1) ≡ Ok (tt, o) → o ≡ m + 1 + 1 → opening ts aliases (d + 1) o ≡ Ok (tt, i) → i ≡ o + 1
      → sees ts (a_close aliases) i ≡ false → after (attr_shapes xs) (read ts some_attributes (entries aliases (d + 1 + 1)) i) ≡ Ok (attr_shapes ys, n)
      → Gives passed r (one_token ts (a_close aliases) n)
      → Gives (λ e. (attr_shapes ys, e)) r (after (attr_shapes xs) (read ts some_attributes (group aliases d) m))
  bracketed_full xs ys d m o i n r s h p k q c e g =
      gives_same (λ e. (attr_shapes ys, e)) r _ _
      (full_at (attr_shapes xs) d m o i s h p k q c ∙ goes _ _ (attr_shapes ys) n e) (closing_gives (attr_shapes ys) n r g)

  pub bracketed_fails : (xs : List Attr) (d m o i : ℕ) (e : SyntaxRefusal) → sign_at ts aliases m ≡ sign.Attribute
      → opening ts aliases d (m + 1) ≡ Ok (tt, o) → o ≡ m + 1 + 1 → opening ts aliases (d + 1) o ≡ Ok (tt, i) → i ≡ o + 1
      → sees ts (a_close aliases) i ≡ false → Fails e (after (attr_shapes xs) (read ts some_attributes (entries aliases (d + 1 + 1)) i))
      → Fails e (after (attr_shapes xs) (read ts some_attributes (group aliases d) m))
  bracketed_fails xs d m o i e s h p k q c f = fails_same e _ _ (full_at (attr_shapes xs) d m o i s h p k q c) (fails_then e _ _ f)

  -- groups one by one
  on-law : (front xs : List Attribute) (b : Bool) (n : ℕ) (r : Outcome (List Attribute))
      → after front (choose b (after xs r) (Ok (xs ++ [], n))) ≡ choose b (after (front ++ xs) r) (Ok (front ++ xs, n))
  unfolding choose
  on-law front xs true n r = after-after front xs r
  on-law front xs false n r = then-ok (xs ++ []) n _ ∙ ap (λ ys. Ok (front ++ ys, n)) (append-nil xs)

  abbrev groups_on : (d : ℕ) → List Attribute → ℕ → Outcome (List Attribute)
  groups_on d xs n = choose (is_attribute_sign (sign_at ts aliases n)) (after xs (read ts some_attributes (attributes aliases d) n)) (Ok (xs, n))

  after-groups : (front : List Attribute) (d m : ℕ)
      → after front (read ts some_attributes (attributes aliases d) m) ≡ then (after front (read ts some_attributes (group aliases d) m)) (groups_on d)
  after-groups front d m =
      ap (after front) (read_steps ts some_attributes (attributes aliases d) m)
      ∙ after-then-as front (read ts some_attributes (group aliases d) m) _ (groups_on d)
      (λ xs n. on-law front xs (is_attribute_sign (sign_at ts aliases n)) n (read ts some_attributes (attributes aliases d) n))

  -- any number of groups, after those that were there before
  any-law : (front : List Attribute) (b : Bool) (n : ℕ) (r : Outcome (List Attribute)) → after front (choose b r (Ok ([], n))) ≡ choose b (after front r) (Ok (front, n))
  unfolding choose then
  any-law front true n r = refl
  any-law front false n r = ap (λ ys. Ok (ys, n)) (append-nil front)

  any_on : (d : ℕ) (front : List Attribute) (n : ℕ) → after front (read_any ts aliases d n) ≡ groups_on d front n
  unfolding read_any
  any_on d front n = any-law front (is_attribute_sign (sign_at ts aliases n)) n (read ts some_attributes (attributes aliases d) n)

  any_group : (front : List Attribute) (d m : ℕ) → is_attribute_sign (sign_at ts aliases m) ≡ true
      → after front (read_any ts aliases d m) ≡ then (after front (read ts some_attributes (group aliases d) m)) (groups_on d)
  any_group front d m e = any_on d front m ∙ chosen _ _ _ e ∙ after-groups front d m

  pub no_group : (xs : List Attr) (d m : ℕ) → is_attribute_sign (sign_at ts aliases m) ≡ false → after (attr_shapes xs) (read_any ts aliases d m) ≡ Ok (attr_shapes xs, m)
  no_group xs d m e = any_on d (attr_shapes xs) m ∙ other _ _ _ e

  group_then : (xs ys : List Attr) (d m n : ℕ) (r : Outcome (List Attribute)) → is_attribute_sign (sign_at ts aliases m) ≡ true
      → read ts some_attributes (group aliases d) m ≡ r → after (attr_shapes xs) r ≡ Ok (attr_shapes ys, n)
      → after (attr_shapes xs) (read_any ts aliases d m) ≡ after (attr_shapes ys) (read_any ts aliases d n)
  group_then xs ys d m n r e q h =
      any_group (attr_shapes xs) d m e ∙ goes _ _ (attr_shapes ys) n (ap (after (attr_shapes xs)) q ∙ h) ∙ sym (any_on d (attr_shapes ys) n)

  group_refused : (xs : List Attr) (d m : ℕ) (r : Outcome (List Attribute)) (e : SyntaxRefusal) → is_attribute_sign (sign_at ts aliases m) ≡ true
      → read ts some_attributes (group aliases d) m ≡ r → Fails e (after (attr_shapes xs) r) → Fails e (after (attr_shapes xs) (read_any ts aliases d m))
  group_refused xs d m r e i q h =
      fails_same e _ _ (any_group (attr_shapes xs) d m i) (fails_then e _ _ (fails_same e _ _ (ap (after (attr_shapes xs)) q) h))

  pub macro_goes : (xs ys : List Attr) (d : ℕ) (k : AttrKind) (m n : ℕ) → sign_at ts aliases m ≡ sign.Macro k
      → after (attr_shapes xs) (attribute_at ts aliases d k m) ≡ Ok (attr_shapes ys, n)
      → after (attr_shapes xs) (read_any ts aliases d m) ≡ after (attr_shapes ys) (read_any ts aliases d n)
  macro_goes xs ys d k m n s h = group_then xs ys d m n _ (ap is_attribute_sign s) (macro_at d k m s) h

  pub macro_fails : (xs : List Attr) (d : ℕ) (k : AttrKind) (m : ℕ) (e : SyntaxRefusal) → sign_at ts aliases m ≡ sign.Macro k
      → Fails e (after (attr_shapes xs) (attribute_at ts aliases d k m)) → Fails e (after (attr_shapes xs) (read_any ts aliases d m))
  macro_fails xs d k m e s h = group_refused xs d m _ e (ap is_attribute_sign s) (macro_at d k m s) h

  pub macro_left_out : (xs : List Attr) (d m : ℕ) → sign_at ts aliases m ≡ sign.LeftOutMacro
      → after (attr_shapes xs) (read_any ts aliases d m) ≡ Err (refuse (barred left_out) m)
  unfolding then
  macro_left_out xs d m s =
      any_group (attr_shapes xs) d m (ap is_attribute_sign s)
      ∙ ap (λ r. then (after (attr_shapes xs) r) (groups_on d)) (at_sign d m sign.LeftOutMacro s ∙ chosen _ _ _ refl)

  pub list_goes : (xs ys : List Attr) (d m n : ℕ) → sign_at ts aliases m ≡ sign.Attribute
      → after (attr_shapes xs) (read ts some_attributes (group aliases d) m) ≡ Ok (attr_shapes ys, n)
      → after (attr_shapes xs) (read_any ts aliases d m) ≡ after (attr_shapes ys) (read_any ts aliases d n)
  list_goes xs ys d m n s h = group_then xs ys d m n _ (ap is_attribute_sign s) refl h

  pub list_fails : (xs : List Attr) (d m : ℕ) (e : SyntaxRefusal) → sign_at ts aliases m ≡ sign.Attribute
      → Fails e (after (attr_shapes xs) (read ts some_attributes (group aliases d) m)) → Fails e (after (attr_shapes xs) (read_any ts aliases d m))
  list_fails xs d m e s h = group_refused xs d m _ e (ap is_attribute_sign s) refl h

  -- any number of groups
  pub none_begin : (d m : ℕ) → is_attribute_sign (sign_at ts aliases m) ≡ false → read_any ts aliases d m ≡ Ok ([], m)
  unfolding read_any
  none_begin d m e = other _ _ _ e

  pub any_fails : (d m : ℕ) (e : SyntaxRefusal) → Fails e (after [] (read_any ts aliases d m)) → Fails e (read_any ts aliases d m)
  any_fails d m e h = fails_same e _ _ (sym (after-nothing _)) h

  pub any_goes : (d m : ℕ) (xs : List Attribute) (n : ℕ) → after [] (read_any ts aliases d m) ≡ Ok (xs, n) → read_any ts aliases d m ≡ Ok (xs, n)
  any_goes d m xs n h = sym (after-nothing _) ∙ h

pub ruleset groups = (sign_within, no_group, macro_goes, macro_fails, macro_left_out, list_goes, list_fails, fails_same, gives_same)

pub ruleset attribute_lists = (sign_within, bracketed_first, bracketed_second, bracketed_empty, bracketed_full, bracketed_fails)

pub ruleset any = (none_begin, any_fails, any_goes)
