-- Parameters, one by one.
use Rattle.std.proofs.Common.{ℕ, ◌+◌, ◌<◌, ◌≡◌, ◌≢◌, ◌∙◌, ap, sym, subst, refl, length, Bool, true, false, ◌&&◌, List, [], ◌∷◌, ◌++◌, Some}
use Rattle.std.proofs.Common.{None, Ok, Err, nat_eq}
use Rattle.std.proofs.lemmas.List.{length-map}
use Rattle.tsa_base.specs.declared.token.Span.{Span}
use Rattle.tsa_base.specs.declared.token.Token.{Token}
use Rattle.tsa_base.specs.Tokens.{Lexeme, lexeme}
use Rattle.tsa_grammar.proofs.Cases.{chosen, other, goes}
use Rattle.tsa_grammar.specs.Form.{token, either}
use Rattle.tsa_grammar.specs.Reading.{Outcome, refuse, syntax, then, choose}
use Rattle.tsa_tree.proofs.RowFacts.{inside}
use Rattle.tsa_tree.proofs.RowsRead.{read_steps}
use Rattle.tsa_tree.specs.declared.item.Param.{Param}
use Rattle.tsa_tree.specs.declared.sign.Keyword.TheVariants as key
use Rattle.tsa_tree.specs.declared.sign.Sign.{Sign}
use Rattle.tsa_tree.specs.declared.sign.Sign.TheVariants as sign
use Rattle.tsa_tree.specs.declarations.Syntax.{Specified, Parameter}
use Rattle.tsa_tree.specs.expressions.Syntax.{Identifier}
use Rattle.tsa_tree.specs.declarations.Shapes.{param_shape, param_shapes}
use Rattle.tsa_tree.specs.declarations.ItemSpelling.{parameter, parameter_start}
use Rattle.tsa_tree.specs.Reads.{read}
use Rattle.tsa_tree.specs.Rows.{a_specifier, some_parameters, Row, specifier, parameter_list, parameters, a_name, a_close, sees, mark}
use Rattle.tsa_tree.specs.Rows.{is_keyword, parameter_end}
use Rattle.tsa_tree.specs.tokens.Signs.{Aliases, lexemes, sign_at, identifier_at, span_over, is_void, is_close, is_lone_void}
use Rattle.tsa_expr.specs.declared.refusal.SyntaxRefusal.{SyntaxRefusal}
use Rattle.tsa_expr.specs.Gives.{Fails}
use Rattle.tsa_expr.proofs.Answering.{fails_then, fails_same, gives_same, then_done, not_name, not_comma, not_close}
use Rattle.tsa_attr.proofs.Joining.{then-then, then-same}
use Rattle.tsa_decl_declarators.specs.Outcomes.{after, going, star_at}
use Rattle.tsa_decl.specs.Outcomes.{parameter_with, parameter_by, parameter_at}
use Rattle.tsa_decl_declarators.proofs.ListLaws.{map-push, after-nothing, after-over, after-more}
use Rattle.tsa_decl_declarators.proofs.Pieces.{star_then}

-- a name, or none, and what follows
named-law : {B : Type 0} (b : Bool) (x y : Parameter) (m : ℕ) (f : Parameter → ℕ → Outcome B)
    → choose b (choose b (f x (m + 1)) (Err (refuse syntax m))) (f y m) ≡ then (choose b (Ok (x, m + 1)) (Ok (y, m))) f
unfolding choose then
named-law true x y m f = refl
named-law false x y m f = refl

both-true : (a b : Bool) → a && b ≡ true → (a ≡ true) × (b ≡ true)
both-true true true e = (refl, refl)
both-true true false e = cc
both-true false b e = cc

void-word : (s : Sign) → is_void s ≡ true → is_keyword key.Void s ≡ true
void-word (sign.Keyword key.Void) e = refl
void-word _ e = cc

close-mark : (s : Sign) → is_close s ≡ true → nat_eq (mark s) 7 ≡ true
close-mark sign.Close e = refl
close-mark _ e = cc

-- a lone `void` and the parenthesis after it stand in the list of tokens
pub lone_within : (tokens : List Token) (aliases : Aliases) (m : ℕ) → is_lone_void (lexemes tokens) aliases m ≡ true → m + 1 < length tokens
lone_within tokens aliases m v =
    let both = both-true (is_void (sign_at (lexemes tokens) aliases m)) (is_close (sign_at (lexemes tokens) aliases (m + 1))) v in
    subst (λ n. m + 1 < n) (length-map tokens lexeme)
    (inside (lexemes tokens) (a_close aliases) (m + 1) (close-mark (sign_at (lexemes tokens) aliases (m + 1)) both.1))

module _ (ts : List Lexeme) (aliases : Aliases) where
  -- a parameter
  pub parameter_fails : (m : ℕ) (e : SyntaxRefusal) → Fails e (read ts a_specifier (specifier aliases) m) → Fails e (parameter_at ts aliases m)
  unfolding parameter_at
  parameter_fails m e h = fails_then e _ _ h

  starred_at : (m : ℕ) (t : Specified) (n : ℕ) (star : Bool × Bool × ℕ) → read ts a_specifier (specifier aliases) m ≡ Ok (t, n)
      → star_at ts aliases n ≡ star → parameter_at ts aliases m ≡ parameter_by ts aliases m n t star
  unfolding parameter_at
  starred_at m t n star h s = goes _ _ t n h ∙ ap (parameter_by ts aliases m n t) s

  pub parameter_named : (m : ℕ) (t : Specified) (n : ℕ) (star : Bool × Bool × ℕ) (name : Identifier) (span : Span) (x : Parameter)
      → read ts a_specifier (specifier aliases) m ≡ Ok (t, n) → star_at ts aliases n ≡ star → sign_at ts aliases star.2 ≡ sign.Name
      → name ≡ identifier_at ts star.2 → span ≡ span_over ts n (star.2 + 1) → x ≡ parameter_with t star.0 star.1 (Some name) span
      → parameter_at ts aliases m ≡ Ok (x, star.2 + 1)
  parameter_named m t n star name span x h s e p q r =
      starred_at m t n star h s ∙ chosen _ _ _ (ap (λ s. nat_eq (mark s) 3) e)
      ∙ ap (λ name. Ok (parameter_with t star.0 star.1 (Some name) (span_over ts n (star.2 + 1)), star.2 + 1)) (sym p)
      ∙ ap (λ span. Ok (parameter_with t star.0 star.1 (Some name) span, star.2 + 1)) (sym q)
      ∙ ap (λ x. Ok (x, star.2 + 1)) (sym r)

  pub parameter_unnamed : (m : ℕ) (t : Specified) (n : ℕ) (star : Bool × Bool × ℕ) (from : ℕ) (span : Span) (x : Parameter)
      → read ts a_specifier (specifier aliases) m ≡ Ok (t, n) → star_at ts aliases n ≡ star → sign_at ts aliases star.2 ≢ sign.Name
      → from ≡ parameter_start ts aliases star.0 m n → span ≡ span_over ts from star.2 → x ≡ parameter_with t star.0 star.1 None span
      → parameter_at ts aliases m ≡ Ok (x, star.2)
  parameter_unnamed m t n star from span x h s e p q r =
      starred_at m t n star h s ∙ other _ _ _ (not_name (sign_at ts aliases star.2) e)
      ∙ ap (λ from. Ok (parameter_with t star.0 star.1 None (span_over ts from star.2), star.2)) (sym p)
      ∙ ap (λ span. Ok (parameter_with t star.0 star.1 None span, star.2)) (sym q)
      ∙ ap (λ x. Ok (x, star.2)) (sym r)

  -- where a parameter without a name begins
  pub from_star : (p : Bool) (m n from : ℕ) → p ≡ true → from ≡ n → from ≡ parameter_start ts aliases p m n
  from_star true m n from e h = h
  from_star false m n from e h = cc

  pub from_type : (p : Bool) (m n from : ℕ) → p ≡ false → from ≡ m → from ≡ parameter_start ts aliases p m n
  from_type true m n from e h = cc
  from_type false m n from e h = h

  -- parameters up to their parenthesis
  abbrev parameters_on : Parameter → ℕ → Outcome (List Parameter)
  parameters_on x n = going ts some_parameters (parameter_end ts aliases x n) n

  abbrev behind_type : (m : ℕ) → Specified → (n : ℕ) → Bool → Bool → ℕ → Row some_parameters
  behind_type m t n p c e =
      either (sees ts (a_name aliases) e)
      (token (a_name aliases) (parameter_end ts aliases (parameter ts aliases t p c (Some (identifier_at ts e)) n (e + 1)) (e + 1)))
      (parameter_end ts aliases (parameter ts aliases t p c None (parameter_start ts aliases p m n) e) e)

  named_at : (m : ℕ) (t : Specified) (n : ℕ) (star : Bool × Bool × ℕ)
      → going ts some_parameters (behind_type m t n star.0 star.1 star.2) star.2
      ≡ then (parameter_by ts aliases m n t star) (λ x e. parameters_on x e)
  named_at m t n star = named-law (sees ts (a_name aliases) star.2) _ _ star.2 (λ x e. parameters_on x e)

  list_at : (m : ℕ) → read ts some_parameters (parameter_list aliases) m ≡ then (parameter_at ts aliases m) (λ x n. parameters_on x n)
  unfolding parameter_at
  list_at m =
      read_steps ts some_parameters (parameter_list aliases) m
      ∙ then-same (read ts a_specifier (specifier aliases) m) _ (λ t n. then (parameter_by ts aliases m n t (star_at ts aliases n)) (λ x e. parameters_on x e))
      (λ t n. star_then ts aliases some_parameters n (behind_type m t n) ∙ named_at m t n (star_at ts aliases n))
      ∙ sym (then-then (read ts a_specifier (specifier aliases) m) _ _)

  after-list : (front : List Parameter) (m : ℕ)
      → after front (read ts some_parameters (parameter_list aliases) m) ≡ then (parameter_at ts aliases m) (λ x n. after front (parameters_on x n))
  after-list front m = ap (after front) (list_at m) ∙ after-over front (parameter_at ts aliases m) (λ x n. parameters_on x n)

  behind_parameter : (xs : List Param) (m : ℕ) (x : Param) (n : ℕ) → parameter_at ts aliases m ≡ Ok (param_shape x, n)
      → after (param_shapes xs) (read ts some_parameters (parameter_list aliases) m) ≡ after (param_shapes xs) (parameters_on (param_shape x) n)
  behind_parameter xs m x n h = after-list (param_shapes xs) m ∙ goes _ _ (param_shape x) n h

  pub list_fails : (xs : List Param) (m : ℕ) (e : SyntaxRefusal) → Fails e (parameter_at ts aliases m)
      → Fails e (after (param_shapes xs) (read ts some_parameters (parameter_list aliases) m))
  list_fails xs m e h = fails_same e _ _ (after-list (param_shapes xs) m) (fails_then e _ _ h)

  pub list_wrong : (xs : List Param) (m : ℕ) (x : Param) (n : ℕ) → parameter_at ts aliases m ≡ Ok (param_shape x, n)
      → sign_at ts aliases n ≢ sign.Comma → sign_at ts aliases n ≢ sign.Close
      → after (param_shapes xs) (read ts some_parameters (parameter_list aliases) m) ≡ Err (refuse syntax n)
  unfolding then
  list_wrong xs m x n h a b =
      behind_parameter xs m x n h
      ∙ ap (after (param_shapes xs)) (other _ _ _ (not_comma (sign_at ts aliases n) a) ∙ other _ _ _ (not_close (sign_at ts aliases n) b))

  pub list_last : (xs : List Param) (m : ℕ) (x : Param) (n : ℕ) → parameter_at ts aliases m ≡ Ok (param_shape x, n)
      → sign_at ts aliases n ≡ sign.Close
      → after (param_shapes xs) (read ts some_parameters (parameter_list aliases) m) ≡ Ok (param_shapes (xs ++ x ∷ []), n + 1)
  unfolding then
  list_last xs m x n h s =
      behind_parameter xs m x n h
      ∙ ap (after (param_shapes xs)) (other _ _ _ (ap (λ s. nat_eq (mark s) 10) s) ∙ chosen _ _ _ (ap (λ s. nat_eq (mark s) 7) s))
      ∙ ap (λ ys. Ok (ys, n + 1)) (sym (map-push param_shape xs x))

  pub list_more : (xs : List Param) (m : ℕ) (x : Param) (n : ℕ) → parameter_at ts aliases m ≡ Ok (param_shape x, n)
      → sign_at ts aliases n ≡ sign.Comma
      → after (param_shapes xs) (read ts some_parameters (parameter_list aliases) m)
      ≡ after (param_shapes (xs ++ x ∷ [])) (read ts some_parameters (parameter_list aliases) (n + 1))
  list_more xs m x n h s =
      behind_parameter xs m x n h
      ∙ ap (after (param_shapes xs)) (chosen _ _ _ (ap (λ s. nat_eq (mark s) 10) s) ∙ chosen _ _ _ (ap (λ s. nat_eq (mark s) 10) s))
      ∙ after-more (param_shapes xs) (param_shape x) (read ts some_parameters (parameter_list aliases) (n + 1))
      ∙ ap (λ ys. after ys (read ts some_parameters (parameter_list aliases) (n + 1))) (sym (map-push param_shape xs x))

  -- what stands between the parentheses
  pub void_first : (m : ℕ) (s : Sign) (b : Bool) → s ≡ sign_at ts aliases m → b ≡ (is_void s && is_close (sign_at ts aliases (m + 1)))
      → is_lone_void ts aliases m ≡ b
  void_first m s b e h = ap (λ s. is_void s && is_close (sign_at ts aliases (m + 1))) (sym e) ∙ sym h

  pub no_parameters : (m : ℕ) → sign_at ts aliases m ≡ sign.Close → read ts some_parameters (parameters aliases) m ≡ Ok ([], m + 1)
  no_parameters m s =
      let here = ap (λ s. nat_eq (mark s) 7) s in
      read_steps ts some_parameters (parameters aliases) m ∙ chosen _ _ _ here ∙ chosen _ _ _ here

  pub lone_void : (m : ℕ) → sign_at ts aliases m ≢ sign.Close → is_lone_void ts aliases m ≡ true
      → read ts some_parameters (parameters aliases) m ≡ Ok ([], m + 1 + 1)
  lone_void m s v =
      let both = both-true (is_void (sign_at ts aliases m)) (is_close (sign_at ts aliases (m + 1))) v in
      read_steps ts some_parameters (parameters aliases) m ∙ other _ _ _ (not_close (sign_at ts aliases m) s) ∙ chosen _ _ _ v
      ∙ chosen _ _ _ (void-word (sign_at ts aliases m) both.0) ∙ chosen _ _ _ (close-mark (sign_at ts aliases (m + 1)) both.1)

  pub listed_at : (m : ℕ) → sign_at ts aliases m ≢ sign.Close → is_lone_void ts aliases m ≡ false
      → read ts some_parameters (parameters aliases) m ≡ read ts some_parameters (parameter_list aliases) m
  listed_at m s v =
      read_steps ts some_parameters (parameters aliases) m ∙ other _ _ _ (not_close (sign_at ts aliases m) s) ∙ other _ _ _ v
      ∙ then_done (read ts some_parameters (parameter_list aliases) m)

  -- one or more, in a list that was new
  pub new_fails : (m : ℕ) (e : SyntaxRefusal) → Fails e (after [] (read ts some_parameters (parameter_list aliases) m))
      → Fails e (read ts some_parameters (parameter_list aliases) m)
  new_fails m e h = fails_same e _ _ (sym (after-nothing _)) h

  pub new_goes : (m : ℕ) (zs : List Param) (xs ys : List Parameter) (n : ℕ) → zs ≡ []
      → after (param_shapes zs) (read ts some_parameters (parameter_list aliases) m) ≡ Ok (xs, n) → ys ≡ xs
      → read ts some_parameters (parameter_list aliases) m ≡ Ok (ys, n)
  new_goes m zs xs ys n z h q =
      sym (after-nothing _) ∙ ap (λ zs. after (param_shapes zs) (read ts some_parameters (parameter_list aliases) m)) (sym z) ∙ h
      ∙ ap (λ xs. Ok (xs, n)) (sym q)

pub ruleset alone = (parameter_fails, parameter_named, parameter_unnamed)

pub ruleset lists = (list_fails, list_wrong, list_last, list_more, fails_same, gives_same)

pub ruleset between = (no_parameters, lone_void, listed_at, gives_same)

pub ruleset new_lists = (new_fails, new_goes)
