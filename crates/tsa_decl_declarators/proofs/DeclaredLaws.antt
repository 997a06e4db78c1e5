-- What stands after the name of a member's or a global's declarator: a length, attributes, an initialiser, and a comma or a `;`.
use Rattle.std.proofs.Common.{ℕ, ◌+◌, ◌≡◌, ◌≢◌, ◌∙◌, ap, sym, refl, Bool, true, false, List, Option, Some, None, Ok, Err, nat_eq}
use Rattle.tsa_base.specs.declared.token.Span.{Span}
use Rattle.tsa_base.specs.Tokens.{Lexeme}
use Rattle.tsa_grammar.proofs.Cases.{chosen, other, goes}
use Rattle.tsa_grammar.specs.Reading.{Outcome, refuse, syntax, then, choose}
use Rattle.tsa_tree.proofs.RowsRead.{read_steps}
use Rattle.tsa_tree.specs.declared.sign.Sign.TheVariants as sign
use Rattle.tsa_tree.specs.attributes.Answers.{read_any}
use Rattle.tsa_tree.specs.attributes.Syntax.{Attribute}
use Rattle.tsa_tree.specs.declarations.Syntax.{Specified, Declarator, Declaration, declaration, Declared, Initialiser}
use Rattle.tsa_tree.specs.declarations.Spelling.{Role, a_member, a_global}
use Rattle.tsa_tree.specs.expressions.Syntax.{Expression}
use Rattle.tsa_tree.specs.Reads.{read}
use Rattle.tsa_tree.specs.Rows.{an_initialiser, a_declared, Row, initialiser, declared_rest, a_comma, a_semicolon, an_equals, mark, sees}
use Rattle.tsa_tree.specs.Rows.{behind_init, behind_attributes, delimiter}
use Rattle.tsa_tree.specs.tokens.Signs.{Aliases, sign_at, span_over}
use Rattle.tsa_expr.specs.declared.refusal.SyntaxRefusal.{SyntaxRefusal}
use Rattle.tsa_expr.specs.Gives.{Fails}
use Rattle.tsa_expr.proofs.Answering.{fails_then, fails_same}
use Rattle.tsa_attr.proofs.Joining.{then-then, then-same, then-ok}
use Rattle.tsa_decl_declarators.specs.declared.declarations.Role as read_role
use Rattle.tsa_decl_declarators.specs.declared.declarations.Role.TheVariants.{Member, Global}
use Rattle.tsa_decl_declarators.specs.Outcomes.{going, length_at, init_at, suffix_at, delimiter_at}
use Rattle.tsa_decl_declarators.specs.Readings.{row_role}
use Rattle.tsa_decl_declarators.proofs.TokenLaws.{not_equals}
use Rattle.tsa_decl_declarators.proofs.Pieces.{length_then, attributes_then}

-- a piece after its token, or nothing
token-option-law : {A B C : Type 0} (b : Bool) (m : ℕ) (r : Outcome A) (g : A → B) (f : Option B → ℕ → Outcome C)
    → choose b (choose b (then r (λ x n. f (Some (g x)) n)) (Err (refuse syntax m))) (f None m)
    ≡ then (choose b (then r (λ x n. Ok (Some (g x), n))) (Ok (None, m))) f
unfolding choose then
token-option-law true m (Ok p) g f = refl
token-option-law true m (Err e) g f = refl
token-option-law false m r g f = refl

delimiter-law : {B : Type 0} (c s : Bool) (m : ℕ) (f : Bool → B)
    → choose c (choose c (Ok (f true, m + 1)) (Err (refuse syntax m))) (choose s (Ok (f false, m + 1)) (Err (refuse syntax m)))
    ≡ then (choose c (Ok (true, m + 1)) (choose s (Ok (false, m + 1)) (Err (refuse syntax m)))) (λ g n. Ok (f g, n))
unfolding choose then
delimiter-law true s m f = refl
delimiter-law false true m f = refl
delimiter-law false false m f = refl

module _ (ts : List Lexeme) (aliases : Aliases) where
  -- what may initialise a declarator
  pub init_none : (r : read_role.Role) (d m : ℕ) → r ≡ Member → init_at ts aliases (row_role r) d m ≡ Ok (None, m)
  unfolding init_at
  init_none r d m e = ap (λ r. init_at ts aliases (row_role r) d m) e

  global_init : (r : read_role.Role) (d m : ℕ) → r ≡ Global
      → init_at ts aliases (row_role r) d m
      ≡ choose (sees ts (an_equals aliases) m) (then (read ts an_initialiser (initialiser aliases d) (m + 1)) (λ x n. Ok (Some x, n))) (Ok (None, m))
  unfolding init_at
  global_init r d m e = ap (λ r. init_at ts aliases (row_role r) d m) e

  pub init_unset : (r : read_role.Role) (d m : ℕ) → r ≡ Global → sign_at ts aliases m ≢ sign.Equals
      → init_at ts aliases (row_role r) d m ≡ Ok (None, m)
  init_unset r d m e h = global_init r d m e ∙ other _ _ _ (not_equals (sign_at ts aliases m) h)

  pub init_fails : (r : read_role.Role) (d m : ℕ) (e : SyntaxRefusal) → r ≡ Global → sign_at ts aliases m ≡ sign.Equals
      → Fails e (read ts an_initialiser (initialiser aliases d) (m + 1)) → Fails e (init_at ts aliases (row_role r) d m)
  init_fails r d m e g s h =
      fails_same e _ _ (global_init r d m g ∙ chosen _ _ _ (ap (λ s. nat_eq (mark s) 24) s)) (fails_then e _ _ h)

  pub init_goes : (r : read_role.Role) (d m : ℕ) (x : Initialiser) (n : ℕ) → r ≡ Global → sign_at ts aliases m ≡ sign.Equals
      → read ts an_initialiser (initialiser aliases d) (m + 1) ≡ Ok (x, n) → init_at ts aliases (row_role r) d m ≡ Ok (Some x, n)
  init_goes r d m x n g s h = global_init r d m g ∙ chosen _ _ _ (ap (λ s. nat_eq (mark s) 24) s) ∙ goes _ _ x n h

  init_then : (r : Role) (d m : ℕ) (end : Option Initialiser → ℕ → Row a_declared)
      → going ts a_declared (behind_init ts aliases r d m end) m ≡ then (init_at ts aliases r d m) (λ i n. going ts a_declared (end i n) n)
  unfolding init_at then
  init_then a_member d m end = refl
  init_then a_global d m end =
      token-option-law (sees ts (an_equals aliases) m) m (read ts an_initialiser (initialiser aliases d) (m + 1)) (λ x. x)
      (λ i n. going ts a_declared (end i n) n)

  -- a declaration and its comma or `;`
  abbrev declares : Declaration → Bool → Declared
  declares x goes_on = record { declaration = x; goes_on = goes_on }

  delimiter_then : (x : Declaration) (m : ℕ)
      → going ts a_declared (delimiter ts aliases x m) m ≡ then (delimiter_at ts aliases m) (λ g n. Ok (declares x g, n))
  unfolding delimiter_at
  delimiter_then x m = delimiter-law (sees ts (a_comma aliases) m) (sees ts (a_semicolon aliases) m) m (declares x)

  -- the pieces one after another
  abbrev suffix : (l : Option Expression) (xs : List Attribute) (i : Option Initialiser) → ℕ → Outcome (Option Expression × List Attribute × Option Initialiser)
  suffix l xs i f = Ok ((l, xs, i), f)

  abbrev behind_init_at : Specified → Declarator → Option Expression × List Attribute × Option Initialiser → ℕ → Outcome Declared
  behind_init_at t c p f = then (delimiter_at ts aliases f) (λ g h. Ok (declares (declaration t c p.0 p.1 p.2 (span_over ts c.start f)) g, h))

  abbrev init_row : Specified → Declarator → Option Expression → List Attribute → Option Initialiser → ℕ → Row a_declared
  init_row t c l xs i f = delimiter ts aliases (declaration t c l xs i (span_over ts c.start f)) f

  abbrev attributes_row : Role → (d : ℕ) → Specified → Declarator → Option Expression → List Attribute → ℕ → Row a_declared
  attributes_row r d t c l xs e = behind_init ts aliases r d e (init_row t c l xs)

  abbrev length_row : Role → (d : ℕ) → Specified → Declarator → Option Expression → ℕ → Row a_declared
  length_row r d t c l n = behind_attributes ts aliases d n (attributes_row r d t c l)

  init_goes_on : (r : Role) (d : ℕ) (t : Specified) (c : Declarator) (l : Option Expression) (xs : List Attribute) (e : ℕ)
      → going ts a_declared (attributes_row r d t c l xs e) e ≡ then (then (init_at ts aliases r d e) (suffix l xs)) (behind_init_at t c)
  init_goes_on r d t c l xs e =
      init_then r d e (init_row t c l xs)
      ∙ then-same (init_at ts aliases r d e) _ _ (λ i f. delimiter_then (declaration t c l xs i (span_over ts c.start f)) f ∙ sym (then-ok (l, xs, i) f (behind_init_at t c)))
      ∙ sym (then-then (init_at ts aliases r d e) (suffix l xs) (behind_init_at t c))

  attributes_go_on : (r : Role) (d : ℕ) (t : Specified) (c : Declarator) (l : Option Expression) (n : ℕ)
      → going ts a_declared (length_row r d t c l n) n
      ≡ then (then (read_any ts aliases d n) (λ xs e. then (init_at ts aliases r d e) (suffix l xs))) (behind_init_at t c)
  attributes_go_on r d t c l n =
      attributes_then ts aliases a_declared d n (attributes_row r d t c l)
      ∙ then-same (read_any ts aliases d n) _ _ (λ xs e. init_goes_on r d t c l xs e)
      ∙ sym (then-then (read_any ts aliases d n) _ (behind_init_at t c))

  rest_at : (r : Role) (d : ℕ) (t : Specified) (c : Declarator) (m : ℕ)
      → read ts a_declared (declared_rest aliases r d t c) m ≡ then (suffix_at ts aliases r d m) (behind_init_at t c)
  unfolding suffix_at
  rest_at r d t c m =
      read_steps ts a_declared (declared_rest aliases r d t c) m
      ∙ length_then ts aliases a_declared d m (length_row r d t c)
      ∙ then-same (length_at ts aliases d m) _ _ (λ l n. attributes_go_on r d t c l n)
      ∙ sym (then-then (length_at ts aliases d m) _ (behind_init_at t c))

  pub rest_suffix : (r : Role) (d : ℕ) (t : Specified) (c : Declarator) (m : ℕ) (e : SyntaxRefusal) → Fails e (suffix_at ts aliases r d m)
      → Fails e (read ts a_declared (declared_rest aliases r d t c) m)
  rest_suffix r d t c m e h = fails_same e _ _ (rest_at r d t c m) (fails_then e _ _ h)

  with_suffix : (r : Role) (d : ℕ) (t : Specified) (c : Declarator) (m : ℕ) (l : Option Expression) (xs : List Attribute) (i : Option Initialiser) (b : ℕ)
      → suffix_at ts aliases r d m ≡ Ok ((l, xs, i), b) → read ts a_declared (declared_rest aliases r d t c) m ≡ behind_init_at t c (l, xs, i) b
  with_suffix r d t c m l xs i b h = rest_at r d t c m ∙ goes _ _ (l, xs, i) b h

  pub rest_delimiter : (r : Role) (d : ℕ) (t : Specified) (c : Declarator) (m : ℕ) (l : Option Expression) (xs : List Attribute)
      (i : Option Initialiser) (b : ℕ) (e : SyntaxRefusal) → suffix_at ts aliases r d m ≡ Ok ((l, xs, i), b) → Fails e (delimiter_at ts aliases b)
      → Fails e (read ts a_declared (declared_rest aliases r d t c) m)
  rest_delimiter r d t c m l xs i b e h f = fails_same e _ _ (with_suffix r d t c m l xs i b h) (fails_then e _ _ f)

  pub rest_goes : (r : Role) (d : ℕ) (t : Specified) (c : Declarator) (m : ℕ) (l : Option Expression) (xs : List Attribute)
      (i : Option Initialiser) (b : ℕ) (g : Bool) (z : ℕ) (x : Declaration) (s : Span) → suffix_at ts aliases r d m ≡ Ok ((l, xs, i), b)
      → delimiter_at ts aliases b ≡ Ok (g, z) → x ≡ declaration t c l xs i s → s ≡ span_over ts c.start b
      → read ts a_declared (declared_rest aliases r d t c) m ≡ Ok (declares x g, z)
  rest_goes r d t c m l xs i b g z x s h f p q =
      with_suffix r d t c m l xs i b h
      ∙ goes _ _ g z f
      ∙ ap (λ s. Ok (declares (declaration t c l xs i s) g, z)) (sym q)
      ∙ ap (λ x. Ok (declares x g, z)) (sym p)

  -- what follows a name, piece by piece
  pub suffix_length : (r : Role) (d m : ℕ) (e : SyntaxRefusal) → Fails e (length_at ts aliases d m) → Fails e (suffix_at ts aliases r d m)
  unfolding suffix_at
  suffix_length r d m e h = fails_then e _ _ h

  behind_length : (r : Role) (d m : ℕ) (l : Option Expression) (n : ℕ) → length_at ts aliases d m ≡ Ok (l, n)
      → suffix_at ts aliases r d m ≡ then (read_any ts aliases d n) (λ xs e. then (init_at ts aliases r d e) (suffix l xs))
  unfolding suffix_at
  behind_length r d m l n h = goes _ _ l n h

  pub suffix_attributes : (r : Role) (d m : ℕ) (l : Option Expression) (n : ℕ) (e : SyntaxRefusal)
      → length_at ts aliases d m ≡ Ok (l, n) → Fails e (read_any ts aliases d n) → Fails e (suffix_at ts aliases r d m)
  suffix_attributes r d m l n e h f = fails_same e _ _ (behind_length r d m l n h) (fails_then e _ _ f)

  pub suffix_init : (r : Role) (d m : ℕ) (l : Option Expression) (n : ℕ) (xs : List Attribute) (a : ℕ) (e : SyntaxRefusal)
      → length_at ts aliases d m ≡ Ok (l, n) → read_any ts aliases d n ≡ Ok (xs, a) → Fails e (init_at ts aliases r d a) → Fails e (suffix_at ts aliases r d m)
  suffix_init r d m l n xs a e h k f = fails_same e _ _ (behind_length r d m l n h ∙ goes _ _ xs a k) (fails_then e _ _ f)

  -- where w constructs are open
  pub suffix_goes : (r : Role) (w d m : ℕ) (l : Option Expression) (n : ℕ) (xs : List Attribute) (a : ℕ) (i : Option Initialiser) (b : ℕ)
      → w ≡ d → length_at ts aliases w m ≡ Ok (l, n) → read_any ts aliases w n ≡ Ok (xs, a) → init_at ts aliases r d a ≡ Ok (i, b)
      → suffix_at ts aliases r d m ≡ Ok ((l, xs, i), b)
  suffix_goes r w d m l n xs a i b o h k j =
      behind_length r d m l n (ap (λ d. length_at ts aliases d m) (sym o) ∙ h) ∙ goes _ _ xs a (ap (λ d. read_any ts aliases d n) (sym o) ∙ k)
      ∙ goes _ _ i b j

pub ruleset initialising = (init_none, init_unset, init_fails, init_goes)

pub ruleset suffixes = (suffix_length, suffix_attributes, suffix_init, suffix_goes)

pub ruleset rests = (rest_suffix, rest_delimiter, rest_goes)
