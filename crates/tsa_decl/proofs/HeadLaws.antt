-- Heads of functions, piece by piece.
use Rattle.std.proofs.Common.{ℕ, ◌+◌, ◌≡◌, ◌∙◌, ap, sym, refl, Bool, true, false, List, Ok}
use Rattle.tsa_base.specs.Tokens.{Lexeme}
use Rattle.tsa_grammar.proofs.Cases.{chosen, other, goes}
use Rattle.tsa_grammar.specs.Form.{done, part}
use Rattle.tsa_grammar.specs.Reading.{Outcome, then, choose}
use Rattle.tsa_tree.proofs.RowsRead.{read_steps}
use Rattle.tsa_tree.specs.expressions.Answers.{below_limit}
use Rattle.tsa_tree.specs.attributes.Syntax.{Attribute}
use Rattle.tsa_tree.specs.attributes.Answers.{read_any}
use Rattle.tsa_tree.specs.declarations.Syntax.{Specified, Declarator, Parameter, Signature, Head, head_of}
use Rattle.tsa_tree.specs.Reads.{read}
use Rattle.tsa_tree.specs.Rows.{Sort, some_parameters, a_skip, a_specifier, a_declarator, a_signature, a_head, Row, parameters, storage}
use Rattle.tsa_tree.specs.Rows.{specifier, declarator, signature, head, an_open, sees, opens, behind_attributes, behind_storage}
use Rattle.tsa_tree.specs.tokens.Signs.{Aliases, sign_at, is_storage}
use Rattle.tsa_expr.specs.declared.refusal.SyntaxRefusal.{SyntaxRefusal}
use Rattle.tsa_expr.specs.Gives.{Fails}
use Rattle.tsa_expr.proofs.Answering.{fails_then, fails_same, gives_same, then_done}
use Rattle.tsa_attr.proofs.Joining.{opens-law, then-same}
use Rattle.tsa_decl_declarators.specs.Outcomes.{going, opening}
use Rattle.tsa_decl.specs.Outcomes.{storage_at, head_end_at}
use Rattle.tsa_decl_declarators.proofs.Pieces.{option-law, attributes_then}

abbrev signed : List Parameter → List Attribute → Signature
signed ps xs = record { params = ps; attrs = xs }

module _ (ts : List Lexeme) (aliases : Aliases) where
  -- storage words, one by one
  word-law : (b : Bool) (m : ℕ) (r : Outcome (Unit {0})) → choose b (then r (λ u n. Ok (tt, n))) (Ok (tt, m)) ≡ choose b r (Ok (tt, m))
  unfolding choose
  word-law true m r = then_done r
  word-law false m r = refl

  pub storage_ends : (m : ℕ) → is_storage (sign_at ts aliases m) ≡ false → storage_at ts aliases m ≡ Ok (tt, m)
  unfolding storage_at
  storage_ends m e = other _ _ _ e

  pub storage_more : (m : ℕ) → is_storage (sign_at ts aliases m) ≡ true → storage_at ts aliases m ≡ storage_at ts aliases (m + 1)
  unfolding storage_at
  storage_more m e =
      chosen _ _ _ e ∙ read_steps ts a_skip (storage aliases) m ∙ chosen _ _ _ e
      ∙ word-law (is_storage (sign_at ts aliases (m + 1))) (m + 1) (read ts a_skip (storage aliases) (m + 1))

  -- what follows storage words
  pub storage_then : (s : Sort) (m : ℕ) (end : Row s)
      → going ts s (behind_storage ts aliases m end) m ≡ then (storage_at ts aliases m) (λ u n. going ts s end n)
  unfolding storage_at
  storage_then s m end =
      option-law (is_storage (sign_at ts aliases m)) (read ts a_skip (storage aliases) m) tt m (λ u n. going ts s end n)

  -- parameters and attributes
  opened_at : (s : Sort) (d m : ℕ) (rest : Row s) → going ts s (opens ts aliases d m rest) m ≡ then (opening ts aliases d m) (λ u n. going ts s rest (m + 1))
  unfolding opening
  opened_at s d m rest = opens-law (sees ts (an_open aliases) m) (below_limit d) m (going ts s rest (m + 1)) (going ts s rest (m + 1))

  abbrev behind_parameters : List Parameter → ℕ → Outcome Signature
  behind_parameters ps n = then (read_any ts aliases 0 n) (λ xs e. Ok (signed ps xs, e))

  signature_at : (m : ℕ)
      → read ts a_signature (signature aliases) m
      ≡ then (opening ts aliases 0 m) (λ u n. then (read ts some_parameters (parameters aliases) (m + 1)) behind_parameters)
  signature_at m =
      read_steps ts a_signature (signature aliases) m
      ∙ opened_at a_signature 0 m
      (part some_parameters (parameters aliases) (λ ps n. behind_attributes ts aliases 0 n (λ xs e. done (signed ps xs))))
      ∙ ap (λ r. then (opening ts aliases 0 m) (λ u n. r))
      (then-same (read ts some_parameters (parameters aliases) (m + 1)) _ behind_parameters
      (λ ps n. attributes_then ts aliases a_signature 0 n (λ xs e. done (signed ps xs))))

  inside_at : (m i : ℕ) → opening ts aliases 0 m ≡ Ok (tt, i) → i ≡ m + 1
      → read ts a_signature (signature aliases) m ≡ then (read ts some_parameters (parameters aliases) i) behind_parameters
  inside_at m i h p =
      signature_at m ∙ goes _ _ tt i h ∙ ap (λ i. then (read ts some_parameters (parameters aliases) i) behind_parameters) (sym p)

  pub signature_unopened : (m : ℕ) (e : SyntaxRefusal) → Fails e (opening ts aliases 0 m) → Fails e (read ts a_signature (signature aliases) m)
  signature_unopened m e h = fails_same e _ _ (signature_at m) (fails_then e _ _ h)

  pub signature_fails : (m i : ℕ) (e : SyntaxRefusal) → opening ts aliases 0 m ≡ Ok (tt, i) → i ≡ m + 1
      → Fails e (read ts some_parameters (parameters aliases) i) → Fails e (read ts a_signature (signature aliases) m)
  signature_fails m i e h p f = fails_same e _ _ (inside_at m i h p) (fails_then e _ _ f)

  pub signature_wrong : (m i : ℕ) (ps : List Parameter) (n : ℕ) (e : SyntaxRefusal) → opening ts aliases 0 m ≡ Ok (tt, i) → i ≡ m + 1
      → read ts some_parameters (parameters aliases) i ≡ Ok (ps, n) → Fails e (read_any ts aliases 0 n)
      → Fails e (read ts a_signature (signature aliases) m)
  signature_wrong m i ps n e h p r f = fails_same e _ _ (inside_at m i h p ∙ goes _ _ ps n r) (fails_then e _ _ f)

  pub signature_goes : (m i : ℕ) (ps : List Parameter) (n : ℕ) (xs : List Attribute) (e : ℕ) → opening ts aliases 0 m ≡ Ok (tt, i) → i ≡ m + 1
      → read ts some_parameters (parameters aliases) i ≡ Ok (ps, n) → read_any ts aliases 0 n ≡ Ok (xs, e)
      → read ts a_signature (signature aliases) m ≡ Ok (signed ps xs, e)
  signature_goes m i ps n xs e h p r f = inside_at m i h p ∙ goes _ _ ps n r ∙ goes _ _ xs e f

  -- a head
  abbrev behind_words : ℕ → Outcome Head
  behind_words n =
      then (read ts a_specifier (specifier aliases) n) (λ t n. then (read ts a_declarator (declarator aliases) n) (λ c e.
      then (read ts a_signature (signature aliases) e) (λ s f. Ok (head_of t c s, f))))

  head_at : (m n : ℕ) → storage_at ts aliases m ≡ Ok (tt, n) → read ts a_head (head aliases) m ≡ behind_words n
  head_at m n h =
      read_steps ts a_head (head aliases) m
      ∙ storage_then a_head m
      (part a_specifier (specifier aliases) (λ t n. part a_declarator (declarator aliases) (λ c e. part a_signature (signature aliases) (λ s f. done (head_of t c s)))))
      ∙ goes _ (λ u n. behind_words n) tt n h

  pub head_fails : (m n : ℕ) (e : SyntaxRefusal) → storage_at ts aliases m ≡ Ok (tt, n) → Fails e (read ts a_specifier (specifier aliases) n)
      → Fails e (read ts a_head (head aliases) m)
  head_fails m n e h f = fails_same e _ _ (head_at m n h) (fails_then e _ _ f)

  pub head_unnamed : (m n : ℕ) (t : Specified) (i : ℕ) (e : SyntaxRefusal) → storage_at ts aliases m ≡ Ok (tt, n)
      → read ts a_specifier (specifier aliases) n ≡ Ok (t, i) → Fails e (read ts a_declarator (declarator aliases) i)
      → Fails e (read ts a_head (head aliases) m)
  head_unnamed m n t i e h r f = fails_same e _ _ (head_at m n h ∙ goes _ _ t i r) (fails_then e _ _ f)

  pub head_same : (m n : ℕ) (t : Specified) (i : ℕ) (c : Declarator) (j : ℕ) → storage_at ts aliases m ≡ Ok (tt, n)
      → read ts a_specifier (specifier aliases) n ≡ Ok (t, i) → read ts a_declarator (declarator aliases) i ≡ Ok (c, j)
      → read ts a_head (head aliases) m ≡ head_end_at ts aliases t c j
  unfolding head_end_at
  head_same m n t i c j h r q = head_at m n h ∙ goes _ _ t i r ∙ goes _ _ c j q

  -- after its declarator
  pub end_fails : (t : Specified) (c : Declarator) (m : ℕ) (e : SyntaxRefusal) → Fails e (read ts a_signature (signature aliases) m)
      → Fails e (head_end_at ts aliases t c m)
  unfolding head_end_at
  end_fails t c m e f = fails_then e _ _ f

  pub end_goes : (t : Specified) (c : Declarator) (m : ℕ) (s : Signature) (k : ℕ) (x : Head) → read ts a_signature (signature aliases) m ≡ Ok (s, k)
      → x ≡ head_of t c s → head_end_at ts aliases t c m ≡ Ok (x, k)
  unfolding head_end_at
  end_goes t c m s k x f p = goes _ _ s k f ∙ ap (λ x. Ok (x, k)) (sym p)

pub ruleset words = (storage_ends, storage_more)

pub ruleset signatures = (signature_unopened, signature_fails, signature_wrong, signature_goes)

pub ruleset heads = (head_fails, head_unnamed, head_same, gives_same)

pub ruleset ends = (end_fails, end_goes)
