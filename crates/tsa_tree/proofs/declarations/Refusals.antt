-- Where what is spelled is not as long as it can be, one more token begins it too, or that token is refused.
use Rattle.std.proofs.Common.{ℕ, ◌+◌, ◌≡◌, refl, List, [], ◌∷◌, Bool, true, false, Option, Some, None, arith, inl, inr, ◌⊎◌}
use Rattle.tsa_base.specs.Tokens.{Lexeme}
use Rattle.tsa_tree.specs.declared.sign.Sign.TheVariants as sign
use Rattle.tsa_tree.specs.expressions.Answers as expressions
use Rattle.tsa_tree.specs.attributes.Syntax.{Attribute}
use Rattle.tsa_tree.specs.attributes.Spelling.{IsAttributes}
use Rattle.tsa_tree.specs.attributes.Refusals.{left_out}
use Rattle.tsa_tree.specs.declarations.Answers.{Part, an_item, a_head_alone, some_locals, sort_of, call_of, Spells}
use Rattle.tsa_tree.specs.declarations.Syntax.{Specified, Declarator, Declaration, declaration, value, Signature, Head, head_of}
use Rattle.tsa_tree.specs.declarations.Spelling.{IsLength, no_length, of_length, IsDeclarator, IsVariable, of_unset, of_set, IsVariables}
use Rattle.tsa_tree.specs.declarations.Spelling.{of_last_variable, of_further_variable, IsLocals, of_locals, of_one_local}
use Rattle.tsa_tree.specs.expressions.Syntax.{Expression}
use Rattle.tsa_tree.specs.declarations.ItemSpelling.{IsStorage, no_storage, of_storage, IsSignature, of_signature, IsHead, of_head}
use Rattle.tsa_tree.specs.tokens.Signs.{Aliases, sign_at, span_over}
use Rattle.tsa_tree.specs.Rows.{Sort, an_expression, some_attributes, a_specifier, a_declarator, some_declarations, a_variable}
use Rattle.tsa_tree.specs.Rows.{some_variables, a_signature, a_head, Node, Call, expression, attributes, specifier, declarator, variable}
use Rattle.tsa_tree.specs.Rows.{variables, locals, signature, head, an_open_bracket, a_comma, an_equals, sees, is_attribute_sign, Row}
use Rattle.tsa_tree.specs.Rows.{behind_length, behind_storage, rule}
use Rattle.tsa_tree.proofs.expressions.Answers as whole
use Rattle.tsa_tree.proofs.attributes.Answers.{on_sign}
use Rattle.tsa_tree.proofs.attributes.RowEquality.{attributes_begin, attributes_refuse}
use Rattle.tsa_tree.proofs.declarations.ToRows.{specifier_rows, declarator_rows, variable_rows}
use Rattle.tsa_tree.proofs.declarations.HeadsToRows.{storage_goes, parameters_rows}
use Rattle.tsa_tree.proofs.tokens.ProductionSigns.{seen}
use Rattle.tsa_tree.proofs.expressions.ToRows.{expression_rows}
use Rattle.tsa_tree.proofs.RowFacts.{Ends, EndsVariable, EndsVariables, EndsLocals, Bare}
use Rattle.tsa_tree.proofs.expressions.RowEquality.{begin_the_same}
use Rattle.tsa_grammar.specs.Form.{done, token, part, either}
use Rattle.tsa_grammar.specs.Spelling as forms
use Rattle.tsa_grammar.specs.Spelling.{by_rule, goes_done, goes_token, begins_rule, starts_here, starts_token, starts_in, starts_over}
use Rattle.tsa_grammar.specs.Spelling.{starts_limit, starts_left, starts_right}
use Rattle.tsa_grammar.specs.Reading.{all}

module _ (tokens : List Lexeme) (aliases : Aliases) where
  abbrev pub Begins : (s : Sort) → Call s → (a b : ℕ) → Option ℕ → Type 0
  Begins s c a b w = forms.Begins (rule tokens) (sees tokens) all s c a b w

  abbrev Starts : (s : Sort) → Row s → (a b : ℕ) → Option ℕ → Type 0
  Starts s f a b w = forms.Starts (rule tokens) (sees tokens) all s f a b w

  -- A row starts after a length, or nothing, where it does after that.
  length_starts : {s : Sort} {d : ℕ} {l : Option Expression} {a m : ℕ} → IsLength tokens aliases all d l a m
      → (end : Option Expression → ℕ → Row s) (b : ℕ) (w : Option ℕ)
      → Starts s (end l m) m b w → Starts s (behind_length tokens aliases d a end) a b w
  length_starts no_length end b w g = starts_right g
  length_starts {a = a} (of_length {b = n} q fit i close) end b w g =
      starts_left (starts_limit fit (starts_token (seen tokens aliases 7 a sign.OpenBracket q refl)
      (starts_over (expression_rows tokens aliases all i (omega arith))
      (starts_token (seen tokens aliases 8 n sign.CloseBracket close refl) g))))

  -- A row starts after any number of storage words where it does after them all.
  storage_starts : {a m : ℕ} → IsStorage tokens aliases a m → {s : Sort} (end : Row s) (b : ℕ) (w : Option ℕ)
      → Starts s end m b w → Starts s (behind_storage tokens aliases a end) a b w
  storage_starts no_storage end b w g = starts_right g
  storage_starts {m = m} (of_storage q i) end b w g =
      starts_left (starts_over (by_rule (goes_token q (storage_goes tokens aliases all i (done tt) tt m goes_done))) g)

  -- locals ------------------------------------------------------------------------

  -- what stands after the length of a local's declarator
  abbrev Local : (d : ℕ) → Specified → Declarator → Option Expression → ℕ → Row a_variable
  Local d t c l n =
      either (sees tokens (an_equals aliases) n)
      (token (an_equals aliases) (part an_expression (expression aliases d 0) (λ x e.
      done (declaration t c l [] (Some (value x)) (span_over tokens c.start e)))))
      (done (declaration t c l [] None (span_over tokens c.start n)))

  abbrev VariableOn : (d : ℕ) → Specified → (a b : ℕ) → Type 0
  VariableOn d t a b = Begins a_variable (variable aliases d t) a (b + 1) None

  -- `=` after a local that isn't initialised
  equals_on : {d : ℕ} {t : Specified} {c : Declarator} {l : Option Expression} {a m b : ℕ}
      → IsDeclarator tokens aliases c a m → IsLength tokens aliases all d l m b → sees tokens (an_equals aliases) b ≡ true
      → VariableOn d t a b
  equals_on {d = d} {t = t} {c = c} {b = b} i length q =
      begins_rule (starts_over (declarator_rows tokens aliases all i)
      (length_starts length (Local d t c) (b + 1) None (starts_left (starts_token q starts_here))))

  -- `[` after a local's name
  bracket_on : {d : ℕ} {t : Specified} {c : Declarator} {a b : ℕ}
      → IsDeclarator tokens aliases c a b → sees tokens (an_open_bracket aliases) b ≡ true → VariableOn d t a b
  bracket_on i q =
      begins_rule (starts_over (declarator_rows tokens aliases all i) (starts_left (starts_limit refl (starts_token q starts_here))))

  unset_ends_or_on : {d : ℕ} {t : Specified} {c : Declarator} {l : Option Expression} {a m b : ℕ} (equals bracket : Bool)
      → sees tokens (an_equals aliases) b ≡ equals → sees tokens (an_open_bracket aliases) b ≡ bracket
      → IsDeclarator tokens aliases c a m → IsLength tokens aliases all d l m b
      → EndsVariable tokens aliases (declaration t c l [] None (span_over tokens c.start b)) b ⊎ VariableOn d t a b
  unset_ends_or_on true bracket q q' i length = inr (equals_on i length q)
  unset_ends_or_on false false q q' i no_length = inl (q, q')
  unset_ends_or_on false true q q' i no_length = inr (bracket_on i q')
  unset_ends_or_on false bracket q q' i (of_length o fit x close) = inl q

  -- after a local: it ends, or the next token goes on with it
  variable_ends_or_on : {d : ℕ} {t : Specified} {x : Declaration} {a b : ℕ} → IsVariable tokens aliases all d t x a b
      → EndsVariable tokens aliases x b ⊎ VariableOn d t a b
  variable_ends_or_on (of_unset i length) = unset_ends_or_on _ _ refl refl i length
  variable_ends_or_on {d = d} {t = t} {b = b} (of_set {c = c} {x = x} {n = n} i length equals set) =
      elim (whole.ends_or_on tokens aliases expressions.an_expression d x (n + 1) b set) [
        | inl en ↦ inl en
        | inr on ↦ inr (begins_rule (starts_over (declarator_rows tokens aliases all i)
            (length_starts length (Local d t c) (b + 1) None (starts_left
            (starts_token (seen tokens aliases 23 n sign.Equals equals refl)
            (starts_in ((begin_the_same tokens aliases all expressions.an_expression d (n + 1) (b + 1)).0 on)))))))
      ]

  abbrev VariablesOn : (d : ℕ) → Specified → (a b : ℕ) → Type 0
  VariablesOn d t a b = Begins some_variables (variables aliases d t) a (b + 1) None

  -- A comma after a last variable makes it one of several.
  last_ends_or_on : {d : ℕ} {t : Specified} {x : Declaration} {a b : ℕ} (comma : Bool) → sees tokens (a_comma aliases) b ≡ comma
      → IsVariable tokens aliases all d t x a b → EndsVariables tokens aliases x [] b ⊎ VariablesOn d t a b
  last_ends_or_on true q i = inr (begins_rule (starts_over (variable_rows tokens aliases all i) (starts_left (starts_token q starts_here))))
  last_ends_or_on false q i =
      elim (variable_ends_or_on i) [ inl en ↦ inl (en, q) | inr on ↦ inr (begins_rule (starts_in on)) ]

  -- after several: the last one ends, or the next token goes on with them
  variables_end_or_on : {d : ℕ} {t : Specified} (x : Declaration) (xs : List Declaration) {a b : ℕ}
      → IsVariables tokens aliases all d t (x ∷ xs) a b → EndsVariables tokens aliases x xs b ⊎ VariablesOn d t a b
  variables_end_or_on x [] (of_last_variable i) = last_ends_or_on _ refl i
  variables_end_or_on x [] (of_further_variable i comma rest) = elim rest [ ]
  variables_end_or_on x (y ∷ ys) (of_further_variable {m = m} i comma rest) =
      elim (variables_end_or_on y ys rest) [
        | inl en ↦ inl en
        | inr on ↦ inr (begins_rule (starts_over (variable_rows tokens aliases all i)
            (starts_left (starts_token (seen tokens aliases 9 m sign.Comma comma refl) (starts_in on)))))
      ]

  locals_end_or_on : {single : Bool} {d : ℕ} {xs : List Declaration} {a b : ℕ} → IsLocals tokens aliases all single d xs a b
      → EndsLocals tokens aliases single xs b ⊎ Begins some_declarations (locals aliases single d) a (b + 1) None
  locals_end_or_on {xs = []} (of_locals t i) = inl tt
  locals_end_or_on {xs = x ∷ xs} (of_locals t i) =
      elim (variables_end_or_on x xs i) [
        | inl en ↦ inl en
        | inr on ↦ inr (begins_rule (starts_over (specifier_rows tokens aliases all t) (starts_in on)))
      ]
  locals_end_or_on (of_one_local t i) =
      elim (variable_ends_or_on i) [
        | inl en ↦ inl en
        | inr on ↦ inr (begins_rule (starts_over (specifier_rows tokens aliases all t) (starts_in on)))
      ]

  -- heads -------------------------------------------------------------------------

  -- One more token begins the part, or the next one is left out.
  abbrev pub Further : (s : Sort) → Call s → (a i : ℕ) → Type 0
  Further s c a i = Begins s c a (i + 1) None ⊎ Begins s c a i (Some left_out)

  -- Where what begins a part begins another one, what is further in the one is so in the other.
  further : {s u : Sort} {c : Call s} {e : Call u} {a m i : ℕ}
      → ((b : ℕ) (w : Option ℕ) → Begins u e m b w → Begins s c a b w) → Further u e m i → Further s c a i
  further {i = i} h (inl on) = inl (h (i + 1) None on)
  further {i = i} h (inr out) = inr (h i (Some left_out) out)

  attributes_on : {d : ℕ} {xs : List Attribute} {a i : ℕ} → is_attribute_sign (sign_at tokens aliases i) ≡ true
      → IsAttributes tokens aliases all d xs a i → Further some_attributes (attributes aliases d) a i
  attributes_on {d = d} {a = a} {i = i} h xs =
      elim (on_sign tokens aliases all i (sign_at tokens aliases i) refl h xs) [
        | inl on ↦ inl ((attributes_begin tokens aliases all d a (i + 1)).0 on)
        | inr out ↦ inr ((attributes_refuse tokens aliases all d a i left_out).0 out)
      ]

  signature_on : {s : Signature} {a i : ℕ} → is_attribute_sign (sign_at tokens aliases i) ≡ true
      → IsSignature tokens aliases all s a i → Further a_signature (signature aliases) a i
  signature_on {a = a} h (of_signature q fit ps close xs) =
      further (λ b w on. begins_rule (starts_left (starts_limit fit (starts_token (seen tokens aliases 5 a sign.Open q refl)
      (starts_over (parameters_rows tokens aliases all ps close) (starts_left (starts_in on)))))))
      (attributes_on h xs)

  -- a head after its storage words
  abbrev Headed : Row a_head
  Headed =
      part a_specifier (specifier aliases) (λ t n. part a_declarator (declarator aliases) (λ c e.
      part a_signature (signature aliases) (λ s f. done (head_of t c s))))

  head_ends_or_on : {h : Head} {a i : ℕ} (more : Bool) → is_attribute_sign (sign_at tokens aliases i) ≡ more
      → IsHead tokens aliases all h a i → Bare tokens aliases i ⊎ Further a_head (head aliases) a i
  head_ends_or_on false q spelled = inl q
  head_ends_or_on true q (of_head stored type name s) =
      inr (further (λ b w on. begins_rule (storage_starts stored Headed b w
      (starts_over (specifier_rows tokens aliases all type) (starts_over (declarator_rows tokens aliases all name) (starts_in on)))))
      (signature_on q s))

  -- What is spelled is as long as it can be, or one more token begins it, or the next one is left out.
  pub ends_or_on : (p : Part) (x : Node (sort_of p)) (a i : ℕ) → Spells tokens aliases all p x a i
      → Ends tokens (sort_of p) (call_of p aliases) x i ⊎ Further (sort_of p) (call_of p aliases) a i
  ends_or_on an_item xs a i h = inl tt
  ends_or_on a_head_alone x a i h = head_ends_or_on _ refl h
  ends_or_on (some_locals single d) xs a i h = elim (locals_end_or_on h) [ inl en ↦ inl en | inr on ↦ inr (inl on) ]
