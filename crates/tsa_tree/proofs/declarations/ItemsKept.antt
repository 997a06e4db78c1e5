-- The rows of parameters, heads, struct bodies, enumerators and items spell them by the productions only.
use Rattle.std.proofs.Common.{false, ℕ, ◌+◌, ◌≡◌, sym, subst, refl, List, [], ◌∷◌, Bool, true, Some, None, inl, inr, ap, arith, ◌-◌}
use Rattle.std.proofs.lemmas.Bool.{not-true}
use Rattle.tsa_base.specs.Tokens.{Lexeme}
use Rattle.tsa_base.proofs.Truths.{never_true as never}
use Rattle.tsa_tree.specs.attributes.Spelling.{IsAttributes}
use Rattle.tsa_tree.specs.declarations.Syntax.{Specified, Parameter, EnumConstant, head_of, Declarator, Signature}
use Rattle.tsa_tree.specs.units.Syntax.{body_item}
use Rattle.tsa_tree.specs.declarations.Spelling.{a_global, IsDeclarators, of_last_declarator, of_further_declarator, IsDeclarator}
use Rattle.tsa_tree.specs.declarations.ItemSpelling.{parameter, parameter_start, IsParameter, of_named, of_unnamed, of_last_parameter}
use Rattle.tsa_tree.specs.declarations.ItemSpelling.{of_further_parameter, of_lone_void, no_parameter, of_parameters, IsStorage, no_storage}
use Rattle.tsa_tree.specs.declarations.ItemSpelling.{of_storage, IsSignature, of_signature, IsHead, of_head, IsStructBody, of_struct_body}
use Rattle.tsa_tree.specs.declarations.ItemSpelling.{IsConstant, of_name_alone, of_name_and_value, of_last_constant, of_constant_and_comma}
use Rattle.tsa_tree.specs.declarations.ItemSpelling.{of_further_constant, IsEnumBody, of_enum_body}
use Rattle.tsa_tree.specs.tokens.Signs.{Aliases, span_at, identifier_at, is_lone_void}
use Rattle.tsa_tree.specs.Rows.{Sort, a_skip, a_specifier, a_declarator, some_parameters, a_signature, a_head, a_struct_body}
use Rattle.tsa_tree.specs.Rows.{some_constants, some_items, Node, storage, specifier, declarator, parameter_list, parameters, signature}
use Rattle.tsa_tree.specs.Rows.{head, struct_body, constants, enum_body, declared, a_name, sees, Row, behind_storage, parameter_end}
use Rattle.tsa_tree.specs.Rows.{constants_end, function_end, rule}
use Rattle.tsa_tree.proofs.tokens.ProductionSigns.{shows_name, shows_open, shows_close, shows_comma, shows_close_brace}
use Rattle.tsa_tree.proofs.declarations.Signs.{shows_open_brace, shows_semicolon, shows_equals}
use Rattle.tsa_tree.proofs.expressions.RowsToProductions.{production_of}
use Rattle.tsa_tree.proofs.declarations.Meanings.{Keeps, Means}
use Rattle.tsa_tree.proofs.declarations.RowSoundness.{keeps_behind_star, keeps_behind_attributes, goes_on_comma, ends_semicolon}
use Rattle.tsa_grammar.specs.Form.{done, token, part, either}
use Rattle.tsa_tree.specs.statements.Syntax.{Statements}

module _ (tokens : List Lexeme) (aliases : Aliases) (fits : ℕ → Bool) where
  -- Any number of storage words keeps to what comes after it.
  pub keeps_behind_storage : (s : Sort) (P : Node s → ℕ → Type 0) (m : ℕ) (end : Row s)
      → ((n : ℕ) → IsStorage tokens aliases m n → Keeps tokens fits s P end n)
      → Keeps tokens fits s P (behind_storage tokens aliases m end) m
  keeps_behind_storage s P m end go = ((tt, λ u n i. go n i), go m no_storage)

  pub keeps_storage : (a : ℕ)
      → Keeps tokens fits a_skip (λ u b. IsStorage tokens aliases a b) (rule tokens a_skip (storage aliases) a) a
  keeps_storage a = λ seen. keeps_behind_storage a_skip (λ u b. IsStorage tokens aliases a b) (a + 1) (done tt) (λ n i. of_storage seen i)

  -- Behind a parameter, the list goes on or is closed.
  keeps_parameter_end : (a : ℕ) (x : Parameter) (m : ℕ) → IsParameter tokens aliases x a m
      → Keeps tokens fits some_parameters (λ xs b. Means tokens fits some_parameters (parameter_list aliases) xs a b)
      (parameter_end tokens aliases x m) m
  keeps_parameter_end a x m i = (
    (λ comma. (tt, λ xs e others. (others.0, of_further_parameter i (shows_comma tokens aliases m comma) others.1, others.2, others.3))),
    (λ close. (m, of_last_parameter i, shows_close tokens aliases m close, refl)),
  )

  pub keeps_parameter_list : (a : ℕ)
      → Keeps tokens fits some_parameters (λ xs b. Means tokens fits some_parameters (parameter_list aliases) xs a b)
      (rule tokens some_parameters (parameter_list aliases) a) a
  keeps_parameter_list a = (
    tt,
    λ t n i.
        keeps_behind_star tokens aliases fits some_parameters (λ xs b. Means tokens fits some_parameters (parameter_list aliases) xs a b) n
        (behind_the_star t n) (λ p c e star. (
          (λ name. keeps_parameter_end a _ (e + 1) (of_named i star (shows_name tokens aliases e name))),
          keeps_parameter_end a _ e (of_unnamed i star),
        )),
  )
    where
      behind_the_star : Specified → ℕ → Bool → Bool → ℕ → Row some_parameters
      behind_the_star t n p c e =
          either (sees tokens (a_name aliases) e)
          (token (a_name aliases)
          (parameter_end tokens aliases (parameter tokens aliases t p c (Some (identifier_at tokens e)) n (e + 1)) (e + 1)))
          (parameter_end tokens aliases (parameter tokens aliases t p c None (parameter_start tokens aliases p a n) e) e)

  pub keeps_parameters : (a : ℕ)
      → Keeps tokens fits some_parameters (λ xs b. Means tokens fits some_parameters (parameters aliases) xs a b)
      (rule tokens some_parameters (parameters aliases) a) a
  keeps_parameters a = (
    (λ close. (a, no_parameter, shows_close tokens aliases a close, refl)),
    (
      (λ alone seen close. (a + 1, of_lone_void alone, shows_close tokens aliases (a + 1) close, refl)),
      (λ other. (tt, λ xs n h. (h.0, of_parameters (not-true (is_lone_void tokens aliases a) other) h.1, h.2, h.3))),
    ),
  )

  pub keeps_signature : (a : ℕ)
      → Keeps tokens fits a_signature (λ s b. IsSignature tokens aliases fits s a b) (rule tokens a_signature (signature aliases) a) a
  keeps_signature a = (
    (λ fit open_. (
      tt,
      λ ps n closed.
          keeps_behind_attributes tokens aliases fits a_signature (λ s b. IsSignature tokens aliases fits s a b) 0 n
          (λ xs e. done (record { params = ps; attrs = xs }))
          (λ xs e attributes. of_signature (shows_open tokens aliases a open_) fit closed.1 closed.2
          (subst (λ n. IsAttributes tokens aliases fits 0 xs n e) closed.3 attributes)),
    )),
    never,
  )

  pub keeps_head : (a : ℕ)
      → Keeps tokens fits a_head (λ h b. IsHead tokens aliases fits h a b) (rule tokens a_head (head aliases) a) a
  keeps_head a =
      keeps_behind_storage a_head (λ h b. IsHead tokens aliases fits h a b) a
      (part a_specifier (specifier aliases) (λ t n. part a_declarator (declarator aliases) (λ c e.
      part a_signature (signature aliases) (λ s f. done (head_of t c s)))))
      (λ m words. (tt, λ t n i. (tt, λ c e j. (tt, λ s f k. of_head words i j k))))

  pub keeps_struct_body : (a : ℕ)
      → Keeps tokens fits a_struct_body (λ s b. IsStructBody tokens aliases fits s a b) (rule tokens a_struct_body (struct_body aliases) a) a
  keeps_struct_body a = (
    (λ fit brace. (
      tt,
      λ ms n closed.
          keeps_behind_attributes tokens aliases fits a_struct_body (λ s b. IsStructBody tokens aliases fits s a b) 0 n
          (λ xs e. done (record { members = ms; attrs = xs }))
          (λ xs e attributes. of_struct_body (shows_open_brace tokens aliases a brace) fit closed.1 closed.2
          (subst (λ n. IsAttributes tokens aliases fits 0 xs n e) closed.3 attributes)),
    )),
    never,
  )

  -- Behind an enumerator, the list goes on or is closed.
  keeps_constants_end : (a : ℕ) (x : EnumConstant) (m : ℕ) → IsConstant tokens aliases fits x a m
      → Keeps tokens fits some_constants (λ xs b. Means tokens fits some_constants (constants aliases) xs a b)
      (constants_end tokens aliases x m) m
  keeps_constants_end a x m i = (
    (λ comma. (
      (λ close. (m + 1, of_constant_and_comma i (shows_comma tokens aliases m comma), shows_close_brace tokens aliases (m + 1) close, refl)),
      (tt, λ xs e others. (others.0, of_further_constant i (shows_comma tokens aliases m comma) others.1, others.2, others.3)),
    )),
    (λ close. (m, of_last_constant i, shows_close_brace tokens aliases m close, refl)),
  )

  pub keeps_constants : (a : ℕ)
      → Keeps tokens fits some_constants (λ xs b. Means tokens fits some_constants (constants aliases) xs a b)
      (rule tokens some_constants (constants aliases) a) a
  keeps_constants a = λ name. (
    (λ equals. (
      tt,
      λ x n sp.
          keeps_constants_end a _ n
          (of_name_and_value (shows_name tokens aliases a name) (shows_equals tokens aliases (a + 1) equals) (production_of tokens fits sp tt)),
    )),
    keeps_constants_end a _ (a + 1) (of_name_alone (shows_name tokens aliases a name)),
  )

  pub keeps_enum_body : (a : ℕ)
      → Keeps tokens fits some_constants (λ xs b. IsEnumBody tokens aliases fits xs a b) (rule tokens some_constants (enum_body aliases) a) a
  keeps_enum_body a = (
    (λ fit brace. (
      tt,
      λ xs n closed.
          subst (λ n. IsEnumBody tokens aliases fits xs a n) (sym closed.3)
          (of_enum_body (shows_open_brace tokens aliases a brace) fit closed.1 closed.2),
    )),
    never,
  )

  -- Behind a function's head, its `;` or its body makes an item of it.
  keeps_function_end : (bodies : Bool) (t : Specified) (a : ℕ) (c : Declarator) (n : ℕ) (s : Signature) (e : ℕ) → IsDeclarator tokens aliases c a n
      → IsSignature tokens aliases fits s n e
      → Keeps tokens fits some_items (λ xs b. Means tokens fits some_items (declared aliases bodies t) xs a b)
      (function_end tokens aliases bodies (head_of t c s) e) e
  keeps_function_end false t a c n s e i j =
      λ semicolon. inr (inl (e, (c, s, n, i, j, refl), shows_semicolon tokens aliases e semicolon, refl))
  keeps_function_end true t a c n s e i j = (
    (λ semicolon. inr (inl (e, (c, s, n, i, j, refl), shows_semicolon tokens aliases e semicolon, refl))),
    (
      (λ fit brace. (
        tt,
        λ xs f closed. inr (inr (
          closed.0,
          (c, s, n, xs, i, e, j, shows_open_brace tokens aliases e brace, fit, closed.1, made xs f closed.0 closed.3, refl),
          closed.2,
          closed.3,
        )),
      )),
      never,
    ),
  )
    where
      made : (xs : Statements) (f k : ℕ) → f ≡ k + 1
          → body_item (head_of t c s) xs (span_at tokens (f - 1)) ∷ [] ≡ body_item (head_of t c s) xs (span_at tokens k) ∷ []
      made xs f k q = let back : f - 1 ≡ k = omega (arith, q) in ap (λ i. body_item (head_of t c s) xs (span_at tokens i) ∷ []) back

  pub keeps_declared : (bodies : Bool) (t : Specified) (a : ℕ)
      → Keeps tokens fits some_items (λ xs b. Means tokens fits some_items (declared aliases bodies t) xs a b)
      (rule tokens some_items (declared aliases bodies t) a) a
  keeps_declared bodies t a = (
    tt,
    λ c n i. (
      (tt, λ s e j. keeps_function_end bodies t a c n s e i j),
      (
        tt,
        λ x e rest. (
          (λ on. (
            tt,
            λ xs f others. inl (
              others.0,
              (
                x.declaration ∷ xs,
                of_further_declarator i rest.1 (goes_on_comma tokens aliases fits x rest.0 rest.2 on)
                    (subst (λ e. IsDeclarators tokens aliases fits a_global 0 t xs e others.0) rest.3 others.1),
                refl,
              ),
              others.2,
              others.3,
            ),
          )),
          (λ off. inl (
            rest.0,
            (x.declaration ∷ [], of_last_declarator i rest.1, refl),
            ends_semicolon tokens aliases fits x rest.0 rest.2 off,
            rest.3,
          )),
        ),
      ),
    ),
  )
