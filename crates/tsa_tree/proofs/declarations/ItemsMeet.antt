-- The rows of parameters, heads, enumerators, struct bodies and items meet what their reader needs.
use Rattle.std.proofs.Common.{ℕ, ◌+◌, ◌<◌, ◌≡◌, List, Bool, true, false, not, Some, None, arith, ◌⊎◌, inl, inr}
use Rattle.tsa_base.specs.Tokens.{Lexeme}
use Rattle.tsa_tree.specs.declared.sign.Keyword.{Keyword}
use Rattle.tsa_tree.specs.declared.sign.Keyword.TheVariants as key
use Rattle.tsa_tree.specs.declarations.Syntax.{Specified, Declared, Parameter, EnumConstant, Head, head_of}
use Rattle.tsa_tree.specs.declarations.ItemSpelling.{parameter, parameter_start}
use Rattle.tsa_tree.specs.tokens.Signs.{Aliases, sign_at, identifier_at, is_star, is_lone_void}
use Rattle.tsa_tree.specs.Rows.{Sort, a_skip, a_specifier, a_declarator, some_parameters, a_signature, a_head, a_struct_body}
use Rattle.tsa_tree.specs.Rows.{some_constants, some_items, Call, storage, specifier, declarator, parameter_list, parameters, signature}
use Rattle.tsa_tree.specs.Rows.{head, struct_body, constants, enum_body, declared, a_name, an_open, a_close, a_comma, an_open_brace}
use Rattle.tsa_tree.specs.Rows.{a_close_brace, a_semicolon, rank, sees, is_keyword, Row, behind_storage, parameter_end, constants_end}
use Rattle.tsa_tree.specs.Rows.{behind_global, function_end, nothing, rule}
use Rattle.tsa_tree.proofs.tokens.Facts.{is_plain, comma_plain, close_plain, close_no_comma, plain_no_name}
use Rattle.tsa_tree.proofs.RowFacts.{begins_type, First, Ends, Moves, Next, Start, Good, Settled, Bare, never, ended}
use Rattle.tsa_tree.proofs.declarations.Facts.{plain_no_keyword, name_no_keyword, plain_no_star, name_no_star, plain_no_attribute}
use Rattle.tsa_tree.proofs.declarations.Facts.{plain_no_equals, semicolon_plain, star_begins, brace_plain, brace_no_comma, type_no_close}
use Rattle.tsa_tree.proofs.declarations.Facts.{void_no_close, type_no_storage, name_no_brace, rest_no_open, brace_no_attribute}
use Rattle.tsa_tree.proofs.declarations.Facts.{open_brace_no_semicolon, not_true, not_false}
use Rattle.tsa_tree.proofs.declarations.Meet.{settled_declarator, good_behind_star, good_behind_attributes}
use Rattle.tsa_grammar.specs.Form.{done, token, part, either}
use Rattle.tsa_grammar.proofs.Good as g

module _ (tokens : List Lexeme) where
  pub good_storage : (aliases : Aliases) (m : ℕ) → Good tokens a_skip (storage aliases) true (rule tokens a_skip (storage aliases) m) m
  good_storage aliases m = λ e. ((λ h. h), (λ h. h), (λ p. (tt, λ u n. ((λ h. h), (λ h. h)))), (λ p. p))

  -- a comma or a closing parenthesis
  abbrev Listed : Aliases → ℕ → Type 0
  Listed aliases n = (sees tokens (a_comma aliases) n ≡ true) ⊎ (sees tokens (a_close aliases) n ≡ true)

  listed_plain : (aliases : Aliases) (n : ℕ) → Listed aliases n → is_plain (sign_at tokens aliases n) ≡ true
  listed_plain aliases n (inl h) = comma_plain (sign_at tokens aliases n) h
  listed_plain aliases n (inr h) = close_plain (sign_at tokens aliases n) h

  good_parameter_end : (aliases : Aliases) (x : Parameter) (n : ℕ)
      → Good tokens some_parameters (parameter_list aliases) false (parameter_end tokens aliases x n) n
  good_parameter_end aliases x n =
      ((λ h. h), (λ h. close_no_comma (sign_at tokens aliases n) h), (λ e p. (tt, λ xs f. ((λ h. tt), (λ h. tt)))), (λ e p. tt))

  -- a name, a comma or a closing parenthesis
  abbrev Named : Aliases → ℕ → Type 0
  Named aliases n = (sees tokens (a_name aliases) n ≡ true) ⊎ Listed aliases n

  named_no_keyword : (w : Keyword) (aliases : Aliases) (n : ℕ) → Named aliases n → is_keyword w (sign_at tokens aliases n) ≡ false
  named_no_keyword w aliases n (inl h) = name_no_keyword w (sign_at tokens aliases n) h
  named_no_keyword w aliases n (inr h) = plain_no_keyword w (sign_at tokens aliases n) (listed_plain aliases n h)

  named_no_star : (aliases : Aliases) (n : ℕ) → Named aliases n → is_star (sign_at tokens aliases n) ≡ false
  named_no_star aliases n (inl h) = name_no_star (sign_at tokens aliases n) h
  named_no_star aliases n (inr h) = plain_no_star (sign_at tokens aliases n) (listed_plain aliases n h)

  module _ (aliases : Aliases) (m : ℕ) (t : Specified) (start : ℕ) where
    abbrev Behind : (p c : Bool) (e : ℕ) → Row some_parameters
    Behind p c e =
        either (sees tokens (a_name aliases) e)
        (token (a_name aliases) (parameter_end tokens aliases (parameter tokens aliases t p c (Some (identifier_at tokens e)) start (e + 1)) (e + 1)))
        (parameter_end tokens aliases (parameter tokens aliases t p c None (parameter_start tokens aliases p m start) e) e)

    good_behind : (p c : Bool) (e : ℕ) → Good tokens some_parameters (parameter_list aliases) false (Behind p c e) e
    good_behind p c e = (
      (λ h. h),
      (λ h. plain_no_name (sign_at tokens aliases e) (listed_plain aliases e h)),
      (λ q z. good_parameter_end aliases (parameter tokens aliases t p c (Some (identifier_at tokens e)) start (e + 1)) (e + 1)),
      (λ q. good_parameter_end aliases (parameter tokens aliases t p c None (parameter_start tokens aliases p m start) e) e),
    )

    settled_named : (n : ℕ) → (is_star (sign_at tokens aliases n) ≡ true) ⊎ Named aliases n → Settled tokens aliases n
    settled_named n (inl h) = settled_declarator tokens aliases n (star_begins (sign_at tokens aliases n) h)
    settled_named n (inr h) = (named_no_keyword key.Const aliases n h, λ q. named_no_keyword key.Int aliases n h)

  pub good_parameter_list : (aliases : Aliases) (m : ℕ)
      → Good tokens some_parameters (parameter_list aliases) true (rule tokens some_parameters (parameter_list aliases) m) m
  good_parameter_list aliases m = (
    omega arith,
    λ t n. (
      (λ h. settled_named aliases m t n n h),
      (λ h. good_behind_star tokens (parameter_list aliases) false aliases n (λ p c e. Behind aliases m t n p c e)
          (λ h. named_no_star aliases n h) (λ h. named_no_keyword key.Const aliases (n + 1) h)
          (good_behind aliases m t n true true (n + 1 + 1)) (good_behind aliases m t n true false (n + 1))
          (good_behind aliases m t n false false n)),
    ),
  )

  pub good_parameters : (aliases : Aliases) (m : ℕ)
      → Good tokens some_parameters (parameters aliases) true (rule tokens some_parameters (parameters aliases) m) m
  good_parameters aliases m = (
    (λ h. h),
    (λ h. no_close h),
    (λ e p. tt),
    (λ e. (
      (λ h. h.0),
      (λ h. not_true (is_lone_void tokens aliases m) h.0),
      (λ p. (p, λ q q'. tt)),
      (λ p. (not_false (is_lone_void tokens aliases m) p, (omega arith, λ xs n. ((λ h. tt), (λ h. tt))))),
    )),
  )
    where
      no_close : ((is_lone_void tokens aliases m ≡ true) × (is_keyword key.Void (sign_at tokens aliases m) ≡ true))
          ⊎ ((not (is_lone_void tokens aliases m) ≡ true) × (begins_type (sign_at tokens aliases m) ≡ true))
          → sees tokens (a_close aliases) m ≡ false
      no_close (inl h) = void_no_close (sign_at tokens aliases m) h.1
      no_close (inr h) = type_no_close (sign_at tokens aliases m) h.1

  pub good_signature : (aliases : Aliases) (m : ℕ)
      → Good tokens a_signature (signature aliases) true (rule tokens a_signature (signature aliases) m) m
  good_signature aliases m = (
    (λ h. h),
    (λ h. never tokens m h),
    (λ e. (
      e,
      λ p. (
        tt,
        λ ps n. (
          (λ h. tt),
          (λ h. good_behind_attributes tokens (signature aliases) false aliases 0 n (λ xs e. done (record { params = ps; attrs = xs })) tt
              (λ h. h) (λ xs e h. h) (λ xs e h. h) (λ h. h)),
        ),
      ),
    )),
    (λ e p. never tokens m p),
  )

  pub first_signature : (aliases : Aliases) (m : ℕ) → Start tokens a_signature (rule tokens a_signature (signature aliases) m) m
      → sees tokens (an_open aliases) m ≡ true
  first_signature aliases m (inl h) = h
  first_signature aliases m (inr h) = never tokens m h

  -- Any number of storage words stand before a type.
  pub good_behind_storage : {s : Sort} (c : Call s) (fresh : Bool) (aliases : Aliases) (m : ℕ) (end : Row s)
      → g.Lower (sees tokens) (First tokens) (Ends tokens) (Moves tokens) rank fresh (rank a_skip (storage aliases) < rank s c)
      → ((n : ℕ) → Next tokens s (Ends tokens s c) end n → begins_type (sign_at tokens aliases n) ≡ true)
      → ((n : ℕ) → Good tokens s c false end n) → Good tokens s c fresh end m
      → Good tokens s c fresh (behind_storage tokens aliases m end) m
  good_behind_storage c fresh aliases m end lower types goes first = (
    (λ h. h),
    (λ h. type_no_storage (sign_at tokens aliases m) (types m h)),
    (λ e. (lower, λ u n. ((λ h. type_no_storage (sign_at tokens aliases n) (types n h)), (λ h. goes n)))),
    (λ e. first),
  )

  -- after a head's type
  abbrev OfHead : Aliases → Specified → Row a_head
  OfHead aliases t = part a_declarator (declarator aliases) (λ c e. part a_signature (signature aliases) (λ s f. done (head_of t c s)))

  pub good_head : (aliases : Aliases) (m : ℕ) → Good tokens a_head (head aliases) true (rule tokens a_head (head aliases) m) m
  good_head aliases m =
      good_behind_storage (head aliases) true aliases m
      (part a_specifier (specifier aliases) (λ t n. part a_declarator (declarator aliases) (λ c e.
      part a_signature (signature aliases) (λ s f. done (head_of t c s)))))
      (omega arith) (λ n h. h) (λ n. (tt, λ t n. of_type t n)) (omega arith, λ t n. of_type t n)
    where
      of_type : (t : Specified) (n : ℕ)
          → (Next tokens a_head (Ends tokens a_head (head aliases)) (OfHead aliases t) n → Settled tokens aliases n)
          × (Settled tokens aliases n → Good tokens a_head (head aliases) false (OfHead aliases t) n)
      of_type t n =
          ((λ h. settled_declarator tokens aliases n h), (λ h. (tt, λ c e. ((λ h. tt), (λ h. (tt, λ s f. ((λ h. h), (λ h. h))))))))

  pub good_struct_body : (aliases : Aliases) (m : ℕ)
      → Good tokens a_struct_body (struct_body aliases) true (rule tokens a_struct_body (struct_body aliases) m) m
  good_struct_body aliases m = (
    (λ h. h),
    (λ h. never tokens m h),
    (λ e. (
      e,
      λ p. (
        tt,
        λ ms n. (
          (λ h. tt),
          (λ h. good_behind_attributes tokens (struct_body aliases) false aliases 0 n (λ xs e. done (record { members = ms; attrs = xs })) tt
              (λ h. h) (λ xs e h. h) (λ xs e h. h) (λ h. h)),
        ),
      ),
    )),
    (λ e p. never tokens m p),
  )

  pub first_struct_body : (aliases : Aliases) (m : ℕ) → Start tokens a_struct_body (rule tokens a_struct_body (struct_body aliases) m) m
      → sees tokens (an_open_brace aliases) m ≡ true
  first_struct_body aliases m (inl h) = h
  first_struct_body aliases m (inr h) = never tokens m h

  -- a comma or a closing brace
  abbrev Counted : Aliases → ℕ → Type 0
  Counted aliases n = (sees tokens (a_comma aliases) n ≡ true) ⊎ (sees tokens (a_close_brace aliases) n ≡ true)

  counted_plain : (aliases : Aliases) (n : ℕ) → Counted aliases n → is_plain (sign_at tokens aliases n) ≡ true
  counted_plain aliases n (inl h) = comma_plain (sign_at tokens aliases n) h
  counted_plain aliases n (inr h) = brace_plain (sign_at tokens aliases n) h

  good_constants_end : (aliases : Aliases) (x : EnumConstant) (n : ℕ)
      → Good tokens some_constants (constants aliases) false (constants_end tokens aliases x n) n
  good_constants_end aliases x n = (
    (λ h. h),
    (λ h. brace_no_comma (sign_at tokens aliases n) h),
    (λ e p. (
      (λ h. h),
      (λ h. name_no_brace (sign_at tokens aliases (n + 1)) h),
      (λ q z. tt),
      (λ q. (tt, λ xs f. ((λ h. tt), (λ h. tt)))),
    )),
    (λ e p. tt),
  )

  pub good_constants : (aliases : Aliases) (m : ℕ)
      → Good tokens some_constants (constants aliases) true (rule tokens some_constants (constants aliases) m) m
  good_constants aliases m = λ e. (
    (λ h. h),
    (λ h. plain_no_equals (sign_at tokens aliases (m + 1)) (counted_plain aliases (m + 1) h)),
    (λ p q. (
      tt,
      λ x n. (
        (λ h. ended tokens aliases x 0 n (counted_plain aliases n h)),
        (λ h. good_constants_end aliases (record { name = identifier_at tokens m; value = Some x }) n),
      ),
    )),
    (λ p. good_constants_end aliases (record { name = identifier_at tokens m; value = None }) (m + 1)),
  )

  pub good_enum_body : (aliases : Aliases) (m : ℕ)
      → Good tokens some_constants (enum_body aliases) true (rule tokens some_constants (enum_body aliases) m) m
  good_enum_body aliases m =
      ((λ h. h), (λ h. never tokens m h), (λ e. (e, λ p. (tt, λ xs n. ((λ h. tt), (λ h. tt))))), (λ e p. never tokens m p))

  pub first_enum_body : (aliases : Aliases) (m : ℕ) → Start tokens some_constants (rule tokens some_constants (enum_body aliases) m) m
      → sees tokens (an_open_brace aliases) m ≡ true
  first_enum_body aliases m (inl h) = h
  first_enum_body aliases m (inr h) = never tokens m h

  pub good_declared : (aliases : Aliases) (bodies : Bool) (t : Specified) (m : ℕ)
      → Good tokens some_items (declared aliases bodies t) true (rule tokens some_items (declared aliases bodies t) m) m
  good_declared aliases bodies t m = (
    omega arith,
    λ c n. (
      (λ h. tt),
      (λ h. (
        (λ h. h),
        (λ h. rest_no_open (sign_at tokens aliases n) h),
        (λ e. (tt, λ s f. ((λ h. function_bare bodies (head_of t c s) f h), (λ h. function_goes bodies (head_of t c s) f)))),
        (λ e. (tt, λ x f. ((λ h. tt), (λ h. goes x f)))),
      )),
    ),
  )
    where
      bare_semicolon : (f : ℕ) → sees tokens (a_semicolon aliases) f ≡ true → Bare tokens aliases f
      bare_semicolon f h = plain_no_attribute (sign_at tokens aliases f) (semicolon_plain (sign_at tokens aliases f) h)

      -- no attribute stands where a function ends or its body begins
      function_bare : (bodies : Bool) (h : Head) (f : ℕ)
          → Next tokens some_items (Ends tokens some_items (declared aliases bodies t)) (function_end tokens aliases bodies h f) f → Bare tokens aliases f
      function_bare false h f e = bare_semicolon f e
      function_bare true h f (inl e) = bare_semicolon f e
      function_bare true h f (inr (inl e)) = brace_no_attribute (sign_at tokens aliases f) e
      function_bare true h f (inr (inr e)) = never tokens f e

      no_semicolon : (f : ℕ) → (sees tokens (an_open_brace aliases) f ≡ true) ⊎ (sees tokens nothing f ≡ true)
          → sees tokens (a_semicolon aliases) f ≡ false
      no_semicolon f (inl e) = open_brace_no_semicolon (sign_at tokens aliases f) e
      no_semicolon f (inr e) = never tokens f e

      function_goes : (bodies : Bool) (h : Head) (f : ℕ)
          → Good tokens some_items (declared aliases bodies t) false (function_end tokens aliases bodies h f) f
      function_goes false h f = λ e. tt
      function_goes true h f = (
        (λ e. e),
        (λ e. no_semicolon f e),
        (λ e p. tt),
        (λ e. ((λ e. e), (λ e. never tokens f e), (λ e. (e, λ p. (tt, λ xs n. ((λ h. tt), (λ h. tt))))), (λ e p. never tokens f p))),
      )

      goes : (x : Declared) (f : ℕ) → Good tokens some_items (declared aliases bodies t) false (behind_global tokens aliases t x) f
      goes x f = (
        (λ h. h.0),
        (λ h. not_true x.goes_on h.0),
        (λ p. (p, (tt, λ xs e. ((λ h. tt), (λ h. tt))))),
        (λ p. (not_false x.goes_on p, tt)),
      )
