-- The rows of what declarators declare meet what their reader needs: members, globals and locals.
use Rattle.std.proofs.Common.{ℕ, ◌+◌, ◌<◌, ◌≡◌, List, [], Bool, true, false, Option, Some, None, arith, ◌⊎◌, inl, inr}
use Rattle.tsa_base.specs.Tokens.{Lexeme}
use Rattle.tsa_tree.specs.attributes.Syntax.{Attribute}
use Rattle.tsa_tree.specs.declarations.Syntax.{Specified, Initialiser, value, Declarator, Declared, Declaration, declaration}
use Rattle.tsa_tree.specs.declarations.Spelling.{Role, a_member, a_global}
use Rattle.tsa_tree.specs.expressions.Syntax.{Expression}
use Rattle.tsa_tree.specs.tokens.Signs.{Aliases, sign_at, span_over}
use Rattle.tsa_tree.specs.Rows.{an_expression, a_declared, some_declarations, a_variable, some_variables, Call, expression, declared_rest}
use Rattle.tsa_tree.specs.Rows.{declarators, member_line, members, variable, variables, locals, an_equals, a_comma, a_semicolon}
use Rattle.tsa_tree.specs.Rows.{an_open_bracket, rank, sees, is_attribute_sign, Row, behind_attributes, behind_init, delimiter}
use Rattle.tsa_tree.specs.Rows.{behind_declared, rule}
use Rattle.tsa_tree.proofs.tokens.Facts.{is_plain, comma_plain}
use Rattle.tsa_tree.proofs.RowFacts.{begins_rest, First, Ends, Moves, Next, Start, Good, EndsValue, EndsLocal, EndsVariable, EndsVariables}
use Rattle.tsa_tree.proofs.RowFacts.{Bare}
use Rattle.tsa_tree.proofs.declarations.Facts.{semicolon_plain, plain_no_bracket, equals_no_bracket, attribute_no_bracket}
use Rattle.tsa_tree.proofs.declarations.Facts.{plain_no_attribute, equals_no_attribute, plain_no_equals, semicolon_no_comma, type_no_brace}
use Rattle.tsa_tree.proofs.declarations.Facts.{bracket_rest, attribute_rest, equals_rest, comma_rest, semicolon_rest, not_true, not_false}
use Rattle.tsa_tree.proofs.declarations.Meet.{settled_declarator, good_behind_length, good_behind_attributes, value_over}
use Rattle.tsa_grammar.specs.Form.{done, token, part, either}
use Rattle.tsa_grammar.proofs.Good as g

module _ (tokens : List Lexeme) where
  -- A comma or a `;` stands there.
  abbrev Delimited : Aliases → ℕ → Type 0
  Delimited aliases n = (sees tokens (a_comma aliases) n ≡ true) ⊎ (sees tokens (a_semicolon aliases) n ≡ true)

  delimited_plain : (aliases : Aliases) (n : ℕ) → Delimited aliases n → is_plain (sign_at tokens aliases n) ≡ true
  delimited_plain aliases n (inl h) = comma_plain (sign_at tokens aliases n) h
  delimited_plain aliases n (inr h) = semicolon_plain (sign_at tokens aliases n) h

  good_delimiter : (c : Call a_declared) (fresh : Bool) (aliases : Aliases) (x : Declaration) (n : ℕ) → ((y : Declared) (e : ℕ) → Ends tokens a_declared c y e)
      → Good tokens a_declared c fresh (delimiter tokens aliases x n) n
  good_delimiter c fresh aliases x n ends =
      ((λ h. h), (λ h. semicolon_no_comma (sign_at tokens aliases n) h), (λ e p. ends _ (n + 1)), (λ e p. ends _ (n + 1)))

  module _ (aliases : Aliases) (d : ℕ) (t : Specified) (c : Declarator) (made : Option Initialiser → ℕ → Declaration) where
    abbrev Made : Role → Call a_declared
    Made r = declared_rest aliases r d t c

    init_next : (r : Role) (n : ℕ)
        → Next tokens a_declared (Ends tokens a_declared (Made r)) (behind_init tokens aliases r d n (λ i f. delimiter tokens aliases (made i f) f)) n
        → (sees tokens (an_equals aliases) n ≡ true) ⊎ Delimited aliases n
    init_next a_member n h = inr h
    init_next a_global n (inl h) = inl h
    init_next a_global n (inr h) = inr h

    good_init : (r : Role) (fresh : Bool) (n : ℕ)
        → Good tokens a_declared (Made r) fresh (behind_init tokens aliases r d n (λ i f. delimiter tokens aliases (made i f) f)) n
    good_init a_member fresh n = good_delimiter (Made a_member) fresh aliases (made None n) n (λ y e. tt)
    good_init a_global fresh n = (
      (λ h. h),
      (λ h. plain_no_equals (sign_at tokens aliases n) (delimited_plain aliases n h)),
      (λ e p. (
        tt,
        λ x f. (
          (λ h. value_over tokens aliases x f (delimited_plain aliases f h)),
          (λ h. good_delimiter (Made a_global) false aliases (made (Some x) f) f (λ y e. tt)),
        ),
      )),
      (λ e. good_delimiter (Made a_global) fresh aliases (made None n) n (λ y e. tt)),
    )

  no_attribute : (aliases : Aliases) (n : ℕ) → (sees tokens (an_equals aliases) n ≡ true) ⊎ Delimited aliases n → Bare tokens aliases n
  no_attribute aliases n (inl h) = equals_no_attribute (sign_at tokens aliases n) h
  no_attribute aliases n (inr h) = plain_no_attribute (sign_at tokens aliases n) (delimited_plain aliases n h)

  no_bracket : (aliases : Aliases) (n : ℕ)
      → (is_attribute_sign (sign_at tokens aliases n) ≡ true) ⊎ ((sees tokens (an_equals aliases) n ≡ true) ⊎ Delimited aliases n)
      → sees tokens (an_open_bracket aliases) n ≡ false
  no_bracket aliases n (inl h) = attribute_no_bracket (sign_at tokens aliases n) h
  no_bracket aliases n (inr (inl h)) = equals_no_bracket (sign_at tokens aliases n) h
  no_bracket aliases n (inr (inr h)) = plain_no_bracket (sign_at tokens aliases n) (delimited_plain aliases n h)

  module _ (aliases : Aliases) (r : Role) (d : ℕ) (t : Specified) (c : Declarator) where
    abbrev Behind : Option Expression → List Attribute → (n : ℕ) → Row a_declared
    Behind l xs n = behind_init tokens aliases r d n (λ i f. delimiter tokens aliases (declaration t c l xs i (span_over tokens c.start f)) f)

    abbrev BehindLength : Option Expression → (n : ℕ) → Row a_declared
    BehindLength l n = behind_attributes tokens aliases d n (λ xs e. Behind l xs e)

    next_behind : (l : Option Expression) (xs : List Attribute) (n : ℕ)
        → Next tokens a_declared (Ends tokens a_declared (declared_rest aliases r d t c)) (Behind l xs n) n
        → (sees tokens (an_equals aliases) n ≡ true) ⊎ Delimited aliases n
    next_behind l xs n h = init_next aliases d t c (λ i f. declaration t c l xs i (span_over tokens c.start f)) r n h

    next_length : (l : Option Expression) (n : ℕ)
        → Next tokens a_declared (Ends tokens a_declared (declared_rest aliases r d t c)) (BehindLength l n) n
        → (is_attribute_sign (sign_at tokens aliases n) ≡ true) ⊎ ((sees tokens (an_equals aliases) n ≡ true) ⊎ Delimited aliases n)
    next_length l n (inl h) = inl h
    next_length l n (inr h) = inr (next_behind l [] n h)

    good_behind_length_of : (fresh : Bool) (l : Option Expression) (n : ℕ)
        → Good tokens a_declared (declared_rest aliases r d t c) fresh (BehindLength l n) n
    good_behind_length_of fresh l n =
        good_behind_attributes tokens (declared_rest aliases r d t c) fresh aliases d n (λ xs e. Behind l xs e) (lower fresh)
        (λ h. no_attribute aliases n (next_behind l [] n h)) (λ xs e h. no_attribute aliases e (next_behind l xs e h))
        (λ xs e h. good_init aliases d t c (λ i f. declaration t c l xs i (span_over tokens c.start f)) r false e)
        (λ h. good_init aliases d t c (λ i f. declaration t c l [] i (span_over tokens c.start f)) r fresh n)
      where
        lower : (fresh : Bool) → g.Lower (sees tokens) (First tokens) (Ends tokens) (Moves tokens) rank fresh (1 < 2)
        lower true = omega arith
        lower false = tt

    pub good_rest : (m : ℕ)
        → Good tokens a_declared (declared_rest aliases r d t c) true (rule tokens a_declared (declared_rest aliases r d t c) m) m
    good_rest m =
        good_behind_length tokens (declared_rest aliases r d t c) true aliases d m (λ l n. BehindLength l n)
        (λ h. no_bracket aliases m (next_length None m h)) (λ x n. good_behind_length_of false (Some x) (n + 1))
        (λ h. good_behind_length_of true None m)

    pub first_rest : (m : ℕ) → Start tokens a_declared (rule tokens a_declared (declared_rest aliases r d t c) m) m
        → begins_rest (sign_at tokens aliases m) ≡ true
    first_rest m (inl h) = bracket_rest (sign_at tokens aliases m) h
    first_rest m (inr (inl h)) = attribute_rest (sign_at tokens aliases m) h
    first_rest m (inr (inr h)) = go r h
      where
        go : (r : Role) → Start tokens a_declared (behind_init tokens aliases r d m
            (λ i f. delimiter tokens aliases (declaration t c None [] i (span_over tokens c.start f)) f)) m
            → begins_rest (sign_at tokens aliases m) ≡ true
        go a_member (inl h) = comma_rest (sign_at tokens aliases m) h
        go a_member (inr h) = semicolon_rest (sign_at tokens aliases m) h
        go a_global (inl h) = equals_rest (sign_at tokens aliases m) h
        go a_global (inr (inl h)) = comma_rest (sign_at tokens aliases m) h
        go a_global (inr (inr h)) = semicolon_rest (sign_at tokens aliases m) h

  pub good_declarators : (aliases : Aliases) (r : Role) (d : ℕ) (t : Specified) (m : ℕ)
      → Good tokens some_declarations (declarators aliases r d t) true (rule tokens some_declarations (declarators aliases r d t) m) m
  good_declarators aliases r d t m =
      (omega arith, λ c n. ((λ h. tt), (λ h. (tt, λ x e. ((λ h. tt), (λ h. goes x e))))))
    where
      goes : (x : Declared) (e : ℕ) → Good tokens some_declarations (declarators aliases r d t) false (behind_declared tokens aliases r d t x) e
      goes x e = (
        (λ h. h.0),
        (λ h. not_true x.goes_on h.0),
        (λ p. (p, (tt, λ xs f. ((λ h. tt), (λ h. tt))))),
        (λ p. (not_false x.goes_on p, tt)),
      )

  pub good_member_line : (aliases : Aliases) (d m : ℕ)
      → Good tokens some_declarations (member_line aliases d) true (rule tokens some_declarations (member_line aliases d) m) m
  good_member_line aliases d m =
      (omega arith, λ t n. ((λ h. settled_declarator tokens aliases n h), (λ h. (tt, λ xs e. ((λ h. tt), (λ h. tt))))))

  pub good_members : (aliases : Aliases) (d m : ℕ)
      → Good tokens some_declarations (members aliases d) true (rule tokens some_declarations (members aliases d) m) m
  good_members aliases d m = (
    (λ h. h),
    (λ h. type_no_brace (sign_at tokens aliases m) h),
    (λ e p. tt),
    (λ e. (omega arith, λ xs n. ((λ h. tt), (λ h. (tt, λ ys e. ((λ h. tt), (λ h. tt))))))),
  )

  -- A local is over before a comma, and before a semicolon.
  pub local_over : (aliases : Aliases) (l : Option Expression) (i : Option Initialiser) (n : ℕ) → is_plain (sign_at tokens aliases n) ≡ true
      → EndsLocal tokens aliases l i n
  local_over aliases None None n h = (plain_no_equals (sign_at tokens aliases n) h, plain_no_bracket (sign_at tokens aliases n) h)
  local_over aliases (Some l) None n h = plain_no_equals (sign_at tokens aliases n) h
  local_over aliases None (Some x) n h = value_over tokens aliases x n h
  local_over aliases (Some l) (Some x) n h = value_over tokens aliases x n h

  module _ (aliases : Aliases) (d : ℕ) (t : Specified) where
    -- after a local's length or its name, an initialiser may stand
    abbrev BehindName : Declarator → Option Expression → (n : ℕ) → Row a_variable
    BehindName c l n =
        either (sees tokens (an_equals aliases) n)
        (token (an_equals aliases) (part an_expression (expression aliases d 0) (λ x e.
        done (declaration t c l [] (Some (value x)) (span_over tokens c.start e)))))
        (done (declaration t c l [] None (span_over tokens c.start n)))

    over_no_equals : (l : Option Expression) (n : ℕ) → EndsLocal tokens aliases l None n → sees tokens (an_equals aliases) n ≡ false
    over_no_equals None n h = h.0
    over_no_equals (Some l) n h = h

    value_end : (l : Option Expression) (x : Expression) (n : ℕ) → EndsLocal tokens aliases l (Some (value x)) n
        → EndsValue tokens aliases (value x) n
    value_end None x n h = h
    value_end (Some l) x n h = h

    end_value : (l : Option Expression) (x : Expression) (n : ℕ) → EndsValue tokens aliases (value x) n
        → EndsLocal tokens aliases l (Some (value x)) n
    end_value None x n h = h
    end_value (Some l) x n h = h

    good_behind_name : (c : Declarator) (l : Option Expression) (n : ℕ)
        → (sees tokens (an_equals aliases) n ≡ false → EndsLocal tokens aliases l None n)
        → Good tokens a_variable (variable aliases d t) false (BehindName c l n) n
    good_behind_name c l n over =
        ((λ h. h), (λ h. over_no_equals l n h), (λ e p. (tt, λ x e. ((λ h. value_end l x e h), (λ h. end_value l x e h)))), over)

    unset_no_bracket : (c : Declarator) (n : ℕ) → Next tokens a_variable (Ends tokens a_variable (variable aliases d t)) (BehindName c None n) n
        → sees tokens (an_open_bracket aliases) n ≡ false
    unset_no_bracket c n (inl h) = equals_no_bracket (sign_at tokens aliases n) h
    unset_no_bracket c n (inr h) = h.1

    pub good_variable : (m : ℕ) → Good tokens a_variable (variable aliases d t) true (rule tokens a_variable (variable aliases d t) m) m
    good_variable m = (
      omega arith,
      λ c n. (
        (λ h. tt),
        (λ h. good_behind_length tokens (variable aliases d t) false aliases d n (λ l e. BehindName c l e)
            (λ h. unset_no_bracket c n h) (λ x e. good_behind_name c (Some x) (e + 1) (λ h. h))
            (λ no_bracket. good_behind_name c None n (λ h. (h, no_bracket)))),
      ),
    )

    more_over : (x : Declaration) (n : ℕ)
        → (sees tokens (a_comma aliases) n ≡ true) ⊎ EndsVariables tokens aliases x [] n → EndsVariable tokens aliases x n
    more_over x n (inl h) = local_over aliases x.ctype.length x.init n (comma_plain (sign_at tokens aliases n) h)
    more_over x n (inr h) = h.0

    pub good_variables : (m : ℕ) → Good tokens some_variables (variables aliases d t) true (rule tokens some_variables (variables aliases d t) m) m
    good_variables m = (
      omega arith,
      λ x n. (
        (λ h. more_over x n h),
        (λ en. (
          (λ h. h),
          (λ h. h.1),
          (λ e p. (tt, λ xs f. ((λ h. h), (λ h. h)))),
          (λ e. (en, e)),
        )),
      ),
    )

  pub good_locals : (aliases : Aliases) (single : Bool) (d m : ℕ)
      → Good tokens some_declarations (locals aliases single d) true (rule tokens some_declarations (locals aliases single d) m) m
  good_locals aliases false d m =
      (omega arith, λ t n. ((λ h. settled_declarator tokens aliases n h), (λ h. (tt, λ xs e. ((λ h. h), (λ h. h))))))
  good_locals aliases true d m =
      (omega arith, λ t n. ((λ h. settled_declarator tokens aliases n h), (λ h. (tt, λ x e. ((λ h. h), (λ h. h))))))
