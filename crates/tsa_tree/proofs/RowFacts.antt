-- What is known of the token where a part begins, and of the token after a part.
use Rattle.std.proofs.Common.{ℕ, suc, ◌+◌, ◌-◌, ◌<◌, ◌≡◌, ◌∙◌, ap, sym, subst, refl, Bool, true, false, ◌&&◌, ◌||◌, Option, Some, None}
use Rattle.std.proofs.Common.{List, [], ◌∷◌, length, slice_get, arith, inl, inr, nat_eq, nat_le}
use Rattle.std.proofs.lemmas.Bool.{cases_lt, eqb-true}
use Rattle.std.proofs.lemmas.Option.{slice_get_past}
use Rattle.tsa_base.specs.Tokens.{Lexeme}
use Rattle.tsa_tree.specs.declared.expr.BinaryOp.{BinaryOp}
use Rattle.tsa_tree.specs.declared.sign.Keyword.TheVariants as key
use Rattle.tsa_tree.specs.declared.sign.Sign.{Sign}
use Rattle.tsa_tree.specs.declared.sign.Sign.TheVariants as sign
use Rattle.tsa_tree.specs.expressions.Syntax.{Expression, number, null, named, call, unary, binary, field, index}
use Rattle.tsa_tree.specs.tokens.Signs.{Aliases, sign_in, sign_at, is_word_at, identifier_in, identifier_at, is_word, kind_in}
use Rattle.tsa_tree.specs.tokens.Signs.{is_plain_sign, is_tag, is_storage, is_star, assigns, operator, level}
pub use Rattle.tsa_tree.specs.tokens.Signs.{begins_type, begins_operand, begins_statement, is_prefix}
use Rattle.tsa_tree.specs.attributes.Syntax.{try_value}
use Rattle.tsa_tree.specs.declarations.Syntax.{Initialiser, value, list, Declaration}
use Rattle.tsa_tree.specs.statements.Syntax.{Ending, by_expression, by_operand, by_step, Statement, ends_short}
use Rattle.tsa_tree.specs.Rows.{Sort, Node, Call, expression, operation, operand, postfix, series, attributes, group, entries, balanced}
use Rattle.tsa_tree.specs.Rows.{consts, storage, specifier, declarator, initialiser, initialisers, declared_rest, declarators, member_line}
use Rattle.tsa_tree.specs.Rows.{members, variable, variables, locals, parameter_list, parameters, signature, head, struct_body, constants}
use Rattle.tsa_tree.specs.Rows.{enum_body, declared, item, items, simple, for_init, statement, statements, rank, mark, Kind, kind, a_word}
use Rattle.tsa_tree.specs.Rows.{a_result, a_plain, a_keyword, a_tag, a_storage_word, a_star, an_assignment, is_assignment, nothing, a_name}
use Rattle.tsa_tree.specs.Rows.{an_open, an_open_bracket, an_open_brace, an_equals, a_comma, is_keyword, is_given, sees, is_postfix}
use Rattle.tsa_tree.specs.Rows.{is_attribute_sign, is_past, Row}
use Rattle.tsa_grammar.proofs.Good as g
use Rattle.tsa_tree.proofs.tokens.Facts.{is_plain, plain_no_postfix, plain_no_operator, plain_no_open}

pub begins_no_close : (s : Sign) → begins_operand s ≡ true → nat_eq (mark s) 7 ≡ false
begins_no_close sign.Close e = cc
begins_no_close _ e = refl

-- `int` may follow this token.
abbrev pub is_signing : Sign → Bool
is_signing (sign.Keyword key.Unsigned) = true
is_signing (sign.Keyword key.Signed) = true
is_signing _ = false

-- A declarator can begin with this token.
abbrev pub begins_declarator : Sign → Bool
begins_declarator sign.Name = true
begins_declarator s = is_star s

abbrev pub begins_initialiser : Sign → Bool
begins_initialiser sign.OpenBrace = true
begins_initialiser s = begins_operand s

-- This can stand after the name of a member or a global.
abbrev pub begins_rest : Sign → Bool
begins_rest sign.OpenBracket = true
begins_rest sign.Equals = true
begins_rest sign.Comma = true
begins_rest sign.Semicolon = true
begins_rest s = is_attribute_sign s

-- An item can begin with this token.
abbrev pub begins_item : Sign → Bool
begins_item (sign.Keyword key.Typedef) = true
begins_item s = begins_type s || is_storage s

abbrev pub begins_simple : Sign → Bool
begins_simple (sign.Step o) = true
begins_simple s = begins_operand s

-- What stands in a block can begin with this token, or the block ends with it.
abbrev pub begins_inner : Sign → Bool
begins_inner sign.CloseBrace = true
begins_inner s = begins_type s || begins_statement s

-- The last operand of an expression, which no parentheses end, is a name.
abbrev pub last_named : Expression → Bool
last_named (named name span) = true
last_named (unary op inner span) = last_named inner
last_named (binary op left right span) = last_named right
last_named (number worth unsigned span) = false
last_named (null span) = false
last_named (call callee args span) = false
last_named (field base name arrow span) = false
last_named (index base at span) = false

module _ (tokens : List Lexeme) where
  -- The token before m is a name by itself: a parenthesis at m would make it a callee.
  abbrev pub lone : Aliases → Expression → ℕ → Bool
  lone aliases x m = last_named x && nat_eq (mark (sign_at tokens aliases (m - 1))) 3

  -- No postfix operator makes more of the operand that ends before m.
  abbrev pub Ended : Aliases → Expression → ℕ → Type 0
  Ended aliases x m =
      (is_postfix (sign_at tokens aliases m) ≡ false) × (lone aliases x m ≡ true → sees tokens (an_open aliases) m ≡ false)

  -- No operator as tight as k stands at m.
  abbrev pub Loose : Aliases → (k m : ℕ) → Type 0
  Loose aliases k m = (o : BinaryOp) → operator (sign_at tokens aliases m) ≡ Some o → nat_le k (level o) ≡ false

  -- This is known of the place where a part begins.
  abbrev pub First : (s : Sort) → Call s → ℕ → Type 0
  First _ (expression aliases d k) m = begins_operand (sign_at tokens aliases m) ≡ true
  First _ (operation aliases d k start l) m =
      (o : BinaryOp) × (operator (sign_at tokens aliases m) ≡ Some o) × (nat_le k (level o) ≡ true)
  First _ (operand aliases d) m = begins_operand (sign_at tokens aliases m) ≡ true
  First _ (postfix aliases d start base) m = is_postfix (sign_at tokens aliases m) ≡ true
  First _ (series aliases d) m = begins_operand (sign_at tokens aliases m) ≡ true
  First _ (attributes aliases d) m = is_attribute_sign (sign_at tokens aliases m) ≡ true
  First _ (group aliases d) m = is_attribute_sign (sign_at tokens aliases m) ≡ true
  First _ (entries aliases d) m = is_word_at tokens m ≡ true
  First _ (balanced aliases d closer) m = Unit {0}
  First _ (consts aliases) m = is_keyword key.Const (sign_at tokens aliases m) ≡ true
  First _ (storage aliases) m = is_storage (sign_at tokens aliases m) ≡ true
  First _ (specifier aliases) m = begins_type (sign_at tokens aliases m) ≡ true
  First _ (declarator aliases) m = begins_declarator (sign_at tokens aliases m) ≡ true
  First _ (initialiser aliases d) m = begins_initialiser (sign_at tokens aliases m) ≡ true
  First _ (initialisers aliases d) m = begins_initialiser (sign_at tokens aliases m) ≡ true
  First _ (declared_rest aliases r d t c) m = begins_rest (sign_at tokens aliases m) ≡ true
  First _ (declarators aliases r d t) m = begins_declarator (sign_at tokens aliases m) ≡ true
  First _ (member_line aliases d) m = begins_type (sign_at tokens aliases m) ≡ true
  First _ (members aliases d) m = Unit {0}
  First _ (variable aliases d t) m = begins_declarator (sign_at tokens aliases m) ≡ true
  First _ (variables aliases d t) m = begins_declarator (sign_at tokens aliases m) ≡ true
  First _ (locals aliases single d) m = begins_type (sign_at tokens aliases m) ≡ true
  First _ (parameter_list aliases) m = begins_type (sign_at tokens aliases m) ≡ true
  First _ (parameters aliases) m = Unit {0}
  First _ (signature aliases) m = sees tokens (an_open aliases) m ≡ true
  First _ (head aliases) m = Unit {0}
  First _ (struct_body aliases) m = sees tokens (an_open_brace aliases) m ≡ true
  First _ (constants aliases) m = sees tokens (a_name aliases) m ≡ true
  First _ (enum_body aliases) m = sees tokens (an_open_brace aliases) m ≡ true
  First _ (declared aliases bodies t) m = begins_declarator (sign_at tokens aliases m) ≡ true
  First _ (item aliases bodies) m = begins_item (sign_at tokens aliases m) ≡ true
  First _ (items aliases) m = is_past tokens m ≡ false
  First _ (simple aliases d) m = begins_simple (sign_at tokens aliases m) ≡ true
  First _ (for_init aliases d) m = Unit {0}
  First _ (statement aliases d) m = begins_statement (sign_at tokens aliases m) ≡ true
  First _ (statements aliases d) m = begins_inner (sign_at tokens aliases m) ≡ true

  -- A type is over where no `const` stands, nor `int` right after `unsigned` or `signed`.
  abbrev pub Settled : Aliases → ℕ → Type 0
  Settled aliases m =
      (is_keyword key.Const (sign_at tokens aliases m) ≡ false)
      × (is_signing (sign_at tokens aliases (m - 1)) ≡ true → is_keyword key.Int (sign_at tokens aliases m) ≡ false)

  -- An initialiser is over where its expression is. A list has its brace.
  abbrev pub EndsValue : Aliases → Initialiser → ℕ → Type 0
  EndsValue aliases (value x) m = Ended aliases x m × Loose aliases 0 m
  EndsValue aliases (list xs span) m = Unit {0}

  -- A local is over where its initialiser is, or where neither one nor a length follows.
  abbrev pub EndsLocal : Aliases → Option Expression → Option Initialiser → ℕ → Type 0
  EndsLocal aliases None None m = (sees tokens (an_equals aliases) m ≡ false) × (sees tokens (an_open_bracket aliases) m ≡ false)
  EndsLocal aliases (Some l) None m = sees tokens (an_equals aliases) m ≡ false
  EndsLocal aliases l (Some x) m = EndsValue aliases x m

  abbrev pub EndsVariable : Aliases → Declaration → ℕ → Type 0
  EndsVariable aliases x m = EndsLocal aliases x.ctype.length x.init m

  -- Several of them are over where the last one is and no comma follows.
  abbrev pub EndsVariables : Aliases → Declaration → List Declaration → ℕ → Type 0
  EndsVariables aliases x [] m = EndsVariable aliases x m × (sees tokens (a_comma aliases) m ≡ false)
  EndsVariables aliases x (y ∷ ys) m = EndsVariables aliases y ys m

  abbrev pub EndsLocals : Aliases → (single : Bool) → List Declaration → ℕ → Type 0
  EndsLocals aliases single [] m = Unit {0}
  EndsLocals aliases false (x ∷ xs) m = EndsVariables aliases x xs m
  EndsLocals aliases true (x ∷ xs) m = EndsVariable aliases x m

  -- A simple statement is over where what ends it is.
  abbrev pub EndsSimple : Aliases → Ending → ℕ → Type 0
  EndsSimple aliases (by_expression x) m = Ended aliases x m × Loose aliases 0 m
  EndsSimple aliases (by_operand x) m = Ended aliases x m
  EndsSimple aliases by_step m = Unit {0}

  -- No `else` stands after a statement to which it would belong.
  abbrev pub EndsStatement : Aliases → Statement → ℕ → Type 0
  EndsStatement aliases s m = ends_short s ≡ true → is_keyword key.Else (sign_at tokens aliases m) ≡ false

  -- No attribute follows.
  abbrev pub Bare : Aliases → ℕ → Type 0
  Bare aliases m = is_attribute_sign (sign_at tokens aliases m) ≡ false

  -- This is known of the place after a part that is as long as it can be. Every other part ends with a token of its own.
  abbrev pub Ends : (s : Sort) → Call s → Node s → ℕ → Type 0
  Ends _ (expression aliases d k) x m = Ended aliases x m × Loose aliases k m
  Ends _ (operation aliases d k start l) x m = Ended aliases x m × Loose aliases k m
  Ends _ (operand aliases d) x m = Ended aliases x m
  Ends _ (postfix aliases d start base) x m = Ended aliases x m
  Ends _ (attributes aliases d) x m = is_attribute_sign (sign_at tokens aliases m) ≡ false
  Ends _ (consts aliases) x m = Settled aliases m
  Ends _ (storage aliases) x m = is_storage (sign_at tokens aliases m) ≡ false
  Ends _ (specifier aliases) x m = Settled aliases m
  Ends _ (initialiser aliases d) x m = EndsValue aliases x m
  Ends _ (variable aliases d t) x m = EndsVariable aliases x m
  Ends _ (variables aliases d t) x m = EndsVariables aliases x.0 x.1 m
  Ends _ (locals aliases single d) xs m = EndsLocals aliases single xs m
  Ends _ (signature aliases) x m = Bare aliases m
  Ends _ (head aliases) x m = Bare aliases m
  Ends _ (struct_body aliases) x m = Bare aliases m
  Ends _ (simple aliases d) x m = EndsSimple aliases x.ending m
  Ends _ (statement aliases d) s m = EndsStatement aliases s m
  Ends _ (items aliases) xs m = is_past tokens m ≡ true
  Ends _ other x m = Unit {0}

  -- A limit stands right before a statement alone, which begins with a token that is one of it.
  abbrev pub Moves : (s : Sort) → Call s → ℕ → Type 0
  Moves _ (expression aliases d k) m = begins_operand (sign_at tokens aliases m) ≡ true
  Moves _ (operand aliases d) m = begins_operand (sign_at tokens aliases m) ≡ true
  Moves _ (simple aliases d) m = begins_simple (sign_at tokens aliases m) ≡ true
  Moves _ (statement aliases d) m = begins_statement (sign_at tokens aliases m) ≡ true
  Moves _ other m = ⊥

  -- What stands where a form goes on, where the form may stand, and where it can't become whole, for this grammar.
  abbrev pub Next : (s : Sort) → (Node s → ℕ → Type 0) → Row s → ℕ → Type 0
  Next s E f m = g.Next (sees tokens) First Ends Moves rank s E f m

  abbrev pub Start : (s : Sort) → Row s → ℕ → Type 0
  Start s f m = Next s (λ x b. Unit {0}) f m

  abbrev pub Good : (s : Sort) (c : Call s) (fresh : Bool) → Row s → ℕ → Type 0
  Good s c fresh f m = g.Good (sees tokens) First Ends Moves rank s c fresh f m

  abbrev pub Barren : (s : Sort) → Row s → ℕ → Type 0
  Barren s f m = g.Barren (sees tokens) First Ends Moves rank s f m

  pub never : {A : Type 0} (m : ℕ) → sees tokens nothing m ≡ true → A
  never m e = cc

  -- What is seen stands in the list.
  pub inside : (t : Kind) (i : ℕ) → sees tokens t i ≡ true → i < length tokens
  unfolding sign_at is_word_at identifier_at try_value
  inside t i e = elim (cases_lt i (length tokens)) [ inl lt ↦ lt | inr le ↦ absurd (go t (slice_get_past tokens i le) e) ]
    where
      go : (t : Kind) → slice_get tokens i ≡ None → sees tokens t i ≡ true → ⊥
      go (kind aliases k) past e =
          let q : nat_eq (mark sign.End) (suc k) ≡ true = sym (ap (λ o. nat_eq (mark (sign_in aliases o)) (suc k)) past) ∙ e in
          let z : 0 ≡ suc k = eqb-true 0 (suc k) q in omega arith
      go a_word past e = let q : false ≡ true = sym (ap (λ o. is_word (kind_in o)) past) ∙ e in cc
      go a_result past e = let q : false ≡ true = sym (ap (λ o. is_given (try_value (identifier_in o).text)) past) ∙ e in cc
      go (a_keyword aliases word) past e = let q : false ≡ true = sym (ap (λ o. is_keyword word (sign_in aliases o)) past) ∙ e in cc
      go (a_tag aliases) past e = let q : false ≡ true = sym (ap (λ o. is_tag (sign_in aliases o)) past) ∙ e in cc
      go (a_storage_word aliases) past e = let q : false ≡ true = sym (ap (λ o. is_storage (sign_in aliases o)) past) ∙ e in cc
      go (a_star aliases) past e = let q : false ≡ true = sym (ap (λ o. is_star (sign_in aliases o)) past) ∙ e in cc
      go (an_assignment aliases) past e = let q : false ≡ true = sym (ap (λ o. is_assignment (assigns (sign_in aliases o))) past) ∙ e in cc
      go (a_plain aliases) past e = let q : false ≡ true = sym (ap (λ o. is_plain_sign (sign_in aliases o)) past) ∙ e in cc
      go nothing past e = cc

  -- An expression is ended before a closing token and before a comma.
  pub ended : (aliases : Aliases) (x : Expression) (k m : ℕ) → is_plain (sign_at tokens aliases m) ≡ true
      → Ended aliases x m × Loose aliases k m
  ended aliases x k m e = (
    (plain_no_postfix (sign_at tokens aliases m) e, λ h. plain_no_open (sign_at tokens aliases m) e),
    λ o q. let never : Some o ≡ None = sym q ∙ plain_no_operator (sign_at tokens aliases m) e in cc,
  )

  unnamed : (p q : Bool) → q ≡ false → (p && q) ≡ true → ⊥
  unnamed true q e h = let z : true ≡ false = sym h ∙ e in cc
  unnamed false q e h = cc

  -- A token that is no name is no callee either.
  pub no_callee : (aliases : Aliases) (x : Expression) (n : ℕ) → nat_eq (mark (sign_at tokens aliases n)) 3 ≡ false
      → lone aliases x (n + 1) ≡ true → ⊥
  no_callee aliases x n e h =
      let back : n + 1 - 1 ≡ n = omega arith in
      unnamed (last_named x) (nat_eq (mark (sign_at tokens aliases n)) 3) e
      (subst (λ i. (last_named x && nat_eq (mark (sign_at tokens aliases i)) 3) ≡ true) back h)

  -- A name by itself is one.
  pub is_lone : (aliases : Aliases) (m : ℕ) → nat_eq (mark (sign_at tokens aliases m)) 3 ≡ true
      → nat_eq (mark (sign_at tokens aliases (m + 1 - 1))) 3 ≡ true
  is_lone aliases m e =
      let back : m ≡ m + 1 - 1 = omega arith in subst (λ i. nat_eq (mark (sign_at tokens aliases i)) 3 ≡ true) back e
