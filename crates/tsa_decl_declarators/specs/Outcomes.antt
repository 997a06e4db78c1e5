-- What reading by the rows gives for the pieces of a local, and of what declarations are made of.
use Rattle.std.specs.Prelude.{ℕ, ◌+◌, List, [], ◌∷◌, ◌++◌, Bool, true, false, Some, None, Ok, Err}
use Rattle.std.specs.declared.option.Option.{Option}
use Rattle.tsa_base.specs.Tokens.{Lexeme}
use Rattle.tsa_tree.specs.declared.sign.Keyword.TheVariants as key
use Rattle.tsa_tree.specs.declared.sign.Sign.{Sign}
use Rattle.tsa_tree.specs.declared.sign.Sign.TheVariants as sign
use Rattle.tsa_tree.specs.expressions.Answers.{below_limit}
use Rattle.tsa_tree.specs.attributes.Syntax.{Attribute}
use Rattle.tsa_tree.specs.attributes.Answers.{read_any}
use Rattle.tsa_tree.specs.declarations.Syntax.{Base, int, unsigned, void, structure, enumerated, alias, Specified, Declaration, Initialiser}
use Rattle.tsa_tree.specs.declarations.Syntax.{value, Initialisers, no_more, one_more}
use Rattle.tsa_tree.specs.declarations.Spelling.{Role, a_member, a_global}
use Rattle.tsa_tree.specs.expressions.Syntax.{Identifier, Expression}
use Rattle.tsa_tree.specs.Reads.{read}
use Rattle.tsa_tree.specs.Rows.{Sort, an_expression, a_skip, an_initialiser, some_initialisers, a_variable, some_variables, Node, Row, Kind}
use Rattle.tsa_tree.specs.Rows.{expression, consts, initialiser, initialisers, variable, variables, a_keyword, a_name, an_open, a_comma}
use Rattle.tsa_tree.specs.Rows.{a_semicolon, an_open_bracket, a_close_bracket, an_open_brace, a_close_brace, an_equals, sees}
use Rattle.tsa_tree.specs.tokens.Signs.{Aliases, sign_at, identifier_at, is_tag, is_star}
use Rattle.tsa_grammar.specs.Reading.{Outcome, refuse, syntax, deep, then, choose, follow}

-- a list after what was there before
abbrev pub after : {A : Type 0} → List A → Outcome (List A) → Outcome (List A)
after front read = then read (λ xs at. Ok (front ++ xs, at))

-- two lists of initialisers, one after the other
abbrev pub joined : Initialisers → Initialisers → Initialisers
joined no_more others = others
joined (one_more first rest) others = one_more first (joined rest others)

-- initialisers after those that were there before
abbrev pub values_after : Initialisers → Outcome Initialisers → Outcome Initialisers
values_after front read = then read (λ xs at. Ok (joined front xs, at))

module _ (tokens : List Lexeme) where
  -- what a form gives from a place on
  abbrev pub going : (s : Sort) → Row s → ℕ → Outcome (Node s)
  going s f m = follow (sees tokens) below_limit (read tokens) s f m

  -- one token of a kind
  unfoldable pub one_token : Kind → (at : ℕ) → Outcome (Unit {0})
  one_token k at = choose (sees tokens k at) (Ok (tt, at + 1)) (Err (refuse syntax at))

module _ (tokens : List Lexeme) (aliases : Aliases) where
  -- a parenthesis that opens a construct, where d are open
  unfoldable pub opening : (d at : ℕ) → Outcome (Unit {0})
  opening d at =
      choose (sees tokens (an_open aliases) at) (choose (below_limit d) (Ok (tt, at + 1)) (Err (refuse deep at))) (Err (refuse syntax at))

  -- a brace that opens a construct, where d are open
  unfoldable pub opening_brace : (d at : ℕ) → Outcome (Unit {0})
  opening_brace d at =
      choose (sees tokens (an_open_brace aliases) at) (choose (below_limit d) (Ok (tt, at + 1)) (Err (refuse deep at))) (Err (refuse syntax at))

  -- a name at a place
  unfoldable pub name_at : (at : ℕ) → Outcome Identifier
  name_at at = choose (sees tokens (a_name aliases) at) (Ok (identifier_at tokens at, at + 1)) (Err (refuse syntax at))

  -- a tag at a place: a name or the name of a type
  unfoldable pub tag_at : (at : ℕ) → Outcome Identifier
  tag_at at = choose (is_tag (sign_at tokens aliases at)) (Ok (identifier_at tokens at, at + 1)) (Err (refuse syntax at))

  -- any number of `const`
  unfoldable pub consts_at : (m : ℕ) → Outcome (Unit {0})
  consts_at m = choose (sees tokens (a_keyword aliases key.Const) m) (read tokens a_skip (consts aliases) m) (Ok (tt, m))

  -- the place after an `int` that may stand at one
  abbrev pub behind_int : (m : ℕ) → ℕ
  behind_int m = choose (sees tokens (a_keyword aliases key.Int) m) (m + 1) m

  -- a base by its first sign
  abbrev pub base_by : (m : ℕ) → Sign → Outcome Base
  base_by m (sign.Keyword key.Int) = Ok (int, m + 1)
  base_by m (sign.Keyword key.Unsigned) = Ok (unsigned, behind_int (m + 1))
  base_by m (sign.Keyword key.Signed) = Ok (int, behind_int (m + 1))
  base_by m (sign.Keyword key.Void) = Ok (void, m + 1)
  base_by m (sign.Keyword key.Struct) = then (tag_at (m + 1)) (λ tag n. Ok (structure tag, n))
  base_by m (sign.Keyword key.Enum) = then (tag_at (m + 1)) (λ tag n. Ok (enumerated tag, n))
  base_by m sign.TypeName = Ok (alias (identifier_at tokens m), m + 1)
  base_by m _ = Err (refuse syntax m)

  -- a base at a place
  unfoldable pub base_at : (m : ℕ) → Outcome Base
  base_at m = base_by m (sign_at tokens aliases m)

  -- a type whose base ends before m
  unfoldable pub specified_at : Base → (m : ℕ) → Outcome Specified
  specified_at base m = then (consts_at m) (λ u n. Ok (record { base = base; is_const = sees tokens (a_keyword aliases key.Const) m }, n))

  -- whether a star stands there, whether `const` stands after it, and the place after both
  unfoldable pub star_at : (m : ℕ) → Bool × Bool × ℕ
  star_at m =
      choose (is_star (sign_at tokens aliases m))
      (choose (sees tokens (a_keyword aliases key.Const) (m + 1)) (true, true, m + 1 + 1) (true, false, m + 1))
      (false, false, m)

  -- the length of an array, or nothing
  unfoldable pub length_at : (d m : ℕ) → Outcome (Option Expression)
  length_at d m =
      choose (sees tokens (an_open_bracket aliases) m)
      (choose (below_limit d) (then (read tokens an_expression (expression aliases (d + 1) 0) (m + 1)) (λ x n.
      choose (sees tokens (a_close_bracket aliases) n) (Ok (Some x, n + 1)) (Err (refuse syntax n)))) (Err (refuse deep m)))
      (Ok (None, m))

  -- initialisers of a list, and the brace that closes them
  unfoldable pub braced_at : (d m : ℕ) → Outcome Initialisers
  braced_at d m =
      choose (sees tokens (a_close_brace aliases) m) (Ok (no_more, m + 1)) (read tokens some_initialisers (initialisers aliases d) m)

  -- an expression that initialises
  unfoldable pub expression_at : (d m : ℕ) → Outcome Initialiser
  expression_at d m = then (read tokens an_expression (expression aliases d 0) m) (λ x n. Ok (value x, n))

  -- what initialises a declarator
  unfoldable pub init_at : Role → (d m : ℕ) → Outcome (Option Initialiser)
  init_at a_member d m = Ok (None, m)
  init_at a_global d m =
      choose (sees tokens (an_equals aliases) m)
      (then (read tokens an_initialiser (initialiser aliases d) (m + 1)) (λ x n. Ok (Some x, n))) (Ok (None, m))

  -- a comma or a `;`: whether it is the comma
  unfoldable pub delimiter_at : (m : ℕ) → Outcome Bool
  delimiter_at m =
      choose (sees tokens (a_comma aliases) m) (Ok (true, m + 1))
      (choose (sees tokens (a_semicolon aliases) m) (Ok (false, m + 1)) (Err (refuse syntax m)))

  -- what follows the name of a declarator, up to before its comma or `;`
  unfoldable pub suffix_at : Role → (d m : ℕ) → Outcome (Option Expression × List Attribute × Option Initialiser)
  suffix_at r d m =
      then (length_at d m) (λ l n. then (read_any tokens aliases d n) (λ xs e. then (init_at r d e) (λ i f. Ok ((l, xs, i), f))))

  -- the expression that initialises a local
  unfoldable pub value_at : (d m : ℕ) → Outcome (Option Initialiser)
  value_at d m =
      choose (sees tokens (an_equals aliases) m)
      (then (expression_at d (m + 1)) (λ x n. Ok (Some x, n))) (Ok (None, m))

  -- locals after their type
  unfoldable pub variables_at : (single : Bool) (d : ℕ) → Specified → (m : ℕ) → Outcome (List Declaration)
  variables_at false d t m = then (read tokens some_variables (variables aliases d t) m) (λ xs n. Ok (xs.0 ∷ xs.1, n))
  variables_at true d t m = then (read tokens a_variable (variable aliases d t) m) (λ x n. Ok (x ∷ [], n))
