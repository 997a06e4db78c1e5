-- What reading by the rows gives for the pieces of an item.
use Rattle.std.specs.Prelude.{ℕ, ◌+◌, List, ◌++◌, Bool, true, false, Some, None, Ok}
use Rattle.std.specs.declared.option.Option.{Option}
use Rattle.tsa_base.specs.declared.token.Span.{Span}
use Rattle.tsa_base.specs.Tokens.{Lexeme}
use Rattle.tsa_tree.specs.attributes.Syntax.{Attribute}
use Rattle.tsa_tree.specs.declarations.Syntax.{Specified, Declarator, Parameter, EnumConstant, StructBody, Head, head_of, made_of}
use Rattle.tsa_tree.specs.units.Syntax.{UnitItem}
use Rattle.tsa_tree.specs.declarations.Spelling.{a_global}
use Rattle.tsa_tree.specs.expressions.Syntax.{Identifier}
use Rattle.tsa_tree.specs.declarations.ItemSpelling.{parameter, parameter_start}
use Rattle.tsa_tree.specs.Reads.{read}
use Rattle.tsa_tree.specs.Rows.{an_expression, a_skip, a_specifier, a_declared, a_struct_body, a_signature, some_items, Row, expression}
use Rattle.tsa_tree.specs.Rows.{storage, specifier, declared_rest, struct_body, signature, declared, a_name, an_open_brace, an_equals, sees}
use Rattle.tsa_tree.specs.Rows.{behind_global, structure_end, structure_alias_end, enumeration_end, enumeration_alias_end, behind_storage}
use Rattle.tsa_tree.specs.Rows.{function_end}
use Rattle.tsa_tree.specs.tokens.Signs.{Aliases, sign_at, identifier_at, is_storage}
use Rattle.tsa_grammar.specs.Form.{done, part}
use Rattle.tsa_grammar.specs.Reading.{Outcome, then, choose}
use Rattle.tsa_decl_declarators.specs.Outcomes.{after, going, name_at, tag_at, star_at}

-- a parameter of this type and these stars
abbrev pub parameter_with : Specified → (pointer pointer_const : Bool) → Option Identifier → Span → Parameter
parameter_with t p c name span = record { name = name; ctype = made_of t p c None; span = span }

module _ (tokens : List Lexeme) where
  -- what a form of items gives from a place on
  abbrev pub going_items : Row some_items → ℕ → Outcome (List UnitItem)
  going_items f m = going tokens some_items f m

module _ (tokens : List Lexeme) (aliases : Aliases) where
  -- any number of storage words
  unfoldable pub storage_at : (m : ℕ) → Outcome (Unit {0})
  storage_at m = choose (is_storage (sign_at tokens aliases m)) (read tokens a_skip (storage aliases) m) (Ok (tt, m))

  -- globals from after their first declarator on
  unfoldable pub globals_at : Specified → Declarator → (m : ℕ) → Outcome (List UnitItem)
  globals_at t c m = going_items tokens (part a_declared (declared_rest aliases a_global 0 t c) (λ x e. behind_global tokens aliases t x)) m

  -- an enumerator
  unfoldable pub constant_at : (m : ℕ) → Outcome EnumConstant
  constant_at m =
      then (name_at tokens aliases m) (λ name n. choose (sees tokens (an_equals aliases) n)
      (then (read tokens an_expression (expression aliases 1 0) (n + 1)) (λ x e. Ok (record { name = name; value = Some x }, e)))
      (Ok (record { name = name; value = None }, n)))

  -- a parameter whose type stands before n, with a star up to before e
  abbrev pub parameter_by : (m n : ℕ) → Specified → Bool × Bool × ℕ → Outcome Parameter
  parameter_by m n t star =
      choose (sees tokens (a_name aliases) star.2)
      (Ok (parameter tokens aliases t star.0 star.1 (Some (identifier_at tokens star.2)) n (star.2 + 1), star.2 + 1))
      (Ok (parameter tokens aliases t star.0 star.1 None (parameter_start tokens aliases star.0 m n) star.2, star.2))

  -- a parameter at a place
  unfoldable pub parameter_at : (m : ℕ) → Outcome Parameter
  parameter_at m = then (read tokens a_specifier (specifier aliases) m) (λ t n. parameter_by m n t (star_at tokens aliases n))

  -- a function's head after its declarator
  unfoldable pub head_end_at : Specified → Declarator → (m : ℕ) → Outcome Head
  head_end_at t c m = then (read tokens a_signature (signature aliases) m) (λ s n. Ok (head_of t c s, n))

  -- a struct's body, its attributes after those before the tag
  unfoldable pub body_at : List Attribute → (m : ℕ) → Outcome StructBody
  body_at front m =
      then (read tokens a_struct_body (struct_body aliases) m) (λ b n. Ok (record { members = b.members; attrs = front ++ b.attrs }, n))

  -- the name of an alias, or nothing
  unfoldable pub alias_name_at : Bool → (m : ℕ) → Outcome (Option Identifier)
  alias_name_at true m = then (name_at tokens aliases m) (λ name n. Ok (Some name, n))
  alias_name_at false m = Ok (None, m)

  -- a tag, or nothing before a brace
  unfoldable pub opening_at : (m : ℕ) → Outcome (Option Identifier)
  opening_at m = choose (sees tokens (an_open_brace aliases) m) (Ok (None, m)) (then (tag_at tokens aliases m) (λ tag n. Ok (Some tag, n)))

  -- a struct from its braces on
  unfoldable pub structure_at : (aliased : Bool) (start : ℕ) → List Attribute → Option Identifier → (m : ℕ) → Outcome (List UnitItem)
  structure_at true start front tag m = going_items tokens (structure_alias_end tokens aliases start front tag) m
  structure_at false start front tag m = going_items tokens (structure_end tokens aliases start front tag) m

  -- an enum from its braces on
  unfoldable pub enumeration_at : (aliased : Bool) (start : ℕ) → Option Identifier → (m : ℕ) → Outcome (List UnitItem)
  enumeration_at true start tag m = going_items tokens (enumeration_alias_end tokens aliases start tag) m
  enumeration_at false start tag m = going_items tokens (enumeration_end tokens aliases start tag) m

  -- globals or a function that begin with storage words or a type
  unfoldable pub other_item_at : (bodies : Bool) (m : ℕ) → Outcome (List UnitItem)
  other_item_at bodies m =
      going_items tokens
      (behind_storage tokens aliases m (part a_specifier (specifier aliases) (λ t n. part some_items (declared aliases bodies t) (λ xs e. done xs)))) m

  -- what is left of an item after what was begun: nothing, or what stands after a function's head
  abbrev pub finished : (bodies : Bool) → List UnitItem × Option Head → (m : ℕ) → Outcome (List UnitItem)
  finished bodies (xs, None) m = Ok (xs, m)
  finished bodies (xs, Some head) m = after xs (going_items tokens (function_end tokens aliases bodies head m) m)
