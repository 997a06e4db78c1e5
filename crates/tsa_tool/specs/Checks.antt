-- The unit of an input, or the first refusal.
use Rattle.std.specs.Prelude.{ℕ, List, Ok, Err, Some, None, length, slice_get}
use Rattle.std.specs.declared.option.Option.{Option}
use Rattle.std.specs.declared.result.Result.{Result}
use Rattle.std.specs.Option.{option_map_or}
use Rattle.tsa_base.specs.Tokens.{BadByte, Lexeme, tokens_of}
use Rattle.tsa_tree.specs.units.Syntax.{UnitItem}
use Rattle.tsa_expr.specs.declared.refusal.SyntaxCode.TheVariants.{SY1}
use Rattle.tsa_expr.specs.declared.refusal.SyntaxRefusal.{SyntaxRefusal}
use Rattle.tsa_expr.specs.declared.refusal.SyntaxRefusal.TheVariants.{At, Function, NoMemory}
use Rattle.tsa_unit.specs.Parsing.{unit_of}
use Rattle.tsa_tree.specs.declared.premise.Failure.{Failure}
use Rattle.tsa_tree.specs.types.FirstFailing.{first_failing}
use Rattle.tsa_base.specs.declared.token.Span.{Span}
use Rattle.tsa_place_model.specs.Calls.{Layout}
use Rattle.tsa_place_model.specs.Units.{placed_in}
use Rattle.tsa_profile_accesses.specs.declared.premise.Failure.{Failure as Misfit}
use Rattle.tsa_profile_context.specs.Units.{refusal_of_profile}
use Rattle.tsa_tool.specs.declared.check.Refusal.{Refusal}
use Rattle.tsa_tool.specs.declared.check.Refusal.TheVariants.{Lex, Syntax, Types, Places, Profile}

infixl 10 ◌>>=◌
abbrev pub ◌>>=◌ : {A B : Type 0} → Result A Refusal → (A → Result B Refusal) → Result B Refusal
Ok x >>= f = f x
Err r >>= f = Err r

-- the tokens, or the refusal of the first bad byte
abbrev pub lexed : Result (List Lexeme) BadByte → Result (List Lexeme) Refusal
lexed (Ok tokens) = Ok tokens
lexed (Err bad) = Err (Lex bad.code bad.byte)

-- the byte with which a token begins; after the last token it is the end of the input
abbrev pub byte_of : List ℕ → List Lexeme → ℕ → ℕ
byte_of bytes tokens number = option_map_or (λ token. token.span.from) (slice_get tokens number) (length bytes)

-- a refusal of syntax with its place; that of memory comes from no list of tokens
abbrev pub refusal_of : List ℕ → List Lexeme → SyntaxRefusal → Refusal
refusal_of bytes tokens (At code token) = Syntax code (byte_of bytes tokens token)
refusal_of bytes tokens (Function code span) = Syntax code span.from
refusal_of bytes tokens NoMemory = Syntax SY1 0

-- the unit of tokens, or the first refusal of its syntax
abbrev pub placed : List ℕ → List Lexeme → Result (List UnitItem) SyntaxRefusal → Result (List UnitItem) Refusal
placed bytes tokens (Ok tree) = Ok tree
placed bytes tokens (Err refusal) = Err (refusal_of bytes tokens refusal)

-- the unit of an input, or the first refusal of its tokens, its syntax and the limits of syntax
unfoldable pub tree_in : List ℕ → Result (List UnitItem) Refusal
tree_in bytes = do
  tokens ← lexed (tokens_of bytes)
  tree ← placed bytes tokens (unit_of tokens)
  Ok tree

-- a unit, or the first premise of types that fails in it
abbrev pub or_failing : List UnitItem → Option Failure → Result (List UnitItem) Refusal
or_failing tree None = Ok tree
or_failing tree (Some failure) = Err (Types failure.code failure.span.from)

-- the unit of an input whose types are right, or the first refusal up to its types
unfoldable pub typed_in : List ℕ → Result (List UnitItem) Refusal
typed_in bytes = do
  tree ← tree_in bytes
  typed ← or_failing tree (first_failing tree)
  Ok typed

-- a unit, or the declarator at which there are too many places
abbrev pub or_too_many : List UnitItem → Result Layout Span → Result (List UnitItem) Refusal
or_too_many tree (Ok l) = Ok tree
or_too_many tree (Err span) = Err (Places span.from)

-- the unit of an input that has no more places than it may, or the first refusal up to that limit
unfoldable pub sized_in : List ℕ → Result (List UnitItem) Refusal
sized_in bytes = do
  tree ← typed_in bytes
  sized ← or_too_many tree (placed_in tree)
  Ok sized

-- a unit, or the first premise of the profile that fails in it
abbrev pub or_misfit : List UnitItem → Option Misfit → Result (List UnitItem) Refusal
or_misfit tree None = Ok tree
or_misfit tree (Some misfit) = Err (Profile misfit.code misfit.span.from)

-- the unit of an input that is in the profile, or the first refusal up to that
unfoldable pub fit_in : List ℕ → Result (List UnitItem) Refusal
fit_in bytes = do
  tree ← sized_in bytes
  fit ← or_misfit tree (refusal_of_profile tree)
  Ok fit
