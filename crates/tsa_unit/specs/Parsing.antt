-- What the reader of a whole unit answers.
use Rattle.std.specs.Prelude.{ℕ, ◌≡◌, List, Some, None, Ok, Err, length, nat_eq, if◌then◌else◌}
use Rattle.std.specs.declared.option.Option.{Option}
use Rattle.std.specs.declared.result.Result.{Result}
use Rattle.tsa_base.specs.declared.token.Span.{Span}
use Rattle.tsa_base.specs.Tokens.{Lexeme}
use Rattle.tsa_tree.specs.attributes.Refusals.{left_out}
use Rattle.tsa_tree.specs.declared.parsed.Parsed.{Parsed}
use Rattle.tsa_tree.specs.expressions.Syntax.{Identifier}
use Rattle.tsa_tree.specs.units.Answers.{Spelled, Begun, Refused, read_unit}
use Rattle.tsa_tree.specs.units.Syntax.{UnitItem}
use Rattle.tsa_tree.specs.units.Limits.{past_functions, past_points}
use Rattle.tsa_tree.specs.units.Shapes.{item_shapes}
use Rattle.tsa_tree.specs.Verdicts as verdicts
use Rattle.tsa_expr.specs.declared.refusal.SyntaxCode.{SyntaxCode}
use Rattle.tsa_expr.specs.declared.refusal.SyntaxCode.TheVariants.{SY1, AT1, AT2, LM2, LM3, LM5}
use Rattle.tsa_expr.specs.declared.refusal.SyntaxRefusal.{SyntaxRefusal}
use Rattle.tsa_expr.specs.declared.refusal.SyntaxRefusal.TheVariants.{At, Function, NoMemory}
use Rattle.tsa_expr.specs.Gives.{Fails}
use Rattle.tsa_grammar.specs.Reading.{Code, syntax, deep, barred, Outcome}

-- the code of a refused token
abbrev pub code_of : Code → SyntaxCode
code_of syntax = SY1
code_of deep = LM2
code_of (barred q) = if nat_eq q left_out then AT1 else AT2

-- the first function, if any, of more points than there may be
abbrev pub within_points : List UnitItem → Option Identifier → Result (List UnitItem) SyntaxRefusal
within_points xs None = Ok xs
within_points xs (Some name) = Err (Function LM3 name.span)

-- too many functions are told before too many points
abbrev pub within_limits : List UnitItem → Option Identifier → Result (List UnitItem) SyntaxRefusal
within_limits xs None = within_points xs (past_points xs)
within_limits xs (Some name) = Err (Function LM5 name.span)

abbrev pub parsed_of : Outcome (List UnitItem) → Result (List UnitItem) SyntaxRefusal
parsed_of (Ok found) = within_limits found.0 (past_functions found.0)
parsed_of (Err refusal) = Err (At (code_of refusal.code) refusal.token)

-- a unit, or the first refusal: of tokens, then of the number of functions, then of their points
unfoldable pub unit_of : List Lexeme → Result (List UnitItem) SyntaxRefusal
unit_of tokens = parsed_of (read_unit tokens)

-- what was answered is that, but want of memory may always come
abbrev pub IsParsed : Result Parsed SyntaxRefusal → List Lexeme → Type 0
IsParsed (Ok parsed) tokens = unit_of tokens ≡ Ok (item_shapes parsed.unit.now.items.now)
IsParsed (Err NoMemory) tokens = Unit {0}
IsParsed (Err refusal) tokens = unit_of tokens ≡ Err refusal

-- Verdicts on a whole unit, as they are for its parts. P is the longest list of first tokens that begins a unit.
module _ (tokens : List Lexeme) where
  -- P is all the tokens, before e, and they spell the items; no limit is passed in it and no token is refused
  abbrev pub IsLongest : List UnitItem → (e : ℕ) → Type 0
  IsLongest xs e = verdicts.IsLongest (Spelled tokens) (Begun tokens) (Refused tokens) xs e

  -- P ends before the token at i and is no unit; no limit is passed in it and no token is refused
  abbrev pub IsBroken : (i : ℕ) → Type 0
  IsBroken i = verdicts.IsBroken (Spelled tokens) (Begun tokens) (Refused tokens) i

  -- the token at i is the first that is refused, for the reason q, and no limit is passed before it
  abbrev pub IsRefused : (q i : ℕ) → Type 0
  IsRefused q i = verdicts.IsRefused (Spelled tokens) (Begun tokens) (Refused tokens) q i

  -- the token at i is the first of P at which a limit is passed, and none up to there is refused
  abbrev pub IsTooDeep : (i : ℕ) → Type 0
  IsTooDeep i = verdicts.IsTooDeep (Spelled tokens) (Begun tokens) (Refused tokens) i

  -- The tokens spell a unit of too many functions, each prototype and each body counted. The name of the first that is one
  -- too many stands here.
  pub record HasTooManyFunctions (span : Span) : Type 0 where
    pub items : List UnitItem
    pub spelled : IsLongest items (length tokens)
    pub name : Identifier
    pub past : past_functions items ≡ Some name
    pub stands : name.span ≡ span

  -- The tokens spell a unit of no more functions than there may be, and a body in it has too many points, its end included.
  -- The name of the first function with such a body stands here.
  pub record HasTooManyPoints (span : Span) : Type 0 where
    pub items : List UnitItem
    pub spelled : IsLongest items (length tokens)
    pub few : past_functions items ≡ None
    pub name : Identifier
    pub past : past_points items ≡ Some name
    pub stands : name.span ≡ span

-- A unit is refused at a token, with SY1, AT1, AT2 or LM2, or at a function, with LM5 or LM3, or for want of memory.
abbrev pub IsOfUnits : SyntaxRefusal → Type 0
IsOfUnits (At SY1 token) = Unit {0}
IsOfUnits (At AT1 token) = Unit {0}
IsOfUnits (At AT2 token) = Unit {0}
IsOfUnits (At LM2 token) = Unit {0}
IsOfUnits (Function LM3 span) = Unit {0}
IsOfUnits (Function LM5 span) = Unit {0}
IsOfUnits NoMemory = Unit {0}
IsOfUnits _ = ⊥

-- no limit of a unit is passed, or this is the refusal
abbrev pub IsWithin : Result (Unit {0}) SyntaxRefusal → List UnitItem → Type 0
IsWithin (Ok u) xs = (past_functions xs ≡ None) × (past_points xs ≡ None)
IsWithin (Err refusal) xs = within_limits xs (past_functions xs) ≡ Err refusal

-- What was answered is what reading gives, where no limit of a unit is passed. Want of memory may always come.
abbrev pub IsTold : {X : Type 0} → (X → List UnitItem) → Result X SyntaxRefusal → List Lexeme → Type 0
IsTold view (Ok x) tokens =
    (read_unit tokens ≡ Ok (view x, length tokens)) × (past_functions (view x) ≡ None) × (past_points (view x) ≡ None)
IsTold view (Err (Function code span)) tokens =
    (xs : List UnitItem) × (read_unit tokens ≡ Ok (xs, length tokens)) × (within_limits xs (past_functions xs) ≡ Err (Function code span))
IsTold view (Err refusal) tokens = Fails refusal (read_unit tokens)
