-- What `check` answers to a text says of its unit.
use Rattle.std.specs.Prelude.{◌≡◌, ◌≤◌, ℕ, List, length, Some, None, Ok, Err}
use Rattle.tsa_base.specs.declared.limits.TheConstants.{INPUT_LIMIT}
use Rattle.tsa_base.specs.declared.token.Span.{Span}
use Rattle.tsa_base.specs.Tokens.{BadByte, Lexeme, tokens_of}
use Rattle.tsa_expr.specs.declared.refusal.SyntaxCode.{SyntaxCode}
use Rattle.tsa_expr.specs.declared.refusal.SyntaxRefusal.TheVariants.{At, Function, NoMemory}
use Rattle.tsa_tree.specs.declared.premise.Failure.{Failure}
use Rattle.tsa_tree.specs.types.FirstFailing.{first_failing}
use Rattle.tsa_tree.specs.units.Syntax.{UnitItem}
use Rattle.tsa_place_model.specs.Calls.{Layout}
use Rattle.tsa_place_model.specs.Units.{placed_in}
use Rattle.tsa_profile_accesses.specs.declared.premise.Failure.{Failure as Misfit}
use Rattle.tsa_profile_context.specs.Units.{refusal_of_profile}
use Rattle.tsa_unit.specs.Parsing.{unit_of}
use Rattle.tsa_core.specs.Programs.{program_of}
use Rattle.tsa_rules.specs.Warnings.{HasNoWarnings}
use Rattle.tsa_mean.specs.Sound.{Sound}
use Rattle.tsa_tool.specs.Checks.{byte_of, fit_in}
use Rattle.tsa_tool.specs.declared.answer.Status.TheVariants.{Accepted}
use Rattle.tsa_tool.specs.declared.check.Refusal.TheVariants.{Lex, Syntax, Types, Places, Profile}
use Rattle.tsa_tool.specs.declared.command.Command.TheVariants.{Check}
use Rattle.tsa_tool.specs.Reports.{IsReport, Report, accepted}

-- The tokens of a text spell a unit of right types, with no more places than it may have, that is in the profile.
pub record IsFit (text : List ℕ) (items : List UnitItem) : Type 0 where
  pub tokens : List Lexeme
  pub layout : Layout
  pub lexed : tokens_of text ≡ Ok tokens
  pub parsed : unit_of tokens ≡ Ok items
  pub typed : first_failing items ≡ None
  pub placed : placed_in items ≡ Ok layout
  pub profiled : refusal_of_profile items ≡ None

-- It is, and no rule fails at any point of any function for any path.
pub record IsAccepted (text : List ℕ) : Type 0 where
  pub items : List UnitItem
  pub fit : IsFit text items
  pub quiet : HasNoWarnings (program_of items)

-- A text that `check` answers by `accepted` is such a unit.
abbrev pub AcceptedUnitsBreakNoRule : Type 0
AcceptedUnitsBreakNoRule = (text : List ℕ) (report : Report) → IsReport (Some Check) text report → report.status ≡ Accepted → IsAccepted text

-- And such a unit is answered by `accepted`, where its text is no longer than an input may be.
abbrev pub UnitsThatBreakNoRuleAreAccepted : Type 0
UnitsThatBreakNoRuleAreAccepted = (text : List ℕ) (report : Report) → length text ≤ INPUT_LIMIT → IsAccepted text → IsReport (Some Check) text report → report ≡ accepted

-- A text spells a unit that is fit, and sound: from any start, whoever takes the turns, no event breaks what guards and attributes say, and
-- no two threads race.
pub record SpellsSoundUnit (text : List ℕ) : Type 0 where
  pub items : List UnitItem
  pub fit : IsFit text items
  pub sound : Sound items

-- A text that `check` answers by `accepted` spells such a unit.
abbrev pub AcceptedUnitsAreSound : Type 0
AcceptedUnitsAreSound = (text : List ℕ) (report : Report) → IsReport (Some Check) text report → report.status ≡ Accepted → SpellsSoundUnit text

-- Such a unit is judged, and another text is refused by what fails first: a byte, a token or a function, a node by its types, a declarator
-- with too many places, or a node by the profile.
pub record TextsAreRefusedByWhatFailsFirst : Type 0 where
  pub fit : (text : List ℕ) (items : List UnitItem) → IsFit text items → fit_in text ≡ Ok items
  pub bad : (text : List ℕ) (byte : BadByte) → tokens_of text ≡ Err byte → fit_in text ≡ Err (Lex byte.code byte.byte)
  pub at_token : (text : List ℕ) (tokens : List Lexeme) (code : SyntaxCode) (token : ℕ) → tokens_of text ≡ Ok tokens → unit_of tokens ≡ Err (At code token)
      → fit_in text ≡ Err (Syntax code (byte_of text tokens token))
  pub at_function : (text : List ℕ) (tokens : List Lexeme) (code : SyntaxCode) (span : Span) → tokens_of text ≡ Ok tokens → unit_of tokens ≡ Err (Function code span)
      → fit_in text ≡ Err (Syntax code span.from)
  pub memory : (tokens : List Lexeme) → unit_of tokens ≡ Err NoMemory → ⊥
  pub at_node : (text : List ℕ) (tokens : List Lexeme) (items : List UnitItem) (failure : Failure) → tokens_of text ≡ Ok tokens → unit_of tokens ≡ Ok items
      → first_failing items ≡ Some failure → fit_in text ≡ Err (Types failure.code failure.span.from)
  pub at_declarator : (text : List ℕ) (tokens : List Lexeme) (items : List UnitItem) (span : Span) → tokens_of text ≡ Ok tokens → unit_of tokens ≡ Ok items
      → first_failing items ≡ None → placed_in items ≡ Err span → fit_in text ≡ Err (Places span.from)
  pub at_premise : (text : List ℕ) (tokens : List Lexeme) (items : List UnitItem) (l : Layout) (misfit : Misfit) → tokens_of text ≡ Ok tokens
      → unit_of tokens ≡ Ok items → first_failing items ≡ None → placed_in items ≡ Ok l → refusal_of_profile items ≡ Some misfit
      → fit_in text ≡ Err (Profile misfit.code misfit.span.from)
