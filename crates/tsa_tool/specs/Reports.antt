-- What is written for the words and the input, and the status.
use Rattle.std.specs.Prelude.{◌≡◌, ℕ, Bool, true, false, ◌+◌, min, List, [], ◌∷◌, ◌++◌, length, Some, None, Ok, Err, codes, ◌==◌}
use Rattle.std.specs.Prelude.{if◌then◌else◌, nat_lt}
use Rattle.std.specs.declared.option.Option.{Option}
use Rattle.std.specs.declared.result.Result.{Result}
use Rattle.tsa_base.specs.declared.limits.TheConstants.{INPUT_LIMIT}
use Rattle.std.specs.Fmt.{decimal}
use Rattle.tsa_print.specs.UnitPieces.{canonical_unit}
use Rattle.tsa_tree.specs.units.Syntax.{UnitItem}
use Rattle.tsa_tool.specs.Checks.{fit_in, tree_in}
use Rattle.tsa_tool_held.specs.Held.{IsHeld}
use Rattle.tsa_tool_held.specs.WarningLines.{IsWarned, Warned}
use Rattle.tsa_base.specs.declared.token.LexCode.{LexCode}
use Rattle.tsa_base.specs.declared.token.LexCode.TheVariants.{LX1, LX2, LX3, LX4, LX5}
use Rattle.tsa_expr.specs.declared.refusal.SyntaxCode.{SyntaxCode}
use Rattle.tsa_expr.specs.declared.refusal.SyntaxCode.TheVariants.{SY1, AT1, AT2, LM2, LM3, LM5}
use Rattle.tsa_tree.specs.declared.premise.TypeCode.{TypeCode}
use Rattle.tsa_tree.specs.declared.premise.TypeCode.TheVariants.{TY1, TY2, TY3, TY4, TY5, TY6, TY7, TY8, TY9}
use Rattle.tsa_profile_accesses.specs.declared.premise.ProfileCode.{ProfileCode}
use Rattle.tsa_profile_accesses.specs.declared.premise.ProfileCode.TheVariants.{PF1, PF2, PF3, PF4, PF5, PF6, PF7, PF8, PF9, LM4, LM7}
use Rattle.tsa_base.specs.Places.{place_at, place_text}
use Rattle.tsa_tool.specs.declared.answer.Status.{Status}
use Rattle.tsa_tool.specs.declared.answer.Status.TheVariants.{Accepted, Printed, Shown, Warned as Warns, Refused, WordsRefused, LimitPassed}
use Rattle.tsa_tool.specs.declared.check.Refusal.{Refusal}
use Rattle.tsa_tool.specs.declared.check.Refusal.TheVariants.{Lex, Syntax, Types, Places, Profile}
use Rattle.tsa_tool.specs.declared.command.Command.{Command}
use Rattle.tsa_tool.specs.declared.command.Command.TheVariants.{Check, Print, Held}

pub record Report : Type 0 where
  pub status : Status
  pub text : List ℕ

-- the number of a status
abbrev pub status_number : Status → ℕ
status_number Accepted = 0
status_number Printed = 0
status_number Shown = 0
status_number Warns = 1
status_number Refused = 2
status_number WordsRefused = 3
status_number LimitPassed = 7

-- one line
abbrev pub line : List ℕ → List ℕ
line text = text ++ 10 ∷ []

abbrev pub words_refused : Report
words_refused = record { status = WordsRefused; text = line (codes "words refused") }

abbrev pub too_long : Report
too_long = record { status = LimitPassed; text = line (codes "LM1 over 1048576 bytes") }

-- what a code of a bad byte says
abbrev pub lex_text : LexCode → List ℕ
lex_text LX1 = codes "LX1 byte starts no token"
lex_text LX2 = codes "LX2 unfinished comment"
lex_text LX3 = codes "LX3 malformed or too wide number"
lex_text LX4 = codes "LX4 refused preprocessing line"
lex_text LX5 = codes "LX5 unfinished text"

-- what a code of a refused token or function says
abbrev pub syntax_text : SyntaxCode → List ℕ
syntax_text SY1 = codes "SY1 no unit is spelled this way"
syntax_text AT1 = codes "AT1 attribute is left out"
syntax_text AT2 = codes "AT2 attribute argument is missing"
syntax_text LM2 = codes "LM2 over 100 nested"
syntax_text LM3 = codes "LM3 over 4096 points in a function"
syntax_text LM5 = codes "LM5 over 1024 functions"

-- what a code of a premise of types says
abbrev pub type_text : TypeCode → List ℕ
type_text TY1 = codes "TY1 unknown name"
type_text TY2 = codes "TY2 declared twice"
type_text TY3 = codes "TY3 wrong type"
type_text TY4 = codes "TY4 wrong number of arguments"
type_text TY5 = codes "TY5 not assignable"
type_text TY6 = codes "TY6 attribute or lock expression out of place"
type_text TY7 = codes "TY7 jump or label without its target"
type_text TY8 = codes "TY8 wrong return"
type_text TY9 = codes "TY9 initialiser or constant refused"

-- what a code of a premise of the profile, or of a limit of a function, says
abbrev pub profile_text : ProfileCode → List ℕ
profile_text PF1 = codes "PF1 call stands in a refused place"
profile_text PF2 = codes "PF2 capability is no stable path"
profile_text PF3 = codes "PF3 address inside a guarded entity"
profile_text PF4 = codes "PF4 local of struct or array type"
profile_text PF5 = codes "PF5 try result is dropped"
profile_text PF6 = codes "PF6 function without a body has no allowed shape"
profile_text PF7 = codes "PF7 attribute does not fit the function's body"
profile_text PF8 = codes "PF8 try result compared with a constant other than 0 and 1"
profile_text PF9 = codes "PF9 capability named twice"
profile_text LM4 = codes "LM4 over 256 capabilities in a function"
profile_text LM7 = codes "LM7 over 48 try variables in a function"

-- a limit that is passed has a status of its own
abbrev pub syntax_status : SyntaxCode → Status
syntax_status SY1 = Refused
syntax_status AT1 = Refused
syntax_status AT2 = Refused
syntax_status LM2 = LimitPassed
syntax_status LM3 = LimitPassed
syntax_status LM5 = LimitPassed

abbrev pub profile_status : ProfileCode → Status
profile_status LM4 = LimitPassed
profile_status LM7 = LimitPassed
profile_status _ = Refused

-- the line and the status of a refusal of these bytes: `L:C: ` and the text, where it has a place
abbrev pub refused_report : List ℕ → Refusal → Report
refused_report bytes (Lex code byte) = record { status = Refused; text = line (place_text (place_at bytes byte) ++ lex_text code) }
refused_report bytes (Syntax code byte) = record { status = syntax_status code; text = line (place_text (place_at bytes byte) ++ syntax_text code) }
refused_report bytes (Types code byte) = record { status = Refused; text = line (place_text (place_at bytes byte) ++ type_text code) }
refused_report bytes (Places byte) = record { status = LimitPassed; text = line (place_text (place_at bytes byte) ++ codes "LM6 over 65536 places") }
refused_report bytes (Profile code byte) = record { status = profile_status code; text = line (place_text (place_at bytes byte) ++ profile_text code) }

abbrev pub accepted : Report
accepted = record { status = Accepted; text = line (codes "accepted") }

-- the lines of the warnings and their count, or that there are none
abbrev pub warned_report : Warned → Report
warned_report w = if w.count == 0 then accepted else record { status = Warns; text = w.text ++ (codes "warnings: " ++ decimal w.count ++ 10 ∷ []) }

-- What is reported of a unit, or its first refusal.
abbrev pub OfUnit : (bytes : List ℕ) → (List UnitItem → Report → Type 0) → Result (List UnitItem) Refusal → Report → Type 0
OfUnit bytes IsOf (Ok items) report = IsOf items report
OfUnit bytes IsOf (Err refusal) report = report ≡ refused_report bytes refusal

-- `check`: the lines of the unit's warnings
abbrev pub IsCheckOf : (bytes : List ℕ) → List UnitItem → Report → Type 0
IsCheckOf bytes items report = (w : Warned) × (IsWarned bytes items w × (report ≡ warned_report w))

-- `held`: the lines of its held sets
abbrev pub IsHeldOf : (bytes : List ℕ) → List UnitItem → Report → Type 0
IsHeldOf bytes items report = (text : List ℕ) × (IsHeld bytes items text × (report ≡ record { status = Shown; text = text }))

-- `print`: its canonical text
abbrev pub IsPrintOf : List UnitItem → Report → Type 0
IsPrintOf items report = report ≡ record { status = Printed; text = canonical_unit items }

-- what a command answers to an input that is short enough
abbrev pub IsAnswerTo : Command → (bytes : List ℕ) → Report → Type 0
IsAnswerTo Check bytes report = OfUnit bytes (IsCheckOf bytes) (fit_in bytes) report
IsAnswerTo Print bytes report = OfUnit bytes IsPrintOf (tree_in bytes) report
IsAnswerTo Held bytes report = OfUnit bytes (IsHeldOf bytes) (fit_in bytes) report

-- and to any input
abbrev pub IsReportBy : (is_too_long : Bool) → Command → (bytes : List ℕ) → Report → Type 0
IsReportBy true command bytes report = report ≡ too_long
IsReportBy false command bytes report = IsAnswerTo command bytes report

abbrev pub IsReport : Option Command → (bytes : List ℕ) → Report → Type 0
IsReport None bytes report = report ≡ words_refused
IsReport (Some command) bytes report = IsReportBy (nat_lt INPUT_LIMIT (length bytes)) command bytes report

-- There is one report at most for each command and input.
abbrev pub OneReportIsRight : Type 0
OneReportIsRight = (command : Option Command) (bytes : List ℕ) (a b : Report) → IsReport command bytes a → IsReport command bytes b → a ≡ b

-- how many bytes of an input a command reads
abbrev pub input_read : Option Command → List ℕ → ℕ
input_read None bytes = 0
input_read (Some command) bytes = min (length bytes) (INPUT_LIMIT + 1)

-- the command reads its input
abbrev pub Reads : Option Command → Type 0
Reads None = ⊥
Reads (Some command) = Unit {0}
