-- The line of an event: the turn, the thread, the line and the column of the point, what was done there, and whether that was a violation.
use Rattle.std.specs.Prelude.{ℕ, Bool, true, false, List, [], ◌++◌, Option, Some, None, slice_get, codes}
use Rattle.std.specs.Fmt.{decimal, signed_decimal}
use Rattle.std.specs.Option.{option_map_or}
use Rattle.tsa_base.specs.Places.{line_at, column_at}
use Rattle.tsa_base.specs.declared.value.Value.{Value}
use Rattle.tsa_base.specs.declared.value.Value.TheVariants.{Int, Unsigned, Pointer}
use Rattle.tsa_base.specs.declared.token.Span.{Span}
use Rattle.tsa_tree.specs.units.Syntax.{UnitItem}
use Rattle.tsa_place_model.specs.Calls.{Layout, text_of}
use Rattle.tsa_core.specs.Programs.{program_of}
use Rattle.tsa_sched.specs.declared.event.Event.{Event}
use Rattle.tsa_sched.specs.declared.event.EventKind.{EventKind}
use Rattle.tsa_sched.specs.declared.event.EventKind.TheVariants.{Read, Write, Took, Waits, Tried, Gave, NotHeld, Environment}
use Rattle.tsa_sched.specs.declared.event.EventKind.TheVariants.{Called, Returned, Branched, Switched, Stepped, Trap, AlreadyEnded, AlreadyTrapped, NoThread}
use Rattle.tsa_sched.specs.declared.event.Mode.{Mode}
use Rattle.tsa_sched.specs.declared.event.Mode.TheVariants.{Exclusive, Shared}
use Rattle.tsa_sched.specs.declared.event.Site.{Site}
use Rattle.tsa_sched.specs.declared.event.TrapKind.{TrapKind}
use Rattle.tsa_sched.specs.declared.event.TrapKind.TheVariants.{Overflow, Division, NullPointer, OutOfRange, Depth}
use Rattle.tsa_trace.specs.FunctionTexts.{FunctionText, function_texts}

-- What lines are made of: the text of a unit, its functions and its places.
pub record Sources : Type 0 where
  pub bytes : List ℕ
  pub functions : List FunctionText
  pub layout : Layout

abbrev pub sources_with : (bytes : List ℕ) → List UnitItem → Layout → Sources
sources_with bytes items l = record { bytes = bytes; functions = function_texts items; layout = l }

-- those of a unit, whose numbers of functions and places are those of its core program
abbrev pub sources_of : (bytes : List ℕ) → List UnitItem → Sources
sources_of bytes items = sources_with bytes items (program_of items).layout

-- a function's name; one that isn't there has none
abbrev pub name_text : Sources → (function : ℕ) → List ℕ
name_text s n = option_map_or (λ f. f.name) (slice_get s.functions n) []

-- the byte at which a point of a function's body stands; 0 for one that isn't there
abbrev pub points_in : Sources → (function : ℕ) → List Span
points_in s n = option_map_or (λ f. f.points) (slice_get s.functions n) []

abbrev pub byte_in : List Span → (point : ℕ) → ℕ
byte_in points n = option_map_or (λ span. span.from) (slice_get points n) 0

abbrev pub point_byte : Sources → Site → ℕ
point_byte s site = byte_in (points_in s site.function) site.point

-- `L:C`
unfoldable pub point_text : Sources → Site → List ℕ
point_text s site = decimal (line_at s.bytes (point_byte s site)) ++ codes ":" ++ decimal (column_at s.bytes (point_byte s site))

abbrev pub place_text : Sources → (place : ℕ) → List ℕ
place_text s place = text_of s.layout place

-- a value of a cell: a number in decimal, or what a pointer points to
abbrev pub pointer_text : Sources → Option ℕ → List ℕ
pointer_text s None = codes "null"
pointer_text s (Some place) = codes "&" ++ place_text s place

abbrev pub value_text : Sources → Value → List ℕ
value_text s (Int z) = signed_decimal z
value_text s (Unsigned n) = decimal n
value_text s (Pointer place) = pointer_text s place

abbrev pub mode_text : Mode → List ℕ
mode_text Exclusive = codes "exclusive"
mode_text Shared = codes "shared"

abbrev pub took_text : Bool → List ℕ
took_text true = codes " took"
took_text false = codes " not"

abbrev pub way_text : Bool → List ℕ
way_text true = codes "true"
way_text false = codes "false"

abbrev pub trap_text : TrapKind → List ℕ
trap_text Overflow = codes "overflow"
trap_text Division = codes "division"
trap_text NullPointer = codes "null"
trap_text OutOfRange = codes "index"
trap_text Depth = codes "depth"

-- what the environment answered, where it gives something
abbrev pub answer_text : Sources → Option Value → List ℕ
answer_text s None = []
answer_text s (Some v) = codes " = " ++ value_text s v

-- what was done, row by row
unfoldable pub action_text : Sources → EventKind → List ℕ
action_text s (Read place value) = codes "read " ++ place_text s place ++ codes " = " ++ value_text s value
action_text s (Write place value) = codes "write " ++ place_text s place ++ codes " = " ++ value_text s value
action_text s (Took lock mode) = codes "lock " ++ place_text s lock ++ codes " " ++ mode_text mode
action_text s (Waits lock holder) = codes "waits " ++ place_text s lock ++ codes " t" ++ decimal holder
action_text s (Tried lock mode took) = codes "try " ++ place_text s lock ++ codes " " ++ mode_text mode ++ took_text took
action_text s (Gave lock mode) = codes "unlock " ++ place_text s lock ++ codes " " ++ mode_text mode
action_text s (NotHeld lock) = codes "unlock " ++ place_text s lock ++ codes " none"
action_text s (Environment callee answer) = codes "env " ++ name_text s callee ++ answer_text s answer
action_text s (Called callee) = codes "call " ++ name_text s callee
action_text s (Returned callee) = codes "return " ++ name_text s callee
action_text s (Branched taken) = codes "branch " ++ way_text taken
action_text s (Switched value) = codes "switch " ++ value_text s value
action_text s Stepped = codes "step"
action_text s (Trap kind) = codes "trap " ++ trap_text kind
action_text s AlreadyEnded = codes "ended"
action_text s AlreadyTrapped = codes "trapped"
action_text s NoThread = codes "unknown"

-- an event without a point has no place
abbrev pub site_text : Sources → Option Site → List ℕ
site_text s None = []
site_text s (Some site) = codes " " ++ point_text s site

abbrev pub violation_text : Bool → List ℕ
violation_text true = codes " !"
violation_text false = []

unfoldable pub turn_text : (turn thread : ℕ) → List ℕ
turn_text turn thread = decimal turn ++ codes " t" ++ decimal thread

-- `TURN tN L:C ACTION`, and behind it ` !` of a violation
unfoldable pub event_text : Sources → (turn : ℕ) → Event → List ℕ
event_text s turn e = turn_text turn e.thread ++ site_text s e.site ++ codes " " ++ action_text s e.kind ++ violation_text e.violation
