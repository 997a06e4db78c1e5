-- What terms are lowered from, and what is put for a part of it.
use Rattle.std.specs.Prelude.{◌≡◌, ℕ, ◌+◌, ◌<◌, Bool, List, [], ◌∷◌, length, drop, Option, Some, None, slice_get}
use Rattle.tsa_tree.specs.declared.kind.Kind.TheVariants as type
use Rattle.tsa_tree.specs.declared.kind.ThingType.{ThingType}
use Rattle.tsa_tree.specs.types.Scopes.{FunctionEntry}
use Rattle.tsa_types_row.specs.declared.node.Node.{Node}
use Rattle.tsa_place_model.specs.Calls.{Layout}
use Rattle.tsa_core.specs.Meanings.{Call, loaded}
use Rattle.tsa_core.specs.Terms.{Sense}
use Rattle.tsa_core_rows.specs.Reading.{Part, nothing_read, part_at, args_read, behind_parts, read_before}
use Rattle.tsa_lower_code.specs.Codes.{place_code, value_code}
use Rattle.tsa_lower_code.specs.declared.instr.Instr.{Instr}
use Rattle.tsa_lower_terms.specs.Heads.{head_term, head_call, taken}
use Rattle.tsa_lower_terms.specs.declared.calls.FoundCall.{FoundCall}
use Rattle.tsa_lower_terms.specs.declared.find.Spot.{Spot}

-- the row of a unit, its functions by their numbers, its places, and whether the call of the point is answered
pub record Source : Type 0 where
  pub row : List Node
  pub functions : List FunctionEntry
  pub layout : Layout
  pub is_answered : Bool

-- the parameters of a function by its number; none of one that isn't declared
abbrev pub params_of : Option FunctionEntry → List ThingType
params_of None = []
params_of (Some f) = f.params

abbrev pub params_by : List FunctionEntry → ℕ → List ThingType
params_by functions n = params_of (slice_get functions n)

-- the parts of a row: no kind of a result makes a difference to them
abbrev pub parts_in : List FunctionEntry → List Node → List Part
parts_in functions row = (read_before (params_by functions) type.Void row nothing_read).parts

-- the parts of a source from a node on, and what the first of them means
abbrev pub parts_at : Source → ℕ → List Part
parts_at s at = parts_in s.functions (drop at s.row)

abbrev pub sense_at : Source → ℕ → Sense
sense_at s at = (part_at 0 (parts_at s at)).sense

-- the call in the first part, and a call that was found, whose arguments begin at a node
abbrev pub call_in_part : Source → ℕ → Option Call
call_in_part s at = (part_at 0 (parts_at s at)).call

abbrev pub call_read : Source → FoundCall → Call
call_read s c = record { function = c.function; args = args_read (params_by s.functions c.function) c.args (parts_at s c.at) }

-- the code of its value, and of its place
abbrev pub value_at : Source → (at : ℕ) → (slot : ℕ) → List Instr
value_at s at k = value_code s.layout s.is_answered (loaded (sense_at s at)) k

abbrev pub place_at : Source → (at : ℕ) → (slot : ℕ) → List Instr
place_at s at k = place_code s.layout s.is_answered (sense_at s at).term k

-- a spot stands in a source: its head, its type and its call are those of the first part there
pub record Stands (s : Source) (spot : Spot) : Type 0 where
  pub inside : spot.at < length s.row
  pub behind : spot.behind ≡ spot.at + 1
  pub there : parts_at s spot.at ≡ part_at 0 (parts_at s spot.at) ∷ behind_parts 1 (parts_at s spot.at)
  pub term : (sense_at s spot.at).term ≡ head_term spot.head (parts_at s spot.behind)
  pub thing : (sense_at s spot.at).type ≡ spot.thing
  pub call : (part_at 0 (parts_at s spot.at)).call ≡ head_call (params_by s.functions) spot.head (parts_at s spot.behind)
  pub rest : behind_parts 1 (parts_at s spot.at) ≡ behind_parts (taken spot.head) (parts_at s spot.behind)
