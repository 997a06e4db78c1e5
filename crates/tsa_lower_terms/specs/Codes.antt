-- The code of terms by their heads, of the parts that stand behind them.
use Rattle.std.specs.Prelude.{ℕ, ◌+◌, Bool, true, false, ◌&&◌, List, [], ◌∷◌, ◌++◌, if◌then◌else◌}
use Rattle.tsa_tree.specs.declared.expr.BinaryOp.{BinaryOp}
use Rattle.tsa_tree.specs.declared.expr.BinaryOp.TheVariants as op
use Rattle.tsa_tree.specs.declared.kind.Kind.{Kind}
use Rattle.tsa_tree.specs.declared.kind.Kind.TheVariants as type
use Rattle.tsa_tree.specs.types.Operands.{integer_kind, pointer_kind, unsigned_kind}
use Rattle.tsa_core.specs.Meanings.{as_kind, base_of, beside, is_int, loaded, operands}
use Rattle.tsa_core.specs.Terms.{Sense}
use Rattle.tsa_core_rows.specs.Reading.{Part, part_at}
use Rattle.tsa_lower_code.specs.Codes.{early_code, late_code, no_place, place_code, value_code}
use Rattle.tsa_lower_code.specs.declared.instr.Instr.{Instr}
use Rattle.tsa_lower_code.specs.declared.instr.Instr.TheVariants.{Convert, Element, Load}
use Rattle.tsa_lower_terms.specs.Sources.{Source, sense_at}

abbrev pub is_comparison : BinaryOp → Bool
is_comparison op.Equal = true
is_comparison op.Unequal = true
is_comparison o = false

-- what has a kind counts as null beside another
abbrev pub is_null_beside : (other kind : Kind) → Bool
is_null_beside other kind = pointer_kind other && integer_kind kind

-- a place that is a cell is read, and another one has no value
abbrev pub cell_code : Bool → List Instr → ℕ → List Instr
cell_code true place k = place ++ Load k k ∷ []
cell_code false place k = no_place

-- the code of a part's value, of its place, and of its value beside another
abbrev pub value_of : Source → Sense → ℕ → List Instr
value_of s x k = value_code s.layout s.is_answered (loaded x) k

abbrev pub place_of : Source → Sense → ℕ → List Instr
place_of s x k = place_code s.layout s.is_answered x.term k

abbrev pub beside_of : Source → Kind → Sense → ℕ → List Instr
beside_of s other x k = value_code s.layout s.is_answered (beside other x) k

abbrev pub beside_at : Source → Kind → (at : ℕ) → ℕ → List Instr
beside_at s other at k = beside_of s other (sense_at s at) k

-- of a struct object's place, and of an element's
abbrev pub base_code : Source → Bool → Sense → ℕ → List Instr
base_code s arrow x k = place_code s.layout s.is_answered (base_of arrow x) k

abbrev pub element_code : Source → List Part → ℕ → List Instr
element_code s ps k = place_of s (part_at 0 ps).sense k ++ (value_of s (part_at 1 ps).sense (k + 1) ++ Element k ∷ [])

-- of an operator on two parts
abbrev pub early_of : Source → Bool → List Part → ℕ → List Instr
early_of s on ps k = early_code on k (value_of s (part_at 0 ps).sense k) (value_of s (part_at 1 ps).sense k)

abbrev pub late_of : Source → BinaryOp → List Part → ℕ → List Instr
late_of s o ps k = late_code o k (value_of s (part_at 0 ps).sense k) (value_of s (part_at 1 ps).sense (k + 1))

abbrev pub left_of : Source → List Part → ℕ → List Instr
left_of s ps k = beside_of s (part_at 1 ps).sense.type.thing.kind (part_at 0 ps).sense k

abbrev pub compared_of : Source → BinaryOp → List Part → ℕ → List Instr
compared_of s o ps k = late_code o k (left_of s ps k) (beside_of s (part_at 0 ps).sense.type.thing.kind (part_at 1 ps).sense (k + 1))

abbrev pub operands_code : Source → BinaryOp → List Part → ℕ → List Instr
operands_code s o ps k = value_code s.layout s.is_answered (operands o (part_at 0 ps).sense (part_at 1 ps).sense) k

-- an integer of one kind is converted where one of the other is wanted
abbrev pub converts : (wanted kind : Kind) → Bool
converts type.Int kind = unsigned_kind kind
converts type.Unsigned kind = is_int kind
converts wanted kind = false

abbrev pub converted_code : Source → Kind → Sense → ℕ → List Instr
converted_code s wanted x k = if converts wanted x.type.thing.kind then value_of s x k ++ Convert k wanted ∷ [] else value_of s x k

-- the code of a part's value where one of a kind is wanted
abbrev pub as_kind_at : Source → Kind → (at : ℕ) → ℕ → List Instr
as_kind_at s kind at k = value_code s.layout s.is_answered (as_kind kind (sense_at s at)) k

-- the same source where the call of the point isn't answered yet
abbrev pub unanswered : Source → Source
unanswered s = record { row = s.row; functions = s.functions; layout = s.layout; is_answered = false }
