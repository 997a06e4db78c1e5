-- What the initialiser of a cell comes to by what it was found to be.
use Rattle.std.specs.Prelude.{ℕ, Bool, true, ◌&&◌, nat_lt, Option, Some, None, is_some, Result, Ok, Err, if◌then◌else◌}
use Rattle.tsa_base.specs.declared.token.Span.{Span}
use Rattle.tsa_tree.specs.declared.kind.Kind.{Kind}
use Rattle.tsa_tree.specs.declared.kind.ThingType.{ThingType}
use Rattle.tsa_tree.specs.declared.premise.Failure.{Failure}
use Rattle.tsa_tree.specs.declared.premise.TypeCode.TheVariants.{TY9}
use Rattle.tsa_tree.specs.types.Operands.{goes_to, integer_kind}
use Rattle.tsa_types_expressions.specs.declared.constants.Constant.{Constant}
use Rattle.tsa_types_expressions.specs.declared.constants.Constant.TheVariants as constant
use Rattle.tsa_types_expressions.specs.declared.constants.Found.{Found}
use Rattle.tsa_types_expressions.specs.Found.{found_constant}
use Rattle.tsa_types_expressions.specs.Verdicts.{at}

-- null, the number 0, or the address of a place of an earlier global
abbrev pub fixed_by : ℕ → Bool → Constant → Bool
fixed_by own is_zero constant.Null = true
fixed_by own is_zero (constant.Address n) = nat_lt n own
fixed_by own is_zero _ = is_zero

abbrev pub is_fixed_pointer : ℕ → Found → Bool
is_fixed_pointer own f = fixed_by own f.thing.is_zero f.constant

-- an integer for a cell of an integer, and such a pointer for another one
abbrev pub is_fixed_for : ℕ → Kind → Found → Bool
is_fixed_for own k f = if integer_kind k then is_some (found_constant f) else is_fixed_pointer own f

-- a constant that goes there; beside what has no type only its names are judged
abbrev pub cell_by : ℕ → Option ThingType → Span → Result Found Failure → Option Failure
cell_by own thing span (Err failure) = Some failure
cell_by own None span (Ok f) = None
cell_by own (Some t) span (Ok f) = if goes_to f.thing t && is_fixed_for own t.kind f then None else Some (at TY9 span)
