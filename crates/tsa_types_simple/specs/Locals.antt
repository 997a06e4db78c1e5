-- What a local comes to by its parts.
use Rattle.std.specs.Prelude.{Bool, false, not, ◌&&◌, ◌||◌, Option, Result, Ok, Err}
use Rattle.tsa_base.specs.declared.token.Span.{Span}
use Rattle.tsa_tree.specs.declared.kind.ThingType.{ThingType}
use Rattle.tsa_tree.specs.declared.premise.Failure.{Failure}
use Rattle.tsa_tree.specs.types.Locals.{has_type}
use Rattle.tsa_tree.specs.types.Operands.{goes_to}
use Rattle.tsa_tree.specs.types.Premises.{or_else, first}
use Rattle.tsa_types_expressions.specs.declared.constants.Found.{Found}
use Rattle.tsa_types_expressions.specs.Lengths.{name_premises}
use Rattle.tsa_types_simple.specs.declared.locals.LocalParts.{LocalParts}

abbrev pub value_breaks : ThingType → Result Found Failure → Bool
value_breaks thing (Ok f) = not (goes_to f.thing thing)
value_breaks thing (Err failure) = false

-- first what is wrong with its name and type, then with its length, its attributes and its initialiser
abbrev pub local_by : Span → LocalParts → Option Failure
local_by span p =
    or_else (first (name_premises p.taken (p.refused || (has_type p.written.resolved && p.init.breaks)) span p.written.resolved))
    (or_else p.written.length (or_else p.attributes p.init.failure))
