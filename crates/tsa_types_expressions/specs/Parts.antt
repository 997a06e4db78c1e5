-- What each node of an expression comes to by its parts.
use Rattle.std.specs.Prelude.{ℕ, Bool, true, false, not, ◌||◌, List, [], Option, Some, None, Result, Ok, Err, if◌then◌else◌}
use Rattle.tsa_base.specs.declared.token.Span.{Span}
use Rattle.tsa_tree.specs.declared.expr.BinaryOp.{BinaryOp}
use Rattle.tsa_tree.specs.declared.expr.UnaryOp.{UnaryOp}
use Rattle.tsa_tree.specs.declared.kind.ExpressionType.{ExpressionType}
use Rattle.tsa_tree.specs.declared.kind.ThingType.{ThingType}
use Rattle.tsa_tree.specs.declared.meaning.Entry.{Entry}
use Rattle.tsa_tree.specs.declared.number.Number.{Number}
use Rattle.tsa_tree.specs.declared.premise.Failure.{Failure}
use Rattle.tsa_tree.specs.declared.premise.TypeCode.TheVariants.{TY1, TY3, TY4}
use Rattle.tsa_tree.specs.types.Expressions.{is_function, member_type, owner, params_of}
use Rattle.tsa_tree.specs.types.Known.{Context}
use Rattle.tsa_tree.specs.expressions.Syntax.{Identifier}
use Rattle.tsa_tree.specs.types.Initialisers.{is_index}
use Rattle.tsa_tree.specs.types.Operands.{goes_to, breaks_prefix, breaks_binary, breaks_index, prefix_type, binary_type, element_type}
use Rattle.tsa_types_expressions.specs.declared.accesses.Arguments.{Arguments}
use Rattle.tsa_types_expressions.specs.declared.constants.Constant.{Constant}
use Rattle.tsa_types_expressions.specs.declared.constants.Constant.TheVariants as constant
use Rattle.tsa_types_expressions.specs.declared.constants.Found.{Found}
use Rattle.tsa_types_expressions.specs.Found.{found_entry, found_result, found_constant, prefix_constant, binary_constant, field_constant}
use Rattle.tsa_types_expressions.specs.Verdicts.{at}

-- the type of a part that has one
abbrev pub found_thing : Result Found Failure → Option ExpressionType
found_thing (Ok f) = Some f.thing
found_thing (Err failure) = None

abbrev pub name_part : Span → Option Entry → Result Found Failure
name_part span None = Err (at TY1 span)
name_part span (Some e) = Ok (found_entry e)

abbrev pub one_part : Span → Bool → (Found → Found) → Result Found Failure → Result Found Failure
one_part span true f inner = Err (at TY3 span)
one_part span false f (Err failure) = Err failure
one_part span false f (Ok t) = Ok (f t)

abbrev pub two_parts : Span → Bool → (Found → Found → Found) → Result Found Failure → Result Found Failure → Result Found Failure
two_parts span true f left right = Err (at TY3 span)
two_parts span false f (Err failure) right = Err failure
two_parts span false f (Ok a) (Err failure) = Err failure
two_parts span false f (Ok a) (Ok b) = Ok (f a b)

abbrev pub prefix_found : UnaryOp → Found → Found
prefix_found op f = record { thing = prefix_type op f.thing; constant = prefix_constant op f.constant }

abbrev pub prefix_part : UnaryOp → Span → Result Found Failure → Result Found Failure
prefix_part op span inner = one_part span (breaks_prefix op (found_thing inner)) (prefix_found op) inner

abbrev pub binary_found : BinaryOp → Found → Found → Found
binary_found op a b = record { thing = binary_type op a.thing b.thing; constant = binary_constant op a.constant b.constant }

abbrev pub binary_part : BinaryOp → Span → Result Found Failure → Result Found Failure → Result Found Failure
binary_part op span left right = two_parts span (breaks_binary op (found_thing left) (found_thing right)) (binary_found op) left right

-- an element of a place of a global, by a constant in range
abbrev pub found_at : Option ℕ → Constant → Option Number → Constant
found_at l (constant.Place n) value = if is_index l value then constant.Place n else constant.Other
found_at l _ value = constant.Other

abbrev pub index_found : Found → Found → Found
index_found base at_index = record { thing = element_type base.thing; constant = found_at base.thing.thing.length base.constant (found_constant at_index) }

abbrev pub index_part : Span → Result Found Failure → Result Found Failure → Result Found Failure
index_part span base at_index = two_parts span (breaks_index (found_thing base) (found_thing at_index)) index_found base at_index

abbrev pub member_found : Bool → Found → ThingType → Found
member_found arrow f m = record { thing = member_type arrow f.thing m; constant = field_constant arrow f.constant }

abbrev pub member_part : Span → Bool → Found → Option ThingType → Result Found Failure
member_part name arrow f None = Err (at TY1 name)
member_part name arrow f (Some m) = Ok (member_found arrow f m)

-- an argument that has a type can't go to its parameter
abbrev pub worse : Result Found Failure → Option ThingType → Bool
worse (Ok f) (Some param) = not (goes_to f.thing param)
worse _ _ = false

abbrev pub or_found : Option Failure → Found → Result Found Failure
or_found (Some failure) f = Err failure
or_found None f = Ok f

abbrev pub call_part : Span → Span → Option Entry → Arguments → Result Found Failure
call_part name span None args = Err (at TY1 name)
call_part name span (Some e) args =
    if not (is_function e) || args.breaks then Err (at TY3 span) else (if args.miscounts then Err (at TY4 span) else or_found args.failure (found_result e))

-- a member by its name: what has none is told at the whole, a member that isn't there at its name
abbrev pub owned_part : Context → Identifier → Bool → Found → Span → Option ℕ → Result Found Failure
owned_part c name arrow f span None = Err (at TY3 span)
owned_part c name arrow f span (Some struct) = member_part name.span arrow f (c.member struct name.text)

abbrev pub field_part : Context → Span → Identifier → Bool → Result Found Failure → Result Found Failure
field_part c span name arrow (Err failure) = Err failure
field_part c span name arrow (Ok f) = owned_part c name arrow f span (owner arrow f.thing)

-- the parameters that a call's arguments go to
abbrev pub params_seen : Context → Option Entry → List ThingType
params_seen c None = []
params_seen c (Some e) = params_of c e
