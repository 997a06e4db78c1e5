-- An expression's type with what it is as a constant, in one pass over the expression; and that this says the same as the rules do.
use Rattle.std.specs.Prelude.{ℕ, Bool, true, false, Option, Some, None, Result, Ok, Err, if◌then◌else◌}
use Rattle.tsa_tree.specs.declared.expr.BinaryOp.{BinaryOp}
use Rattle.tsa_tree.specs.declared.expr.UnaryOp.{UnaryOp}
use Rattle.tsa_tree.specs.declared.expr.UnaryOp.TheVariants as prefix
use Rattle.tsa_tree.specs.declared.kind.ExpressionType.{ExpressionType}
use Rattle.tsa_tree.specs.declared.kind.Kind.TheVariants as type
use Rattle.tsa_tree.specs.declared.meaning.Entry.{Entry}
use Rattle.tsa_tree.specs.declared.meaning.Meaning.{Meaning}
use Rattle.tsa_tree.specs.declared.meaning.Meaning.TheVariants as known
use Rattle.tsa_tree.specs.declared.number.Number.{Number}
use Rattle.tsa_tree.specs.declared.number.Number.TheVariants as numeral
use Rattle.tsa_tree.specs.declared.premise.Failure.{Failure}
use Rattle.tsa_tree.specs.expressions.Syntax.{Expression, number, null, named, call, unary, binary, field, index}
use Rattle.tsa_tree.specs.types.Arithmetic.{operate_prefix}
use Rattle.tsa_tree.specs.types.Constants.{number_value, worked_binary, go_on}
use Rattle.tsa_tree.specs.types.Expressions.{type_of, entry_type, result_type, number_type}
use Rattle.tsa_tree.specs.types.Initialisers.{is_index, length_at}
use Rattle.tsa_tree.specs.types.Known.{Context}
use Rattle.tsa_tree.specs.types.Types.{value}
use Rattle.tsa_types_expressions.specs.declared.constants.Constant.{Constant}
use Rattle.tsa_types_expressions.specs.declared.constants.Constant.TheVariants as constant
use Rattle.tsa_types_expressions.specs.declared.constants.Found.{Found}
use Rattle.tsa_types_expressions.specs.Verdicts.{verdict_of}

abbrev pub entry_constant : Meaning → Constant
entry_constant (known.Global n) = constant.Place n
entry_constant (known.Constant z) = constant.Number (Ok (numeral.Int z))
entry_constant _ = constant.Other

abbrev pub found_number : ℕ → Bool → Found
found_number n u = record { thing = number_type n u; constant = constant.Number (Ok (number_value n u)) }

abbrev pub found_null : Found
found_null = record { thing = value type.Null; constant = constant.Null }

abbrev pub found_entry : Entry → Found
found_entry e = record { thing = entry_type e; constant = entry_constant e.meaning }

abbrev pub found_result : Entry → Found
found_result e = record { thing = result_type e; constant = constant.Other }

-- what an integer constant is worth that has a value
abbrev pub number_in : Constant → Option Number
number_in (constant.Number (Ok n)) = Some n
number_in _ = None

abbrev pub found_constant : Found → Option Number
found_constant f = number_in f.constant

-- what something is worth by what it was found to be: what has no type has no value
abbrev pub found_value : Result Found Failure → Option Number
found_value (Ok f) = found_constant f
found_value (Err failure) = None

-- What operators make of constants.
abbrev pub prefix_constant : UnaryOp → Constant → Constant
prefix_constant prefix.Address (constant.Place n) = constant.Address n
prefix_constant prefix.Address _ = constant.Other
prefix_constant prefix.Follow (constant.Address n) = constant.Place n
prefix_constant prefix.Follow _ = constant.Other
prefix_constant op (constant.Number r) = constant.Number (go_on r (operate_prefix op))
prefix_constant op _ = constant.Other

abbrev pub binary_constant : BinaryOp → Constant → Constant → Constant
binary_constant op (constant.Number l) (constant.Number r) = constant.Number (worked_binary op l r)
binary_constant op _ _ = constant.Other

abbrev pub field_constant : Bool → Constant → Constant
field_constant false (constant.Place n) = constant.Place n
field_constant true (constant.Address n) = constant.Place n
field_constant _ _ = constant.Other

abbrev pub index_constant : Option ℕ → Constant → Constant → Constant
index_constant l (constant.Place n) index_is = if is_index l (number_in index_is) then constant.Place n else constant.Other
index_constant l _ index_is = constant.Other

abbrev pub known_constant : Option Entry → Constant
known_constant None = constant.Other
known_constant (Some e) = entry_constant e.meaning

-- what an expression is as a constant
unfoldable pub constant_in : Context → Expression → Constant
constant_in c (number n u span) = constant.Number (Ok (number_value n u))
constant_in c (null span) = constant.Null
constant_in c (named name span) = known_constant (c.known name.text)
constant_in c (call callee args span) = constant.Other
constant_in c (unary op inner span) = prefix_constant op (constant_in c inner)
constant_in c (binary op left right span) = binary_constant op (constant_in c left) (constant_in c right)
constant_in c (field base name arrow span) = field_constant arrow (constant_in c base)
constant_in c (index base at span) = index_constant (length_at (type_of c base)) (constant_in c base) (constant_in c at)

abbrev pub with_constant : Constant → Result ExpressionType Failure → Result Found Failure
with_constant k (Ok t) = Ok (record { thing = t; constant = k })
with_constant k (Err failure) = Err failure

-- what an expression is found to be, or the first premise that fails in it
unfoldable pub found_in : Context → Expression → Result Found Failure
found_in c e = with_constant (constant_in c e) (verdict_of c e)
