-- What the value of an expression is, as far as it may tell an answer: by its term, and from its parts.
use Rattle.std.specs.Prelude.{◌&&◌, None, if◌then◌else◌}
use Rattle.tsa_base.specs.declared.value.Value.TheVariants.{Pointer}
use Rattle.tsa_tree.specs.declared.expr.BinaryOp.{BinaryOp}
use Rattle.tsa_tree.specs.declared.expr.BinaryOp.TheVariants as op
use Rattle.tsa_tree.specs.declared.expr.UnaryOp.{UnaryOp}
use Rattle.tsa_tree.specs.declared.expr.UnaryOp.TheVariants as prefix
use Rattle.tsa_tree.specs.declared.kind.Kind.{Kind}
use Rattle.tsa_tree.specs.types.Arithmetic.{operate_prefix}
use Rattle.tsa_tree.specs.types.Constants.{go_on, worked_binary}
use Rattle.tsa_tree.specs.types.Operands.{binary_type, integer_kind, pointer_kind, prefix_type}
use Rattle.tsa_core.specs.Terms.{Term, constant, variable, answer, Sense}
use Rattle.tsa_rules.specs.Conditions.{is_constant, constant_result}
use Rattle.tsa_rules_roles.specs.declared.gist.Gist.{Gist}
use Rattle.tsa_rules_roles.specs.declared.worth.Worth.{Worth}
use Rattle.tsa_rules_roles.specs.declared.worth.Worth.TheVariants as worth

-- by its term: what is made of constants alone is a number
abbrev pub otherwise : Term → Worth
otherwise answer = worth.Call
otherwise (variable n) = worth.Local n
otherwise (constant (Pointer None)) = worth.Null
otherwise _ = worth.Other

abbrev pub worth_of : Term → Worth
worth_of x = if is_constant x then worth.Number (constant_result x) else otherwise x

-- what an expression means, but for its term and whether that stays the same
abbrev pub gist_of : Sense → Gist
gist_of s = record { expression = s.type; worth = worth_of s.term }

-- Operators on values.
abbrev pub number_behind : UnaryOp → Worth → Worth
number_behind o (worth.Number r) = worth.Number (go_on r (operate_prefix o))
number_behind o _ = worth.Other

abbrev pub prefix_worth : UnaryOp → Worth → Worth
prefix_worth prefix.Address w = worth.Other
prefix_worth prefix.Follow w = worth.Other
prefix_worth o w = number_behind o w

abbrev pub joined_worth : BinaryOp → Worth → Worth → Worth
joined_worth o (worth.Number a) (worth.Number b) = worth.Number (worked_binary o a b)
joined_worth o _ _ = worth.Other

-- beside a pointer the number 0 is null (C11 6.5.9p5)
abbrev pub worth_beside : Kind → Gist → Worth
worth_beside other g = if pointer_kind other && integer_kind g.expression.thing.kind then worth.Null else g.worth

abbrev pub binary_worth : BinaryOp → Gist → Gist → Worth
binary_worth op.Equal l r = joined_worth op.Equal (worth_beside r.expression.thing.kind l) (worth_beside l.expression.thing.kind r)
binary_worth op.Unequal l r = joined_worth op.Unequal (worth_beside r.expression.thing.kind l) (worth_beside l.expression.thing.kind r)
binary_worth o l r = joined_worth o l.worth r.worth

abbrev pub prefix_gist : UnaryOp → Gist → Gist
prefix_gist o g = record { expression = prefix_type o g.expression; worth = prefix_worth o g.worth }

abbrev pub binary_gist : BinaryOp → Gist → Gist → Gist
binary_gist o l r = record { expression = binary_type o l.expression r.expression; worth = binary_worth o l r }
