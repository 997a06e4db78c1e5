-- Terms by their heads: what a node says of the term of its part, and how many parts are taken from those behind it.
use Rattle.std.specs.Prelude.{ℕ, Bool, true, false, List, Option, Some, None}
use Rattle.tsa_base.specs.declared.value.Value.TheVariants.{Int, Pointer}
use Rattle.tsa_tree.specs.declared.expr.UnaryOp.{UnaryOp}
use Rattle.tsa_tree.specs.declared.expr.UnaryOp.TheVariants as prefix
use Rattle.tsa_tree.specs.declared.kind.ExpressionType.{ExpressionType}
use Rattle.tsa_tree.specs.declared.kind.Kind.TheVariants as type
use Rattle.tsa_tree.specs.declared.kind.ThingType.{ThingType}
use Rattle.tsa_tree.specs.declared.meaning.Symbol.{Symbol}
use Rattle.tsa_tree.specs.declared.meaning.Symbol.TheVariants as symbol
use Rattle.tsa_tree.specs.declared.number.Number.{Number}
use Rattle.tsa_tree.specs.types.Types.{value}
use Rattle.tsa_types_row.specs.declared.node.Node.{Node}
use Rattle.tsa_types_row.specs.declared.node.Op.{Op}
use Rattle.tsa_types_row.specs.declared.node.Op.TheVariants as op
use Rattle.tsa_core.specs.Meanings.{Call, base_of, loaded, of_number, operands}
use Rattle.tsa_core.specs.Terms.{Term, constant, variable, answer, global, member, element, target, address, prefixed}
use Rattle.tsa_core_rows.specs.Reading.{Part, part_at, args_read, binary_call, prefix_call}
use Rattle.tsa_lower_terms.specs.declared.head.Head.{Head}
use Rattle.tsa_lower_terms.specs.declared.head.Head.TheVariants as head

-- the term of a head, of the parts behind it
abbrev pub head_term : Head → List Part → Term
head_term (head.Constant v) ps = constant v
head_term (head.Variable n) ps = variable n
head_term (head.Answer f n) ps = answer
head_term (head.Global n) ps = global n
head_term (head.Member arrow n) ps = member (base_of arrow (part_at 0 ps).sense) n
head_term head.Element ps = element (part_at 0 ps).sense.term (loaded (part_at 1 ps).sense)
head_term head.Target ps = target (loaded (part_at 0 ps).sense)
head_term head.Address ps = address (part_at 0 ps).sense.term
head_term (head.Prefixed o) ps = prefixed o (loaded (part_at 0 ps).sense)
head_term (head.Joined o) ps = operands o (part_at 0 ps).sense (part_at 1 ps).sense

-- the call in it that a point makes, where functions have parameters by their numbers
abbrev pub head_call : (ℕ → List ThingType) → Head → List Part → Option Call
head_call params (head.Answer f n) ps = Some (record { function = f; args = args_read (params f) n ps })
head_call params (head.Prefixed o) ps = prefix_call o (part_at 0 ps)
head_call params (head.Joined o) ps = binary_call o (part_at 0 ps) (part_at 1 ps)
head_call params h ps = None

-- how many parts it takes
abbrev pub taken : Head → ℕ
taken (head.Constant v) = 0
taken (head.Variable n) = 0
taken (head.Answer f n) = n
taken (head.Global n) = 0
taken (head.Member arrow n) = 1
taken head.Element = 2
taken head.Target = 1
taken head.Address = 1
taken (head.Prefixed o) = 1
taken (head.Joined o) = 2

-- which terms are places
abbrev pub head_is_place : Head → Bool
head_is_place (head.Global n) = true
head_is_place (head.Member arrow n) = true
head_is_place head.Element = true
head_is_place head.Target = true
head_is_place h = false

-- the heads of numbers, names and operators
abbrev pub null_head : Head
null_head = head.Constant (Pointer None)

abbrev pub number_head : Option Number → Head
number_head None = null_head
number_head (Some n) = head.Constant (of_number n)

abbrev pub symbol_head : Option Symbol → Head
symbol_head (Some (symbol.Global n)) = head.Global n
symbol_head (Some (symbol.Local f n)) = head.Variable n
symbol_head (Some (symbol.Constant z)) = head.Constant (Int z)
symbol_head _ = null_head

abbrev pub prefix_head : UnaryOp → Head
prefix_head prefix.Address = head.Address
prefix_head prefix.Follow = head.Target
prefix_head o = head.Prefixed o

-- the head of the part that a node gives, where it gives one, and the type of the part
abbrev pub op_head : Op → Option Number → Option Head
op_head op.Number worth = Some (number_head worth)
op_head op.Null worth = Some null_head
op_head (op.Name s is_fixed) worth = Some (symbol_head s)
op_head (op.Call function args) worth = Some (head.Answer function args)
op_head (op.Unary o) worth = Some (prefix_head o)
op_head (op.Binary o) worth = Some (head.Joined o)
op_head (op.Field arrow number is_fixed) worth = Some (head.Member arrow number)
op_head op.Index worth = Some head.Element
op_head _ worth = None

abbrev pub null_type : ExpressionType
null_type = value type.Null

abbrev pub op_type : Op → ExpressionType → ExpressionType
op_type op.Null t = null_type
op_type o t = t

abbrev pub node_type : Node → ExpressionType
node_type node = op_type node.op node.thing

-- how many parts a node passes that gives none
abbrev pub given_parts : Bool → ℕ
given_parts true = 1
given_parts false = 0

abbrev pub passed : Op → ℕ
passed op.Aside = 1
passed (op.Declare n has_value) = given_parts has_value
passed op.Evaluate = 1
passed (op.Set o) = 2
passed (op.Test given) = given_parts given
passed op.Branch = 1
passed (op.Give given) = given_parts given
passed _ = 0
