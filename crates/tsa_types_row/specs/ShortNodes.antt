-- What nodes in few bytes stand for.
use Rattle.std.specs.Prelude.{ℕ, ◌+◌, Bool, true, false, Option, Some, None}
use Rattle.tsa_tree.specs.declared.kind.ExpressionType.{ExpressionType}
use Rattle.tsa_tree.specs.declared.kind.Kind.{Kind}
use Rattle.tsa_tree.specs.declared.kind.Kind.TheVariants as type
use Rattle.tsa_tree.specs.declared.meaning.Symbol.{Symbol}
use Rattle.tsa_tree.specs.declared.meaning.Symbol.TheVariants as symbol
use Rattle.tsa_tree.specs.declared.number.Number.{Number}
use Rattle.tsa_tree.specs.declared.number.Number.TheVariants as numeral
use Rattle.tsa_types_row.specs.declared.node.Node.{Node}
use Rattle.tsa_types_row.specs.declared.node.Op.{Op}
use Rattle.tsa_types_row.specs.declared.node.Op.TheVariants as op
use Rattle.tsa_types_row.specs.declared.short.Form.{Form}
use Rattle.tsa_types_row.specs.declared.short.Role.{Role}
use Rattle.tsa_types_row.specs.declared.short.Role.TheVariants as role
use Rattle.tsa_types_row.specs.declared.short.ShortNode.{ShortNode}
use Rattle.tsa_types_row.specs.declared.short.ShortOp.{ShortOp}
use Rattle.tsa_types_row.specs.declared.short.ShortOp.TheVariants as short
use Rattle.tsa_types_row.specs.declared.short.ShortType.{ShortType}
use Rattle.tsa_types_row.specs.declared.short.ShortType.TheVariants as thing

-- what bears a symbol
abbrev pub bearing : Role → Symbol → Op
bearing role.Name s = op.Name (Some s) false
bearing role.FixedName s = op.Name (Some s) true
bearing role.Callee s = op.Callee (Some s)
bearing role.Declared s = op.Declared s

abbrev pub op_in : ShortOp → Op
op_in short.Number = op.Number
op_in short.Null = op.Null
op_in short.Index = op.Index
op_in short.Aside = op.Aside
op_in short.Evaluate = op.Evaluate
op_in short.Branch = op.Branch
op_in short.Move = op.Move
op_in short.End = op.End
op_in (short.Global r n) = bearing r (symbol.Global n)
op_in (short.Local r f n) = bearing r (symbol.Local f n)
op_in (short.Function r n) = bearing r (symbol.Function n)
op_in (short.Constant r z) = bearing r (symbol.Constant z)
op_in (short.Call n f) = op.Call f n
op_in (short.Unary o) = op.Unary o
op_in (short.Binary o) = op.Binary o
op_in (short.Field arrow is_fixed n) = op.Field arrow n is_fixed
op_in (short.Declare has_value n) = op.Declare n has_value
op_in (short.Set o) = op.Set o
op_in (short.Test given) = op.Test given
op_in (short.Give given) = op.Give given

-- a type that is no array's, an array's, and a constant's
abbrev pub standing : Kind → Form → ExpressionType
standing kind f =
    record { thing = record { kind = kind; length = None; is_const = f.is_const }; is_place = f.is_place; is_zero = f.is_zero }

abbrev pub array : Kind → ℕ → Bool → ExpressionType
array kind length is_const = record { thing = record { kind = kind; length = Some length; is_const = is_const }; is_place = true; is_zero = false }

abbrev pub constant : Kind → Bool → ExpressionType
constant kind is_zero = record { thing = record { kind = kind; length = None; is_const = false }; is_place = false; is_zero = is_zero }

abbrev pub thing_in : ShortType → ExpressionType
thing_in (thing.Int f) = standing type.Int f
thing_in (thing.Unsigned f) = standing type.Unsigned f
thing_in (thing.Void f) = standing type.Void f
thing_in (thing.Null f) = standing type.Null f
thing_in (thing.Function f) = standing type.Function f
thing_in (thing.Structure f n) = standing (type.Structure n) f
thing_in (thing.Pointer f n) = standing (type.Pointer n false) f
thing_in (thing.PointerToConst f n) = standing (type.Pointer n true) f
thing_in (thing.IntWorth is_zero z) = constant type.Int is_zero
thing_in (thing.UnsignedWorth is_zero n) = constant type.Unsigned is_zero
thing_in (thing.Ints is_const length) = array type.Int length is_const
thing_in (thing.Structures is_const n length) = array (type.Structure n) length is_const

abbrev pub worth_in : ShortType → Option Number
worth_in (thing.IntWorth is_zero z) = Some (numeral.Int z)
worth_in (thing.UnsignedWorth is_zero n) = Some (numeral.Unsigned n)
worth_in _ = None

abbrev pub node_in : ShortNode → Node
node_in s = record {
  op = op_in s.op;
  thing = thing_in s.thing;
  worth = worth_in s.thing;
  size = s.size;
  span = record { from = s.from; to = s.from + s.length };
}
