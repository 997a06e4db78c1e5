-- What a row of nodes says. It is read from its end on: each node takes its parts from what stands behind it, and gives a part or a point.
use Rattle.std.specs.Prelude.{ℕ, zero, suc, pos, Bool, true, false, List, [], ◌∷◌, ◌++◌, Option, Some, None, slice_set}
use Rattle.std.specs.List.{flat_map}
use Rattle.tsa_base.specs.declared.value.Value.TheVariants.{Int}
use Rattle.tsa_tree.specs.declared.expr.BinaryOp.{BinaryOp}
use Rattle.tsa_tree.specs.declared.expr.BinaryOp.TheVariants as binary
use Rattle.tsa_tree.specs.declared.expr.UnaryOp.{UnaryOp}
use Rattle.tsa_tree.specs.declared.expr.UnaryOp.TheVariants as prefix
use Rattle.tsa_tree.specs.declared.kind.ExpressionType.{ExpressionType}
use Rattle.tsa_tree.specs.declared.kind.Kind.{Kind}
use Rattle.tsa_tree.specs.declared.kind.ThingType.{ThingType}
use Rattle.tsa_tree.specs.declared.meaning.Symbol.{Symbol}
use Rattle.tsa_tree.specs.declared.meaning.Symbol.TheVariants as symbol
use Rattle.tsa_tree.specs.declared.number.Number.{Number}
use Rattle.tsa_types_row.specs.declared.node.Node.{Node}
use Rattle.tsa_types_row.specs.declared.node.Op.{Op}
use Rattle.tsa_types_row.specs.declared.node.Op.TheVariants as op
use Rattle.tsa_core.specs.Bodies.{declare, evaluate, test, branch, go_on, give, Point, point, assigned, zero_term}
use Rattle.tsa_core.specs.Meanings.{Call, of_type, null_pointer, unknown, loaded, of_number, prefix_term, operands, base_of, as_kind}
use Rattle.tsa_core.specs.Meanings.{or_call}
use Rattle.tsa_core.specs.Terms.{Term, constant, variable, answer, global, member, element, Sense}

-- an expression that was read: what it means, and the call in it that a point makes
pub record Part : Type 0 where
  pub sense : Sense
  pub call : Option Call

abbrev pub silent : Sense → Part
silent s = record { sense = s; call = None }

abbrev pub nothing : Part
nothing = silent unknown

-- what was read: the expressions that no node has taken yet, the first one first, and the points in order
pub record Reading : Type 0 where
  pub parts : List Part
  pub points : List Point

abbrev pub nothing_read : Reading
nothing_read = record { parts = []; points = [] }

-- points, and every expression taken by one
abbrev pub points_alone : List Point → Reading
points_alone points = record { parts = []; points = points }

-- the part of a number, and the parts behind so many
abbrev pub part_at : ℕ → List Part → Part
part_at n [] = nothing
part_at zero (p ∷ rest) = p
part_at (suc n) (p ∷ rest) = part_at n rest

abbrev pub behind_parts : ℕ → List Part → List Part
behind_parts zero parts = parts
behind_parts (suc n) [] = []
behind_parts (suc n) (p ∷ rest) = behind_parts n rest

-- What nodes of expressions give, of their type.
abbrev pub number_term : Option Number → Term
number_term None = null_pointer
number_term (Some n) = constant (of_number n)

abbrev pub symbol_term : Option Symbol → Term
symbol_term (Some (symbol.Global n)) = global n
symbol_term (Some (symbol.Local f n)) = variable n
symbol_term (Some (symbol.Constant z)) = constant (Int z)
symbol_term _ = null_pointer

abbrev pub read_name : Option Symbol → Bool → ExpressionType → Part
read_name s is_fixed t = silent (record { term = symbol_term s; type = t; is_stable = is_fixed })

-- arguments for the parameters of a function, so many of them
abbrev pub args_read : List ThingType → ℕ → List Part → List Term
args_read (p ∷ params) (suc n) (a ∷ rest) = as_kind p.kind a.sense ∷ args_read params n rest
args_read _ _ _ = []

abbrev pub read_call : ℕ → List Term → ExpressionType → Part
read_call function given t = record { sense = of_type answer t; call = Some (record { function = function; args = given }) }

-- a call in a condition stands behind `!`, or beside `==` or `!=`
abbrev pub prefix_call : UnaryOp → Part → Option Call
prefix_call prefix.Not p = p.call
prefix_call _ p = None

abbrev pub read_prefix : UnaryOp → Part → ExpressionType → Part
read_prefix o p t = record { sense = of_type (prefix_term o p.sense) t; call = prefix_call o p }

abbrev pub binary_call : BinaryOp → Part → Part → Option Call
binary_call binary.Equal l r = or_call l.call r.call
binary_call binary.Unequal l r = or_call l.call r.call
binary_call _ l r = None

abbrev pub read_binary : BinaryOp → Part → Part → ExpressionType → Part
read_binary o l r t = record { sense = of_type (operands o l.sense r.sense) t; call = binary_call o l r }

abbrev pub read_field : Bool → ℕ → Bool → Part → ExpressionType → Part
read_field arrow number is_fixed p t = silent (record { term = member (base_of arrow p.sense) number; type = t; is_stable = is_fixed })

abbrev pub read_index : Part → Part → ExpressionType → Part
read_index base at t = silent (record { term = element base.sense.term (loaded at.sense); type = t; is_stable = base.sense.is_stable })

-- a node gives a part for so many, or a point for so many
abbrev pub gives_part : ℕ → Part → Reading → Reading
gives_part n p r = record { parts = p ∷ behind_parts n r.parts; points = r.points }

abbrev pub gives_point : ℕ → Point → Reading → Reading
gives_point n p r = record { parts = behind_parts n r.parts; points = p ∷ r.points }

-- What points do with their parts.
abbrev pub read_declare : ℕ → Bool → Kind → Reading → Reading
read_declare n true kind r = gives_point 1 (point (part_at 0 r.parts).call (declare n kind (as_kind kind (part_at 0 r.parts).sense))) r
read_declare n false kind r = gives_point 0 (point None (declare n kind (zero_term kind))) r

abbrev pub read_evaluate : Reading → Reading
read_evaluate r = gives_point 1 (point (part_at 0 r.parts).call (evaluate (loaded (part_at 0 r.parts).sense))) r

abbrev pub read_set : Option BinaryOp → Reading → Reading
read_set o r = gives_point 2 (point (part_at 1 r.parts).call (assigned (part_at 0 r.parts).sense o (part_at 1 r.parts).sense)) r

abbrev pub read_test : Bool → Reading → Reading
read_test true r = gives_point 1 (point (part_at 0 r.parts).call (test (loaded (part_at 0 r.parts).sense))) r
read_test false r = gives_point 0 (point None (test (constant (Int (pos 1))))) r

abbrev pub read_branch : Reading → Reading
read_branch r = gives_point 1 (point None (branch (loaded (part_at 0 r.parts).sense))) r

abbrev pub read_give : Kind → Bool → Reading → Reading
read_give result true r = gives_point 1 (point (part_at 0 r.parts).call (give result (as_kind result (part_at 0 r.parts).sense))) r
read_give result false r = gives_point 0 (point None (give result (zero_term result))) r

-- A node in front of what was read, in a function with a result of a kind, where functions have parameters by their numbers.
abbrev pub read_node : (ℕ → List ThingType) → Kind → Node → Reading → Reading
read_node params result node r = by_op node.op
  where
    by_op : Op → Reading
    by_op op.Number = gives_part 0 (silent (of_type (number_term node.worth) node.thing)) r
    by_op op.Null = gives_part 0 nothing r
    by_op (op.Name s is_fixed) = gives_part 0 (read_name s is_fixed node.thing) r
    by_op (op.Callee s) = r
    by_op (op.Call function args) = gives_part args (read_call function (args_read (params function) args r.parts) node.thing) r
    by_op (op.Unary o) = gives_part 1 (read_prefix o (part_at 0 r.parts) node.thing) r
    by_op (op.Binary o) = gives_part 2 (read_binary o (part_at 0 r.parts) (part_at 1 r.parts) node.thing) r
    by_op (op.Field arrow number is_fixed) = gives_part 1 (read_field arrow number is_fixed (part_at 0 r.parts) node.thing) r
    by_op op.Index = gives_part 2 (read_index (part_at 0 r.parts) (part_at 1 r.parts) node.thing) r
    by_op (op.Declared s) = r
    by_op op.Aside = record { parts = behind_parts 1 r.parts; points = r.points }
    by_op (op.Declare n has_value) = read_declare n has_value node.thing.thing.kind r
    by_op op.Evaluate = read_evaluate r
    by_op (op.Set o) = read_set o r
    by_op (op.Test given) = read_test given r
    by_op op.Branch = read_branch r
    by_op op.Move = gives_point 0 (point None go_on) r
    by_op (op.Give given) = read_give result given r
    by_op op.End = read_give result false r

-- a row, of which what stands behind it was read
abbrev pub read_before : (ℕ → List ThingType) → Kind → List Node → Reading → Reading
read_before params result [] r = r
read_before params result (node ∷ rest) r = read_node params result node (read_before params result rest r)

abbrev pub read_row : (ℕ → List ThingType) → Kind → List Node → Reading
read_row params result row = read_before params result row nothing_read

-- the kinds of the locals that a row declares, in order
abbrev pub op_kinds : Op → Kind → List Kind
op_kinds (op.Declare n has_value) kind = kind ∷ []
op_kinds _ kind = []

abbrev pub kinds_read : List Node → List Kind
kinds_read row = flat_map (λ n. op_kinds n.op n.thing.thing.kind) row

-- Which locals never change, the parameters first: each declaration begins one, and an assignment whose left side is a local changes it.
abbrev pub symbol_changes : List Bool → Option Symbol → List Bool
symbol_changes stable (Some (symbol.Local f n)) = slice_set stable n false
symbol_changes stable _ = stable

abbrev pub op_changes : List Bool → Op → List Bool
op_changes stable (op.Name s is_fixed) = symbol_changes stable s
op_changes stable _ = stable

abbrev pub first_changes : List Bool → List Node → List Bool
first_changes stable [] = stable
first_changes stable (left ∷ rest) = op_changes stable left.op

abbrev pub stable_at : List Bool → Op → List Node → List Bool
stable_at stable (op.Declare n has_value) rest = stable ++ true ∷ []
stable_at stable (op.Set o) rest = first_changes stable rest
stable_at stable _ rest = stable

abbrev pub stable_read : List Bool → List Node → List Bool
stable_read stable [] = stable
stable_read stable (node ∷ rest) = stable_read (stable_at stable node.op rest) rest
