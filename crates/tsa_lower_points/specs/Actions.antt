-- What a point of a row does, by its node and the parts behind that, and the code of it.
use Rattle.std.specs.Prelude.{ℕ, pos, Bool, true, false, List, Option, Some, None}
use Rattle.tsa_base.specs.declared.value.Value.TheVariants.{Int}
use Rattle.tsa_tree.specs.declared.kind.Kind.{Kind}
use Rattle.tsa_types_row.specs.declared.node.Op.{Op}
use Rattle.tsa_types_row.specs.declared.node.Op.TheVariants as op
use Rattle.tsa_core.specs.Bodies.{Action, evaluate, declare, test, branch, go_on, give, assigned, zero_term}
use Rattle.tsa_core.specs.Meanings.{Call, as_kind, loaded}
use Rattle.tsa_core.specs.Terms.{Term, constant, variable}
use Rattle.tsa_core_rows.specs.Reading.{part_at}
use Rattle.tsa_lower_code.specs.PointCodes.{action_code}
use Rattle.tsa_lower_code.specs.declared.instr.Instr.{Instr}
use Rattle.tsa_lower_terms.specs.Sources.{Source, call_in_part, parts_at, sense_at}

-- a point's node stands in front of a node of the source, in a function with a result of a kind
pub record PointNode : Type 0 where
  pub source : Source
  pub op : Op
  pub kind : Kind
  pub result : Kind
  pub behind : ℕ

-- the same where its call is answered, or isn't
abbrev pub answering : Bool → PointNode → PointNode
answering is_answered p = record {
  source = record { row = p.source.row; functions = p.source.functions; layout = p.source.layout; is_answered = is_answered };
  op = p.op;
  kind = p.kind;
  result = p.result;
  behind = p.behind;
}

-- a value that is given, or zero
abbrev pub declared_at : PointNode → ℕ → Bool → Action
declared_at p n true = declare n p.kind (as_kind p.kind (sense_at p.source p.behind))
declared_at p n false = declare n p.kind (zero_term p.kind)

abbrev pub tested_at : PointNode → Bool → Action
tested_at p true = test (loaded (sense_at p.source p.behind))
tested_at p false = test (constant (Int (pos 1)))

abbrev pub given_at : PointNode → Bool → Action
given_at p true = give p.result (as_kind p.result (sense_at p.source p.behind))
given_at p false = give p.result (zero_term p.result)

-- what is done
abbrev pub action_by : PointNode → Op → Action
action_by p (op.Declare n has_value) = declared_at p n has_value
action_by p op.Evaluate = evaluate (loaded (sense_at p.source p.behind))
action_by p (op.Set o) = assigned (sense_at p.source p.behind) o (part_at 1 (parts_at p.source p.behind)).sense
action_by p (op.Test given) = tested_at p given
action_by p op.Branch = branch (loaded (sense_at p.source p.behind))
action_by p (op.Give given) = given_at p given
action_by p op.End = given_at p false
action_by p o = go_on

abbrev pub action_of : PointNode → Action
action_of p = action_by p p.op

-- the call before it
abbrev pub call_when : PointNode → Bool → Option Call
call_when p true = call_in_part p.source p.behind
call_when p false = None

abbrev pub call_by : PointNode → Op → Option Call
call_by p (op.Declare n has_value) = call_when p has_value
call_by p op.Evaluate = call_when p true
call_by p (op.Set o) = (part_at 1 (parts_at p.source p.behind)).call
call_by p (op.Test given) = call_when p given
call_by p (op.Give given) = call_when p given
call_by p o = None

-- the local that a term is, if it is one
abbrev pub local_of : Term → Option ℕ
local_of (variable n) = Some n
local_of x = None

-- the code of what is done
abbrev pub code_of : PointNode → List Instr
code_of p = action_code p.source.layout p.source.is_answered (action_of p)
