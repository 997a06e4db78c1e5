use Rattle.std.proofs.Common.{sym, ap}
use Rattle.tsa_tree.proofs.expressions.Trees.{call_at}
use Rattle.tsa_tool_starts.specs.Words.{called_by}
use Rattle.tsa_tool_starts.proofs.call.call_in.Goals as goal

pub returns-in-Call : goal.returns-in-Call
returns-in-Call c = sym (ap called_by (call_at c.args.expr.now c.in-Call.callee c.in-Call.args c.in-Call.is))
