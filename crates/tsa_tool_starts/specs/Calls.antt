-- What calls are without the arena.
use Rattle.tsa_tree.specs.expressions.Shapes.{shapes}
use Rattle.tsa_tool_starts.specs.Words.{Called}
use Rattle.tsa_tool_starts.specs.declared.call.Call.{Call}

abbrev pub called : Call → Called
called c = record { name = c.name.now; args = shapes c.args.now }
