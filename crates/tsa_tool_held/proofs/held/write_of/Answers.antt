use Rattle.std.proofs.Common.{sym}
use Rattle.tsa_tool_held.proofs.held.write_of.Goals as goal

pub write_by-requires-clause-same : goal.write_by-requires-clause-same
write_by-requires-clause-same g c = sym c.in_ok-tables.ensures
