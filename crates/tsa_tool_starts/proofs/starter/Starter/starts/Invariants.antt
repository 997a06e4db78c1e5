use Rattle.std.proofs.Common.{map, string_bytes, take}
use Rattle.tsa_tool_starts.specs.Starts.{AreGoodWords}
use Rattle.tsa_tool_starts.specs.Units.{items_in}
use Rattle.tsa_tool_starts.proofs.starter.Starter.starts.Given as goal

-- the first words are good
abbrev pub invariant-each : goal.invariant-each
invariant-each l = AreGoodWords (items_in l.self) l.self.places.now (take l.number (map string_bytes l.words)) l.starts.items
