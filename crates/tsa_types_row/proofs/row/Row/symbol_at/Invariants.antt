use Rattle.std.proofs.Common.{◌≡◌, drop}
use Rattle.tsa_tree.specs.types.Symbols.{symbol_in}
use Rattle.tsa_types_row.specs.Rows.{names_read}
use Rattle.tsa_types_row.proofs.row.Row.symbol_at.Given as goal

-- the nodes that are left say what all of them do
abbrev pub invariant-each : goal.invariant-each
invariant-each l = symbol_in (names_read (drop l.node-index l.node-items)) l.span ≡ symbol_in (names_read l.node-items) l.span
