use Rattle.std.proofs.Common.{◌≡◌, ◌++◌, drop}
use Rattle.tsa_place_model.specs.Calls.{guards_by}
use Rattle.tsa_place_layout.proofs.layout.Layout.add_each.Given as goal

abbrev pub invariant-each : goal.invariant-each
invariant-each l = record {
  told : l.guards.items ++ guards_by l.self l.owner (drop l.path-index l.paths) ≡ l.fn.guards.items ++ guards_by l.fn.self l.fn.owner l.fn.paths;
}
