use Rattle.std.proofs.Common.{◌≡◌, ◌++◌, drop}
use Rattle.tsa_place_model.specs.Layouts.{capped, offset, size_of}
use Rattle.tsa_place_layout.specs.Tables.{begins_from}
use Rattle.tsa_place_layout.proofs.structures.Structures.begins.Given as goal

abbrev pub invariant-each : goal.invariant-each
invariant-each l = record {
  end : l.end ≡ capped (offset (size_of l.self) l.members l.member-index);
  places : l.places.items ++ begins_from (size_of l.self) (offset (size_of l.self) l.members l.member-index) (drop l.member-index l.members)
      ≡ begins_from (size_of l.self) 0 l.members;
}
