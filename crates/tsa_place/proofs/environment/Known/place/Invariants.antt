use Rattle.std.proofs.Common.{◌≡◌, ◌≤◌, ◌-◌, ◌++◌, take, length}
use Rattle.tsa_place.specs.Filling.{given, all_left, AreLeft, values_by}
use Rattle.tsa_place_model.specs.Places.{places_of}
use Rattle.tsa_place.proofs.environment.Known.place.Given as goal

abbrev pub invariant-left : goal.invariant-left
invariant-left l = record {
  made : l.rows.places.items ++ all_left l.self.structs.now (values_by l.self l.fn.rows.places.items) l.rows.left.items (length l.rows.places.items)
      ≡ l.fn.rows.places.items ++ places_of l.self.structs.now (values_by l.self l.fn.rows.places.items) (given l.from) (length l.fn.rows.places.items) l.fn.thing;
  kept : take l.self.count l.rows.places.items ≡ take l.self.count l.fn.rows.places.items;
  earlier : l.self.count ≤ length l.rows.places.items;
  left : AreLeft l.self.structs.now l.rows.left.items;
}

abbrev pub decreases-left : goal.decreases-left
decreases-left l =
    length (l.fn.rows.places.items ++ places_of l.self.structs.now (values_by l.self l.fn.rows.places.items) (given l.from) (length l.fn.rows.places.items) l.fn.thing)
    - length l.rows.places.items
