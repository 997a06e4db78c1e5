use Rattle.std.proofs.Common.{◌≡◌, ◌++◌, map}
use Rattle.tsa_trace.specs.Views.{text_of}
use Rattle.tsa_trace.specs.Tables.{texts_by}
use Rattle.tsa_trace.proofs.TableLists.{shown_all}
use Rattle.tsa_trace.proofs.table.Table.with_points.Given as goal

abbrev pub invariant-each : goal.invariant-each
invariant-each l = record { told : map text_of l.list.items ++ texts_by (shown_all l.name-iterator) l.bodies ≡ texts_by l.self l.bodies }
