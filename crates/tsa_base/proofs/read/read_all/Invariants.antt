use Rattle.std.proofs.Common.{◌≤◌, ◌-◌, ◌+◌, vec_len}
use Rattle.std.specs.Io.KnownBytes.{Consumes}
use Rattle.tsa_base.specs.declared.limits.TheConstants.{INPUT_LIMIT}
use Rattle.tsa_base.proofs.read.read_all.Given as goal

abbrev pub invariant-pieces : goal.invariant-pieces
invariant-pieces g l = record {
  within : vec_len l.bytes ≤ INPUT_LIMIT;
  taken : Consumes (g.I.Source.left l.fn.source) (g.I.Source.left l.source) l.bytes.items;
  later : g.I.Source.faults l.fn.source ≤ g.I.Source.faults l.source;
}

abbrev pub decreases-pieces : goal.decreases-pieces
decreases-pieces g l = INPUT_LIMIT + 1 - vec_len l.bytes
