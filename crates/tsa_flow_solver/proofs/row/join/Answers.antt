use Rattle.std.proofs.Common.{◌<◌, arith, bit_or}
use Rattle.std.proofs.lemmas.Nat.{le_or_l, or_lt}
use Rattle.tsa_flow_solver.specs.Rows.{set_at}
use Rattle.tsa_flow_solver.proofs.Taking.{rose}
use Rattle.tsa_flow_solver.proofs.row.join.Goals as goal

pub returns-clause-small : goal.returns-clause-small
returns-clause-small c =
    let before : (set_at c.args.sets.now c.args.at).bits < 18446744073709551616 = omega arith in
    let more : c.args.set.bits < 18446744073709551616 = omega arith in
    or_lt 64 (set_at c.args.sets.now c.args.at).bits c.args.set.bits before more

pub returns-clause-grown : goal.returns-clause-grown
returns-clause-grown c up =
    rose (set_at c.args.sets.now c.args.at).bits (bit_or (set_at c.args.sets.now c.args.at).bits c.args.set.bits) (le_or_l (set_at c.args.sets.now c.args.at).bits c.args.set.bits) up
