use Rattle.std.proofs.Common.{◌≡◌, arith, ap}
use Rattle.tsa_rules_table.proofs.Places.{put_begun, put_is}
use Rattle.tsa_rules_table.specs.Rows.{rows_in}
use Rattle.tsa_rules_table.proofs.marks.Marks.set.Goals as goal

pub invariant_of-self-2 : goal.invariant_of-self-2
invariant_of-self-2 c =
    let count : c.self.inside.rows ≡ rows_in c.args.self.now = ap rows_in c.self.view_is in
    let last = c.last-row.ensures in
    let begun = c.requires.begun in
    put_begun c.self.inside.rows c.last-row.result c.args.number c.key_of-key.result c.args.mark c.self.inside.marks.entries c.insert.new.self.entries c.ranges.number.fits c.key_of-key.ensures
    c.in_ok-insert.ensures.updates.0 (omega (arith, last, begun)) c.self.invariant

pub returns : goal.returns
returns c =
    put_is c.self.inside.rows c.last-row.result c.args.number c.key_of-key.result c.args.mark c.self.inside.marks.entries c.insert.new.self.entries c.ranges.number.fits c.key_of-key.ensures
    c.in_ok-insert.ensures.updates.0 c.args.self.now c.self.view_is c.last-row.ensures
