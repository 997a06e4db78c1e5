use Rattle.std.proofs.Common.{◌<◌, length, arith}
use Rattle.tsa_graph.proofs.Standing.{next_put}
use Rattle.tsa_graph.proofs.places.place_block.Goals as goal

pub each-preserved : goal.each-preserved
each-preserved c =
    let points = c.args.block.now.points.items in
    let len = c.len-count.ensures in
    let size = c.args.block.now.points.ok.0 in
    let test = c.each-test.true in
    let within : c.each.index < length c.args.block.now.points.items = omega (arith, len, size, test) in
    next_put c.args.number points c.each.index c.index.result.now c.args.places.now.items c.each.places.items c.put.new.places.items within c.index.ensures c.requires.inside c.each.invariant
    c.put.ensures
