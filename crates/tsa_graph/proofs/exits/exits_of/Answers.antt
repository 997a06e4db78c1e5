use Rattle.std.proofs.Common.{◌∙◌, arith, ap, Some, sym}
use Rattle.std.proofs.lemmas.Option.{slice_get-get_or}
use Rattle.tsa_graph.proofs.Leaving.{next_exits, all_exits}
use Rattle.tsa_graph.proofs.exits.exits_of.Goals as goal

pub each-preserved : goal.each-preserved
each-preserved c =
    let b = c.index-blocks-number.result in
    next_exits c.args.blocks.now c.args.places.now c.each.number b c.deref.result.now c.each.exits c.note_into.new.exits
    (slice_get-get_or c.args.blocks.now c.each.number b c.each-test.true ∙ ap Some (sym c.index-blocks-number.is)) (c.deref.ensures.value ∙ ap (λ y. y.into.items) (sym c.index-blocks-number.is))
    c.each.invariant c.in_ok-note_into.ensures

pub returns : goal.returns
returns c =
    let least = c.each-test.false in
    let most = c.each.auto.number-end in
    all_exits c.args.blocks.now c.args.places.now c.each.number c.each.exits (omega (arith, least, most)) c.each.invariant
