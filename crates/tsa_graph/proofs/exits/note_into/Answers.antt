use Rattle.tsa_graph.specs.declared.entries.Edge.{Edge}
use Rattle.tsa_graph_edges.specs.declared.link.Outcome.TheVariants.{Next}
use Rattle.tsa_graph.proofs.Leaving.{next_note}
use Rattle.tsa_graph.proofs.exits.note_into.Goals as goal

-- what is read where nothing stands
abbrev absent : Edge
absent = record { from = 0; outcome = Next }

pub each-preserved : goal.each-preserved
each-preserved c =
    next_note c.args.places.now c.args.into.now c.args.to c.each.edge-index absent c.each-test.true c.args.exits.now c.each.exits c.note.new.self c.requires.from c.requires.placed
    c.each.invariant c.in_ok-note.ensures
