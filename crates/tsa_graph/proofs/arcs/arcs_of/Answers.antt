use Rattle.std.proofs.Common.{rules, arith, ◌≡◌, ◌<◌, length, replicate, get_or, sym, subst}
use Rattle.tsa_graph.specs.declared.arcs.Exit.TheVariants.{Nowhere}
use Rattle.tsa_graph_edges.specs.declared.link.Link.{Link}
use Rattle.tsa_graph_edges.specs.declared.link.Outcome.TheVariants.{Next}
use Rattle.tsa_graph.proofs.FurtherEdges.{next_noted, none_noted}
use Rattle.tsa_graph.proofs.Within.{link_between}
use Rattle.tsa_graph.proofs.arcs.arcs_of.Goals as goal

-- what is read where nothing stands
abbrev absent : Link
absent = record { from = 0; outcome = Next; to = 0 }

pub each-init : goal.each-init
each-init c =
    let filled : c.in_ok-outs.outs.items ≡ replicate c.args.points Nowhere = search rules in
    let told = c.in_ok-outs.ensures.len in
    let kept = c.in_ok-outs.outs.ok.0 in
    let size : length c.in_ok-outs.outs.items ≡ c.args.points = omega (arith, told, kept) in
    none_noted c.args.points c.in_ok-outs.outs.items c.in_ok-ins.ins filled size c.in_ok-ins.ensures.len c.in_ok-ins.ensures.none

pub note_exit-requires : goal.note_exit-requires
note_exit-requires c =
    let both = link_between c.args.points c.args.links.now c.each.link-index absent c.each-test.true c.requires in
    subst (λ n. (get_or c.args.links.now c.each.link-index absent).from < n) (sym c.each.invariant.outs_size) both.0

pub note-requires : goal.note-requires
note-requires c =
    let both = link_between c.args.points c.args.links.now c.each.link-index absent c.each-test.true c.requires in
    subst (λ n. (get_or c.args.links.now c.each.link-index absent).to < n) (sym c.each.invariant.ins_size) both.1

pub each-preserved : goal.each-preserved
each-preserved c =
    let both = link_between c.args.points c.args.links.now c.each.link-index absent c.each-test.true c.requires in
    let outs = c.each.invariant.outs_size in
    let ins = c.each.invariant.ins_size in
    next_noted c.args.points c.args.links.now c.each.link-index absent c.each.outs.items c.note_exit.new.outs.items c.each.ins c.note.new.self c.each-test.true c.each.invariant
    (subst (λ n. (get_or c.args.links.now c.each.link-index absent).from < n) (sym outs) both.0) c.note_exit.ensures
    (subst (λ n. (get_or c.args.links.now c.each.link-index absent).to < n) (sym ins) both.1) c.in_ok-note.ensures
