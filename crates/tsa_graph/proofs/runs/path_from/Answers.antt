use Rattle.std.proofs.Common.{◌∙◌, [], ◌∷◌, ◌++◌, ap, sym}
use Rattle.tsa_graph.specs.Runs.{step}
use Rattle.tsa_graph.proofs.Paths.{begin, moved, go_on, still, falls, stop}
use Rattle.tsa_graph.proofs.runs.path_from.Goals as goal

pub on-init : goal.on-init
on-init c =
    let path =
    moved c.args.next.now c.requires.one c.requires.within c.args.seen.now.items _ _ _ _ c.args.head c.mark.ensures
    (c.in_ok-push.ensures.items ∙ ap (λ xs. xs ++ c.args.head ∷ []) c.new-run.ensures.items)
    (begin c.args.next.now c.requires.one c.requires.within c.args.seen.now.items c.args.head c.requires.size c.requires.closed c.requires.head.0 c.requires.head.1
    c.requires.head.2)
    in
    record { path = path; head = path.own }

pub on-preserved : goal.on-preserved
on-preserved c = record {
  path = moved c.args.next.now c.requires.one c.requires.within c.args.seen.now.items _ _ _ _ c.in-Some.point c.mark-in-Some.ensures c.in_ok-push-2.ensures.items
      (go_on c.args.next.now c.requires.one c.requires.within c.args.seen.now.items c.on.seen.items c.on.run.items c.on.last c.on.invariant.path c.in-Some.point
      (sym c.in-Some.ensures));
  head = still c.args.next.now c.requires.one c.requires.within c.args.seen.now.items c.on.seen.items c.mark-in-Some.new.seen.items c.on.run.items c.on.last c.in-Some.point c.args.head
      c.on.invariant.path (sym c.in-Some.ensures) c.mark-in-Some.ensures c.on.invariant.head;
}

pub on-smaller : goal.on-smaller
on-smaller c =
    falls c.args.next.now c.requires.one c.requires.within c.args.seen.now.items c.on.seen.items c.mark-in-Some.new.seen.items c.on.run.items c.on.last c.in-Some.point c.on.invariant.path
    (sym c.in-Some.ensures) c.mark-in-Some.ensures

pub returns : goal.returns
returns c = record {
  chain = c.on.invariant.path.chain;
  ends = ap (step c.args.next.now) c.on.invariant.path.ends ∙ sym c.in_default.ensures;
  marked = c.on.invariant.path.marks;
  head = c.on.invariant.head;
  closed = stop c.args.next.now c.requires.one c.requires.within c.args.seen.now.items c.on.seen.items c.on.run.items c.on.last c.on.invariant.path (sym c.in_default.ensures);
  size = c.on.invariant.path.size;
}
