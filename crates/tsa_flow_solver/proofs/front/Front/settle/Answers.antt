use Rattle.std.proofs.Common.{◌<◌, ◌∙◌, Some, length, All, arith, inl, inr, subst, sym}
use Rattle.std.proofs.lemmas.List.Elements.{All-pop}
use Rattle.tsa_flow_solver.specs.Rows.{lane_of}
use Rattle.tsa_flow_solver.proofs.Paid.{falls}
use Rattle.tsa_flow_solver.proofs.Settling.{evenly_first, evenly_on, settling_first, settling_on}
use Rattle.tsa_flow_solver.proofs.front.Front.settle.Goals as goal

pub waiting-init : goal.waiting-init
waiting-init g c = record {
  ready = c.requires.ready;
  lanes = λ lane less. settling_first (g.L.Lanes.enters c.args.lanes.now lane) (g.L.Lanes.cases c.args.lanes.now lane) (g.L.Lanes.points c.args.lanes.now) c.args.blocks.now
      (lane_of c.args.self.now.rows.items lane) c.args.self.now.work.items (c.requires.begun lane less);
  even = λ lane less. evenly_first (g.L.Lanes.enters c.args.lanes.now lane) (g.L.Lanes.cases c.args.lanes.now lane) (g.L.Lanes.points c.args.lanes.now) c.args.blocks.now
      (lane_of c.args.self.now.rows.items lane) c.args.self.now.work.items c.args.self.now.is_even (c.requires.begun lane less);
}

pub waiting-preserved : goal.waiting-preserved
waiting-preserved g c =
    let before = c.waiting.invariant.ready in
    let turned = c.in_ok-turn.ensures.turned in
    let within = (All-pop (λ x. x < length c.args.blocks.now.blocks.items) c.waiting.self.work.items c.pop.new.self.items (Some c.in-Some.number) c.in-Some.ensures.items before.within).0 in
    record {
      ready = record {
        long = turned.paid.long ∙ before.long;
        wide = turned.paid.wide;
        small = turned.paid.small before.small;
        within = subst (λ m. All (λ x. x < m) c.turn.new.self.work.items) before.long (turned.paid.within (subst (λ m. All (λ x. x < m) c.pop.new.self.items) (sym before.long) within));
      };
      lanes = λ lane less.
          settling_on (g.L.Lanes.enters c.args.lanes.now lane) (g.L.Lanes.cases c.args.lanes.now lane) (g.L.Lanes.points c.args.lanes.now) c.args.blocks.now (lane_of c.args.self.now.rows.items lane)
          (lane_of c.waiting.self.rows.items lane) (lane_of c.turn.new.self.rows.items lane) c.in-Some.number c.waiting.self.work.items c.pop.new.self.items c.turn.new.self.work.items c.in-Some.ensures.items
          turned.paid.keeps (c.waiting.invariant.lanes lane less) (λ are. turned.lanes lane are less);
      even = λ lane less.
          evenly_on (g.L.Lanes.enters c.args.lanes.now lane) (g.L.Lanes.cases c.args.lanes.now lane) (g.L.Lanes.points c.args.lanes.now) c.args.blocks.now (lane_of c.args.self.now.rows.items lane)
          (lane_of c.waiting.self.rows.items lane) (lane_of c.turn.new.self.rows.items lane) c.in-Some.number c.waiting.self.work.items c.pop.new.self.items c.turn.new.self.work.items
          c.waiting.self.is_even c.turn.new.self.is_even c.in-Some.ensures.items
          turned.paid.keeps (c.waiting.invariant.lanes lane less) (c.waiting.invariant.even lane less) (λ are. turned.lanes lane are less) (λ are. c.in_ok-turn.ensures.even lane are less);
    }

pub waiting-smaller : goal.waiting-smaller
waiting-smaller g c =
    let turned = c.in_ok-turn.ensures.turned in
    falls (g.L.Lanes.count c.args.lanes.now) c.waiting.self.rows.items c.turn.new.self.rows.items c.in-Some.number c.waiting.self.work.items c.pop.new.self.items c.turn.new.self.work.items
    (turned.paid.small c.waiting.invariant.ready.small) turned.paid c.in-Some.ensures.items

pub returns-clause-more : goal.returns-clause-more
returns-clause-more g c es lane are less = (c.waiting.invariant.lanes lane less).more es are

pub returns-clause-sound : goal.returns-clause-sound
returns-clause-sound g c es lane are less = (c.waiting.invariant.lanes lane less).sound es are

pub returns-clause-closed : goal.returns-clause-closed
returns-clause-closed g c es lane are less k b at =
    elim ((c.waiting.invariant.lanes lane less).waits es are k b at) [
      | inl waits ↦ absurd (let none = c.in_default.ensures.cases.0 in let size = c.waiting.self.work.ok.0 in omega (arith, waits.1, none, size))
      | inr closed ↦ closed
    ]

pub returns-clause-even : goal.returns-clause-even
returns-clause-even g c es lane are less e = record {
  entered = (c.waiting.invariant.even lane less).entered es are e;
  all = λ k b at. elim ((c.waiting.invariant.even lane less).waits es are e k b at) [
    | inl waits ↦ absurd (let none = c.in_default.ensures.cases.0 in let size = c.waiting.self.work.ok.0 in omega (arith, waits.1, none, size))
    | inr even ↦ even
  ];
}
