use Rattle.std.proofs.Common.{◌≡◌, ◌∙◌, nat_lt, true, sym, arith, true≢false}
use Rattle.std.proofs.lemmas.Bool.Decides.{nat_tests}
use Rattle.tsa_flow_solver.specs.Rows.{flags_of}
use Rattle.tsa_flow_solver.proofs.Meeting.{agrees_behind, agrees_here, disagrees_here, no_point}
use Rattle.tsa_flow_solver.proofs.sets.Reached.agree.Goals as goal

pub returns-then-place-gt0-clause-is : goal.returns-then-place-gt0-clause-is
returns-then-place-gt0-clause-is c n es count enters cases are reached within less =
    let some = c.if-place-gt0.true in
    let test : nat_lt 0 c.in-Some.place.index ≡ true = grind (arith, nat_tests) in
    (λ t. agrees_behind n es (enters c.args.spot.lane) (cases c.args.spot.lane) c.args.blocks.now are c.args.spot.point c.in-Some.place (sym c.in-Some.ensures.is) some, λ agree. test)

pub returns-then-place-gt0-clause-differ : goal.returns-then-place-gt0-clause-differ
returns-then-place-gt0-clause-differ c n es count enters cases are reached within less other =
    let some = c.if-place-gt0.true in
    let test : nat_lt 0 c.in-Some.place.index ≡ true = grind (arith, nat_tests) in
    absurd (true≢false (sym test ∙ other))

pub returns-else-place-gt0-clause-is : goal.returns-else-place-gt0-clause-is
returns-else-place-gt0-clause-is c n es count enters cases are reached within less =
    let here = agrees_here n es (enters c.args.spot.lane) (cases c.args.spot.lane) c.args.blocks.now are (flags_of c.args.self.now.joins.agreeing.items c.args.spot.lane)
    (reached.joins c.args.spot.lane less).agrees c.args.spot.point c.in-Some.place (sym c.in-Some.ensures.is) c.if-place-gt0.false in
    (λ t. here.0 (sym c.flag.ensures ∙ t), λ agree. c.flag.ensures ∙ here.1 agree)

pub returns-else-place-gt0-clause-differ : goal.returns-else-place-gt0-clause-differ
returns-else-place-gt0-clause-differ c n es count enters cases are reached within less other =
    disagrees_here n es (enters c.args.spot.lane) (cases c.args.spot.lane) c.args.blocks.now are (flags_of c.args.self.now.joins.agreeing.items c.args.spot.lane)
    (reached.joins c.args.spot.lane less).disagrees c.args.spot.point c.in-Some.place (sym c.in-Some.ensures.is) c.if-place-gt0.false (sym c.flag.ensures ∙ other)

pub returns-in-None-clause-is : goal.returns-in-None-clause-is
returns-in-None-clause-is c n es count enters cases are reached within less =
    absurd (no_point n es (enters c.args.spot.lane) (cases c.args.spot.lane) c.args.blocks.now are c.args.spot.point within (sym c.in-None.ensures.is))

pub returns-in-None-clause-differ : goal.returns-in-None-clause-differ
returns-in-None-clause-differ c n es count enters cases are reached within less other =
    absurd (no_point n es (enters c.args.spot.lane) (cases c.args.spot.lane) c.args.blocks.now are c.args.spot.point within (sym c.in-None.ensures.is))
