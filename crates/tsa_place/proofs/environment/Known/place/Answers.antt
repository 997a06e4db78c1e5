use Rattle.std.proofs.Common.{subst}
use Rattle.tsa_place.specs.Filling.{given, AreLeft, values_by}
use Rattle.tsa_place.proofs.Leaving.{left_before, left_last}
use Rattle.tsa_place.proofs.Rounds.{round_fits, round_made, round_kept, round_earlier, round_smaller}
use Rattle.tsa_place.proofs.Fitting.{alone_fits, many_fit}
use Rattle.tsa_place.proofs.environment.Known.place.Goals as goal

pub thing-requires-clause-fits : goal.thing-requires-clause-fits
thing-requires-clause-fits c = alone_fits c.args.self c.args.rows.now c.args.from c.args.thing c.requires.alone c.requires.fits

pub first-requires-clause-ready : goal.first-requires-clause-ready
first-requires-clause-ready c = record {
  ordered = c.requires.ready.ordered;
  earlier = c.left.invariant.earlier;
  left = left_before c.args.self.structs.now _ _ (subst (AreLeft c.args.self.structs.now) c.in-Some.ensures.items c.left.invariant.left);
}

pub first-requires-clause-some : goal.first-requires-clause-some
first-requires-clause-some c = left_last c.args.self.structs.now _ _ (subst (AreLeft c.args.self.structs.now) c.in-Some.ensures.items c.left.invariant.left)

pub first-requires-clause-fits : goal.first-requires-clause-fits
first-requires-clause-fits c =
    round_fits c.args.self c.args.rows.now.places.items _ (record { places = c.left.rows.places; left = c.pop.new.self }) c.left.rows.left.items c.in-Some.left c.in-Some.ensures.items c.left.invariant.kept c.left.invariant.made
    (many_fit c.args.self.structs.now (values_by c.args.self c.args.rows.now.places.items) (given c.args.from) c.args.rows.now.places.items c.args.thing c.requires.fits)

pub left-smaller : goal.left-smaller
left-smaller c =
    round_smaller c.args.self c.args.rows.now.places.items _ _ c.left.rows.left.items c.in-Some.left c.in-Some.ensures.items c.left.invariant.kept c.left.invariant.made
    c.first.new.rows c.in_ok-first.ensures

pub left-preserved : goal.left-preserved
left-preserved c = record {
  made =
      round_made c.args.self c.args.rows.now.places.items _ _ c.left.rows.left.items c.in-Some.left c.in-Some.ensures.items c.left.invariant.kept c.left.invariant.made
      c.first.new.rows c.in_ok-first.ensures;
  kept =
      round_kept c.args.self c.args.rows.now.places.items _ _ c.left.rows.left.items c.in-Some.left c.in-Some.ensures.items c.left.invariant.kept c.left.invariant.made
      c.first.new.rows c.in_ok-first.ensures;
  earlier =
      round_earlier c.args.self c.args.rows.now.places.items _ _ c.left.rows.left.items c.in-Some.left c.in-Some.ensures.items c.left.invariant.kept c.left.invariant.made
      c.first.new.rows c.in_ok-first.ensures c.left.invariant.earlier;
  left = c.in_ok-first.ensures.left;
}
