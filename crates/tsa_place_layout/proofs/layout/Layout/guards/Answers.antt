use Rattle.std.proofs.Common.{arith, refl, ◌≡◌, ◌∙◌, ◌++◌, length, ap}
use Rattle.tsa_place_model.specs.Calls.{own_guards}
use Rattle.tsa_place_layout.proofs.WayLists.{guards_first, guards_next}
use Rattle.tsa_place_layout.proofs.layout.Layout.guards.Goals as goal

pub inward-init : goal.inward-init
inward-init c =
    let size : c.len-left.result ≡ length c.in_ok-way.way.items = c.len-left.ensures ∙ c.in_ok-way.way.ok.0 in
    record {
      told = guards_first c.args.self.now c.in_ok-way.way.items c.new-guards.result.items c.len-left.result c.new-guards.ensures.items (omega (arith, size));
      within = omega (arith, size);
    }

pub inward-preserved : goal.inward-preserved
inward-preserved c =
    record {
      told =
          guards_next c.args.self.now c.in_ok-way.way.items c.inward.left _ c.inward.guards.items c.add_guards.new.guards.items _ refl c.inward-test.true c.inward.invariant.within c.inward.invariant.told
          (c.in_ok-add_guards.ensures ∙ ap (λ p. c.inward.guards.items ++ own_guards c.args.self.now p) c.index.ensures);
      within = omega (arith, c.inward.invariant.within);
    }
