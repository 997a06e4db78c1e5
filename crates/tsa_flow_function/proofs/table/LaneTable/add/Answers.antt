use Rattle.std.proofs.Common.{◌∙◌, ◌++◌, ◌∷◌, [], ap, refl}
use Rattle.tsa_flow_function.proofs.table.LaneTable.add.Goals as goal

pub returns : goal.returns
returns c = record {
  lane = c.in_ok-lane.lane;
  mid = c.lane_of.new.self;
  found = c.in_ok-lane.ensures.found;
  caps = refl;
  idle = refl;
  numbers = c.in_ok-push.ensures.items ∙ ap (λ xs. xs ++ c.in_ok-lane.lane ∷ []) c.in_ok-lane.ensures.numbers;
}
