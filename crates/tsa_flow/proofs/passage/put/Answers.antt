use Rattle.std.proofs.Common.{◌∙◌}
use Rattle.tsa_flow.proofs.Room.{put_elsewhere, put_there}
use Rattle.tsa_flow.proofs.passage.put.Goals as goal

pub returns : goal.returns
returns c = record {
  own = put_there c.args.flow c.make_room.new.flows.items c.args.number c.in_ok-make_room.ensures.long;
  others = λ m other. put_elsewhere c.args.flow c.make_room.new.flows.items c.args.number m other ∙ c.in_ok-make_room.ensures.same m;
}
