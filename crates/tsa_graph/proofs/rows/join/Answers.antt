use Rattle.std.proofs.Common.{rules, ◌≡◌, ◌∙◌, ◌++◌, ap, length, option_map, option_to_list, subst, sym}
use Rattle.tsa_graph.specs.Joining.{AreJoined}
use Rattle.tsa_graph.proofs.Joins.{shorter, next_join, all_joined}
use Rattle.tsa_graph.proofs.rows.join.Goals as goal

pub each-preserved : goal.each-preserved
each-preserved c =
    let taken = c.in-Some.ensures.items in
    let list =
    c.pop-in-Some.ensures.items ∙ ap (λ o. c.pop-in-Some.new.self ++ option_to_list (option_map (λ list. list.items) o)) c.unwrap-list.ensures
    in
    record {
      size = shorter c.each.blocks.items c.pop.new.self.items c.each.exits c.pop-in-Some.new.self c.in-Some.block c.unwrap-list.result.items taken list c.each.invariant.size;
      joined = next_join c.args.blocks.items c.each.blocks.items c.pop.new.self.items c.args.exits c.each.exits c.pop-in-Some.new.self c.each.rows.items c.push.new.self.items
          c.in-Some.block c.unwrap-list.result.items c.with_exits.result taken list c.in_ok-push.ensures.items c.with_exits.ensures c.each.invariant.joined;
    }

pub returns : goal.returns
returns c =
    let none : length c.each.blocks.items ≡ 0 = search rules in
    subst (AreJoined c.args.blocks.items c.args.exits) (sym c.reverse.ensures.items)
    (all_joined c.args.blocks.items c.each.blocks.items c.args.exits c.each.exits c.each.rows.items none c.each.invariant.size c.each.invariant.joined)
