use Rattle.tsa_rules_roles.proofs.VariablePlaces.{passed}
use Rattle.tsa_rules_roles.proofs.roles.Roles.add.Goals as goal

pub invariant_of-self-2 : goal.invariant_of-self-2
invariant_of-self-2 c =
    passed c.args.self.now c.self.inside.duties.items c.push.new.self.items c.self.inside.variables.items c.self.inside.tries c.args.duty c.self.invariant c.self.view_is
    c.in_ok-next_point.ensures.room c.requires c.in_ok-push.ensures.items
