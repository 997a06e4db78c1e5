use Rattle.std.proofs.Common.{arith}
use Rattle.tsa_rules_roles.proofs.VariablePlaces.{declared, next_fits}
use Rattle.tsa_rules_roles.proofs.roles.Roles.declare.Goals as goal

pub overflow_add-self : goal.overflow_add-self
overflow_add-self c = omega (arith, next_fits c.args.self.now c.in_ok-variable.variable c.in_ok-variable.ensures.variable c.in_ok-variable.ensures.room)

pub invariant_of-self-2 : goal.invariant_of-self-2
invariant_of-self-2 c =
    declared c.args.self.now c.self.inside.duties.items c.push.new.self.items c.self.inside.variables.items c.make_room.new.variables.items c.put.new.variables.items c.self.inside.tries
    c.args.local c.in_ok-variable.variable c.self.invariant c.self.view_is c.in_ok-variable.ensures.room c.in_ok-variable.ensures.variable c.in_ok-make_room.ensures.room
    c.in_ok-make_room.ensures.same c.in_ok-push.ensures.items c.put.ensures
