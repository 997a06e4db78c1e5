use Rattle.std.proofs.Common.{subst}
use Rattle.tsa_place_model.specs.Standing.{IsOrdered}
use Rattle.tsa_place_layout.proofs.Tables.{found_at, missing_at}
use Rattle.tsa_place_layout.proofs.structures.Structures.defined.Goals as goal

pub returns-in-Some-clause-found : goal.returns-in-Some-clause-found
returns-in-Some-clause-found c =
    let found = c.in-Some.ensures.lookup in
    found_at c.args.self.now c.self.inside.list.items c.deref.result.now c.args.structure c.self.view_is c.deref.ensures.value c.self.invariant c.in-Some.defined.now found.3.0 found.1

pub returns-in-None-clause-found : goal.returns-in-None-clause-found
returns-in-None-clause-found c = missing_at c.args.self.now c.self.inside.list.items c.deref.result.now c.args.structure c.self.view_is c.deref.ensures.value c.in-None.ensures.lookup.3

pub returns-in-Some-clause-ordered : goal.returns-in-Some-clause-ordered
returns-in-Some-clause-ordered c = subst IsOrdered c.self.view_is c.self.invariant.ordered

pub returns-in-None-clause-ordered : goal.returns-in-None-clause-ordered
returns-in-None-clause-ordered c = subst IsOrdered c.self.view_is c.self.invariant.ordered
