use Rattle.std.proofs.Common.{◌∙◌, option_map, ap, sym}
use Rattle.tsa_tree.specs.declarations.Shapes.{init_shape}
use Rattle.tsa_tree.specs.types.Locals.{names_in}
use Rattle.tsa_tree.specs.types.Premises.{first}
use Rattle.tsa_types_simple.proofs.LocalLaws.{names_absent}
use Rattle.tsa_types_simple.proofs.locals.initial_of.Goals as goal

pub returns-in-None-clause-failure : goal.returns-in-None-clause-failure
returns-in-None-clause-failure c =
    sym (ap (λ i. first (names_in c.args.view.scope.now (option_map (λ x. init_shape x.now) i))) c.in-None.is ∙ names_absent c.args.view.scope.now)
