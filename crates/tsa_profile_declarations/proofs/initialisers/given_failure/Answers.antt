use Rattle.std.proofs.Common.{◌∙◌, sym, ap}
use Rattle.std.specs.Prelude.{option_map}
use Rattle.tsa_tree.specs.declarations.Shapes.{init_shape}
use Rattle.tsa_profile_accesses.specs.Premises.{first}
use Rattle.tsa_profile_accesses.specs.NodeAnswers.{view_of}
use Rattle.tsa_profile_declarations.specs.Declarations.{given_init}
use Rattle.tsa_profile_declarations.proofs.Firsts.{nothing_fails}
use Rattle.tsa_profile_declarations.proofs.initialisers.given_failure.Goals as goal

pub returns-in-None : goal.returns-in-None
returns-in-None c = sym (ap (λ i. first (given_init (view_of c.args.body) (option_map init_shape i))) c.in-None.is ∙ nothing_fails)
