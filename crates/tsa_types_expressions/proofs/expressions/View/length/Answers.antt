use Rattle.std.proofs.Common.{◌∙◌, ap, sym, option_map}
use Rattle.tsa_tree.specs.expressions.Shapes.{shape}
use Rattle.tsa_tree.specs.types.DeclaredTypes.{length_premises}
use Rattle.tsa_tree.specs.types.Premises.{first}
use Rattle.tsa_tree.specs.types.Scopes.{context_of}
use Rattle.tsa_types_expressions.proofs.LengthLaws.{no_length}
use Rattle.tsa_types_expressions.proofs.expressions.View.length.Goals as goal

pub returns-in-None-clause-failure : goal.returns-in-None-clause-failure
returns-in-None-clause-failure c =
    sym (ap (λ l. first (length_premises (context_of c.args.self.scope.now) (option_map (λ x. shape x.now) l))) c.in-None.is ∙ no_length (context_of c.args.self.scope.now))
