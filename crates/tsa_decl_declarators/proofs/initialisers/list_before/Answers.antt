use Rattle.tsa_decl_declarators.proofs.ValueLaws.{shape-list}
use Rattle.tsa_decl_declarators.proofs.initialisers.list_before.Goals as goal

pub returns-clause-is : goal.returns-clause-is
returns-clause-is c = shape-list c.args.items c.args.span
