use Rattle.std.proofs.Common.{◌∙◌, ap}
use Rattle.tsa_path.specs.PathTables.{is_known}
use Rattle.tsa_path.proofs.Keys.{known_is}
use Rattle.tsa_path.proofs.table.PathTable.is_known.Goals as goal

pub returns : goal.returns
returns c = c.contains.ensures ∙ known_is c.args.key.now c.self.inside.keys.keys ∙ ap (λ ways. is_known ways c.args.key.now.path) c.self.view_is
