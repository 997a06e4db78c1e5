use Rattle.std.proofs.Common.{◌∙◌, ap}
use Rattle.std.specs.List.{list_any}
use Rattle.std.specs.Str.{bytes_eq}
use Rattle.tsa_expr.proofs.Names.{any-names}
use Rattle.tsa_expr.proofs.aliases.Aliases.has.Goals as goal

pub returns-then-not-is_empty : goal.returns-then-not-is_empty
returns-then-not-is_empty c = c.contains.ensures ∙ any-names (λ name. name.items) c.args.text.now c.self.inside.names.keys ∙ ap (list_any (bytes_eq c.args.text.now)) c.self.view_is
