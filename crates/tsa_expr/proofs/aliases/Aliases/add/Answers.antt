use Rattle.std.proofs.Common.{◌∙◌, ap, map}
use Rattle.tsa_expr.specs.TypeNames.{with_name}
use Rattle.tsa_expr.proofs.Names.{names-insert_key}
use Rattle.tsa_expr.proofs.aliases.Aliases.add.Goals as goal

pub returns-clause-added : goal.returns-clause-added
returns-clause-added c =
    ap (map (λ name. name.items)) c.in_ok-insert.ensures.keys
    ∙ names-insert_key (λ name. name.items) c.self.inside.names.keys c.in_ok-name.name
    ∙ ap (λ names. with_name names c.in_ok-name.name.items) c.self.view_is
    ∙ ap (with_name c.args.self.now) (c.in_ok-name.ensures.items_if_clones_equal (λ x y same. same))
