use Rattle.std.proofs.Common.{◌∙◌, ap}
use Rattle.std.specs.Str.{bytes_eq}
use Rattle.tsa_tree.specs.types.Scopes.{found}
use Rattle.tsa_types_scope.proofs.NameLists.{lookup-seen}
use Rattle.tsa_types_scope.proofs.names.Names.get.Goals as goal

pub returns : goal.returns
returns g c =
    c.copied.ensures ∙ c.get.ensures.value ∙ lookup-seen (λ k. k.now) (bytes_eq c.args.text.now) c.self.inside.entries.entries
    ∙ ap (λ names. found names c.args.text.now) c.self.view_is
