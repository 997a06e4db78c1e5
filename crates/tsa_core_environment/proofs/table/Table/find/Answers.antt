use Rattle.std.proofs.Common.{◌∙◌, option_map, ap}
use Rattle.std.specs.Str.{bytes_eq}
use Rattle.tsa_tree.specs.types.Scopes.{found}
use Rattle.tsa_core_environment.proofs.TableLists.{lookup-shown, seen_items}
use Rattle.tsa_core_environment.proofs.table.Table.find.Goals as goal

pub returns : goal.returns
returns c =
    seen_items (λ v. v.items) c.get.result ∙ ap (option_map (λ v. v.items)) c.get.ensures.value ∙ lookup-shown (λ k. k.now) (λ v. v.items) (bytes_eq c.args.name.now) c.self.inside.entries.entries
    ∙ ap (λ table. found table c.args.name.now) c.self.view_is
