use Rattle.std.proofs.Common.{◌∙◌, option_map, ap}
use Rattle.std.specs.Str.{bytes_eq}
use Rattle.tsa_tree.specs.types.Scopes.{found}
use Rattle.tsa_trace.specs.Views.{spans_of}
use Rattle.tsa_trace.proofs.TableLists.{lookup-shown}
use Rattle.tsa_trace.proofs.table.Table.find.Goals as goal

pub returns : goal.returns
returns c =
    ap (option_map (λ points. spans_of points.now)) (c.copied.ensures ∙ c.get.ensures.value)
    ∙ lookup-shown (λ k. k.now) (λ v. spans_of v.now) (bytes_eq c.args.name.now) c.self.inside.entries.entries
    ∙ ap (λ table. found table c.args.name.now) c.self.view_is
