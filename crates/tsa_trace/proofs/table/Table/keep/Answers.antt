use Rattle.std.proofs.Common.{rules, ◌≡◌, ◌∙◌, is_some, sym, ap}
use Rattle.std.specs.Option.{unwrap_or}
use Rattle.std.specs.Str.{bytes_eq}
use Rattle.indexmap.specs.Entry.{map_with_value}
use Rattle.indexmap.specs.IndexMap.{insert_entry}
use Rattle.tsa_tree.specs.types.Scopes.{found}
use Rattle.tsa_types_scope.proofs.NameLists.{or_further, insert_once}
use Rattle.tsa_trace.specs.Views.{spans_of}
use Rattle.tsa_trace.specs.Tables.{unless_known}
use Rattle.tsa_trace.proofs.TableLists.{table_of, lookup-shown, some_mapped, further_shown}
use Rattle.tsa_trace.proofs.table.Table.keep.Goals as goal

pub returns : goal.returns
returns c =
    let before = c.self.inside.entries.entries in
    let name = c.args.name in
    let points = c.args.points in
    let after : _ ≡ (map_with_value c.in_ok-self-inside.field-0 c.or_insert.result.now).entries = search rules in
    let behind =
    c.in_ok-self-inside.ensures.update.1 c.or_insert.result.now
    ∙ ap (insert_entry (λ a b. bytes_eq a.now b.now) before name) (c.or_insert.ensures.value ∙ ap (λ o. unwrap_or o points) c.in_ok-self-inside.ensures.value)
    ∙ insert_once (λ a b. bytes_eq a.now b.now) name before points in
    let known =
    sym (some_mapped (λ v. spans_of v.now) _)
    ∙ ap is_some (lookup-shown (λ k. k.now) (λ v. spans_of v.now) (bytes_eq name.now) before ∙ ap (λ table. found table name.now) c.self.view_is) in
    ap (table_of (λ k. k.now) (λ v. spans_of v.now)) (after ∙ behind ∙ ap (λ b. or_further b before (name, points)) known)
    ∙ further_shown (λ k. k.now) (λ v. spans_of v.now) (is_some (found c.args.self.now name.now)) before name points
    ∙ ap (unless_known (is_some (found c.args.self.now name.now)) name.now (spans_of points.now)) c.self.view_is
