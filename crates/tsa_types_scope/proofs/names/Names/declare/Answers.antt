use Rattle.std.proofs.Common.{rules, ◌≡◌, ◌∙◌, ◌++◌, ◌∷◌, [], map, length, is_some, ap}
use Rattle.std.proofs.lemmas.List.{map-append}
use Rattle.std.specs.Option.{unwrap_or}
use Rattle.std.specs.Str.{bytes_eq}
use Rattle.indexmap.specs.Entry.{map_with_value}
use Rattle.indexmap.specs.IndexMap.{insert_entry}
use Rattle.tsa_tree.specs.types.Scopes.{found}
use Rattle.tsa_types_scope.proofs.NameLists.{lookup-seen, or_further, insert_once, longer, further, kept}
use Rattle.tsa_types_scope.proofs.names.Names.declare.Goals as goal

-- the entries where the name gets a meaning, if it has none
behind : (g : _) (c : goal.After-len g) →
    (map_with_value c.in_ok-self-inside.field-0 c.or_insert.result.now).entries
    ≡ or_further (is_some (found c.args.self.now c.args.text.now)) c.self.inside.entries.entries (c.args.text, c.args.entry)
behind g c =
    let before = c.self.inside.entries.entries in
    c.in_ok-self-inside.ensures.update.1 c.or_insert.result.now
    ∙ ap (insert_entry (λ a b. bytes_eq a.now b.now) before c.args.text) (c.or_insert.ensures.value ∙ ap (λ o. unwrap_or o c.args.entry) c.in_ok-self-inside.ensures.value)
    ∙ insert_once (λ a b. bytes_eq a.now b.now) c.args.text before c.args.entry
    ∙ ap (λ o. or_further (is_some o) before (c.args.text, c.args.entry)) (lookup-seen (λ k. k.now) (bytes_eq c.args.text.now) before ∙ ap (λ names. found names c.args.text.now) c.self.view_is)

pub returns-clause-fresh : goal.returns-clause-fresh
returns-clause-fresh g c =
    let after : _ ≡ (map_with_value c.in_ok-self-inside.field-0 c.or_insert.result.now).entries = search rules in
    longer c.self.inside.entries.entries (c.args.text, c.args.entry) c.len-known.result c.len.result c.len-known.ensures.len
    (is_some (found c.args.self.now c.args.text.now)) (c.len.ensures.len ∙ ap length (after ∙ behind g c))

pub returns-clause-added : goal.returns-clause-added
returns-clause-added g c fresh =
    let before = c.self.inside.entries.entries in
    let after : _ ≡ (map_with_value c.in_ok-self-inside.field-0 c.or_insert.result.now).entries = search rules in
    ap (map (λ e. (e.0.now, e.1))) (after ∙ behind g c
    ∙ further before (c.args.text, c.args.entry) c.len-known.result c.len.result c.len-known.ensures.len
    (is_some (found c.args.self.now c.args.text.now)) (c.len.ensures.len ∙ ap length (after ∙ behind g c)) fresh)
    ∙ map-append (λ e. (e.0.now, e.1)) before ((c.args.text, c.args.entry) ∷ [])
    ∙ ap (λ names. names ++ (c.args.text.now, c.args.entry) ∷ []) c.self.view_is

pub returns-clause-kept : goal.returns-clause-kept
returns-clause-kept g c fresh =
    let after : _ ≡ (map_with_value c.in_ok-self-inside.field-0 c.or_insert.result.now).entries = search rules in
    ap (map (λ e. (e.0.now, e.1))) (after ∙ behind g c
    ∙ kept c.self.inside.entries.entries (c.args.text, c.args.entry) c.len-known.result c.len.result c.len-known.ensures.len
    (is_some (found c.args.self.now c.args.text.now)) (c.len.ensures.len ∙ ap length (after ∙ behind g c)) fresh)
    ∙ c.self.view_is
