use Rattle.std.proofs.Common.{rules, ◌≡◌, ◌∙◌, Bool, true, false, nat_eq, ℕ, is_some, ap, refl}
use Rattle.std.specs.Option.{unwrap_or}
use Rattle.indexmap.specs.Entry.{map_with_value}
use Rattle.indexmap.specs.IndexMap.{insert_entry}
use Rattle.tsa_tree.specs.types.Targets.{Cases, case_at, or_case, with_case}
use Rattle.tsa_types_scope.proofs.NameLists.{or_further, insert_once}
use Rattle.tsa_types_scope.proofs.cases.Cases.note.Goals as goal

as_cases : (known : Bool) (n at : ℕ) (cases : Cases) → or_further known cases (n, at) ≡ or_case known n at cases
as_cases true n at cases = refl
as_cases false n at cases = refl

pub returns-clause-noted : goal.returns-clause-noted
returns-clause-noted c =
    let before = c.self.inside.entries.entries in
    let behind : _ ≡ (map_with_value c.in_ok-self-inside.field-0 c.or_insert.result.now).entries = search rules in
    behind
    ∙ c.in_ok-self-inside.ensures.update.1 c.or_insert.result.now
    ∙ ap (insert_entry nat_eq before c.args.value) (c.or_insert.ensures.value ∙ ap (λ o. unwrap_or o c.args.place) c.in_ok-self-inside.ensures.value)
    ∙ insert_once nat_eq c.args.value before c.args.place
    ∙ as_cases (is_some (case_at before c.args.value)) c.args.value c.args.place before
    ∙ ap (with_case c.args.value c.args.place) c.self.view_is
