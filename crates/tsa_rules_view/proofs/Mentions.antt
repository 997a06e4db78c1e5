-- What names a path at a point, and that nothing does where there is no such point.
use Rattle.std.proofs.Common.{◌≡◌, ◌<◌, ◌≤◌, ℕ, List, [], Option, Some, None, option_and_then, slice_get, refl, sym, ap, subst}
use Rattle.std.proofs.lemmas.Option.{slice_get_past}
use Rattle.tsa_place_model.specs.Ways.{Way}
use Rattle.tsa_core.specs.Programs.{Function, Program}
use Rattle.tsa_rules_table.specs.Rows.{mark_in, rows_in}
use Rattle.tsa_rules.specs.Attributes.{all_as_called, named}
use Rattle.tsa_rules.specs.Points.{attrs_at, attrs_called, or_idle, points_of, uses_at}
use Rattle.tsa_rules_view.specs.declared.content.RuleView.{RuleView}
use Rattle.tsa_rules_view.specs.Views.{IsViewOf}

module _ (u : Program) (f : Function) (paths : List Way) (v : RuleView) (h : IsViewOf u f paths v) (point number : ℕ) where
  pub named_there : (c : Way) → slice_get paths number ≡ Some c → point < rows_in v.notes.marks → (mark_in v.notes.marks point number).named ≡ named (attrs_at u f point) c
  named_there c at less = ap (λ x. x.mark.named) (h.cases point number c (subst (λ n. point < n) h.rows less) at)

  none_there : rows_in v.notes.marks ≤ point → attrs_at u f point ≡ []
  none_there past =
      ap (λ o. all_as_called (uses_at f point).arguments (attrs_called u (or_idle o).call))
      (slice_get_past (points_of f) point (subst (λ n. n ≤ point) h.rows past))

  pub named_past : rows_in v.notes.marks ≤ point → None ≡ option_and_then (λ c. named (attrs_at u f point) c) (slice_get paths number)
  named_past past = by (slice_get paths number)
    where
      by : (o : Option Way) → None ≡ option_and_then (λ c. named (attrs_at u f point) c) o
      by None = refl
      by (Some c) = sym (ap (λ attrs. named attrs c) (none_there past))
