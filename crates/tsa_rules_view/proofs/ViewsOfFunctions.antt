-- A view that is made of a body is that of the function for which the body stands.
use Rattle.std.proofs.Common.{◌≡◌, ◌∙◌, ◌<◌, ◌++◌, ℕ, arith, List, [], None, refl, sym, ap, ap₂, subst}
use Rattle.tsa_base.specs.declared.token.Span.{Span}
use Rattle.tsa_tree.specs.declarations.Shapes.{head_shape}
use Rattle.tsa_tree.specs.types.DeclaredTypes.{thing_type}
use Rattle.tsa_tree.specs.units.Syntax.{UnitItem}
use Rattle.tsa_place_model.specs.Ways.{Way}
use Rattle.tsa_core.specs.Programs.{program_of}
use Rattle.tsa_path.specs.PathTables.{AreDifferent}
use Rattle.tsa_core_points.specs.Walks.{placed_in_body, points_along, walk}
use Rattle.tsa_core_points.proofs.Passing.{body_steps_are_the_points}
use Rattle.tsa_core_points.specs.Steps.{body_steps}
use Rattle.tsa_rules.specs.Sets.{pending_places}
use Rattle.tsa_rules_roles.specs.Roles.{tries_in}
use Rattle.tsa_rules_table.specs.Notes.{IsRow}
use Rattle.tsa_rules_points.specs.declared.notes.Noted.{Noted}
use Rattle.tsa_rules_points.specs.Notes.{AreNotes}
use Rattle.tsa_rules_bodies.specs.declared.Inside.{Inside}
use Rattle.tsa_profile_accesses.specs.Expressions.{attributes_at}
use Rattle.tsa_rules_bodies.specs.Entering.{IsOf}
use Rattle.tsa_rules_bodies.specs.Knowing.{Knowledge}
use Rattle.tsa_rules_bodies.specs.Laws.{result_at}
use Rattle.tsa_rules_bodies.specs.Sites.{Site, within}
use Rattle.tsa_rules_bodies.specs.Units.{unit_of}
use Rattle.tsa_rules_view.specs.declared.build.Unit.{Unit}
use Rattle.tsa_rules_view.specs.declared.content.RuleView.{RuleView}
use Rattle.tsa_rules_view.specs.BodyViews.{HasFewTries, IsMade, IsNoted, IsWhole, around_in, points_in, result_in}
use Rattle.tsa_rules_view.specs.Parts.{kinds_along, param_kinds}
use Rattle.tsa_rules_view.proofs.SameNotes.{notes_same}
use Rattle.tsa_rules_view.proofs.BodyViews.{is_view, roles_noted}

-- what is noted of a body is noted of the points of its function
module _ (u : Unit) (k : Knowledge) (i : Inside) (paths : List Way) (noted : Noted) (items : List UnitItem) (n : ℕ) (s : Site) where
  abbrev close : Span
  close = i.head.now.name.span

  noted_there : IsOf (unit_of [] items) n s k i → IsNoted u k i paths noted → AreNotes (around_in u k i) (result_at s) paths (placed_in_body (within s) s.body close) noted.notes
  noted_there of is =
      let steps : points_in k i ≡ placed_in_body (within s) s.body close =
      ap₂ (λ h ss. points_along (walk h []) (body_steps ss close)) of.here of.body_is ∙ (body_steps_are_the_points (within s) [] s.body close).0
      in
      let kind : result_in k i ≡ result_at s = ap₂ (λ h d. (thing_type h d.result).kind) of.here of.head_is in
      notes_same (around_in u k i) (around_in u k i) (result_in k i) (result_at s) paths (points_in k i) (placed_in_body (within s) s.body close) noted.notes refl kind steps is.notes

-- few try variables of the function begin there
pub few_noted : (u : Unit) (k : Knowledge) (i : Inside) (paths : List Way) (noted : Noted) → IsNoted u k i paths noted → HasFewTries u k i
    → tries_in noted.notes.roles < pending_places
few_noted u k i paths noted is_noted h =
    let there = noted_there u k i paths noted h.items h.number h.site h.is_of is_noted in
    let roles =
    roles_noted h.items h.number h.function h.site h.stands (around_in u k i) i.head.now.name.span h.layout h.is_of.attributes h.is_of.stable paths noted.notes there
    in
    let count = roles.count in
    let few = h.few in omega (arith, count, few)

module _ (u : Unit) (k : Knowledge) (i : Inside) (paths : List Way) (noted : Noted) (v : RuleView) where
  pub made : IsNoted u k i paths noted → IsWhole u k i noted v → IsMade u k i paths v
  made is whole items n f s layout_is kinds_are of stands different =
      let close = i.head.now.name.span in
      let here : k.here ≡ within s = of.here in
      let head : head_shape i.head.now ≡ s.head = of.head_is in
      let notes : AreNotes (around_in u k i) (result_at s) paths (placed_in_body (within s) s.body close) v.notes =
      subst (AreNotes (around_in u k i) (result_at s) paths (placed_in_body (within s) s.body close)) (sym whole.notes) (noted_there u k i paths noted items n s of is)
      in
      let locals_in = param_kinds k.here (head_shape i.head.now).params ++ noted.notes.kinds.items in
      let locals =
      ap₂ (λ h d. param_kinds h d.params ++ noted.notes.kinds.items) here head
      ∙ ap (λ m. param_kinds (within s) s.head.params ++ m.kinds.items) (sym whole.notes)
      in
      let kinds =
      whole.kinds
      ∙ ap₂ (λ ks l. kinds_along ks l locals_in noted.numbers) kinds_are layout_is
      ∙ ap (kinds_along (program_of items).locks (program_of items).layout locals_in) is.numbers
      in
      let attributes : attributes_at k.attributes i.number ≡ f.attrs = ap₂ attributes_at of.attributes of.number ∙ sym stands.attributes in
      let own_row =
      subst (λ attrs. IsRow paths v.own 0 attrs [] [] None) attributes
      (subst (λ ps. IsRow ps v.own 0 (attributes_at k.attributes i.number) [] [] None) is.numbers (whole.own (subst AreDifferent (sym is.numbers) different)))
      in
      is_view items n f s stands (around_in u k i) close layout_is of.attributes of.stable paths different v notes locals_in locals kinds own_row
      (whole.numbers ∙ is.numbers)
