-- What a point uses are accesses of the cells that its terms load and set.
use Rattle.std.proofs.Common.{◌≡◌, ℕ, Bool, true, false, List, [], ◌∷◌, ◌++◌, All, slice_index_or, Option, Some, None, refl, subst}
use Rattle.tsa_tree.specs.declarations.Syntax.{Initialiser, value, list}
use Rattle.tsa_tree.specs.points.Syntax.{Deed, declares, evaluates, assigns, tests, switches, jumps, idles, returns, ends}
use Rattle.tsa_tree.specs.expressions.Sound.{all_words}
use Rattle.tsa_tree.specs.types.Scopes.{Scope}
use Rattle.tsa_place_model.specs.Calls.{Layout}
use Rattle.tsa_core.proofs.BodyScopes.{BeginsIn, unit_begins}
use Rattle.tsa_core.proofs.FactsKnown.{FactsAt, each_both, all_facts}
use Rattle.tsa_core.proofs.JustLoads.{deed_loads_just}
use Rattle.tsa_core.proofs.PointLoads.{deed_loads}
use Rattle.tsa_core.proofs.PointsHold.{each_all}
use Rattle.tsa_core.proofs.ScopesBelong.{scopes_belong}
use Rattle.tsa_core.proofs.SignaturesFit.{SpellableBody, body_spellable}
use Rattle.tsa_core.specs.Bodies.{knows, known_all, known_in_body}
use Rattle.tsa_core.specs.PointLoads.{init_cells, right_cells, written_cells, cells_inside, cells_before, UsesAreOfCells, LoadsAgree}
use Rattle.tsa_core.specs.PointLoads.{LoadsJustThose, PointsLoadTheirCells, PointsLoadJustThose}
use Rattle.tsa_core.specs.Uses.{accesses, init_uses, uses_by}
use Rattle.tsa_core.specs.Programs.{Bodied, bodied_function}
use Rattle.tsa_place_model.specs.Leading.{HasPlaces}
use Rattle.tsa_tree.specs.types.DeclaredTypes.{thing_type}
use Rattle.tsa_tree.specs.types.Runnable.{Runnable}
use Rattle.tsa_tree.specs.types.Units.{outset}
use Rattle.tsa_tree.specs.units.Sound.{SpellableItems}
use Rattle.tsa_tree.specs.units.Syntax.{UnitItem}

module _ (l : Layout) (stable : ℕ → Bool) (here : Scope) where
  abbrev AreOfCells : Deed → Type 0
  AreOfCells d =
      ((uses_by l stable here d).right ≡ accesses l stable here false (right_cells here d))
      × ((uses_by l stable here d).left
      ≡ accesses l stable here false (cells_before here d) ++ (accesses l stable here true (written_cells here d) ++ accesses l stable here false (cells_inside here d)))

  init_of_cells : (init : Option Initialiser)
      → ((init_uses l stable here init).right ≡ accesses l stable here false (init_cells here init)) × ((init_uses l stable here init).left ≡ [])
  init_of_cells None = (refl, refl)
  init_of_cells (Some (value e)) = (refl, refl)
  init_of_cells (Some (list items span)) = (refl, refl)

  of_cells : (d : Deed) → AreOfCells d
  of_cells (declares d) = init_of_cells d.init
  of_cells (evaluates e) = (refl, refl)
  of_cells (assigns left op right) = (refl, refl)
  of_cells (tests None) = (refl, refl)
  of_cells (tests (Some e)) = (refl, refl)
  of_cells (switches e) = (refl, refl)
  of_cells jumps = (refl, refl)
  of_cells idles = (refl, refl)
  of_cells (returns None) = (refl, refl)
  of_cells (returns (Some e)) = (refl, refl)
  of_cells ends = (refl, refl)

pub uses_are_of_cells : UsesAreOfCells
uses_are_of_cells l stable k = of_cells l stable k.here k.deed

module _ (items : List UnitItem) (name : List ℕ) (b : Bodied) (l : Layout) (sound : SpellableItems items) (runs : Runnable items) (placed : HasPlaces items l)
    (is : bodied_function name (outset items) items ≡ Some b) where
  begun : BeginsIn b l
  begun = unit_begins items name b l runs placed is

  text : SpellableBody b
  text = body_spellable name b (outset items) items sound is

  facts : All (FactsAt all_words begun.around.result) (known_in_body b.here b.body)
  facts =
      each_all (FactsAt all_words begun.around.result) (known_in_body b.here b.body)
      (each_both (FactsAt all_words begun.around.result) (known_all b.here b.body) (knows b.here ends ∷ [])
      (all_facts all_words begun.around.result begun.around b.here b.body refl begun.typed begun.runs text) (tt, tt))

  agree : All (LoadsAgree begun.around.result.kind) (known_in_body b.here b.body)
  agree n d less =
      let k = slice_index_or (known_in_body b.here b.body) n d in
      deed_loads k.here (scopes_belong items name b l None runs placed is n d less).none_owned all_words begun.around.result k.deed (facts n d less)

  just : All (LoadsJustThose begun.around.result.kind) (known_in_body b.here b.body)
  just n d less x =
      let k = slice_index_or (known_in_body b.here b.body) n d in
      deed_loads_just k.here all_words begun.around.result x k.deed (facts n d less) (agree n d less)

  points_agree : All (LoadsAgree (thing_type b.here b.head.result).kind) (known_in_body b.here b.body)
  points_agree = subst (λ r. All (LoadsAgree r) (known_in_body b.here b.body)) begun.result agree

  points_just : All (LoadsJustThose (thing_type b.here b.head.result).kind) (known_in_body b.here b.body)
  points_just = subst (λ r. All (LoadsJustThose r) (known_in_body b.here b.body)) begun.result just

pub points_load_cells : PointsLoadTheirCells
points_load_cells items name b l sound runs placed is = points_agree items name b l sound runs placed is

pub points_load_just : PointsLoadJustThose
points_load_just items name b l sound runs placed is = points_just items name b l sound runs placed is
