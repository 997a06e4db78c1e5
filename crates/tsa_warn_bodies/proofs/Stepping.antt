-- An item that is the first of those left: it is typed, and the body that is entered is its own.
use Rattle.std.proofs.Common.{◌≡◌, ◌∙◌, List, [], ◌∷◌, ◌++◌, map, Bor, Option, Some, None, sym, refl, subst}
use Rattle.tsa_tree.specs.declarations.Syntax.{Parameter}
use Rattle.tsa_tree.specs.declarations.Shapes.{head_shape}
use Rattle.tsa_tree.specs.declared.item.FnTree.{FnTree}
use Rattle.tsa_tree.specs.declared.stmt.Stmt.{Stmt}
use Rattle.tsa_tree.specs.statements.Shapes.{stmt_shapes}
use Rattle.tsa_tree.specs.types.Premises.{first}
use Rattle.tsa_tree.specs.types.Units.{behind_item, item_premises, items_premises}
use Rattle.tsa_tree.specs.units.Shapes.{HasItsPoints, end_of, function_shape, item_shapes}
use Rattle.tsa_tree.specs.units.Syntax.{UnitItem}
use Rattle.tsa_core.specs.Programs.{declared_by}
use Rattle.tsa_core.proofs.NoFailure.{none_of_both}
use Rattle.tsa_profile_context.specs.Units.{refusal_with}
use Rattle.tsa_profile_context.specs.Units.{unit_of}
use Rattle.tsa_rules_bodies.specs.Entering.{Enters}
use Rattle.tsa_rules_bodies.specs.Knowing.{Knowledge}
use Rattle.tsa_rules_bodies.specs.declared.inside.Inside.{Inside}
use Rattle.tsa_flow.specs.declared.passage.Pass.{Pass}
use Rattle.tsa_warn_bodies.specs.Bodies.{BodyText, body_by, body_text}
use Rattle.tsa_warn_bodies.specs.Courses.{Course, IsInFrontOf, params_by}
use Rattle.tsa_warn_bodies.specs.BodyEntries.{IsBodyAt}
use Rattle.tsa_warn_bodies.proofs.Entering.{body_at}
use Rattle.tsa_warn_bodies.proofs.Limits.{limits_hold}
use Rattle.tsa_warn_bodies.proofs.Reading.{Reading, reading}

abbrev pub course : Knowledge → List (List Parameter) → Course
course known firsts = record { known = known; firsts = firsts }

module _ (s : Pass) where
  abbrev items : List UnitItem
  items = item_shapes s.ground.items.now

  reads : (c : Course) (rest : List UnitItem) → IsInFrontOf items rest c → Reading items c rest
  reads c rest f =
      let fits : refusal_with s.fit.now.outside.items items ≡ None = subst (λ b. refusal_with s.fit.now.outside.items (item_shapes b.now) ≡ None) (s.fits ∙ sym s.judged) s.fit.now.profiled in
      reading items s.ground.typed (limits_hold s.fit.now.outside.items items fits) c rest f

  pub first_typed : (c : Course) (item : UnitItem) (rest : List UnitItem) → IsInFrontOf items (item ∷ rest) c → first (item_premises c.known.here item) ≡ None
  unfolding items_premises
  first_typed c item rest f = (none_of_both (item_premises c.known.here item) (items_premises (behind_item c.known.here item) rest) (reads c (item ∷ rest) f).reads.typed).0

  module _ (tree : FnTree) (c new : Course) (i : Inside) (rest : List UnitItem) where
    abbrev with_body : Option (Bor (List Stmt)) → FnTree
    with_body held = record { name = tree.name; result = tree.result; params = tree.params; attrs = tree.attrs; body = held; points = tree.points }

    abbrev IsEnteredIn : UnitItem → FnTree → Type 0
    IsEnteredIn item f = (b : BodyText) × ((body_by c.known.here item ≡ b ∷ []) × IsBodyAt items b new i f)

    by_body : (held : Option (Bor (List Stmt))) → IsInFrontOf items (function_shape (with_body held) ∷ rest) c → Enters (unit_of [] items) c.known (function_shape (with_body held)) new.known (Some i)
        → new.firsts ≡ c.firsts ++ map params_by (declared_by c.known.here (function_shape (with_body held))) → HasItsPoints (with_body held)
        → IsEnteredIn (function_shape (with_body held)) (with_body held)
    by_body None f e firsts points = absurd e
    by_body (Some body) f e firsts points = (
      body_text c.known.here (head_shape (with_body (Some body))) (stmt_shapes body.now) (end_of tree.points.now),
      (refl, body_at items s.ground.typed c (head_shape (with_body (Some body))) (stmt_shapes body.now) (end_of tree.points.now) rest (reads c _ f) new i (with_body (Some body)) e firsts refl points.0),
    )

    pub entered : (item : UnitItem) → item ≡ function_shape tree → IsInFrontOf items (item ∷ rest) c → Enters (unit_of [] items) c.known item new.known (Some i)
        → new.firsts ≡ c.firsts ++ map params_by (declared_by c.known.here item) → HasItsPoints tree → IsEnteredIn item tree
    entered item is f e firsts points =
        subst (λ x. IsEnteredIn x tree) (sym is)
        (by_body tree.body (subst (λ x. IsInFrontOf items (x ∷ rest) c) is f) (subst (λ x. Enters (unit_of [] items) c.known x new.known (Some i)) is e)
        (subst (λ x. new.firsts ≡ c.firsts ++ map params_by (declared_by c.known.here x)) is firsts) points)
