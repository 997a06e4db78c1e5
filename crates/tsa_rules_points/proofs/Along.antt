-- Notes along the steps of a walk: what comes of the rest comes of all.
use Rattle.std.proofs.Common.{◌≡◌, ◌∙◌, List, [], ◌++◌, refl, sym, subst, append_assoc}
use Rattle.std.proofs.lemmas.List.{append-nil}
use Rattle.tsa_tree.specs.declared.kind.Kind.{Kind}
use Rattle.tsa_place_model.specs.Ways.{Way}
use Rattle.tsa_core_points.specs.Points.{PlacedPoint}
use Rattle.tsa_profile_points.specs.Bodies.{Around}
use Rattle.tsa_rules_points.specs.declared.notes.Notes.{Notes}
use Rattle.tsa_rules_points.specs.Notes.{AreNotes}

-- What is noted by now, with the points of the steps that are left, is what is noted of all.
abbrev pub Leaves : Around → Kind → List Way → (start now : Notes) → (all left : List PlacedPoint) → Type 0
Leaves a kind paths start now all left = (qs : List PlacedPoint) → AreNotes a kind paths qs start → (rs : List PlacedPoint) × (AreNotes a kind paths rs now × (rs ++ left ≡ qs ++ all))

module _ (a : Around) (kind : Kind) (paths : List Way) where
  pub begins : (start : Notes) (all : List PlacedPoint) → Leaves a kind paths start start all all
  begins start all qs h = (qs, (h, refl))

  pub goes_on : (start now next : Notes) (all step left : List PlacedPoint) → Leaves a kind paths start now all (step ++ left)
      → ((rs : List PlacedPoint) → AreNotes a kind paths rs now → AreNotes a kind paths (rs ++ step) next) → Leaves a kind paths start next all left
  goes_on start now next all step left h one qs noted =
      let x = h qs noted in
      (x.0 ++ step, (one x.0 x.1.0, append_assoc x.0 step left ∙ x.1.1))

  pub ends : (start now : Notes) (all : List PlacedPoint) → Leaves a kind paths start now all [] → (qs : List PlacedPoint) → AreNotes a kind paths qs start → AreNotes a kind paths (qs ++ all) now
  ends start now all h qs noted =
      let x = h qs noted in
      subst (λ ps. AreNotes a kind paths ps now) (sym (append-nil x.0) ∙ x.1.1) x.1.0
