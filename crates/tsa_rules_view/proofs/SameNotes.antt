-- The same is noted of the same points.
use Rattle.std.proofs.Common.{◌≡◌, List, subst}
use Rattle.tsa_tree.specs.declared.kind.Kind.{Kind}
use Rattle.tsa_place_model.specs.Ways.{Way}
use Rattle.tsa_core_points.specs.Points.{PlacedPoint}
use Rattle.tsa_profile_points.specs.Bodies.{Around}
use Rattle.tsa_rules_points.specs.declared.notes.Notes.{Notes}
use Rattle.tsa_rules_points.specs.Notes.{AreNotes}

pub notes_same : (a b : Around) (k l : Kind) (ps : List Way) (qs rs : List PlacedPoint) (n : Notes) → a ≡ b → k ≡ l → qs ≡ rs → AreNotes a k ps qs n → AreNotes b l ps rs n
notes_same a b k l ps qs rs n around kind points h =
    subst (λ xs. AreNotes b l ps xs n) points (subst (λ x. AreNotes b x ps qs n) kind (subst (λ x. AreNotes x k ps qs n) around h))
