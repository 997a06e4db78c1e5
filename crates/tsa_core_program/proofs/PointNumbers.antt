-- The numbers of points in the row of a body are those of the points of the core program.
use Rattle.std.proofs.Common.{◌≡◌, ◌∙◌, ℕ, ◌+◌, Bool, true, false, List, [], ◌∷◌, ◌++◌, map, drop, Option, Some, if◌then◌else◌, refl, sym, ap, ap₂}
use Rattle.std.proofs.Math.Numerals.{add-one}
use Rattle.std.proofs.lemmas.List.{map-append}
use Rattle.tsa_base.specs.declared.token.Span.{Span}
use Rattle.tsa_tree.specs.declared.kind.ExpressionType.{ExpressionType}
use Rattle.tsa_tree.specs.declared.kind.Kind.{Kind}
use Rattle.tsa_tree.specs.declared.kind.ThingType.{ThingType}
use Rattle.tsa_tree.specs.declared.number.Number.{Number}
use Rattle.tsa_tree.specs.types.DeclaredTypes.{thing_type}
use Rattle.tsa_tree.specs.types.Lookups.{params_in}
use Rattle.tsa_tree.specs.types.Units.{outset}
use Rattle.tsa_types_row.specs.declared.node.Node.{Node}
use Rattle.tsa_types_row.specs.declared.node.Op.{Op}
use Rattle.tsa_types_row.specs.declared.node.Op.TheVariants as op
use Rattle.tsa_core.specs.Bodies.{Point}
use Rattle.tsa_core_rows.specs.Reading.{nothing_read, read_before}
use Rattle.tsa_core_rows.specs.Stretches.{is_point, UnitBody, bodies_in, row_of_body, reading_of, points_of}
use Rattle.tsa_core_rows.proofs.UnitBodies.{all_bodies_are_read}
use Rattle.tsa_core_program.specs.Laws.{PointsStandThere}
use Rattle.tsa_core_program.specs.Programs.{op_points, points_from, front_point, points_there}

map_both : {A B C : Type 0} (f : B → C) (g : A → B) (xs : List A) → map f (map g xs) ≡ map (λ x. f (g x)) xs
map_both f g [] = refl
map_both f g (x ∷ xs) = ap (λ rest. f (g x) ∷ rest) (map_both f g xs)

map_same : {A B : Type 0} (f g : A → B) (xs : List A) → ((x : A) → f x ≡ g x) → map f xs ≡ map g xs
map_same f g [] same = refl
map_same f g (x ∷ xs) same = ap₂ (λ y rest. y ∷ rest) (same x) (map_same f g xs same)

-- the numbers behind a node are one greater
one_greater : (is_one : Bool) (at : ℕ) → (if is_one then (at + 1) ∷ [] else []) ≡ map (λ n. n + 1) (if is_one then at ∷ [] else [])
one_greater true at = refl
one_greater false at = refl

points_behind : (row : List Node) (at : ℕ) → points_from (at + 1) row ≡ map (λ n. n + 1) (points_from at row)
points_behind [] at = refl
points_behind (node ∷ rest) at =
    ap₂ (λ xs ys. xs ++ ys) (one_greater (is_point node.op) at) (points_behind rest (at + 1))
    ∙ sym (map-append (λ n. n + 1) (op_points at node.op) (points_from (at + 1) rest))

module _ (params : ℕ → List ThingType) (result : Kind) where
  abbrev first_from : List Node → ℕ → Option Point
  first_from row n = front_point (read_before params result (drop n row) nothing_read).points

  -- a node that is a point gives one, which is the first from there on
  abbrev GivesIts : Op → Type 0
  GivesIts o = (thing : ExpressionType) (worth : Option Number) (size : ℕ) (span : Span) (rest : List Node)
      → map (first_from (record { op = o; thing = thing; worth = worth; size = size; span = span } ∷ rest)) (op_points 0 o)
      ++ map (λ p. Some p) (read_before params result rest nothing_read).points
      ≡ map (λ p. Some p) (read_before params result (record { op = o; thing = thing; worth = worth; size = size; span = span } ∷ rest) nothing_read).points

  gives_its : (o : Op) → GivesIts o
  gives_its (op.Declare n true) thing worth size span rest = refl
  gives_its (op.Declare n false) thing worth size span rest = refl
  gives_its (op.Test true) thing worth size span rest = refl
  gives_its (op.Test false) thing worth size span rest = refl
  gives_its (op.Give true) thing worth size span rest = refl
  gives_its (op.Give false) thing worth size span rest = refl
  gives_its o thing worth size span rest = refl

  stand : (row : List Node) → map (first_from row) (points_from 0 row) ≡ map (λ p. Some p) (read_before params result row nothing_read).points
  stand [] = refl
  stand (node ∷ rest) =
      let f = first_from (node ∷ rest) in
      map-append f (op_points 0 node.op) (points_from 1 rest)
      ∙ ap (λ ps. map f (op_points 0 node.op) ++ ps)
      (ap (map f) (points_behind rest 0) ∙ map_both f (λ n. n + 1) (points_from 0 rest)
      ∙ map_same (λ n. f (n + 1)) (first_from rest) (points_from 0 rest) (λ n. ap f (add-one n)) ∙ stand rest)
      ∙ gives_its node.op node.thing node.worth node.size node.span rest

there_are : (b : UnitBody) → points_there b ≡ map (λ p. Some p) (reading_of b).points
there_are b = stand (params_in b.bodied.here) (thing_type b.bodied.here b.bodied.head.result).kind (row_of_body b).nodes

pub points_stand_there : PointsStandThere
points_stand_there items h =
    let bodies = bodies_in (outset items) items in
    map_same points_there (λ b. map (λ p. Some p) (reading_of b).points) bodies there_are
    ∙ sym (map_both (λ r. map (λ p. Some p) r.points) reading_of bodies)
    ∙ ap (map (λ r. map (λ p. Some p) r.points)) (all_bodies_are_read items h)
    ∙ map_both (λ r. map (λ p. Some p) r.points) points_of bodies
