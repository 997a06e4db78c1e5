-- The terms of a program have the kinds that are wanted of them.
use Rattle.std.proofs.Common.{◌≡◌, ◌∙◌, List, ◌++◌, All, map, Option, Some, None, option_map, slice_get, refl, sym, ap, subst}
use Rattle.tsa_tree.specs.declared.kind.Kind.{Kind}
use Rattle.tsa_tree.specs.types.DeclaredTypes.{thing_type}
use Rattle.tsa_tree.specs.types.Units.{outset}
use Rattle.tsa_tree.specs.units.Syntax.{UnitItem}
use Rattle.tsa_place_model.specs.Calls.{Layout}
use Rattle.tsa_place_model.specs.Leading.{HasPlaces}
use Rattle.tsa_place_model.specs.Units.{laid_in}
use Rattle.tsa_core.proofs.MappedLists.{map_at}
use Rattle.tsa_core.specs.Bodies.{Body}
use Rattle.tsa_core.specs.KindLaws.{signatures, param_kinds, kinds_of, function_locals, ProgramsAreWellKinded}
use Rattle.tsa_core.specs.PointKinds.{Signatures, PointHolds}
use Rattle.tsa_core.specs.Programs.{Function, program_of, function_in, Declared, declared_functions, Bodied}
use Rattle.tsa_core.specs.Programs.{bodied_function, body_in}
use Rattle.tsa_core.proofs.BodiesAgree.{bodies_agree}
use Rattle.tsa_core.proofs.PointsHold.{points_have_kinds}
use Rattle.tsa_core.proofs.SignaturesFit.{result_kind, own_params}
use Rattle.tsa_core.proofs.TypedTerms.{some_same}

module _ (sig : Signatures) (l : Layout) where
  abbrev Good : Function → Body → Type 0
  Good f body = All (PointHolds sig l (function_locals f body) f.result) body.points

  mapped : {A : Type 0} (make : Declared → A) (o : Option Declared) (x : A) → option_map make o ≡ Some x → (d : Declared) × ((o ≡ Some d) × (make d ≡ x))
  mapped make None x e = absurd cc
  mapped make (Some d) x e = (d, (refl, some_same e))

  bodied_one : (o : Option Bodied) (body : Body) → option_map body_in o ≡ Some body → (b : Bodied) × ((o ≡ Some b) × (body_in b ≡ body))
  bodied_one None body e = absurd cc
  bodied_one (Some b) body e = (b, (refl, some_same e))

  -- the kinds of a body's own text are those of its function
  of_function : (params : List Kind) (result : Kind) (b : Bodied) → param_kinds b ≡ params → (thing_type b.here b.head.result).kind ≡ result
      → All (PointHolds sig l (slice_get (kinds_of b)) (thing_type b.here b.head.result).kind) (body_in b).points
      → All (PointHolds sig l (slice_get (params ++ (body_in b).locals)) result) (body_in b).points
  of_function params result b same gives h =
      subst (λ kind. All (PointHolds sig l (slice_get (params ++ (body_in b).locals)) kind) (body_in b).points) gives
      (subst (λ ks. All (PointHolds sig l (slice_get (ks ++ (body_in b).locals)) (thing_type b.here b.head.result).kind) (body_in b).points) same h)

-- the layout of a program is that of its unit
pub program_layout : (items : List UnitItem) (l : Layout) → HasPlaces items l → (program_of items).layout ≡ l
unfolding program_of
program_layout items l placed = placed

pub programs_well_kinded : ProgramsAreWellKinded
unfolding program_of
programs_well_kinded items l n f body sound runs placed at is =
    let sig = signatures (program_of items) in
    let ds = declared_functions (outset items) items in
    let make = function_in (laid_in items) items in
    let one = mapped sig l make (slice_get ds n) f (sym (map_at make ds n) ∙ at) in
    let d = one.0 in
    let own = bodied_one sig l (bodied_function d.head.name.text (outset items) items) body (ap (λ x. x.body) one.1.1 ∙ is) in
    let b = own.0 in
    let agree = bodies_agree items n d b runs.0 one.1.0 own.1.0 in
    let points = points_have_kinds items d.head.name.text b l sound runs placed own.1.0 in
    let good : Good sig l (make d) (body_in b) = of_function sig l (map (λ t. t.kind) (own_params d)) (result_kind d) b agree.0 agree.1 points in
    subst (λ m. Good sig m f body) (sym (program_layout items l placed))
    (subst (Good sig l f) own.1.1 (subst (λ x. Good sig l x (body_in b)) one.1.1 good))
