-- What a function uses stands beside its points, and one with points has a body.
use Rattle.std.proofs.Common.{◌≡◌, ◌∙◌, ◌<◌, ℕ, arith, true, List, length, map, Option, Some, None, is_some, refl, sym, ap}
use Rattle.tsa_core.specs.Bodies.{Body, Point}
use Rattle.tsa_core.specs.Programs.{Function}
use Rattle.tsa_core.specs.Uses.{Uses}
use Rattle.tsa_core.proofs.MappedLists.{map_length}
use Rattle.tsa_warn_function.specs.Paths.{points_in}
use Rattle.tsa_rules.specs.Points.{points_of}

points_are : (f : Function) (o : Option Body) → f.body ≡ o → points_of f ≡ points_in o
points_are f None is = rw is refl
points_are f (Some b) is = rw is refl

pub bodied : (f : Function) (p : ℕ) → p < length (points_of f) → is_some f.body ≡ true
bodied f p less = by f.body refl
  where
    by : (o : Option Body) → f.body ≡ o → is_some f.body ≡ true
    by None is =
        let none : length (points_of f) ≡ 0 = ap length (points_are f None is) in
        absurd (omega (arith, less, none))
    by (Some b) is = ap is_some is

-- where both are made of what is known at the points
pub beside : {X : Type 0} (f : Function) (b : Body) (used : X → Uses) (point : X → Point) (xs : List X) → f.body ≡ Some b → b.points ≡ map point xs → f.uses ≡ map used xs
    → length f.uses ≡ length (points_of f)
beside f b used point xs body points uses =
    ap length uses ∙ map_length used xs ∙ sym (ap length (points_are f (Some b) body) ∙ ap length points ∙ map_length point xs)
