-- Every rule that fails in a typed unit is told in a body.
use Rattle.std.proofs.Common.{◌≡◌, ◌∙◌, ◌<◌, ℕ, List, [], length, Some, slice_get, refl, ap}
use Rattle.tsa_tree.specs.types.Units.{outset}
use Rattle.tsa_tree.specs.units.Syntax.{UnitItem}
use Rattle.tsa_place_model.specs.LockPaths.{stable_in}
use Rattle.tsa_core.specs.Bodies.{known_in_body, point_of}
use Rattle.tsa_core.specs.Programs.{Function, program_of}
use Rattle.tsa_core.specs.Uses.{uses_of}
use Rattle.tsa_rules.specs.Points.{points_of}
use Rattle.tsa_rules.specs.Warnings.{Warning}
use Rattle.tsa_warn_function.specs.Failures.{FailsThere}
use Rattle.tsa_warn_function.proofs.OfBodies.{rules_fail_at_points_of_bodies}
use Rattle.tsa_warn_bodies.specs.Units.{unit_of}
use Rattle.tsa_warn_function.specs.Paths.{paths_of}
use Rattle.tsa_warn_bodies.specs.Laws.{StandsFor, body_at, result_at}
use Rattle.tsa_warn_bodies.specs.Sites.{Site, site_of, within}
use Rattle.tsa_warn_bodies.proofs.SiteLaws.{sites_are_of_the_program}
use Rattle.tsa_warn.proofs.PathsOfFunctions.{rules_fail_for_paths}
use Rattle.tsa_warn_bodies.specs.Bodies.{bodies_of}
use Rattle.tsa_warn.specs.Laws.{IsToldIn, RulesThatFailAreTold}
use Rattle.tsa_warn.proofs.BodiesOfUses.{beside, bodied}
use Rattle.tsa_warn.proofs.BodiesOfUnits.{HasBody, has_body}

-- what a function of the program uses stands beside its points
uses_beside : (items : List UnitItem) (n : ℕ) (f : Function) (s : Site) → StandsFor items n f s → length f.uses ≡ length (points_of f)
uses_beside items n f s h =
    beside f (body_at s) (uses_of (program_of items).layout (stable_in (body_at s).stable)) (point_of (result_at s)) (known_in_body (within s) s.body) h.body refl h.uses

module _ (items : List UnitItem) (w : Warning) (f : Function) (there : slice_get (program_of items).functions w.function ≡ Some f) where
  -- the body in which it is told
  its_body : (s : Site) → site_of items w.function ≡ Some s → HasBody (bodies_of items) w.function
  its_body s is = has_body (unit_of [] items) w.function [] (outset items) items s is

  told_in : HasBody (bodies_of items) w.function → (cap : ℕ) → slice_get (paths_of (program_of items) f) cap ≡ Some w.path
      → FailsThere (program_of items) f (paths_of (program_of items) f) (record { point = w.point; rule = w.rule; cap = cap }) → IsToldIn items w
  told_in b cap at fails = record {
    body = b.body;
    is_one = b.is_one;
    number = b.number;
    function = f;
    is_there = ap (slice_get (program_of items).functions) b.number ∙ there;
    cap = cap;
    is_path = at;
    fails = fails;
  }

pub rules_that_fail_are_told : RulesThatFailAreTold
rules_that_fail_are_told items w typed h =
    let u = program_of items in
    let f = h.function in
    let inside : w.point < length (points_of f) = rules_fail_at_points_of_bodies items w.function f w.point w.path w.rule h.is_there h.fails in
    let site = sites_are_of_the_program.of_bodies items w.function f typed h.is_there (bodied f w.point inside) in
    let path = rules_fail_for_paths u f (uses_beside items w.function f site.0 site.1.1) w.point w.path w.rule h.fails in
    told_in items w f h.is_there (its_body items w f h.is_there site.0 site.1.0) path.0 path.1
    (record { within = inside; path = w.path; is_there = path.1; fails = h.fails })
