-- The rows of a sheet that passes are kept.
use Rattle.std.proofs.Common.{◌≡◌, ℕ, zero, suc, ◌+◌, Bool, true, false, not, ◌&&◌, ◌||◌, List, [], ◌∷◌, Contains, Option, Some, None}
use Rattle.std.proofs.Common.{slice_get, refl, sym, subst, arith}
use Rattle.std.proofs.lemmas.List.Sums.{AllPass-from_list_all}
use Rattle.std.specs.List.{list_all}
use Rattle.tsa_place_model.specs.Ways.{Way}
use Rattle.tsa_core.specs.Control.{Outcome, edge}
use Rattle.tsa_core.specs.Programs.{Function, Program}
use Rattle.tsa_rules.specs.Statuses.{Status}
use Rattle.tsa_rules.specs.Points.{edges_of, is_status}
use Rattle.tsa_rules.specs.Effects.{entry, effect}
use Rattle.tsa_rules.specs.Fails.{Rule, TS01, TS02, TS03, TS04, TS05, TS06, TS07, TS08, TS09, TS10, TS11, TS12, all_rules, fails}
use Rattle.tsa_rules.specs.Sheets.{Sheet, status_in, is_listed, status_by, rows_of, begins_with, goes_by, edge_passes, holds_at}
use Rattle.tsa_rules.specs.Sheets.{status_passes, point_passes, points_pass, SheetsThatPassAreKept, SheetsThatPassArePossible}
use Rattle.tsa_rules.proofs.Tests.{never, left_part, right_part, same}

where_so : (a b : Bool) → (not a || b) ≡ true → a ≡ true → b ≡ true
where_so true b e h = e
where_so false b e h = never (sym h)

denied : (b : Bool) → not b ≡ true → b ≡ false
denied true e = never (sym e)
denied false e = refl

each : {X : Type 0} (test : X → Bool) (xs : List X) → list_all test xs ≡ true → (x : X) → Contains xs x → test x ≡ true
each test xs e x h = subst (λ y. test y ≡ true) h.2 (AllPass-from_list_all test xs e h.0 x h.1)

-- where all points pass, each does
point_passed : (u : Program) (f : Function) (paths : List Way) (points : List (Option (List Status))) (at p : ℕ) (x : Option (List Status))
    → points_pass u f paths at points ≡ true → slice_get points p ≡ Some x → point_passes u f paths (at + p) x ≡ true
point_passed u f paths [] at p x all is = cc
point_passed u f paths (y ∷ points) at zero x all is =
    let first : y ≡ x = cc in
    let here : at ≡ at + 0 = omega arith in
    subst (λ n. point_passes u f paths n x ≡ true) here
    (subst (λ z. point_passes u f paths at z ≡ true) first (left_part (point_passes u f paths at y) (points_pass u f paths (at + 1) points) all))
point_passed u f paths (y ∷ points) at (suc p) x all is =
    let there : at + 1 + p ≡ at + suc p = omega arith in
    subst (λ n. point_passes u f paths n x ≡ true) there
    (point_passed u f paths points (at + 1) p x (right_part (point_passes u f paths at y) (points_pass u f paths (at + 1) points) all) is)

status_passed : (u : Program) (f : Function) (x : Sheet) → points_pass u f x.paths 0 x.points ≡ true
    → (p : ℕ) (c : Way) → Contains x.paths c → (row : Option (Option (List Status))) → slice_get x.points p ≡ row → is_listed row ≡ true
    → status_passes u f p (status_by x.paths row) c ≡ true
status_passed u f x all p c among None is h = never (sym h)
status_passed u f x all p c among (Some None) is h = never (sym h)
status_passed u f x all p c among (Some (Some statuses)) is h =
    let here : 0 + p ≡ p = omega arith in
    each (status_passes u f p (status_in x.paths statuses)) x.paths
    (subst (λ n. point_passes u f x.paths n (Some statuses) ≡ true) here (point_passed u f x.paths x.points 0 p (Some statuses) all is)) c among

has_rule : (rule : Rule) → Contains all_rules rule
has_rule TS01 = (0, omega arith, refl)
has_rule TS02 = (1, omega arith, refl)
has_rule TS03 = (2, omega arith, refl)
has_rule TS04 = (3, omega arith, refl)
has_rule TS05 = (4, omega arith, refl)
has_rule TS06 = (5, omega arith, refl)
has_rule TS07 = (6, omega arith, refl)
has_rule TS08 = (7, omega arith, refl)
has_rule TS09 = (8, omega arith, refl)
has_rule TS10 = (9, omega arith, refl)
has_rule TS11 = (10, omega arith, refl)
has_rule TS12 = (11, omega arith, refl)

edge_kept : (u : Program) (f : Function) (x : Sheet) → list_all (edge_passes u f x.paths (rows_of x)) (edges_of f) ≡ true
    → (p q : ℕ) (o : Outcome) → (rows_of x).has_point p ≡ true → Contains (edges_of f) (edge p o q)
    → ((rows_of x).has_point q && list_all (goes_by u f (rows_of x) (edge p o q)) x.paths) ≡ true
edge_kept u f x all p q o h next =
    where_so ((rows_of x).has_point p) ((rows_of x).has_point q && list_all (goes_by u f (rows_of x) (edge p o q)) x.paths)
    (each (edge_passes u f x.paths (rows_of x)) (edges_of f) all (edge p o q) next) h

pub sheets_that_pass_are_kept : SheetsThatPassAreKept
sheets_that_pass_are_kept u f x e =
    let outset = left_part ((rows_of x).has_point 0 && list_all (begins_with f (rows_of x)) x.paths)
    (list_all (edge_passes u f x.paths (rows_of x)) (edges_of f) && points_pass u f x.paths 0 x.points) e in
    let rest = right_part ((rows_of x).has_point 0 && list_all (begins_with f (rows_of x)) x.paths)
    (list_all (edge_passes u f x.paths (rows_of x)) (edges_of f) && points_pass u f x.paths 0 x.points) e in
    let edges = left_part (list_all (edge_passes u f x.paths (rows_of x)) (edges_of f)) (points_pass u f x.paths 0 x.points) rest in
    let points = right_part (list_all (edge_passes u f x.paths (rows_of x)) (edges_of f)) (points_pass u f x.paths 0 x.points) rest in
    record {
      start = left_part ((rows_of x).has_point 0) (list_all (begins_with f (rows_of x)) x.paths) outset;
      entry_is = λ c among. same ((rows_of x).status 0 c) (entry f c)
          (each (begins_with f (rows_of x)) x.paths (right_part ((rows_of x).has_point 0) (list_all (begins_with f (rows_of x)) x.paths) outset) c among);
      goes_on = λ p q o h next. left_part ((rows_of x).has_point q) (list_all (goes_by u f (rows_of x) (edge p o q)) x.paths) (edge_kept u f x edges p q o h next);
      goes_along = λ p q o c h next among. same ((rows_of x).status q c) (effect u f p c o ((rows_of x).status p c))
          (each (goes_by u f (rows_of x) (edge p o q)) x.paths
          (right_part ((rows_of x).has_point q) (list_all (goes_by u f (rows_of x) (edge p o q)) x.paths) (edge_kept u f x edges p q o h next)) c among);
      breaks_none = λ rule p c h among. denied (fails rule u f p c ((rows_of x).status p c))
          (each (holds_at u f p ((rows_of x).status p c) c) all_rules
          (right_part (is_status u f c ((rows_of x).status p c)) (list_all (holds_at u f p ((rows_of x).status p c) c) all_rules)
          (status_passed u f x points p c among (slice_get x.points p) refl h)) rule (has_rule rule));
    }

pub sheets_that_pass_are_possible : SheetsThatPassArePossible
sheets_that_pass_are_possible u f x e p c h among =
    let rest = right_part ((rows_of x).has_point 0 && list_all (begins_with f (rows_of x)) x.paths)
    (list_all (edge_passes u f x.paths (rows_of x)) (edges_of f) && points_pass u f x.paths 0 x.points) e in
    let points = right_part (list_all (edge_passes u f x.paths (rows_of x)) (edges_of f)) (points_pass u f x.paths 0 x.points) rest in
    left_part (is_status u f c ((rows_of x).status p c)) (list_all (holds_at u f p ((rows_of x).status p c) c) all_rules)
    (status_passed u f x points p c among (slice_get x.points p) refl h)
