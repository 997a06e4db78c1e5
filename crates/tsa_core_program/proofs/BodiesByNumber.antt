-- The body that is found for a function is the function's first one in the unit.
use Rattle.std.proofs.Common.{◌≡◌, ◌∙◌, ℕ, Bool, true, false, nat_eq, List, [], ◌∷◌, map, Option, Some, None, option_map, if◌then◌else◌, refl, sym, ap}
use Rattle.tsa_tree.specs.types.Units.{outset}
use Rattle.tsa_types_row.specs.ItemRows.{row_in_unit}
use Rattle.tsa_types_row.specs.declared.node.Node.{Node}
use Rattle.tsa_core_rows.specs.Stretches.{UnitBody, bodies_in}
use Rattle.tsa_core_program.proofs.UnitFound.{bodies_are_found}
use Rattle.tsa_core_program.specs.Laws.{BodyOfEachIsFound}
use Rattle.tsa_core_program.specs.Programs.{body_of, Found, found_in, found_of, body_numbered}
use Rattle.tsa_core_program.specs.Walks.{Lists, lists_in}
use Rattle.tsa_core_program.specs.declared.ranges.BodyRange.{BodyRange}

-- the first of what is said of bodies that is said of a function's
abbrev found_numbered : ℕ → List Found → Option Found
found_numbered function [] = None
found_numbered function (f ∷ rest) = if nat_eq f.function function then Some f else found_numbered function rest

either_way : {A B : Type 0} (g : A → B) (is : Bool) (x : A) (o : Option A) (p : Option B) → option_map g o ≡ p
    → option_map g (if is then Some x else o) ≡ (if is then Some (g x) else p)
either_way g true x o p e = refl
either_way g false x o p e = e

by_range : (row : List Node) (lists : Lists) (function : ℕ) (bodies : List BodyRange)
    → option_map (found_in row lists) (body_of function bodies) ≡ found_numbered function (map (found_in row lists) bodies)
by_range row lists function [] = refl
by_range row lists function (b ∷ rest) =
    either_way (found_in row lists) (nat_eq b.function function) b (body_of function rest) (found_numbered function (map (found_in row lists) rest))
    (by_range row lists function rest)

by_body : (function : ℕ) (bodies : List UnitBody) → option_map found_of (body_numbered function bodies) ≡ found_numbered function (map found_of bodies)
by_body function [] = refl
by_body function (b ∷ rest) =
    either_way found_of (nat_eq b.function function) b (body_numbered function rest) (found_numbered function (map found_of rest)) (by_body function rest)

pub body_of_each_is_found : BodyOfEachIsFound
body_of_each_is_found items function h =
    by_range (row_in_unit items) (lists_in items) function (lists_in items).bodies
    ∙ ap (found_numbered function) (bodies_are_found items h)
    ∙ sym (by_body function (bodies_in (outset items) items))
