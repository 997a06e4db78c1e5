-- The rows of all bodies of a typed unit are read as the points of the core program, and bodies are found by their names.
use Rattle.std.proofs.Common.{◌≡◌, ◌∙◌, ℕ, true, List, [], ◌∷◌, ◌++◌, map, None, refl, sym, ap, ap₂}
use Rattle.std.proofs.lemmas.List.{map-append}
use Rattle.std.specs.Str.{bytes_eq}
use Rattle.tsa_tree.specs.types.DeclaredTypes.{thing_type}
use Rattle.tsa_tree.specs.types.Heads.{head_premises, inside}
use Rattle.tsa_tree.specs.types.Premises.{first}
use Rattle.tsa_tree.specs.types.Scopes.{Scope}
use Rattle.tsa_tree.specs.types.Statements.{statements_premises}
use Rattle.tsa_tree.specs.types.Symbols.{number_of}
use Rattle.tsa_tree.specs.types.Units.{outset, around_body, body_premises, item_premises, behind_item, items_premises}
use Rattle.tsa_tree.specs.units.Syntax.{UnitItem, structure_item, alias_item, enumeration_item, global_item, function_item, body_item}
use Rattle.tsa_core.proofs.NoFailure.{none_of_both}
use Rattle.tsa_core.specs.Programs.{or_body, bodied_function}
use Rattle.tsa_core_rows.proofs.BodyPoints.{points_are_read}
use Rattle.tsa_core_rows.specs.Laws.{AllBodiesAreRead, BodiesHaveNames}
use Rattle.tsa_core_rows.specs.Stretches.{body_by, bodies_in, reading_of, points_of, first_named}

read_by : (here : Scope) (item : UnitItem) → first (item_premises here item) ≡ None → map reading_of (body_by here item) ≡ map points_of (body_by here item)
unfolding body_premises
read_by here (structure_item tag alias attrs members span) h = refl
read_by here (alias_item name ctype span) h = refl
read_by here (enumeration_item tag alias values span) h = refl
read_by here (global_item d) h = refl
read_by here (function_item head) h = refl
read_by here (body_item head body close) h =
    let around = around_body here head body in
    let there = inside here head true in
    ap (λ r. r ∷ []) (points_are_read around there (number_of here head) (thing_type there head.result).kind body close
    (none_of_both (head_premises here head true) (statements_premises around there body) h).1)

all_read : (here : Scope) (items : List UnitItem) → first (items_premises here items) ≡ None → map reading_of (bodies_in here items) ≡ map points_of (bodies_in here items)
unfolding items_premises bodies_in
all_read here [] h = refl
all_read here (item ∷ rest) h =
    let told = none_of_both (item_premises here item) (items_premises (behind_item here item) rest) h in
    let bodies = bodies_in (behind_item here item) rest in
    map-append reading_of (body_by here item) bodies
    ∙ ap₂ (λ xs ys. xs ++ ys) (read_by here item told.0) (all_read (behind_item here item) rest told.1)
    ∙ sym (map-append points_of (body_by here item) bodies)

pub all_bodies_are_read : AllBodiesAreRead
all_bodies_are_read items h = all_read (outset items) items h

named : (here : Scope) (items : List UnitItem) (name : List ℕ) → first_named name (bodies_in here items) ≡ bodied_function name here items
unfolding bodies_in bodied_function
named here [] name = refl
named here (structure_item tag alias attrs members span ∷ rest) name = named (behind_item here (structure_item tag alias attrs members span)) rest name
named here (alias_item text ctype span ∷ rest) name = named (behind_item here (alias_item text ctype span)) rest name
named here (enumeration_item tag alias values span ∷ rest) name = named (behind_item here (enumeration_item tag alias values span)) rest name
named here (global_item d ∷ rest) name = named (behind_item here (global_item d)) rest name
named here (function_item head ∷ rest) name = named (behind_item here (function_item head)) rest name
named here (body_item head body close ∷ rest) name =
    ap (or_body (bytes_eq name head.name.text) (record { here = inside here head true; head = head; body = body })) (named (behind_item here (body_item head body close)) rest name)

pub bodies_have_names : BodiesHaveNames
bodies_have_names items name = named (outset items) items name
