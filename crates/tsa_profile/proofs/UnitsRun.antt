-- A typed unit in the profile is one that the machine runs.
use Rattle.std.proofs.Common.{◌≡◌, true, false, ◌&&◌, List, [], ◌∷◌, ◌++◌, None, refl}
use Rattle.tsa_tree.specs.declarations.Syntax.{Declaration, Head}
use Rattle.tsa_tree.specs.statements.Syntax.{Statements}
use Rattle.tsa_tree.specs.types.Globals.{with_global}
use Rattle.tsa_tree.specs.types.Heads as heads
use Rattle.tsa_tree.specs.types.Heads.{inside}
use Rattle.tsa_tree.specs.types.Premises as types
use Rattle.tsa_tree.specs.types.Runnable.{are_free, members_free, head_runs, statements_run, item_runs, items_run}
use Rattle.tsa_tree.specs.types.Scopes.{Scope, Members, with_owned}
use Rattle.tsa_tree.specs.types.Statements.{statements_premises}
use Rattle.tsa_tree.specs.types.Units as stated
use Rattle.tsa_tree.specs.types.Units.{outset, around_body, body_premises, behind_item}
use Rattle.tsa_tree.specs.units.Syntax.{UnitItem, structure_item, alias_item, enumeration_item, global_item, function_item, body_item}
use Rattle.tsa_core.specs.Programs.{Attr}
use Rattle.tsa_core.proofs.KindTests.{and_true}
use Rattle.tsa_core.proofs.NoFailure as typing
use Rattle.tsa_place_model.specs.Parts.{member_behind}
use Rattle.tsa_profile_accesses.specs.Premises.{first}
use Rattle.tsa_profile_items.specs.Declarations.{guard_premises, given_init}
use Rattle.tsa_profile_items.specs.ProfilePointsBodies.{points_premises}
use Rattle.tsa_profile.specs.Running.{ProfilesAreRunnable}
use Rattle.tsa_profile_items.specs.Units as profile
use Rattle.tsa_profile_items.specs.Units.{attributes_behind, view_in, view_of, around, points_in, heads_premises, tries_limits}
use Rattle.tsa_profile_items.specs.Units.{paths_limits, unit_of}
use Rattle.tsa_profile_guards.proofs.NoneFails.{none_of_both}
use Rattle.tsa_profile.proofs.HeadsRun.{guards_stand, head_stands}
use Rattle.tsa_profile.proofs.PointsRun.{statements_stand}

-- the members of a struct
members_stand : (u : profile.Unit) (known : List (List Attr)) (here : Scope) (behind : Members) (members : List Declaration) → first (profile.member_premises u known here behind members) ≡ None → members_free members ≡ true
unfolding profile.member_premises
members_stand u known here behind [] h = refl
members_stand u known here behind (d ∷ rest) h =
    let x = none_of_both (guard_premises (view_in u known (with_owned behind here)) d.attrs) (profile.member_premises u known here (member_behind here behind d) rest) h in
    and_true (are_free d.attrs) (members_free rest) (guards_stand (view_in u known (with_owned behind here)) d.attrs x.0) (members_stand u known here (member_behind here behind d) rest x.1)

-- a function with its body
body_stands : (items : List UnitItem) (known behind : List (List Attr)) (here : Scope) (head : Head) (body : Statements) → types.first (body_premises here head body) ≡ None
    → first (heads_premises (unit_of [] items) known here head true ++ points_premises (around (unit_of [] items) behind here head) (points_in here head body)) ≡ None
    → (head_runs items here head && statements_run (inside here head true) body) ≡ true
unfolding body_premises
body_stands items known behind here head body typed h =
    let u = unit_of [] items in
    let x = typing.none_of_both (heads.head_premises here head true) (statements_premises (around_body here head body) (inside here head true) body) typed in
    let y = none_of_both (heads_premises u known here head true) (points_premises (around u behind here head) (points_in here head body)) h in
    and_true (head_runs items here head) (statements_run (inside here head true) body) (head_stands items here (view_of u known here head true) head y.0)
    (statements_stand (around u behind here head) (around_body here head body) (inside here head true) body x.1 y.1)

-- an item, and all of them
item_stands : (items : List UnitItem) (known behind : List (List Attr)) (here : Scope) (item : UnitItem) → types.first (stated.item_premises here item) ≡ None
    → first (profile.item_premises (unit_of [] items) known behind here item) ≡ None → item_runs items here item ≡ true
item_stands items known behind here (structure_item tag alias attrs members span) typed h =
    members_stand (unit_of [] items) known here [] members h
item_stands items known behind here (alias_item name ctype span) typed h = refl
item_stands items known behind here (enumeration_item tag alias values span) typed h = refl
item_stands items known behind here (global_item d) typed h =
    let v = view_in (unit_of [] items) known (with_global here d) in
    guards_stand v d.attrs (none_of_both (guard_premises v d.attrs) (given_init v d.init) h).0
item_stands items known behind here (function_item head) typed h = head_stands items here (view_of (unit_of [] items) known here head false) head h
item_stands items known behind here (body_item head body close) typed h = body_stands items known behind here head body typed h

items_stand : (all : List UnitItem) (known : List (List Attr)) (here : Scope) (items : List UnitItem) → types.first (stated.items_premises here items) ≡ None
    → first (profile.items_premises (unit_of [] all) known here items) ≡ None → items_run all here items ≡ true
unfolding stated.items_premises profile.items_premises items_run
items_stand all known here [] typed h = refl
items_stand all known here (item ∷ rest) typed h =
    let x = typing.none_of_both (stated.item_premises here item) (stated.items_premises (behind_item here item) rest) typed in
    let behind = attributes_behind (unit_of [] all) known here item in
    let y = none_of_both (profile.item_premises (unit_of [] all) known behind here item) (profile.items_premises (unit_of [] all) behind (behind_item here item) rest) h in
    and_true (item_runs all here item) (items_run all (behind_item here item) rest) (item_stands all known behind here item x.0 y.0)
    (items_stand all behind (behind_item here item) rest x.1 y.1)

pub profiles_are_runnable : ProfilesAreRunnable
profiles_are_runnable items typed fits =
    let u = unit_of [] items in
    let told = none_of_both (profile.items_premises u [] (outset items) items) (tries_limits u [] (outset items) items ++ paths_limits u [] (outset items) items) fits in
    (typed, items_stand items [] (outset items) items typed told.0)
