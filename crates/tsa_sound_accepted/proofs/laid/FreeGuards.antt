-- No guard that a unit declares mentions a local.
use Rattle.std.proofs.Common.{◌≡◌, ℕ, zero, suc, nat_eq, Bool, true, false, if◌then◌else◌, List, [], ◌∷◌, ◌++◌, length, All, Option, Some}
use Rattle.std.proofs.Common.{None, slice_get, sym, subst, true≢false}
use Rattle.std.proofs.lemmas.List.Elements.{All-append, All-cons, All-nil}
use Rattle.tsa_tree.specs.attributes.Syntax.{Attribute}
use Rattle.tsa_tree.specs.declarations.Syntax.{Declaration, Initialiser}
use Rattle.tsa_tree.specs.expressions.Syntax.{Arguments, none, more}
use Rattle.tsa_tree.specs.types.Scopes.{Members, Scope, with_owned}
use Rattle.tsa_tree.specs.units.Syntax.{UnitItem, structure_item, alias_item, enumeration_item, global_item, function_item, body_item}
use Rattle.tsa_place_model.specs.Ways.{Way}
use Rattle.tsa_place_model.specs.declared.path.PathStep.{PathStep}
use Rattle.tsa_place_model.specs.declared.path.PathStep.TheVariants.{Constant, Field, Follow, Variable}
use Rattle.tsa_place_model.specs.declared.path.Root.{Root}
use Rattle.tsa_place_model.specs.declared.path.Root.TheVariants.{Global, Local, Owner}
use Rattle.tsa_place_model.specs.Calls.{Layout}
use Rattle.tsa_place_model.specs.GlobalPlaces.{no_places, with_part}
use Rattle.tsa_place_model.specs.Items.{behind_data, global_part, known_global}
use Rattle.tsa_place_model.specs.Layouts.{Part, structure_at}
use Rattle.tsa_place_model.specs.Parts.{argument_ways, guard_ways, is_guard, member_behind, no_stable, part_in, parts_behind, structure_in}
use Rattle.tsa_place_model.specs.Units.{data_placed, laid_behind}
use Rattle.tsa_place_model.proofs.GlobalsInRow.{by_last}
use Rattle.tsa_sound.specs.LaidOut.{AreLocalFree, IsLocalFree, IsLocalFreeRoot}
use Rattle.tsa_sound_accepted.proofs.laid.Mentions.{AreFine, IsFineIfAny, IsFineRoot, way_fine}

abbrev NoLocal : ℕ → Type 0
NoLocal n = ⊥

free_steps : (steps : List PathStep) → AreFine NoLocal steps → AreLocalFree steps
free_steps [] h = tt
free_steps (Variable n ∷ rest) h = absurd h.0
free_steps (Field k ∷ rest) h = (tt, free_steps rest h.1)
free_steps (Constant k ∷ rest) h = (tt, free_steps rest h.1)
free_steps (Follow ∷ rest) h = (tt, free_steps rest h.1)

free_root : (root : Root) → IsFineRoot NoLocal root → IsLocalFreeRoot root
free_root (Local n) h = h
free_root (Global n) h = tt
free_root Owner h = tt

free_way : (w : Option Way) → IsFineIfAny NoLocal w → IsLocalFree w
free_way None h = tt
free_way (Some w) h = (free_root w.root h.0, free_steps w.steps h.1)

never : (n : ℕ) → no_stable n ≡ true → ⊥
never zero e = true≢false (sym e)
never (suc n) e = true≢false (sym e)

abbrev AreFree : List (Option Way) → Type 0
AreFree ways = All IsLocalFree ways

arguments_free : (here : Scope) (args : Arguments) → AreFree (argument_ways here args)
unfolding argument_ways
arguments_free here none = All-nil IsLocalFree
arguments_free here (more first rest) =
    All-cons IsLocalFree _ (argument_ways here rest) (free_way _ (way_fine NoLocal no_stable here (λ name e k is means s. never k s) first)) (arguments_free here rest)

guards_free : (here : Scope) (attrs : List Attribute) → AreFree (guard_ways here attrs)
unfolding guard_ways
guards_free here [] = All-nil IsLocalFree
guards_free here (a ∷ rest) = by (is_guard a.kind) (guards_free here rest)
  where
    by : (b : Bool) → AreFree (guard_ways here rest) → AreFree (if b then argument_ways here a.args ++ guard_ways here rest else guard_ways here rest)
    by true h = All-append IsLocalFree (argument_ways here a.args) (guard_ways here rest) (arguments_free here a.args) h
    by false h = h

-- members, of which each has its own
members_free : (here : Scope) (before : Members) (members : List Declaration) (k : ℕ) (part : Part)
    → slice_get (parts_behind here before members) k ≡ Some part → AreFree part.guards
unfolding parts_behind
members_free here before [] k part e = absurd cc
members_free here before (d ∷ rest) zero part e =
    let same : part_in here (with_owned before here) d ≡ part = cc in
    subst (λ p. AreFree p.guards) same (guards_free (with_owned before here) d.attrs)
members_free here before (d ∷ rest) (suc k) part e = members_free here (member_behind here before d) rest k part e

pub record AllFree (l : Layout) : Type 0 where
  pub globals : (n : ℕ) (part : Part) → slice_get l.globals n ≡ Some part → AreFree part.guards
  pub members : (struct k : ℕ) (part : Part) → slice_get (structure_at l.structs struct).members k ≡ Some part → AreFree part.guards

struct_free : (here : Scope) (members : List Declaration) (l : Layout) → AllFree l → (struct k : ℕ) (part : Part)
    → slice_get (structure_at (structure_in here members ∷ l.structs) struct).members k ≡ Some part → AreFree part.guards
unfolding structure_at
struct_free here members l h struct k part e = by (nat_eq struct (length l.structs)) e
  where
    by : (b : Bool) → slice_get (if b then structure_in here members else structure_at l.structs struct).members k ≡ Some part → AreFree part.guards
    by true e = members_free here [] members k part e
    by false e = h.members struct k part e

global_free : (here : Scope) (part : Part) (init : Option Initialiser) (l : Layout) → AreFree part.guards → AllFree l → AllFree (with_part here part init l)
global_free here part init l own h = record {
  globals = λ n p e. by_last l.globals part n p e (λ g. h.globals n p g) (λ m same. subst (λ q. AreFree q.guards) same own);
  members = h.members;
}

item_free : (here : Scope) (l : Layout) (item : UnitItem) → AllFree l → AllFree (data_placed here l item)
item_free here l (structure_item tag alias attrs members span) h = record { globals = h.globals; members = struct_free here members l h }
item_free here l (alias_item name ctype span) h = h
item_free here l (enumeration_item tag alias values span) h = h
item_free here l (global_item d) h = global_free (known_global here d) (global_part here d) d.init l (guards_free (known_global here d) d.attrs) h
item_free here l (function_item head) h = h
item_free here l (body_item head body close) h = h

pub items_free : (items : List UnitItem) (here : Scope) (l : Layout) → AllFree l → AllFree (laid_behind here l items)
unfolding laid_behind
items_free [] here l h = h
items_free (item ∷ rest) here l h = items_free rest (behind_data here item) (data_placed here l item) (item_free here l item h)

pub nothing_free : AllFree no_places
unfolding structure_at
nothing_free = record { globals = λ n part e. absurd cc; members = λ struct k part e. absurd cc }
