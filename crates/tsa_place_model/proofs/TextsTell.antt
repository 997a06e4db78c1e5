-- The text of a place of a typed unit tells which place it is.
use Rattle.std.proofs.Common.{◌≡◌, ℕ, zero, suc, ◌<◌, arith, nat_eq, Bool, true, false, if◌then◌else◌, List, [], ◌∷◌, ◌++◌, length, Option}
use Rattle.std.proofs.Common.{Some, None, slice_get, refl, sym, subst, ◌∙◌}
use Rattle.tsa_base.specs.declared.token.Span.{Span}
use Rattle.tsa_base.proofs.Truths.{never}
use Rattle.tsa_tree.specs.attributes.Syntax.{Attribute}
use Rattle.tsa_tree.specs.declarations.Syntax.{Declaration}
use Rattle.tsa_tree.specs.declared.kind.Kind.{Kind}
use Rattle.tsa_tree.specs.declared.kind.Kind.TheVariants as type
use Rattle.tsa_tree.specs.expressions.Syntax.{Identifier}
use Rattle.tsa_tree.specs.types.Premises.{first}
use Rattle.tsa_tree.specs.types.Scopes.{Scope, is_taken}
use Rattle.tsa_tree.specs.types.Units.{outset, item_premises, items_premises, behind_item}
use Rattle.tsa_tree.specs.units.Sound.{SpellableItem, SpellableItems}
use Rattle.tsa_tree.specs.units.Syntax.{UnitItem, structure_item, alias_item, enumeration_item, global_item, function_item, body_item}
use Rattle.tsa_place_model.specs.Layouts.{Part, Structures, structure_at}
use Rattle.tsa_place_model.specs.Calls.{Layout, members_of}
use Rattle.tsa_place_model.specs.Items.{global_part, behind_data}
use Rattle.tsa_place_model.specs.GlobalPlaces.{no_places}
use Rattle.tsa_place_model.specs.Units.{data_placed, laid_behind}
use Rattle.tsa_place_model.specs.Leading.{PlacesAreLedTo, TextsTell}
use Rattle.tsa_place_model.proofs.TextsTold.{NamesTell, AllNamesTell, texts_told}
use Rattle.tsa_place_model.proofs.TextsNamed.{NotNamed, AreApart, ArePlain, apart_behind, plain_behind, names_tell, plain_name, type_short}
use Rattle.tsa_place_model.proofs.TextsNamed.{plain_members}
use Rattle.tsa_place_model.proofs.TextsTyped.{Grows, grows_item, none_of_both, global_free, global_taken, members_hold, members_apart}

-- the names of globals are taken
abbrev AreTaken : Scope → List Part → Type 0
AreTaken here [] = Unit {0}
AreTaken here (p ∷ ps) = (is_taken p.name here ≡ true) × AreTaken here ps

still_taken : (here there : Scope) (ps : List Part) → Grows here there → AreTaken here ps → AreTaken there ps
still_taken here there [] grows h = tt
still_taken here there (p ∷ ps) grows h = (grows p.name h.0, still_taken here there ps grows h.1)

taken_behind : (here : Scope) (ps : List Part) (q : Part) → AreTaken here ps → is_taken q.name here ≡ true → AreTaken here (ps ++ q ∷ [])
taken_behind here [] q h k = (k, tt)
taken_behind here (p ∷ ps) q h k = (h.0, taken_behind here ps q h.1 k)

not_taken : (here : Scope) (name : List ℕ) (ps : List Part) → is_taken name here ≡ false → AreTaken here ps → NotNamed name ps
not_taken here name [] free h = tt
not_taken here name (p ∷ ps) free h = (λ e. never (sym (subst (λ n. is_taken n here ≡ true) e h.0) ∙ free), not_taken here name ps free h.1)

-- structs whose members have plain names that differ
abbrev AreTelling : Structures → Type 0
AreTelling [] = Unit {0}
AreTelling (s ∷ earlier) = (AreApart s.members × ArePlain s.members) × AreTelling earlier

-- what holds of a layout behind items of a typed unit
record IsTold (here : Scope) (l : Layout) : Type 0 where
  taken : AreTaken here l.globals
  apart : AreApart l.globals
  plain : ArePlain l.globals
  structs : AreTelling l.structs

more_known : (here there : Scope) (l : Layout) → Grows here there → IsTold here l → IsTold there l
more_known here there l grows told = record { taken = still_taken here there l.globals grows told.taken; apart = told.apart; plain = told.plain; structs = told.structs }

-- a struct's members, and a global, are behind those before them
struct_told : (here inner : Scope) (l : Layout) (tag alias : Option Identifier) (attrs : List Attribute) (members : List Declaration) (span : Span)
    → SpellableItem (structure_item tag alias attrs members span) → first (item_premises here (structure_item tag alias attrs members span)) ≡ None → IsTold here l
    → IsTold (behind_item here (structure_item tag alias attrs members span)) (data_placed inner l (structure_item tag alias attrs members span))
struct_told here inner l tag alias attrs members span sound typed told =
    let item = structure_item tag alias attrs members span in
    record {
      taken = still_taken here (behind_item here item) l.globals (grows_item here item) told.taken;
      apart = told.apart;
      plain = told.plain;
      structs = ((members_apart here inner members (members_hold here tag alias attrs members span typed), plain_members inner [] members sound.2), told.structs);
    }

global_told : (here inner : Scope) (l : Layout) (d : Declaration) → SpellableItem (global_item d) → first (item_premises here (global_item d)) ≡ None → IsTold here l
    → IsTold (behind_item here (global_item d)) (data_placed inner l (global_item d))
global_told here inner l d sound typed told =
    let there = behind_item here (global_item d) in
    let part = global_part inner d in
    record {
      taken = taken_behind there l.globals part (still_taken here there l.globals (grows_item here (global_item d)) told.taken) (global_taken here d);
      apart = apart_behind l.globals part told.apart (not_taken here d.name.text l.globals (global_free here d typed) told.taken);
      plain = plain_behind l.globals part told.plain (plain_name d.name.text sound.0.1) (type_short inner d.ctype);
      structs = told.structs;
    }

item_told : (here inner : Scope) (l : Layout) (item : UnitItem) → SpellableItem item → first (item_premises here item) ≡ None → IsTold here l
    → IsTold (behind_item here item) (data_placed inner l item)
item_told here inner l (structure_item tag alias attrs members span) sound typed told = struct_told here inner l tag alias attrs members span sound typed told
item_told here inner l (global_item d) sound typed told = global_told here inner l d sound typed told
item_told here inner l (alias_item name ctype span) sound typed told =
    more_known here (behind_item here (alias_item name ctype span)) l (grows_item here (alias_item name ctype span)) told
item_told here inner l (enumeration_item tag alias values span) sound typed told =
    more_known here (behind_item here (enumeration_item tag alias values span)) l (grows_item here (enumeration_item tag alias values span)) told
item_told here inner l (function_item head) sound typed told = more_known here (behind_item here (function_item head)) l (grows_item here (function_item head)) told
item_told here inner l (body_item head body close) sound typed told =
    more_known here (behind_item here (body_item head body close)) l (grows_item here (body_item head body close)) told

-- the names of a layout tell its parts
abbrev Telling : Layout → Type 0
Telling l = AreApart l.globals × ArePlain l.globals × AreTelling l.structs

items_told : (here inner : Scope) (l : Layout) (items : List UnitItem) → SpellableItems items → first (items_premises here items) ≡ None → IsTold here l
    → Telling (laid_behind inner l items)
unfolding items_premises laid_behind
items_told here inner l [] sound typed told = (told.apart, told.plain, told.structs)
items_told here inner l (item ∷ rest) sound typed told =
    let both = none_of_both (item_premises here item) (items_premises (behind_item here item) rest) typed in
    items_told (behind_item here item) (behind_data inner item) (data_placed inner l item) rest sound.1 both.1
    (item_told here inner l item sound.0 both.0 told)

none_tell : NamesTell []
none_tell = names_tell [] tt tt

struct_tells : (structs : Structures) (n : ℕ) → AreTelling structs → NamesTell (structure_at structs n).members
unfolding structure_at
struct_tells [] n h = none_tell
struct_tells (s ∷ earlier) n h = by (nat_eq n (length earlier)) (struct_tells earlier n h.1)
  where
    by : (b : Bool) → NamesTell (structure_at earlier n).members → NamesTell (if b then s else structure_at earlier n).members
    by true known = names_tell s.members h.0.0 h.0.1
    by false known = known

members_tell : (l : Layout) (kind : Kind) → AreTelling l.structs → NamesTell (members_of l kind)
members_tell l (type.Structure n) h = struct_tells l.structs n h
members_tell l type.Int h = none_tell
members_tell l type.Unsigned h = none_tell
members_tell l type.Void h = none_tell
members_tell l (type.Pointer target to_const) h = none_tell
members_tell l type.Null h = none_tell
members_tell l type.Function h = none_tell

all_names_tell : (l : Layout) → Telling l → AllNamesTell l
all_names_tell l h = record { globals = names_tell l.globals h.0 h.1; members = λ kind. members_tell l kind h.2 }

a_place : {A : Type 0} (xs : List A) (n : ℕ) → n < length xs → (x : A) × (slice_get xs n ≡ Some x)
a_place [] n h = absurd (omega (arith, h))
a_place (x ∷ xs) zero h = (x, refl)
a_place (x ∷ xs) (suc n) h = a_place xs n (omega (arith, h))

pub texts_tell : PlacesAreLedTo → TextsTell
texts_tell led items l a b spellable typed placed less little same =
    let start : IsTold (outset items) no_places = record { taken = tt; apart = tt; plain = tt; structs = tt } in
    let told = items_told (outset items) (outset items) no_places items spellable typed start in
    let names = all_names_tell l (subst Telling placed told) in
    let one = a_place l.places a less in
    let other = a_place l.places b little in
    texts_told l names (λ place p e. led items l place p placed e) a b one.0 other.0 one.1 other.1 same
