-- The globals of a unit stand one behind the other, each whole where it begins, and no place is left out.
use Rattle.std.proofs.Common.{◌≡◌, ◌∙◌, ℕ, zero, suc, ◌+◌, ◌<◌, ◌≤◌, arith, nat_lt, Bool, true, false, List, [], ◌∷◌, ◌++◌, length, drop}
use Rattle.std.proofs.Common.{Option, Some, slice_get, refl, sym, ap, subst, append_assoc}
use Rattle.std.proofs.lemmas.Bool.Decides.{nat_tests}
use Rattle.std.proofs.lemmas.List.{drop_at, append-nil, length-append}
use Rattle.tsa_tree.specs.declarations.Syntax.{Initialiser}
use Rattle.tsa_tree.specs.types.Scopes.{Scope}
use Rattle.tsa_tree.specs.types.Units.{outset}
use Rattle.tsa_tree.specs.units.Syntax.{UnitItem, structure_item, alias_item, enumeration_item, global_item, function_item, body_item}
use Rattle.tsa_place_model.specs.declared.place.Holder.TheVariants.{Global}
use Rattle.tsa_place_model.specs.declared.place.Placed.{Placed}
use Rattle.tsa_place_model.specs.Calls.{Layout}
use Rattle.tsa_place_model.specs.Layouts.{Part, Structure, thing_size, size_of}
use Rattle.tsa_place_model.specs.Parts.{structure_in}
use Rattle.tsa_place_model.specs.Leading.{HasPlaces}
use Rattle.tsa_place_model.specs.Places.{Given, Values, places_of, thing_places, places_inside}
use Rattle.tsa_place_model.specs.Standing.{StandsAt, IsWithin, AllBelow, IsOrdered}
use Rattle.tsa_place_model.specs.Items.{known_global, global_part, behind_data}
use Rattle.tsa_place_model.specs.GlobalPlaces.{values_in, given_by, with_structure, with_part, no_places}
use Rattle.tsa_place_model.specs.Units.{data_placed, laid_behind}
use Rattle.tsa_place_model.proofs.Asking.{none_is_none}
use Rattle.tsa_place_model.proofs.Below.{parts_below, part_within}
use Rattle.tsa_place_model.proofs.LaterStructs.{later_thing, later_size}
use Rattle.tsa_place_model.proofs.Sizes.{thing_sized, inside_sized}
use Rattle.tsa_place_model.proofs.Standing.{below_more}
use Rattle.tsa_place_model.proofs.StructCounts.{same_structs}

module _ {A : Type 0} where
  -- what stands in a list stands there in a longer one
  pub front_at : (xs ys : List A) (n : ℕ) (x : A) → slice_get xs n ≡ Some x → slice_get (xs ++ ys) n ≡ Some x
  front_at [] ys zero x e = cc
  front_at [] ys (suc n) x e = cc
  front_at (y ∷ xs) ys zero x e = e
  front_at (y ∷ xs) ys (suc n) x e = front_at xs ys n x e

  pub last_at : (xs : List A) (x : A) → slice_get (xs ++ x ∷ []) (length xs) ≡ Some x
  last_at [] x = refl
  last_at (y ∷ xs) x = last_at xs x

  -- what stands in a list with one more stands in it, or is the one
  pub by_last : {R : Type 0} (xs : List A) (y : A) (n : ℕ) (x : A) → slice_get (xs ++ y ∷ []) n ≡ Some x → (slice_get xs n ≡ Some x → R) → (n ≡ length xs → y ≡ x → R) → R
  by_last [] y zero x e front last = let same : y ≡ x = cc in last refl same
  by_last [] y (suc zero) x e front last = none_is_none x e
  by_last [] y (suc (suc n)) x e front last = none_is_none x e
  by_last (z ∷ xs) y zero x e front last = front e
  by_last (z ∷ xs) y (suc n) x e front last = by_last xs y n x e front (λ h same. last (ap suc h) same)

  pub drop_front : (xs ys : List A) (o : ℕ) → o ≤ length xs → drop o (xs ++ ys) ≡ drop o xs ++ ys
  drop_front xs ys zero h = refl
  drop_front [] ys (suc o) h = absurd (omega (arith, h))
  drop_front (x ∷ xs) ys (suc o) h = drop_front xs ys o (omega (arith, h))

-- what stands among some places stands among more
stands_more : (all more part : List Placed) (o : ℕ) → o ≤ length all → StandsAt all o part → StandsAt (all ++ more) o part
stands_more all more part o within h = (h.0 ++ more, drop_front all more o within ∙ ap (λ ps. ps ++ more) h.1 ∙ append_assoc part h.0 more)

-- .. and places stand behind others
stands_behind : (all part : List Placed) → StandsAt (all ++ part) (length all) part
stands_behind all part = ([], drop_at all part (length all) refl ∙ sym (append-nil part))

module _ (l : Layout) where
  -- a global with all its places, from where it begins on
  pub record Block (n : ℕ) (part : Part) : Type 0 where
    pub start : ℕ
    pub begins : slice_get l.starts n ≡ Some start
    pub early : start + thing_size (size_of l.structs) part.thing ≤ length l.places
    pub within : IsWithin (length l.structs) part.thing
    pub values : Values
    pub given : Given
    pub holder : given.holder ≡ Global n
    pub stands : StandsAt l.places start (thing_places (places_inside l.structs values) (size_of l.structs) values given start part.thing)

  -- a place belongs to a global
  pub record Belongs (place : ℕ) : Type 0 where
    pub number : ℕ
    pub part : Part
    pub is : slice_get l.globals number ≡ Some part
    pub start : ℕ
    pub begins : slice_get l.starts number ≡ Some start
    pub from : start ≤ place
    pub before : place < start + thing_size (size_of l.structs) part.thing

  pub record IsLaid : Type 0 where
    pub ordered : IsOrdered l.structs
    pub blocks : (n : ℕ) (part : Part) → slice_get l.globals n ≡ Some part → Block n part
    pub cover : (place : ℕ) → place < length l.places → Belongs place
    pub as_many : length l.starts ≡ length l.globals

-- behind a struct
module _ (s : Structure) (l : Layout) (laid : IsLaid l) where
  later_block : (n : ℕ) (part : Part) → Block l n part → Block (with_structure s l) n part
  later_block n part b = record {
    start = b.start;
    begins = b.begins;
    early = let same = later_size s l.structs part.thing b.within.0 in let early = b.early in omega (arith, same, early);
    within = (below_more (length l.structs) (length (s ∷ l.structs)) part.thing.kind (omega arith) b.within.0, b.within.1);
    values = b.values;
    given = b.given;
    holder = b.holder;
    stands = subst (StandsAt l.places b.start) (sym (later_thing s l.structs b.values b.given b.start part.thing b.within.0)) b.stands;
  }

  later_place : (place : ℕ) → Belongs l place → Belongs (with_structure s l) place
  later_place place b = record {
    number = b.number;
    part = b.part;
    is = b.is;
    start = b.start;
    begins = b.begins;
    from = b.from;
    before =
        let same = later_size s l.structs b.part.thing (laid.blocks b.number b.part b.is).within.0 in
        let before = b.before in omega (arith, same, before);
  }

  struct_laid : AllBelow (length l.structs) s.members → IsLaid (with_structure s l)
  unfolding IsOrdered
  struct_laid below = record {
    ordered = (below, laid.ordered);
    blocks = λ n part e. later_block n part (laid.blocks n part e);
    cover = λ place h. later_place place (laid.cover place h);
    as_many = laid.as_many;
  }

-- behind a global
module _ (here : Scope) (part : Part) (init : Option Initialiser) (l : Layout) (laid : IsLaid l) (within : IsWithin (length l.structs) part.thing) where
  abbrev new : List Placed
  new = places_of l.structs (values_in here l) (given_by part (length l.globals) init) (length l.places) part.thing

  new_size : length new ≡ thing_size (size_of l.structs) part.thing
  new_size =
      thing_sized (places_inside l.structs (values_in here l)) (size_of l.structs) (values_in here l) (inside_sized l.structs (values_in here l))
      (given_by part (length l.globals) init) (length l.places) part.thing

  all_size : length (l.places ++ new) ≡ length l.places + thing_size (size_of l.structs) part.thing
  all_size = length-append l.places new ∙ ap (λ n. length l.places + n) new_size

  kept_block : (n : ℕ) (p : Part) → Block l n p → Block (with_part here part init l) n p
  kept_block n p b = record {
    start = b.start;
    begins = front_at l.starts (length l.places ∷ []) n b.start b.begins;
    early = let whole = all_size in let early = b.early in omega (arith, whole, early);
    within = b.within;
    values = b.values;
    given = b.given;
    holder = b.holder;
    stands =
        let early = b.early in
        stands_more l.places new (thing_places (places_inside l.structs b.values) (size_of l.structs) b.values b.given b.start p.thing) b.start (omega (arith, early)) b.stands;
  }

  own_block : Block (with_part here part init l) (length l.globals) part
  own_block = record {
    start = length l.places;
    begins = subst (λ n. slice_get (l.starts ++ length l.places ∷ []) n ≡ Some (length l.places)) laid.as_many (last_at l.starts (length l.places));
    early = let whole = all_size in omega (arith, whole);
    within = within;
    values = values_in here l;
    given = given_by part (length l.globals) init;
    holder = refl;
    stands = stands_behind l.places new;
  }

  kept_place : (place : ℕ) → Belongs l place → Belongs (with_part here part init l) place
  kept_place place b = record {
    number = b.number;
    part = b.part;
    is = front_at l.globals (part ∷ []) b.number b.part b.is;
    start = b.start;
    begins = front_at l.starts (length l.places ∷ []) b.number b.start b.begins;
    from = b.from;
    before = b.before;
  }

  own_place : (place : ℕ) → length l.places ≤ place → place < length (l.places ++ new) → Belongs (with_part here part init l) place
  own_place place from before = record {
    number = length l.globals;
    part = part;
    is = last_at l.globals part;
    start = length l.places;
    begins = subst (λ n. slice_get (l.starts ++ length l.places ∷ []) n ≡ Some (length l.places)) laid.as_many (last_at l.starts (length l.places));
    from = from;
    before = let whole = all_size in omega (arith, whole, before);
  }

  any_place : (place : ℕ) → place < length (l.places ++ new) → Belongs (with_part here part init l) place
  any_place place before = by (nat_lt place (length l.places)) refl
    where
      by : (b : Bool) → nat_lt place (length l.places) ≡ b → Belongs (with_part here part init l) place
      by true e = kept_place place (laid.cover place (grind (arith, nat_tests, e)))
      by false e = own_place place (grind (arith, nat_tests, e)) before

  any_block : (n : ℕ) (p : Part) → slice_get (l.globals ++ part ∷ []) n ≡ Some p → Block (with_part here part init l) n p
  any_block n p e =
      by_last l.globals part n p e (λ h. kept_block n p (laid.blocks n p h))
      (λ number same. subst (Block (with_part here part init l) n) same (subst (λ m. Block (with_part here part init l) m part) (sym number) own_block))

  part_laid : IsLaid (with_part here part init l)
  part_laid = record {
    ordered = laid.ordered;
    blocks = any_block;
    cover = any_place;
    as_many = length-append l.starts (length l.places ∷ []) ∙ ap (λ n. n + 1) laid.as_many ∙ sym (length-append l.globals (part ∷ []));
  }

-- behind any item
pub item_laid : (here : Scope) (l : Layout) (item : UnitItem) → length here.structs ≡ length l.structs → IsLaid l → IsLaid (data_placed here l item)
item_laid here l (structure_item tag alias attrs members span) long laid =
    struct_laid (structure_in here members) l laid (subst (λ n. AllBelow n (structure_in here members).members) long (parts_below here [] members))
item_laid here l (alias_item name ctype span) long laid = laid
item_laid here l (enumeration_item tag alias values span) long laid = laid
item_laid here l (global_item d) long laid =
    part_laid (known_global here d) (global_part here d) d.init l laid (part_within here (known_global here d) d (length l.structs) (global_part here d) long refl)
item_laid here l (function_item head) long laid = laid
item_laid here l (body_item head body close) long laid = laid

items_laid : (items : List UnitItem) (here : Scope) (l : Layout) → length here.structs ≡ length l.structs → IsLaid l → IsLaid (laid_behind here l items)
unfolding laid_behind
items_laid [] here l long laid = laid
items_laid (item ∷ rest) here l long laid =
    items_laid rest (behind_data here item) (data_placed here l item) (same_structs here l item long) (item_laid here l item long laid)

pub nothing_laid : IsLaid no_places
unfolding IsOrdered
nothing_laid = record {
  ordered = tt;
  blocks = λ n part e. none_at n part e;
  cover = λ place h. absurd (omega (arith, h));
  as_many = refl;
}
  where
    none_at : (n : ℕ) (part : Part) → slice_get [] n ≡ Some part → Block no_places n part
    none_at zero part e = none_is_none part e
    none_at (suc n) part e = none_is_none part e

-- the places of a unit
pub unit_laid : (items : List UnitItem) (l : Layout) → HasPlaces items l → IsLaid l
unit_laid items l e = subst IsLaid e (items_laid items (outset items) no_places refl nothing_laid)
