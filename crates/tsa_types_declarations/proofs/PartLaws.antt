-- The parts of a thing by their numbers, and whether a list fits them.
use Rattle.std.proofs.Common.{◌≡◌, ◌∙◌, ℕ, zero, suc, ◌<◌, ◌≤◌, arith, true, false, nat_lt, List, [], ◌∷◌, Option, Some, None, refl, ap}
use Rattle.std.proofs.Common.{length, option_map}
use Rattle.std.specs.Prelude.{slice_get}
use Rattle.std.proofs.lemmas.Bool.{lt-ltb, ltb-true, le-ltb, ltb-false}
use Rattle.tsa_tree.specs.declared.decl.Init.{Init}
use Rattle.tsa_tree.specs.declared.kind.ThingType.{ThingType}
use Rattle.tsa_tree.specs.declarations.Shapes.{init_shapes}
use Rattle.tsa_tree.specs.types.Initialisers.{elements, count, is_misfit}

-- an array has as many parts as its length says, each of its element's type
pub elements_count : (n : ℕ) (t : ThingType) → length (elements n t) ≡ n
elements_count zero t = refl
elements_count (suc n) t = ap suc (elements_count n t)

pub element_within : (n : ℕ) (t : ThingType) (i : ℕ) → nat_lt i n ≡ true → slice_get (elements n t) i ≡ Some t
element_within zero t i h = let some : i < 0 = ltb-true i 0 h in absurd (omega arith)
element_within (suc n) t zero h = refl
element_within (suc n) t (suc i) h = element_within n t i (lt-ltb i n (let some : suc i < suc n = ltb-true (suc i) (suc n) h in omega arith))

pub element_past : (n : ℕ) (t : ThingType) (i : ℕ) → nat_lt i n ≡ false → slice_get (elements n t) i ≡ None
element_past zero t i h = refl
element_past (suc n) t zero h = let none : suc n ≤ 0 = ltb-false 0 (suc n) h in absurd (omega arith)
element_past (suc n) t (suc i) h = element_past n t i (le-ltb i n (let behind : suc n ≤ suc i = ltb-false (suc i) (suc n) h in omega arith))

-- the items of a list are counted
items_count : (items : List Init) → count (init_shapes items) ≡ length items
items_count [] = refl
items_count (item ∷ items) = ap suc (items_count items)

-- a list fits where it has no more items than there are parts
pub misfit : (parts : Option (List ThingType)) (n : ℕ) (items : List Init) → option_map length parts ≡ Some n
    → is_misfit parts (init_shapes items) ≡ nat_lt n (length items)
misfit None n items h = cc
misfit (Some types) n items h = ap (nat_lt (length types)) (items_count items) ∙ ap (λ k. nat_lt k (length items)) (is_length h)
  where
    is_length : Some (length types) ≡ Some n → length types ≡ n
    is_length e = cc

-- it never fits where there are none to have
pub no_parts_misfit : (parts : Option (List ThingType)) (items : List Init) → option_map length parts ≡ None → is_misfit parts (init_shapes items) ≡ true
no_parts_misfit None items h = refl
no_parts_misfit (Some types) items h = cc

pub ruleset parts = (elements_count, element_within, element_past)

pub ruleset misfits = (misfit, no_parts_misfit)
