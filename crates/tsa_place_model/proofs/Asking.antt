-- What is answered where members and elements are asked for, by what stands at their place.
use Rattle.std.proofs.Common.{◌≡◌, ℕ, zero, suc, ◌+◌, ◌*◌, arith, nat_lt, Bool, true, false, if◌then◌else◌, List, [], ◌∷◌, ◌++◌, length}
use Rattle.std.proofs.Common.{drop, Option, Some, None, slice_get, refl, ap}
use Rattle.std.proofs.lemmas.Bool.Decides.{nat_tests}
use Rattle.std.proofs.lemmas.Option.{slice_get_within}
use Rattle.tsa_tree.specs.declared.kind.Kind.{Kind}
use Rattle.tsa_tree.specs.declared.kind.Kind.TheVariants as type
use Rattle.tsa_place_model.specs.declared.place.Placed.{Placed}
use Rattle.tsa_place_model.specs.Calls.{Layout, there, member_place, element_place, members_of, part_of}
use Rattle.tsa_place_model.specs.Layouts.{Part, kind_size, size_of, offset}
use Rattle.tsa_place_model.specs.Leading.{alone}
use Rattle.tsa_place_model.specs.Places.{Given, Values, Inside, a_place, kind_places}
use Rattle.tsa_place_model.specs.Standing.{StandsAt}

-- what stands first
pub slice_at : (all : List Placed) (o : ℕ) (p : Placed) (rest : List Placed) → drop o all ≡ p ∷ rest → slice_get all o ≡ Some p
slice_at [] zero p rest e = cc
slice_at [] (suc o) p rest e = cc
slice_at (q ∷ all) zero p rest e = let same : q ≡ p = cc in ap Some same
slice_at (q ∷ all) (suc o) p rest e = slice_at all o p rest e

pub kind_head : (inside : Inside) (size : ℕ → ℕ) (values : Values) (all : List Placed) (g : Given) (index : Option ℕ) (o : ℕ) (kind : Kind)
    → StandsAt all o (kind_places inside size values g index o kind) → slice_get all o ≡ Some (a_place values g index kind)
kind_head inside size values all g index o (type.Structure n) h = slice_at all o (a_place values g index (type.Structure n)) (inside n o g ++ h.0) h.1
kind_head inside size values all g index o type.Int h = slice_at all o (a_place values g index type.Int) h.0 h.1
kind_head inside size values all g index o type.Unsigned h = slice_at all o (a_place values g index type.Unsigned) h.0 h.1
kind_head inside size values all g index o type.Void h = slice_at all o (a_place values g index type.Void) h.0 h.1
kind_head inside size values all g index o (type.Pointer target to_const) h = slice_at all o (a_place values g index (type.Pointer target to_const)) h.0 h.1
kind_head inside size values all g index o type.Null h = slice_at all o (a_place values g index type.Null) h.0 h.1
kind_head inside size values all g index o type.Function h = slice_at all o (a_place values g index type.Function) h.0 h.1

-- two options that are the same
pub same_some : {A : Type 0} (a b : A) → Some a ≡ Some b → a ≡ b
same_some a b e = cc

pub none_is_none : {A : Type 0} {B : Type 0} (a : A) → None ≡ Some a → B
none_is_none a e = absurd cc

never : {B : Type 0} → false ≡ true → B
never e = absurd cc

module _ (l : Layout) where
  -- what stands at a place is one of the unit's
  pub is_there : (place : ℕ) (p : Placed) → slice_get l.places place ≡ Some p → there l place ≡ Some place
  is_there place p e =
      let less = slice_get_within l.places place p e in
      let yes : nat_lt place (length l.places) ≡ true = grind (arith, nat_tests, less) in
      rw yes refl

  pub there_same : (x place : ℕ) → there l x ≡ Some place → x ≡ place
  there_same x place = by (nat_lt x (length l.places)) refl
    where
      by : (b : Bool) → nat_lt x (length l.places) ≡ b → (if b then Some x else None) ≡ Some place → x ≡ place
      by true h e = same_some x place e
      by false h e = none_is_none place e

  -- where nothing stands there is no member
  pub member_none : (owner k : ℕ) → slice_get l.places owner ≡ None → member_place l owner k ≡ None
  member_none owner k e = rw e refl

  pub member_other : (owner k : ℕ) (p : Placed) → slice_get l.places owner ≡ Some p → slice_get (members_of l p.kind) k ≡ None → member_place l owner k ≡ None
  member_other owner k p e f = rw (e, f) refl

  pub member_some : (owner k : ℕ) (p : Placed) (m : Part) → slice_get l.places owner ≡ Some p → slice_get (members_of l p.kind) k ≡ Some m
      → member_place l owner k ≡ there l (owner + 1 + offset (size_of l.structs) (members_of l p.kind) k)
  member_some owner k p m e f = rw (e, f) refl

  pub element_none : (o i : ℕ) → slice_get l.places o ≡ None → element_place l o i ≡ None
  element_none o i e = rw e refl

  pub element_alone : (o i : ℕ) (p : Placed) → slice_get l.places o ≡ Some p → p.index ≡ None → element_place l o i ≡ None
  element_alone o i p e f = rw (e, f) refl

  pub element_past : (o i n : ℕ) (p : Placed) (part : Part) → slice_get l.places o ≡ Some p → p.index ≡ Some 0 → part_of l p.holder ≡ Some part → part.thing.length ≡ Some n
      → nat_lt i n ≡ false → element_place l o i ≡ None
  element_past o i n p part e f d long h = rw (e, f, d, long, h) refl

  pub element_some : (o i n : ℕ) (p : Placed) (part : Part) → slice_get l.places o ≡ Some p → p.index ≡ Some 0 → part_of l p.holder ≡ Some part → part.thing.length ≡ Some n
      → nat_lt i n ≡ true → element_place l o i ≡ there l (o + i * kind_size (size_of l.structs) p.kind)
  element_some o i n p part e f d long h = rw (e, f, d, long, h) refl

  pub alone_some : (place : ℕ) (p : Placed) → slice_get l.places place ≡ Some p → p.index ≡ None → alone l place ≡ Some place
  alone_some place p e f = rw (e, f) refl

  pub alone_none : (place : ℕ) → slice_get l.places place ≡ None → alone l place ≡ None
  alone_none place e = rw e refl

  pub alone_other : (place i : ℕ) (p : Placed) → slice_get l.places place ≡ Some p → p.index ≡ Some i → alone l place ≡ None
  alone_other place i p e f = rw (e, f) refl
