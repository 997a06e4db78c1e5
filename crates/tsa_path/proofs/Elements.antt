-- Which elements numbers are indices of.
use Rattle.std.proofs.Common.{◌≡◌, ◌∙◌, ℕ, zero, suc, pos, negsuc, ◌+◌, ◌-◌, ◌*◌, ◌^◌, ◌<◌, ◌≤◌, arith, nat_eq, nat_lt, Bool, true, false}
use Rattle.std.proofs.Common.{if◌then◌else◌, [], ◌∷◌, length, Option, Some, None, option_and_then, slice_get, refl, sym, ap}
use Rattle.std.proofs.lemmas.Bool.Decides.{nat_tests}
use Rattle.tsa_base.specs.declared.value.Value.{Value}
use Rattle.tsa_base.specs.declared.value.Value.TheVariants.{Int, Unsigned, Pointer}
use Rattle.tsa_tree.specs.declared.kind.Kind.{Kind}
use Rattle.tsa_tree.specs.declared.kind.Kind.TheVariants as type
use Rattle.tsa_place_model.specs.declared.place.Placed.{Placed}
use Rattle.tsa_place_model.specs.Layouts.{Structures, kind_size, size_of}
use Rattle.tsa_place_model.specs.Calls.{Layout, part_of, there, element_place, index_in}
use Rattle.tsa_path.specs.Laws.{IsValue, IsSmall, bits, SameBitsSameElements}

-- each thing takes a place
some_size : (structs : Structures) (n : ℕ) → 0 < size_of structs n
unfolding size_of
some_size [] n = omega arith
some_size (s ∷ earlier) n = by (nat_eq n (length earlier)) _ (some_size earlier n)
  where
    by : (b : Bool) (x : ℕ) {y : ℕ} → 0 < y → 0 < (if b then 1 + x else y)
    by true x h = omega arith
    by false x h = h

some_place : (structs : Structures) (kind : Kind) → 0 < kind_size (size_of structs) kind
some_place structs (type.Structure n) = some_size structs n
some_place structs type.Int = omega arith
some_place structs type.Unsigned = omega arith
some_place structs type.Void = omega arith
some_place structs (type.Pointer target to_const) = omega arith
some_place structs type.Null = omega arith
some_place structs type.Function = omega arith

module _ (l : Layout) (place i : ℕ) (far : length l.places ≤ i) where
  beyond : (k : ℕ) → 0 < k → length l.places ≤ place + i * k
  beyond zero h = absurd (omega (arith, h))
  beyond (suc k) h = grind (arith, far)

  not_there : (n : ℕ) → length l.places ≤ n → there l n ≡ None
  not_there n h = grind (arith, nat_tests, h)

  either : (b : Bool) (n : ℕ) → length l.places ≤ n → (if b then there l n else None) ≡ None
  either true n h = not_there n h
  either false n h = refl

  -- no array has an element that far
  pub too_far : element_place l place i ≡ None
  too_far = by (slice_get l.places place) refl
    where
      count : (p : Placed) → slice_get l.places place ≡ Some p → p.index ≡ Some 0 → (o : Option ℕ) → option_and_then (λ part. part.thing.length) (part_of l p.holder) ≡ o → element_place l place i ≡ None
      count p e f None g = rw e (rw f (rw g refl))
      count p e f (Some n) g = rw e (rw f (rw g (either (nat_lt i n) (place + i * kind_size (size_of l.structs) p.kind) (beyond (kind_size (size_of l.structs) p.kind) (some_place l.structs p.kind)))))

      first : (p : Placed) → slice_get l.places place ≡ Some p → (o : Option ℕ) → p.index ≡ o → element_place l place i ≡ None
      first p e None f = rw e (rw f refl)
      first p e (Some zero) f = count p e f (option_and_then (λ part. part.thing.length) (part_of l p.holder)) refl
      first p e (Some (suc k)) f = rw e (rw f refl)

      by : (o : Option Placed) → slice_get l.places place ≡ o → element_place l place i ≡ None
      by None e = rw e refl
      by (Some p) e = first p e p.index refl

never : {A : Type 0} → ⊥ → A
never x = absurd x

the_number : {n m : ℕ} → Some n ≡ Some m → n ≡ m
the_number e = cc

module _ (l : Layout) (place : ℕ) (small : IsSmall l) where
  -- a negative index leads nowhere, nor does its number modulo 2 ^ 32
  pub negative : (n m : ℕ) → n < 2 ^ 31 → 2 ^ 32 - suc n ≡ m → element_place l place m ≡ None
  negative n m h e = too_far l place m (omega (arith, small, h, e))

  apart : (n m : ℕ) → n < 2 ^ 31 → m < 2 ^ 31 → 2 ^ 32 - suc n ≡ m → ⊥
  apart n m h k e = omega (arith, h, k, e)

  -- by the number modulo 2 ^ 32 itself
  pub by_bits : (v : Value) (k : ℕ) → IsValue v → bits v ≡ Some k → option_and_then (element_place l place) (index_in v) ≡ element_place l place k
  by_bits (Int (pos n)) k h e = ap (element_place l place) (the_number e)
  by_bits (Int (negsuc n)) k h e = sym (negative n k h (the_number e))
  by_bits (Unsigned n) k h e = ap (element_place l place) (the_number e)
  by_bits (Pointer p) k h e = cc

pub same_elements : SameBitsSameElements
same_elements l v w place small hv hw e = by (bits w) refl
  where
    pointer : (v : Value) → bits v ≡ None → index_in v ≡ None
    pointer (Int (pos n)) e = cc
    pointer (Int (negsuc n)) e = cc
    pointer (Unsigned n) e = cc
    pointer (Pointer p) e = refl

    by : (o : Option ℕ) → bits w ≡ o → option_and_then (element_place l place) (index_in v) ≡ option_and_then (element_place l place) (index_in w)
    by None f = ap (option_and_then (element_place l place)) (pointer v (e ∙ f) ∙ sym (pointer w f))
    by (Some k) f = by_bits l place small v k hv (e ∙ f) ∙ sym (by_bits l place small w k hw f)
