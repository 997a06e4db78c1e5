-- The text of a place, from the text of the place that it lies in.
use Rattle.std.proofs.Common.{◌≡◌, ℕ, zero, suc, ◌<◌, arith, List, [], ◌∷◌, ◌++◌, Option, Some, None, slice_get, refl, sym, ap, ◌∙◌}
use Rattle.tsa_place_model.specs.declared.place.Holder.{Holder}
use Rattle.tsa_place_model.specs.declared.place.Holder.TheVariants.{Global, Member}
use Rattle.tsa_place_model.specs.declared.place.Placed.{Placed}
use Rattle.tsa_place_model.specs.Calls.{Layout, around, owner_at, part_of, part_name, index_text, dot, own_text, text_along, text_of}
use Rattle.tsa_place_model.specs.Leading.{IsInside, StandsIn}

-- each place of a layout has what declares it
abbrev pub AllStand : Layout → Type 0
AllStand l = (place : ℕ) (p : Placed) → slice_get l.places place ≡ Some p → StandsIn l place p

-- a text of its own behind that of where it lies
abbrev pub whole_text : Layout → Holder → List ℕ → List ℕ
whole_text l (Global n) own = own
whole_text l (Member owner k) own = text_of l owner ++ 46 ∷ own

pub none_around : (l : Layout) (n : ℕ) → around l n None ≡ []
unfolding around
none_around l zero = refl
none_around l (suc n) = refl

-- so many places that nothing is cut off
abbrev SameFrom : Layout → ℕ → ℕ → ℕ → Type 0
SameFrom l m n place = (owner : ℕ) → owner < place → around l m (slice_get l.places owner) ≡ around l n (slice_get l.places owner)

behind_holder : (l : Layout) (m n place : ℕ) (holder : Holder) → IsInside holder place → SameFrom l m n place → around l m (owner_at l holder) ≡ around l n (owner_at l holder)
behind_holder l m n place (Global g) inside same = none_around l m ∙ sym (none_around l n)
behind_holder l m n place (Member owner k) inside same = same owner inside

module _ (l : Layout) (stand : AllStand l) where
  one_more : (m n place : ℕ) (o : Option Placed) → slice_get l.places place ≡ o → SameFrom l m n place → around l (suc m) o ≡ around l (suc n) o
  unfolding around
  one_more m n place None e same = refl
  one_more m n place (Some p) e same = ap (λ ps. p ∷ ps) (behind_holder l m n place p.holder (stand place p e).inside same)

  enough : (m n place : ℕ) → place < m → place < n → around l m (slice_get l.places place) ≡ around l n (slice_get l.places place)
  enough zero n place h k = absurd (omega (arith, h))
  enough (suc m) zero place h k = absurd (omega (arith, k))
  enough (suc m) (suc n) place h k =
      one_more m n place (slice_get l.places place) refl (λ owner less. enough m n owner (omega (arith, h, less)) (omega (arith, k, less)))

  -- the text around a place
  behind_text : (place : ℕ) (holder : Holder) (own : List ℕ) → IsInside holder place → text_along l (around l place (owner_at l holder)) ++ (dot holder ++ own) ≡ whole_text l holder own
  unfolding text_along
  behind_text place (Global g) own inside = ap (λ ps. text_along l ps ++ own) (none_around l place)
  behind_text place (Member owner k) own inside = ap (λ ps. text_along l ps ++ 46 ∷ own) (enough place (suc owner) owner inside (omega arith))

  first_text : (place : ℕ) (p : Placed) → text_along l (around l (suc place) (Some p)) ≡ text_along l (around l place (owner_at l p.holder)) ++ own_text l p
  unfolding around text_along
  first_text place p = refl

  -- a place's text is its part's name and its index behind the text of what it lies in
  pub text_is : (place : ℕ) (p : Placed) (e : slice_get l.places place ≡ Some p) → text_of l place ≡ whole_text l p.holder ((stand place p e).part.name ++ index_text p.index)
  text_is place p e =
      ap (λ o. text_along l (around l (suc place) o)) e
      ∙ first_text place p
      ∙ behind_text place p.holder (part_name (part_of l p.holder) ++ index_text p.index) (stand place p e).inside
      ∙ ap (λ o. whole_text l p.holder (part_name o ++ index_text p.index)) (stand place p e).declared
