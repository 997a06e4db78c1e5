-- The places that a place lies in, one by one.
use Rattle.std.proofs.Common.{◌≡◌, ◌∙◌, ℕ, zero, suc, ◌+◌, ◌-◌, ◌<◌, ◌≤◌, arith, List, [], ◌∷◌, ◌++◌, drop, length, reverse, get_or, Option, Some}
use Rattle.std.proofs.Common.{None, refl, sym, ap}
use Rattle.std.proofs.Math.Seq.{drop-cons}
use Rattle.std.proofs.lemmas.List.{append-nil, append_assoc, drop_all, reverse-append}
use Rattle.tsa_place_model.specs.Ways.{Way}
use Rattle.tsa_place_model.specs.declared.place.Placed.{Placed}
use Rattle.tsa_place_model.specs.Calls.{Layout, owner_at, around, own_text, text_along, own_guards, guards_along, guard_by, guards_by}
use Rattle.tsa_place_model.specs.declared.place.Guard.{Guard}
use Rattle.tsa_place_layout.proofs.GuardLists.{made_end, made_next}

module _ (l : Layout) where
  -- outward
  none_around : (n : ℕ) → around l n None ≡ []
  unfolding around
  none_around zero = refl
  none_around (suc n) = refl

  one_around : (n : ℕ) (p : Placed) → 0 < n → around l n (Some p) ≡ p ∷ around l (n - 1) (owner_at l p.holder)
  unfolding around
  one_around zero p h = absurd (omega (arith, h))
  one_around (suc n) p h = let less : n ≡ suc n - 1 = omega arith in ap (λ k. p ∷ around l k (owner_at l p.holder)) less

  out_of_room : (n : ℕ) (at : Option Placed) → n ≤ 0 → around l n at ≡ []
  unfolding around
  out_of_room zero at h = refl
  out_of_room (suc n) at h = absurd (omega (arith, h))

  module _ (way : List Placed) (goal : List Placed) (left : ℕ) where
    pub outward_first : (place : ℕ) (at : Option Placed) → way ≡ [] → left ≡ place + 1 → way ++ around l left at ≡ around l (suc place) at
    outward_first place at e h = let same : left ≡ suc place = omega (arith, h) in ap (λ w. w ++ around l left at) e ∙ ap (λ n. around l n at) same

    pub outward_next : (p : Placed) (longer : List Placed) (there : Option Placed) (at : Option Placed) → at ≡ Some p → 0 < left → longer ≡ way ++ p ∷ [] → there ≡ owner_at l p.holder
        → way ++ around l left at ≡ goal → longer ++ around l (left - 1) there ≡ goal
    outward_next p longer there at is h more owner told =
        ap (λ w. w ++ around l (left - 1) there) more ∙ ap (λ o. (way ++ p ∷ []) ++ around l (left - 1) o) owner
        ∙ append_assoc way (p ∷ []) (around l (left - 1) (owner_at l p.holder)) ∙ ap (λ w. way ++ w) (sym (one_around left p h)) ∙ ap (λ o. way ++ around l left o) (sym is) ∙ told

    pub outward_none : (at : Option Placed) → at ≡ None → way ++ around l left at ≡ goal → way ≡ goal
    outward_none at is told = sym (append-nil way) ∙ ap (λ w. way ++ w) (sym (none_around left)) ∙ ap (λ o. way ++ around l left o) (sym is) ∙ told

    pub outward_end : (at : Option Placed) → left ≤ 0 → way ++ around l left at ≡ goal → way ≡ goal
    outward_end at h told = sym (append-nil way) ∙ ap (λ w. way ++ w) (sym (out_of_room left at h)) ∙ told

-- inward: what each adds behind what the outer ones gave
module _ {A B : Type 0} (all : List A → List B) (one : A → List B) (nil : all [] ≡ []) (more : (x : A) (xs : List A) → all (x ∷ xs) ≡ all xs ++ one x) (xs : List A) where
  inward_first : (made : List B) (n : ℕ) → made ≡ [] → length xs ≤ n → made ≡ all (drop n xs)
  inward_first made n e h = e ∙ sym (ap all (drop_all n xs h) ∙ nil)

  inward_next : (left next : ℕ) (made after : List B) (d : A) → next ≡ left - 1 → 0 < left → left ≤ length xs → made ≡ all (drop left xs) → after ≡ made ++ one (get_or xs next d)
      → after ≡ all (drop next xs)
  inward_next left next made after d is some within told adds =
      let less : next < length xs = omega (arith, is, some, within) in
      let behind : suc next ≡ left = omega (arith, is, some) in
      adds ∙ ap (λ m. m ++ one (get_or xs next d)) (told ∙ ap (λ k. all (drop k xs)) (sym behind))
      ∙ sym (ap all (drop-cons xs next d less) ∙ more (get_or xs next d) (drop (suc next) xs))

module _ (l : Layout) where
  no_text : text_along l [] ≡ []
  unfolding text_along
  no_text = refl

  more_text : (p : Placed) (outer : List Placed) → text_along l (p ∷ outer) ≡ text_along l outer ++ own_text l p
  unfolding text_along
  more_text p outer = refl

  -- the texts of what a place lies in, the last byte first
  abbrev pub turned : List Placed → List ℕ
  turned way = reverse (text_along l way)

  turned_more : (p : Placed) (outer : List Placed) → turned (p ∷ outer) ≡ reverse (own_text l p) ++ turned outer
  turned_more p outer = ap reverse (more_text p outer) ∙ reverse-append (text_along l outer) (own_text l p)

  module _ (text : List ℕ) (goal : List ℕ) (left : ℕ) where
    pub turned_next : (p : Placed) (longer : List ℕ) (there : Option Placed) (at : Option Placed) → at ≡ Some p → 0 < left → longer ≡ text ++ reverse (own_text l p) → there ≡ owner_at l p.holder
        → text ++ turned (around l left at) ≡ goal → longer ++ turned (around l (left - 1) there) ≡ goal
    turned_next p longer there at is h more owner told =
        ap (λ w. w ++ turned (around l (left - 1) there)) more ∙ ap (λ o. (text ++ reverse (own_text l p)) ++ turned (around l (left - 1) o)) owner
        ∙ append_assoc text (reverse (own_text l p)) (turned (around l (left - 1) (owner_at l p.holder))) ∙ ap (λ w. text ++ w) (sym (turned_more p (around l (left - 1) (owner_at l p.holder))))
        ∙ ap (λ way. text ++ turned way) (sym (one_around l left p h)) ∙ ap (λ o. text ++ turned (around l left o)) (sym is) ∙ told

    pub turned_end : (at : Option Placed) → around l left at ≡ [] → text ++ turned (around l left at) ≡ goal → text ≡ goal
    turned_end at ends told = sym (append-nil text) ∙ ap (λ w. text ++ w) (sym (ap reverse no_text)) ∙ ap (λ way. text ++ turned way) (sym ends) ∙ told

    pub turned_none : (at : Option Placed) → at ≡ None → text ++ turned (around l left at) ≡ goal → text ≡ goal
    turned_none at is told = turned_end at (ap (around l left) is ∙ none_around l left) told

    pub turned_out : (at : Option Placed) → left ≤ 0 → text ++ turned (around l left at) ≡ goal → text ≡ goal
    turned_out at h told = turned_end at (out_of_room l left at h) told

  no_guards : guards_along l [] ≡ []
  unfolding guards_along
  no_guards = refl

  more_guards : (p : Placed) (outer : List Placed) → guards_along l (p ∷ outer) ≡ guards_along l outer ++ own_guards l p
  unfolding guards_along
  more_guards p outer = refl

  pub guards_first : (way : List Placed) (made : List Guard) (n : ℕ) → made ≡ [] → length way ≤ n → made ≡ guards_along l (drop n way)
  guards_first = inward_first (guards_along l) (own_guards l) no_guards more_guards

  pub guards_next : (way : List Placed) (left next : ℕ) (made after : List Guard) (d : Placed) → next ≡ left - 1 → 0 < left → left ≤ length way → made ≡ guards_along l (drop left way)
      → after ≡ made ++ own_guards l (get_or way next d) → after ≡ guards_along l (drop next way)
  guards_next = inward_next (guards_along l) (own_guards l) no_guards more_guards

  -- the guards of one member
  module _ (owner : Option ℕ) where
    pub each_end : (made : List Guard) (ways : List (Option Way)) (i : ℕ) → drop i ways ≡ [] → made ++ guards_by l owner (drop i ways) ≡ made
    each_end = made_end (guards_by l owner) (λ w. guard_by l owner w ∷ []) refl (λ w ws. refl)

    pub each_next : (made after : List Guard) (ways : List (Option Way)) (i : ℕ) (w : Option Way) → drop i ways ≡ w ∷ drop (suc i) ways → after ≡ made ++ guard_by l owner w ∷ []
        → after ++ guards_by l owner (drop (i + 1) ways) ≡ made ++ guards_by l owner (drop i ways)
    each_next = made_next (guards_by l owner) (λ w. guard_by l owner w ∷ []) refl (λ w ws. refl)
