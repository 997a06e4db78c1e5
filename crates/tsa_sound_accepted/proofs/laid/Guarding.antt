-- The guards of a place: those of what it lies in and its own, and none where it isn't guarded.
use Rattle.std.proofs.Common.{◌≡◌, ◌∙◌, ℕ, zero, suc, ◌+◌, ◌*◌, ◌<◌, arith, List, [], ◌∷◌, ◌++◌, Option, Some, None, option_and_then}
use Rattle.std.proofs.Common.{slice_get, refl, sym, ap, subst}
use Rattle.tsa_tree.specs.declared.kind.Kind.{Kind}
use Rattle.tsa_place_model.specs.declared.place.Guard.{Guard}
use Rattle.tsa_place_model.specs.Calls.{Layout, around, element_place, guards_along, guards_by, guards_of, own_guards, owner_at, owner_of}
use Rattle.tsa_place_model.specs.Calls.{part_guards, part_of}
use Rattle.tsa_place_model.specs.declared.place.Holder.{Holder}
use Rattle.tsa_place_model.specs.declared.place.Holder.TheVariants.{Global, Member}
use Rattle.tsa_place_model.specs.Layouts.{kind_size, size_of}
use Rattle.tsa_place_model.specs.Leading.{first_place, leads_to, piece}
use Rattle.tsa_place_model.specs.declared.place.Placed.{Placed}
use Rattle.tsa_place_model.specs.Places.{a_place}
use Rattle.tsa_place_model.specs.Standing.{HasSome}
use Rattle.tsa_place_model.proofs.Asking.{element_alone, none_is_none}
use Rattle.tsa_place_model.proofs.GlobalsInRow.{IsLaid}
use Rattle.tsa_place_model.proofs.Pieces.{at_row, row_at, thing_at}
use Rattle.tsa_place_model.proofs.Rows.{Object, PieceAt, Row, Thing, object_alone, object_element, object_place}
use Rattle.tsa_place_model.proofs.TextsAlong.{none_around}

-- With enough steps all is listed that a place lies in.
nothing_around : (l : Layout) (n m : ℕ) → around l n None ≡ around l m None
unfolding around
nothing_around l zero zero = refl
nothing_around l zero (suc m) = refl
nothing_around l (suc n) zero = refl
nothing_around l (suc n) (suc m) = refl

-- a later element is no array's first
element_later : (l : Layout) (o i j : ℕ) (p : Placed) → slice_get l.places o ≡ Some p → p.index ≡ Some (suc j) → element_place l o i ≡ None
element_later l o i j p e f = rw (e, f) refl

module _ (l : Layout) (laid : IsLaid l) where
  -- a place stands behind what it lies in
  pub lies_behind : (place owner k : ℕ) (p : Placed) → slice_get l.places place ≡ Some p → p.holder ≡ Member owner k → owner < place
  lies_behind place owner k p at is =
      let r = row_at l laid place p at in
      let same : r.holder ≡ Member owner k = sym r.object.holder_is ∙ ap (λ q. q.holder) (at_row l laid place p at r) ∙ is in
      below r same
    where
      before : (length : Option ℕ) (size first : ℕ) (index : Option ℕ) → PieceAt l length size first index place → owner < first → owner < place
      before None size first None h less = omega (arith, h, less)
      before (Some n) size first (Some i) h less = let e = h.1 in grind (arith, e, less)
      before None size first (Some i) h less = absurd h
      before (Some n) size first None h less = absurd h

      inside : (holder : Holder) (first : ℕ) → Thing l holder first → holder ≡ Member owner k → owner < first
      inside (Global n) first t e = absurd cc
      inside (Member o j) first t e = let same : o ≡ owner = cc in let h = t.inside in omega (arith, same, h)

      below : (r : Row l place) → r.holder ≡ Member owner k → owner < place
      below r e = before r.thing.part.thing.length (kind_size (size_of l.structs) r.thing.part.thing.kind) r.first r.index r.piece (inside r.holder r.first r.thing e)

  enough : (n m place : ℕ) (o : Option Placed) → slice_get l.places place ≡ o → place < n → place < m → around l n o ≡ around l m o
  unfolding around
  enough zero m place o at h g = absurd (omega (arith, h))
  enough (suc n) zero place o at h g = absurd (omega (arith, g))
  enough (suc n) (suc m) place None at h g = refl
  enough (suc n) (suc m) place (Some p) at h g = ap (λ rest. p ∷ rest) (by p.holder refl (λ owner k less. enough n m owner (slice_get l.places owner) refl (omega (arith, less, h)) (omega (arith, less, g))))
    where
      by : (holder : Holder) → p.holder ≡ holder → ((owner k : ℕ) → owner < place → around l n (slice_get l.places owner) ≡ around l m (slice_get l.places owner))
          → around l n (owner_at l p.holder) ≡ around l m (owner_at l p.holder)
      by (Global k) is deeper = ap (λ x. around l n (owner_at l x)) is ∙ nothing_around l n m ∙ sym (ap (λ x. around l m (owner_at l x)) is)
      by (Member owner k) is deeper =
          ap (λ x. around l n (owner_at l x)) is ∙ deeper owner k (lies_behind place owner k p at is) ∙ sym (ap (λ x. around l m (owner_at l x)) is)

  -- the guards of what has a holder
  abbrev outer : Holder → List Guard
  outer (Global n) = []
  outer (Member owner k) = guards_of l owner

  abbrev pub held : Holder → List Guard
  held holder = outer holder ++ guards_by l (owner_of holder) (part_guards (part_of l holder))

  pub guards_are : (place : ℕ) (p : Placed) → slice_get l.places place ≡ Some p → guards_of l place ≡ held p.holder
  unfolding guards_along around
  guards_are place p at = ap (λ o. guards_along l (around l (suc place) o)) at ∙ ap (λ xs. xs ++ own_guards l p) (by p.holder refl)
    where
      by : (holder : Holder) → p.holder ≡ holder → guards_along l (around l place (owner_at l p.holder)) ≡ outer p.holder
      by (Global n) is = ap (λ x. guards_along l (around l place (owner_at l x))) is ∙ ap (guards_along l) (none_around l place) ∙ sym (ap outer is)
      by (Member owner k) is =
          ap (λ x. guards_along l (around l place (owner_at l x))) is
          ∙ ap (guards_along l) (enough place (suc owner) owner (slice_get l.places owner) refl (lies_behind place owner k p at is) (omega arith)) ∙ sym (ap outer is)

  -- what stands where a global or a member begins is of it
  pub record Begun (holder : Holder) (place : ℕ) : Type 0 where
    pub placed : Placed
    pub there : slice_get l.places place ≡ Some placed
    pub holder_is : placed.holder ≡ holder

  of_object : (holder : Holder) (place : ℕ) (index : Option ℕ) (kind : Kind) → Object l place holder index kind → Begun holder place
  of_object holder place index kind o = record { placed = a_place o.values o.given index kind; there = object_place l place holder index kind o; holder_is = o.holder_is }

  begun : (holder : Holder) (place : ℕ) → first_place l holder ≡ Some place → Begun holder place
  begun holder place e = let t = thing_at l laid holder place e in by t t.part.thing.length refl t.within.1
    where
      by : (t : Thing l holder place) (n : Option ℕ) → t.part.thing.length ≡ n → HasSome t.part.thing.length → Begun holder place
      by t None long some = of_object holder place None t.part.thing.kind (object_alone l holder place t long)
      by t (Some n) long some =
          let here : place + 0 * kind_size (size_of l.structs) t.part.thing.kind ≡ place = grind arith in
          let more : 0 < n = subst HasSome long some in
          subst (Begun holder) here (of_object holder (place + 0 * kind_size (size_of l.structs) t.part.thing.kind) (Some 0) t.part.thing.kind (object_element l holder place n 0 t long more))

  pub begun_guards : (holder : Holder) (place : ℕ) → first_place l holder ≡ Some place → guards_of l place ≡ held holder
  begun_guards holder place e = let b = begun holder place e in guards_are place b.placed b.there ∙ ap held b.holder_is

  -- an element has the holder of its array's first
  module _ (first i place : ℕ) (p : Placed) (at : slice_get l.places first ≡ Some p) (e : element_place l first i ≡ Some place)
      (led : (holder : Holder) → leads_to l holder (Some i) ≡ Some place → Begun holder place) (r : Row l first)
    where
      is_row : a_place r.object.values r.object.given r.index r.thing.part.thing.kind ≡ p
      is_row = at_row l laid first p at r

      of_array : r.first ≡ first → guards_of l place ≡ guards_of l first
      of_array same =
          let to : leads_to l r.holder (Some i) ≡ Some place = ap (option_and_then (λ o. piece l o (Some i))) r.thing.begins ∙ ap (λ x. element_place l x i) same ∙ e in
          let b = led r.holder to in
          guards_are place b.placed b.there ∙ ap held (b.holder_is ∙ sym r.object.holder_is ∙ ap (λ q. q.holder) is_row) ∙ sym (guards_are first p at)

      by_piece : (n index : Option ℕ) → r.index ≡ index → PieceAt l n (kind_size (size_of l.structs) r.thing.part.thing.kind) r.first index first
          → guards_of l place ≡ guards_of l first
      by_piece None None f h = none_is_none place (sym (element_alone l first i p at (sym (ap (λ q. q.index) is_row) ∙ f)) ∙ e)
      by_piece (Some n) (Some zero) f h = let z = h.1 in of_array (grind (arith, z))
      by_piece (Some n) (Some (suc j)) f h = none_is_none place (sym (element_later l first i j p at (sym (ap (λ q. q.index) is_row) ∙ f)) ∙ e)
      by_piece None (Some j) f h = absurd h
      by_piece (Some n) None f h = absurd h

  pub element_guarded : (first i place : ℕ) (p : Placed) → slice_get l.places first ≡ Some p → element_place l first i ≡ Some place
      → ((holder : Holder) → leads_to l holder (Some i) ≡ Some place → Begun holder place) → guards_of l place ≡ guards_of l first
  element_guarded first i place p at e led =
      let r = row_at l laid first p at in
      by_piece first i place p at e led r r.thing.part.thing.length r.index refl r.piece
