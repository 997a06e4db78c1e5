-- What a unit declares leads to its places: each has one way to it, and what is led to bears what leads there.
use Rattle.std.proofs.Common.{◌≡◌, ◌∙◌, ℕ, zero, suc, ◌+◌, ◌*◌, ◌<◌, arith, nat_lt, Bool, true, false, Option, Some, None, option_and_then}
use Rattle.std.proofs.Common.{slice_get, refl, sym, ap, subst}
use Rattle.std.proofs.lemmas.Bool.Decides.{nat_tests}
use Rattle.std.proofs.lemmas.Option.{slice_get_within}
use Rattle.tsa_tree.specs.declared.kind.Kind.{Kind}
use Rattle.tsa_place_model.specs.declared.place.Holder.{Holder}
use Rattle.tsa_place_model.specs.declared.place.Holder.TheVariants.{Global, Member}
use Rattle.tsa_place_model.specs.declared.place.Placed.{Placed}
use Rattle.tsa_place_model.specs.Calls.{Layout, element_place, part_of}
use Rattle.tsa_place_model.specs.Layouts.{Part, kind_size, size_of}
use Rattle.tsa_place_model.specs.Leading.{first_place, piece, leads_to, Route, from_global, to_member, reached, IsInside, StandsIn}
use Rattle.tsa_place_model.specs.Leading.{PlacesAreLedTo, WhatIsLedToBears, MembersHavePlaces, ElementsHavePlaces, OneWay}
use Rattle.tsa_place_model.specs.Places.{a_place}
use Rattle.tsa_place_model.specs.Standing.{HasSome}
use Rattle.tsa_place_model.proofs.Asking.{same_some, none_is_none, element_alone, element_past, alone_some, alone_other}
use Rattle.tsa_place_model.proofs.GlobalsInRow.{IsLaid, unit_laid}
use Rattle.tsa_place_model.proofs.Pieces.{some_at, element_is, row_at, at_row, stands_at, member_at, thing_at}
use Rattle.tsa_place_model.proofs.Rows.{Thing, PieceAt, Row, object_place, object_alone, object_element}

module _ (l : Layout) (laid : IsLaid l) where
  abbrev size : Kind → ℕ
  size kind = kind_size (size_of l.structs) kind

  abbrev Bears : Holder → Option ℕ → ℕ → Type 0
  Bears holder index place = (p : Placed) × (slice_get l.places place ≡ Some p) × (p.holder ≡ holder) × (p.index ≡ index)

  -- a piece of a thing bears what declares it
  piece_bears : (holder : Holder) (o : ℕ) (t : Thing l holder o) (n index : Option ℕ) (place : ℕ) → t.part.thing.length ≡ n → HasSome n → piece l o index ≡ Some place
      → Bears holder index place
  piece_bears holder o t None None place long some e =
      let head = object_alone l holder o t long in
      let at_first = object_place l o holder None t.part.thing.kind head in
      let same = same_some o place (sym (alone_some l o (a_place head.values head.given None t.part.thing.kind) at_first refl) ∙ e) in
      (a_place head.values head.given None t.part.thing.kind, subst (λ x. slice_get l.places x ≡ Some (a_place head.values head.given None t.part.thing.kind)) same at_first, head.holder_is, refl)
  piece_bears holder o t (Some n) None place long some e =
      let here : o + 0 * size t.part.thing.kind ≡ o = grind arith in
      let head = object_element l holder o n 0 t long some in
      let at_first = subst (λ x. slice_get l.places x ≡ Some (a_place head.values head.given (Some 0) t.part.thing.kind)) here
      (object_place l (o + 0 * size t.part.thing.kind) holder (Some 0) t.part.thing.kind head) in
      none_is_none place (sym (alone_other l o 0 (a_place head.values head.given (Some 0) t.part.thing.kind) at_first refl) ∙ e)
  piece_bears holder o t None (Some i) place long some e =
      let head = object_alone l holder o t long in
      let at_first = object_place l o holder None t.part.thing.kind head in
      none_is_none place (sym (element_alone l o i (a_place head.values head.given None t.part.thing.kind) at_first refl) ∙ e)
  piece_bears holder o t (Some n) (Some i) place long some e = by (nat_lt i n) refl
    where
      by : (b : Bool) → nat_lt i n ≡ b → Bears holder (Some i) place
      by true less =
          let within : i < n = grind (arith, nat_tests, less) in
          let own = object_element l holder o n i t long within in
          let same = same_some (o + i * size t.part.thing.kind) place (sym (element_is l laid holder o n i t long within) ∙ e) in (
            a_place own.values own.given (Some i) t.part.thing.kind,
            subst (λ x. slice_get l.places x ≡ Some (a_place own.values own.given (Some i) t.part.thing.kind)) same
                (object_place l (o + i * size t.part.thing.kind) holder (Some i) t.part.thing.kind own),
            own.holder_is,
            refl,
          )
      by false past =
          let here : o + 0 * size t.part.thing.kind ≡ o = grind arith in
          let head = object_element l holder o n 0 t long some in
          let at_first = subst (λ x. slice_get l.places x ≡ Some (a_place head.values head.given (Some 0) t.part.thing.kind)) here
          (object_place l (o + 0 * size t.part.thing.kind) holder (Some 0) t.part.thing.kind head) in
          none_is_none place
          (sym (element_past l o i n (a_place head.values head.given (Some 0) t.part.thing.kind) t.part at_first refl (ap (part_of l) head.holder_is ∙ t.declared) long past) ∙ e)

  bears_at : (holder : Holder) (index : Option ℕ) (place : ℕ) → leads_to l holder index ≡ Some place → Bears holder index place
  bears_at holder index place e = by (first_place l holder) refl
    where
      by : (o : Option ℕ) → first_place l holder ≡ o → Bears holder index place
      by None f = none_is_none place (sym (ap (option_and_then (λ o. piece l o index)) f) ∙ e)
      by (Some o) f =
          let t = thing_at l laid holder o f in
          piece_bears holder o t t.part.thing.length index place refl t.within.1 (sym (ap (option_and_then (λ x. piece l x index)) f) ∙ e)

  -- an element by its first one
  element_at : (place i n : ℕ) (p : Placed) (part : Part) → slice_get l.places place ≡ Some p → p.index ≡ Some 0 → part_of l p.holder ≡ Some part → part.thing.length ≡ Some n → i < n
      → element_place l place i ≡ Some (place + i * size p.kind)
  element_at place i n p part e zeroth declared long less =
      from (row_at l laid place p e)
    where
      from : Row l place → element_place l place i ≡ Some (place + i * size p.kind)
      from r = by r.thing.part.thing.length refl (subst (λ x. PieceAt l r.thing.part.thing.length (size r.thing.part.thing.kind) r.first x place) index r.piece)
        where
          is : a_place r.object.values r.object.given r.index r.thing.part.thing.kind ≡ p
          is = at_row l laid place p e r

          index : r.index ≡ Some 0
          index = ap (λ q. q.index) is ∙ zeroth

          kind : r.thing.part.thing.kind ≡ p.kind
          kind = ap (λ q. q.kind) is

          same_part : r.thing.part ≡ part
          same_part = same_some r.thing.part part (sym r.thing.declared ∙ ap (part_of l) (sym r.object.holder_is ∙ ap (λ q. q.holder) is) ∙ declared)

          by : (m : Option ℕ) → r.thing.part.thing.length ≡ m → PieceAt l m (size r.thing.part.thing.kind) r.first (Some 0) place → element_place l place i ≡ Some (place + i * size p.kind)
          by None none h = absurd h
          by (Some m) some h =
              let first : place ≡ r.first = let e = h.1 in grind (arith, e) in
              let count : r.thing.part.thing.length ≡ Some n = ap (λ q. q.thing.length) same_part ∙ long in
              subst (λ x. element_place l x i ≡ Some (x + i * size p.kind)) (sym first)
              (subst (λ t. element_place l r.first i ≡ Some (r.first + i * size t)) kind (element_is l laid r.holder r.first n i r.thing count less))

  -- a place has a way to it
  way_from : (fuel place : ℕ) → place < fuel → (p : Placed) → slice_get l.places place ≡ Some p → (r : Route) × (reached l r ≡ Some place)
  unfolding reached
  way_from zero place h p e = absurd (omega (arith, h))
  way_from (suc fuel) place h p e = by p.holder refl (λ owner less q f. way_from fuel owner (omega (arith, h, less)) q f)
    where
      s : StandsIn l place p
      s = stands_at l laid place p e

      by : (holder : Holder) → p.holder ≡ holder → ((owner : ℕ) → owner < place → (q : Placed) → slice_get l.places owner ≡ Some q → (r : Route) × (reached l r ≡ Some owner))
          → (r : Route) × (reached l r ≡ Some place)
      by (Global n) is outer = (from_global n p.index, subst (λ x. leads_to l x p.index ≡ Some place) is s.led)
      by (Member owner k) is outer =
          let less : owner < place = subst (λ x. IsInside x place) is s.inside in
          let early = slice_get_within l.places place p e in
          let q = some_at l.places owner (omega (arith, less, early)) in
          let r = outer owner less q.0 q.1 in
          (to_member r.0 k p.index, ap (option_and_then (λ x. leads_to l (Member x k) p.index)) r.1 ∙ subst (λ x. leads_to l x p.index ≡ Some place) is s.led)

  -- two ways to a place are the same
  same_bears : (holder other : Holder) (index j : Option ℕ) (place : ℕ) → Bears holder index place → Bears other j place → (holder ≡ other) × (index ≡ j)
  same_bears holder other index j place a b =
      let same = same_some a.0 b.0 (sym a.1 ∙ b.1) in
      (sym a.2 ∙ ap (λ p. p.holder) same ∙ b.2, sym a.3 ∙ ap (λ p. p.index) same ∙ b.3)

  global_number : (n m : ℕ) → ◌≡◌ {A = Holder} (Global n) (Global m) → n ≡ m
  global_number n m e = cc

  member_owner : (o q k m : ℕ) → Member o k ≡ Member q m → (o ≡ q) × (k ≡ m)
  member_owner o q k m e = (cc, cc)

  no_global : {R : Type 0} (n o k : ℕ) → Global n ≡ Member o k → R
  no_global n o k e = absurd cc

  -- where a member's way leads, its object stands
  by_outer : {R : Type 0} (r : Option ℕ) (k : ℕ) (index : Option ℕ) (place : ℕ) → option_and_then (λ o. leads_to l (Member o k) index) r ≡ Some place
      → ((o : ℕ) → r ≡ Some o → leads_to l (Member o k) index ≡ Some place → R) → R
  by_outer None k index place e known = none_is_none place e
  by_outer (Some o) k index place e known = known o refl e

  one_way : (a b : Route) (place : ℕ) → reached l a ≡ Some place → reached l b ≡ Some place → a ≡ b
  unfolding reached
  one_way (from_global n i) (from_global m j) place e f =
      let same = same_bears (Global n) (Global m) i j place (bears_at (Global n) i place e) (bears_at (Global m) j place f) in
      ap (λ x. from_global x i) (global_number n m same.0) ∙ ap (from_global m) same.1
  one_way (from_global n i) (to_member s m j) place e f =
      by_outer (reached l s) m j place f
      (λ q at g. no_global n q m (same_bears (Global n) (Member q m) i j place (bears_at (Global n) i place e) (bears_at (Member q m) j place g)).0)
  one_way (to_member r k i) (from_global m j) place e f =
      by_outer (reached l r) k i place e
      (λ o at g. no_global m o k (same_bears (Global m) (Member o k) j i place (bears_at (Global m) j place f) (bears_at (Member o k) i place g)).0)
  one_way (to_member r k i) (to_member s m j) place e f =
      by_outer (reached l r) k i place e
      (λ o at g. by_outer (reached l s) m j place f
      (λ q there h.
      let same = same_bears (Member o k) (Member q m) i j place (bears_at (Member o k) i place g) (bears_at (Member q m) j place h) in
      let inner = member_owner o q k m same.0 in
      ap (λ x. to_member x k i) (one_way r s o at (there ∙ ap Some (sym inner.0))) ∙ ap (λ x. to_member s x i) inner.1 ∙ ap (to_member s m) same.1))

pub places_are_led_to : PlacesAreLedTo
places_are_led_to items l place p has e = stands_at l (unit_laid items l has) place p e

pub what_is_led_to_bears : WhatIsLedToBears
what_is_led_to_bears items l holder index place has e = bears_at l (unit_laid items l has) holder index place e

pub members_have_places : MembersHavePlaces
members_have_places items l place k p m has e f = (member_at l (unit_laid items l has) place k p m e f).1

pub elements_have_places : ElementsHavePlaces
elements_have_places items l place i n p part has e zeroth declared long less = element_at l (unit_laid items l has) place i n p part e zeroth declared long less

pub places_have_one_way : OneWay
places_have_one_way items l place has less =
    let laid = unit_laid items l has in
    let p = some_at l.places place less in
    let w = way_from l laid (suc place) place (omega arith) p.0 p.1 in
    record { way = w.0; there = w.1; only = λ other e. one_way l laid other w.0 place e w.1 }
