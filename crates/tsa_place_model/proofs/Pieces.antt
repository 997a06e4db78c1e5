-- Each place of a unit is a piece of a thing that a global or a member declares, and is led to; a thing stands where each of them begins.
use Rattle.std.proofs.Common.{◌≡◌, ◌∙◌, ℕ, zero, suc, ◌+◌, ◌*◌, ◌<◌, ◌≤◌, arith, nat_lt, true, List, [], ◌∷◌, length, Option, Some, None}
use Rattle.std.proofs.Common.{option_and_then, slice_get, refl, sym, ap, subst}
use Rattle.std.proofs.lemmas.Bool.Decides.{nat_tests}
use Rattle.std.proofs.lemmas.Option.{slice_get_within}
use Rattle.tsa_tree.specs.declared.kind.Kind.{Kind}
use Rattle.tsa_tree.specs.declared.kind.Kind.TheVariants as type
use Rattle.tsa_place_model.specs.declared.place.Holder.{Holder}
use Rattle.tsa_place_model.specs.declared.place.Holder.TheVariants.{Global, Member}
use Rattle.tsa_place_model.specs.declared.place.Placed.{Placed}
use Rattle.tsa_place_model.specs.Calls.{Layout, member_place, element_place, members_of, part_of}
use Rattle.tsa_place_model.specs.Layouts.{Part, kind_size, size_of, structure_at, offset}
use Rattle.tsa_place_model.specs.Leading.{first_place, piece, leads_to, Fits, IsInside, StandsIn}
use Rattle.tsa_place_model.specs.Places.{a_place}
use Rattle.tsa_place_model.specs.Standing.{IsBelow}
use Rattle.tsa_place_model.proofs.Asking.{same_some, none_is_none, is_there, member_none, member_other, element_some, alone_some}
use Rattle.tsa_place_model.proofs.GlobalsInRow.{Block, Belongs, IsLaid}
use Rattle.tsa_place_model.proofs.Rows.{Thing, Object, PieceAt, Row, object_place, object_alone, object_element, thing_rows, member_begins}
use Rattle.tsa_place_model.proofs.Rows.{member_thing}

pub some_at : {A : Type 0} (xs : List A) (n : ℕ) → n < length xs → (x : A) × (slice_get xs n ≡ Some x)
some_at [] n h = absurd (omega (arith, h))
some_at (x ∷ xs) zero h = (x, refl)
some_at (x ∷ xs) (suc n) h = some_at xs n (omega (arith, h))

inside_more : (holder : Holder) (first place : ℕ) → first ≤ place → IsInside holder first → IsInside holder place
inside_more (Global n) first place h x = tt
inside_more (Member owner k) first place h x = omega (arith, h, x)

-- a struct alone has members
by_struct : {R : Type 0} (l : Layout) (kind : Kind) (k : ℕ) (m : Part) → slice_get (members_of l kind) k ≡ Some m
    → ((s : ℕ) → kind ≡ type.Structure s → slice_get (structure_at l.structs s).members k ≡ Some m → R) → R
by_struct l (type.Structure s) k m e known = known s refl e
by_struct l type.Int zero m e known = none_is_none m e
by_struct l type.Int (suc k) m e known = none_is_none m e
by_struct l type.Unsigned zero m e known = none_is_none m e
by_struct l type.Unsigned (suc k) m e known = none_is_none m e
by_struct l type.Void zero m e known = none_is_none m e
by_struct l type.Void (suc k) m e known = none_is_none m e
by_struct l (type.Pointer target to_const) zero m e known = none_is_none m e
by_struct l (type.Pointer target to_const) (suc k) m e known = none_is_none m e
by_struct l type.Null zero m e known = none_is_none m e
by_struct l type.Null (suc k) m e known = none_is_none m e
by_struct l type.Function zero m e known = none_is_none m e
by_struct l type.Function (suc k) m e known = none_is_none m e

module _ (l : Layout) (laid : IsLaid l) where
  abbrev size : Kind → ℕ
  size kind = kind_size (size_of l.structs) kind

  -- a global is a thing
  global_thing : (n : ℕ) (part : Part) (start : ℕ) → slice_get l.globals n ≡ Some part → slice_get l.starts n ≡ Some start → Thing l (Global n) start
  global_thing n part start is begins = from (laid.blocks n part is)
    where
      from : Block l n part → Thing l (Global n) start
      from b = subst (Thing l (Global n)) (same_some b.start start (sym b.begins ∙ begins)) (record {
        part = part;
        declared = is;
        begins = b.begins;
        within = b.within;
        values = b.values;
        given = b.given;
        holder_is = b.holder;
        stands = b.stands;
        inside = tt;
      })

  -- each place is a piece of a thing
  pub row_at : (place : ℕ) (p : Placed) → slice_get l.places place ≡ Some p → Row l place
  row_at place p e = from (laid.cover place (slice_get_within l.places place p e))
    where
      by_block : (b : Belongs l place) (c : Block l b.number b.part) → Row l place
      by_block b c =
          let same = same_some c.start b.start (sym c.begins ∙ b.begins) in
          let from = b.from in
          let before = b.before in
          thing_rows l laid.ordered (length l.structs) (Global b.number) c.start (record {
            part = b.part;
            declared = b.is;
            begins = c.begins;
            within = c.within;
            values = c.values;
            given = c.given;
            holder_is = c.holder;
            stands = c.stands;
            inside = tt;
          }) place c.within.0 (omega (arith, same, from)) (omega (arith, same, before))

      from : Belongs l place → Row l place
      from b = by_block b (laid.blocks b.number b.part b.is)

  -- an element of a thing, by what stands first
  pub element_is : (holder : Holder) (first n i : ℕ) (t : Thing l holder first) → t.part.thing.length ≡ Some n → i < n
      → element_place l first i ≡ Some (first + i * size t.part.thing.kind)
  element_is holder first n i t long less =
      let some : 0 < n = omega (arith, less) in
      let here : first + 0 * size t.part.thing.kind ≡ first = grind arith in
      let head = object_element l holder first n 0 t long some in
      let at_first = subst (λ x. slice_get l.places x ≡ Some (a_place head.values head.given (Some 0) t.part.thing.kind)) here
      (object_place l (first + 0 * size t.part.thing.kind) holder (Some 0) t.part.thing.kind head) in
      let own = object_element l holder first n i t long less in
      let yes : nat_lt i n ≡ true = grind (arith, nat_tests, less) in
      element_some l first i n (a_place head.values head.given (Some 0) t.part.thing.kind) t.part at_first refl (ap (part_of l) head.holder_is ∙ t.declared) long yes
      ∙ is_there l (first + i * size t.part.thing.kind) (a_place own.values own.given (Some i) t.part.thing.kind)
      (object_place l (first + i * size t.part.thing.kind) holder (Some i) t.part.thing.kind own)

  -- a piece of a thing is led to
  piece_led : (holder : Holder) (first : ℕ) (t : Thing l holder first) (n index : Option ℕ) (place : ℕ) → t.part.thing.length ≡ n
      → PieceAt l n (size t.part.thing.kind) first index place → piece l first index ≡ Some place
  piece_led holder first t None None place long h =
      let head = object_alone l holder first t long in
      alone_some l first (a_place head.values head.given None t.part.thing.kind) (object_place l first holder None t.part.thing.kind head) refl ∙ ap Some (sym h)
  piece_led holder first t (Some n) (Some i) place long h = element_is holder first n i t long h.0 ∙ ap Some (sym h.1)
  piece_led holder first t None (Some i) place long h = absurd h
  piece_led holder first t (Some n) None place long h = absurd h

  fits_of : (n : Option ℕ) (z first : ℕ) (index : Option ℕ) (place : ℕ) → PieceAt l n z first index place → Fits n index
  fits_of None z first None place h = tt
  fits_of (Some n) z first (Some i) place h = h.0
  fits_of None z first (Some i) place h = absurd h
  fits_of (Some n) z first None place h = absurd h

  not_before : (n : Option ℕ) (z first : ℕ) (index : Option ℕ) (place : ℕ) → PieceAt l n z first index place → first ≤ place
  not_before None z first None place h = omega (arith, h)
  not_before (Some n) z first (Some i) place h = let e = h.1 in grind (arith, e)
  not_before None z first (Some i) place h = absurd h
  not_before (Some n) z first None place h = absurd h

  -- what stands at a place, by its row
  standing : (place : ℕ) (r : Row l place) → StandsIn l place (a_place r.object.values r.object.given r.index r.thing.part.thing.kind)
  standing place r =
      let same = r.object.holder_is in
      record {
        part = r.thing.part;
        declared = ap (part_of l) same ∙ r.thing.declared;
        kind = refl;
        fits = fits_of r.thing.part.thing.length (size r.thing.part.thing.kind) r.first r.index place r.piece;
        led =
            ap (λ h. leads_to l h r.index) same
            ∙ ap (option_and_then (λ o. piece l o r.index)) r.thing.begins
            ∙ piece_led r.holder r.first r.thing r.thing.part.thing.length r.index place refl r.piece;
        inside = subst (λ h. IsInside h place) (sym same)
            (inside_more r.holder r.first place (not_before r.thing.part.thing.length (size r.thing.part.thing.kind) r.first r.index place r.piece) r.thing.inside);
      }

  pub at_row : (place : ℕ) (p : Placed) → slice_get l.places place ≡ Some p → (r : Row l place) → a_place r.object.values r.object.given r.index r.thing.part.thing.kind ≡ p
  at_row place p e r =
      same_some (a_place r.object.values r.object.given r.index r.thing.part.thing.kind) p (sym (object_place l place r.holder r.index r.thing.part.thing.kind r.object) ∙ e)

  pub stands_at : (place : ℕ) (p : Placed) → slice_get l.places place ≡ Some p → StandsIn l place p
  stands_at place p e = let r = row_at place p e in subst (StandsIn l place) (at_row place p e r) (standing place r)

  -- a member of what stands at a place
  module _ (place k s : ℕ) (m : Part) (is : slice_get (structure_at l.structs s).members k ≡ Some m) (r : Row l place) (kind : r.thing.part.thing.kind ≡ type.Structure s) where
    abbrev object : Object l place r.holder r.index (type.Structure s)
    object = subst (Object l place r.holder r.index) kind r.object

    below : s < length l.structs
    below = subst (IsBelow (length l.structs)) kind r.thing.within.0

    begins_at : member_place l place k ≡ Some (place + 1 + offset (size_of l.structs) (structure_at l.structs s).members k)
    begins_at = member_begins l laid.ordered place r.holder r.index s object below k m is

    thing_in : Thing l (Member place k) (place + 1 + offset (size_of l.structs) (structure_at l.structs s).members k)
    thing_in = member_thing l laid.ordered place r.holder r.index s object below k m is

  pub member_at : (place k : ℕ) (p : Placed) (m : Part) → slice_get l.places place ≡ Some p → slice_get (members_of l p.kind) k ≡ Some m
      → (Thing l (Member place k) (place + 1 + offset (size_of l.structs) (members_of l p.kind) k))
      × (member_place l place k ≡ Some (place + 1 + offset (size_of l.structs) (members_of l p.kind) k))
  member_at place k p m e f = by_struct l p.kind k m f of_struct
    where
      of_struct : (s : ℕ) → p.kind ≡ type.Structure s → slice_get (structure_at l.structs s).members k ≡ Some m
          → (Thing l (Member place k) (place + 1 + offset (size_of l.structs) (members_of l p.kind) k))
          × (member_place l place k ≡ Some (place + 1 + offset (size_of l.structs) (members_of l p.kind) k))
      of_struct s kind is =
          let r = row_at place p e in
          let same : r.thing.part.thing.kind ≡ type.Structure s = ap (λ q. q.kind) (at_row place p e r) ∙ kind in
          subst (λ t. (Thing l (Member place k) (place + 1 + offset (size_of l.structs) (members_of l t) k))
          × (member_place l place k ≡ Some (place + 1 + offset (size_of l.structs) (members_of l t) k))) (sym kind)
          (thing_in place k s m is r same, begins_at place k s m is r same)

  -- where something begins, a thing stands
  pub thing_at : (holder : Holder) (o : ℕ) → first_place l holder ≡ Some o → Thing l holder o
  thing_at (Global n) o e =
      let early = slice_get_within l.starts n o e in
      let many = laid.as_many in
      let part = some_at l.globals n (omega (arith, early, many)) in
      global_thing n part.0 o part.1 e
  thing_at (Member owner k) o e = by_owner (slice_get l.places owner) refl
    where
      by_member : (p : Placed) → slice_get l.places owner ≡ Some p → (m : Option Part) → slice_get (members_of l p.kind) k ≡ m → Thing l (Member owner k) o
      by_member p at None f = none_is_none o (sym (member_other l owner k p at f) ∙ e)
      by_member p at (Some m) f =
          let both = member_at owner k p m at f in
          subst (Thing l (Member owner k)) (same_some _ o (sym both.1 ∙ e)) both.0

      by_owner : (p : Option Placed) → slice_get l.places owner ≡ p → Thing l (Member owner k) o
      by_owner None at = none_is_none o (sym (member_none l owner k at) ∙ e)
      by_owner (Some p) at = by_member p at (slice_get (members_of l p.kind) k) refl
