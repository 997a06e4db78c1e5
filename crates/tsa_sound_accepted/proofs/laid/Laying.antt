-- The places of any unit are laid out as it declares them.
use Rattle.std.proofs.Common.{◌≡◌, ◌∙◌, ℕ, zero, suc, ◌<◌, arith, Bool, true, false, ◌||◌, List, [], ◌∷◌, ◌++◌, Option, Some, None}
use Rattle.std.proofs.Common.{option_and_then, option_map, slice_get, refl, sym, ap, subst}
use Rattle.tsa_tree.specs.declared.kind.Kind.{Kind}
use Rattle.tsa_tree.specs.declared.kind.Kind.TheVariants as type
use Rattle.tsa_tree.specs.types.Units.{outset}
use Rattle.tsa_tree.specs.units.Syntax.{UnitItem}
use Rattle.tsa_place_model.specs.Ways.{Way}
use Rattle.tsa_place_model.specs.Calls.{Layout, element_place, guards_by, guards_of, members_of, part_guards, part_of}
use Rattle.tsa_place_model.specs.GlobalPlaces.{no_places}
use Rattle.tsa_place_model.specs.declared.place.Holder.{Holder}
use Rattle.tsa_place_model.specs.declared.place.Holder.TheVariants.{Global, Member}
use Rattle.tsa_place_model.specs.Layouts.{Part, kind_size, size_of, structure_at}
use Rattle.tsa_place_model.specs.Leading.{HasPlaces, leads_to}
use Rattle.tsa_place_model.specs.Units.{laid_in}
use Rattle.tsa_place_model.specs.declared.place.Placed.{Placed}
use Rattle.tsa_place_model.specs.Places.{has_some}
use Rattle.tsa_place_model.proofs.Asking.{none_is_none, same_some}
use Rattle.tsa_place_model.proofs.GlobalsInRow.{IsLaid, unit_laid}
use Rattle.tsa_place_model.proofs.Pieces.{at_row, element_is, row_at}
use Rattle.tsa_place_model.proofs.Rows.{PieceAt, Row, Thing}
use Rattle.tsa_place_model.proofs.Leading.{what_is_led_to_bears}
use Rattle.tsa_path.proofs.StandDeclared.{Heads, Marks, StandsAs, element_marked, global_marked, inner_marks, marks, member_marked}
use Rattle.tsa_path.proofs.StandDeclared.{part_marks, unit_heads}
use Rattle.tsa_sound.specs.LaidOut as laid
use Rattle.tsa_sound.specs.LaidOut.{LaidOut}
use Rattle.tsa_sound_accepted.specs.laid.Laws.{PlacesAreLaidOut}
use Rattle.tsa_sound_accepted.proofs.laid.FreeGuards.{AllFree, items_free, nothing_free}
use Rattle.tsa_sound_accepted.proofs.laid.Guarding.{Begun, begun_guards, element_guarded, guards_are, held, lies_behind}

same_marks : (l : Layout) (place : ℕ) (p : Placed) (kind : Kind) (c : Marks) → slice_get l.places place ≡ Some p → StandsAs l place kind c → marks p ≡ c
same_marks l place p kind c at x = ap marks (same_some p x.0 (sym at ∙ x.1.0)) ∙ x.1.1.1

none_declared : (ways : List (Option Way)) → has_some ways ≡ false → ways ≡ []
none_declared [] e = refl
none_declared (w ∷ rest) e = absurd cc

neither : (a b : Bool) → (a || b) ≡ false → (a ≡ false) × (b ≡ false)
neither true b e = absurd cc
neither false b e = (refl, e)

module _ (l : Layout) (whole : IsLaid l) (heads : Heads l) where
  -- the marks of a place are those of what stands first of its thing
  row_marks : (place : ℕ) (p : Placed) → slice_get l.places place ≡ Some p → (holder : Holder) (first : ℕ) (t : Thing l holder first) (c : Marks)
      → StandsAs l first t.part.thing.kind c
      → (n index : Option ℕ) → t.part.thing.length ≡ n → PieceAt l n (kind_size (size_of l.structs) t.part.thing.kind) first index place → marks p ≡ c
  row_marks place p at holder first t c x None None long h = same_marks l place p t.part.thing.kind c at (subst (λ o. StandsAs l o t.part.thing.kind c) (sym h) x)
  row_marks place p at holder first t c x (Some n) (Some i) long h =
      let to : element_place l first i ≡ Some place = element_is l whole holder first n i t long h.0 ∙ ap Some (sym h.1) in
      same_marks l place p x.0.kind (marks x.0) at (element_marked l whole heads first i place x.0 x.1.0 to) ∙ x.1.1.1
  row_marks place p at holder first t c x None (Some i) long h = absurd h
  row_marks place p at holder first t c x (Some n) None long h = absurd h

  -- what declares a thing: its marks, and that nothing guards it where they say so
  record Told (holder : Holder) (first : ℕ) (t : Thing l holder first) : Type 0 where
    told : Marks
    stands : StandsAs l first t.part.thing.kind told
    empty : told.1 ≡ false → held l whole holder ≡ []

  record Owner (owner k : ℕ) (part : Part) : Type 0 where
    placed : Placed
    there : slice_get l.places owner ≡ Some placed
    struct : ℕ
    kind_is : placed.kind ≡ type.Structure struct
    member : slice_get (structure_at l.structs struct).members k ≡ Some part

  owner_of_kind : (owner k : ℕ) (part : Part) (p : Placed) → slice_get l.places owner ≡ Some p → (kind : Kind) → p.kind ≡ kind
      → slice_get (members_of l kind) k ≡ Some part → Owner owner k part
  owner_of_kind owner k part p at (type.Structure n) is e = record { placed = p; there = at; struct = n; kind_is = is; member = e }
  owner_of_kind owner k part p at type.Int is e = absurd cc
  owner_of_kind owner k part p at type.Unsigned is e = absurd cc
  owner_of_kind owner k part p at type.Void is e = absurd cc
  owner_of_kind owner k part p at (type.Pointer target to_const) is e = absurd cc
  owner_of_kind owner k part p at type.Null is e = absurd cc
  owner_of_kind owner k part p at type.Function is e = absurd cc

  owner_there : (owner k : ℕ) (part : Part) (o : Option Placed) → slice_get l.places owner ≡ o
      → option_and_then (λ kind. slice_get (members_of l kind) k) (option_map (λ p. p.kind) o) ≡ Some part → Owner owner k part
  owner_there owner k part None at e = absurd cc
  owner_there owner k part (Some p) at e = owner_of_kind owner k part p at p.kind refl e

  told_by : (place : ℕ) → ((owner : ℕ) (q : Placed) → owner < place → slice_get l.places owner ≡ Some q → q.is_guarded ≡ false → guards_of l owner ≡ [])
      → (holder : Holder) (first : ℕ) (t : Thing l holder first) → ((owner k : ℕ) → holder ≡ Member owner k → owner < place) → Told holder first t
  told_by place deeper (Global g) first t behind = record {
    told = part_marks t.part;
    stands = global_marked l whole heads g first t.part t.declared t.begins;
    empty = λ e. ap (λ o. guards_by l None (part_guards o)) t.declared ∙ ap (guards_by l None) (none_declared t.part.guards e);
  }
  told_by place deeper (Member owner k) first t behind =
      let o = owner_there owner k t.part (slice_get l.places owner) refl t.declared in
      record {
        told = inner_marks (marks o.placed) t.part;
        stands = member_marked l whole heads owner o.struct k first o.placed t.part o.there o.kind_is o.member t.begins;
        empty = λ e.
            let both = neither o.placed.is_guarded (has_some t.part.guards) e in
            ap (λ gs. gs ++ guards_by l (Some owner) (part_guards (part_of l (Member owner k)))) (deeper owner o.placed (behind owner k refl) o.there both.0)
            ∙ ap (λ x. guards_by l (Some owner) (part_guards x)) t.declared ∙ ap (guards_by l (Some owner)) (none_declared t.part.guards both.1);
      }

  -- where a place isn't guarded, nothing that it lies in is
  unguarded_within : (n place : ℕ) (p : Placed) → place < n → slice_get l.places place ≡ Some p → p.is_guarded ≡ false → guards_of l place ≡ []
  unguarded_within zero place p less at e = absurd (omega (arith, less))
  unguarded_within (suc n) place p less at e =
      from (row_at l whole place p at) (λ owner q near. unguarded_within n owner q (omega (arith, near, less)))
    where
      from : Row l place → ((owner : ℕ) (q : Placed) → owner < place → slice_get l.places owner ≡ Some q → q.is_guarded ≡ false → guards_of l owner ≡ [])
          → guards_of l place ≡ []
      from r deeper =
          let is : p.holder ≡ r.holder = sym (ap (λ q. q.holder) (at_row l whole place p at r)) ∙ r.object.holder_is in
          let x = told_by place deeper r.holder r.first r.thing (λ owner k f. lies_behind l whole place owner k p at (is ∙ f)) in
          let c = row_marks place p at r.holder r.first r.thing x.told x.stands r.thing.part.thing.length r.index refl r.piece in
          guards_are l whole place p at ∙ ap (held l whole) is ∙ x.empty (sym (ap (λ m. m.1) c) ∙ e)

stands_as : (l : Layout) (place : ℕ) (kind : Kind) (c : Marks) → StandsAs l place kind c → laid.StandsAs l place kind c.0 c.1
stands_as l place kind c x = record { placed = x.0; there = x.1.0; kind_is = x.1.1.0; const_is = ap (λ m. m.0) x.1.1.1; guarded_is = ap (λ m. m.1) x.1.1.1 }

struct_part : (l : Layout) (owner struct k : ℕ) (p : Placed) (part : Part) → slice_get l.places owner ≡ Some p → p.kind ≡ type.Structure struct
    → slice_get (structure_at l.structs struct).members k ≡ Some part → part_of l (Member owner k) ≡ Some part
struct_part l owner struct k p part at kind is =
    ap (λ o. option_and_then (λ kind. slice_get (members_of l kind) k) (option_map (λ q. q.kind) o)) at ∙ ap (λ kind. slice_get (members_of l kind) k) kind ∙ is

module _ (items : List UnitItem) (l : Layout) (has : HasPlaces items l) where
  whole : IsLaid l
  whole = unit_laid items l has

  heads : Heads l
  heads = unit_heads items l has

  free : AllFree l
  free = subst AllFree has (items_free items (outset items) no_places nothing_free)

  led : (i place : ℕ) (holder : Holder) → leads_to l holder (Some i) ≡ Some place → Begun l whole holder place
  led i place holder e = let b = what_is_led_to_bears items l holder (Some i) place has e in record { placed = b.0; there = b.1; holder_is = b.2 }

  nothing_there : (first i : ℕ) → slice_get l.places first ≡ None → element_place l first i ≡ None
  nothing_there first i e = rw e refl

  element_has : (first i place : ℕ) → element_place l first i ≡ Some place → (o : Option Placed) → slice_get l.places first ≡ o
      → guards_of l place ≡ guards_of l first
  element_has first i place e None at = none_is_none place (sym (nothing_there first i at) ∙ e)
  element_has first i place e (Some p) at = element_guarded l whole first i place p at e (led i place)

  laid_out : LaidOut l
  laid_out = record {
    globals = λ n place part e f. stands_as l place part.thing.kind (part_marks part) (global_marked l whole heads n place part e f);
    members = λ owner struct k place p part at kind e f.
        stands_as l place part.thing.kind (inner_marks (marks p) part) (member_marked l whole heads owner struct k place p part at kind e f);
    elements = λ first i place p at e. stands_as l place p.kind (marks p) (element_marked l whole heads first i place p at e);
    global_guards = λ n place part e f. begun_guards l whole (Global n) place f ∙ ap (λ o. guards_by l None (part_guards o)) e;
    member_guards = λ owner struct k place p part at kind e f.
        begun_guards l whole (Member owner k) place f ∙ ap (λ o. guards_of l owner ++ guards_by l (Some owner) (part_guards o)) (struct_part l owner struct k p part at kind e);
    element_guards = λ first i place e. element_has first i place e (slice_get l.places first) refl;
    unguarded = λ place p at e. unguarded_within l whole heads (suc place) place p (omega arith) at e;
    global_free = free.globals;
    member_free = free.members;
  }

pub places_are_laid_out : PlacesAreLaidOut
places_are_laid_out items = laid_out items (laid_in items) refl
