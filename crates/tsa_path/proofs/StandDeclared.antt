-- Globals, members and elements of a unit stand as they are declared, and const where they are declared so.
use Rattle.std.proofs.Common.{◌≡◌, ◌∙◌, ℕ, zero, suc, ◌+◌, ◌*◌, ◌<◌, arith, nat_lt, Bool, true, false, ◌||◌, List, [], ◌∷◌, ◌++◌, length}
use Rattle.std.proofs.Common.{Option, Some, None, option_map, slice_get, refl, sym, ap, subst}
use Rattle.std.proofs.lemmas.Bool.Decides.{nat_tests}
use Rattle.std.proofs.lemmas.List.{drop_at, append-nil}
use Rattle.std.proofs.lemmas.Option.{slice_get_within}
use Rattle.tsa_base.proofs.Truths.{or_right}
use Rattle.tsa_tree.specs.declarations.Syntax.{Initialiser}
use Rattle.tsa_tree.specs.declared.kind.Kind.{Kind}
use Rattle.tsa_tree.specs.declared.kind.Kind.TheVariants as type
use Rattle.tsa_tree.specs.declared.kind.ThingType.{ThingType}
use Rattle.tsa_tree.specs.types.Scopes.{Scope}
use Rattle.tsa_tree.specs.types.Units.{outset}
use Rattle.tsa_tree.specs.units.Syntax.{UnitItem, structure_item, alias_item, enumeration_item, global_item, function_item, body_item}
use Rattle.tsa_place_model.proofs.Standing.{element_stands, member_stands}
use Rattle.tsa_place_model.specs.declared.place.Holder.{Holder}
use Rattle.tsa_place_model.specs.declared.place.Holder.TheVariants.{Global}
use Rattle.tsa_place_model.specs.declared.place.Placed.{Placed}
use Rattle.tsa_place_model.specs.Calls.{Layout, member_place, element_place, global_place, kind_at, is_structure, part_of}
use Rattle.tsa_place_model.specs.Layouts.{Part, kind_size, size_of, structure_at, offset}
use Rattle.tsa_place_model.specs.Places.{Given, Values, has_some, a_place, element_of, member_of, pieces, places_inside}
use Rattle.tsa_place_model.specs.Standing.{StandsAt, IsBelow, HasSome}
use Rattle.tsa_place_model.specs.Leading.{HasPlaces}
use Rattle.tsa_place_model.specs.Items.{known_global, global_part, behind_data}
use Rattle.tsa_place_model.specs.GlobalPlaces.{values_in, given_by, with_part, no_places}
use Rattle.tsa_place_model.specs.Units.{data_placed, laid_behind}
use Rattle.tsa_place_model.proofs.Asking.{same_some, none_is_none, kind_head, element_alone, element_past}
use Rattle.tsa_place_model.proofs.GlobalsInRow.{IsLaid, unit_laid, front_at, by_last}
use Rattle.tsa_place_model.proofs.Pieces.{row_at, at_row, thing_at, element_is}
use Rattle.tsa_place_model.proofs.Rows.{Thing, Object, PieceAt, Row, member_within, member_begins}
use Rattle.tsa_path.proofs.Bearing.{Bears, StandsDeclared}

-- a later element is no array's first
element_other : (l : Layout) (o i j : ℕ) (p : Placed) → slice_get l.places o ≡ Some p → p.index ≡ Some (suc j) → element_place l o i ≡ None
element_other l o i j p e f = rw (e, f) refl

-- whether something is const, and whether it is guarded
abbrev pub Marks : Type 0
Marks = Bool × Bool

abbrev pub marks : Placed → Marks
marks p = (p.is_const, p.is_guarded)

abbrev pub given_marks : Given → Marks
given_marks g = (g.is_const, g.is_guarded)

abbrev pub part_marks : Part → Marks
part_marks part = (part.thing.is_const, has_some part.guards)

abbrev pub inner_marks : Marks → Part → Marks
inner_marks outer m = (outer.0 || m.thing.is_const, outer.1 || has_some m.guards)

-- what stands at a place, by its kind and its marks
abbrev pub StandsAs : Layout → ℕ → Kind → Marks → Type 0
StandsAs l o kind c = (p : Placed) × ((slice_get l.places o ≡ Some p) × ((p.kind ≡ kind) × (marks p ≡ c)))

stands_bears : (l : Layout) (o : ℕ) (t : ThingType) (c : Marks) → StandsAs l o t.kind c → (is_structure t.kind ≡ false → t.is_const ≡ true → c.0 ≡ true) → Bears l o t
stands_bears l o t c p h = record { placed = p.0; there = p.1.0; kind = p.1.1.0; constant = λ s e. ap (λ m. m.0) p.1.1.1 ∙ h s e }

same_marks : (l : Layout) (o : ℕ) (kind other : Kind) (a b : Marks) → StandsAs l o kind a → StandsAs l o other b → a ≡ b
same_marks l o kind other a b x y = sym x.1.1.1 ∙ ap marks (same_some x.0 y.0 (sym x.1.0 ∙ y.1.0)) ∙ y.1.1.1

-- an element of a thing, and what stands first of one
element_stands_as : (l : Layout) (values : Values) (g : Given) (o i n : ℕ) (kind : Kind) → i < n
    → StandsAt l.places o (pieces (places_inside l.structs values) (size_of l.structs) values g o kind (Some n)) → StandsAs l (o + i * kind_size (size_of l.structs) kind) kind (given_marks g)
element_stands_as l values g o i n kind less h = (
  a_place values (element_of g i) (Some i) kind,
  (
    kind_head (places_inside l.structs values) (size_of l.structs) values l.places (element_of g i) (Some i) (o + i * kind_size (size_of l.structs) kind) kind
        (element_stands l.structs values l.places g o i n kind less h),
    (refl, refl),
  ),
)

head_stands : (l : Layout) (values : Values) (g : Given) (o : ℕ) (kind : Kind) (n : Option ℕ) → HasSome n
    → StandsAt l.places o (pieces (places_inside l.structs values) (size_of l.structs) values g o kind n) → StandsAs l o kind (given_marks g)
head_stands l values g o kind None some h =
    (a_place values g None kind, (kind_head (places_inside l.structs values) (size_of l.structs) values l.places g None o kind h, (refl, refl)))
head_stands l values g o kind (Some n) some h =
    let here : o + 0 * kind_size (size_of l.structs) kind ≡ o = grind arith in
    subst (λ x. StandsAs l x kind (given_marks g)) here (element_stands_as l values g o 0 n kind some h)

-- each global begins with a place that is const as it is declared
pub record Heads (l : Layout) : Type 0 where
  pub head : (n start : ℕ) (part : Part) → slice_get l.globals n ≡ Some part → slice_get l.starts n ≡ Some start → HasSome part.thing.length → StandsAs l start part.thing.kind (part_marks part)
  pub as_many : length l.starts ≡ length l.globals

far : {A : Type 0} {R : Type 0} (xs : List A) (n m : ℕ) (x : A) → slice_get xs n ≡ Some x → n ≡ m → length xs ≡ m → R
far xs n m x e f g = let less = slice_get_within xs n x e in absurd (omega (arith, less, f, g))

more_length : {A : Type 0} (xs : List A) (x : A) → length (xs ++ x ∷ []) ≡ suc (length xs)
more_length [] x = refl
more_length (y ∷ xs) x = ap suc (more_length xs x)

module _ (here : Scope) (part : Part) (init : Option Initialiser) (l : Layout) (h : Heads l) where
  abbrev after : Layout
  after = with_part here part init l

  new_head : HasSome part.thing.length → StandsAs after (length l.places) part.thing.kind (part_marks part)
  new_head some =
      head_stands after (values_in here l) (given_by part (length l.globals) init) (length l.places) part.thing.kind part.thing.length some
      ([], drop_at l.places _ (length l.places) refl ∙ sym (append-nil _))

  old_head : (start : ℕ) (kind : Kind) (c : Marks) → StandsAs l start kind c → StandsAs after start kind c
  old_head start kind c x = (x.0, (front_at l.places _ start x.0 x.1.0, x.1.1))

  part_heads : Heads after
  part_heads = record {
    head = λ n start p e f some. by_last l.globals part n p e (λ g. of_old n start p g some f) (λ m same. of_new n start p m same some f);
    as_many = more_length l.starts (length l.places) ∙ ap suc h.as_many ∙ sym (more_length l.globals part);
  }
    where
      of_old : (n start : ℕ) (p : Part) → slice_get l.globals n ≡ Some p → HasSome p.thing.length → slice_get after.starts n ≡ Some start → StandsAs after start p.thing.kind (part_marks p)
      of_old n start p g some f =
          by_last l.starts (length l.places) n start f (λ f. old_head start p.thing.kind (part_marks p) (h.head n start p g f some))
          (λ m same. far l.globals n (length l.starts) p g m (sym h.as_many))

      of_new : (n start : ℕ) (p : Part) → n ≡ length l.globals → part ≡ p → HasSome p.thing.length → slice_get after.starts n ≡ Some start → StandsAs after start p.thing.kind (part_marks p)
      of_new n start p m same some f =
          by_last l.starts (length l.places) n start f (λ f. far l.starts n (length l.globals) start f m h.as_many)
          (λ m at.
          subst (λ x. StandsAs after x p.thing.kind (part_marks p)) at
          (subst (λ q. StandsAs after (length l.places) q.thing.kind (part_marks q)) same (new_head (subst (λ q. HasSome q.thing.length) (sym same) some))))

pub item_heads : (here : Scope) (l : Layout) (item : UnitItem) → Heads l → Heads (data_placed here l item)
item_heads here l (structure_item tag alias attrs members span) h = record { head = h.head; as_many = h.as_many }
item_heads here l (alias_item name ctype span) h = h
item_heads here l (enumeration_item tag alias values span) h = h
item_heads here l (global_item d) h = part_heads (known_global here d) (global_part here d) d.init l h
item_heads here l (function_item head) h = h
item_heads here l (body_item head body close) h = h

items_heads : (items : List UnitItem) (here : Scope) (l : Layout) → Heads l → Heads (laid_behind here l items)
unfolding laid_behind
items_heads [] here l h = h
items_heads (item ∷ rest) here l h = items_heads rest (behind_data here item) (data_placed here l item) (item_heads here l item h)

pub no_heads : Heads no_places
no_heads = record { head = λ n start part e f some. none n part e; as_many = refl }
  where
    none : {R : Type 0} (n : ℕ) (part : Part) → slice_get [] n ≡ Some part → R
    none zero part e = none_is_none part e
    none (suc n) part e = none_is_none part e

pub unit_heads : (items : List UnitItem) (l : Layout) → HasPlaces items l → Heads l
unit_heads items l has = subst Heads has (items_heads items (outset items) no_places no_heads)

module _ (l : Layout) (laid : IsLaid l) (heads : Heads l) where
  thing_stands : (holder : Holder) (o : ℕ) (t : Thing l holder o) → StandsAs l o t.part.thing.kind (given_marks t.given)
  thing_stands holder o t = head_stands l t.values t.given o t.part.thing.kind t.part.thing.length t.within.1 t.stands

  pub global_marked : (n place : ℕ) (part : Part) → slice_get l.globals n ≡ Some part → global_place l n ≡ Some place → StandsAs l place part.thing.kind (part_marks part)
  global_marked n place part e f = from (thing_at l laid (Global n) place f)
    where
      from : Thing l (Global n) place → StandsAs l place part.thing.kind (part_marks part)
      from t = heads.head n place part e f (subst (λ p. HasSome p.thing.length) (same_some t.part part (sym t.declared ∙ e)) t.within.1)

  global_bears : (n place : ℕ) (part : Part) → slice_get l.globals n ≡ Some part → global_place l n ≡ Some place → Bears l place part.thing
  global_bears n place part e f = stands_bears l place part.thing (part_marks part) (global_marked n place part e f) (λ s c. c)

  struct_at : (owner struct : ℕ) (o : Option Placed) → slice_get l.places owner ≡ o → option_map (λ p. p.kind) o ≡ Some (type.Structure struct)
      → (p : Placed) × ((slice_get l.places owner ≡ Some p) × (p.kind ≡ type.Structure struct))
  struct_at owner struct None e f = cc
  struct_at owner struct (Some p) e f = (p, (e, same_some p.kind (type.Structure struct) f))

  module _ (owner struct k : ℕ) (m : Part) (is : slice_get (structure_at l.structs struct).members k ≡ Some m) (r : Row l owner) (kind : r.thing.part.thing.kind ≡ type.Structure struct)
      (place : ℕ) (there : member_place l owner k ≡ Some place)
    where
      abbrev object : Object l owner r.holder r.index (type.Structure struct)
      object = subst (Object l owner r.holder r.index) kind r.object

      below : struct < length l.structs
      below = subst (IsBelow (length l.structs)) kind r.thing.within.0

      abbrev begins : ℕ
      begins = owner + 1 + offset (size_of l.structs) (structure_at l.structs struct).members k

      inner_stands : StandsAs l begins m.thing.kind (inner_marks (given_marks object.given) m)
      inner_stands =
          head_stands l object.values (member_of object.given owner k m) begins m.thing.kind m.thing.length
          (member_within l laid.ordered owner r.holder r.index struct object below k m is).1
          (member_stands l.structs object.values l.places object.given r.index owner struct k m laid.ordered below is object.stands)

      row_stands : StandsAs l place m.thing.kind (inner_marks (given_marks object.given) m)
      row_stands =
          subst (λ x. StandsAs l x m.thing.kind (inner_marks (given_marks object.given) m))
          (same_some begins place (sym (member_begins l laid.ordered owner r.holder r.index struct object below k m is) ∙ there)) inner_stands

      owner_marks : (p : Placed) → slice_get l.places owner ≡ Some p → given_marks object.given ≡ marks p
      owner_marks p at =
          ap marks
          (same_some (a_place object.values object.given r.index (type.Structure struct)) p
          (sym (kind_head (places_inside l.structs object.values) (size_of l.structs) object.values l.places object.given r.index owner (type.Structure struct) object.stands) ∙ at))

  pub member_marked : (owner struct k place : ℕ) (p : Placed) (part : Part) → slice_get l.places owner ≡ Some p → p.kind ≡ type.Structure struct
      → slice_get (structure_at l.structs struct).members k ≡ Some part → member_place l owner k ≡ Some place → StandsAs l place part.thing.kind (inner_marks (marks p) part)
  member_marked owner struct k place p part at kind f g =
      let r = row_at l laid owner p at in
      let is = ap (λ q. q.kind) (at_row l laid owner p at r) ∙ kind in
      subst (λ m. StandsAs l place part.thing.kind (inner_marks m part)) (owner_marks owner struct k part f r is place g p at) (row_stands owner struct k part f r is place g)

  member_bears : (owner struct k place : ℕ) (part : Part) → kind_at l owner ≡ Some (type.Structure struct) → slice_get (structure_at l.structs struct).members k ≡ Some part
      → member_place l owner k ≡ Some place → Bears l place part.thing
  member_bears owner struct k place part e f g =
      let p = struct_at owner struct (slice_get l.places owner) refl e in
      stands_bears l place part.thing (inner_marks (marks p.0) part) (member_marked owner struct k place p.0 part p.1.0 p.1.1 f g)
      (λ s c. or_right p.0.is_const part.thing.is_const c)

  -- an element is as its array
  module _ (first i place : ℕ) (p : Placed) (at : slice_get l.places first ≡ Some p) (e : element_place l first i ≡ Some place) (r : Row l first) where
    abbrev thing_kind : Kind
    thing_kind = r.thing.part.thing.kind

    abbrev size : ℕ
    size = kind_size (size_of l.structs) thing_kind

    is_row : a_place r.object.values r.object.given r.index thing_kind ≡ p
    is_row = at_row l laid first p at r

    alone : {R : Type 0} → r.index ≡ None → R
    alone f = none_is_none place (sym (element_alone l first i p at (sym (ap (λ q. q.index) is_row) ∙ f)) ∙ e)

    later : {R : Type 0} (j : ℕ) → r.index ≡ Some (suc j) → R
    later j f = none_is_none place (sym (element_other l first i j p at (sym (ap (λ q. q.index) is_row) ∙ f)) ∙ e)

    module _ (n : ℕ) (long : r.thing.part.thing.length ≡ Some n) (zeroth : r.index ≡ Some 0) (here : r.first ≡ first) where
      past : {R : Type 0} → nat_lt i n ≡ false → R
      past f =
          none_is_none place
          (sym (element_past l first i n p r.thing.part at (sym (ap (λ q. q.index) is_row) ∙ zeroth)
          (ap (part_of l) (sym (ap (λ q. q.holder) is_row) ∙ r.object.holder_is) ∙ r.thing.declared) long f) ∙ e)

      placed_marks : given_marks r.thing.given ≡ marks p
      placed_marks =
          same_marks l first thing_kind p.kind (given_marks r.thing.given) (marks p)
          (subst (λ x. StandsAs l x thing_kind (given_marks r.thing.given)) here (thing_stands r.holder r.first r.thing)) (p, (at, (refl, refl)))

      at_element : i < n → r.first + i * size ≡ place
      at_element less = same_some (r.first + i * size) place (sym (element_is l laid r.holder r.first n i r.thing long less) ∙ subst (λ x. element_place l x i ≡ Some place) (sym here) e)

      own_stands : i < n → StandsAs l (r.first + i * size) thing_kind (given_marks r.thing.given)
      own_stands less =
          element_stands_as l r.thing.values r.thing.given r.first i n thing_kind less
          (subst (λ m. StandsAt l.places r.first (pieces (places_inside l.structs r.thing.values) (size_of l.structs) r.thing.values r.thing.given r.first thing_kind m)) long r.thing.stands)

      like_array : StandsAs l place thing_kind (given_marks r.thing.given) → StandsAs l place p.kind (marks p)
      like_array h =
          subst (λ m. StandsAs l place p.kind m) placed_marks
          (subst (λ kind. StandsAs l place kind (given_marks r.thing.given)) (ap (λ q. q.kind) is_row) h)

      within : (c : Bool) → nat_lt i n ≡ c → StandsAs l place p.kind (marks p)
      within false f = past f
      within true f =
          let less : i < n = grind (arith, nat_tests, f) in
          like_array (subst (λ x. StandsAs l x thing_kind (given_marks r.thing.given)) (at_element less) (own_stands less))

    by_piece : (n : Option ℕ) (index : Option ℕ) → r.thing.part.thing.length ≡ n → r.index ≡ index → PieceAt l n size r.first index first → StandsAs l place p.kind (marks p)
    by_piece None None long f h = alone f
    by_piece (Some n) (Some zero) long f h = let at = h.1 in within n long f (grind (arith, at)) (nat_lt i n) refl
    by_piece (Some n) (Some (suc j)) long f h = later j f
    by_piece None (Some j) long f h = absurd h
    by_piece (Some n) None long f h = absurd h

  pub element_marked : (first i place : ℕ) (p : Placed) → slice_get l.places first ≡ Some p → element_place l first i ≡ Some place → StandsAs l place p.kind (marks p)
  element_marked first i place p at e = let r = row_at l laid first p at in by_piece first i place p at e r r.thing.part.thing.length r.index refl refl r.piece

  element_bears : (first i place : ℕ) (t : ThingType) → Bears l first t → element_place l first i ≡ Some place → Bears l place t
  element_bears first i place t b e =
      stands_bears l place t (marks b.placed) (subst (λ kind. StandsAs l place kind (marks b.placed)) b.kind (element_marked first i place b.placed b.there e)) b.constant

  declared : StandsDeclared l
  declared = record { globals = global_bears; members = member_bears; elements = element_bears }

-- the layout of a unit
pub stands_declared : (items : List UnitItem) (l : Layout) → HasPlaces items l → StandsDeclared l
stands_declared items l has = declared l (unit_laid items l has) (unit_heads items l has)
