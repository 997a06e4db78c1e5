-- Where an expression leads, the place of its term stands, and where it leads as a pointer, the value of its term points.
use Rattle.std.proofs.Common.{◌≡◌, ◌∙◌, ℕ, Bool, true, false, List, Option, Some, None, is_some, option_map, option_and_then, slice_get}
use Rattle.std.proofs.Common.{refl, sym, ap, subst}
use Rattle.tsa_base.specs.declared.value.Value.{Value}
use Rattle.tsa_base.specs.declared.value.Value.TheVariants.{Pointer}
use Rattle.tsa_base.proofs.Truths.{never}
use Rattle.tsa_tree.specs.declared.kind.ExpressionType.{ExpressionType}
use Rattle.tsa_tree.specs.declared.kind.Kind.TheVariants as type
use Rattle.tsa_tree.specs.declared.kind.ThingType.{ThingType}
use Rattle.tsa_tree.specs.expressions.Syntax.{Expression}
use Rattle.tsa_tree.specs.types.Expressions.{owner}
use Rattle.tsa_tree.specs.types.Runnable.{is_small, is_scalar_kind}
use Rattle.tsa_tree.specs.types.Scopes.{Scope}
use Rattle.tsa_tree.specs.types.Types.{single}
use Rattle.tsa_tree.specs.types.Lookups.{members_at, numbered}
use Rattle.tsa_place_model.specs.LockPaths.{Led, led, meant, pointed, member_step, element_step, index_step}
use Rattle.tsa_place_model.specs.Ways.{Way, from, onward}
use Rattle.tsa_place_model.specs.declared.path.Root.TheVariants.{Local}
use Rattle.tsa_place_model.specs.declared.path.PathStep.{PathStep}
use Rattle.tsa_place_model.specs.declared.path.PathStep.TheVariants.{Field, Follow}
use Rattle.tsa_place_model.specs.declared.place.Placed.{Placed}
use Rattle.tsa_place_model.specs.declared.spot.Spot.{Spot}
use Rattle.tsa_place_model.specs.declared.spot.Spot.TheVariants.{Place, Holds}
use Rattle.tsa_place_model.specs.Layouts.{Part, structure_at}
use Rattle.tsa_place_model.specs.Calls.{Layout, member_place, element_place, kind_at, index_in, initial_at, pointee, take_step}
use Rattle.tsa_place_model.specs.Calls as layout
use Rattle.tsa_place_model.specs.Stores.{Store, is_value_of}
use Rattle.tsa_core.specs.Kinds.{Setting}
use Rattle.tsa_core.specs.Meanings.{is_place, is_cell, loaded, base_of, to_member, of_field, of_index}
use Rattle.tsa_core.specs.Terms.{Term, variable, element, member, target, load, Sense}
use Rattle.tsa_core.proofs.KindTests.{both_true, not_true}
use Rattle.tsa_core.proofs.KindsOfTerms.{part_at}
use Rattle.tsa_core.proofs.TypedTerms.{some_same}
use Rattle.tsa_path.proofs.Bearing.{Bears, Meets}
use Rattle.tsa_path.specs.Laws.{Locals}
use Rattle.tsa_path.specs.Values.{pointed_place, at_index, place_of, worth}
use Rattle.tsa_path.proofs.Folding.{loaded_plain}
use Rattle.tsa_path.proofs.StepsBehind.{Followed, pointed_by, Inner, member_by, Piece, element_by}
use Rattle.tsa_path.proofs.Pointers.{spot_of, spot_onward, IsProper, proper_onward, pointee_is, pointer_bears, pointer_value}

-- nothing small is an object or an array
small_kind : (t : ThingType) → is_small t ≡ true → is_scalar_kind t.kind ≡ true
small_kind t e = (both_true (is_scalar_kind t.kind) _ e).0

pub no_object : {A : Type 0} (t : ThingType) (n : ℕ) → t.kind ≡ type.Structure n → is_small t ≡ true → A
no_object t n is e = never (sym (small_kind t e) ∙ ap is_scalar_kind is)

no_array : {A : Type 0} (t : ThingType) (n : ℕ) → t.length ≡ Some n → is_small t ≡ true → A
no_array t n is e = never (ap is_some (sym is) ∙ not_true (is_some t.length) (both_true (is_scalar_kind t.kind) _ e).1)

module _ (here : Scope) (k : Setting) (store : Store) (locals : Locals) (first : Option ℕ) (s : Meets here k store locals) where
  abbrev l : Layout
  l = k.layout

  abbrev spot : Way → Option Spot
  spot w = spot_of l locals first w

  abbrev place : Term → Option ℕ
  place x = place_of l store locals x

  abbrev value : Term → Option Value
  value x = worth l store locals x

  -- a way leads where the place of a term stands
  pub record AtPlace (x : Term) (d : Led) : Type 0 where
    pub spot_is : spot d.way ≡ option_map Place (place x)
    pub bears : (p : ℕ) → place x ≡ Some p → Bears l p d.thing
    pub stable_is : d.is_stable ≡ d.thing.is_const
    pub proper : IsProper d.way.root d.way.steps

  -- a way is a local's own
  pub record AtLocal (x : Sense) (d : Led) : Type 0 where
    pub number : ℕ
    pub term_is : x.term ≡ variable number
    pub way_is : d.way ≡ from (Local number)
    pub held : k.locals number ≡ Some x.type.thing.kind
    pub small : is_small x.type.thing ≡ true

  pub data Stands (x : Sense) (d : Led) : Type 0 where
    at_place : (p : is_place x.term ≡ true) (a : AtPlace x.term d) → Stands x d
    at_local : (a : AtLocal x d) → Stands x d

  -- what an expression that leads somewhere stands for ..
  pub record Leads (x : Sense) (d : Led) : Type 0 where
    pub stands : Stands x d
    pub kind_is : x.type.thing.kind ≡ d.thing.kind
    pub length_is : x.type.thing.length ≡ d.thing.length
    pub plain : x.type.is_zero ≡ false

  -- .. and what one that leads as a pointer does
  pub record Points (x : Sense) (d : Led) : Type 0 where
    pub at : AtPlace (target (loaded x)) d
    pub struct : ℕ
    pub to_const : Bool
    pub kind_is : x.type.thing.kind ≡ type.Pointer struct to_const
    pub one : x.type.thing.length ≡ None
    pub object : d.thing.kind ≡ type.Structure struct
    pub alone : d.thing.length ≡ None
    pub plain : x.type.is_zero ≡ false
    pub pointer : (v : Value) → value (loaded x) ≡ Some v → (p : Option ℕ) × (v ≡ Pointer p)

  -- the value of a pointer in a const cell stands there at the start
  initial_is : (p : ℕ) (q : Placed) → slice_get l.places p ≡ Some q → layout.is_structure q.kind ≡ false → q.is_const ≡ true → initial_at l p ≡ Some (store p)
  initial_is p q at plain c = ap (option_map (λ x. x.initial)) at ∙ ap Some (sym (s.serves.constant p q at plain c))

  pointer_cell : (p : ℕ) (t : ThingType) (n : ℕ) (c : Bool) → Bears l p t → t.kind ≡ type.Pointer n c → is_value_of l (type.Pointer n c) (store p) ≡ true
  pointer_cell p t n c b e =
      subst (λ kind. is_value_of l kind (store p) ≡ true) (b.kind ∙ e)
      (s.serves.typed p b.placed b.there (ap layout.is_structure (b.kind ∙ e)))

  pointer_initial : (p : ℕ) (t : ThingType) (n : ℕ) (c : Bool) → Bears l p t → t.kind ≡ type.Pointer n c → t.is_const ≡ true → initial_at l p ≡ Some (store p)
  pointer_initial p t n c b e is = initial_is p b.placed b.there (ap layout.is_structure (b.kind ∙ e)) (b.constant (ap layout.is_structure e) is)

  -- a cell that is followed
  cell_is : (t : ThingType) (n : ℕ) (c : Bool) → t.length ≡ None → t.kind ≡ type.Pointer n c → is_cell t ≡ true
  cell_is t n c e f = rw (e, f) refl

  loaded_cell : (x : Sense) → is_place x.term ≡ true → is_cell x.type.thing ≡ true → loaded x ≡ load x.is_stable x.term
  loaded_cell x e f = rw (e, f) refl

  -- what a pointer's value has for its place
  through : (o : Option Value) (p : ℕ) → option_and_then pointed_place o ≡ Some p → (v : Value) × ((o ≡ Some v) × (pointed_place v ≡ Some p))
  through None p e = cc
  through (Some v) p e = (v, (refl, e))

  mapped : (o : Option ℕ) (v : Value) → option_map store o ≡ Some v → (p : ℕ) × ((o ≡ Some p) × (store p ≡ v))
  mapped None v e = cc
  mapped (Some p) v e = (p, (refl, some_same e))

  -- a pointer whose value is known to be one is followed to its target
  module _ (x : Sense) (w : Way) (n : ℕ) (c : Bool) (to_step : spot (onward Follow w) ≡ option_map Place (option_and_then pointed_place (value (loaded x))))
      (proper : IsProper w.root (onward Follow w).steps) (kind : x.type.thing.kind ≡ type.Pointer n c) (one : x.type.thing.length ≡ None) (plain : x.type.is_zero ≡ false)
      (typed : (v : Value) → value (loaded x) ≡ Some v → is_value_of l (type.Pointer n c) v ≡ true)
    where
      bears_target : (p : ℕ) → option_and_then pointed_place (value (loaded x)) ≡ Some p → Bears l p (single (type.Structure n) c)
      bears_target p e = let v = through (value (loaded x)) p e in pointer_bears l n c v.0 p (typed v.0 v.1.0) v.1.1

      points_on : Points x (led (onward Follow w) (single (type.Structure n) c))
      points_on = record {
        at = record { spot_is = to_step; bears = bears_target; stable_is = refl; proper = proper };
        struct = n;
        to_const = c;
        kind_is = kind;
        one = one;
        object = refl;
        alone = refl;
        plain = plain;
        pointer = λ v e. pointer_value l n c v (typed v e);
      }

  -- the step through a cell
  cell_step : (o : Option ℕ) → ((p : ℕ) → o ≡ Some p → initial_at l p ≡ Some (store p))
      → option_and_then (take_step l locals Follow) (option_map Place o) ≡ option_map Place (option_and_then pointed_place (option_map store o))
  cell_step None start = refl
  cell_step (Some p) start = ap (option_and_then pointee) (start p refl) ∙ pointee_is (store p)

  local_step : (o : Option Value) → option_and_then (take_step l locals Follow) (option_map Holds o) ≡ option_map Place (option_and_then pointed_place o)
  local_step None = refl
  local_step (Some v) = pointee_is v

  follow_place : (x : Sense) (d : Led) (a : AtPlace x.term d) (n : ℕ) (c : Bool) → is_place x.term ≡ true → x.type.thing.kind ≡ d.thing.kind → x.type.thing.length ≡ d.thing.length
      → x.type.is_zero ≡ false → d.thing.kind ≡ type.Pointer n c → d.thing.length ≡ None → d.is_stable ≡ true → Points x (led (onward Follow d.way) (single (type.Structure n) c))
  follow_place x d a n c p kind length plain is one stays =
      points_on x d.way n c
      (spot_onward l locals first d.way Follow ∙ ap (option_and_then (take_step l locals Follow)) a.spot_is
      ∙ cell_step (place x.term) (λ q e. pointer_initial q d.thing n c (a.bears q e) is (sym a.stable_is ∙ stays))
      ∙ ap (λ y. option_map Place (option_and_then pointed_place (value y))) (sym read))
      (proper_onward d.way.root d.way.steps Follow a.proper) (kind ∙ is) (length ∙ one) plain cell_typed
    where
      read : loaded x ≡ load x.is_stable x.term
      read = loaded_cell x p (cell_is x.type.thing n c (length ∙ one) (kind ∙ is))

      cell_typed : (v : Value) → value (loaded x) ≡ Some v → is_value_of l (type.Pointer n c) v ≡ true
      cell_typed v e =
          let m = mapped (place x.term) v (ap value (sym read) ∙ e) in
          subst (λ y. is_value_of l (type.Pointer n c) y ≡ true) m.1.1 (pointer_cell m.0 d.thing n c (a.bears m.0 m.1.0) is)

  follow_local : (x : Sense) (d : Led) (a : AtLocal x d) (n : ℕ) (c : Bool) → x.type.thing.kind ≡ type.Pointer n c → x.type.thing.length ≡ None → x.type.is_zero ≡ false
      → Points x (led (onward Follow d.way) (single (type.Structure n) c))
  follow_local x d a n c kind one plain =
      points_on x d.way n c
      (ap (λ w. spot (onward Follow w)) a.way_is ∙ local_step (locals a.number) ∙ ap (λ y. option_map Place (option_and_then pointed_place (value y))) (sym read))
      (subst (λ w. IsProper w.root (onward Follow w).steps) (sym a.way_is) tt) kind one plain
      (λ v e. s.serves.held a.number (type.Pointer n c) v (a.held ∙ ap Some kind) (ap value (sym read) ∙ e))
    where
      read : loaded x ≡ variable a.number
      read = loaded_plain x (ap is_place a.term_is) ∙ a.term_is

  pub follows : (x : Sense) (before d : Led) → Leads x before → pointed before ≡ Some d → Points x d
  follows x before d h e = from (pointed_by before.way before.thing.kind before.thing.length before.thing.is_const before.is_stable d e)
    where
      from : Followed before.way before.thing.kind before.thing.length before.is_stable d → Points x d
      from f = subst (Points x) f.led_is (by h.stands)
        where
          by : Stands x before → Points x (led (onward Follow before.way) (single (type.Structure f.struct) f.to_const))
          by (at_place p a) = follow_place x before a f.struct f.to_const p h.kind_is h.length_is h.plain f.kind_is f.one f.stays
          by (at_local a) = follow_local x before a f.struct f.to_const (h.kind_is ∙ f.kind_is) (h.length_is ∙ f.one) h.plain

  -- what an expression does as a place, or as a pointer
  abbrev pub Does : Bool → Sense → Led → Type 0
  Does false x d = Leads x d
  Does true x d = Points x d

  pub does_meant : (as_pointer : Bool) (x : Sense) (o : Option Led) (d : Led) → ((b : Led) → o ≡ Some b → Leads x b) → meant as_pointer o ≡ Some d → Does as_pointer x d
  does_meant false x o d known e = known d e
  does_meant true x None d known e = cc
  does_meant true x (Some b) d known e = follows x b d (known b refl) e

  -- a member of an object
  inner_place : (o : Option ℕ) (j p : ℕ) → option_and_then (λ q. member_place l q j) o ≡ Some p → (q : ℕ) × ((o ≡ Some q) × (member_place l q j ≡ Some p))
  inner_place None j p e = cc
  inner_place (Some q) j p e = (q, (refl, e))

  field_step : (o : Option ℕ) (j : ℕ) → option_and_then (take_step l locals (Field j)) (option_map Place o) ≡ option_map Place (option_and_then (λ q. member_place l q j) o)
  field_step None j = refl
  field_step (Some q) j = refl

  pub some_part : (o : Option Part) (t : ThingType) → option_map (λ m. m.thing) o ≡ Some t → (m : Part) × ((o ≡ Some m) × (m.thing ≡ t))
  some_part None t e = cc
  some_part (Some m) t e = (m, (refl, some_same e))

  kind_there : (p : ℕ) (t : ThingType) (n : ℕ) → Bears l p t → t.kind ≡ type.Structure n → kind_at l p ≡ Some (type.Structure n)
  kind_there p t n b e = ap (option_map (λ q. q.kind)) b.there ∙ ap Some (b.kind ∙ e)

  module _ (x : Term) (d : Led) (a : AtPlace x d) (name : List ℕ) (n j : ℕ) (t : ThingType) (object : d.thing.kind ≡ type.Structure n)
      (found : numbered (members_at here n) name 0 ≡ Some (j, t))
    where
      member_bears : (p : ℕ) → option_and_then (λ q. member_place l q j) (place x) ≡ Some p → Bears l p t
      member_bears p e =
          let q = inner_place (place x) j p e in
          let m = some_part (slice_get (structure_at l.structs n).members j) t (part_at here k s.serves.belongs n name j t found) in
          subst (Bears l p) m.1.1 (s.declared.members q.0 n j p m.0 (kind_there q.0 d.thing n (a.bears q.0 q.1.0) object) m.1.0 q.1.1)

      member_stands : AtPlace (member x j) (led (onward (Field j) d.way) t)
      member_stands = record {
        spot_is = spot_onward l locals first d.way (Field j) ∙ ap (option_and_then (take_step l locals (Field j))) a.spot_is ∙ field_step (place x) j;
        bears = member_bears;
        stable_is = refl;
        proper = proper_onward d.way.root d.way.steps (Field j) a.proper;
      }

  member_leads : (arrow : Bool) (x : Sense) (d : Led) (name : List ℕ) (n j : ℕ) (t : ThingType) → AtPlace (base_of arrow x) d → d.thing.kind ≡ type.Structure n
      → owner arrow x.type ≡ Some n → numbered (members_at here n) name 0 ≡ Some (j, t) → Leads (of_field here arrow name x) (led (onward (Field j) d.way) t)
  member_leads arrow x d name n j t a object own found =
      subst (λ y. Leads y (led (onward (Field j) d.way) t)) (sym same)
      (record { stands = at_place refl (member_stands (base_of arrow x) d a name n j t object found); kind_is = refl; length_is = refl; plain = refl })
    where
      same : of_field here arrow name x ≡ to_member arrow x (Some (j, t))
      same =
          ap (λ o. to_member arrow x (option_and_then (λ struct. numbered (members_at here struct) name 0) o)) own
          ∙ ap (to_member arrow x) found

  owner_arrow : (t : ExpressionType) (n m : ℕ) (c : Bool) → t.thing.length ≡ None → t.thing.kind ≡ type.Pointer m c → type.Structure m ≡ type.Structure n → owner true t ≡ Some n
  owner_arrow t n m c e f g = let same : m ≡ n = cc in let is : owner true t ≡ Some m = rw (e, f) refl in is ∙ ap Some same

  owner_point : (t : ExpressionType) (n : ℕ) → t.thing.length ≡ None → t.thing.kind ≡ type.Structure n → owner false t ≡ Some n
  owner_point t n e f = rw (e, f) refl

  pub field_leads : (arrow : Bool) (x : Sense) (before d : Led) (name : List ℕ) → Does arrow x before → member_step here name before ≡ Some d → Leads (of_field here arrow name x) d
  field_leads true x before d name h e =
      from (member_by here name before.way before.thing.kind before.thing.length before.thing.is_const before.is_stable d e)
    where
      from : Inner here name before.way before.thing.kind before.thing.length d → Leads (of_field here true name x) d
      from i =
          subst (Leads (of_field here true name x)) i.led_is
          (member_leads true x before name i.struct i.number i.thing h.at i.kind_is
          (owner_arrow x.type i.struct h.struct h.to_const h.one h.kind_is (sym h.object ∙ i.kind_is)) i.found)
  field_leads false x before d name h e =
      from (member_by here name before.way before.thing.kind before.thing.length before.thing.is_const before.is_stable d e)
    where
      from : Inner here name before.way before.thing.kind before.thing.length d → Leads (of_field here false name x) d
      from i = subst (Leads (of_field here false name x)) i.led_is (by h.stands)
        where
          by : Stands x before → Leads (of_field here false name x) (led (onward (Field i.number) before.way) i.thing)
          by (at_place p a) =
              member_leads false x before name i.struct i.number i.thing a i.kind_is
              (owner_point x.type i.struct (h.length_is ∙ i.one) (h.kind_is ∙ i.kind_is)) i.found
          by (at_local a) = no_object x.type.thing i.struct (h.kind_is ∙ i.kind_is) a.small

  -- an element of an array, by an index whose step is known
  abbrev pub Steps : PathStep → Option ℕ → Type 0
  Steps step i = (o : Option ℕ) → option_and_then (take_step l locals step) (option_map Place o) ≡ option_map Place (at_index l o i)

  index_place : (o i : Option ℕ) (p : ℕ) → at_index l o i ≡ Some p → (q : ℕ) × ((j : ℕ) × ((o ≡ Some q) × (element_place l q j ≡ Some p)))
  index_place None i p e = cc
  index_place (Some q) None p e = cc
  index_place (Some q) (Some j) p e = (q, (j, (refl, e)))

  bears_piece : (p : ℕ) (t : ThingType) → Bears l p t → Bears l p (single t.kind t.is_const)
  bears_piece p t b = record { placed = b.placed; there = b.there; kind = b.kind; constant = b.constant }

  abbrev element_led : Led → PathStep → Led
  element_led d step = record { way = onward step d.way; thing = single d.thing.kind d.thing.is_const; is_stable = d.is_stable }

  element_stands : (x at : Term) (d : Led) (step : PathStep) → AtPlace x d → Steps step (option_and_then index_in (value at)) → AtPlace (element x at) (element_led d step)
  element_stands x at d step a steps = record {
    spot_is = spot_onward l locals first d.way step ∙ ap (option_and_then (take_step l locals step)) a.spot_is ∙ steps (place x);
    bears = λ p e.
        let q = index_place (place x) (option_and_then index_in (value at)) p e in
        bears_piece p d.thing (s.declared.elements q.0 q.1.0 p d.thing (a.bears q.0 q.1.1.0) q.1.1.1);
    stable_is = a.stable_is;
    proper = proper_onward d.way.root d.way.steps step a.proper;
  }

  pub index_leads : (stable : ℕ → Bool) (x y : Sense) (at : Expression) (before d : Led) → Leads x before → element_step stable here at before ≡ Some d
      → ((count : ℕ) (step : PathStep) → index_step stable here count at ≡ Some step → Steps step (option_and_then index_in (value (loaded y)))) → Leads (of_index x y) d
  index_leads stable x y at before d h e steps =
      from (element_by stable here at before.way before.thing.kind before.thing.length before.thing.is_const before.is_stable d e)
    where
      from : Piece stable here at before d → Leads (of_index x y) d
      from i = subst (Leads (of_index x y)) i.led_is (by h.stands)
        where
          by : Stands x before → Leads (of_index x y) (element_led before i.step)
          by (at_place p a) = record {
            stands = at_place refl (element_stands x.term (loaded y) before i.step a (steps i.count i.step i.step_is));
            kind_is = h.kind_is;
            length_is = refl;
            plain = refl;
          }
          by (at_local a) = no_array x.type.thing i.count (h.length_is ∙ i.many) a.small
