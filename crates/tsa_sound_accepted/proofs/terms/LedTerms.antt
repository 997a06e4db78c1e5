-- Where an expression leads, its term leads: along the same path.
use Rattle.std.proofs.Common.{◌≡◌, ◌∙◌, ℕ, pos, negsuc, Bool, true, false, not, ◌&&◌, nat_lt, List, Option, Some, None, is_some, option_map}
use Rattle.std.proofs.Common.{option_and_then, if◌then◌else◌, refl, sym, ap, ap₂, subst}
use Rattle.tsa_tree.specs.declared.expr.UnaryOp.TheVariants as prefix
use Rattle.tsa_tree.specs.declared.kind.ExpressionType.{ExpressionType}
use Rattle.tsa_tree.specs.declared.kind.Kind.TheVariants as type
use Rattle.tsa_tree.specs.declared.kind.ThingType.{ThingType}
use Rattle.tsa_tree.specs.declared.meaning.Entry.{Entry}
use Rattle.tsa_tree.specs.declared.meaning.Meaning.{Meaning}
use Rattle.tsa_tree.specs.declared.meaning.Meaning.TheVariants as known
use Rattle.tsa_tree.specs.declared.number.Number.{Number}
use Rattle.tsa_tree.specs.declared.number.Number.TheVariants as numeral
use Rattle.tsa_tree.specs.expressions.Syntax.{Expression, number, null, named, call, unary, binary, field, index}
use Rattle.tsa_tree.specs.types.DeclaredTypes.{value_in}
use Rattle.tsa_tree.specs.types.Expressions.{type_of, types_of, member_of, member_type, owner}
use Rattle.tsa_tree.specs.types.Operands.{integer_kind, pointer_kind, is_single, struct_of, is_struct_place, lacks, breaks_prefix}
use Rattle.tsa_tree.specs.types.Operands.{breaks_index, prefix_type, element_type, address_of, followed}
use Rattle.tsa_tree.specs.types.Runnable.{is_small}
use Rattle.tsa_tree.specs.types.Scopes.{Scope, context_of, known_in}
use Rattle.tsa_tree.specs.types.Types.{single}
use Rattle.tsa_tree.specs.types.Lookups.{members_at, numbered}
use Rattle.tsa_place_model.specs.LockPaths as path
use Rattle.tsa_place_model.specs.LockPaths.{Led, led, meant, pointed, member_step, element_step, in_range, or_variable, index_step}
use Rattle.tsa_place_model.specs.LockPaths.{name_way, leads}
use Rattle.tsa_place_model.specs.Ways.{Way, from, onward}
use Rattle.tsa_place_model.specs.declared.path.Root.TheVariants.{Local}
use Rattle.tsa_place_model.specs.declared.path.PathStep.{PathStep}
use Rattle.tsa_place_model.specs.declared.path.PathStep.TheVariants.{Constant, Variable, Field, Follow}
use Rattle.tsa_core.specs.Kinds.{Setting, Belongs}
use Rattle.tsa_core.specs.Meanings.{is_place, is_cell, loaded, never_changes, of_name, of_prefix, base_of, to_member, of_field, of_index}
use Rattle.tsa_core.specs.Meanings.{meaning}
use Rattle.tsa_core.specs.Terms.{variable, load, Sense}
use Rattle.tsa_core.proofs.KindTests.{both_true, not_false, single_length}
use Rattle.tsa_core.proofs.KindsOfOperators.{struct_told}
use Rattle.tsa_core.proofs.KindsOfTerms.{of_one, of_two, of_owner}
use Rattle.tsa_core.proofs.TypedTerms.{some_same, terms_have_types}
use Rattle.tsa_path.proofs.ArgumentPaths.{bound, either}
use Rattle.tsa_path.proofs.Leads.{no_object}
use Rattle.tsa_path.proofs.StepsBehind.{Followed, pointed_by, Inner, member_by, Piece, element_by}
use Rattle.tsa_rules_roles.proofs.Constants.{terms_have_the_values}
use Rattle.tsa_sound.specs.PartlyWorked as worked
use Rattle.tsa_sound.specs.PartlyWorked.{constant_step, index_by, further, place_way, target_way}
use Rattle.tsa_base.proofs.Truths.{never}

-- a value of an array is no small one
no_array : {A : Type 0} (t : ThingType) (n : ℕ) → t.length ≡ Some n → is_small t ≡ true → A
no_array t n is e = absurd (by t.length is (both_true _ _ e).1)
  where
    by : (l : Option ℕ) → l ≡ Some n → not (is_some l) ≡ true → ⊥
    by None f g = cc
    by (Some m) f g = never (sym g)

-- a loaded cell, and what is no place
cell_of_pointer : (t : ThingType) (n : ℕ) (c : Bool) → t.length ≡ None → t.kind ≡ type.Pointer n c → is_cell t ≡ true
cell_of_pointer t n c e f = rw (e, f) refl

loaded_cell : (x : Sense) → is_place x.term ≡ true → is_cell x.type.thing ≡ true → loaded x ≡ load x.is_stable x.term
loaded_cell x e f = rw (e, f) refl

pub loaded_value : (x : Sense) → is_place x.term ≡ false → loaded x ≡ x.term
loaded_value x e = rw e refl

-- a pointer never changes where it is const
stays_const : (t : ThingType) → pointer_kind t.kind ≡ true → never_changes t ≡ t.is_const
stays_const t e = ap (λ b. b && t.is_const) e

-- a constant in range
pub record Chosen (v : Option Number) (step : PathStep) : Type 0 where
  pub value : Number
  pub value_is : v ≡ Some value
  pub step_is : constant_step value ≡ Some step

pub chosen : (count : ℕ) (v : Option Number) (step : PathStep) → in_range count v ≡ Some step → Chosen v step
chosen count None step e = cc
chosen count (Some (numeral.Int (negsuc j))) step e = cc
chosen count (Some (numeral.Int (pos j))) step e =
    let b = either (nat_lt j count) (Constant j) step e in
    record { value = numeral.Int (pos j); value_is = refl; step_is = ap (λ x. Some x) b.1 }
chosen count (Some (numeral.Unsigned j)) step e =
    let b = either (nat_lt j count) (Constant j) step e in
    record { value = numeral.Unsigned j; value_is = refl; step_is = ap (λ x. Some x) b.1 }

module _ (here : Scope) (k : Setting) (bel : Belongs here k) (stable : ℕ → Bool) where
  -- a term is a place to which a way leads, and never changes just where the way says so
  pub record AtPlace (x : Sense) (d : Led) : Type 0 where
    pub there : is_place x.term ≡ true
    pub way_is : place_way stable x.term ≡ Some d.way
    pub stays : pointer_kind d.thing.kind ≡ true → x.is_stable ≡ d.is_stable

  -- a way is a local's own
  pub record AtLocal (x : Sense) (d : Led) : Type 0 where
    pub number : ℕ
    pub term_is : x.term ≡ variable number
    pub way_is : d.way ≡ from (Local number)
    pub stays : stable number ≡ true
    pub small : is_small x.type.thing ≡ true

  pub data Stands (x : Sense) (d : Led) : Type 0 where
    at_place : (a : AtPlace x d) → Stands x d
    at_local : (a : AtLocal x d) → Stands x d

  -- what an expression that leads somewhere stands for ..
  pub record Leads (x : Sense) (d : Led) : Type 0 where
    pub stands : Stands x d
    pub kind_is : x.type.thing.kind ≡ d.thing.kind
    pub length_is : x.type.thing.length ≡ d.thing.length

  -- .. and what one that leads as a pointer does
  pub record Points (x : Sense) (d : Led) : Type 0 where
    pub way_is : target_way stable (loaded x) ≡ Some d.way
    pub struct : ℕ
    pub to_const : Bool
    pub kind_is : x.type.thing.kind ≡ type.Pointer struct to_const
    pub one : x.type.thing.length ≡ None
    pub object : d.thing.kind ≡ type.Structure struct
    pub alone : d.thing.length ≡ None

  -- a pointer that never changes is followed
  follow_place : (x : Sense) (d : Led) (a : AtPlace x d) (n : ℕ) (c : Bool) → x.type.thing.kind ≡ d.thing.kind → x.type.thing.length ≡ d.thing.length
      → d.thing.kind ≡ type.Pointer n c → d.thing.length ≡ None → d.is_stable ≡ true → Points x (led (onward Follow d.way) (single (type.Structure n) c))
  follow_place x d a n c kind length is one stays = record {
    way_is =
        ap (target_way stable) (loaded_cell x a.there (cell_of_pointer x.type.thing n c (length ∙ one) (kind ∙ is)))
        ∙ ap₂ worked.followed (a.stays (ap pointer_kind is) ∙ stays) a.way_is;
    struct = n;
    to_const = c;
    kind_is = kind ∙ is;
    one = length ∙ one;
    object = refl;
    alone = refl;
  }

  follow_local : (x : Sense) (d : Led) (a : AtLocal x d) (n : ℕ) (c : Bool) → x.type.thing.kind ≡ type.Pointer n c → x.type.thing.length ≡ None
      → Points x (led (onward Follow d.way) (single (type.Structure n) c))
  follow_local x d a n c kind one = record {
    way_is =
        ap (target_way stable) (loaded_value x (ap is_place a.term_is) ∙ a.term_is)
        ∙ ap (λ b. worked.local_way b a.number) a.stays
        ∙ ap (λ w. Some (onward Follow w)) (sym a.way_is);
    struct = n;
    to_const = c;
    kind_is = kind;
    one = one;
    object = refl;
    alone = refl;
  }

  follows : (x : Sense) (before d : Led) → Leads x before → pointed before ≡ Some d → Points x d
  follows x before d h e = to (pointed_by before.way before.thing.kind before.thing.length before.thing.is_const before.is_stable d e)
    where
      to : Followed before.way before.thing.kind before.thing.length before.is_stable d → Points x d
      to f = subst (Points x) f.led_is (by h.stands)
        where
          by : Stands x before → Points x (led (onward Follow before.way) (single (type.Structure f.struct) f.to_const))
          by (at_place a) = follow_place x before a f.struct f.to_const h.kind_is h.length_is f.kind_is f.one f.stays
          by (at_local a) = follow_local x before a f.struct f.to_const (h.kind_is ∙ f.kind_is) (h.length_is ∙ f.one)

  -- what an expression does as a place, or as a pointer
  abbrev pub Does : Bool → Sense → Led → Type 0
  Does false x d = Leads x d
  Does true x d = Points x d

  does_meant : (as_pointer : Bool) (x : Sense) (o : Option Led) (d : Led) → ((b : Led) → o ≡ Some b → Leads x b) → meant as_pointer o ≡ Some d → Does as_pointer x d
  does_meant false x o d known e = known d e
  does_meant true x None d known e = cc
  does_meant true x (Some b) d known e = follows x b d (known b refl) e

  -- a member of an object
  member_leads : (arrow : Bool) (x : Sense) (w : Way) (name : List ℕ) (n j : ℕ) (t : ThingType) → place_way stable (base_of arrow x) ≡ Some w
      → owner arrow x.type ≡ Some n → numbered (members_at here n) name 0 ≡ Some (j, t) → Leads (of_field here arrow name x) (led (onward (Field j) w) t)
  member_leads arrow x w name n j t way own found =
      subst (λ y. Leads y (led (onward (Field j) w) t)) (sym same)
      (record {
        stands = at_place (record { there = refl; way_is = ap (λ o. further o (Some (Field j))) way; stays = stays_const t });
        kind_is = refl;
        length_is = refl;
      })
    where
      same : of_field here arrow name x ≡ to_member arrow x (Some (j, t))
      same =
          ap (λ o. to_member arrow x (option_and_then (λ struct. numbered (members_at here struct) name 0) o)) own
          ∙ ap (to_member arrow x) found

  owner_arrow : (t : ExpressionType) (n m : ℕ) (c : Bool) → t.thing.length ≡ None → t.thing.kind ≡ type.Pointer m c → type.Structure m ≡ type.Structure n → owner true t ≡ Some n
  owner_arrow t n m c e f g = let same : m ≡ n = cc in let is : owner true t ≡ Some m = rw (e, f) refl in is ∙ ap Some same

  owner_point : (t : ExpressionType) (n : ℕ) → t.thing.length ≡ None → t.thing.kind ≡ type.Structure n → owner false t ≡ Some n
  owner_point t n e f = rw (e, f) refl

  field_leads : (arrow : Bool) (x : Sense) (before d : Led) (name : List ℕ) → Does arrow x before → member_step here name before ≡ Some d → Leads (of_field here arrow name x) d
  field_leads true x before d name h e = to (member_by here name before.way before.thing.kind before.thing.length before.thing.is_const before.is_stable d e)
    where
      to : Inner here name before.way before.thing.kind before.thing.length d → Leads (of_field here true name x) d
      to i =
          subst (Leads (of_field here true name x)) i.led_is
          (member_leads true x before.way name i.struct i.number i.thing h.way_is
          (owner_arrow x.type i.struct h.struct h.to_const h.one h.kind_is (sym h.object ∙ i.kind_is)) i.found)
  field_leads false x before d name h e = to (member_by here name before.way before.thing.kind before.thing.length before.thing.is_const before.is_stable d e)
    where
      to : Inner here name before.way before.thing.kind before.thing.length d → Leads (of_field here false name x) d
      to i = subst (Leads (of_field here false name x)) i.led_is (by h.stands)
        where
          by : Stands x before → Leads (of_field here false name x) (led (onward (Field i.number) before.way) i.thing)
          by (at_place a) =
              member_leads false x before.way name i.struct i.number i.thing a.way_is
              (owner_point x.type i.struct (h.length_is ∙ i.one) (h.kind_is ∙ i.kind_is)) i.found
          by (at_local a) = no_object x.type.thing i.struct (h.kind_is ∙ i.kind_is) a.small

  -- an element of an array, by an index whose step is known
  abbrev element_led : Led → PathStep → Led
  element_led d step = record { way = onward step d.way; thing = single d.thing.kind d.thing.is_const; is_stable = d.is_stable }

  index_leads : (x y : Sense) (at : Expression) (before d : Led) → Leads x before → element_step stable here at before ≡ Some d
      → ((count : ℕ) (step : PathStep) → index_step stable here count at ≡ Some step → worked.index_step stable (loaded y) ≡ Some step) → Leads (of_index x y) d
  index_leads x y at before d h e steps =
      to (element_by stable here at before.way before.thing.kind before.thing.length before.thing.is_const before.is_stable d e)
    where
      to : Piece stable here at before d → Leads (of_index x y) d
      to i = subst (Leads (of_index x y)) i.led_is (by h.stands)
        where
          by : Stands x before → Leads (of_index x y) (element_led before i.step)
          by (at_place a) = record {
            stands = at_place (record { there = refl; way_is = ap₂ further a.way_is (steps i.count i.step i.step_is); stays = a.stays });
            kind_is = h.kind_is;
            length_is = refl;
          }
          by (at_local a) = no_array x.type.thing i.count (h.length_is ∙ i.many) a.small

  -- an index that is a constant, or a local
  entry_steps : (m : Meaning) (t : ThingType) (step : PathStep) → path.variable stable (Some (record { meaning = m; thing = t })) ≡ Some step
      → worked.index_step stable (loaded (of_name (Some (record { meaning = m; thing = t })))) ≡ Some step
  entry_steps (known.Local n) t step e =
      let b = either (stable n && integer_kind t.kind) (Variable n) step e in
      ap (λ s. if s then Some (Variable n) else None) (both_true (stable n) (integer_kind t.kind) b.0).0 ∙ ap (λ s. Some s) b.1
  entry_steps (known.Global n) t step e = cc
  entry_steps (known.Function n) t step e = cc
  entry_steps known.Owned t step e = cc
  entry_steps (known.Constant z) t step e = cc
  entry_steps known.TypeName t step e = cc

  name_steps : (o : Option Entry) (step : PathStep) → path.variable stable o ≡ Some step → worked.index_step stable (loaded (of_name o)) ≡ Some step
  name_steps None step e = cc
  name_steps (Some x) step e = entry_steps x.meaning x.thing step e

  or_steps : (e : Expression) (step : PathStep) → or_variable stable here e None ≡ Some step → worked.index_step stable (loaded (meaning here e)) ≡ Some step
  unfolding meaning
  or_steps (named name span) step e = name_steps (known_in here name.text) step e
  or_steps (number n u span) step e = cc
  or_steps (null span) step e = cc
  or_steps (call callee args span) step e = cc
  or_steps (unary o inner span) step e = cc
  or_steps (binary o left right span) step e = cc
  or_steps (field base name arrow span) step e = cc
  or_steps (index base at span) step e = cc

  index_steps : (e : Expression) (t : ExpressionType) → type_of (context_of here) e ≡ Some t → (count : ℕ) (step : PathStep) → index_step stable here count e ≡ Some step
      → worked.index_step stable (loaded (meaning here e)) ≡ Some step
  index_steps e t is count step f = by (in_range count (value_in (context_of here) e)) refl f
    where
      of_chosen : (c : PathStep) → Chosen (value_in (context_of here) e) c → worked.index_step stable (loaded (meaning here e)) ≡ Some c
      of_chosen c h = ap (index_by stable (loaded (meaning here e))) (terms_have_the_values here e t is ∙ h.value_is) ∙ h.step_is

      by : (o : Option PathStep) → in_range count (value_in (context_of here) e) ≡ o → or_variable stable here e o ≡ Some step
          → worked.index_step stable (loaded (meaning here e)) ≡ Some step
      by None g f = or_steps e step f
      by (Some c) g f = of_chosen c (chosen count (value_in (context_of here) e) c g) ∙ f

  -- names
  entry_leads : (name : List ℕ) (m : Meaning) (t : ThingType) (d : Led) → known_in here name ≡ Some (record { meaning = m; thing = t })
      → name_way stable here name (record { meaning = m; thing = t }) ≡ Some d → Leads (of_name (Some (record { meaning = m; thing = t }))) d
  entry_leads name (known.Global n) t d e f =
      subst (Leads (of_name (Some (record { meaning = known.Global n; thing = t })))) (some_same f)
      (record { stands = at_place (record { there = refl; way_is = refl; stays = stays_const t }); kind_is = refl; length_is = refl })
  entry_leads name (known.Local n) t d e f =
      let is = bel.local_is name (record { meaning = known.Local n; thing = t }) n e refl in
      let b = either (stable n) _ d f in
      subst (Leads (of_name (Some (record { meaning = known.Local n; thing = t })))) b.1
      (record { stands = at_local (record { number = n; term_is = refl; way_is = refl; stays = b.0; small = is.1 }); kind_is = refl; length_is = refl })
  entry_leads name known.Owned t d e f = absurd (bel.none_owned name (record { meaning = known.Owned; thing = t }) e refl)
  entry_leads name (known.Function n) t d e f = cc
  entry_leads name (known.Constant z) t d e f = cc
  entry_leads name known.TypeName t d e f = cc

  name_leads : (name : List ℕ) (o : Option Entry) (d : Led) → known_in here name ≡ o → option_and_then (name_way stable here name) o ≡ Some d → Leads (of_name o) d
  name_leads name None d e f = cc
  name_leads name (Some x) d e f = entry_leads name x.meaning x.thing d e f

  -- `&` and `*`
  address_kind : (t : ThingType) (n : ℕ) → t.kind ≡ type.Structure n → address_of t ≡ type.Pointer n t.is_const
  address_kind t n e = rw e refl

  address_points : (x : Sense) (d : Led) → Leads x d → is_struct_place x.type ≡ true → Points (of_prefix prefix.Address x) d
  address_points x d h e = by_struct (struct_of x.type) refl (both_true x.type.is_place (is_some (struct_of x.type)) e).1
    where
      by_stands : (n : ℕ) → (is_single x.type ≡ true) × (x.type.thing.kind ≡ type.Structure n) → Stands x d → Points (of_prefix prefix.Address x) d
      by_stands n told (at_place a) = record {
        way_is = a.way_is;
        struct = n;
        to_const = x.type.thing.is_const;
        kind_is = address_kind x.type.thing n told.1;
        one = refl;
        object = sym h.kind_is ∙ told.1;
        alone = sym h.length_is ∙ single_length x.type told.0;
      }
      by_stands n told (at_local a) = no_object x.type.thing n told.1 a.small

      by_struct : (o : Option ℕ) → struct_of x.type ≡ o → is_some o ≡ true → Points (of_prefix prefix.Address x) d
      by_struct None f g = never (sym g)
      by_struct (Some n) f g = by_stands n (struct_told k x.type n f) h.stands

  no_pointer : (d : Led) (n : ℕ) (s c : Bool) → d.thing.kind ≡ type.Structure n → pointer_kind d.thing.kind ≡ true → s ≡ c
  no_pointer d n s c is e = never (sym (sym (ap pointer_kind is) ∙ e))

  target_leads : (x : Sense) (d : Led) → Points x d → Leads (of_prefix prefix.Follow x) d
  target_leads x d h = record {
    stands = at_place (record { there = refl; way_is = h.way_is; stays = no_pointer d h.struct false d.is_stable h.object });
    kind_is = ap (λ kind. (followed kind).kind) h.kind_is ∙ sym h.object;
    length_is = ap (λ kind. (followed kind).length) h.kind_is ∙ sym h.alone;
  }

  -- an expression that leads somewhere does so
  pub does : (as_pointer : Bool) (e : Expression) (t : ExpressionType) (d : Led) → type_of (context_of here) e ≡ Some t → leads stable here as_pointer e ≡ Some d
      → Does as_pointer (meaning here e) d
  unfolding leads type_of types_of meaning
  does as_pointer (named name span) t d is e =
      does_meant as_pointer (of_name (known_in here name.text)) (option_and_then (name_way stable here name.text) (known_in here name.text)) d
      (λ b f. name_leads name.text (known_in here name.text) b refl f) e
  does as_pointer (field base name arrow span) t d is e =
      let f : ExpressionType → Option ExpressionType = λ x. option_map (member_type arrow x) (member_of (context_of here) arrow name.text x) in
      let parts = of_owner f (lacks (λ x. is_some (owner arrow x)) (type_of (context_of here) base)) (type_of (context_of here) base) t is in
      does_meant as_pointer (of_field here arrow name.text (meaning here base)) (option_and_then (member_step here name.text) (leads stable here arrow base)) d
      (λ b g.
      let c = bound (member_step here name.text) (leads stable here arrow base) b g in
      field_leads arrow (meaning here base) c.0 b name.text (does arrow base parts.0 c.0 parts.1.0 c.1.0) c.1.1) e
  does as_pointer (index base at span) t d is e =
      let left = type_of (context_of here) base in
      let right = type_of (context_of here) at in
      let parts = of_two (λ a i. element_type a) (breaks_index left right) left right t is in
      does_meant as_pointer (of_index (meaning here base) (meaning here at)) (option_and_then (element_step stable here at) (leads stable here false base)) d
      (λ b g.
      let c = bound (element_step stable here at) (leads stable here false base) b g in
      index_leads (meaning here base) (meaning here at) at c.0 b (does false base parts.1.0.0 c.0 parts.1.0.1 c.1.0) c.1.1
      (λ count step h. index_steps at parts.1.1.0 parts.1.1.1 count step h)) e
  does true (unary prefix.Address inner span) t d is e =
      let parts = of_one (prefix_type prefix.Address) (breaks_prefix prefix.Address (type_of (context_of here) inner)) (type_of (context_of here) inner) t is in
      let same = terms_have_types here inner parts.1.0 parts.1.1 in
      let object = not_false (is_struct_place parts.1.0) (subst (λ x. breaks_prefix prefix.Address x ≡ false) parts.1.1 parts.0) in
      address_points (meaning here inner) d (does false inner parts.1.0 d parts.1.1 e) (ap is_struct_place same ∙ object)
  does false (unary prefix.Follow inner span) t d is e =
      let parts = of_one (prefix_type prefix.Follow) (breaks_prefix prefix.Follow (type_of (context_of here) inner)) (type_of (context_of here) inner) t is in
      target_leads (meaning here inner) d (does true inner parts.1.0 d parts.1.1 e)
  does false (unary prefix.Address inner span) t d is e = cc
  does true (unary prefix.Follow inner span) t d is e = cc
  does true (unary prefix.Minus inner span) t d is e = cc
  does false (unary prefix.Minus inner span) t d is e = cc
  does true (unary prefix.Not inner span) t d is e = cc
  does false (unary prefix.Not inner span) t d is e = cc
  does true (unary prefix.Flip inner span) t d is e = cc
  does false (unary prefix.Flip inner span) t d is e = cc
  does true (number n u span) t d is e = cc
  does false (number n u span) t d is e = cc
  does true (null span) t d is e = cc
  does false (null span) t d is e = cc
  does true (call callee args span) t d is e = cc
  does false (call callee args span) t d is e = cc
  does true (binary o left right span) t d is e = cc
  does false (binary o left right span) t d is e = cc
