-- What expressions that lead somewhere do, by one descent, and what the indices on the way are worth.
use Rattle.std.proofs.Common.{◌≡◌, ◌∙◌, ℕ, pos, negsuc, Bool, true, false, ◌&&◌, nat_lt, List, Option, Some, None, is_some, option_map}
use Rattle.std.proofs.Common.{option_and_then, slice_get, Result, Ok, Err, if◌then◌else◌, refl, sym, ap, subst}
use Rattle.tsa_base.specs.declared.value.Value.{Value}
use Rattle.tsa_base.specs.declared.value.Value.TheVariants.{Pointer}
use Rattle.tsa_base.proofs.Truths.{never}
use Rattle.tsa_tree.specs.declared.expr.UnaryOp.TheVariants as prefix
use Rattle.tsa_tree.specs.declared.kind.ExpressionType.{ExpressionType}
use Rattle.tsa_tree.specs.declared.kind.Kind.TheVariants as type
use Rattle.tsa_tree.specs.declared.kind.ThingType.{ThingType}
use Rattle.tsa_tree.specs.declared.meaning.Entry.{Entry}
use Rattle.tsa_tree.specs.declared.meaning.Meaning.{Meaning}
use Rattle.tsa_tree.specs.declared.meaning.Meaning.TheVariants as known
use Rattle.tsa_tree.specs.declared.number.Number.{Number}
use Rattle.tsa_tree.specs.declared.number.Number.TheVariants as numeral
use Rattle.tsa_tree.specs.declared.number.Trap.{Trap}
use Rattle.tsa_tree.specs.expressions.Syntax.{Expression, number, null, named, call, unary, binary, field, index}
use Rattle.tsa_tree.specs.types.Constants.{constant_of, is_made_of_constants, worked, without_trap}
use Rattle.tsa_tree.specs.types.DeclaredTypes.{typed_value, value_in}
use Rattle.tsa_tree.specs.types.Expressions.{type_of, types_of, member_of, member_type, owner}
use Rattle.tsa_tree.specs.types.Operands.{integer_kind, is_single, struct_of, is_struct_place, lacks, breaks_prefix, breaks_index}
use Rattle.tsa_tree.specs.types.Operands.{prefix_type, element_type, address_of, followed}
use Rattle.tsa_tree.specs.types.Scopes.{Scope, context_of, known_in}
use Rattle.tsa_place_model.specs.LockPaths as path
use Rattle.tsa_place_model.specs.LockPaths.{Led, meant, member_step, element_step, in_range, or_variable, index_step, name_way, leads}
use Rattle.tsa_place_model.specs.declared.path.PathStep.{PathStep}
use Rattle.tsa_place_model.specs.declared.path.PathStep.TheVariants.{Constant, Variable}
use Rattle.tsa_place_model.specs.declared.spot.Spot.TheVariants.{Place}
use Rattle.tsa_place_model.specs.Calls.{Layout, global_place, element_place, index_in}
use Rattle.tsa_place_model.specs.Stores.{Store}
use Rattle.tsa_core.specs.Kinds.{Setting}
use Rattle.tsa_core.specs.Meanings.{loaded, of_number, of_name, of_prefix, of_field, of_index, meaning}
use Rattle.tsa_core.specs.Terms.{Term, target, address, Sense}
use Rattle.tsa_core.proofs.KindTests.{both_true, not_false, single_length}
use Rattle.tsa_core.proofs.KindsOfOperators.{struct_told}
use Rattle.tsa_core.proofs.KindsOfTerms.{of_one, of_two, of_owner}
use Rattle.tsa_core.proofs.TypedTerms.{some_same, terms_have_types}
use Rattle.tsa_path.proofs.Bearing.{Bears, Meets}
use Rattle.tsa_path.specs.Laws.{Locals}
use Rattle.tsa_path.specs.Values.{made, pointed_place, at_index, place_of, worth}
use Rattle.tsa_path.proofs.Folding.{folded_value}
use Rattle.tsa_path.proofs.Leads.{AtPlace, Stands, at_place, at_local, Leads, Points, Does, does_meant, no_object, some_part, field_leads}
use Rattle.tsa_path.proofs.Leads.{index_leads, Steps}

-- what is made of something that is there
pub bound : {A B : Type 0} (f : A → Option B) (o : Option A) (b : B) → option_and_then f o ≡ Some b → (a : A) × ((o ≡ Some a) × (f a ≡ Some b))
bound f None b e = cc
bound f (Some a) b e = (a, (refl, e))

pub either : {A : Type 0} (b : Bool) (x y : A) → (if b then Some x else None) ≡ Some y → (b ≡ true) × (x ≡ y)
either true x y e = (refl, some_same e)
either false x y e = cc

-- a constant's value
constant_is : (here : Scope) (e : Expression) (n : Number) → value_in (context_of here) e ≡ Some n → (is_made_of_constants (context_of here) e ≡ true) × (worked (context_of here) e ≡ Ok n)
unfolding constant_of
constant_is here e n f = by_type (type_of (context_of here) e) f
  where
    without : (r : Result Number Trap) → without_trap r ≡ Some n → r ≡ Ok n
    without (Ok m) f = ap Ok (some_same f)
    without (Err trap) f = cc

    by : (b : Bool) → (if b then without_trap (worked (context_of here) e) else None) ≡ Some n → (b ≡ true) × (worked (context_of here) e ≡ Ok n)
    by true f = (refl, without (worked (context_of here) e) f)
    by false f = cc

    by_type : (o : Option ExpressionType) → typed_value o (constant_of (context_of here) e) ≡ Some n → (is_made_of_constants (context_of here) e ≡ true) × (worked (context_of here) e ≡ Ok n)
    by_type None f = cc
    by_type (Some t) f = by (is_made_of_constants (context_of here) e) f

pub constant_worth : (l : Layout) (store : Store) (locals : Locals) (here : Scope) (e : Expression) (n : Number) → value_in (context_of here) e ≡ Some n
    → worth l store locals (loaded (meaning here e)) ≡ Some (of_number n)
constant_worth l store locals here e n f = let c = constant_is here e n f in folded_value l store locals here e c.0 ∙ ap made c.1

-- a constant in range
pub record Chosen (count : ℕ) (v : Option Number) (step : PathStep) : Type 0 where
  pub value : Number
  pub number : ℕ
  pub value_is : v ≡ Some value
  pub index_is : index_in (of_number value) ≡ Some number
  pub step_is : Constant number ≡ step
  pub less : nat_lt number count ≡ true

pub chosen : (count : ℕ) (v : Option Number) (step : PathStep) → in_range count v ≡ Some step → Chosen count v step
chosen count None step e = cc
chosen count (Some (numeral.Int (negsuc j))) step e = cc
chosen count (Some (numeral.Int (pos j))) step e =
    let b = either (nat_lt j count) (Constant j) step e in
    record { value = numeral.Int (pos j); number = j; value_is = refl; index_is = refl; step_is = b.1; less = b.0 }
chosen count (Some (numeral.Unsigned j)) step e =
    let b = either (nat_lt j count) (Constant j) step e in
    record { value = numeral.Unsigned j; number = j; value_is = refl; index_is = refl; step_is = b.1; less = b.0 }

module _ (here : Scope) (k : Setting) (store : Store) (locals : Locals) (first : Option ℕ) (s : Meets here k store locals) (stable : ℕ → Bool) where
  abbrev l : Layout
  l = k.layout

  abbrev place : Term → Option ℕ
  place x = place_of l store locals x

  abbrev value : Term → Option Value
  value x = worth l store locals x

  abbrev IndexOf : Sense → Option ℕ
  IndexOf x = option_and_then index_in (value (loaded x))

  abbrev StepsTo : PathStep → Option ℕ → Type 0
  StepsTo step i = Steps here k store locals first s step i

  -- an index that is a constant, or a local
  constant_steps : (j : ℕ) → StepsTo (Constant j) (Some j)
  constant_steps j None = refl
  constant_steps j (Some q) = refl

  at_some : (q : ℕ) (i : Option ℕ) → option_and_then (element_place l q) i ≡ at_index l (Some q) i
  at_some q None = refl
  at_some q (Some j) = refl

  variable_steps : (n : ℕ) → StepsTo (Variable n) (option_and_then index_in (locals n))
  variable_steps n None = refl
  variable_steps n (Some q) = ap (option_map Place) (at_some q (option_and_then index_in (locals n)))

  entry_steps : (m : Meaning) (t : ThingType) (step : PathStep) → path.variable stable (Some (record { meaning = m; thing = t })) ≡ Some step
      → StepsTo step (IndexOf (of_name (Some (record { meaning = m; thing = t }))))
  entry_steps (known.Local n) t step e =
      subst (λ x. StepsTo x (option_and_then index_in (locals n))) (either (stable n && integer_kind t.kind) (Variable n) step e).1 (variable_steps n)
  entry_steps (known.Global n) t step e = cc
  entry_steps (known.Function n) t step e = cc
  entry_steps known.Owned t step e = cc
  entry_steps (known.Constant z) t step e = cc
  entry_steps known.TypeName t step e = cc

  name_steps : (o : Option Entry) (step : PathStep) → path.variable stable o ≡ Some step → StepsTo step (IndexOf (of_name o))
  name_steps None step e = cc
  name_steps (Some x) step e = entry_steps x.meaning x.thing step e

  or_steps : (e : Expression) (step : PathStep) → or_variable stable here e None ≡ Some step → StepsTo step (IndexOf (meaning here e))
  unfolding meaning
  or_steps (named name span) step e = name_steps (known_in here name.text) step e
  or_steps (number n u span) step e = cc
  or_steps (null span) step e = cc
  or_steps (call callee args span) step e = cc
  or_steps (unary o inner span) step e = cc
  or_steps (binary o left right span) step e = cc
  or_steps (field base name arrow span) step e = cc
  or_steps (index base at span) step e = cc

  index_steps : (e : Expression) (count : ℕ) (step : PathStep) → index_step stable here count e ≡ Some step → StepsTo step (IndexOf (meaning here e))
  index_steps e count step f = by (in_range count (value_in (context_of here) e)) refl f
    where
      of_chosen : (c : PathStep) → Chosen count (value_in (context_of here) e) c → StepsTo c (IndexOf (meaning here e))
      of_chosen c h =
          let i : IndexOf (meaning here e) ≡ Some h.number = ap (option_and_then index_in) (constant_worth l store locals here e h.value h.value_is) ∙ h.index_is in
          subst (λ x. StepsTo x (IndexOf (meaning here e))) h.step_is (subst (StepsTo (Constant h.number)) (sym i) (constant_steps h.number))

      by : (o : Option PathStep) → in_range count (value_in (context_of here) e) ≡ o → or_variable stable here e o ≡ Some step → StepsTo step (IndexOf (meaning here e))
      by None g f = or_steps e step f
      by (Some c) g f = subst (λ x. StepsTo x (IndexOf (meaning here e))) (some_same f) (of_chosen c (chosen count (value_in (context_of here) e) c g))

  -- names
  abbrev LeadsTo : Sense → Led → Type 0
  LeadsTo x d = Leads here k store locals first s x d

  abbrev PointsTo : Sense → Led → Type 0
  PointsTo x d = Points here k store locals first s x d

  global_bears : (name : List ℕ) (n : ℕ) (t : ThingType) → known_in here name ≡ Some (record { meaning = known.Global n; thing = t }) → (p : ℕ) → global_place l n ≡ Some p → Bears l p t
  global_bears name n t e p f =
      let m = some_part here k store locals first s (slice_get l.globals n) t (s.serves.belongs.global_is name (record { meaning = known.Global n; thing = t }) n e refl) in
      subst (Bears l p) m.1.1 (s.declared.globals n p m.0 m.1.0 f)

  entry_leads : (name : List ℕ) (m : Meaning) (t : ThingType) (d : Led) → known_in here name ≡ Some (record { meaning = m; thing = t })
      → name_way stable here name (record { meaning = m; thing = t }) ≡ Some d → LeadsTo (of_name (Some (record { meaning = m; thing = t }))) d
  entry_leads name (known.Global n) t d e f =
      subst (LeadsTo (of_name (Some (record { meaning = known.Global n; thing = t })))) (some_same f)
      (record {
        stands = at_place refl (record { spot_is = refl; bears = global_bears name n t e; stable_is = refl; proper = tt });
        kind_is = refl;
        length_is = refl;
        plain = refl;
      })
  entry_leads name (known.Local n) t d e f =
      let is = s.serves.belongs.local_is name (record { meaning = known.Local n; thing = t }) n e refl in
      subst (LeadsTo (of_name (Some (record { meaning = known.Local n; thing = t })))) (either (stable n) _ d f).1
      (record {
        stands = at_local (record { number = n; term_is = refl; way_is = refl; held = is.0; small = is.1 });
        kind_is = refl;
        length_is = refl;
        plain = refl;
      })
  entry_leads name known.Owned t d e f = absurd (s.serves.belongs.none_owned name (record { meaning = known.Owned; thing = t }) e refl)
  entry_leads name (known.Function n) t d e f = cc
  entry_leads name (known.Constant z) t d e f = cc
  entry_leads name known.TypeName t d e f = cc

  name_leads : (name : List ℕ) (o : Option Entry) (d : Led) → known_in here name ≡ o → option_and_then (name_way stable here name) o ≡ Some d → LeadsTo (of_name o) d
  name_leads name None d e f = cc
  name_leads name (Some x) d e f = entry_leads name x.meaning x.thing d e f

  -- `&` and `*`
  address_back : (o : Option ℕ) → option_and_then pointed_place (option_map (λ p. Pointer (Some p)) o) ≡ o
  address_back None = refl
  address_back (Some p) = refl

  address_value : (o : Option ℕ) (v : Value) → option_map (λ p. Pointer (Some p)) o ≡ Some v → (p : Option ℕ) × (v ≡ Pointer p)
  address_value None v e = cc
  address_value (Some p) v e = (Some p, sym (some_same e))

  address_kind : (t : ThingType) (n : ℕ) → t.kind ≡ type.Structure n → address_of t ≡ type.Pointer n t.is_const
  address_kind t n e = rw e refl

  address_points : (x : Sense) (d : Led) → LeadsTo x d → is_struct_place x.type ≡ true → PointsTo (of_prefix prefix.Address x) d
  address_points x d h e = by_struct (struct_of x.type) refl (both_true x.type.is_place (is_some (struct_of x.type)) e).1
    where
      at : AtPlace here k store locals first s x.term d → AtPlace here k store locals first s (target (address x.term)) d
      at a = record {
        spot_is = a.spot_is ∙ ap (option_map Place) (sym (address_back (place x.term)));
        bears = λ p f. a.bears p (sym (address_back (place x.term)) ∙ f);
        stable_is = a.stable_is;
        proper = a.proper;
      }

      by_stands : (n : ℕ) → (is_single x.type ≡ true) × (x.type.thing.kind ≡ type.Structure n) → Stands here k store locals first s x d → PointsTo (of_prefix prefix.Address x) d
      by_stands n told (at_place p a) = record {
        at = at a;
        struct = n;
        to_const = x.type.thing.is_const;
        kind_is = address_kind x.type.thing n told.1;
        one = refl;
        object = sym h.kind_is ∙ told.1;
        alone = sym h.length_is ∙ single_length x.type told.0;
        plain = refl;
        pointer = λ v f. address_value (place x.term) v f;
      }
      by_stands n told (at_local a) = no_object x.type.thing n told.1 a.small

      by_struct : (o : Option ℕ) → struct_of x.type ≡ o → is_some o ≡ true → PointsTo (of_prefix prefix.Address x) d
      by_struct None f g = never (sym g)
      by_struct (Some n) f g = by_stands n (struct_told k x.type n f) h.stands

  target_leads : (x : Sense) (d : Led) → PointsTo x d → LeadsTo (of_prefix prefix.Follow x) d
  target_leads x d h = record {
    stands = at_place refl h.at;
    kind_is = ap (λ kind. (followed kind).kind) h.kind_is ∙ sym h.object;
    length_is = ap (λ kind. (followed kind).length) h.kind_is ∙ sym h.alone;
    plain = refl;
  }

  -- an expression that leads somewhere does so
  pub does : (as_pointer : Bool) (e : Expression) (t : ExpressionType) (d : Led) → type_of (context_of here) e ≡ Some t → leads stable here as_pointer e ≡ Some d
      → Does here k store locals first s as_pointer (meaning here e) d
  unfolding leads type_of types_of meaning
  does as_pointer (named name span) t d is e =
      does_meant here k store locals first s as_pointer (of_name (known_in here name.text)) (option_and_then (name_way stable here name.text) (known_in here name.text)) d
      (λ b f. name_leads name.text (known_in here name.text) b refl f) e
  does as_pointer (field base name arrow span) t d is e =
      let f : ExpressionType → Option ExpressionType = λ x. option_map (member_type arrow x) (member_of (context_of here) arrow name.text x) in
      let parts = of_owner f (lacks (λ x. is_some (owner arrow x)) (type_of (context_of here) base)) (type_of (context_of here) base) t is in
      does_meant here k store locals first s as_pointer (of_field here arrow name.text (meaning here base)) (option_and_then (member_step here name.text) (leads stable here arrow base)) d
      (λ b g.
      let c = bound (member_step here name.text) (leads stable here arrow base) b g in
      field_leads here k store locals first s arrow (meaning here base) c.0 b name.text (does arrow base parts.0 c.0 parts.1.0 c.1.0) c.1.1) e
  does as_pointer (index base at span) t d is e =
      let left = type_of (context_of here) base in
      let right = type_of (context_of here) at in
      let parts = of_two (λ a i. element_type a) (breaks_index left right) left right t is in
      does_meant here k store locals first s as_pointer (of_index (meaning here base) (meaning here at)) (option_and_then (element_step stable here at) (leads stable here false base)) d
      (λ b g.
      let c = bound (element_step stable here at) (leads stable here false base) b g in
      index_leads here k store locals first s stable (meaning here base) (meaning here at) at c.0 b (does false base parts.1.0.0 c.0 parts.1.0.1 c.1.0) c.1.1 (λ count step h. index_steps at count step h)) e
  does true (unary prefix.Address inner span) t d is e =
      let parts = of_one (prefix_type prefix.Address) (breaks_prefix prefix.Address (type_of (context_of here) inner)) (type_of (context_of here) inner) t is in
      let same = terms_have_types here inner parts.1.0 parts.1.1 in
      let object = not_false (is_struct_place parts.1.0) (subst (λ x. breaks_prefix prefix.Address x ≡ false) parts.1.1 parts.0) in
      address_points (meaning here inner) d (does false inner parts.1.0 d parts.1.1 e) (ap is_struct_place same ∙ object)
  does false (unary prefix.Follow inner span) t d is e =
      let parts = of_one (prefix_type prefix.Follow) (breaks_prefix prefix.Follow (type_of (context_of here) inner)) (type_of (context_of here) inner) t is in
      target_leads (meaning here inner) d (does true inner parts.1.0 d parts.1.1 e)
  does false (unary prefix.Address inner span) t d is e = cc
  does true (unary prefix.Follow inner span) t d is e = cc
  does true (unary prefix.Minus inner span) t d is e = cc
  does false (unary prefix.Minus inner span) t d is e = cc
  does true (unary prefix.Not inner span) t d is e = cc
  does false (unary prefix.Not inner span) t d is e = cc
  does true (unary prefix.Flip inner span) t d is e = cc
  does false (unary prefix.Flip inner span) t d is e = cc
  does true (number n u span) t d is e = cc
  does false (number n u span) t d is e = cc
  does true (null span) t d is e = cc
  does false (null span) t d is e = cc
  does true (call callee args span) t d is e = cc
  does false (call callee args span) t d is e = cc
  does true (binary o left right span) t d is e = cc
  does false (binary o left right span) t d is e = cc
