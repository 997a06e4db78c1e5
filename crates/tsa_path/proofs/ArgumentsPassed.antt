-- The paths of a call's arguments say what their values are.
use Rattle.std.proofs.Common.{◌≡◌, ◌∙◌, ℕ, zero, suc, pos, negsuc, ◌<◌, arith, Bool, true, false, ◌&&◌, ◌||◌, not, List, [], ◌∷◌, Option}
use Rattle.std.proofs.Common.{Some, None, is_some, is_none, option_map, option_and_then, slice_get, if◌then◌else◌, refl, sym, ap, subst}
use Rattle.std.proofs.lemmas.Bool.Decides.{nat_tests}
use Rattle.tsa_base.specs.declared.value.Value.{Value}
use Rattle.tsa_base.specs.declared.value.Value.TheVariants.{Pointer}
use Rattle.tsa_base.proofs.Truths.{never}
use Rattle.tsa_tree.specs.declared.kind.ExpressionType.{ExpressionType}
use Rattle.tsa_tree.specs.declared.kind.Kind.{Kind}
use Rattle.tsa_tree.specs.declared.kind.Kind.TheVariants as type
use Rattle.tsa_tree.specs.declared.kind.ThingType.{ThingType}
use Rattle.tsa_tree.specs.declared.meaning.Entry.{Entry}
use Rattle.tsa_tree.specs.declared.meaning.Meaning.{Meaning}
use Rattle.tsa_tree.specs.declared.meaning.Meaning.TheVariants as known
use Rattle.tsa_tree.specs.declared.number.Number.{Number}
use Rattle.tsa_tree.specs.declared.number.Number.TheVariants as numeral
use Rattle.tsa_tree.specs.expressions.Syntax.{Expression, Arguments, number, null, named, call, unary, binary, field, index, none, more}
use Rattle.tsa_tree.specs.types.DeclaredTypes.{value_in}
use Rattle.tsa_tree.specs.types.Expressions.{type_of, types_of, all_typed, arguments_break}
use Rattle.tsa_tree.specs.types.Operands.{integer_kind, unsigned_kind, is_integer, is_single, lacks, target_of, same_target, keeps_const}
use Rattle.tsa_tree.specs.types.Operands.{goes_to}
use Rattle.tsa_tree.specs.types.Scopes.{Scope, context_of, known_in}
use Rattle.tsa_place_model.specs.Arguments.{argument_way, index_argument, local_argument, or_local, way_of}
use Rattle.tsa_place_model.specs.LockPaths.{Led, in_range, leads}
use Rattle.tsa_place_model.specs.Ways.{Way, from, onward}
use Rattle.tsa_place_model.specs.declared.path.PathStep.{PathStep}
use Rattle.tsa_place_model.specs.declared.path.PathStep.TheVariants.{Constant}
use Rattle.tsa_place_model.specs.declared.path.Root.TheVariants.{Local, Owner}
use Rattle.tsa_place_model.specs.declared.spot.Spot.TheVariants.{Place}
use Rattle.tsa_place_model.specs.Calls.{Layout, index_in}
use Rattle.tsa_place_model.specs.Stores.{Store}
use Rattle.tsa_core.specs.Kinds.{Setting}
use Rattle.tsa_core.specs.Meanings.{is_int, loaded, null_pointer, of_number, of_name, as_kind, meaning, arguments}
use Rattle.tsa_core.specs.Terms.{Term, converted, Sense}
use Rattle.tsa_core.specs.Uses.{argument_ways}
use Rattle.tsa_core.proofs.KindTests.{both_true, neither, not_false, integer_is}
use Rattle.tsa_core.proofs.ValuesServe.{no_pointer, integer_alone}
use Rattle.tsa_core.proofs.TypedTerms.{some_same, terms_have_types}
use Rattle.tsa_path.specs.ArgumentLaws.{ArgumentsHaveTheirPaths}
use Rattle.tsa_path.specs.Laws.{Locals, IsValue, IsHeld, Denotes, bits}
use Rattle.tsa_path.specs.Substitution.{given}
use Rattle.tsa_path.specs.Values.{in_kind, pointed_place, worth, with_first, values_of}
use Rattle.tsa_path.proofs.Bearing.{Meets}
use Rattle.tsa_path.proofs.StandDeclared.{stands_declared}
use Rattle.tsa_path.proofs.ArgumentPaths.{bound, either, constant_worth, Chosen, chosen, does}
use Rattle.tsa_path.proofs.Conversions.{IsNumber, Keeps, converts, same_number, number_value}
use Rattle.tsa_path.proofs.Leads.{Points}
use Rattle.tsa_path.proofs.Pointers.{pointee_is, proper_passed}

module _ (here : Scope) (k : Setting) (store : Store) (locals : Locals) (first : Option ℕ) (s : Meets here k store locals) (stable : ℕ → Bool) where
  abbrev l : Layout
  l = k.layout

  abbrev value : Term → Option Value
  value x = worth l store locals x

  -- a value that is passed, and what its path says
  pub record Passed (w : Way) (v : Value) : Type 0 where
    pub fits : IsValue v
    pub denotes : Denotes l locals first w v

  pointer_value : (p : Option ℕ) (v : Value) → v ≡ Pointer p → IsValue v
  pointer_value p v e = subst IsValue (sym e) tt

  -- a pointer
  loaded_pointer : (n : ℕ) (c : Bool) (x : Sense) (m : ℕ) (d : Bool) → x.type.thing.kind ≡ type.Pointer m d → as_kind (type.Pointer n c) x ≡ loaded x
  loaded_pointer n c x m d e = ap (λ kind. if true && integer_kind kind then null_pointer else loaded x) e

  way_led : (o : Option Led) (w : Way) → option_map (λ d. d.way) o ≡ Some w → (d : Led) × ((o ≡ Some d) × (d.way ≡ w))
  way_led None w e = cc
  way_led (Some d) w e = (d, (refl, some_same e))

  points_passed : (x : Sense) (d : Led) (n : ℕ) (c : Bool) (v : Value) → Points here k store locals first s x d → value (as_kind (type.Pointer n c) x) ≡ Some v → Passed d.way v
  points_passed x d n c v h e =
      let is : value (loaded x) ≡ Some v = ap value (sym (loaded_pointer n c x h.struct h.to_const h.kind_is)) ∙ e in
      let p = h.pointer v is in
      record {
        fits = pointer_value p.0 v p.1;
        denotes =
            proper_passed l locals first d.way.root d.way.steps v h.at.proper
            (h.at.spot_is ∙ ap (λ o. option_map Place (option_and_then pointed_place o)) is ∙ sym (pointee_is v));
      }

  pointer_passed : (e : Expression) (t : ExpressionType) (n : ℕ) (c : Bool) (w : Way) (v : Value) → type_of (context_of here) e ≡ Some t → way_of stable here true e ≡ Some w
      → value (as_kind (type.Pointer n c) (meaning here e)) ≡ Some v → Passed w v
  pointer_passed e t n c w v typed f is =
      let d = way_led (leads stable here true e) w f in
      subst (λ y. Passed y v) d.1.1 (points_passed (meaning here e) d.0 n c v (does here k store locals first s stable true e t d.0 typed d.1.0) is)

  -- a number, converted or not
  pub data Gives (kind : Kind) (u v : Value) : Type 0 where
    as_it_is : (e : u ≡ v) → Gives kind u v
    in_another : (e : in_kind kind u ≡ Some v) → Gives kind u v

  pub record Given (kind : Kind) (x : Term) (v : Value) : Type 0 where
    pub from_value : Value
    pub value_is : value x ≡ Some from_value
    pub gives : Gives kind from_value v

  converted_given : (kind : Kind) (x : Term) (v : Value) (b : Bool) → value (if b then converted kind x else x) ≡ Some v → Given kind x v
  converted_given kind x v false e = record { from_value = v; value_is = e; gives = as_it_is refl }
  converted_given kind x v true e = let u = bound (in_kind kind) (value x) v e in record { from_value = u.0; value_is = u.1.0; gives = in_another u.1.1 }

  number_given : (kind : Kind) (x : Sense) (v : Value) → integer_kind kind ≡ true → value (as_kind kind x) ≡ Some v → Given kind (loaded x) v
  number_given type.Int x v i e = converted_given type.Int (loaded x) v (unsigned_kind x.type.thing.kind) e
  number_given type.Unsigned x v i e = converted_given type.Unsigned (loaded x) v (is_int x.type.thing.kind) e
  number_given type.Void x v i e = never (sym i)
  number_given (type.Structure n) x v i e = never (sym i)
  number_given (type.Pointer n c) x v i e = never (sym i)
  number_given type.Null x v i e = never (sym i)
  number_given type.Function x v i e = never (sym i)

  keeps : (kind : Kind) (u v : Value) → integer_kind kind ≡ true → IsValue u → Gives kind u v → Keeps u v
  keeps kind u v i h (as_it_is e) = subst (Keeps u) e (record { value = h; same = refl })
  keeps kind u v i h (in_another e) = converts kind u v i h e

  -- a constant
  constant_fits : (n : Number) (j : ℕ) → index_in (of_number n) ≡ Some j → j < 65536 → IsValue (of_number n) × (bits (of_number n) ≡ Some j)
  constant_fits (numeral.Int (pos m)) j e h = let same : m ≡ j = some_same e in (omega (arith, same, h), e)
  constant_fits (numeral.Int (negsuc m)) j e h = cc
  constant_fits (numeral.Unsigned m) j e h = let same : m ≡ j = some_same e in (omega (arith, same, h), e)

  abbrev number_way : ℕ → Way
  number_way j = record { root = Owner; steps = Constant j ∷ [] }

  constant_passed : (kind : Kind) (u v : Value) (j : ℕ) → integer_kind kind ≡ true → IsValue u → bits u ≡ Some j → Gives kind u v → Passed (number_way j) v
  constant_passed kind u v j i h b g = let kept = keeps kind u v i h g in record { fits = kept.value; denotes = sym kept.same ∙ b }

  chosen_passed : (kind : Kind) (e : Expression) (v : Value) (step : PathStep) → integer_kind kind ≡ true → Chosen 65536 (value_in (context_of here) e) step
      → value (as_kind kind (meaning here e)) ≡ Some v → Passed (onward step (from Owner)) v
  chosen_passed kind e v step i c is =
      let g = number_given kind (meaning here e) v i is in
      let less = c.less in
      let below : c.number < 65536 = grind (arith, nat_tests, less) in
      let fits = constant_fits c.value c.number c.index_is below in
      let same : of_number c.value ≡ g.from_value = some_same (sym (constant_worth l store locals here e c.value c.value_is) ∙ g.value_is) in
      subst (λ x. Passed (onward x (from Owner)) v) c.step_is
      (constant_passed kind (of_number c.value) v c.number i fits.0 fits.1 (subst (λ u. Gives kind u v) (sym same) g.gives))

  -- a local
  local_held : (kind : Kind) (u v : Value) (n : ℕ) → integer_kind kind ≡ true → locals n ≡ Some u → IsValue u → IsNumber u → Gives kind u v → Passed (from (Local n)) v
  local_held kind u v n i e h is g =
      let kept = keeps kind u v i h g in
      record { fits = kept.value; denotes = subst (λ o. IsHeld o v) (sym e) (h, same_number u v is kept.same) }

  entry_passed : (kind : Kind) (name : List ℕ) (m : Meaning) (t : ThingType) (v : Value) (w : Way) → integer_kind kind ≡ true → known_in here name ≡ Some (record { meaning = m; thing = t })
      → (◌≡◌ {A = Bool} (is_integer (of_name (Some (record { meaning = m; thing = t }))).type) true) → local_argument stable (Some (record { meaning = m; thing = t })) ≡ Some w
      → value (as_kind kind (of_name (Some (record { meaning = m; thing = t })))) ≡ Some v → Passed w v
  entry_passed kind name (known.Local n) t v w i e int f is =
      let own = s.serves.belongs.local_is name (record { meaning = known.Local n; thing = t }) n e refl in
      let g = number_given kind (of_name (Some (record { meaning = known.Local n; thing = t }))) v i is in
      let number = number_value l t.kind g.from_value (integer_is (of_name (Some (record { meaning = known.Local n; thing = t }))).type int).1 (s.serves.held n t.kind g.from_value own.0 g.value_is) in
      subst (λ y. Passed y v) (either (stable n) (from (Local n)) w f).1 (local_held kind g.from_value v n i g.value_is number.0 number.1 g.gives)
  entry_passed kind name (known.Global n) t v w i e int f is = cc
  entry_passed kind name (known.Function n) t v w i e int f is = cc
  entry_passed kind name known.Owned t v w i e int f is = cc
  entry_passed kind name (known.Constant z) t v w i e int f is = cc
  entry_passed kind name known.TypeName t v w i e int f is = cc

  name_passed : (kind : Kind) (name : List ℕ) (o : Option Entry) (v : Value) (w : Way) → integer_kind kind ≡ true → known_in here name ≡ o → is_integer (of_name o).type ≡ true
      → local_argument stable o ≡ Some w → value (as_kind kind (of_name o)) ≡ Some v → Passed w v
  name_passed kind name None v w i e int f is = cc
  name_passed kind name (Some x) v w i e int f is = entry_passed kind name x.meaning x.thing v w i e int f is

  local_passed : (kind : Kind) (e : Expression) (v : Value) (w : Way) → integer_kind kind ≡ true → is_integer (meaning here e).type ≡ true → or_local stable here e None ≡ Some w
      → value (as_kind kind (meaning here e)) ≡ Some v → Passed w v
  unfolding meaning
  local_passed kind (named name span) v w i int f is = name_passed kind name.text (known_in here name.text) v w i refl int f is
  local_passed kind (number n u span) v w i int f is = cc
  local_passed kind (null span) v w i int f is = cc
  local_passed kind (call callee args span) v w i int f is = cc
  local_passed kind (unary o inner span) v w i int f is = cc
  local_passed kind (binary o left right span) v w i int f is = cc
  local_passed kind (field base name arrow span) v w i int f is = cc
  local_passed kind (index base at span) v w i int f is = cc

  number_passed : (kind : Kind) (e : Expression) (v : Value) (w : Way) → integer_kind kind ≡ true → is_integer (meaning here e).type ≡ true → index_argument stable here e ≡ Some w
      → value (as_kind kind (meaning here e)) ≡ Some v → Passed w v
  number_passed kind e v w i int f is = by (in_range 65536 (value_in (context_of here) e)) refl f
    where
      by : (o : Option PathStep) → in_range 65536 (value_in (context_of here) e) ≡ o → or_local stable here e (option_map (λ step. onward step (from Owner)) o) ≡ Some w → Passed w v
      by None g f = local_passed kind e v w i int f is
      by (Some step) g f =
          subst (λ y. Passed y v) (some_same f) (chosen_passed kind e v step i (chosen 65536 (value_in (context_of here) e) step g) is)

  -- an argument, by the kind of its parameter
  abbrev Goes : ExpressionType → Kind → Bool
  Goes t w =
      (is_integer t && integer_kind w)
      || ((t.is_zero && is_some (target_of w))
      || (is_single t && (is_some (target_of w) && (same_target t.thing.kind w && keeps_const t.thing.kind w))))

  kind_passed : (kind : Kind) (e : Expression) (t : ExpressionType) (v : Value) (w : Way) → type_of (context_of here) e ≡ Some t → Goes t kind ≡ true
      → argument_way stable here kind e ≡ Some w → value (as_kind kind (meaning here e)) ≡ Some v → Passed w v
  kind_passed (type.Pointer n c) e t v w typed goes f is = pointer_passed e t n c w v typed f is
  kind_passed type.Int e t v w typed goes f is =
      number_passed type.Int e v w refl (ap is_integer (terms_have_types here e t typed) ∙ integer_alone (is_integer t) t.is_zero (is_single t) goes) f is
  kind_passed type.Unsigned e t v w typed goes f is =
      number_passed type.Unsigned e v w refl (ap is_integer (terms_have_types here e t typed) ∙ integer_alone (is_integer t) t.is_zero (is_single t) goes) f is
  kind_passed type.Void e t v w typed goes f is = no_pointer (is_integer t) t.is_zero (is_single t) goes
  kind_passed (type.Structure n) e t v w typed goes f is = no_pointer (is_integer t) t.is_zero (is_single t) goes
  kind_passed type.Null e t v w typed goes f is = no_pointer (is_integer t) t.is_zero (is_single t) goes
  kind_passed type.Function e t v w typed goes f is = no_pointer (is_integer t) t.is_zero (is_single t) goes

  -- all arguments in order
  pub record Own (values : List Value) (n : ℕ) (w : Way) : Type 0 where
    pub own : Value
    pub there : slice_get values n ≡ Some own
    pub passed : Passed w own

  abbrev AllPassed : List (Option Way) → List Value → Type 0
  AllPassed ways values = (n : ℕ) (w : Way) → given ways n ≡ Some w → Own values n w

  none_passed : (values : List Value) → AllPassed [] values
  none_passed values zero w e = cc
  none_passed values (suc n) w e = cc

  one_passed : (o : Option Way) (ways : List (Option Way)) (v : Value) (values : List Value) → ((w : Way) → o ≡ Some w → Passed w v) → AllPassed ways values
      → AllPassed (o ∷ ways) (v ∷ values)
  one_passed o ways v values passed rest zero w e = record { own = v; there = refl; passed = passed w e }
  one_passed o ways v values passed rest (suc n) w e = let r = rest n w e in record { own = r.own; there = r.there; passed = r.passed }

  both : (o : Option Value) (q : Option (List Value)) (values : List Value) → with_first o q ≡ Some values
      → (v : Value) × ((vs : List Value) × ((o ≡ Some v) × ((q ≡ Some vs) × (v ∷ vs ≡ values))))
  both None q values e = cc
  both (Some v) None values e = cc
  both (Some v) (Some vs) values e = (v, (vs, (refl, (refl, some_same e))))

  typed_first : (o : Option ExpressionType) (rest : List (Option ExpressionType)) → all_typed (o ∷ rest) ≡ true → (t : ExpressionType) × ((o ≡ Some t) × (all_typed rest ≡ true))
  typed_first None rest e = never (sym e)
  typed_first (Some t) rest e = (t, (refl, e))

  goes_first : (p : ThingType) (o : Option ExpressionType) (t : ExpressionType) (b : Bool) → o ≡ Some t → (lacks (λ t. goes_to t p) o || b) ≡ false → (goes_to t p ≡ true) × (b ≡ false)
  goes_first p None t b e f = cc
  goes_first p (Some x) t b e f =
      let x_goes = neither (not (goes_to x p)) b f in
      (subst (λ y. goes_to y p ≡ true) (some_same e) (not_false (goes_to x p) x_goes.0), x_goes.1)

  all_passed : (params : List ThingType) (args : Arguments) (values : List Value) → all_typed (types_of (context_of here) args) ≡ true
      → arguments_break params (types_of (context_of here) args) ≡ false → values_of l store locals (arguments here params args) ≡ Some values
      → AllPassed (argument_ways stable here params args) values
  unfolding arguments type_of types_of
  all_passed (p ∷ params) (more e rest) values typed goes are =
      let t = typed_first (type_of (context_of here) e) (types_of (context_of here) rest) typed in
      let g = goes_first p (type_of (context_of here) e) t.0 (arguments_break params (types_of (context_of here) rest)) t.1.0 goes in
      let b = both (value (as_kind p.kind (meaning here e))) (values_of l store locals (arguments here params rest)) values are in
      subst (AllPassed (argument_way stable here p.kind e ∷ argument_ways stable here params rest)) b.1.1.1.1
      (one_passed (argument_way stable here p.kind e) (argument_ways stable here params rest) b.0 b.1.0
      (λ w f. kind_passed p.kind e t.0 b.0 w t.1.0 (both_true (is_none p.length) (Goes t.0 p.kind) g.0).1 f b.1.1.0)
      (all_passed params rest b.1.0 t.1.1 g.1 b.1.1.1.0))
  all_passed [] args values typed goes are = none_passed values
  all_passed (p ∷ params) none values typed goes are = none_passed values

pub arguments_have_paths : ArgumentsHaveTheirPaths
arguments_have_paths items here k store caller callee owner stable params args values has s typed goes are holds parameter argument e =
    let meets : Meets here k store caller = record { declared = stands_declared items k.layout has; serves = s } in
    let own = all_passed here k store caller owner meets stable params args values typed goes are parameter argument e in
    (own.own, holds parameter own.own own.there, own.passed.fits, own.passed.denotes)
