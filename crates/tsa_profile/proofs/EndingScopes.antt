-- What the initialiser of a global sees that is declared behind all items of a typed unit: what is seen behind the items.
use Rattle.std.proofs.Common.{◌≡◌, ◌∙◌, ℕ, zero, suc, ◌+◌, arith, Bool, true, false, ◌&&◌, nat_lt, List, [], ◌∷◌, Option, Some, None, refl}
use Rattle.std.proofs.Common.{sym, ap, if◌then◌else◌}
use Rattle.std.proofs.lemmas.Bool.Decides.{nat_tests}
use Rattle.std.specs.Prelude.{option_and_then}
use Rattle.std.specs.Str.{bytes_eq}
use Rattle.tsa_base.specs.declared.value.Value.TheVariants.{Pointer}
use Rattle.tsa_base.proofs.Truths.{never}
use Rattle.tsa_tree.specs.declarations.Syntax.{Declaration}
use Rattle.tsa_tree.specs.declared.expr.UnaryOp.TheVariants as prefix
use Rattle.tsa_tree.specs.declared.kind.Kind.{Kind}
use Rattle.tsa_tree.specs.declared.kind.Kind.TheVariants as type
use Rattle.tsa_tree.specs.declared.kind.ThingType.{ThingType}
use Rattle.tsa_tree.specs.declared.meaning.Entry.{Entry}
use Rattle.tsa_tree.specs.declared.meaning.Meaning.{Meaning}
use Rattle.tsa_tree.specs.declared.meaning.Meaning.TheVariants as meant
use Rattle.tsa_tree.specs.expressions.Syntax.{Expression, number, null, named, call, unary, binary, field, index}
use Rattle.tsa_tree.specs.types.Constants.{enumerator, is_known_enumerator, constant_of}
use Rattle.tsa_tree.specs.types.DeclaredTypes.{value_in}
use Rattle.tsa_tree.specs.types.Expressions.{type_of}
use Rattle.tsa_tree.specs.types.Globals.{global_entry, global_premises, with_global}
use Rattle.tsa_tree.specs.types.Initialisers.{is_earlier, is_index, length_at, is_constant_place, is_constant_pointer, is_constant_for}
use Rattle.tsa_tree.specs.types.Operands.{integer_kind}
use Rattle.tsa_tree.specs.types.Premises.{first}
use Rattle.tsa_tree.specs.types.Scopes.{Scope, Members, context_of, known_in, with_globals}
use Rattle.tsa_tree.specs.types.Units.{behind_item}
use Rattle.tsa_tree.specs.units.Syntax.{UnitItem, global_item}
use Rattle.tsa_place_model.specs.Ways.{Way}
use Rattle.tsa_place_model.specs.declared.path.PathStep.{PathStep}
use Rattle.tsa_place_model.specs.declared.path.PathStep.TheVariants.{Variable}
use Rattle.tsa_place_model.specs.LockPaths.{Led, member_step, element_step, name_way, or_variable, variable, to_element, in_range, leads}
use Rattle.tsa_place_model.specs.Calls.{Layout, evaluated, no_locals}
use Rattle.tsa_place_model.specs.Parts.{no_stable}
use Rattle.tsa_place_model.specs.Items.{behind_data, known_global, or_zero}
use Rattle.tsa_place_model.specs.GlobalPlaces.{address_in, cell_value}
use Rattle.tsa_core.proofs.KindTests.{both_true}
use Rattle.tsa_core.proofs.SameConstants.{SameConstants, same_value}
use Rattle.tsa_core.proofs.ScopesAlike.{Alike, no_function, known_found, value_same}
use Rattle.tsa_core.proofs.UnitScopes.{or_other, found_append, item_alike}

each : {A B : Type 0} (f g : A → Option B) → ((x : A) → f x ≡ g x) → (o : Option A) → option_and_then f o ≡ option_and_then g o
each f g same None = refl
each f g same (Some x) = same x

-- STEPS THAT LOCALS AND STRUCTS ALONE CHANGE

-- a scope with nothing but structs
abbrev only : List Members → Scope
only structs = record { tags = []; locks = []; structs = structs; owned = []; names = []; functions = []; globals = 0; locals = 0 }

member_same : (here there : Scope) (name : List ℕ) (d : Led) → there.structs ≡ here.structs → member_step there name d ≡ member_step here name d
member_same here there name d same = ap (λ structs. member_step (only structs) name d) same

-- no local never changes, where none is known
none_stable : (k : ℕ) → no_stable k ≡ false
none_stable zero = refl
none_stable (suc k) = refl

not_so : (b c : Bool) (k : ℕ) → b ≡ false → (if b && c then Some (Variable k) else None) ≡ None
not_so false c k h = refl
not_so true c k h = never h

no_variable : (o : Option Entry) → variable no_stable o ≡ None
no_variable None = refl
no_variable (Some e) = by e.meaning e.thing
  where
    by : (m : Meaning) (t : ThingType) → variable no_stable (Some (record { meaning = m; thing = t })) ≡ None
    by (meant.Local k) t = not_so (no_stable k) (integer_kind t.kind) k (none_stable k)
    by (meant.Global n) t = refl
    by (meant.Function n) t = refl
    by meant.Owned t = refl
    by (meant.Constant z) t = refl
    by meant.TypeName t = refl

step_same : (here there : Scope) (at : Expression) (s : Option PathStep) → or_variable no_stable there at s ≡ or_variable no_stable here at s
step_same here there at (Some step) = refl
step_same here there (named name span) None = no_variable (known_in there name.text) ∙ sym (no_variable (known_in here name.text))
step_same here there (number n u span) None = refl
step_same here there (null span) None = refl
step_same here there (call name args span) None = refl
step_same here there (unary o inner span) None = refl
step_same here there (binary o left right span) None = refl
step_same here there (field base name arrow span) None = refl
step_same here there (index base at span) None = refl

element_same : (here there : Scope) (at : Expression) (d : Led) → value_in (context_of there) at ≡ value_in (context_of here) at → element_step no_stable there at d ≡ element_step no_stable here at d
element_same here there at d same = by d.way d.thing.kind d.thing.length d.thing.is_const d.is_stable
  where
    by : (w : Way) (kind : Kind) (length : Option ℕ) (is_const is_stable : Bool)
        → element_step no_stable there at (record { way = w; thing = record { kind = kind; length = length; is_const = is_const }; is_stable = is_stable })
        ≡ element_step no_stable here at (record { way = w; thing = record { kind = kind; length = length; is_const = is_const }; is_stable = is_stable })
    by w kind None is_const is_stable = refl
    by w kind (Some n) is_const is_stable =
        ap (to_element (record { way = w; thing = record { kind = kind; length = Some n; is_const = is_const }; is_stable = is_stable }))
        (ap (λ v. or_variable no_stable there at (in_range n v)) same ∙ step_same here there at (in_range n (value_in (context_of here) at)))

-- AN EARLIER GLOBAL

-- a global that is found is one without functions too, and leads to itself in each scope
earlier_kept : (own : ℕ) (o : Option Entry) → is_earlier own o ≡ true → no_function o ≡ o
earlier_kept own None h = refl
earlier_kept own (Some e) h = by e.meaning e.thing h
  where
    by : (m : Meaning) (t : ThingType) → is_earlier own (Some (record { meaning = m; thing = t })) ≡ true → no_function (Some (record { meaning = m; thing = t })) ≡ Some (record { meaning = m; thing = t })
    by (meant.Global n) t h = refl
    by (meant.Local n) t h = refl
    by (meant.Function n) t h = never (sym h)
    by meant.Owned t h = refl
    by (meant.Constant z) t h = refl
    by meant.TypeName t h = refl

name_same : (own : ℕ) (here there : Scope) (name : List ℕ) (o : Option Entry) → is_earlier own o ≡ true
    → option_and_then (name_way no_stable there name) o ≡ option_and_then (name_way no_stable here name) o
name_same own here there name None h = refl
name_same own here there name (Some e) h = by e.meaning e.thing h
  where
    by : (m : Meaning) (t : ThingType) → is_earlier own (Some (record { meaning = m; thing = t })) ≡ true
        → option_and_then (name_way no_stable there name) (Some (record { meaning = m; thing = t })) ≡ option_and_then (name_way no_stable here name) (Some (record { meaning = m; thing = t }))
    by (meant.Global n) t h = refl
    by (meant.Local n) t h = refl
    by (meant.Function n) t h = refl
    by meant.Owned t h = never (sym h)
    by (meant.Constant z) t h = refl
    by meant.TypeName t h = refl

not_below_itself : {A : Type 0} (n : ℕ) → nat_lt n n ≡ true → A
not_below_itself n h = absurd (grind (arith, nat_tests, h))

-- one that is earlier isn't the global itself
before_it : (own : ℕ) (o : Option Entry) (b : Bool) (t : ThingType) → is_earlier own (or_other o (if b then Some (record { meaning = meant.Global own; thing = t }) else None)) ≡ true
    → or_other o (if b then Some (record { meaning = meant.Global own; thing = t }) else None) ≡ o
before_it own (Some e) b t h = refl
before_it own None true t h = not_below_itself own h
before_it own None false t h = refl

-- a name that is a global's is no enumerator's
enumerator_before : (own : ℕ) (o : Option Entry) (b : Bool) (t : ThingType) → enumerator (or_other o (if b then Some (record { meaning = meant.Global own; thing = t }) else None)) ≡ enumerator o
enumerator_before own (Some e) b t = refl
enumerator_before own None true t = refl
enumerator_before own None false t = refl

entry_before : (own : ℕ) (o : Option Entry) (b : Bool) (t : ThingType) → is_known_enumerator (enumerator o) ≡ true
    → or_other o (if b then Some (record { meaning = meant.Global own; thing = t }) else None) ≡ o
entry_before own (Some e) b t h = refl
entry_before own None b t h = never (sym h)

-- THE SAME IN TWO SCOPES

-- A constant is the same in two scopes where numbers are, and each earlier global: constant places are asked for in a third one.
module _ (here bare inner : Scope) (own : ℕ) (structs : bare.structs ≡ here.structs) (values : (e : Expression) → value_in (context_of bare) e ≡ value_in (context_of here) e)
    (globals : (name : List ℕ) → is_earlier own (known_in inner name) ≡ true
    → option_and_then (name_way no_stable bare name) (known_in bare name) ≡ option_and_then (name_way no_stable here name) (known_in here name)) where
  place_is : (p : Bool) (e : Expression) → is_constant_place (context_of inner) own p e ≡ true → leads no_stable bare p e ≡ leads no_stable here p e
  unfolding leads
  place_is false (named name span) h = globals name.text h
  place_is false (field base name arrow span) h =
      ap (option_and_then (member_step bare name.text)) (place_is arrow base h)
      ∙ each (member_step bare name.text) (member_step here name.text) (λ x. member_same here bare name.text x structs) (leads no_stable here arrow base)
  place_is false (index base at span) h =
      ap (option_and_then (element_step no_stable bare at))
      (place_is false base (both_true (is_constant_place (context_of inner) own false base) (is_index (length_at (type_of (context_of inner) base)) (constant_of (context_of inner) at)) h).0)
      ∙ each (element_step no_stable bare at) (element_step no_stable here at) (λ x. element_same here bare at x (values at)) (leads no_stable here false base)
  place_is false (unary prefix.Follow inside span) h = place_is true inside h
  place_is true (unary prefix.Address inside span) h = place_is false inside h
  place_is false (number n u span) h = never (sym h)
  place_is false (null span) h = never (sym h)
  place_is false (call name args span) h = never (sym h)
  place_is false (unary prefix.Minus inside span) h = never (sym h)
  place_is false (unary prefix.Not inside span) h = never (sym h)
  place_is false (unary prefix.Flip inside span) h = never (sym h)
  place_is false (binary o left right span) h = never (sym h)
  place_is true (number n u span) h = never (sym h)
  place_is true (null span) h = never (sym h)
  place_is true (call name args span) h = never (sym h)
  place_is true (unary prefix.Minus inside span) h = never (sym h)
  place_is true (unary prefix.Not inside span) h = never (sym h)
  place_is true (unary prefix.Flip inside span) h = never (sym h)
  place_is true (binary o left right span) h = never (sym h)
  place_is true (named name span) h = never (sym h)
  place_is true (field base name arrow span) h = never (sym h)
  place_is true (index base at span) h = never (sym h)
  place_is true (unary prefix.Follow inside span) h = never (sym h)
  place_is false (unary prefix.Address inside span) h = never (sym h)

  address_is : (l : Layout) (e : Expression) → is_constant_pointer (context_of inner) own e ≡ true → address_in bare l e ≡ address_in here l e
  unfolding leads
  address_is l (null span) h = refl
  address_is l (number zero u span) h = refl
  address_is l (number (suc n) u span) h = never (sym h)
  address_is l (unary prefix.Address inside span) h = ap (option_and_then (λ w. evaluated l no_locals None w.way)) (place_is false inside h)
  address_is l (unary prefix.Follow inside span) h = never (sym h)
  address_is l (unary prefix.Minus inside span) h = never (sym h)
  address_is l (unary prefix.Not inside span) h = never (sym h)
  address_is l (unary prefix.Flip inside span) h = never (sym h)
  address_is l (named name span) h = never (sym h)
  address_is l (call name args span) h = never (sym h)
  address_is l (binary o left right span) h = never (sym h)
  address_is l (field base name arrow span) h = never (sym h)
  address_is l (index base at span) h = never (sym h)

  constant_is : (l : Layout) (kind : Kind) (e : Expression) → is_constant_for (context_of inner) own kind e ≡ true → cell_value bare l kind e ≡ cell_value here l kind e
  constant_is l (type.Pointer target to_const) e h = ap Pointer (address_is l e h)
  constant_is l type.Int e h = ap (or_zero type.Int) (values e)
  constant_is l type.Unsigned e h = ap (or_zero type.Unsigned) (values e)
  constant_is l type.Void e h = ap (or_zero type.Void) (values e)
  constant_is l (type.Structure n) e h = ap (or_zero (type.Structure n)) (values e)
  constant_is l type.Null e h = ap (or_zero type.Null) (values e)
  constant_is l type.Function e h = ap (or_zero type.Function) (values e)

-- THE INITIALISER OF A GLOBAL BEHIND ALL ITEMS

-- what is known without functions, where the global is known too
module _ (here there : Scope) (alike : Alike here there) (d : Declaration) (typed : first (global_premises here d) ≡ None) where
  abbrev inner : Scope
  inner = with_global here d

  abbrev bare : Scope
  bare = known_global there d

  abbrev own : ℕ
  own = here.globals

  further : Alike (behind_item here (global_item d)) (with_globals (there.globals + 1) bare)
  further = item_alike here there (global_item d) alike typed

  abbrev it : List ℕ → Option Entry
  it name = if bytes_eq name d.name.text then Some (global_entry here d) else None

  known_inner : (name : List ℕ) → known_in inner name ≡ or_other (known_in here name) (it name)
  known_inner name =
      known_found inner name alike.owned ∙ found_append here.names ((d.name.text, global_entry here d) ∷ []) name ∙ ap (λ o. or_other o (it name)) (sym (known_found here name alike.owned))

  known_bare : (name : List ℕ) → known_in bare name ≡ no_function (known_in inner name)
  known_bare name = known_found bare name further.no_owned ∙ further.names name ∙ ap no_function (sym (known_found inner name alike.owned))

  constants_here : SameConstants (context_of here) (context_of inner)
  constants_here = record {
    values = λ name. ap enumerator (known_inner name) ∙ enumerator_before own (known_in here name) (bytes_eq name d.name.text) (global_entry here d).thing;
    entries = λ name h. known_inner name ∙ entry_before own (known_in here name) (bytes_eq name d.name.text) (global_entry here d).thing h;
  }

  value_is : (e : Expression) → value_in (context_of bare) e ≡ value_in (context_of here) e
  value_is e = value_same (behind_item here (global_item d)) (with_globals (there.globals + 1) bare) further e ∙ same_value (context_of here) (context_of inner) constants_here e

  globals_are : (name : List ℕ) → is_earlier own (known_in inner name) ≡ true
      → option_and_then (name_way no_stable bare name) (known_in bare name) ≡ option_and_then (name_way no_stable here name) (known_in here name)
  globals_are name h =
      let known = known_inner name in
      let outer : is_earlier own (or_other (known_in here name) (it name)) ≡ true = sym (ap (is_earlier own) known) ∙ h in
      let same = known ∙ before_it own (known_in here name) (bytes_eq name d.name.text) (global_entry here d).thing outer in
      let early : is_earlier own (known_in here name) ≡ true = sym (ap (is_earlier own) same) ∙ h in
      ap (option_and_then (name_way no_stable bare name)) (known_bare name ∙ ap no_function same ∙ earlier_kept own (known_in here name) early)
      ∙ name_same own here bare name (known_in here name) early

  -- its cell holds what is seen behind the items
  pub cell_is : (l : Layout) (kind : Kind) (e : Expression) → is_constant_for (context_of inner) own kind e ≡ true → cell_value bare l kind e ≡ cell_value here l kind e
  cell_is l kind e h = constant_is here bare inner own further.structs value_is globals_are l kind e h

-- AN EXPRESSION BEHIND ALL ITEMS

-- what is known of data behind them
abbrev pub data_behind : Scope → List UnitItem → Scope
data_behind there [] = there
data_behind there (item ∷ rest) = data_behind (behind_data there item) rest

-- it is worth the same without functions
module _ (here there : Scope) (alike : Alike here there) where
  known_there : (name : List ℕ) → known_in there name ≡ no_function (known_in here name)
  known_there name = known_found there name alike.no_owned ∙ alike.names name ∙ ap no_function (sym (known_found here name alike.owned))

  pub constant_there : (l : Layout) (own : ℕ) (kind : Kind) (e : Expression) → is_constant_for (context_of here) own kind e ≡ true → cell_value there l kind e ≡ cell_value here l kind e
  constant_there l own kind e h =
      constant_is here there here own alike.structs (λ x. value_same here there alike x)
      (λ name early.
      ap (option_and_then (name_way no_stable there name)) (known_there name ∙ earlier_kept own (known_in here name) early)
      ∙ name_same own here there name (known_in here name) early)
      l kind e h
