-- The paths that are handed on with the arguments of a call are those of the arguments' terms.
use Rattle.std.proofs.Common.{◌≡◌, ◌∙◌, ℕ, pos, negsuc, neg_ℤ, ◌-◌, ◌^◌, ◌%◌, arith, nat_lt, ◌⊎◌, inl, inr, Bool, true, false, not, ◌&&◌}
use Rattle.std.proofs.Common.{◌||◌, List, [], ◌∷◌, Option, Some, None, is_some, is_none, option_map, Result, Ok, Err, if◌then◌else◌, refl}
use Rattle.std.proofs.Common.{sym, ap, subst}
use Rattle.std.proofs.lemmas.Bool.Decides.{nat_tests}
use Rattle.tsa_tree.specs.declared.kind.ExpressionType.{ExpressionType}
use Rattle.tsa_tree.specs.declared.kind.Kind.{Kind}
use Rattle.tsa_tree.specs.declared.kind.Kind.TheVariants as type
use Rattle.tsa_tree.specs.declared.kind.ThingType.{ThingType}
use Rattle.tsa_tree.specs.declared.meaning.Entry.{Entry}
use Rattle.tsa_tree.specs.declared.meaning.Meaning.{Meaning}
use Rattle.tsa_tree.specs.declared.meaning.Meaning.TheVariants as known
use Rattle.tsa_tree.specs.declared.number.Number.{Number}
use Rattle.tsa_tree.specs.declared.number.Number.TheVariants as numeral
use Rattle.tsa_tree.specs.declared.number.Trap.{Trap}
use Rattle.tsa_tree.specs.expressions.Syntax.{Expression, Arguments, number, null, named, call, unary, binary, field, index, none, more}
use Rattle.tsa_tree.specs.types.Constants.{go_on, without_trap}
use Rattle.tsa_tree.specs.types.DeclaredTypes.{value_in}
use Rattle.tsa_tree.specs.types.Expressions.{type_of, types_of, all_typed, arguments_break}
use Rattle.tsa_tree.specs.types.Operands.{integer_kind, unsigned_kind, goes_to, is_integer, is_single, keeps_const, lacks, same_target}
use Rattle.tsa_tree.specs.types.Operands.{target_of}
use Rattle.tsa_tree.specs.types.Scopes.{Scope, context_of, known_in}
use Rattle.tsa_place_model.specs.Arguments.{argument_way, index_argument, local_argument, or_local, way_of}
use Rattle.tsa_place_model.specs.LockPaths.{Led, in_range, leads}
use Rattle.tsa_place_model.specs.Ways.{Way, from, onward}
use Rattle.tsa_place_model.specs.declared.path.PathStep.{PathStep}
use Rattle.tsa_place_model.specs.declared.path.PathStep.TheVariants.{Constant, Field, Follow}
use Rattle.tsa_place_model.specs.declared.path.Root.{Root}
use Rattle.tsa_place_model.specs.declared.path.Root.TheVariants as root
use Rattle.tsa_place_model.specs.Calls.{index_in}
use Rattle.tsa_core.specs.Kinds.{Setting, Belongs}
use Rattle.tsa_core.specs.Meanings.{loaded, null_pointer, of_name, of_number, as_kind, meaning, arguments}
use Rattle.tsa_core.specs.Meanings as meant
use Rattle.tsa_core.specs.Terms.{Term, constant, variable, answer, global, member, element, target, load, address, converted, prefixed}
use Rattle.tsa_core.specs.Terms.{joined, Sense}
use Rattle.tsa_core.specs.Uses.{argument_ways}
use Rattle.tsa_core.proofs.KindTests.{both_true, neither, not_false, one_of}
use Rattle.tsa_core.proofs.TypedTerms.{some_same}
use Rattle.tsa_path.proofs.ArgumentPaths.{either}
use Rattle.tsa_path.proofs.Pointers.{IsProper, proper_onward}
use Rattle.tsa_rules.specs.Conditions.{constant_in, constant_result, is_constant}
use Rattle.tsa_rules.specs.Conditions as conditions
use Rattle.tsa_rules_roles.proofs.Constants.{terms_have_the_values}
use Rattle.tsa_sound.specs.BodyFacts.{AllLead, ArgumentLeads, IsOfNumber, LeadsAlong}
use Rattle.tsa_sound.specs.PartlyWorked as worked
use Rattle.tsa_sound.specs.PartlyWorked.{further, index_step, place_way, target_way}
use Rattle.tsa_sound_accepted.proofs.terms.LedTerms.{does}
use Rattle.tsa_base.proofs.Truths.{never}

-- The path of a term is neither a local's own nor an owner's.
abbrev IsProperWay : Way → Type 0
IsProperWay w = IsProper w.root w.steps

further_proper : (o : Option Way) (s : Option PathStep) (w : Way) → ((v : Way) → o ≡ Some v → IsProperWay v) → further o s ≡ Some w → IsProperWay w
further_proper None s w h e = cc
further_proper (Some v) None w h e = cc
further_proper (Some v) (Some step) w h e = subst IsProperWay (some_same e) (proper_onward v.root v.steps step (h v refl))

followed_proper : (b : Bool) (o : Option Way) (w : Way) → ((v : Way) → o ≡ Some v → IsProperWay v) → worked.followed b o ≡ Some w → IsProperWay w
followed_proper true o w h e = further_proper o (Some Follow) w h e
followed_proper false o w h e = cc

local_proper : (b : Bool) (n : ℕ) (w : Way) → worked.local_way b n ≡ Some w → IsProperWay w
local_proper true n w e = subst IsProperWay (some_same e) tt
local_proper false n w e = cc

global_proper : (n : ℕ) (w : Way) → ◌≡◌ {A = Option Way} (Some (from (root.Global n))) (Some w) → IsProperWay w
global_proper n w e = subst IsProperWay (some_same e) tt

mutual
  place_proper : (stable : ℕ → Bool) (x : Term) (w : Way) → place_way stable x ≡ Some w → IsProperWay w
  place_proper stable (global n) w e = global_proper n w e
  place_proper stable (member base k) w e = further_proper (place_way stable base) (Some (Field k)) w (λ v f. place_proper stable base v f) e
  place_proper stable (element base i) w e = further_proper (place_way stable base) (index_step stable i) w (λ v f. place_proper stable base v f) e
  place_proper stable (target pointer) w e = target_proper stable pointer w e
  place_proper stable (constant v) w e = cc
  place_proper stable (variable n) w e = cc
  place_proper stable answer w e = cc
  place_proper stable (load s p) w e = cc
  place_proper stable (address p) w e = cc
  place_proper stable (converted kind y) w e = cc
  place_proper stable (prefixed o y) w e = cc
  place_proper stable (joined o y z) w e = cc

  target_proper : (stable : ℕ → Bool) (x : Term) (w : Way) → target_way stable x ≡ Some w → IsProperWay w
  target_proper stable (variable n) w e = local_proper (stable n) n w e
  target_proper stable (load s p) w e = followed_proper s (place_way stable p) w (λ v f. place_proper stable p v f) e
  target_proper stable (address p) w e = place_proper stable p w e
  target_proper stable (constant v) w e = cc
  target_proper stable answer w e = cc
  target_proper stable (global n) w e = cc
  target_proper stable (member base k) w e = cc
  target_proper stable (element base i) w e = cc
  target_proper stable (target pointer) w e = cc
  target_proper stable (converted kind y) w e = cc
  target_proper stable (prefixed o y) w e = cc
  target_proper stable (joined o y z) w e = cc

-- so it is what the path of a pointer says
by_path : (stable : ℕ → Bool) (x : Term) (r : Root) (steps : List PathStep) → IsProper r steps → target_way stable x ≡ Some (record { root = r; steps = steps }) → ArgumentLeads stable x r steps
by_path stable x (root.Global n) steps h e = e
by_path stable x (root.Local n) [] h e = absurd h
by_path stable x (root.Local n) (step ∷ rest) h e = e
by_path stable x root.Owner steps h e = absurd h

-- Constants that are converted.
converted_constant : (kind : Kind) (x : Term) (m : Number) → constant_in x ≡ Some m → constant_in (converted kind x) ≡ Some (conditions.as_kind kind m)
converted_constant kind x m e = by (is_constant x) (constant_result x) e
  where
    by : (b : Bool) (r : Result Number Trap) → (if b then without_trap r else None) ≡ Some m
        → (if b then without_trap (go_on r (λ n. Ok (conditions.as_kind kind n))) else None) ≡ Some (conditions.as_kind kind m)
    by true (Ok n) e = ap (λ n. Some (conditions.as_kind kind n)) (some_same e)
    by true (Err trap) e = cc
    by false r e = cc

-- an index below the length of the longest array
record IsIndex (v : Number) (j : ℕ) : Type 0 where
  own : index_in (of_number v) ≡ Some j
  as_int : index_in (of_number (conditions.as_kind type.Int v)) ≡ Some j
  as_unsigned : index_in (of_number (conditions.as_kind type.Unsigned v)) ≡ Some j

int_index : (j : ℕ) → nat_lt j 65536 ≡ true → IsIndex (numeral.Int (pos j)) j
int_index j less = record { own = refl; as_int = refl; as_unsigned = let rest : j % (2 ^ 32) ≡ j = grind (arith, nat_tests, less) in ap (λ n. Some n) rest }

unsigned_index : (j : ℕ) → nat_lt j 65536 ≡ true → IsIndex (numeral.Unsigned j) j
unsigned_index j less = record {
  own = refl;
  as_int = let small : nat_lt j (2 ^ 31) ≡ true = grind (arith, nat_tests, less) in ap (λ b. index_in (of_number (numeral.Int (if b then pos j else neg_ℤ (pos (2 ^ 32 - j)))))) small;
  as_unsigned = refl;
}

record IsChosen (v : Option Number) (step : PathStep) : Type 0 where
  value : Number
  place : ℕ
  value_is : v ≡ Some value
  step_is : Constant place ≡ step
  index : IsIndex value place

chosen : (v : Option Number) (step : PathStep) → in_range 65536 v ≡ Some step → IsChosen v step
chosen None step e = cc
chosen (Some (numeral.Int (negsuc j))) step e = cc
chosen (Some (numeral.Int (pos j))) step e =
    let b = either (nat_lt j 65536) (Constant j) step e in
    record { value = numeral.Int (pos j); place = j; value_is = refl; step_is = b.1; index = int_index j b.0 }
chosen (Some (numeral.Unsigned j)) step e =
    let b = either (nat_lt j 65536) (Constant j) step e in
    record { value = numeral.Unsigned j; place = j; value_is = refl; step_is = b.1; index = unsigned_index j b.0 }

-- nothing goes to what is neither an integer nor a pointer to a struct
nothing_goes : {A : Type 0} (t : ExpressionType) (p : ThingType) → integer_kind p.kind ≡ false → is_some (target_of p.kind) ≡ false → goes_to t p ≡ true → A
nothing_goes t p i o h =
    one_of (is_integer t && integer_kind p.kind) _ (both_true (is_none p.length) _ h).1 (λ e. never (sym (both_true (is_integer t) (integer_kind p.kind) e).1 ∙ i))
    (λ e.
    one_of (t.is_zero && is_some (target_of p.kind)) (is_single t && (is_some (target_of p.kind) && (same_target t.thing.kind p.kind && keeps_const t.thing.kind p.kind))) e
    (λ f. never (sym (both_true t.is_zero (is_some (target_of p.kind)) f).1 ∙ o))
    (λ f.
    let g = both_true (is_single t) (is_some (target_of p.kind) && (same_target t.thing.kind p.kind && keeps_const t.thing.kind p.kind)) f in
    never (sym (both_true (is_some (target_of p.kind)) (same_target t.thing.kind p.kind && keeps_const t.thing.kind p.kind) g.1).0 ∙ o)))

module _ (here : Scope) (k : Setting) (bel : Belongs here k) (stable : ℕ → Bool) where
  -- a pointer
  pointer_leads : (n : ℕ) (c : Bool) (e : Expression) (t : ExpressionType) → type_of (context_of here) e ≡ Some t
      → LeadsAlong stable (as_kind (type.Pointer n c) (meaning here e)) (way_of stable here true e)
  pointer_leads n c e t is = by (leads stable here true e) refl
    where
      to_led : (d : Led) → leads stable here true e ≡ Some d → ArgumentLeads stable (as_kind (type.Pointer n c) (meaning here e)) d.way.root d.way.steps
      to_led d f =
          let h = does here k bel stable true e t d is f in
          let same : as_kind (type.Pointer n c) (meaning here e) ≡ loaded (meaning here e) =
          ap (λ b. if b then null_pointer else loaded (meaning here e)) (ap integer_kind h.kind_is) in
          subst (λ x. ArgumentLeads stable x d.way.root d.way.steps) (sym same)
          (by_path stable (loaded (meaning here e)) d.way.root d.way.steps (target_proper stable (loaded (meaning here e)) d.way h.way_is) h.way_is)

      by : (o : Option Led) → leads stable here true e ≡ o → LeadsAlong stable (as_kind (type.Pointer n c) (meaning here e)) (option_map (λ d. d.way) o)
      by None f = tt
      by (Some d) f = to_led d f

  -- an index that is a constant
  abbrev IsNumber : ℕ → Term → Type 0
  IsNumber j x = IsOfNumber j x

  number_of : (kind : Kind) (s : Sense) (v : Number) (j : ℕ) → (kind ≡ type.Int) ⊎ (kind ≡ type.Unsigned) → constant_in (loaded s) ≡ Some v → IsIndex v j → IsNumber j (as_kind kind s)
  number_of kind s v j (inl e) is i = subst (λ kind. IsNumber j (as_kind kind s)) (sym e) (by (unsigned_kind s.type.thing.kind))
    where
      by : (b : Bool) → IsNumber j (if b then converted type.Int (loaded s) else loaded s)
      by true = record { number = conditions.as_kind type.Int v; found = converted_constant type.Int (loaded s) v is; same = i.as_int }
      by false = record { number = v; found = is; same = i.own }
  number_of kind s v j (inr e) is i = subst (λ kind. IsNumber j (as_kind kind s)) (sym e) (by (meant.is_int s.type.thing.kind))
    where
      by : (b : Bool) → IsNumber j (if b then converted type.Unsigned (loaded s) else loaded s)
      by true = record { number = conditions.as_kind type.Unsigned v; found = converted_constant type.Unsigned (loaded s) v is; same = i.as_unsigned }
      by false = record { number = v; found = is; same = i.own }

  -- .. or a local
  local_of : (kind : Kind) (n : ℕ) (t : ThingType) → (kind ≡ type.Int) ⊎ (kind ≡ type.Unsigned)
      → LeadsAlong stable (as_kind kind (of_name (Some (record { meaning = known.Local n; thing = t })))) (Some (from (root.Local n)))
  local_of kind n t (inl e) =
      subst (λ kind. LeadsAlong stable (as_kind kind (of_name (Some (record { meaning = known.Local n; thing = t })))) (Some (from (root.Local n)))) (sym e) (by (unsigned_kind t.kind))
    where
      by : (b : Bool) → LeadsAlong stable (if b then converted type.Int (variable n) else variable n) (Some (from (root.Local n)))
      by true = (refl, refl)
      by false = refl
  local_of kind n t (inr e) =
      subst (λ kind. LeadsAlong stable (as_kind kind (of_name (Some (record { meaning = known.Local n; thing = t })))) (Some (from (root.Local n)))) (sym e) (by (meant.is_int t.kind))
    where
      by : (b : Bool) → LeadsAlong stable (if b then converted type.Unsigned (variable n) else variable n) (Some (from (root.Local n)))
      by true = (refl, refl)
      by false = refl

  local_leads : (kind : Kind) → (kind ≡ type.Int) ⊎ (kind ≡ type.Unsigned) → (o : Option Entry) → LeadsAlong stable (as_kind kind (of_name o)) (local_argument stable o)
  local_leads kind is None = tt
  local_leads kind is (Some x) = by x.meaning x.thing
    where
      if_stable : (n : ℕ) (t : ThingType) (b : Bool)
          → LeadsAlong stable (as_kind kind (of_name (Some (record { meaning = known.Local n; thing = t })))) (if b then Some (from (root.Local n)) else None)
      if_stable n t true = local_of kind n t is
      if_stable n t false = tt

      by : (m : Meaning) (t : ThingType) → LeadsAlong stable (as_kind kind (of_name (Some (record { meaning = m; thing = t })))) (local_argument stable (Some (record { meaning = m; thing = t })))
      by (known.Local n) t = if_stable n t (stable n)
      by (known.Global n) t = tt
      by (known.Function n) t = tt
      by known.Owned t = tt
      by (known.Constant z) t = tt
      by known.TypeName t = tt

  or_local_leads : (kind : Kind) → (kind ≡ type.Int) ⊎ (kind ≡ type.Unsigned) → (e : Expression) → LeadsAlong stable (as_kind kind (meaning here e)) (or_local stable here e None)
  unfolding meaning
  or_local_leads kind is (named name span) = local_leads kind is (known_in here name.text)
  or_local_leads kind is (number n u span) = tt
  or_local_leads kind is (null span) = tt
  or_local_leads kind is (call callee args span) = tt
  or_local_leads kind is (unary o inner span) = tt
  or_local_leads kind is (binary o left right span) = tt
  or_local_leads kind is (field base name arrow span) = tt
  or_local_leads kind is (index base at span) = tt

  index_leads : (kind : Kind) → (kind ≡ type.Int) ⊎ (kind ≡ type.Unsigned) → (e : Expression) (t : ExpressionType) → type_of (context_of here) e ≡ Some t
      → LeadsAlong stable (as_kind kind (meaning here e)) (index_argument stable here e)
  index_leads kind int e t is = by (in_range 65536 (value_in (context_of here) e)) refl
    where
      to_number : (step : PathStep) → IsChosen (value_in (context_of here) e) step → ArgumentLeads stable (as_kind kind (meaning here e)) root.Owner (step ∷ [])
      to_number step c =
          subst (λ x. ArgumentLeads stable (as_kind kind (meaning here e)) root.Owner (x ∷ [])) c.step_is
          (number_of kind (meaning here e) c.value c.place int (terms_have_the_values here e t is ∙ c.value_is) c.index)

      by : (o : Option PathStep) → in_range 65536 (value_in (context_of here) e) ≡ o
          → LeadsAlong stable (as_kind kind (meaning here e)) (or_local stable here e (option_map (λ step. onward step (from root.Owner)) o))
      by None f = or_local_leads kind int e
      by (Some step) f = to_number step (chosen (value_in (context_of here) e) step f)

  argument_leads : (p : ThingType) (e : Expression) (t : ExpressionType) → type_of (context_of here) e ≡ Some t → goes_to t p ≡ true
      → LeadsAlong stable (as_kind p.kind (meaning here e)) (argument_way stable here p.kind e)
  argument_leads p e t is goes = by p.kind refl
    where
      by : (kind : Kind) → p.kind ≡ kind → LeadsAlong stable (as_kind kind (meaning here e)) (argument_way stable here kind e)
      by type.Int same = index_leads type.Int (inl refl) e t is
      by type.Unsigned same = index_leads type.Unsigned (inr refl) e t is
      by (type.Pointer n c) same = pointer_leads n c e t is
      by type.Void same = nothing_goes t p (ap integer_kind same) (ap (λ kind. is_some (target_of kind)) same) goes
      by (type.Structure n) same = nothing_goes t p (ap integer_kind same) (ap (λ kind. is_some (target_of kind)) same) goes
      by type.Null same = nothing_goes t p (ap integer_kind same) (ap (λ kind. is_some (target_of kind)) same) goes
      by type.Function same = nothing_goes t p (ap integer_kind same) (ap (λ kind. is_some (target_of kind)) same) goes

  pub args_lead : (params : List ThingType) (args : Arguments) → arguments_break params (types_of (context_of here) args) ≡ false → all_typed (types_of (context_of here) args) ≡ true
      → AllLead stable (arguments here params args) (argument_ways stable here params args)
  unfolding types_of arguments
  args_lead [] args goes all = tt
  args_lead (p ∷ params) none goes all = tt
  args_lead (p ∷ params) (more e rest) goes all = by (type_of (context_of here) e) refl goes all (λ g a. args_lead params rest g a)
    where
      by : (o : Option ExpressionType) → type_of (context_of here) e ≡ o → (lacks (λ t. goes_to t p) o || arguments_break params (types_of (context_of here) rest)) ≡ false
          → all_typed (o ∷ types_of (context_of here) rest) ≡ true
          → (arguments_break params (types_of (context_of here) rest) ≡ false → all_typed (types_of (context_of here) rest) ≡ true
          → AllLead stable (arguments here params rest) (argument_ways stable here params rest))
          → AllLead stable (as_kind p.kind (meaning here e) ∷ arguments here params rest) (argument_way stable here p.kind e ∷ argument_ways stable here params rest)
      by None is g a later = never (sym a)
      by (Some t) is g a later =
          let parts = neither (not (goes_to t p)) (arguments_break params (types_of (context_of here) rest)) g in
          (argument_leads p e t is (not_false (goes_to t p) parts.0), later parts.1 a)

  -- A pointer that is handed on with a path points along just that path, which is no local's own.
  abbrev pub IsPointed : Kind → Term → Option Way → Type 0
  IsPointed (type.Pointer n c) x (Some w) = (target_way stable x ≡ Some w) × IsProperWay w
  IsPointed kind x w = Unit {0}

  abbrev pub ArePointed : List ThingType → List Term → List (Option Way) → Type 0
  ArePointed (p ∷ params) (x ∷ args) (w ∷ ways) = IsPointed p.kind x w × ArePointed params args ways
  ArePointed params args ways = Unit {0}

  pointer_pointed : (n : ℕ) (c : Bool) (e : Expression) (t : ExpressionType) → type_of (context_of here) e ≡ Some t
      → IsPointed (type.Pointer n c) (as_kind (type.Pointer n c) (meaning here e)) (way_of stable here true e)
  pointer_pointed n c e t is = by (leads stable here true e) refl
    where
      by : (o : Option Led) → leads stable here true e ≡ o → IsPointed (type.Pointer n c) (as_kind (type.Pointer n c) (meaning here e)) (option_map (λ d. d.way) o)
      by None f = tt
      by (Some d) f =
          let h = does here k bel stable true e t d is f in
          let same : as_kind (type.Pointer n c) (meaning here e) ≡ loaded (meaning here e) =
          ap (λ b. if b then null_pointer else loaded (meaning here e)) (ap integer_kind h.kind_is) in
          (ap (target_way stable) same ∙ h.way_is, target_proper stable (loaded (meaning here e)) d.way h.way_is)

  argument_pointed : (kind : Kind) (e : Expression) (t : ExpressionType) → type_of (context_of here) e ≡ Some t → IsPointed kind (as_kind kind (meaning here e)) (argument_way stable here kind e)
  argument_pointed (type.Pointer n c) e t is = pointer_pointed n c e t is
  argument_pointed type.Int e t is = tt
  argument_pointed type.Unsigned e t is = tt
  argument_pointed type.Void e t is = tt
  argument_pointed (type.Structure n) e t is = tt
  argument_pointed type.Null e t is = tt
  argument_pointed type.Function e t is = tt

  one_typed : (o : Option ExpressionType) (rest : List (Option ExpressionType)) → all_typed (o ∷ rest) ≡ true → ((t : ExpressionType) × (o ≡ Some t)) × (all_typed rest ≡ true)
  one_typed None rest h = never (sym h)
  one_typed (Some t) rest h = ((t, refl), h)

  pub args_pointed : (params : List ThingType) (args : Arguments) → all_typed (types_of (context_of here) args) ≡ true
      → ArePointed params (arguments here params args) (argument_ways stable here params args)
  unfolding types_of arguments
  args_pointed [] args all = tt
  args_pointed (p ∷ params) none all = tt
  args_pointed (p ∷ params) (more e rest) all =
      let one = one_typed (type_of (context_of here) e) (types_of (context_of here) rest) all in
      (argument_pointed p.kind e one.0.0 one.0.1, args_pointed params rest one.1)
