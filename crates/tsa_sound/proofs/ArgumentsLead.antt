-- What an attribute of a called function names with the arguments of the call, its path in the caller leads to.
use Rattle.std.proofs.Common.{◌≡◌, ◌∙◌, ℕ, zero, suc, pos, negsuc, Bool, true, false, ◌&&◌, List, [], ◌∷◌, Option, Some, None, slice_get}
use Rattle.std.proofs.Common.{refl, ap, sym, subst}
use Rattle.tsa_base.specs.declared.value.Value.{Value}
use Rattle.tsa_base.specs.declared.value.Value.TheVariants.{Int, Unsigned, Pointer}
use Rattle.tsa_tree.specs.declared.kind.Kind.{Kind}
use Rattle.tsa_tree.specs.declared.kind.Kind.TheVariants as type
use Rattle.tsa_tree.specs.declared.number.Number.{Number}
use Rattle.tsa_tree.specs.declared.number.Number.TheVariants as numeral
use Rattle.tsa_tree.specs.types.Operands.{integer_kind}
use Rattle.tsa_place_model.specs.Ways.{Way}
use Rattle.tsa_place_model.specs.declared.path.PathStep.{PathStep}
use Rattle.tsa_place_model.specs.declared.path.PathStep.TheVariants.{Field, Constant, Variable, Follow}
use Rattle.tsa_place_model.specs.declared.path.Root.{Root}
use Rattle.tsa_place_model.specs.declared.path.Root.TheVariants.{Global, Local, Owner}
use Rattle.tsa_place_model.specs.Calls.{Layout, index_in, pointee, take_root, take_steps}
use Rattle.tsa_core.specs.Kinds.{Setting, conversion_kind, if_so, value_kind}
use Rattle.tsa_core.specs.Meanings.{of_number}
use Rattle.tsa_core.specs.PointKinds.{ArgsServe, Serves}
use Rattle.tsa_place_model.specs.Stores.{is_value_of}
use Rattle.tsa_core.specs.Terms.{Term, variable, converted}
use Rattle.tsa_path.specs.Laws.{Denotes, IsHeld, IsPassed, IsSameValue, IsValue, bits}
use Rattle.tsa_path.specs.Substitution.{given}
use Rattle.tsa_path.specs.Values.{in_kind}
use Rattle.tsa_path.proofs.Conversions.{IsNumber, converts, number_value, same_number}
use Rattle.tsa_rules.specs.Conditions.{constant_result, is_constant}
use Rattle.tsa_sched.specs.declared.event.TrapKind.TheVariants as trap
use Rattle.tsa_mean.specs.Outs.{bind, yields}
use Rattle.tsa_mean.specs.WorthLaws.{values}
use Rattle.tsa_mean.specs.Working.{Locals, local_at, rvalue, rvalues}
use Rattle.tsa_sound.specs.BodyFacts.{AllLead, ArgumentLeads, IsOfLocal, IsOfNumber, IsScalar, LeadsAlong}
use Rattle.tsa_sound.specs.PartlyWorked.{AreWorked, IsWorked, PointsAlong, target_way}
use Rattle.tsa_sound.proofs.Constants.{both, differ}
use Rattle.tsa_sound.proofs.LocalsBegin.{AreScalars, AreTyped}
use Rattle.tsa_sound.proofs.PlacesStand.{chained}
use Rattle.tsa_sound.proofs.Says.{bound, constant_value, found_some, value_points}
use Rattle.tsa_sound.proofs.Tests.{none_is_some, same_yields}

-- values of numbers and pointers are in range
scalar_value : (l : Layout) (kind : Kind) (v : Value) → IsScalar kind → is_value_of l kind v ≡ true → IsValue v
scalar_value l type.Int v scalar e = (number_value l type.Int v refl e).0
scalar_value l type.Unsigned v scalar e = (number_value l type.Unsigned v refl e).0
scalar_value l (type.Pointer n c) (Pointer p) scalar e = tt
scalar_value l (type.Pointer n c) (Int z) scalar e = differ e
scalar_value l (type.Pointer n c) (Unsigned m) scalar e = differ e
scalar_value l kind v scalar e = absurd scalar

same_itself : (v : Value) → IsSameValue v v
same_itself (Pointer p) = refl
same_itself (Int z) = refl
same_itself (Unsigned n) = refl

so : (b : Bool) (kind given : Kind) → if_so b kind ≡ Some given → b ≡ true
so true kind given e = refl
so false kind given e = none_is_some e

converts_number : (kind : Kind) (v w : Value) → in_kind kind v ≡ Some w → IsNumber v
converts_number kind (Int z) w e = tt
converts_number kind (Unsigned n) w e = tt
converts_number kind (Pointer p) w e = none_is_some e

number_bits : (number : Number) (j : ℕ) → index_in (of_number number) ≡ Some j → bits (of_number number) ≡ Some j
number_bits (numeral.Int (pos n)) j e = e
number_bits (numeral.Int (negsuc n)) j e = none_is_some e
number_bits (numeral.Unsigned n) j e = e

module _ (k : Setting) (stable : ℕ → Bool) (locals : Locals)
    (typed : (n : ℕ) (kind : Kind) → k.locals n ≡ Some kind → is_value_of k.layout kind (local_at locals n) ≡ true) where
  -- an argument of a parameter's kind, worked out
  module _ (kind given : Kind) (x y : Term) (v : Value) (scalar : IsScalar kind) (known : value_kind k x ≡ Some given) (worked : IsWorked k stable locals x y)
      (value : rvalue k.layout locals y ≡ yields v) (of_kind : is_value_of k.layout kind v ≡ true) where
    -- a pointer
    points : (root : Root) (steps : List PathStep) → target_way stable x ≡ Some (record { root = root; steps = steps })
        → take_steps k.layout (values locals) steps (take_root k.layout (values locals) None root) ≡ pointee v
    points root steps leads = subst (λ w. PointsAlong k.layout locals w v) leads (value_points k stable locals x y v worked value)

    -- a constant
    number : (j : ℕ) → IsOfNumber j x → bits v ≡ Some j
    number j is =
        ap bits (constant_value k stable locals x y is.number v (is_constant x) refl (constant_result x) refl is.found worked value)
        ∙ number_bits is.number j is.same

  -- a local
  plain_local : (n m : ℕ) (y : Term) (v : Value) → m ≡ n → IsWorked k stable locals (variable m) y → rvalue k.layout locals y ≡ yields v → IsValue v
      → IsHeld (values locals n) v
  plain_local n m (variable m') v same worked value fits =
      let is : v ≡ local_at locals n = sym (same_yields value) ∙ ap (local_at locals) (sym worked ∙ same) in
      subst (λ w. IsValue w × IsSameValue w v) is (fits, same_itself v)
  plain_local n m y v same worked value fits = absurd worked

  converted_local : (n m : ℕ) (to given : Kind) (y : Term) (v : Value) → integer_kind to ≡ true → m ≡ n → value_kind k (converted to (variable m)) ≡ Some given
      → IsWorked k stable locals (converted to (variable m)) y → rvalue k.layout locals y ≡ yields v → IsHeld (values locals n) v
  converted_local n m to given (converted to' (variable m')) v integer same known worked value =
      let own = chained (conversion_kind to) (k.locals m) given known in
      let integers = both (integer_kind to) (integer_kind own.0) (so (integer_kind to && integer_kind own.0) to given own.2) in
      let old = number_value k.layout own.0 (local_at locals m) integers.1 (typed m own.0 own.1) in
      let made : in_kind to (local_at locals m) ≡ Some v =
      ap (λ t. in_kind t (local_at locals m)) worked.0 ∙ ap (λ j. in_kind to' (local_at locals j)) worked.1
      ∙ found_some trap.NullPointer (in_kind to' (local_at locals m')) v value in
      let kept = converts to (local_at locals m) v integer old.0 made in
      subst (λ j. IsHeld (values locals j) v) same (old.0, same_number (local_at locals m) v (converts_number to (local_at locals m) v made) kept.same)
  converted_local n m to given (converted to' y) v integer same known worked value = absurd worked.1
  converted_local n m to given y v integer same known worked value = absurd worked

  local : (n : ℕ) (given : Kind) (x y : Term) (v : Value) → IsOfLocal n x → value_kind k x ≡ Some given → IsWorked k stable locals x y
      → rvalue k.layout locals y ≡ yields v → IsValue v → IsHeld (values locals n) v
  local n given (variable m) y v is known worked value fits = plain_local n m y v is worked value fits
  local n given (converted to (variable m)) y v is known worked value fits = converted_local n m to given y v is.0 is.1 known worked value
  local n given (converted to x) y v is known worked value fits = absurd is
  local n given x y v is known worked value fits = absurd is

  module _ (kind given : Kind) (x y : Term) (v : Value) (scalar : IsScalar kind) (known : value_kind k x ≡ Some given) (worked : IsWorked k stable locals x y)
      (value : rvalue k.layout locals y ≡ yields v) (of_kind : is_value_of k.layout kind v ≡ true) where
    passed : (root : Root) (steps : List PathStep) → ArgumentLeads stable x root steps → IsPassed k.layout (values locals) None root steps v
    passed (Local n) [] leads = local n given x y v leads known worked value (scalar_value k.layout kind v scalar of_kind)
    passed (Local n) (step ∷ steps) leads = points kind given x y v scalar known worked value of_kind (Local n) (step ∷ steps) leads
    passed Owner (Constant j ∷ []) leads = number kind given x y v scalar known worked value of_kind j leads
    passed Owner (Constant j ∷ (step ∷ steps)) leads = points kind given x y v scalar known worked value of_kind Owner (Constant j ∷ (step ∷ steps)) leads
    passed Owner (Field j ∷ steps) leads = points kind given x y v scalar known worked value of_kind Owner (Field j ∷ steps) leads
    passed Owner (Variable j ∷ steps) leads = points kind given x y v scalar known worked value of_kind Owner (Variable j ∷ steps) leads
    passed Owner (Follow ∷ steps) leads = points kind given x y v scalar known worked value of_kind Owner (Follow ∷ steps) leads
    passed Owner [] leads = points kind given x y v scalar known worked value of_kind Owner [] leads
    passed (Global n) steps leads = points kind given x y v scalar known worked value of_kind (Global n) steps leads

  -- so the arguments suit the paths that are handed on
  abbrev Own : List (Option Way) → List Value → Type 0
  Own ways vs = (parameter : ℕ) (argument : Way) → given ways parameter ≡ Some argument
      → (v : Value) × (slice_get vs parameter ≡ Some v) × IsValue v × Denotes k.layout (values locals) None argument v

  pub arguments_suit : (kinds : List Kind) (written now : List Term) (vs : List Value) (ways : List (Option Way)) → AreScalars kinds → ArgsServe k kinds written
      → AreWorked k stable locals written now → rvalues k.layout locals now ≡ yields vs → AreTyped k.layout kinds vs → AllLead stable written ways → Own ways vs
  arguments_suit kinds written now vs [] scalars serve worked e fit leads = λ parameter argument is. none_is_some is
  arguments_suit (kind ∷ kinds) (x ∷ xs) (y ∷ ys) vs (w ∷ ways) scalars serve worked e fit leads =
      let one = bound (rvalue k.layout locals y) (λ v. bind (rvalues k.layout locals ys) (λ ws. yields (v ∷ ws))) vs e in
      let rest = bound (rvalues k.layout locals ys) (λ ws. yields (one.0 ∷ ws)) vs one.2 in
      let fits = subst (AreTyped k.layout (kind ∷ kinds)) (sym (same_yields rest.2)) fit in
      subst (Own (w ∷ ways)) (same_yields rest.2)
      (first kind x y one.0 rest.0 w ways (scalars zero kind refl) serve.0 worked.0 one.1 fits.0 leads.0
      (arguments_suit kinds xs ys rest.0 ways (λ j. scalars (suc j)) serve.1 worked.1 rest.1 fits.1 leads.1))
    where
      first : (kind : Kind) (x y : Term) (v : Value) (vs : List Value) (w : Option Way) (ways : List (Option Way)) → IsScalar kind → Serves k x kind
          → IsWorked k stable locals x y
          → rvalue k.layout locals y ≡ yields v → is_value_of k.layout kind v ≡ true → LeadsAlong stable x w → Own ways vs → Own (w ∷ ways) (v ∷ vs)
      first kind x y v vs w ways scalar serves worked value of_kind leads rest zero argument is = (
        v,
        refl,
        scalar_value k.layout kind v scalar of_kind,
        passed kind serves.0 x y v scalar serves.1.0 worked value of_kind argument.root argument.steps (subst (LeadsAlong stable x) is leads),
      )
      first kind x y v vs w ways scalar serves worked value of_kind leads rest (suc n) argument is = rest n argument is
  arguments_suit kinds [] now vs (w ∷ ways) scalars serve worked e fit leads = absurd leads
  arguments_suit [] (x ∷ xs) now vs (w ∷ ways) scalars serve worked e fit leads = absurd serve
  arguments_suit (kind ∷ kinds) (x ∷ xs) [] vs (w ∷ ways) scalars serve worked e fit leads = absurd worked
