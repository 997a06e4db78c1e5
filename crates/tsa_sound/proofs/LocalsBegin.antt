-- The locals with which a function begins: arguments of its parameters' kinds, and zeros.
use Rattle.std.proofs.Common.{◌≡◌, ℕ, zero, suc, ◌<◌, ◌≤◌, Bool, true, List, [], ◌∷◌, ◌++◌, length, map, Some, slice_get, refl, ap, subst}
use Rattle.std.proofs.Common.{arith}
use Rattle.tsa_base.specs.declared.value.Value.{Value}
use Rattle.tsa_tree.specs.declared.kind.Kind.{Kind}
use Rattle.tsa_tree.specs.declared.kind.Kind.TheVariants as type
use Rattle.tsa_place_model.specs.Calls.{Layout}
use Rattle.tsa_place_model.specs.Items.{zero_of}
use Rattle.tsa_core.specs.Kinds.{Setting}
use Rattle.tsa_core.specs.PointKinds.{ArgsServe, serves}
use Rattle.tsa_place_model.specs.Stores.{is_value_of}
use Rattle.tsa_core.specs.Terms.{Term}
use Rattle.tsa_mean.specs.Outs.{bind, yields}
use Rattle.tsa_mean.specs.Working.{Locals, local_at, rvalue, rvalues}
use Rattle.tsa_sound.specs.BodyFacts.{IsScalar}
use Rattle.tsa_sound.specs.LaidOut.{LaidOut}
use Rattle.tsa_sound.specs.PartlyWorked.{AreWorked}
use Rattle.tsa_sound.specs.TermFacts.{AllFit}
use Rattle.tsa_sound.proofs.Says.{bound}
use Rattle.tsa_sound.proofs.Tests.{none_is_some, same_some, same_yields}
use Rattle.tsa_sound.proofs.ValuesFit.{HasKind, value_fits}
use Rattle.tsa_sound.proofs.WriteLaw.{served}

-- of some kinds all are numbers or pointers
abbrev pub AreScalars : List Kind → Type 0
AreScalars kinds = (n : ℕ) (kind : Kind) → slice_get kinds n ≡ Some kind → IsScalar kind

pub length_mapped : {A B : Type 0} (f : A → B) (xs : List A) → length (map f xs) ≡ length xs
length_mapped f [] = refl
length_mapped f (x ∷ xs) = ap suc (length_mapped f xs)

module _ (l : Layout) where
  zero_is : (kind : Kind) → IsScalar kind → is_value_of l kind (zero_of kind) ≡ true
  zero_is type.Int scalar = refl
  zero_is type.Unsigned scalar = refl
  zero_is (type.Pointer struct to_const) scalar = refl
  zero_is kind scalar = absurd scalar

  pub scalar_served : (given wanted : Kind) (v : Value) → IsScalar wanted → serves given wanted ≡ true → HasKind l given v → is_value_of l wanted v ≡ true
  scalar_served given wanted v scalar e has = served l given wanted v (zero_of wanted) e has (zero_is wanted scalar)

  -- values are of some kinds, one by one
  abbrev pub AreTyped : List Kind → List Value → Type 0
  AreTyped [] [] = Unit {0}
  AreTyped (kind ∷ kinds) (v ∷ vs) = (is_value_of l kind v ≡ true) × AreTyped kinds vs
  AreTyped kinds vs = ⊥

  zeros_typed : (more : List Kind) → AreScalars more → (n : ℕ) (kind : Kind) → slice_get more n ≡ Some kind
      → is_value_of l kind (local_at (map zero_of more) n) ≡ true
  zeros_typed [] scalars n kind e = none_is_some e
  zeros_typed (k ∷ more) scalars zero kind e =
      subst (λ k'. is_value_of l k' (zero_of k) ≡ true) (same_some e) (zero_is k (scalars zero k refl))
  zeros_typed (k ∷ more) scalars (suc n) kind e = zeros_typed more (λ j. scalars (suc j)) n kind e

  -- so all locals are of their kinds
  pub begins_typed : (kinds more : List Kind) (vs : List Value) → AreTyped kinds vs → AreScalars (kinds ++ more) → (n : ℕ) (kind : Kind)
      → slice_get (kinds ++ more) n ≡ Some kind → is_value_of l kind (local_at (vs ++ map zero_of more) n) ≡ true
  begins_typed [] more [] typed scalars n kind e = zeros_typed more scalars n kind e
  begins_typed (k ∷ kinds) more (v ∷ vs) typed scalars zero kind e = subst (λ k'. is_value_of l k' v ≡ true) (same_some e) typed.0
  begins_typed (k ∷ kinds) more (v ∷ vs) typed scalars (suc n) kind e = begins_typed kinds more vs typed.1 (λ j. scalars (suc j)) n kind e
  begins_typed [] more (v ∷ vs) typed scalars n kind e = absurd typed
  begins_typed (k ∷ kinds) more [] typed scalars n kind e = absurd typed

  -- and there are as many as kinds
  pub begins_whole : (kinds more : List Kind) (vs : List Value) → AreTyped kinds vs → length (kinds ++ more) ≤ length (vs ++ map zero_of more)
  begins_whole [] more [] typed = let same = length_mapped zero_of more in omega (arith, same)
  begins_whole (k ∷ kinds) more (v ∷ vs) typed = let rest = begins_whole kinds more vs typed.1 in omega (arith, rest)
  begins_whole [] more (v ∷ vs) typed = absurd typed
  begins_whole (k ∷ kinds) more [] typed = absurd typed

  -- a parameter's local is its argument
  pub argument_begins : (kinds : List Kind) (vs more : List Value) → AreTyped kinds vs → (n : ℕ) → n < length kinds → slice_get vs n ≡ Some (local_at (vs ++ more) n)
  argument_begins [] [] more typed n less = absurd (omega (arith, less))
  argument_begins (k ∷ kinds) (v ∷ vs) more typed zero less = refl
  argument_begins (k ∷ kinds) (v ∷ vs) more typed (suc n) less = argument_begins kinds vs more typed.1 n (omega (arith, less))
  argument_begins [] (v ∷ vs) more typed n less = absurd typed
  argument_begins (k ∷ kinds) [] more typed n less = absurd typed

-- arguments that are worked out are of the kinds of parameters
module _ (k : Setting) (stable : ℕ → Bool) (locals : Locals) (laid : LaidOut k.layout)
    (typed : (n : ℕ) (kind : Kind) → k.locals n ≡ Some kind → is_value_of k.layout kind (local_at locals n) ≡ true) where
  pub arguments_typed : (kinds : List Kind) (written now : List Term) (vs : List Value) → AreScalars kinds → ArgsServe k kinds written → AllFit k stable written
      → AreWorked k stable locals written now → rvalues k.layout locals now ≡ yields vs → AreTyped k.layout kinds vs
  arguments_typed [] [] [] vs scalars serve fit worked e = subst (AreTyped k.layout []) (same_yields e) tt
  arguments_typed (kind ∷ kinds) (x ∷ xs) (y ∷ ys) vs scalars serve fit worked e =
      let one = bound (rvalue k.layout locals y) (λ v. bind (rvalues k.layout locals ys) (λ ws. yields (v ∷ ws))) vs e in
      let rest = bound (rvalues k.layout locals ys) (λ ws. yields (one.0 ∷ ws)) vs one.2 in
      let has = value_fits k stable locals laid typed x y serve.0.0 one.0 fit.0 worked.0 serve.0.1.0 one.1 in
      subst (AreTyped k.layout (kind ∷ kinds)) (same_yields rest.2) (
        scalar_served k.layout serve.0.0 kind one.0 (scalars zero kind refl) serve.0.1.1 has,
        arguments_typed kinds xs ys rest.0 (λ j. scalars (suc j)) serve.1 fit.1 worked.1 rest.1,
      )
  arguments_typed [] [] (y ∷ ys) vs scalars serve fit worked e = absurd worked
  arguments_typed [] (x ∷ xs) ys vs scalars serve fit worked e = absurd serve
  arguments_typed (kind ∷ kinds) [] ys vs scalars serve fit worked e = absurd serve
  arguments_typed (kind ∷ kinds) (x ∷ xs) [] vs scalars serve fit worked e = absurd worked
