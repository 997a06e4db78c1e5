-- Values of pointers in well-typed stores and locals, and the steps of ways.
use Rattle.std.proofs.Common.{◌≡◌, ℕ, Bool, true, List, [], ◌∷◌, ◌++◌, Option, Some, None, option_map, option_and_then, slice_get, refl}
use Rattle.std.proofs.Common.{sym, ap, subst, eqb-true}
use Rattle.tsa_base.specs.declared.value.Value.{Value}
use Rattle.tsa_base.specs.declared.value.Value.TheVariants.{Int, Unsigned, Pointer}
use Rattle.tsa_base.proofs.Truths.{never}
use Rattle.tsa_tree.specs.declared.kind.Kind.{Kind}
use Rattle.tsa_tree.specs.declared.kind.Kind.TheVariants as type
use Rattle.tsa_tree.specs.types.Types.{single}
use Rattle.tsa_place_model.specs.Ways.{Way, onward}
use Rattle.tsa_place_model.specs.declared.path.Root.{Root}
use Rattle.tsa_place_model.specs.declared.path.Root.TheVariants.{Global, Local, Owner}
use Rattle.tsa_place_model.specs.declared.path.PathStep.{PathStep}
use Rattle.tsa_place_model.specs.declared.place.Placed.{Placed}
use Rattle.tsa_place_model.specs.declared.spot.Spot.{Spot}
use Rattle.tsa_place_model.specs.declared.spot.Spot.TheVariants.{Place}
use Rattle.tsa_place_model.specs.Calls.{Layout, is_addressable, pointee, take_root, take_step, take_steps}
use Rattle.tsa_place_model.specs.Stores.{is_of, may_point, is_value_of}
use Rattle.tsa_core.proofs.KindTests.{both_true}
use Rattle.tsa_path.proofs.Bearing.{Bears}
use Rattle.tsa_path.specs.Laws.{Locals, IsPassed}
use Rattle.tsa_path.specs.Values.{pointed_place}
use Rattle.tsa_path.proofs.Keeping.{steps_after}

-- where a way leads
abbrev pub spot_of : Layout → Locals → Option ℕ → Way → Option Spot
spot_of l locals owner w = take_steps l locals w.steps (take_root l locals owner w.root)

pub spot_onward : (l : Layout) (locals : Locals) (owner : Option ℕ) (w : Way) (step : PathStep)
    → spot_of l locals owner (onward step w) ≡ option_and_then (take_step l locals step) (spot_of l locals owner w)
spot_onward l locals owner w step = steps_after l locals w.steps (step ∷ []) (take_root l locals owner w.root)

-- a way that is neither a local nor a constant
abbrev pub IsProper : Root → List PathStep → Type 0
IsProper (Local n) [] = ⊥
IsProper (Local n) (step ∷ rest) = Unit {0}
IsProper Owner steps = ⊥
IsProper (Global n) steps = Unit {0}

pub local_onward : (n : ℕ) (steps : List PathStep) (step : PathStep) → IsProper (Local n) (steps ++ step ∷ [])
local_onward n [] step = tt
local_onward n (first ∷ rest) step = tt

pub proper_onward : (root : Root) (steps : List PathStep) (step : PathStep) → IsProper root steps → IsProper root (steps ++ step ∷ [])
proper_onward (Global n) steps step h = tt
proper_onward (Local n) steps step h = local_onward n steps step
proper_onward Owner steps step h = h

pub proper_passed : (l : Layout) (locals : Locals) (owner : Option ℕ) (root : Root) (steps : List PathStep) (v : Value) → IsProper root steps
    → take_steps l locals steps (take_root l locals owner root) ≡ pointee v → IsPassed l locals owner root steps v
proper_passed l locals owner (Global n) steps v h e = e
proper_passed l locals owner (Local n) [] v h e = absurd h
proper_passed l locals owner (Local n) (step ∷ rest) v h e = e
proper_passed l locals owner Owner steps v h e = absurd h

-- where a value points
pub pointee_is : (v : Value) → pointee v ≡ option_map Place (pointed_place v)
pointee_is (Pointer p) = refl
pointee_is (Int z) = refl
pointee_is (Unsigned n) = refl

pub is_struct : (n : ℕ) (kind : Kind) → is_of n kind ≡ true → kind ≡ type.Structure n
is_struct n (type.Structure m) e = ap type.Structure (eqb-true m n e)
is_struct n type.Int e = never (sym e)
is_struct n type.Unsigned e = never (sym e)
is_struct n type.Void e = never (sym e)
is_struct n (type.Pointer m c) e = never (sym e)
is_struct n type.Null e = never (sym e)
is_struct n type.Function e = never (sym e)

module _ (l : Layout) (n : ℕ) (to_const : Bool) where
  object_at : (q : ℕ) (o : Option Placed) → slice_get l.places q ≡ o → may_point n to_const o ≡ true → Bears l q (single (type.Structure n) to_const)
  object_at q None at e = never (sym e)
  object_at q (Some p) at e =
      let inner = both_true (is_addressable p) _ e in
      record { placed = p; there = at; kind = is_struct n p.kind (both_true (is_of n p.kind) _ inner.1).0; constant = λ e f. never e }

  -- a value of a pointer's kind is a pointer, which points to an object of the struct
  pub pointer_bears : (v : Value) (q : ℕ) → is_value_of l (type.Pointer n to_const) v ≡ true → pointed_place v ≡ Some q → Bears l q (single (type.Structure n) to_const)
  pointer_bears (Pointer (Some p)) q e at =
      let same : p ≡ q = cc in
      subst (λ x. Bears l x (single (type.Structure n) to_const)) same (object_at p (slice_get l.places p) refl e)
  pointer_bears (Pointer None) q e at = cc
  pointer_bears (Int z) q e at = never (sym e)
  pointer_bears (Unsigned m) q e at = never (sym e)

  pub pointer_value : (v : Value) → is_value_of l (type.Pointer n to_const) v ≡ true → (p : Option ℕ) × (v ≡ Pointer p)
  pointer_value (Pointer p) e = (p, refl)
  pointer_value (Int z) e = never (sym e)
  pointer_value (Unsigned m) e = never (sym e)
