-- Substitution keeps the meaning of a path.
use Rattle.std.proofs.Common.{◌≡◌, ◌∙◌, ℕ, pos, negsuc, List, [], ◌∷◌, ◌++◌, Option, Some, None, option_map, option_and_then, refl, sym, ap}
use Rattle.std.proofs.Common.{subst}
use Rattle.tsa_base.specs.declared.value.Value.{Value}
use Rattle.tsa_base.specs.declared.value.Value.TheVariants.{Int, Unsigned, Pointer}
use Rattle.tsa_base.proofs.Options.{some_same as the_same}
use Rattle.tsa_place_model.specs.Ways.{Way, from}
use Rattle.tsa_place_model.specs.declared.path.Root.{Root}
use Rattle.tsa_place_model.specs.declared.path.Root.TheVariants.{Global, Local, Owner}
use Rattle.tsa_place_model.specs.declared.path.PathStep.{PathStep}
use Rattle.tsa_place_model.specs.declared.path.PathStep.TheVariants.{Field, Constant, Variable, Follow}
use Rattle.tsa_place_model.specs.declared.spot.Spot.{Spot}
use Rattle.tsa_place_model.specs.declared.spot.Spot.TheVariants.{Place, Holds}
use Rattle.tsa_place_model.specs.Calls.{Layout, element_place, index_in, pointee, place_in, take_root, take_step, take_steps}
use Rattle.tsa_path.specs.Substitution.{given, index_step, as_index, pointed_way, as_pointer, step_in, before, steps_in, further, in_caller}
use Rattle.tsa_path.specs.Laws.{IsValue, IsSameValue, IsSmall, bits, Locals, IsHeld, IsPassed, Suits, SubstitutionKeepsTheMeaning}
use Rattle.tsa_path.proofs.Elements.{by_bits, same_elements}

nothing : {A : Type 0} {x : A} {B : Type 0} → None ≡ Some x → B
nothing e = cc

-- steps one after another
pub steps_after : (l : Layout) (locals : Locals) (first rest : List PathStep) (spot : Option Spot)
    → take_steps l locals (first ++ rest) spot ≡ take_steps l locals rest (take_steps l locals first spot)
steps_after l locals [] rest spot = refl
steps_after l locals (step ∷ first) rest spot = steps_after l locals first rest (option_and_then (take_step l locals step) spot)

-- the parts of what is there
record Both (first : Option PathStep) (rest : Option (List PathStep)) (all : List PathStep) : Type 0 where
  pub step : PathStep
  pub steps : List PathStep
  pub step_is : first ≡ Some step
  pub steps_are : rest ≡ Some steps
  pub all_are : step ∷ steps ≡ all

both : (first : Option PathStep) (rest : Option (List PathStep)) (all : List PathStep) → before first rest ≡ Some all → Both first rest all
both None rest all e = nothing e
both (Some step) None all e = nothing e
both (Some step) (Some steps) all e = record { step = step; steps = steps; step_is = refl; steps_are = refl; all_are = the_same e }

record Longer (w : Option Way) (rest : Option (List PathStep)) (after : Way) : Type 0 where
  pub way : Way
  pub steps : List PathStep
  pub way_is : w ≡ Some way
  pub steps_are : rest ≡ Some steps
  pub after_is : record { root = way.root; steps = way.steps ++ steps } ≡ after

longer : (w : Option Way) (rest : Option (List PathStep)) (after : Way) → further w rest ≡ Some after → Longer w rest after
longer None rest after e = nothing e
longer (Some w) None after e = nothing e
longer (Some w) (Some steps) after e = record { way = w; steps = steps; way_is = refl; steps_are = refl; after_is = the_same e }

-- one pointer has one place
same_pointee : (v w : Value) → IsSameValue v w → pointee v ≡ pointee w
same_pointee (Pointer p) (Pointer q) e = ap (λ o. option_map Place o) e
same_pointee (Pointer p) (Int (pos n)) e = nothing e
same_pointee (Pointer p) (Int (negsuc n)) e = nothing e
same_pointee (Pointer p) (Unsigned n) e = nothing e
same_pointee (Int (pos n)) (Pointer q) e = nothing (sym e)
same_pointee (Int (negsuc n)) (Pointer q) e = nothing (sym e)
same_pointee (Unsigned n) (Pointer q) e = nothing (sym e)
same_pointee (Int m) (Int n) e = refl
same_pointee (Int m) (Unsigned n) e = refl
same_pointee (Unsigned m) (Int n) e = refl
same_pointee (Unsigned m) (Unsigned n) e = refl

same_bits : (v w : Value) → IsSameValue v w → bits v ≡ bits w
same_bits (Pointer p) (Pointer q) e = refl
same_bits (Pointer p) (Int n) e = e
same_bits (Pointer p) (Unsigned n) e = e
same_bits (Int (pos m)) w e = e
same_bits (Int (negsuc m)) w e = e
same_bits (Unsigned m) w e = e

module _ (l : Layout) (caller callee : Locals) (owner : Option ℕ) (args : List (Option Way)) (small : IsSmall l) (suits : Suits l caller owner args callee) where
  abbrev Same : PathStep → PathStep → Type 0
  Same s t = (spot : Option Spot) → option_and_then (take_step l callee s) spot ≡ option_and_then (take_step l caller t) spot

  field_same : (k : ℕ) → Same (Field k) (Field k)
  field_same k None = refl
  field_same k (Some (Place place)) = refl
  field_same k (Some (Holds v)) = refl

  constant_same : (k : ℕ) → Same (Constant k) (Constant k)
  constant_same k None = refl
  constant_same k (Some (Place place)) = refl
  constant_same k (Some (Holds v)) = refl

  follow_same : Same Follow Follow
  follow_same None = refl
  follow_same (Some (Place place)) = refl
  follow_same (Some (Holds v)) = refl

  -- an index that the callee holds is the one that the caller gives
  abbrev At : ℕ → Value → Option ℕ
  At place v = option_and_then (element_place l place) (index_in v)

  held_same : (i n : ℕ) (v : Value) → callee i ≡ Some v → IsValue v → (o : Option Value) → caller n ≡ o → IsHeld o v → Same (Variable i) (Variable n)
  held_same i n v e hv None f h spot = absurd h
  held_same i n v e hv (Some w) f h None = refl
  held_same i n v e hv (Some w) f h (Some (Holds u)) = refl
  held_same i n v e hv (Some w) f h (Some (Place place)) =
      ap (λ o. option_map Place (option_and_then (element_place l place) (option_and_then index_in o))) e
      ∙ ap (option_map Place) (sym (same_elements l w v place small h.0 hv (same_bits w v h.1)))
      ∙ sym (ap (λ o. option_map Place (option_and_then (element_place l place) (option_and_then index_in o))) f)

  number_same : (i k : ℕ) (v : Value) → callee i ≡ Some v → IsValue v → bits v ≡ Some k → Same (Variable i) (Constant k)
  number_same i k v e hv b None = refl
  number_same i k v e hv b (Some (Holds u)) = refl
  number_same i k v e hv b (Some (Place place)) =
      ap (λ o. option_map Place (option_and_then (element_place l place) (option_and_then index_in o))) e
      ∙ ap (option_map Place) (by_bits l place small v k hv b)

  index_same : (i : ℕ) (t : PathStep) (v : Value) → callee i ≡ Some v → IsValue v → (root : Root) (steps : List PathStep) → IsPassed l caller owner root steps v
      → index_step root steps ≡ Some t → Same (Variable i) t
  index_same i t v e hv (Local n) [] h k = subst (Same (Variable i)) (the_same k) (held_same i n v e hv (caller n) refl h)
  index_same i t v e hv Owner (Constant n ∷ []) h k = subst (Same (Variable i)) (the_same k) (number_same i n v e hv h)
  index_same i t v e hv (Global n) steps h k = nothing k
  index_same i t v e hv (Local n) (step ∷ steps) h k = nothing k
  index_same i t v e hv Owner [] h k = nothing k
  index_same i t v e hv Owner (Constant n ∷ step ∷ steps) h k = nothing k
  index_same i t v e hv Owner (Field n ∷ steps) h k = nothing k
  index_same i t v e hv Owner (Variable n ∷ steps) h k = nothing k
  index_same i t v e hv Owner (Follow ∷ steps) h k = nothing k

  variable_same : (i : ℕ) (t : PathStep) (o : Option Way) → given args i ≡ o → option_and_then as_index o ≡ Some t → Same (Variable i) t
  variable_same i t None e k = nothing k
  variable_same i t (Some w) e k = let s = suits i w e in index_same i t s.0 s.1 s.2 w.root w.steps s.3 k

  step_same : (s t : PathStep) → step_in args s ≡ Some t → Same s t
  step_same (Field k) t e = subst (Same (Field k)) (the_same e) (field_same k)
  step_same (Constant k) t e = subst (Same (Constant k)) (the_same e) (constant_same k)
  step_same Follow t e = subst (Same Follow) (the_same e) follow_same
  step_same (Variable i) t e = variable_same i t (given args i) refl e

  steps_same : (steps after : List PathStep) → steps_in args steps ≡ Some after → (spot : Option Spot) → take_steps l callee steps spot ≡ take_steps l caller after spot
  steps_same [] after e spot = ap (λ a. take_steps l caller a spot) (the_same e)
  steps_same (s ∷ steps) after e spot =
      let b = both (step_in args s) (steps_in args steps) after e in
      steps_same steps b.steps b.steps_are (option_and_then (take_step l callee s) spot)
      ∙ ap (take_steps l caller b.steps) (step_same s b.step b.step_is spot)
      ∙ ap (λ a. take_steps l caller a spot) b.all_are

  -- where a way leads in the caller
  abbrev Led : Way → Option Spot
  Led w = take_steps l caller w.steps (take_root l caller owner w.root)

  behind : (w : Option Way) (steps : List PathStep) (after : Way) (spot : Option Spot) → ((x : Way) → w ≡ Some x → Led x ≡ spot) → further w (steps_in args steps) ≡ Some after
      → take_steps l callee steps spot ≡ Led after
  behind w steps after spot begins e =
      let b = longer w (steps_in args steps) after e in
      steps_same steps b.steps b.steps_are spot
      ∙ ap (take_steps l caller b.steps) (sym (begins b.way b.way_is))
      ∙ sym (steps_after l caller b.way.steps b.steps (take_root l caller owner b.way.root))
      ∙ ap Led b.after_is

  kept_root : (root : Root) (steps : List PathStep) (after : Way) → take_root l callee owner root ≡ take_root l caller owner root
      → further (Some (from root)) (steps_in args steps) ≡ Some after → take_steps l callee steps (take_root l callee owner root) ≡ Led after
  kept_root root steps after same e = behind (Some (from root)) steps after (take_root l callee owner root) (λ x k. ap Led (sym (the_same k)) ∙ sym same) e

  -- where an argument points is where the callee's local does
  held_points : (n : ℕ) (v : Value) (o : Option Value) → caller n ≡ o → IsHeld o v → option_and_then (take_step l caller Follow) (option_map Holds (caller n)) ≡ pointee v
  held_points n v None f h = absurd h
  held_points n v (Some w) f h = ap (λ o. option_and_then (take_step l caller Follow) (option_map Holds o)) f ∙ same_pointee w v h.1

  pointer_points : (v : Value) (x : Way) (root : Root) (steps : List PathStep) → IsPassed l caller owner root steps v → pointed_way root steps ≡ Some x → Led x ≡ pointee v
  pointer_points v x (Local n) [] h k = ap Led (sym (the_same k)) ∙ held_points n v (caller n) refl h
  pointer_points v x Owner (Constant n ∷ []) h k = nothing k
  pointer_points v x (Global n) steps h k = ap Led (sym (the_same k)) ∙ h
  pointer_points v x (Local n) (step ∷ steps) h k = ap Led (sym (the_same k)) ∙ h
  pointer_points v x Owner [] h k = ap Led (sym (the_same k)) ∙ h
  pointer_points v x Owner (Constant n ∷ step ∷ steps) h k = ap Led (sym (the_same k)) ∙ h
  pointer_points v x Owner (Field n ∷ steps) h k = ap Led (sym (the_same k)) ∙ h
  pointer_points v x Owner (Variable n ∷ steps) h k = ap Led (sym (the_same k)) ∙ h
  pointer_points v x Owner (Follow ∷ steps) h k = ap Led (sym (the_same k)) ∙ h

  abbrev followed : ℕ → Option Spot
  followed i = option_and_then (take_step l callee Follow) (option_map Holds (callee i))

  argument_points : (i : ℕ) (x : Way) (o : Option Way) → given args i ≡ o → option_and_then as_pointer o ≡ Some x → Led x ≡ followed i
  argument_points i x None e k = nothing k
  argument_points i x (Some w) e k =
      let s = suits i w e in
      pointer_points s.0 x w.root w.steps s.3 k
      ∙ sym (ap (λ o. option_and_then (take_step l callee Follow) (option_map Holds o)) s.1)

  way_same : (root : Root) (steps : List PathStep) (after : Way) → in_caller args root steps ≡ Some after → take_steps l callee steps (take_root l callee owner root) ≡ Led after
  way_same (Global n) steps after e = kept_root (Global n) steps after refl e
  way_same Owner steps after e = kept_root Owner steps after refl e
  way_same (Local i) (Follow ∷ steps) after e =
      behind (option_and_then as_pointer (given args i)) steps after (followed i) (λ x k. argument_points i x (given args i) refl k) e
  way_same (Local i) [] after e = nothing e
  way_same (Local i) (Field k ∷ steps) after e = nothing e
  way_same (Local i) (Constant k ∷ steps) after e = nothing e
  way_same (Local i) (Variable k ∷ steps) after e = nothing e

pub keeps_the_meaning : SubstitutionKeepsTheMeaning
keeps_the_meaning l caller callee owner args path after small suits e = ap (option_and_then place_in) (way_same l caller callee owner args small suits path.root path.steps after e)
