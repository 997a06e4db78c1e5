-- What is worked out is where its path leads.
use Rattle.std.proofs.Common.{◌≡◌, ◌∙◌, ℕ, pos, negsuc, Bool, true, false, List, [], ◌∷◌, ◌++◌, Option, Some, None, Result, Ok, Err}
use Rattle.std.proofs.Common.{option_map, option_and_then, if◌then◌else◌, refl, ap, sym, subst}
use Rattle.tsa_base.specs.declared.value.Value.{Value}
use Rattle.tsa_base.specs.declared.value.Value.TheVariants.{Int, Unsigned, Pointer}
use Rattle.tsa_tree.specs.declared.number.Number.{Number}
use Rattle.tsa_tree.specs.declared.number.Number.TheVariants as numeral
use Rattle.tsa_tree.specs.declared.number.Trap.{Trap}
use Rattle.tsa_tree.specs.types.Constants.{without_trap}
use Rattle.tsa_place_model.specs.declared.spot.Spot.{Spot}
use Rattle.tsa_place_model.specs.declared.spot.Spot.TheVariants.{Place}
use Rattle.tsa_place_model.specs.Ways.{Way, onward}
use Rattle.tsa_place_model.specs.declared.path.PathStep.{PathStep}
use Rattle.tsa_place_model.specs.declared.path.PathStep.TheVariants.{Field, Variable}
use Rattle.tsa_place_model.specs.Calls.{Layout, element_place, global_place, index_in, member_place, pointee, take_root, take_step}
use Rattle.tsa_place_model.specs.Calls.{take_steps}
use Rattle.tsa_core.specs.Kinds.{Setting}
use Rattle.tsa_core.specs.Meanings.{of_number}
use Rattle.tsa_core.specs.Terms.{Term, constant, variable, answer, global, member, element, target, load, address, converted, prefixed}
use Rattle.tsa_core.specs.Terms.{joined}
use Rattle.tsa_rules.specs.Conditions.{constant_in, constant_result, is_constant}
use Rattle.tsa_path.specs.Values.{at_index, pointed_place}
use Rattle.tsa_sched.specs.declared.event.TrapKind.{TrapKind}
use Rattle.tsa_sched.specs.declared.event.TrapKind.TheVariants as trap
use Rattle.tsa_mean.specs.Outs.{Out, traps, reads, yields, bind, or_trap}
use Rattle.tsa_mean.specs.WorthLaws.{values}
use Rattle.tsa_mean.specs.Working.{Locals, local_at, lvalue, rvalue}
use Rattle.tsa_sound.specs.PartlyWorked.{IsWorked, PointsAlong, constant_step, further, index_by, index_step, local_way, place_way}
use Rattle.tsa_sound.specs.PartlyWorked.{target_way}
use Rattle.tsa_sound.proofs.Constants.{Matches, constant_as_written, constants_match}
use Rattle.tsa_sound.proofs.Tests.{never_yields, none_is_some, read_yields, same_some, same_yields}

-- one after the other
pub bound : {A B : Type 0} (out : Out A) (f : A → Out B) (b : B) → bind out f ≡ yields b → (a : A) × (out ≡ yields a) × (f a ≡ yields b)
bound (yields a) f b e = (a, refl, e)
bound (traps kind) f b e = never_yields e
bound (reads place) f b e = read_yields e

pub found_some : {A : Type 0} (kind : TrapKind) (o : Option A) (a : A) → or_trap kind o ≡ yields a → o ≡ Some a
found_some kind None a e = never_yields e
found_some kind (Some b) a e = ap Some (same_yields e)

module _ (l : Layout) (locals : Locals) where
  abbrev pub spot_of : Way → Option Spot
  spot_of w = take_steps l (values locals) w.steps (take_root l (values locals) None w.root)

  -- a place is where its path leads, where it has one
  abbrev pub StandsAlong : Option Way → ℕ → Type 0
  StandsAlong None place = Unit {0}
  StandsAlong (Some w) place = spot_of w ≡ Some (Place place)

  pub steps_behind : (xs ys : List PathStep) (s : Option Spot) → take_steps l (values locals) (xs ++ ys) s ≡ take_steps l (values locals) ys (take_steps l (values locals) xs s)
  steps_behind [] ys s = refl
  steps_behind (x ∷ xs) ys s = steps_behind xs ys (option_and_then (take_step l (values locals) x) s)

  pub one_more : (w : Way) (step : PathStep) → spot_of (onward step w) ≡ option_and_then (take_step l (values locals) step) (spot_of w)
  one_more w step = steps_behind w.steps (step ∷ []) (take_root l (values locals) None w.root)

  -- a step from a place that is known
  further_stands : (w : Option Way) (step : PathStep) (from to : ℕ) → StandsAlong w from → take_step l (values locals) step (Place from) ≡ Some (Place to)
      → StandsAlong (further w (Some step)) to
  further_stands None step from to is e = tt
  further_stands (Some w) step from to is e = one_more w step ∙ ap (option_and_then (take_step l (values locals) step)) is ∙ e

  element_stands : (w : Option Way) (step : Option PathStep) (from to : ℕ) → StandsAlong w from
      → ((s : PathStep) → step ≡ Some s → take_step l (values locals) s (Place from) ≡ Some (Place to)) → StandsAlong (further w step) to
  element_stands None None from to is each = tt
  element_stands None (Some s) from to is each = tt
  element_stands (Some w) None from to is each = tt
  element_stands (Some w) (Some s) from to is each = further_stands (Some w) s from to is (each s refl)

  indexed : (from to : ℕ) (i : Option ℕ) → at_index l (Some from) i ≡ Some to → option_and_then (element_place l from) i ≡ Some to
  indexed from to None e = none_is_some e
  indexed from to (Some n) e = e

  pointed : (v : Value) (place : ℕ) → pointed_place v ≡ Some place → pointee v ≡ Some (Place place)
  pointed (Pointer p) place e = ap (option_map Place) e
  pointed (Int z) place e = none_is_some e
  pointed (Unsigned n) place e = none_is_some e

module _ (k : Setting) (stable : ℕ → Bool) (locals : Locals) where
  abbrev Worked : Term → Term → Type 0
  Worked x y = IsWorked k stable locals x y

  -- the step by an index leads to the element of that index
  constant_stands : (number : Number) (s : PathStep) (from to : ℕ) → constant_step number ≡ Some s
      → at_index k.layout (Some from) (index_in (of_number number)) ≡ Some to → take_step k.layout (values locals) s (Place from) ≡ Some (Place to)
  constant_stands (numeral.Int (pos n)) s from to e is =
      subst (λ s. take_step k.layout (values locals) s (Place from) ≡ Some (Place to)) (same_some e) (ap (option_map Place) is)
  constant_stands (numeral.Int (negsuc n)) s from to e is = none_is_some e
  constant_stands (numeral.Unsigned n) s from to e is =
      subst (λ s. take_step k.layout (values locals) s (Place from) ≡ Some (Place to)) (same_some e) (ap (option_map Place) is)

  -- a constant index is worked out to its number
  pub constant_value : (x y : Term) (number : Number) (v : Value) (c : Bool) → is_constant x ≡ c → (r : Result Number Trap) → constant_result x ≡ r
      → (if c then without_trap r else None) ≡ Some number → Worked x y → rvalue k.layout locals y ≡ yields v → v ≡ of_number number
  constant_value x y number v false is_c r is e worked value = none_is_some e
  constant_value x y number v true is_c (Err why) is e worked value = none_is_some e
  constant_value x y number v true is_c (Ok n) is e worked value =
      matched (rvalue k.layout locals x) (subst (Matches (rvalue k.layout locals x)) is (constants_match k.layout locals x is_c))
      (ap (rvalue k.layout locals) (constant_as_written k stable locals x y is_c worked) ∙ value)
      ∙ ap of_number (same_some e)
    where
      matched : (out : Out Value) → Matches out (Ok n) → out ≡ yields v → v ≡ of_number n
      matched (yields w) m is = sym (same_yields is) ∙ m
      matched (traps kind) m is = absurd m
      matched (reads place) m is = absurd m

  local_stands : (n : ℕ) (y : Term) (b : Bool) (s : PathStep) (v : Value) (from to : ℕ) → (if b then Some (Variable n) else None) ≡ Some s → Worked (variable n) y
      → rvalue k.layout locals y ≡ yields v → at_index k.layout (Some from) (index_in v) ≡ Some to → take_step k.layout (values locals) s (Place from) ≡ Some (Place to)
  local_stands n y false s v from to e worked value is = none_is_some e
  local_stands n (variable m) true s v from to e worked value is =
      let v_is : v ≡ local_at locals n = sym (same_yields value) ∙ ap (local_at locals) (sym worked) in
      subst (λ s. take_step k.layout (values locals) s (Place from) ≡ Some (Place to)) (same_some e)
      (ap (option_map Place) (indexed k.layout locals from to (index_in (local_at locals n)) (ap (λ v. at_index k.layout (Some from) (index_in v)) (sym v_is) ∙ is)))
  local_stands n y true s v from to e worked value is = absurd worked

  index_stands : (x y : Term) (number : Option Number) → constant_in x ≡ number → (s : PathStep) (v : Value) (from to : ℕ) → index_by stable x number ≡ Some s → Worked x y
      → rvalue k.layout locals y ≡ yields v → at_index k.layout (Some from) (index_in v) ≡ Some to → take_step k.layout (values locals) s (Place from) ≡ Some (Place to)
  index_stands x y (Some n) is s v from to e worked value there =
      constant_stands n s from to e (ap (λ v. at_index k.layout (Some from) (index_in v)) (sym (constant_value x y n v (is_constant x) refl (constant_result x) refl is worked value)) ∙ there)
  index_stands (variable n) y None is s v from to e worked value there = local_stands n y (stable n) s v from to e worked value there
  index_stands x y None is s v from to e worked value there = none_is_some e

  local_points : (b : Bool) (n : ℕ) → PointsAlong k.layout locals (local_way b n) (local_at locals n)
  local_points true n = refl
  local_points false n = tt

  along : (w : Option Way) (v : Value) (p : ℕ) → PointsAlong k.layout locals w v → pointed_place v ≡ Some p → StandsAlong k.layout locals w p
  along None v p is e = tt
  along (Some w) v p is e = is ∙ pointed k.layout locals v p e

  as_pointer : (w : Option Way) (p : ℕ) → StandsAlong k.layout locals w p → PointsAlong k.layout locals w (Pointer (Some p))
  as_pointer None p is = tt
  as_pointer (Some w) p is = is

  mutual
    -- a place that is worked out stands where its path leads
    pub place_stands : (x y : Term) (p : ℕ) → Worked x y → lvalue k.layout locals y ≡ yields p → StandsAlong k.layout locals (place_way stable x) p
    place_stands (global m) (global n) p is e =
        ap (option_map Place) (ap (global_place k.layout) is ∙ found_some trap.NullPointer (global_place k.layout n) p e)
    place_stands (member s m) (member t n) p is e =
        let part = bound (lvalue k.layout locals t) (λ place. or_trap trap.NullPointer (member_place k.layout place n)) p e in
        further_stands k.layout locals (place_way stable s) (Field m) part.0 p (place_stands s t part.0 is.1 part.1)
        (ap (option_map Place) (ap (member_place k.layout part.0) is.0 ∙ found_some trap.NullPointer (member_place k.layout part.0 n) p part.2))
    place_stands (element a b) (element c d) p is e =
        let part = bound (lvalue k.layout locals c) (λ place. bind (rvalue k.layout locals d) (λ v. or_trap trap.OutOfRange (at_index k.layout (Some place) (index_in v)))) p e in
        let index = bound (rvalue k.layout locals d) (λ v. or_trap trap.OutOfRange (at_index k.layout (Some part.0) (index_in v))) p part.2 in
        element_stands k.layout locals (place_way stable a) (index_step stable b) part.0 p (place_stands a c part.0 is.0 part.1)
        (λ s step. index_stands b d (constant_in b) refl s index.0 part.0 p step is.1 index.1
        (found_some trap.OutOfRange (at_index k.layout (Some part.0) (index_in index.0)) p index.2))
    place_stands (target s) (target t) p is e =
        let part = bound (rvalue k.layout locals t) (λ v. or_trap trap.NullPointer (pointed_place v)) p e in
        along (target_way stable s) part.0 p (value_points s t part.0 is part.1) (found_some trap.NullPointer (pointed_place part.0) p part.2)
    place_stands (constant v) y p is e = tt
    place_stands (variable n) y p is e = tt
    place_stands answer y p is e = tt
    place_stands (load m s) y p is e = tt
    place_stands (address s) y p is e = tt
    place_stands (converted m s) y p is e = tt
    place_stands (prefixed o s) y p is e = tt
    place_stands (joined o a b) y p is e = tt
    place_stands x y p is e = absurd is

    -- a pointer that is worked out points where its path leads
    pub value_points : (x y : Term) (v : Value) → Worked x y → rvalue k.layout locals y ≡ yields v → PointsAlong k.layout locals (target_way stable x) v
    value_points (variable m) (variable n) v is e =
        subst (PointsAlong k.layout locals (local_way (stable m) m)) (ap (local_at locals) is ∙ same_yields e) (local_points (stable m) m)
    value_points (load m s) (load n t) v is e =
        let part = bound (lvalue k.layout locals t) (λ p. reads p) v e in read_yields part.2
    value_points (load m s) (constant w) v is e = subst (PointsAlong k.layout locals (target_way stable (load m s))) (same_yields e) is.1
    value_points (address s) (address t) v is e =
        let part = bound (lvalue k.layout locals t) (λ p. yields (Pointer (Some p))) v e in
        subst (PointsAlong k.layout locals (place_way stable s)) (same_yields part.2) (as_pointer (place_way stable s) part.0 (place_stands s t part.0 is part.1))
    value_points (constant w) y v is e = tt
    value_points answer y v is e = tt
    value_points (global n) y v is e = tt
    value_points (member s n) y v is e = tt
    value_points (element a b) y v is e = tt
    value_points (target s) y v is e = tt
    value_points (converted m s) y v is e = tt
    value_points (prefixed o s) y v is e = tt
    value_points (joined o a b) y v is e = tt
    value_points x y v is e = absurd is
