-- The guards of a place that is worked out are the locks to which the paths of its access lead.
use Rattle.std.proofs.Common.{◌≡◌, ◌∙◌, ℕ, Bool, true, List, [], ◌∷◌, ◌++◌, Option, Some, None, option_map, option_and_then, slice_get}
use Rattle.std.proofs.Common.{refl, ap, sym, subst}
use Rattle.std.specs.Prelude.{All}
use Rattle.tsa_base.specs.declared.value.Value.{Value}
use Rattle.tsa_place_model.specs.declared.spot.Spot.{Spot}
use Rattle.tsa_place_model.specs.declared.spot.Spot.TheVariants.{Place, Holds}
use Rattle.tsa_place_model.specs.declared.place.Guard.{Guard}
use Rattle.tsa_place_model.specs.declared.place.Guard.TheVariants.{Lock, Nothing}
use Rattle.tsa_tree.specs.declared.kind.Kind.{Kind}
use Rattle.tsa_tree.specs.declared.kind.ThingType.{ThingType}
use Rattle.tsa_place_model.specs.Ways.{Way}
use Rattle.tsa_place_model.specs.declared.path.PathStep.{PathStep}
use Rattle.tsa_place_model.specs.declared.path.PathStep.TheVariants.{Field, Constant, Variable, Follow}
use Rattle.tsa_place_model.specs.declared.path.Root.{Root}
use Rattle.tsa_place_model.specs.declared.path.Root.TheVariants.{Global, Local, Owner}
use Rattle.tsa_place_model.specs.Calls.{Layout, evaluated, global_place, guard_by, guards_by, guards_of, index_in, member_place, no_locals}
use Rattle.tsa_place_model.specs.Calls.{part_guards, place_in, take_root, take_step, take_steps}
use Rattle.tsa_core.specs.Kinds.{Setting, member_thing, place_type, struct_in, value_kind, within}
use Rattle.tsa_place_model.specs.Layouts.{Part, structure_at}
use Rattle.tsa_place_model.specs.Stores.{is_value_of}
use Rattle.tsa_core.specs.Terms.{Term, constant, variable, answer, global, member, element, target, load, address, converted, prefixed}
use Rattle.tsa_core.specs.Terms.{joined}
use Rattle.tsa_core.specs.Uses.{guards_owned, owned_by}
use Rattle.tsa_path.specs.Values.{at_index}
use Rattle.tsa_sched.specs.declared.event.TrapKind.TheVariants as trap
use Rattle.tsa_mean.specs.Outs.{bind, or_trap, yields}
use Rattle.tsa_mean.specs.WorthLaws.{values}
use Rattle.tsa_mean.specs.Working.{Locals, local_at, lvalue, rvalue}
use Rattle.tsa_mean.proofs.Lists.{all_none}
use Rattle.tsa_sound.specs.LaidOut.{AreLocalFree, IsLocalFree, IsLocalFreeStep, LaidOut}
use Rattle.tsa_sound.specs.PartlyWorked.{IsWorked, guard_ways, guards_in, place_way}
use Rattle.tsa_sound.specs.TermFacts.{TermFits}
use Rattle.tsa_sound.proofs.Lists.{all_both, all_left, all_mapped, all_right, all_unmapped}
use Rattle.tsa_sound.proofs.PlacesStand.{chained, indexed_is, mapped, place_stands_as, struct_is}
use Rattle.tsa_sound.proofs.Says.{StandsAlong, bound, found_some, place_stands, steps_behind}
use Rattle.tsa_sound.proofs.Tests.{none_is_some}

-- a path without locals leads to the same place whatever they are
module _ (l : Layout) (one other : ℕ → Option Value) where
  free_step : (step : PathStep) → IsLocalFreeStep step → (s : Spot) → take_step l one step s ≡ take_step l other step s
  free_step (Field k) is (Place p) = refl
  free_step (Constant k) is (Place p) = refl
  free_step Follow is (Place p) = refl
  free_step (Field k) is (Holds v) = refl
  free_step (Constant k) is (Holds v) = refl
  free_step Follow is (Holds v) = refl
  free_step (Variable n) is s = absurd is

  free_some : (step : PathStep) → IsLocalFreeStep step → (s : Option Spot) → option_and_then (take_step l one step) s ≡ option_and_then (take_step l other step) s
  free_some step is None = refl
  free_some step is (Some s) = free_step step is s

  pub free_steps : (steps : List PathStep) → AreLocalFree steps → (s : Option Spot) → take_steps l one steps s ≡ take_steps l other steps s
  free_steps [] are s = refl
  free_steps (step ∷ rest) are s = free_steps rest are.1 (option_and_then (take_step l one step) s) ∙ ap (take_steps l other rest) (free_some step are.0 s)

module _ (l : Layout) (locals : Locals) (P : ℕ → Type 0) where
  -- a guard of an access leads to such a lock, and a guard of a place is one
  abbrev pub GuardHolds : Option Way → Type 0
  GuardHolds None = ⊥
  GuardHolds (Some c) = (lock : ℕ) × (evaluated l (values locals) None c ≡ Some lock) × P lock

  abbrev pub IsGuard : Guard → Type 0
  IsGuard Nothing = ⊥
  IsGuard (Lock lock) = P lock

  declared_holds : (owner : Option ℕ) (w : Option Way) (lock : ℕ) → option_and_then (evaluated l no_locals owner) w ≡ Some lock → P lock → IsGuard (guard_by l owner w)
  declared_holds owner w lock e h = rw e h

  nothing_steps : (steps : List PathStep) → take_steps l (values locals) steps None ≡ None
  nothing_steps [] = refl
  nothing_steps (step ∷ rest) = nothing_steps rest

  by_root : (root : Root) (steps : List PathStep) (owner : Option ℕ) (lock : ℕ) → IsLocalFree (Some (record { root = root; steps = steps }))
      → evaluated l (values locals) None (record { root = root; steps = steps }) ≡ Some lock → evaluated l no_locals owner (record { root = root; steps = steps }) ≡ Some lock
  by_root (Global n) steps owner lock free e =
      ap (option_and_then place_in) (sym (free_steps l (values locals) no_locals steps free.1 (option_map Place (global_place l n)))) ∙ e
  by_root (Local n) steps owner lock free e = absurd free.0
  by_root Owner steps owner lock free e = none_is_some (sym (ap (option_and_then place_in) (nothing_steps steps)) ∙ e)

  -- the guards of a global
  global_holds : (w : Option Way) → GuardHolds w → IsLocalFree w → IsGuard (guard_by l None w)
  global_holds None holds free = absurd holds
  global_holds (Some c) holds free = declared_holds None (Some c) holds.0 (by_root c.root c.steps None holds.0 free holds.1) holds.2

  -- the guards of a member of an object that stands where its path leads
  module _ (o : Option Way) (owner : ℕ) (stands : StandsAlong l locals o owner) where
    behind : (b : Way) (steps : List PathStep) (lock : ℕ) → take_steps l (values locals) b.steps (take_root l (values locals) None b.root) ≡ Some (Place owner) → AreLocalFree steps
        → evaluated l (values locals) None (record { root = b.root; steps = b.steps ++ steps }) ≡ Some lock → evaluated l no_locals (Some owner) (record { root = Owner; steps = steps }) ≡ Some lock
    behind b steps lock is free e =
        ap (option_and_then place_in) (sym (free_steps l (values locals) no_locals steps free (Some (Place owner))))
        ∙ sym (ap (option_and_then place_in) (steps_behind l locals b.steps steps (take_root l (values locals) None b.root) ∙ ap (take_steps l (values locals) steps) is)) ∙ e

    of_object : (root : Root) (steps : List PathStep) (o : Option Way) → StandsAlong l locals o owner → GuardHolds (owned_by o (record { root = root; steps = steps }))
        → IsLocalFree (Some (record { root = root; steps = steps })) → IsGuard (guard_by l (Some owner) (Some (record { root = root; steps = steps })))
    of_object (Global n) steps o is holds free = declared_holds (Some owner) (Some (record { root = Global n; steps = steps })) holds.0 (by_root (Global n) steps (Some owner) holds.0 free holds.1) holds.2
    of_object (Local n) steps o is holds free = absurd free.0
    of_object Owner steps None is holds free = absurd holds
    of_object Owner steps (Some b) is holds free = declared_holds (Some owner) (Some (record { root = Owner; steps = steps })) holds.0 (behind b steps holds.0 is free.1 holds.1) holds.2

    member_holds : (w : Option Way) → GuardHolds (option_and_then (owned_by o) w) → IsLocalFree w → IsGuard (guard_by l (Some owner) w)
    member_holds None holds free = absurd holds
    member_holds (Some d) holds free = of_object d.root d.steps o stands holds free

  pub global_all : (ways : List (Option Way)) → All GuardHolds ways → All IsLocalFree ways → All IsGuard (guards_by l None ways)
  global_all ways holds free = all_mapped GuardHolds IsLocalFree IsGuard (guard_by l None) global_holds ways holds free

  pub member_all : (o : Option Way) (owner : ℕ) → StandsAlong l locals o owner → (ways : List (Option Way)) → All GuardHolds (guards_owned o ways) → All IsLocalFree ways
      → All IsGuard (guards_by l (Some owner) ways)
  member_all o owner stands ways holds free =
      all_mapped (λ w. GuardHolds (option_and_then (owned_by o) w)) IsLocalFree IsGuard (guard_by l (Some owner)) (member_holds o owner stands) ways
      (all_unmapped GuardHolds (option_and_then (owned_by o)) ways holds) free

module _ (k : Setting) (stable : ℕ → Bool) (locals : Locals) (laid : LaidOut k.layout)
    (typed : (n : ℕ) (kind : Kind) → k.locals n ≡ Some kind → is_value_of k.layout kind (local_at locals n) ≡ true) (P : ℕ → Type 0) where
  abbrev Worked : Term → Term → Type 0
  Worked x y = IsWorked k stable locals x y

  abbrev AllHold : Term → Type 0
  AllHold x = All (GuardHolds k.layout locals P) (guard_ways k stable x)

  abbrev AllGuard : ℕ → Type 0
  AllGuard p = All (IsGuard k.layout locals P) (guards_of k.layout p)

  member_guarded : (s : Term) (m p from : ℕ) (t base : ThingType) → place_type k s ≡ Some base → member_thing k.layout m base ≡ Some t
      → (struct : ℕ) (part : Part) → struct_in base ≡ Some struct → slice_get (structure_at k.layout.structs struct).members m ≡ Some part
      → guards_of k.layout p ≡ guards_of k.layout from ++ guards_by k.layout (Some from) part.guards → StandsAlong k.layout locals (place_way stable s) from
      → AllHold (member s m) → (AllHold s → AllGuard from) → AllGuard p
  member_guarded s m p from t base type thing struct part is_struct is_part guards stands holds outer =
      subst (All (IsGuard k.layout locals P)) (sym guards)
      (all_both (IsGuard k.layout locals P) (guards_of k.layout from) (guards_by k.layout (Some from) part.guards)
      (outer (all_left (GuardHolds k.layout locals P) (guard_ways k stable s) inner holds))
      (member_all k.layout locals P (place_way stable s) from stands part.guards
      (subst (All (GuardHolds k.layout locals P)) own (all_right (GuardHolds k.layout locals P) (guard_ways k stable s) inner holds))
      (laid.member_free struct m part is_part)))
    where
      inner : List (Option Way)
      inner = guards_in k.layout (place_way stable s) m (option_and_then struct_in (place_type k s))

      own : guards_in k.layout (place_way stable s) m (option_and_then struct_in (place_type k s)) ≡ guards_owned (place_way stable s) part.guards
      own = ap (guards_in k.layout (place_way stable s) m) (ap (option_and_then struct_in) type ∙ is_struct) ∙ ap (λ g. guards_owned (place_way stable s) (part_guards g)) is_part

  -- where the guards of an access lead to such locks, all guards of the place are such
  pub guarded : (x y : Term) (t : ThingType) (p : ℕ) → TermFits k stable x → Worked x y → place_type k x ≡ Some t → lvalue k.layout locals y ≡ yields p → AllHold x → AllGuard p
  guarded (global m) (global n) t p fits is type e holds =
      let part = mapped (λ part. part.thing) (slice_get k.layout.globals m) t type in
      let place = ap (global_place k.layout) is ∙ found_some trap.NullPointer (global_place k.layout n) p e in
      subst (All (IsGuard k.layout locals P)) (sym (laid.global_guards m p part.0 part.1 place))
      (global_all k.layout locals P part.0.guards (subst (All (GuardHolds k.layout locals P)) (ap part_guards part.1) holds) (laid.global_free m part.0 part.1))
  guarded (member s m) (member u n) t p fits is type e holds =
      let base = chained (member_thing k.layout m) (place_type k s) t type in
      let at = bound (lvalue k.layout locals u) (λ place. or_trap trap.NullPointer (member_place k.layout place n)) p e in
      let part = mapped (λ m. within base.0 m.thing) (option_and_then (λ struct. slice_get (structure_at k.layout.structs struct).members m) (struct_in base.0)) t base.2 in
      let struct = chained (λ struct. slice_get (structure_at k.layout.structs struct).members m) (struct_in base.0) part.0 part.1 in
      let stands = place_stands_as k stable locals laid typed s u base.0 at.0 fits is.1 base.1 at.1 in
      let place = ap (member_place k.layout at.0) is.0 ∙ found_some trap.NullPointer (member_place k.layout at.0 n) p at.2 in
      member_guarded s m p at.0 t base.0 base.1 base.2 struct.0 part.0 struct.1 struct.2
      (laid.member_guards at.0 struct.0 m p stands.placed part.0 stands.there (stands.kind ∙ struct_is base.0 struct.0 struct.1) struct.2 place)
      (place_stands k stable locals s u at.0 is.1 at.1) holds (guarded s u base.0 at.0 fits is.1 base.1 at.1)
  guarded (element a b) (element c d) t p fits is type e holds =
      let whole = indexed_is (value_kind k b) (place_type k a) t type in
      let at = bound (lvalue k.layout locals c) (λ place. bind (rvalue k.layout locals d) (λ v. or_trap trap.OutOfRange (at_index k.layout (Some place) (index_in v)))) p e in
      let index = bound (rvalue k.layout locals d) (λ v. or_trap trap.OutOfRange (at_index k.layout (Some at.0) (index_in v))) p at.2 in
      same_guards at.0 p (index_in index.0) (found_some trap.OutOfRange (at_index k.layout (Some at.0) (index_in index.0)) p index.2)
      (guarded a c whole.whole at.0 fits.0 is.0 whole.is at.1 holds)
    where
      same_guards : (from p : ℕ) (i : Option ℕ) → at_index k.layout (Some from) i ≡ Some p → AllGuard from → AllGuard p
      same_guards from p None e all = none_is_some e
      same_guards from p (Some i) e all = subst (All (IsGuard k.layout locals P)) (sym (laid.element_guards from i p e)) all
  guarded (target s) (target u) t p fits is type e holds =
      let stands = place_stands_as k stable locals laid typed (target s) (target u) t p fits is type e in
      subst (All (IsGuard k.layout locals P)) (sym (laid.unguarded p stands.placed stands.there (stands.unguarded refl))) (all_none (IsGuard k.layout locals P))
  guarded (constant v) y t p fits is type e holds = none_is_some type
  guarded (variable n) y t p fits is type e holds = none_is_some type
  guarded answer y t p fits is type e holds = none_is_some type
  guarded (load m s) y t p fits is type e holds = none_is_some type
  guarded (address s) y t p fits is type e holds = none_is_some type
  guarded (converted m s) y t p fits is type e holds = none_is_some type
  guarded (prefixed o s) y t p fits is type e holds = none_is_some type
  guarded (joined o a b) y t p fits is type e holds = none_is_some type
  guarded x y t p fits is type e holds = absurd is
