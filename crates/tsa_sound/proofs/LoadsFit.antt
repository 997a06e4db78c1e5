-- What is read from a cell fits the load that reads it.
use Rattle.std.proofs.Common.{if◌then◌else◌, ◌≡◌, ◌∙◌, ℕ, Bool, true, false, not, ◌&&◌, ◌||◌, List, [], ◌∷◌, Option, Some, None, option_map}
use Rattle.std.proofs.Common.{option_and_then, is_some, slice_get, inl, inr, refl, ap, sym, subst}
use Rattle.tsa_tree.specs.declared.kind.Kind.{Kind}
use Rattle.tsa_tree.specs.declared.kind.ThingType.{ThingType}
use Rattle.tsa_place_model.specs.Ways.{Way}
use Rattle.tsa_place_model.specs.declared.path.PathStep.TheVariants.{Follow}
use Rattle.tsa_core.specs.Bodies.{Action, evaluate, set_local, set_cell, declare, test, branch, go_on, give}
use Rattle.tsa_place_model.specs.Calls.{global_place, index_in, initial_at, is_structure, member_place, pointee, take_step}
use Rattle.tsa_core.specs.Kinds.{Setting, cell_kind, if_so, member_thing, place_type, struct_in, value_kind, within}
use Rattle.tsa_place_model.specs.Layouts.{Part, structure_at}
use Rattle.tsa_core.specs.Meanings.{is_place}
use Rattle.tsa_place_model.specs.declared.place.Placed.{Placed}
use Rattle.tsa_place_model.specs.Stores.{IsWellTyped, Store, is_value_of}
use Rattle.tsa_core.specs.Terms.{Term, constant, variable, answer, global, member, element, target, load, address, converted, prefixed}
use Rattle.tsa_core.specs.Terms.{joined}
use Rattle.tsa_path.specs.ArgumentLaws.{KeepsConst}
use Rattle.tsa_path.specs.Values.{at_index}
use Rattle.tsa_sched.specs.declared.event.TrapKind.TheVariants as trap
use Rattle.tsa_mean.specs.Outs.{bind, or_trap, yields}
use Rattle.tsa_mean.specs.WorthLaws.{values}
use Rattle.tsa_mean.specs.Working.{Locals, local_at, lvalue, rvalue}
use Rattle.tsa_mean.specs.Frames.{right_of}
use Rattle.tsa_sound.specs.Facts.{RightFits}
use Rattle.tsa_sound.specs.LaidOut.{LaidOut}
use Rattle.tsa_sound.specs.PartlyWorked.{IsOfKind, IsWorked, PointsAlong, followed, place_way, target_way}
use Rattle.tsa_sound.specs.TermFacts.{AllFit, AllLoad, IsConstPart, IsDeclaredConst, LoadFits, Loads, TermFits, member_part}
use Rattle.tsa_sound.proofs.PlacesStand.{Stands, chained, indexed_is, mapped, place_stands_as, struct_is}
use Rattle.tsa_sound.proofs.Says.{StandsAlong, bound, found_some, one_more, place_stands}
use Rattle.tsa_sound.proofs.Tests.{none_is_some, same_some}

module _ (k : Setting) (stable : ℕ → Bool) where
  -- a load of a term fits, and so does its place
  pub load_fits : (x : Term) (b : Bool) (q : Term) → TermFits k stable x → Loads x b q → LoadFits k b q × TermFits k stable q
  load_fits (member base n) b q fits l = load_fits base b q fits l
  load_fits (element base index) b q fits (inl l) = load_fits base b q fits.0 l
  load_fits (element base index) b q fits (inr l) = load_fits index b q fits.1 l
  load_fits (target pointer) b q fits l = load_fits pointer b q fits l
  load_fits (load m s) b q fits (inl l) = (subst (λ b. LoadFits k b q) l.0 (subst (LoadFits k m) l.1 fits.0), subst (TermFits k stable) l.1 fits.1)
  load_fits (load m s) b q fits (inr l) = load_fits s b q fits.1 l
  load_fits (address s) b q fits l = load_fits s b q fits.1 l
  load_fits (converted m s) b q fits l = load_fits s b q fits l
  load_fits (prefixed o s) b q fits l = load_fits s b q fits l
  load_fits (joined o x y) b q fits (inl l) = load_fits x b q fits.0 l
  load_fits (joined o x y) b q fits (inr l) = load_fits y b q fits.1 l
  load_fits (constant v) b q fits l = absurd l
  load_fits (variable n) b q fits l = absurd l
  load_fits answer b q fits l = absurd l
  load_fits (global n) b q fits l = absurd l

  pub all_load_fits : (xs : List Term) (b : Bool) (q : Term) → AllFit k stable xs → AllLoad xs b q → LoadFits k b q × TermFits k stable q
  all_load_fits [] b q fits l = absurd l
  all_load_fits (x ∷ xs) b q fits (inl l) = load_fits x b q fits.0 l
  all_load_fits (x ∷ xs) b q fits (inr l) = all_load_fits xs b q fits.1 l

module _ (k : Setting) (stable : ℕ → Bool) where
  -- so does a load of an action's right side
  place_or_value : (x : Term) (place : Bool) (b : Bool) (q : Term) → Loads (if place then address x else x) b q → Loads x b q
  place_or_value x true b q l = l
  place_or_value x false b q l = l

  pub right_load_fits : (action : Action) (b : Bool) (q : Term) → RightFits k stable action → Loads (right_of action) b q → LoadFits k b q × TermFits k stable q
  right_load_fits (evaluate x) b q fits l = load_fits k stable x b q fits (place_or_value x (is_place x) b q l)
  right_load_fits (set_local n o kind x) b q fits l = load_fits k stable x b q fits l
  right_load_fits (set_cell place o kind x) b q fits l = load_fits k stable x b q fits l
  right_load_fits (declare n kind x) b q fits l = load_fits k stable x b q fits l
  right_load_fits (test x) b q fits l = load_fits k stable x b q fits l
  right_load_fits (branch x) b q fits l = load_fits k stable x b q fits l
  right_load_fits go_on b q fits l = absurd l
  right_load_fits (give kind x) b q fits l = load_fits k stable x b q fits l

-- a cell is no struct
pub cell_is : (t : ThingType) (kind : Kind) → cell_kind t ≡ Some kind → (is_structure t.kind ≡ false) × (t.kind ≡ kind)
cell_is t kind e = by (is_some t.length) (is_structure t.kind) refl e
  where
    by : (a b : Bool) → is_structure t.kind ≡ b → if_so (not a && not b) t.kind ≡ Some kind → (is_structure t.kind ≡ false) × (t.kind ≡ kind)
    by false false is e = (is, same_some e)
    by true b is e = none_is_some e
    by false true is e = none_is_some e

right_true : (a b : Bool) → b ≡ true → (a || b) ≡ true
right_true true b e = refl
right_true false b e = e

-- the cell at a place is const
record IsConstAt (k : Setting) (p : ℕ) : Type 0 where
  pub placed : Placed
  pub there : slice_get k.layout.places p ≡ Some placed
  pub const : placed.is_const ≡ true

module _ (k : Setting) (stable : ℕ → Bool) (locals : Locals) (laid : LaidOut k.layout)
    (typed : (n : ℕ) (kind : Kind) → k.locals n ≡ Some kind → is_value_of k.layout kind (local_at locals n) ≡ true) where
  abbrev Worked : Term → Term → Type 0
  Worked x y = IsWorked k stable locals x y

  const_part : (o : Option Part) → IsConstPart o → (part : Part) × (o ≡ Some part) × (part.thing.is_const ≡ true)
  const_part None is = absurd is
  const_part (Some part) is = (part, refl, is)

  -- what is declared const stands in const cells
  const_at : (x y : Term) (t : ThingType) (p : ℕ) → TermFits k stable x → Worked x y → place_type k x ≡ Some t → lvalue k.layout locals y ≡ yields p → IsDeclaredConst k x → IsConstAt k p
  const_at (global m) (global n) t p fits is type e const =
      let part = const_part (slice_get k.layout.globals m) const in
      let stands = laid.globals m p part.0 part.1 (ap (global_place k.layout) is ∙ found_some trap.NullPointer (global_place k.layout n) p e) in
      record { placed = stands.placed; there = stands.there; const = stands.const_is ∙ part.2 }
  const_at (member s m) (member u n) t p fits is type e const =
      let base = chained (member_thing k.layout m) (place_type k s) t type in
      let at = bound (lvalue k.layout locals u) (λ place. or_trap trap.NullPointer (member_place k.layout place n)) p e in
      let found = mapped (λ m. within base.0 m.thing) (option_and_then (λ struct. slice_get (structure_at k.layout.structs struct).members m) (struct_in base.0)) t base.2 in
      let struct = chained (λ struct. slice_get (structure_at k.layout.structs struct).members m) (struct_in base.0) found.0 found.1 in
      let part = const_part (slice_get (structure_at k.layout.structs struct.0).members m)
      (subst (λ o. IsConstPart (member_part k.layout m o)) (ap (option_and_then struct_in) base.1 ∙ struct.1) const) in
      let outer = place_stands_as k stable locals laid typed s u base.0 at.0 fits is.1 base.1 at.1 in
      let stands = laid.members at.0 struct.0 m p outer.placed part.0 outer.there (outer.kind ∙ struct_is base.0 struct.0 struct.1) part.1
      (ap (member_place k.layout at.0) is.0 ∙ found_some trap.NullPointer (member_place k.layout at.0 n) p at.2) in
      record { placed = stands.placed; there = stands.there; const = stands.const_is ∙ right_true outer.placed.is_const part.0.thing.is_const part.2 }
  const_at (element a b) (element c d) t p fits is type e const =
      let whole = indexed_is (value_kind k b) (place_type k a) t type in
      let at = bound (lvalue k.layout locals c) (λ place. bind (rvalue k.layout locals d) (λ v. or_trap trap.OutOfRange (at_index k.layout (Some place) (index_in v)))) p e in
      let index = bound (rvalue k.layout locals d) (λ v. or_trap trap.OutOfRange (at_index k.layout (Some at.0) (index_in v))) p at.2 in
      of_element at.0 p (index_in index.0) (found_some trap.OutOfRange (at_index k.layout (Some at.0) (index_in index.0)) p index.2)
      (const_at a c whole.whole at.0 fits.0 is.0 whole.is at.1 const)
    where
      of_element : (from p : ℕ) (i : Option ℕ) → at_index k.layout (Some from) i ≡ Some p → IsConstAt k from → IsConstAt k p
      of_element from p None e first = none_is_some e
      of_element from p (Some i) e first =
          let stands = laid.elements from i p first.placed first.there e in
          record { placed = stands.placed; there = stands.there; const = stands.const_is ∙ first.const }
  const_at (target s) y t p fits is type e const = absurd const
  const_at (constant v) y t p fits is type e const = absurd const
  const_at (variable n) y t p fits is type e const = absurd const
  const_at answer y t p fits is type e const = absurd const
  const_at (load m s) y t p fits is type e const = absurd const
  const_at (address s) y t p fits is type e const = absurd const
  const_at (converted m s) y t p fits is type e const = absurd const
  const_at (prefixed o s) y t p fits is type e const = absurd const
  const_at (joined o a b) y t p fits is type e const = absurd const
  const_at x y t p fits is type e const = absurd is

  module _ (store : Store) (well : IsWellTyped k.layout store) (constant_cells : KeepsConst k.layout store) where
    module _ (q now : Term) (p : ℕ) (b : Bool) (fits : LoadFits k b q) (parts : TermFits k stable q) (is : Worked q now) (e : lvalue k.layout locals now ≡ yields p) where
      stands : Stands k stable q fits.thing p
      stands = place_stands_as k stable locals laid typed q now fits.thing p parts is fits.type_is e

      plain : is_structure fits.thing.kind ≡ false
      plain = (cell_is fits.thing fits.kind fits.kind_is).0

      of_kind : IsOfKind k.layout (value_kind k (load b q)) (store p)
      of_kind = subst (λ o. IsOfKind k.layout o (store p)) (sym (ap (option_and_then cell_kind) fits.type_is ∙ fits.kind_is))
          (subst (λ kind. is_value_of k.layout kind (store p) ≡ true) (stands.kind ∙ (cell_is fits.thing fits.kind fits.kind_is).1)
          (well p stands.placed stands.there (ap is_structure stands.kind ∙ plain)))

      -- a pointer that never changes points where it pointed at the start
      initial_is : b ≡ true → initial_at k.layout p ≡ Some (store p)
      initial_is stays =
          let const = const_at q now fits.thing p parts is fits.type_is e (fits.stable stays) in
          let same : stands.placed ≡ const.placed = same_some (sym stands.there ∙ const.there) in
          ap (option_map (λ x. x.initial)) const.there
          ∙ ap Some (sym (constant_cells p const.placed const.there (sym (ap (λ x. is_structure x.kind) same) ∙ ap is_structure stands.kind ∙ plain) const.const))

      along : (b : Bool) → (b ≡ true → initial_at k.layout p ≡ Some (store p)) → (w : Option Way) → StandsAlong k.layout locals w p
          → PointsAlong k.layout locals (followed b w) (store p)
      along false initial w is = tt
      along true initial None is = tt
      along true initial (Some w) is =
          one_more k.layout locals w Follow ∙ ap (option_and_then (take_step k.layout (values locals) Follow)) is ∙ ap (option_and_then pointee) (initial refl)

      pub fits_load : IsOfKind k.layout (value_kind k (load b q)) (store p) × PointsAlong k.layout locals (target_way stable (load b q)) (store p)
      fits_load = (of_kind, along b initial_is (place_way stable q) (place_stands k stable locals q now p is e))
