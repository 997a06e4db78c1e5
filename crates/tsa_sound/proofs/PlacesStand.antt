-- What stands at a place that is worked out has the type of its term, and pointers point to what is unguarded.
use Rattle.std.proofs.Common.{◌≡◌, ◌∙◌, ℕ, nat_eq, Bool, true, false, not, ◌&&◌, ◌||◌, List, [], ◌∷◌, ◌++◌, map, Option, Some, None}
use Rattle.std.proofs.Common.{option_map, option_and_then, slice_get, refl, ap, sym, subst, eqb-true, eq-eqb}
use Rattle.tsa_base.specs.declared.value.Value.{Value}
use Rattle.tsa_base.specs.declared.value.Value.TheVariants.{Int, Unsigned, Pointer}
use Rattle.tsa_tree.specs.declared.kind.Kind.{Kind}
use Rattle.tsa_tree.specs.declared.kind.Kind.TheVariants as type
use Rattle.tsa_tree.specs.declared.kind.ThingType.{ThingType}
use Rattle.tsa_place_model.specs.Calls.{Layout, global_place, index_in, is_addressable, is_structure, member_place, part_guards}
use Rattle.tsa_core.specs.Kinds.{Setting, by_index, element_thing, member_thing, place_type, pointer_kind_to, struct_in, target_thing}
use Rattle.tsa_core.specs.Kinds.{value_kind, within}
use Rattle.tsa_place_model.specs.Layouts.{Part, structure_at}
use Rattle.tsa_place_model.specs.declared.place.Placed.{Placed}
use Rattle.tsa_place_model.specs.Places.{has_some}
use Rattle.tsa_place_model.specs.Stores.{is_of, is_value_of, may_point}
use Rattle.tsa_core.specs.Terms.{Term, constant, variable, answer, global, member, element, target, load, address, converted, prefixed}
use Rattle.tsa_core.specs.Terms.{joined}
use Rattle.tsa_core.specs.Uses.{guards_owned}
use Rattle.tsa_path.specs.Values.{at_index, pointed_place}
use Rattle.tsa_sched.specs.declared.event.TrapKind.TheVariants as trap
use Rattle.tsa_mean.specs.Outs.{bind, or_trap, reads, yields}
use Rattle.tsa_mean.specs.Working.{Locals, local_at, lvalue, rvalue}
use Rattle.tsa_sound.specs.LaidOut.{LaidOut, StandsAs}
use Rattle.tsa_sound.specs.PartlyWorked.{IsOfKind, IsWorked, guard_ways, guards_in, place_way}
use Rattle.tsa_sound.specs.TermFacts.{TermFits}
use Rattle.tsa_sound.proofs.Constants.{both, differ}
use Rattle.tsa_sound.proofs.NoPointers.{converted_gives_none, joined_gives_none, prefixed_gives_none}
use Rattle.tsa_sound.proofs.Says.{bound, found_some}
use Rattle.tsa_sound.proofs.Tests.{never_yields, none_is_some, read_yields, same_some, same_yields}

-- options that are something
pub mapped : {A B : Type 0} (f : A → B) (o : Option A) (b : B) → option_map f o ≡ Some b → (a : A) × (o ≡ Some a) × (f a ≡ b)
mapped f None b e = none_is_some e
mapped f (Some a) b e = (a, refl, same_some e)

pub chained : {A B : Type 0} (f : A → Option B) (o : Option A) (b : B) → option_and_then f o ≡ Some b → (a : A) × (o ≡ Some a) × (f a ≡ Some b)
chained f None b e = none_is_some e
chained f (Some a) b e = (a, refl, e)

-- the struct of an object
pub struct_is : (t : ThingType) (s : ℕ) → struct_in t ≡ Some s → t.kind ≡ type.Structure s
struct_is t s e = by t.length t.kind e
  where
    by : (length : Option ℕ) (kind : Kind) → struct_in (record { kind = kind; length = length; is_const = t.is_const }) ≡ Some s → kind ≡ type.Structure s
    by None (type.Structure n) e = ap type.Structure (same_some e)
    by None type.Int e = none_is_some e
    by None type.Unsigned e = none_is_some e
    by None type.Void e = none_is_some e
    by None (type.Pointer n c) e = none_is_some e
    by None type.Null e = none_is_some e
    by None type.Function e = none_is_some e
    by (Some n) kind e = none_is_some e

-- an element is declared with its array
pub record IsElement (t : ThingType) (o : Option ThingType) : Type 0 where
  pub whole : ThingType
  pub is : o ≡ Some whole
  pub kind : t.kind ≡ whole.kind
  pub const : t.is_const ≡ whole.is_const

element_is : (w t : ThingType) → element_thing w ≡ Some t → IsElement t (Some w)
element_is w t e = by w.length e
  where
    by : (length : Option ℕ) → element_thing (record { kind = w.kind; length = length; is_const = w.is_const }) ≡ Some t → IsElement t (Some w)
    by None e = none_is_some e
    by (Some n) e = record { whole = w; is = refl; kind = ap (λ t. t.kind) (sym (same_some e)); const = ap (λ t. t.is_const) (sym (same_some e)) }

pub indexed_is : (i : Option Kind) (o : Option ThingType) (t : ThingType) → by_index i o ≡ Some t → IsElement t o
indexed_is None o t e = none_is_some e
indexed_is (Some type.Int) o t e = let x = chained element_thing o t e in subst (IsElement t) (sym x.1) (element_is x.0 t x.2)
indexed_is (Some type.Unsigned) o t e = let x = chained element_thing o t e in subst (IsElement t) (sym x.1) (element_is x.0 t x.2)
indexed_is (Some type.Void) o t e = none_is_some e
indexed_is (Some (type.Structure n)) o t e = none_is_some e
indexed_is (Some (type.Pointer n c)) o t e = none_is_some e
indexed_is (Some type.Null) o t e = none_is_some e
indexed_is (Some type.Function) o t e = none_is_some e

-- lists that are empty
left_empty : {A : Type 0} (xs ys : List A) → xs ++ ys ≡ [] → xs ≡ []
left_empty [] ys e = refl
left_empty (x ∷ xs) ys e = absurd cc

right_empty : {A : Type 0} (xs ys : List A) → xs ++ ys ≡ [] → ys ≡ []
right_empty [] ys e = e
right_empty (x ∷ xs) ys e = absurd cc

unmapped : {A B : Type 0} (f : A → B) (xs : List A) → map f xs ≡ [] → has_some xs ≡ false
unmapped f [] e = refl
unmapped f (x ∷ xs) e = absurd cc

empty_has_none : {A : Type 0} (xs : List A) → xs ≡ [] → has_some xs ≡ false
empty_has_none xs e = ap has_some e

either_false : (a b : Bool) → a ≡ false → b ≡ false → (a || b) ≡ false
either_false a b e f = ap (λ a. a || b) e ∙ f

or_true : (a b t : Bool) → (a ≡ true → t ≡ true) → (a || b) ≡ true → (b || t) ≡ true
or_true true true t f e = refl
or_true true false t f e = f refl
or_true false true t f e = refl
or_true false false t f e = differ e

-- What stands at the place of a term.
pub record Stands (k : Setting) (stable : ℕ → Bool) (x : Term) (t : ThingType) (p : ℕ) : Type 0 where
  pub placed : Placed
  pub there : slice_get k.layout.places p ≡ Some placed
  pub kind : placed.kind ≡ t.kind
  pub const : placed.is_const ≡ true → t.is_const ≡ true
  pub unguarded : guard_ways k stable x ≡ [] → placed.is_guarded ≡ false

-- an object to which a pointer may point
pub record IsObject (l : Layout) (n : ℕ) (c : Bool) (p : ℕ) : Type 0 where
  pub placed : Placed
  pub there : slice_get l.places p ≡ Some placed
  pub kind : placed.kind ≡ type.Structure n
  pub const : placed.is_const ≡ true → c ≡ true
  pub unguarded : placed.is_guarded ≡ false

of_struct : (n : ℕ) (kind : Kind) → is_of n kind ≡ true → kind ≡ type.Structure n
of_struct n (type.Structure m) e = ap type.Structure (eqb-true m n e)
of_struct n type.Int e = differ e
of_struct n type.Unsigned e = differ e
of_struct n type.Void e = differ e
of_struct n (type.Pointer m c) e = differ e
of_struct n type.Null e = differ e
of_struct n type.Function e = differ e

is_not : (b : Bool) → not b ≡ true → b ≡ false
is_not true e = differ e
is_not false e = refl

const_allowed : (c d : Bool) → (c || not d) ≡ true → d ≡ true → c ≡ true
const_allowed true d e f = refl
const_allowed false true e f = differ e
const_allowed false false e f = differ f

allowed_const : (c d : Bool) → (d ≡ true → c ≡ true) → (c || not d) ≡ true
allowed_const true d f = refl
allowed_const false true f = differ (f refl)
allowed_const false false f = refl

object_at : (l : Layout) (n : ℕ) (c : Bool) (p : ℕ) (o : Option Placed) → slice_get l.places p ≡ o → may_point n c o ≡ true → IsObject l n c p
object_at l n c p None is e = differ e
object_at l n c p (Some x) is e =
    let outer = both (is_addressable x) (is_of n x.kind && (c || not x.is_const)) e in
    let inner = both (is_of n x.kind) (c || not x.is_const) outer.1 in
    record {
      placed = x;
      there = is;
      kind = of_struct n x.kind inner.0;
      const = const_allowed c x.is_const inner.1;
      unguarded = is_not x.is_guarded (both (is_structure x.kind) (not x.is_guarded) outer.0).1;
    }

pointer_object : (l : Layout) (n : ℕ) (c : Bool) (v : Value) (p : ℕ) → is_value_of l (type.Pointer n c) v ≡ true → pointed_place v ≡ Some p → IsObject l n c p
pointer_object l n c (Pointer (Some q)) p e is = object_at l n c p (slice_get l.places p) refl (subst (λ q. may_point n c (slice_get l.places q) ≡ true) (same_some is) e)
pointer_object l n c (Pointer None) p e is = none_is_some is
pointer_object l n c (Int z) p e is = none_is_some is
pointer_object l n c (Unsigned m) p e is = none_is_some is

may_point_to : (l : Layout) (n : ℕ) (c : Bool) (p : ℕ) (x : Placed) → slice_get l.places p ≡ Some x → x.kind ≡ type.Structure n → x.is_guarded ≡ false
    → (x.is_const ≡ true → c ≡ true) → may_point n c (slice_get l.places p) ≡ true
may_point_to l n c p x is kind unguarded const =
    rw (is, kind, unguarded) (join (nat_eq n n) (c || not x.is_const) (eq-eqb n n refl) (allowed_const c x.is_const const))
  where
    join : (a b : Bool) → a ≡ true → b ≡ true → (a && b) ≡ true
    join true b one other = other
    join false b one other = differ one

module _ (k : Setting) (stable : ℕ → Bool) (locals : Locals) (laid : LaidOut k.layout)
    (typed : (n : ℕ) (kind : Kind) → k.locals n ≡ Some kind → is_value_of k.layout kind (local_at locals n) ≡ true) where
  abbrev Worked : Term → Term → Type 0
  Worked x y = IsWorked k stable locals x y

  as_it_stands : (x : Term) (t : ThingType) (p : ℕ) (kind : Kind) (const guarded : Bool) → StandsAs k.layout p kind const guarded → kind ≡ t.kind
      → (const ≡ true → t.is_const ≡ true) → (guard_ways k stable x ≡ [] → guarded ≡ false) → Stands k stable x t p
  as_it_stands x t p kind const guarded s is_kind is_const is_guarded = record {
    placed = s.placed;
    there = s.there;
    kind = s.kind_is ∙ is_kind;
    const = λ e. is_const (sym s.const_is ∙ e);
    unguarded = λ e. s.guarded_is ∙ is_guarded e;
  }

  global_stands : (m p : ℕ) (t : ThingType) → option_map (λ part. part.thing) (slice_get k.layout.globals m) ≡ Some t → global_place k.layout m ≡ Some p
      → Stands k stable (global m) t p
  global_stands m p t type place =
      let part = mapped (λ part. part.thing) (slice_get k.layout.globals m) t type in
      as_it_stands (global m) t p part.0.thing.kind part.0.thing.is_const (has_some part.0.guards) (laid.globals m p part.0 part.1 place)
      (ap (λ t. t.kind) part.2) (λ e. sym (ap (λ t. t.is_const) part.2) ∙ e)
      (λ e. empty_has_none part.0.guards (sym (ap part_guards part.1) ∙ e))

  member_stands : (s : Term) (m p from : ℕ) (t base : ThingType) → place_type k s ≡ Some base → member_thing k.layout m base ≡ Some t → Stands k stable s base from
      → member_place k.layout from m ≡ Some p → Stands k stable (member s m) t p
  member_stands s m p from t base type thing stands place =
      let part = mapped (λ m. within base m.thing) (option_and_then (λ struct. slice_get (structure_at k.layout.structs struct).members m) (struct_in base)) t thing in
      let struct = chained (λ struct. slice_get (structure_at k.layout.structs struct).members m) (struct_in base) part.0 part.1 in
      as_it_stands (member s m) t p part.0.thing.kind (stands.placed.is_const || part.0.thing.is_const) (stands.placed.is_guarded || has_some part.0.guards)
      (laid.members from struct.0 m p stands.placed part.0 stands.there (stands.kind ∙ struct_is base struct.0 struct.1) struct.2 place)
      (ap (λ t. t.kind) part.2)
      (λ e. sym (ap (λ t. t.is_const) part.2) ∙ or_true stands.placed.is_const part.0.thing.is_const base.is_const stands.const e)
      (λ e. either_false stands.placed.is_guarded (has_some part.0.guards)
      (stands.unguarded (left_empty (guard_ways k stable s) (guards_in k.layout (place_way stable s) m (option_and_then struct_in (place_type k s))) e))
      (own part.0 struct.0 struct.1 struct.2 (right_empty (guard_ways k stable s) (guards_in k.layout (place_way stable s) m (option_and_then struct_in (place_type k s))) e)))
    where
      own : (part : Part) (struct : ℕ) → struct_in base ≡ Some struct → slice_get (structure_at k.layout.structs struct).members m ≡ Some part
          → guards_in k.layout (place_way stable s) m (option_and_then struct_in (place_type k s)) ≡ [] → has_some part.guards ≡ false
      own part struct is_struct is_part e =
          unmapped _ part.guards (sym (ap (λ g. guards_owned (place_way stable s) (part_guards g)) is_part)
          ∙ sym (ap (guards_in k.layout (place_way stable s) m) (ap (option_and_then struct_in) type ∙ is_struct)) ∙ e)

  element_at : (a b : Term) (p from : ℕ) (i : Option ℕ) (t whole : ThingType) → t.kind ≡ whole.kind → t.is_const ≡ whole.is_const → Stands k stable a whole from
      → at_index k.layout (Some from) i ≡ Some p → Stands k stable (element a b) t p
  element_at a b p from None t whole is_kind is_const stands place = none_is_some place
  element_at a b p from (Some i) t whole is_kind is_const stands place =
      as_it_stands (element a b) t p stands.placed.kind stands.placed.is_const stands.placed.is_guarded
      (laid.elements from i p stands.placed stands.there place) (stands.kind ∙ sym is_kind) (λ e. is_const ∙ stands.const e) stands.unguarded

  pub targeted : (kind : Kind) (t : ThingType) → target_thing kind ≡ Some t → (n : ℕ) × (c : Bool) × (kind ≡ type.Pointer n c) × (t.kind ≡ type.Structure n) × (t.is_const ≡ c)
  targeted (type.Pointer n c) t e = (n, c, refl, ap (λ t. t.kind) (sym (same_some e)), ap (λ t. t.is_const) (sym (same_some e)))
  targeted type.Int t e = none_is_some e
  targeted type.Unsigned t e = none_is_some e
  targeted type.Void t e = none_is_some e
  targeted (type.Structure n) t e = none_is_some e
  targeted type.Null t e = none_is_some e
  targeted type.Function t e = none_is_some e

  constant_points : (v : Value) (n : ℕ) (c : Bool) {A : Type 0} → value_kind k (constant v) ≡ Some (type.Pointer n c) → A
  constant_points (Int z) n c e = absurd cc
  constant_points (Unsigned m) n c e = absurd cc
  constant_points (Pointer None) n c e = absurd cc
  constant_points (Pointer (Some p)) n c e = absurd cc

  same_pointer : (m n : ℕ) (c d : Bool) → ◌≡◌ {A = Kind} (type.Pointer m c) (type.Pointer n d) → (m ≡ n) × (c ≡ d)
  same_pointer m n c d e = (cc, cc)

  mutual
    -- a place that is worked out
    pub place_stands_as : (x y : Term) (t : ThingType) (p : ℕ) → TermFits k stable x → Worked x y → place_type k x ≡ Some t → lvalue k.layout locals y ≡ yields p
        → Stands k stable x t p
    place_stands_as (global m) (global n) t p fits is type e =
        global_stands m p t type (ap (global_place k.layout) is ∙ found_some trap.NullPointer (global_place k.layout n) p e)
    place_stands_as (member s m) (member u n) t p fits is type e =
        let base = chained (member_thing k.layout m) (place_type k s) t type in
        let part = bound (lvalue k.layout locals u) (λ place. or_trap trap.NullPointer (member_place k.layout place n)) p e in
        member_stands s m p part.0 t base.0 base.1 base.2 (place_stands_as s u base.0 part.0 fits is.1 base.1 part.1)
        (ap (member_place k.layout part.0) is.0 ∙ found_some trap.NullPointer (member_place k.layout part.0 n) p part.2)
    place_stands_as (element a b) (element c d) t p fits is type e =
        let whole = indexed_is (value_kind k b) (place_type k a) t type in
        let part = bound (lvalue k.layout locals c) (λ place. bind (rvalue k.layout locals d) (λ v. or_trap trap.OutOfRange (at_index k.layout (Some place) (index_in v)))) p e in
        let index = bound (rvalue k.layout locals d) (λ v. or_trap trap.OutOfRange (at_index k.layout (Some part.0) (index_in v))) p part.2 in
        element_at a b p part.0 (index_in index.0) t whole.whole whole.kind whole.const (place_stands_as a c whole.whole part.0 fits.0 is.0 whole.is part.1)
        (found_some trap.OutOfRange (at_index k.layout (Some part.0) (index_in index.0)) p index.2)
    place_stands_as (target s) (target u) t p fits is type e =
        let kind = chained target_thing (value_kind k s) t type in
        let to = targeted kind.0 t kind.2 in
        let part = bound (rvalue k.layout locals u) (λ v. or_trap trap.NullPointer (pointed_place v)) p e in
        let object = pointer_object k.layout to.0 to.1 part.0 p (pointer_fits s u to.0 to.1 part.0 fits is (kind.1 ∙ ap Some to.2) part.1)
        (found_some trap.NullPointer (pointed_place part.0) p part.2) in
        record { placed = object.placed; there = object.there; kind = object.kind ∙ sym to.3; const = λ c. to.4 ∙ object.const c; unguarded = λ g. object.unguarded }
    place_stands_as (constant v) y t p fits is type e = none_is_some type
    place_stands_as (variable n) y t p fits is type e = none_is_some type
    place_stands_as answer y t p fits is type e = none_is_some type
    place_stands_as (load m s) y t p fits is type e = none_is_some type
    place_stands_as (address s) y t p fits is type e = none_is_some type
    place_stands_as (converted m s) y t p fits is type e = none_is_some type
    place_stands_as (prefixed o s) y t p fits is type e = none_is_some type
    place_stands_as (joined o a b) y t p fits is type e = none_is_some type
    place_stands_as x y t p fits is type e = absurd is

    -- a pointer that is worked out points where it may
    pub pointer_fits : (x y : Term) (n : ℕ) (c : Bool) (v : Value) → TermFits k stable x → Worked x y → value_kind k x ≡ Some (type.Pointer n c)
        → rvalue k.layout locals y ≡ yields v → is_value_of k.layout (type.Pointer n c) v ≡ true
    pointer_fits (constant w) y n c v fits is kind e = constant_points w n c kind
    pointer_fits (variable m) (variable q) n c v fits is kind e =
        subst (λ v. is_value_of k.layout (type.Pointer n c) v ≡ true) (ap (local_at locals) is ∙ same_yields e) (typed m (type.Pointer n c) kind)
    pointer_fits answer answer n c v fits is kind e = never_yields e
    pointer_fits answer (constant w) n c v fits is kind e =
        subst (λ v. is_value_of k.layout (type.Pointer n c) v ≡ true) (same_yields e) (subst (λ o. IsOfKind k.layout o w) kind is)
    pointer_fits (load m s) (load q u) n c v fits is kind e = let part = bound (lvalue k.layout locals u) (λ p. reads p) v e in read_yields part.2
    pointer_fits (load m s) (constant w) n c v fits is kind e =
        subst (λ v. is_value_of k.layout (type.Pointer n c) v ≡ true) (same_yields e) (subst (λ o. IsOfKind k.layout o w) kind is.0)
    pointer_fits (address s) (address u) n c v fits is kind e =
        let thing = chained pointer_kind_to (place_type k s) (type.Pointer n c) kind in
        let struct = mapped (λ struct. type.Pointer struct thing.0.is_const) (struct_in thing.0) (type.Pointer n c) thing.2 in
        let same = same_pointer struct.0 n thing.0.is_const c struct.2 in
        let part = bound (lvalue k.layout locals u) (λ p. yields (Pointer (Some p))) v e in
        let stands = place_stands_as s u thing.0 part.0 fits.1 is thing.1 part.1 in
        subst (λ v. is_value_of k.layout (type.Pointer n c) v ≡ true) (same_yields part.2)
        (may_point_to k.layout n c part.0 stands.placed stands.there (stands.kind ∙ struct_is thing.0 struct.0 struct.1 ∙ ap type.Structure same.0)
        (stands.unguarded fits.0) (λ d. sym same.1 ∙ stands.const d))
    pointer_fits (converted m s) y n c v fits is kind e = absurd (converted_gives_none n c m (value_kind k s) kind)
    pointer_fits (prefixed o s) y n c v fits is kind e = absurd (prefixed_gives_none n c o (value_kind k s) kind)
    pointer_fits (joined o a b) y n c v fits is kind e = absurd (joined_gives_none n c o (value_kind k a) (value_kind k b) kind)
    pointer_fits (global m) y n c v fits is kind e = none_is_some kind
    pointer_fits (member s m) y n c v fits is kind e = none_is_some kind
    pointer_fits (element a b) y n c v fits is kind e = none_is_some kind
    pointer_fits (target s) y n c v fits is kind e = none_is_some kind
    pointer_fits x y n c v fits is kind e = absurd is
