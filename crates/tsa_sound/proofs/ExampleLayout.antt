-- The places of a unit with a lock and a number under it stand as they are declared.
use Rattle.std.proofs.Common.{◌≡◌, ◌∙◌, ℕ, zero, suc, nat_eq, arith, if◌then◌else◌, Bool, true, false, ◌||◌, List, [], ◌∷◌, ◌++◌, Option}
use Rattle.std.proofs.Common.{Some, None, slice_get, refl, ap, sym, subst}
use Rattle.std.proofs.lemmas.Bool.Decides.{nat_tests}
use Rattle.std.specs.Prelude.{All}
use Rattle.tsa_base.specs.declared.token.Span.{Span}
use Rattle.tsa_base.specs.declared.value.Value.{Value}
use Rattle.tsa_base.specs.declared.value.Value.TheVariants.{Pointer}
use Rattle.tsa_tree.specs.declared.kind.Kind.TheVariants as type
use Rattle.tsa_place_model.specs.Ways.{Way, from}
use Rattle.tsa_place_model.specs.declared.path.Root.TheVariants as root
use Rattle.tsa_place_model.specs.Calls.{Layout, element_place, global_place, guards_by, guards_of, member_place}
use Rattle.tsa_place_model.specs.declared.place.Holder.TheVariants.{Global, Member}
use Rattle.tsa_place_model.specs.Layouts.{Part, no_members, structure_at, size_of}
use Rattle.tsa_place_model.specs.declared.place.Placed.{Placed}
use Rattle.tsa_place_model.specs.Places.{has_some}
use Rattle.tsa_place_model.specs.Calls.{around, guards_along}
use Rattle.tsa_rules.specs.KeptLaws.{locked_write}
use Rattle.tsa_mean.proofs.Lists.{all_more, all_none}
use Rattle.tsa_mean.proofs.RunExamples.{turned}
use Rattle.tsa_sound.specs.LaidOut.{IsLocalFree, LaidOut, StandsAs}
use Rattle.tsa_sound.proofs.Constants.{differ}
use Rattle.tsa_sound.proofs.Tests.{none_is_some, same_some}

-- a part of a name, and its place
pub record Names : Type 0 where
  pub name : List ℕ
  pub span : Span
  pub initial : Value

abbrev number_part : Names → List (Option Way) → Part
number_part n guards = record { name = n.name; thing = record { kind = type.Int; length = None; is_const = false }; guards = guards; span = n.span }

abbrev lock_place : Names → Placed
lock_place n = record { holder = Global 0; index = None; kind = type.Structure 0; is_const = false; is_guarded = false; initial = n.initial }

not_zero : (n : ℕ) → nat_eq (suc n) 0 ≡ false
not_zero n = grind (arith, nat_tests)

-- a lock with one member, and a number under it
abbrev pub layout : (inner lock number : Names) → Layout
layout inner lock number = record {
  structs = record { is_lock = true; members = number_part inner [] ∷ [] } ∷ [];
  globals =
      record { name = lock.name; thing = record { kind = type.Structure 0; length = None; is_const = false }; guards = []; span = lock.span }
      ∷ number_part number (Some (from (root.Global 0)) ∷ [])
      ∷ [];
  starts = 0 ∷ 2 ∷ [];
  places =
      record { holder = Global 0; index = None; kind = type.Structure 0; is_const = false; is_guarded = false; initial = lock.initial }
      ∷ record { holder = Member 0 0; index = None; kind = type.Int; is_const = false; is_guarded = false; initial = inner.initial }
      ∷ record { holder = Global 1; index = None; kind = type.Int; is_const = false; is_guarded = true; initial = number.initial }
      ∷ [];
}

-- a part and a place that are known
known : {A : Type 0} (P : A → ℕ → Type 0) (a b : A) (m n : ℕ) → Some a ≡ Some b → Some m ≡ Some n → P a m → P b n
known P a b m n e f h = subst (λ x. P x n) (same_some e) (subst (P a) (same_some f) h)

other_kind : {A : Type 0} {n : ℕ} → type.Int ≡ type.Structure n → A
other_kind e = absurd cc

-- the one member of the lock
same_struct : (m n : ℕ) → type.Structure m ≡ type.Structure n → m ≡ n
same_struct m n e = cc

module _ (inner lock number : Names) where
  abbrev l : Layout
  l = layout inner lock number

  globals : (n place : ℕ) (part : Part) → slice_get l.globals n ≡ Some part → global_place l n ≡ Some place → StandsAs l place part.thing.kind part.thing.is_const (has_some part.guards)
  unfolding structure_at size_of
  globals zero place part e f = known (λ part place. StandsAs l place part.thing.kind part.thing.is_const (has_some part.guards)) _ part _ place e f
      (record { placed = _; there = refl; kind_is = refl; const_is = refl; guarded_is = refl })
  globals (suc zero) place part e f = known (λ part place. StandsAs l place part.thing.kind part.thing.is_const (has_some part.guards)) _ part _ place e f
      (record { placed = _; there = refl; kind_is = refl; const_is = refl; guarded_is = refl })
  globals (suc (suc n)) place part e f = none_is_some e

  global_guards : (n place : ℕ) (part : Part) → slice_get l.globals n ≡ Some part → global_place l n ≡ Some place → guards_of l place ≡ guards_by l None part.guards
  unfolding structure_at size_of around guards_along
  global_guards zero place part e f = known (λ part place. guards_of l place ≡ guards_by l None part.guards) _ part _ place e f refl
  global_guards (suc zero) place part e f = known (λ part place. guards_of l place ≡ guards_by l None part.guards) _ part _ place e f refl
  global_guards (suc (suc n)) place part e f = none_is_some e

  global_free : (n : ℕ) (part : Part) → slice_get l.globals n ≡ Some part → All IsLocalFree part.guards
  unfolding structure_at size_of
  global_free zero part e = subst (λ part. All IsLocalFree part.guards) (same_some e) (all_none IsLocalFree)
  global_free (suc zero) part e = subst (λ part. All IsLocalFree part.guards) (same_some e) (all_more IsLocalFree _ [] (tt, tt) (all_none IsLocalFree))
  global_free (suc (suc n)) part e = none_is_some e

  no_elements : (first i place : ℕ) {A : Type 0} → element_place l first i ≡ Some place → A
  unfolding structure_at size_of
  no_elements zero i place e = none_is_some e
  no_elements (suc zero) i place e = none_is_some e
  no_elements (suc (suc zero)) i place e = none_is_some e
  no_elements (suc (suc (suc n))) i place e = none_is_some e

  unguarded : (place : ℕ) (p : Placed) → slice_get l.places place ≡ Some p → p.is_guarded ≡ false → guards_of l place ≡ []
  unfolding structure_at size_of around guards_along
  unguarded zero p e f = refl
  unguarded (suc zero) p e f = refl
  unguarded (suc (suc zero)) p e f = differ (sym f ∙ sym (ap (λ p. p.is_guarded) (same_some e)))
  unguarded (suc (suc (suc n))) p e f = none_is_some e

  abbrev MemberStands : ℕ → ℕ → ℕ → ℕ → Placed → Part → Type 0
  MemberStands owner struct k place p part =
      StandsAs l place part.thing.kind (p.is_const || part.thing.is_const) (p.is_guarded || has_some part.guards) × (guards_of l place ≡ guards_of l owner ++ guards_by l (Some owner) part.guards)

  of_lock : (k place : ℕ) (p : Placed) (part : Part) → slice_get l.places 0 ≡ Some p → slice_get (structure_at l.structs 0).members k ≡ Some part → member_place l 0 k ≡ Some place
      → MemberStands 0 0 k place p part
  unfolding structure_at size_of around guards_along
  of_lock zero place p part e f g = subst (λ p. MemberStands 0 0 0 place p part) (same_some e) (known (λ part place. MemberStands 0 0 0 place (lock_place lock) part) _ part _ place f g
      (record { placed = _; there = refl; kind_is = refl; const_is = refl; guarded_is = refl }, refl))
  of_lock (suc k) place p part e f g = none_is_some f

  of_first : (struct k place : ℕ) (p : Placed) (part : Part) → slice_get l.places 0 ≡ Some p → p.kind ≡ type.Structure struct
      → slice_get (structure_at l.structs struct).members k ≡ Some part → member_place l 0 k ≡ Some place → MemberStands 0 struct k place p part
  unfolding structure_at size_of
  of_first struct k place p part e is f g =
      let struct_is : 0 ≡ struct = same_struct 0 struct (ap (λ p. p.kind) (same_some e) ∙ is) in
      of_lock k place p part e (subst (λ s. slice_get (structure_at l.structs s).members k ≡ Some part) (sym struct_is) f) g

  members : (owner struct k place : ℕ) (p : Placed) (part : Part) → slice_get l.places owner ≡ Some p → p.kind ≡ type.Structure struct
      → slice_get (structure_at l.structs struct).members k ≡ Some part → member_place l owner k ≡ Some place → MemberStands owner struct k place p part
  unfolding structure_at size_of
  members zero struct k place p part e is f g = of_first struct k place p part e is f g
  members (suc zero) struct k place p part e is f g = other_kind (ap (λ p. p.kind) (same_some e) ∙ is)
  members (suc (suc zero)) struct k place p part e is f g = other_kind (ap (λ p. p.kind) (same_some e) ∙ is)
  members (suc (suc (suc n))) struct k place p part e is f g = none_is_some e

  lock_free : (struct k : ℕ) (part : Part) → slice_get (structure_at l.structs struct).members k ≡ Some part → All IsLocalFree part.guards
  unfolding structure_at size_of
  lock_free zero zero part e = subst (λ part. All IsLocalFree part.guards) (same_some e) (all_none IsLocalFree)
  lock_free zero (suc k) part e = none_is_some e
  lock_free (suc struct) k part e = by (nat_eq (suc struct) 0) (not_zero struct) e
    where
      by : (b : Bool) → b ≡ false → slice_get (if b then record { is_lock = true; members = number_part inner [] ∷ [] } else no_members).members k ≡ Some part → All IsLocalFree part.guards
      by true is e = differ (sym is)
      by false is e = none_is_some e

  pub all_laid_out : LaidOut l
  all_laid_out = record {
    globals = globals;
    members = λ owner struct k place p part e is f g. (members owner struct k place p part e is f g).0;
    elements = λ first i place p e f. no_elements first i place f;
    global_guards = global_guards;
    member_guards = λ owner struct k place p part e is f g. (members owner struct k place p part e is f g).1;
    element_guards = λ first i place f. no_elements first i place f;
    unguarded = unguarded;
    global_free = global_free;
    member_free = lock_free;
  }

-- what the unit has
abbrev pub names_of : Option Part → Option Placed → Names
names_of (Some part) (Some p) = record { name = part.name; span = part.span; initial = p.initial }
names_of part p = record { name = []; span = record { from = 0; to = 0 }; initial = Pointer None }

abbrev inner_names : Names
inner_names = names_of (slice_get (structure_at locked_write.layout.structs 0).members 0) (slice_get locked_write.layout.places 1)

abbrev lock_names : Names
lock_names = names_of (slice_get locked_write.layout.globals 0) (slice_get locked_write.layout.places 0)

abbrev number_names : Names
number_names = names_of (slice_get locked_write.layout.globals 1) (slice_get locked_write.layout.places 2)

layout_is : layout inner_names lock_names number_names ≡ locked_write.layout
unfolding turned
layout_is = refl

pub laid_out : LaidOut locked_write.layout
laid_out = subst LaidOut layout_is (all_laid_out inner_names lock_names number_names)
