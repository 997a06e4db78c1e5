-- Sets of kinds of attributes by their bits.
use Rattle.std.proofs.Common.{◌≡◌, ◌*◌, ◌%◌, ◌^◌, nat_eq, Bool, true, false, ◌&&◌, ◌||◌, List, [], ◌∷◌, Some, slice_get, bit_or, refl, sym}
use Rattle.std.proofs.Common.{ap, ◌∙◌, arith, if◌then◌else◌}
use Rattle.std.proofs.lemmas.Bool.Decides.{nat_tests}
use Rattle.std.proofs.lemmas.Nat.Bits.{bit_at_or, bit_at-lt, bit_at-zero, bit_at-pow_same, bit_at-pow_other}
use Rattle.std.proofs.Math.Decide.{ℕ_discrete}
use Rattle.std.specs.Int.{bit_at}
use Rattle.std.specs.List.{list_any}
use Rattle.tsa_tree.specs.declared.attr.AttrKind.{AttrKind}
use Rattle.tsa_tree.specs.declared.attr.AttrKind.TheVariants as attr
use Rattle.tsa_place_model.specs.Ways.{Way}
use Rattle.tsa_core.specs.Programs.{Attr}
use Rattle.tsa_rules.specs.declared.kinds.Kinds.{Kinds}
use Rattle.tsa_rules.specs.Attributes.{names}
use Rattle.tsa_rules.specs.KindSets.{kind_number, same_kind, no_kinds, has_kind, with_kind, KindsAreSets}
use Rattle.tsa_rules.specs.Marks.{kinds_with, names_as, MarksTellKinds}
use Rattle.tsa_rules.proofs.Possible.{or_true}
use Rattle.tsa_base.proofs.Options.{some_same}

pub or-false : (b : Bool) → (b || false) ≡ b
or-false true = refl
or-false false = refl

pub or_assoc : (x y z : Bool) → ((x || y) || z) ≡ (x || (y || z))
or_assoc true y z = refl
or_assoc false y z = refl

pub none_has : (k : AttrKind) → has_kind no_kinds k ≡ false
unfolding has_kind
none_has k = rw (bit_at-zero (kind_number k)) refl

one_more : (kinds : Kinds) (j k : AttrKind) → has_kind (with_kind kinds j) k ≡ (has_kind kinds k || same_kind j k)
unfolding has_kind with_kind
one_more kinds j k = elim (ℕ_discrete (kind_number k) (kind_number j)) [ yes e ↦ same e | no n ↦ other n ]
  where
    same : kind_number k ≡ kind_number j
        → nat_eq (bit_at (bit_or kinds.bits (2 ^ kind_number j)) (kind_number k)) 1 ≡ (nat_eq (bit_at kinds.bits (kind_number k)) 1 || nat_eq (kind_number j) (kind_number k))
    same e =
        let p : bit_at (2 ^ kind_number j) (kind_number k) ≡ 1 = ap (bit_at (2 ^ kind_number j)) e ∙ bit_at-pow_same (kind_number j) in
        let x : bit_at (bit_or kinds.bits (2 ^ kind_number j)) (kind_number k) ≡ 1 = omega (arith, bit_at_or kinds.bits (2 ^ kind_number j) (kind_number k), bit_at-lt kinds.bits (kind_number k), p) in
        let t : nat_eq (kind_number j) (kind_number k) ≡ true = grind (arith, nat_tests) in
        rw (x, t) (sym (or_true (nat_eq (bit_at kinds.bits (kind_number k)) 1)))

    other : (kind_number k ≡ kind_number j → ⊥)
        → nat_eq (bit_at (bit_or kinds.bits (2 ^ kind_number j)) (kind_number k)) 1 ≡ (nat_eq (bit_at kinds.bits (kind_number k)) 1 || nat_eq (kind_number j) (kind_number k))
    other n =
        let p : bit_at (2 ^ kind_number j) (kind_number k) ≡ 0 = bit_at-pow_other (kind_number j) (kind_number k) n in
        let x : bit_at (bit_or kinds.bits (2 ^ kind_number j)) (kind_number k) ≡ bit_at kinds.bits (kind_number k) = omega (arith, bit_at_or kinds.bits (2 ^ kind_number j) (kind_number k), p) in
        let t : nat_eq (kind_number j) (kind_number k) ≡ false = grind (arith, nat_tests) in
        rw (x, t) (sym (or-false (nat_eq (bit_at kinds.bits (kind_number k)) 1)))

abbrev all_kinds : List AttrKind
all_kinds =
    attr.Capability ∷ attr.GuardedBy ∷ attr.Requires ∷ attr.RequiresShared ∷ attr.Acquire ∷ attr.AcquireShared ∷ attr.Release ∷ attr.ReleaseShared
    ∷ attr.ReleaseGeneric ∷ attr.TryAcquire ∷ attr.TryAcquireShared ∷ attr.Excludes ∷ attr.AcquiredBefore ∷ attr.AcquiredAfter ∷ []

kind_at : (k : AttrKind) → slice_get all_kinds (kind_number k) ≡ Some k
kind_at attr.Capability = refl
kind_at attr.GuardedBy = refl
kind_at attr.Requires = refl
kind_at attr.RequiresShared = refl
kind_at attr.Acquire = refl
kind_at attr.AcquireShared = refl
kind_at attr.Release = refl
kind_at attr.ReleaseShared = refl
kind_at attr.ReleaseGeneric = refl
kind_at attr.TryAcquire = refl
kind_at attr.TryAcquireShared = refl
kind_at attr.Excludes = refl
kind_at attr.AcquiredBefore = refl
kind_at attr.AcquiredAfter = refl

-- the bit of a kind
pub one_bit : (k : AttrKind) → 1 * 2 ^ kind_number k % 65536 ≡ 2 ^ kind_number k
one_bit attr.Capability = refl
one_bit attr.GuardedBy = refl
one_bit attr.Requires = refl
one_bit attr.RequiresShared = refl
one_bit attr.Acquire = refl
one_bit attr.AcquireShared = refl
one_bit attr.Release = refl
one_bit attr.ReleaseShared = refl
one_bit attr.ReleaseGeneric = refl
one_bit attr.TryAcquire = refl
one_bit attr.TryAcquireShared = refl
one_bit attr.Excludes = refl
one_bit attr.AcquiredBefore = refl
one_bit attr.AcquiredAfter = refl

pub told_apart : (j k : AttrKind) → same_kind j k ≡ true → j ≡ k
told_apart j k e =
    let n : kind_number j ≡ kind_number k = grind (arith, nat_tests) in
    some_same (sym (kind_at j) ∙ (ap (slice_get all_kinds) n ∙ kind_at k))

pub kinds_are_sets : KindsAreSets
kinds_are_sets = record { none = none_has; one_more = one_more; told_apart = told_apart }

-- the kinds of the attributes that name a path, beside some more
told_step : (c : Way) (kinds : Kinds) (a : Attr) (attrs : List Attr) (k : AttrKind) (b : Bool) → names c a ≡ b
    → ((more : Kinds) → has_kind (kinds_with c more attrs) k ≡ (has_kind more k || list_any (names_as c k) attrs))
    → has_kind (kinds_with c (if b then with_kind kinds a.kind else kinds) attrs) k ≡ (has_kind kinds k || ((b && same_kind a.kind k) || list_any (names_as c k) attrs))
told_step c kinds a attrs k true e rest =
    rest (with_kind kinds a.kind) ∙ (ap (λ x. x || list_any (names_as c k) attrs) (one_more kinds a.kind k) ∙ or_assoc (has_kind kinds k) (same_kind a.kind k) (list_any (names_as c k) attrs))
told_step c kinds a attrs k false e rest = rest kinds

told : (c : Way) (kinds : Kinds) (attrs : List Attr) (k : AttrKind) → has_kind (kinds_with c kinds attrs) k ≡ (has_kind kinds k || list_any (names_as c k) attrs)
told c kinds [] k = sym (or-false (has_kind kinds k))
told c kinds (a ∷ attrs) k = told_step c kinds a attrs k (names c a) refl (λ more. told c more attrs k)

pub marks_tell_kinds : MarksTellKinds
marks_tell_kinds attrs c k = told c no_kinds attrs k ∙ ap (λ b. b || list_any (names_as c k) attrs) (none_has k)
