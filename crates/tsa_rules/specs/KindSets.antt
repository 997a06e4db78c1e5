-- Sets of kinds of attributes, by the bits of their numbers.
use Rattle.std.specs.Prelude.{◌≡◌, ℕ, ◌^◌, nat_eq, Bool, true, false, ◌||◌, bit_or}
use Rattle.std.specs.Int.{bit_at}
use Rattle.tsa_tree.specs.declared.attr.AttrKind.{AttrKind}
use Rattle.tsa_tree.specs.declared.attr.AttrKind.TheVariants as attr
use Rattle.tsa_rules.specs.declared.kinds.Kinds.{Kinds}

abbrev pub kind_number : AttrKind → ℕ
kind_number attr.Capability = 0
kind_number attr.GuardedBy = 1
kind_number attr.Requires = 2
kind_number attr.RequiresShared = 3
kind_number attr.Acquire = 4
kind_number attr.AcquireShared = 5
kind_number attr.Release = 6
kind_number attr.ReleaseShared = 7
kind_number attr.ReleaseGeneric = 8
kind_number attr.TryAcquire = 9
kind_number attr.TryAcquireShared = 10
kind_number attr.Excludes = 11
kind_number attr.AcquiredBefore = 12
kind_number attr.AcquiredAfter = 13

abbrev pub same_kind : AttrKind → AttrKind → Bool
same_kind j k = nat_eq (kind_number j) (kind_number k)

abbrev pub no_kinds : Kinds
no_kinds = record { bits = 0 }

-- whether a kind is in a set, and a set with one kind more
unfoldable pub has_kind : Kinds → AttrKind → Bool
has_kind kinds k = nat_eq (bit_at kinds.bits (kind_number k)) 1

unfoldable pub with_kind : Kinds → AttrKind → Kinds
with_kind kinds k = record { bits = bit_or kinds.bits (2 ^ kind_number k) }

pub record KindsAreSets : Type 0 where
  pub none : (k : AttrKind) → has_kind no_kinds k ≡ false
  pub one_more : (kinds : Kinds) (j k : AttrKind) → has_kind (with_kind kinds j) k ≡ (has_kind kinds k || same_kind j k)
  pub told_apart : (j k : AttrKind) → same_kind j k ≡ true → j ≡ k
