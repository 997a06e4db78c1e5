-- The first failing node of a unit, and the smallest code that fails there: by it a unit is refused, and a unit without one is typed.
use Rattle.std.specs.Prelude.{◌≡◌, ℕ, nat_lt, true, false, List, [], ◌∷◌, ◌++◌, Option, Some, None, if◌then◌else◌}
use Rattle.tsa_tree.specs.units.Syntax.{UnitItem}
use Rattle.tsa_tree.specs.declared.premise.TypeCode.{TypeCode}
use Rattle.tsa_tree.specs.declared.premise.TypeCode.TheVariants.{TY1, TY2, TY3, TY4, TY5, TY6, TY7, TY8, TY9}
use Rattle.tsa_tree.specs.types.Fails.{fails}
use Rattle.tsa_tree.specs.types.Node.{Node, told_at}
use Rattle.tsa_tree.specs.types.Nodes.{nodes}
use Rattle.tsa_tree.specs.types.Premises.{Failure, or_else}
use Rattle.tsa_tree.specs.types.Units.{refusal_of_types}

-- the codes in order
abbrev pub codes_in_order : List TypeCode
codes_in_order = TY1 ∷ TY2 ∷ TY3 ∷ TY4 ∷ TY5 ∷ TY6 ∷ TY7 ∷ TY8 ∷ TY9 ∷ []

-- what is told of a node by a code, where it fails there
abbrev pub failure_by : TypeCode → Node → Option Failure
failure_by code n = if fails code n then Some (record { code = code; span = told_at n }) else None

-- the first of some codes that fails at a node
unfoldable pub failure_at : List TypeCode → Node → Option Failure
failure_at [] n = None
failure_at (code ∷ rest) n = or_else (failure_by code n) (failure_at rest n)

-- the first of some nodes at which a code fails
unfoldable pub first_failing_of : List Node → Option Failure
first_failing_of [] = None
first_failing_of (n ∷ rest) = or_else (failure_at codes_in_order n) (first_failing_of rest)

-- the first failing node of a unit
abbrev pub first_failing : List UnitItem → Option Failure
first_failing items = first_failing_of (nodes items)

-- What "first" says: no code fails at a node ..
abbrev pub Keeps : Node → Type 0
Keeps n = (code : TypeCode) → fails code n ≡ false

-- .. or at none of some nodes ..
abbrev pub AllKeep : List Node → Type 0
AllKeep [] = Unit {0}
AllKeep (n ∷ rest) = Keeps n × AllKeep rest

-- .. the number of a code, by which one is smaller than another ..
abbrev pub number_of_code : TypeCode → ℕ
number_of_code TY1 = 1
number_of_code TY2 = 2
number_of_code TY3 = 3
number_of_code TY4 = 4
number_of_code TY5 = 5
number_of_code TY6 = 6
number_of_code TY7 = 7
number_of_code TY8 = 8
number_of_code TY9 = 9

-- .. and a failure is that of one of some nodes: its code fails there, no smaller one does, and no code fails at a node before.
pub record IsFirstFailing (all : List Node) (failure : Failure) : Type 0 where
  pub before : List Node
  pub failing : Node
  pub behind : List Node
  pub parts : all ≡ before ++ failing ∷ behind
  pub kept : AllKeep before
  pub fails_there : fails failure.code failing ≡ true
  pub smaller : (code : TypeCode) → nat_lt (number_of_code code) (number_of_code failure.code) ≡ true → fails code failing ≡ false
  pub span : failure.span ≡ told_at failing

-- what a failure, or none, says of some nodes
abbrev pub Tells : List Node → Option Failure → Type 0
Tells all None = AllKeep all
Tells all (Some failure) = IsFirstFailing all failure

-- a unit is refused by its first failing node, and no node of another one fails
abbrev pub FirstFailingIsFirst : Type 0
FirstFailingIsFirst = (items : List UnitItem) → Tells (nodes items) (first_failing items)

-- the premises of a unit, each with whether it fails, tell the same in their order
abbrev pub PremisesTellIt : Type 0
PremisesTellIt = (items : List UnitItem) → first_failing items ≡ refusal_of_types items
