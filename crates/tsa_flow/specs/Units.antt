-- What walks bring to the points of all functions of a unit, by their numbers; and what is told of them while the items are gone through.
use Rattle.std.specs.Prelude.{◌≡◌, ℕ, List, [], Option, Some, None, slice_get}
use Rattle.tsa_tree.specs.units.Syntax.{UnitItem}
use Rattle.tsa_place_model.specs.Ways.{Way}
use Rattle.tsa_core.specs.Programs.{Function, program_of}
use Rattle.tsa_rules_bodies.specs.Entering.{IsOf}
use Rattle.tsa_rules_bodies.specs.Knowing.{Knowledge}
use Rattle.tsa_rules_bodies.specs.Laws.{StandsFor}
use Rattle.tsa_rules_bodies.specs.Paths.{paths_if}
use Rattle.tsa_rules_bodies.specs.Sites.{Site, site_among, site_of}
use Rattle.tsa_profile_context.specs.Units.{unit_of}
use Rattle.tsa_rules_bodies.specs.declared.inside.Inside.{Inside}
use Rattle.tsa_flow_function.specs.declared.function.FunctionFlow.{FunctionFlow}
use Rattle.tsa_flow_function.specs.Numbers.{IsFlowIn}

-- that of a number, where one is kept
abbrev pub or_none : Option (Option FunctionFlow) → Option FunctionFlow
or_none None = None
or_none (Some flow) = flow

abbrev pub told_at : List (Option FunctionFlow) → ℕ → Option FunctionFlow
told_at flows n = or_none (slice_get flows n)

-- what is told of the function of a number is what walks bring there
abbrev pub IsTold : List UnitItem → List (Option FunctionFlow) → ℕ → Type 0
IsTold items flows n = IsFlowIn (program_of items) (slice_get (program_of items).functions n) (told_at flows n)

-- of all functions of a unit
abbrev pub AreTold : List UnitItem → List (Option FunctionFlow) → Type 0
AreTold items flows = (n : ℕ) → IsTold items flows n

-- a function is told, or its body is the first among the items that are left
pub data IsAhead (items : List UnitItem) (k : Knowledge) (rest : List UnitItem) (flows : List (Option FunctionFlow)) (n : ℕ) : Type 0 where
  told : IsTold items flows n → IsAhead items k rest flows n
  left : told_at flows n ≡ None → site_among (unit_of [] items) k.attributes k.here rest n ≡ site_of items n → IsAhead items k rest flows n

abbrev pub AreAhead : List UnitItem → Knowledge → List UnitItem → List (Option FunctionFlow) → Type 0
AreAhead items k rest flows = (n : ℕ) → IsAhead items k rest flows n

-- a function is told, or the body that is entered is its first
pub data IsNext (items : List UnitItem) (k : Knowledge) (i : Inside) (flows : List (Option FunctionFlow)) (n : ℕ) : Type 0 where
  told : IsTold items flows n → IsNext items k i flows n
  here : (s : Site) → told_at flows n ≡ None → site_of items n ≡ Some s → IsOf (unit_of [] items) n s k i → IsNext items k i flows n

-- the body that is entered is that of a function with some paths
pub record IsBodyOf (items : List UnitItem) (n : ℕ) (paths : List Way) (k : Knowledge) (i : Inside) : Type 0 where
  pub function : Function
  pub site : Site
  pub is_there : slice_get (program_of items).functions n ≡ Some function
  pub has_paths : paths_if (program_of items) function ≡ Some paths
  pub is_of : IsOf (unit_of [] items) n site k i
  pub stands : StandsFor items n function site

-- one number is told, and all others stay
pub record Puts (flows : List (Option FunctionFlow)) (n : ℕ) (flow : FunctionFlow) (new : List (Option FunctionFlow)) : Type 0 where
  pub own : told_at new n ≡ Some flow
  pub others : (m : ℕ) → (m ≡ n → ⊥) → told_at new m ≡ told_at flows m
