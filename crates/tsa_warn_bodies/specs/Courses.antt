-- What is known in front of an item of a unit, with the parameters of the functions that are declared, by their numbers.
use Rattle.std.specs.Prelude.{◌≡◌, ℕ, List, [], ◌∷◌, ◌++◌, map, slice_get, unwrap_or}
use Rattle.tsa_tree.specs.declarations.Syntax.{Parameter}
use Rattle.tsa_tree.specs.units.Syntax.{UnitItem}
use Rattle.tsa_core.specs.Programs.{Declared, declared_by}
use Rattle.tsa_rules_bodies.specs.Knowing.{Knowledge, behind, outset_of}
use Rattle.tsa_profile_context.specs.Units.{Unit, unit_of}

pub record Course : Type 0 where
  pub known : Knowledge
  pub firsts : List (List Parameter)

abbrev pub params_by : Declared → List Parameter
params_by d = d.head.params

-- in front of the first item nothing is declared
abbrev pub course_outset : Unit → Course
course_outset u = record { known = outset_of u; firsts = [] }

-- the parameters of what an item declares for the first time are known with it
abbrev pub with_first : Course → UnitItem → Course
with_first c item = record { known = c.known; firsts = c.firsts ++ map params_by (declared_by c.known.here item) }

abbrev pub course_behind : Unit → Course → UnitItem → Course
course_behind u c item = record { known = behind u c.known item; firsts = c.firsts ++ map params_by (declared_by c.known.here item) }

unfoldable pub course_along : Unit → Course → List UnitItem → Course
course_along u c [] = c
course_along u c (item ∷ rest) = course_along u (course_behind u c item) rest

-- those of a function by its number, as it is declared first
abbrev pub first_params : Course → (function : ℕ) → List Parameter
first_params c n = unwrap_or (slice_get c.firsts n) []

-- It is what is known in front of the items of a unit that are left.
pub record IsInFrontOf (items rest : List UnitItem) (c : Course) : Type 0 where
  pub front : List UnitItem
  pub whole : items ≡ front ++ rest
  pub is : c ≡ course_along (unit_of [] items) (course_outset (unit_of [] items)) front
