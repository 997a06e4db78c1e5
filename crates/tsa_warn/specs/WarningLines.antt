-- The lines of the warnings of a unit, body by body, and how many they are.
use Rattle.std.specs.Prelude.{◌≡◌, ℕ, ◌+◌, List, [], ◌∷◌, ◌++◌, length, Some, slice_get}
use Rattle.std.specs.List.{flat_map}
use Rattle.tsa_tree.specs.units.Syntax.{UnitItem}
use Rattle.tsa_core.specs.Programs.{Function, Program, program_of}
use Rattle.tsa_path.specs.PathTexts.{Names}
use Rattle.tsa_warn_text.specs.Orders.{texts_of}
use Rattle.tsa_warn_function.specs.declared.failure.RuleFailure.{RuleFailure}
use Rattle.tsa_warn_function.specs.Orders.{AreToldInOrder}
use Rattle.tsa_warn_bodies.specs.Bodies.{BodyText, bodies_of, names_of}
use Rattle.tsa_warn_function.specs.Paths.{paths_of}
use Rattle.tsa_warn.specs.Lines.{warning_line}

pub record Warned : Type 0 where
  pub text : List ℕ
  pub count : ℕ

abbrev pub no_lines : Warned
no_lines = record { text = []; count = 0 }

abbrev pub both : Warned → Warned → Warned
both v w = record { text = v.text ++ w.text; count = v.count + w.count }

-- the lines of rules that fail in a body for paths of its function
abbrev pub lines_of : (bytes : List ℕ) → Program → Function → Names → BodyText → List RuleFailure → Warned
lines_of bytes u f names b failures = record {
  text = flat_map (warning_line bytes u f (paths_of u f) (texts_of names (paths_of u f)) b) failures;
  count = length failures;
}

-- Of a body they are those of all rules that fail in its function for its paths, in order: by the point, the number of the rule, and the
-- path.
pub record IsBodyWarned (bytes : List ℕ) (items : List UnitItem) (b : BodyText) (w : Warned) : Type 0 where
  pub function : Function
  pub is_there : slice_get (program_of items).functions b.number ≡ Some function
  pub failures : List RuleFailure
  pub told : AreToldInOrder (names_of items b.number) (program_of items) function (paths_of (program_of items) function) failures
  pub lines : w ≡ lines_of bytes (program_of items) function (names_of items b.number) b failures

-- Of some bodies they are those of each, one body after another.
abbrev pub AreWarned : (bytes : List ℕ) → List UnitItem → List BodyText → Warned → Type 0
AreWarned bytes items [] w = w ≡ no_lines
AreWarned bytes items (b ∷ bodies) w = (v : Warned) × (rest : Warned) × IsBodyWarned bytes items b v × AreWarned bytes items bodies rest × (w ≡ both v rest)

-- Of a unit they are those of its bodies, in order of the text.
abbrev pub IsWarned : (bytes : List ℕ) → List UnitItem → Warned → Type 0
IsWarned bytes items w = AreWarned bytes items (bodies_of items) w
