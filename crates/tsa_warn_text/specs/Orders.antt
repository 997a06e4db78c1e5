-- The order in which the paths of a function are told, by their numbers.
use Rattle.std.specs.Prelude.{◌≡◌, ◌≢◌, ◌<◌, ◌↔◌, ◌⊎◌, ℕ, List, length, map, Some, slice_get}
use Rattle.tsa_place_model.specs.Ways.{Way}
use Rattle.tsa_path.specs.PathTexts.{Names, path_text}
use Rattle.tsa_rules.specs.Warnings.{StandsBefore, locals_in}
use Rattle.tsa_warn_text.specs.Ranks.{PathText, rank_in}

-- A number is told before another where its path stands before the other's, by its text or by the locals that it mentions; and where both
-- paths have the same text and mention the same locals, where it is the lower one.
pub data IsToldBefore (names : Names) (paths : List Way) (a b : ℕ) : Type 0 where
  by_path : (c d : Way) → slice_get paths a ≡ Some c → slice_get paths b ≡ Some d → StandsBefore names c d → IsToldBefore names paths a b
  by_number : (c d : Way) → slice_get paths a ≡ Some c → slice_get paths b ≡ Some d → path_text names c ≡ path_text names d → locals_in c ≡ locals_in d → a < b → IsToldBefore names paths a b

-- what paths are told by, in a function that sees such names
abbrev pub text_of : Names → Way → PathText
text_of names c = record { text = path_text names c; locals = locals_in c }

abbrev pub texts_of : Names → List Way → List PathText
texts_of names paths = map (text_of names) paths

-- Of two different numbers of paths one is told before the other, but not both, and what is told before another is told before all that
-- follow it.
abbrev pub OneIsToldFirst : Type 0
OneIsToldFirst = (names : Names) (paths : List Way) (a b : ℕ) → a < length paths → b < length paths → a ≢ b → IsToldBefore names paths a b ⊎ IsToldBefore names paths b a

abbrev pub NotBothAreToldFirst : Type 0
NotBothAreToldFirst = (names : Names) (paths : List Way) (a b : ℕ) → IsToldBefore names paths a b → ¬ (IsToldBefore names paths b a)

abbrev pub OrderIsTransitive : Type 0
OrderIsTransitive = (names : Names) (paths : List Way) (a b c : ℕ) → IsToldBefore names paths a b → IsToldBefore names paths b c → IsToldBefore names paths a c

-- The rank of a number is below that of another just where its path is told before.
abbrev pub RanksFollowTheOrder : Type 0
RanksFollowTheOrder = (names : Names) (paths : List Way) (a b : ℕ) → a < length paths → b < length paths
    → (rank_in (texts_of names paths) a < rank_in (texts_of names paths) b ↔ IsToldBefore names paths a b)
