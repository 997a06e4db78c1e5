-- What is found along the rows of units as they are written.
use Rattle.std.specs.Prelude.{◌≡◌, ℕ, true, false, List, [], ◌∷◌, codes}
use Rattle.tsa_lex.specs.Quick.{quick_tokens_of}
use Rattle.tsa_tree.specs.declared.kind.Kind.TheVariants as type
use Rattle.tsa_tree.specs.types.Texts.{unit_in}
use Rattle.tsa_core_program.specs.Walks.{Lists, lists_in}
use Rattle.tsa_core_program.specs.declared.ranges.BodyRange.{BodyRange}
use Rattle.tsa_core_program.specs.declared.ranges.Range.{Range}

abbrev lists : List ℕ → Lists
lists text = lists_in (unit_in (quick_tokens_of text))

abbrev range : ℕ → ℕ → Range
range from to = record { from = from; to = to }

abbrev body : ℕ → Range → Range → Range → Range → BodyRange
body function nodes kinds stable points = record { function = function; nodes = nodes; kinds = kinds; stable = stable; points = points }

pub record BodiesAreFoundAsWritten : Type 0 where
  pub changed_parameter : lists (codes "int n; void f(int a, int b) { int c; a = n; } void g(void) {}") ≡ record {
    bodies = body 0 (range 4 10) (range 0 1) (range 0 3) (range 0 3) ∷ body 1 (range 11 12) (range 1 1) (range 3 3) (range 3 4) ∷ [];
    kinds = type.Int ∷ [];
    stable = false ∷ true ∷ true ∷ [];
    points = 4 ∷ 6 ∷ 9 ∷ 11 ∷ [];
  }
  pub nameless_parameter : lists (codes "void g(void); unsigned f(int, unsigned w) { for (int i = 0; ; i += 1) g(); }") ≡ record {
    bodies = body 1 (range 3 14) (range 0 1) (range 0 3) (range 0 5) ∷ [];
    kinds = type.Int ∷ [];
    stable = true ∷ true ∷ false ∷ [];
    points = 3 ∷ 6 ∷ 7 ∷ 10 ∷ 13 ∷ [];
  }
