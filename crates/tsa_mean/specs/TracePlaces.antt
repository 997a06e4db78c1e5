-- Where the points of worked runs stand in their texts: the line and the column of each, from 1.
use Rattle.std.specs.Prelude.{◌≡◌, ℕ, List, [], ◌∷◌, map, take, codes}
use Rattle.tsa_base.specs.Places.{line_at, column_at}
use Rattle.tsa_base.specs.Tokens.{tokens_of}
use Rattle.tsa_tree.specs.points.Syntax.{PlacedDeed, points_of_body}
use Rattle.tsa_tree.specs.types.Texts.{unit_in}
use Rattle.tsa_tree.specs.units.Syntax.{UnitItem, body_item}
use Rattle.tsa_mean.specs.Traces.{a_question, a_try, bank, locked_write, taken_twice, unlocked_write}

-- the points of each body of a unit
abbrev pub bodies_in : List UnitItem → List (List PlacedDeed)
bodies_in [] = []
bodies_in (body_item head body close ∷ rest) = points_of_body body close ∷ bodies_in rest
bodies_in (item ∷ rest) = bodies_in rest

abbrev pub place : List ℕ → PlacedDeed → ℕ × ℕ
place text point = (line_at text point.span.from, column_at text point.span.from)

abbrev pub places_of : List ℕ → List UnitItem → List (List (ℕ × ℕ))
places_of text items = map (map (place text)) (bodies_in items)

unfoldable pub places : List ℕ → List (List (ℕ × ℕ))
places text = places_of text (unit_in (tokens_of text))

-- the first points of each body
unfoldable pub first_places : (points : ℕ) (text : List ℕ) → List (List (ℕ × ℕ))
first_places n text = map (take n) (places text)

pub record PointsStandAtTheirPlaces : Type 0 where
  pub of_a_locked_write : places locked_write ≡ ((6, 16) ∷ (6, 26) ∷ (6, 33) ∷ (6, 43) ∷ []) ∷ []
  pub of_an_unlocked_write : places unlocked_write ≡ ((6, 16) ∷ (6, 23) ∷ []) ∷ []
  pub of_a_transfer : first_places 3 bank ≡ ((10, 7) ∷ (11, 3) ∷ (12, 3) ∷ []) ∷ []
  pub of_an_overflow : first_places 2 (codes "void w(void) { int x = 2147483647; x = x + 1; }") ≡ ((1, 20) ∷ (1, 36) ∷ []) ∷ []
  pub of_a_division : first_places 1 (codes "void w(void) { int x = 1 / 0; }") ≡ ((1, 20) ∷ []) ∷ []
  pub of_null : first_places 1 (codes "struct s { int v; }; void w(struct s *p) { p->v = 1; }") ≡ ((1, 44) ∷ []) ∷ []
  pub of_an_index : first_places 1 (codes "int a[2]; void w(int i) { a[i] = 1; }") ≡ ((1, 27) ∷ []) ∷ []
  pub of_a_deep_call : first_places 1 (codes "void w(void) { w(); }") ≡ ((1, 16) ∷ []) ∷ []
  pub of_a_question : first_places 4 a_question ≡ ((7, 20) ∷ (7, 32) ∷ (7, 42) ∷ (7, 53) ∷ []) ∷ []
  -- the last one is the end, at the brace
  pub of_a_try : places a_try ≡ ((10, 7) ∷ (11, 7) ∷ (11, 13) ∷ (11, 20) ∷ (12, 1) ∷ []) ∷ []
  pub of_takings : first_places 5 taken_twice ≡ ((6, 16) ∷ (6, 26) ∷ (6, 36) ∷ (6, 43) ∷ (6, 53) ∷ []) ∷ []
