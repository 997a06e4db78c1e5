-- The places of points, worked out.
use Rattle.std.proofs.Common.{◌≡◌, ℕ, List, map, take, refl, subst}
use Rattle.tsa_base.specs.Places.{line_at, column_at}
use Rattle.tsa_lex.specs.Quick.{quick_tokens_of}
use Rattle.tsa_lex.proofs.Quick.{tokens_are}
use Rattle.tsa_tree.specs.types.Texts.{unit_in}
use Rattle.tsa_mean.specs.TracePlaces.{first_places, places, places_of, PointsStandAtTheirPlaces}
use Rattle.tsa_mean.proofs.RunExamples.{turned}

all_places : (text : List ℕ) (expected : List (List (ℕ × ℕ))) → places_of text (unit_in (quick_tokens_of text)) ≡ expected → places text ≡ expected
unfolding places
all_places text expected same = subst (λ tokens. places_of text (unit_in tokens) ≡ expected) (tokens_are text) same

some_places : (n : ℕ) (text : List ℕ) (expected : List (List (ℕ × ℕ))) → map (take n) (places_of text (unit_in (quick_tokens_of text))) ≡ expected → first_places n text ≡ expected
unfolding places first_places
some_places n text expected same = subst (λ tokens. map (take n) (places_of text (unit_in tokens)) ≡ expected) (tokens_are text) same

pub points_stand_at_their_places : PointsStandAtTheirPlaces
unfolding turned line_at column_at
points_stand_at_their_places = record {
  of_a_locked_write = all_places _ _ refl;
  of_an_unlocked_write = all_places _ _ refl;
  of_a_transfer = some_places _ _ _ refl;
  of_an_overflow = some_places _ _ _ refl;
  of_a_division = some_places _ _ _ refl;
  of_null = some_places _ _ _ refl;
  of_an_index = some_places _ _ _ refl;
  of_a_deep_call = some_places _ _ _ refl;
  of_a_question = some_places _ _ _ refl;
  of_a_try = all_places _ _ refl;
  of_takings = some_places _ _ _ refl;
}
