-- Threads begin well with which good words say that they begin.
use Rattle.std.specs.Prelude.{◌≡◌, ℕ, List, None}
use Rattle.tsa_tree.specs.types.Units.{refusal_of_types}
use Rattle.tsa_tree.specs.units.Sound.{SpellableItems}
use Rattle.tsa_tree.specs.units.Syntax.{UnitItem}
use Rattle.tsa_place_model.specs.Calls.{Layout}
use Rattle.tsa_place_model.specs.Leading.{HasPlaces}
use Rattle.tsa_core.specs.Programs.{program_of}
use Rattle.tsa_mean.specs.Starts.{Begin, AsksNothing, BeginsWell}
use Rattle.tsa_profile.specs.Units.{refusal_of_profile}
use Rattle.tsa_tool_starts.specs.Starts.{IsGoodWord}

-- A thread begins with a function that has a body, with values of its parameters' types, and nothing is asked of its caller.
pub record GoodWordsBeginWell : Type 0 where
  pub well : (items : List UnitItem) (l : Layout) (word : List ℕ) (b : Begin) → SpellableItems items → refusal_of_types items ≡ None → refusal_of_profile items ≡ None
      → HasPlaces items l → IsGoodWord items l word b → BeginsWell (program_of items) b
  pub asks_nothing : (items : List UnitItem) (l : Layout) (word : List ℕ) (b : Begin) → HasPlaces items l → IsGoodWord items l word b → AsksNothing (program_of items) b
  -- a word says one start
  pub one : (items : List UnitItem) (l : Layout) (word : List ℕ) (b c : Begin) → IsGoodWord items l word b → IsGoodWord items l word c → b ≡ c
