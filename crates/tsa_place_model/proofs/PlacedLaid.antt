-- The places of a unit that has no more than it may have are those of its items.
use Rattle.std.proofs.Common.{◌≡◌, List, [], ◌∷◌, Option, Some, None, Result, Ok}
use Rattle.tsa_base.specs.declared.token.Span.{Span}
use Rattle.tsa_tree.specs.types.Scopes.{Scope}
use Rattle.tsa_tree.specs.types.Units.{outset}
use Rattle.tsa_tree.specs.units.Syntax.{UnitItem}
use Rattle.tsa_place_model.specs.Calls.{Layout}
use Rattle.tsa_place_model.specs.Items.{behind_data}
use Rattle.tsa_place_model.specs.GlobalPlaces.{no_places}
use Rattle.tsa_place_model.specs.Leading.{PlacedUnitsAreLaid}
use Rattle.tsa_place_model.specs.Units.{data_placed, too_many_at, laid_behind, or_behind, placed_behind}

the_layout : (l m : Layout) → ◌≡◌ {A = Result Layout Span} (Ok l) (Ok m) → l ≡ m
the_layout l m e = cc

-- no declarator at which there are too many stands before what is laid out
pub within_limit : (o : Option Span) (found : Result Layout Span) (m : Layout) → or_behind o found ≡ Ok m → found ≡ Ok m
within_limit None found m e = e
within_limit (Some span) found m e = absurd cc

pub placed_are_laid : (items : List UnitItem) (here : Scope) (l m : Layout) → placed_behind here l items ≡ Ok m → laid_behind here l items ≡ m
unfolding placed_behind laid_behind
placed_are_laid [] here l m e = the_layout l m e
placed_are_laid (item ∷ rest) here l m e =
    let found = placed_behind (behind_data here item) (data_placed here l item) rest in
    placed_are_laid rest (behind_data here item) (data_placed here l item) m (within_limit (too_many_at here l item) found m e)

pub placed_units_are_laid : PlacedUnitsAreLaid
placed_units_are_laid items l e = placed_are_laid items (outset items) no_places l e
