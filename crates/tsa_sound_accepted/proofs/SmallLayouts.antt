-- A unit that has no more places than it may have has at most 65,536 of them.
use Rattle.std.proofs.Common.{◌≡◌, ◌∙◌, ◌+◌, ◌≤◌, arith, Bool, true, false, List, [], ◌∷◌, length, Option, Some, None, Result, Ok}
use Rattle.std.proofs.Common.{refl, sym, subst}
use Rattle.std.proofs.lemmas.Bool.Decides.{nat_tests}
use Rattle.tsa_base.specs.declared.token.Span.{Span}
use Rattle.tsa_tree.specs.declarations.Syntax.{Declaration}
use Rattle.tsa_tree.specs.types.Scopes.{Scope}
use Rattle.tsa_tree.specs.types.Units.{outset}
use Rattle.tsa_tree.specs.units.Syntax.{UnitItem, structure_item, alias_item, enumeration_item, global_item, function_item, body_item}
use Rattle.tsa_place_model.specs.Calls.{Layout}
use Rattle.tsa_place_model.specs.Items.{known_global, global_part, behind_data}
use Rattle.tsa_place_model.specs.GlobalPlaces.{given_by, no_places, passes, values_in, with_part}
use Rattle.tsa_place.proofs.Fitting.{as_many}
use Rattle.tsa_place_model.specs.Layouts.{size_of, thing_size}
use Rattle.tsa_place_model.specs.Units.{data_placed, or_behind, placed_behind, too_many_at}
use Rattle.tsa_sound_accepted.specs.entered.Laws.{LayoutsAreSmall}

abbrev Fits : Layout → Type 0
Fits l = length l.places ≤ 65536

-- a global whose places don't pass the limit
global_fits : (here : Scope) (d : Declaration) (l : Layout) → passes l (global_part here d) ≡ false
    → Fits (with_part (known_global here d) (global_part here d) d.init l)
global_fits here d l h =
    let part = global_part here d in
    let after = with_part (known_global here d) part d.init l in
    let long : length after.places ≡ length l.places + thing_size (size_of l.structs) part.thing =
    as_many l.structs (values_in (known_global here d) l) (given_by part (length l.globals) d.init) (length l.places) part.thing l.places after.places refl in
    grind (arith, nat_tests, h, long)

-- what comes behind an item at which there aren't too many
behind : (o : Option Span) (found : Result Layout Span) (m : Layout) → or_behind o found ≡ Ok m → (o ≡ None) × (found ≡ Ok m)
behind None found m h = (refl, h)
behind (Some span) found m h = absurd cc

not_passed : (here : Scope) (d : Declaration) (l : Layout) → too_many_at here l (global_item d) ≡ None → passes l (global_part here d) ≡ false
not_passed here d l h = by (passes l (global_part here d)) refl
  where
    by : (b : Bool) → passes l (global_part here d) ≡ b → b ≡ false
    by false e = refl
    by true e = absurd (never (sym (rw e refl) ∙ h))
      where
        never : (◌≡◌ {A = Option Span} (Some d.span) None) → ⊥
        never g = cc

item_fits : (here : Scope) (l : Layout) (item : UnitItem) → Fits l → too_many_at here l item ≡ None → Fits (data_placed here l item)
item_fits here l (global_item d) fits h = global_fits here d l (not_passed here d l h)
item_fits here l (structure_item tag alias attrs members span) fits h = fits
item_fits here l (alias_item text ctype span) fits h = fits
item_fits here l (enumeration_item tag alias values span) fits h = fits
item_fits here l (function_item head) fits h = fits
item_fits here l (body_item head body close) fits h = fits

all_fit : (here : Scope) (l m : Layout) (items : List UnitItem) → Fits l → placed_behind here l items ≡ Ok m → Fits m
unfolding placed_behind
all_fit here l m [] fits h = let same : l ≡ m = cc in subst Fits same fits
all_fit here l m (item ∷ rest) fits h =
    let b = behind (too_many_at here l item) (placed_behind (behind_data here item) (data_placed here l item) rest) m h in
    all_fit (behind_data here item) (data_placed here l item) m rest (item_fits here l item fits b.0) b.1

pub layouts_are_small : LayoutsAreSmall
layouts_are_small items l placed =
    let fits : Fits l = all_fit (outset items) no_places l items (omega arith) placed in
    omega (arith, fits)
