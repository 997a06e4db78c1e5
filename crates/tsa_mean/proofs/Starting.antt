-- First states are starts.
use Rattle.std.proofs.Common.{◌≡◌, ◌∙◌, ℕ, zero, suc, Bool, true, false, ◌||◌, List, [], ◌∷◌, length, map, Some, None, option_map}
use Rattle.std.proofs.Common.{All, slice_get, slice_index_or, refl, ap, sym, subst}
use Rattle.std.specs.List.{list_all}
use Rattle.std.specs.Prelude.{unwrap_or}
use Rattle.tsa_base.specs.declared.value.Value.TheVariants.{Pointer}
use Rattle.tsa_base.proofs.Truths.{both}
use Rattle.tsa_place_model.specs.Calls.{is_structure, Layout}
use Rattle.tsa_place_model.specs.declared.place.Placed.{Placed}
use Rattle.tsa_place_model.specs.Stores.{is_value_of, IsWellTyped, start}
use Rattle.tsa_core.specs.Programs.{Program}
use Rattle.tsa_mean.specs.Laws.{FirstStatesAreStarts}
use Rattle.tsa_mean.specs.Sound.{Opening}
use Rattle.tsa_mean.specs.Starts.{Begin, BeginsWell, first_state}

-- the first store
stands : (places : List Placed) (place : ℕ) → unwrap_or (option_map (λ p. p.initial) (slice_get places place)) (Pointer None) ≡ slice_index_or (map (λ p. p.initial) places) place (Pointer None)
stands [] place = refl
stands (p ∷ places) zero = refl
stands (p ∷ places) (suc place) = stands places place

is_initial : (places : List Placed) (place : ℕ) (p : Placed) → slice_get places place ≡ Some p → slice_index_or (map (λ p. p.initial) places) place (Pointer None) ≡ p.initial
is_initial [] place p is = absurd cc
is_initial (q ∷ places) zero p is = ap (λ x. unwrap_or (option_map (λ p. p.initial) x) (Pointer None)) is
is_initial (q ∷ places) (suc place) p is = is_initial places place p is

same_length : (places : List Placed) → length (map (λ p. p.initial) places) ≡ length places
same_length [] = refl
same_length (p ∷ places) = ap suc (same_length places)

abbrev first_opening : (u : Program) (begins : List Begin) → All (BeginsWell u) begins → IsWellTyped u.layout (start u.layout) → Opening u (first_state u begins)
first_opening u begins well typed = record {
  begins = begins;
  well = well;
  threads = refl;
  locks = refl;
  whole = same_length u.layout.places;
  typed = λ place p is cell. subst (λ v. is_value_of u.layout p.kind v ≡ true) (stands u.layout.places place) (typed place p is cell);
  consts = λ place p is cell const. is_initial u.layout.places place p is;
}

pub first_states_are_starts : FirstStatesAreStarts
first_states_are_starts = record {
  opening = first_opening;
  start = λ u begins well ask_nothing typed. record { opening = first_opening u begins well typed; ask_nothing = ask_nothing };
}

-- a store that is well-typed place by place
abbrev pub fits : Layout → Placed → Bool
fits l p = is_structure p.kind || is_value_of l p.kind p.initial

fits_there : (l : Layout) (places : List Placed) (place : ℕ) (p : Placed) → list_all (fits l) places ≡ true → slice_get places place ≡ Some p → fits l p ≡ true
fits_there l [] place p e is = absurd cc
fits_there l (q ∷ places) zero p e is = let same : q ≡ p = cc in ap (fits l) (sym same) ∙ (both (fits l q) (list_all (fits l) places) e).0
fits_there l (q ∷ places) (suc place) p e is = fits_there l places place p (both (fits l q) (list_all (fits l) places) e).1 is

cell_fits : (l : Layout) (p : Placed) → fits l p ≡ true → is_structure p.kind ≡ false → is_value_of l p.kind p.initial ≡ true
cell_fits l p = by (is_structure p.kind)
  where
    by : (b : Bool) → (b || is_value_of l p.kind p.initial) ≡ true → b ≡ false → is_value_of l p.kind p.initial ≡ true
    by true e is = absurd cc
    by false e is = e

pub well_typed : (l : Layout) → list_all (fits l) l.places ≡ true → IsWellTyped l (start l)
well_typed l e place p is cell = subst (λ v. is_value_of l p.kind v ≡ true) (sym (stands l.places place ∙ is_initial l.places place p is))
    (cell_fits l p (fits_there l l.places place p e is) cell)
