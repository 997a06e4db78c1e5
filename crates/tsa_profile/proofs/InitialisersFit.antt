-- What a typed initialiser gives to a cell is a value of its kind.
use Rattle.std.proofs.Common.{◌≡◌, ◌∙◌, ℕ, zero, suc, ◌<◌, arith, true, List, [], ◌∷◌, drop, map, Option, Some, None, slice_get, refl, sym}
use Rattle.std.proofs.Common.{ap}
use Rattle.tsa_tree.specs.declarations.Sound.{SoundInit, SoundInitialisers}
use Rattle.tsa_tree.specs.declarations.Syntax.{Initialiser, Initialisers, value, list, no_more, one_more}
use Rattle.tsa_tree.specs.declared.kind.Kind.TheVariants as type
use Rattle.tsa_tree.specs.declared.kind.ThingType.{ThingType}
use Rattle.tsa_tree.specs.declared.premise.TypeCode.TheVariants.{TY9}
use Rattle.tsa_tree.specs.expressions.Syntax.{Expression}
use Rattle.tsa_tree.specs.expressions.Sound.{Words}
use Rattle.tsa_tree.specs.types.Globals.{global_init}
use Rattle.tsa_tree.specs.types.Initialisers.{elements, parts_of, is_misfit, or_no_parts, initialiser_premises, list_premises}
use Rattle.tsa_tree.specs.types.Premises.{first}
use Rattle.tsa_tree.specs.types.Scopes.{Scope, Members}
use Rattle.tsa_tree.specs.types.Types.{single}
use Rattle.tsa_place_model.specs.Places.{item_at, item_of}
use Rattle.tsa_core.proofs.NoFailure.{none_of_both, none_of_first}
use Rattle.tsa_profile.proofs.GoodValues.{is_data}

-- what is asked of the expressions of an initialiser
abbrev mutual
  pub AllowedInitialiser : (Expression → Type 0) → Initialiser → Type 0
  AllowedInitialiser Allowed (value e) = Allowed e
  AllowedInitialiser Allowed (list items span) = AllowedItems Allowed items

  pub AllowedItems : (Expression → Type 0) → Initialisers → Type 0
  AllowedItems Allowed no_more = Unit {0}
  AllowedItems Allowed (one_more first rest) = AllowedInitialiser Allowed first × AllowedItems Allowed rest

abbrev pub AllowedInit : (Expression → Type 0) → Option Initialiser → Type 0
AllowedInit Allowed None = Unit {0}
AllowedInit Allowed (Some i) = AllowedInitialiser Allowed i

-- an initialiser of a thing, in the initialiser of the global of a number
pub record Fit (here : Scope) (own : ℕ) (words : Words) (Allowed : Expression → Type 0) (t : ThingType) (init : Option Initialiser) : Type 0 where
  pub declared : is_data t.kind ≡ true
  pub premises : first (global_init here own t init) ≡ None
  pub sound : SoundInit words init
  pub allowed : AllowedInit Allowed init

drop_one : {A : Type 0} (xs : List A) (k : ℕ) → slice_get (drop 1 xs) k ≡ slice_get xs (suc k)
drop_one [] k = refl
drop_one (x ∷ xs) k = refl

elements_at : (n k : ℕ) (t : ThingType) → k < n → slice_get (elements n t) k ≡ Some t
elements_at zero k t h = absurd (omega (arith, h))
elements_at (suc n) zero t h = refl
elements_at (suc n) (suc k) t h = elements_at n k t (omega (arith, h))

module _ (here : Scope) (own : ℕ) (words : Words) (Allowed : Expression → Type 0) where
  abbrev F : ThingType → Option Initialiser → Type 0
  F t init = Fit here own words Allowed t init

  no_item : (t : ThingType) → is_data t.kind ≡ true → F t None
  unfolding first
  no_item t is = record { declared = is; premises = refl; sound = tt; allowed = tt }

  items_fit : (types : List ThingType) (items : Initialisers) (k : ℕ) (t : ThingType) → slice_get types k ≡ Some t → is_data t.kind ≡ true
      → first (list_premises here own types items) ≡ None → SoundInitialisers words items → AllowedItems Allowed items → F t (item_at items k)
  unfolding list_premises
  items_fit types no_more k t e is h sound allowed = no_item t is
  items_fit types (one_more x rest) zero t e is h sound allowed = record {
    declared = is;
    premises = ap (λ o. first (initialiser_premises here own o x)) (sym e) ∙ (none_of_both (initialiser_premises here own (slice_get types 0) x) (list_premises here own (drop 1 types) rest) h).0;
    sound = sound.0;
    allowed = allowed.0;
  }
  items_fit types (one_more x rest) (suc k) t e is h sound allowed =
      items_fit (drop 1 types) rest k t (drop_one types k ∙ e) is
      (none_of_both (initialiser_premises here own (slice_get types 0) x) (list_premises here own (drop 1 types) rest) h).1 sound.1 allowed.1

  list_told : (t : ThingType) (items : Initialisers) (span : _) (types : List ThingType) → parts_of here (Some t) ≡ Some types
      → first (initialiser_premises here own (Some t) (list items span)) ≡ None → first (list_premises here own types items) ≡ None
  unfolding initialiser_premises
  list_told t items span types e h =
      ap (λ o. first (list_premises here own (or_no_parts o) items)) (sym e)
      ∙ (none_of_first TY9 span (is_misfit (parts_of here (Some t)) items) (list_premises here own (or_no_parts (parts_of here (Some t))) items) h).1

  item_fits : (t u : ThingType) (k : ℕ) (init : Option Initialiser) (types : List ThingType) → parts_of here (Some t) ≡ Some types → slice_get types k ≡ Some u → is_data u.kind ≡ true
      → F t init → F u (item_of init k)
  item_fits t u k None types e at is fit = no_item u is
  item_fits t u k (Some (value x)) types e at is fit = no_item u is
  item_fits t u k (Some (list items span)) types e at is fit = items_fit types items k u at is (list_told t items span types e fit.premises) fit.sound fit.allowed

  pub element_fits : (t : ThingType) (n k : ℕ) (init : Option Initialiser) → t.length ≡ Some n → k < n → F t init → F (single t.kind t.is_const) (item_of init k)
  element_fits t n k init long less fit =
      let parts : parts_of here (Some t) ≡ Some (elements n (single t.kind t.is_const)) = rw long refl in
      item_fits t (single t.kind t.is_const) k init (elements n (single t.kind t.is_const)) parts (elements_at n k (single t.kind t.is_const) less) fit.declared fit

  pub member_fits : (t : ThingType) (n k : ℕ) (u : ThingType) (ms : Members) (init : Option Initialiser) → t.length ≡ None → t.kind ≡ type.Structure n → slice_get here.structs n ≡ Some ms
      → slice_get (map (λ m. m.1) ms) k ≡ Some u → is_data u.kind ≡ true → F t init → F u (item_of init k)
  member_fits t n k u ms init one kind is at real fit =
      let parts : parts_of here (Some t) ≡ Some (map (λ m. m.1) ms) = rw (one, kind, is) refl in
      item_fits t u k init (map (λ m. m.1) ms) parts at real fit
