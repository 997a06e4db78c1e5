-- The store at the start holds values of the kinds of its cells, and is well-typed in the profile.
use Rattle.std.proofs.Common.{◌≡◌, ◌∙◌, ℕ, zero, suc, Bool, true, false, List, [], ◌∷◌, ◌++◌, Option, Some, None, option_map, unwrap_or}
use Rattle.std.proofs.Common.{slice_get, refl, ap, subst}
use Rattle.std.proofs.lemmas.List.Elements.{All-nil}
use Rattle.tsa_base.specs.declared.value.Value.{Value}
use Rattle.tsa_base.specs.declared.value.Value.TheVariants.{Int, Unsigned, Pointer}
use Rattle.tsa_tree.specs.declarations.Syntax.{Initialiser, Initialisers, value, list, no_more, one_more}
use Rattle.tsa_tree.specs.declared.expr.UnaryOp.TheVariants as prefix
use Rattle.tsa_tree.specs.declared.kind.Kind.{Kind}
use Rattle.tsa_tree.specs.declared.kind.Kind.TheVariants as type
use Rattle.tsa_tree.specs.expressions.Syntax.{Expression, number, null, named, call, unary, binary, field, index}
use Rattle.tsa_tree.specs.types.Globals.{with_global}
use Rattle.tsa_tree.specs.types.Scopes.{Scope}
use Rattle.tsa_tree.specs.types.Units.{outset, behind_item, refusal_of_types}
use Rattle.tsa_tree.specs.units.Sound.{SpellableItems}
use Rattle.tsa_tree.specs.units.Syntax.{UnitItem, structure_item, alias_item, enumeration_item, global_item, function_item, body_item}
use Rattle.tsa_place_model.specs.declared.place.Placed.{Placed}
use Rattle.tsa_place_model.specs.Calls.{Layout, is_structure, is_addressable}
use Rattle.tsa_place_model.specs.Stores.{may_point, is_value_of, start}
use Rattle.tsa_place_model.specs.Leading.{HasPlaces}
use Rattle.tsa_place_model.proofs.GlobalsInRow.{nothing_laid}
use Rattle.tsa_place_model.specs.GlobalPlaces.{no_places}
use Rattle.tsa_core.proofs.LaidScopes.{Fits, MembersFit}
use Rattle.tsa_core.specs.Programs.{program_of}
use Rattle.tsa_path.proofs.StandDeclared.{no_heads}
use Rattle.tsa_profile.specs.Starts.{is_object_of, has_kind, StartValuesHaveTheirKinds, StartsAreWellTyped}
use Rattle.tsa_profile_items.specs.Units as profile
use Rattle.tsa_profile_items.specs.Units.{unit_of, tries_limits, paths_limits}
use Rattle.tsa_profile.proofs.CellsFit.{Allows}
use Rattle.tsa_profile.proofs.EachPlace.{every_at}
use Rattle.tsa_profile.proofs.GoodValues.{may, good, GoodCell}
use Rattle.tsa_profile.proofs.InitialisersFit.{AllowedInitialiser, AllowedItems, AllowedInit}
use Rattle.tsa_profile.proofs.ProfileAllows.{none_of_both, allowed_all}
use Rattle.tsa_profile.proofs.SmallNames.{none_plain}
use Rattle.tsa_profile.proofs.StartsTyped.{AllowedItem, AllowedAll, State, no_structs_data, all_cells}

module _ (free : Placed → Bool) (items : List UnitItem) (l : Layout) where
  pub begins : State free l (outset items) (outset items) no_places
  begins = record {
    alike = record { tags = refl; structs = refl; owned = refl; no_owned = refl; globals = refl; names = λ other. refl };
    out = record { long = refl; count = refl; members = none_defined; names = λ locals. All-nil (Fits no_places locals) };
    laid = nothing_laid;
    heads = no_heads;
    plain = none_plain (outset items) refl refl;
    members = no_structs_data;
    good = tt;
  }
    where
      none_defined : MembersFit no_places (outset items)
      none_defined zero ms e = absurd cc
      none_defined (suc n) ms e = absurd cc

  cell_is_good : SpellableItems items → refusal_of_types items ≡ None → AllowedAll free l (outset items) items → HasPlaces items l → (place : ℕ) (p : Placed) → slice_get l.places place ≡ Some p
      → is_structure p.kind ≡ false → good free l.places p.kind (start l place) ≡ true
  cell_is_good sound typed allowed has place p at plain =
      ap (λ o. good free l.places p.kind (unwrap_or (option_map (λ q. q.initial) o) (Pointer None))) at
      ∙ every_at (GoodCell free l.places) l.places place p (all_cells free l items (outset items) (outset items) no_places begins typed sound allowed has) at plain

-- where a pointer may point anywhere
abbrev any : Placed → Bool
any p = true

module _ (whole : Layout) where
  allows_any : (here : Scope) (e : Expression) → Allows any whole here e
  allows_any here (unary prefix.Address inner span) = λ own constant p object is. refl
  allows_any here (unary prefix.Follow inner span) = tt
  allows_any here (unary prefix.Minus inner span) = tt
  allows_any here (unary prefix.Not inner span) = tt
  allows_any here (unary prefix.Flip inner span) = tt
  allows_any here (number n u span) = tt
  allows_any here (null span) = tt
  allows_any here (named name span) = tt
  allows_any here (call callee args span) = tt
  allows_any here (binary o left right span) = tt
  allows_any here (field base name arrow span) = tt
  allows_any here (index base at span) = tt

  mutual
    any_initialiser : (here : Scope) (i : Initialiser) → AllowedInitialiser (Allows any whole here) i
    any_initialiser here (value e) = allows_any here e
    any_initialiser here (list items span) = any_items here items

    any_items : (here : Scope) (items : Initialisers) → AllowedItems (Allows any whole here) items
    any_items here no_more = tt
    any_items here (one_more x rest) = (any_initialiser here x, any_items here rest)

  any_init : (here : Scope) (i : Option Initialiser) → AllowedInit (Allows any whole here) i
  any_init here None = tt
  any_init here (Some i) = any_initialiser here i

  any_item : (here : Scope) (item : UnitItem) → AllowedItem any whole here item
  any_item here (structure_item tag alias attrs members span) = tt
  any_item here (alias_item name ctype span) = tt
  any_item here (enumeration_item tag alias values span) = tt
  any_item here (global_item d) = any_init (with_global here d) d.init
  any_item here (function_item head) = tt
  any_item here (body_item head body close) = tt

  any_all : (here : Scope) (items : List UnitItem) → AllowedAll any whole here items
  any_all here [] = tt
  any_all here (item ∷ rest) = (any_item here item, any_all (behind_item here item) rest)

object_same : (n : ℕ) (c : Bool) (o : Option Placed) → is_object_of n c o ≡ may any n c o
object_same n c None = refl
object_same n c (Some p) = refl

point_same : (n : ℕ) (c : Bool) (o : Option Placed) → may_point n c o ≡ may is_addressable n c o
point_same n c None = refl
point_same n c (Some p) = refl

kind_same : (l : Layout) (kind : Kind) (v : Value) → has_kind l kind v ≡ good any l.places kind v
kind_same l type.Int (Int z) = refl
kind_same l type.Int (Unsigned n) = refl
kind_same l type.Int (Pointer p) = refl
kind_same l type.Unsigned (Int z) = refl
kind_same l type.Unsigned (Unsigned n) = refl
kind_same l type.Unsigned (Pointer p) = refl
kind_same l (type.Pointer n c) (Int z) = refl
kind_same l (type.Pointer n c) (Unsigned m) = refl
kind_same l (type.Pointer n c) (Pointer None) = refl
kind_same l (type.Pointer n c) (Pointer (Some place)) = object_same n c (slice_get l.places place)
kind_same l (type.Structure n) v = refl
kind_same l type.Void v = refl
kind_same l type.Null v = refl
kind_same l type.Function v = refl

pub value_same : (l : Layout) (kind : Kind) (v : Value) → is_value_of l kind v ≡ good is_addressable l.places kind v
value_same l type.Int (Int z) = refl
value_same l type.Int (Unsigned n) = refl
value_same l type.Int (Pointer p) = refl
value_same l type.Unsigned (Int z) = refl
value_same l type.Unsigned (Unsigned n) = refl
value_same l type.Unsigned (Pointer p) = refl
value_same l (type.Pointer n c) (Int z) = refl
value_same l (type.Pointer n c) (Unsigned m) = refl
value_same l (type.Pointer n c) (Pointer None) = refl
value_same l (type.Pointer n c) (Pointer (Some place)) = point_same n c (slice_get l.places place)
value_same l (type.Structure n) v = refl
value_same l type.Void v = refl
value_same l type.Null v = refl
value_same l type.Function v = refl

pub start_values_have_their_kinds : StartValuesHaveTheirKinds
start_values_have_their_kinds items l sound typed has place p at plain =
    kind_same l p.kind (start l place) ∙ cell_is_good any items l sound typed (any_all l (outset items) items) has place p at plain

-- the layout of the core program is that of the places
pub layout_is : (items : List UnitItem) (l : Layout) → HasPlaces items l → (program_of items).layout ≡ l
unfolding program_of
layout_is items l has = has

pub starts_are_well_typed : StartsAreWellTyped
starts_are_well_typed items l sound typed profiled has place p at plain =
    let u = unit_of [] items in
    let told =
    none_of_both (profile.items_premises u [] (outset items) items) (tries_limits u [] (outset items) items ++ paths_limits u [] (outset items) items) profiled in
    value_same l p.kind (start l place)
    ∙ cell_is_good is_addressable items l sound typed
    (subst (λ whole. AllowedAll is_addressable whole (outset items) items) (layout_is items l has) (allowed_all u [] (outset items) items told.0)) has place p at plain
