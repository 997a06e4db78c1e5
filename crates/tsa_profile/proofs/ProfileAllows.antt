-- No constant pointer of a unit that is in the profile leads to what is guarded.
use Rattle.std.proofs.Common.{◌≡◌, ◌∙◌, ℕ, Bool, true, false, not, ◌||◌, List, [], ◌∷◌, ◌++◌, Option, Some, None, refl, sym, ap}
use Rattle.tsa_base.specs.declared.token.Span.{Span}
use Rattle.tsa_tree.specs.declarations.Syntax.{Initialiser, Initialisers, value, list, no_more, one_more}
use Rattle.tsa_tree.specs.declared.expr.UnaryOp.TheVariants as prefix
use Rattle.tsa_tree.specs.expressions.Syntax.{Expression, number, null, named, call, unary, binary, field, index}
use Rattle.tsa_tree.specs.types.Expressions.{owner}
use Rattle.tsa_tree.specs.types.Globals.{with_global}
use Rattle.tsa_tree.specs.types.Initialisers.{is_constant_place}
use Rattle.tsa_tree.specs.types.Scopes.{Scope, context_of}
use Rattle.tsa_tree.specs.types.Units.{behind_item}
use Rattle.tsa_tree.specs.units.Syntax.{UnitItem, structure_item, alias_item, enumeration_item, global_item, function_item, body_item}
use Rattle.tsa_place_model.specs.declared.place.Placed.{Placed}
use Rattle.tsa_place_model.specs.Calls.{Layout, is_structure, is_addressable}
use Rattle.tsa_core.specs.Programs.{Attr}
use Rattle.tsa_core.specs.Meanings.{meaning}
use Rattle.tsa_core.specs.Uses.{access_guards, field_guards}
use Rattle.tsa_core.proofs.KindTests.{and_true, both_true}
use Rattle.tsa_place_model.specs.Arguments.{way_of}
use Rattle.tsa_place_model.specs.Parts.{no_stable}
use Rattle.tsa_base.proofs.Truths.{never}
use Rattle.tsa_profile_accesses.specs.declared.premise.ProfileCode.{ProfileCode}
use Rattle.tsa_profile_accesses.specs.declared.premise.ProfileCode.TheVariants.{PF3}
use Rattle.tsa_profile_items.specs.Declarations as profile
use Rattle.tsa_profile_items.specs.Declarations.{guard_premises, given_init, init_premises}
use Rattle.tsa_profile_accesses.specs.Expressions.{View, own, parts}
use Rattle.tsa_profile_accesses.specs.Locks.{is_empty}
use Rattle.tsa_profile_accesses.specs.Premises.{Premise, premise, failure_of, first}
use Rattle.tsa_profile_accesses.specs.declared.standing.Standing.TheVariants.{Inside}
use Rattle.tsa_profile_items.specs.Units.{Unit, attributes_behind, view_in, item_premises, items_premises}
use Rattle.tsa_profile.proofs.CellsFit.{Allows}
use Rattle.tsa_profile.proofs.ConstantPlaces.{empty_append, guarded, way_guarded}
use Rattle.tsa_profile.proofs.InitialisersFit.{AllowedInitialiser, AllowedItems, AllowedInit}
use Rattle.tsa_profile.proofs.StartsTyped.{AllowedItem, AllowedAll}
use Rattle.tsa_profile_guards.proofs.Failures.{first_append}
use Rattle.tsa_profile_guards.proofs.NoneFails.{neither_fails}

-- no premise of two lists fails
pub none_of_both : (xs ys : List Premise) → first (xs ++ ys) ≡ None → (first xs ≡ None) × (first ys ≡ None)
none_of_both xs ys h = neither_fails (first xs) (first ys) (sym (first_append xs ys) ∙ h)

holds : (code : ProfileCode) (span : Span) (fails : Bool) → failure_of (premise code span fails) ≡ None → fails ≡ false
holds code span true h = absurd cc
holds code span false h = refl

holds_alone : (code : ProfileCode) (span : Span) (fails : Bool) → first (premise code span fails ∷ []) ≡ None → fails ≡ false
unfolding first
holds_alone code span fails h = holds code span fails (neither_fails (failure_of (premise code span fails)) None h).0

unguarded : (p : Placed) (g : Bool) → g ≡ false → is_structure p.kind ≡ true → p.is_guarded ≡ g → is_addressable p ≡ true
unguarded p g none object is = and_true (is_structure p.kind) (not p.is_guarded) object (ap not (is ∙ none))

neither : (a b : Bool) → (a || b) ≡ false → (a ≡ false) × (b ≡ false)
neither false b h = (refl, h)
neither true b h = never h

nor : (a b : Bool) → a ≡ false → b ≡ false → (a || b) ≡ false
nor false b h k = k
nor true b h k = never h

module _ (u : Unit) where
  abbrev whole : Layout
  whole = u.program.layout

  module _ (known : List (List Attr)) (here : Scope) where
    abbrev v : View
    v = view_in u known here

    -- each address is asked whether its place is guarded, so nothing on the way to a constant place is
    unguarded_way : (n : ℕ) (p is_value : Bool) (e : Expression) → is_constant_place (context_of here) n p e ≡ true → first (own v Inside is_value e) ≡ None → first (parts v Inside e) ≡ None
        → (p ≡ false → guarded whole here e ≡ false) → way_guarded whole here e ≡ false
    unfolding parts access_guards
    unguarded_way n false is_value (named name span) c h k none = none refl
    unguarded_way n false is_value (field base name false span) c h k none =
        let inner = none_of_both (own v Inside false base) (parts v Inside base) k in
        let outer = access_guards whole no_stable here base in
        let its = field_guards whole here (way_of no_stable here false base) name.text (owner false (meaning here base).type) in
        let both = neither (not (is_empty outer)) (not (is_empty its)) (sym (empty_append outer its) ∙ none refl) in
        nor (way_guarded whole here base) (not (is_empty its)) (unguarded_way n false false base c inner.0 inner.1 (λ e. both.0)) both.1
    unguarded_way n false is_value (field base name true span) c h k none =
        let inner = none_of_both (own v Inside true base) (parts v Inside base) k in
        let its = field_guards whole here (way_of no_stable here true base) name.text (owner true (meaning here base).type) in
        nor (way_guarded whole here base) (not (is_empty its)) (unguarded_way n true true base c inner.0 inner.1 (λ e. never e)) (none refl)
    unguarded_way n false is_value (index base at span) c h k none =
        let left = (none_of_both (own v Inside false base ++ parts v Inside base) (own v Inside true at ++ parts v Inside at) k).0 in
        let inner = none_of_both (own v Inside false base) (parts v Inside base) left in
        unguarded_way n false false base (both_true (is_constant_place (context_of here) n false base) _ c).0 inner.0 inner.1 (λ e. none refl)
    unguarded_way n false is_value (unary prefix.Follow inside span) c h k none =
        let inner = none_of_both (own v Inside true inside) (parts v Inside inside) k in
        unguarded_way n true true inside c inner.0 inner.1 (λ e. never e)
    unguarded_way n true is_value (unary prefix.Address inside span) c h k none =
        let inner = none_of_both (own v Inside false inside) (parts v Inside inside) k in
        unguarded_way n false false inside c inner.0 inner.1 (λ e. holds_alone PF3 span (guarded whole here inside) h)
    unguarded_way n false is_value (number m s span) c h k none = never (sym c)
    unguarded_way n false is_value (null span) c h k none = never (sym c)
    unguarded_way n false is_value (call name args span) c h k none = never (sym c)
    unguarded_way n false is_value (unary prefix.Minus inside span) c h k none = never (sym c)
    unguarded_way n false is_value (unary prefix.Not inside span) c h k none = never (sym c)
    unguarded_way n false is_value (unary prefix.Flip inside span) c h k none = never (sym c)
    unguarded_way n false is_value (binary o left right span) c h k none = never (sym c)
    unguarded_way n true is_value (number m s span) c h k none = never (sym c)
    unguarded_way n true is_value (null span) c h k none = never (sym c)
    unguarded_way n true is_value (call name args span) c h k none = never (sym c)
    unguarded_way n true is_value (unary prefix.Minus inside span) c h k none = never (sym c)
    unguarded_way n true is_value (unary prefix.Not inside span) c h k none = never (sym c)
    unguarded_way n true is_value (unary prefix.Flip inside span) c h k none = never (sym c)
    unguarded_way n true is_value (binary o left right span) c h k none = never (sym c)
    unguarded_way n true is_value (named name span) c h k none = never (sym c)
    unguarded_way n true is_value (field base name arrow span) c h k none = never (sym c)
    unguarded_way n true is_value (index base at span) c h k none = never (sym c)
    unguarded_way n true is_value (unary prefix.Follow inside span) c h k none = never (sym c)
    unguarded_way n false is_value (unary prefix.Address inside span) c h k none = never (sym c)

    allows : (e : Expression) → first (own v Inside false e) ≡ None → first (parts v Inside e) ≡ None → Allows is_addressable whole here e
    unfolding parts
    allows (unary prefix.Address inner span) h k = λ n constant p object is.
        let inside = none_of_both (own v Inside false inner) (parts v Inside inner) k in
        unguarded p (way_guarded whole here inner) (unguarded_way n false false inner constant inside.0 inside.1 (λ e. holds_alone PF3 span (guarded whole here inner) h)) object is
    allows (unary prefix.Follow inner span) h k = tt
    allows (unary prefix.Minus inner span) h k = tt
    allows (unary prefix.Not inner span) h k = tt
    allows (unary prefix.Flip inner span) h k = tt
    allows (number n s span) h k = tt
    allows (null span) h k = tt
    allows (named name span) h k = tt
    allows (call callee args span) h k = tt
    allows (binary o left right span) h k = tt
    allows (field base name arrow span) h k = tt
    allows (index base at span) h k = tt

    mutual
      unfolding init_premises profile.item_premises

      pub allowed_initialiser : (i : Initialiser) → first (init_premises (view_in u known here) i) ≡ None → AllowedInitialiser (Allows is_addressable whole here) i
      allowed_initialiser (value e) h =
          let both = none_of_both (own (view_in u known here) Inside false e) (parts (view_in u known here) Inside e) h in
          allows e both.0 both.1
      allowed_initialiser (list items span) h = allowed_items items h

      allowed_items : (items : Initialisers) → first (profile.item_premises (view_in u known here) items) ≡ None → AllowedItems (Allows is_addressable whole here) items
      allowed_items no_more h = tt
      allowed_items (one_more x rest) h =
          let both = none_of_both (init_premises (view_in u known here) x) (profile.item_premises (view_in u known here) rest) h in
          (allowed_initialiser x both.0, allowed_items rest both.1)

  allowed_item : (known behind : List (List Attr)) (here : Scope) (item : UnitItem) → first (item_premises u known behind here item) ≡ None → AllowedItem is_addressable whole here item
  allowed_item known behind here (structure_item tag alias attrs members span) h = tt
  allowed_item known behind here (alias_item name ctype span) h = tt
  allowed_item known behind here (enumeration_item tag alias values span) h = tt
  allowed_item known behind here (function_item head) h = tt
  allowed_item known behind here (body_item head body close) h = tt
  allowed_item known behind here (global_item d) h =
      by d.init (none_of_both (guard_premises (view_in u known (with_global here d)) d.attrs) (given_init (view_in u known (with_global here d)) d.init) h).1
    where
      by : (i : Option Initialiser) → first (given_init (view_in u known (with_global here d)) i) ≡ None → AllowedInit (Allows is_addressable whole (with_global here d)) i
      by None h = tt
      by (Some i) h = allowed_initialiser known (with_global here d) i h

  pub allowed_all : (known : List (List Attr)) (here : Scope) (items : List UnitItem) → first (items_premises u known here items) ≡ None → AllowedAll is_addressable whole here items
  unfolding items_premises
  allowed_all known here [] h = tt
  allowed_all known here (item ∷ rest) h =
      let behind = attributes_behind u known here item in
      let both = none_of_both (item_premises u known behind here item) (items_premises u behind (behind_item here item) rest) h in
      (allowed_item known behind here item both.0, allowed_all behind (behind_item here item) rest both.1)
