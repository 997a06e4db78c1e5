-- Functions without bodies have the shapes that the laws of calls ask, and what tries gives an `int`.
use Rattle.std.proofs.Common.{◌≡◌, ◌∙◌, ◌⊎◌, inl, inr, ℕ, Bool, true, false, not, ◌&&◌, ◌||◌, List, [], ◌∷◌, ◌++◌, length, All, Option}
use Rattle.std.proofs.Common.{Some, None, is_some, refl, sym, ap, subst}
use Rattle.std.proofs.lemmas.List.Elements.{All-head, All-tail}
use Rattle.std.proofs.lemmas.List.Folds.{list_any-append}
use Rattle.std.specs.List.{list_any}
use Rattle.tsa_tree.specs.attributes.Syntax.{Attribute}
use Rattle.tsa_tree.specs.declarations.Syntax.{DeclaredType, Head, Parameter}
use Rattle.tsa_tree.specs.declared.kind.Kind.{Kind}
use Rattle.tsa_tree.specs.declared.kind.Kind.TheVariants as type
use Rattle.tsa_tree.specs.expressions.Syntax.{Arguments, Identifier, none, more}
use Rattle.tsa_tree.specs.types.DeclaredTypes.{thing_type}
use Rattle.tsa_tree.specs.types.Heads as heads
use Rattle.tsa_tree.specs.types.Heads.{inside}
use Rattle.tsa_tree.specs.types.Premises as types
use Rattle.tsa_tree.specs.types.Runnable.{first_runs, has_body, is_environment, is_lock_function, kind_runs, leaves_all, takes_integers}
use Rattle.tsa_tree.specs.types.Runnable.{is_generic}
use Rattle.tsa_tree.specs.types.Scopes.{Scope, found}
use Rattle.tsa_tree.specs.types.Units.{outset}
use Rattle.tsa_tree.specs.units.Syntax.{UnitItem}
use Rattle.tsa_place_model.specs.LockPaths.{stable_in}
use Rattle.tsa_place_model.specs.Ways.{Way}
use Rattle.tsa_place_model.specs.Calls.{Layout}
use Rattle.tsa_core.specs.Programs.{Attr, Bodied, Declared, attr_args, attrs_of, bodied_function, function_of, stable_locals}
use Rattle.tsa_core.proofs.KindTests.{both_true, neither, one_of}
use Rattle.tsa_rules.specs.Attributes as rules
use Rattle.tsa_profile_accesses.specs.Locks as seen
use Rattle.tsa_profile_accesses.specs.Premises.{first}
use Rattle.tsa_profile_accesses.specs.declared.premise.ProfileCode.TheVariants.{PF6, PF7}
use Rattle.tsa_profile_declarations.specs.Declarations.{attribute_arguments, attribute_premises, is_int, is_nothing, misfits}
use Rattle.tsa_profile_declarations.specs.Declarations.{param_premises, tries_otherwise, ways_behind}
use Rattle.tsa_profile_guards.proofs.NoneFails.{none_of_both, none_of_first}
use Rattle.tsa_profile_accesses.specs.Expressions.{View}
use Rattle.tsa_profile.specs.Units.{unit_of, view_of}
use Rattle.tsa_profile.proofs.HeadsRun.{head_stands}
use Rattle.tsa_sound.specs.CallFacts.{IsOutside, of_environment}
use Rattle.tsa_sound_accepted.proofs.called.CallTypes.{clash}
use Rattle.tsa_sound_accepted.proofs.called.Declarations.{First, bodied_is}
use Rattle.tsa_sound_accepted.proofs.called.AttributeKinds.{Leaves, attrs_leave, no_change_no_try, number_given, same_test}
use Rattle.tsa_sound_accepted.proofs.called.LockFunctions.{lock_outside}
use Rattle.tsa_base.proofs.Truths.{never}

module _ (all : List UnitItem) (here : Scope) (known : List (List Attr)) (with_body : Bool) (owned : here.owned ≡ []) (l : Layout) where
  -- a function without a body
  abbrev Shapes : Head → Type 0
  Shapes head =
      IsOutside (function_of l (record { here = here; head = head; with_body = with_body }) None)
      × (list_any (λ x. rules.is_try x.kind) (function_of l (record { here = here; head = head; with_body = with_body }) None).attrs ≡ true
      → (thing_type here head.result).kind ≡ type.Int)

  no_try : (attrs : List Attr) → All Leaves attrs → list_any (λ x. rules.is_try x.kind) attrs ≡ false
  no_try [] h = refl
  no_try (x ∷ rest) h =
      ap (λ b. b || list_any (λ y. rules.is_try y.kind) rest) (no_change_no_try x.kind (All-head Leaves x rest h))
      ∙ no_try rest (All-tail Leaves x rest h)

  environment_outside : (head : Head) → is_environment here head ≡ true → Shapes head
  environment_outside head h =
      let x = both_true (leaves_all head.attrs) _ h in
      let y = both_true (takes_integers here head.params) _ x.1 in
      let stable = stable_in (stable_locals (length head.params) None) in
      let left = attrs_leave stable (inside here head with_body) head.attrs x.0 in (
        of_environment left (number_given (thing_type here head.result).kind y.1),
        λ t. clash _ t (no_try (attrs_of stable (inside here head with_body) head.attrs) left),
      )

  -- of one attribute there is no other kind
  one_kind : (stable : ℕ → Bool) (scope : Scope) (a : Attribute) (args : Arguments)
      → list_any (λ x. rules.is_try x.kind) (attr_args stable scope a args) ≡ true → rules.is_try a.kind ≡ true
  unfolding attr_args
  one_kind stable scope a none h = never (sym h)
  one_kind stable scope a (more x rest) h = one_of (rules.is_try a.kind) _ h (λ t. t) (λ t. one_kind stable scope a rest t)

  one_attribute : (stable : ℕ → Bool) (scope : Scope) (a : Attribute) (rest : List Attribute)
      → list_any (λ x. rules.is_try x.kind) (attrs_of stable scope (a ∷ rest)) ≡ true
      → (rules.is_try a.kind ≡ true) ⊎ (list_any (λ x. rules.is_try x.kind) (attrs_of stable scope rest) ≡ true)
  unfolding attrs_of
  one_attribute stable scope a rest h =
      one_of (list_any (λ x. rules.is_try x.kind) (attr_args stable scope a a.args)) (list_any (λ x. rules.is_try x.kind) (attrs_of stable scope rest))
      (sym (list_any-append (λ x. rules.is_try x.kind) (attr_args stable scope a a.args) (attrs_of stable scope rest)) ∙ h)
      (λ t. inl (one_kind stable scope a a.args t)) (λ t. inr t)

  no_attribute : {A : Type 0} (stable : ℕ → Bool) (scope : Scope) → list_any (λ x. rules.is_try x.kind) (attrs_of stable scope []) ≡ true → A
  unfolding attrs_of
  no_attribute stable scope h = never (sym h)

  lock_shapes : (name : Identifier) (result : DeclaredType) (params : List Parameter) (attrs : List Attribute) → bodied_function name.text (outset all) all ≡ None
      → is_some (found here.names name.text) ≡ false → types.first (heads.head_premises here
      (record { name = name; result = result; params = params; attrs = attrs }) with_body) ≡ None
      → first (attribute_premises (view_of (unit_of [] all) known here (record { name = name; result = result; params = params; attrs = attrs }) with_body)
      (has_body name.text all)
      (thing_type here result).kind [] [] attrs) ≡ None
      → is_lock_function here (record { name = name; result = result; params = params; attrs = attrs }) ≡ true
      → Shapes (record { name = name; result = result; params = params; attrs = attrs })
  lock_shapes name result (p ∷ []) (a ∷ []) bodied new typed kept h =
      let x = lock_outside all here known with_body owned l name result p a bodied new typed kept h in
      let stable = stable_in (stable_locals 1 None) in
      let scope = inside here (record { name = name; result = result; params = p ∷ []; attrs = a ∷ [] }) with_body in
      (x.0, λ t. by stable scope (one_attribute stable scope a [] t) x.1)
    where
      by : (stable : ℕ → Bool) (scope : Scope) → (rules.is_try a.kind ≡ true) ⊎ (list_any (λ x. rules.is_try x.kind) (attrs_of stable scope []) ≡ true)
          → (rules.is_try a.kind ≡ true → (thing_type here result).kind ≡ type.Int) → (thing_type here result).kind ≡ type.Int
      by stable scope (inl t) f = f t
      by stable scope (inr t) f = no_attribute stable scope t
  lock_shapes name result [] attrs bodied new typed kept h = never (sym h)
  lock_shapes name result (p ∷ []) [] bodied new typed kept h = never (sym h)
  lock_shapes name result (p ∷ []) (a ∷ (b ∷ rest)) bodied new typed kept h = never (sym h)
  lock_shapes name result (p ∷ (q ∷ rest)) attrs bodied new typed kept h = never (sym h)

  -- a function with a body that tries gives an `int`
  int_result : (kind : Kind) → is_int kind ≡ true → kind ≡ type.Int
  int_result type.Int h = refl
  int_result type.Unsigned h = never (sym h)
  int_result type.Void h = never (sym h)
  int_result (type.Structure n) h = never (sym h)
  int_result (type.Pointer n c) h = never (sym h)
  int_result type.Null h = never (sym h)
  int_result type.Function h = never (sym h)

  tries_int : (v : View) (result : Kind) (before : List Attribute) (ways : List Way) (attrs : List Attribute) (stable : ℕ → Bool) (scope : Scope)
      → first (attribute_premises v true result before ways attrs) ≡ None → list_any (λ x. rules.is_try x.kind) (attrs_of stable scope attrs) ≡ true
      → result ≡ type.Int
  unfolding attribute_premises
  tries_int v result before ways [] stable scope h t = no_attribute stable scope t
  tries_int v result before ways (a ∷ rest) stable scope h t =
      let more_premises = attribute_premises v true result (before ++ a ∷ []) (ways_behind v a.kind ways a.args) rest in
      let x = none_of_first PF7 a.span (misfits result before a) (attribute_arguments v a.kind ways a.args ++ more_premises) h in
      let y = none_of_both (attribute_arguments v a.kind ways a.args) more_premises x.1 in
      by (one_attribute stable scope a rest t) (neither (is_generic a.kind) _ x.0).1
      (λ u. tries_int v result (before ++ a ∷ []) (ways_behind v a.kind ways a.args) rest stable scope y.1 u)
    where
      of_try : (b c d : Bool) → b ≡ true → (b && (not c || d)) ≡ false → c ≡ true
      of_try true true d e f = refl
      of_try true false d e f = never f
      of_try false c d e f = never (sym e)

      by : (rules.is_try a.kind ≡ true) ⊎ (list_any (λ x. rules.is_try x.kind) (attrs_of stable scope rest) ≡ true)
          → (seen.is_try a.kind && (not (is_int result) || list_any (tries_otherwise a) before)) ≡ false
          → (list_any (λ x. rules.is_try x.kind) (attrs_of stable scope rest) ≡ true → result ≡ type.Int) → result ≡ type.Int
      by (inl u) g later = int_result result (of_try (seen.is_try a.kind) (is_int result) (list_any (tries_otherwise a) before) (sym (same_test a.kind) ∙ u) g)
      by (inr u) g later = later u

-- What a first declaration says of its function, with a body and without one.
module _ (all : List UnitItem) (l : Layout) (d : Declared) (f : First all d) where
  abbrev seen_by : View
  seen_by = view_of (unit_of [] all) f.known d.here d.head d.with_body

  abbrev result : Kind
  result = (thing_type d.here d.head.result).kind

  abbrev b : Bool
  b = has_body d.head.name.text all

  asked : (is_nothing [] d.here d.head b ≡ false) × (first (attribute_premises seen_by b result [] [] d.head.attrs) ≡ None)
  asked =
      let x = none_of_first PF6 d.head.name.span (is_nothing [] d.here d.head b)
      (param_premises d.here d.head.params ++ attribute_premises seen_by b result [] [] d.head.attrs) f.kept in
      (x.0, (none_of_both (param_premises d.here d.head.params) (attribute_premises seen_by b result [] [] d.head.attrs) x.1).1)

  stands_alone : b ≡ false → (is_lock_function d.here d.head || is_environment d.here d.head) ≡ true
  stands_alone missing =
      let runs = head_stands all d.here seen_by d.head f.kept in
      let firsts = (both_true (first_runs all d.here d.head (is_some (found d.here.names d.head.name.text))) _ runs).0 in
      subst (λ x. kind_runs d.here d.head x ≡ true) missing (subst (λ x. first_runs all d.here d.head x ≡ true) f.new firsts)

  shapes : bodied_function d.head.name.text (outset all) all ≡ None → Shapes all d.here f.known d.with_body f.owned l d.head
  shapes missing =
      one_of (is_lock_function d.here d.head) (is_environment d.here d.head) (stands_alone (bodied_is d.head.name.text (outset all) all ∙ ap is_some missing))
      (λ h. lock_shapes all d.here f.known d.with_body f.owned l d.head.name d.head.result d.head.params d.head.attrs missing f.new f.typed asked.1 h)
      (λ h. environment_outside all d.here f.known d.with_body f.owned l d.head h)

  pub outside_by : (o : Option Bodied) → bodied_function d.head.name.text (outset all) all ≡ o → (function_of l d o).body ≡ None → IsOutside (function_of l d o)
  outside_by None is h = (shapes is).0
  outside_by (Some x) is h = absurd cc

  pub int_by : (o : Option Bodied) → bodied_function d.head.name.text (outset all) all ≡ o → list_any (λ x. rules.is_try x.kind) (function_of l d o).attrs ≡ true
      → (function_of l d o).result ≡ type.Int
  int_by None is h = (shapes is).1 h
  int_by (Some x) is h =
      let true_one : b ≡ true = bodied_is d.head.name.text (outset all) all ∙ ap is_some is in
      tries_int all d.here f.known d.with_body f.owned l seen_by result [] [] d.head.attrs (stable_in (stable_locals (length d.head.params) (Some x)))
      (inside d.here d.head d.with_body)
      (subst (λ y. first (attribute_premises seen_by y result [] [] d.head.attrs) ≡ None) true_one asked.1) h
