-- A lock function takes, tries or gives back the lock to which its one parameter points.
use Rattle.std.proofs.Common.{◌≡◌, ◌∙◌, ◌⊎◌, inl, inr, ℕ, Bool, true, false, not, ◌&&◌, List, [], ◌∷◌, ◌++◌, Option, Some, None, is_none}
use Rattle.std.proofs.Common.{is_some, refl, sym, ap, subst}
use Rattle.tsa_tree.specs.attributes.Syntax.{Attribute}
use Rattle.tsa_tree.specs.declarations.Syntax.{DeclaredType, Head, Parameter}
use Rattle.tsa_tree.specs.declared.kind.Declaring.TheVariants as declaring
use Rattle.tsa_tree.specs.declared.kind.Kind.{Kind}
use Rattle.tsa_tree.specs.declared.kind.Kind.TheVariants as type
use Rattle.tsa_tree.specs.declared.kind.ThingType.{ThingType}
use Rattle.tsa_tree.specs.declared.meaning.Entry.{Entry}
use Rattle.tsa_tree.specs.declared.premise.Bearer.TheVariants as on
use Rattle.tsa_tree.specs.expressions.Syntax.{Arguments, Expression, Identifier, none, more}
use Rattle.tsa_tree.specs.points.Syntax.{expression_span}
use Rattle.tsa_tree.specs.types.Attributes.{attributes_premises}
use Rattle.tsa_tree.specs.types.DeclaredTypes.{declared_premises, thing_type}
use Rattle.tsa_tree.specs.types.Heads as heads
use Rattle.tsa_tree.specs.types.Heads.{behind_head, behind_known, inside, inside_params, is_another, local_entry, params_premises}
use Rattle.tsa_tree.specs.types.Heads.{with_param}
use Rattle.tsa_tree.specs.types.Premises as types
use Rattle.tsa_tree.specs.types.Runnable.{bare, change_of, gives, has_body, is_lock_function, is_named, is_scalar_kind, is_small}
use Rattle.tsa_tree.specs.types.Runnable.{parameter_named, points_to_lock}
use Rattle.tsa_tree.specs.types.Scopes.{Scope, found, is_named_taken, known_in, with_locals, with_named}
use Rattle.tsa_tree.specs.types.Units.{outset}
use Rattle.tsa_tree.specs.units.Syntax.{UnitItem}
use Rattle.tsa_place_model.specs.LockPaths.{lock_way, stable_in}
use Rattle.tsa_place_model.specs.Ways.{Way}
use Rattle.tsa_place_model.specs.Calls.{Layout}
use Rattle.tsa_core.specs.Programs.{Attr, attr_args, attrs_of, bodied_function, function_of, stable_locals, succeeds}
use Rattle.tsa_core.proofs.BodyScopes.{head_types, kind_kept, small_kept}
use Rattle.tsa_core.proofs.KindTests.{both_true, no_length, not_true}
use Rattle.tsa_core.proofs.NoFailure as typing
use Rattle.tsa_core.proofs.UnitScopes.{declared_told}
use Rattle.tsa_rules.specs.Attributes as rules
use Rattle.tsa_profile_accesses.specs.Premises.{first, premise}
use Rattle.tsa_profile_accesses.specs.declared.premise.ProfileCode.TheVariants.{PF1, PF2, PF7, PF9}
use Rattle.tsa_profile_accesses.specs.declared.standing.Standing.TheVariants.{Inside}
use Rattle.tsa_profile_declarations.specs.Declarations.{argument, attribute_arguments, attribute_premises, is_among, is_call, is_named_once}
use Rattle.tsa_profile_declarations.specs.Declarations.{is_order, misfits, way, ways_behind, with_way}
use Rattle.tsa_profile_guards.proofs.NoneFails.{none_of_both, none_of_first}
use Rattle.tsa_profile_accesses.specs.Expressions.{View, own, parts}
use Rattle.tsa_profile.specs.Units.{unit_of, view_of}
use Rattle.tsa_sound.specs.CallFacts.{IsOutside, first_pointed, of_lock}
use Rattle.tsa_sound_accepted.proofs.called.LockParameters.{known_last, parameter_way}
use Rattle.tsa_sound_accepted.proofs.called.AttributeKinds.{change_is}
use Rattle.tsa_base.proofs.Truths.{never}

record IsPointer (t : ThingType) : Type 0 where
  struct : ℕ
  to_const : Bool
  kind_is : t.kind ≡ type.Pointer struct to_const
  small : is_small t ≡ true

pointer_is : (here : Scope) (kind : Kind) (n : Option ℕ) (c : Bool) → points_to_lock here (record { kind = kind; length = n; is_const = c }) ≡ true
    → IsPointer (record { kind = kind; length = n; is_const = c })
pointer_is here (type.Pointer s d) n c h = record { struct = s; to_const = d; kind_is = refl; small = (both_true _ (not (is_some n)) h).1 }
pointer_is here type.Int n c h = never (sym h)
pointer_is here type.Unsigned n c h = never (sym h)
pointer_is here type.Void n c h = never (sym h)
pointer_is here (type.Structure s) n c h = never (sym h)
pointer_is here type.Null n c h = never (sym h)
pointer_is here type.Function n c h = never (sym h)

small_length : (t : ThingType) → is_small t ≡ true → t.length ≡ None
small_length t h = no_length t.length (not_true (is_some t.length) (both_true (is_scalar_kind t.kind) (not (is_some t.length)) h).1)

none_named : (o : Option Way) → is_none o ≡ false → o ≡ None → ⊥
none_named o h e = never (sym (ap is_none e) ∙ h)

module _ (all : List UnitItem) (here : Scope) (known : List (List Attr)) (with_body : Bool) (owned : here.owned ≡ []) (l : Layout) (name : Identifier)
    (result : DeclaredType)
    (p : Parameter) (a : Attribute)
  where
    abbrev head : Head
    head = record { name = name; result = result; params = p ∷ []; attrs = a ∷ [] }

    abbrev there : Scope
    there = behind_head here head with_body

    abbrev within : Scope
    within = inside here head with_body

    abbrev v : View
    v = view_of (unit_of [] all) known here head with_body

    there_owned : is_some (found here.names name.text) ≡ false → there.owned ≡ []
    there_owned new = by (found here.names name.text) new
      where
        by : (o : Option Entry) → is_some o ≡ false → (behind_known here head with_body o).owned ≡ []
        by None h = owned
        by (Some e) h = never h

    param_new : types.first (heads.head_premises here head with_body) ≡ None → is_named_taken p.name there ≡ false
    unfolding heads.head_premises params_premises
    param_new typed =
        let x = typing.none_of_both (declared_premises here declaring.Result (is_another here head with_body (found here.names name.text)) name.span result)
        (params_premises there 0 (p ∷ []) ++ attributes_premises within on.Function (a ∷ [])) typed in
        let y = typing.none_of_both (params_premises there 0 (p ∷ [])) (attributes_premises within on.Function (a ∷ [])) x.1 in
        let z = typing.none_of_both (declared_premises there declaring.Thing (is_named_taken p.name there) p.span p.ctype)
        (params_premises (with_param 0 p there) 1 []) y.0 in
        (declared_told there declaring.Thing (is_named_taken p.name there) p.span p.ctype z.0).0

    param_known : (nm : Identifier) → p.name ≡ Some nm → is_some (found here.names name.text) ≡ false → is_named_taken p.name there ≡ false
        → known_in within nm.text ≡ Some (local_entry there 0 p.ctype)
    unfolding inside_params
    param_known nm is new free =
        subst (λ o. known_in (with_locals 1 (with_named o (local_entry there 0 p.ctype) there)) nm.text ≡ Some (local_entry there 0 p.ctype)) (sym is)
        (known_last there nm.text (local_entry there 0 p.ctype) 1 (there_owned new) (subst (λ o. is_named_taken o there ≡ false) is free))

    -- the lock that the one attribute names has a path
    path_kept : (x : Expression) → a.args ≡ more x none → is_order a.kind ≡ false
        → first (attribute_premises v (has_body name.text all) (thing_type here result).kind [] [] (a ∷ [])) ≡ None → is_none (lock_way v.stable within x) ≡ false
    unfolding attribute_premises attribute_arguments
    path_kept x args order kept =
        let b = has_body name.text all in
        let r = (thing_type here result).kind in
        let w = none_of_first PF7 a.span (b && misfits r [] a) (attribute_arguments v a.kind [] a.args ++ attribute_premises v b r (a ∷ [])
        (ways_behind v a.kind [] a.args) []) kept in
        let y = none_of_both (attribute_arguments v a.kind [] a.args) (attribute_premises v b r (a ∷ []) (ways_behind v a.kind [] a.args) []) w.1 in
        let z = none_of_both (argument v a.kind [] x) (attribute_arguments v a.kind (with_way (is_named_once a.kind) [] (way v x)) none)
        (subst (λ q. first (attribute_arguments v a.kind [] q) ≡ None) args y.0) in
        let behind = own v Inside false x ++ premise PF9 (expression_span x) (is_named_once a.kind && is_among [] (way v x)) ∷ parts v Inside x in
        let q = none_of_first PF1 (expression_span x) (is_call x) (premise PF2 (expression_span x) (not (is_order a.kind) && is_none (way v x)) ∷ behind) z.0 in
        let s = none_of_first PF2 (expression_span x) (not (is_order a.kind) && is_none (way v x)) behind q.1 in
        sym (ap (λ o. not o && is_none (way v x)) order) ∙ s.0

    record Alone : Type 0 where
      nm : Identifier
      x : Expression
      name_is : p.name ≡ Some nm
      args_are : a.args ≡ more x none
      named : is_named nm.text (bare x) ≡ true

    alone_by : (o : Option Identifier) (args : Arguments) → p.name ≡ o → a.args ≡ args → parameter_named o args ≡ true → Alone
    alone_by None args is same h = never (sym h)
    alone_by (Some nm) none is same h = never (sym h)
    alone_by (Some nm) (more x none) is same h = record { nm = nm; x = x; name_is = is; args_are = same; named = h }
    alone_by (Some nm) (more x (more y rest)) is same h = never (sym h)

    pub lock_outside : bodied_function name.text (outset all) all ≡ None → is_some (found here.names name.text) ≡ false
        → types.first (heads.head_premises here head with_body) ≡ None
        → first (attribute_premises v (has_body name.text all) (thing_type here result).kind [] [] (a ∷ [])) ≡ None → is_lock_function here head ≡ true
        → IsOutside (function_of l (record { here = here; head = head; with_body = with_body }) None) × (rules.is_try a.kind ≡ true
        → (thing_type here result).kind ≡ type.Int)
    unfolding attrs_of attr_args
    lock_outside bodied new typed kept h =
        let r = (thing_type here result).kind in
        let s = both_true (points_to_lock here (thing_type here p.ctype)) (gives (change_of a.kind) r && parameter_named p.name a.args) h in
        let t = both_true (gives (change_of a.kind) r) (parameter_named p.name a.args) s.1 in
        let c = change_is a.kind r t.0 in
        let alone = alone_by p.name a.args refl refl t.1 in
        let small = pointer_is here (thing_type here p.ctype).kind (thing_type here p.ctype).length (thing_type here p.ctype).is_const s.0 in
        let same = head_types here head with_body in
        let kind = kind_kept here there same p.ctype ∙ small.kind_is in
        let one = small_length (thing_type there p.ctype) (small_kept here there same p.ctype ∙ small.small) in
        let stable : v.stable ≡ stable_in (true ∷ []) = ap (λ o. stable_in (stable_locals 1 o)) bodied in
        let there_known = param_known alone.nm alone.name_is new (param_new typed) in
        let some = subst (λ q. is_none (lock_way q within alone.x) ≡ false) stable (path_kept alone.x alone.args_are c.is_no_order kept) in
        let path : lock_way (stable_in (true ∷ [])) within alone.x ≡ Some first_pointed =
        settled (lock_way (stable_in (true ∷ [])) within alone.x) some
        (parameter_way (stable_in (true ∷ [])) within alone.nm.text (thing_type there p.ctype) small.struct small.to_const there_known kind one refl
        alone.x alone.named) in (
          of_lock (record { kind = a.kind; success = succeeds a.success; path = lock_way (stable_in (true ∷ [])) within alone.x }) small.struct small.to_const
              (ap (λ args. attr_args (stable_in (true ∷ [])) within a args ++ []) alone.args_are) path c.changes_it (ap (λ k. k ∷ []) small.kind_is) c.gives_it,
          c.tries_it,
        )
      where
        settled : (o : Option Way) → is_none o ≡ false → (o ≡ None) ⊎ (o ≡ Some first_pointed) → o ≡ Some first_pointed
        settled o some (inl e) = absurd (none_named o some e)
        settled o some (inr e) = e
