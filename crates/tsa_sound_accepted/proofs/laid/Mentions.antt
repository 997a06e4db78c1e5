-- The locals that the paths of lock expressions mention: those that their names stand for, and that never change.
use Rattle.std.proofs.Common.{◌≡◌, ◌∙◌, ℕ, Bool, true, false, ◌&&◌, List, [], ◌∷◌, ◌++◌, Option, Some, None, option_map, option_and_then}
use Rattle.std.proofs.Common.{refl, subst}
use Rattle.tsa_tree.specs.declared.expr.UnaryOp.TheVariants as prefix
use Rattle.tsa_tree.specs.declared.kind.ThingType.{ThingType}
use Rattle.tsa_tree.specs.declared.meaning.Entry.{Entry}
use Rattle.tsa_tree.specs.declared.meaning.Meaning.{Meaning}
use Rattle.tsa_tree.specs.declared.meaning.Meaning.TheVariants as known
use Rattle.tsa_tree.specs.expressions.Syntax.{Expression, number, null, named, call, unary, binary, field, index}
use Rattle.tsa_tree.specs.types.DeclaredTypes.{value_in}
use Rattle.tsa_tree.specs.types.Operands.{integer_kind}
use Rattle.tsa_tree.specs.types.Scopes.{Scope, context_of, known_in}
use Rattle.tsa_place_model.specs.LockPaths as path
use Rattle.tsa_place_model.specs.LockPaths.{Led, as_lock, element_step, in_range, index_step, is_address, is_pointer, leads, lock_way}
use Rattle.tsa_place_model.specs.LockPaths.{meant, member_step, name_way, or_variable, to_member}
use Rattle.tsa_tree.specs.types.Lookups.{numbered}
use Rattle.tsa_place_model.specs.Ways.{Way, from, onward}
use Rattle.tsa_place_model.specs.declared.path.PathStep.{PathStep}
use Rattle.tsa_place_model.specs.declared.path.PathStep.TheVariants.{Constant, Field, Follow, Variable}
use Rattle.tsa_place_model.specs.declared.path.Root.{Root}
use Rattle.tsa_place_model.specs.declared.path.Root.TheVariants.{Global, Local, Owner}
use Rattle.tsa_core.proofs.TypedTerms.{some_same}
use Rattle.tsa_path.proofs.ArgumentPaths.{bound, chosen, either}
use Rattle.tsa_path.proofs.StepsBehind.{element_by, member_by, pointed_by}

module _ (Fine : ℕ → Type 0) where
  abbrev pub IsFineStep : PathStep → Type 0
  IsFineStep (Variable n) = Fine n
  IsFineStep (Field k) = Unit {0}
  IsFineStep (Constant k) = Unit {0}
  IsFineStep Follow = Unit {0}

  abbrev pub AreFine : List PathStep → Type 0
  AreFine [] = Unit {0}
  AreFine (step ∷ rest) = IsFineStep step × AreFine rest

  abbrev pub IsFineRoot : Root → Type 0
  IsFineRoot (Local n) = Fine n
  IsFineRoot (Global n) = Unit {0}
  IsFineRoot Owner = Unit {0}

  -- all locals that a path mentions are fine
  abbrev pub IsFine : Way → Type 0
  IsFine w = IsFineRoot w.root × AreFine w.steps

  abbrev pub IsFineIfAny : Option Way → Type 0
  IsFineIfAny None = Unit {0}
  IsFineIfAny (Some w) = IsFine w

  pub both_fine : (a b : List PathStep) → AreFine a → AreFine b → AreFine (a ++ b)
  both_fine [] b h g = g
  both_fine (step ∷ a) b h g = (h.0, both_fine a b h.1 g)

  onward_fine : (w : Way) (step : PathStep) → IsFine w → IsFineStep step → IsFine (onward step w)
  onward_fine w step h g = (h.0, both_fine w.steps (step ∷ []) h.1 (g, tt))

  module _ (stable : ℕ → Bool) (here : Scope) (fine : (name : List ℕ) (e : Entry) (k : ℕ) → known_in here name ≡ Some e → e.meaning ≡ known.Local k → stable k ≡ true → Fine k) where
    meant_fine : (b : Bool) (o : Option Led) (d : Led) → ((x : Led) → o ≡ Some x → IsFine x.way) → meant b o ≡ Some d → IsFine d.way
    meant_fine false o d h e = h d e
    meant_fine true None d h e = absurd cc
    meant_fine true (Some x) d h e =
        let f = pointed_by x.way x.thing.kind x.thing.length x.thing.is_const x.is_stable d e in
        subst (λ y. IsFine y.way) f.led_is (onward_fine x.way Follow (h x refl) tt)

    owned_fine : (o : Option (ℕ × ThingType)) (d : Led) → to_member (from Owner) o ≡ Some d → IsFine d.way
    owned_fine None d e = absurd cc
    owned_fine (Some m) d e = subst (λ y. IsFine y.way) (some_same e) (tt, (tt, tt))

    entry_fine : (name : List ℕ) (m : Meaning) (t : ThingType) (d : Led) → known_in here name ≡ Some (record { meaning = m; thing = t })
        → name_way stable here name (record { meaning = m; thing = t }) ≡ Some d → IsFine d.way
    entry_fine name (known.Global n) t d e f = subst (λ y. IsFine y.way) (some_same f) (tt, tt)
    entry_fine name (known.Local n) t d e f =
        let x = either (stable n) _ d f in
        subst (λ y. IsFine y.way) x.1 (fine name (record { meaning = known.Local n; thing = t }) n e refl x.0, tt)
    entry_fine name known.Owned t d e f = owned_fine (numbered here.owned name 0) d f
    entry_fine name (known.Function n) t d e f = absurd cc
    entry_fine name (known.Constant z) t d e f = absurd cc
    entry_fine name known.TypeName t d e f = absurd cc

    name_fine : (name : List ℕ) (o : Option Entry) (d : Led) → known_in here name ≡ o → option_and_then (name_way stable here name) o ≡ Some d → IsFine d.way
    name_fine name None d e f = absurd cc
    name_fine name (Some x) d e f = entry_fine name x.meaning x.thing d e f

    -- indices
    variable_fine : (name : List ℕ) (m : Meaning) (t : ThingType) (step : PathStep) → known_in here name ≡ Some (record { meaning = m; thing = t })
        → path.variable stable (Some (record { meaning = m; thing = t })) ≡ Some step → IsFineStep step
    variable_fine name (known.Local n) t step e f =
        let x = either (stable n && integer_kind t.kind) (Variable n) step f in
        subst IsFineStep x.1 (fine name (record { meaning = known.Local n; thing = t }) n e refl (first (stable n) (integer_kind t.kind) x.0))
      where
        first : (a b : Bool) → (a && b) ≡ true → a ≡ true
        first true b h = refl
        first false b h = h
    variable_fine name (known.Global n) t step e f = absurd cc
    variable_fine name (known.Function n) t step e f = absurd cc
    variable_fine name known.Owned t step e f = absurd cc
    variable_fine name (known.Constant z) t step e f = absurd cc
    variable_fine name known.TypeName t step e f = absurd cc

    named_fine : (name : List ℕ) (o : Option Entry) (step : PathStep) → known_in here name ≡ o → path.variable stable o ≡ Some step → IsFineStep step
    named_fine name None step e f = absurd cc
    named_fine name (Some x) step e f = variable_fine name x.meaning x.thing step e f

    or_fine : (at : Expression) (step : PathStep) → or_variable stable here at None ≡ Some step → IsFineStep step
    or_fine (named name span) step f = named_fine name.text (known_in here name.text) step refl f
    or_fine (number n u span) step f = absurd cc
    or_fine (null span) step f = absurd cc
    or_fine (call callee args span) step f = absurd cc
    or_fine (unary o inner span) step f = absurd cc
    or_fine (binary o left right span) step f = absurd cc
    or_fine (field base name arrow span) step f = absurd cc
    or_fine (index base at span) step f = absurd cc

    index_fine : (count : ℕ) (at : Expression) (step : PathStep) → index_step stable here count at ≡ Some step → IsFineStep step
    index_fine count at step f = by (in_range count (value_in (context_of here) at)) refl f
      where
        by : (o : Option PathStep) → in_range count (value_in (context_of here) at) ≡ o → or_variable stable here at o ≡ Some step → IsFineStep step
        by None e f = or_fine at step f
        by (Some s) e f = let c = chosen count (value_in (context_of here) at) s e in subst IsFineStep (c.step_is ∙ some_same f) tt

    field_fine : (name : List ℕ) (x d : Led) → IsFine x.way → member_step here name x ≡ Some d → IsFine d.way
    field_fine name x d h e =
        let i = member_by here name x.way x.thing.kind x.thing.length x.thing.is_const x.is_stable d e in
        subst (λ y. IsFine y.way) i.led_is (onward_fine x.way (Field i.number) h tt)

    element_fine : (at : Expression) (x d : Led) → IsFine x.way → element_step stable here at x ≡ Some d → IsFine d.way
    element_fine at x d h e =
        let i = element_by stable here at x.way x.thing.kind x.thing.length x.thing.is_const x.is_stable d e in
        subst (λ y. IsFine y.way) i.led_is (onward_fine x.way i.step h (index_fine i.count at i.step i.step_is))

    pub leads_fine : (as_pointer : Bool) (e : Expression) (d : Led) → leads stable here as_pointer e ≡ Some d → IsFine d.way
    unfolding leads
    leads_fine p (named name span) d e =
        meant_fine p (option_and_then (name_way stable here name.text) (known_in here name.text)) d (λ x f. name_fine name.text (known_in here name.text) x refl f) e
    leads_fine p (field base name arrow span) d e =
        meant_fine p (option_and_then (member_step here name.text) (leads stable here arrow base)) d
        (λ x f. let b = bound (member_step here name.text) (leads stable here arrow base) x f in field_fine name.text b.0 x (leads_fine arrow base b.0 b.1.0) b.1.1) e
    leads_fine p (index base at span) d e =
        meant_fine p (option_and_then (element_step stable here at) (leads stable here false base)) d
        (λ x f. let b = bound (element_step stable here at) (leads stable here false base) x f in element_fine at b.0 x (leads_fine false base b.0 b.1.0) b.1.1) e
    leads_fine true (unary prefix.Address inner span) d e = leads_fine false inner d e
    leads_fine false (unary prefix.Follow inner span) d e = leads_fine true inner d e
    leads_fine false (unary prefix.Address inner span) d e = absurd cc
    leads_fine true (unary prefix.Follow inner span) d e = absurd cc
    leads_fine true (unary prefix.Minus inner span) d e = absurd cc
    leads_fine false (unary prefix.Minus inner span) d e = absurd cc
    leads_fine true (unary prefix.Not inner span) d e = absurd cc
    leads_fine false (unary prefix.Not inner span) d e = absurd cc
    leads_fine true (unary prefix.Flip inner span) d e = absurd cc
    leads_fine false (unary prefix.Flip inner span) d e = absurd cc
    leads_fine true (number n u span) d e = absurd cc
    leads_fine false (number n u span) d e = absurd cc
    leads_fine true (null span) d e = absurd cc
    leads_fine false (null span) d e = absurd cc
    leads_fine true (call callee args span) d e = absurd cc
    leads_fine false (call callee args span) d e = absurd cc
    leads_fine true (binary o left right span) d e = absurd cc
    leads_fine false (binary o left right span) d e = absurd cc

    lock_fine : (o : Option Led) → ((d : Led) → o ≡ Some d → IsFine d.way) → IsFineIfAny (option_map (λ l. l.way) (option_and_then as_lock o))
    lock_fine None h = tt
    lock_fine (Some d) h = by (meant (is_pointer d.thing.kind) (Some d)) refl
      where
        by : (o : Option Led) → meant (is_pointer d.thing.kind) (Some d) ≡ o → IsFineIfAny (option_map (λ l. l.way) o)
        by None e = tt
        by (Some x) e = meant_fine (is_pointer d.thing.kind) (Some d) x h e

    -- the path of a lock expression
    pub way_fine : (e : Expression) → IsFineIfAny (lock_way stable here e)
    way_fine e = lock_fine (leads stable here (is_address e) e) (λ d f. leads_fine (is_address e) e d f)
