-- The path to where an argument of a call points is that of its term.
use Rattle.std.proofs.Common.{◌≡◌, ◌∙◌, ℕ, zero, suc, Bool, true, false, ◌&&◌, List, [], ◌∷◌, ◌++◌, map, Option, Some, None, option_map}
use Rattle.std.proofs.Common.{option_and_then, slice_get, if◌then◌else◌, refl, sym, ap, subst}
use Rattle.tsa_tree.specs.declared.kind.ExpressionType.{ExpressionType}
use Rattle.tsa_tree.specs.declared.kind.Kind.{Kind}
use Rattle.tsa_tree.specs.declared.kind.Kind.TheVariants as type
use Rattle.tsa_tree.specs.declared.kind.ThingType.{ThingType}
use Rattle.tsa_tree.specs.expressions.Syntax.{Expression, Arguments, none, more}
use Rattle.tsa_tree.specs.types.Expressions.{type_of, types_of, all_typed}
use Rattle.tsa_tree.specs.types.Operands.{integer_kind, pointer_kind}
use Rattle.tsa_tree.specs.types.Scopes.{Scope, context_of}
use Rattle.tsa_place_model.specs.Arguments.{argument_way}
use Rattle.tsa_place_model.specs.LockPaths.{Led, leads}
use Rattle.tsa_place_model.specs.Ways.{Way}
use Rattle.tsa_place_model.specs.declared.path.PathStep.{PathStep}
use Rattle.tsa_place_model.specs.declared.path.PathStep.TheVariants.{Field, Follow}
use Rattle.tsa_place_model.specs.declared.path.Root.{Root}
use Rattle.tsa_place_model.specs.declared.path.Root.TheVariants.{Global, Local, Owner}
use Rattle.tsa_core.specs.Kinds.{Setting, Belongs}
use Rattle.tsa_core.specs.Meanings.{as_kind, loaded, meaning, arguments, null_pointer}
use Rattle.tsa_core.specs.Terms.{Term, constant, variable, answer, global, member, element, target, load, address, converted, prefixed}
use Rattle.tsa_core.specs.Terms.{joined, Sense}
use Rattle.tsa_core.specs.Uses.{argument_ways}
use Rattle.tsa_core.proofs.TypedTerms.{some_same}
use Rattle.tsa_path.specs.Substitution.{as_pointer, given, pointed_way}
use Rattle.tsa_sound.specs.PartlyWorked as worked
use Rattle.tsa_sound.specs.PartlyWorked.{further, local_way, place_way, target_way}
use Rattle.tsa_sound_accepted.proofs.terms.LedTerms.{Points, does}
use Rattle.tsa_base.proofs.Truths.{never}

-- A path that is one of a pointer as it stands: its root is a global, or it goes on from a local.
abbrev IsPlain : Root → List PathStep → Type 0
IsPlain (Global n) steps = Unit {0}
IsPlain (Local n) [] = ⊥
IsPlain (Local n) (step ∷ rest) = Unit {0}
IsPlain Owner steps = ⊥

abbrev IsPlainIfAny : Option Way → Type 0
IsPlainIfAny None = Unit {0}
IsPlainIfAny (Some w) = IsPlain w.root w.steps

plain_stays : (root : Root) (steps : List PathStep) → IsPlain root steps → pointed_way root steps ≡ Some (record { root = root; steps = steps })
plain_stays (Global n) steps h = refl
plain_stays (Local n) [] h = absurd h
plain_stays (Local n) (step ∷ rest) h = refl
plain_stays Owner steps h = absurd h

plain_further : (root : Root) (steps : List PathStep) (step : PathStep) → IsPlain root steps → IsPlain root (steps ++ step ∷ [])
plain_further (Global n) steps step h = tt
plain_further (Local n) [] step h = tt
plain_further (Local n) (s ∷ rest) step h = tt
plain_further Owner steps step h = h

further_plain : (w : Option Way) (step : Option PathStep) → IsPlainIfAny w → IsPlainIfAny (further w step)
further_plain None None h = tt
further_plain None (Some step) h = tt
further_plain (Some w) None h = tt
further_plain (Some w) (Some step) h = plain_further w.root w.steps step h

module _ (stable : ℕ → Bool) where
  local_plain : (b : Bool) (n : ℕ) → IsPlainIfAny (local_way b n)
  local_plain true n = tt
  local_plain false n = tt

  followed_plain : (b : Bool) (w : Option Way) → IsPlainIfAny w → IsPlainIfAny (worked.followed b w)
  followed_plain true w h = further_plain w (Some Follow) h
  followed_plain false w h = tt

  mutual
    place_plain : (x : Term) → IsPlainIfAny (place_way stable x)
    place_plain (global n) = tt
    place_plain (member base k) = further_plain (place_way stable base) (Some (Field k)) (place_plain base)
    place_plain (element base index) = further_plain (place_way stable base) (worked.index_step stable index) (place_plain base)
    place_plain (target pointer) = target_plain pointer
    place_plain (constant v) = tt
    place_plain (variable n) = tt
    place_plain answer = tt
    place_plain (load is_stable place) = tt
    place_plain (address place) = tt
    place_plain (converted kind inner) = tt
    place_plain (prefixed o inner) = tt
    place_plain (joined o left right) = tt

    target_plain : (x : Term) → IsPlainIfAny (target_way stable x)
    target_plain (variable n) = local_plain (stable n) n
    target_plain (load is_stable place) = followed_plain is_stable (place_way stable place) (place_plain place)
    target_plain (address place) = place_plain place
    target_plain (constant v) = tt
    target_plain answer = tt
    target_plain (global n) = tt
    target_plain (member base k) = tt
    target_plain (element base index) = tt
    target_plain (target pointer) = tt
    target_plain (converted kind inner) = tt
    target_plain (prefixed o inner) = tt
    target_plain (joined o left right) = tt

  target_stays : (x : Term) (w : Way) → target_way stable x ≡ Some w → as_pointer w ≡ Some w
  target_stays x w e = plain_stays w.root w.steps (subst IsPlainIfAny e (target_plain x))

  module _ (here : Scope) (k : Setting) (bel : Belongs here k) where
    -- an argument for a parameter that is a pointer
    pointer_kept : (s : Sense) (n m : ℕ) (c d : Bool) → s.type.thing.kind ≡ type.Pointer m d → as_kind (type.Pointer n c) s ≡ loaded s
    pointer_kept s n m c d e = ap (λ kind. if pointer_kind (type.Pointer n c) && integer_kind kind then null_pointer else loaded s) e

    pointer_leads : (n : ℕ) (c : Bool) (e : Expression) (t : ExpressionType) (w : Way) → type_of (context_of here) e ≡ Some t
        → option_and_then as_pointer (option_map (λ l. l.way) (leads stable here true e)) ≡ Some w
        → target_way stable (as_kind (type.Pointer n c) (meaning here e)) ≡ Some w
    pointer_leads n c e t w is h = by (leads stable here true e) refl h
      where
        of_led : (d : Led) → Points here k bel stable (meaning here e) d → as_pointer d.way ≡ Some w
            → target_way stable (as_kind (type.Pointer n c) (meaning here e)) ≡ Some w
        of_led d p f =
            let same = pointer_kept (meaning here e) n p.struct c p.to_const p.kind_is in
            ap (target_way stable) same ∙ p.way_is ∙ sym (target_stays (loaded (meaning here e)) d.way p.way_is) ∙ f

        by : (o : Option Led) → leads stable here true e ≡ o → option_and_then as_pointer (option_map (λ l. l.way) o) ≡ Some w
            → target_way stable (as_kind (type.Pointer n c) (meaning here e)) ≡ Some w
        by None g f = absurd cc
        by (Some d) g f = of_led d (does here k bel stable true e t d is g) f

    argument_leads : (kind : Kind) (n : ℕ) (c : Bool) (e : Expression) (t : ExpressionType) (x : Term) (w : Way) → type_of (context_of here) e ≡ Some t
        → kind ≡ type.Pointer n c
        → as_kind kind (meaning here e) ≡ x
        → option_and_then as_pointer (argument_way stable here kind e) ≡ Some w
        → target_way stable x ≡ Some w
    argument_leads kind n c e t x w is same term h =
        subst (λ y. target_way stable y ≡ Some w) (ap (λ j. as_kind j (meaning here e)) (sym same) ∙ term)
        (pointer_leads n c e t w is
        (subst (λ j. option_and_then as_pointer (argument_way stable here j e) ≡ Some w) same h))

    typed_first : (o : Option ExpressionType) (os : List (Option ExpressionType)) → all_typed (o ∷ os) ≡ true
        → ((t : ExpressionType) × (o ≡ Some t)) × (all_typed os ≡ true)
    typed_first None os h = never (sym h)
    typed_first (Some t) os h = ((t, refl), h)

    pub arguments_lead : (params : List ThingType) (args : Arguments) → all_typed (types_of (context_of here) args) ≡ true
        → (i n : ℕ) (c : Bool) (x : Term) (w : Way)
        → slice_get (map (λ t. t.kind) params) i ≡ Some (type.Pointer n c) → slice_get (arguments here params args) i ≡ Some x
        → option_and_then as_pointer (given (argument_ways stable here params args) i) ≡ Some w → target_way stable x ≡ Some w
    unfolding types_of arguments
    arguments_lead [] args h i n c x w kind at way = absurd cc
    arguments_lead (p ∷ params) none h i n c x w kind at way = absurd cc
    arguments_lead (p ∷ params) (more e rest) h zero n c x w kind at way =
        let y = typed_first (type_of (context_of here) e) (types_of (context_of here) rest) h in
        argument_leads p.kind n c e y.0.0 x w y.0.1 (some_same kind) (some_same at) way
    arguments_lead (p ∷ params) (more e rest) h (suc i) n c x w kind at way =
        arguments_lead params rest (typed_first (type_of (context_of here) e) (types_of (context_of here) rest) h).1 i n c x w kind at way
