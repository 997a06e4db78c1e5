-- At each point of a body what is known of functions is what the program's signatures say, and pointers are handed on with their paths.
use Rattle.std.proofs.Common.{◌≡◌, ◌∙◌, ℕ, zero, suc, Bool, List, [], ◌∷◌, All, IfSome, map, Option, Some, None, option_and_then, slice_get}
use Rattle.std.proofs.Common.{refl, sym, subst}
use Rattle.std.proofs.lemmas.List.Elements.{All-append, All-cons, All-nil}
use Rattle.std.proofs.lemmas.Map.Entries.{All-lookup}
use Rattle.std.specs.Str.{bytes_eq}
use Rattle.tsa_base.specs.declared.token.Span.{Span}
use Rattle.tsa_tree.specs.declarations.Syntax.{Declaration}
use Rattle.tsa_tree.specs.declared.kind.ExpressionType.{ExpressionType}
use Rattle.tsa_tree.specs.declared.kind.Kind.{Kind}
use Rattle.tsa_tree.specs.declared.kind.Kind.TheVariants as type
use Rattle.tsa_tree.specs.declared.kind.ThingType.{ThingType}
use Rattle.tsa_tree.specs.declared.meaning.Entry.{Entry}
use Rattle.tsa_tree.specs.declared.meaning.Meaning.TheVariants as meant
use Rattle.tsa_tree.specs.expressions.Syntax.{Arguments, Identifier, call}
use Rattle.tsa_tree.specs.types.Expressions.{type_of}
use Rattle.tsa_tree.specs.types.Locals.{local_entry}
use Rattle.tsa_tree.specs.types.Scopes.{Scope, context_of, found, further, known_in, with_name}
use Rattle.tsa_tree.specs.types.Units.{outset}
use Rattle.tsa_tree.specs.units.Syntax.{UnitItem}
use Rattle.tsa_tree.specs.types.Lookups.{params_in}
use Rattle.tsa_place_model.specs.Ways.{Way}
use Rattle.tsa_place_model.specs.declared.path.PathStep.{PathStep}
use Rattle.tsa_place_model.specs.declared.path.Root.{Root}
use Rattle.tsa_place_model.specs.declared.path.Root.TheVariants as root
use Rattle.tsa_core.specs.Bodies.{known_in_body}
use Rattle.tsa_place_model.specs.Calls.{Layout}
use Rattle.tsa_core.specs.KindLaws.{setting, signatures}
use Rattle.tsa_core.specs.Kinds.{Belongs, Setting}
use Rattle.tsa_core.specs.Meanings.{Call, call_of}
use Rattle.tsa_core.specs.PointKinds.{Signatures}
use Rattle.tsa_core.specs.Programs.{Bodied, bodied_function, program_of}
use Rattle.tsa_core.specs.Terms.{Term}
use Rattle.tsa_core.specs.Uses.{called_ways}
use Rattle.tsa_core.proofs.BodyScopes.{BeginsIn}
use Rattle.tsa_core.proofs.CallsHold.{CallsFit, call_called}
use Rattle.tsa_core.proofs.ScopesAlike.{known_found}
use Rattle.tsa_core.proofs.ScopesBelong.{body_belongs}
use Rattle.tsa_core.proofs.SignaturesFit.{CallBy, NamesCall, unit_calls}
use Rattle.tsa_core.proofs.TypedTerms.{some_same}
use Rattle.tsa_core.proofs.PointsHold.{program_signatures}
use Rattle.tsa_path.specs.Substitution.{as_pointer, given, pointed_way}
use Rattle.tsa_path.proofs.Pointers.{IsProper}
use Rattle.tsa_sound.specs.PartlyWorked.{target_way}
use Rattle.tsa_sound_accepted.proofs.terms.ArgumentsLead.{ArePointed, IsPointed, args_pointed}
use Rattle.tsa_sound_accepted.proofs.terms.CallPairs.{Pairs}

module _ (sig : Signatures) where
  abbrev pub Calls : Scope → Type 0
  Calls here = (here.owned ≡ []) × NamesCall sig here

  calls_further : (n : ℕ) (here : Scope) → Calls here → Calls (further n here)
  calls_further n here h = h

  calls_local : (here : Scope) (d : Declaration) → Calls here → Calls (with_name d.name.text (local_entry here d) here)
  calls_local here d h =
      let there = with_name d.name.text (local_entry here d) here in (
        h.0,
        All-append (λ x. CallBy sig there x.1.meaning x.1.thing) here.names ((d.name.text, local_entry here d) ∷ []) h.1
            (All-cons (λ x. CallBy sig there x.1.meaning x.1.thing) (d.name.text, local_entry here d) [] tt (All-nil (λ x. CallBy sig there x.1.meaning x.1.thing))),
      )

  pub calls_fit : (here : Scope) → Calls here → CallsFit sig here
  calls_fit here h name e n is means =
      by (found here.names name) (sym (known_found here name h.0) ∙ is) (All-lookup (λ x. CallBy sig here x.meaning x.thing) (bytes_eq name) here.names h.1)
    where
      by : (o : Option Entry) → o ≡ Some e → IfSome o (λ x. CallBy sig here x.meaning x.thing) → CallBy sig here (meant.Function n) e.thing
      by None is fits = absurd cc
      by (Some x) is fits = subst (λ m. CallBy sig here m e.thing) means (subst (λ y. CallBy sig here y.meaning y.thing) (some_same is) fits)

  pub body_calls : (b : Bodied) (l : Layout) → BeginsIn b l → NamesCall sig b.here → All (λ k. Belongs k.here (setting l b None) × Calls k.here) (known_in_body b.here b.body)
  body_calls b l begun names = body_belongs b l begun Calls calls_further calls_local None (begun.owned, names)

pub names_call : (items : List UnitItem) (name : List ℕ) (b : Bodied) → bodied_function name (outset items) items ≡ Some b → NamesCall (signatures (program_of items)) b.here
names_call items name b is = unit_calls items name b (signatures (program_of items)) (program_signatures items) is

-- pointers that are handed on, by the parameters of the function
pub record PointsBy (sig : Signatures) (here : Scope) (k : Setting) (bel : Belongs here k) (stable : ℕ → Bool) (c : Call) (ways : List (Option Way)) : Type 0 where
  pub params : List ThingType
  pub params_are : sig.params c.function ≡ Some (map (λ p. p.kind) params)
  pub pointed : ArePointed here k bel stable params c.args ways

pub call_points : (sig : Signatures) (here : Scope) (k : Setting) (bel : Belongs here k) (stable : ℕ → Bool) → CallsFit sig here → (callee : Identifier) (args : Arguments) (span : Span)
    (t : ExpressionType) → type_of (context_of here) (call callee args span) ≡ Some t
    → Pairs (PointsBy sig here k bel stable) (call_of here args (known_in here callee.text)) (called_ways stable here args (known_in here callee.text))
call_points sig here k bel stable fit callee args span t is =
    let c = call_called here callee args span t is in
    let f = fit callee.text (record { meaning = meant.Function c.n; thing = c.thing }) c.n c.known refl in
    subst (λ o. Pairs (PointsBy sig here k bel stable) (call_of here args o) (called_ways stable here args o)) (sym c.known)
    (record { params = params_in here c.n; params_are = f.1; pointed = args_pointed here k bel stable (params_in here c.n) args c.all })

-- the path to where an argument points is that of its term
proper_pointer : (r : Root) (steps : List PathStep) → IsProper r steps → pointed_way r steps ≡ Some (record { root = r; steps = steps })
proper_pointer (root.Global n) steps h = refl
proper_pointer (root.Local n) [] h = absurd h
proper_pointer (root.Local n) (step ∷ rest) h = refl
proper_pointer root.Owner steps h = absurd h

module _ (here : Scope) (k : Setting) (bel : Belongs here k) (stable : ℕ → Bool) where
  one_pointed : (n : ℕ) (c : Bool) (kind : Kind) (x : Term) (o : Option Way) (w : Way) → kind ≡ type.Pointer n c → IsPointed here k bel stable kind x o → option_and_then as_pointer o ≡ Some w
      → target_way stable x ≡ Some w
  one_pointed n c kind x None w is h e = cc
  one_pointed n c kind x (Some v) w is h e =
      let p = subst (λ kind. IsPointed here k bel stable kind x (Some v)) is h in p.0 ∙ sym (proper_pointer v.root v.steps p.1) ∙ e

  pub pointed_at : (params : List ThingType) (args : List Term) (ways : List (Option Way)) → ArePointed here k bel stable params args ways → (i struct : ℕ) (to_const : Bool) (x : Term) (w : Way)
      → slice_get (map (λ t. t.kind) params) i ≡ Some (type.Pointer struct to_const) → slice_get args i ≡ Some x → option_and_then as_pointer (given ways i) ≡ Some w
      → target_way stable x ≡ Some w
  pointed_at [] args ways h zero struct to_const x w is at e = absurd cc
  pointed_at [] args ways h (suc i) struct to_const x w is at e = absurd cc
  pointed_at (p ∷ params) [] ways h zero struct to_const x w is at e = absurd cc
  pointed_at (p ∷ params) [] ways h (suc i) struct to_const x w is at e = absurd cc
  pointed_at (p ∷ params) (y ∷ args) [] h zero struct to_const x w is at e = absurd cc
  pointed_at (p ∷ params) (y ∷ args) [] h (suc i) struct to_const x w is at e = absurd cc
  pointed_at (p ∷ params) (y ∷ args) (o ∷ ways) h zero struct to_const x w is at e =
      subst (λ z. target_way stable z ≡ Some w) (some_same at) (one_pointed struct to_const p.kind y o w (some_same is) h.0 e)
  pointed_at (p ∷ params) (y ∷ args) (o ∷ ways) h (suc i) struct to_const x w is at e = pointed_at params args ways h.1 i struct to_const x w is at e
