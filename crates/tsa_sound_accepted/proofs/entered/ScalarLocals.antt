-- The locals of a function with a body are numbers and pointers, and so is what it gives.
use Rattle.std.proofs.Common.{◌≡◌, ◌∙◌, ℕ, zero, suc, Bool, true, false, not, List, [], ◌∷◌, ◌++◌, All, map, Option, Some, None, is_some}
use Rattle.std.proofs.Common.{slice_get, refl, sym, ap, subst}
use Rattle.std.proofs.lemmas.List.Elements.{All-head, All-tail}
use Rattle.tsa_tree.specs.declarations.Syntax.{Declaration, DeclaredType, Parameter}
use Rattle.tsa_tree.specs.declared.kind.Declaring.TheVariants as declaring
use Rattle.tsa_tree.specs.declared.kind.Kind.{Kind}
use Rattle.tsa_tree.specs.declared.kind.Kind.TheVariants as type
use Rattle.tsa_tree.specs.declared.kind.Resolved.{Resolved}
use Rattle.tsa_tree.specs.declared.kind.Resolved.TheVariants as written
use Rattle.tsa_tree.specs.declared.kind.ThingType.{ThingType}
use Rattle.tsa_tree.specs.points.Syntax.{Deed, declares, evaluates, assigns, tests, switches, jumps, idles, returns, ends}
use Rattle.tsa_tree.specs.expressions.Sound.{Words}
use Rattle.tsa_tree.specs.types.DeclaredTypes.{declared_premises, is_nothing, is_refused, length_of, may_be, resolve, thing_type}
use Rattle.tsa_tree.specs.types.DeclaredTypes.{with_length}
use Rattle.tsa_tree.specs.types.Heads.{params_premises, with_param}
use Rattle.tsa_tree.specs.types.Locals.{behind_local, local_entry, unless_taken}
use Rattle.tsa_tree.specs.types.Premises as typing
use Rattle.tsa_tree.specs.types.Runnable.{is_scalar_kind, is_small, is_whole_init}
use Rattle.tsa_tree.specs.types.Scopes.{Scope, context_of, further, is_named_taken, is_taken, with_name}
use Rattle.tsa_core.specs.Bodies.{Known, kinds_by, kinds_declared}
use Rattle.tsa_core.specs.Kinds.{scalar_kind}
use Rattle.tsa_core.proofs.BodyScopes.{SameTypes, kind_kept, small_kept, through, with_no_type, with_param_types}
use Rattle.tsa_core.proofs.DeedsTold.{init_told}
use Rattle.tsa_core.proofs.FactsKnown.{FactsAt}
use Rattle.tsa_core.proofs.KindTests.{both_true, not_false, not_true}
use Rattle.tsa_core.proofs.LaidScopes.{is_written_kind}
use Rattle.tsa_core.proofs.NoFailure as typed
use Rattle.tsa_core.proofs.ScopesBelong.{Each}
use Rattle.tsa_core.proofs.UnitScopes.{declared_told}
use Rattle.tsa_profile_accesses.specs.Premises.{first}
use Rattle.tsa_profile_accesses.specs.declared.premise.ProfileCode.TheVariants.{PF4}
use Rattle.tsa_profile_declarations.specs.Declarations.{param_premises}
use Rattle.tsa_profile_guards.proofs.NoneFails.{none_of_first}
use Rattle.tsa_sound.specs.BodyFacts.{IsScalar}
use Rattle.tsa_base.proofs.Truths.{never}

-- a kind that is written is a number's or a pointer's, where it is small and not void
scalar_written : (kind : Kind) → is_scalar_kind kind ≡ true → is_nothing kind ≡ false → is_written_kind kind ≡ true → IsScalar kind
scalar_written type.Int e f g = tt
scalar_written type.Unsigned e f g = tt
scalar_written type.Void e f g = never f
scalar_written (type.Structure n) e f g = never (sym e)
scalar_written (type.Pointer n c) e f g = tt
scalar_written type.Null e f g = never (sym g)
scalar_written type.Function e f g = never (sym g)

pub result_written : (kind : Kind) → is_written_kind kind ≡ true → scalar_kind kind ≡ true → IsScalar kind
result_written type.Int g e = tt
result_written type.Unsigned g e = tt
result_written type.Void g e = never (sym e)
result_written (type.Structure n) g e = never (sym e)
result_written (type.Pointer n c) g e = tt
result_written type.Null g e = never (sym g)
result_written type.Function g e = never (sym g)

something : (here : Scope) (n : Option ℕ) (r : Resolved) → is_refused here declaring.Thing r ≡ false → is_nothing (with_length n r).kind ≡ false
something here n (written.Type t) e = not_true (is_nothing t.kind) (both_true (not (is_nothing t.kind)) _ (not_false (may_be here declaring.Thing t.kind) e)).0
something here n (written.Unknown span) e = refl
something here n written.Refused e = never e

scalar_thing : (t : ThingType) → is_small t ≡ true → is_nothing t.kind ≡ false → is_written_kind t.kind ≡ true → IsScalar t.kind
scalar_thing t small some is = scalar_written t.kind (both_true (is_scalar_kind t.kind) (not (is_some t.length)) small).0 some is

-- all types that can be written somewhere
abbrev pub AreWritten : Scope → Type 0
AreWritten here = (t : DeclaredType) → is_written_kind (thing_type here t).kind ≡ true

-- PARAMETERS

module _ (base : Scope) (are_written : AreWritten base) where
  abbrev ParamsScalar : List Parameter → Type 0
  ParamsScalar params = (j : ℕ) (kind : Kind) → slice_get (map (λ p. (thing_type base p.ctype).kind) params) j ≡ Some kind → IsScalar kind

  pub params_scalar : (here there : Scope) (n : ℕ) (params : List Parameter) → SameTypes base here → SameTypes base there
      → typing.first (params_premises there n params) ≡ None
      → first (param_premises here params) ≡ None → ParamsScalar params
  unfolding params_premises param_premises
  params_scalar here there n [] same other t h j kind e = absurd cc
  params_scalar here there n (p ∷ rest) same other t h j kind e =
      let x = typed.none_of_both (declared_premises there declaring.Thing (is_named_taken p.name there) p.span p.ctype)
      (params_premises (with_param n p there) (suc n) rest) t in
      let y = none_of_first PF4 p.span (not (is_small (thing_type here p.ctype))) (param_premises here rest) h in
      let told = declared_told there declaring.Thing (is_named_taken p.name there) p.span p.ctype x.0 in
      let own : IsScalar (thing_type base p.ctype).kind =
      scalar_thing (thing_type base p.ctype) (sym (small_kept base here same p.ctype) ∙ not_false (is_small (thing_type here p.ctype)) y.0)
      (ap is_nothing (sym (kind_kept base there other p.ctype)) ∙ something there (length_of (context_of there) p.ctype.length) (resolve there p.ctype) told.1)
      (are_written p.ctype)
      in
      by j e own (params_scalar here (with_param n p there) (suc n) rest same (through base there (with_param n p there) other (with_param_types there n p)) x.1 y.1)
    where
      by : (j : ℕ) → slice_get ((thing_type base p.ctype).kind ∷ map (λ q. (thing_type base q.ctype).kind) rest) j ≡ Some kind
          → IsScalar (thing_type base p.ctype).kind → ParamsScalar rest
          → IsScalar kind
      by zero e own others = let one : (thing_type base p.ctype).kind ≡ kind = cc in subst IsScalar one own
      by (suc j) e own others = others j kind e

-- LOCALS

pub written_further : (here : Scope) (n : ℕ) → AreWritten here → AreWritten (further n here)
written_further here n h = h

written_name : (here : Scope) (d : Declaration) → AreWritten here → AreWritten (with_name d.name.text (local_entry here d) here)
written_name here d h t =
    let there = with_name d.name.text (local_entry here d) here in
    ap is_written_kind (kind_kept here there (with_no_type here d.name.text (local_entry here d) (λ span. refl)) t) ∙ h t

pub written_local : (here : Scope) (d : Declaration) → AreWritten here → AreWritten (behind_local here d)
written_local here d h = by (is_taken d.name.text here)
  where
    by : (b : Bool) → AreWritten (further 1 (unless_taken b d.name.text (local_entry here d) here))
    by true = h
    by false = written_name here d h

module _ (words : Words) (result : ThingType) where
  abbrev Scalars : List Kind → Type 0
  Scalars kinds = (j : ℕ) (kind : Kind) → slice_get kinds j ≡ Some kind → IsScalar kind

  none_scalar : Scalars []
  none_scalar j kind e = absurd cc

  pub both_scalar : (xs ys : List Kind) → Scalars xs → Scalars ys → Scalars (xs ++ ys)
  both_scalar [] ys h g j kind e = g j kind e
  both_scalar (x ∷ xs) ys h g zero kind e = h 0 kind e
  both_scalar (x ∷ xs) ys h g (suc j) kind e = both_scalar xs ys (λ i k f. h (suc i) k f) g j kind e

  one_scalar : (x : Kind) → IsScalar x → Scalars (x ∷ [])
  one_scalar x h zero kind e = let same : x ≡ kind = cc in subst IsScalar same h
  one_scalar x h (suc j) kind e = absurd cc

  deed_scalar : (here : Scope) (d : Deed) → AreWritten here → FactsAt words result (record { here = here; deed = d }) → Scalars (kinds_by here d)
  deed_scalar here (declares d) are f =
      let told = init_told here d f.0 in
      let runs = both_true (is_small (thing_type here d.ctype)) (is_whole_init d.init) f.1.0 in
      one_scalar (thing_type here d.ctype).kind
      (scalar_thing (thing_type here d.ctype) runs.0 (something here (length_of (context_of here) d.ctype.length) (resolve here d.ctype) told.1.1) (are d.ctype))
  deed_scalar here (evaluates e) are f = none_scalar
  deed_scalar here (assigns left o right) are f = none_scalar
  deed_scalar here (tests e) are f = none_scalar
  deed_scalar here (switches e) are f = none_scalar
  deed_scalar here jumps are f = none_scalar
  deed_scalar here idles are f = none_scalar
  deed_scalar here (returns e) are f = none_scalar
  deed_scalar here ends are f = none_scalar

  pub declared_scalar : (ks : List Known) → Each (FactsAt words result) ks → All (λ k. AreWritten k.here) ks → Scalars (kinds_declared ks)
  declared_scalar [] f h = none_scalar
  declared_scalar (k ∷ ks) f h =
      both_scalar (kinds_by k.here k.deed) (kinds_declared ks) (deed_scalar k.here k.deed (All-head (λ x. AreWritten x.here) k ks h) f.0)
      (declared_scalar ks f.1 (All-tail (λ x. AreWritten x.here) k ks h))
