-- At each point that calls the terms are as the laws of turns ask.
use Rattle.std.proofs.Common.{◌≡◌, ◌∙◌, ℕ, Bool, List, map, Option, Some, None, IsSome, is_some, option_and_then, option_map, slice_get}
use Rattle.std.proofs.Common.{refl, sym, ap, subst}
use Rattle.tsa_tree.specs.declared.kind.Kind.{Kind}
use Rattle.tsa_tree.specs.declared.kind.Kind.TheVariants as type
use Rattle.tsa_tree.specs.expressions.Sound.{all_words}
use Rattle.tsa_tree.specs.types.Units.{outset}
use Rattle.tsa_tree.specs.units.Syntax.{UnitItem}
use Rattle.tsa_place_model.specs.Ways.{Way}
use Rattle.tsa_core.specs.Bodies.{Known, Point, point_of}
use Rattle.tsa_place_model.specs.Calls.{Layout}
use Rattle.tsa_core.specs.KindLaws.{setting, signatures}
use Rattle.tsa_core.specs.Kinds.{Belongs}
use Rattle.tsa_core.specs.Meanings.{Call}
use Rattle.tsa_core.specs.PointKinds.{Signatures}
use Rattle.tsa_core.specs.Programs.{Bodied, Declared, Function, Program, bodied_function, declared_functions, program_of, uses_in}
use Rattle.tsa_core.specs.Terms.{Term}
use Rattle.tsa_core.specs.Uses.{Uses, uses_of}
use Rattle.tsa_core.proofs.FactsKnown.{FactsAt}
use Rattle.tsa_core.proofs.MappedLists.{map_at}
use Rattle.tsa_core.proofs.TypedTerms.{some_same}
use Rattle.tsa_path.specs.Substitution.{as_pointer, given}
use Rattle.tsa_rules.specs.Conditions.{condition_at}
use Rattle.tsa_rules.specs.Points.{function_at, or_idle, or_no_function, or_unused, point_at, uses_at}
use Rattle.tsa_sound.specs.CallFacts.{CanCall}
use Rattle.tsa_sound.specs.PartlyWorked.{target_way}
use Rattle.tsa_sound_accepted.specs.terms.CallTerms.{CallTerms, CallsHaveTheirTerms}
use Rattle.tsa_sound_accepted.specs.terms.Units.{IsInProfile}
use Rattle.tsa_sound_accepted.proofs.terms.CallScopes.{Calls, PointsBy, body_calls, call_points, calls_fit, names_call, pointed_at}
use Rattle.tsa_sound_accepted.proofs.terms.CallsLead.{deed_leads}
use Rattle.tsa_sound_accepted.proofs.terms.DeedsAct.{TestsCall, deed_acts, subject_is}
use Rattle.tsa_sound_accepted.proofs.terms.PointsFit as points
use Rattle.tsa_sound_accepted.proofs.terms.PointsFit.{number_holds}
use Rattle.tsa_sound_accepted.proofs.called.NamedAttributes.{all_at, each_at}
use Rattle.tsa_base.proofs.Truths.{never}

-- the parameters of a function are those of its signature
params_told : (o : Option Function) (kinds : List Kind) → option_map (λ f. map (λ t. t.kind) f.params) o ≡ Some kinds → map (λ t. t.kind) (or_no_function o).params ≡ kinds
params_told None kinds e = cc
params_told (Some g) kinds e = some_same e

module _ (items : List UnitItem) (l : Layout) (in_profile : IsInProfile items l) (d : Declared) (b : Bodied) (n : ℕ)
    (declared : slice_get (declared_functions (outset items) items) n ≡ Some d) (bodied : bodied_function d.head.name.text (outset items) items ≡ Some b)
  where
    abbrev f : Function
    f = points.f items l in_profile d b n declared bodied

    abbrev ks : List Known
    ks = points.ks items l in_profile d b n declared bodied

    abbrev stable : ℕ → Bool
    stable = points.stable items l in_profile d b n declared bodied

    abbrev own : Kind
    own = points.own_kind items l in_profile d b n declared bodied

    -- what a point does with the answer of its call
    abbrev Acts : Point → Type 0
    Acts p = IsSome p.call → CanCall p.action × TestsCall (condition_at p.action)

    acts_known : (p : ℕ) (o : Option Known) → slice_get ks p ≡ o → Acts (or_idle (option_map (point_of own) o))
    acts_known p None at = λ h. never (sym h)
    acts_known p (Some k) at =
        subst (λ kind. Acts (point_of kind k)) (points.begun items l in_profile d b n declared bodied).result
        (deed_acts k.here all_words (points.result items l in_profile d b n declared bodied) k.deed
        (each_at (FactsAt all_words (points.result items l in_profile d b n declared bodied)) ks p k
        (points.facts items l in_profile d b n declared bodied) at))

    acts_at : (p : ℕ) → Acts (point_at f p)
    acts_at p = subst (λ o. Acts (or_idle o)) (sym (map_at (point_of own) ks p)) (acts_known p (slice_get ks p) refl)

    -- where its pointers lead
    abbrev PointsIn : Program → Point → Uses → Type 0
    PointsIn u p x = (c : Call) → p.call ≡ Some c → (i struct : ℕ) (to_const : Bool) (y : Term) (w : Way)
        → slice_get (map (λ t. t.kind) (function_at u c.function).params) i ≡ Some (type.Pointer struct to_const) → slice_get c.args i ≡ Some y
        → option_and_then as_pointer (given x.arguments i) ≡ Some w → target_way stable y ≡ Some w

    abbrev sig : Signatures
    sig = signatures (program_of items)

    known_points : (p : ℕ) (k : Known) → slice_get ks p ≡ Some k → PointsIn (program_of items) (point_of own k) (uses_of l stable k)
    known_points p k at =
        let begun = points.begun items l in_profile d b n declared bodied in
        let text = points.text items l in_profile d b n declared bodied in
        let result = points.result items l in_profile d b n declared bodied in
        let both = all_at (λ x. Belongs x.here (setting l b None) × Calls sig x.here) ks p k (body_calls sig b l begun (names_call items d.head.name.text b bodied)) at in
        subst (λ kind. PointsIn (program_of items) (point_of kind k) (uses_of l stable k)) begun.result
        (λ c e i struct to_const y w kind arg way.
        let r = deed_leads k.here stable (PointsBy sig k.here (setting l b None) both.0 stable)
        (call_points sig k.here (setting l b None) both.0 stable (calls_fit sig k.here both.1)) l all_words result k.deed
        (each_at (FactsAt all_words result) ks p k (points.facts items l in_profile d b n declared bodied) at) c e in
        pointed_at k.here (setting l b None) both.0 stable r.params c.args (uses_of l stable k).arguments r.pointed i struct to_const y w
        (sym (ap (λ kinds. slice_get kinds i) (params_told (slice_get (program_of items).functions c.function) (map (λ t. t.kind) r.params) r.params_are)) ∙ kind) arg way)

    by_points : (p : ℕ) (o : Option Known) → slice_get ks p ≡ o → PointsIn (program_of items) (or_idle (option_map (point_of own) o)) (or_unused (option_map (uses_of l stable) o))
    by_points p None at = λ c e i struct to_const y w kind arg way. absurd cc
    by_points p (Some k) at = known_points p k at

    points_at : (p : ℕ) → PointsIn (program_of items) (point_at f p) (uses_at f p)
    points_at p =
        subst (λ o. PointsIn (program_of items) (or_idle o) (or_unused (slice_get (uses_in l b) p))) (sym (map_at (point_of own) ks p))
        (subst (λ o. PointsIn (program_of items) (or_idle (option_map (point_of own) (slice_get ks p))) (or_unused o)) (sym (map_at (uses_of l stable) ks p))
        (by_points p (slice_get ks p) refl))

    pub function_calls : (u : Program) → u ≡ program_of items → (p : ℕ) (c : Call) → (point_at f p).call ≡ Some c → CallTerms u f p c
    function_calls u same p c is =
        let acts = acts_at p (ap is_some is) in
        record {
          acts = acts.0;
          asks = λ k e. subject_is b.here (condition_at (point_at f p).action) k acts.1 e;
          arguments = λ i struct to_const x w kind arg way. subst (λ v. PointsIn v (point_at f p) (uses_at f p)) (sym same) (points_at p) c is i struct to_const x w kind arg way;
        }

pub calls_have_their_terms : CallsHaveTheirTerms
calls_have_their_terms items l u n in_profile same h p c is =
    number_holds items l in_profile u same n (λ f. (q : ℕ) (c : Call) → (point_at f q).call ≡ Some c → CallTerms u f q c)
    (λ d b at bodied. function_calls items l in_profile d b n at bodied u same) h p c is
