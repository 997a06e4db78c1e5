-- At each point of each function with a body of a unit in the profile the terms are as the laws of turns ask.
use Rattle.std.proofs.Common.{◌≡◌, ◌∙◌, ℕ, Bool, true, List, [], ◌∷◌, ◌++◌, length, All, Contains, Option, Some, None, IsSome, option_map}
use Rattle.std.proofs.Common.{slice_get, refl, sym, ap, subst}
use Rattle.std.proofs.lemmas.Slice.Eq.{bytes_eq-Decides}
use Rattle.std.specs.List.{list_any}
use Rattle.std.specs.Str.{bytes_eq}
use Rattle.tsa_tree.specs.declared.kind.Kind.{Kind}
use Rattle.tsa_tree.specs.declared.kind.ThingType.{ThingType}
use Rattle.tsa_tree.specs.points.Syntax.{ends}
use Rattle.tsa_tree.specs.expressions.Sound.{all_words}
use Rattle.tsa_tree.specs.types.DeclaredTypes.{thing_type}
use Rattle.tsa_tree.specs.types.Runnable.{Runnable}
use Rattle.tsa_tree.specs.types.Units.{outset, refusal_of_types}
use Rattle.tsa_tree.specs.units.Syntax.{UnitItem}
use Rattle.tsa_tree.proofs.types.UnitNodes.{premises_tell_it}
use Rattle.tsa_place_model.specs.LockPaths.{stable_in}
use Rattle.tsa_place_model.specs.Ways.{Way}
use Rattle.tsa_place_model.specs.Units.{laid_in}
use Rattle.tsa_core.specs.Bodies.{can_have, Known, knows, known_all, known_in_body, Point, point_of}
use Rattle.tsa_place_model.specs.Calls.{Layout}
use Rattle.tsa_core.specs.Control.{Outcome, body_edges, next_point}
use Rattle.tsa_core.specs.KindLaws.{function_locals, kinds_of, setting, signatures}
use Rattle.tsa_core.specs.Kinds.{Belongs}
use Rattle.tsa_core.specs.Meanings.{Call}
use Rattle.tsa_core.specs.PointKinds.{PointHolds, Signatures}
use Rattle.tsa_core.specs.PointLoads.{LoadsAgree, LoadsJustThose}
use Rattle.tsa_core.specs.Programs.{Bodied, Declared, Function, Program, bodied_function, body_in, declared_functions, function_in}
use Rattle.tsa_core.specs.Programs.{function_of, program_of, stable_locals, uses_in}
use Rattle.tsa_core.specs.Uses.{Uses, uses_of}
use Rattle.tsa_core.proofs.BodiesAgree.{bodies_agree}
use Rattle.tsa_core.proofs.BodyScopes.{BeginsIn, unit_begins}
use Rattle.tsa_core.proofs.FactsKnown.{FactsAt, all_facts, each_both}
use Rattle.tsa_core.proofs.FunctionNumbers.{uses_stand_beside}
use Rattle.tsa_core.proofs.GoingOn.{points_go_on}
use Rattle.tsa_core.proofs.MappedLists.{map_at}
use Rattle.tsa_core.proofs.ProgramKinds.{programs_well_kinded}
use Rattle.tsa_core.proofs.ScopesBelong.{Each, scopes_belong}
use Rattle.tsa_core.proofs.SignaturesFit.{SpellableBody, body_spellable}
use Rattle.tsa_core.proofs.UsesOfCells.{points_load_cells, points_load_just}
use Rattle.tsa_profile.specs.Units as profile
use Rattle.tsa_profile.specs.Units.{items_premises, paths_limits, tries_limits, unit_of}
use Rattle.tsa_profile_guards.proofs.NoneFails.{none_of_both}
use Rattle.tsa_profile.specs.Paths.{paths_of}
use Rattle.tsa_profile.proofs.UnitsRun.{profiles_are_runnable}
use Rattle.tsa_rules.specs.Attributes.{local_kinds}
use Rattle.tsa_rules.specs.Points.{edges_of, function_at, is_guarded_by, or_idle, or_unused, or_no_function, point_at, uses_at}
use Rattle.tsa_sound.specs.BodyFacts.{AllLead}
use Rattle.tsa_sound.specs.FramesFit.{stable_of}
use Rattle.tsa_sound_accepted.specs.terms.PointTerms.{PointTerms}
use Rattle.tsa_sound_accepted.specs.terms.Units.{ArgumentsHaveTheirPaths, IsInProfile, PointsHaveTheirTerms}
use Rattle.tsa_sound_accepted.proofs.terms.CallPairs.{call_leads}
use Rattle.tsa_sound_accepted.proofs.terms.CallsLead.{deed_leads}
use Rattle.tsa_sound_accepted.proofs.terms.DeedsGoOn.{deed_goes}
use Rattle.tsa_sound_accepted.proofs.terms.PathsNamed.{guards_named}
use Rattle.tsa_sound_accepted.proofs.terms.PointsAsked.{AskedAt, items_asked}
use Rattle.tsa_sound_accepted.proofs.terms.SmallScopes.{HasSmall, body_small, small_in}
use Rattle.tsa_sound_accepted.proofs.terms.TermsAt.{TermsAt, idle_terms, terms}
use Rattle.tsa_sound_accepted.proofs.called.NamedAttributes.{all_at, each_at}
use Rattle.tsa_base.proofs.Truths.{never}

module _ (items : List UnitItem) (l : Layout) (in_profile : IsInProfile items l) (d : Declared) (b : Bodied) (n : ℕ)
    (declared : slice_get (declared_functions (outset items) items) n ≡ Some d) (bodied : bodied_function d.head.name.text (outset items) items ≡ Some b)
  where
    pub typed : refusal_of_types items ≡ None
    typed = sym (premises_tell_it items) ∙ in_profile.typed

    pub runs : Runnable items
    runs = profiles_are_runnable items typed in_profile.profiled

    -- the function, its points, and what is known at them
    abbrev pub f : Function
    f = function_of l d (Some b)

    abbrev pub ks : List Known
    ks = known_in_body b.here b.body

    abbrev pub stable : ℕ → Bool
    stable = stable_in (body_in b).stable

    pub begun : BeginsIn b l
    begun = unit_begins items d.head.name.text b l runs in_profile.placed bodied

    pub text : SpellableBody b
    text = body_spellable d.head.name.text b (outset items) items in_profile.spellable bodied

    abbrev pub result : ThingType
    result = begun.around.result

    pub facts : Each (FactsAt all_words result) ks
    facts =
        each_both (FactsAt all_words result) (known_all b.here b.body) (knows b.here ends ∷ [])
        (all_facts all_words result begun.around b.here b.body refl begun.typed begun.runs text) (tt, tt)

    -- what the profile asks at the points
    abbrev u0 : profile.Unit
    u0 = unit_of [] items

    asked_of : (bytes_eq d.head.name.text b.head.name.text ≡ true) × Each (AskedAt u0.program.layout (profile.stable_of u0 b.head)) ks
    asked_of =
        items_asked u0 d.head.name.text b [] (outset items) items
        (none_of_both (items_premises u0 [] (outset items) items) (tries_limits u0 [] (outset items) items ++ paths_limits u0 [] (outset items) items) in_profile.profiled).0 bodied

    same_name : d.head.name.text ≡ b.head.name.text
    same_name = (bytes_eq-Decides d.head.name.text b.head.name.text).0 asked_of.0

    stable_is : profile.stable_of u0 b.head ≡ stable
    stable_is =
        ap (λ name. stable_in (stable_locals (length b.head.params) (bodied_function name (outset items) items))) (sym same_name)
        ∙ ap (λ o. stable_in (stable_locals (length b.head.params) o)) bodied

    layout_is : u0.program.layout ≡ l
    unfolding program_of
    layout_is = in_profile.placed

    asked : Each (AskedAt l stable) ks
    asked = subst (λ m. Each (AskedAt m stable) ks) layout_is (subst (λ s. Each (AskedAt u0.program.layout s) ks) stable_is asked_of.1)

    -- the arguments of calls, by their paths
    abbrev pub own_kind : Kind
    own_kind = (thing_type b.here b.head.result).kind

    abbrev LeadAt : Point → Uses → Type 0
    LeadAt p x = (c : Call) → p.call ≡ Some c → AllLead stable c.args x.arguments

    leads_known : (p : ℕ) (o : Option Known) → slice_get ks p ≡ o → LeadAt (or_idle (option_map (point_of own_kind) o)) (or_unused (option_map (uses_of l stable) o))
    leads_known p None at = λ c e. absurd cc
    leads_known p (Some k) at =
        subst (λ kind. LeadAt (point_of kind k) (uses_of l stable k)) begun.result
        (deed_leads k.here stable (λ c ways. AllLead stable c.args ways)
        (call_leads k.here (setting l b None)
        (all_at (λ x. Belongs x.here (setting l b None)) ks p k (scopes_belong items d.head.name.text b l None runs in_profile.placed bodied) at) stable)
        l all_words result k.deed (each_at (FactsAt all_words result) ks p k facts at))

    pub function_leads : (p : ℕ) → LeadAt (point_at f p) (uses_at f p)
    function_leads p =
        subst (λ o. LeadAt (or_idle o) (or_unused (slice_get (uses_in l b) p))) (sym (map_at (point_of own_kind) ks p))
        (subst (λ o. LeadAt (or_idle (option_map (point_of own_kind) (slice_get ks p))) (or_unused o)) (sym (map_at (uses_of l stable) ks p))
        (leads_known p (slice_get ks p) refl))

    -- a function of the program
    module _ (u : Program) (same : u ≡ program_of items) (paths : List Way)
        (cover : (p : ℕ) (c : Way) → list_any (is_guarded_by c) ((or_unused (slice_get (uses_in l b) p)).left ++ (or_unused (slice_get (uses_in l b) p)).right) ≡ true → Contains paths c)
      where
        abbrev sig : Signatures
        sig = signatures u

        abbrev At : Point → Uses → Type 0
        At p x = TermsAt l (slice_get (kinds_of b)) stable sig paths p x

        at_known : (p : ℕ) (k : Known) → slice_get ks p ≡ Some k → At (point_of result.kind k) (uses_of l stable k)
        at_known p k at =
            terms k.here l (slice_get (kinds_of b))
            (λ given. all_at (λ x. Belongs x.here (setting l b given)) ks p k (scopes_belong items d.head.name.text b l given runs in_profile.placed bodied) at)
            stable all_words (small_in k.here (all_at (λ x. HasSmall x.here) ks p k (body_small d.head.name.text b items typed bodied) at)) result sig paths k.deed
            (each_at (FactsAt all_words result) ks p k facts at) (each_at (AskedAt l stable) ks p k asked at)
            (subst (λ r. LoadsAgree r k) (sym begun.result)
            (all_at (LoadsAgree (thing_type b.here b.head.result).kind) ks p k (points_load_cells items d.head.name.text b l in_profile.spellable runs in_profile.placed bodied) at))
            (subst (λ r. LoadsJustThose r k) (sym begun.result)
            (all_at (LoadsJustThose (thing_type b.here b.head.result).kind) ks p k (points_load_just items d.head.name.text b l in_profile.spellable runs in_profile.placed bodied) at))
            (subst (λ x. (c : Way) → list_any (is_guarded_by c) (x.left ++ x.right) ≡ true → Contains paths c) (ap or_unused (map_at (uses_of l stable) ks p ∙ ap (option_map (uses_of l stable)) at)) (cover p))

        abbrev r : Kind
        r = (thing_type b.here b.head.result).kind

        by_known : (p : ℕ) (o : Option Known) → slice_get ks p ≡ o → At (or_idle (option_map (point_of r) o)) (or_unused (option_map (uses_of l stable) o))
        by_known p None at = idle_terms l (slice_get (kinds_of b)) stable sig paths
        by_known p (Some k) at = subst (λ kind. At (point_of kind k) (uses_of l stable k)) begun.result (at_known p k at)

        terms_at : (p : ℕ) → At (or_idle (slice_get (body_in b).points p)) (or_unused (slice_get (uses_in l b) p))
        terms_at p =
            subst (λ o. At (or_idle o) (or_unused (slice_get (uses_in l b) p))) (sym (map_at (point_of r) ks p))
            (subst (λ o. At (or_idle (option_map (point_of r) (slice_get ks p))) (or_unused o)) (sym (map_at (uses_of l stable) ks p)) (by_known p (slice_get ks p) refl))

        -- the kinds, and how a point goes on
        of_program : slice_get (program_of items).functions n ≡ Some f
        unfolding program_of
        of_program =
            map_at (function_in (laid_in items) items) (declared_functions (outset items) items) n
            ∙ ap (option_map (function_in (laid_in items) items)) declared
            ∙ ap (λ o. Some (function_of (laid_in items) d o)) bodied
            ∙ ap (λ m. Some (function_of m d (Some b))) in_profile.placed

        kinds_all : All (PointHolds sig u.layout (function_locals f (body_in b)) f.result) (body_in b).points
        kinds_all =
            subst (λ v. All (PointHolds (signatures v) v.layout (function_locals f (body_in b)) f.result) (body_in b).points) (sym same)
            (programs_well_kinded items l n f (body_in b) in_profile.spellable runs in_profile.placed of_program refl)

        kinds_at : (p : ℕ) → PointHolds sig u.layout (slice_get (local_kinds f)) f.result (point_at f p)
        kinds_at p = by (slice_get (body_in b).points p) refl
          where
            by : (o : Option Point) → slice_get (body_in b).points p ≡ o → PointHolds sig u.layout (slice_get (local_kinds f)) f.result (or_idle o)
            by None at = (tt, tt)
            by (Some x) at = all_at (PointHolds sig u.layout (function_locals f (body_in b)) f.result) (body_in b).points p x kinds_all at

        goes_on : (p : ℕ) (o : Outcome) → IsSome (point_at f p).call → can_have (point_at f p).action o ≡ true → IsSome (next_point (edges_of f) p o)
        goes_on p o call may =
            by (slice_get ks p) refl (subst (λ x. IsSome (or_idle x).call) (map_at (point_of r) ks p) call) (subst (λ x. can_have (or_idle x).action o ≡ true) (map_at (point_of r) ks p) may)
          where
            by : (x : Option Known) → slice_get ks p ≡ x → IsSome (or_idle (option_map (point_of r) x)).call → can_have (or_idle (option_map (point_of r) x)).action o ≡ true
                → IsSome (next_point (body_edges b.here b.body) p o)
            by None at c m = never (sym c)
            by (Some k) at c m = let g = deed_goes k.here r k.deed o c m in points_go_on b.here b.body p k o at g.0 g.1

        layout_same : u.layout ≡ l
        unfolding program_of
        layout_same = ap (λ v. v.layout) same ∙ in_profile.placed

        locals_same : kinds_of b ≡ local_kinds f
        locals_same = ap (λ ps. ps ++ (body_in b).locals) (bodies_agree items n d b typed declared bodied).0

        own_terms : (p : ℕ) → TermsAt u.layout (slice_get (local_kinds f)) (stable_of f.body) sig paths (point_at f p) (uses_at f p)
        own_terms p =
            subst (λ m. TermsAt m (slice_get (local_kinds f)) stable sig paths (point_at f p) (uses_at f p)) (sym layout_same)
            (subst (λ kinds. TermsAt l (slice_get kinds) stable sig paths (point_at f p) (uses_at f p)) locals_same (terms_at p))

        pub point_terms : (p : ℕ) → PointTerms u paths f p
        point_terms p =
            let t = own_terms p in
            record {
              kinds = kinds_at p;
              args_fit = t.args_fit;
              right_fits = t.right_fits;
              left_fits = t.left_fits;
              args_read = t.args_read;
              right_read = t.right_read;
              left_read = t.left_read;
              old_read = t.old_read;
              whole = t.whole;
              written = t.written;
              whole_local = t.whole_local;
              silent = t.silent;
              goes_on = goes_on p;
            }

    pub function_terms : (u : Program) → u ≡ program_of items → (p : ℕ) → PointTerms u (paths_of u f) f p
    function_terms u same p = point_terms u same (paths_of u f) (λ q c h. guards_named c u f (body_in b) refl (uses_stand_beside l b) q h) p

-- the function of a number, where it has a body: what holds of each function of a declaration with a body holds of it
module _ (items : List UnitItem) (l : Layout) (in_profile : IsInProfile items l) (u : Program) (same : u ≡ program_of items) (n : ℕ) (Holds : Function → Type 0)
    (holds : (d : Declared) (b : Bodied) → slice_get (declared_functions (outset items) items) n ≡ Some d → bodied_function d.head.name.text (outset items) items ≡ Some b
    → Holds (function_of l d (Some b)))
  where
    functions_are : slice_get u.functions n ≡ option_map (function_in l items) (slice_get (declared_functions (outset items) items) n)
    unfolding program_of
    functions_are =
        ap (λ v. slice_get v.functions n) same
        ∙ map_at (function_in (laid_in items) items) (declared_functions (outset items) items) n
        ∙ ap (λ m. option_map (function_in m items) (slice_get (declared_functions (outset items) items) n)) in_profile.placed

    by_body : (d : Declared) → slice_get (declared_functions (outset items) items) n ≡ Some d → (o : Option Bodied) → bodied_function d.head.name.text (outset items) items ≡ o
        → IsSome (function_of l d o).body → Holds (function_of l d o)
    by_body d at None is h = never (sym h)
    by_body d at (Some b) is h = holds d b at is

    by_declared : (o : Option Declared) → slice_get (declared_functions (outset items) items) n ≡ o → IsSome (or_no_function (option_map (function_in l items) o)).body
        → Holds (or_no_function (option_map (function_in l items) o))
    by_declared None at h = never (sym h)
    by_declared (Some d) at h = by_body d at (bodied_function d.head.name.text (outset items) items) refl h

    pub number_holds : IsSome (function_at u n).body → Holds (function_at u n)
    number_holds h =
        subst (λ o. Holds (or_no_function o)) (sym functions_are)
        (by_declared (slice_get (declared_functions (outset items) items) n) refl (subst (λ o. IsSome (or_no_function o).body) functions_are h))

pub points_have_their_terms : PointsHaveTheirTerms
points_have_their_terms items l u n in_profile same h p =
    number_holds items l in_profile u same n (λ f. (q : ℕ) → PointTerms u (paths_of u f) f q)
    (λ d b at is. function_terms items l in_profile d b n at is u same) h p

pub arguments_have_their_paths : ArgumentsHaveTheirPaths
arguments_have_their_paths items l u n in_profile same h p =
    number_holds items l in_profile u same n (λ f. (q : ℕ) (c : Call) → (point_at f q).call ≡ Some c → AllLead (stable_of f.body) c.args (uses_at f q).arguments)
    (λ d b at is. function_leads items l in_profile d b n at is) h p
