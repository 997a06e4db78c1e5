-- Each point that calls, of each function with a body of a typed unit in the profile, is as the laws of calls ask.
use Rattle.std.proofs.Common.{◌≡◌, ◌∙◌, ◌⊎◌, ℕ, ◌<◌, ◌≤◌, arith, nat_eq, true, false, List, [], ◌∷◌, length, map, All, Option, Some, None}
use Rattle.std.proofs.Common.{IsSome, option_and_then, option_map, slice_get, refl, sym, ap, ap₂, subst}
use Rattle.std.specs.List.{list_any}
use Rattle.tsa_tree.specs.declared.kind.Kind.{Kind}
use Rattle.tsa_tree.specs.declared.kind.Kind.TheVariants as type
use Rattle.tsa_tree.specs.declared.kind.ThingType.{ThingType}
use Rattle.tsa_tree.specs.declared.meaning.Meaning.TheVariants as meant
use Rattle.tsa_tree.specs.points.Syntax.{ends}
use Rattle.tsa_tree.specs.expressions.Sound.{all_words}
use Rattle.tsa_tree.specs.types.DeclaredTypes.{thing_type}
use Rattle.tsa_tree.specs.types.Heads.{inside, params_of}
use Rattle.tsa_tree.specs.types.Runnable.{Runnable}
use Rattle.tsa_tree.specs.types.Units.{outset, refusal_of_types}
use Rattle.tsa_tree.specs.units.Syntax.{UnitItem}
use Rattle.tsa_tree.proofs.types.UnitNodes.{premises_tell_it}
use Rattle.tsa_tree.specs.types.Lookups.{params_in}
use Rattle.tsa_place_model.specs.Units.{laid_in}
use Rattle.tsa_place_model.specs.LockPaths.{stable_in}
use Rattle.tsa_core.specs.Bodies.{Known, declare, knows, known_all, known_in_body, point_by, point_of}
use Rattle.tsa_place_model.specs.Calls.{Layout}
use Rattle.tsa_core.specs.Kinds.{Belongs, scalar_kind}
use Rattle.tsa_core.specs.KindLaws.{setting, signatures}
use Rattle.tsa_core.specs.Laws.{ActsBelow, KnowsBelow, PointBelow}
use Rattle.tsa_core.specs.Meanings.{Call}
use Rattle.tsa_core.specs.Programs.{Bodied, Declared, Function, Program, bodied_function, body_in, declared_functions, function_in}
use Rattle.tsa_core.specs.Programs.{function_of, program_of}
use Rattle.tsa_core.specs.Terms.{Term}
use Rattle.tsa_core.specs.Uses.{argument_ways, uses_by, uses_of}
use Rattle.tsa_core.proofs.Beginnings.{bodies_begin_below}
use Rattle.tsa_core.proofs.BodiesAgree.{bodies_agree}
use Rattle.tsa_core.proofs.BodyScopes.{BeginsIn, unit_begins}
use Rattle.tsa_core.proofs.CallsHold.{CallsFit}
use Rattle.tsa_core.proofs.DeedsHold.{Facts}
use Rattle.tsa_core.proofs.FactsKnown.{FactsAt, all_facts, each_both}
use Rattle.tsa_core.proofs.KnownLocals.{NamesBelow, points_speak_of_known}
use Rattle.tsa_core.proofs.MappedLists.{map_at, map_length}
use Rattle.tsa_core.proofs.ScopesBelong.{Each, scopes_belong}
use Rattle.tsa_core.proofs.SignaturesFit.{SpellableBody, body_spellable}
use Rattle.tsa_path.specs.Substitution.{as_pointer, given}
use Rattle.tsa_rules.specs.Attributes as rules
use Rattle.tsa_rules.specs.Attributes.{all_as_called}
use Rattle.tsa_rules.specs.Points.{attrs_at, attrs_called, function_at, is_a_try, local_begun, or_idle, or_no_function, or_unused, point_at}
use Rattle.tsa_rules.specs.Points.{points_of, uses_at}
use Rattle.tsa_rules.specs.TryVariables.{AreInOrder}
use Rattle.tsa_rules.proofs.KeptTries.{try_variables_are_told_by_declarations}
use Rattle.tsa_profile_accesses.specs.Locks.{lacks_path, tries}
use Rattle.tsa_profile_points.specs.Bodies.{Around}
use Rattle.tsa_core_points.specs.CoreLaws as core
use Rattle.tsa_profile_accesses.specs.Expressions.{attributes_at}
use Rattle.tsa_core_points.specs.Points.{PlacedPoint}
use Rattle.tsa_profile.proofs.KnownCalls.{Reaches}
use Rattle.tsa_profile.proofs.UnitsRun.{profiles_are_runnable}
use Rattle.tsa_sound.specs.CallFacts.{CallFacts, Declares, IsOutside, IsUnmentioned}
use Rattle.tsa_sound_accepted.specs.terms.Units.{IsInProfile}
use Rattle.tsa_sound_accepted.proofs.kept.StablePaths.{attrs_fine, attrs_unmentioned}
use Rattle.tsa_sound_accepted.specs.called.Laws.{CallsHaveTheirFacts}
use Rattle.tsa_sound_accepted.proofs.called.ArgumentsLead.{arguments_lead}
use Rattle.tsa_sound_accepted.proofs.called.CallSignatures.{params_are, points_fit, result_is}
use Rattle.tsa_sound_accepted.proofs.called.Declarations.{First, declared_first}
use Rattle.tsa_sound_accepted.proofs.called.DeedCalls.{CallHere, deed_calls}
use Rattle.tsa_sound_accepted.proofs.called.LocalsBelow.{arguments_fine, called_unmentioned, known_below}
use Rattle.tsa_sound_accepted.proofs.called.NamedAttributes.{all_at, all_named, each_at, same_tries}
use Rattle.tsa_sound_accepted.proofs.called.OutsideShapes.{int_by, outside_by}
use Rattle.tsa_sound_accepted.proofs.called.PlacedPoints as placing
use Rattle.tsa_sound_accepted.proofs.called.PlacedPoints.{Judged, PlacedAt, attributes_same, declared_there, function_declared, placed_at}
use Rattle.tsa_sound_accepted.proofs.called.PlacedPoints.{reaches, unit_judged}
use Rattle.tsa_sound_accepted.proofs.called.ScopesMoved.{belongs_moved, facts_moved, points_have_more, points_know_below, scope_moved}
use Rattle.tsa_sound_accepted.proofs.called.TryNumbers.{declared_at_point, other_variable, try_numbered}
use Rattle.tsa_sound_accepted.proofs.entered.HeadScopes.{names_parameters}
use Rattle.tsa_base.proofs.Truths.{never}

module _ (items : List UnitItem) (l : Layout) (in_profile : IsInProfile items l) (n : ℕ) (d : Declared) (b : Bodied)
    (declared : slice_get (declared_functions (outset items) items) n ≡ Some d) (bodied : bodied_function d.head.name.text (outset items) items ≡ Some b)
  where
    typed : refusal_of_types items ≡ None
    typed = sym (premises_tell_it items) ∙ in_profile.typed

    runs : Runnable items
    runs = profiles_are_runnable items typed in_profile.profiled

    abbrev u : Program
    u = program_of items

    abbrev f : Function
    f = function_of l d (Some b)

    abbrev r : Kind
    r = (thing_type b.here b.head.result).kind

    abbrev ks : List Known
    ks = known_in_body b.here b.body

    begun : BeginsIn b l
    begun = unit_begins items d.head.name.text b l runs in_profile.placed bodied

    text : SpellableBody b
    text = body_spellable d.head.name.text b (outset items) items in_profile.spellable bodied

    abbrev result : ThingType
    result = begun.around.result

    facts : Each (FactsAt all_words result) ks
    facts =
        each_both (FactsAt all_words result) (known_all b.here b.body) (knows b.here ends ∷ [])
        (all_facts all_words result begun.around b.here b.body refl begun.typed begun.runs text) (tt, tt)

    layout_is : u.layout ≡ l
    unfolding program_of
    layout_is = in_profile.placed

    j : Judged items b
    j = unit_judged items in_profile.typed in_profile.profiled d.head.name.text b bodied

    abbrev a : Around
    a = placing.a items b j

    begins : KnowsBelow b.here × (b.here.locals ≡ length b.head.params)
    begins = bodies_begin_below items d.head.name.text b bodied

    order : AreInOrder b.here.locals (points_of f)
    order = try_variables_are_told_by_declarations.in_order b.here r b.body

    same_count : length b.head.params ≡ length d.head.params
    same_count =
        let agree = (bodies_agree items n d b typed declared bodied).0 in
        let one : length (map (λ p. (thing_type b.here p.ctype).kind) b.head.params) ≡ length b.head.params =
        map_length (λ p. (thing_type b.here p.ctype).kind) b.head.params
        in
        let two : length (map (λ t. t.kind) (params_of d.here d.head.params)) ≡ length (params_of d.here d.head.params) =
        map_length (λ t. t.kind) (params_of d.here d.head.params)
        in
        let three : length (params_of d.here d.head.params) ≡ length d.head.params = map_length (λ p. thing_type d.here p.ctype) d.head.params in
        sym one ∙ ap length agree ∙ two ∙ three

    -- a point that calls
    module _ (p : ℕ) (c : Call) (k : Known) (at : slice_get ks p ≡ Some k) (calls : (point_of r k).call ≡ Some c) where
      there : slice_get (points_of f) p ≡ Some (point_of r k)
      there = map_at (point_of r) ks p ∙ ap (option_map (point_of r)) at

      point_is : point_at f p ≡ point_of r k
      point_is = ap or_idle there

      uses_is : uses_at f p ≡ uses_of l a.stable k
      uses_is = ap or_unused (map_at (uses_of l a.stable) ks p ∙ ap (option_map (uses_of l a.stable)) at)

      x : PlacedAt items b j r p k
      x = placed_at items b j r d.head.name.span p k at c calls

      abbrev q : PlacedPoint
      q = x.q

      deed_same : q.deed ≡ k.deed
      deed_same = ap (λ y. y.deed) x.seen_same

      seen_same : core.seen q.here q.deed ≡ core.seen k.here q.deed
      seen_same = ap (λ y. y.here) x.seen_same ∙ ap (core.seen k.here) (sym deed_same)

      facts_there : Facts all_words result q.here q.deed
      facts_there =
          facts_moved all_words result k.here q.here q.deed seen_same
          (subst (λ y. Facts all_words result k.here y) (sym deed_same) (each_at (FactsAt all_words result) ks p k facts at))

      calls_there : (point_by q.here result.kind q.deed).call ≡ Some c
      calls_there = subst (λ kind. (point_by q.here kind q.deed).call ≡ Some c) (sym begun.result) (ap (λ y. y.call) x.point_is ∙ calls)

      action_is : (point_by q.here result.kind q.deed).action ≡ (point_at f p).action
      action_is = ap (λ kind. (point_by q.here kind q.deed).action) begun.result ∙ ap (λ y. y.action) x.point_is ∙ sym (ap (λ y. y.action) point_is)

      ways_are : (uses_by u.layout a.stable q.here q.deed).arguments ≡ (uses_at f p).arguments
      ways_are = ap (λ y. y.arguments) x.uses_are ∙ ap (λ m. (uses_of m a.stable k).arguments) layout_is ∙ sym (ap (λ y. y.arguments) uses_is)

      h : CallHere a u.layout q.here c (point_at f p).action (uses_at f p).arguments
      h =
          subst (λ ways. CallHere a u.layout q.here c (point_at f p).action ways) ways_are
          (subst (λ y. CallHere a u.layout q.here c y (uses_by u.layout a.stable q.here q.deed).arguments) action_is
          (deed_calls a u.layout q.here all_words result q.span q.deed facts_there x.asked c calls_there))

      abbrev m : ℕ
      m = h.called.n

      number : c.function ≡ m
      number = ap (λ y. y.function) h.called.call_is

      abbrev g : Function
      g = function_at u c.function

      reach : Reaches j.before (Some c)
      reach = reaches items b j r d.head.name.span p k at c calls

      attributes : attributes_at a.attributes m ≡ g.attrs
      attributes = subst (λ i. attributes_at a.attributes i ≡ g.attrs) number (attributes_same items b j c.function reach.0 reach.1)

      first_one : First items reach.0
      first_one = declared_first items typed in_profile.profiled c.function reach.0 (declared_there items b j c.function reach.0 reach.1)

      function_is : g ≡ function_of u.layout reach.0 (bodied_function reach.0.head.name.text (outset items) items)
      function_is = ap or_no_function (function_declared items b j c.function reach.0 reach.1)

      fit : CallsFit (signatures u) q.here
      fit =
          scope_moved k.here q.here q.deed seen_same (CallsFit (signatures u)) (λ s y. y) (λ s y. y)
          (all_at (λ y. CallsFit (signatures u) y.here) ks p k (points_fit items d.head.name.text b bodied begun.owned) at)

      signed : ((signatures u).result m ≡ Some h.called.thing.kind) × ((signatures u).params m ≡ Some (map (λ t. t.kind) (params_in q.here m)))
      signed = fit h.called.name (record { meaning = meant.Function m; thing = h.called.thing }) m h.called.known refl

      result_same : g.result ≡ h.called.thing.kind
      result_same = ap (λ i. (function_at u i).result) number ∙ result_is u m h.called.thing.kind signed.0

      params_same : map (λ t. t.kind) g.params ≡ map (λ t. t.kind) (params_in q.here m)
      params_same = ap (λ i. map (λ t. t.kind) (function_at u i).params) number ∙ params_are u m (map (λ t. t.kind) (params_in q.here m)) signed.1

      belongs : Belongs q.here (setting l b None)
      belongs =
          belongs_moved (setting l b None) k.here q.here q.deed seen_same
          (all_at (λ y. Belongs y.here (setting l b None)) ks p k (scopes_belong items d.head.name.text b l None runs in_profile.placed bodied) at)

      called_attrs : attrs_at u f p ≡ all_as_called (argument_ways a.stable q.here (params_in q.here m) h.called.args) g.attrs
      called_attrs = ap₂ all_as_called h.ways_are (ap (λ y. attrs_called u y.call) point_is ∙ ap (attrs_called u) calls)

      tried : is_a_try u (Some c) ≡ true → tries (attributes_at a.attributes m) ≡ true
      tried t = ap tries attributes ∙ sym (same_tries g.attrs) ∙ t

      int_given : is_a_try u (Some c) ≡ true → g.result ≡ type.Int
      int_given t =
          ap (λ y. y.result) function_is
          ∙ int_by items u.layout reach.0 first_one (bodied_function reach.0.head.name.text (outset items) items) refl
          (subst (λ y. list_any (λ z. rules.is_try z.kind) y.attrs ≡ true) function_is t)

      -- a local that begins with the answer
      module _ (i : ℕ) (kind : Kind) (y : Term) (is : (point_at f p).action ≡ declare i kind y) where
        begins_it : (point_of r k).action ≡ declare i kind y
        begins_it = sym (ap (λ z. z.action) point_is) ∙ is

        begun_there : local_begun (point_of r k).action ≡ Some i
        begun_there = ap local_begun begins_it

        number_is : i ≡ k.here.locals
        number_is =
            let acts = (all_at (λ z. PointBelow r z) ks p k (points_speak_of_known b.here r b.body begins.0) at).1 in
            (subst (ActsBelow k.here.locals) begins_it acts).0

        no_parameter : i < length d.head.params → ⊥
        no_parameter less =
            let few = all_at (λ z. b.here.locals ≤ z.here.locals) ks p k (points_have_more b) at in
            let first = begins.1 in
            let same = same_count in
            let number = number_is in
            absurd (omega (arith, less, few, first, same, number))

        not_below : i < k.here.locals → ⊥
        not_below less = let number = number_is in absurd (omega (arith, less, number))

        names_below : NamesBelow k.here.locals q.here.names
        names_below =
            scope_moved k.here q.here q.deed seen_same (λ s. NamesBelow k.here.locals s.names) (λ s z. z) (λ s z. z)
            (all_at (λ z. KnowsBelow z.here) ks p k (points_know_below b begins.0) at)

        own : All (λ z. IsUnmentioned i z.path) f.attrs
        own =
            attrs_unmentioned (λ z. z < length d.head.params) i f.attrs no_parameter
            (attrs_fine (λ z. z < length d.head.params) (stable_in (body_in b).stable) (inside d.here d.head d.with_body)
            (λ name z v known means s. names_parameters items n d declared name z v known means) d.head.attrs)

        called : All (λ z. IsUnmentioned i z.path) (attrs_at u f p)
        called =
            subst (All (λ z. IsUnmentioned i z.path)) (sym called_attrs)
            (called_unmentioned (λ z. z < k.here.locals) i not_below (argument_ways a.stable q.here (params_in q.here m) h.called.args) g.attrs
            (arguments_fine (λ z. z < k.here.locals) a.stable q.here (λ name z v known means s. known_below k.here.locals q.here names_below name z v means known)
            (params_in q.here m) h.called.args))

        declares : Declares u f p c i y
        declares = record {
          is_answer = h.begins i kind y is;
          own = own;
          called = called;
          variable = λ t. (
            declared_at_point f b.here.locals order p i (point_of r k) there begun_there,
            try_numbered u f p i (point_of r k) there (ap (is_a_try u) calls ∙ t) begun_there,
          );
          variables = λ w v z.
              subst (λ o. (nat_eq v i ≡ false) ⊎ ((is_a_try u o ≡ true) × (v ≡ i))) calls
              (other_variable u f b.here.locals order p i (point_of r k) there begun_there w v z);
        }

      call_facts : CallFacts u f p c
      call_facts = record {
        acts = h.acts;
        gives = λ used. subst (λ kind. scalar_kind kind ≡ true) (sym result_same) (h.gives used);
        asks = h.asks;
        tries = λ t. (h.takes (sym result_same ∙ int_given t) (tried t), int_given t);
        declares = declares;
        named = subst (All (λ z. IsSome z.path)) (sym called_attrs) (all_named (argument_ways a.stable q.here (params_in q.here m) h.called.args) g.attrs
            (subst (λ attrs. list_any (lacks_path (argument_ways a.stable q.here (params_in q.here m) h.called.args)) attrs ≡ false) attributes h.called.has_paths));
        arguments = λ i struct to_const y w kind is way.
            arguments_lead a.stable q.here (setting l b None) belongs (params_in q.here m) h.called.args h.called.typed_args i struct to_const y w
            (ap (λ kinds. slice_get kinds i) (sym params_same) ∙ kind) (ap (λ z. slice_get z.args i) (sym h.called.call_is) ∙ is)
            (ap (λ ways. option_and_then as_pointer (given ways i)) (sym h.ways_are) ∙ way);
        outside = λ none.
            subst IsOutside (sym function_is)
            (outside_by items u.layout reach.0 first_one (bodied_function reach.0.head.name.text (outset items) items) refl
            (subst (λ z. z.body ≡ None) function_is none));
      }

    pub function_calls : (p : ℕ) (c : Call) → (point_at f p).call ≡ Some c → CallFacts u f p c
    function_calls p c is = by (slice_get ks p) refl (subst (λ o. (or_idle o).call ≡ Some c) (map_at (point_of r) ks p) is)
      where
        by : (o : Option Known) → slice_get ks p ≡ o → (or_idle (option_map (point_of r) o)).call ≡ Some c → CallFacts u f p c
        by None at e = absurd cc
        by (Some k) at e = call_facts p c k at e

-- the function of a number, where it has a body
module _ (items : List UnitItem) (l : Layout) (in_profile : IsInProfile items l) (n : ℕ) where
  abbrev Holds : Function → Type 0
  Holds f = (p : ℕ) (c : Call) → (point_at f p).call ≡ Some c → CallFacts (program_of items) f p c

  functions_are : slice_get (program_of items).functions n ≡ option_map (function_in l items) (slice_get (declared_functions (outset items) items) n)
  unfolding program_of
  functions_are =
      map_at (function_in (laid_in items) items) (declared_functions (outset items) items) n
      ∙ ap (λ m. option_map (function_in m items) (slice_get (declared_functions (outset items) items) n)) in_profile.placed

  by_body : (d : Declared) → slice_get (declared_functions (outset items) items) n ≡ Some d → (o : Option Bodied)
      → bodied_function d.head.name.text (outset items) items ≡ o
      → IsSome (function_of l d o).body → Holds (function_of l d o)
  by_body d at None is h = never (sym h)
  by_body d at (Some b) is h = function_calls items l in_profile n d b at is

  by_declared : (o : Option Declared) → slice_get (declared_functions (outset items) items) n ≡ o → IsSome (or_no_function (option_map (function_in l items) o)).body
      → Holds (or_no_function (option_map (function_in l items) o))
  by_declared None at h = never (sym h)
  by_declared (Some d) at h = by_body d at (bodied_function d.head.name.text (outset items) items) refl h

  number_calls : IsSome (function_at (program_of items) n).body → Holds (function_at (program_of items) n)
  number_calls h =
      subst (λ o. Holds (or_no_function o)) (sym functions_are)
      (by_declared (slice_get (declared_functions (outset items) items) n) refl (subst (λ o. IsSome (or_no_function o).body) functions_are h))

pub calls_have_their_facts : CallsHaveTheirFacts
calls_have_their_facts items l u n in_profile same body p c is =
    subst (λ v. IsSome (function_at v n).body → (point_at (function_at v n) p).call ≡ Some c → CallFacts v (function_at v n) p c) (sym same)
    (λ h e. number_calls items l in_profile n h p c e) body is
