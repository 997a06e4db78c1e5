-- Functions with bodies of accepted units may be called.
use Rattle.std.proofs.Common.{◌≡◌, ◌∙◌, ℕ, ◌≤◌, Bool, true, false, List, [], ◌∷◌, ◌++◌, length, map, All, Option, Some, None, option_map}
use Rattle.std.proofs.Common.{slice_get, refl, sym, ap, subst}
use Rattle.std.proofs.lemmas.List.Elements.{All-head, All-tail}
use Rattle.std.specs.List.{list_any}
use Rattle.tsa_tree.specs.declarations.Syntax.{Head}
use Rattle.tsa_tree.specs.declared.kind.Kind.{Kind}
use Rattle.tsa_tree.specs.declared.kind.Kind.TheVariants as type
use Rattle.tsa_tree.specs.declared.kind.Declaring.TheVariants as declaring
use Rattle.tsa_tree.specs.declared.premise.Bearer.TheVariants as on
use Rattle.tsa_tree.specs.expressions.Sound.{all_words}
use Rattle.tsa_tree.specs.types.Attributes.{attributes_premises}
use Rattle.tsa_tree.specs.types.DeclaredTypes.{declared_premises, thing_type}
use Rattle.tsa_tree.specs.types.Heads as heads
use Rattle.tsa_tree.specs.types.Heads.{behind_head, inside, is_another, params_of, params_premises}
use Rattle.tsa_tree.specs.types.Premises as typing
use Rattle.tsa_tree.specs.types.Runnable.{has_body}
use Rattle.tsa_tree.specs.types.Scopes.{Scope, found}
use Rattle.tsa_tree.specs.types.Units.{outset, refusal_of_types}
use Rattle.tsa_tree.specs.units.Syntax.{UnitItem}
use Rattle.tsa_place_model.specs.LockPaths.{stable_in}
use Rattle.tsa_place_model.specs.Ways.{Way}
use Rattle.tsa_core.specs.Bodies.{Known, known_in_body, point_of}
use Rattle.tsa_place_model.specs.Calls.{Layout}
use Rattle.tsa_core.specs.KindLaws.{kinds_of}
use Rattle.tsa_core.specs.Kinds.{scalar_kind}
use Rattle.tsa_core.specs.Programs.{Attr, Bodied, Declared, Function, attrs_of, bodied_function, body_in, declared_functions, function_of}
use Rattle.tsa_core.specs.Programs.{stable_locals}
use Rattle.tsa_core.proofs.BodiesAgree.{bodies_agree}
use Rattle.tsa_core.proofs.BodyScopes.{SameTypes, body_types, head_types, through, other_way}
use Rattle.tsa_core.proofs.EachScope.{each_point}
use Rattle.tsa_core.proofs.KindTests.{one_of}
use Rattle.tsa_core.proofs.LaidScopes.{kind_written}
use Rattle.tsa_core.proofs.MappedLists.{map_at, map_length}
use Rattle.tsa_core.proofs.NoFailure as typed
use Rattle.tsa_rules.specs.Attributes as rules
use Rattle.tsa_rules.specs.Attributes.{claim_count, local_kinds}
use Rattle.tsa_rules.specs.Points.{or_idle, point_at}
use Rattle.tsa_profile_accesses.specs.Locks.{is_try, tries}
use Rattle.tsa_profile_accesses.specs.Premises.{first}
use Rattle.tsa_profile_accesses.specs.declared.premise.ProfileCode.TheVariants.{PF6}
use Rattle.tsa_profile_declarations.specs.Declarations.{attribute_premises, head_premises, is_int, is_nothing, param_premises}
use Rattle.tsa_profile_guards.proofs.NoneFails.{none_of_both, none_of_first}
use Rattle.tsa_profile_accesses.specs.Expressions.{View}
use Rattle.tsa_profile.specs.Units as profile
use Rattle.tsa_profile.specs.Units.{attributes_by, items_premises, paths_limits, tries_limits, unit_of}
use Rattle.tsa_sound.specs.BodyFacts.{BodyFacts, GivesAnAnswer, IsScalar, MentionsParameters}
use Rattle.tsa_sound_accepted.specs.terms.Units.{IsInProfile}
use Rattle.tsa_sound_accepted.specs.entered.Laws.{BodiesMayBeEntered}
use Rattle.tsa_sound_accepted.proofs.entered.AnswersGiven.{known_gives}
use Rattle.tsa_sound_accepted.proofs.entered.AttributesAsked.{IsAsked, claimed_once, each_asked}
use Rattle.tsa_sound_accepted.proofs.entered.Functions as functions
use Rattle.tsa_sound_accepted.proofs.entered.Functions.{begun, facts, function_made, result, text}
use Rattle.tsa_sound_accepted.proofs.entered.HeadScopes.{names_parameters}
use Rattle.tsa_sound_accepted.proofs.entered.JudgedHeads.{BodyJudged, HeadJudged, body_has, body_name, body_judged, heads_judged}
use Rattle.tsa_sound_accepted.proofs.entered.JudgedHeads.{one_function}
use Rattle.tsa_sound_accepted.proofs.entered.ParametersMentioned.{attributes_mention}
use Rattle.tsa_sound_accepted.proofs.entered.ScalarLocals.{AreWritten, both_scalar, declared_scalar, params_scalar, result_written}
use Rattle.tsa_sound_accepted.proofs.entered.ScalarLocals.{written_further, written_local}
use Rattle.tsa_sound_accepted.proofs.kept.TryLocals.{same_tries}
use Rattle.tsa_base.proofs.Truths.{never}

-- a function that tries gives an `int`
int_kind : (kind : Kind) → is_int kind ≡ true → kind ≡ type.Int
int_kind type.Int h = refl
int_kind type.Unsigned h = never (sym h)
int_kind type.Void h = never (sym h)
int_kind (type.Structure n) h = never (sym h)
int_kind (type.Pointer n c) h = never (sym h)
int_kind type.Null h = never (sym h)
int_kind type.Function h = never (sym h)

some_tries : (kind : Kind) (attrs : List Attr) → All (IsAsked kind) attrs → tries attrs ≡ true → kind ≡ type.Int
some_tries kind [] h t = never (sym t)
some_tries kind (a ∷ attrs) h t =
    one_of (is_try a.kind) (tries attrs) t (λ e. int_kind kind ((All-head (IsAsked kind) a attrs h).answer e))
    (λ e. some_tries kind attrs (All-tail (IsAsked kind) a attrs h) e)

-- the parts of what types ask of a head
record HeadTyped (here : Scope) (head : Head) (with_body : Bool) : Type 0 where
  params : typing.first (params_premises (behind_head here head with_body) 0 head.params) ≡ None
  attributes : typing.first (attributes_premises (inside here head with_body) on.Function head.attrs) ≡ None

head_typed : (here : Scope) (head : Head) (with_body : Bool) → typing.first (heads.head_premises here head with_body) ≡ None → HeadTyped here head with_body
unfolding heads.head_premises
head_typed here head with_body h =
    let front = declared_premises here declaring.Result (is_another here head with_body (found here.names head.name.text)) head.name.span head.result in
    let params = params_premises (behind_head here head with_body) 0 head.params in
    let attributes = attributes_premises (inside here head with_body) on.Function head.attrs in
    let a = typed.none_of_both front (params ++ attributes) h in
    let b = typed.none_of_both params attributes a.1 in
    record { params = b.0; attributes = b.1 }

-- and of what the profile asks of one
record HeadAsked (here : Scope) (v : View) (head : Head) (bodied : Bool) : Type 0 where
  params : first (param_premises here head.params) ≡ None
  attributes : first (attribute_premises v bodied (thing_type here head.result).kind [] [] head.attrs) ≡ None

head_asked : (here : Scope) (v : View) (head : Head) (bodied : Bool) → first (head_premises [] here v head bodied) ≡ None → HeadAsked here v head bodied
head_asked here v head bodied h =
    let attributes = attribute_premises v bodied (thing_type here head.result).kind [] [] head.attrs in
    let x = none_of_first PF6 head.name.span (is_nothing [] here head bodied) (param_premises here head.params ++ attributes) h in
    let y = none_of_both (param_premises here head.params) attributes x.1 in
    record { params = y.0; attributes = y.1 }

module _ (items : List UnitItem) (l : Layout) (in_profile : IsInProfile items l) (n : ℕ) (d : Declared) (b : Bodied)
    (at : slice_get (declared_functions (outset items) items) n ≡ Some d) (body_at : bodied_function d.head.name.text (outset items) items ≡ Some b)
  where
    abbrev u : profile.Unit
    u = unit_of [] items

    abbrev f : Function
    f = function_of l d (Some b)

    types : refusal_of_types items ≡ None
    types = functions.typed items l in_profile d.head.name.text b body_at

    asked : first (items_premises u [] (outset items) items) ≡ None
    asked =
        (none_of_both (items_premises u [] (outset items) items) (tries_limits u [] (outset items) items ++ paths_limits u [] (outset items) items)
        in_profile.profiled).0

    -- ATTRIBUTES

    head : HeadJudged items d
    head = heads_judged items [] (outset items) items types asked n d at

    abbrev stable : ℕ → Bool
    stable = stable_in (stable_locals (length d.head.params) (Some b))

    abbrev view : View
    view = record { layout = u.program.layout; attributes = head.known; here = inside d.here d.head d.with_body; stable = stable; is_run = false }

    abbrev given : Kind
    given = (thing_type d.here d.head.result).kind

    own_head : HeadAsked d.here view d.head true
    own_head =
        subst (λ o. HeadAsked d.here (record {
          layout = u.program.layout;
          attributes = head.known;
          here = inside d.here d.head d.with_body;
          stable = stable_in (stable_locals (length d.head.params) o);
          is_run = false;
        }) d.head true) body_at
        (subst (λ bodied. HeadAsked d.here (profile.view_of u head.known d.here d.head d.with_body) d.head bodied)
        (body_has d.head.name.text (outset items) items b body_at)
        (head_asked d.here (profile.view_of u head.known d.here d.head d.with_body) d.head (has_body d.head.name.text items) head.asked))

    attributes_asked : All (IsAsked given) f.attrs
    attributes_asked = each_asked view given [] [] d.head.attrs (head_typed d.here d.head d.with_body head.typed_head).attributes own_head.attributes

    once : (c : Way) → claim_count f.attrs c ≤ 1
    once c = claimed_once c view given d.head.attrs own_head.attributes

    parameters : All (λ a. MentionsParameters (length f.params) a.path) f.attrs
    parameters =
        subst (λ k. All (λ a. MentionsParameters k a.path) f.attrs) (sym (map_length _ d.head.params))
        (attributes_mention (length d.head.params) stable (inside d.here d.head d.with_body)
        (λ name e k is means s. names_parameters items n d at name e k is means) d.head.attrs)

    -- LOCALS AND THE RESULT

    agree : (map (λ p. (thing_type b.here p.ctype).kind) b.head.params ≡ map (λ t. t.kind) (params_of d.here d.head.params))
        × ((thing_type b.here b.head.result).kind ≡ given)
    agree = bodies_agree items n d b types at body_at

    body : BodyJudged items b
    body = body_judged items types asked d.head.name.text b body_at

    written : AreWritten b.here
    written = kind_written l (slice_get (kinds_of b)) b.here (begun items l in_profile d.head.name.text b body_at).names

    scalar_params : (j : ℕ) (kind : Kind) → slice_get (map (λ p. (thing_type b.here p.ctype).kind) b.head.params) j ≡ Some kind → IsScalar kind
    scalar_params =
        let inner = inside body.here b.head true in
        let same : SameTypes b.here body.here = subst (λ x. SameTypes x body.here) (sym body.begins) (other_way body.here inner (body_types body.here b.head)) in
        params_scalar b.here written body.here (behind_head body.here b.head true) 0 b.head.params same
        (through b.here body.here (behind_head body.here b.head true) same (head_types body.here b.head true)) (head_typed body.here b.head true body.typed_head).params
        (head_asked body.here (profile.view_of u body.known body.here b.head true) b.head (has_body b.head.name.text items) body.asked).params

    scalar_locals : (j : ℕ) (kind : Kind) → slice_get (body_in b).locals j ≡ Some kind → IsScalar kind
    scalar_locals =
        declared_scalar all_words (result items l in_profile d.head.name.text b body_at) (known_in_body b.here b.body)
        (facts items l in_profile d.head.name.text b body_at) (each_point AreWritten (λ here k h. written_further here k h) written_local b.here b.body written)

    scalars : (j : ℕ) (kind : Kind) → slice_get (local_kinds f) j ≡ Some kind → IsScalar kind
    scalars =
        subst (λ ps. (j : ℕ) (kind : Kind) → slice_get (ps ++ (body_in b).locals) j ≡ Some kind → IsScalar kind) agree.0
        (both_scalar all_words (result items l in_profile d.head.name.text b body_at)
        (map (λ p. (thing_type b.here p.ctype).kind) b.head.params) (body_in b).locals scalar_params scalar_locals)

    scalar_result : scalar_kind f.result ≡ true → IsScalar f.result
    scalar_result = subst (λ kind. scalar_kind kind ≡ true → IsScalar kind) agree.1 (result_written (thing_type b.here b.head.result).kind (written b.head.result))

    -- ANSWERS

    own_tries : tries f.attrs ≡ true → body.beside.tries ≡ true
    own_tries t =
        let name : d.head.name.text ≡ body.declared.head.name.text = body_name d.head.name.text b (outset items) items body_at ∙ sym body.named in
        let same = one_function items types n body.number d body.declared at body.at name in
        body.same_tries ∙ sym (ap (λ x. tries (attributes_by u x)) same)
        ∙ ap (λ o. tries (attrs_of (stable_in (stable_locals (length d.head.params) o)) (inside d.here d.head d.with_body) d.head.attrs)) body_at ∙ t

    answers : list_any (λ a. rules.is_try a.kind) f.attrs ≡ true → (p : ℕ) → GivesAnAnswer (point_at f p).action
    answers h p =
        let t = sym (same_tries f.attrs) ∙ h in
        let int : (thing_type b.here b.head.result).kind ≡ type.Int = agree.1 ∙ some_tries given f.attrs attributes_asked t in
        subst (λ o. GivesAnAnswer (or_idle o).action) (sym (map_at (point_of (thing_type b.here b.head.result).kind) ks p))
        (subst (λ kind. GivesAnAnswer (or_idle (option_map (point_of kind) (slice_get ks p))).action) (sym int) (by t (slice_get ks p) refl))
      where
        ks : List Known
        ks = known_in_body b.here b.body

        by : tries f.attrs ≡ true → (o : Option Known) → slice_get ks p ≡ o → GivesAnAnswer (or_idle (option_map (point_of type.Int) o)).action
        by t None is = tt
        by t (Some k) is = known_gives b body.beside (own_tries t) body.kept b.head.name.span p k is

    pub body_facts : BodyFacts f
    body_facts = record {
      named = λ j x less. (attributes_asked j x less).named;
      parameters = parameters;
      once = once;
      modes = λ j x less. (attributes_asked j x less).mode;
      scalars = scalars;
      result = scalar_result;
      answers = answers;
    }

pub bodies_may_be_entered : BodiesMayBeEntered
bodies_may_be_entered items l u n in_profile same body =
    let m = function_made items l in_profile u same n body in
    subst BodyFacts m.made (body_facts items l in_profile n m.declared m.bodied m.at m.body_at)
