-- What a point sets is mentioned by no path that has to stay as it is.
use Rattle.std.proofs.Common.{◌≡◌, ◌∙◌, ℕ, ◌<◌, ◌≤◌, arith, nat_eq, eqb-true, Bool, true, false, List, length, map, All, Contains, Option}
use Rattle.std.proofs.Common.{Some, None, option_map, slice_get, refl, sym, ap, subst}
use Rattle.tsa_tree.specs.declarations.Syntax.{Declaration, Initialiser, value, list}
use Rattle.tsa_tree.specs.declared.expr.BinaryOp.{BinaryOp}
use Rattle.tsa_tree.specs.declared.kind.Kind.{Kind}
use Rattle.tsa_tree.specs.points.Syntax.{Deed, declares, evaluates, assigns, tests, switches, jumps, idles, returns, ends}
use Rattle.tsa_tree.specs.types.DeclaredTypes.{thing_type}
use Rattle.tsa_tree.specs.types.FirstFailing.{first_failing}
use Rattle.tsa_tree.specs.types.Heads.{inside, params_of}
use Rattle.tsa_tree.specs.types.Locals.{local_entry, unless_taken}
use Rattle.tsa_tree.specs.types.Scopes.{Scope, further, is_taken}
use Rattle.tsa_tree.specs.types.Units.{outset}
use Rattle.tsa_tree.specs.units.Syntax.{UnitItem}
use Rattle.tsa_tree.proofs.types.UnitNodes.{premises_tell_it}
use Rattle.tsa_place_model.specs.LockPaths.{stable_in}
use Rattle.tsa_place_model.specs.Ways.{Way}
use Rattle.tsa_core.specs.Bodies.{Action, Known, Point, branch, declare, declared, evaluate, give, go_on, known_in_body, point_by, point_of}
use Rattle.tsa_core.specs.Bodies.{set_cell, set_local, set_to, test}
use Rattle.tsa_place_model.specs.Calls.{Layout}
use Rattle.tsa_place_model.specs.Leading.{HasPlaces}
use Rattle.tsa_core.specs.Meanings.{Call, meaning}
use Rattle.tsa_core.specs.Programs.{Bodied, Declared, Function, Program, bodied_function, body_in, declared_functions, function_of}
use Rattle.tsa_core.specs.Programs.{program_of}
use Rattle.tsa_core.specs.Terms.{Term, constant, variable, answer, global, member, element, target, load, address, converted, prefixed}
use Rattle.tsa_core.specs.Terms.{joined}
use Rattle.tsa_core.proofs.Beginnings.{bodies_begin_below}
use Rattle.tsa_core.proofs.BodiesAgree.{bodies_agree}
use Rattle.tsa_core.proofs.EachScope.{each_point}
use Rattle.tsa_core.proofs.MappedLists.{map_at, map_length}
use Rattle.tsa_rules.specs.Points.{is_a_try, local_begun, mentions, or_idle, point_at, try_variable_at, try_variables}
use Rattle.tsa_rules.proofs.KeptTries.{try_variables_are_told_by_declarations}
use Rattle.tsa_profile.specs.Units.{refusal_of_profile}
use Rattle.tsa_profile.specs.Paths.{paths_of}
use Rattle.tsa_sound.specs.Facts.{IsUnmentioned, set_by}
use Rattle.tsa_sound.specs.LaidOut.{LaidOut}
use Rattle.tsa_sound_accepted.proofs.laid.Laying.{places_are_laid_out}
use Rattle.tsa_sound_accepted.specs.kept.Laws.{SetsApart}
use Rattle.tsa_sound_accepted.proofs.kept.SetLocals.{at_index, set_changes}
use Rattle.tsa_sound_accepted.proofs.kept.StablePaths.{attrs_fine, attrs_unmentioned, own_stay, unstable_unmentioned}
use Rattle.tsa_sound_accepted.proofs.kept.TryLocals.{tries_stay}
use Rattle.tsa_sound_accepted.proofs.called.TryNumbers.{tried_and_begun, declared_once, from_filter}
use Rattle.tsa_sound_accepted.proofs.entered.HeadScopes.{names_parameters}

-- What a point sets: a local that it assigns, or one that it declares without a call.
data IsSet (at : Point) (n : ℕ) : Type 0 where
  by_assignment : (o : Option BinaryOp) (kind : Kind) (x : Term) → at.action ≡ set_local n o kind x → IsSet at n
  by_declaration : (kind : Kind) (x : Term) → at.call ≡ None → at.action ≡ declare n kind x → IsSet at n

set_at : (call : Option Call) (action : Action) (n : ℕ) → set_by call action ≡ Some n → IsSet (record { call = call; action = action }) n
set_at call (set_local m o kind x) n e = let same : m ≡ n = cc in by_assignment o kind x (ap (λ k. set_local k o kind x) same)
set_at None (declare m kind x) n e = let same : m ≡ n = cc in by_declaration kind x refl (ap (λ k. declare k kind x) same)
set_at (Some c) (declare m kind x) n e = absurd cc
set_at None (evaluate x) n e = absurd cc
set_at (Some c) (evaluate x) n e = absurd cc
set_at None (set_cell place o kind x) n e = absurd cc
set_at (Some c) (set_cell place o kind x) n e = absurd cc
set_at None (test x) n e = absurd cc
set_at (Some c) (test x) n e = absurd cc
set_at None (branch x) n e = absurd cc
set_at (Some c) (branch x) n e = absurd cc
set_at None go_on n e = absurd cc
set_at (Some c) go_on n e = absurd cc
set_at None (give kind x) n e = absurd cc
set_at (Some c) (give kind x) n e = absurd cc

-- A declaration of the core program is one of the text.
declares_none : (x : Term) (o : Option BinaryOp) (kind : Kind) (r : Term) (n : ℕ) → local_begun (set_to x o kind r) ≡ Some n → ⊥
declares_none (variable m) o kind r n e = cc
declares_none (constant v) o kind r n e = cc
declares_none answer o kind r n e = cc
declares_none (global m) o kind r n e = cc
declares_none (member base m) o kind r n e = cc
declares_none (element base i) o kind r n e = cc
declares_none (target p) o kind r n e = cc
declares_none (load st p) o kind r n e = cc
declares_none (address p) o kind r n e = cc
declares_none (converted to y) o kind r n e = cc
declares_none (prefixed u y) o kind r n e = cc
declares_none (joined b y z) o kind r n e = cc

record Declares (k : Known) (n : ℕ) : Type 0 where
  declaration : Declaration
  deed_is : k.deed ≡ declares declaration
  number_is : n ≡ k.here.locals

init_begins : (here : Scope) (kind : Kind) (init : Option Initialiser) (n : ℕ) → local_begun (declared here kind init).action ≡ Some n → n ≡ here.locals
init_begins here kind None n e = cc
init_begins here kind (Some (value x)) n e = cc
init_begins here kind (Some (list items span)) n e = cc

declares_local : (result : Kind) (k : Known) (deed : Deed) → k.deed ≡ deed → (n : ℕ) → local_begun (point_by k.here result deed).action ≡ Some n → Declares k n
declares_local result k (declares d) is n e = record { declaration = d; deed_is = is; number_is = init_begins k.here (thing_type k.here d.ctype).kind d.init n e }
declares_local result k (assigns left o right) is n e = absurd (declares_none (meaning k.here left).term o _ _ n e)
declares_local result k (evaluates x) is n e = absurd cc
declares_local result k (tests None) is n e = absurd cc
declares_local result k (tests (Some x)) is n e = absurd cc
declares_local result k (switches x) is n e = absurd cc
declares_local result k jumps is n e = absurd cc
declares_local result k idles is n e = absurd cc
declares_local result k (returns None) is n e = absurd cc
declares_local result k (returns (Some x)) is n e = absurd cc
declares_local result k ends is n e = absurd cc

different : (m n : ℕ) → (m ≡ n → ⊥) → nat_eq m n ≡ false
different m n h = by (nat_eq m n) refl
  where
    by : (b : Bool) → nat_eq m n ≡ b → b ≡ false
    by false e = refl
    by true e = absurd (h (eqb-true m n e))

clash : {A : Type 0} (b : Bool) → b ≡ true → b ≡ false → A
clash true h g = absurd cc
clash false h g = absurd cc

idle_sets_none : (n : ℕ) → IsSet (or_idle None) n → ⊥
idle_sets_none n (by_assignment o kind x e) = cc
idle_sets_none n (by_declaration kind x c e) = cc

module _ (items : List UnitItem) (l : Layout) (typed : first_failing items ≡ None) (placed : HasPlaces items l) (fits : refusal_of_profile items ≡ None)
    (n : ℕ) (d : Declared) (b : Bodied) (at : slice_get (declared_functions (outset items) items) n ≡ Some d) (is : bodied_function d.head.name.text (outset items) items ≡ Some b)
  where
    abbrev u : Program
    u = program_of items

    abbrev f : Function
    f = function_of l d (Some b)

    abbrev result : Kind
    result = (thing_type b.here b.head.result).kind

    abbrev ks : List Known
    ks = known_in_body b.here b.body

    abbrev Unstable : ℕ → Type 0
    Unstable m = stable_in (body_in b).stable m ≡ false

    unstable : (p m : ℕ) (o : Option BinaryOp) (kind : Kind) (x : Term) → (point_at f p).action ≡ set_local m o kind x → Unstable m
    unstable p m o kind x e = set_changes b (bodies_begin_below items d.head.name.text b is).0 result p m o kind x e

    assigned : (p m : ℕ) (o : Option BinaryOp) (kind : Kind) (x : Term) (c : Way) → (point_at f p).action ≡ set_local m o kind x → Contains (paths_of u f) c
        → mentions m c ≡ false
    assigned p m o kind x c e among = unstable_unmentioned u l (subst LaidOut placed (places_are_laid_out items)) d b m c (unstable p m o kind x e) among

    -- a point by what is known there
    record At (p : ℕ) (y : Point) : Type 0 where
      known : Known
      there : slice_get ks p ≡ Some known
      point_is : point_of result known ≡ y

    at_point : (p : ℕ) (y : Point) → slice_get (body_in b).points p ≡ Some y → At p y
    at_point p y e = by (slice_get ks p) refl (sym (map_at (point_of result) ks p) ∙ e)
      where
        by : (o : Option Known) → slice_get ks p ≡ o → option_map (point_of result) o ≡ Some y → At p y
        by None there g = absurd cc
        by (Some k) there g = let same : point_of result k ≡ y = cc in record { known = k; there = there; point_is = same }

    declared_at : (p m : ℕ) (y : Point) (x : At p y) → local_begun y.action ≡ Some m → Declares x.known m
    declared_at p m y x e = declares_local result x.known x.known.deed refl m (ap (λ z. local_begun z.action) x.point_is ∙ e)

    -- at each point at least the parameters are known
    few_before : (p : ℕ) (k : Known) → slice_get ks p ≡ Some k → b.here.locals ≤ k.here.locals
    few_before p k there =
        let all = each_point (λ here. b.here.locals ≤ here.locals) (λ here m h. omega (arith, h)) (λ here x h. one_more here x (is_taken x.name.text here) h) b.here b.body (omega arith) in
        let i = at_index ks p k k there in
        subst (λ z. b.here.locals ≤ z.here.locals) i.1 (all p k i.0)
      where
        one_more : (here : Scope) (x : Declaration) (taken : Bool) → b.here.locals ≤ here.locals
            → b.here.locals ≤ (further 1 (unless_taken taken x.name.text (local_entry here x) here)).locals
        one_more here x true h = omega (arith, h)
        one_more here x false h = omega (arith, h)

    same_count : length b.head.params ≡ length d.head.params
    same_count =
        let agree = (bodies_agree items n d b (sym (premises_tell_it items) ∙ typed) at is).0 in
        let one : length (map (λ p. (thing_type b.here p.ctype).kind) b.head.params) ≡ length b.head.params = map_length (λ p. (thing_type b.here p.ctype).kind) b.head.params in
        let two : length (map (λ t. t.kind) (params_of d.here d.head.params)) ≡ length (params_of d.here d.head.params) = map_length (λ t. t.kind) (params_of d.here d.head.params) in
        let three : length (params_of d.here d.head.params) ≡ length d.head.params = map_length (λ p. thing_type d.here p.ctype) d.head.params in
        sym one ∙ ap length agree ∙ two ∙ three

    abbrev IsParameter : ℕ → Type 0
    IsParameter m = m < length d.head.params

    no_parameter : (p m : ℕ) (y : Point) → slice_get (body_in b).points p ≡ Some y → local_begun y.action ≡ Some m → IsParameter m → ⊥
    no_parameter p m y e g less =
        let x = at_point p y e in
        let h = declared_at p m y x g in
        let few = few_before p x.known x.there in
        let first = (bodies_begin_below items d.head.name.text b is).1 in
        let same = same_count in
        let number = h.number_is in
        absurd (omega (arith, less, few, first, same, number))

    unmentioned_by : (p m : ℕ) (o : Option Point) → slice_get (body_in b).points p ≡ o → IsSet (or_idle o) m → All (λ a. IsUnmentioned m a.path) f.attrs
    unmentioned_by p m None e g = absurd (idle_sets_none m g)
    unmentioned_by p m (Some y) e (by_assignment o kind x g) =
        attrs_unmentioned (λ k. stable_in (body_in b).stable k ≡ true) m f.attrs (λ s. clash (stable_in (body_in b).stable m) s (unstable p m o kind x (ap (λ z. (or_idle z).action) e ∙ g)))
        (own_stay u l (subst LaidOut placed (places_are_laid_out items)) d b)
    unmentioned_by p m (Some y) e (by_declaration kind x c g) =
        attrs_unmentioned IsParameter m f.attrs (no_parameter p m y e (ap local_begun g))
        (attrs_fine IsParameter (stable_in (body_in b).stable) (inside d.here d.head d.with_body) (λ name z k known means s. names_parameters items n d at name z k known means) d.head.attrs)

    -- a try variable
    record Tried (m : ℕ) : Type 0 where
      place : ℕ
      point : Point
      there : slice_get (body_in b).points place ≡ Some point
      tries : is_a_try u point.call ≡ true
      begun : local_begun point.action ≡ Some m

    tried : (w m : ℕ) → slice_get (try_variables u f) w ≡ Some m → Tried m
    tried w m e =
        let x = from_filter (try_variable_at u) (body_in b).points w m e in
        let both = tried_and_begun (is_a_try u x.1.0.call) (local_begun x.1.0.action) m x.1.1.1 in
        record { place = x.0; point = x.1.0; there = x.1.1.0; tries = both.0; begun = both.1 }

    tried_stays : (m : ℕ) (t : Tried m) → stable_in (body_in b).stable m ≡ true
    tried_stays m t =
        let x = at_point t.place t.point t.there in
        let h = declared_at t.place m t.point x t.begun in
        let stays = tries_stay items typed fits d.head.name.text b is result t.place x.known x.there h.declaration h.deed_is (ap (λ z. is_a_try u z.call) x.point_is ∙ t.tries) in
        ap (stable_in (body_in b).stable) h.number_is ∙ stays

    not_tried : (p m k : ℕ) (o : Option Point) → slice_get (body_in b).points p ≡ o → IsSet (or_idle o) m → Tried k → k ≡ m → ⊥
    not_tried p m k None e g t same = idle_sets_none m g
    not_tried p m k (Some y) e (by_assignment o kind x g) t same =
        clash (stable_in (body_in b).stable m) (ap (stable_in (body_in b).stable) (sym same) ∙ tried_stays k t) (unstable p m o kind x (ap (λ z. (or_idle z).action) e ∙ g))
    not_tried p m k (Some y) e (by_declaration kind x c g) t same =
        let order = try_variables_are_told_by_declarations.in_order b.here result b.body in
        let place : p ≡ t.place = declared_once b.here.locals (body_in b).points order p t.place m y t.point e t.there (ap local_begun g) (t.begun ∙ ap (λ z. Some z) same) in
        let one : y ≡ t.point = some_same (sym e ∙ ap (slice_get (body_in b).points) place ∙ t.there) in
        clash (is_a_try u y.call) (ap (λ z. is_a_try u z.call) one ∙ t.tries) (ap (is_a_try u) c)
      where
        some_same : {A : Type 0} {x y : A} → Some x ≡ Some y → x ≡ y
        some_same h = cc

    pub sets_apart : (p : ℕ) → SetsApart u (paths_of u f) f p
    sets_apart p = record {
      assigned = λ m o kind x c e among. assigned p m o kind x c e among;
      attributes = λ m e. unmentioned_by p m (slice_get (body_in b).points p) refl (set_at (point_at f p).call (point_at f p).action m e);
      tries = λ m w k e g. different k m (not_tried p m k (slice_get (body_in b).points p) refl (set_at (point_at f p).call (point_at f p).action m e) (tried w k g));
    }
