-- What the profile asks of the points of a unit's body holds at each of them.
use Rattle.std.proofs.Common.{◌≡◌, ℕ, ◌+◌, Bool, true, false, not, List, [], ◌∷◌, ◌++◌, Option, Some, None, refl, subst}
use Rattle.std.specs.Str.{bytes_eq}
use Rattle.tsa_base.specs.declared.token.Span.{Span}
use Rattle.tsa_tree.specs.declarations.Syntax.{Declaration, Initialiser, value, list}
use Rattle.tsa_tree.specs.expressions.Syntax.{Expression}
use Rattle.tsa_tree.specs.points.Syntax.{Deed, declares, evaluates, assigns, tests, switches, jumps, idles, returns, ends, simple_deed}
use Rattle.tsa_tree.specs.points.Syntax.{expression_span}
use Rattle.tsa_tree.specs.statements.Syntax.{Simple, evaluation, assignment, ForInit, no_init, simple_init, local_init, Statement, block}
use Rattle.tsa_tree.specs.statements.Syntax.{empty, local, simple, if_alone, if_else, while_loop, do_loop, for_loop, switch, case}
use Rattle.tsa_tree.specs.statements.Syntax.{otherwise, label, break, continue, goto, return, Statements, none, more}
use Rattle.tsa_tree.specs.types.DeclaredTypes.{thing_type}
use Rattle.tsa_tree.specs.types.Heads.{inside}
use Rattle.tsa_tree.specs.types.Runnable.{is_small}
use Rattle.tsa_tree.specs.types.Scopes.{Scope, further}
use Rattle.tsa_tree.specs.types.Statements.{behind, behind_init}
use Rattle.tsa_tree.specs.types.Targets.{declared_in}
use Rattle.tsa_tree.specs.types.Units.{behind_item}
use Rattle.tsa_tree.specs.units.Syntax.{UnitItem, structure_item, alias_item, enumeration_item, global_item, function_item, body_item}
use Rattle.tsa_core.specs.Bodies.{Known, knows, known, known_all, known_init, known_step, known_in_body}
use Rattle.tsa_place_model.specs.Calls.{Layout}
use Rattle.tsa_core.specs.Programs.{Attr, Bodied, bodied_by, bodied_function, or_body}
use Rattle.tsa_core.proofs.FactsKnown.{each_both}
use Rattle.tsa_core.proofs.ScopesBelong.{Each}
use Rattle.tsa_core.proofs.TypedTerms.{some_same}
use Rattle.tsa_core_points.proofs.Meanings.{meaning_kept}
use Rattle.tsa_profile_accesses.specs.declared.premise.ProfileCode.TheVariants.{PF4, PF7}
use Rattle.tsa_profile_accesses.specs.Premises.{first}
use Rattle.tsa_profile_accesses.specs.declared.standing.Standing.{Standing}
use Rattle.tsa_profile_accesses.specs.declared.standing.Standing.TheVariants.{Whole, Test, Inside}
use Rattle.tsa_profile_points.specs.Bodies.{Around, view_at, begins_a_try, standing_of, value_misfits, point_premises, points_premises}
use Rattle.tsa_profile_points.specs.Bodies as profile
use Rattle.tsa_profile_accesses.specs.Expressions.{expression}
use Rattle.tsa_core_points.specs.Points.{placed, placed_simple, placed_init, placed_step, placed_test, placed_for, placed_in, placed_all}
use Rattle.tsa_profile.specs.Units as unit
use Rattle.tsa_profile.specs.Units.{around, attributes_behind, heads_premises, item_premises, items_premises, points_in}
use Rattle.tsa_profile_guards.proofs.NoneFails.{none_of_both, none_of_first}
use Rattle.tsa_sound_accepted.proofs.terms.CellsAsked.{IsAsked, asked}
use Rattle.tsa_sound_accepted.proofs.terms.ScopesKept.{guards_kept}
use Rattle.tsa_profile.proofs.PointsRun.{point_alone, point_before, points_of_both}

-- what is asked of the expressions of a deed
abbrev pub AreAsked : Layout → (ℕ → Bool) → Scope → Option Expression → Type 0
AreAsked l stable here None = Unit {0}
AreAsked l stable here (Some e) = IsAsked l stable here e

abbrev pub InitAsked : Layout → (ℕ → Bool) → Scope → Option Initialiser → Type 0
InitAsked l stable here (Some (value e)) = IsAsked l stable here e
InitAsked l stable here init = Unit {0}

abbrev pub DeedAsked : Layout → (ℕ → Bool) → Scope → Deed → Type 0
DeedAsked l stable here (declares d) = InitAsked l stable here d.init
DeedAsked l stable here (evaluates e) = IsAsked l stable here e
DeedAsked l stable here (assigns left o right) = IsAsked l stable here left × IsAsked l stable here right
DeedAsked l stable here (tests e) = AreAsked l stable here e
DeedAsked l stable here (switches e) = IsAsked l stable here e
DeedAsked l stable here (returns e) = AreAsked l stable here e
DeedAsked l stable here jumps = Unit {0}
DeedAsked l stable here idles = Unit {0}
DeedAsked l stable here ends = Unit {0}

abbrev pub AskedAt : Layout → (ℕ → Bool) → Known → Type 0
AskedAt l stable k = DeedAsked l stable k.here k.deed

module _ (a : Around) where
  abbrev Asked : Known → Type 0
  Asked k = AskedAt a.layout a.stable k

  abbrev Is : Scope → Expression → Type 0
  Is here e = IsAsked a.layout a.stable here e

  here_asked : (here : Scope) (s : Standing) (e : Expression) → first (expression (view_at a here) s e) ≡ None → Is here e
  here_asked here s e h = asked (view_at a here) here refl (λ x. refl) (λ x. refl) s e h

  -- at a test behind a body other locals may have been declared
  later_asked : (here : Scope) (n : ℕ) (s : Standing) (e : Expression) → first (expression (view_at a (further n here)) s e) ≡ None → Is here e
  later_asked here n s e h =
      asked (view_at a (further n here)) here refl (λ x. meaning_kept here (here.locals + n) x) (λ x. guards_kept here (here.locals + n) a.stable a.layout x) s e h

  init_asked : (here : Scope) (d : Declaration) → first (point_premises a (placed here (declares d) d.span)) ≡ None → InitAsked a.layout a.stable here d.init
  init_asked here d h = by d.init (none_of_first PF4 d.span (not (is_small (thing_type here d.ctype))) (profile.local_init a here (thing_type here d.ctype) d.init) h).1
    where
      by : (i : Option Initialiser) → first (profile.local_init a here (thing_type here d.ctype) i) ≡ None → InitAsked a.layout a.stable here i
      by None g = tt
      by (Some (value e)) g = here_asked here (standing_of (begins_a_try a here (thing_type here d.ctype))) e g
      by (Some (list items span)) g = tt

  simple_asked : (here : Scope) (s : Simple) → first (point_premises a (placed_simple here s)) ≡ None → Asked (knows here (simple_deed s))
  simple_asked here (evaluation e span) h = here_asked here Whole e h
  simple_asked here (assignment left o right span) h =
      let x = none_of_both (expression (view_at a here) Inside left) (expression (view_at a here) Whole right) h in
      (here_asked here Inside left x.0, here_asked here Whole right x.1)

  for_init_asked : (here : Scope) (init : ForInit) → first (points_premises a (placed_init here init)) ≡ None → Each Asked (known_init here init)
  for_init_asked here no_init h = tt
  for_init_asked here (simple_init s) h = (simple_asked here s (point_alone a (placed_simple here s) h), tt)
  for_init_asked here (local_init d) h = (init_asked here d (point_alone a (placed here (declares d) d.span) h), tt)

  step_asked : (here : Scope) (step : Option Simple) → first (points_premises a (placed_step here step)) ≡ None → Each Asked (known_step here step)
  step_asked here None h = tt
  step_asked here (Some s) h = (simple_asked here s (point_alone a (placed_simple here s) h), tt)

  test_asked : (here : Scope) (span : Span) (e : Option Expression) → first (point_premises a (placed_for here span e)) ≡ None → AreAsked a.layout a.stable here e
  test_asked here span None h = tt
  test_asked here span (Some e) h = here_asked here Test e h

  given_asked : (here : Scope) (span : Span) (e : Option Expression) → first (profile.deed_premises a here span (returns e)) ≡ None → AreAsked a.layout a.stable here e
  given_asked here span None h = tt
  given_asked here span (Some e) h = here_asked here Whole e (none_of_first PF7 span (value_misfits a here e) (expression (view_at a here) Whole e) h).1

  -- Statements, in order of the text.
  mutual
    unfolding placed_in placed_all known known_all

    statement_asked : (here : Scope) (s : Statement) → first (points_premises a (placed_in here s)) ≡ None → Each Asked (known here s)
    statement_asked here (block items span) h = statements_asked here items h
    statement_asked here (empty span) h = (tt, tt)
    statement_asked here (local d) h = (init_asked here d (point_alone a (placed here (declares d) d.span) h), tt)
    statement_asked here (simple s) h = (simple_asked here s (point_alone a (placed_simple here s) h), tt)
    statement_asked here (if_alone test arm span) h =
        let y = point_before a (placed_test here test) (placed_in here arm) h in
        (here_asked here Test test y.0, statement_asked here arm y.1)
    statement_asked here (if_else test arm other span) h =
        let there = further (declared_in arm) here in
        let y = point_before a (placed_test here test) (placed_in here arm ++ placed_in there other) h in
        let z = points_of_both a (placed_in here arm) (placed_in there other) y.1 in
        (here_asked here Test test y.0, each_both Asked (known here arm) (known there other) (statement_asked here arm z.0) (statement_asked there other z.1))
    statement_asked here (while_loop test body span) h =
        let y = point_before a (placed_test here test) (placed_in here body) h in
        (here_asked here Test test y.0, statement_asked here body y.1)
    statement_asked here (do_loop body test span) h =
        let there = further (declared_in body) here in
        let y = points_of_both a (placed_in here body) (placed_test there test ∷ []) h in
        each_both Asked (known here body) (knows here (tests (Some test)) ∷ []) (statement_asked here body y.0)
        (later_asked here (declared_in body) Test test (point_alone a (placed_test there test) y.1), tt)
    statement_asked here (for_loop init test step body span) h =
        let there = behind_init here init in
        let x = points_of_both a (placed_init here init) (placed_for there span test ∷ (placed_step there step ++ placed_in there body)) h in
        let y = point_before a (placed_for there span test) (placed_step there step ++ placed_in there body) x.1 in
        let z = points_of_both a (placed_step there step) (placed_in there body) y.1 in
        each_both Asked (known_init here init) (knows there (tests test) ∷ (known_step there step ++ known there body)) (for_init_asked here init x.0)
        (test_asked there span test y.0, each_both Asked (known_step there step) (known there body) (step_asked there step z.0) (statement_asked there body z.1))
    statement_asked here (switch key body span) h =
        let y = point_before a (placed here (switches key) (expression_span key)) (placed_in here body) h in
        (here_asked here Inside key y.0, statement_asked here body y.1)
    statement_asked here (case key body span) h = statement_asked here body h
    statement_asked here (otherwise body span) h = statement_asked here body h
    statement_asked here (label name body span) h = statement_asked here body h
    statement_asked here (break span) h = (tt, tt)
    statement_asked here (continue span) h = (tt, tt)
    statement_asked here (goto name span) h = (tt, tt)
    statement_asked here (return given span) h = (given_asked here span given (point_alone a (placed here (returns given) span) h), tt)

    statements_asked : (here : Scope) (items : Statements) → first (points_premises a (placed_all here items)) ≡ None → Each Asked (known_all here items)
    statements_asked here none h = tt
    statements_asked here (more s rest) h =
        let y = points_of_both a (placed_in here s) (placed_all (behind here s) rest) h in
        each_both Asked (known here s) (known_all (behind here s) rest) (statement_asked here s y.0) (statements_asked (behind here s) rest y.1)

  body_asked : (here : Scope) (body : Statements) → first (points_premises a (placed_all here body)) ≡ None → Each Asked (known_in_body here body)
  body_asked here body h = each_both Asked (known_all here body) (knows here ends ∷ []) (statements_asked here body h) (tt, tt)

-- of the first body of a name
module _ (u : unit.Unit) (name : List ℕ) (b : Bodied) where
  abbrev BodyAsked : Bodied → Type 0
  BodyAsked x = (bytes_eq name x.head.name.text ≡ true) × Each (AskedAt u.program.layout (unit.stable_of u x.head)) (known_in_body x.here x.body)

  first_asked : (hit : Bool) (x : Bodied) (other : Option Bodied) → (hit ≡ true → BodyAsked x) → (other ≡ Some b → BodyAsked b) → or_body hit x other ≡ Some b → BodyAsked b
  first_asked true x other begins later is = subst BodyAsked (some_same is) (begins refl)
  first_asked false x other begins later is = later is

  by_item : (before after : List (List Attr)) (here : Scope) (item : UnitItem) (other : Option Bodied) → first (item_premises u before after here item) ≡ None
      → (other ≡ Some b → BodyAsked b) → bodied_by name here item other ≡ Some b → BodyAsked b
  by_item before after here (body_item head body close) other h later is =
      let y = none_of_both (heads_premises u before here head true) (points_premises (around u after here head) (points_in here head body)) h in
      first_asked (bytes_eq name head.name.text) (record { here = inside here head true; head = head; body = body }) other
      (λ hit. (hit, body_asked (around u after here head) (inside here head true) body y.1)) later is
  by_item before after here (structure_item tag alias attrs members span) other h later is = later is
  by_item before after here (alias_item text ctype span) other h later is = later is
  by_item before after here (enumeration_item tag alias values span) other h later is = later is
  by_item before after here (global_item d) other h later is = later is
  by_item before after here (function_item head) other h later is = later is

  pub items_asked : (before : List (List Attr)) (here : Scope) (items : List UnitItem) → first (items_premises u before here items) ≡ None → bodied_function name here items ≡ Some b
      → BodyAsked b
  unfolding items_premises bodied_function
  items_asked before here [] h is = absurd cc
  items_asked before here (item ∷ rest) h is =
      let after = attributes_behind u before here item in
      let y = none_of_both (item_premises u before after here item) (items_premises u after (behind_item here item) rest) h in
      by_item before after here item (bodied_function name (behind_item here item) rest) y.0 (λ later. items_asked after (behind_item here item) rest y.1 later) is
