-- At each point of a body of a typed unit what is known belongs to the layout of the unit and to the kinds of the body's locals.
use Rattle.std.proofs.Common.{◌≡◌, ◌∙◌, ℕ, ◌+◌, Bool, true, false, ◌&&◌, List, [], ◌∷◌, ◌++◌, All, IfSome, length, Option, Some, None}
use Rattle.std.proofs.Common.{slice_get, refl, sym, ap, subst, append_assoc}
use Rattle.std.proofs.lemmas.List.{length-append}
use Rattle.std.proofs.lemmas.List.Elements.{All-append, All-cons, All-nil}
use Rattle.std.proofs.lemmas.Map.Entries.{All-lookup}
use Rattle.std.specs.Str.{bytes_eq}
use Rattle.tsa_tree.specs.declarations.Syntax.{Declaration}
use Rattle.tsa_tree.specs.declared.kind.Kind.{Kind}
use Rattle.tsa_tree.specs.declared.meaning.Entry.{Entry}
use Rattle.tsa_tree.specs.points.Syntax.{Deed, declares, evaluates, assigns, tests, switches, jumps, idles, returns, ends, simple_deed}
use Rattle.tsa_tree.specs.statements.Syntax.{Simple, ForInit, no_init, simple_init, local_init, Statement, block, empty, local, simple}
use Rattle.tsa_tree.specs.statements.Syntax.{if_alone, if_else, while_loop, do_loop, for_loop, switch, case, otherwise, label, break}
use Rattle.tsa_tree.specs.statements.Syntax.{continue, goto, return, Statements, none, more}
use Rattle.tsa_tree.specs.types.DeclaredTypes.{thing_type}
use Rattle.tsa_tree.specs.types.Locals.{local_entry, unless_taken, behind_local}
use Rattle.tsa_tree.specs.types.Runnable.{is_small, is_whole_init, is_condition, is_condition_given, is_free, local_runs, init_runs}
use Rattle.tsa_tree.specs.types.Runnable.{step_runs, statement_runs, statements_run}
use Rattle.tsa_tree.specs.types.Scopes.{Scope, found, context_of, further, is_taken, known_in, with_name}
use Rattle.tsa_tree.specs.types.Statements.{behind, behind_init}
use Rattle.tsa_tree.specs.types.Targets.{declared_in}
use Rattle.tsa_place_model.specs.Calls.{Layout}
use Rattle.tsa_core.proofs.MappedLists.{map_length}
use Rattle.tsa_core.specs.Bodies.{Known, knows, known_init, known_step, known, known_all, known_in_body, kinds_by, kinds_declared}
use Rattle.tsa_core.specs.KindLaws.{ScopesBelong, param_kinds, kinds_of, setting}
use Rattle.tsa_core.specs.Kinds.{Setting, Belongs}
use Rattle.tsa_core.specs.Laws.{IsNumbered, AreNumbered}
use Rattle.tsa_core.specs.Programs.{Bodied}
use Rattle.tsa_core.proofs.BodyScopes.{BeginsIn, unit_begins}
use Rattle.tsa_core.proofs.KindTests.{both_true}
use Rattle.tsa_core.proofs.LocalLists.{locals_are_listed}
use Rattle.tsa_core.proofs.ScopesAlike.{known_found}
use Rattle.tsa_core.proofs.TypedTerms.{some_same}
use Rattle.tsa_core.proofs.LaidScopes.{FitsBy, NamesFit, MembersFit, name_fits}

-- Each point of some.
abbrev pub Each : (Known → Type 0) → List Known → Type 0
Each P [] = Unit {0}
Each P (k ∷ ks) = P k × Each P ks

pub each_part : (P : Known → Type 0) (ks js : List Known) → Each P (ks ++ js) → Each P ks × Each P js
each_part P [] js h = (tt, h)
each_part P (k ∷ ks) js h = let rest = each_part P ks js h.1 in ((h.0, rest.0), rest.1)

-- a local that is declared has its kind in a list
abbrev pub IsListed : List Kind → Scope → Deed → Type 0
IsListed kinds here (declares d) = slice_get kinds here.locals ≡ Some (thing_type here d.ctype).kind
IsListed kinds here _ = Unit {0}

abbrev pub HasListedKind : List Kind → Known → Type 0
HasListedKind kinds k = IsListed kinds k.here k.deed

at_length : {A : Type 0} (xs ys : List A) (x : A) → slice_get (xs ++ x ∷ ys) (length xs) ≡ Some x
at_length [] ys x = refl
at_length (y ∷ xs) ys x = at_length xs ys x

deed_listed : (before rest : List Kind) (n : ℕ) (here : Scope) (d : Deed) → n ≡ length before → IsNumbered n here d → IsListed (before ++ (kinds_by here d ++ rest)) here d
deed_listed before rest n here (declares d) same is =
    ap (slice_get (before ++ ((thing_type here d.ctype).kind ∷ rest))) (is ∙ same) ∙ at_length before rest (thing_type here d.ctype).kind
deed_listed before rest n here (evaluates e) same is = tt
deed_listed before rest n here (assigns left o right) same is = tt
deed_listed before rest n here (tests e) same is = tt
deed_listed before rest n here (switches e) same is = tt
deed_listed before rest n here jumps same is = tt
deed_listed before rest n here idles same is = tt
deed_listed before rest n here (returns e) same is = tt
deed_listed before rest n here ends same is = tt

listed : (before : List Kind) (n : ℕ) (ks : List Known) → n ≡ length before → AreNumbered n ks → Each (HasListedKind (before ++ kinds_declared ks)) ks
listed before n [] same h = tt
listed before n (k ∷ ks) same h =
    let own = kinds_by k.here k.deed in
    let more : n + length own ≡ length (before ++ own) = ap (λ m. m + length own) same ∙ sym (length-append before own) in (
      deed_listed before (kinds_declared ks) n k.here k.deed same h.0,
      subst (λ kinds. Each (HasListedKind kinds) ks) (append_assoc before own (kinds_declared ks)) (listed (before ++ own) (n + length own) ks more h.1),
    )

-- What is known at a place, and behind what stands there.
module _ (l : Layout) (kinds : List Kind) (P : Scope → Type 0) (further_kept : (n : ℕ) (here : Scope) → P here → P (further n here))
    (local_kept : (here : Scope) (d : Declaration) → P here → P (with_name d.name.text (local_entry here d) here)) where
  pub record Stands (here : Scope) : Type 0 where
    pub members : MembersFit l here
    pub owned : here.owned ≡ []
    pub names : NamesFit l (slice_get kinds) here
    -- what else is kept
    pub more : P here

  further_stands : (n : ℕ) (here : Scope) → Stands here → Stands (further n here)
  further_stands n here h = record { members = h.members; owned = h.owned; names = h.names; more = further_kept n here h.more }

  local_stands : (here : Scope) (d : Declaration) (taken : Bool) → slice_get kinds here.locals ≡ Some (thing_type here d.ctype).kind → is_small (thing_type here d.ctype) ≡ true → Stands here
      → Stands (further 1 (unless_taken taken d.name.text (local_entry here d) here))
  local_stands here d true is small h = further_stands 1 here h
  local_stands here d false is small h = record {
    members = h.members;
    owned = h.owned;
    names = name_fits l (slice_get kinds) here d.name.text (local_entry here d) (is, small) h.names;
    more = further_kept 1 (with_name d.name.text (local_entry here d) here) (local_kept here d h.more);
  }

  declared_stands : (here : Scope) (d : Declaration) → IsListed kinds here (declares d) → local_runs here d ≡ true → Stands here → Stands (behind_local here d)
  declared_stands here d is runs h = local_stands here d (is_taken d.name.text here) is (both_true (is_small (thing_type here d.ctype)) (is_whole_init d.init) runs).0 h

  behind_stands : (here : Scope) (s : Statement) → Each (HasListedKind kinds) (known here s) → statement_runs here s ≡ true → Stands here → Stands (behind here s)
  unfolding behind known statement_runs
  behind_stands here (local d) is runs h = declared_stands here d is.0 runs h
  behind_stands here (block items span) is runs h = further_stands (declared_in (block items span)) here h
  behind_stands here (empty span) is runs h = further_stands (declared_in (empty span)) here h
  behind_stands here (simple s) is runs h = further_stands (declared_in (simple s)) here h
  behind_stands here (if_alone test arm span) is runs h = further_stands (declared_in (if_alone test arm span)) here h
  behind_stands here (if_else test arm other span) is runs h = further_stands (declared_in (if_else test arm other span)) here h
  behind_stands here (while_loop test body span) is runs h = further_stands (declared_in (while_loop test body span)) here h
  behind_stands here (do_loop body test span) is runs h = further_stands (declared_in (do_loop body test span)) here h
  behind_stands here (for_loop init test step body span) is runs h = further_stands (declared_in (for_loop init test step body span)) here h
  behind_stands here (switch key body span) is runs h = further_stands (declared_in (switch key body span)) here h
  behind_stands here (case key body span) is runs h = further_stands (declared_in (case key body span)) here h
  behind_stands here (otherwise body span) is runs h = further_stands (declared_in (otherwise body span)) here h
  behind_stands here (label name body span) is runs h = further_stands (declared_in (label name body span)) here h
  behind_stands here (break span) is runs h = further_stands (declared_in (break span)) here h
  behind_stands here (continue span) is runs h = further_stands (declared_in (continue span)) here h
  behind_stands here (goto name span) is runs h = further_stands (declared_in (goto name span)) here h
  behind_stands here (return e span) is runs h = further_stands (declared_in (return e span)) here h

  init_stands : (here : Scope) (init : ForInit) → Each (HasListedKind kinds) (known_init here init) → init_runs here init ≡ true → Stands here → Stands (behind_init here init)
  init_stands here no_init is runs h = h
  init_stands here (simple_init s) is runs h = h
  init_stands here (local_init d) is runs h = declared_stands here d is.0 runs h

  module _ (given : Option Kind) where
    abbrev own : Setting
    own = record { layout = l; locals = slice_get kinds; answer = given }

    -- a name that is found fits
    found_fits : (here : Scope) (name : List ℕ) (e : Entry) → Stands here → known_in here name ≡ Some e → FitsBy l (slice_get kinds) e.meaning e.thing
    found_fits here name e h is =
        by (found here.names name) (sym (known_found here name h.owned) ∙ is) (All-lookup (λ x. FitsBy l (slice_get kinds) x.meaning x.thing) (bytes_eq name) here.names h.names)
      where
        by : (o : Option Entry) → o ≡ Some e → IfSome o (λ x. FitsBy l (slice_get kinds) x.meaning x.thing) → FitsBy l (slice_get kinds) e.meaning e.thing
        by None is fits = absurd cc
        by (Some x) is fits = subst (λ y. FitsBy l (slice_get kinds) y.meaning y.thing) (some_same is) fits

    belongs : (here : Scope) → Stands here → Belongs here own
    belongs here h = record {
      global_is = λ name e n is means. subst (λ m. FitsBy l (slice_get kinds) m e.thing) means (found_fits here name e h is);
      local_is = λ name e n is means. subst (λ m. FitsBy l (slice_get kinds) m e.thing) means (found_fits here name e h is);
      members_are = h.members;
      none_owned = λ name e is means. subst (λ m. FitsBy l (slice_get kinds) m e.thing) means (found_fits here name e h is);
    }

    abbrev pub Belong : Known → Type 0
    Belong k = Belongs k.here own × P k.here

    one : (here : Scope) (d : Deed) (ks : List Known) → Stands here → All Belong ks → All Belong (knows here d ∷ ks)
    one here d ks h rest = All-cons Belong (knows here d) ks (belongs here h, h.more) rest

    alone : (here : Scope) (d : Deed) → Stands here → All Belong (knows here d ∷ [])
    alone here d h = one here d [] h (All-nil Belong)

    init_points : (here : Scope) (init : ForInit) → Stands here → All Belong (known_init here init)
    init_points here no_init h = All-nil Belong
    init_points here (simple_init s) h = alone here (simple_deed s) h
    init_points here (local_init d) h = alone here (declares d) h

    step_points : (here : Scope) (step : Option Simple) → Stands here → All Belong (known_step here step)
    step_points here None h = All-nil Belong
    step_points here (Some s) h = alone here (simple_deed s) h

    mutual
      unfolding known known_all statement_runs statements_run

      points_belong : (here : Scope) (s : Statement) → Each (HasListedKind kinds) (known here s) → statement_runs here s ≡ true → Stands here → All Belong (known here s)
      points_belong here (block items span) is runs h = all_belong here items is runs h
      points_belong here (empty span) is runs h = alone here idles h
      points_belong here (local d) is runs h = alone here (declares d) h
      points_belong here (simple s) is runs h = alone here (simple_deed s) h
      points_belong here (if_alone test arm span) is runs h =
          let r = both_true (is_condition (context_of here) test) (statement_runs here arm) runs in
          one here (tests (Some test)) (known here arm) h (points_belong here arm is.1 r.1 h)
      points_belong here (if_else test arm other span) is runs h =
          let there = further (declared_in arm) here in
          let r = both_true (is_condition (context_of here) test) (statement_runs here arm && statement_runs there other) runs in
          let both = both_true (statement_runs here arm) (statement_runs there other) r.1 in
          let parts = each_part (HasListedKind kinds) (known here arm) (known there other) is.1 in
          one here (tests (Some test)) (known here arm ++ known there other) h
          (All-append Belong (known here arm) (known there other) (points_belong here arm parts.0 both.0 h)
          (points_belong there other parts.1 both.1 (further_stands (declared_in arm) here h)))
      points_belong here (while_loop test body span) is runs h =
          let r = both_true (is_condition (context_of here) test) (statement_runs here body) runs in
          one here (tests (Some test)) (known here body) h (points_belong here body is.1 r.1 h)
      points_belong here (do_loop body test span) is runs h =
          let r = both_true (statement_runs here body) (is_condition (context_of here) test) runs in
          let parts = each_part (HasListedKind kinds) (known here body) (knows here (tests (Some test)) ∷ []) is in
          All-append Belong (known here body) (knows here (tests (Some test)) ∷ []) (points_belong here body parts.0 r.0 h) (alone here (tests (Some test)) h)
      points_belong here (for_loop init test step body span) is runs h =
          let there = behind_init here init in
          let r = both_true (init_runs here init) (is_condition_given (context_of there) test && (step_runs step && statement_runs there body)) runs in
          let q = both_true (is_condition_given (context_of there) test) (step_runs step && statement_runs there body) r.1 in
          let run = both_true (step_runs step) (statement_runs there body) q.1 in
          let rest = knows there (tests test) ∷ (known_step there step ++ known there body) in
          let parts = each_part (HasListedKind kinds) (known_init here init) rest is in
          let inner = each_part (HasListedKind kinds) (known_step there step) (known there body) parts.1.1 in
          let h' = init_stands here init parts.0 r.0 h in
          All-append Belong (known_init here init) rest (init_points here init h)
          (one there (tests test) (known_step there step ++ known there body) h'
          (All-append Belong (known_step there step) (known there body) (step_points there step h') (points_belong there body inner.1 run.1 h')))
      points_belong here (switch key body span) is runs h =
          let r = both_true (is_free key) (statement_runs here body) runs in
          one here (switches key) (known here body) h (points_belong here body is.1 r.1 h)
      points_belong here (case key body span) is runs h = points_belong here body is (both_true (is_free key) (statement_runs here body) runs).1 h
      points_belong here (otherwise body span) is runs h = points_belong here body is runs h
      points_belong here (label name body span) is runs h = points_belong here body is runs h
      points_belong here (break span) is runs h = alone here jumps h
      points_belong here (continue span) is runs h = alone here jumps h
      points_belong here (goto name span) is runs h = alone here jumps h
      points_belong here (return e span) is runs h = alone here (returns e) h

      all_belong : (here : Scope) (ss : Statements) → Each (HasListedKind kinds) (known_all here ss) → statements_run here ss ≡ true → Stands here → All Belong (known_all here ss)
      all_belong here none is runs h = All-nil Belong
      all_belong here (more s ss) is runs h =
          let r = both_true (statement_runs here s) (statements_run (behind here s) ss) runs in
          let parts = each_part (HasListedKind kinds) (known here s) (known_all (behind here s) ss) is in
          All-append Belong (known here s) (known_all (behind here s) ss) (points_belong here s parts.0 r.0 h)
          (all_belong (behind here s) ss parts.1 r.1 (behind_stands here s parts.0 r.0 h))

-- the points of a body that begins so
module _ (b : Bodied) (l : Layout) (begun : BeginsIn b l) where
  abbrev all_known : List Known
  all_known = known_all b.here b.body

  pub body_listed : Each (HasListedKind (kinds_of b)) (known_in_body b.here b.body)
  body_listed =
      let long : b.here.locals ≡ length (param_kinds b) = begun.numbered ∙ sym (map_length (λ p. (thing_type b.here p.ctype).kind) b.head.params) in
      listed (param_kinds b) b.here.locals (known_in_body b.here b.body) long (locals_are_listed b.here (thing_type b.here b.head.result).kind b.body).1.0

  module _ (P : Scope → Type 0) (further_kept : (n : ℕ) (here : Scope) → P here → P (further n here))
      (local_kept : (here : Scope) (d : Declaration) → P here → P (with_name d.name.text (local_entry here d) here)) where
    pub body_belongs : (given : Option Kind) → P b.here → All (λ k. Belongs k.here (setting l b given) × P k.here) (known_in_body b.here b.body)
    body_belongs given kept =
        let kinds = kinds_of b in
        let is = each_part (HasListedKind kinds) all_known (knows b.here ends ∷ []) body_listed in
        let h : Stands l kinds P further_kept local_kept b.here = record { members = begun.members; owned = begun.owned; names = begun.names; more = kept } in
        All-append (Belong l kinds P further_kept local_kept given) all_known (knows b.here ends ∷ [])
        (all_belong l kinds P further_kept local_kept given b.here b.body is.0 begun.runs h) (alone l kinds P further_kept local_kept given b.here ends h)

abbrev Nothing : Scope → Type 0
Nothing here = Unit {0}

pub scopes_belong : ScopesBelong
scopes_belong items name b l given runs placed is k d less =
    (body_belongs b l (unit_begins items name b l runs placed is) Nothing (λ n here h. tt) (λ here d h. tt) given tt k d less).0
