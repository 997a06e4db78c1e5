-- What holds of the scope where a body begins, and behind each declaration and each statement, holds at all its points.
use Rattle.std.proofs.Common.{ℕ, List, [], ◌∷◌, ◌++◌, All, Option, Some, None}
use Rattle.std.proofs.lemmas.List.Elements.{All-append, All-cons, All-nil}
use Rattle.tsa_tree.specs.declarations.Syntax.{Declaration}
use Rattle.tsa_tree.specs.points.Syntax.{Deed, declares, tests, switches, jumps, idles, returns, ends, simple_deed}
use Rattle.tsa_tree.specs.statements.Syntax.{Simple, ForInit, no_init, simple_init, local_init, Statement, block, empty, local, simple}
use Rattle.tsa_tree.specs.statements.Syntax.{if_alone, if_else, while_loop, do_loop, for_loop, switch, case, otherwise, label, break}
use Rattle.tsa_tree.specs.statements.Syntax.{continue, goto, return, Statements, none, more}
use Rattle.tsa_tree.specs.types.Locals.{behind_local}
use Rattle.tsa_tree.specs.types.Scopes.{Scope, further}
use Rattle.tsa_tree.specs.types.Statements.{behind, behind_init}
use Rattle.tsa_tree.specs.types.Targets.{declared_in}
use Rattle.tsa_core.specs.Bodies.{Known, knows, known_init, known_step, known, known_all, known_in_body}

module _ (P : Scope → Type 0) (on : (here : Scope) (n : ℕ) → P here → P (further n here)) (past : (here : Scope) (d : Declaration) → P here → P (behind_local here d)) where
  pub statement_past : (here : Scope) (s : Statement) → P here → P (behind here s)
  unfolding behind
  statement_past here (local d) h = past here d h
  statement_past here (block items span) h = on here (declared_in (block items span)) h
  statement_past here (empty span) h = on here (declared_in (empty span)) h
  statement_past here (simple s) h = on here (declared_in (simple s)) h
  statement_past here (if_alone test arm span) h = on here (declared_in (if_alone test arm span)) h
  statement_past here (if_else test arm other span) h = on here (declared_in (if_else test arm other span)) h
  statement_past here (while_loop test body span) h = on here (declared_in (while_loop test body span)) h
  statement_past here (do_loop body test span) h = on here (declared_in (do_loop body test span)) h
  statement_past here (for_loop init test step body span) h = on here (declared_in (for_loop init test step body span)) h
  statement_past here (switch key body span) h = on here (declared_in (switch key body span)) h
  statement_past here (case key body span) h = on here (declared_in (case key body span)) h
  statement_past here (otherwise body span) h = on here (declared_in (otherwise body span)) h
  statement_past here (label name body span) h = on here (declared_in (label name body span)) h
  statement_past here (break span) h = on here (declared_in (break span)) h
  statement_past here (continue span) h = on here (declared_in (continue span)) h
  statement_past here (goto name span) h = on here (declared_in (goto name span)) h
  statement_past here (return e span) h = on here (declared_in (return e span)) h

  pub init_past : (here : Scope) (init : ForInit) → P here → P (behind_init here init)
  init_past here no_init h = h
  init_past here (simple_init s) h = h
  init_past here (local_init d) h = past here d h

  abbrev Holds : Known → Type 0
  Holds k = P k.here

  one_point : (here : Scope) (d : Deed) (ks : List Known) → P here → All Holds ks → All Holds (knows here d ∷ ks)
  one_point here d ks h rest = All-cons Holds (knows here d) ks h rest

  alone : (here : Scope) (d : Deed) → P here → All Holds (knows here d ∷ [])
  alone here d h = one_point here d [] h (All-nil Holds)

  init_points : (here : Scope) (init : ForInit) → P here → All Holds (known_init here init)
  init_points here no_init h = All-nil Holds
  init_points here (simple_init s) h = alone here (simple_deed s) h
  init_points here (local_init d) h = alone here (declares d) h

  step_points : (here : Scope) (step : Option Simple) → P here → All Holds (known_step here step)
  step_points here None h = All-nil Holds
  step_points here (Some s) h = alone here (simple_deed s) h

  mutual
    unfolding known known_all

    points_hold : (here : Scope) (s : Statement) → P here → All Holds (known here s)
    points_hold here (block items span) h = all_points_hold here items h
    points_hold here (empty span) h = alone here idles h
    points_hold here (local d) h = alone here (declares d) h
    points_hold here (simple s) h = alone here (simple_deed s) h
    points_hold here (if_alone test arm span) h = one_point here (tests (Some test)) (known here arm) h (points_hold here arm h)
    points_hold here (if_else test arm other span) h =
        let there = further (declared_in arm) here in
        one_point here (tests (Some test)) (known here arm ++ known there other) h
        (All-append Holds (known here arm) (known there other) (points_hold here arm h) (points_hold there other (on here (declared_in arm) h)))
    points_hold here (while_loop test body span) h = one_point here (tests (Some test)) (known here body) h (points_hold here body h)
    points_hold here (do_loop body test span) h =
        All-append Holds (known here body) (knows here (tests (Some test)) ∷ []) (points_hold here body h) (alone here (tests (Some test)) h)
    points_hold here (for_loop init test step body span) h =
        let there = behind_init here init in
        let h' = init_past here init h in
        All-append Holds (known_init here init) (knows there (tests test) ∷ (known_step there step ++ known there body)) (init_points here init h)
        (one_point there (tests test) (known_step there step ++ known there body) h'
        (All-append Holds (known_step there step) (known there body) (step_points there step h') (points_hold there body h')))
    points_hold here (switch key body span) h = one_point here (switches key) (known here body) h (points_hold here body h)
    points_hold here (case key body span) h = points_hold here body h
    points_hold here (otherwise body span) h = points_hold here body h
    points_hold here (label name body span) h = points_hold here body h
    points_hold here (break span) h = alone here jumps h
    points_hold here (continue span) h = alone here jumps h
    points_hold here (goto name span) h = alone here jumps h
    points_hold here (return e span) h = alone here (returns e) h

    all_points_hold : (here : Scope) (ss : Statements) → P here → All Holds (known_all here ss)
    all_points_hold here none h = All-nil Holds
    all_points_hold here (more s ss) h =
        All-append Holds (known here s) (known_all (behind here s) ss) (points_hold here s h) (all_points_hold (behind here s) ss (statement_past here s h))

  pub each_point : (here : Scope) (body : Statements) → P here → All Holds (known_in_body here body)
  each_point here body h = All-append Holds (known_all here body) (knows here ends ∷ []) (all_points_hold here body h) (alone here ends h)
