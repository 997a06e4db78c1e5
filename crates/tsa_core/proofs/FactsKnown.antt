-- Of a typed body that runs, each deed is typed and runs.
use Rattle.std.proofs.Common.{◌≡◌, Bool, true, false, ◌&&◌, List, [], ◌∷◌, ◌++◌, Option, Some, None, refl, subst}
use Rattle.tsa_base.specs.declared.token.Span.{Span}
use Rattle.tsa_tree.specs.declarations.Syntax.{Declaration}
use Rattle.tsa_tree.specs.declared.kind.Declaring.TheVariants as declaring
use Rattle.tsa_tree.specs.declared.kind.ThingType.{ThingType}
use Rattle.tsa_tree.specs.declared.premise.Bearer.TheVariants as on
use Rattle.tsa_tree.specs.types.Attributes.{attributes_premises}
use Rattle.tsa_tree.specs.declared.premise.TypeCode.TheVariants.{TY2, TY3, TY8}
use Rattle.tsa_tree.specs.expressions.Sound.{Words, SoundExpression, SoundOptional}
use Rattle.tsa_tree.specs.expressions.Syntax.{Expression}
use Rattle.tsa_tree.specs.points.Syntax.{tests, switches, simple_deed}
use Rattle.tsa_tree.specs.statements.Sound.{SoundSimple, SoundForInit, SoundForStep, SoundStatement, SoundStatements}
use Rattle.tsa_tree.specs.statements.Syntax.{Simple, evaluation, assignment, ForInit, no_init, simple_init, local_init, Statement, block}
use Rattle.tsa_tree.specs.statements.Syntax.{empty, local, simple, if_alone, if_else, while_loop, do_loop, for_loop, switch, case}
use Rattle.tsa_tree.specs.statements.Syntax.{otherwise, label, break, continue, goto, return, Statements, none, more}
use Rattle.tsa_tree.specs.types.DeclaredTypes.{type_premise, parts_premises, thing_type, resolve}
use Rattle.tsa_tree.specs.types.Expressions.{type_of, premises_of}
use Rattle.tsa_tree.specs.types.Locals.{has_type, init_breaks, names_in, local_premises}
use Rattle.tsa_tree.specs.types.Operands.{is_scalar, is_integer, lacks}
use Rattle.tsa_tree.specs.types.Premises.{premise, first}
use Rattle.tsa_tree.specs.types.Runnable.{is_condition, is_condition_given, is_free, simple_runs, init_runs, step_runs, statement_runs}
use Rattle.tsa_tree.specs.types.Runnable.{statements_run}
use Rattle.tsa_tree.specs.types.Scopes.{Scope, context_of, further, is_taken}
use Rattle.tsa_tree.specs.types.Simple.{tested_premises, return_premises, return_breaks, parts_of}
use Rattle.tsa_tree.specs.types.Statements.{Around, in_a_loop, in_a_switch, simple_premises, init_premises, behind_init, for_test}
use Rattle.tsa_tree.specs.types.Statements.{test_premises, step_premises, is_again, unless_again, for_premises, case_premises}
use Rattle.tsa_tree.specs.types.Statements.{default_premises, label_premises, statement_premises, statements_premises, behind}
use Rattle.tsa_tree.specs.types.Targets.{declared_in}
use Rattle.tsa_core.specs.Bodies.{Known, knows, known_init, known_step, known, known_all}
use Rattle.tsa_core.proofs.DeedsHold.{Facts}
use Rattle.tsa_core.proofs.KindTests.{both_true}
use Rattle.tsa_core.proofs.NoFailure.{none_of_both, none_of_first}
use Rattle.tsa_core.proofs.ScopesBelong.{Each}

pub each_both : (P : Known → Type 0) (ks js : List Known) → Each P ks → Each P js → Each P (ks ++ js)
each_both P [] js h g = g
each_both P (k ∷ ks) js h g = (h.0, each_both P ks js h.1 g)

local_new : (here : Scope) (d : Declaration) → first (local_premises here d) ≡ None → is_taken d.name.text here ≡ false
unfolding local_premises
local_new here d h =
    (none_of_first TY2 d.span (is_taken d.name.text here)
    (type_premise here declaring.Thing d.span d.ctype
    ∷ premise TY3 d.span (has_type (resolve here d.ctype) && init_breaks here (thing_type here d.ctype) d.init)
    ∷ parts_premises here d.ctype ++ (attributes_premises here on.Local d.attrs ++ names_in here d.init)) h).0

module _ (words : Words) (result : ThingType) where
  abbrev pub FactsAt : Known → Type 0
  FactsAt k = Facts words result k.here k.deed

  simple_facts : (here : Scope) (s : Simple) → first (simple_premises here s) ≡ None → simple_runs s ≡ true → SoundSimple words s → Facts words result here (simple_deed s)
  simple_facts here (evaluation e span) h runs sound = (h, (runs, sound))
  simple_facts here (assignment left o right span) h runs sound = ((span, h), (runs, sound))

  init_facts : (here : Scope) (init : ForInit) → first (init_premises here init) ≡ None → init_runs here init ≡ true → SoundForInit words init → Each FactsAt (known_init here init)
  init_facts here no_init h runs sound = tt
  init_facts here (simple_init s) h runs sound = (simple_facts here s h runs sound, tt)
  init_facts here (local_init d) h runs sound = ((h, (runs, sound)), tt)

  step_facts : (here : Scope) (step : Option Simple) → first (step_premises here step) ≡ None → step_runs step ≡ true → SoundForStep words step → Each FactsAt (known_step here step)
  step_facts here None h runs sound = tt
  step_facts here (Some s) h runs sound = (simple_facts here s h runs sound, tt)

  tested_facts : (here : Scope) (span : Span) (e : Expression) → first (tested_premises (context_of here) is_scalar span e) ≡ None → is_condition (context_of here) e ≡ true → SoundExpression words e
      → Facts words result here (tests (Some e))
  unfolding tested_premises
  tested_facts here span e h runs sound =
      let a = none_of_first TY3 span (lacks is_scalar (type_of (context_of here) e)) (premises_of (context_of here) e) h in (a.0, (a.1, (runs, sound)))

  switch_facts : (here : Scope) (span : Span) (e : Expression) → first (tested_premises (context_of here) is_integer span e) ≡ None → is_free e ≡ true → SoundExpression words e
      → Facts words result here (switches e)
  unfolding tested_premises
  switch_facts here span e h runs sound =
      let a = none_of_first TY3 span (lacks is_integer (type_of (context_of here) e)) (premises_of (context_of here) e) h in (a.0, (a.1, (runs, sound)))

  not_again : (here : Scope) (init : ForInit) → first (init_premises here init) ≡ None → is_again here init ≡ false
  not_again here no_init h = refl
  not_again here (simple_init s) h = refl
  not_again here (local_init d) h = local_new here d h

  for_tested : (here : Scope) (span : Span) (test : Option Expression) → first (for_test here span test) ≡ None → first (test_premises here test) ≡ None
      → is_condition_given (context_of here) test ≡ true → SoundOptional words test → Facts words result here (tests test)
  for_tested here span None h g runs sound = tt
  for_tested here span (Some e) h g runs sound = ((none_of_first TY3 span (lacks is_scalar (type_of (context_of here) e)) [] h).0, (g, (runs, sound)))

  mutual
    unfolding known known_all statement_runs statements_run statement_premises statements_premises for_premises case_premises default_premises label_premises return_premises

    statement_facts : (a : Around) (b : Bool) (here : Scope) (s : Statement) → a.result ≡ result → first (statement_premises a here s) ≡ None → statement_runs here s ≡ true
        → SoundStatement words b s → Each FactsAt (known here s)
    statement_facts a b here (block items span) same h runs sound = all_facts a here items same h runs sound
    statement_facts a b here (empty span) same h runs sound = (tt, tt)
    statement_facts a true here (local d) same h runs sound = ((h, (runs, sound)), tt)
    statement_facts a false here (local d) same h runs sound = absurd sound
    statement_facts a b here (simple s) same h runs sound = (simple_facts here s h runs sound, tt)
    statement_facts a b here (if_alone test arm span) same h runs sound =
        let p = none_of_both (tested_premises (context_of here) is_scalar span test) (statement_premises a here arm) h in
        let r = both_true (is_condition (context_of here) test) (statement_runs here arm) runs in
        (tested_facts here span test p.0 r.0 sound.0, statement_facts a false here arm same p.1 r.1 sound.1)
    statement_facts a b here (if_else test arm other span) same h runs sound =
        let there = further (declared_in arm) here in
        let p = none_of_both (tested_premises (context_of here) is_scalar span test) (statement_premises a here arm ++ statement_premises a there other) h in
        let q = none_of_both (statement_premises a here arm) (statement_premises a there other) p.1 in
        let r = both_true (is_condition (context_of here) test) (statement_runs here arm && statement_runs there other) runs in
        let x = both_true (statement_runs here arm) (statement_runs there other) r.1 in (
          tested_facts here span test p.0 r.0 sound.0,
          each_both FactsAt (known here arm) (known there other) (statement_facts a false here arm same q.0 x.0 sound.1) (statement_facts a false there other same q.1 x.1 sound.3),
        )
    statement_facts a b here (while_loop test body span) same h runs sound =
        let p = none_of_both (tested_premises (context_of here) is_scalar span test) (statement_premises (in_a_loop a) here body) h in
        let r = both_true (is_condition (context_of here) test) (statement_runs here body) runs in
        (tested_facts here span test p.0 r.0 sound.0, statement_facts (in_a_loop a) false here body same p.1 r.1 sound.1)
    statement_facts a b here (do_loop body test span) same h runs sound =
        let c = context_of here in
        let p = none_of_first TY3 span (lacks is_scalar (type_of c test)) (statement_premises (in_a_loop a) here body ++ premises_of c test) h in
        let q = none_of_both (statement_premises (in_a_loop a) here body) (premises_of c test) p.1 in
        let r = both_true (statement_runs here body) (is_condition c test) runs in
        each_both FactsAt (known here body) (knows here (tests (Some test)) ∷ []) (statement_facts (in_a_loop a) false here body same q.0 r.0 sound.0)
        ((p.0, (q.1, (r.1, sound.1))), tt)
    statement_facts a b here (for_loop init test step body span) same h runs sound =
        let there = behind_init here init in
        let p = none_of_both (for_premises here init test step span) (statement_premises (in_a_loop a) there body) h in
        let q = none_of_both (unless_again (is_again here init) (for_test there span test)) (init_premises here init ++ (test_premises there test ++ step_premises there step)) p.0 in
        let x = none_of_both (init_premises here init) (test_premises there test ++ step_premises there step) q.1 in
        let y = none_of_both (test_premises there test) (step_premises there step) x.1 in
        let tested_first = subst (λ again. first (unless_again again (for_test there span test)) ≡ None) (not_again here init x.0) q.0 in
        let r = both_true (init_runs here init) (is_condition_given (context_of there) test && (step_runs step && statement_runs there body)) runs in
        let u = both_true (is_condition_given (context_of there) test) (step_runs step && statement_runs there body) r.1 in
        let v = both_true (step_runs step) (statement_runs there body) u.1 in
        each_both FactsAt (known_init here init) (knows there (tests test) ∷ (known_step there step ++ known there body)) (init_facts here init x.0 r.0 sound.0) (
          for_tested there span test tested_first y.0 u.0 sound.1,
          each_both FactsAt (known_step there step) (known there body) (step_facts there step y.1 v.0 sound.2) (statement_facts (in_a_loop a) false there body same p.1 v.1 sound.3),
        )
    statement_facts a b here (switch key body span) same h runs sound =
        let inner = in_a_switch here body a in
        let p = none_of_both (tested_premises (context_of here) is_integer span key) (statement_premises inner here body) h in
        let r = both_true (is_free key) (statement_runs here body) runs in
        (switch_facts here span key p.0 r.0 sound.0, statement_facts inner false here body same p.1 r.1 sound.1)
    statement_facts a b here (case key body span) same h runs sound =
        statement_facts a false here body same (none_of_both (case_premises a (context_of here) key span) (statement_premises a here body) h).1
        (both_true (is_free key) (statement_runs here body) runs).1 sound.1
    statement_facts a b here (otherwise body span) same h runs sound =
        statement_facts a false here body same (none_of_both (default_premises a span) (statement_premises a here body) h).1 runs sound
    statement_facts a b here (label name body span) same h runs sound =
        statement_facts a false here body same (none_of_both (label_premises a name span) (statement_premises a here body) h).1 runs sound.1
    statement_facts a b here (break span) same h runs sound = (tt, tt)
    statement_facts a b here (continue span) same h runs sound = (tt, tt)
    statement_facts a b here (goto name span) same h runs sound = (tt, tt)
    statement_facts a b here (return given span) same h runs sound =
        let p = none_of_first TY8 span (return_breaks (context_of here) a.result given) (parts_of (context_of here) given) h in
        ((subst (λ t. return_breaks (context_of here) t given ≡ false) same p.0, (p.1, (runs, sound))), tt)

    pub all_facts : (a : Around) (here : Scope) (ss : Statements) → a.result ≡ result → first (statements_premises a here ss) ≡ None → statements_run here ss ≡ true
        → SoundStatements words ss → Each FactsAt (known_all here ss)
    all_facts a here none same h runs sound = tt
    all_facts a here (more s ss) same h runs sound =
        let p = none_of_both (statement_premises a here s) (statements_premises a (behind here s) ss) h in
        let r = both_true (statement_runs here s) (statements_run (behind here s) ss) runs in
        each_both FactsAt (known here s) (known_all (behind here s) ss) (statement_facts a true here s same p.0 r.0 sound.0) (all_facts a (behind here s) ss same p.1 r.1 sound.1)
