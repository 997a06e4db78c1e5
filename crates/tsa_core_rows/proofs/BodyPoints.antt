-- The row of a body is read as the points of the core program.
use Rattle.std.proofs.Common.{◌≡◌, ◌∙◌, ℕ, suc, Bool, true, false, List, [], ◌∷◌, ◌++◌, map, length, Option, Some, None, refl, sym, ap, subst}
use Rattle.std.proofs.lemmas.List.{append_assoc, append-nil, map-append}
use Rattle.tsa_base.specs.declared.token.Span.{Span}
use Rattle.tsa_tree.specs.declarations.Syntax.{Declaration, Initialiser, value, list}
use Rattle.tsa_tree.specs.declared.kind.Kind.{Kind}
use Rattle.tsa_tree.specs.declared.kind.ThingType.{ThingType}
use Rattle.tsa_tree.specs.declared.premise.TypeCode.TheVariants.{TY3, TY5, TY8}
use Rattle.tsa_tree.specs.expressions.Syntax.{Expression}
use Rattle.tsa_tree.specs.points.Syntax.{declares, tests, switches, returns, ends, simple_deed, expression_span}
use Rattle.tsa_tree.specs.statements.Syntax.{Simple, evaluation, assignment, ForInit, no_init, simple_init, local_init, Statement, block}
use Rattle.tsa_tree.specs.statements.Syntax.{empty, local, simple, if_alone, if_else, while_loop, do_loop, for_loop, switch, case, otherwise}
use Rattle.tsa_tree.specs.statements.Syntax.{label, break, continue, goto, return, Statements, none, more}
use Rattle.tsa_tree.specs.types.DeclaredTypes.{thing_type}
use Rattle.tsa_tree.specs.types.Expressions.{type_of, premises_of}
use Rattle.tsa_tree.specs.types.Locals.{local_entry, unless_taken, behind_local, names_in, names_in_init, local_premises}
use Rattle.tsa_tree.specs.types.Lookups.{params_in}
use Rattle.tsa_tree.specs.types.Operands.{is_scalar, is_integer, lacks}
use Rattle.tsa_tree.specs.types.Premises.{first}
use Rattle.tsa_tree.specs.types.Scopes.{Scope, context_of, is_taken, further}
use Rattle.tsa_tree.specs.types.Simple.{assignment_breaks, is_written_to, written_type, assignment_premises, tested_premises, return_breaks, parts_of}
use Rattle.tsa_tree.specs.types.Simple.{return_premises}
use Rattle.tsa_tree.specs.types.Statements.{Around, in_a_loop, in_a_switch, simple_premises, init_premises, behind_init, for_test}
use Rattle.tsa_tree.specs.types.Statements.{test_premises, step_premises, is_again, unless_again, for_premises, case_premises}
use Rattle.tsa_tree.specs.types.Statements.{default_premises, label_premises, statement_premises, statements_premises, behind}
use Rattle.tsa_tree.specs.types.Targets.{declared_in}
use Rattle.tsa_tree.specs.types.Types.{place}
use Rattle.tsa_types_row.specs.BodyRows.{typed_node, bare_node, alone_row, marked_row, aside, aside_given, aside_attributes, is_value}
use Rattle.tsa_types_row.specs.BodyRows.{row_in_init, row_in_given_init, local_parts, local_node, row_in_local, row_in_simple, row_in_for_init, row_in_step}
use Rattle.tsa_types_row.specs.BodyRows.{row_in_test, row_in_given_test, row_in_for, row_in_return, row_in_statement, row_in_statements, row_in_body}
use Rattle.tsa_types_row.specs.ExpressionRows.{row_in}
use Rattle.tsa_types_row.specs.Rows.{sized}
use Rattle.tsa_types_row.specs.declared.node.Node.{Node}
use Rattle.tsa_types_row.specs.declared.node.Op.{Op}
use Rattle.tsa_types_row.specs.declared.node.Op.TheVariants as op
use Rattle.tsa_core.specs.Bodies.{Point, Known, knows, known_init, known_step, known, known_all, known_in_body, declared, point_of}
use Rattle.tsa_tree.specs.types.Units.{outset}
use Rattle.tsa_core.proofs.CasesDiffer.{body_typed}
use Rattle.tsa_core.proofs.DeedsTold.{init_told}
use Rattle.tsa_core.proofs.NoFailure.{none_of_both, none_of_first, keeps_typed}
use Rattle.tsa_core_rows.specs.Laws.{part_of, with_part, PointsAreRead, UnitsAreRead}
use Rattle.tsa_core_rows.specs.Reading.{Reading, nothing_read, read_node, read_before}
use Rattle.tsa_core_rows.proofs.AnyParts.{read_framed, read_both, read_aside, read_aside_given, read_aside_attributes}
use Rattle.tsa_core_rows.proofs.AnyParts.{read_aside_items}
use Rattle.tsa_core_rows.proofs.TypedParts.{expressions_are_read}

-- Functions have the same parameters behind a local and a statement.
local_same : (here : Scope) (d : Declaration) → params_in here ≡ params_in (behind_local here d)
local_same here d = by (is_taken d.name.text here)
  where
    by : (taken : Bool) → params_in here ≡ params_in (further 1 (unless_taken taken d.name.text (local_entry here d) here))
    by true = refl
    by false = refl

same_init : {params : ℕ → List ThingType} (here : Scope) (init : ForInit) → params_in here ≡ params → params_in (behind_init here init) ≡ params
same_init here no_init same = same
same_init here (simple_init s) same = same
same_init here (local_init d) same = sym (local_same here d) ∙ same

behind_same : (here : Scope) (s : Statement) → params_in here ≡ params_in (behind here s)
unfolding behind
behind_same here (block items span) = refl
behind_same here (empty span) = refl
behind_same here (local d) = local_same here d
behind_same here (simple s) = refl
behind_same here (if_alone test arm span) = refl
behind_same here (if_else test arm other span) = refl
behind_same here (while_loop test body span) = refl
behind_same here (do_loop body test span) = refl
behind_same here (for_loop init test step body span) = refl
behind_same here (switch key body span) = refl
behind_same here (case key body span) = refl
behind_same here (otherwise body span) = refl
behind_same here (label name body span) = refl
behind_same here (break span) = refl
behind_same here (continue span) = refl
behind_same here (goto name span) = refl
behind_same here (return given span) = refl

-- points in front of those that were read
abbrev pub with_points : List Point → Reading → Reading
with_points ps r = record { parts = r.parts; points = ps ++ r.points }

module _ (f : ℕ) (params : ℕ → List ThingType) (result : Kind) where
  -- a row is read as the points where so much is known
  abbrev ReadsAs : List Node → List Known → Type 0
  ReadsAs row ks = (r : Reading) → read_before params result row r ≡ with_points (map (point_of result) ks) r

  both : (xs ys : List Node) (ks js : List Known) → ReadsAs xs ks → ReadsAs ys js → ReadsAs (xs ++ ys) (ks ++ js)
  both xs ys ks js h g r =
      let p = point_of result in
      read_both params result xs ys r (with_points (map p js) r) (with_points (map p ks) (with_points (map p js) r)) (g r) (h (with_points (map p js) r))
      ∙ ap (λ ps. record { parts = r.parts; points = ps }) (sym (append_assoc (map p ks) (map p js) r.points) ∙ ap (λ ps. ps ++ r.points) (sym (map-append p ks js)))

  -- an expression, where no premise of it fails, and a point that works it out
  one_read : (here : Scope) → params_in here ≡ params → (e : Expression) (r : Reading) → first (premises_of (context_of here) e) ≡ None
      → read_before params result (row_in here f e) r ≡ with_part (part_of here e) r
  one_read here same e r h =
      let t = keeps_typed (context_of here) e h in
      subst (λ ps. read_before ps result (row_in here f e) r ≡ with_part (part_of here e) r) same (expressions_are_read here f result e t.0 r t.1)

  marked_read : (o : Op) (span : Span) (here : Scope) → params_in here ≡ params → (e : Expression) (r : Reading) → first (premises_of (context_of here) e) ≡ None
      → read_before params result (marked_row o span here f e) r
      ≡ read_node params result (sized (suc (length (row_in here f e))) (bare_node o span)) (with_part (part_of here e) r)
  unfolding marked_row
  marked_read o span here same e r h = read_framed params result (bare_node o span) (row_in here f e) r (with_part (part_of here e) r) (one_read here same e r h)

  -- Locals.
  value_read : (here : Scope) → params_in here ≡ params → (w : ThingType) (size : ℕ) (span : Span) (i : Option Initialiser) (r : Reading) → first (names_in here i) ≡ None
      → read_node params result (sized size (typed_node (op.Declare here.locals (is_value i)) (place w) span)) (read_before params result (row_in_given_init here f i) r)
      ≡ with_points (declared here w.kind i ∷ []) r
  unfolding row_in_init names_in_init
  value_read here same w size span None r h = refl
  value_read here same w size span (Some (value e)) r h =
      ap (read_node params result (sized size (typed_node (op.Declare here.locals true) (place w) span))) (one_read here same e r h)
  value_read here same w size span (Some (list items end)) r h =
      ap (read_node params result (sized size (typed_node (op.Declare here.locals false) (place w) span))) (read_aside_items params result here f items r)

  parts_read : (here : Scope) (d : Declaration) (r : Reading) → read_before params result (local_parts here f d) r ≡ read_before params result (row_in_given_init here f d.init) r
  unfolding local_parts
  parts_read here d r =
      let begin = row_in_given_init here f d.init in
      let s = read_before params result begin r in
      let attrs = aside_attributes here f d.attrs in
      let length = aside_given here f d.ctype.length in
      read_both params result length (attrs ++ begin) r s s (read_both params result attrs begin r s s refl (read_aside_attributes params result here f d.attrs s))
      (read_aside_given params result here f d.ctype.length s)

  local_read : (here : Scope) → params_in here ≡ params → (d : Declaration) → first (local_premises here d) ≡ None → ReadsAs (row_in_local here f d) (knows here (declares d) ∷ [])
  unfolding row_in_local
  local_read here same d h r =
      read_framed params result (local_node here d) (local_parts here f d) r (read_before params result (row_in_given_init here f d.init) r) (parts_read here d r)
      ∙ value_read here same (thing_type here d.ctype) (suc (length (local_parts here f d))) d.span d.init r (init_told here d h).1.0

  -- Simple statements.
  simple_read : (here : Scope) → params_in here ≡ params → (s : Simple) → first (simple_premises here s) ≡ None → ReadsAs (row_in_simple here f s) (knows here (simple_deed s) ∷ [])
  unfolding row_in_simple assignment_premises
  simple_read here same (evaluation e span) h r = marked_read op.Evaluate span here same e r h
  simple_read here same (assignment left o right span) h r =
      let c = context_of here in
      let a = none_of_first TY3 span (assignment_breaks o (written_type (type_of c left)) (type_of c right)) _ h in
      let b = none_of_both (premises_of c left) _ a.1 in
      let d = none_of_first TY5 (expression_span left) (lacks is_written_to (type_of c left)) (premises_of c right) b.1 in
      let behind = with_part (part_of here right) r in
      let parts = with_part (part_of here left) behind in
      read_framed params result (bare_node (op.Set o) span) (row_in here f left ++ row_in here f right) r parts
      (read_both params result (row_in here f left) (row_in here f right) r behind parts (one_read here same right r d.1) (one_read here same left behind b.0))

  init_read : (here : Scope) → params_in here ≡ params → (init : ForInit) → first (init_premises here init) ≡ None → ReadsAs (row_in_for_init here f init) (known_init here init)
  init_read here same no_init h r = refl
  init_read here same (simple_init s) h r = simple_read here same s h r
  init_read here same (local_init d) h r = local_read here same d h r

  step_read : (here : Scope) → params_in here ≡ params → (s : Option Simple) → first (step_premises here s) ≡ None → ReadsAs (row_in_step here f s) (known_step here s)
  step_read here same None h r = refl
  step_read here same (Some s) h r = simple_read here same s h r

  -- Tests, and what is given back.
  test_read : (here : Scope) → params_in here ≡ params → (e : Expression) → first (premises_of (context_of here) e) ≡ None → ReadsAs (row_in_test here f e) (knows here (tests (Some e)) ∷ [])
  test_read here same e h r = marked_read (op.Test true) (expression_span e) here same e r h

  given_test_read : (here : Scope) → params_in here ≡ params → (loop : Span) (e : Option Expression) → first (test_premises here e) ≡ None
      → ReadsAs (row_in_given_test loop here f e) (knows here (tests e) ∷ [])
  given_test_read here same loop None h r = refl
  given_test_read here same loop (Some e) h r = test_read here same e h r

  return_read : (here : Scope) → params_in here ≡ params → (span : Span) (e : Option Expression) → first (parts_of (context_of here) e) ≡ None
      → ReadsAs (row_in_return span here f e) (knows here (returns e) ∷ [])
  return_read here same span None h r = refl
  return_read here same span (Some e) h r = marked_read (op.Give true) span here same e r h

  tested_told : (here : Scope) (span : Span) (e : Expression) → first (tested_premises (context_of here) is_scalar span e) ≡ None → first (premises_of (context_of here) e) ≡ None
  unfolding tested_premises
  tested_told here span e h = (none_of_first TY3 span (lacks is_scalar (type_of (context_of here) e)) (premises_of (context_of here) e) h).1

  key_told : (here : Scope) (span : Span) (e : Expression) → first (tested_premises (context_of here) is_integer span e) ≡ None → first (premises_of (context_of here) e) ≡ None
  unfolding tested_premises
  key_told here span e h = (none_of_first TY3 span (lacks is_integer (type_of (context_of here) e)) (premises_of (context_of here) e) h).1

  -- a `for` before its body
  for_read : (here : Scope) → params_in here ≡ params → (loop : Span) (init : ForInit) (test : Option Expression) (step : Option Simple)
      → first (for_premises here init test step loop) ≡ None
      → ReadsAs (row_in_for loop here f init test step) (known_init here init ++ (knows (behind_init here init) (tests test) ∷ known_step (behind_init here init) step))
  unfolding row_in_for for_premises
  for_read here same loop init test step h =
      let there = behind_init here init in
      let know = same_init here init same in
      let q = none_of_both (unless_again (is_again here init) (for_test there loop test)) (init_premises here init ++ (test_premises there test ++ step_premises there step)) h in
      let x = none_of_both (init_premises here init) (test_premises there test ++ step_premises there step) q.1 in
      let y = none_of_both (test_premises there test) (step_premises there step) x.1 in
      both (row_in_for_init here f init) (row_in_given_test loop there f test ++ row_in_step there f step) (known_init here init) (knows there (tests test) ∷ known_step there step)
      (init_read here same init x.0)
      (both (row_in_given_test loop there f test) (row_in_step there f step) (knows there (tests test) ∷ []) (known_step there step) (given_test_read there know loop test y.0)
      (step_read there know step y.1))

  mutual
    unfolding row_in_statement row_in_statements known known_all statement_premises statements_premises case_premises default_premises label_premises return_premises

    statement_read : (a : Around) (here : Scope) → params_in here ≡ params → (s : Statement) → first (statement_premises a here s) ≡ None
        → ReadsAs (row_in_statement here f s) (known here s)
    statement_read a here same (block items span) h = statements_read a here same items h
    statement_read a here same (empty span) h = λ r. refl
    statement_read a here same (local d) h = local_read here same d h
    statement_read a here same (simple s) h = simple_read here same s h
    statement_read a here same (if_alone test arm span) h =
        let p = none_of_both (tested_premises (context_of here) is_scalar span test) (statement_premises a here arm) h in
        both (row_in_test here f test) (row_in_statement here f arm) (knows here (tests (Some test)) ∷ []) (known here arm) (test_read here same test (tested_told here span test p.0))
        (statement_read a here same arm p.1)
    statement_read a here same (if_else test arm other span) h =
        let there = further (declared_in arm) here in
        let p = none_of_both (tested_premises (context_of here) is_scalar span test) (statement_premises a here arm ++ statement_premises a there other) h in
        let q = none_of_both (statement_premises a here arm) (statement_premises a there other) p.1 in
        both (row_in_test here f test) (row_in_statement here f arm ++ row_in_statement there f other) (knows here (tests (Some test)) ∷ []) (known here arm ++ known there other)
        (test_read here same test (tested_told here span test p.0))
        (both (row_in_statement here f arm) (row_in_statement there f other) (known here arm) (known there other) (statement_read a here same arm q.0)
        (statement_read a there same other q.1))
    statement_read a here same (while_loop test body span) h =
        let p = none_of_both (tested_premises (context_of here) is_scalar span test) (statement_premises (in_a_loop a) here body) h in
        both (row_in_test here f test) (row_in_statement here f body) (knows here (tests (Some test)) ∷ []) (known here body) (test_read here same test (tested_told here span test p.0))
        (statement_read (in_a_loop a) here same body p.1)
    statement_read a here same (do_loop body test span) h =
        let c = context_of here in
        let p = none_of_first TY3 span (lacks is_scalar (type_of c test)) (statement_premises (in_a_loop a) here body ++ premises_of c test) h in
        let q = none_of_both (statement_premises (in_a_loop a) here body) (premises_of c test) p.1 in
        both (row_in_statement here f body) (row_in_test here f test) (known here body) (knows here (tests (Some test)) ∷ []) (statement_read (in_a_loop a) here same body q.0)
        (test_read here same test q.1)
    statement_read a here same (for_loop init test step body span) h =
        let there = behind_init here init in
        let p = none_of_both (for_premises here init test step span) (statement_premises (in_a_loop a) there body) h in
        λ r. both (row_in_for span here f init test step) (row_in_statement there f body) (known_init here init ++ (knows there (tests test) ∷ known_step there step)) (known there body)
        (for_read here same span init test step p.0) (statement_read (in_a_loop a) there (same_init here init same) body p.1) r
        ∙ ap (λ ks. with_points (map (point_of result) ks) r) (append_assoc (known_init here init) (knows there (tests test) ∷ known_step there step) (known there body))
    statement_read a here same (switch key body span) h =
        let inner = in_a_switch here body a in
        let p = none_of_both (tested_premises (context_of here) is_integer span key) (statement_premises inner here body) h in
        both (marked_row op.Branch (expression_span key) here f key) (row_in_statement here f body) (knows here (switches key) ∷ []) (known here body)
        (λ r. marked_read op.Branch (expression_span key) here same key r (key_told here span key p.0)) (statement_read inner here same body p.1)
    statement_read a here same (case key body span) h =
        both (aside here f key) (row_in_statement here f body) [] (known here body) (read_aside params result here f key)
        (statement_read a here same body (none_of_both (case_premises a (context_of here) key span) (statement_premises a here body) h).1)
    statement_read a here same (otherwise body span) h =
        statement_read a here same body (none_of_both (default_premises a span) (statement_premises a here body) h).1
    statement_read a here same (label name body span) h =
        statement_read a here same body (none_of_both (label_premises a name span) (statement_premises a here body) h).1
    statement_read a here same (break span) h = λ r. refl
    statement_read a here same (continue span) h = λ r. refl
    statement_read a here same (goto name span) h = λ r. refl
    statement_read a here same (return given span) h =
        return_read here same span given (none_of_first TY8 span (return_breaks (context_of here) a.result given) (parts_of (context_of here) given) h).1

    statements_read : (a : Around) (here : Scope) → params_in here ≡ params → (ss : Statements) → first (statements_premises a here ss) ≡ None
        → ReadsAs (row_in_statements here f ss) (known_all here ss)
    statements_read a here same none h = λ r. refl
    statements_read a here same (more s ss) h =
        let p = none_of_both (statement_premises a here s) (statements_premises a (behind here s) ss) h in
        both (row_in_statement here f s) (row_in_statements (behind here s) f ss) (known here s) (known_all (behind here s) ss) (statement_read a here same s p.0)
        (statements_read a (behind here s) (sym (behind_same here s) ∙ same) ss p.1)

  -- a body with its end
  pub body_read : (a : Around) (here : Scope) → params_in here ≡ params → (body : Statements) (close : Span) → first (statements_premises a here body) ≡ None
      → ReadsAs (row_in_body here f body close) (known_in_body here body)
  unfolding row_in_body
  body_read a here same body close h =
      both (row_in_statements here f body) (alone_row op.End close) (known_all here body) (knows here ends ∷ []) (statements_read a here same body h) (λ r. refl)

pub points_are_read : PointsAreRead
points_are_read a here f result body close h =
    body_read f (params_in here) result a here refl body close h nothing_read
    ∙ ap (λ ps. record { parts = []; points = ps }) (append-nil (map (point_of result) (known_in_body here body)))

pub units_are_read : UnitsAreRead
units_are_read items name b f close typed is =
    let told = body_typed name b (outset items) items typed is in
    points_are_read told.around b.here f (thing_type b.here b.head.result).kind b.body close told.typed
