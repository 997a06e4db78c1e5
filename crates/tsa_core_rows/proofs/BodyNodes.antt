-- Which nodes bodies are made of: an end is the last one alone, and a typed body begins with a point.
use Rattle.std.proofs.Common.{◌≡◌, ◌∙◌, ℕ, Bool, true, false, ◌&&◌, not, List, [], ◌∷◌, ◌++◌, Option, Some, None, is_some, refl, sym, ap, ap₂}
use Rattle.tsa_base.specs.declared.token.Span.{Span}
use Rattle.tsa_base.proofs.Truths.{never}
use Rattle.tsa_tree.specs.declarations.Syntax.{Declaration}
use Rattle.tsa_tree.specs.declared.premise.TypeCode.TheVariants.{TY2, TY3, TY7}
use Rattle.tsa_tree.specs.expressions.Syntax.{Expression}
use Rattle.tsa_tree.specs.points.Syntax.{expression_span}
use Rattle.tsa_tree.specs.statements.Syntax.{Simple, evaluation, assignment, ForInit, no_init, simple_init, local_init, Statement, block}
use Rattle.tsa_tree.specs.statements.Syntax.{empty, local, simple, if_alone, if_else, while_loop, do_loop, for_loop, switch, case, otherwise}
use Rattle.tsa_tree.specs.statements.Syntax.{label, break, continue, goto, return, Statements, none, more}
use Rattle.tsa_tree.specs.types.DeclaredTypes.{constant_premises, value_in}
use Rattle.tsa_tree.specs.types.Expressions.{type_of, premises_of}
use Rattle.tsa_tree.specs.types.Operands.{is_scalar, lacks}
use Rattle.tsa_tree.specs.types.Premises.{Premise, first, premise}
use Rattle.tsa_tree.specs.types.Scopes.{Scope, context_of, further}
use Rattle.tsa_tree.specs.types.Statements.{Around, in_a_loop, behind_init, behind, is_case_again, case_premises}
use Rattle.tsa_tree.specs.types.Statements.{default_premises, label_premises, statement_premises, statements_premises}
use Rattle.tsa_tree.specs.types.Targets.{declared_in}
use Rattle.tsa_types_row.specs.BodyRows.{aside}
use Rattle.tsa_types_row.specs.BodyRows.{marked_row, local_parts, row_in_local, row_in_simple, row_in_for_init}
use Rattle.tsa_types_row.specs.BodyRows.{row_in_step, row_in_test, row_in_given_test, row_in_for, row_in_return, row_in_statement, row_in_statements}
use Rattle.tsa_types_row.specs.ExpressionRows.{row_in}
use Rattle.tsa_types_row.specs.declared.node.Node.{Node}
use Rattle.tsa_types_row.specs.declared.node.Op.{Op}
use Rattle.tsa_types_row.specs.declared.node.Op.TheVariants as op
use Rattle.tsa_core.proofs.NoFailure.{none_of_both, none_of_first}
use Rattle.tsa_core_rows.specs.Stretches.{is_point}
use Rattle.tsa_core_rows.proofs.PlainRows.{is_inner, is_plain, every, IsPlain, every_both, plain, plain_aside, plain_parts}

-- Rows within bodies.
abbrev pub IsInner : List Node → Type 0
IsInner row = every is_inner row ≡ true

inner_both : (xs ys : List Node) → IsInner xs → IsInner ys → IsInner (xs ++ ys)
inner_both xs ys h g = every_both is_inner xs ys h g

pub both_true : (a b : Bool) → (a && b) ≡ true → (a ≡ true) × (b ≡ true)
both_true true b e = (refl, e)
both_true false b e = never (sym e)

plain_within : (o : Op) → is_plain o ≡ true → is_inner o ≡ true
plain_within op.End e = never (sym e)
plain_within (op.Declared s) e = e
plain_within o e = refl

inner : (row : List Node) → IsPlain row → IsInner row
inner [] e = refl
inner (node ∷ rest) e =
    let told = both_true (is_plain node.op) (every is_plain rest) e in
    ap₂ (λ a b. a && b) (plain_within node.op told.0) (inner rest told.1)

module _ (f : ℕ) where
  inner_local : (here : Scope) (d : Declaration) → IsInner (row_in_local here f d)
  unfolding row_in_local
  inner_local here d = inner (local_parts here f d) (plain_parts here f d)

  inner_in : (here : Scope) (e : Expression) → IsInner (row_in here f e)
  inner_in here e = inner (row_in here f e) (plain here f e)

  inner_marked : (o : Op) (span : Span) (here : Scope) (e : Expression) → is_inner o ≡ true → IsInner (marked_row o span here f e)
  unfolding marked_row
  inner_marked o span here e is = ap₂ (λ a b. a && b) is (inner_in here e)

  inner_simple : (here : Scope) (s : Simple) → IsInner (row_in_simple here f s)
  unfolding row_in_simple
  inner_simple here (evaluation e span) = inner_marked op.Evaluate span here e refl
  inner_simple here (assignment left o right span) = inner_both (row_in here f left) (row_in here f right) (inner_in here left) (inner_in here right)

  inner_init : (here : Scope) (init : ForInit) → IsInner (row_in_for_init here f init)
  inner_init here no_init = refl
  inner_init here (simple_init s) = inner_simple here s
  inner_init here (local_init d) = inner_local here d

  inner_step : (here : Scope) (s : Option Simple) → IsInner (row_in_step here f s)
  inner_step here None = refl
  inner_step here (Some s) = inner_simple here s

  inner_test : (here : Scope) (e : Expression) → IsInner (row_in_test here f e)
  inner_test here e = inner_marked (op.Test true) (expression_span e) here e refl

  inner_given_test : (here : Scope) (loop : Span) (e : Option Expression) → IsInner (row_in_given_test loop here f e)
  inner_given_test here loop None = refl
  inner_given_test here loop (Some e) = inner_test here e

  inner_return : (here : Scope) (span : Span) (e : Option Expression) → IsInner (row_in_return span here f e)
  inner_return here span None = refl
  inner_return here span (Some e) = inner_marked (op.Give true) span here e refl

  inner_for : (here : Scope) (loop : Span) (init : ForInit) (test : Option Expression) (step : Option Simple) → IsInner (row_in_for loop here f init test step)
  unfolding row_in_for
  inner_for here loop init test step =
      let there = behind_init here init in
      inner_both (row_in_for_init here f init) (row_in_given_test loop there f test ++ row_in_step there f step) (inner_init here init)
      (inner_both (row_in_given_test loop there f test) (row_in_step there f step) (inner_given_test there loop test) (inner_step there step))

  mutual
    unfolding row_in_statement row_in_statements

    inner_statement : (here : Scope) (s : Statement) → IsInner (row_in_statement here f s)
    inner_statement here (block items span) = inner_statements here items
    inner_statement here (empty span) = refl
    inner_statement here (local d) = inner_local here d
    inner_statement here (simple s) = inner_simple here s
    inner_statement here (if_alone test arm span) = inner_both (row_in_test here f test) (row_in_statement here f arm) (inner_test here test) (inner_statement here arm)
    inner_statement here (if_else test arm other span) =
        let there = further (declared_in arm) here in
        inner_both (row_in_test here f test) (row_in_statement here f arm ++ row_in_statement there f other) (inner_test here test)
        (inner_both (row_in_statement here f arm) (row_in_statement there f other) (inner_statement here arm) (inner_statement there other))
    inner_statement here (while_loop test body span) = inner_both (row_in_test here f test) (row_in_statement here f body) (inner_test here test) (inner_statement here body)
    inner_statement here (do_loop body test span) = inner_both (row_in_statement here f body) (row_in_test here f test) (inner_statement here body) (inner_test here test)
    inner_statement here (for_loop init test step body span) =
        let there = behind_init here init in
        inner_both (row_in_for span here f init test step) (row_in_statement there f body) (inner_for here span init test step) (inner_statement there body)
    inner_statement here (switch key body span) =
        inner_both (marked_row op.Branch (expression_span key) here f key) (row_in_statement here f body) (inner_marked op.Branch (expression_span key) here key refl)
        (inner_statement here body)
    inner_statement here (case key body span) =
        inner_both (aside here f key) (row_in_statement here f body) (inner (aside here f key) (plain_aside here f key)) (inner_statement here body)
    inner_statement here (otherwise body span) = inner_statement here body
    inner_statement here (label name body span) = inner_statement here body
    inner_statement here (break span) = refl
    inner_statement here (continue span) = refl
    inner_statement here (goto name span) = refl
    inner_statement here (return given span) = inner_return here span given

    pub inner_statements : (here : Scope) (ss : Statements) → IsInner (row_in_statements here f ss)
    inner_statements here none = refl
    inner_statements here (more s ss) =
        inner_both (row_in_statement here f s) (row_in_statements (behind here s) f ss) (inner_statement here s) (inner_statements (behind here s) ss)

-- Rows that begin with a point, if they begin at all.
abbrev pub begins : List Node → Bool
begins [] = true
begins (node ∷ rest) = is_point node.op

begins_both : (xs ys : List Node) → begins xs ≡ true → begins ys ≡ true → begins (xs ++ ys) ≡ true
begins_both [] ys h g = g
begins_both (x ∷ xs) ys h g = h

-- no case stands outside of a switch
no_case : (a : Around) → a.in_switch ≡ false → (b : Bool) (span : Span) (rest : List Premise) → first (premise TY2 span b ∷ premise TY7 span (not a.in_switch) ∷ rest) ≡ None → ⊥
no_case a out b span rest h =
    let told = none_of_first TY7 span (not a.in_switch) rest (none_of_first TY2 span b (premise TY7 span (not a.in_switch) ∷ rest) h).1 in
    never (sym (ap not out) ∙ told.0)

module _ (f : ℕ) where
  begins_simple : (here : Scope) (s : Simple) → begins (row_in_simple here f s) ≡ true
  unfolding row_in_simple marked_row
  begins_simple here (evaluation e span) = refl
  begins_simple here (assignment left o right span) = refl

  begins_for : (here : Scope) (loop : Span) (init : ForInit) (test : Option Expression) (step : Option Simple) (ys : List Node)
      → begins (row_in_for loop here f init test step ++ ys) ≡ true
  unfolding row_in_for row_in_simple row_in_local marked_row
  begins_for here loop no_init None step ys = refl
  begins_for here loop no_init (Some e) step ys = refl
  begins_for here loop (simple_init (evaluation e span)) test step ys = refl
  begins_for here loop (simple_init (assignment left o right span)) test step ys = refl
  begins_for here loop (local_init d) test step ys = refl

  begins_return : (here : Scope) (span : Span) (e : Option Expression) → begins (row_in_return span here f e) ≡ true
  unfolding marked_row
  begins_return here span None = refl
  begins_return here span (Some e) = refl

  mutual
    unfolding row_in_statement row_in_statements row_in_local marked_row statement_premises statements_premises case_premises default_premises label_premises

    begins_statement : (a : Around) (here : Scope) → a.in_switch ≡ false → (s : Statement) → first (statement_premises a here s) ≡ None
        → begins (row_in_statement here f s) ≡ true
    begins_statement a here out (block items span) h = begins_statements a here out items h
    begins_statement a here out (empty span) h = refl
    begins_statement a here out (local d) h = refl
    begins_statement a here out (simple s) h = begins_simple here s
    begins_statement a here out (if_alone test arm span) h = refl
    begins_statement a here out (if_else test arm other span) h = refl
    begins_statement a here out (while_loop test body span) h = refl
    begins_statement a here out (do_loop body test span) h =
        let c = context_of here in
        let p = none_of_first TY3 span (lacks is_scalar (type_of c test)) (statement_premises (in_a_loop a) here body ++ premises_of c test) h in
        let q = none_of_both (statement_premises (in_a_loop a) here body) (premises_of c test) p.1 in
        begins_both (row_in_statement here f body) (row_in_test here f test) (begins_statement (in_a_loop a) here out body q.0) refl
    begins_statement a here out (for_loop init test step body span) h = begins_for here span init test step (row_in_statement (behind_init here init) f body)
    begins_statement a here out (switch key body span) h = refl
    begins_statement a here out (case key body span) h =
        let c = context_of here in
        absurd (no_case a out (a.in_switch && is_case_again a.cases span.from (value_in c key)) span (constant_premises c is_some key)
        (none_of_both (case_premises a c key span) (statement_premises a here body) h).0)
    begins_statement a here out (otherwise body span) h =
        begins_statement a here out body (none_of_both (default_premises a span) (statement_premises a here body) h).1
    begins_statement a here out (label name body span) h =
        begins_statement a here out body (none_of_both (label_premises a name span) (statement_premises a here body) h).1
    begins_statement a here out (break span) h = refl
    begins_statement a here out (continue span) h = refl
    begins_statement a here out (goto name span) h = refl
    begins_statement a here out (return given span) h = begins_return here span given

    pub begins_statements : (a : Around) (here : Scope) → a.in_switch ≡ false → (ss : Statements) → first (statements_premises a here ss) ≡ None
        → begins (row_in_statements here f ss) ≡ true
    begins_statements a here out none h = refl
    begins_statements a here out (more s ss) h =
        let p = none_of_both (statement_premises a here s) (statements_premises a (behind here s) ss) h in
        begins_both (row_in_statement here f s) (row_in_statements (behind here s) f ss) (begins_statement a here out s p.0)
        (begins_statements a (behind here s) out ss p.1)
