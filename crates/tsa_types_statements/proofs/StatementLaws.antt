-- The premises of a statement that has others in it, and of statements one by one.
use Rattle.std.proofs.Common.{ℕ, ◌≡◌, ◌∙◌, ◌+◌, suc, List, [], ◌∷◌, ◌++◌, drop, Option, Some, None, Err, Result, refl, sym, ap, subst}
use Rattle.std.specs.Prelude.{⊤}
use Rattle.tsa_base.specs.declared.token.Span.{Span}
use Rattle.tsa_base.proofs.Numbers.{plus_one}
use Rattle.tsa_tree.specs.declared.stmt.Stmt.{Stmt}
use Rattle.tsa_tree.specs.expressions.Syntax.{Identifier, Expression}
use Rattle.tsa_tree.specs.statements.Shapes.{stmt_shapes}
use Rattle.tsa_tree.specs.statements.Syntax.{Simple, ForInit, Statement, block, if_alone, if_else, while_loop, do_loop, for_loop, switch}
use Rattle.tsa_tree.specs.statements.Syntax.{case, otherwise, label, Statements}
use Rattle.tsa_types_expressions.specs.declared.refusal.TypeRefusal.{TypeRefusal}
use Rattle.tsa_tree.specs.types.Expressions.{premises_of}
use Rattle.tsa_types_expressions.specs.Judgements.{Judges, judgement}
use Rattle.tsa_tree.specs.types.Operands.{is_scalar, is_integer}
use Rattle.tsa_tree.specs.types.Premises.{Premise, or_else, failure_of, first}
use Rattle.tsa_tree.specs.declared.premise.Failure.{Failure}
use Rattle.tsa_tree.specs.types.Scopes.{Scope, context_of, further}
use Rattle.tsa_tree.specs.types.Simple.{tested, tested_premises}
use Rattle.tsa_tree.specs.types.Statements.{Around, in_a_loop, in_a_switch, behind_init, case_premises, default_premises, label_premises}
use Rattle.tsa_tree.specs.types.Statements.{for_premises, statement_premises, statements_premises, behind, behind_all}
use Rattle.tsa_tree.specs.types.Targets.{declared_in, declared_in_all}
use Rattle.tsa_types_expressions.proofs.Sequences.{judges_some, judges_rest}
use Rattle.tsa_tree.proofs.statements.Trees.{shape_of}
use Rattle.tsa_types_expressions.proofs.Steps.{first_append}

-- what each statement comes to by what is wrong before the one in it
module _ (a : Around) (here : Scope) where
  abbrev wrong : Statement → Option Failure
  wrong s = first (statement_premises a here s)

  pub block_wrong : (items : Statements) (span : Span) → wrong (block items span) ≡ first (statements_premises a here items)
  unfolding statement_premises
  block_wrong items span = refl

  pub if_wrong : (test : Expression) (arm : Statement) (span : Span)
      → wrong (if_alone test arm span) ≡ or_else (first (tested_premises (context_of here) is_scalar span test)) (wrong arm)
  unfolding statement_premises
  if_wrong test arm span = first_append (tested_premises (context_of here) is_scalar span test) (statement_premises a here arm)

  pub else_wrong : (test : Expression) (arm other : Statement) (span : Span)
      → wrong (if_else test arm other span)
      ≡ or_else (or_else (first (tested_premises (context_of here) is_scalar span test)) (wrong arm)) (first (statement_premises a (further (declared_in arm) here) other))
  unfolding statement_premises
  else_wrong test arm other span =
      first_append (tested_premises (context_of here) is_scalar span test) (statement_premises a here arm ++ statement_premises a (further (declared_in arm) here) other)
      ∙ ap (or_else (first (tested_premises (context_of here) is_scalar span test)))
      (first_append (statement_premises a here arm) (statement_premises a (further (declared_in arm) here) other))
      ∙ regroup (first (tested_premises (context_of here) is_scalar span test)) (wrong arm) (first (statement_premises a (further (declared_in arm) here) other))
    where
      regroup : (x y z : Option Failure) → or_else x (or_else y z) ≡ or_else (or_else x y) z
      regroup (Some f) y z = refl
      regroup None y z = refl

  pub while_wrong : (test : Expression) (body : Statement) (span : Span)
      → wrong (while_loop test body span)
      ≡ or_else (first (tested_premises (context_of here) is_scalar span test)) (first (statement_premises (in_a_loop a) here body))
  unfolding statement_premises
  while_wrong test body span = first_append (tested_premises (context_of here) is_scalar span test) (statement_premises (in_a_loop a) here body)

  pub do_wrong : (body : Statement) (test : Expression) (span : Span)
      → wrong (do_loop body test span)
      ≡ first (tested (context_of here) is_scalar span test ∷ statement_premises (in_a_loop a) here body ++ premises_of (context_of here) test)
  unfolding statement_premises
  do_wrong body test span = refl

  pub for_wrong : (init : ForInit) (test : Option Expression) (step : Option Simple) (body : Statement) (span : Span)
      → wrong (for_loop init test step body span)
      ≡ first (for_premises here init test step span ++ statement_premises (in_a_loop a) (behind_init here init) body)
  unfolding statement_premises
  for_wrong init test step body span = refl

  pub switch_wrong : (key : Expression) (body : Statement) (span : Span)
      → wrong (switch key body span)
      ≡ or_else (first (tested_premises (context_of here) is_integer span key)) (first (statement_premises (in_a_switch here body a) here body))
  unfolding statement_premises
  switch_wrong key body span = first_append (tested_premises (context_of here) is_integer span key) (statement_premises (in_a_switch here body a) here body)

  pub case_wrong : (key : Expression) (body : Statement) (span : Span)
      → wrong (case key body span) ≡ or_else (first (case_premises a (context_of here) key span)) (wrong body)
  unfolding statement_premises
  case_wrong key body span = first_append (case_premises a (context_of here) key span) (statement_premises a here body)

  pub default_wrong : (body : Statement) (span : Span) → wrong (otherwise body span) ≡ or_else (first (default_premises a span)) (wrong body)
  unfolding statement_premises
  default_wrong body span = first_append (default_premises a span) (statement_premises a here body)

  pub label_wrong : (name : Identifier) (body : Statement) (span : Span)
      → wrong (label name body span) ≡ or_else (first (label_premises a name span)) (wrong body)
  unfolding statement_premises
  label_wrong name body span = first_append (label_premises a name span) (statement_premises a here body)

pub ruleset wrongs = (block_wrong, if_wrong, else_wrong, while_wrong, do_wrong, for_wrong, switch_wrong, case_wrong, default_wrong, label_wrong)

module _ (a : Around) (here : Scope) (items : List Stmt) (i : ℕ) where
  abbrev wrong_from : Scope → ℕ → Option Failure
  wrong_from there j = first (statements_premises a there (stmt_shapes (drop j items)))

  abbrev known_from : Scope → ℕ → Scope
  known_from there j = behind_all there (stmt_shapes (drop j items))

  pub statements_end : drop i items ≡ [] → wrong_from here i ≡ None
  unfolding statements_premises first
  statements_end e = ap (λ xs. first (statements_premises a here (stmt_shapes xs))) e

  pub behind_end : drop i items ≡ [] → known_from here i ≡ here
  unfolding behind_all
  behind_end e = ap (λ xs. behind_all here (stmt_shapes xs)) e

  module _ (x : Stmt) (at_i : drop i items ≡ x ∷ drop (suc i) items) where
    abbrev own : Option Failure
    own = first (statement_premises a here (shape_of x))

    statements_more : wrong_from here i ≡ or_else own (wrong_from (behind here (shape_of x)) (suc i))
    unfolding statements_premises
    statements_more =
        ap (λ xs. first (statements_premises a here (stmt_shapes xs))) at_i
        ∙ first_append (statement_premises a here (shape_of x)) (statements_premises a (behind here (shape_of x)) (stmt_shapes (drop (suc i) items)))

    pub statements_stop : (e : TypeRefusal) → Judges own (Err e) → Judges (wrong_from here i) (Err e)
    statements_stop e h = subst (λ o. Judges o (Err e)) (sym statements_more) (judges_some own (wrong_from (behind here (shape_of x)) (suc i)) e h)

    pub statements_next : (there : Scope) → own ≡ None → there ≡ behind here (shape_of x) → wrong_from there (i + 1) ≡ wrong_from here i
    statements_next there none known =
        ap (λ y. wrong_from y (i + 1)) known ∙ ap (wrong_from (behind here (shape_of x))) (sym (plus_one i))
        ∙ sym (statements_more ∙ ap (λ o. or_else o (wrong_from (behind here (shape_of x)) (suc i))) none)

    pub behind_next : (there : Scope) → there ≡ behind here (shape_of x) → known_from there (i + 1) ≡ known_from here i
    unfolding behind_all
    behind_next there known =
        ap (λ y. known_from y (i + 1)) known ∙ ap (known_from (behind here (shape_of x))) (sym (plus_one i))
        ∙ sym (ap (λ xs. behind_all here (stmt_shapes xs)) at_i)

pub block_behind : (here : Scope) (items : Statements) (span : Span) → behind here (block items span) ≡ further (declared_in_all items) here
unfolding behind declared_in
block_behind here items span = refl

-- an answer by what fails
pub judges_it : (x : Option Failure) → Judges x (judgement x)
judges_it None = refl
judges_it (Some f) = refl

-- a `do`: its test, its body, and what is wrong inside its test
module _ (a : Around) (here : Scope) (body : Statement) (test : Expression) (span : Span) where
  abbrev alone : Option Failure
  alone = first (tested (context_of here) is_scalar span test ∷ [])

  abbrev bodily : Around → Option Failure
  bodily b = first (statement_premises b here body)

  abbrev premises_of_do : List Premise
  premises_of_do = tested (context_of here) is_scalar span test ∷ statement_premises (in_a_loop a) here body ++ premises_of (context_of here) test

  do_first : first premises_of_do ≡ or_else (or_else alone (bodily (in_a_loop a))) (first (premises_of (context_of here) test))
  unfolding first
  do_first = ap (or_else (failure_of (tested (context_of here) is_scalar span test))) (first_append (statement_premises (in_a_loop a) here body) (premises_of (context_of here) test))
      ∙ regrouped (failure_of (tested (context_of here) is_scalar span test)) (bodily (in_a_loop a)) (first (premises_of (context_of here) test))
    where
      regrouped : (x y z : Option Failure) → or_else x (or_else y z) ≡ or_else (or_else (or_else x None) y) z
      regrouped (Some f) y z = refl
      regrouped None y z = refl

  module _ (x : Option Failure) (inner : Around) (told : x ≡ alone) (inside : inner ≡ in_a_loop a) where
    do_told : or_else x (bodily inner) ≡ or_else alone (bodily (in_a_loop a))
    do_told = ap (λ o. or_else o (bodily inner)) told ∙ ap (λ b. or_else alone (bodily b)) inside

    pub do_stops : (e : TypeRefusal) → Judges (or_else x (bodily inner)) (Err e) → Judges (first premises_of_do) (Err e)
    do_stops e h =
        subst (λ o. Judges o (Err e)) (sym do_first)
        (judges_some (or_else alone (bodily (in_a_loop a))) (first (premises_of (context_of here) test)) e (subst (λ o. Judges o (Err e)) do_told h))

    pub do_goes : or_else x (bodily inner) ≡ None → (there : Scope) (n : ℕ) → there ≡ further n here → (r : Result ⊤ TypeRefusal)
        → Judges (first (premises_of (context_of there) test)) r → Judges (first premises_of_do) r
    do_goes none there n known r h =
        subst (λ o. Judges o r) (sym do_first)
        (judges_rest (or_else alone (bodily (in_a_loop a))) (first (premises_of (context_of here) test)) r (sym do_told ∙ none)
        (subst (λ s. Judges (first (premises_of (context_of s) test)) r) known h))

-- a `for` by what is wrong before its body
pub for_goes : (a : Around) (here : Scope) (init : ForInit) (test : Option Expression) (step : Option Simple) (span : Span) (body : Statement)
    (there : Scope) (inner : Around) (x : Option Failure) → x ≡ first (for_premises here init test step span) → there ≡ behind_init here init → inner ≡ in_a_loop a
    → or_else x (first (statement_premises inner there body))
    ≡ first (for_premises here init test step span ++ statement_premises (in_a_loop a) (behind_init here init) body)
for_goes a here init test step span body there inner x is known inside =
    ap (λ o. or_else o (first (statement_premises inner there body))) is
    ∙ ap (λ b. or_else (first (for_premises here init test step span)) (first (statement_premises b there body))) inside
    ∙ ap (λ s. or_else (first (for_premises here init test step span)) (first (statement_premises (in_a_loop a) s body))) known
    ∙ sym (first_append (for_premises here init test step span) (statement_premises (in_a_loop a) (behind_init here init) body))
