-- What is wrong with a `for` before its body, by its parts.
use Rattle.std.proofs.Common.{◌≡◌, ◌∙◌, Bool, true, false, List, [], ◌++◌, Option, Some, None, option_map, refl, sym, ap, if◌then◌else◌}
use Rattle.std.specs.Borrow.{Bor}
use Rattle.tsa_base.specs.declared.token.Span.{Span}
use Rattle.tsa_tree.specs.declared.premise.Failure.{Failure}
use Rattle.tsa_tree.specs.declared.expr.Expr.{Expr}
use Rattle.tsa_tree.specs.expressions.Shapes.{shape}
use Rattle.tsa_tree.specs.expressions.Syntax.{Expression}
use Rattle.tsa_tree.specs.types.Known.{Context}
use Rattle.tsa_tree.specs.statements.Syntax.{Simple, ForInit}
use Rattle.tsa_tree.specs.types.Operands.{is_scalar}
use Rattle.tsa_tree.specs.types.Premises.{Premise, or_else, first}
use Rattle.tsa_tree.specs.types.Scopes.{Scope, context_of}
use Rattle.tsa_tree.specs.types.Statements.{init_premises, behind_init, is_again, unless_again, for_test, test_premises, step_premises}
use Rattle.tsa_tree.specs.types.Statements.{for_premises}
use Rattle.tsa_types_expressions.specs.Found.{found_in}
use Rattle.tsa_types_expressions.proofs.Steps.{first_append}
use Rattle.tsa_types_simple.specs.declared.locals.Told.{Told}
use Rattle.tsa_types_simple.specs.Loops.{given_test, given_failure, for_by}
use Rattle.tsa_types_simple.proofs.SimpleLaws.{alone_is, err_is}

pub nothing : first [] ≡ None
unfolding first
nothing = refl

module _ (here : Scope) (span : Span) where
  test_is : (test : Option Expression) → given_test span (option_map (found_in (context_of here)) test) ≡ first (for_test here span test)
  test_is None = sym nothing
  test_is (Some e) = alone_is (context_of here) is_scalar span e

  inside_is : (test : Option Expression) → given_failure (option_map (found_in (context_of here)) test) ≡ first (test_premises here test)
  inside_is None = sym nothing
  inside_is (Some e) = err_is (context_of here) e

by_again : (again : Bool) (test : List Premise) (x : Option Failure) → (if again then x else or_else (first test) x) ≡ or_else (first (unless_again again test)) x
by_again true test x = ap (λ o. or_else o x) (sym nothing)
by_again false test x = refl

pub for_is : (here there : Scope) (init : ForInit) (test : Option Expression) (step : Option Simple) (span : Span) (told : Told) (third : Option Failure)
    → there ≡ behind_init here init → told.taken ≡ is_again here init → told.failure ≡ first (init_premises here init) → third ≡ first (step_premises there step)
    → for_by span told (option_map (found_in (context_of there)) test) third ≡ first (for_premises here init test step span)
unfolding for_premises
for_is here there init test step span told third behind again failure stepped =
    let rest = init_premises here init ++ (test_premises there test ++ step_premises there step) in
    rw (again, failure, stepped)
    (ap (λ o. if is_again here init then or_else (first (init_premises here init)) (or_else o (first (step_premises there step)))
    else or_else (given_test span (option_map (found_in (context_of there)) test)) (or_else (first (init_premises here init)) (or_else o (first (step_premises there step))))) (inside_is there span test)
    ∙ ap (λ o. if is_again here init then or_else (first (init_premises here init)) (or_else (first (test_premises there test)) (first (step_premises there step)))
    else or_else o (or_else (first (init_premises here init)) (or_else (first (test_premises there test)) (first (step_premises there step))))) (test_is there span test)
    ∙ by_again (is_again here init) (for_test there span test) (or_else (first (init_premises here init)) (or_else (first (test_premises there test)) (first (step_premises there step))))
    ∙ ap (or_else (first (unless_again (is_again here init) (for_test there span test))))
    (sym (first_append (init_premises here init) (test_premises there test ++ step_premises there step)
    ∙ ap (or_else (first (init_premises here init))) (first_append (test_premises there test) (step_premises there step))))
    ∙ sym (first_append (unless_again (is_again here init) (for_test there span test)) rest)
    ∙ ap (λ s. first (unless_again (is_again here init) (for_test s span test) ++ (init_premises here init ++ (test_premises s test ++ step_premises s step)))) behind)

pub seen_test : (c : Context) (r : Option (Bor Expr)) → option_map (λ x. found_in c (shape x.now)) r ≡ option_map (found_in c) (option_map (λ x. shape x.now) r)
seen_test c None = refl
seen_test c (Some x) = refl

pub ruleset steps = (nothing)

pub ruleset inits = (nothing)

pub ruleset heads = (for_is)
