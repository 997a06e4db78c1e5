-- How many points statements have, by their parts.
use Rattle.std.proofs.Common.{◌≡◌, suc, ◌+◌, arith, ◌∷◌, ◌++◌, length, Option, ap}
use Rattle.std.proofs.lemmas.List.{length-append}
use Rattle.tsa_base.specs.declared.token.Span.{Span}
use Rattle.tsa_tree.specs.expressions.Syntax.{Expression}
use Rattle.tsa_tree.specs.points.Syntax.{points_of, points_of_all, points_of_init, points_of_step, point_of_for}
use Rattle.tsa_tree.specs.statements.Syntax.{Simple, ForInit, Statement, if_else, do_loop, for_loop, Statements, more}
use Rattle.tsa_core.specs.Control.{count, count_all}

pub count_if : (test : Expression) (arm other : Statement) (span : Span) → count (if_else test arm other span) ≡ suc (count arm + count other)
count_if test arm other span = ap suc (length-append (points_of arm) (points_of other))

pub count_do : (body : Statement) (test : Expression) (span : Span) → count (do_loop body test span) ≡ suc (count body)
count_do body test span = let l : count (do_loop body test span) ≡ count body + 1 = length-append (points_of body) _ in omega (arith, l)

pub count_for : (init : ForInit) (test : Option Expression) (step : Option Simple) (body : Statement) (span : Span)
    → count (for_loop init test step body span) ≡ suc (length (points_of_init init) + (length (points_of_step step) + count body))
count_for init test step body span =
    let l : count (for_loop init test step body span) ≡ length (points_of_init init) + suc (length (points_of_step step ++ points_of body)) =
    length-append (points_of_init init) (point_of_for span test ∷ (points_of_step step ++ points_of body))
    in
    let m : length (points_of_step step ++ points_of body) ≡ length (points_of_step step) + count body = length-append (points_of_step step) (points_of body) in
    omega (arith, l, m)

pub count_more : (s : Statement) (ss : Statements) → count_all (more s ss) ≡ count s + count_all ss
count_more s ss = length-append (points_of s) (points_of_all ss)
