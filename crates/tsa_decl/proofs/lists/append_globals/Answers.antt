use Rattle.std.proofs.Common.{rules}
use Rattle.tsa_decl.proofs.BegunLaws.{more_pointed}
use Rattle.tsa_decl.proofs.GlobalLaws.{lists, globals_rest, globals_last, globals_name}
use Rattle.tsa_decl_declarators.proofs.ListLaws.{front_more}
use Rattle.tsa_expr.proofs.Answering.{fails_same}
use Rattle.tsa_decl.proofs.lists.append_globals.Goals as goal

pub returns-then-not-declared-clause-pointed : goal.returns-then-not-declared-clause-pointed
returns-then-not-declared-clause-pointed c = λ h. more_pointed _ _ _ c.in_ok-keep_global.ensures.gives tt (c.globals.invariant.3 h)

pub globals-preserved : goal.globals-preserved
globals-preserved c = (
  search rules,
  search rules,
  search (rules, lists),
  λ h. more_pointed _ _ _ c.in_ok-keep_global.ensures.gives tt (c.globals.invariant.3 h),
  front_more _ _ _ _ c.in_ok-keep_global.ensures.gives c.globals.invariant.4,
)

pub returns-in_err-declared-clause-gives : goal.returns-in_err-declared-clause-gives
returns-in_err-declared-clause-gives c = search (rules, globals_rest, fails_same)

pub returns-then-not-declared-clause-gives : goal.returns-then-not-declared-clause-gives
returns-then-not-declared-clause-gives c = search (rules, globals_last)

pub returns-in_err-of-clause-gives : goal.returns-in_err-of-clause-gives
returns-in_err-of-clause-gives c = search (rules, globals_name, fails_same)
