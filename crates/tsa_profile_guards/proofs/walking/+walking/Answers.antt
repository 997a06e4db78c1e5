use Rattle.std.proofs.Common.{◌∙◌, ◌-◌, ap, arith, length, sym}
use Rattle.std.proofs.lemmas.List.{drop_all}
use Rattle.tsa_profile_guards.specs.Values.{unled}
use Rattle.tsa_profile_guards.proofs.Failures.{argument_fails_next, call_inside_fails, no_argument_fails, on_ok, operand_fails}
use Rattle.tsa_profile_guards.proofs.Operands.{argument_next, no_argument}
use Rattle.tsa_profile_guards.proofs.Walk.{call_inside}
use Rattle.tsa_profile_guards.proofs.walking.+walking.Goals as goal

pub arguments-each-init : goal.arguments-each-init
arguments-each-init t c = record {
  within = omega arith;
  found = no_argument _ _ _ c.args.args.now (length c.args.args.now) _ (drop_all (length c.args.args.now) c.args.args.now (omega arith));
  fails = no_argument_fails _ c.args.args.now (length c.args.args.now) _ (drop_all (length c.args.args.now) c.args.args.now (omega arith));
}

pub arguments-each-preserved : goal.arguments-each-preserved
arguments-each-preserved t c = record {
  within = omega arith;
  found = argument_next _ _ _ c.args.args.now (c.each.number - 1) c.each.number _ _ _ _ (omega arith) (omega arith) c.each.invariant.found c.in_ok-value_type.ensures.cells;
  fails = argument_fails_next _ c.args.args.now (c.each.number - 1) c.each.number _ _ _ _ (omega arith) (omega arith) c.each.invariant.fails c.in_ok-value_type.ensures.failure;
}

pub walk-returns-in_ok-code-in-Call-clause-cells : goal.walk-returns-in_ok-code-in-Call-clause-cells
walk-returns-in_ok-code-in-Call-clause-cells t c =
    c.tell.ensures.accesses
    ∙ c.in_ok-arguments-in-Call.ensures.cells
    ∙ sym (call_inside _ _ _ c.args.expr.now c.in-Call.callee c.in-Call.args _ c.in-Call.is)

pub walk-returns-in_ok-code-in-Call-clause-failure : goal.walk-returns-in_ok-code-in-Call-clause-failure
walk-returns-in_ok-code-in-Call-clause-failure t c =
    call_inside_fails _ _ c.args.expr.now c.in-Call.callee c.in-Call.args _ _ _ _ _ c.in-Call.is c.function-function.ensures c.in_ok-code-in-Call.ensures
    c.in_ok-arguments-in-Call.ensures.failure c.tell.ensures.failure

pub operand-returns-clause-failure : goal.operand-returns-clause-failure
operand-returns-clause-failure t c =
    on_ok c.loaded.result
    (operand_fails _ _ _ c.args.expr.now c.in_ok-seen.seen _ _ _ _ (ap unled c.in_ok-seen.ensures.seen) c.guard_code.ensures c.in_ok-seen.ensures.failure c.tell.ensures.failure)
