use Rattle.std.proofs.Common.{subst, sym}
use Rattle.tsa_flow_function.specs.Views.{IsViewOf}
use Rattle.tsa_warn_function.proofs.spot.spot_of.Goals as goal

pub returns-clause-is : goal.returns-clause-is
returns-clause-is c u f paths w is less there = record {
  is_case = c.case.ensures.is u f paths w (subst (IsViewOf u f paths) (sym c.view.ensures) is.view) less there;
  before = c.statuses.ensures u f paths w is less there;
}
