use Rattle.std.proofs.Common.{rules, ◌≡◌, ◌<◌, length, subst, sym}
use Rattle.tsa_lower_pools.specs.Pools.{first_case, part_of}
use Rattle.tsa_lower_pools.proofs.Cases.{case_inside}
use Rattle.tsa_lower_pools.proofs.code.Code.case.Goals as goal

pub returns-clause-inside : goal.returns-clause-inside
returns-clause-inside c =
    let code = c.args.self.now in
    let here = c.point-point.result in
    let is : c.first_case.result ≡ first_case c.args.value (part_of code.cases.items here.cases) here.rest = search rules in
    subst (λ n. n < length code.points.items) (sym is)
    (case_inside c.args.value code.cases.items here.cases here.rest (length code.points.items) code.cases_inside c.point-point.ensures.inside.rest)
