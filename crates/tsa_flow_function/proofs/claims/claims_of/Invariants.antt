use Rattle.std.proofs.Common.{◌≡◌, [], drop, replicate}
use Rattle.tsa_flow_function.specs.Claims.{noted}
use Rattle.tsa_flow_function.proofs.claims.claims_of.Given as goal

-- what is left to be noted comes behind what is listed
abbrev pub invariant-each : goal.invariant-each
invariant-each l = noted (drop l.at l.marks.marks) l.claims ≡ noted l.marks.marks (replicate l.paths [])
