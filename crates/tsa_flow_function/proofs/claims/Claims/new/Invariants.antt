use Rattle.std.proofs.Common.{◌≡◌, [], replicate}
use Rattle.tsa_flow_function.proofs.claims.Claims.new.Given as goal

abbrev pub invariant-each : goal.invariant-each
invariant-each l = l.claims ≡ replicate l.counter []
