use Rattle.std.proofs.Common.{◌≡◌, drop}
use Rattle.tsa_core_program.specs.Programs.{body_of}
use Rattle.tsa_core_program.proofs.lists.Lists.body.Given as goal

-- the bodies that are left have the function's where all do
abbrev pub invariant-each : goal.invariant-each
invariant-each l = body_of l.function (drop l.body-index l.body-items) ≡ body_of l.function l.body-items
