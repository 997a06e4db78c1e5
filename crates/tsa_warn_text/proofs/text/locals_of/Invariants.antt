use Rattle.std.proofs.Common.{◌≡◌, ◌++◌, filter_map, take}
use Rattle.tsa_rules.specs.Warnings.{root_local, index_local}
use Rattle.tsa_warn_text.proofs.text.locals_of.Given as goal

-- the locals of the first steps are there
abbrev pub invariant-each : goal.invariant-each
invariant-each l = l.locals.items ≡ root_local l.fn.path.root ++ filter_map index_local (take l.step-index l.fn.path.steps)
