use Rattle.std.proofs.Common.{◌≡◌, take}
use Rattle.tsa_rules_view.specs.Kinds.{kinds_of}
use Rattle.tsa_rules_view.specs.Parts.{kinds_along}
use Rattle.tsa_rules_view.proofs.parts.kinds_of.Given as goal

-- the kinds of the first paths are found
abbrev pub invariant-each : goal.invariant-each
invariant-each l = kinds_of l.found.items ≡ kinds_along (kinds_of l.kinds) l.leads.layout.now l.leads.locals.now (take l.number l.numbers)
