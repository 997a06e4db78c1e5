use Rattle.std.proofs.Common.{◌≡◌, take}
use Rattle.tsa_warn_text.specs.Orders.{texts_of}
use Rattle.tsa_warn_text.proofs.texts.texts_of_all.Given as goal

-- the first paths are there
abbrev pub invariant-each : goal.invariant-each
invariant-each g l = l.texts.items ≡ texts_of (g.N.PathNames.names l.names) (take l.number l.paths)
