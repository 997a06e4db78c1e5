use Rattle.std.proofs.Common.{◌≡◌, drop}
use Rattle.tsa_path.specs.PathTexts.{root_trail, trail_along}
use Rattle.tsa_path.proofs.texts.path_text.Given as goal

abbrev pub invariant-each : goal.invariant-each
invariant-each g l = record {
  written : trail_along (g.N.PathNames.names l.names) (drop l.at-index l.path.steps) l.trail ≡ trail_along (g.N.PathNames.names l.fn.names) l.fn.path.steps (root_trail (g.N.PathNames.names l.fn.names) l.fn.path.root);
}
