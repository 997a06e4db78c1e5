use Rattle.std.proofs.Common.{◌∙◌}
use Rattle.tsa_place_layout.proofs.Begins.{begin_kept}
use Rattle.tsa_place_layout.proofs.structures.Structures.begin.Goals as goal

pub returns-in-Some : goal.returns-in-Some
returns-in-Some c = c.begin.ensures ∙ begin_kept c.args.self.now c.args.structure c.args.number c.in-Some.defined.now c.in-Some.ensures.found
