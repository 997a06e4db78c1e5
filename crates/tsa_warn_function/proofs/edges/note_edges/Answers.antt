use Rattle.std.proofs.Common.{subst, sym}
use Rattle.std.proofs.lemmas.Result.{on_ok_weaker}
use Rattle.tsa_warn_function.specs.Adding.{Adds}
use Rattle.tsa_warn_function.specs.Passes.{IsOfEdges}
use Rattle.tsa_warn_function.proofs.Pathwise.{no_edges, OfOne, one_edges}
use Rattle.tsa_warn_function.proofs.edges.note_edges.Goals as goal

pub returns-then-agree : goal.returns-then-agree
returns-then-agree c u f paths w is less there =
    no_edges u f paths c.args.point less w c.args.cap there (λ d. d.lacks ((c.agree.ensures.is u f paths w is less there).0 c.if-agree.true d.one d.other d.status d.brings d.reached)) c.args.found.now.items

pub returns : goal.returns
returns c = on_ok_weaker c.put.result
    (λ e u f paths w is less there. subst (Adds (OfOne (IsOfEdges u f paths c.args.point) c.args.cap) c.args.found.now.items) (sym e)
    (one_edges u f paths c.args.point less w c.args.cap there (c.agree.ensures.differ u f paths w is less there c.if-agree.false) c.args.found.now.items))
    c.put.ensures
