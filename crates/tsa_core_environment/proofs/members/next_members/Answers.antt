use Rattle.std.proofs.Common.{◌∙◌, sym}
use Rattle.std.proofs.Math.Seq.{drop-cons}
use Rattle.std.proofs.lemmas.List.{drop_all}
use Rattle.tsa_core_environment.proofs.KnownItems.{known_end, known_next}
use Rattle.tsa_core_environment.proofs.members.next_members.Goals as goal

pub each-preserved : goal.each-preserved
each-preserved c = record {
  behind =
      known_next c.args.scope.now c.args.decls.now c.each.decl-index c.each.before _ (drop-cons c.args.decls.now c.each.decl-index _ c.each-test.true) c.next_member.new.before
      c.in_ok-next_member.ensures
      ∙ c.each.invariant.behind;
}

pub returns : goal.returns
returns c =
    sym (known_end c.args.scope.now c.args.decls.now c.each.decl-index c.each.before (drop_all c.each.decl-index c.args.decls.now c.each-test.false)) ∙ c.each.invariant.behind
