use Rattle.std.proofs.Common.{◌∙◌, sym}
use Rattle.std.proofs.Math.Seq.{drop-cons}
use Rattle.std.proofs.lemmas.List.{drop_all}
use Rattle.std.proofs.lemmas.Result.{err_from_is_err_and}
use Rattle.tsa_types_declarations.proofs.Judging.{judges_err}
use Rattle.tsa_types_declarations.proofs.MemberLists.{members_end, members_stop, members_next, known_end, known_next, noted_end, noted_next}
use Rattle.tsa_types_declarations.proofs.structs.declare_members.Goals as goal

pub returns-in_err-declare_member-clause-judged : goal.returns-in_err-declare_member-clause-judged
returns-in_err-declare_member-clause-judged c =
    let p = err_from_is_err_and c.from_residual.result c.from_residual.ensures.1 in
    rw (p.1, p.2)
    (judges_err _ _ c.in_err-declare_member.field-0.0 c.each.invariant.judged
    (members_stop c.args.scope.now c.args.decls.now c.each.decl-index c.each.members _ (drop-cons c.args.decls.now c.each.decl-index _ c.each-test.true) c.each.scope c.each.invariant.same
    c.in_err-declare_member.field-0.0 c.in_err-declare_member.ensures.judged))

pub each-preserved : goal.each-preserved
each-preserved c =
    let one = c.in_ok-declare_member.ensures in
    let at_i = drop-cons c.args.decls.now c.each.decl-index _ c.each-test.true in
    record {
      judged =
          members_next c.args.scope.now c.args.decls.now c.each.decl-index c.each.members _ at_i c.each.scope c.each.invariant.same c.declare_member.new.members one.behind one.judged
          ∙ c.each.invariant.judged;
      behind =
          known_next c.args.scope.now c.args.decls.now c.each.decl-index c.each.members _ at_i c.each.scope c.each.invariant.same c.declare_member.new.members one.behind
          ∙ c.each.invariant.behind;
      nodes =
          noted_next c.args.scope.now c.args.decls.now c.each.decl-index c.each.members _ at_i c.each.scope c.each.invariant.same c.declare_member.new.members one.behind c.each.row
          c.declare_member.new.row one.nodes
          ∙ c.each.invariant.nodes;
      same = one.same ∙ c.each.invariant.same;
    }

pub returns-clause-judged : goal.returns-clause-judged
returns-clause-judged c =
    sym c.each.invariant.judged
    ∙ members_end c.args.scope.now c.args.decls.now c.each.decl-index c.each.members (drop_all c.each.decl-index c.args.decls.now c.each-test.false)

pub returns-clause-behind : goal.returns-clause-behind
returns-clause-behind c =
    sym (known_end c.args.scope.now c.args.decls.now c.each.decl-index c.each.members (drop_all c.each.decl-index c.args.decls.now c.each-test.false)) ∙ c.each.invariant.behind

pub returns-clause-nodes : goal.returns-clause-nodes
returns-clause-nodes c =
    sym (noted_end c.args.scope.now c.args.decls.now c.each.decl-index c.each.members c.each.row (drop_all c.each.decl-index c.args.decls.now c.each-test.false))
    ∙ c.each.invariant.nodes
