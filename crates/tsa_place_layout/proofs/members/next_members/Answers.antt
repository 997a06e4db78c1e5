use Rattle.std.proofs.Common.{◌∙◌, sym}
use Rattle.std.proofs.Math.Seq.{drop-cons}
use Rattle.std.proofs.lemmas.List.{drop_all}
use Rattle.tsa_place_layout.proofs.MemberLists.{parts_end, known_end, parts_next, known_next}
use Rattle.tsa_place_layout.proofs.members.next_members.Goals as goal

pub each-preserved : goal.each-preserved
each-preserved c =
    let at_i = drop-cons c.args.decls.now c.each.decl-index _ c.each-test.true in
    let one = c.in_ok-next_member.ensures in
    record {
      parts =
          parts_next c.args.scope.now c.each.before c.args.decls.now c.each.decl-index _ at_i c.each.scope c.each.invariant.same c.next_member.new.before one.known c.each.parts.items
          c.push.new.self.items _ c.in_ok-push.ensures.items one.part
          ∙ c.each.invariant.parts;
      known =
          known_next c.args.scope.now c.each.before c.args.decls.now c.each.decl-index _ at_i c.each.scope c.each.invariant.same c.next_member.new.before one.known
          ∙ c.each.invariant.known;
      same = one.same ∙ c.each.invariant.same;
    }

pub returns-clause-parts : goal.returns-clause-parts
returns-clause-parts c =
    sym (parts_end c.args.scope.now c.each.before c.args.decls.now c.each.decl-index c.each.parts.items (drop_all c.each.decl-index c.args.decls.now c.each-test.false))
    ∙ c.each.invariant.parts

pub returns-clause-known : goal.returns-clause-known
returns-clause-known c =
    sym (known_end c.args.scope.now c.each.before c.args.decls.now c.each.decl-index (drop_all c.each.decl-index c.args.decls.now c.each-test.false)) ∙ c.each.invariant.known
