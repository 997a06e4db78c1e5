use Rattle.std.proofs.Common.{◌∙◌, sym, ap}
use Rattle.std.proofs.Math.Seq.{drop-cons}
use Rattle.std.proofs.lemmas.List.{drop_all}
use Rattle.std.proofs.lemmas.Result.{err_from_is_err_and}
use Rattle.tsa_tree.specs.types.Scopes.{with_owned}
use Rattle.tsa_profile_context.specs.Judging.{unit_at, with_scope}
use Rattle.tsa_profile_context.proofs.MemberLists.{member_behind_all, member_judged, member_known, member_stops, members_end, known_end}
use Rattle.tsa_profile_context.proofs.Sequences.{judges_err}
use Rattle.tsa_profile_context.proofs.context.Ground.members.Goals as goal

pub returns-in_err-member-clause-judged : goal.returns-in_err-member-clause-judged
returns-in_err-member-clause-judged c =
    let p = err_from_is_err_and c.from_residual.result c.from_residual.ensures.1 in
    rw (p.1, p.2)
    (judges_err _ _ c.in_err-member.field-0.0 c.each.invariant.judged
    (member_stops (unit_at c.args.self.now) c.args.known.now c.requires.outside c.args.decls.now c.each.decl-index c.each.known c.each.invariant.known _
    (drop-cons c.args.decls.now c.each.decl-index _ c.each-test.true) c.in_err-member.field-0.0 c.in_err-member.ensures.judged))

pub each-preserved : goal.each-preserved
each-preserved c =
    let u = unit_at c.args.self.now in
    let k = c.args.known.now in
    let decls = c.args.decls.now in
    let i = c.each.decl-index in
    let at_i = drop-cons decls i _ c.each-test.true in
    let one = c.in_ok-member.ensures in
    record {
      known = member_known u k c.requires.outside decls i c.each.known c.each.invariant.known _ at_i c.member.new.known one.known;
      judged =
          member_judged u k c.requires.outside decls i c.each.known c.each.invariant.known _ at_i c.member.new.known one.known one.judged ∙ c.each.invariant.judged;
      behind =
          member_behind_all u k c.requires.outside decls i c.each.known c.each.invariant.known _ at_i c.member.new.known one.known ∙ c.each.invariant.behind;
    }

pub returns-clause-judged : goal.returns-clause-judged
returns-clause-judged c =
    let k = c.args.known.now in
    sym c.each.invariant.judged
    ∙ members_end (unit_at c.args.self.now) k.attributes k.here c.args.decls.now c.each.decl-index c.each.known.here.owned
    (drop_all c.each.decl-index c.args.decls.now c.each-test.false)

pub returns-clause-known : goal.returns-clause-known
returns-clause-known c =
    let k = c.args.known.now in
    c.each.invariant.known
    ∙ ap (λ m. with_scope (with_owned m k.here) k)
    (sym (known_end (unit_at c.args.self.now) k.attributes k.here c.args.decls.now c.each.decl-index c.each.known.here.owned
    (drop_all c.each.decl-index c.args.decls.now c.each-test.false))
    ∙ c.each.invariant.behind)
