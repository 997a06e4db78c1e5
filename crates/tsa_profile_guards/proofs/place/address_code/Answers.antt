use Rattle.std.proofs.Common.{◌∙◌, not, ap}
use Rattle.tsa_profile_accesses.specs.Locks.{is_empty}
use Rattle.tsa_profile_accesses.specs.NodeAnswers.{view_of}
use Rattle.tsa_profile_guards.proofs.Places.{guards_seen}
use Rattle.tsa_profile_guards.proofs.place.address_code.Goals as goal

pub returns : goal.returns
returns c =
    guards_seen (view_of c.args.body) _ _ c.in_ok-seen.seen _ _ c.in_ok-seen.ensures.seen
    (c.are_some.ensures ∙ ap (λ g. not (is_empty g)) (c.deref.ensures.value ∙ ap (λ s. s.guards) c.seen.view_is)) c.code_if.ensures
