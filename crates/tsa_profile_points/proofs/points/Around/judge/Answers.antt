use Rattle.std.proofs.Common.{◌∙◌, None, ap, map, refl}
use Rattle.tsa_core_points.specs.Walks.{points_along}
use Rattle.tsa_core_points.specs.Steps.{step_shape}
use Rattle.tsa_profile_points.specs.Gathering.{with_all}
use Rattle.tsa_profile_points.specs.PointAnswers.{around_of}
use Rattle.tsa_profile_points.specs.Ways.{named_ways}
use Rattle.tsa_profile_points.proofs.Functions.{failure_is, paths_are, tries_are}
use Rattle.tsa_profile_points.proofs.points.Around.judge.Goals as goal

pub returns-clause-failure : goal.returns-clause-failure
returns-clause-failure c =
    failure_is (around_of c.args.self) c.args.own.now (points_along c.args.walk.now (map step_shape c.args.steps.now))
    (record { failure = None; tries = 0; gathered = c.put_named.new.self }) c.note_steps.new.found refl c.in_ok-note_steps.ensures.found

pub returns-clause-tries : goal.returns-clause-tries
returns-clause-tries c =
    tries_are (around_of c.args.self) c.args.own.now (points_along c.args.walk.now (map step_shape c.args.steps.now))
    (record { failure = None; tries = 0; gathered = c.put_named.new.self }) c.note_steps.new.found refl c.in_ok-note_steps.ensures.found

pub returns-clause-paths : goal.returns-clause-paths
returns-clause-paths c =
    c.into_table.ensures
    ∙ paths_are (around_of c.args.self) c.args.own.now (points_along c.args.walk.now (map step_shape c.args.steps.now))
    (record { failure = None; tries = 0; gathered = c.put_named.new.self }) c.note_steps.new.found
    (c.in_ok-put_named.ensures ∙ ap (λ s. with_all s (named_ways c.args.own.now)) c.new-gathered.ensures) c.in_ok-note_steps.ensures.found
