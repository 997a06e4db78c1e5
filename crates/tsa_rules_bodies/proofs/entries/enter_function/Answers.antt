use Rattle.std.proofs.Common.{◌≡◌, None, is_some, subst}
use Rattle.tsa_tree.specs.declarations.Shapes.{head_shape}
use Rattle.tsa_tree.specs.types.Heads.{head_premises}
use Rattle.tsa_tree.specs.types.Premises.{first}
use Rattle.tsa_core_environment.proofs.BodyLists.{head_told}
use Rattle.tsa_rules_bodies.proofs.PointNumbers.{body_count, body_numbered}
use Rattle.tsa_rules_bodies.proofs.entries.enter_function.Goals as goal

pub enter_body-requires-clause-typed : goal.enter_body-requires-clause-typed
enter_body-requires-clause-typed c =
    subst (λ b. first (head_premises c.args.known.now.here (head_shape c.args.head.now) (is_some b)) ≡ None) c.in-Some.is
    (head_told c.args.known.now.here c.args.head.now c.requires.typed)

pub enter_body-requires-clause-numbered : goal.enter_body-requires-clause-numbered
enter_body-requires-clause-numbered c = body_numbered c.args.head.now c.in-Some.body c.in-Some.is c.requires.points

pub enter_body-requires-clause-points : goal.enter_body-requires-clause-points
enter_body-requires-clause-points c = body_count c.args.head.now c.in-Some.body c.in-Some.is c.requires.points
