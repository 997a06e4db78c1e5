use Rattle.std.proofs.Common.{◌≡◌, ◌∙◌, None, is_some, option_map, sym, ap, subst}
use Rattle.std.proofs.lemmas.Result.{on_ok_weaker}
use Rattle.tsa_tree.specs.declarations.Shapes.{head_shape}
use Rattle.tsa_tree.specs.types.Heads.{head_premises}
use Rattle.tsa_tree.specs.types.Premises.{first}
use Rattle.tsa_tree.specs.units.Shapes.{end_of, shape_with}
use Rattle.tsa_core_environment.proofs.BodyLists.{head_told}
use Rattle.tsa_profile_context.specs.Judging.{behind, unit_at}
use Rattle.tsa_profile_items.proofs.functions.function.Goals as goal

pub bodied-requires-clause-typed : goal.bodied-requires-clause-typed
bodied-requires-clause-typed c =
    subst (λ b. first (head_premises c.args.known.now.here (head_shape c.args.head.now) (is_some b)) ≡ None) c.in-Some.is
    (head_told c.args.known.now.here c.args.head.now c.requires.typed)

pub returns-in-Some-clause-behind : goal.returns-in-Some-clause-behind
returns-in-Some-clause-behind c =
    let head = c.args.head.now in
    on_ok_weaker c.bodied.result
    (λ h. h ∙ sym (ap (λ b. behind (unit_at c.args.ground.now) c.args.known.now (shape_with head (option_map (λ x. x.now) b))) c.in-Some.is))
    (c.bodied.ensures.behind (end_of head.points.now))
