use Rattle.std.proofs.Common.{◌≡◌, is_some, None, sym, subst}
use Rattle.tsa_tree.specs.declarations.Shapes.{head_shape}
use Rattle.tsa_tree.specs.types.Heads.{params_premises}
use Rattle.tsa_tree.specs.types.Premises.{first}
use Rattle.tsa_core_environment.proofs.KnownHeads.{params_told}
use Rattle.tsa_core_environment.proofs.heads.enter.Goals as goal

pub know_params-requires : goal.know_params-requires
know_params-requires c =
    let head = head_shape c.args.head.now in
    record {
      typed =
          subst (λ s. first (params_premises s 0 head.params) ≡ None) (sym c.in_ok-know_head.ensures)
          (params_told c.args.scope.now head (is_some c.args.head.now.body) c.requires.typed);
    }
