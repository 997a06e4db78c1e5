use Rattle.std.proofs.Common.{◌∙◌}
use Rattle.std.proofs.lemmas.Result.{on_ok_weaker}
use Rattle.tsa_tree.specs.declarations.Shapes.{decl_shape}
use Rattle.tsa_core_environment.proofs.KnownItems.{global_same}
use Rattle.tsa_core_environment.proofs.items.begin_global.Goals as goal

pub returns : goal.returns
returns c = on_ok_weaker c.declare_global.result (λ h. h ∙ global_same c.args.scope.now (decl_shape c.args.decl.now) c.requires.typed) c.declare_global.ensures
