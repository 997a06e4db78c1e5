use Rattle.std.proofs.Common.{length}
use Rattle.tsa_tree.specs.declarations.Shapes.{decl_shape}
use Rattle.tsa_place_model.proofs.Below.{part_within}
use Rattle.tsa_place_model.specs.Items.{known_global}
use Rattle.tsa_place.proofs.unit.place_global.Goals as goal

pub add-requires : goal.add-requires
add-requires c =
    part_within c.args.scope.now (known_global c.args.scope.now (decl_shape c.args.decl.now)) (decl_shape c.args.decl.now) (length c.args.globals.now.structs) c.in_ok-part.part c.requires
    c.in_ok-part.ensures.part
