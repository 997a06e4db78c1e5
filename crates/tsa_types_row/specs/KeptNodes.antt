-- What nodes stand for as a row keeps them.
use Rattle.std.specs.Box.{box_value}
use Rattle.tsa_types_row.specs.ShortNodes.{node_in}
use Rattle.tsa_types_row.specs.declared.node.Node.{Node}
use Rattle.tsa_types_row.specs.declared.kept.Written.{Written}
use Rattle.tsa_types_row.specs.declared.kept.Written.TheVariants as written

abbrev pub whole : Written → Node
whole (written.Short s) = node_in s
whole (written.Long n) = box_value n
