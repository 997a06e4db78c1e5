use Rattle.std.proofs.Common.{◌≡◌, ◌≤◌, length, ◌-◌}
use Rattle.tsa_tree.specs.declarations.Shapes.{param_shapes}
use Rattle.tsa_tree.specs.Reads.{read}
use Rattle.tsa_tree.specs.Rows.{some_parameters, parameter_list}
use Rattle.tsa_expr.specs.Source.{input, named}
use Rattle.tsa_decl_declarators.specs.Outcomes.{after}
use Rattle.tsa_decl.proofs.heads.parameter_list.Given as goal

abbrev pub invariant-parameters : goal.invariant-parameters
invariant-parameters l =
    (l.at ≤ l.next)
    × (after (param_shapes l.fn.list.items) (read (input l.reader) some_parameters (parameter_list (named l.reader)) l.at)
    ≡ after (param_shapes l.list.items) (read (input l.reader) some_parameters (parameter_list (named l.reader)) l.next))

abbrev pub decreases-parameters : goal.decreases-parameters
decreases-parameters l = length l.reader.tokens.now - l.next
