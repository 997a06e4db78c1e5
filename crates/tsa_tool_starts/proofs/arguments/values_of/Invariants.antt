use Rattle.std.proofs.Common.{◌≡◌, List, drop}
use Rattle.tsa_core.specs.Programs.{Attr}
use Rattle.tsa_profile.specs.Arguments.{view_with}
use Rattle.tsa_tree.specs.expressions.Shapes.{shapes}
use Rattle.tsa_tool_starts.proofs.ArgumentLists.{onto}
use Rattle.tsa_tool_starts.specs.Starts.{arguments_of}
use Rattle.tsa_tool_starts.proofs.arguments.values_of.Given as goal

-- the values so far, and those of the arguments that are left
abbrev pub invariant-each : goal.invariant-each
invariant-each l = (attributes : List (List Attr))
    → onto (view_with attributes l.ending.layout.now l.ending.scope.now) l.values.items (arguments_of (view_with attributes l.ending.layout.now l.ending.scope.now) (drop l.number l.params) (shapes (drop l.number l.args)))
    ≡ arguments_of (view_with attributes l.ending.layout.now l.ending.scope.now) l.params (shapes l.args)
