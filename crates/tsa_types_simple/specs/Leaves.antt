-- Simple statements alone: what is asked of one, and its nodes. Another statement is nothing here.
use Rattle.std.specs.Prelude.{ℕ, List, []}
use Rattle.tsa_tree.specs.statements.Syntax.{Statement, simple}
use Rattle.tsa_tree.specs.types.Premises.{Premise}
use Rattle.tsa_tree.specs.types.Scopes.{Scope}
use Rattle.tsa_tree.specs.types.Statements.{simple_premises}
use Rattle.tsa_types_row.specs.BodyRows.{row_in_simple}
use Rattle.tsa_types_row.specs.declared.node.Node.{Node}

abbrev pub alone_premises : Scope → Statement → List Premise
alone_premises here (simple s) = simple_premises here s
alone_premises here s = []

abbrev pub alone_nodes : Scope → ℕ → Statement → List Node
alone_nodes here function (simple s) = row_in_simple here function s
alone_nodes here function s = []
