-- What a walk through a body from its end on has come by, in order of the text: the edges, the cases of the switch that it is in, and the
-- labels.
use Rattle.std.specs.Prelude.{ℕ, List, [], ◌++◌}
use Rattle.tsa_tree.specs.statements.Syntax.{Statement, Statements}
use Rattle.tsa_tree.specs.types.Scopes.{Scope}
use Rattle.tsa_tree.specs.types.Targets.{Labels}
use Rattle.tsa_core.specs.Control.{Edge, count_all, labels, labels_all, Cases, cases, cases_all, Targets, edges, edges_all}

pub record Ahead : Type 0 where
  pub edges : List Edge
  pub cases : Cases
  pub labels : Labels

abbrev pub ahead : List Edge → Cases → Labels → Ahead
ahead es cs ls = record { edges = es; cases = cs; labels = ls }

-- each is put in front
abbrev pub with_edges : List Edge → Ahead → Ahead
with_edges es a = ahead (es ++ a.edges) a.cases a.labels

abbrev pub with_cases : Cases → Ahead → Ahead
with_cases cs a = ahead a.edges (cs ++ a.cases) a.labels

abbrev pub with_labels : Labels → Ahead → Ahead
with_labels ls a = ahead a.edges a.cases (ls ++ a.labels)

-- others in their place
abbrev pub set_edges : List Edge → Ahead → Ahead
set_edges es a = ahead es a.cases a.labels

abbrev pub set_cases : Cases → Ahead → Ahead
set_cases cs a = ahead a.edges cs a.labels

-- a statement, and statements one behind the other
abbrev pub with_statement : Scope → Statement → (at follow : ℕ) → Targets → Ahead → Ahead
with_statement here s at follow t a = ahead (edges here s at follow t ++ a.edges) (cases here s at follow ++ a.cases) (labels s at follow ++ a.labels)

abbrev pub with_statements : Scope → Statements → (at follow : ℕ) → Targets → Ahead → Ahead
with_statements here ss at follow t a =
    ahead (edges_all here ss at follow t ++ a.edges) (cases_all here ss at follow ++ a.cases) (labels_all ss at follow ++ a.labels)

-- a whole body, where these labels are known
abbrev pub whole_body : Scope → Labels → Statements → Ahead
whole_body here known body =
    with_statements here body 0 (count_all body) (record { break_to = count_all body; continue_to = count_all body; labels = known }) (ahead [] [] [])
