-- The control of the function of a number.
use Rattle.std.specs.Prelude.{◌≡◌, ◌<◌, true, false, All, length, Option, Some, None, is_some}
use Rattle.tsa_core.specs.Programs.{Function}
use Rattle.tsa_graph.specs.declared.blocks.Graph.{Graph}
use Rattle.tsa_graph.specs.Graphs.{IsGraph}
use Rattle.tsa_rules.specs.Points.{edges_of, points_of}

-- the graph of a function with a body: its edges go between its points
pub record IsControlOf (f : Function) (g : Graph) : Type 0 where
  pub has_body : is_some f.body ≡ true
  pub graph : IsGraph (length (points_of f)) (edges_of f) g
  pub between : All (λ e. (e.from < length (points_of f)) × (e.to < length (points_of f))) (edges_of f)

-- another one has none
abbrev pub IsGraphIn : Option Function → Option Graph → Type 0
IsGraphIn None graph = graph ≡ None
IsGraphIn (Some f) None = is_some f.body ≡ false
IsGraphIn (Some f) (Some g) = IsControlOf f g
