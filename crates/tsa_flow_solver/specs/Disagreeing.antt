-- Edges that disagree.
use Rattle.std.specs.Prelude.{ℕ}
use Rattle.tsa_rules.specs.declared.status.Status.{Status}
use Rattle.tsa_rules.specs.Walks.{Course, Edge, IsReached, Reach}

-- one edge that is reached into a point brings a status there that another one doesn't bring
pub record Disagree (k : Course) (point : ℕ) : Type 0 where
  pub one : Edge
  pub other : Edge
  pub status : Status
  pub brings : Reach k one point status
  pub reached : IsReached k other point
  pub lacks : Reach k other point status → ⊥
