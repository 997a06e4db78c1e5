-- Rows of a function: at each point to which edges lead, the status that one walk brings. The walks are found edge by edge.
use Rattle.std.specs.Prelude.{ℕ, zero, suc, nat_eq, List, [], ◌∷◌, length, Option, Some, None, is_some, if◌then◌else◌}
use Rattle.tsa_place_model.specs.Ways.{Way}
use Rattle.tsa_core.specs.Control as control
use Rattle.tsa_core.specs.Programs.{Function, Program}
use Rattle.tsa_rules.specs.KeptRows.{Rows}
use Rattle.tsa_rules.specs.Points.{edges_of}
use Rattle.tsa_rules.specs.declared.status.Status.{Status}
use Rattle.tsa_rules.specs.declared.status.Status.TheVariants.{Free}
use Rattle.tsa_rules.specs.Walks.{Edge, along, course_of, edge_from, entry_edge}

-- a walk: its last edge, and those before, the last one first
pub record Walk : Type 0 where
  pub last : Edge
  pub before : List Edge

-- of each point that is known to be reached, a walk there
abbrev pub Visits : Type 0
Visits = ℕ → Option Walk

abbrev pub with_visit : ℕ → Walk → Visits → Visits
with_visit p w known q = if nat_eq p q then Some w else known q

-- at first only the first point is known to be
abbrev pub first_visit : Visits
first_visit = with_visit 0 (record { last = entry_edge; before = [] }) (λ q. None)

pub record Visit : Type 0 where
  pub point : ℕ
  pub walk : Walk

-- an edge leads on where a walk to its start is known and none to its end
abbrev pub visit_by : control.Edge → Option Walk → Option Walk → Option Visit
visit_by e (Some w) None = Some (record { point = e.to; walk = record { last = edge_from e.from e.outcome; before = w.last ∷ w.before } })
visit_by e start end = None

abbrev pub or_visit : Option Visit → Option Visit → Option Visit
or_visit (Some v) other = Some v
or_visit None other = other

-- the first of some edges that leads on
abbrev pub next_visit : Visits → List control.Edge → Option Visit
next_visit known [] = None
next_visit known (e ∷ rest) = or_visit (visit_by e (known e.from) (known e.to)) (next_visit known rest)

-- Edges are gone along as long as one leads on, which may be no more often than there are edges.
abbrev pub visits_with : (Visits → Visits) → Visits → Option Visit → Visits
visits_with on known None = known
visits_with on known (Some v) = on (with_visit v.point v.walk known)

abbrev pub visits_from : ℕ → List control.Edge → Visits → Visits
visits_from zero edges known = known
visits_from (suc n) edges known = visits_with (visits_from n edges) known (next_visit known edges)

unfoldable pub visits_of : Function → Visits
visits_of f = visits_from (length (edges_of f)) (edges_of f) first_visit

-- the status that a walk brings
abbrev pub status_along : Program → Function → Way → Option Walk → Status
status_along u f c None = Free
status_along u f c (Some w) = along (course_of u f c) w.last w.before

abbrev pub rows_of : Program → Function → Rows
rows_of u f = record { has_point = λ p. is_some (visits_of f p); status = λ p c. status_along u f c (visits_of f p) }
