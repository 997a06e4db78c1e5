-- Walks one edge longer.
use Rattle.std.proofs.Common.{◌≡◌, ℕ, zero, suc, ◌≤◌, List, [], ◌∷◌, Contains, refl, ap, subst, arith, add-one}
use Rattle.tsa_core.specs.Control.{Outcome}
use Rattle.tsa_core.specs.Control as control
use Rattle.tsa_graph.specs.declared.sequence.Block.{Block}
use Rattle.tsa_graph.specs.Rows.{IsRun, last_in, outcome_in, point_in}
use Rattle.tsa_rules.specs.Cases.{effect_in}
use Rattle.tsa_rules.specs.declared.case.Case.{Case}
use Rattle.tsa_rules.specs.declared.statuses.Statuses.{Statuses}
use Rattle.tsa_rules.specs.Sets.{Has}
use Rattle.tsa_rules.specs.declared.status.Status.{Status}
use Rattle.tsa_rules.specs.Walks.{along, Course, Edge, edge_from, entry_edge, IsWalk, LeadsTo, ReachAt}
use Rattle.tsa_rules.proofs.EdgeInduction.{carried}
use Rattle.tsa_flow_solver.specs.Courses.{Carried, course_by}

module _ (es : List control.Edge) (entry : Status) (cases : ℕ → Case) where
  abbrev pub walks : Course
  walks = course_by es entry cases

  pub one_edge_more : (p q : ℕ) (o : Outcome) (s : Status) → Contains es (control.edge p o q) → ReachAt walks p s → ReachAt walks q (effect_in (cases p) o s)
  one_edge_more p q o s goes (e, r) = (edge_from p o, record { leads = goes; before = e ∷ r.before; is_walk = (r.leads, r.is_walk); brings = ap (λ t. effect_in (cases p) o t) r.brings })

  pub at_start : ReachAt walks 0 entry
  at_start = (entry_edge, record { leads = refl; before = []; is_walk = tt; brings = refl })

  pub walks_carried : (At : ℕ → Status → Type 0) → At 0 entry → ((p q : ℕ) (o : Outcome) (s : Status) → Contains es (control.edge p o q) → At p s → At q (effect_in (cases p) o s))
      → (q : ℕ) (s : Status) → ReachAt walks q s → At q s
  walks_carried At start step q s (e, r) = subst (At q) r.brings (carried walks At start step e r.before q r.is_walk r.leads)

  -- what walks bring to a block's first point goes along the block
  pub carried_sound : (n : ℕ) (b : Block) (set : Statuses) → IsRun n es b → ((s : Status) → Has set s → ReachAt walks (point_in b 0) s)
      → (i : ℕ) → i ≤ last_in b → (s : Status) → Carried cases b set i s → ReachAt walks (point_in b i) s
  carried_sound n b set run base zero l s x = base s x
  carried_sound n b set run base (suc i) l s (t, (x, e)) =
      subst (ReachAt walks (point_in b (suc i))) e
      (one_edge_more (point_in b i) (point_in b (suc i)) (outcome_in b i) t
      (subst (λ j. Contains es (control.edge (point_in b i) (outcome_in b i) (point_in b j))) (add-one i) (run.inner i (omega arith)))
      (carried_sound n b set run base i (omega arith) t x))

  -- the last edge of a walk to a point
  pub data LastEdge (q : ℕ) (s : Status) : Type 0 where
    at_entry : q ≡ 0 → entry ≡ s → LastEdge q s
    by_edge : (p : ℕ) (o : Outcome) (t : Status) → Contains es (control.edge p o q) → ReachAt walks p t → effect_in (cases p) o t ≡ s → LastEdge q s

  last_edge_by : (e : Edge) (before : List Edge) (q : ℕ) (s : Status) → LeadsTo walks e q → IsWalk walks e before → along walks e before ≡ s → LastEdge q s
  last_edge_by entry_edge before q s l w a = at_entry l a
  last_edge_by (edge_from p o) [] q s l w a = absurd w
  last_edge_by (edge_from p o) (d ∷ before) q s l w a = by_edge p o (along walks d before) l (d, record { leads = w.0; before = before; is_walk = w.1; brings = refl }) a

  pub last_edge : (q : ℕ) (s : Status) → ReachAt walks q s → LastEdge q s
  last_edge q s (e, r) = last_edge_by e r.before q s r.leads r.is_walk r.brings
