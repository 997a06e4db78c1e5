-- What holds at the entry and goes along each edge holds wherever a walk leads.
use Rattle.std.proofs.Common.{◌≡◌, ℕ, true, List, [], ◌∷◌, Contains, sym, ◌∙◌, subst, ap, true≢false}
use Rattle.tsa_place_model.specs.Ways.{Way}
use Rattle.tsa_core.specs.Control.{Outcome, edge}
use Rattle.tsa_core.specs.Programs.{Function, Program}
use Rattle.tsa_rules.specs.Statuses.{Status}
use Rattle.tsa_rules.specs.Effects.{effect}
use Rattle.tsa_rules.specs.Fails.{fails}
use Rattle.tsa_rules.specs.Walks.{Course, course_of, Edge, entry_edge, edge_from, LeadsTo, IsWalk, along, Reach, on_a_walk}
use Rattle.tsa_rules.specs.Walks.{where_edges_meet}
use Rattle.tsa_rules.specs.KeptRows.{Rows, AreKept, KeptRowsBreakNoRule}

pub carried : (k : Course) (At : ℕ → Status → Type 0) → At 0 k.entry
    → ((p q : ℕ) (o : Outcome) (s : Status) → Contains k.edges (edge p o q) → At p s → At q (k.effect p o s))
    → (e : Edge) (before : List Edge) (q : ℕ) → IsWalk k e before → LeadsTo k e q → At q (along k e before)
carried k At start step entry_edge [] q w leads = subst (λ p. At p k.entry) (sym leads) start
carried k At start step entry_edge (d ∷ before) q w leads = absurd w
carried k At start step (edge_from p o) [] q w leads = absurd w
carried k At start step (edge_from p o) (d ∷ before) q w leads = step p q o (along k d before) leads (carried k At start step d before p w.1 w.0)

-- Rows that are kept have each status that a walk brings.
abbrev HasRow : Rows → Way → ℕ → Status → Type 0
HasRow rows c p s = (rows.has_point p ≡ true) × (s ≡ rows.status p c)

has_row : (u : Program) (f : Function) (paths : List Way) (rows : Rows) → AreKept u f paths rows → (c : Way) → Contains paths c
    → (e : Edge) (before : List Edge) (q : ℕ) → IsWalk (course_of u f c) e before → LeadsTo (course_of u f c) e q
    → HasRow rows c q (along (course_of u f c) e before)
has_row u f paths rows kept c among =
    carried (course_of u f c) (HasRow rows c) (kept.start, sym (kept.entry_is c among))
    (λ p q o s leads at. (kept.goes_on p q o at.0 leads, ap (λ t. effect u f p c o t) at.1 ∙ sym (kept.goes_along p q o c at.0 leads among)))

reached_row : (u : Program) (f : Function) (paths : List Way) (rows : Rows) → AreKept u f paths rows → (c : Way) → Contains paths c
    → (e : Edge) (p : ℕ) (s : Status) → Reach (course_of u f c) e p s → HasRow rows c p s
reached_row u f paths rows kept c among e p s r =
    subst (HasRow rows c p) r.brings (has_row u f paths rows kept c among e r.before p r.is_walk r.leads)

pub kept_rows_break_no_rule : KeptRowsBreakNoRule
kept_rows_break_no_rule u f paths rows kept rule p c among (on_a_walk r e s reach broken) =
    let row = reached_row u f paths rows kept c among e p s reach in
    absurd (true≢false (sym broken ∙ (ap (λ t. fails rule u f p c t) row.1 ∙ kept.breaks_none rule p c row.0 among)))
kept_rows_break_no_rule u f paths rows kept rule p c among (where_edges_meet d e s reach other never) =
    let row = reached_row u f paths rows kept c among d p s reach in
    let row' = has_row u f paths rows kept c among e other.before p other.is_walk other.leads in
    never (record { leads = other.leads; before = other.before; is_walk = other.is_walk; brings = row'.1 ∙ sym row.1 })
