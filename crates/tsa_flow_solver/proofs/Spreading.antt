-- The exits of a block are worked out one by one, in all lanes.
use Rattle.std.proofs.Common.{◌≡◌, ◌∙◌, ◌⊎◌, inl, inr, ℕ, ◌+◌, ◌<◌, Bool, true, false, List, [], ◌∷◌, ◌++◌, length, get_or, take, if◌then◌else◌, refl, sym, ap}
use Rattle.std.proofs.Common.{subst}
use Rattle.tsa_graph.specs.declared.sequence.Block.{Block}
use Rattle.tsa_graph.specs.declared.sequence.Exit.{Exit}
use Rattle.tsa_rules.specs.declared.case.Case.{Case}
use Rattle.tsa_rules.specs.declared.statuses.Statuses.{Statuses}
use Rattle.tsa_rules.specs.Sets.{IsEmpty}
use Rattle.tsa_flow_solver.specs.Courses.{leaving}
use Rattle.tsa_flow_solver.specs.Evenness.{HasFollowed, IsSpreadEvenly}
use Rattle.tsa_flow_solver.specs.Fronts.{AreSpread, HasTakenIn}
use Rattle.tsa_flow_solver.specs.Passing.{ArePoints, IsLeft}
use Rattle.tsa_flow_solver.specs.Rows.{AreWide, IsTakenIn, lane_of, row_at, set_at, union}
use Rattle.tsa_flow_solver.proofs.Evenly.{exit_evenly}
use Rattle.tsa_flow_solver.proofs.Grids.{lane_at, lane_long, lane_same, lane_taken, row_long}
use Rattle.tsa_flow_solver.proofs.JoinsOfSets.{as_before, exit_out, has_grown, none_out, Waits}
use Rattle.tsa_flow_solver.proofs.Paid.{none_paid, one_paid}

pub none_spread : (n points : ℕ) (cases : ℕ → ℕ → Case) (b : Block) (last : List Statuses) (rows : List (List Statuses)) (work : List ℕ) → AreWide n rows
    → AreSpread n points cases b [] last rows rows work work
none_spread n points cases b last rows work wide = record {
  paid = none_paid n rows work wide;
  lanes = λ l are less. none_out (leaving (cases l) b) (set_at last l) (lane_of rows l) work;
}

-- a lane waits where its row has grown
waits_by : (grid : List (List Statuses)) (l c : ℕ) (row taken : List Statuses) (grown : Bool) → IsTakenIn (row_at grid c) row taken grown → l < length (row_at grid c) → (mid : List ℕ)
    → Waits (set_at (lane_of grid l) c) (union (set_at (lane_of grid l) c) (set_at row l)) c mid (if grown then mid ++ c ∷ [] else mid)
waits_by grid l c row taken true is inside mid = has_grown refl
waits_by grid l c row taken false is inside mid = as_before (lane_same grid l c row taken is inside) refl

module _ (n points : ℕ) (cases : ℕ → ℕ → Case) (b : Block) (exits : List Exit) (i : ℕ) (d : Exit) (there : i < length exits) (last : List Statuses)
    (old rows new : List (List Statuses)) (work mid mid' : List ℕ) (before : AreSpread n points cases b (take i exits) last old rows work mid) where
  abbrev x : Exit
  x = get_or exits i d

  module _ (inside : x.to < length rows) (row : List Statuses) (left : (l : ℕ) → ArePoints points b → l < n → IsLeft (cases l) b x.outcome (set_at last l) (set_at row l))
      (taken : HasTakenIn x.to row rows new mid mid') where
    wide : (l : ℕ) → l < n → l < length (row_at rows x.to)
    wide l less = subst (λ m. l < m) (sym (row_long n rows x.to before.paid.wide inside)) less

    pub exit_spread : AreSpread n points cases b (take (i + 1) exits) last old new work mid'
    exit_spread = record {
      paid = one_paid n x.to row taken.taken old rows new work mid before.paid inside taken.rows taken.grown taken.is mid' taken.waits;
      lanes = λ l are less.
          exit_out (leaving (cases l) b) (set_at last l) exits i d there (lane_of old l) (lane_of rows l) work mid (before.lanes l are less) (set_at row l)
          (subst (λ m. x.to < m) (sym (lane_long rows l)) inside) (left l are less) (lane_of new l) mid'
          (ap (λ g. lane_of g l) taken.rows ∙ lane_taken rows l x.to row taken.taken taken.grown taken.is (wide l less))
          (subst (Waits (set_at (lane_of rows l) x.to) (union (set_at (lane_of rows l) x.to) (set_at row l)) x.to mid) (sym taken.waits) (waits_by rows l x.to row taken.taken taken.grown taken.is (wide l less) mid));
    }

  -- and evenly
  module _ (was is is' : Bool) (evenly : (l : ℕ) → ArePoints points b → l < n → IsSpreadEvenly (leaving (cases l) b) (set_at last l) (take i exits) (lane_of old l) (lane_of rows l) was is)
      (inside : x.to < length rows) (followed : HasFollowed n points cases b x.outcome x.to last rows new mid mid' is is') where
    wide' : (l : ℕ) → l < n → l < length (row_at rows x.to)
    wide' l less = subst (λ m. l < m) (sym (row_long n rows x.to before.paid.wide inside)) less

    in_lane : (l : ℕ) → is' ≡ true → (is ≡ true) × ((set_at (lane_of rows l) x.to ≡ set_at followed.row l) ⊎ IsEmpty (set_at (lane_of rows l) x.to))
    in_lane l e = let h = followed.even e in (
      h.0,
      elim h.1 [
        | inl same ↦ inl (lane_at rows l x.to ∙ ap (λ r. set_at r l) same)
        | inr none ↦ inr (subst IsEmpty (sym (lane_at rows l x.to)) (none l))
      ],
    )

    pub exit_evenly_spread : (l : ℕ) → ArePoints points b → l < n → IsSpreadEvenly (leaving (cases l) b) (set_at last l) (take (i + 1) exits) (lane_of old l) (lane_of new l) was is'
    exit_evenly_spread l are less =
        exit_evenly (leaving (cases l) b) (set_at last l) exits i d there (lane_of old l) (lane_of rows l) work mid was is (evenly l are less) (before.lanes l are less) (set_at followed.row l)
        (subst (λ m. x.to < m) (sym (lane_long rows l)) inside) (followed.left l are less) is' (in_lane l) (lane_of new l)
        (ap (λ g. lane_of g l) followed.taken.rows ∙ lane_taken rows l x.to followed.row followed.taken.taken followed.taken.grown followed.taken.is (wide' l less))
