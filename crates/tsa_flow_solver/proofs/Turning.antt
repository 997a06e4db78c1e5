-- A block is worked out: what then waits, and what is known of the sets.
use Rattle.std.proofs.Common.{◌≡◌, ℕ, inl, inr, List, [], ◌∷◌, ◌++◌, All, Contains, Some, slice_get, sym, subst, arith}
use Rattle.std.proofs.Math.Decide.{ℕ_discrete}
use Rattle.std.proofs.lemmas.List.Elements.{All-contains, All-weaker, Contains-push_cases}
use Rattle.tsa_core.specs.Control.{Edge}
use Rattle.tsa_graph_edges.specs.Links.{outcome_of}
use Rattle.tsa_graph.specs.declared.sequence.Block.{Block}
use Rattle.tsa_graph.specs.declared.sequence.Exit.{Exit}
use Rattle.tsa_graph.specs.Rows.{IsRun, last_in, LeadsOn, point_in}
use Rattle.tsa_rules.specs.declared.case.Case.{Case}
use Rattle.tsa_rules.specs.declared.statuses.Statuses.{Statuses}
use Rattle.tsa_rules.specs.Sets.{Has}
use Rattle.tsa_rules.specs.declared.status.Status.{Status}
use Rattle.tsa_rules.specs.Walks.{ReachAt}
use Rattle.tsa_flow_solver.specs.Courses.{Carried, leaving}
use Rattle.tsa_flow_solver.specs.Fronts.{IsBrought}
use Rattle.tsa_flow_solver.specs.Rows.{set_at}
use Rattle.tsa_flow_solver.specs.Turns.{AreOpen, AreSound, IsClosedBy, IsTurn}
use Rattle.tsa_flow_solver.proofs.Slots.{all_there, one_there}
use Rattle.tsa_flow_solver.proofs.LongerWalks.{carried_sound, one_edge_more, walks}

module _ (cases : ℕ → Case) (blocks : List Block) (number : ℕ) (old new : List Statuses) (work work' : List ℕ) (turn : IsTurn cases blocks number old new work work') (keeps : (c : ℕ) → Contains work c → Contains work' c) where
  abbrev b : Block
  b = turn.block

  -- the block itself, where its own set stays
  closed_here : set_at new number ≡ set_at old number → IsClosedBy cases b (set_at new number) new
  closed_here same = All-weaker (λ x. (s : Status) → Has turn.last s → Has (set_at new x.to) (leaving cases b (outcome_of x.outcome) s))
      (λ x. (s : Status) → Carried cases b (set_at new number) (last_in b) s → Has (set_at new x.to) (leaving cases b (outcome_of x.outcome) s))
      (λ x h s y. h s ((turn.gets s).1 (subst (λ r. Carried cases b r (last_in b) s) same y))) b.exits.items turn.out.takes

  -- another block, where its set stays
  closed_still : (c : ℕ) (d : Block) → set_at new c ≡ set_at old c → IsClosedBy cases d (set_at old c) old → IsClosedBy cases d (set_at new c) new
  closed_still c d same h = All-weaker (λ x. (s : Status) → Carried cases d (set_at old c) (last_in d) s → Has (set_at old x.to) (leaving cases d (outcome_of x.outcome) s)) (λ x. (s : Status) → Carried cases d (set_at new c) (last_in d) s → Has (set_at new x.to) (leaving cases d (outcome_of x.outcome) s)) (λ x f s y. turn.out.more x.to (leaving cases d (outcome_of x.outcome) s) (f s (subst (λ r. Carried cases d r (last_in d) s) same y))) d.exits.items h

  pub open_on : AreOpen cases blocks old (work ++ number ∷ []) → AreOpen cases blocks new work'
  open_on before c d at = elim (turn.out.grows c) [
    | inr x ↦ inl x
    | inl same ↦ elim (ℕ_discrete c number) [
      | yes e ↦ inr (own e same)
      | no e ↦ elim (before c d at) [
        | inl m ↦ inl (keeps c (elim (Contains-push_cases work number c m) [ inl x ↦ x | inr x ↦ absurd (e (sym x)) ]))
        | inr h ↦ inr (closed_still c d same h)
      ]
    ]
  ]
    where
      own : c ≡ number → set_at new c ≡ set_at old c → IsClosedBy cases d (set_at new c) new
      own e same =
          subst (λ i. IsClosedBy cases d (set_at new i) new) (sym e)
          (subst (λ y. IsClosedBy cases y (set_at new number) new) (one_there blocks number b d turn.is_there (subst (λ i. slice_get blocks i ≡ Some d) e at))
          (closed_here (subst (λ i. set_at new i ≡ set_at old i) e same)))

  pub sound_on : (n : ℕ) (es : List Edge) (entry : Status) → All (IsRun n es) blocks → All (λ y. All (LeadsOn es blocks y) y.exits.items) blocks
      → AreSound (walks es entry cases) blocks old → AreSound (walks es entry cases) blocks new
  sound_on n es entry runs exits before c d at s h = elim (turn.out.only c s h) [ inl x ↦ before c d at s x | inr x ↦ brought x ]
    where
      last : (t : Status) → Has turn.last t → ReachAt (walks es entry cases) (point_in b (last_in b)) t
      last t y =
          carried_sound es entry cases n b (set_at old number) (all_there (IsRun n es) blocks number b runs turn.is_there) (before number b turn.is_there) (last_in b) (omega arith) t
          ((turn.gets t).0 y)

      leads : (x : Exit) → Contains b.exits.items x → LeadsOn es blocks b x
      leads x m = All-contains (LeadsOn es blocks b) b.exits.items x (all_there (λ y. All (LeadsOn es blocks y) y.exits.items) blocks number b exits turn.is_there) m

      brought : IsBrought (leaving cases b) turn.last b.exits.items c s → ReachAt (walks es entry cases) (point_in d 0) s
      brought x =
          let on = leads x.by x.among in
          let same : on.to ≡ d = one_there blocks c on.to d (subst (λ i. slice_get blocks i ≡ Some on.to) x.leads on.is_there) at in
          subst (λ y. ReachAt (walks es entry cases) (point_in y 0) s) same
          (subst (ReachAt (walks es entry cases) (point_in on.to 0)) x.makes
          (one_edge_more es entry cases (point_in b (last_in b)) (point_in on.to 0) (outcome_of x.by.outcome) x.before on.leads (last x.before x.gets)))
