-- Runs of a graph by the places of their points.
use Rattle.std.proofs.Common.{◌≡◌, ℕ, zero, suc, ◌+◌, ◌<◌, arith, List, [], ◌∷◌, length, get_or, Contains, Some, slice_get, refl, sym}
use Rattle.std.proofs.Common.{subst}
use Rattle.std.proofs.lemmas.Option.{none-some, same_Some}
use Rattle.tsa_core.specs.Control as control
use Rattle.tsa_core.specs.Control.{edge}
use Rattle.tsa_graph_edges.specs.declared.link.Outcome.{Outcome}
use Rattle.tsa_graph_edges.specs.declared.link.Outcome.TheVariants.{Next}
use Rattle.tsa_graph_edges.specs.Links.{outcome_of}
use Rattle.tsa_graph.specs.declared.blocks.GraphBlock.{GraphBlock}
use Rattle.tsa_graph.specs.Edges.{IsStep}
use Rattle.tsa_graph.specs.Graphs.{IsRun, IsBlock, AreBlocks}
use Rattle.tsa_graph.specs.Runs.{first_of}
use Rattle.tsa_graph.proofs.Members.{here, into_is_one}

pub first_at : (ps : List ℕ) → first_of ps ≡ get_or ps 0 0
first_at [] = refl
first_at (p ∷ ps) = refl

module _ (es : List control.Edge) where
  pub run_long : (ps : List ℕ) (os : List Outcome) → IsRun es ps os → length ps ≡ length os + 1
  run_long [] os h = absurd h
  run_long (p ∷ []) [] h = omega arith
  run_long (p ∷ []) (o ∷ os) h = absurd h
  run_long (p ∷ q ∷ ps) [] h = absurd h
  run_long (p ∷ q ∷ ps) (o ∷ os) h = let r = run_long (q ∷ ps) os h.1 in omega (arith, r)

  -- each point leads to the next one alone
  pub run_step : (ps : List ℕ) (os : List Outcome) → IsRun es ps os → (i : ℕ) → i < length os → IsStep es (get_or ps i 0) (outcome_of (get_or os i Next)) (get_or ps (suc i) 0)
  run_step [] os h i l = absurd h
  run_step (p ∷ []) [] h i l = let no : ⊥ = omega (arith, l) in absurd no
  run_step (p ∷ []) (o ∷ os) h i l = absurd h
  run_step (p ∷ q ∷ ps) [] h i l = absurd h
  run_step (p ∷ q ∷ ps) (o ∷ os) h zero l = h.0
  run_step (p ∷ q ∷ ps) (o ∷ os) h (suc i) l = run_step (q ∷ ps) os h.1 i (omega (arith, l))

  pub run_inner : (ps : List ℕ) (os : List Outcome) → IsRun es ps os → (i : ℕ) → i < length os
      → Contains es (edge (get_or ps i 0) (outcome_of (get_or os i Next)) (get_or ps (i + 1) 0))
  run_inner ps os h i l =
      let s = run_step ps os h i l in
      let e = edge (get_or ps i 0) (outcome_of (get_or os i Next)) (get_or ps (suc i) 0) in
      let one : suc i ≡ i + 1 = omega arith in
      subst (λ k. Contains es (edge (get_or ps i 0) (outcome_of (get_or os i Next)) (get_or ps k 0))) one
      (into_is_one e.to es e (subst (λ xs. Contains xs e) (sym s.into) (here e [])))

  pub block_in : (bs : List GraphBlock) (k : ℕ) (b : GraphBlock) → AreBlocks es bs → slice_get bs k ≡ Some b → IsBlock es b
  block_in [] k b h e = absurd (none-some b e)
  block_in (c ∷ bs) zero b h e = subst (IsBlock es) (same_Some c b e) h.0
  block_in (c ∷ bs) (suc k) b h e = block_in bs k b h.1 e
