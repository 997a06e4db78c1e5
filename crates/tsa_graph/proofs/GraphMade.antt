-- Blocks that are made of longest runs are longest blocks.
use Rattle.std.proofs.Common.{◌≡◌, ◌∙◌, ℕ, zero, suc, ◌+◌, ◌<◌, ◌≤◌, arith, Bool, true, false, nat_eq, nat_lt, take, ◌⊎◌, inl, inr, List}
use Rattle.std.proofs.Common.{[], ◌∷◌, ◌++◌, map, length, get_or, Option, Some, None, if◌then◌else◌, refl, sym, ap, ap₂, subst}
use Rattle.std.proofs.Math.Seq.{take-suc}
use Rattle.std.proofs.lemmas.Bool.Decides.{nat_tests}
use Rattle.tsa_core.specs.Control.{Outcome, Edge, edge}
use Rattle.tsa_graph_edges.specs.Links.{outcome_of}
use Rattle.tsa_graph.specs.Runs.{step, first_of, last_of, IsChain, IsLongest, AreLongest, bit, times_in}
use Rattle.tsa_graph.proofs.Paths.{not_true}
use Rattle.tsa_graph.proofs.WaysMade.{way_inside, led_next, led_step}
use Rattle.tsa_graph.specs.declared.arcs.Exit.{Exit}
use Rattle.tsa_graph.specs.declared.blocks.GraphBlock.{GraphBlock}
use Rattle.tsa_graph.specs.declared.blocks.Graph.{Graph}
use Rattle.tsa_graph.specs.declared.entries.Edge as code
use Rattle.tsa_graph.specs.Arcs.{exit_of, entry_of, AreArcs, to_one, next_by, next_in}
use Rattle.tsa_graph.specs.Edges.{edges_from, edges_into, IsStep}
use Rattle.tsa_graph.specs.Graphs.{IsRun, IsBlock, AreBlocks, points_in, IsGraph}
use Rattle.tsa_graph.specs.InnerOutcomes.{outcome_of_one, inner_of}
use Rattle.tsa_graph.specs.BlocksOfRuns.{IsMade, AreMade}

pub made_push : (ins : List (List code.Edge)) (bs : List GraphBlock) (runs : List (List ℕ)) (b : GraphBlock) (run : List ℕ) → AreMade ins bs runs → IsMade ins b run → AreMade ins (bs ++ b ∷ []) (runs ++ run ∷ [])
made_push ins [] [] b run h g = (g, tt)
made_push ins [] (r ∷ runs) b run h g = absurd h
made_push ins (x ∷ bs) [] b run h g = absurd h
made_push ins (x ∷ bs) (r ∷ runs) b run h g = (h.0, made_push ins bs runs b run h.1 g)

pub points_made : (ins : List (List code.Edge)) (bs : List GraphBlock) (runs : List (List ℕ)) → AreMade ins bs runs → points_in bs ≡ runs
points_made ins [] [] h = refl
points_made ins [] (r ∷ runs) h = absurd h
points_made ins (b ∷ bs) [] h = absurd h
points_made ins (b ∷ bs) (r ∷ runs) h = ap₂ (λ x xs. x ∷ xs) h.0.points (points_made ins bs runs h.1)

either_side : (p n : ℕ) → (p < n) ⊎ (n ≤ p)
either_side p n = by (nat_lt p n) refl
  where
    by : (b : Bool) → nat_lt p n ≡ b → (p < n) ⊎ (n ≤ p)
    by true e = inl (grind (arith, nat_tests, e))
    by false e = inr (grind (arith, nat_tests, e))

past : (xs : List (List code.Edge)) (p : ℕ) → length xs ≤ p → get_or xs p [] ≡ []
past [] p h = refl
past (x ∷ xs) zero h = let no : ⊥ = omega (arith, h) in absurd no
past (x ∷ xs) (suc p) h = past xs p (omega (arith, h))

no_edge : {A : Type 0} (e : Edge) (xs : List Edge) → xs ≡ e ∷ [] → xs ≡ [] → A
no_edge e xs f g = absurd (by (sym g ∙ f))
  where
    by : [] ≡ e ∷ [] → ⊥
    by x = cc

-- a list that a map makes one of
only_one : (q : ℕ) (xs : List code.Edge) (e : Edge) → map (entry_of q) xs ≡ e ∷ [] → (q ≡ 0 → ⊥) → to_one xs q ≡ Some q
only_one q [] e h apart = no_edge e [] h refl
only_one q (c ∷ []) e h apart =
    ap (λ b. if b then None else Some q) (not_true (nat_eq q 0) (λ t. apart (grind (arith, nat_tests, t))))
only_one q (c ∷ d ∷ cs) e h apart = absurd (by h)
  where
    by : entry_of q c ∷ entry_of q d ∷ map (entry_of q) cs ≡ e ∷ [] → ⊥
    by x = cc

module _ (n : ℕ) (es : List Edge) (outs : List Exit) (ins : List (List code.Edge)) (h : AreArcs n es outs ins) (next : List (Option ℕ)) (next_size : length next ≡ n)
    (nexts : (p : ℕ) → p < n → get_or next p None ≡ next_in outs ins p) where
  -- a step is one of the ways on
  stepped : (p q : ℕ) (o : Outcome) → IsStep es p o q → step next p ≡ Some q
  stepped p q o s = by (either_side p n) (either_side q n)
    where
      by : (p < n) ⊎ (n ≤ p) → (q < n) ⊎ (n ≤ q) → step next p ≡ Some q
      by (inl a) (inl b) =
          nexts p a ∙ ap (next_by ins) (h.exits p a ∙ ap exit_of s.out) ∙ only_one q (get_or ins q []) (edge p o q) (h.entries q b ∙ s.into) s.inside
      by (inr a) x = no_edge (edge p o q) (edges_from p es) s.out (h.froms p a)
      by (inl a) (inr b) = no_edge (edge p o q) (edges_into q es) s.into (h.intos q b)

  runs_on : (p : ℕ) (ps : List ℕ) → IsChain next (p ∷ ps) → IsRun es (p ∷ ps) (inner_of ins (p ∷ ps))
  runs_on p [] c = tt
  runs_on p (q ∷ ps) c =
      let a = way_inside next p q c.0 in
      let s = next_size in
      let l = led_next n es outs ins h p q (sym (nexts p (omega (arith, a, s))) ∙ c.0) in
      (subst (λ o. IsStep es p (outcome_of o) q) (sym (ap outcome_of_one l.listed)) (led_step n es outs ins h p q l), runs_on q ps c.1)

  begins : (p : ℕ) → map (entry_of p) (get_or ins p []) ≡ edges_into p es
  begins p = by (either_side p n)
    where
      by : (p < n) ⊎ (n ≤ p) → map (entry_of p) (get_or ins p []) ≡ edges_into p es
      by (inl a) = h.entries p a
      by (inr a) = let s = h.ins_size in ap (map (entry_of p)) (past ins p (omega (arith, s, a))) ∙ sym (h.intos p a)

  run_of : (run : List ℕ) → IsChain next run → IsRun es run (inner_of ins run)
  run_of [] c = absurd c
  run_of (p ∷ ps) c = runs_on p ps c

  is_block : (b : GraphBlock) (run : List ℕ) → IsLongest next run → IsMade ins b run → IsBlock es b
  is_block b run l m = record {
    run = subst (λ ps. IsRun es ps b.inner.items) (sym m.points) (subst (λ os. IsRun es run os) (sym m.inner) (run_of run l.chain));
    longest = λ o q s.
        l.ends q (ap (λ ps. step next (last_of ps)) (sym m.points) ∙ stepped (last_of b.points.items) q o s) ∙ ap first_of (sym m.points);
    into = ap₂ (λ ps xs. map (entry_of (first_of ps)) xs) m.points m.into ∙ begins (first_of run) ∙ ap (λ ps. edges_into (first_of ps) es) (sym m.points);
  }

  pub are_blocks : (bs : List GraphBlock) (runs : List (List ℕ)) → AreLongest next runs → AreMade ins bs runs → AreBlocks es bs
  are_blocks [] [] l m = tt
  are_blocks [] (r ∷ runs) l m = absurd m
  are_blocks (b ∷ bs) [] l m = absurd m
  are_blocks (b ∷ bs) (r ∷ runs) l m = (is_block b r l.0 m.0, are_blocks bs runs l.1 m.1)

pub next_made : (ins : List (List code.Edge)) (bs bs' : List GraphBlock) (runs : List (List ℕ)) (k : ℕ) (b : GraphBlock) (run : List ℕ) → k < length runs → run ≡ get_or runs k []
    → AreMade ins bs (take k runs) → IsMade ins b run → bs' ≡ bs ++ b ∷ [] → AreMade ins bs' (take (k + 1) runs)
next_made ins bs bs' runs k b run within at h g is =
    let one : k + 1 ≡ suc k = omega arith in
    let listed : take (k + 1) runs ≡ take k runs ++ run ∷ [] = ap (λ m. take m runs) one ∙ take-suc runs k [] within ∙ ap (λ r. take k runs ++ r ∷ []) (sym at) in
    subst (λ xs. AreMade ins xs (take (k + 1) runs)) (sym is) (subst (AreMade ins (bs ++ b ∷ [])) (sym listed) (made_push ins bs (take k runs) b run h g))

-- the graph of all of them
pub is_graph : (n : ℕ) (es : List Edge) (outs : List Exit) (ins : List (List code.Edge)) (next seen : List (Option ℕ)) (runs : List (List ℕ)) (g : Graph) → AreArcs n es outs ins
    → length next ≡ n → ((p : ℕ) → p < n → get_or next p None ≡ next_in outs ins p) → seen ≡ next → AreLongest seen runs → ((p : ℕ) → times_in p runs ≡ bit (nat_lt p n))
    → AreMade ins g.blocks.items runs → IsGraph n es g
is_graph n es outs ins next seen runs g h size values same longest once made = record {
  blocks = are_blocks n es outs ins h next size values g.blocks.items runs (subst (λ xs. AreLongest xs runs) same longest) made;
  all = λ p. ap (times_in p) (points_made ins g.blocks.items runs made) ∙ once p;
}

-- the same by other names
pub graph_moved : (n m : ℕ) (es fs : List Edge) (g : Graph) → n ≡ m → es ≡ fs → IsGraph n es g → IsGraph m fs g
graph_moved n m es fs g e f h = subst (λ k. IsGraph k fs g) e (subst (λ xs. IsGraph n xs g) f h)
