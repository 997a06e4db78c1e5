-- The blocks of a graph with their exits are those of its edges.
use Rattle.std.proofs.Common.{◌≡◌, ◌∙◌, ℕ, zero, suc, ◌+◌, ◌<◌, ◌≤◌, arith, nat_lt, ◌⊎◌, inl, inr, List, length, get_or, All, Contains}
use Rattle.std.proofs.Common.{Some, slice_get, refl, sym, ap, ap₂, subst}
use Rattle.std.proofs.lemmas.List.Elements.{All-contains, All-from_get_or, All-get_or, All-same}
use Rattle.std.proofs.lemmas.Option.{slice_get_within, get_or_from_slice_get, same_Some}
use Rattle.tsa_core.specs.Control as control
use Rattle.tsa_core.specs.Control.{edge}
use Rattle.tsa_graph_edges.specs.declared.link.Outcome.{Outcome}
use Rattle.tsa_graph_edges.specs.declared.link.Outcome.TheVariants.{Next}
use Rattle.tsa_graph_edges.specs.Links.{outcome_of}
use Rattle.tsa_graph.specs.declared.blocks.GraphBlock as graph
use Rattle.tsa_graph.specs.declared.blocks.Graph.{Graph}
use Rattle.tsa_graph.specs.declared.entries.Edge as entry
use Rattle.tsa_graph.specs.Arcs.{entry_of}
use Rattle.tsa_graph.specs.Edges.{IsStep}
use Rattle.tsa_graph.specs.Graphs.{points_in, IsBlock, IsGraph}
use Rattle.tsa_graph.specs.Runs.{first_of, times_in}
use Rattle.tsa_graph.specs.declared.sequence.Block.{Block}
use Rattle.tsa_graph.specs.declared.sequence.Blocks.{Blocks}
use Rattle.tsa_graph.specs.declared.sequence.Exit.{Exit}
use Rattle.tsa_graph.specs.declared.sequence.Place.{Place}
use Rattle.tsa_graph.specs.InnerEdges.{AreBetween}
use Rattle.tsa_graph.specs.BlockForms.{IsFormed, AreFormed}
use Rattle.tsa_graph.specs.Joining.{AreJoined}
use Rattle.tsa_graph.specs.Noting.{block_at, exit_by, IsExit, AreExits}
use Rattle.tsa_graph.specs.Placing.{AreSmall, IsPlaced}
use Rattle.tsa_graph.specs.Rows.{place, IsRun, LeadsOn, StandsAt, IsPassed, inside, across, AreBlocksOf}
use Rattle.tsa_graph.proofs.Counts.{side, bit_below, bit_most, below_bit, times_one, times_block, same_block, same_index, stands_in}
use Rattle.tsa_graph.proofs.Joins.{joined_row, joined_block, joined_length}
use Rattle.tsa_graph.proofs.Members.{among_from, among_into, at_place, each_member, each_place, into_is_one, map_member, member_of_map}
use Rattle.tsa_graph.proofs.Members.{only}
use Rattle.tsa_graph.proofs.Sizes.{blocks_once, length_once}
use Rattle.tsa_graph.proofs.RunLists.{block_in, first_at, run_inner, run_long, run_step}

same_edge : (p q r s : ℕ) (o u : control.Outcome) → p ≡ q → o ≡ u → r ≡ s → edge p o r ≡ edge q u s
same_edge p q r s o u a b c = ap₂ (λ x y. edge x y r) a b ∙ ap (edge q u) c

-- each point leads to the next one
abbrev Inner : List control.Edge → List ℕ → List Outcome → Type 0
Inner es ps os = (i : ℕ) → i < length os → Contains es (edge (get_or ps i 0) (outcome_of (get_or os i Next)) (get_or ps (i + 1) 0))

module _ (n : ℕ) (es : List control.Edge) (g : Graph) (given : IsGraph n es g) (between : AreBetween n es) where
  few : (p : ℕ) → times_in p (points_in g.blocks.items) ≤ 1
  few p = let a = given.all p in let m = bit_most (nat_lt p n) in omega (arith, a, m)

  is_block : (k : ℕ) (b : graph.GraphBlock) → slice_get g.blocks.items k ≡ Some b → IsBlock es b
  is_block k b e = block_in es g.blocks.items k b given.blocks e

  long : (k : ℕ) (b : graph.GraphBlock) → slice_get g.blocks.items k ≡ Some b → length b.points.items ≡ length b.inner.items + 1
  long k b e = run_long es b.points.items b.inner.items (is_block k b e).run

  step : (k : ℕ) (b : graph.GraphBlock) → slice_get g.blocks.items k ≡ Some b → (i : ℕ) → i < length b.inner.items
      → IsStep es (get_or b.points.items i 0) (outcome_of (get_or b.inner.items i Next)) (get_or b.points.items (suc i) 0)
  step k b e i w = run_step es b.points.items b.inner.items (is_block k b e).run i w

  point_inside : (k : ℕ) (b : graph.GraphBlock) → slice_get g.blocks.items k ≡ Some b → (i : ℕ) → i < length b.points.items → get_or b.points.items i 0 < n
  point_inside k b e i w =
      let p = get_or b.points.items i 0 in
      let a = given.all p in
      let t = times_one p b.points.items i w refl in
      let o = times_block p g.blocks.items k b e in below_bit p n (omega (arith, a, t, o))

  points_inside : All (λ b. All (λ p. p < n) b.points.items) g.blocks.items
  points_inside = each_place (λ b. All (λ p. p < n) b.points.items) g.blocks.items (λ k b e. All-from_get_or (λ p. p < n) b.points.items 0 (λ i w. point_inside k b e i w))

  pub are_small : AreSmall n g.blocks.items
  are_small = record {
    count = blocks_once g.blocks.items n (each_place (λ b. 0 < length b.points.items) g.blocks.items some)
        (each_place (λ b. get_or b.points.items 0 0 < n) g.blocks.items (λ k b e. point_inside k b e 0 (some k b e))) few;
    counts = each_place (λ b. length b.points.items ≤ n) g.blocks.items (λ k b e.
        length_once b.points.items n (at_place (λ b. All (λ p. p < n) b.points.items) g.blocks.items k b points_inside e)
        (λ p. let a = times_block p g.blocks.items k b e in let m = few p in omega (arith, a, m)));
    inside = points_inside;
  }
    where
      some : (k : ℕ) (b : graph.GraphBlock) → slice_get g.blocks.items k ≡ Some b → 0 < length b.points.items
      some k b e = let l = long k b e in omega (arith, l)

  -- an edge into a block
  into_edge : (k : ℕ) (b : graph.GraphBlock) → slice_get g.blocks.items k ≡ Some b → (d : entry.Edge) → Contains b.into.items d → Contains es (entry_of (first_of b.points.items) d)
  into_edge k b e d h =
      let q = first_of b.points.items in
      into_is_one q es (entry_of q d) (subst (λ xs. Contains xs (entry_of q d)) (is_block k b e).into (map_member (entry_of q) b.into.items d h))

  edge_between : (e : control.Edge) → Contains es e → (e.from < n) × (e.to < n)
  edge_between e h = All-contains (λ d. (d.from < n) × (d.to < n)) es e between h

  pub froms_inside : All (λ b. All (λ d. d.from < n) b.into.items) g.blocks.items
  froms_inside = each_place (λ b. All (λ d. d.from < n) b.into.items) g.blocks.items
      (λ k b e. each_member (λ d. d.from < n) b.into.items (λ d h. (edge_between (entry_of (first_of b.points.items) d) (into_edge k b e d h)).0))

  module _ (places : List Place) (size : length places ≡ n) (placed : All (λ b. All (IsPlaced g.blocks.items places) b.points.items) g.blocks.items) where
    found : (p : ℕ) → p < n → IsPlaced g.blocks.items places p
    found p h =
        let a = given.all p in
        let y = bit_below p n h in
        let at = stands_in p g.blocks.items (omega (arith, a, y)) in
        subst (IsPlaced g.blocks.items places) at.5
        (All-get_or (IsPlaced g.blocks.items places) at.1.points.items at.3 0 at.4
        (at_place (λ b. All (IsPlaced g.blocks.items places) b.points.items) g.blocks.items at.0 at.1 placed at.2))

    found_at : (p : ℕ) (at : Place) → slice_get places p ≡ Some at → IsPlaced g.blocks.items places p
    found_at p at e = let w = slice_get_within places p at e in let s = size in found p (omega (arith, w, s))

    placed_at : (k : ℕ) (b : graph.GraphBlock) → slice_get g.blocks.items k ≡ Some b → (i : ℕ) → i < length b.points.items → (p : ℕ) → get_or b.points.items i 0 ≡ p
        → slice_get places p ≡ Some (place k i)
    placed_at k b e i w p x =
        let f = found p (subst (λ q. q < n) x (point_inside k b e i w)) in
        let a = same_block p g.blocks.items (few p) k f.at.block b f.block e f.is_there i f.at.index w f.within x f.point_is in
        let c = same_index p g.blocks.items (few p) k f.at.block b f.block e f.is_there i f.at.index w f.within x f.point_is in
        f.is_at ∙ ap Some (sym (ap₂ place a c))

    pub blocks_inside : All (λ at. at.block < length g.blocks.items) places
    blocks_inside = each_place (λ at. at.block < length g.blocks.items) places (λ p at e.
        let f = found_at p at e in
        subst (λ a. a.block < length g.blocks.items) (same_Some f.at at (sym f.is_at ∙ e)) (slice_get_within g.blocks.items f.at.block f.block f.is_there))

    -- what leads to the first point of a block leaves the last one of one
    at_last : (e : control.Edge) → Contains es e → (f : IsPlaced g.blocks.items places e.from) (l : ℕ) (c : graph.GraphBlock) → slice_get g.blocks.items l ≡ Some c → get_or c.points.items 0 0 ≡ e.to
        → f.at.index ≡ length f.block.inner.items
    at_last e h f l c there first = by (side f.at.index (length f.block.inner.items))
      where
        by : (f.at.index < length f.block.inner.items) ⊎ (length f.block.inner.items ≤ f.at.index) → f.at.index ≡ length f.block.inner.items
        by (inl w) =
            let s = step f.at.block f.block f.is_there f.at.index w in
            let p = get_or f.block.points.items f.at.index 0 in
            let d = edge p (outcome_of (get_or f.block.inner.items f.at.index Next)) (get_or f.block.points.items (suc f.at.index) 0) in
            let one : d ≡ e = only d e (subst (λ xs. Contains xs e) s.out (among_from p es e (sym f.point_is) h)) in
            let m = long f.at.block f.block f.is_there in
            let o = long l c there in
            let z = same_index e.to g.blocks.items (few e.to) f.at.block l f.block c f.is_there there (suc f.at.index) 0 (omega (arith, w, m)) (omega (arith, o)) (ap (λ x. x.to) one) first in
            let no : ⊥ = omega (arith, z) in absurd no
        by (inr w) = let m = long f.at.block f.block f.is_there in let i = f.within in omega (arith, w, m, i)

    block_of_place : (p : ℕ) (at : Place) → slice_get places p ≡ Some at → block_at places p ≡ at.block
    block_of_place p at e = ap (λ a. a.block) (get_or_from_slice_get places p at (place 0 0) e)

    module _ (exits : List (List Exit)) (exits_are : AreExits g.blocks.items places (length g.blocks.items) exits) (rows : List Block) (joined : AreJoined g.blocks.items exits rows) where
      row_run : (k : ℕ) (r : Block) → slice_get rows k ≡ Some r → IsRun n es r
      row_run k r e =
          let j = joined_block g.blocks.items exits rows k r joined e in
          let run = (is_block k j.0 j.1).run in
          record {
            long = ap length j.2.points ∙ long k j.0 j.1 ∙ ap (λ os. length os + 1) (sym j.2.inner);
            points = All-same (λ p. p < n) r.points.items j.0.points.items j.2.points (at_place (λ b. All (λ p. p < n) b.points.items) g.blocks.items k j.0 points_inside j.1);
            inner = subst (λ ps. Inner es ps r.inner.items) (sym j.2.points) (subst (λ os. Inner es j.0.points.items os) (sym j.2.inner) (run_inner es j.0.points.items j.0.inner.items run));
          }

      exit_is : (k : ℕ) (r : Block) → slice_get rows k ≡ Some r → (x : Exit) → Contains r.exits.items x → IsExit g.blocks.items places (length g.blocks.items) k x
      exit_is k r e x h =
          let j = joined_block g.blocks.items exits rows k r joined e in (exits_are.each k x).0 (subst (λ xs. Contains xs x) j.2.exits_are h)

      leads_on : (k : ℕ) (r : Block) → slice_get rows k ≡ Some r → (x : Exit) → Contains r.exits.items x → LeadsOn es rows r x
      leads_on k r e x h =
          let j = joined_block g.blocks.items exits rows k r joined e in
          let y = exit_is k r e x h in
          let d = y.comes.edge in
          let q = first_of y.to.points.items in
          let is_one = into_edge x.to y.to y.is_there d y.comes.is_one in
          let f = found d.from (edge_between (entry_of q d) is_one).0 in
          let own = sym (block_of_place d.from f.at f.is_at) ∙ y.comes.from in
          let same : f.block ≡ j.0 = same_Some f.block j.0 (sym f.is_there ∙ ap (slice_get g.blocks.items) own ∙ j.1) in
          let t = joined_row g.blocks.items exits rows x.to y.to joined y.is_there in
          let ends = at_last (entry_of q d) is_one f x.to y.to y.is_there (sym (first_at y.to.points.items)) in
          record {
            to = t.0;
            is_there = t.1;
            leads = subst (Contains es) (same_edge d.from (get_or r.points.items (length r.inner.items) 0) q (get_or t.0.points.items 0 0) (outcome_of d.outcome) (outcome_of x.outcome)
                (sym f.point_is ∙ ap (λ i. get_or f.block.points.items i 0) ends ∙ ap (λ c. get_or c.points.items (length c.inner.items) 0) same
                ∙ ap₂ (λ ps os. get_or ps (length os) 0) (sym j.2.points) (sym j.2.inner))
                (ap (λ z. outcome_of z.outcome) y.comes.is_exit)
                (first_at y.to.points.items ∙ ap (λ ps. get_or ps 0 0) (sym t.2.points))) is_one;
          }

      stands_at : (p : ℕ) (at : Place) → slice_get places p ≡ Some at → StandsAt rows p at
      stands_at p at e =
          let f = found_at p at e in
          let t = joined_row g.blocks.items exits rows f.at.block f.block joined f.is_there in
          let m = long f.at.block f.block f.is_there in
          let w = f.within in
          let o = ap length t.2.inner in
          subst (StandsAt rows p) (same_Some f.at at (sym f.is_at ∙ e)) (record {
            block = t.0;
            is_there = t.1;
            index = omega (arith, m, w, o);
            point_is = ap (λ ps. get_or ps f.at.index 0) t.2.points ∙ f.point_is;
          })

      starts : (at : Place) → slice_get places 0 ≡ Some at → at.index ≡ 0
      starts at e = ap (λ a. a.index) (sym (same_Some f.at at (sym f.is_at ∙ e))) ∙ by f.at.index refl
        where
          f : IsPlaced g.blocks.items places 0
          f = found_at 0 at e

          by : (i : ℕ) → f.at.index ≡ i → f.at.index ≡ 0
          by zero z = z
          by (suc i) z =
              let m = long f.at.block f.block f.is_there in
              let w = f.within in
              let s = step f.at.block f.block f.is_there i (omega (arith, m, w, z)) in
              absurd (s.inside (ap (λ k. get_or f.block.points.items k 0) (sym z) ∙ f.point_is))

      -- an edge to the first point of a block
      passed_across : (e : control.Edge) → Contains es e → (f : IsPlaced g.blocks.items places e.from) (t : IsPlaced g.blocks.items places e.to) → t.at.index ≡ 0 → IsPassed rows places e
      passed_across e h f t z =
          let first = ap (λ i. get_or t.block.points.items i 0) (sym z) ∙ t.point_is in
          let q = first_of t.block.points.items in
          let led = subst (λ xs. Contains xs e) (sym (is_block t.at.block t.block t.is_there).into) (among_into q es e (sym (first_at t.block.points.items ∙ first)) h) in
          let m = member_of_map (entry_of q) t.block.into.items e led in
          let x = exit_by m.0 t.at.block in
          let r = joined_row g.blocks.items exits rows f.at.block f.block joined f.is_there in
          let is_exit = (exits_are.each f.at.block x).1 (record {
            to = t.block;
            within = slice_get_within g.blocks.items t.at.block t.block t.is_there;
            is_there = t.is_there;
            comes = record {
              edge = m.0;
              is_one = m.1;
              from = ap (λ y. block_at places y.from) m.2 ∙ block_of_place e.from f.at f.is_at;
              is_exit = refl;
            };
          }) in
          across f.at r.0 x f.is_at r.1 (at_last e h f t.at.block t.block t.is_there first ∙ ap length (sym r.2.inner)) (subst (λ xs. Contains xs x) (sym r.2.exits_are) is_exit)
          (ap (λ y. y.outcome) m.2) (t.is_at ∙ ap Some (ap (place t.at.block) z))

      -- an edge to another point
      passed_inside : (e : control.Edge) → Contains es e → (t : IsPlaced g.blocks.items places e.to) (i : ℕ) → t.at.index ≡ suc i → IsPassed rows places e
      passed_inside e h t i z =
          let m = long t.at.block t.block t.is_there in
          let w = t.within in
          let l : i < length t.block.inner.items = omega (arith, m, w, z) in
          let s = step t.at.block t.block t.is_there i l in
          let q = get_or t.block.points.items (suc i) 0 in
          let d = edge (get_or t.block.points.items i 0) (outcome_of (get_or t.block.inner.items i Next)) q in
          let at_q : q ≡ e.to = ap (λ k. get_or t.block.points.items k 0) (sym z) ∙ t.point_is in
          let one : d ≡ e = only d e (subst (λ xs. Contains xs e) s.into (among_into q es e (sym at_q) h)) in
          let r = joined_row g.blocks.items exits rows t.at.block t.block joined t.is_there in
          let o = ap length r.2.inner in
          let next : t.at.index ≡ i + 1 = omega (arith, z) in
          inside (place t.at.block i) r.0 (placed_at t.at.block t.block t.is_there i (omega (arith, w, z)) e.from (ap (λ x. x.from) one)) r.1 (omega (arith, l, o))
          (ap (λ os. outcome_of (get_or os i Next)) r.2.inner ∙ ap (λ x. x.outcome) one) (t.is_at ∙ ap Some (ap (place t.at.block) next))

      passed : (e : control.Edge) → Contains es e → IsPassed rows places e
      passed e h = by t.at.index refl
        where
          ends : (e.from < n) × (e.to < n)
          ends = edge_between e h

          t : IsPlaced g.blocks.items places e.to
          t = found e.to ends.1

          by : (i : ℕ) → t.at.index ≡ i → IsPassed rows places e
          by zero z = passed_across e h (found e.from ends.0) t z
          by (suc i) z = passed_inside e h t i z

      pub are_formed : AreFormed rows places
      are_formed =
          let same = joined_length g.blocks.items exits rows joined in
          record {
            each = each_place (IsFormed (length rows)) rows (λ k r e. record {
              long = (row_run k r e).long;
              exits = each_member (λ x. x.to < length rows) r.exits.items (λ x h. let w = (exit_is k r e x h).within in omega (arith, w, same));
            });
            placed = subst (λ m. All (λ at. at.block < m) places) (sym same) blocks_inside;
          }

  -- the blocks with what they are
  pub are_blocks : (r : Blocks) (exits : List (List Exit)) → length r.places.items ≡ n → All (λ b. All (IsPlaced g.blocks.items r.places.items) b.points.items) g.blocks.items
      → AreExits g.blocks.items r.places.items (length g.blocks.items) exits → AreJoined g.blocks.items exits r.blocks.items → AreBlocksOf n es r
  are_blocks r exits size placed exits_are joined = record {
    count = size;
    runs = each_place (IsRun n es) r.blocks.items (row_run r.places.items size placed exits exits_are r.blocks.items joined);
    exits = each_place (λ b. All (LeadsOn es r.blocks.items b) b.exits.items) r.blocks.items
        (λ k b e. each_member (LeadsOn es r.blocks.items b) b.exits.items (leads_on r.places.items size placed exits exits_are r.blocks.items joined k b e));
    stands = stands_at r.places.items size placed exits exits_are r.blocks.items joined;
    start = starts r.places.items size placed exits exits_are r.blocks.items joined;
    edges = each_member (IsPassed r.blocks.items r.places.items) es (passed r.places.items size placed exits exits_are r.blocks.items joined);
  }

-- the same of what is lent
pub placed_by : (g : Graph) (lent : List graph.GraphBlock) (places : List Place) → lent ≡ g.blocks.items → All (λ b. All (IsPlaced lent places) b.points.items) lent
    → All (λ b. All (IsPlaced g.blocks.items places) b.points.items) g.blocks.items
placed_by g lent places is h = subst (λ bs. All (λ b. All (IsPlaced bs places) b.points.items) bs) is h

pub froms_by : (n : ℕ) (g : Graph) (lent : List graph.GraphBlock) (places seen : List Place) → lent ≡ g.blocks.items → seen ≡ places → length places ≡ n
    → All (λ b. All (λ d. d.from < n) b.into.items) g.blocks.items → All (λ b. All (λ d. d.from < length seen) b.into.items) lent
froms_by n g lent places seen is was size h =
    subst (λ m. All (λ b. All (λ d. d.from < m) b.into.items) lent) (sym (ap length was ∙ size)) (subst (All (λ b. All (λ d. d.from < n) b.into.items)) (sym is) h)

pub blocks_by : (g : Graph) (lent : List graph.GraphBlock) (places seen : List Place) → lent ≡ g.blocks.items → seen ≡ places → All (λ at. at.block < length g.blocks.items) places
    → All (λ at. at.block < length lent) seen
blocks_by g lent places seen is was h =
    subst (λ bs. All (λ at. at.block < length bs) seen) (sym is) (subst (All (λ at. at.block < length g.blocks.items)) (sym was) h)

pub exits_by : (g : Graph) (lent : List graph.GraphBlock) (places seen : List Place) (exits : List (List Exit)) → lent ≡ g.blocks.items → seen ≡ places
    → AreExits lent seen (length lent) exits → AreExits g.blocks.items places (length g.blocks.items) exits
exits_by g lent places seen exits is was h =
    subst (λ ps. AreExits g.blocks.items ps (length g.blocks.items) exits) was (subst (λ bs. AreExits bs seen (length bs) exits) is h)
