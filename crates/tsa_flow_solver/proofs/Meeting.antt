-- Edges into the points of blocks, and whether they agree.
use Rattle.std.proofs.Common.{◌≡◌, ◌∙◌, ℕ, ◌+◌, ◌-◌, ◌<◌, ◌≤◌, ◌↔◌, inl, inr, Bool, true, false, List, [], ◌∷◌, length, All, Contains, Some}
use Rattle.std.proofs.Common.{None, get_or, slice_get, refl, sym, ap, subst, arith, true≢false}
use Rattle.std.proofs.lemmas.List.Elements.{All-contains}
use Rattle.std.proofs.lemmas.Option.{slice_get-get_or, slice_get_within}
use Rattle.tsa_core.specs.Control as control
use Rattle.tsa_core.specs.Control.{Outcome}
use Rattle.tsa_graph_edges.specs.Links.{outcome_of}
use Rattle.tsa_graph.specs.declared.sequence.Block.{Block}
use Rattle.tsa_graph.specs.declared.sequence.Blocks.{Blocks}
use Rattle.tsa_graph.specs.declared.sequence.Place.{Place}
use Rattle.tsa_graph.specs.Rows.{across, AreBlocksOf, inside, IsPassed, last_in, LeadsOn, place, point_in}
use Rattle.tsa_rules.specs.Cases.{effect_in}
use Rattle.tsa_rules.specs.declared.case.Case.{Case}
use Rattle.tsa_rules.specs.declared.status.Status.{Status}
use Rattle.tsa_rules.specs.declared.statuses.Statuses.{Statuses}
use Rattle.tsa_rules.specs.Sets.{Has}
use Rattle.tsa_rules.specs.Walks.{Agree, along, Edge, edge_from, entry_edge, IsReached, IsWalk, Reach, ReachAt}
use Rattle.tsa_flow_solver.specs.Agreeing.{Agrees, AreArrivalsCompared, Arrival, at_entry, brings_by, by_exit, Differs, leads_by}
use Rattle.tsa_flow_solver.specs.Courses.{Carried, Leaves}
use Rattle.tsa_flow_solver.specs.Disagreeing.{Disagree}
use Rattle.tsa_flow_solver.specs.Joining.{AreJoined, IsInPlace}
use Rattle.tsa_flow_solver.specs.Rows.{flag_at, set_at}
use Rattle.tsa_flow_solver.proofs.Slots.{all_there, one_there}
use Rattle.tsa_flow_solver.proofs.Standing.{at_place, exact_along, first_stands, not_entered, only_from, is_passed, same_block, same_index}
use Rattle.tsa_flow_solver.proofs.LongerWalks.{at_start, walks}

module _ (n : ℕ) (es : List control.Edge) (entry : Status) (cases : ℕ → Case) (r : Blocks) (are : AreBlocksOf n es r) where
  -- the last edge of a walk
  by_walk : (p : ℕ) (o : Outcome) (s : Status) (before : List Edge) → IsWalk (walks es entry cases) (edge_from p o) before → along (walks es entry cases) (edge_from p o) before ≡ s
      → (t : Status) × (ReachAt (walks es entry cases) p t × (effect_in (cases p) o t ≡ s))
  by_walk p o s [] w a = absurd w
  by_walk p o s (d ∷ before) w a = (along (walks es entry cases) d before, ((d, record { leads = w.0; before = before; is_walk = w.1; brings = refl }), a))

  to_walk : (p : ℕ) (o : Outcome) (q : ℕ) (s t : Status) → Contains es (control.edge p o q) → ReachAt (walks es entry cases) p t → effect_in (cases p) o t ≡ s
      → Reach (walks es entry cases) (edge_from p o) q s
  to_walk p o q s t goes (d, x) e = record { leads = goes; before = d ∷ x.before; is_walk = (x.leads, x.is_walk); brings = ap (effect_in (cases p) o) x.brings ∙ e }

  some_reach : (e : Edge) (q : ℕ) → (x : IsReached (walks es entry cases) e q) → Reach (walks es entry cases) e q (along (walks es entry cases) e x.before)
  some_reach e q x = record { leads = x.leads; before = x.before; is_walk = x.is_walk; brings = refl }

  is_reached : (e : Edge) (q : ℕ) (s : Status) → Reach (walks es entry cases) e q s → IsReached (walks es entry cases) e q
  is_reached e q s x = record { leads = x.leads; before = x.before; is_walk = x.is_walk }

  -- behind the first point of a block all edges agree, since there is one alone
  pub agrees_inner : (c i : ℕ) (b : Block) → slice_get r.blocks.items c ≡ Some b → (q : ℕ) → slice_get r.places.items q ≡ Some (place c (i + 1)) → Agree (walks es entry cases) q
  agrees_inner c i b hb q hq entry_edge e s x y = absurd (not_entered n es r are c i q hq x.leads)
  agrees_inner c i b hb q hq (edge_from p o) entry_edge s x y = absurd (not_entered n es r are c i q hq y.leads)
  agrees_inner c i b hb q hq (edge_from p o) (edge_from p' o') s x y =
      let f = only_from n es r are c i b hb p q o hq x.leads in
      let g = only_from n es r are c i b hb p' q o' hq y.leads in
      subst (λ a. Reach (walks es entry cases) (edge_from a o') q s) (f.0 ∙ sym g.0) (subst (λ a. Reach (walks es entry cases) (edge_from p a) q s) (f.1 ∙ sym g.1) x)

  pub agrees_behind : (p : ℕ) (at : Place) → slice_get r.places.items p ≡ Some at → 0 < at.index → Agree (walks es entry cases) p
  agrees_behind p at hp some =
      let x = are.stands p at hp in
      let e : at.index ≡ at.index - 1 + 1 = omega (arith, some) in
      agrees_inner at.block (at.index - 1) x.block x.is_there p (hp ∙ ap (λ i. Some (place at.block i)) e)

  -- a point that stands first in its block
  first_here : (p : ℕ) (at : Place) (hp : slice_get r.places.items p ≡ Some at) → at.index ≤ 0 → IsInPlace r at.block (are.stands p at hp).block × (point_in (are.stands p at hp).block 0 ≡ p)
  first_here p at hp none =
      let x = are.stands p at hp in
      let e : at.index ≡ 0 = omega (arith, none) in
      let first : point_in x.block 0 ≡ p = ap (point_in x.block) (sym e) ∙ x.point_is in
      let stands : slice_get r.places.items p ≡ Some (place at.block 0) = hp ∙ ap (λ i. Some (place at.block i)) e in
      (record { is_there = x.is_there; stands = subst (λ q. slice_get r.places.items q ≡ Some (place at.block 0)) (sym first) stands }, first)

  -- there edges agree as its flag says
  pub agrees_here : (flags : List Bool) → ((c : ℕ) (b : Block) → IsInPlace r c b → (flag_at flags c ≡ true) ↔ Agree (walks es entry cases) (point_in b 0))
      → (p : ℕ) (at : Place) → slice_get r.places.items p ≡ Some at → at.index ≤ 0 → (flag_at flags at.block ≡ true) ↔ Agree (walks es entry cases) p
  agrees_here flags told p at hp none =
      let here = first_here p at hp none in
      subst (λ q. (flag_at flags at.block ≡ true) ↔ Agree (walks es entry cases) q) here.1 (told at.block (are.stands p at hp).block here.0)

  -- and disagree as it says
  pub disagrees_here : (flags : List Bool) → ((c : ℕ) (b : Block) → IsInPlace r c b → flag_at flags c ≡ false → Disagree (walks es entry cases) (point_in b 0))
      → (p : ℕ) (at : Place) → slice_get r.places.items p ≡ Some at → at.index ≤ 0 → flag_at flags at.block ≡ false → Disagree (walks es entry cases) p
  disagrees_here flags told p at hp none lost =
      let here = first_here p at hp none in
      subst (Disagree (walks es entry cases)) here.1 (told at.block (are.stands p at hp).block here.0 lost)

  -- each point has a place
  pub no_point : (p : ℕ) → p < n → slice_get r.places.items p ≡ None → ⊥
  no_point p l h =
      let size = are.count in
      let e : Some (get_or r.places.items p (place 0 0)) ≡ None = sym (slice_get-get_or r.places.items p (place 0 0) (omega (arith, size, l))) ∙ h in
      cc

  module _ (rows : List Statuses) (exact : (c : ℕ) (b : Block) → IsInPlace r c b → (s : Status) → Has (set_at rows c) s ↔ ReachAt (walks es entry cases) (point_in b 0) s) where
    -- what is worked out of an exit is what walks bring by its edge
    exit_exact : (c : ℕ) (b : Block) → IsInPlace r c b → (o : Outcome) (q : ℕ) → Contains es (control.edge (point_in b (last_in b)) o q)
        → (s : Status) → Reach (walks es entry cases) (edge_from (point_in b (last_in b)) o) q s ↔ Leaves cases b (set_at rows c) o s
    exit_exact c b h o q goes s = (there, back)
      where
        along_it : (t : Status) → Carried cases b (set_at rows c) (last_in b) t ↔ ReachAt (walks es entry cases) (point_in b (last_in b)) t
        along_it t = exact_along n es r are entry cases c b (set_at rows c) h (exact c b h) (last_in b) (omega arith) t

        there : Reach (walks es entry cases) (edge_from (point_in b (last_in b)) o) q s → Leaves cases b (set_at rows c) o s
        there x = let y = by_walk (point_in b (last_in b)) o s x.before x.is_walk x.brings in (y.0, ((along_it y.0).1 y.1.0, y.1.1))

        back : Leaves cases b (set_at rows c) o s → Reach (walks es entry cases) (edge_from (point_in b (last_in b)) o) q s
        back (t, (x, e)) = to_walk (point_in b (last_in b)) o q s t goes ((along_it t).0 x) e

    module _ (upto : ℕ) (all : length r.blocks.items ≤ upto) (c : ℕ) (b : Block) (h : IsInPlace r c b) where
      abbrev p : ℕ
      p = point_in b 0

      -- where all arrivals agree with the set, each edge that is reached brings all of it
      across_exit : ((a : Arrival) → leads_by r upto a c → Agrees (set_at rows c) (brings_by entry cases rows a)) → (s : Status) → Has (set_at rows c) s
          → (q : ℕ) (o : Outcome) → IsReached (walks es entry cases) (edge_from q o) p → IsPassed r.blocks.items r.places.items (control.edge q o p)
          → Reach (walks es entry cases) (edge_from q o) p s
      across_exit agrees s x q o y (inside at d hf hd lt out ht) =
          let e : place at.block (at.index + 1) ≡ place c 0 = one_there r.places.items p (place at.block (at.index + 1)) (place c 0) ht h.stands in
          absurd (omega (arith, same_index e))
      across_exit agrees s x q o y (across at d z hf hd last among out ht) =
          subst (λ a. Brings a o) q_is (subst (λ a. Brings (point_in d (last_in d)) a) out base) y
        where
          Brings : ℕ → Outcome → Type 0
          Brings a u = IsReached (walks es entry cases) (edge_from a u) p → Reach (walks es entry cases) (edge_from a u) p s

          here : (at.index ≤ last_in d) × (point_in d at.index ≡ q)
          here = at_place n es r are q at d hf hd

          q_is : point_in d (last_in d) ≡ q
          q_is = ap (point_in d) (sym last) ∙ here.1

          stands : IsInPlace r at.block d
          stands = first_stands n es r are at.block at.index d hd here.0 (subst (λ a. slice_get r.places.items a ≡ Some at) (sym here.1) hf)

          to_c : z.to ≡ c
          to_c = same_block (one_there r.places.items p (place z.to 0) (place c 0) ht h.stands)

          number : at.block < upto
          number = let within = slice_get_within r.blocks.items at.block d hd in omega (arith, within, all)

          base : Brings (point_in d (last_in d)) (outcome_of z.outcome)
          base v =
              let some = some_reach (edge_from (point_in d (last_in d)) (outcome_of z.outcome)) p v in
              let t = along (walks es entry cases) (edge_from (point_in d (last_in d)) (outcome_of z.outcome)) v.before in
              (exit_exact at.block d stands (outcome_of z.outcome) p v.leads s).1
              (agrees (by_exit at.block d z) (number, (stands, (among, to_c))) t s ((exit_exact at.block d stands (outcome_of z.outcome) p v.leads t).0 some) x)

      brought : ((a : Arrival) → leads_by r upto a c → Agrees (set_at rows c) (brings_by entry cases rows a)) → (s : Status) → Has (set_at rows c) s
          → (e : Edge) → IsReached (walks es entry cases) e p → Reach (walks es entry cases) e p s
      brought agrees s x entry_edge y =
          let at : slice_get r.places.items 0 ≡ Some (place c 0) = subst (λ q. slice_get r.places.items q ≡ Some (place c 0)) y.leads h.stands in
          record { leads = y.leads; before = []; is_walk = tt; brings = sym (agrees (at_entry (place c 0)) (at, refl) entry s refl x) }
      brought agrees s x (edge_from q o) y = across_exit agrees s x q o y (is_passed n es r are q p o y.leads)

      -- an arrival that differs is an edge that lacks what another brings
      lacking : (e : Edge) (s : Status) → Has (set_at rows c) s → IsReached (walks es entry cases) e p → (Reach (walks es entry cases) e p s → ⊥) → Disagree (walks es entry cases) p
      lacking e s has reached lacks = let y = (exact c b h s).0 has in record { one = y.0; other = e; status = s; brings = y.1; reached = reached; lacks = lacks }

      disagree_at : (a : Arrival) → leads_by r upto a c → Differs (set_at rows c) (brings_by entry cases rows a) → Disagree (walks es entry cases) p
      disagree_at (at_entry at) (hp, hc) differs =
          let lack = differs within in
          lacking entry_edge lack.lacked lack.has (record { leads = start; before = []; is_walk = tt }) (λ x. lack.lacks (sym x.brings))
        where
          start : point_in b 0 ≡ 0
          start = ap (point_in b) (sym (are.start at hp)) ∙ (at_place n es r are 0 at b hp (subst (λ i. slice_get r.blocks.items i ≡ Some b) (sym hc) h.is_there)).1

          within : (t : Status) → t ≡ entry → Has (set_at rows c) t
          within t e = subst (Has (set_at rows c)) (sym e) ((exact c b h entry).1 (subst (λ q. ReachAt (walks es entry cases) q entry) (sym start) (at_start es entry cases)))
      disagree_at (by_exit number d z) (l, (stands, (among, to_c))) differs =
          let lack = differs within in
          lacking (edge_from (point_in d (last_in d)) (outcome_of z.outcome)) lack.lacked lack.has
          (is_reached (edge_from (point_in d (last_in d)) (outcome_of z.outcome)) p lack.brought ((exit lack.brought).1 lack.brings)) (λ x. lack.lacks ((exit lack.lacked).0 x))
        where
          on : LeadsOn es r.blocks.items d z
          on = All-contains (LeadsOn es r.blocks.items d) d.exits.items z (all_there (λ y. All (LeadsOn es r.blocks.items y) y.exits.items) r.blocks.items number d are.exits stands.is_there) among

          goes : Contains es (control.edge (point_in d (last_in d)) (outcome_of z.outcome) p)
          goes = subst (λ (y : Block). Contains es (control.edge (point_in d (last_in d)) (outcome_of z.outcome) (point_in y 0)))
              (one_there r.blocks.items c on.to b (subst (λ i. slice_get r.blocks.items i ≡ Some on.to) to_c on.is_there) h.is_there) on.leads

          exit : (s : Status) → Reach (walks es entry cases) (edge_from (point_in d (last_in d)) (outcome_of z.outcome)) p s ↔ Leaves cases d (set_at rows number) (outcome_of z.outcome) s
          exit s = exit_exact number d stands (outcome_of z.outcome) p goes s

          within : (t : Status) → Leaves cases d (set_at rows number) (outcome_of z.outcome) t → Has (set_at rows c) t
          within t x = (exact c b h t).1 (edge_from (point_in d (last_in d)) (outcome_of z.outcome), (exit t).1 x)

      -- a flag that is lost says that edges disagree
      pub disagrees_first : (first flags : List Bool) → ((i : ℕ) → flag_at first i ≡ true) → AreArrivalsCompared entry cases r upto rows first flags
          → flag_at flags c ≡ false → Disagree (walks es entry cases) p
      disagrees_first first flags begun compared is = elim (compared.lost c is) [
        | inl was ↦ absurd (true≢false (sym (begun c) ∙ was))
        | inr y ↦ disagree_at y.0 y.1.0 y.1.1
      ]

      -- a flag that is kept says that edges agree
      pub agrees_first : (first flags : List Bool) → ((i : ℕ) → flag_at first i ≡ true) → AreArrivalsCompared entry cases r upto rows first flags
          → (flag_at flags c ≡ true) ↔ Agree (walks es entry cases) p
      agrees_first first flags begun compared = (there, λ agree. by agree (flag_at flags c) refl)
        where
          there : flag_at flags c ≡ true → Agree (walks es entry cases) p
          there f d e s x y = brought (λ a l. (compared.kept c f).1 a l) s ((exact c b h s).1 (d, x)) e y

          by : Agree (walks es entry cases) p → (f : Bool) → flag_at flags c ≡ f → flag_at flags c ≡ true
          by agree true is = is
          by agree false is =
              let x = disagrees_first first flags begun compared is in
              absurd (x.lacks (agree x.one x.other x.status x.brings x.reached))

    -- what is worked out is what walks bring
    pub all_joined : (flags first : List Bool) → ((i : ℕ) → flag_at first i ≡ true) → AreArrivalsCompared entry cases r (length r.blocks.items) rows first flags
        → AreJoined (walks es entry cases) r rows flags
    all_joined flags first begun compared = record {
      sets = exact;
      agrees = λ c b h. agrees_first (length r.blocks.items) (omega arith) c b h first flags begun compared;
      disagrees = λ c b h. disagrees_first (length r.blocks.items) (omega arith) c b h first flags begun compared;
    }
