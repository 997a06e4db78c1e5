-- Where the points of a block stand, and which edges lead into them.
use Rattle.std.proofs.Common.{◌≡◌, ◌∙◌, ℕ, zero, suc, ◌+◌, ◌<◌, ◌≤◌, ◌↔◌, List, Contains, Some, slice_get, sym, ap, subst, arith, add-one}
use Rattle.std.proofs.lemmas.List.Elements.{All-contains}
use Rattle.tsa_core.specs.Control.{Edge, edge, Outcome}
use Rattle.tsa_graph.specs.declared.sequence.Block.{Block}
use Rattle.tsa_graph.specs.declared.sequence.Blocks.{Blocks}
use Rattle.tsa_graph.specs.declared.sequence.Place.{Place}
use Rattle.tsa_graph.specs.Rows.{across, AreBlocksOf, inside, IsPassed, IsRun, last_in, outcome_in, place, point_in}
use Rattle.tsa_rules.specs.Cases.{effect_in}
use Rattle.tsa_rules.specs.declared.case.Case.{Case}
use Rattle.tsa_rules.specs.declared.statuses.Statuses.{Statuses}
use Rattle.tsa_rules.specs.Sets.{Has}
use Rattle.tsa_rules.specs.declared.status.Status.{Status}
use Rattle.tsa_rules.specs.Walks.{ReachAt}
use Rattle.tsa_flow_solver.specs.Courses.{Carried}
use Rattle.tsa_flow_solver.specs.Rows.{set_at}
use Rattle.tsa_flow_solver.specs.Joining.{IsInPlace}
use Rattle.tsa_flow_solver.proofs.Slots.{all_there, one_there}
use Rattle.tsa_flow_solver.proofs.LongerWalks.{at_entry, by_edge, LastEdge, last_edge, carried_sound, walks}

pub same_index : {c d i j : ℕ} → place c i ≡ place d j → i ≡ j
same_index e = ap (λ (x : Place). x.index) e

pub same_block : {c d i j : ℕ} → place c i ≡ place d j → c ≡ d
same_block e = ap (λ (x : Place). x.block) e

module _ (n : ℕ) (es : List Edge) (r : Blocks) (are : AreBlocksOf n es r) where
  abbrev StandsIn : (p c i : ℕ) → Type 0
  StandsIn p c i = slice_get r.places.items p ≡ Some (place c i)

  -- the point at a place
  pub at_place : (p : ℕ) (at : Place) (b : Block) → slice_get r.places.items p ≡ Some at → slice_get r.blocks.items at.block ≡ Some b
      → (at.index ≤ last_in b) × (point_in b at.index ≡ p)
  at_place p at b hp hb =
      let st = are.stands p at hp in
      let e : st.block ≡ b = one_there r.blocks.items at.block st.block b st.is_there hb in
      (subst (λ x. at.index ≤ last_in x) e st.index, subst (λ x. point_in x at.index ≡ p) e st.point_is)

  pub run_of : (c : ℕ) (b : Block) → slice_get r.blocks.items c ≡ Some b → IsRun n es b
  run_of c b hb = all_there (IsRun n es) r.blocks.items c b are.runs hb

  pub is_passed : (p q : ℕ) (o : Outcome) → Contains es (edge p o q) → IsPassed r.blocks.items r.places.items (edge p o q)
  is_passed p q o m = All-contains (IsPassed r.blocks.items r.places.items) es (edge p o q) are.edges m

  -- the next point of one that stands in a block stands next to it
  next_by : (c i : ℕ) (b : Block) → slice_get r.blocks.items c ≡ Some b → i < last_in b → (p q : ℕ) (o : Outcome) → StandsIn p c i
      → IsPassed r.blocks.items r.places.items (edge p o q) → StandsIn q c (i + 1)
  next_by c i b hb l p q o hp (inside at d hf hd lt out ht) = ht ∙ ap (λ (x : Place). Some (place x.block (x.index + 1))) (one_there r.places.items p at (place c i) hf hp)
  next_by c i b hb l p q o hp (across at d x hf hd last m out ht) =
      let e : at ≡ place c i = one_there r.places.items p at (place c i) hf hp in
      let f : d ≡ b = one_there r.blocks.items c d b (subst (λ (y : Place). slice_get r.blocks.items y.block ≡ Some d) e hd) hb in
      let g : i ≡ last_in b = sym (ap (λ (y : Place). y.index) e) ∙ (last ∙ ap last_in f) in
      absurd (omega (arith, g, l))

  -- the point before one that stands in a block stands before it
  before_by : (c i : ℕ) (p q : ℕ) (o : Outcome) → StandsIn q c (i + 1) → IsPassed r.blocks.items r.places.items (edge p o q) → StandsIn p c i
  before_by c i p q o hq (inside at d hf hd lt out ht) =
      let e : place at.block (at.index + 1) ≡ place c (i + 1) = one_there r.places.items q (place at.block (at.index + 1)) (place c (i + 1)) ht hq in
      let f : at.index ≡ i = omega (arith, same_index e) in
      hf ∙ (ap (λ y. Some (place y at.index)) (same_block e) ∙ ap (λ y. Some (place c y)) f)
  before_by c i p q o hq (across at d x hf hd last m out ht) =
      let e : place x.to 0 ≡ place c (i + 1) = one_there r.places.items q (place x.to 0) (place c (i + 1)) ht hq in
      absurd (omega (arith, same_index e))

  inner : (c i : ℕ) (b : Block) → slice_get r.blocks.items c ≡ Some b → i < last_in b → IsPassed r.blocks.items r.places.items (edge (point_in b i) (outcome_in b i) (point_in b (i + 1)))
  inner c i b hb l = is_passed (point_in b i) (point_in b (i + 1)) (outcome_in b i) ((run_of c b hb).inner i l)

  -- all points of a block stand in it where the first one does
  pub all_stand : (c : ℕ) (b : Block) → IsInPlace r c b → (i : ℕ) → i ≤ last_in b → StandsIn (point_in b i) c i
  all_stand c b h zero l = h.stands
  all_stand c b h (suc i) l =
      subst (λ j. StandsIn (point_in b j) c j) (add-one i)
      (next_by c i b h.is_there (omega arith) (point_in b i) (point_in b (i + 1)) (outcome_in b i) (all_stand c b h i (omega arith)) (inner c i b h.is_there (omega arith)))

  -- and the first one does where one does
  pub first_stands : (c i : ℕ) (b : Block) → slice_get r.blocks.items c ≡ Some b → i ≤ last_in b → StandsIn (point_in b i) c i → IsInPlace r c b
  first_stands c zero b hb l h = record { is_there = hb; stands = h }
  first_stands c (suc i) b hb l h =
      first_stands c i b hb (omega arith)
      (before_by c i (point_in b i) (point_in b (i + 1)) (outcome_in b i) (subst (λ j. StandsIn (point_in b j) c j) (sym (add-one i)) h) (inner c i b hb (omega arith)))

  -- a point behind the first one of a block is led to by the one before alone
  only_by : (c i : ℕ) (b : Block) → slice_get r.blocks.items c ≡ Some b → (p q : ℕ) (o : Outcome) → StandsIn q c (i + 1) → IsPassed r.blocks.items r.places.items (edge p o q)
      → (p ≡ point_in b i) × (o ≡ outcome_in b i)
  only_by c i b hb p q o hq (inside at d hf hd lt out ht) =
      let e : place at.block (at.index + 1) ≡ place c (i + 1) = one_there r.places.items q (place at.block (at.index + 1)) (place c (i + 1)) ht hq in
      let f : at.index ≡ i = omega (arith, same_index e) in
      let g : d ≡ b = one_there r.blocks.items c d b (subst (λ y. slice_get r.blocks.items y ≡ Some d) (same_block e) hd) hb in
      (sym (at_place p at d hf hd).1 ∙ (ap (λ y. point_in y at.index) g ∙ ap (point_in b) f), sym out ∙ (ap (λ y. outcome_in y at.index) g ∙ ap (outcome_in b) f))
  only_by c i b hb p q o hq (across at d x hf hd last m out ht) =
      let e : place x.to 0 ≡ place c (i + 1) = one_there r.places.items q (place x.to 0) (place c (i + 1)) ht hq in
      absurd (omega (arith, same_index e))

  pub only_from : (c i : ℕ) (b : Block) → slice_get r.blocks.items c ≡ Some b → (p q : ℕ) (o : Outcome) → StandsIn q c (i + 1) → Contains es (edge p o q)
      → (p ≡ point_in b i) × (o ≡ outcome_in b i)
  only_from c i b hb p q o hq m = only_by c i b hb p q o hq (is_passed p q o m)

  -- the body isn't entered behind the first point of a block
  pub not_entered : (c i q : ℕ) → StandsIn q c (i + 1) → q ≡ 0 → ⊥
  not_entered c i q hq e =
      let f : i + 1 ≡ 0 = are.start (place c (i + 1)) (subst (λ p. StandsIn p c (i + 1)) e hq) in
      omega (arith, f)

  -- An exact set at the first point of a block is exact along it.
  module _ (entry : Status) (cases : ℕ → Case) (c : ℕ) (b : Block) (set : Statuses) (place_is : IsInPlace r c b) (exact : (s : Status) → Has set s ↔ ReachAt (walks es entry cases) (point_in b 0) s) where
    all_by : (i : ℕ) → i < last_in b → ((s : Status) → ReachAt (walks es entry cases) (point_in b i) s → Carried cases b set i s)
        → (s : Status) → LastEdge es entry cases (point_in b (suc i)) s → Carried cases b set (suc i) s
    all_by i l h s (at_entry e f) = absurd (not_entered c i (point_in b (suc i)) (subst (λ j. StandsIn (point_in b (suc i)) c j) (sym (add-one i)) (all_stand c b place_is (suc i) (omega arith))) e)
    all_by i l h s (by_edge p o t goes at e) =
        let from = only_from c i b place_is.is_there p (point_in b (suc i)) o (subst (λ j. StandsIn (point_in b (suc i)) c j) (sym (add-one i)) (all_stand c b place_is (suc i) (omega arith))) goes in
        (t, (h t (subst (λ q. ReachAt (walks es entry cases) q t) from.0 at), ap (λ q. effect_in (cases q) (outcome_in b i) t) (sym from.0) ∙ (ap (λ a. effect_in (cases p) a t) (sym from.1) ∙ e)))

    all_along : (i : ℕ) → i ≤ last_in b → (s : Status) → ReachAt (walks es entry cases) (point_in b i) s → Carried cases b set i s
    all_along zero l s x = (exact s).1 x
    all_along (suc i) l s x = all_by i (omega arith) (all_along i (omega arith)) s (last_edge es entry cases (point_in b (suc i)) s x)

    pub exact_along : (i : ℕ) → i ≤ last_in b → (s : Status) → Carried cases b set i s ↔ ReachAt (walks es entry cases) (point_in b i) s
    exact_along i l s = (carried_sound es entry cases n b set (run_of c b place_is.is_there) (λ t x. (exact t).0 x) i l s, all_along i l s)

  -- what is worked out along a block from exact sets is what walks bring to a point
  pub exact_at : (entry : Status) (cases : ℕ → Case) (rows : List Statuses) → ((c : ℕ) (b : Block) → IsInPlace r c b → (s : Status) → Has (set_at rows c) s ↔ ReachAt (walks es entry cases) (point_in b 0) s)
      → (p : ℕ) (at : Place) (out : Statuses) → slice_get r.places.items p ≡ Some at
      → ((b : Block) → slice_get r.blocks.items at.block ≡ Some b → at.index ≤ last_in b → (s : Status) → Has out s ↔ Carried cases b (set_at rows at.block) at.index s)
      → (s : Status) → Has out s ↔ ReachAt (walks es entry cases) p s
  exact_at entry cases rows sets p at out hp told s =
      let x = are.stands p at hp in
      let stands : IsInPlace r at.block x.block = first_stands at.block at.index x.block x.is_there x.index (subst (λ q. slice_get r.places.items q ≡ Some at) (sym x.point_is) hp) in
      let along = exact_along entry cases at.block x.block (set_at rows at.block) stands (sets at.block x.block stands) at.index x.index s in
      let here = told x.block x.is_there x.index s in
      subst (λ q. Has out s ↔ ReachAt (walks es entry cases) q s) x.point_is (λ h. along.0 (here.0 h), λ h. here.1 (along.1 h))
