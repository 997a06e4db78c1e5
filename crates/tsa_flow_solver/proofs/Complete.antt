-- Sets that are worked out to the end are what walks bring.
use Rattle.std.proofs.Common.{◌≡◌, ◌∙◌, ℕ, zero, suc, ◌+◌, ◌↔◌, ◌⊎◌, inl, inr, List, Contains, Option, Some, None, slice_get, refl, sym, ap}
use Rattle.std.proofs.Common.{subst, add-one}
use Rattle.std.proofs.Math.Decide.{ℕ_discrete}
use Rattle.std.proofs.lemmas.List.Elements.{All-contains}
use Rattle.tsa_core.specs.Control.{Edge, edge, Outcome}
use Rattle.tsa_graph_edges.specs.Links.{outcome_of}
use Rattle.tsa_graph.specs.declared.sequence.Block.{Block}
use Rattle.tsa_graph.specs.declared.sequence.Blocks.{Blocks}
use Rattle.tsa_graph.specs.declared.sequence.Place.{Place}
use Rattle.tsa_graph.specs.Rows.{across, AreBlocksOf, inside, IsPassed, last_in, outcome_in, place, point_in}
use Rattle.tsa_rules.specs.Cases.{effect_in}
use Rattle.tsa_rules.specs.declared.case.Case.{Case}
use Rattle.tsa_rules.specs.declared.statuses.Statuses.{Statuses}
use Rattle.tsa_rules.specs.Sets.{Has}
use Rattle.tsa_rules.specs.declared.status.Status.{Status}
use Rattle.tsa_rules.specs.Walks.{ReachAt}
use Rattle.tsa_flow_solver.specs.Courses.{Carried, leaving}
use Rattle.tsa_flow_solver.specs.Rows.{set_at}
use Rattle.tsa_flow_solver.specs.Joining.{IsInPlace}
use Rattle.tsa_flow_solver.specs.Turns.{AreClosed, AreOpen, AreSound, HaveBegun, IsClosedBy}
use Rattle.tsa_flow_solver.proofs.Slots.{one_there}
use Rattle.tsa_flow_solver.proofs.Standing.{at_place, is_passed}
use Rattle.tsa_flow_solver.proofs.LongerWalks.{at_start, walks, walks_carried}

-- nothing comes of nothing
pub none_carried : (cases : ℕ → Case) (b : Block) (set : Statuses) → ((s : Status) → Has set s → ⊥) → (i : ℕ) (s : Status) → Carried cases b set i s → ⊥
none_carried cases b set none zero s x = none s x
none_carried cases b set none (suc i) s (t, (x, e)) = none_carried cases b set none i t x

module _ (entry : Status) (cases : ℕ → Case) (r : Blocks) (rows : List Statuses) (work : List ℕ) (begun : HaveBegun entry r rows work) where
  -- at the beginning the block of the first point waits, and no other has statuses
  pub waiting_or_none : (first : Option Place) → slice_get r.places.items 0 ≡ first → (c : ℕ) → Contains work c ⊎ ((s : Status) → Has (set_at rows c) s → ⊥)
  waiting_or_none None is c = inr (λ s x. let y = (begun.only c s x).1 in let e : Some y.0 ≡ None = sym y.1.0 ∙ is in let no : ⊥ = cc in no)
  waiting_or_none (Some at) is c = elim (ℕ_discrete at.block c) [
    | yes e ↦ inl (subst (Contains work) e (begun.waits at is))
    | no d ↦ inr (λ s x. let y = (begun.only c s x).1 in d (ap (λ (z : Place). z.block) (one_there r.places.items 0 at y.0 is y.1.0) ∙ y.1.1))
  ]

  -- so all others make nothing of nothing
  open_by : (first : Option Place) → slice_get r.places.items 0 ≡ first → (c : ℕ) (b : Block) → Contains work c ⊎ IsClosedBy cases b (set_at rows c) rows
  open_by first is c b = elim (waiting_or_none first is c) [ inl x ↦ inl x | inr none ↦ inr (λ k d l s x. absurd (none_carried cases b (set_at rows c) none (last_in b) s x)) ]

  pub open_first : AreOpen cases r.blocks.items rows work
  open_first c b at = open_by (slice_get r.places.items 0) refl c b

  pub sound_first : (n : ℕ) (es : List Edge) → AreBlocksOf n es r → AreSound (walks es entry cases) r.blocks.items rows
  sound_first n es are c b at s x =
      let y = begun.only c s x in
      let z = y.1 in
      let stands = at_place n es r are 0 z.0 b z.1.0 (subst (λ i. slice_get r.blocks.items i ≡ Some b) (sym z.1.1) at) in
      let first : point_in b 0 ≡ 0 = ap (point_in b) (sym (are.start z.0 z.1.0)) ∙ stands.1 in
      subst (λ q. ReachAt (walks es entry cases) q s) (sym first) (subst (ReachAt (walks es entry cases) 0) (sym y.0) (at_start es entry cases))

module _ (n : ℕ) (es : List Edge) (entry : Status) (cases : ℕ → Case) (r : Blocks) (rows : List Statuses) (are : AreBlocksOf n es r) (closed : AreClosed cases r.blocks.items rows) (begins : (at : Place) → slice_get r.places.items 0 ≡ Some at → Has (set_at rows at.block) entry) where
  abbrev At : ℕ → Status → Type 0
  At p s = (at : Place) (b : Block) → slice_get r.places.items p ≡ Some at → slice_get r.blocks.items at.block ≡ Some b → Carried cases b (set_at rows at.block) at.index s

  at_first : At 0 entry
  at_first at b hp hb = subst (λ i. Carried cases b (set_at rows at.block) i entry) (sym (are.start at hp)) (begins at hp)

  along_by : (p q : ℕ) (o : Outcome) (s : Status) → At p s → IsPassed r.blocks.items r.places.items (edge p o q) → At q (effect_in (cases p) o s)
  along_by p q o s x (inside at b hf hb lt out ht) to d hq hd =
      let e : place at.block (at.index + 1) ≡ to = one_there r.places.items q (place at.block (at.index + 1)) to ht hq in
      let g : b ≡ d = one_there r.blocks.items at.block b d hb (subst (λ (y : Place). slice_get r.blocks.items y.block ≡ Some d) (sym e) hd) in
      let here : Carried cases b (set_at rows at.block) (suc at.index) (effect_in (cases p) o s) =
      (s, (x at b hf hb, ap (λ y. effect_in (cases y) (outcome_in b at.index) s) (at_place n es r are p at b hf hb).1 ∙ ap (λ a. effect_in (cases p) a s) out)) in
      subst (λ (y : Place). Carried cases d (set_at rows y.block) y.index (effect_in (cases p) o s)) e
      (subst (λ y. Carried cases y (set_at rows at.block) (at.index + 1) (effect_in (cases p) o s)) g
      (subst (λ i. Carried cases b (set_at rows at.block) i (effect_in (cases p) o s)) (sym (add-one at.index)) here))
  along_by p q o s x (across at b y hf hb last m out ht) to d hq hd =
      let e : place y.to 0 ≡ to = one_there r.places.items q (place y.to 0) to ht hq in
      let at_last : Carried cases b (set_at rows at.block) (last_in b) s = subst (λ i. Carried cases b (set_at rows at.block) i s) last (x at b hf hb) in
      let taken : Has (set_at rows y.to) (leaving cases b (outcome_of y.outcome) s) =
      All-contains (λ x. (t : Status) → Carried cases b (set_at rows at.block) (last_in b) t → Has (set_at rows x.to) (leaving cases b (outcome_of x.outcome) t)) b.exits.items y (closed at.block b hb) m s at_last in
      let point : point_in b (last_in b) ≡ p = ap (point_in b) (sym last) ∙ (at_place n es r are p at b hf hb).1 in
      let same : leaving cases b (outcome_of y.outcome) s ≡ effect_in (cases p) o s = ap (λ z. effect_in (cases z) (outcome_of y.outcome) s) point ∙ ap (λ a. effect_in (cases p) a s) out in
      subst (λ (z : Place). Carried cases d (set_at rows z.block) z.index (effect_in (cases p) o s)) e (subst (Has (set_at rows y.to)) same taken)

  -- where all is closed, nothing that walks bring is left out
  pub all_brought : (p : ℕ) (s : Status) → ReachAt (walks es entry cases) p s → At p s
  all_brought = walks_carried es entry cases At at_first (λ p q o s goes x. along_by p q o s x (is_passed n es r are p q o goes))

  pub exact_first : AreSound (walks es entry cases) r.blocks.items rows → (c : ℕ) (b : Block) → IsInPlace r c b → (s : Status)
      → Has (set_at rows c) s ↔ ReachAt (walks es entry cases) (point_in b 0) s
  exact_first sound c b h s = (sound c b h.is_there s, λ x. all_brought (point_in b 0) s x (place c 0) b h.stands h.is_there)
