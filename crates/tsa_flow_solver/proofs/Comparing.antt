-- The edges of a body are compared: along the exits of a block, and block by block.
use Rattle.std.proofs.Common.{◌≡◌, ◌∙◌, ℕ, ◌+◌, ◌<◌, ◌↔◌, ◌⊎◌, inl, inr, Bool, List, [], ◌∷◌, ◌++◌, length, get_or, take, Contains, Some}
use Rattle.std.proofs.Common.{None, slice_get, sym, ap, subst, arith}
use Rattle.std.proofs.Math.Decide.{ℕ_discrete}
use Rattle.std.proofs.lemmas.List.{take_more}
use Rattle.std.proofs.lemmas.List.Elements.{Contains-append_left, Contains-push, Contains-push_cases}
use Rattle.tsa_core.specs.Control.{Outcome}
use Rattle.tsa_graph_edges.specs.Links.{outcome_of}
use Rattle.tsa_graph.specs.declared.sequence.Block.{Block}
use Rattle.tsa_graph.specs.declared.sequence.Blocks.{Blocks}
use Rattle.tsa_graph.specs.declared.sequence.Exit.{Exit}
use Rattle.tsa_graph.specs.declared.sequence.Place.{Place}
use Rattle.tsa_graph.specs.Rows.{last_in, place, point_in}
use Rattle.tsa_rules.specs.declared.case.Case.{Case}
use Rattle.tsa_rules.specs.declared.status.Status.{Status}
use Rattle.tsa_rules.specs.declared.statuses.Statuses.{Statuses}
use Rattle.tsa_rules.specs.Sets.{Has, IsImage}
use Rattle.tsa_flow_solver.specs.Agreeing.{Agrees, AreArrivalsCompared, AreExitsCompared, Arrival, at_entry, brings_by, by_exit}
use Rattle.tsa_flow_solver.specs.Agreeing.{IsBlockCompared, IsOneCompared, leads_by}
use Rattle.tsa_flow_solver.specs.Courses.{Leaves, leaving}
use Rattle.tsa_flow_solver.specs.Passing.{IsCarried}
use Rattle.tsa_flow_solver.specs.Rows.{set_at}
use Rattle.tsa_flow_solver.specs.Joining.{IsInPlace}
use Rattle.tsa_flow_solver.proofs.EdgeComparisons.{and_then, as_others, none_compared, Same}
use Rattle.tsa_flow_solver.proofs.Slots.{one_there}

same_itself : (A : Status → Type 0) → Same A A
same_itself A s = (λ x. x, λ x. x)

the_other_way : (A B : Status → Type 0) → Same A B → Same B A
the_other_way A B h s = ((h s).1, (h s).0)

-- no exits are compared yet
pub no_exits : (effect : Outcome → Status → Status) (last : Statuses) (rows : List Statuses) (flags : List Bool) → AreExitsCompared effect last [] rows flags flags
no_exits effect last rows flags = none_compared Exit (λ x c. Contains [] x × (x.to ≡ c)) (λ x s. IsImage (effect (outcome_of x.outcome)) last s) rows flags (λ x c l. absurd (omega (arith, l.0.1)))

-- one exit more
module _ (effect : Outcome → Status → Status) (last : Statuses) (exits : List Exit) (i : ℕ) (d : Exit) (there : i < length exits) (more : Statuses) (image : (t : Status) → Has more t ↔ IsImage (effect (outcome_of (get_or exits i d).outcome)) last t) where
  abbrev next : Exit
  next = get_or exits i d

  abbrev Brings : Exit → Status → Type 0
  Brings y s = IsImage (effect (outcome_of y.outcome)) last s

  one_more : take (i + 1) exits ≡ take i exits ++ next ∷ []
  one_more = take_more exits i d there

  pub exit_compared : (rows : List Statuses) (old mid new : List Bool) → AreExitsCompared effect last (take i exits) rows old mid → IsOneCompared next.to more rows mid new
      → AreExitsCompared effect last (take (i + 1) exits) rows old new
  exit_compared rows old mid new = and_then Exit (Unit {0}) Exit (λ y c. Contains (take i exits) y × (y.to ≡ c)) Brings (λ e c. next.to ≡ c) (λ e s. Has more s) (λ y c. Contains (take (i + 1) exits) y × (y.to ≡ c)) Brings rows old mid new split left right
    where
      split : (y : Exit) (c : ℕ) → Contains (take (i + 1) exits) y × (y.to ≡ c)
          → ((z : Exit) × ((Contains (take i exits) z × (z.to ≡ c)) × Same (Brings y) (Brings z))) ⊎ ((e : Unit {0}) × ((next.to ≡ c) × Same (Brings y) (Has more)))
      split y c l = elim (Contains-push_cases (take i exits) next y (subst (λ ys. Contains ys y) one_more l.0)) [
        | inl m ↦ inl (y, ((m, l.1), same_itself (Brings y)))
        | inr e ↦ inr (tt, (ap (λ (z : Exit). z.to) e ∙ l.1, subst (λ z. Same (Brings z) (Has more)) e (the_other_way (Has more) (Brings next) image)))
      ]

      left : (y : Exit) (c : ℕ) → Contains (take i exits) y × (y.to ≡ c) → (z : Exit) × ((Contains (take (i + 1) exits) z × (z.to ≡ c)) × Same (Brings y) (Brings z))
      left y c l = (y, ((subst (λ ys. Contains ys y) (sym one_more) (Contains-append_left (take i exits) (next ∷ []) y l.0), l.1), same_itself (Brings y)))

      right : (e : Unit {0}) (c : ℕ) → next.to ≡ c → (z : Exit) × ((Contains (take (i + 1) exits) z × (z.to ≡ c)) × Same (Has more) (Brings z))
      right e c l = (next, ((subst (λ ys. Contains ys next) (sym one_more) (Contains-push (take i exits) next), l), image))

module _ (cases : ℕ → Case) (blocks : Blocks) (number : ℕ) (rows : List Statuses) where
  -- a block that isn't in place is none of the body's
  pub none_of_it : ((b : Block) → slice_get blocks.blocks.items number ≡ Some b → slice_get blocks.places.items (point_in b 0) ≡ Some (place number 0) → ⊥) → (flags : List Bool)
      → IsBlockCompared cases blocks number rows flags flags
  none_of_it other flags =
      none_compared (Block × Exit) (λ e c. IsInPlace blocks number e.0 × (Contains e.0.exits.items e.1 × (e.1.to ≡ c))) (λ e s. Leaves cases e.0 (set_at rows number) (outcome_of e.1.outcome) s) rows flags
      (λ e c l. absurd (other e.0 l.0.is_there l.0.stands))

  -- the exits of one that is
  pub block_compared : (b : Block) → IsInPlace blocks number b → (last : Statuses) → IsCarried cases b (set_at rows number) (last_in b) last → (old new : List Bool)
      → AreExitsCompared (leaving cases b) last b.exits.items rows old new → IsBlockCompared cases blocks number rows old new
  block_compared b h last gets old new =
      as_others Exit (Block × Exit) (λ x c. Contains b.exits.items x × (x.to ≡ c)) Brings (λ e c. IsInPlace blocks number e.0 × (Contains e.0.exits.items e.1 × (e.1.to ≡ c)))
      (λ e s. Leaves cases e.0 (set_at rows number) (outcome_of e.1.outcome) s) rows old new split back
    where
      Brings : Exit → Status → Type 0
      Brings x s = IsImage (leaving cases b (outcome_of x.outcome)) last s

      makes_it : (x : Exit) → Same (Brings x) (Leaves cases b (set_at rows number) (outcome_of x.outcome))
      makes_it x s = (λ y. (y.0, ((gets y.0).0 y.1.0, y.1.1)), λ y. (y.0, ((gets y.0).1 y.1.0, y.1.1)))

      split : (e : Block × Exit) (c : ℕ) → IsInPlace blocks number e.0 × (Contains e.0.exits.items e.1 × (e.1.to ≡ c))
          → (x : Exit) × ((Contains b.exits.items x × (x.to ≡ c)) × Same (Leaves cases e.0 (set_at rows number) (outcome_of e.1.outcome)) (Brings x))
      split e c l =
          let same : b ≡ e.0 = one_there blocks.blocks.items number b e.0 h.is_there l.0.is_there in (
            e.1,
            (
              (subst (λ (y : Block). Contains y.exits.items e.1) (sym same) l.1.0, l.1.1),
              subst (λ y. Same (Leaves cases y (set_at rows number) (outcome_of e.1.outcome)) (Brings e.1)) same (the_other_way (Brings e.1) (Leaves cases b (set_at rows number) (outcome_of e.1.outcome)) (makes_it e.1)),
            ),
          )

      back : (x : Exit) (c : ℕ) → Contains b.exits.items x × (x.to ≡ c)
          → (e : Block × Exit) × ((IsInPlace blocks number e.0 × (Contains e.0.exits.items e.1 × (e.1.to ≡ c))) × Same (Brings x) (Leaves cases e.0 (set_at rows number) (outcome_of e.1.outcome)))
      back x c l = ((b, x), ((h, l), makes_it x))

module _ (entry : Status) (cases : ℕ → Case) (blocks : Blocks) (rows : List Statuses) where
  -- the entry
  pub not_entered_at_all : slice_get blocks.places.items 0 ≡ None → (flags : List Bool) → AreArrivalsCompared entry cases blocks 0 rows flags flags
  not_entered_at_all is flags = none_compared Arrival (leads_by blocks 0) (brings_by entry cases rows) rows flags none
    where
      none : (a : Arrival) (c : ℕ) → leads_by blocks 0 a c → Agrees (set_at rows c) (brings_by entry cases rows a)
      none (at_entry at) c l = let e : Some at ≡ None = sym l.0 ∙ is in let no : ⊥ = cc in absurd no
      none (by_exit number b x) c l = absurd (omega (arith, l.0))

  pub entered_at : (at : Place) → slice_get blocks.places.items 0 ≡ Some at → (one : Statuses) → ((t : Status) → Has one t ↔ (t ≡ entry)) → (old new : List Bool)
      → IsOneCompared at.block one rows old new → AreArrivalsCompared entry cases blocks 0 rows old new
  entered_at at is one only old new = as_others (Unit {0}) Arrival (λ e c. at.block ≡ c) (λ e s. Has one s) (leads_by blocks 0) (brings_by entry cases rows) rows old new split back
    where
      split : (a : Arrival) (c : ℕ) → leads_by blocks 0 a c → (e : Unit {0}) × ((at.block ≡ c) × Same (brings_by entry cases rows a) (Has one))
      split (at_entry p) c l = (tt, (ap (λ (q : Place). q.block) (one_there blocks.places.items 0 at p is l.0) ∙ l.1, the_other_way (Has one) (brings_by entry cases rows (at_entry p)) only))
      split (by_exit number b x) c l = absurd (omega (arith, l.0))

      back : (e : Unit {0}) (c : ℕ) → at.block ≡ c → (a : Arrival) × (leads_by blocks 0 a c × Same (Has one) (brings_by entry cases rows a))
      back e c l = (at_entry at, ((is, l), only))

  -- one block more
  pub one_block_more : (number : ℕ) (old mid new : List Bool) → AreArrivalsCompared entry cases blocks number rows old mid → IsBlockCompared cases blocks number rows mid new
      → AreArrivalsCompared entry cases blocks (number + 1) rows old new
  one_block_more number old mid new =
      and_then Arrival (Block × Exit) Arrival (leads_by blocks number) (brings_by entry cases rows) Leads Brings (leads_by blocks (number + 1)) (brings_by entry cases rows) rows old mid new split left right
    where
      Leads : Block × Exit → ℕ → Type 0
      Leads e c = IsInPlace blocks number e.0 × (Contains e.0.exits.items e.1 × (e.1.to ≡ c))

      Brings : Block × Exit → Status → Type 0
      Brings e s = Leaves cases e.0 (set_at rows number) (outcome_of e.1.outcome) s

      split : (a : Arrival) (c : ℕ) → leads_by blocks (number + 1) a c
          → ((e : Arrival) × (leads_by blocks number e c × Same (brings_by entry cases rows a) (brings_by entry cases rows e))) ⊎ ((e : Block × Exit) × (Leads e c × Same (brings_by entry cases rows a) (Brings e)))
      split (at_entry at) c l = inl (at_entry at, (l, same_itself (brings_by entry cases rows (at_entry at))))
      split (by_exit m b x) c l = elim (ℕ_discrete m number) [
        | yes e ↦ inr ((b, x), (subst (λ k. Leads_at k) e l.1, subst (λ k. Same (λ s. Leaves cases b (set_at rows m) (outcome_of x.outcome) s) (λ s. Leaves cases b (set_at rows k) (outcome_of x.outcome) s)) e (same_itself (λ s. Leaves cases b (set_at rows m) (outcome_of x.outcome) s))))
        | no d ↦ inl (by_exit m b x, ((omega (arith, l.0, d), l.1), same_itself (brings_by entry cases rows (by_exit m b x))))
      ]
        where
          Leads_at : ℕ → Type 0
          Leads_at k = IsInPlace blocks k b × (Contains b.exits.items x × (x.to ≡ c))

      left : (a : Arrival) (c : ℕ) → leads_by blocks number a c → (e : Arrival) × (leads_by blocks (number + 1) e c × Same (brings_by entry cases rows a) (brings_by entry cases rows e))
      left (at_entry at) c l = (at_entry at, (l, same_itself (brings_by entry cases rows (at_entry at))))
      left (by_exit m b x) c l = (by_exit m b x, ((omega (arith, l.0), l.1), same_itself (brings_by entry cases rows (by_exit m b x))))

      right : (e : Block × Exit) (c : ℕ) → Leads e c → (a : Arrival) × (leads_by blocks (number + 1) a c × Same (Brings e) (brings_by entry cases rows a))
      right e c l = (by_exit number e.0 e.1, ((omega arith, l), same_itself (Brings e)))
