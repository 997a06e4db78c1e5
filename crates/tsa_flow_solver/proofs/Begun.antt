-- The beginning: the statuses at the entry, at the block of the first point.
use Rattle.std.proofs.Common.{◌≡◌, ◌∙◌, ℕ, ◌<◌, ◌↔◌, inl, inr, Bool, true, false, List, [], ◌∷◌, ◌++◌, length, set, Contains, Some, None}
use Rattle.std.proofs.Common.{slice_get, if◌then◌else◌, refl, sym, subst}
use Rattle.std.proofs.lemmas.List.Elements.{Contains-push}
use Rattle.tsa_graph.specs.declared.sequence.Blocks.{Blocks}
use Rattle.tsa_graph.specs.declared.sequence.Place.{Place}
use Rattle.tsa_rules.specs.declared.status.Status.{Status}
use Rattle.tsa_rules.specs.declared.statuses.Statuses.{Statuses}
use Rattle.tsa_rules.specs.Sets.{Has}
use Rattle.tsa_rules.proofs.SetBits.{empty_has_none, has_or}
use Rattle.tsa_flow_solver.specs.Rows.{IsTakenIn, lane_of, no_statuses, row_at, set_at, union}
use Rattle.tsa_flow_solver.specs.Turns.{HaveBegun}
use Rattle.tsa_flow_solver.proofs.Grids.{lane_at, lane_same, lane_taken}
use Rattle.tsa_flow_solver.proofs.JoinsOfSets.{only_with_more, takes_with_more}
use Rattle.tsa_flow_solver.proofs.Slots.{one_there}

module _ (entry : Status) (blocks : Blocks) (grid : List (List Statuses)) (l : ℕ) (empty : (c m : ℕ) → set_at (row_at grid c) m ≡ no_statuses) where
  abbrev rows : List Statuses
  rows = lane_of grid l

  none_at : (c : ℕ) (s : Status) → Has (set_at rows c) s → ⊥
  none_at c s x = empty_has_none s (subst (λ y. Has y s) (lane_at grid l c ∙ empty c l) x)

  -- a body without points
  pub begun_none : slice_get blocks.places.items 0 ≡ None → (work : List ℕ) → HaveBegun entry blocks rows work
  begun_none is work = record {
    waits = λ at e. let f : Some at ≡ None = sym e ∙ is in let no : ⊥ = cc in absurd no;
    begins = λ at e. let f : Some at ≡ None = sym e ∙ is in let no : ⊥ = cc in absurd no;
    only = λ c s x. absurd (none_at c s x);
  }

  module _ (at : Place) (is : slice_get blocks.places.items 0 ≡ Some at) (inside : at.block < length rows) (row taken : List Statuses) (wide : l < length (row_at grid at.block))
      (only : (t : Status) → Has (set_at row l) t ↔ (t ≡ entry)) where
    abbrev new : List Statuses
    new = set rows at.block (union (set_at rows at.block) (set_at row l))

    has_entry : Has (set_at new at.block) entry
    has_entry = takes_with_more rows at.block (set_at row l) inside entry ((only entry).1 refl)

    put : (work : List ℕ) → Contains work at.block → HaveBegun entry blocks new work
    put work waiting = record {
      waits = λ p e. subst (λ (q : Place). Contains work q.block) (one_there blocks.places.items 0 at p is e) waiting;
      begins = λ p e. subst (λ (q : Place). Has (set_at new q.block) entry) (one_there blocks.places.items 0 at p is e) has_entry;
      only = λ c s x. elim (only_with_more rows at.block (set_at row l) inside c s x) [ inl y ↦ absurd (none_at c s y) | inr y ↦ ((only s).0 y.1, (at, (is, y.0))) ];
    }

    -- some set has grown: that of the entry's lane has
    waiting_by : (grown : Bool) → IsTakenIn (row_at grid at.block) row taken grown → Contains (if grown then [] ++ at.block ∷ [] else []) at.block
    waiting_by true was = Contains-push [] at.block
    waiting_by false was = absurd (none_at at.block entry (subst (λ y. Has y entry) (lane_same grid l at.block row taken was wide) ((has_or (set_at rows at.block).bits (set_at row l).bits entry).1 (inr ((only entry).1 refl)))))

    -- the set of the first point's block takes in the status
    pub begun_some : (grown : Bool) → IsTakenIn (row_at grid at.block) row taken grown → (sets : List (List Statuses)) (work : List ℕ) → sets ≡ set grid at.block taken
        → work ≡ (if grown then [] ++ at.block ∷ [] else []) → HaveBegun entry blocks (lane_of sets l) work
    begun_some grown was sets work e f =
        subst (λ xs. HaveBegun entry blocks (lane_of xs l) work) (sym e)
        (subst (λ xs. HaveBegun entry blocks xs work) (sym (lane_taken grid l at.block row taken grown was wide))
        (put work (subst (λ xs. Contains xs at.block) (sym f) (waiting_by grown was))))
