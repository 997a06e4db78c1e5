-- Courses with the same edges, the same status at the entry and the same effects along edges bring the same.
use Rattle.std.proofs.Common.{◌≡◌, ℕ, ◌↔◌, List, [], ◌∷◌, Contains, sym, ◌∙◌, ap, subst}
use Rattle.tsa_core.specs.Control.{Outcome, edge}
use Rattle.tsa_rules.specs.declared.status.Status.{Status}
use Rattle.tsa_flow_solver.specs.Disagreeing.{Disagree}
use Rattle.tsa_rules.specs.Walks.{Agree, Course, Edge, edge_from, entry_edge, IsReached, IsWalk, LeadsTo, Reach, ReachAt, along}

pub record Alike (k l : Course) : Type 0 where
  pub edges : k.edges ≡ l.edges
  pub entry : k.entry ≡ l.entry
  pub effect : (p q : ℕ) (o : Outcome) (s : Status) → Contains k.edges (edge p o q) → k.effect p o s ≡ l.effect p o s

turned : (k l : Course) → Alike k l → Alike l k
turned k l a = record {
  edges = sym a.edges;
  entry = sym a.entry;
  effect = λ p q o s among. sym (a.effect p q o s (subst (λ es. Contains es (edge p o q)) (sym a.edges) among));
}

pub then_alike : (k l m : Course) → Alike k l → Alike l m → Alike k m
then_alike k l m a b = record {
  edges = a.edges ∙ b.edges;
  entry = a.entry ∙ b.entry;
  effect = λ p q o s among. a.effect p q o s among ∙ b.effect p q o s (subst (λ es. Contains es (edge p o q)) a.edges among);
}

module _ (k l : Course) (a : Alike k l) where
  leads : (e : Edge) (q : ℕ) → LeadsTo k e q → LeadsTo l e q
  leads entry_edge q h = h
  leads (edge_from p o) q h = subst (λ es. Contains es (edge p o q)) a.edges h

  walks : (e : Edge) (before : List Edge) → IsWalk k e before → IsWalk l e before
  walks entry_edge [] w = tt
  walks entry_edge (d ∷ before) w = absurd w
  walks (edge_from p o) [] w = absurd w
  walks (edge_from p o) (d ∷ before) w = (leads d p w.0, walks d before w.1)

  brings : (e : Edge) (before : List Edge) (q : ℕ) → LeadsTo k e q → IsWalk k e before → along k e before ≡ along l e before
  brings entry_edge before q h w = a.entry
  brings (edge_from p o) [] q h w = absurd w
  brings (edge_from p o) (d ∷ before) q h w = a.effect p q o (along k d before) h ∙ ap (l.effect p o) (brings d before p w.0 w.1)

  reached_on : (e : Edge) (q : ℕ) → IsReached k e q → IsReached l e q
  reached_on e q r = record { leads = leads e q r.leads; before = r.before; is_walk = walks e r.before r.is_walk }

  reach_on : (e : Edge) (q : ℕ) (s : Status) → Reach k e q s → Reach l e q s
  reach_on e q s r = record {
    leads = leads e q r.leads;
    before = r.before;
    is_walk = walks e r.before r.is_walk;
    brings = sym (brings e r.before q r.leads r.is_walk) ∙ r.brings;
  }

  at_on : (q : ℕ) (s : Status) → ReachAt k q s → ReachAt l q s
  at_on q s (e, r) = (e, reach_on e q s r)

-- what is brought, and whether edges agree
module _ (k l : Course) (a : Alike k l) where
  agree_on : (q : ℕ) → Agree k q → Agree l q
  agree_on q h d e s r x = reach_on k l a e q s (h d e s (reach_on l k (turned k l a) d q s r) (reached_on l k (turned k l a) e q x))

  pub disagree_on : (q : ℕ) → Disagree k q → Disagree l q
  disagree_on q h = record {
    one = h.one;
    other = h.other;
    status = h.status;
    brings = reach_on k l a h.one q h.status h.brings;
    reached = reached_on k l a h.other q h.reached;
    lacks = λ x. h.lacks (reach_on l k (turned k l a) h.other q h.status x);
  }

  pub same_statuses : (q : ℕ) (s : Status) → ReachAt k q s ↔ ReachAt l q s
  same_statuses q s = (at_on k l a q s, at_on l k (turned k l a) q s)

pub same_agreement : (k l : Course) → Alike k l → (q : ℕ) → Agree k q ↔ Agree l q
same_agreement k l a q = (agree_on k l a q, agree_on l k (turned k l a) q)
