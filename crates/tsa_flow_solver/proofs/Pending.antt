-- Lanes that hold an answer unseen are passed one by one.
use Rattle.std.proofs.Common.{◌≡◌, ◌∙◌, ℕ, ◌+◌, ◌<◌, ◌≤◌, List, sym, subst, arith}
use Rattle.std.proofs.Math.Decide.{ℕ_discrete}
use Rattle.tsa_graph_edges.specs.declared.link.Outcome as code
use Rattle.tsa_rules.specs.declared.case.Asked.{Asked}
use Rattle.tsa_rules.specs.declared.case.Asked.TheVariants as asked
use Rattle.tsa_rules.specs.declared.case.Case.{Case}
use Rattle.tsa_rules.specs.declared.status.Status.{Status}
use Rattle.tsa_rules.specs.declared.status.Status.TheVariants.{Pending}
use Rattle.tsa_rules.specs.declared.statuses.Statuses.{Statuses}
use Rattle.tsa_rules.specs.Sets.{Has}
use Rattle.tsa_flow_solver.specs.Passing.{IsPassed, IsUnseen}
use Rattle.tsa_flow_solver.specs.Rows.{set_at}

module _ (cases : ℕ → Case) (o : code.Outcome) (claims : List ℕ) (old now new : List Statuses) (k : ℕ) (done : (l : ℕ) → l < k → IsPassed (cases l) o claims l (set_at old l) (set_at now l))
    (rest : (l : ℕ) → k ≤ l → set_at now l ≡ set_at old l) (elsewhere : (l : ℕ) → (l ≡ k → ⊥) → set_at new l ≡ set_at now l) (here : IsPassed (cases k) o claims k (set_at old k) (set_at new k)) where
  pub done_on : (l : ℕ) → l < k + 1 → IsPassed (cases l) o claims l (set_at old l) (set_at new l)
  done_on l less = elim (ℕ_discrete l k) [
    | yes e ↦ subst (λ m. IsPassed (cases m) o claims m (set_at old m) (set_at new m)) (sym e) here
    | no other ↦ subst (IsPassed (cases l) o claims l (set_at old l)) (sym (elsewhere l other)) (done l (omega (arith, less, other)))
  ]

  pub rest_on : (l : ℕ) → k + 1 ≤ l → set_at new l ≡ set_at old l
  rest_on l low = elsewhere l (λ e. absurd (omega (arith, e, low))) ∙ rest l (omega (arith, low))

-- what holds an answer unseen does so together with others
pub unseen_among : (a : Asked) (set all : Statuses) → ((s : Status) → Has set s → Has all s) → IsUnseen a set → IsUnseen a all
unseen_among asked.Call set all inside h = h
unseen_among (asked.Variable v) set all inside h = inside (Pending v) h
