-- Along a block, place by place.
use Rattle.std.proofs.Common.{◌≡◌, ◌∙◌, ℕ, ◌+◌, ◌*◌, ◌<◌, ◌↔◌, suc, zero, inl, inr, List, [], ◌∷◌, ◌++◌, get_or, length, Some, slice_get}
use Rattle.std.proofs.Common.{sym, ap, subst, arith, add-one}
use Rattle.std.proofs.Math.Decide.{dec_lt}
use Rattle.std.proofs.lemmas.List.{get_or_default, length-append}
use Rattle.std.proofs.lemmas.Option.{slice_get_within}
use Rattle.tsa_graph_edges.specs.declared.link.Outcome as code
use Rattle.tsa_graph_edges.specs.Links.{outcome_of}
use Rattle.tsa_graph.specs.declared.sequence.Block.{Block}
use Rattle.tsa_graph.specs.Rows.{last_in, outcome_in, point_in}
use Rattle.tsa_rules.specs.Cases.{effect_in}
use Rattle.tsa_rules.specs.declared.case.Case.{Case}
use Rattle.tsa_rules.specs.declared.statuses.Statuses.{Statuses}
use Rattle.tsa_rules.specs.Sets.{Has, IsImage}
use Rattle.tsa_flow_solver.specs.Courses.{Carried}
use Rattle.tsa_flow_solver.specs.Passing.{IsCarried, IsLeft, IsStep, Passes}
use Rattle.tsa_flow_solver.specs.Rows.{set_at}
use Rattle.tsa_flow_solver.specs.Stages.{AreStages, IsNoted}
use Rattle.tsa_base.proofs.Options.{some_same as same_some}

pub carried_first : (cases : ℕ → Case) (b : Block) (from : Statuses) → IsCarried cases b from 0 from
carried_first cases b from t = (λ h. h, λ h. h)

pub carried_on : (cases : ℕ → Case) (b : Block) (from mid new : Statuses) (i : ℕ) → IsCarried cases b from i mid → IsStep cases b i mid new → IsCarried cases b from (i + 1) new
carried_on cases b from mid new i before step t = subst (λ n. Has new t ↔ Carried cases b from n t) (sym (add-one i)) (
  λ h. let y = (step t).0 h in (y.0, ((before y.0).0 y.1.0, y.1.1)),
  λ y. (step t).1 (y.0, ((before y.0).1 y.1.0, y.1.1)),
)

-- what a point makes, by its place in a block
pub step_of : (cases : ℕ → Case) (b : Block) (i p : ℕ) (o : code.Outcome) (before after : Statuses) → p ≡ point_in b i → outcome_of o ≡ outcome_in b i → Passes (cases p) o before after
    → IsStep cases b i before after
step_of cases b i p o before after point outcome h t =
    subst (λ q. Has after t ↔ IsImage (effect_in (cases q) (outcome_in b i)) before t) point (subst (λ u. Has after t ↔ IsImage (effect_in (cases p) u) before t) outcome (h t))

pub left_of : (cases : ℕ → Case) (b : Block) (p : ℕ) (o : code.Outcome) (before after : Statuses) → p ≡ point_in b (last_in b) → Passes (cases p) o before after → IsLeft cases b o before after
left_of cases b p o before after point h t = subst (λ q. Has after t ↔ IsImage (effect_in (cases q) (outcome_of o)) before t) point (h t)

-- the last point of a block
pub last_point : (b : Block) (p : ℕ) → length b.points.items ≡ length b.inner.items + 1 → p ≡ get_or b.points.items (length b.inner.items) p → p ≡ point_in b (last_in b)
last_point b p long is = is ∙ get_or_default b.points.items (length b.inner.items) p 0 (omega (arith, long))

slot_more : {A : Type 0} (xs : List A) (y x : A) (k : ℕ) → slice_get (xs ++ y ∷ []) k ≡ Some x → (k < length xs → slice_get xs k ≡ Some x) × (length xs ≡ k → y ≡ x)
slot_more [] y x zero h = (λ less. absurd (omega (arith, less)), λ e. same_some h)
slot_more [] y x (suc k) h = (λ less. absurd (omega (arith, less)), λ e. absurd (omega (arith, e)))
slot_more (z ∷ xs) y x zero h = (λ less. h, λ e. absurd (omega (arith, e)))
slot_more (z ∷ xs) y x (suc k) h = let rest = slot_more xs y x k h in (λ less. rest.0 (omega (arith, less)), λ e. rest.1 (omega (arith, e)))

-- a stage more, or none
module _ (cases : ℕ → Case) (b : Block) (from : Statuses) (lane index : ℕ) (row : List Statuses) (old new : List (List Statuses)) (inside : index < last_in b)
    (here : IsCarried cases b from index (set_at row lane)) (before : AreStages cases b from lane old) where
  stage_more : index ≡ length old * 4 → (k : ℕ) (r : List Statuses) → slice_get (old ++ row ∷ []) k ≡ Some r → (k * 4 < last_in b) × IsCarried cases b from (k * 4) (set_at r lane)
  stage_more begins k r at = elim (dec_lt k (length old)) [
    | yes less ↦ before k r ((slot_more old row r k at).0 less)
    | no past ↦ (
        let count : length (old ++ row ∷ []) ≡ length old + 1 = length-append old (row ∷ []) in
        let within : k < length (old ++ row ∷ []) = slice_get_within (old ++ row ∷ []) k r at in
        let last : length old ≡ k = omega (arith, count, within, past) in
        let place : index ≡ k * 4 = begins ∙ ap (λ n. n * 4) last in
        (subst (λ n. n < last_in b) place inside, subst (λ n. IsCarried cases b from n (set_at r lane)) place (subst (λ x. IsCarried cases b from index (set_at x lane)) ((slot_more old row r k at).1 last) here)))
  ]

  pub stages_on : IsNoted row index old new → AreStages cases b from lane new
  stages_on (inl same) = subst (AreStages cases b from lane) (sym same) before
  stages_on (inr more) = subst (AreStages cases b from lane) (sym more.1) (stage_more more.0)

pub no_stages : (cases : ℕ → Case) (b : Block) (from : Statuses) (lane : ℕ) → AreStages cases b from lane []
no_stages cases b from lane k row at = let within = slice_get_within [] k row at in absurd (omega (arith, within))
