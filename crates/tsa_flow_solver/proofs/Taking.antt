-- A row takes in another one, lane by lane.
use Rattle.std.proofs.Common.{◌≡◌, ◌∙◌, ℕ, ◌+◌, ◌^◌, ◌<◌, ◌≤◌, Bool, true, false, IsTrue, not, nat_eq, eq-eqb, List, length, set, refl, sym}
use Rattle.std.proofs.Common.{ap, subst, arith, true≢false, length-set, get_or-set_same, get_or-set_other}
use Rattle.std.proofs.Math.Decide.{ℕ_discrete}
use Rattle.std.proofs.lemmas.List.{set-get_or}
use Rattle.std.proofs.lemmas.List.Sums.{sum_by-set}
use Rattle.tsa_rules.specs.declared.statuses.Statuses.{Statuses}
use Rattle.tsa_flow_solver.specs.Rows.{AreSmall, IsTakenIn, no_statuses, set_at, union, weight}

pub record Taking (old others now : List Statuses) (lane : ℕ) (grown : Bool) : Type 0 where
  pub long : length now ≡ length old
  pub each : (l : ℕ) → l < lane → set_at now l ≡ union (set_at old l) (set_at others l)
  pub rest : (l : ℕ) → lane ≤ l → set_at now l ≡ set_at old l
  pub small : AreSmall old → AreSmall now
  pub least : weight old ≤ weight now
  pub same : grown ≡ false → now ≡ old
  pub more : grown ≡ true → weight old < weight now

pub none_taken : (old others : List Statuses) → Taking old others old 0 false
none_taken old others = record {
  long = refl;
  each = λ l less. absurd (omega (arith, less));
  rest = λ l low. refl;
  small = λ h. h;
  least = omega arith;
  same = λ e. refl;
  more = λ e. absurd (true≢false (sym e));
}

module _ (old others now new : List Statuses) (lane : ℕ) (grown : Bool) (before : Taking old others now lane grown) (inside : lane < length now) (out : Statuses) (is_out : out ≡ set_at others lane)
    (is_new : new ≡ set now lane (union (set_at now lane) out)) (fits : (union (set_at now lane) out).bits < 2 ^ 64) where
  here : set_at new lane ≡ union (set_at old lane) (set_at others lane)
  here = ap (λ xs. set_at xs lane) is_new ∙ (get_or-set_same now lane (union (set_at now lane) out) no_statuses inside
      ∙ (ap (λ s. union s out) (before.rest lane (omega arith)) ∙ ap (union (set_at old lane)) is_out))

  elsewhere : (l : ℕ) → (l ≡ lane → ⊥) → set_at new l ≡ set_at now l
  elsewhere l other = ap (λ xs. set_at xs l) is_new ∙ get_or-set_other now lane l (union (set_at now lane) out) no_statuses other

  each_on : (l : ℕ) → l < lane + 1 → set_at new l ≡ union (set_at old l) (set_at others l)
  each_on l less = elim (ℕ_discrete l lane) [
    | yes e ↦ subst (λ k. set_at new k ≡ union (set_at old k) (set_at others k)) (sym e) here
    | no other ↦ elsewhere l other ∙ before.each l (omega (arith, less, other))
  ]

  rest_on : (l : ℕ) → lane + 1 ≤ l → set_at new l ≡ set_at old l
  rest_on l low = elsewhere l (λ e. absurd (omega (arith, e, low))) ∙ before.rest l (omega (arith, low))

  small_on : AreSmall old → AreSmall new
  small_on h l = elim (ℕ_discrete l lane) [
    | yes e ↦ subst (λ (s : Statuses). s.bits < 2 ^ 64) (sym (ap (set_at new) e ∙ (ap (λ xs. set_at xs lane) is_new ∙ get_or-set_same now lane (union (set_at now lane) out) no_statuses inside))) fits
    | no other ↦ subst (λ (s : Statuses). s.bits < 2 ^ 64) (sym (elsewhere l other)) (before.small h l)
  ]

  heavier : weight new + (set_at now lane).bits ≡ weight now + (union (set_at now lane) out).bits
  heavier = subst (λ xs. weight xs + (set_at now lane).bits ≡ weight now + (union (set_at now lane) out).bits) (sym is_new) (sum_by-set (λ set. set.bits) now lane (union (set_at now lane) out) no_statuses inside)

  -- one set has grown
  pub one_grown : (set_at now lane).bits < (union (set_at now lane) out).bits → Taking old others new (lane + 1) true
  one_grown up = record {
    long = ap length is_new ∙ (length-set now lane (union (set_at now lane) out) ∙ before.long);
    each = each_on;
    rest = rest_on;
    small = small_on;
    least = omega (arith, heavier, up, before.least);
    same = λ e. absurd (true≢false e);
    more = λ e. omega (arith, heavier, up, before.least);
  }

  -- or it has not
  pub one_same : union (set_at now lane) out ≡ set_at now lane → Taking old others new (lane + 1) grown
  one_same e = record {
    long = ap length still ∙ before.long;
    each = each_on;
    rest = rest_on;
    small = small_on;
    least = subst (λ xs. weight old ≤ weight xs) (sym still) before.least;
    same = λ f. still ∙ before.same f;
    more = λ f. subst (λ xs. weight old < weight xs) (sym still) (before.more f);
  }
    where
      still : new ≡ now
      still = is_new ∙ (ap (set now lane) e ∙ set-get_or now lane no_statuses)

pub all_taken : (old others now : List Statuses) (lane : ℕ) (grown : Bool) → Taking old others now lane grown → length old ≤ lane → IsTakenIn old others now grown
all_taken old others now lane grown h past = record {
  long = h.long;
  each = λ l inside. h.each l (omega (arith, inside, past));
  small = h.small;
  same = h.same;
  more = h.more;
}

-- what has grown is more
pub rose : (a m : ℕ) → a ≤ m → IsTrue (not (nat_eq m a)) → a < m
rose a m low up = elim (ℕ_discrete m a) [ yes e ↦ absurd (true≢false (sym up ∙ ap not (eq-eqb m a e))) | no n ↦ omega arith ]
