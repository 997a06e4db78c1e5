-- Points that keep statuses, and what points make of lanes.
use Rattle.std.proofs.Common.{◌≡◌, ◌∙◌, ◌⊎◌, inl, inr, ℕ, zero, suc, ◌+◌, ◌<◌, nat_eq, Bool, true, false, ◌||◌, List, [], ◌∷◌, ◌++◌}
use Rattle.std.proofs.Common.{Contains, get_or, set, get_or-set_same, get_or-set_other, take, length, Option, Some, None, is_some}
use Rattle.std.proofs.Common.{if◌then◌else◌, refl, sym, ap, subst, arith, true≢false, eqb-true, eq-eqb}
use Rattle.std.proofs.lemmas.List.{get_or-take, get_or_default, length-take-le, take_more}
use Rattle.std.proofs.lemmas.List.Elements.{Contains-append_left, Contains-push, Contains-push_cases}
use Rattle.std.specs.List.{list_any}
use Rattle.std.proofs.Math.Decide.{ℕ_discrete}
use Rattle.tsa_core.specs.Control.{Outcome}
use Rattle.tsa_graph_edges.specs.declared.link.Outcome as code
use Rattle.tsa_graph_edges.specs.Links.{outcome_of}
use Rattle.tsa_rules.specs.Cases.{after_asked, after_claim_in, after_role, after_variable, answer_told, effect_in, left_by_claim}
use Rattle.tsa_rules.specs.Effects.{after_decision}
use Rattle.tsa_rules.specs.declared.case.Asked.{Asked}
use Rattle.tsa_rules.specs.declared.case.Asked.TheVariants as asked
use Rattle.tsa_rules.specs.declared.case.Case.{Case}
use Rattle.tsa_rules.specs.declared.case.Role.{Role}
use Rattle.tsa_rules.specs.declared.case.Role.TheVariants as role
use Rattle.tsa_rules.specs.declared.mark.Claim.{Claim}
use Rattle.tsa_rules.specs.declared.statuses.Statuses.{Statuses}
use Rattle.tsa_rules.specs.Sets.{Has}
use Rattle.tsa_rules.specs.declared.status.Status.{Status}
use Rattle.tsa_rules.specs.declared.status.Status.TheVariants.{Free, Shared, Exclusive, Lent, Pending}
use Rattle.tsa_flow_solver.specs.Passing.{claimed, IsClaimPassed, IsPassed, IsPending, IsUnseen, Passes, passes, stays, unclaimed}
use Rattle.tsa_flow_solver.specs.Rows.{AreRising, no_statuses, set_at}

claim_keeps : (x : Case) (o : Outcome) (a : Option Claim) (s : Status) → is_some a ≡ false → after_claim_in x o a s ≡ s
claim_keeps x o None s e = refl
claim_keeps x o (Some a) s e = absurd (true≢false e)

chosen : (b : Bool) (s t : Status) → (b ≡ true → ⊥) → (if b then s else t) ≡ t
chosen true s t never = absurd (never refl)
chosen false s t never = refl

-- what isn't pending in a variable stays as it is where that turns out
decision_keeps : (v : ℕ) (after s : Status) → (s ≡ Pending v → ⊥) → after_decision v after s ≡ s
decision_keeps v after Free never = refl
decision_keeps v after Shared never = refl
decision_keeps v after (Exclusive n) never = refl
decision_keeps v after Lent never = refl
decision_keeps v after (Pending w) never = chosen (nat_eq v w) after (Pending w) (λ e. never (ap Pending (sym (eqb-true v w e))))

variable_keeps : (v : ℕ) (kept : Option Claim) (answer : Option Bool) (s : Status) → (s ≡ Pending v → ⊥) → after_variable v kept answer s ≡ s
variable_keeps v kept None s never = refl
variable_keeps v kept (Some answer) s never = decision_keeps v (left_by_claim kept answer) s never

asked_keeps : (a : Asked) (set : Statuses) (kept : Option Claim) (answer : Option Bool) (s : Status) → (IsUnseen a set → ⊥) → Has set s → after_asked a kept answer s ≡ s
asked_keeps asked.Call set kept answer s never h = refl
asked_keeps (asked.Variable v) set kept answer s never h = variable_keeps v kept answer s (λ e. never (subst (Has set) e h))

role_keeps : (r : Role) (set : Statuses) (kept : Option Claim) (o : Outcome) (s : Status) → (IsPending r set → ⊥) → Has set s → after_role r kept o s ≡ s
role_keeps (role.Tests t) set kept o s never h = asked_keeps t.asked set kept (answer_told o t) s never h
role_keeps (role.Declares v) set kept o s never h = refl
role_keeps (role.Leaves answer) set kept o s never h = refl
role_keeps role.Passes set kept o s never h = refl

-- where nothing claims the path and no pending answer is tested, a point keeps the statuses that it gets
pub unclaimed_keeps : (x : Case) (set : Statuses) → is_some x.mark.claim ≡ false → (IsPending x.role set → ⊥) → (o : Outcome) (s : Status) → Has set s → effect_in x o s ≡ s
unclaimed_keeps x set e never o s h = ap (after_role x.role x.kept o) (claim_keeps x o x.mark.claim s e) ∙ role_keeps x.role set x.kept o s never h

-- a set that is kept is its own image
pub kept_passes : (x : Case) (o : code.Outcome) (set : Statuses) → is_some x.mark.claim ≡ false → (IsPending x.role set → ⊥) → Passes x o set set
kept_passes x o set e never t = (
  λ h. (t, (h, unclaimed_keeps x set e never (outcome_of o) t h)),
  λ y. subst (Has set) (sym (unclaimed_keeps x set e never (outcome_of o) y.0 y.1.0) ∙ y.1.1) y.1.0,
)

-- what a lane's path isn't claimed by, where no claim lists it
pub unlisted : (x : Case) (claims : List ℕ) (lane : ℕ) → (is_some x.mark.claim ≡ true → Contains claims lane) → (Contains claims lane → ⊥) → is_some x.mark.claim ≡ false
unlisted x claims lane listed none = by (is_some x.mark.claim) refl
  where
    by : (b : Bool) → is_some x.mark.claim ≡ b → is_some x.mark.claim ≡ false
    by true e = absurd (none (listed e))
    by false e = e

-- first where it holds an answer unseen, and then where it is claimed: that is all that a point makes of a lane
module _ (x : Case) (o : code.Outcome) (claims : List ℕ) (lane : ℕ) (listed : is_some x.mark.claim ≡ true → Contains claims lane) where
  claimed_last : (before mid after : Statuses) → (Contains claims lane) ⊎ (IsPending x.role before → ⊥) → mid ≡ before → IsClaimPassed x o claims lane mid after → Passes x o before after
  claimed_last before mid after held same (claimed among p) = subst (λ s. Passes x o s after) same p
  claimed_last before mid after (inl among) same (unclaimed none e) = absurd (none among)
  claimed_last before mid after (inr never) same (unclaimed none e) = subst (Passes x o before) (sym (e ∙ same)) (kept_passes x o before (unlisted x claims lane listed none) never)

  pub both_passes : (before mid after : Statuses) → IsPassed x o claims lane before mid → IsClaimPassed x o claims lane mid after → Passes x o before after
  both_passes before mid after (passes none p) (claimed among q) = absurd (none among)
  both_passes before mid after (passes none p) (unclaimed none' e) = subst (Passes x o before) (sym e) p
  both_passes before mid after (stays held same) last = claimed_last before mid after held same last

  -- a lane that holds no answer unseen
  pub claims_pass : (before after : Statuses) → (IsPending x.role before → ⊥) → IsClaimPassed x o claims lane before after → Passes x o before after
  claims_pass before after never last = claimed_last before before after (inr never) refl last

-- claims that are passed one by one
module _ (xs : List ℕ) (rising : AreRising xs) (k : ℕ) (there : k < length xs) where
  abbrev at : ℕ
  at = get_or xs k 0

  next_claim : take (k + 1) xs ≡ take k xs ++ at ∷ []
  next_claim = take_more xs k 0 there

  -- a claim comes once
  fresh : Contains (take k xs) at → ⊥
  fresh (i, inside, is) =
      let long : length (take k xs) ≡ k = length-take-le k xs (omega (arith, there)) in
      let low : i < k = omega (arith, inside, long) in
      let within : i < length xs = omega (arith, low, there) in
      let same : get_or (take k xs) i at ≡ get_or xs i at = get_or-take k xs i at low in
      let here : get_or xs i 0 ≡ at = sym (get_or_default xs i at 0 within) ∙ (sym same ∙ is) in
      let less : get_or xs i 0 < at = rising i k low there in
      absurd (omega (arith, less, here))

  module _ (x : Case) (o : code.Outcome) (before : Statuses) where
    -- the lane of the claim
    pub next_claimed : (now after : Statuses) → IsClaimPassed x o (take k xs) at before now → Passes x o now after → IsClaimPassed x o (take (k + 1) xs) at before after
    next_claimed now after (claimed among p) q = absurd (fresh among)
    next_claimed now after (unclaimed none e) q =
        claimed (subst (λ ys. Contains ys at) (sym next_claim) (Contains-push (take k xs) at)) (subst (λ s. Passes x o s after) e q)

    -- any other
    pub others_stay : (lane : ℕ) (now : Statuses) → (lane ≡ at → ⊥) → IsClaimPassed x o (take k xs) lane before now → IsClaimPassed x o (take (k + 1) xs) lane before now
    others_stay lane now other (claimed among p) = claimed (subst (λ ys. Contains ys lane) (sym next_claim) (Contains-append_left (take k xs) (at ∷ []) lane among)) p
    others_stay lane now other (unclaimed none e) =
        unclaimed (λ c. elim (Contains-push_cases (take k xs) at lane (subst (λ ys. Contains ys lane) next_claim c)) [ inl y ↦ none y | inr y ↦ other (sym y) ]) e

-- a lane that a test doesn't find isn't among some
among_tests : (xs : List ℕ) (lane : ℕ) → Contains xs lane → list_any (nat_eq lane) xs ≡ true
among_tests [] lane (i, inside, is) = absurd (omega (arith, inside))
among_tests (x ∷ xs) lane (zero, inside, is) = ap (λ b. b || list_any (nat_eq lane) xs) (eq-eqb lane x (sym is))
among_tests (x ∷ xs) lane (suc i, inside, is) = either (nat_eq lane x) (list_any (nat_eq lane) xs) (among_tests xs lane (i, omega (arith, inside), is))
  where
    either : (a b : Bool) → b ≡ true → (a || b) ≡ true
    either true b e = refl
    either false b e = e

pub not_among : (xs : List ℕ) (lane : ℕ) → list_any (nat_eq lane) xs ≡ false → Contains xs lane → ⊥
not_among xs lane none among = true≢false (sym (among_tests xs lane among) ∙ none)

later : (x : ℕ) (xs : List ℕ) (lane : ℕ) → Contains xs lane → Contains (x ∷ xs) lane
later x xs lane (i, inside, is) = (suc i, omega (arith, inside), is)

among_by : (x : ℕ) (xs : List ℕ) (lane : ℕ) (b : Bool) → nat_eq lane x ≡ b → (b ≡ false → Contains xs lane) → Contains (x ∷ xs) lane
among_by x xs lane true same rest = (0, omega arith, sym (eqb-true lane x same))
among_by x xs lane false other rest = later x xs lane (rest refl)

pub is_among : (xs : List ℕ) (lane : ℕ) → list_any (nat_eq lane) xs ≡ true → Contains xs lane
is_among [] lane e = absurd (true≢false (sym e))
is_among (x ∷ xs) lane e = among_by x xs lane (nat_eq lane x) refl (λ other. is_among xs lane (subst (λ b. (b || list_any (nat_eq lane) xs) ≡ true) other e))

-- a claim's lane passes; any other one stays
module _ (n points : ℕ) (cases : ℕ → ℕ → Case) (point : ℕ) (o : code.Outcome) (xs : List ℕ) (rising : AreRising xs) (k : ℕ) (there : k < length xs) (old now new : List Statuses) (wide : length now ≡ n)
    (before : (lane : ℕ) → lane < n → IsClaimPassed (cases lane point) o (take k xs) lane (set_at old lane) (set_at now lane)) where
  pub claim_on : (at : ℕ) → at ≡ get_or xs k 0 → (out : Statuses) → Passes (cases at point) o (set_at now at) out → new ≡ set now at out
      → (lane : ℕ) → lane < n → IsClaimPassed (cases lane point) o (take (k + 1) xs) lane (set_at old lane) (set_at new lane)
  claim_on at is out made put lane less = elim (ℕ_discrete lane at) [
    | yes e ↦ subst (λ m. IsClaimPassed (cases m point) o (take (k + 1) xs) m (set_at old m) (set_at new m)) (sym e)
        (subst (λ s. IsClaimPassed (cases at point) o (take (k + 1) xs) at (set_at old at) s) (sym (ap (λ ys. set_at ys at) put ∙ get_or-set_same now at out no_statuses (subst (λ m. at < m) (sym wide) (subst (λ m. m < n) e less))))
        (subst (λ m. IsClaimPassed (cases at point) o (take (k + 1) xs) m (set_at old at) out) (sym is)
        (next_claimed xs rising k there (cases at point) o (set_at old at) (set_at now at) out (subst (λ m. IsClaimPassed (cases at point) o (take k xs) m (set_at old at) (set_at now at)) is (before at (subst (λ m. m < n) e less))) made)))
    | no other ↦ subst (IsClaimPassed (cases lane point) o (take (k + 1) xs) lane (set_at old lane)) (sym (ap (λ ys. set_at ys lane) put ∙ get_or-set_other now at lane out no_statuses other))
        (others_stay xs rising k there (cases lane point) o (set_at old lane) lane (set_at now lane) (λ e. other (e ∙ sym is)) (before lane less))
  ]

-- no claim is passed yet, and all are
pub none_claimed : (x : Case) (o : code.Outcome) (xs : List ℕ) (lane : ℕ) (s : Statuses) → IsClaimPassed x o [] lane s s
none_claimed x o xs lane s = unclaimed (λ c. absurd (omega (arith, c.1))) refl
