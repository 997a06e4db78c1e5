-- A return is judged by the actions since the call.
use Rattle.std.proofs.Common.{◌≡◌, ◌∙◌, ℕ, zero, suc, ◌+◌, ◌<◌, nat_eq, not, ◌&&◌, Bool, true, false, List, length, refl, ap, arith}
use Rattle.std.specs.List.{list_all}
use Rattle.tsa_base.specs.declared.value.Value.{Value}
use Rattle.tsa_core.specs.Programs.{Program}
use Rattle.tsa_sched.specs.declared.event.Mode.{Mode}
use Rattle.tsa_sched.specs.declared.event.Mode.TheVariants.{Exclusive, Shared}
use Rattle.tsa_mean.specs.Returns.{attrs_of, given_back, taken_over}
use Rattle.tsa_mean.specs.States.{Frame, Holds}
use Rattle.tsa_mean.specs.Violations.{all_below, is_counted, names_lock}
use Rattle.tsa_exec_actions.specs.Actions.{givings, HoldsSince, is_balanced, ReturnsAreJudgedByActions, takings}
use Rattle.tsa_exec_actions.specs.declared.action.Action.{Action}

-- two tests with the same outcome
same_test : (a b c d : ℕ) → (a ≡ b → c ≡ d) → (c ≡ d → a ≡ b) → nat_eq a b ≡ nat_eq c d
same_test a b c d to from = by (nat_eq a b) (nat_eq c d) refl refl
  where
    by : (p q : Bool) → nat_eq a b ≡ p → nat_eq c d ≡ q → p ≡ q
    by true true e f = refl
    by false false e f = refl
    by true false e f = let same : a ≡ b = grind (arith, e) in let other : c ≡ d = to same in absurd (grind (arith, f, other))
    by false true e f = let same : c ≡ d = grind (arith, f) in let other : a ≡ b = from same in absurd (grind (arith, e, other))

-- holds, those at the call, and what was taken, given, given back and taken over: both tests say the same
same_balance : (now call taken given less more : ℕ) → now + given ≡ call + taken
    → nat_eq (now + less) (call + more) ≡ nat_eq (taken + less) (given + more)
same_balance now call taken given less more since = same_test (now + less) (call + more) (taken + less) (given + more)
    (λ e. omega (arith, since, e)) (λ e. omega (arith, since, e))

-- two tests of each number below one
all_alike : (n : ℕ) (f g : ℕ → Bool) → ((k : ℕ) → k < n → f k ≡ g k) → all_below n f ≡ all_below n g
unfolding all_below
all_alike zero f g same = refl
all_alike (suc n) f g same = ap (λ b. b && all_below n f) (same n (omega arith))
    ∙ ap (λ b. g n && b) (all_alike n f g (λ k inside. same k (omega (arith, inside))))

module _ (u : Program) (now : Holds) (frame : Frame) (v : Value) (actions : List Action)
    (since : HoldsSince (length u.layout.places) now frame.at_call actions) where
  in_mode : (lock : ℕ) → lock < length u.layout.places → (mode : Mode)
      → is_counted u now frame v lock mode ≡ is_balanced u frame v actions lock mode
  in_mode lock inside mode = same_balance (now lock mode) (frame.at_call lock mode) (takings actions lock mode) (givings actions lock mode)
      (given_back u frame v (attrs_of u frame) lock mode) (taken_over u frame v (attrs_of u frame) lock mode) (since lock inside mode)

  in_both : (lock : ℕ) → lock < length u.layout.places
      → (is_counted u now frame v lock Exclusive && is_counted u now frame v lock Shared)
      ≡ (is_balanced u frame v actions lock Exclusive && is_balanced u frame v actions lock Shared)
  in_both lock inside = ap (λ b. b && is_counted u now frame v lock Shared) (in_mode lock inside Exclusive)
      ∙ ap (λ b. is_balanced u frame v actions lock Exclusive && b) (in_mode lock inside Shared)

pub returns_are_judged_by_actions : ReturnsAreJudgedByActions
returns_are_judged_by_actions u now frame v actions since = ap (λ b. not (list_all (names_lock u frame v) (attrs_of u frame) && b))
    (all_alike (length u.layout.places) (λ lock. is_counted u now frame v lock Exclusive && is_counted u now frame v lock Shared)
    (λ lock. is_balanced u frame v actions lock Exclusive && is_balanced u frame v actions lock Shared)
    (in_both u now frame v actions since))
