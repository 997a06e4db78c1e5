-- The rule that is found by a number has that number.
use Rattle.std.proofs.Common.{◌≡◌, ℕ, nat_eq, Bool, true, false, List, [], ◌∷◌, Some, find, refl, subst, eqb-true}
use Rattle.tsa_rules.specs.declared.rule.Rule.{Rule}
use Rattle.tsa_rules.specs.Fails.{all_rules, rule_number}

found_step : {A : Type 0} (p : A → Bool) (y : A) (ys : List A) (x : A) (b : Bool) → p y ≡ b → (find p ys ≡ Some x → p x ≡ true) → find p (y ∷ ys) ≡ Some x → p x ≡ true
found_step p y ys x true e rest h =
    let first : Some y ≡ Some x = rw e at h in
    let same : y ≡ x = cc in
    subst (λ z. p z ≡ true) same e
found_step p y ys x false e rest h = let later : find p ys ≡ Some x = rw e at h in rest later

found_passes : {A : Type 0} (p : A → Bool) (ys : List A) (x : A) → find p ys ≡ Some x → p x ≡ true
found_passes p [] x h = cc
found_passes p (y ∷ ys) x h = found_step p y ys x (p y) refl (found_passes p ys x) h

pub numbered : (n : ℕ) (r : Rule) → find (λ x. nat_eq (rule_number x) n) all_rules ≡ Some r → rule_number r ≡ n
numbered n r h = eqb-true (rule_number r) n (found_passes (λ x. nat_eq (rule_number x) n) all_rules r h)
