-- Rows whose statuses are equal one by one are the same.
use Rattle.std.proofs.Common.{◌≡◌, true, List, [], ◌∷◌, refl, ap, ap₂, eqb-true}
use Rattle.std.specs.Cmp.Lexicographic.{pointwise}
use Rattle.tsa_rules.specs.contracts.statuses.StatusesPartialEq.TheImpl as test
use Rattle.tsa_rules.specs.declared.statuses.Statuses.{Statuses}
use Rattle.tsa_base.proofs.Truths.{left_part, never_true as never, right_part}

set_same : (a b : Statuses) → test.ghosts.eq a b ≡ true → a ≡ b
set_same a b e = ap (λ n. record { bits = n }) (eqb-true a.bits b.bits e)

pub rows_same : (a b : List Statuses) → pointwise test.ghosts.eq a b ≡ true → a ≡ b
rows_same [] [] e = refl
rows_same [] (y ∷ b) e = never e
rows_same (x ∷ a) [] e = never e
rows_same (x ∷ a) (y ∷ b) e =
    ap₂ (λ z c. z ∷ c) (set_same x y (left_part (test.ghosts.eq x y) (pointwise test.ghosts.eq a b) e)) (rows_same a b (right_part (test.ghosts.eq x y) (pointwise test.ghosts.eq a b) e))
