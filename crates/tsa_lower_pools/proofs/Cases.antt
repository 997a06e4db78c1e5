-- A case leads to a point.
use Rattle.std.proofs.Common.{ℕ, suc, zero, ℤ, ◌-◌, ◌<◌, ◌&&◌, Bool, true, false, List, [], ◌∷◌, drop, All, int_le, arith, if◌then◌else◌}
use Rattle.std.proofs.lemmas.List.Elements.{All-drop, All-take}
use Rattle.tsa_lower_pools.specs.Inside.{CaseInside}
use Rattle.tsa_lower_pools.specs.Pools.{first_case, part_of}
use Rattle.tsa_lower_pools.specs.declared.code.Case.{Case}
use Rattle.tsa_lower_pools.specs.declared.code.PoolPart.{PoolPart}

either : (b : Bool) (x y n : ℕ) → x < n → y < n → (if b then x else y) < n
either true x y n h k = h
either false x y n h k = k

pub case_below : (z : ℤ) (ks : List Case) (rest n : ℕ) → All (CaseInside n) ks → rest < n → first_case z ks rest < n
case_below z [] rest n all h = h
case_below z (k ∷ ks) rest n all h = either (int_le k.value z && int_le z k.value) k.to (first_case z ks rest) n (all zero k (omega arith))
    (case_below z ks rest n (λ j d l. all (suc j) d (omega (arith, l))) h)

-- cases of a point among all
pub case_inside : (z : ℤ) (cases : List Case) (part : PoolPart) (rest n : ℕ) → All (CaseInside n) cases → rest < n → first_case z (part_of cases part) rest < n
case_inside z cases part rest n each h = case_below z (part_of cases part) rest n
    (All-take (CaseInside n) (part.end - part.from) (drop part.from cases) (All-drop (CaseInside n) part.from cases each)) h
