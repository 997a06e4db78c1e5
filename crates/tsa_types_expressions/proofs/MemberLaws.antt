-- Members that are found with their numbers are those that are found by their names.
use Rattle.std.proofs.Common.{◌≡◌, ℕ, suc, List, [], ◌∷◌, Option, Some, option_map, Bool, true, false, if◌then◌else◌, refl}
use Rattle.std.specs.Str.{bytes_eq}
use Rattle.tsa_tree.specs.types.Lookups.{numbered}
use Rattle.tsa_tree.specs.types.Scopes.{found}

-- the thing beside a number
abbrev thing_of : {A : Type 0} → Option (ℕ × A) → Option A
thing_of m = option_map (λ n. n.1) m

by_test : {A : Type 0} (b : Bool) (k : ℕ) (thing : A) (numbers : Option (ℕ × A)) (things : Option A) → thing_of numbers ≡ things
    → thing_of (if b then Some (k, thing) else numbers) ≡ (if b then Some thing else things)
by_test true k thing numbers things e = refl
by_test false k thing numbers things e = e

pub numbered_found : {A : Type 0} (names : List (List ℕ × A)) (name : List ℕ) (k : ℕ) → option_map (λ m. m.1) (numbered names name k) ≡ found names name
numbered_found [] name k = refl
numbered_found (m ∷ rest) name k = by_test (bytes_eq name m.0) k m.1 (numbered rest name (suc k)) (found rest name) (numbered_found rest name (suc k))

pub ruleset members = (numbered_found)
