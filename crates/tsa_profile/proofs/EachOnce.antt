-- What stands in a list stands in the list of each once, at some place.
use Rattle.std.proofs.Common.{◌≡◌, ℕ, zero, suc, List, [], ◌∷◌, Some, slice_get, subst}
use Rattle.tsa_place_model.specs.Ways.{Way}
use Rattle.tsa_profile_items.specs.Ways.{each_once}
use Rattle.tsa_path.specs.PathTables.{with_path}
use Rattle.tsa_path.proofs.Numbers.{numbers_stay}

-- what comes stands among the others
pub stays : (known ws : List Way) (n : ℕ) (w : Way) → slice_get known n ≡ Some w → slice_get (each_once known ws) n ≡ Some w
stays known [] n w at = at
stays known (v ∷ ws) n w at = stays (with_path known v) ws n w (numbers_stay.stays known v w n at)

pub comes : (known ws : List Way) (k : ℕ) (w : Way) → slice_get ws k ≡ Some w → (n : ℕ) × (slice_get (each_once known ws) n ≡ Some w)
comes known [] k w at = absurd cc
comes known (v ∷ ws) zero w at =
    let same : v ≡ w = cc in
    subst (λ x. (n : ℕ) × (slice_get (each_once (with_path known v) ws) n ≡ Some x)) same (_, stays (with_path known v) ws _ v (numbers_stay.stands known v))
comes known (v ∷ ws) (suc k) w at = comes (with_path known v) ws k w at
