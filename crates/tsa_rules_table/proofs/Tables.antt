-- What the first paths of a table are after it took a further one in.
use Rattle.std.proofs.Common.{◌≡◌, ◌∙◌, ℕ, ◌≤◌, arith, nat_le, nat_lt, Bool, true, false, not, ◌&&◌, if◌then◌else◌, List}
use Rattle.std.proofs.Common.{[], ◌∷◌, ◌++◌, length, take, None, refl}
use Rattle.std.proofs.lemmas.Bool.Decides.{nat_tests}
use Rattle.std.proofs.lemmas.List.{length-append, take-append-le}
use Rattle.tsa_place_model.specs.Ways.{Way}
use Rattle.tsa_path.specs.PathTables.{is_full, is_known, number_of, with_path, path_limit, refusal}
use Rattle.tsa_path.specs.declared.refusal.InternRefusal.TheVariants.{Full, NoMemory}
use Rattle.tsa_rules_table.specs.Numbers.{below_count, known_number}
use Rattle.tsa_rules_table.proofs.Standing.{known_in_front, unknown_behind}

-- the first paths stay where a further one is taken in
pub front_stays : (k : ℕ) (paths : List Way) (w : Way) → k ≤ length paths → take k (with_path paths w) ≡ take k paths
front_stays k paths w within = by (is_known paths w)
  where
    by : (b : Bool) → take k (if b then paths else paths ++ w ∷ []) ≡ take k paths
    by true = refl
    by false = take-append-le k paths (w ∷ []) within

pub within_stays : (k : ℕ) (paths : List Way) (w : Way) → k ≤ length paths → k ≤ length (with_path paths w)
within_stays k paths w within = by (is_known paths w)
  where
    by : (b : Bool) → k ≤ length (if b then paths else paths ++ w ∷ [])
    by true = within
    by false = omega (arith, length-append paths (w ∷ []))

-- where there is no room for a path, it has no number
full_unknown : (paths : List Way) (w : Way) → is_full paths w ≡ true → is_known paths w ≡ false
full_unknown paths w e = by (is_known paths w) e
  where
    by : (b : Bool) → (not b && nat_le path_limit (length paths)) ≡ true → b ≡ false
    by true e = cc
    by false e = refl

refused_full : (paths : List Way) (v w : Way) → Full v ≡ refusal paths w → is_full paths w ≡ true
refused_full paths v w e = by (is_full paths w) e
  where
    by : (b : Bool) → Full v ≡ (if b then Full w else NoMemory w) → b ≡ true
    by true e = refl
    by false e = cc

pub full_none : (k : ℕ) (paths : List Way) (v w : Way) → k ≤ length paths → Full v ≡ refusal paths w → None ≡ known_number (take k paths) w
full_none k paths v w within e =
    let behind : number_of paths w ≡ length paths = unknown_behind paths w (full_unknown paths w (refused_full paths v w e)) in
    none (number_of paths w) (omega arith) ∙ known_in_front k paths w within
  where
    none : (n : ℕ) → k ≤ n → None ≡ below_count n k
    none n past = let t : nat_lt n k ≡ false = grind (arith, nat_tests) in rw t refl
