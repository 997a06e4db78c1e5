-- Where there is no room for a path, there are more than a function may have.
use Rattle.std.proofs.Common.{◌≡◌, ◌∙◌, ◌+◌, ◌≤◌, arith, nat_le, nat_lt, Bool, true, false, not, ◌&&◌, List, [], ◌∷◌, ◌++◌, length, Some}
use Rattle.std.proofs.Common.{None, refl, sym, ap, if◌then◌else◌}
use Rattle.std.proofs.lemmas.Bool.Decides.{nat_tests}
use Rattle.std.proofs.lemmas.List.{length-append}
use Rattle.tsa_place_model.specs.Ways.{Way}
use Rattle.tsa_path.specs.PathTables.{path_limit, is_full, is_known, with_path}
use Rattle.tsa_path.proofs.Numbers.{table_stays_within}
use Rattle.tsa_profile_points.specs.Gathering.{with_ways}
use Rattle.tsa_profile_points.specs.Ways.{each_once, unless_many}

-- none are none with any others
none_stays : (ws : List Way) → with_ways None ws ≡ None
unfolding with_ways
none_stays [] = refl
none_stays (w ∷ rest) = none_stays rest

-- no path is lost
one_grows : (known : List Way) (w : Way) (b : Bool) → length known ≤ length (if b then known else known ++ w ∷ [])
one_grows known w true = omega arith
one_grows known w false = let e = length-append known (w ∷ []) in omega (arith, e)

grows : (known ws : List Way) → length known ≤ length (each_once known ws)
grows known [] = omega arith
grows known (w ∷ rest) =
    let a = one_grows known w (is_known known w) in
    let b = grows (with_path known w) rest in
    omega (arith, a, b)

-- one for which there is no room is one too many
over : (known : List Way) (w : Way) (b : Bool) → (not b && nat_le path_limit (length known)) ≡ true → path_limit + 1 ≤ length (if b then known else known ++ w ∷ [])
over known w true e = absurd cc
over known w false e = let l = length-append known (w ∷ []) in grind (arith, nat_tests, e, l)

few : (ways : List Way) → length ways ≤ path_limit → unless_many ways ≡ Some ways
few ways h = let e : nat_lt path_limit (length ways) ≡ false = grind (arith, nat_tests, h) in ap (λ b. if b then None else Some ways) e

many : (ways : List Way) → path_limit + 1 ≤ length ways → unless_many ways ≡ None
many ways h = let e : nat_lt path_limit (length ways) ≡ true = grind (arith, nat_tests, h) in ap (λ b. if b then None else Some ways) e

next : (known : List Way) (w : Way) (rest : List Way) (b : Bool) → is_full known w ≡ b → length known ≤ path_limit
    → (length (with_path known w) ≤ path_limit → with_ways (Some (with_path known w)) rest ≡ unless_many (each_once (with_path known w) rest))
    → with_ways (if b then None else Some (with_path known w)) rest ≡ unless_many (each_once (with_path known w) rest)
next known w rest true e h go =
    let a = over known w (is_known known w) e in
    let b = grows (with_path known w) rest in
    none_stays rest ∙ sym (many (each_once (with_path known w) rest) (omega (arith, a, b)))
next known w rest false e h go = go (table_stays_within known w h e)

gathers : (known ws : List Way) → length known ≤ path_limit → with_ways (Some known) ws ≡ unless_many (each_once known ws)
unfolding with_ways
gathers known [] h = sym (few known h)
gathers known (w ∷ rest) h = next known w rest (is_full known w) refl h (gathers (with_path known w) rest)

pub gathered_all : (ws : List Way) → with_ways (Some []) ws ≡ unless_many (each_once [] ws)
gathered_all ws = gathers [] ws (omega arith)
