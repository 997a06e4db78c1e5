-- Keys, seen as the paths in them.
use Rattle.std.proofs.Common.{◌≡◌, ◌∙◌, ℕ, ◌+◌, ◌≤◌, arith, nat_le, Bool, true, false, not, ◌&&◌, ◌||◌, if◌then◌else◌, List, [], ◌∷◌, ◌++◌}
use Rattle.std.proofs.Common.{map, length, Result, Ok, Err, IfOk, OnErr, ap, refl, sym, subst}
use Rattle.std.proofs.lemmas.Bool.Decides.{nat_tests}
use Rattle.std.proofs.lemmas.List.{length-append, length-map, map-append}
use Rattle.std.specs.List.{list_any, position_or_len}
use Rattle.indexmap.specs.IndexSet.{insert_key}
use Rattle.tsa_place_model.specs.Ways.{Way}
use Rattle.tsa_path.specs.Sameness.{same_way}
use Rattle.tsa_path.specs.PathTables.{path_limit, is_known, number_of, with_path, is_full}
use Rattle.tsa_path.specs.declared.key.Key.{Key}
use Rattle.tsa_path.specs.contracts.key.KeyPartialEq.TheImpl as test
use Rattle.tsa_path.proofs.PathsApart.{root_test_is, steps_test_are}

abbrev pub paths : List Key → List Way
paths keys = map (λ key. key.path) keys

pub key_test_is : (a b : Key) → test.ghosts.eq a b ≡ same_way a.path b.path
key_test_is a b = (λ i. root_test_is a.path.root b.path.root i && steps_test_are a.path.steps b.path.steps i)

pub known_is : (key : Key) (keys : List Key) → list_any (test.ghosts.eq key) keys ≡ is_known (paths keys) key.path
known_is key [] = refl
known_is key (x ∷ keys) = (λ i. key_test_is key x i || known_is key keys i)

pub number_is : (key : Key) (keys : List Key) → position_or_len (test.ghosts.eq key) keys ≡ number_of (paths keys) key.path
number_is key [] = refl
number_is key (x ∷ keys) = (λ i. if not (key_test_is key x i) then 1 + number_is key keys i else 0)

either : (b : Bool) (key : Key) (keys : List Key) → paths (if b then keys else keys ++ key ∷ []) ≡ (if b then paths keys else paths keys ++ key.path ∷ [])
either true key keys = refl
either false key keys = map-append (λ key. key.path) keys (key ∷ [])

pub insert_is : (key : Key) (keys : List Key) → paths (insert_key test.ghosts.eq keys key) ≡ with_path (paths keys) key.path
insert_is key keys =
    ap (λ b. paths (if b then keys else keys ++ key ∷ [])) (known_is key keys) ∙ either (is_known (paths keys) key.path) key keys

-- a new path is taken only where there is room for it
room : (known : Bool) (n m : ℕ) → (not known && nat_le path_limit n) ≡ false → n ≤ path_limit → (known ≡ true → m ≡ n) → (known ≡ false → m ≡ n + 1) → m ≤ path_limit
room true n m e h same more = let k = same refl in omega (arith, h, k)
room false n m e h same more = let k = more refl in grind (arith, nat_tests, e, h, k)

shorter : (known : Bool) (keys : List Key) (key : Key) → known ≡ true → length (if known then keys else keys ++ key ∷ []) ≡ length keys
shorter known keys key e = ap (λ b. length (if b then keys else keys ++ key ∷ [])) e

longer : (known : Bool) (keys : List Key) (key : Key) → known ≡ false → length (if known then keys else keys ++ key ∷ []) ≡ length keys + 1
longer known keys key e = ap (λ b. length (if b then keys else keys ++ key ∷ [])) e ∙ length-append keys (key ∷ [])

inserted : (key : Key) (keys : List Key) → is_full (paths keys) key.path ≡ false → length keys ≤ path_limit → length (insert_key test.ghosts.eq keys key) ≤ path_limit
inserted key keys e h =
    let known = list_any (test.ghosts.eq key) keys in
    let room_left : (not known && nat_le path_limit (length keys)) ≡ false =
    ap (λ b. not b && nat_le path_limit (length keys)) (known_is key keys) ∙ ap (λ n. not (is_known (paths keys) key.path) && nat_le path_limit n) (sym (length-map keys (λ k. k.path))) ∙ e
    in
    room known (length keys) (length (insert_key test.ghosts.eq keys key)) room_left h (shorter known keys key) (longer known keys key)

-- after a key was inserted or refused
pub within : {E : Type 0} (key : Key) (before after : List Key) (r : Result (ℕ × Bool) E) → is_full (paths before) key.path ≡ false → length before ≤ path_limit
    → IfOk r (λ added. after ≡ insert_key test.ghosts.eq before key) → OnErr r (after ≡ before) → length after ≤ path_limit
within key before after (Ok added) e h ok err = subst (λ l. length l ≤ path_limit) (sym ok) (inserted key before e h)
within key before after (Err refused) e h ok err = subst (λ l. length l ≤ path_limit) (sym err) h
