-- What some of different keys hold: the next key isn't among those before it.
use Rattle.std.proofs.Common.{◌≡◌, ◌∙◌, ℕ, zero, suc, ◌+◌, Bool, true, false, ◌||◌, if◌then◌else◌, List, [], ◌∷◌, ◌++◌, take, Some, slice_get, sym, ap, refl}
use Rattle.std.proofs.lemmas.List.{take_more}
use Rattle.std.proofs.lemmas.Option.{get_or_from_slice_get, slice_get_within}
use Rattle.std.specs.List.{list_any, AllByRecursion, IsDistinct}
use Rattle.indexmap.specs.IndexSet.{insert_key}
use Rattle.tsa_place_model.specs.Ways.{Way}
use Rattle.tsa_path.specs.Sameness.{same_way}
use Rattle.tsa_path.specs.declared.key.Key.{Key}
use Rattle.tsa_path.specs.contracts.key.KeyPartialEq.TheImpl as test
use Rattle.tsa_path.proofs.Keys.{key_test_is}
use Rattle.tsa_path.proofs.PathsApart.{way_equal, way_itself}

-- ways are told apart from either side
ways_apart : (v w : Way) (b : Bool) → same_way w v ≡ b → same_way v w ≡ false → b ≡ false
ways_apart v w false e apart = refl
ways_apart v w true e apart = let both : true ≡ false = sym (ap (same_way v) (way_equal w v e) ∙ way_itself v) ∙ apart in cc

keys_apart : (x k : Key) → test.ghosts.eq x k ≡ false → test.ghosts.eq k x ≡ false
keys_apart x k apart = key_test_is k x ∙ ways_apart x.path k.path (same_way k.path x.path) refl (sym (key_test_is x k) ∙ apart)

apart_there : (x k : Key) (keys : List Key) (n : ℕ) → AllByRecursion (λ y. test.ghosts.eq x y ≡ false) keys → slice_get keys n ≡ Some k → test.ghosts.eq x k ≡ false
apart_there x k [] n all there = cc
apart_there x k (y ∷ keys) zero all there = let same : y ≡ k = cc in ap (test.ghosts.eq x) (sym same) ∙ all.0
apart_there x k (y ∷ keys) (suc n) all there = apart_there x k keys n all.1 there

next_absent : (keys : List Key) (k : Key) (n : ℕ) → IsDistinct test.ghosts.eq keys → slice_get keys n ≡ Some k → list_any (test.ghosts.eq k) (take n keys) ≡ false
unfolding IsDistinct
next_absent keys k zero distinct there = refl
next_absent [] k (suc n) distinct there = refl
next_absent (x ∷ keys) k (suc n) distinct there =
    ap (λ b. b || list_any (test.ghosts.eq k) (take n keys)) (keys_apart x k (apart_there x k keys n distinct.0 there)) ∙ next_absent keys k n distinct.1 there

-- where the first keys are there, the next one comes behind them
pub next_inserted : (keys : List Key) (k : Key) (n : ℕ) → IsDistinct test.ghosts.eq keys → slice_get keys n ≡ Some k
    → insert_key test.ghosts.eq (take n keys) k ≡ take (n + 1) keys
next_inserted keys k n distinct there =
    ap (λ b. if b then take n keys else take n keys ++ k ∷ []) (next_absent keys k n distinct there)
    ∙ ap (λ x. take n keys ++ x ∷ []) (sym (get_or_from_slice_get keys n k k there))
    ∙ sym (take_more keys n k (slice_get_within keys n k there))
