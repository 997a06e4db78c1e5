-- The kinds of locks along paths, one path more.
use Rattle.std.proofs.Common.{◌≡◌, ◌∙◌, ℕ, zero, suc, ◌+◌, arith, List, [], ◌∷◌, ◌++◌, take, Option, Some, None, option_map, slice_get, refl, sym, ap}
use Rattle.std.proofs.Common.{ap₂}
use Rattle.tsa_tree.specs.declared.kind.Kind.{Kind}
use Rattle.tsa_place_model.specs.Ways.{Way}
use Rattle.tsa_place_model.specs.Calls.{Layout}
use Rattle.tsa_core.specs.Programs.{LockKind}
use Rattle.tsa_core.proofs.MappedLists.{map_append}
use Rattle.tsa_rules_view.specs.declared.kind.LockKind.{LockKind as CodeKind}
use Rattle.tsa_rules_view.specs.Kinds.{kind_in, kind_of, kinds_of}
use Rattle.tsa_rules_view.specs.Structs.{struct_by}
use Rattle.tsa_rules_view.specs.Parts.{kinds_along}

one_more : {A : Type 0} (xs : List A) (n : ℕ) (x : A) → slice_get xs n ≡ Some x → take (suc n) xs ≡ take n xs ++ x ∷ []
one_more [] n x at = absurd cc
one_more (y ∷ xs) zero x at = cc
one_more (y ∷ xs) (suc n) x at = ap (λ ys. y ∷ ys) (one_more xs n x at)

all_taken : {A : Type 0} (xs : List A) (n : ℕ) → slice_get xs n ≡ None → take n xs ≡ xs
all_taken [] zero none = refl
all_taken [] (suc n) none = refl
all_taken (x ∷ xs) zero none = cc
all_taken (x ∷ xs) (suc n) none = ap (λ ys. x ∷ ys) (all_taken xs n none)

-- where no path has a number, those before it are all
pub kinds_end : (ks : List (Option LockKind)) (l : Layout) (locals : List Kind) (paths : List Way) (n : ℕ) (found : List (Option CodeKind)) → slice_get paths n ≡ None
    → kinds_of found ≡ kinds_along ks l locals (take n paths) → kinds_of found ≡ kinds_along ks l locals paths
kinds_end ks l locals paths n found none so_far = so_far ∙ ap (kinds_along ks l locals) (all_taken paths n none)

pub kinds_on : (ks : List (Option LockKind)) (l : Layout) (locals : List Kind) (paths : List Way) (n : ℕ) (c : Way) (found : List (Option CodeKind)) (k : Option CodeKind)
    → slice_get paths n ≡ Some c → option_map kind_of k ≡ kind_in ks (struct_by l locals c) → kinds_of found ≡ kinds_along ks l locals (take n paths)
    → kinds_of (found ++ k ∷ []) ≡ kinds_along ks l locals (take (n + 1) paths)
kinds_on ks l locals paths n c found k at is so_far =
    let plus_one : suc n ≡ n + 1 = omega arith in
    map_append (λ x. option_map kind_of x) found (k ∷ [])
    ∙ ap₂ (λ xs x. xs ++ x ∷ []) so_far is
    ∙ sym (map_append (λ w. kind_in ks (struct_by l locals w)) (take n paths) (c ∷ []))
    ∙ ap (kinds_along ks l locals) (sym (one_more paths n c at) ∙ ap (λ m. take m paths) plus_one)
