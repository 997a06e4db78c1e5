-- The names of try variables, point by point.
use Rattle.std.proofs.Common.{◌≡◌, ◌∙◌, ◌+◌, ◌≤◌, arith, ℕ, zero, suc, List, [], ◌∷◌, ◌++◌, drop, length, map, Some, None, slice_get, sym, ap}
use Rattle.std.proofs.Common.{append_assoc, append-nil}
use Rattle.std.proofs.lemmas.List.{drop_all}
use Rattle.tsa_tree.specs.declared.stmt.Point.{Point}
use Rattle.tsa_tree.specs.statements.Shapes.{point_shape}
use Rattle.tsa_core.specs.Programs.{Function, Program}
use Rattle.tsa_rules.specs.Cases.{role_of}
use Rattle.tsa_rules.specs.declared.case.Role.{Role}
use Rattle.tsa_tool_held.specs.Held.{name_if_try, try_names_from}

from_there : {A : Type 0} (xs : List A) (k : ℕ) (x : A) → Some x ≡ slice_get xs k → drop k xs ≡ x ∷ drop (suc k) xs
from_there [] zero x e = cc
from_there [] (suc k) x e = cc
from_there (y ∷ xs) zero x e = let same : y ≡ x = cc in ap (λ z. z ∷ xs) same
from_there (y ∷ xs) (suc k) x e = from_there xs k x e

nothing_there : {A : Type 0} (xs : List A) (k : ℕ) → None ≡ slice_get xs k → length xs ≤ k
nothing_there [] k e = omega arith
nothing_there (y ∷ xs) zero e = cc
nothing_there (y ∷ xs) (suc k) e = let rest = nothing_there xs k e in omega (arith, rest)

module _ (u : Program) (f : Function) (points : List Point) (i : ℕ) where
  abbrev left : ℕ → List (List ℕ)
  left k = try_names_from u f k (map point_shape (drop k points))

  pub one_more_name : (d : Point) (role : Role) (old new all : List (List ℕ)) → Some d ≡ slice_get points i → role ≡ role_of u f i
      → new ≡ old ++ name_if_try role (point_shape d) → old ++ left i ≡ all → new ++ left (i + 1) ≡ all
  unfolding try_names_from
  one_more_name d role old new all there is_role is h =
      let next : i + 1 ≡ suc i = omega arith in
      ap (λ t. t ++ left (i + 1)) (is ∙ ap (λ r. old ++ name_if_try r (point_shape d)) is_role)
      ∙ append_assoc old (name_if_try (role_of u f i) (point_shape d)) (left (i + 1))
      ∙ ap (λ k. old ++ (name_if_try (role_of u f i) (point_shape d) ++ left k)) next
      ∙ sym (ap (λ ys. old ++ try_names_from u f i (map point_shape ys)) (from_there points i d there))
      ∙ h

  pub no_more : (old all : List (List ℕ)) → length points ≤ i → old ++ left i ≡ all → old ≡ all
  unfolding try_names_from
  no_more old all end h = sym (append-nil old) ∙ sym (ap (λ ys. old ++ try_names_from u f i (map point_shape ys)) (drop_all i points end)) ∙ h

  pub no_name_more : (old all : List (List ℕ)) → None ≡ slice_get points i → old ++ left i ≡ all → old ++ left (i + 1) ≡ all
  unfolding try_names_from
  no_name_more old all none h =
      let end = nothing_there points i none in
      let further : length points ≤ i + 1 = omega (arith, end) in
      ap (λ ys. old ++ try_names_from u f (i + 1) (map point_shape ys)) (drop_all (i + 1) points further) ∙ append-nil old ∙ no_more old all end h
