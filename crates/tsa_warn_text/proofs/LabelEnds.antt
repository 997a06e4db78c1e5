-- Where one of two lists ends that are labelled side by side, no label is left.
use Rattle.std.proofs.Common.{◌≡◌, ◌∙◌, ℕ, List, [], ◌∷◌, ◌++◌, map, refl, sym, ap}
use Rattle.std.proofs.lemmas.List.{append-nil}
use mathlib.Core.Logic.{◌⊎◌, inl, inr}
use Rattle.tsa_tree.specs.declarations.Shapes.{param_shapes}
use Rattle.tsa_tree.specs.declared.item.Param.{Param}
use Rattle.tsa_tree.specs.declared.kind.Kind.{Kind}
use Rattle.tsa_tree.specs.types.Scopes.{Scope}
use Rattle.tsa_path.specs.PathTexts.{Label}
use Rattle.tsa_rules.specs.Legends.{param_labels}
use Rattle.tsa_warn_text.specs.DeclaredNames.{labels_with}

none_left : (labels rest all : List Label) → rest ≡ [] → labels ++ rest ≡ all → labels ≡ all
none_left labels rest all none so_far = sym (append-nil labels) ∙ (ap (λ ls. labels ++ ls) (sym none) ∙ so_far)

no_params : (here : Scope) (ps qs : List Param) → (ps ≡ []) ⊎ (qs ≡ []) → param_labels here (param_shapes ps) (param_shapes qs) ≡ []
no_params here [] qs end = refl
no_params here (p ∷ ps) [] end = refl
no_params here (p ∷ ps) (q ∷ qs) (inl none) = absurd cc
no_params here (p ∷ ps) (q ∷ qs) (inr none) = absurd cc

pub params_end : (here : Scope) (labels all : List Label) (ps qs : List Param) → (ps ≡ []) ⊎ (qs ≡ [])
    → labels ++ param_labels here (param_shapes ps) (param_shapes qs) ≡ all → labels ≡ all
params_end here labels all ps qs end so_far =
    none_left labels (param_labels here (param_shapes ps) (param_shapes qs)) all (no_params here ps qs end) so_far

no_texts : {A : Type 0} (text : A → List ℕ) (ts : List A) (kinds : List Kind) → (ts ≡ []) ⊎ (kinds ≡ []) → labels_with (map text ts) kinds ≡ []
no_texts text [] kinds end = refl
no_texts text (t ∷ ts) [] end = refl
no_texts text (t ∷ ts) (kind ∷ kinds) (inl none) = absurd cc
no_texts text (t ∷ ts) (kind ∷ kinds) (inr none) = absurd cc

pub texts_end : {A : Type 0} (text : A → List ℕ) (labels all : List Label) (ts : List A) (kinds : List Kind) → (ts ≡ []) ⊎ (kinds ≡ [])
    → labels ++ labels_with (map text ts) kinds ≡ all → labels ≡ all
texts_end text labels all ts kinds end so_far = none_left labels (labels_with (map text ts) kinds) all (no_texts text ts kinds end) so_far
