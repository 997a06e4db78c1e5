-- The locals that a path mentions, step by step.
use Rattle.std.proofs.Common.{◌≡◌, ◌<◌, ◌+◌, ◌++◌, ◌∷◌, [], ℕ, List, length, take, slice_index_or, filter_map, Option, Some, None}
use Rattle.std.proofs.Common.{option_to_list, refl, sym, ap, ◌∙◌, append_assoc}
use Rattle.std.specs.List.{cons_option}
use Rattle.std.proofs.lemmas.List.{take_more}
use Rattle.std.proofs.lemmas.List.Elements.{filter_map-append}
use Rattle.tsa_place_model.specs.declared.path.Root.{Root}
use Rattle.tsa_place_model.specs.declared.path.PathStep.{PathStep}
use Rattle.tsa_rules.specs.Warnings.{root_local, index_local}

one_step : (step : PathStep) (o : Option ℕ) → index_local step ≡ o → filter_map index_local (step ∷ []) ≡ option_to_list (index_local step)
one_step step (Some n) e = ap (λ p. cons_option p []) e ∙ sym (ap option_to_list e)
one_step step None e = ap (λ p. cons_option p []) e ∙ sym (ap option_to_list e)

-- the next step adds the local that it mentions
pub locals_more : (root : Root) (steps : List PathStep) (end : ℕ) (d : PathStep) (locals more : List ℕ) → end < length steps
    → locals ≡ root_local root ++ filter_map index_local (take end steps) → more ≡ locals ++ option_to_list (index_local (slice_index_or steps end d))
    → more ≡ root_local root ++ filter_map index_local (take (end + 1) steps)
locals_more root steps end d locals more within first added =
    added ∙ ap (λ l. l ++ option_to_list (index_local (slice_index_or steps end d))) first
    ∙ append_assoc (root_local root) (filter_map index_local (take end steps)) (option_to_list (index_local (slice_index_or steps end d)))
    ∙ ap (λ l. root_local root ++ l) (ap (λ l. filter_map index_local (take end steps) ++ l) (sym (one_step (slice_index_or steps end d) (index_local (slice_index_or steps end d)) refl))
    ∙ sym (filter_map-append index_local (take end steps) (slice_index_or steps end d ∷ []))
    ∙ ap (filter_map index_local) (sym (take_more steps end d within)))
