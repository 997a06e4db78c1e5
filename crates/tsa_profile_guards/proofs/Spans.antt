-- Accesses without where they stand.
use Rattle.std.proofs.Common.{◌≡◌, ◌∙◌, ℕ, Bool, true, false, List, [], ◌∷◌, ◌++◌, map, refl, ap}
use Rattle.std.proofs.lemmas.List.{map-append}
use Rattle.tsa_tree.specs.expressions.Syntax.{Expression}
use Rattle.tsa_tree.specs.types.Scopes.{Scope}
use Rattle.tsa_place_model.specs.Calls.{Layout}
use Rattle.tsa_core.specs.Cells.{cells_read, inner_cells, own_cell, read_before}
use Rattle.tsa_core.specs.Uses as core
use Rattle.tsa_profile_guards.specs.Accesses.{accesses, without_span}
use Rattle.tsa_profile_guards.specs.Laws.{ArgumentsAreThoseOfTheCore, ReadsAreThoseOfTheCore, WritesAreThoseOfTheCore}

all_are : (l : Layout) (stable : ℕ → Bool) (here : Scope) (w : Bool) (cells : List Expression) → map without_span (accesses l stable here w cells) ≡ core.accesses l stable here w cells
unfolding accesses
all_are l stable here w [] = refl
all_are l stable here w (e ∷ cells) = ap (λ rest. core.access l stable here w e ∷ rest) (all_are l stable here w cells)

pub reads_are_those : ReadsAreThoseOfTheCore
reads_are_those l stable here e = all_are l stable here false (cells_read here e)

pub writes_are_those : WritesAreThoseOfTheCore
writes_are_those l stable here o e =
    map-append without_span (accesses l stable here false (read_before here o e)) (accesses l stable here true (own_cell here e) ++ accesses l stable here false (inner_cells here e))
    ∙ ap (λ first. first ++ map without_span (accesses l stable here true (own_cell here e) ++ accesses l stable here false (inner_cells here e))) (all_are l stable here false (read_before here o e))
    ∙ ap (λ rest. core.accesses l stable here false (read_before here o e) ++ rest)
    (map-append without_span (accesses l stable here true (own_cell here e)) (accesses l stable here false (inner_cells here e))
    ∙ ap (λ own. own ++ map without_span (accesses l stable here false (inner_cells here e))) (all_are l stable here true (own_cell here e))
    ∙ ap (λ inner. core.accesses l stable here true (own_cell here e) ++ inner) (all_are l stable here false (inner_cells here e)))

pub arguments_are_those : ArgumentsAreThoseOfTheCore
arguments_are_those l stable here e = refl
