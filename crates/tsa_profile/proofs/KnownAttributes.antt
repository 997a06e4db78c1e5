-- The attributes that are known behind items are those of the functions that are declared there.
use Rattle.std.proofs.Common.{◌≡◌, ◌∙◌, List, [], ◌∷◌, ◌++◌, map, refl, ap, sym}
use Rattle.std.proofs.lemmas.List.{append_assoc, append-nil, map-append}
use Rattle.tsa_tree.specs.types.Scopes.{Scope}
use Rattle.tsa_tree.specs.types.Units.{outset, behind_item}
use Rattle.tsa_tree.specs.units.Syntax.{UnitItem}
use Rattle.tsa_core.specs.Programs.{Attr, declared_by, declared_functions, function_in, program_of}
use Rattle.tsa_profile.specs.Attributes.{attributes_of_all, AttributesAreThoseOfTheCore}
use Rattle.tsa_profile_items.specs.Units.{Unit, attributes_by, attributes_behind, unit_of}

behind_all : (u : Unit) (known : List (List Attr)) (here : Scope) (items : List UnitItem)
    → attributes_of_all u known here items ≡ known ++ map (attributes_by u) (declared_functions here items)
unfolding attributes_of_all declared_functions
behind_all u known here [] = sym (append-nil known)
behind_all u known here (item ∷ rest) =
    behind_all u (attributes_behind u known here item) (behind_item here item) rest
    ∙ append_assoc known (map (attributes_by u) (declared_by here item)) (map (attributes_by u) (declared_functions (behind_item here item) rest))
    ∙ ap (λ l. known ++ l) (sym (map-append (attributes_by u) (declared_by here item) (declared_functions (behind_item here item) rest)))

mapped : {A B C : Type 0} (f : B → C) (g : A → B) (xs : List A) → map f (map g xs) ≡ map (λ x. f (g x)) xs
mapped f g [] = refl
mapped f g (x ∷ xs) = ap (λ l. f (g x) ∷ l) (mapped f g xs)

pub attributes_are_those_of_the_core : AttributesAreThoseOfTheCore
unfolding program_of
attributes_are_those_of_the_core outside items =
    behind_all (unit_of outside items) [] (outset items) items
    ∙ sym (mapped (λ f. f.attrs) (function_in (program_of items).layout items) (declared_functions (outset items) items))
