-- Behind the items of a unit the attributes that are known are those of the functions of its core program.
use Rattle.std.specs.Prelude.{◌≡◌, ℕ, List, [], ◌∷◌, map}
use Rattle.tsa_tree.specs.types.Scopes.{Scope}
use Rattle.tsa_tree.specs.types.Units.{outset, behind_item}
use Rattle.tsa_tree.specs.units.Syntax.{UnitItem}
use Rattle.tsa_core.specs.Programs.{Attr, program_of}
use Rattle.tsa_profile_items.specs.Units.{Unit, attributes_behind, unit_of}

unfoldable pub attributes_of_all : Unit → List (List Attr) → Scope → List UnitItem → List (List Attr)
attributes_of_all u known here [] = known
attributes_of_all u known here (item ∷ rest) = attributes_of_all u (attributes_behind u known here item) (behind_item here item) rest

abbrev pub AttributesAreThoseOfTheCore : Type 0
AttributesAreThoseOfTheCore = (outside : List ℕ) (items : List UnitItem)
    → attributes_of_all (unit_of outside items) [] (outset items) items ≡ map (λ f. f.attrs) (program_of items).functions
