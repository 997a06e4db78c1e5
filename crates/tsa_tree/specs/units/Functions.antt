-- The functions of a unit, numbered from 0 in the order of their first declarations.
use Rattle.std.specs.Prelude.{ℕ, List, [], ◌∷◌, ◌++◌, Bool, ◌&&◌, is_some, option_map, slice_get, if◌then◌else◌}
use Rattle.std.specs.declared.option.Option.{Option}
use Rattle.std.specs.List.{list_any}
use Rattle.std.specs.Str.{bytes_eq}
use Rattle.tsa_tree.specs.declared.item.FnTree.{FnTree}
use Rattle.tsa_tree.specs.declared.item.Item.{Item}
use Rattle.tsa_tree.specs.declared.item.Item.TheVariants as item

-- prototypes and functions with bodies
abbrev pub functions_in : List Item → List FnTree
functions_in [] = []
functions_in (item.Function f ∷ items) = f ∷ functions_in items
functions_in (other ∷ items) = functions_in items

abbrev pub bears : (name : List ℕ) → FnTree → Bool
bears name f = bytes_eq f.name.text.now name

-- each function's first declaration, after some that were seen
abbrev pub firsts_behind : (seen functions : List FnTree) → List FnTree
firsts_behind seen [] = []
firsts_behind seen (f ∷ functions) =
    if list_any (bears f.name.text.now) seen then firsts_behind (seen ++ f ∷ []) functions else f ∷ firsts_behind (seen ++ f ∷ []) functions

abbrev pub first_of : List Item → (number : ℕ) → Option FnTree
first_of items number = slice_get (firsts_behind [] (functions_in items)) number

-- the first one of its name that has a body, or else itself
abbrev pub defined_among : List FnTree → FnTree → FnTree
defined_among [] first = first
defined_among (f ∷ functions) first = if is_some f.body && bears first.name.text.now f then f else defined_among functions first

abbrev pub definition_of : List Item → FnTree → FnTree
definition_of items first = defined_among (functions_in items) first

abbrev pub function_of : List Item → (number : ℕ) → Option FnTree
function_of items number = option_map (definition_of items) (first_of items number)
