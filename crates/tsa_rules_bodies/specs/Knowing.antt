-- What is known in front of an item, behind it, and inside a function.
use Rattle.std.specs.Prelude.{◌≡◌, Bool, true, List, [], ◌∷◌, ◌++◌, map}
use Rattle.tsa_tree.specs.declarations.Syntax.{Head}
use Rattle.tsa_tree.specs.types.Heads.{inside}
use Rattle.tsa_tree.specs.types.Scopes.{Scope}
use Rattle.tsa_tree.specs.types.Units.{outset, behind_item}
use Rattle.tsa_tree.specs.units.Syntax.{UnitItem}
use Rattle.tsa_core.specs.Programs.{Attr, first_head}
use Rattle.tsa_core_environment.specs.Functions.{IsInside}
use Rattle.tsa_profile.specs.Units.{Unit, attributes_behind, attributes_by}

-- names, and the attributes of the functions that are declared, by their numbers
pub record Knowledge : Type 0 where
  pub here : Scope
  pub attributes : List (List Attr)

abbrev pub outset_of : Unit → Knowledge
outset_of u = record { here = outset u.items; attributes = [] }

abbrev pub behind : Unit → Knowledge → UnitItem → Knowledge
behind u k item = record { here = behind_item k.here item; attributes = attributes_behind u k.attributes k.here item }

-- inside a function, whose own attributes are known
abbrev pub entered : Unit → Knowledge → Head → Bool → Knowledge
entered u k head with_body = record {
  here = inside k.here head with_body;
  attributes = k.attributes ++ map (attributes_by u) (first_head k.here head with_body);
}

-- the same outside of its blocks, whatever locals were counted
abbrev pub IsWithin : Unit → Knowledge → Head → Knowledge → Type 0
IsWithin u k head there = IsInside k.here head true there.here × (there.attributes ≡ (entered u k head true).attributes)

abbrev pub with_scope : Scope → Knowledge → Knowledge
with_scope here k = record { here = here; attributes = k.attributes }

abbrev pub with_function : List Attr → Knowledge → Knowledge
with_function attributes k = record { here = k.here; attributes = k.attributes ++ attributes ∷ [] }
