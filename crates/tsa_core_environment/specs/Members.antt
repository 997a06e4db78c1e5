-- The members of a struct one by one, where those before are looked up first (C11 6.7.2.1).
use Rattle.std.specs.Prelude.{false, [], length, Option}
use Rattle.tsa_tree.specs.declarations.Syntax.{Declaration}
use Rattle.tsa_tree.specs.declared.kind.Kind.TheVariants as type
use Rattle.tsa_tree.specs.expressions.Syntax.{Identifier}
use Rattle.tsa_tree.specs.types.Scopes.{Scope, Members, with_owned, with_struct, a_type_name}
use Rattle.tsa_tree.specs.types.Types.{single}
use Rattle.tsa_place_model.specs.Parts.{member_behind, unless_named}

-- The type of a member is told without the members before it.
abbrev pub behind_member : Scope → Declaration → Scope
behind_member here d = with_owned (member_behind (with_owned [] here) here.owned d) here

-- the next struct has these members, and its name is known by it where that isn't taken
abbrev pub with_members : Scope → Option Identifier → Members → Scope
with_members here alias members = unless_named alias (a_type_name (single (type.Structure (length here.structs)) false)) (with_struct members here)
