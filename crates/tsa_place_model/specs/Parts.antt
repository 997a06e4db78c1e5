-- The members of structs and the guards of parts (C11 6.7.2.1), with what is known by name behind them.
use Rattle.std.specs.Prelude.{ℕ, Bool, true, false, List, [], ◌∷◌, ◌++◌, length, Option, Some, is_some, if◌then◌else◌}
use Rattle.tsa_tree.specs.attributes.Syntax.{Attribute}
use Rattle.tsa_tree.specs.declared.attr.AttrKind.{AttrKind}
use Rattle.tsa_tree.specs.declared.attr.AttrKind.TheVariants as attr
use Rattle.tsa_tree.specs.declarations.Syntax.{Declaration}
use Rattle.tsa_tree.specs.expressions.Syntax.{Identifier, Arguments, none, more}
use Rattle.tsa_tree.specs.types.Attributes.{is_lock}
use Rattle.tsa_tree.specs.types.DeclaredTypes.{thing_type, is_whole}
use Rattle.tsa_tree.specs.types.Scopes.{Scope, Members, found, with_owned, with_name, with_named, with_struct, is_taken, is_named_taken}
use Rattle.tsa_tree.specs.types.Scopes.{a_type_name}
use Rattle.tsa_tree.specs.declared.meaning.Entry.{Entry}
use Rattle.tsa_tree.specs.types.Structs.{with_member}
use Rattle.tsa_tree.specs.types.Types.{single}
use Rattle.tsa_tree.specs.declared.kind.Kind.TheVariants as type
use Rattle.tsa_tree.specs.declared.kind.ThingType.{ThingType}
use Rattle.tsa_place_model.specs.Ways.{Way}
use Rattle.tsa_place_model.specs.LockPaths.{lock_way, stable_in}
use Rattle.tsa_place_model.specs.Layouts.{Part, Structure}

-- no local is known in a guard or in a global's initialiser
abbrev pub no_stable : ℕ → Bool
no_stable = stable_in []

-- the paths of the arguments of `guarded_by`, in order
unfoldable pub argument_ways : Scope → Arguments → List (Option Way)
argument_ways here none = []
argument_ways here (more first rest) = lock_way no_stable here first ∷ argument_ways here rest

abbrev pub is_guard : AttrKind → Bool
is_guard attr.GuardedBy = true
is_guard _ = false

unfoldable pub guard_ways : Scope → List Attribute → List (Option Way)
guard_ways here [] = []
guard_ways here (a ∷ rest) = if is_guard a.kind then argument_ways here a.args ++ guard_ways here rest else guard_ways here rest

-- a struct that isn't defined yet is refused by types where it is used by value, and counts as `int`
abbrev pub whole : Scope → ThingType → ThingType
whole here t = record { kind = if is_whole here t.kind then t.kind else type.Int; length = t.length; is_const = t.is_const }

abbrev pub part_in : Scope → Scope → Declaration → Part
part_in here inside d = record { name = d.name.text; thing = whole here (thing_type here d.ctype); guards = guard_ways inside d.attrs; span = d.span }

-- a member that is declared again is refused by types, and isn't known by its name
abbrev pub unless_known : Bool → Members → Members → Members
unless_known true before longer = before
unless_known false before longer = longer

abbrev pub member_behind : Scope → Members → Declaration → Members
member_behind here before d = unless_known (is_some (found before d.name.text)) before (with_member here before d)

unfoldable pub members_after : Scope → Members → List Declaration → Members
members_after here before [] = before
members_after here before (d ∷ rest) = members_after here (member_behind here before d) rest

-- in the guard of a member the members before it are known first
unfoldable pub parts_behind : Scope → Members → List Declaration → List Part
parts_behind here before [] = []
parts_behind here before (d ∷ rest) = part_in here (with_owned before here) d ∷ parts_behind here (member_behind here before d) rest

abbrev pub structure_in : Scope → List Declaration → Structure
structure_in here members = record { is_lock = is_lock here (Some (length here.structs)); members = parts_behind here [] members }

-- a name that is declared again is refused by types, and isn't known by this
abbrev pub unless : Bool → Scope → Scope → Scope
unless true before after = before
unless false before after = after

abbrev pub unless_taken : List ℕ → Entry → Scope → Scope
unless_taken name entry here = unless (is_taken name here) here (with_name name entry here)

abbrev pub unless_named : Option Identifier → Entry → Scope → Scope
unless_named name entry here = unless (is_named_taken name here) here (with_named name entry here)

-- what is known behind a struct
abbrev pub behind_structure : Scope → Option Identifier → List Declaration → Scope
behind_structure here alias members =
    unless_named alias (a_type_name (single (type.Structure (length here.structs)) false)) (with_struct (members_after here [] members) here)

-- a unit may have 65,536 places
abbrev pub place_limit : ℕ
place_limit = 65536
