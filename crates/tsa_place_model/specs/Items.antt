-- What is known behind the items of a unit, and what cells hold by a constant (C11 6.7.2.2, 6.7.8, 6.7.9).
use Rattle.std.specs.Prelude.{◌+◌, ℤ, pos, ◌+ℤ◌, false, List, [], ◌∷◌, Option, Some, None}
use Rattle.tsa_base.specs.declared.value.Value.{Value}
use Rattle.tsa_base.specs.declared.value.Value.TheVariants.{Int, Unsigned, Pointer}
use Rattle.tsa_tree.specs.declared.number.Number.{Number}
use Rattle.tsa_tree.specs.declarations.Syntax.{Declaration, EnumConstant}
use Rattle.tsa_tree.specs.expressions.Syntax.{Identifier, Expression}
use Rattle.tsa_tree.specs.types.Arithmetic.{unsigned_of, int_of}
use Rattle.tsa_tree.specs.types.DeclaredTypes.{thing_type, value_in}
use Rattle.tsa_tree.specs.types.Enums.{as_int, int_value, value_or_zero, enumerator_entry}
use Rattle.tsa_tree.specs.types.Globals.{global_entry}
use Rattle.tsa_tree.specs.types.Scopes.{Scope, context_of, with_globals, a_type_name}
use Rattle.tsa_tree.specs.types.Types.{single}
use Rattle.tsa_tree.specs.declared.kind.Kind.{Kind}
use Rattle.tsa_tree.specs.declared.kind.Kind.TheVariants as type
use Rattle.tsa_tree.specs.units.Syntax.{UnitItem, structure_item, alias_item, enumeration_item, global_item, function_item, body_item}
use Rattle.tsa_place_model.specs.Layouts.{Part}
use Rattle.tsa_place_model.specs.Parts.{part_in, unless_taken, unless_named, behind_structure}

-- What is known behind an enum: each enumerator behind its own value, which counts on from the last where none is written, and is 0 where
-- it has none.
abbrev pub worth_written : Scope → Option Expression → ℤ → Option ℤ
worth_written here None next = as_int next
worth_written here (Some e) next = int_value (value_in (context_of here) e)

abbrev pub worth : Scope → EnumConstant → ℤ → ℤ
worth here e next = value_or_zero (worth_written here e.value next)

unfoldable pub enumerators_behind : Scope → ℤ → List EnumConstant → Scope
enumerators_behind here next [] = here
enumerators_behind here next (e ∷ rest) =
    enumerators_behind (unless_taken e.name.text (enumerator_entry (worth here e next)) here) (worth here e next +ℤ pos 1) rest

abbrev pub behind_enumeration : Scope → Option Identifier → List EnumConstant → Scope
behind_enumeration here alias values = unless_named alias (a_type_name (single type.Int false)) (enumerators_behind here (pos 0) values)

-- A constant is converted to its cell (C11 6.3.1.3, 6.7.9p11), and what has no initialiser is zero or null (C11 6.7.9p10).
abbrev pub converted : Kind → Number → Value
converted type.Unsigned n = Unsigned (unsigned_of n)
converted _ n = Int (int_of n)

abbrev pub zero_of : Kind → Value
zero_of type.Int = Int (pos 0)
zero_of type.Unsigned = Unsigned 0
zero_of _ = Pointer None

abbrev pub or_zero : Kind → Option Number → Value
or_zero kind None = zero_of kind
or_zero kind (Some n) = converted kind n

-- a global is known in its own guards and initialiser
abbrev pub known_global : Scope → Declaration → Scope
known_global here d = unless_taken d.name.text (global_entry here d) here

abbrev pub global_part : Scope → Declaration → Part
global_part here d = part_in here (known_global here d) d

-- What is known behind an item. Functions are left out: no length and no initialiser of a global calls one, and a guard that does has no
-- path.
abbrev pub behind_data : Scope → UnitItem → Scope
behind_data here (structure_item tag alias attrs members span) = behind_structure here alias members
behind_data here (alias_item name ctype span) = unless_taken name.text (a_type_name (thing_type here ctype)) here
behind_data here (enumeration_item tag alias values span) = behind_enumeration here alias values
behind_data here (global_item d) = with_globals (here.globals + 1) (known_global here d)
behind_data here (function_item head) = here
behind_data here (body_item head body close) = here
