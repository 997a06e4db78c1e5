-- The rows of the items of a unit (C11 6.9), in order of the text.
use Rattle.std.specs.Prelude.{ℕ, ℤ, ◌+ℤ◌, pos, suc, Bool, true, false, List, [], ◌∷◌, ◌++◌, Option, Some, None}
use Rattle.tsa_tree.specs.declarations.Syntax.{Declaration, Parameter, EnumConstant, Head}
use Rattle.tsa_tree.specs.declared.meaning.Symbol.TheVariants as symbol
use Rattle.tsa_tree.specs.expressions.Syntax.{Identifier}
use Rattle.tsa_tree.specs.types.Enums.{enumerator_value, enumerator_entry}
use Rattle.tsa_tree.specs.types.Globals.{with_global}
use Rattle.tsa_tree.specs.types.Heads.{with_param, behind_head, inside}
use Rattle.tsa_tree.specs.types.Scopes.{Scope, Members, with_name, with_owned}
use Rattle.tsa_tree.specs.types.Structs.{with_member}
use Rattle.tsa_tree.specs.types.Symbols.{number_of}
use Rattle.tsa_tree.specs.types.Units.{behind_item, outset}
use Rattle.tsa_tree.specs.units.Syntax.{UnitItem, structure_item, alias_item, enumeration_item, global_item, function_item, body_item}
use Rattle.tsa_types_row.specs.declared.node.Node.{Node}
use Rattle.tsa_types_row.specs.BodyRows.{declared_row, aside_given, aside_attributes, aside_declaration, row_in_body}

-- a member's guard is looked up among the members before it first
unfoldable pub row_in_member : Scope → Members → Declaration → List Node
row_in_member here before d = aside_given here 0 d.ctype.length ++ aside_attributes (with_owned before here) 0 d.attrs

unfoldable pub row_in_members : Scope → Members → List Declaration → List Node
row_in_members here before [] = []
row_in_members here before (d ∷ rest) = row_in_member here before d ++ row_in_members here (with_member here before d) rest

unfoldable pub row_in_enumerators : Scope → ℤ → List EnumConstant → List Node
row_in_enumerators here next [] = []
row_in_enumerators here next (e ∷ rest) =
    (declared_row (symbol.Constant (enumerator_value here e next)) e.name.span ++ aside_given here 0 e.value)
    ++ row_in_enumerators (with_name e.name.text (enumerator_entry (enumerator_value here e next)) here) (enumerator_value here e next +ℤ pos 1) rest

unfoldable pub row_in_global : Scope → Declaration → List Node
row_in_global here d = declared_row (symbol.Global here.globals) d.name.span ++ aside_declaration (with_global here d) 0 d

abbrev pub param_row : ℕ → ℕ → Option Identifier → List Node
param_row function n None = []
param_row function n (Some name) = declared_row (symbol.Local function n) name.span

unfoldable pub row_in_param : Scope → ℕ → ℕ → Parameter → List Node
row_in_param here function n p = param_row function n p.name ++ aside_given here function p.ctype.length

unfoldable pub row_in_params : Scope → ℕ → ℕ → List Parameter → List Node
row_in_params here function n [] = []
row_in_params here function n (p ∷ rest) = row_in_param here function n p ++ row_in_params (with_param n p here) function (suc n) rest

unfoldable pub row_in_head : Scope → ℕ → Head → Bool → List Node
row_in_head here function head with_body =
    declared_row (symbol.Function function) head.name.span
    ++ (row_in_params (behind_head here head with_body) function 0 head.params ++ aside_attributes (inside here head with_body) function head.attrs)

abbrev pub row_in_item : Scope → UnitItem → List Node
row_in_item here (structure_item tag alias attrs members span) = row_in_members here [] members
row_in_item here (alias_item name ctype span) = aside_given here 0 ctype.length
row_in_item here (enumeration_item tag alias values span) = row_in_enumerators here (pos 0) values
row_in_item here (global_item d) = row_in_global here d
row_in_item here (function_item head) = row_in_head here (number_of here head) head false
row_in_item here (body_item head body close) =
    row_in_head here (number_of here head) head true ++ row_in_body (inside here head true) (number_of here head) body close

unfoldable pub row_in_unit_items : Scope → List UnitItem → List Node
row_in_unit_items here [] = []
row_in_unit_items here (item ∷ rest) = row_in_item here item ++ row_in_unit_items (behind_item here item) rest

abbrev pub row_in_unit : List UnitItem → List Node
row_in_unit items = row_in_unit_items (outset items) items
