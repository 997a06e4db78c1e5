-- The names of the row of a unit are those of the unit.
use Rattle.std.proofs.Common.{◌≡◌, ℕ, ℤ, ◌+ℤ◌, pos, suc, Bool, true, false, List, [], ◌∷◌, ◌++◌, Option, Some, None, refl, ap}
use Rattle.tsa_tree.specs.declarations.Syntax.{Declaration, Parameter, EnumConstant, Head}
use Rattle.tsa_tree.specs.declared.meaning.Symbol.TheVariants as symbol
use Rattle.tsa_tree.specs.expressions.Syntax.{Identifier}
use Rattle.tsa_tree.specs.types.Enums.{enumerator_value, enumerator_entry}
use Rattle.tsa_tree.specs.types.Globals.{with_global}
use Rattle.tsa_tree.specs.types.Heads.{with_param, behind_head, inside}
use Rattle.tsa_tree.specs.types.Scopes.{Scope, Members, with_name, with_owned}
use Rattle.tsa_tree.specs.types.Structs.{with_member}
use Rattle.tsa_tree.specs.types.Symbols.{number_of, names_in_members, names_in_enumerators, names_in_global, param_name, names_in_params, names_in_head}
use Rattle.tsa_tree.specs.types.Symbols.{names_in_item}
use Rattle.tsa_tree.specs.types.Units.{behind_item, outset, names_in_unit_items}
use Rattle.tsa_tree.specs.units.Syntax.{UnitItem, structure_item, alias_item, enumeration_item, global_item, function_item, body_item}
use Rattle.tsa_types_row.specs.ItemRows.{row_in_member, row_in_members, row_in_enumerators, row_in_global, param_row, row_in_param, row_in_params}
use Rattle.tsa_types_row.specs.ItemRows.{row_in_head, row_in_item, row_in_unit_items}
use Rattle.tsa_types_row.specs.BodyRows.{declared_row, aside_given, aside_attributes, row_in_body}
use Rattle.tsa_types_row.specs.Laws.{NamesOfRows}
use Rattle.tsa_types_row.specs.Rows.{names_read}
use Rattle.tsa_types_row.proofs.ExpressionNames.{both, given_names, attribute_names, declaration_names}
use Rattle.tsa_types_row.proofs.StatementNames.{body_names}

members_names : (here : Scope) (before : Members) (ds : List Declaration) → names_read (row_in_members here before ds) ≡ names_in_members here before ds
unfolding row_in_members row_in_member names_in_members
members_names here before [] = refl
members_names here before (d ∷ rest) =
    both (row_in_member here before d) (row_in_members here (with_member here before d) rest)
    (both (aside_given here 0 d.ctype.length) (aside_attributes (with_owned before here) 0 d.attrs) (given_names here 0 d.ctype.length)
    (attribute_names (with_owned before here) 0 d.attrs))
    (members_names here (with_member here before d) rest)

enumerators_names : (here : Scope) (next : ℤ) (es : List EnumConstant) → names_read (row_in_enumerators here next es) ≡ names_in_enumerators here next es
unfolding row_in_enumerators names_in_enumerators
enumerators_names here next [] = refl
enumerators_names here next (e ∷ rest) =
    both (declared_row (symbol.Constant (enumerator_value here e next)) e.name.span ++ aside_given here 0 e.value)
    (row_in_enumerators (with_name e.name.text (enumerator_entry (enumerator_value here e next)) here) (enumerator_value here e next +ℤ pos 1) rest)
    (ap (λ ns. (e.name.span, symbol.Constant (enumerator_value here e next)) ∷ ns) (given_names here 0 e.value))
    (enumerators_names (with_name e.name.text (enumerator_entry (enumerator_value here e next)) here) (enumerator_value here e next +ℤ pos 1) rest)

global_names : (here : Scope) (d : Declaration) → names_read (row_in_global here d) ≡ names_in_global here d
unfolding row_in_global
global_names here d = ap (λ ns. (d.name.span, symbol.Global here.globals) ∷ ns) (declaration_names (with_global here d) 0 d)

name_of_param : (f n : ℕ) (name : Option Identifier) → names_read (param_row f n name) ≡ param_name f n name
name_of_param f n None = refl
name_of_param f n (Some name) = refl

params_names : (here : Scope) (f n : ℕ) (ps : List Parameter) → names_read (row_in_params here f n ps) ≡ names_in_params here f n ps
unfolding row_in_params row_in_param names_in_params
params_names here f n [] = refl
params_names here f n (p ∷ rest) = both (row_in_param here f n p) (row_in_params (with_param n p here) f (suc n) rest)
    (both (param_row f n p.name) (aside_given here f p.ctype.length) (name_of_param f n p.name) (given_names here f p.ctype.length))
    (params_names (with_param n p here) f (suc n) rest)

head_names : (here : Scope) (f : ℕ) (head : Head) (with_body : Bool) → names_read (row_in_head here f head with_body) ≡ names_in_head here f head with_body
unfolding row_in_head names_in_head
head_names here f head with_body =
    ap (λ ns. (head.name.span, symbol.Function f) ∷ ns)
    (both (row_in_params (behind_head here head with_body) f 0 head.params) (aside_attributes (inside here head with_body) f head.attrs)
    (params_names (behind_head here head with_body) f 0 head.params) (attribute_names (inside here head with_body) f head.attrs))

item_names : (here : Scope) (item : UnitItem) → names_read (row_in_item here item) ≡ names_in_item here item
item_names here (structure_item tag alias attrs members span) = members_names here [] members
item_names here (alias_item name ctype span) = given_names here 0 ctype.length
item_names here (enumeration_item tag alias values span) = enumerators_names here (pos 0) values
item_names here (global_item d) = global_names here d
item_names here (function_item head) = head_names here (number_of here head) head false
item_names here (body_item head body close) =
    both (row_in_head here (number_of here head) head true) (row_in_body (inside here head true) (number_of here head) body close)
    (head_names here (number_of here head) head true) (body_names (number_of here head) (inside here head true) body close)

items_names : (here : Scope) (items : List UnitItem) → names_read (row_in_unit_items here items) ≡ names_in_unit_items here items
unfolding row_in_unit_items names_in_unit_items
items_names here [] = refl
items_names here (item ∷ rest) = both (row_in_item here item) (row_in_unit_items (behind_item here item) rest) (item_names here item) (items_names (behind_item here item) rest)

pub names_of_rows : NamesOfRows
names_of_rows items = items_names (outset items) items
