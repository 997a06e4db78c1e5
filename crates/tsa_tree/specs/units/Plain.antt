-- Items with all spans at 0: two are equal but for spans where their plain ones are equal.
use Rattle.std.specs.Prelude.{map, option_map}
use Rattle.tsa_tree.specs.attributes.Syntax.{plain_attribute}
use Rattle.tsa_tree.specs.declarations.Answers.{Part, an_item, a_head_alone, some_locals, sort_of}
use Rattle.tsa_tree.specs.expressions.Syntax.{nowhere, plain_name}
use Rattle.tsa_tree.specs.declarations.Plain.{plain_type, plain_declaration, plain_constant, plain_head}
use Rattle.tsa_tree.specs.statements.Plain.{plain_statements}
use Rattle.tsa_tree.specs.Rows.{Node}
use Rattle.tsa_tree.specs.units.Syntax.{UnitItem, structure_item, alias_item, enumeration_item, global_item, function_item, body_item}

abbrev pub plain_item : UnitItem → UnitItem
plain_item (structure_item tag other attrs members span) =
    structure_item (option_map plain_name tag) (option_map plain_name other) (map plain_attribute attrs) (map plain_declaration members) nowhere
plain_item (alias_item name ctype span) = alias_item (plain_name name) (plain_type ctype) nowhere
plain_item (enumeration_item tag other values span) =
    enumeration_item (option_map plain_name tag) (option_map plain_name other) (map plain_constant values) nowhere
plain_item (global_item declaration) = global_item (plain_declaration declaration)
plain_item (function_item head) = function_item (plain_head head)
plain_item (body_item head body close) = body_item (plain_head head) (plain_statements body) nowhere

-- what a reader makes of a part
abbrev pub plain_part : (p : Part) → Node (sort_of p) → Node (sort_of p)
plain_part an_item items = map plain_item items
plain_part a_head_alone head = plain_head head
plain_part (some_locals single depth) declarations = map plain_declaration declarations
