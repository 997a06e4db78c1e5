-- Declarations and items with all spans at 0: two are equal but for spans where their plain ones are equal.
use Rattle.std.specs.Prelude.{map, option_map}
use Rattle.tsa_tree.specs.attributes.Syntax.{plain_attribute}
use Rattle.tsa_tree.specs.declarations.Syntax.{Base, structure, enumerated, alias, DeclaredType, Initialiser, value, list, Initialisers}
use Rattle.tsa_tree.specs.declarations.Syntax.{no_more, one_more, Declaration, Parameter, EnumConstant, Head}
use Rattle.tsa_tree.specs.expressions.Syntax.{nowhere, plain_name, plain}

abbrev pub plain_base : Base → Base
plain_base (structure tag) = structure (plain_name tag)
plain_base (enumerated tag) = enumerated (plain_name tag)
plain_base (alias name) = alias (plain_name name)
plain_base base = base

abbrev pub plain_type : DeclaredType → DeclaredType
plain_type t =
    record {
      base = plain_base t.base;
      base_const = t.base_const;
      pointer = t.pointer;
      pointer_const = t.pointer_const;
      length = option_map plain t.length;
    }

abbrev mutual
  pub plain_initialiser : Initialiser → Initialiser
  plain_initialiser (value tree) = value (plain tree)
  plain_initialiser (list items span) = list (plain_initialisers items) nowhere

  pub plain_initialisers : Initialisers → Initialisers
  plain_initialisers no_more = no_more
  plain_initialisers (one_more first rest) = one_more (plain_initialiser first) (plain_initialisers rest)

abbrev pub plain_declaration : Declaration → Declaration
plain_declaration d =
    record {
      name = plain_name d.name;
      ctype = plain_type d.ctype;
      attrs = map plain_attribute d.attrs;
      init = option_map plain_initialiser d.init;
      span = nowhere;
    }

abbrev pub plain_parameter : Parameter → Parameter
plain_parameter p = record { name = option_map plain_name p.name; ctype = plain_type p.ctype; span = nowhere }

abbrev pub plain_constant : EnumConstant → EnumConstant
plain_constant c = record { name = plain_name c.name; value = option_map plain c.value }

abbrev pub plain_head : Head → Head
plain_head h =
    record {
      name = plain_name h.name;
      result = plain_type h.result;
      params = map plain_parameter h.params;
      attrs = map plain_attribute h.attrs;
    }
