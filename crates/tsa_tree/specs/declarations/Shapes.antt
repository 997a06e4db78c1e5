-- What declarations and items of the arena are without the arena.
use Rattle.std.specs.Prelude.{List, [], ◌∷◌, map, option_map}
use Rattle.tsa_tree.specs.declared.decl.BaseType.{BaseType}
use Rattle.tsa_tree.specs.declared.decl.BaseType.TheVariants.{Int, Unsigned, Void, Structure, Enumerated, Alias}
use Rattle.tsa_tree.specs.declared.decl.CType.{CType}
use Rattle.tsa_tree.specs.declared.decl.Decl.{Decl}
use Rattle.tsa_tree.specs.declared.decl.Init.{Init, Row_of-Init, end_of-Init, more_of-Init}
use Rattle.tsa_tree.specs.declared.decl.Init.TheVariants.{Value, List'}
use Rattle.tsa_tree.specs.declared.item.Param.{Param}
use Rattle.tsa_tree.specs.declared.item.FnTree.{FnTree}
use Rattle.tsa_tree.specs.declared.item.Enumerator.{Enumerator}
use Rattle.tsa_tree.specs.attributes.Syntax.{attr_shapes}
use Rattle.tsa_tree.specs.declarations.Syntax.{Base, int, unsigned, void, structure, enumerated, alias, DeclaredType, Initialiser, value}
use Rattle.tsa_tree.specs.declarations.Syntax.{list, Initialisers, no_more, one_more, Declaration, Parameter, EnumConstant, Head}
use Rattle.tsa_tree.specs.expressions.Shapes.{name_shape, shape}

abbrev pub base_shape : BaseType → Base
base_shape Int = int
base_shape Unsigned = unsigned
base_shape Void = void
base_shape (Structure tag) = structure (name_shape tag)
base_shape (Enumerated tag) = enumerated (name_shape tag)
base_shape (Alias name) = alias (name_shape name)

abbrev mutual
  pub init_shape : Init → Initialiser
  init_shape (Value tree) = value (shape tree)
  init_shape (List' pointer count row span) = list (init_row_shape row) span

  pub init_row_shape : {count : _} → Row_of-Init count → Initialisers
  init_row_shape end_of-Init = no_more
  init_row_shape (more_of-Init first rest) = one_more (init_shape first) (init_row_shape rest)

abbrev pub init_shapes : List Init → Initialisers
init_shapes [] = no_more
init_shapes (first ∷ rest) = one_more (init_shape first) (init_shapes rest)

abbrev pub type_shape : CType → DeclaredType
type_shape t =
    record {
      base = base_shape t.base;
      base_const = t.base_const;
      pointer = t.pointer;
      pointer_const = t.pointer_const;
      length = option_map (λ x. shape x.now) t.length;
    }

abbrev pub decl_shape : Decl → Declaration
decl_shape d =
    record {
      name = name_shape d.name;
      ctype = type_shape d.ctype;
      attrs = attr_shapes d.attrs.now;
      init = option_map init_shape d.init;
      span = d.span;
    }

abbrev pub decl_shapes : List Decl → List Declaration
decl_shapes decls = map decl_shape decls

abbrev pub param_shape : Param → Parameter
param_shape p = record { name = option_map name_shape p.name; ctype = type_shape p.ctype; span = p.span }

abbrev pub param_shapes : List Param → List Parameter
param_shapes params = map param_shape params

abbrev pub enumerator_shape : Enumerator → EnumConstant
enumerator_shape e = record { name = name_shape e.name; value = option_map shape e.value }

abbrev pub enumerator_shapes : List Enumerator → List EnumConstant
enumerator_shapes values = map enumerator_shape values

-- a function without its body
abbrev pub head_shape : FnTree → Head
head_shape f =
    record {
      name = name_shape f.name;
      result = type_shape f.result;
      params = param_shapes f.params.now;
      attrs = attr_shapes f.attrs.now;
    }
