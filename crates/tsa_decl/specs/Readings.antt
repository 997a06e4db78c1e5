-- What the readers of items give is without the arena.
use Rattle.std.specs.Prelude.{ℕ, List, option_map}
use Rattle.std.specs.declared.option.Option.{Option}
use Rattle.tsa_tree.specs.declared.item.Item.{Item}
use Rattle.tsa_tree.specs.attributes.Syntax.{attr_shapes}
use Rattle.tsa_tree.specs.declarations.Syntax.{Parameter, EnumConstant, Signature, StructBody, Head}
use Rattle.tsa_tree.specs.expressions.Syntax.{Identifier}
use Rattle.tsa_tree.specs.declarations.Shapes.{decl_shapes, param_shape, param_shapes, enumerator_shape, head_shape}
use Rattle.tsa_tree.specs.expressions.Shapes.{name_shape}
use Rattle.tsa_tree.specs.units.Syntax.{UnitItem}
use Rattle.tsa_tree.specs.units.Shapes.{item_shapes}
use Rattle.tsa_decl.specs.declared.bodies.Body.{Body}
use Rattle.tsa_decl.specs.declared.bodies.AliasName.{AliasName}
use Rattle.tsa_decl.specs.declared.bodies.Opening.{Opening}
use Rattle.tsa_decl.specs.declared.constants.Constant.{Constant}
use Rattle.tsa_decl.specs.declared.heads.Parameter as read_parameter
use Rattle.tsa_decl.specs.declared.heads.Signature as read_signature
use Rattle.tsa_decl.specs.declared.items.Begun.{Begun}

-- an enumerator, and the place after it
abbrev pub seen_constant : Constant → EnumConstant × ℕ
seen_constant r = (enumerator_shape r.constant, r.next)

-- a parameter, and the place after it
abbrev pub seen_parameter : read_parameter.Parameter → Parameter × ℕ
seen_parameter r = (param_shape r.param, r.next)

-- a function's parameters and attributes without the place after them
abbrev pub row_signature : read_signature.Signature → Signature
row_signature r = record { params = param_shapes r.params.now; attrs = attr_shapes r.attrs.now }

-- a function's parameters and attributes, and the place after them
abbrev pub seen_signature : read_signature.Signature → Signature × ℕ
seen_signature r = (row_signature r, r.next)

-- a struct's members and attributes, and the place after them
abbrev pub seen_body : Body → StructBody × ℕ
seen_body r = (record { members = decl_shapes r.members.now; attrs = attr_shapes r.attrs.now }, r.next)

-- a name or none, and the place after it
abbrev pub seen_named : AliasName → Option Identifier × ℕ
seen_named r = (option_map name_shape r.name, r.next)

-- a tag or none, and the place after it
abbrev pub seen_opening : Opening → Option Identifier × ℕ
seen_opening r = (option_map name_shape r.tag, r.next)

-- what was begun of an item: the items that stand in the list, and the head of a function
abbrev pub seen_begun : List Item → Begun → (List UnitItem × Option Head) × ℕ
seen_begun items r = ((item_shapes items, option_map head_shape r.head), r.next)
