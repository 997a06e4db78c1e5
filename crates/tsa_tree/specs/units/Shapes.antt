-- What the items of a unit in the arena are without the arena, and how the points of their bodies are kept.
use Rattle.std.specs.Prelude.{◌≡◌, List, [], ◌∷◌, map, option_map, Some, None}
use Rattle.std.specs.declared.option.Option.{Option}
use Rattle.tsa_base.specs.declared.token.Span.{Span}
use Rattle.tsa_tree.specs.declared.item.FnTree.{FnTree}
use Rattle.tsa_tree.specs.declared.item.Item.{Item}
use Rattle.tsa_tree.specs.declared.item.Item.TheVariants as item
use Rattle.tsa_tree.specs.declared.stmt.Point.{Point}
use Rattle.tsa_tree.specs.declared.stmt.Stmt.{Stmt}
use Rattle.tsa_tree.specs.attributes.Syntax.{attr_shapes}
use Rattle.tsa_tree.specs.expressions.Syntax.{nowhere}
use Rattle.tsa_tree.specs.declarations.Shapes.{type_shape, decl_shape, decl_shapes, enumerator_shapes, head_shape}
use Rattle.tsa_tree.specs.points.Syntax.{points_of_body}
use Rattle.tsa_tree.specs.expressions.Shapes.{name_shape}
use Rattle.tsa_tree.specs.statements.Shapes.{stmt_shapes, point_shape, AreNumbered}
use Rattle.tsa_tree.specs.units.Syntax.{UnitItem, structure_item, alias_item, enumeration_item, global_item, function_item, body_item}

-- where the last point stands: the brace that closes a body
abbrev pub end_of : List Point → Span
end_of [] = nowhere
end_of (p ∷ []) = p.span
end_of (p ∷ q ∷ rest) = end_of (q ∷ rest)

abbrev pub shape_with : FnTree → Option (List Stmt) → UnitItem
shape_with f None = function_item (head_shape f)
shape_with f (Some body) = body_item (head_shape f) (stmt_shapes body) (end_of f.points.now)

abbrev pub function_shape : FnTree → UnitItem
function_shape f = shape_with f (option_map (λ body. body.now) f.body)

abbrev pub item_shape : Item → UnitItem
item_shape (item.Structure s) =
    structure_item (option_map name_shape s.tag) (option_map name_shape s.alias) (attr_shapes s.attrs.now) (decl_shapes s.members.now) s.span
item_shape (item.Alias a) = alias_item (name_shape a.name) (type_shape a.ctype) a.span
item_shape (item.Enumeration e) =
    enumeration_item (option_map name_shape e.tag) (option_map name_shape e.alias) (enumerator_shapes e.values.now) e.span
item_shape (item.Global d) = global_item (decl_shape d)
item_shape (item.Function f) = function_shape f

abbrev pub item_shapes : List Item → List UnitItem
item_shapes items = map item_shape items

-- A function without a body has no points. One with a body has those of the body, and its statements bear their numbers.
abbrev pub HasItsPoints : FnTree → Type 0
HasItsPoints f = with_body (option_map (λ body. body.now) f.body)
  where
    with_body : Option (List Stmt) → Type 0
    with_body None = f.points.now ≡ []
    with_body (Some body) = (map point_shape f.points.now ≡ points_of_body (stmt_shapes body) (end_of f.points.now)) × AreNumbered body 0

abbrev pub HaveTheirPoints : List Item → Type 0
HaveTheirPoints [] = Unit {0}
HaveTheirPoints (item.Function f ∷ items) = HasItsPoints f × HaveTheirPoints items
HaveTheirPoints (other ∷ items) = HaveTheirPoints items
