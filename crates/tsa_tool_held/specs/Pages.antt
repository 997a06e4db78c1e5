-- What a page has of a body.
use Rattle.std.specs.Prelude.{◌≡◌, length, map}
use Rattle.tsa_tree.specs.statements.Shapes.{point_shape}
use Rattle.tsa_rules.specs.Points.{points_of}
use Rattle.tsa_warn_text.specs.Orders.{texts_of}
use Rattle.tsa_warn.specs.Flows.{IsFlowOf}
use Rattle.tsa_tool_held.specs.Held.{Account, IsOrder, paths_in, tries_in}
use Rattle.tsa_tool_held.specs.declared.held.Page.{Page}

pub record IsPageOf (a : Account) (page : Page) : Type 0 where
  pub flow : IsFlowOf a.program a.function (paths_in a) page.body.now.flow
  pub texts : page.body.now.texts ≡ texts_of a.names (paths_in a)
  pub name : page.body.now.head.now.name.text.now ≡ a.body.name
  pub points : map point_shape page.body.now.head.now.points.now ≡ a.body.points
  pub count : length (points_of a.function) ≡ length a.body.points
  pub order : IsOrder a page.order.now
  pub tries : map (λ name. name.now) page.tries.now ≡ tries_in a
