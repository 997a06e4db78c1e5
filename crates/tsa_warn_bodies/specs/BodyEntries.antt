-- A body that is entered, beside the text and the core program of its unit.
use Rattle.std.specs.Prelude.{◌≡◌, ℕ, List, [], ◌++◌, map, Some, slice_get}
use Rattle.tsa_base.specs.declared.token.Span.{Span}
use Rattle.tsa_tree.specs.declarations.Shapes.{head_shape}
use Rattle.tsa_tree.specs.declared.item.FnTree.{FnTree}
use Rattle.tsa_tree.specs.points.Syntax.{points_of_body}
use Rattle.tsa_tree.specs.statements.Shapes.{point_shape}
use Rattle.tsa_tree.specs.types.Units.{outset}
use Rattle.tsa_tree.specs.units.Syntax.{UnitItem}
use Rattle.tsa_core.specs.Programs.{Declared, Function, bodied_function, declared_functions, program_of}
use Rattle.tsa_path.specs.PathTexts.{Label}
use Rattle.tsa_rules.specs.Legends.{param_labels}
use Rattle.tsa_warn_text.specs.DeclaredNames.{declared_texts, labels_with}
use Rattle.tsa_flow.specs.FunctionFlow.{FunctionFlow}
use Rattle.tsa_rules_bodies.specs.Entering.{IsOf}
use Rattle.tsa_rules_bodies.specs.Laws.{StandsFor}
use Rattle.tsa_rules_bodies.specs.Paths.{paths_if, paths_of}
use Rattle.tsa_rules_bodies.specs.Sites.{Site, within}
use Rattle.tsa_profile_context.specs.Units.{unit_of}
use Rattle.tsa_rules_bodies.specs.declared.inside.Inside.{Inside}
use Rattle.tsa_warn_bodies.specs.Bodies.{BodyText, body_text}
use Rattle.tsa_warn_bodies.specs.Courses.{Course, first_params}

-- what the locals of a body that is entered are named, by what is known there and by the kinds of those that it declares
abbrev pub labels_at : Course → (function : ℕ) → FnTree → FunctionFlow → List Label
labels_at c n tree w =
    param_labels c.known.here (head_shape tree).params (first_params c n)
    ++ labels_with (declared_texts (map point_shape tree.points.now)) w.view.notes.kinds.items

-- The body that is entered is this one of the unit, its function is that of the core program with all of its paths, and the points of its
-- tree are those of the text.
pub record IsBodyAt (items : List UnitItem) (b : BodyText) (c : Course) (i : Inside) (tree : FnTree) : Type 0 where
  pub function : Function
  pub site : Site
  pub declared : Declared
  pub close : Span
  pub is_there : slice_get (program_of items).functions b.number ≡ Some function
  pub has_paths : paths_if (program_of items) function ≡ Some (paths_of (program_of items) function)
  pub is_of : IsOf (unit_of [] items) b.number site c.known i
  pub stands : StandsFor items b.number function site
  pub is_declared : slice_get (declared_functions (outset items) items) b.number ≡ Some declared
  pub is_first : bodied_function declared.head.name.text (outset items) items ≡ Some (record { here = within site; head = site.head; body = site.body })
  pub firsts : first_params c b.number ≡ declared.head.params
  pub text : b ≡ body_text site.here site.head site.body close
  pub tree_head : head_shape tree ≡ site.head
  pub points : map point_shape tree.points.now ≡ points_of_body site.body close
