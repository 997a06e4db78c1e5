-- What the points of a body and the kinds of its locals give together.
use Rattle.std.specs.Prelude.{◌≡◌, ℕ, List, [], ◌∷◌, map}
use Rattle.std.specs.List.{flat_map}
use Rattle.tsa_base.specs.declared.token.Span.{Span}
use Rattle.tsa_tree.specs.declarations.Shapes.{head_shape}
use Rattle.tsa_tree.specs.declarations.Syntax.{Parameter}
use Rattle.tsa_tree.specs.declared.item.FnTree.{FnTree}
use Rattle.tsa_tree.specs.declared.kind.Kind.{Kind}
use Rattle.tsa_tree.specs.points.Syntax.{Deed, declares, PlacedDeed, points_of_body}
use Rattle.tsa_tree.specs.statements.Shapes.{point_shape}
use Rattle.tsa_tree.specs.statements.Syntax.{Statements}
use Rattle.tsa_tree.specs.types.Scopes.{Scope}
use Rattle.tsa_core.specs.Bodies.{kinds_declared, known_in_body}
use Rattle.tsa_core.specs.Programs.{Bodied, Declared}
use Rattle.tsa_path.specs.PathTexts.{Label}
use Rattle.tsa_rules.specs.Legends.{declared_labels, label}

-- the name that is declared where something is done
abbrev pub text_by : Deed → List (List ℕ)
text_by (declares d) = d.name.text ∷ []
text_by _ = []

-- the names that are declared at points
abbrev pub declared_texts : List PlacedDeed → List (List ℕ)
declared_texts points = flat_map (λ p. text_by p.deed) points

-- each name with the kind of its number
abbrev pub labels_with : List (List ℕ) → List Kind → List Label
labels_with (text ∷ texts) (kind ∷ kinds) = label text kind ∷ labels_with texts kinds
labels_with texts kinds = []

-- the names at the points of a body, with the kinds of the locals that it declares, are these locals' labels
abbrev pub NamesAndKindsAreTheLabels : Type 0
NamesAndKindsAreTheLabels = (here : Scope) (body : Statements) (close : Span)
    → labels_with (declared_texts (points_of_body body close)) (kinds_declared (known_in_body here body)) ≡ declared_labels (known_in_body here body)

-- points and kinds of locals are those of a body at whose beginning a scope is known
pub record AreOfBody (ps : List PlacedDeed) (kinds : List Kind) (here : Scope) (body : Statements) : Type 0 where
  pub close : Span
  pub points : ps ≡ points_of_body body close
  pub locals : kinds ≡ kinds_declared (known_in_body here body)

-- A body of a function and its first declaration are told by what is known in the body, its tree, the first parameters and the kinds of its
-- locals.
pub record IsBodyOf (scope : Scope) (tree : FnTree) (first : List Parameter) (kinds : List Kind) (d : Declared) (b : Bodied) : Type 0 where
  pub here : b.here ≡ scope
  pub params : b.head.params ≡ (head_shape tree).params
  pub first_params : d.head.params ≡ first
  pub own : AreOfBody (map point_shape tree.points.now) kinds b.here b.body
