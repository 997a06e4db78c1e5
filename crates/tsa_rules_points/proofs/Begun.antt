-- The local that begins at a point is that of the core program's declaration there.
use Rattle.std.proofs.Common.{◌≡◌, Option, Some, None, refl}
use Rattle.tsa_tree.specs.declarations.Syntax.{Initialiser, value, list}
use Rattle.tsa_tree.specs.declared.expr.BinaryOp.{BinaryOp}
use Rattle.tsa_tree.specs.declared.kind.Kind.{Kind}
use Rattle.tsa_tree.specs.points.Syntax.{Deed, declares, evaluates, assigns, tests, switches, jumps, idles, returns, ends}
use Rattle.tsa_tree.specs.types.DeclaredTypes.{thing_type}
use Rattle.tsa_tree.specs.types.Scopes.{Scope}
use Rattle.tsa_core.specs.Bodies.{declared, point_by, set_to}
use Rattle.tsa_core.specs.Meanings.{meaning}
use Rattle.tsa_core.specs.Terms.{Term, constant, variable, answer, global, member, element, target, load, address, converted, prefixed}
use Rattle.tsa_core.specs.Terms.{joined}
use Rattle.tsa_rules.specs.Points.{local_begun}
use Rattle.tsa_rules_points.specs.Points.{begun_by}

none_set : (t : Term) (o : Option BinaryOp) (kind : Kind) (right : Term) → None ≡ local_begun (set_to t o kind right)
none_set (constant v) o kind right = refl
none_set (variable n) o kind right = refl
none_set answer o kind right = refl
none_set (global n) o kind right = refl
none_set (member base n) o kind right = refl
none_set (element base index) o kind right = refl
none_set (target p) o kind right = refl
none_set (load stable place) o kind right = refl
none_set (address place) o kind right = refl
none_set (converted k inner) o kind right = refl
none_set (prefixed p inner) o kind right = refl
none_set (joined p left right') o kind right = refl

one_declared : (here : Scope) (kind : Kind) (i : Option Initialiser) → Some here.locals ≡ local_begun (declared here kind i).action
one_declared here kind None = refl
one_declared here kind (Some (value e)) = refl
one_declared here kind (Some (list items span)) = refl

pub begun_is : (kind : Kind) (here : Scope) (d : Deed) → begun_by here.locals d ≡ local_begun (point_by here kind d).action
begun_is kind here (declares d) = one_declared here (thing_type here d.ctype).kind d.init
begun_is kind here (evaluates e) = refl
begun_is kind here (assigns left o right) = none_set (meaning here left).term o _ _
begun_is kind here (tests None) = refl
begun_is kind here (tests (Some e)) = refl
begun_is kind here (switches e) = refl
begun_is kind here jumps = refl
begun_is kind here idles = refl
begun_is kind here (returns None) = refl
begun_is kind here (returns (Some e)) = refl
begun_is kind here ends = refl
