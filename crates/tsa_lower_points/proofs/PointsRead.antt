-- What a point's node does is what the row is read as from it on.
use Rattle.std.proofs.Common.{◌≡◌, ◌∙◌, ℕ, suc, true, false, List, ◌∷◌, drop, Option, None, refl, ap}
use Rattle.tsa_base.specs.declared.token.Span.{Span}
use Rattle.tsa_tree.specs.declared.kind.ExpressionType.{ExpressionType}
use Rattle.tsa_tree.specs.declared.kind.Kind.{Kind}
use Rattle.tsa_tree.specs.declared.number.Number.{Number}
use Rattle.tsa_types_row.specs.declared.node.Node.{Node}
use Rattle.tsa_types_row.specs.declared.node.Op.{Op}
use Rattle.tsa_types_row.specs.declared.node.Op.TheVariants as op
use Rattle.tsa_core.specs.Bodies.{Point, point, evaluate, declare, test, branch, give, assigned}
use Rattle.tsa_core.specs.Meanings.{as_kind, loaded}
use Rattle.tsa_core_rows.specs.Reading.{Part, Reading, nothing_read, part_at, read_before, read_node, read_row}
use Rattle.tsa_core_rows.specs.Stretches.{is_point}
use Rattle.tsa_lower_points.specs.Points.{PointsAreThoseRead, point_of}
use Rattle.tsa_lower_terms.specs.Sources.{Source, params_by, parts_at}
use Rattle.tsa_lower_terms.proofs.AnyResult.{parts_are_of_any_result}

module _ (s : Source) (result : Kind) (behind : ℕ) (r : Reading) (e : r.parts ≡ parts_at s behind) where
  abbrev the_point : ExpressionType → Op → Point
  the_point t o = point_of (record { source = s; op = o; kind = t.thing.kind; result = result; behind = behind })

  abbrev the_node : Op → ExpressionType → Option Number → ℕ → Span → Node
  the_node o t worth size span = record { op = o; thing = t; worth = worth; size = size; span = span }

  abbrev said : (Part → Part → Point) → List Part → List Point
  said f ps = f (part_at 0 ps) (part_at 1 ps) ∷ r.points

  read_there : (o : Op) (t : ExpressionType) (worth : Option Number) (size : ℕ) (span : Span) → is_point o ≡ true
      → (read_node (params_by s.functions) result (the_node o t worth size span) r).points ≡ the_point t o ∷ r.points
  read_there op.Number t worth size span is = cc
  read_there op.Null t worth size span is = cc
  read_there (op.Name s is_fixed) t worth size span is = cc
  read_there (op.Callee s) t worth size span is = cc
  read_there (op.Call function args) t worth size span is = cc
  read_there (op.Unary o) t worth size span is = cc
  read_there (op.Binary o) t worth size span is = cc
  read_there (op.Field arrow number is_fixed) t worth size span is = cc
  read_there op.Index t worth size span is = cc
  read_there (op.Declared s) t worth size span is = cc
  read_there op.Aside t worth size span is = cc
  read_there (op.Declare n true) t worth size span is = ap (said (λ (p q : Part). point p.call (declare n t.thing.kind (as_kind t.thing.kind p.sense)))) e
  read_there (op.Declare n false) t worth size span is = refl
  read_there op.Evaluate t worth size span is = ap (said (λ (p q : Part). point p.call (evaluate (loaded p.sense)))) e
  read_there (op.Set o) t worth size span is = ap (said (λ (p q : Part). point q.call (assigned p.sense o q.sense))) e
  read_there (op.Test true) t worth size span is = ap (said (λ (p q : Part). point p.call (test (loaded p.sense)))) e
  read_there (op.Test false) t worth size span is = refl
  read_there op.Branch t worth size span is = ap (said (λ (p q : Part). point None (branch (loaded p.sense)))) e
  read_there op.Move t worth size span is = refl
  read_there (op.Give true) t worth size span is = ap (said (λ (p q : Part). point p.call (give result (as_kind result p.sense)))) e
  read_there (op.Give false) t worth size span is = refl
  read_there op.End t worth size span is = refl

pub points_are_those_read : PointsAreThoseRead
points_are_those_read s result n at ahead is =
    ap (λ (row : List Node). (read_row (params_by s.functions) result row).points) ahead
    ∙ read_there s result (suc at) (read_before (params_by s.functions) result (drop (suc at) s.row) nothing_read)
    (parts_are_of_any_result s.functions result (drop (suc at) s.row)) n.op n.thing n.worth n.size n.span is
