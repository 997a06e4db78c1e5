-- What the parts of a row are, no kind of a result makes a difference to.
use Rattle.std.proofs.Common.{◌≡◌, ℕ, true, false, List, [], ◌∷◌, Option, refl, ap}
use Rattle.tsa_base.specs.declared.token.Span.{Span}
use Rattle.tsa_tree.specs.declared.kind.ExpressionType.{ExpressionType}
use Rattle.tsa_tree.specs.declared.kind.Kind.{Kind}
use Rattle.tsa_tree.specs.declared.kind.Kind.TheVariants as type
use Rattle.tsa_tree.specs.declared.kind.ThingType.{ThingType}
use Rattle.tsa_tree.specs.declared.number.Number.{Number}
use Rattle.tsa_types_row.specs.declared.node.Node.{Node}
use Rattle.tsa_types_row.specs.declared.node.Op.{Op}
use Rattle.tsa_types_row.specs.declared.node.Op.TheVariants as op
use Rattle.tsa_core_rows.specs.Reading.{Part, Reading, nothing_read, read_node, read_before}
use Rattle.tsa_lower_terms.specs.Laws.{PartsAreOfAnyResult}
use Rattle.tsa_lower_terms.specs.Sources.{params_by}

module _ (params : ℕ → List ThingType) (k j : Kind) where
  same_node : (o : Op) (thing : ExpressionType) (worth : Option Number) (size : ℕ) (span : Span) (r q : Reading) → r.parts ≡ q.parts
      → (read_node params k (record { op = o; thing = thing; worth = worth; size = size; span = span }) r).parts
      ≡ (read_node params j (record { op = o; thing = thing; worth = worth; size = size; span = span }) q).parts
  same_node op.Number thing worth size span r q e = ap (λ (ps : List Part). (read_node params k (record { op = op.Number; thing = thing; worth = worth; size = size; span = span }) (record { parts = ps; points = [] })).parts) e
  same_node op.Null thing worth size span r q e = ap (λ (ps : List Part). (read_node params k (record { op = op.Null; thing = thing; worth = worth; size = size; span = span }) (record { parts = ps; points = [] })).parts) e
  same_node (op.Name s is_fixed) thing worth size span r q e = ap (λ (ps : List Part). (read_node params k (record { op = op.Name s is_fixed; thing = thing; worth = worth; size = size; span = span }) (record { parts = ps; points = [] })).parts) e
  same_node (op.Callee s) thing worth size span r q e = ap (λ (ps : List Part). (read_node params k (record { op = op.Callee s; thing = thing; worth = worth; size = size; span = span }) (record { parts = ps; points = [] })).parts) e
  same_node (op.Call function args) thing worth size span r q e = ap (λ (ps : List Part). (read_node params k (record { op = op.Call function args; thing = thing; worth = worth; size = size; span = span }) (record { parts = ps; points = [] })).parts) e
  same_node (op.Unary o) thing worth size span r q e = ap (λ (ps : List Part). (read_node params k (record { op = op.Unary o; thing = thing; worth = worth; size = size; span = span }) (record { parts = ps; points = [] })).parts) e
  same_node (op.Binary o) thing worth size span r q e = ap (λ (ps : List Part). (read_node params k (record { op = op.Binary o; thing = thing; worth = worth; size = size; span = span }) (record { parts = ps; points = [] })).parts) e
  same_node (op.Field arrow number is_fixed) thing worth size span r q e = ap (λ (ps : List Part). (read_node params k (record { op = op.Field arrow number is_fixed; thing = thing; worth = worth; size = size; span = span }) (record { parts = ps; points = [] })).parts) e
  same_node op.Index thing worth size span r q e = ap (λ (ps : List Part). (read_node params k (record { op = op.Index; thing = thing; worth = worth; size = size; span = span }) (record { parts = ps; points = [] })).parts) e
  same_node (op.Declared s) thing worth size span r q e = ap (λ (ps : List Part). (read_node params k (record { op = op.Declared s; thing = thing; worth = worth; size = size; span = span }) (record { parts = ps; points = [] })).parts) e
  same_node op.Aside thing worth size span r q e = ap (λ (ps : List Part). (read_node params k (record { op = op.Aside; thing = thing; worth = worth; size = size; span = span }) (record { parts = ps; points = [] })).parts) e
  same_node (op.Declare n true) thing worth size span r q e = ap (λ (ps : List Part). (read_node params k (record { op = op.Declare n true; thing = thing; worth = worth; size = size; span = span }) (record { parts = ps; points = [] })).parts) e
  same_node (op.Declare n false) thing worth size span r q e = ap (λ (ps : List Part). (read_node params k (record { op = op.Declare n false; thing = thing; worth = worth; size = size; span = span }) (record { parts = ps; points = [] })).parts) e
  same_node op.Evaluate thing worth size span r q e = ap (λ (ps : List Part). (read_node params k (record { op = op.Evaluate; thing = thing; worth = worth; size = size; span = span }) (record { parts = ps; points = [] })).parts) e
  same_node (op.Set o) thing worth size span r q e = ap (λ (ps : List Part). (read_node params k (record { op = op.Set o; thing = thing; worth = worth; size = size; span = span }) (record { parts = ps; points = [] })).parts) e
  same_node (op.Test true) thing worth size span r q e = ap (λ (ps : List Part). (read_node params k (record { op = op.Test true; thing = thing; worth = worth; size = size; span = span }) (record { parts = ps; points = [] })).parts) e
  same_node (op.Test false) thing worth size span r q e = ap (λ (ps : List Part). (read_node params k (record { op = op.Test false; thing = thing; worth = worth; size = size; span = span }) (record { parts = ps; points = [] })).parts) e
  same_node op.Branch thing worth size span r q e = ap (λ (ps : List Part). (read_node params k (record { op = op.Branch; thing = thing; worth = worth; size = size; span = span }) (record { parts = ps; points = [] })).parts) e
  same_node op.Move thing worth size span r q e = ap (λ (ps : List Part). (read_node params k (record { op = op.Move; thing = thing; worth = worth; size = size; span = span }) (record { parts = ps; points = [] })).parts) e
  same_node (op.Give true) thing worth size span r q e = ap (λ (ps : List Part). (read_node params k (record { op = op.Give true; thing = thing; worth = worth; size = size; span = span }) (record { parts = ps; points = [] })).parts) e
  same_node (op.Give false) thing worth size span r q e = ap (λ (ps : List Part). (read_node params k (record { op = op.Give false; thing = thing; worth = worth; size = size; span = span }) (record { parts = ps; points = [] })).parts) e
  same_node op.End thing worth size span r q e = ap (λ (ps : List Part). (read_node params k (record { op = op.End; thing = thing; worth = worth; size = size; span = span }) (record { parts = ps; points = [] })).parts) e

  same_parts : (row : List Node) → (read_before params k row nothing_read).parts ≡ (read_before params j row nothing_read).parts
  same_parts [] = refl
  same_parts (node ∷ rest) = same_node node.op node.thing node.worth node.size node.span (read_before params k rest nothing_read) (read_before params j rest nothing_read) (same_parts rest)

pub parts_are_of_any_result : PartsAreOfAnyResult
parts_are_of_any_result functions result row = same_parts (params_by functions) result type.Void row
