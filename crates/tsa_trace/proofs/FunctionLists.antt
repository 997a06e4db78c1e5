-- The functions of items, one item after the other.
use Rattle.std.proofs.Common.{◌≡◌, ◌∙◌, ℕ, ◌+◌, suc, arith, true, false, List, [], ◌∷◌, drop, map, Option, Some, None, is_some}
use Rattle.std.proofs.Common.{refl, sym, ap, subst}
use Rattle.std.specs.Borrow.{Bor}
use Rattle.tsa_base.proofs.Truths.{never}
use Rattle.tsa_tree.specs.declared.item.FnTree.{FnTree}
use Rattle.tsa_tree.specs.declared.item.Item.{Item}
use Rattle.tsa_tree.specs.declared.item.Item.TheVariants.{Structure, Alias, Enumeration, Global, Function}
use Rattle.tsa_tree.specs.declared.stmt.Point.{Point}
use Rattle.tsa_tree.specs.declared.stmt.Stmt.{Stmt}
use Rattle.tsa_tree.specs.points.Syntax.{PlacedDeed}
use Rattle.tsa_tree.specs.statements.Shapes.{point_shape}
use Rattle.tsa_tree.specs.units.Shapes.{HasItsPoints, HaveTheirPoints, function_shape, item_shape, item_shapes}
use Rattle.tsa_trace.specs.Views.{spans_of}
use Rattle.tsa_trace.specs.Tables.{Table, bodies_behind, functions_behind, with_body, with_first, with_function}

-- points stand where their texts do
spans_shown : (points : List Point) → spans_of points ≡ map (λ p. p.span) (map point_shape points)
spans_shown [] = refl
spans_shown (p ∷ points) = ap (λ xs. p.span ∷ xs) (spans_shown points)

spans_told : (points : List Point) (deeds : List PlacedDeed) → map point_shape points ≡ deeds → spans_of points ≡ map (λ p. p.span) deeds
spans_told points deeds is = spans_shown points ∙ ap (map (λ p. p.span)) is

module _ (f : FnTree) where
  -- the same with another body, or with none
  abbrev with_held : Option (Bor (List Stmt)) → FnTree
  with_held held = record { name = f.name; result = f.result; params = f.params; attrs = f.attrs; body = held; points = f.points }

  first_kept : Table → Table
  first_kept table = with_first f.name.text.now (spans_of f.points.now) table

  function_held : (held : Option (Bor (List Stmt))) (table : Table) → HasItsPoints (with_held held) → first_kept table ≡ with_function (function_shape (with_held held)) table
  unfolding first_kept
  function_held None table points = ap (λ xs. with_first f.name.text.now (spans_of xs) table) points
  function_held (Some body) table points = ap (λ spans. with_first f.name.text.now spans table) (spans_told f.points.now _ points.0)

  body_held : (held : Option (Bor (List Stmt))) (table : Table) → is_some held ≡ true → HasItsPoints (with_held held) → first_kept table ≡ with_body (function_shape (with_held held)) table
  unfolding first_kept
  body_held None table e points = never (sym e)
  body_held (Some body) table e points = ap (λ spans. with_first f.name.text.now spans table) (spans_told f.points.now _ points.0)

  none_held : (held : Option (Bor (List Stmt))) (table : Table) → is_some held ≡ false → table ≡ with_body (function_shape (with_held held)) table
  none_held None table e = refl
  none_held (Some body) table e = never e

  pub function_kept : (table : Table) → HasItsPoints f → with_first f.name.text.now (spans_of f.points.now) table ≡ with_function (function_shape f) table
  unfolding first_kept
  function_kept table points = function_held f.body table points

  pub body_kept : (table : Table) → is_some f.body ≡ true → HasItsPoints f → with_first f.name.text.now (spans_of f.points.now) table ≡ with_body (function_shape f) table
  unfolding first_kept
  body_kept table e points = body_held f.body table e points

  pub none_kept : (table : Table) → is_some f.body ≡ false → table ≡ with_body (function_shape f) table
  none_kept table e = none_held f.body table e

-- items have their points one by one
points_apart : (x : Item) (rest : List Item) → HaveTheirPoints (x ∷ rest) → HaveTheirPoints (x ∷ []) × HaveTheirPoints rest
points_apart (Function f) rest h = ((h.0, tt), h.1)
points_apart (Structure s) rest h = (tt, h)
points_apart (Alias a) rest h = (tt, h)
points_apart (Enumeration e) rest h = (tt, h)
points_apart (Global d) rest h = (tt, h)

module _ (items : List Item) (i : ℕ) where
  pub functions_end : (table : Table) → drop i items ≡ [] → functions_behind (item_shapes (drop i items)) table ≡ table
  unfolding functions_behind
  functions_end table e = ap (λ xs. functions_behind (item_shapes xs) table) e

  pub bodies_end : (table : Table) → drop i items ≡ [] → bodies_behind (item_shapes (drop i items)) table ≡ table
  unfolding bodies_behind
  bodies_end table e = ap (λ xs. bodies_behind (item_shapes xs) table) e

  module _ (x : Item) (at_i : drop i items ≡ x ∷ drop (suc i) items) where
    plus : suc i ≡ i + 1
    plus = omega arith

    apart : HaveTheirPoints (drop i items) → HaveTheirPoints (x ∷ []) × HaveTheirPoints (drop (suc i) items)
    apart h = points_apart x (drop (suc i) items) (subst HaveTheirPoints at_i h)

    pub item_points : HaveTheirPoints (drop i items) → HaveTheirPoints (x ∷ [])
    item_points h = (apart h).0

    pub points_next : HaveTheirPoints (drop i items) → HaveTheirPoints (drop (i + 1) items)
    points_next h = subst (λ j. HaveTheirPoints (drop j items)) plus (apart h).1

    module _ (table after : Table) where
      pub functions_next : after ≡ with_function (item_shape x) table
          → functions_behind (item_shapes (drop (i + 1) items)) after ≡ functions_behind (item_shapes (drop i items)) table
      unfolding functions_behind
      functions_next is =
          ap (functions_behind (item_shapes (drop (i + 1) items))) is
          ∙ ap (λ j. functions_behind (item_shapes (drop j items)) (with_function (item_shape x) table)) (sym plus)
          ∙ sym (ap (λ xs. functions_behind (item_shapes xs) table) at_i)

      pub bodies_next : after ≡ with_body (item_shape x) table → bodies_behind (item_shapes (drop (i + 1) items)) after ≡ bodies_behind (item_shapes (drop i items)) table
      unfolding bodies_behind
      bodies_next is =
          ap (bodies_behind (item_shapes (drop (i + 1) items))) is
          ∙ ap (λ j. bodies_behind (item_shapes (drop j items)) (with_body (item_shape x) table)) (sym plus)
          ∙ sym (ap (λ xs. bodies_behind (item_shapes xs) table) at_i)
