-- Bodies of trees that are well read bear the numbers of their points.
use Rattle.std.proofs.Common.{◌≡◌, ◌∙◌, ℕ, zero, suc, ◌+◌, List, [], ◌∷◌, ◌++◌, drop, length, map, Option, Some, sym, ap, subst}
use Rattle.std.proofs.Math.Logic.{∥∥₁_elim, ∥∥₁_map}
use Rattle.std.proofs.Props.{props}
use Rattle.std.proofs.lemmas.List.{length-append, length-map}
use Rattle.std.specs.Borrow.{Bor}
use Rattle.tsa_core.specs.Control.{count_all}
use Rattle.tsa_graph_edges.specs.OneNumbering.{are_numbered_one}
use Rattle.tsa_tree.specs.declared.item.FnTree.{FnTree}
use Rattle.tsa_tree.specs.declared.item.Item.{Item}
use Rattle.tsa_tree.specs.declared.item.Item.TheVariants as item
use Rattle.tsa_tree.specs.declared.stmt.Stmt.{Stmt}
use Rattle.tsa_tree.specs.points.Syntax.{PlacedDeed, ends, points_of_all}
use Rattle.tsa_tree.specs.statements.Shapes.{stmt_shapes, point_shape, AreNumbered}
use Rattle.tsa_tree.specs.units.Shapes.{HasItsPoints, HaveTheirPoints, end_of}
use Rattle.tsa_tree.specs.units.WellRead.{IsWellRead}

-- a function with a body
module _ (f : FnTree) (body : Bor (List Stmt)) (is : f.body ≡ Some body) where
  abbrev with_body : Option (Bor (List Stmt)) → FnTree
  with_body held = record { name = f.name; result = f.result; params = f.params; attrs = f.attrs; body = held; points = f.points }

  abbrev last : PlacedDeed
  last = record { deed = ends; span = end_of f.points.now }

  given : HasItsPoints f → (map point_shape f.points.now ≡ points_of_all (stmt_shapes body.now) ++ last ∷ []) × AreNumbered body.now 0
  given h = subst (λ held. HasItsPoints (with_body held)) is h

  counted : HasItsPoints f → length f.points.now ≡ count_all (stmt_shapes body.now) + 1
  counted h = sym (length-map f.points.now point_shape) ∙ ap length (given h).0 ∙ length-append (points_of_all (stmt_shapes body.now)) (last ∷ [])

  pub body_numbered : ∥ HasItsPoints f ∥₁ → AreNumbered body.now 0
  body_numbered h = ∥∥₁_elim h (are_numbered_one body.now 0) (λ h. (given h).1)

  pub body_count : ∥ HasItsPoints f ∥₁ → length f.points.now ≡ count_all (stmt_shapes body.now) + 1
  body_count h = ∥∥₁_elim h (hlevel props) counted

-- one of some items
first_points : (x : Item) (xs : List Item) → HaveTheirPoints (x ∷ xs) → HaveTheirPoints (x ∷ [])
first_points (item.Function f) xs h = (h.0, tt)
first_points (item.Structure s) xs h = tt
first_points (item.Alias a) xs h = tt
first_points (item.Enumeration e) xs h = tt
first_points (item.Global d) xs h = tt

other_points : (x : Item) (xs : List Item) → HaveTheirPoints (x ∷ xs) → HaveTheirPoints xs
other_points (item.Function f) xs h = h.1
other_points (item.Structure s) xs h = h
other_points (item.Alias a) xs h = h
other_points (item.Enumeration e) xs h = h
other_points (item.Global d) xs h = h

points_at : (items : List Item) (i : ℕ) (x : Item) (rest : List Item) → drop i items ≡ x ∷ rest → HaveTheirPoints items → HaveTheirPoints (x ∷ [])
points_at items zero x rest e h = first_points x rest (subst HaveTheirPoints e h)
points_at [] (suc i) x rest e h = absurd (none e)
  where
    none : [] ≡ x ∷ rest → ⊥
    none e = cc
points_at (y ∷ ys) (suc i) x rest e h = points_at ys i x rest e (other_points y ys h)

pub item_points : (items : List Item) (i : ℕ) (x : Item) (rest : List Item) → drop i items ≡ x ∷ rest → ∥ HaveTheirPoints items ∥₁ → ∥ HaveTheirPoints (x ∷ []) ∥₁
item_points items i x rest e h = ∥∥₁_map h (points_at items i x rest e)

pub function_points : (f : FnTree) (x : Item) → x ≡ item.Function f → ∥ HaveTheirPoints (x ∷ []) ∥₁ → ∥ HasItsPoints f ∥₁
function_points f x is h = ∥∥₁_map h (λ h. (subst (λ x. HaveTheirPoints (x ∷ [])) is h).0)

pub item_of_function : (f : FnTree) (x : Item) → x ≡ item.Function f → HasItsPoints f → ∥ HaveTheirPoints (x ∷ []) ∥₁
item_of_function f x is h = ∣ subst (λ x. HaveTheirPoints (x ∷ [])) (sym is) (h, tt) ∣₁

-- those of a unit that is well read
pub read_points : (items others : List Item) → others ≡ items → ∥ IsWellRead items ∥₁ → ∥ HaveTheirPoints others ∥₁
read_points items others is h = ∥∥₁_map h (λ h. subst HaveTheirPoints (sym is) h.points)
