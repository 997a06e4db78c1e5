-- What stands under the `!` of a list, one by one.
use Rattle.std.proofs.Common.{◌≡◌, ◌∙◌, ap, sym, refl, List, [], ◌∷◌, ◌++◌, Option, Some, None}
use Rattle.std.specs.Option.{option_map}
use Rattle.tsa_tree.specs.declared.expr.Expr.{Expr}
use Rattle.tsa_tree.specs.attributes.Syntax.{without_not, without_nots, one_more}
use Rattle.tsa_tree.specs.expressions.Syntax.{Expression, Arguments, none, more}
use Rattle.tsa_tree.specs.expressions.Shapes.{shape, shapes}
use Rattle.tsa_expr.specs.Readings.{joined}
use Rattle.tsa_expr.proofs.Listing.{shapes-push, joined-one}

pub joined-none : (front : Arguments) → joined front none ≡ front
joined-none none = refl
joined-none (more x front) = ap (more x) (joined-none front)

taken-on : (front : Arguments) (y : Expression) (r : Option Arguments) → option_map (joined front) (one_more (Some y) r) ≡ option_map (joined (joined front (more y none))) r
taken-on front y None = refl
taken-on front y (Some ys) = ap Some (sym (joined-one front y ys))

-- one more of them
pub taken_one : (zs args rest : List Expr) (x y : Expr) (whole : Option Arguments) → args ≡ x ∷ rest → without_not (shape x) ≡ Some (shape y)
    → option_map (joined (shapes zs)) (without_nots (shapes args)) ≡ whole
    → option_map (joined (shapes (zs ++ y ∷ []))) (without_nots (shapes rest)) ≡ whole
taken_one zs args rest x y whole e u h =
    ap (λ front. option_map (joined front) (without_nots (shapes rest))) (shapes-push zs y)
    ∙ sym (taken-on (shapes zs) (shape y) (without_nots (shapes rest)))
    ∙ ap (λ u. option_map (joined (shapes zs)) (one_more u (without_nots (shapes rest)))) (sym u)
    ∙ ap (λ args. option_map (joined (shapes zs)) (without_nots (shapes args))) (sym e)
    ∙ h

-- one that begins with no `!`
pub taken_none : (zs args rest : List Expr) (x : Expr) (whole : Option Arguments) → args ≡ x ∷ rest → without_not (shape x) ≡ None
    → option_map (joined (shapes zs)) (without_nots (shapes args)) ≡ whole → None ≡ whole
taken_none zs args rest x whole e u h =
    ap (λ u. option_map (joined (shapes zs)) (one_more u (without_nots (shapes rest)))) (sym u)
    ∙ ap (λ args. option_map (joined (shapes zs)) (without_nots (shapes args))) (sym e)
    ∙ h

-- all of them
pub taken_all : (zs args : List Expr) (whole : Option Arguments) → args ≡ [] → option_map (joined (shapes zs)) (without_nots (shapes args)) ≡ whole
    → Some (shapes zs) ≡ whole
taken_all zs args whole e h =
    ap Some (sym (joined-none (shapes zs))) ∙ ap (λ args. option_map (joined (shapes zs)) (without_nots (shapes args))) (sym e) ∙ h

pub ruleset negatives = (taken_one, taken_none, taken_all)
