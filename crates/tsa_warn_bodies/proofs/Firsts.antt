-- The parameters of a function, as they are declared first, or none.
use Rattle.std.proofs.Common.{◌≡◌, ◌∙◌, List, [], Bor, Option, Some, None, option_map, unwrap_or, ap}
use Rattle.tsa_tree.specs.declarations.Shapes.{param_shapes}
use Rattle.tsa_tree.specs.declarations.Syntax.{Parameter}
use Rattle.tsa_tree.specs.declared.item.Param.{Param}

-- what is taken in their place has no parameters
pub first_is : (o : Option (Bor (List Param))) (p d : Bor (List Param)) (x : Option (List Parameter)) → option_map (λ params. param_shapes params.now) o ≡ x → d.now ≡ []
    → p ≡ unwrap_or o d → param_shapes p.now ≡ unwrap_or x []
first_is None p d x is none taken = ap (λ b. param_shapes b.now) taken ∙ ap param_shapes none ∙ ap (λ o. unwrap_or o []) is
first_is (Some q) p d x is none taken = ap (λ b. param_shapes b.now) taken ∙ ap (λ o. unwrap_or o []) is
