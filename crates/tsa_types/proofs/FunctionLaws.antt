-- A later declaration of a function beside the first: its parameters one by one.
use Rattle.std.proofs.Common.{◌≡◌, ◌<◌, zero, suc, arith, ℕ, false, List, [], ◌∷◌, drop, length, None, refl}
use Rattle.std.specs.Prelude.{slice_get, is_none}
use Rattle.tsa_tree.specs.declared.item.Param.{Param}
use Rattle.tsa_tree.specs.declared.kind.ThingType.{ThingType}
use Rattle.tsa_tree.specs.declarations.Syntax.{Parameter}
use Rattle.tsa_tree.specs.declarations.Shapes.{param_shape, param_shapes}
use Rattle.tsa_tree.specs.types.Heads.{agree}
use Rattle.tsa_tree.specs.types.Scopes.{Scope}

-- no more are known
pub none_left : (here : Scope) (known : List ThingType) (i : ℕ) → is_none (slice_get known i) ≡ agree here (drop i known) []
none_left here [] zero = refl
none_left here [] (suc i) = refl
none_left here (t ∷ ts) zero = refl
none_left here (t ∷ ts) (suc i) = none_left here ts i

-- one more is written
none_for : (here : Scope) (known : List ThingType) (i : ℕ) (p : Parameter) (ps : List Parameter) → slice_get known i ≡ None → agree here (drop i known) (p ∷ ps) ≡ false
none_for here [] zero p ps h = refl
none_for here [] (suc i) p ps h = refl
none_for here (t ∷ ts) zero p ps h = cc
none_for here (t ∷ ts) (suc i) p ps h = none_for here ts i p ps h

-- where fewer are known than written the types differ
pub none_known : (here : Scope) (known : List ThingType) (i : ℕ) (params : List Param) (j : ℕ) → j < length params → slice_get known i ≡ None
    → agree here (drop i known) (param_shapes (drop j params)) ≡ false
none_known here known i [] j h g = absurd (omega (arith, h))
none_known here known i (p ∷ ps) zero h g = none_for here known i (param_shape p) (param_shapes ps) g
none_known here known i (p ∷ ps) (suc j) h g = none_known here known i ps j (omega (arith, h)) g
