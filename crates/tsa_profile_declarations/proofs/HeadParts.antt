-- What is asked of the heads of functions.
use Rattle.std.proofs.Common.{◌≡◌, ◌≤◌, ◌∙◌, ℕ, length, ◌+◌, suc, arith, Bool, true, false, not, ◌&&◌, List, [], ◌∷◌, ◌++◌, drop, Option}
use Rattle.std.proofs.Common.{Some, None, is_some, refl, ap, sym}
use Rattle.tsa_base.specs.declared.token.Span.{Span}
use Rattle.tsa_base.proofs.Numbers.{one_behind as plus_one}
use Rattle.tsa_tree.specs.attributes.Syntax.{Attribute, attr_shape, attr_shapes}
use Rattle.tsa_tree.specs.declarations.Shapes.{param_shape, param_shapes}
use Rattle.tsa_tree.specs.declarations.Syntax.{DeclaredType, Parameter}
use Rattle.tsa_tree.specs.declared.attr.Attr.{Attr}
use Rattle.tsa_tree.specs.expressions.Syntax.{Identifier}
use Rattle.tsa_tree.specs.declared.expr.Expr.{Expr}
use Rattle.tsa_tree.specs.declared.item.Param.{Param}
use Rattle.tsa_tree.specs.expressions.Shapes.{shapes}
use Rattle.tsa_tree.specs.types.DeclaredTypes.{thing_type}
use Rattle.tsa_tree.specs.types.Runnable.{is_integer_kind, is_lock_function, is_small, leaves_all, names_alone, takes_integers}
use Rattle.tsa_tree.specs.types.Scopes.{Scope}
use Rattle.tsa_profile_accesses.specs.declared.premise.Failure.{Failure}
use Rattle.tsa_profile_accesses.specs.declared.premise.ProfileCode.TheVariants.{PF4, PF6}
use Rattle.tsa_profile_accesses.specs.Premises.{Premise, premise, first}
use Rattle.tsa_profile_declarations.specs.Declarations.{param_premises}
use Rattle.tsa_profile_declarations.proofs.Firsts.{nothing_fails, passed_first, told_first}

opposite : (b : Bool) → b ≡ true → not b ≡ false
opposite b h = ap not h

module _ (here : Scope) (params : List Param) (i : ℕ) where
  abbrev pub asked : ℕ → Option Failure
  asked j = first (param_premises here (param_shapes (drop j params)))

  pub no_param : drop i params ≡ [] → None ≡ asked i
  unfolding param_premises
  no_param e = sym (ap (λ xs. first (param_premises here (param_shapes xs))) e ∙ nothing_fails)

  module _ (x : Param) (at_i : drop i params ≡ x ∷ drop (suc i) params) where
    abbrev small : Bool
    small = is_small (thing_type here (param_shape x).ctype)

    splits : param_premises here (param_shapes (drop i params)) ≡ premise PF4 x.span (not small) ∷ param_premises here (param_shapes (drop (suc i) params))
    unfolding param_premises
    splits = ap (λ xs. param_premises here (param_shapes xs)) at_i

    pub param_stops : small ≡ false → Some (record { code = PF4; span = x.span }) ≡ asked i
    param_stops h = told_first PF4 x.span (param_premises here (param_shapes (drop (suc i) params))) (not small) (ap not h) ∙ ap first (sym splits)

    pub param_passes : small ≡ true → asked (i + 1) ≡ asked i
    param_passes h =
        ap asked (plus_one i)
        ∙ passed_first PF4 x.span (param_premises here (param_shapes (drop (suc i) params))) (not small) (ap not h)
        ∙ ap first (sym splits)

-- arguments that are more than one
pub more_than_one : (text : List ℕ) (args : List Expr) → 2 ≤ length args → false ≡ names_alone text (shapes args)
more_than_one text [] h = absurd (omega arith)
more_than_one text (x ∷ []) h = absurd (omega arith)
more_than_one text (x ∷ y ∷ rest) h = refl

-- a lock function has one parameter and one attribute
module _ (here : Scope) (name : Identifier) (result : DeclaredType) where
  pub two_attributes : (param : Parameter) (attrs : List Attr) → 2 ≤ length attrs
      → false ≡ is_lock_function here (record { name = name; result = result; params = param ∷ []; attrs = attr_shapes attrs })
  two_attributes param [] h = absurd (omega arith)
  two_attributes param (a ∷ []) h = absurd (omega arith)
  two_attributes param (a ∷ b ∷ rest) h = refl

  pub two_params : (params : List Param) (attrs : List Attribute) → 2 ≤ length params
      → false ≡ is_lock_function here (record { name = name; result = result; params = param_shapes params; attrs = attrs })
  two_params [] attrs h = absurd (omega arith)
  two_params (p ∷ []) attrs h = absurd (omega arith)
  two_params (p ∷ q ∷ rest) attrs h = refl

-- the parts of a head in order
module _ (span : Span) (nothing : Bool) (params : List Premise) where
  pub nothing_told : nothing ≡ true → Some (record { code = PF6; span = span }) ≡ first (premise PF6 span nothing ∷ params)
  nothing_told h = told_first PF6 span params nothing h

  pub param_told : nothing ≡ false → first params ≡ first (premise PF6 span nothing ∷ params)
  param_told h = passed_first PF6 span params nothing h

-- attributes that leave locks alone, and parameters that are integers
split : (x y : Bool) → (x && y) ≡ ((x && true) && y)
split true y = refl
split false y = refl

leaves_split : (a : Attribute) (rest : List Attribute) → leaves_all (a ∷ rest) ≡ (leaves_all (a ∷ []) && leaves_all rest)
leaves_split a rest = split _ (leaves_all rest)

module _ (attrs : List Attr) (i : ℕ) where
  pub none_changes : drop i attrs ≡ [] → true ≡ leaves_all (attr_shapes (drop i attrs))
  none_changes e = sym (ap (λ xs. leaves_all (attr_shapes xs)) e)

  module _ (x : Attr) (at_i : drop i attrs ≡ x ∷ drop (suc i) attrs) where
    leaves_here : leaves_all (attr_shapes (drop i attrs)) ≡ (leaves_all (attr_shape x ∷ []) && leaves_all (attr_shapes (drop (suc i) attrs)))
    leaves_here = ap (λ xs. leaves_all (attr_shapes xs)) at_i ∙ leaves_split (attr_shape x) (attr_shapes (drop (suc i) attrs))

    pub one_changes : leaves_all (attr_shape x ∷ []) ≡ false → false ≡ leaves_all (attr_shapes (drop i attrs))
    one_changes h = sym (leaves_here ∙ ap (λ b. b && leaves_all (attr_shapes (drop (suc i) attrs))) h)

    pub one_leaves : leaves_all (attr_shape x ∷ []) ≡ true → leaves_all (attr_shapes (drop (i + 1) attrs)) ≡ leaves_all (attr_shapes (drop i attrs))
    one_leaves h =
        ap (λ j. leaves_all (attr_shapes (drop j attrs))) (plus_one i) ∙ sym (leaves_here ∙ ap (λ b. b && leaves_all (attr_shapes (drop (suc i) attrs))) h)

joined : (x y z : Bool) → (x && (y && z)) ≡ ((x && y) && z)
joined true y z = refl
joined false y z = refl

module _ (here : Scope) (params : List Param) (i : ℕ) where
  abbrev takes : ℕ → Bool
  takes j = takes_integers here (param_shapes (drop j params))

  pub none_is_other : drop i params ≡ [] → true ≡ takes i
  none_is_other e = sym (ap (λ xs. takes_integers here (param_shapes xs)) e)

  module _ (x : Param) (at_i : drop i params ≡ x ∷ drop (suc i) params) where
    abbrev is_integer : Bool
    is_integer = is_integer_kind (thing_type here (param_shape x).ctype).kind && not (is_some (thing_type here (param_shape x).ctype).length)

    takes_here : takes i ≡ (is_integer && takes (suc i))
    takes_here =
        ap (λ xs. takes_integers here (param_shapes xs)) at_i
        ∙ joined (is_integer_kind (thing_type here (param_shape x).ctype).kind) (not (is_some (thing_type here (param_shape x).ctype).length)) (takes (suc i))

    pub one_is_other : is_integer ≡ false → false ≡ takes i
    one_is_other h = sym (takes_here ∙ ap (λ b. b && takes (suc i)) h)

    pub one_is_integer : is_integer ≡ true → takes (i + 1) ≡ takes i
    one_is_integer h = ap takes (plus_one i) ∙ sym (takes_here ∙ ap (λ b. b && takes (suc i)) h)
