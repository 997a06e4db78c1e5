-- What is wrong with lock expressions, with attributes, and with lists of them.
use Rattle.std.proofs.Common.{◌≡◌, ◌∙◌, ℕ, ◌+◌, suc, Bool, true, false, not, List, [], ◌∷◌, drop, Option, Some, None, Result, Ok, Err, refl}
use Rattle.std.proofs.Common.{sym, ap, if◌then◌else◌}
use Rattle.tsa_tree.specs.declared.attr.Attr.{Attr}
use Rattle.tsa_tree.specs.declared.expr.Expr.{Expr}
use Rattle.tsa_tree.specs.declared.kind.ExpressionType.{ExpressionType}
use Rattle.tsa_tree.specs.declared.premise.Bearer.{Bearer}
use Rattle.tsa_tree.specs.declared.premise.Failure.{Failure}
use Rattle.tsa_tree.specs.declared.premise.TypeCode.TheVariants.{TY6}
use Rattle.tsa_tree.specs.attributes.Syntax.{attr_shape, attr_shapes}
use Rattle.tsa_tree.specs.expressions.Shapes.{shape, shapes}
use Rattle.tsa_tree.specs.types.Attributes.{is_lock_type, argument_premises, lock_premises, attribute_premises, attributes_premises}
use Rattle.tsa_tree.specs.types.Premises.{or_else, first}
use Rattle.tsa_tree.specs.types.Scopes.{Scope, context_of}
use Rattle.tsa_types_expressions.specs.declared.constants.Constant.{Constant}
use Rattle.tsa_types_expressions.specs.Found.{constant_in, found_in, with_constant}
use Rattle.tsa_types_expressions.specs.Locks.{locked}
use Rattle.tsa_types_expressions.specs.Verdicts.{at, verdict_of}
use Rattle.tsa_types_expressions.proofs.LaterPremises.{asked, asked_first}
use Rattle.tsa_types_expressions.proofs.Steps.{first_append, or_else_same}
use Rattle.tsa_base.proofs.Numbers.{plus_one}
use Rattle.tsa_types_expressions.proofs.Walk.{or_nothing}

module _ (here : Scope) where
  by_lock : (e : Expr) (t : ExpressionType) (b : Bool) → (if not b then Some (at TY6 e.span) else None) ≡ (if b then None else Some (at TY6 e.span))
  by_lock e t true = refl
  by_lock e t false = refl

  asked_locked : (e : Expr) (k : Constant) (v : Result ExpressionType Failure)
      → asked TY6 (λ t. not (is_lock_type here t)) e.span v ≡ locked here e.span (with_constant k v)
  asked_locked e k (Err failure) = refl
  asked_locked e k (Ok t) = by_lock e t (is_lock_type here t)

  -- an argument, by what it was found to be
  pub argument_is : (e : Expr) → locked here e.span (found_in (context_of here) (shape e)) ≡ first (argument_premises here (shape e))
  unfolding found_in
  argument_is e =
      sym (asked_first TY6 (λ t. not (is_lock_type here t)) (context_of here) e
      ∙ asked_locked e (constant_in (context_of here) (shape e)) (verdict_of (context_of here) (shape e)))

  -- arguments one by one
  pub locks_end : (f : Option Failure) (args : List Expr) (i : ℕ) → drop i args ≡ [] → or_else f (first (lock_premises here (shapes (drop i args)))) ≡ f
  unfolding lock_premises first
  locks_end f args i e = ap (λ xs. or_else f (first (lock_premises here (shapes xs)))) e ∙ or_nothing f

  locks_more : (arg : Expr) (rest : List Expr) → first (lock_premises here (shapes (arg ∷ rest)))
      ≡ or_else (first (argument_premises here (shape arg))) (first (lock_premises here (shapes rest)))
  unfolding lock_premises
  locks_more arg rest = first_append (argument_premises here (shape arg)) (lock_premises here (shapes rest))

  pub locks_next : (f : Option Failure) (args : List Expr) (i : ℕ) (arg : Expr) → drop i args ≡ arg ∷ drop (suc i) args
      → (g : Option Failure) → g ≡ first (argument_premises here (shape arg))
      → or_else (or_else f g) (first (lock_premises here (shapes (drop (i + 1) args)))) ≡ or_else f (first (lock_premises here (shapes (drop i args))))
  locks_next f args i arg at_i g is =
      ap (λ x. or_else (or_else f x) (first (lock_premises here (shapes (drop (i + 1) args))))) is
      ∙ ap (λ j. or_else (or_else f (first (argument_premises here (shape arg)))) (first (lock_premises here (shapes (drop j args))))) (sym (plus_one i))
      ∙ sym (ap (λ xs. or_else f (first (lock_premises here (shapes xs)))) at_i ∙ ap (or_else f) (locks_more arg (drop (suc i) args))
      ∙ or_else_same f (first (argument_premises here (shape arg))) (first (lock_premises here (shapes (drop (suc i) args)))))

  -- attributes one by one
  module _ (bearer : Bearer) where
    pub attrs_end : (f : Option Failure) (attrs : List Attr) (i : ℕ) → drop i attrs ≡ []
        → or_else f (first (attributes_premises here bearer (attr_shapes (drop i attrs)))) ≡ f
    unfolding attributes_premises first
    attrs_end f attrs i e = ap (λ xs. or_else f (first (attributes_premises here bearer (attr_shapes xs)))) e ∙ or_nothing f

    attrs_more : (a : Attr) (rest : List Attr) → first (attributes_premises here bearer (attr_shapes (a ∷ rest)))
        ≡ or_else (first (attribute_premises here bearer (attr_shape a))) (first (attributes_premises here bearer (attr_shapes rest)))
    unfolding attributes_premises
    attrs_more a rest = first_append (attribute_premises here bearer (attr_shape a)) (attributes_premises here bearer (attr_shapes rest))

    pub attrs_next : (f : Option Failure) (attrs : List Attr) (i : ℕ) (a : Attr) → drop i attrs ≡ a ∷ drop (suc i) attrs
        → (g : Option Failure) → g ≡ first (attribute_premises here bearer (attr_shape a))
        → or_else (or_else f g) (first (attributes_premises here bearer (attr_shapes (drop (i + 1) attrs))))
        ≡ or_else f (first (attributes_premises here bearer (attr_shapes (drop i attrs))))
    attrs_next f attrs i a at_i g is =
        ap (λ x. or_else (or_else f x) (first (attributes_premises here bearer (attr_shapes (drop (i + 1) attrs))))) is
        ∙ ap (λ j. or_else (or_else f (first (attribute_premises here bearer (attr_shape a)))) (first (attributes_premises here bearer (attr_shapes (drop j attrs))))) (sym (plus_one i))
        ∙ sym (ap (λ xs. or_else f (first (attributes_premises here bearer (attr_shapes xs)))) at_i ∙ ap (or_else f) (attrs_more a (drop (suc i) attrs))
        ∙ or_else_same f (first (attribute_premises here bearer (attr_shape a))) (first (attributes_premises here bearer (attr_shapes (drop (suc i) attrs)))))

pub ruleset one = (argument_is)
