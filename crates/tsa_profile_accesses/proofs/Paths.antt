-- The paths of arguments one after another.
use Rattle.std.proofs.Common.{◌≡◌, ◌∙◌, ℕ, Bool, suc, ◌+◌, arith, List, [], ◌∷◌, ◌++◌, drop, Option, refl, ap, sym}
use Rattle.std.proofs.lemmas.List.{append_assoc, append-nil}
use Rattle.tsa_tree.specs.declared.expr.Expr.{Expr}
use Rattle.tsa_tree.specs.declared.kind.ThingType.{ThingType}
use Rattle.tsa_tree.specs.expressions.Shapes.{shape, shapes}
use Rattle.tsa_tree.specs.types.Scopes.{Scope, known_in}
use Rattle.tsa_place_model.specs.Arguments.{argument_way}
use Rattle.tsa_place_model.specs.Ways.{Way}
use Rattle.tsa_core.specs.Uses.{argument_ways, call_ways, called_ways}
use Rattle.std.specs.Borrow.{Bor}
use Rattle.tsa_tree.proofs.expressions.Trees.{call_at}
use Rattle.tsa_tree.specs.declared.expr.ExprKind.{Call}
use Rattle.tsa_tree.specs.declared.expr.Name.{Name}
use Rattle.tsa_tree.specs.declared.meaning.Entry.{Entry}

module _ (stable : ℕ → Bool) (here : Scope) where
  pub path_next : (made after : List (Option Way)) (params : List ThingType) (args : List Expr) (n : ℕ) (p : ThingType) (x : Expr)
      → drop n params ≡ p ∷ drop (suc n) params → drop n args ≡ x ∷ drop (suc n) args → after ≡ made ++ argument_way stable here p.kind (shape x) ∷ []
      → after ++ argument_ways stable here (drop (n + 1) params) (shapes (drop (n + 1) args)) ≡ made ++ argument_ways stable here (drop n params) (shapes (drop n args))
  path_next made after params args n p x at_p at_x is =
      let plus : n + 1 ≡ suc n = omega arith in
      ap (λ l. l ++ argument_ways stable here (drop (n + 1) params) (shapes (drop (n + 1) args))) is
      ∙ ap (λ k. (made ++ argument_way stable here p.kind (shape x) ∷ []) ++ argument_ways stable here (drop k params) (shapes (drop k args))) plus
      ∙ append_assoc made (argument_way stable here p.kind (shape x) ∷ []) (argument_ways stable here (drop (suc n) params) (shapes (drop (suc n) args)))
      ∙ sym (ap (λ ps. made ++ argument_ways stable here ps (shapes (drop n args))) at_p
      ∙ ap (λ xs. made ++ argument_ways stable here (p ∷ drop (suc n) params) (shapes xs)) at_x)

  pub no_params : (made : List (Option Way)) (params : List ThingType) (args : List Expr) (n : ℕ) → drop n params ≡ []
      → made ++ argument_ways stable here (drop n params) (shapes (drop n args)) ≡ made
  no_params made params args n at_p = ap (λ ps. made ++ argument_ways stable here ps (shapes (drop n args))) at_p ∙ append-nil made

  none_for : (params : List ThingType) → argument_ways stable here params (shapes []) ≡ []
  none_for [] = refl
  none_for (p ∷ params) = refl

  pub no_args : (made : List (Option Way)) (params : List ThingType) (args : List Expr) (n : ℕ) → drop n args ≡ []
      → made ++ argument_ways stable here (drop n params) (shapes (drop n args)) ≡ made
  no_args made params args n at_x =
      ap (λ xs. made ++ argument_ways stable here (drop n params) (shapes xs)) at_x ∙ ap (λ l. made ++ l) (none_for (drop n params)) ∙ append-nil made

  -- the call that a node in the arena is
  pub call_inside : (x : Expr) (callee : Name) (args : Bor (List Expr)) (entry : Option Entry) → x.kind ≡ Call callee args → entry ≡ known_in here callee.text.now
      → call_ways stable here (shape x) ≡ called_ways stable here (shapes args.now) entry
  unfolding call_ways
  call_inside x callee args entry is known =
      ap (call_ways stable here) (call_at x callee args is) ∙ ap (called_ways stable here (shapes args.now)) (sym known)
