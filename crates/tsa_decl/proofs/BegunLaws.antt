-- Items that were begun, and how they are finished.
use Rattle.std.proofs.Common.{ℕ, ◌+◌, ◌≡◌, ◌∙◌, ap, sym, subst, List, [], ◌∷◌, ◌++◌, Bool, false, option_map, Some, None, Result, Ok, Err}
use Rattle.std.proofs.Common.{IsOkAnd, MatchResult}
use Rattle.std.specs.Result.{IsErrAnd}
use Rattle.tsa_base.specs.Tokens.{Lexeme}
use Rattle.tsa_grammar.proofs.Cases.{goes}
use Rattle.tsa_grammar.specs.Reading.{Outcome, then}
use Rattle.tsa_tree.specs.declared.item.FnTree.{FnTree}
use Rattle.tsa_tree.specs.declared.item.Item.{Item}
use Rattle.tsa_tree.specs.declared.item.Item.TheVariants as item
use Rattle.tsa_tree.specs.units.Syntax.{UnitItem, function_item}
use Rattle.tsa_tree.specs.declarations.Shapes.{head_shape}
use Rattle.tsa_tree.specs.units.Shapes.{shape_with, function_shape, item_shape, item_shapes, HaveTheirPoints}
use Rattle.tsa_tree.specs.Rows.{sees, a_semicolon}
use Rattle.tsa_tree.specs.tokens.Signs.{Aliases}
use Rattle.tsa_expr.specs.declared.refusal.SyntaxRefusal.{SyntaxRefusal}
use Rattle.tsa_expr.specs.Gives.{Fails, Gives, Leads}
use Rattle.tsa_expr.proofs.Answering.{fails_then, fails_same}
use Rattle.tsa_attr.proofs.Joining.{token-law}
use Rattle.tsa_decl_declarators.specs.Outcomes.{after, one_token}
use Rattle.tsa_decl.specs.declared.items.Begun.{Begun}
use Rattle.tsa_decl.specs.Outcomes.{finished}
use Rattle.tsa_decl.specs.Readings.{seen_begun}
use Rattle.tsa_decl_declarators.proofs.ListLaws.{map-push, after-over}

-- what a `?` passes on
pub leads_failed : {X Y Z : Type 0} (view : X → Y × ℕ) (r : Result X SyntaxRefusal) (e : SyntaxRefusal) (o : Outcome Z) (rest : Y → ℕ → Outcome Z)
    → IsErrAnd r (λ y. y ≡ e) → Fails e o → Leads view r o rest
leads_failed view (Ok x) e o rest h f = absurd h
leads_failed view (Err y) e o rest h f = subst (λ e. Fails e o) (sym h) f

pub leads_same : {X Y Z : Type 0} (view : X → Y × ℕ) (x : Result X SyntaxRefusal) (r r' : Outcome Z) (rest : Y → ℕ → Outcome Z)
    → r ≡ r' → Leads view x r' rest → Leads view x r rest
leads_same view x r r' rest q h = subst (λ r. Leads view x r rest) (sym q) h

-- one item more, after others whose points are kept
pub pushed : (xs : List Item) (x : Item) → HaveTheirPoints (x ∷ []) → HaveTheirPoints xs → HaveTheirPoints (xs ++ x ∷ [])
pushed [] x h k = h
pushed (item.Function f ∷ xs) x h k = (k.0, pushed xs x h k.1)
pushed (_ ∷ xs) x h k = pushed xs x h k

pub more_pointed : (xs ys : List Item) (x : Item) → ys ≡ xs ++ x ∷ [] → HaveTheirPoints (x ∷ []) → HaveTheirPoints xs → HaveTheirPoints ys
more_pointed xs ys x q h k = subst HaveTheirPoints (sym q) (pushed xs x h k)

-- a function without a body is its head
bodiless : (x : FnTree) → x.body ≡ None → function_shape x ≡ function_item (head_shape x)
bodiless x e = ap (λ b. shape_with x (option_map (λ body. body.now) b)) e

module _ (ts : List Lexeme) (aliases : Aliases) (bodies : Bool) where
  -- nothing is left of an item that is no function
  headless : (xs : List UnitItem) (x : Begun) (n : ℕ) → x.head ≡ None → x.next ≡ n → finished ts aliases bodies (xs, option_map head_shape x.head) x.next ≡ Ok (xs, n)
  headless xs x n h q = ap (λ head. finished ts aliases bodies (xs, option_map head_shape head) x.next) h ∙ ap (λ n. Ok (xs, n)) q

  -- an item that is no function is read whole
  pub leads_without : (xs : List Item) (read : Result ℕ SyntaxRefusal) (r : Result Begun SyntaxRefusal) (whole : Outcome (List UnitItem))
      → MatchResult read (λ n. IsOkAnd r (λ x. (x.head ≡ None) × (x.next ≡ n))) (λ e. r ≡ Err e) → Gives (λ n. (item_shapes xs, n)) read whole
      → Leads (seen_begun xs) r whole (finished ts aliases bodies)
  leads_without xs (Ok n) (Ok x) whole h g = g ∙ sym (headless (item_shapes xs) x n h.0 h.1)
  leads_without xs (Ok n) (Err e) whole h g = absurd h
  leads_without xs (Err e) r whole h g = subst (λ r. Leads (seen_begun xs) r whole (finished ts aliases bodies)) (sym h) g

module _ (ts : List Lexeme) (aliases : Aliases) where
  function_is : (xs : List UnitItem) (x : FnTree) (m : ℕ)
      → finished ts aliases false (xs, Some (head_shape x)) m
      ≡ then (one_token ts (a_semicolon aliases) m) (λ u n. Ok (xs ++ function_item (head_shape x) ∷ [], m + 1))
  unfolding one_token then
  function_is xs x m =
      ap (after xs) (token-law (sees ts (a_semicolon aliases) m) m _)
      ∙ after-over xs (one_token ts (a_semicolon aliases) m) (λ u n. Ok (function_item (head_shape x) ∷ [], m + 1))

  pub finish_endless : (xs : List Item) (x : FnTree) (m : ℕ) (e : SyntaxRefusal) → Fails e (one_token ts (a_semicolon aliases) m)
      → Fails e (finished ts aliases false (item_shapes xs, Some (head_shape x)) m)
  finish_endless xs x m e f = fails_same e _ _ (function_is (item_shapes xs) x m) (fails_then e _ _ f)

  pub finish_goes : (xs : List Item) (x : FnTree) (m n : ℕ) → one_token ts (a_semicolon aliases) m ≡ Ok (tt, n) → n ≡ m + 1 → x.body ≡ None
      → finished ts aliases false (item_shapes xs, Some (head_shape x)) m ≡ Ok (item_shapes (xs ++ item.Function x ∷ []), n)
  finish_goes xs x m n h p b =
      function_is (item_shapes xs) x m ∙ goes _ _ tt n h ∙ ap (λ n. Ok (item_shapes xs ++ function_item (head_shape x) ∷ [], n)) (sym p)
      ∙ ap (λ shape. Ok (item_shapes xs ++ shape ∷ [], n)) (sym (bodiless x b))
      ∙ ap (λ ys. Ok (ys, n)) (sym (map-push item_shape xs (item.Function x)))

pub ruleset finishes = (finish_endless, finish_goes)
