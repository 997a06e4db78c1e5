-- The function that an expression's call calls, node by node.
use Rattle.std.proofs.Common.{◌≡◌, ◌∙◌, ℕ, List, Option, Some, None, option_map, option_and_then, refl, sym, ap}
use Rattle.std.specs.Borrow.{Bor}
use Rattle.tsa_tree.proofs.expressions.Trees.{call_at}
use Rattle.tsa_tree.specs.declared.expr.Expr.{Expr}
use Rattle.tsa_tree.specs.declared.expr.ExprKind.{Call}
use Rattle.tsa_tree.specs.declared.expr.Name.{Name}
use Rattle.tsa_tree.specs.declared.meaning.Entry.{Entry}
use Rattle.tsa_tree.specs.declared.meaning.Meaning.{Meaning}
use Rattle.tsa_tree.specs.declared.meaning.Meaning.TheVariants as known
use Rattle.tsa_tree.specs.expressions.Shapes.{shape, shapes}
use Rattle.tsa_tree.specs.expressions.Syntax.{Arguments}
use Rattle.tsa_tree.specs.types.Expressions.{function_of}
use Rattle.tsa_tree.specs.types.Scopes.{Scope, known_in}
use Rattle.tsa_core.specs.Meanings.{call_by, call_in, call_of, or_call}
use Rattle.tsa_core.specs.Meanings as core
use Rattle.tsa_profile_points.specs.Ways.{function_called}

meant : (here : Scope) (args : Arguments) (m : Meaning) → option_map (λ c. c.function) (call_by here args m) ≡ function_of m
meant here args (known.Global n) = refl
meant here args (known.Local n) = refl
meant here args (known.Function n) = refl
meant here args known.Owned = refl
meant here args (known.Constant z) = refl
meant here args known.TypeName = refl

named : (here : Scope) (args : Arguments) (entry : Option Entry) → option_map (λ c. c.function) (call_of here args entry) ≡ option_and_then (λ e. function_of e.meaning) entry
named here args None = refl
named here args (Some e) = meant here args e.meaning

-- the call that a node in the arena is
pub call_is : (here : Scope) (x : Expr) (callee : Name) (args : Bor (List Expr)) (n : Option ℕ) → x.kind ≡ Call callee args
    → n ≡ option_and_then (λ e. function_of e.meaning) (known_in here callee.text.now) → n ≡ function_called here (shape x)
unfolding call_in
call_is here x callee args n is told =
    told ∙ sym (ap (function_called here) (call_at x callee args is) ∙ named here (shapes args.now) (known_in here callee.text.now))

-- that of two sides is the left one's, or else the right one's
pub left_calls : (l r : Option core.Call) (n : ℕ) → Some n ≡ option_map (λ c. c.function) l → Some n ≡ option_map (λ c. c.function) (or_call l r)
left_calls None r n e = absurd cc
left_calls (Some c) r n e = e

pub right_calls : (l r : Option core.Call) (n : Option ℕ) → None ≡ option_map (λ c. c.function) l → n ≡ option_map (λ c. c.function) r → n ≡ option_map (λ c. c.function) (or_call l r)
right_calls None r n e is = is
right_calls (Some c) r n e is = absurd cc

pub ruleset node_calls = (call_is, left_calls, right_calls)
