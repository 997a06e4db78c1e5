-- What was read by the rows is what the grammar asks for.
use Rattle.std.proofs.Common.{ℕ, ◌≡◌, sym, subst, List, [], Ok, Err, Result, IfOk, ◌∙◌, false}
use Rattle.tsa_base.specs.Tokens.{Lexeme}
use Rattle.tsa_tree.proofs.declarations.Laws.{an_answer}
use Rattle.tsa_tree.specs.attributes.Refusals.{left_out, lacking}
use Rattle.tsa_tree.specs.declarations.Answers.{Part, sort_of, call_of, IsLongest, IsBroken, IsRefused, IsTooDeep, IsAnswer}
use Rattle.tsa_tree.specs.units.Syntax.{UnitItem}
use Rattle.tsa_tree.specs.Reads.{read}
use Rattle.tsa_tree.specs.Rows.{some_items, item, Node}
use Rattle.tsa_tree.specs.tokens.Signs.{Aliases}
use Rattle.tsa_expr.specs.declared.refusal.SyntaxRefusal.{SyntaxRefusal}
use Rattle.tsa_expr.specs.declared.refusal.SyntaxRefusal.TheVariants.{At}
use Rattle.tsa_expr.specs.declared.refusal.SyntaxCode.TheVariants.{SY1, AT1, AT2, LM2}
use Rattle.tsa_expr.specs.Gives.{Fails, Gives}
use Rattle.tsa_expr.proofs.Answering.{fails_same}
use Rattle.tsa_attr.specs.Outcomes.{IsOfAttributes}
use Rattle.tsa_attr.proofs.Exact.{given_by}
use Rattle.tsa_decl_declarators.specs.Outcomes.{after}
use Rattle.tsa_decl_declarators.proofs.ListLaws.{after-nothing}

module _ {X : Type 0} (p : Part) (view : X → Node (sort_of p) × ℕ) (tokens : List Lexeme) (aliases : Aliases) (at : ℕ) where
  abbrev Given : Result X SyntaxRefusal → Type 0
  Given r = Gives view r (read tokens (sort_of p) (call_of p aliases) at)

  pub found : (r : Result X SyntaxRefusal) → Given r → IfOk r (λ x. IsLongest tokens aliases p at (view x).0 (view x).1)
  found (Ok x) g = subst (IsAnswer tokens aliases p at) g (an_answer tokens aliases p at)
  found (Err e) g = tt

  pub broken : (r : Result X SyntaxRefusal) → Given r → (token : ℕ) → r ≡ Err (At SY1 token) → IsBroken tokens aliases p at token
  broken r g token e = subst (IsAnswer tokens aliases p at) (subst Given e g) (an_answer tokens aliases p at)

  pub refused_out : (r : Result X SyntaxRefusal) → Given r → (token : ℕ) → r ≡ Err (At AT1 token) → IsRefused tokens aliases p at left_out token
  refused_out r g token e = subst (IsAnswer tokens aliases p at) (subst Given e g) (an_answer tokens aliases p at)

  pub refused_lacking : (r : Result X SyntaxRefusal) → Given r → (token : ℕ) → r ≡ Err (At AT2 token) → IsRefused tokens aliases p at lacking token
  refused_lacking r g token e = subst (IsAnswer tokens aliases p at) (subst Given e g) (an_answer tokens aliases p at)

  pub too_deep : (r : Result X SyntaxRefusal) → Given r → (token : ℕ) → r ≡ Err (At LM2 token) → IsTooDeep tokens aliases p at token
  too_deep r g token e = subst (IsAnswer tokens aliases p at) (subst Given e g) (an_answer tokens aliases p at)

  pub no_other : (r : Result X SyntaxRefusal) → Given r → (e : SyntaxRefusal) → r ≡ Err e → IsOfAttributes e
  no_other r g e q = given_by e (read tokens (sort_of p) (call_of p aliases) at) (subst Given q g)

-- a list that was new
pub items_fail : (ts : List Lexeme) (aliases : Aliases) (m : ℕ) (e : SyntaxRefusal) → Fails e (after [] (read ts some_items (item aliases false) m))
    → Fails e (read ts some_items (item aliases false) m)
items_fail ts aliases m e h = fails_same e _ _ (sym (after-nothing _)) h

pub items_go : (ts : List Lexeme) (aliases : Aliases) (m : ℕ) (xs : List UnitItem) (n : ℕ) → after [] (read ts some_items (item aliases false) m) ≡ Ok (xs, n)
    → read ts some_items (item aliases false) m ≡ Ok (xs, n)
items_go ts aliases m xs n h = sym (after-nothing _) ∙ h

pub ruleset items = (items_fail, items_go)
