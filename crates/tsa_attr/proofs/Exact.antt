-- What was read by the rows is what the grammar asks for.
use Rattle.std.proofs.Common.{ℕ, ◌≡◌, subst, List, Ok, Err, Result, IfOk}
use Rattle.tsa_base.specs.Tokens.{Lexeme}
use Rattle.tsa_tree.specs.tokens.Signs.{Aliases}
use Rattle.tsa_tree.specs.attributes.Syntax.{Attribute}
use Rattle.tsa_tree.specs.attributes.Answers.{IsLongest, IsBroken, IsRefused, IsTooDeep, IsAnswer, read_any}
use Rattle.tsa_tree.specs.attributes.Refusals.{left_out, lacking}
use Rattle.tsa_tree.proofs.attributes.Answers.{read_any_answers}
use Rattle.tsa_expr.specs.declared.refusal.SyntaxRefusal.{SyntaxRefusal}
use Rattle.tsa_expr.specs.declared.refusal.SyntaxRefusal.TheVariants.{At, Function, NoMemory}
use Rattle.tsa_expr.specs.declared.refusal.SyntaxCode.TheVariants.{SY1, AT1, AT2, LM2, LM3, LM5}
use Rattle.tsa_expr.specs.Gives.{Fails, Gives}
use Rattle.tsa_attr.specs.Outcomes.{IsOfAttributes}
use Rattle.tsa_grammar.specs.Reading.{Outcome}

pub given_by : {Y : Type 0} (e : SyntaxRefusal) (r : Outcome Y) → Fails e r → IsOfAttributes e
given_by (At SY1 token) r h = tt
given_by (At AT1 token) r h = tt
given_by (At AT2 token) r h = tt
given_by (At LM2 token) r h = tt
given_by (At LM3 token) r h = h
given_by (At LM5 token) r h = h
given_by (Function code span) r h = h
given_by NoMemory r h = tt

module _ {X : Type 0} (view : X → List Attribute × ℕ) (tokens : List Lexeme) (aliases : Aliases) (depth at : ℕ) where
  abbrev Given : Result X SyntaxRefusal → Type 0
  Given r = Gives view r (read_any tokens aliases depth at)

  pub found : (r : Result X SyntaxRefusal) → Given r → IfOk r (λ x. IsLongest tokens aliases depth at (view x).0 (view x).1)
  found (Ok x) g = subst (IsAnswer tokens aliases depth at) g (read_any_answers tokens aliases depth at)
  found (Err e) g = tt

  pub broken : (r : Result X SyntaxRefusal) → Given r → (token : ℕ) → r ≡ Err (At SY1 token) → IsBroken tokens aliases depth at token
  broken r g token e = subst (IsAnswer tokens aliases depth at) (subst Given e g) (read_any_answers tokens aliases depth at)

  pub refused_out : (r : Result X SyntaxRefusal) → Given r → (token : ℕ) → r ≡ Err (At AT1 token) → IsRefused tokens aliases depth at left_out token
  refused_out r g token e = subst (IsAnswer tokens aliases depth at) (subst Given e g) (read_any_answers tokens aliases depth at)

  pub refused_lacking : (r : Result X SyntaxRefusal) → Given r → (token : ℕ) → r ≡ Err (At AT2 token) → IsRefused tokens aliases depth at lacking token
  refused_lacking r g token e = subst (IsAnswer tokens aliases depth at) (subst Given e g) (read_any_answers tokens aliases depth at)

  pub too_deep : (r : Result X SyntaxRefusal) → Given r → (token : ℕ) → r ≡ Err (At LM2 token) → IsTooDeep tokens aliases depth at token
  too_deep r g token e = subst (IsAnswer tokens aliases depth at) (subst Given e g) (read_any_answers tokens aliases depth at)

  pub no_other : (r : Result X SyntaxRefusal) → Given r → (e : SyntaxRefusal) → r ≡ Err e → IsOfAttributes e
  no_other r g e q = given_by e (read_any tokens aliases depth at) (subst Given q g)
