-- Readers' answers: refusals go through, and what follows a choice.
use Rattle.std.proofs.Common.{ℕ, ◌<◌, ◌≤◌, ◌≡◌, ◌≢◌, sym, subst, ap, refl, true, false, nat_eq, Result, Ok, Err}
use Rattle.std.proofs.lemmas.Bool.{le-ltb, lt-ltb}
use Rattle.tsa_grammar.specs.Reading.{Outcome, then}
use Rattle.tsa_tree.specs.declared.sign.Sign.{Sign}
use Rattle.tsa_tree.specs.declared.sign.Sign.TheVariants as sign
use Rattle.tsa_tree.specs.expressions.Answers.{below_limit}
use Rattle.tsa_tree.specs.Rows.{mark, is_postfix}
use Rattle.tsa_expr.specs.declared.refusal.SyntaxRefusal.{SyntaxRefusal}
use Rattle.tsa_expr.specs.declared.refusal.SyntaxRefusal.TheVariants as refusal
use Rattle.tsa_expr.specs.declared.refusal.SyntaxCode.TheVariants as code
use Rattle.tsa_expr.specs.Gives.{Fails, Gives}

-- a refusal goes through
pub fails_then : {A B : Type 0} (e : SyntaxRefusal) (r : Outcome A) (go : A → ℕ → Outcome B) → Fails e r → Fails e (then r go)
unfolding then
fails_then (refusal.At code.SY1 n) r go h = ap (λ r. then r go) h
fails_then (refusal.At code.LM2 n) r go h = ap (λ r. then r go) h
fails_then (refusal.At code.AT1 n) r go h = ap (λ r. then r go) h
fails_then (refusal.At code.AT2 n) r go h = ap (λ r. then r go) h
fails_then (refusal.At code.LM3 n) r go h = absurd h
fails_then (refusal.At code.LM5 n) r go h = absurd h
fails_then (refusal.Function c s) r go h = absurd h
fails_then refusal.NoMemory r go h = tt

pub fails_same : {A : Type 0} (e : SyntaxRefusal) (r r' : Outcome A) → r ≡ r' → Fails e r' → Fails e r
fails_same e r r' q h = subst (Fails e) (sym q) h

pub gives_same : {X Y : Type 0} (view : X → Y × ℕ) (x : Result X SyntaxRefusal) (r r' : Outcome Y) → r ≡ r' → Gives view x r' → Gives view x r
gives_same view x r r' q h = subst (Gives view x) (sym q) h

pub then_done : {A : Type 0} (r : Outcome A) → then r (λ x e. Ok (x, e)) ≡ r
unfolding then
then_done (Ok p) = refl
then_done (Err e) = refl

pub in_limit : (n : ℕ) → n < 100 → below_limit n ≡ true
in_limit n h = lt-ltb n 100 h

pub over_limit : (n : ℕ) → 100 ≤ n → below_limit n ≡ false
over_limit n h = le-ltb n 100 h

-- tests on signs that fail
pub not_name : (s : Sign) → s ≢ sign.Name → nat_eq (mark s) 3 ≡ false
not_name sign.Name h = absurd (h refl)
not_name _ h = refl

pub not_open : (s : Sign) → s ≢ sign.Open → nat_eq (mark s) 6 ≡ false
not_open sign.Open h = absurd (h refl)
not_open _ h = refl

pub not_close : (s : Sign) → s ≢ sign.Close → nat_eq (mark s) 7 ≡ false
not_close sign.Close h = absurd (h refl)
not_close _ h = refl

pub not_close_bracket : (s : Sign) → s ≢ sign.CloseBracket → nat_eq (mark s) 9 ≡ false
not_close_bracket sign.CloseBracket h = absurd (h refl)
not_close_bracket _ h = refl

pub not_comma : (s : Sign) → s ≢ sign.Comma → nat_eq (mark s) 10 ≡ false
not_comma sign.Comma h = absurd (h refl)
not_comma _ h = refl

pub not_postfix : (s : Sign) → s ≢ sign.Dot → s ≢ sign.Arrow → s ≢ sign.OpenBracket → is_postfix s ≡ false
not_postfix sign.Dot a b c = absurd (a refl)
not_postfix sign.Arrow a b c = absurd (b refl)
not_postfix sign.OpenBracket a b c = absurd (c refl)
not_postfix _ a b c = refl
