-- Results whose values are told twice, or that are handed on as another's.
use Rattle.std.proofs.Common.{◌≡◌, Ok, Err, IfOk, MatchResult, IsOkAnd, sym, subst}
use Rattle.std.specs.declared.result.Result.{Result}

pub told_twice : {T E : Type 0} (r : Result T E) (P Q R : T → Type 0) → ((x : T) → P x → Q x → R x) → IfOk r P → IfOk r Q → IfOk r R
told_twice (Ok x) P Q R both p q = both x p q
told_twice (Err e) P Q R both p q = tt

pub mapped : {T U E : Type 0} (f : T → U) (r : Result T E) (m : Result U E) (P : T → Type 0) (Q : U → Type 0)
    → MatchResult r (λ x. IsOkAnd m (λ y. y ≡ f x)) (λ e. m ≡ Err e) → ((x : T) → P x → Q (f x)) → IfOk r P → IfOk m Q
mapped f (Ok x) (Ok y) P Q is to p = subst Q (sym is) (to x p)
mapped f (Ok x) (Err e) P Q is to p = tt
mapped f (Err d) (Ok y) P Q is to p = absurd cc
mapped f (Err d) (Err e) P Q is to p = tt
