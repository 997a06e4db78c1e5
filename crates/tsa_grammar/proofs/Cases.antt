-- These lemmas go through the cases of an outcome and of a choice.
use Rattle.std.proofs.Common.{ℕ, ◌≡◌, ap, refl, Bool, true, false, Ok, Err}
use Rattle.tsa_grammar.specs.Reading.{Refusal, Outcome, then, choose}

pub chosen : {A : Type 0} (b : Bool) (x y : A) → b ≡ true → choose b x y ≡ x
unfolding choose
chosen true x y e = refl
chosen false x y e = cc

pub other : {A : Type 0} (b : Bool) (x y : A) → b ≡ false → choose b x y ≡ y
unfolding choose
other true x y e = cc
other false x y e = refl

pub goes : {A B : Type 0} (r : Outcome A) (go : A → ℕ → Outcome B) (t : A) (n : ℕ) → r ≡ Ok (t, n) → then r go ≡ go t n
unfolding then
goes r go t n e = ap (λ r. then r go) e

pub stopped : {A B : Type 0} (e : Refusal) (go : A → ℕ → Outcome B) → then (Err e) go ≡ Err e
unfolding then
stopped e go = refl

-- What holds of both sides holds of the choice.
pub on_choose : {A : Type 0} (P : A → Type 0) (b : Bool) (x y : A) → (b ≡ true → P x) → (b ≡ false → P y) → P (choose b x y)
unfolding choose
on_choose P true x y h k = h refl
on_choose P false x y h k = k refl

-- What holds of the rest after each part, and of each refusal, holds of the whole.
pub on_then : {A B : Type 0} (P : Outcome B → Type 0) (r : Outcome A) (go : A → ℕ → Outcome B)
    → ((y : A) (m : ℕ) → r ≡ Ok (y, m) → P (go y m)) → ((e : Refusal) → r ≡ Err e → P (Err e)) → P (then r go)
unfolding then
on_then P (Ok p) go h k = h p.0 p.1 refl
on_then P (Err e) go h k = k e refl
