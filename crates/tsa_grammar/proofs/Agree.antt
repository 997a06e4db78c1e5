-- Until a limit is passed, the limits change nothing, and where one is passed, the text goes on.
use Rattle.std.proofs.Common.{ℕ, zero, suc, ◌+◌, ◌<◌, ◌≤◌, ◌≡◌, ap, sym, subst, refl, Bool, true, false, Ok, Err, arith}
use Rattle.tsa_grammar.specs.Form.{Form, done, bar, token, part, limit, only, either}
use Rattle.tsa_grammar.specs.Reading.{Code, syntax, deep, barred, refuse, Outcome, stop, then, choose, follow, measure, all}
use Rattle.tsa_grammar.proofs.Good.{Next, Past, Good}
use Rattle.tsa_grammar.proofs.Cases.{chosen, other, on_choose, on_then}
use Rattle.tsa_grammar.proofs.Runs.{Right, Kept, kept_on, smaller}
use Rattle.tsa_grammar.proofs.Complete.{forward}

-- A refusal within limits tells this of the answer without limits.
abbrev pub AgreesAt : {A : Type 0} → Code → ℕ → Outcome A → Type 0
AgreesAt deep i r = i < stop r
AgreesAt syntax i r = r ≡ Err (refuse syntax i)
AgreesAt (barred q) i r = r ≡ Err (refuse (barred q) i)

-- An answer within limits tells this of the answer without limits.
abbrev pub Agrees : {A : Type 0} → Outcome A → Outcome A → Type 0
Agrees (Ok p) r = r ≡ Ok p
Agrees (Err e) r = AgreesAt e.code e.token r

alike_choose : {A : Type 0} (b : Bool) (x x' y y' : Outcome A) → (b ≡ true → Agrees x x') → (b ≡ false → Agrees y y')
    → Agrees (choose b x y) (choose b x' y')
unfolding choose
alike_choose true x x' y y' h k = h refl
alike_choose false x x' y y' h k = k refl

alike_err : {A B : Type 0} (q : Code) (i : ℕ) (r : Outcome A) (k : A → ℕ → Outcome B) → AgreesAt q i r
    → ((y : A) (n : ℕ) → r ≡ Ok (y, n) → n ≤ stop (k y n)) → AgreesAt q i (then r k)
unfolding then
alike_err deep i (Ok p) k h fw = omega (arith, h, fw p.0 p.1 refl)
alike_err deep i (Err x) k h fw = h
alike_err syntax i r k h fw = ap (λ r. then r k) h
alike_err (barred q) i r k h fw = ap (λ r. then r k) h

alike_then : {A B : Type 0} (r r' : Outcome A) (k k' : A → ℕ → Outcome B) → Agrees r r'
    → ((y : A) (n : ℕ) → r' ≡ Ok (y, n) → Agrees (k y n) (k' y n))
    → ((y : A) (n : ℕ) → r' ≡ Ok (y, n) → n ≤ stop (k' y n)) → Agrees (then r k) (then r' k')
unfolding then
alike_then (Ok p) r' k k' e h fw = subst (λ x. Agrees (k p.0 p.1) (then x k')) (sym e) (h p.0 p.1 e)
alike_then (Err x) r' k k' e h fw = alike_err x.code x.token r' k' e fw

module _ {S : Type 0} {C N : S → Type 0} {K : Type 0} (sees : K → ℕ → Bool) (fits : ℕ → Bool)
    (rule : (s : S) → C s → ℕ → Form S C N K s)
    (First : (s : S) → C s → ℕ → Type 0) (Ends : (s : S) → C s → N s → ℕ → Type 0)
    (Moves : (s : S) → C s → ℕ → Type 0) (rank : (s : S) → C s → ℕ) (size : ℕ)
    (inside : (t : K) (a : ℕ) → sees t a ≡ true → a < size)
    (firsts : (s : S) (c : C s) (a : ℕ) → Next sees First Ends Moves rank s (λ x b. Unit {0}) (rule s c a) a → First s c a)
    (good : (s : S) (c : C s) (a : ℕ) → Good sees First Ends Moves rank s c true (rule s c a) a)
    (low : (s : S) (c : C s) → rank s c < 64)
    (moves : (s : S) (c : C s) (a : ℕ) → Moves s c a → Past sees First Ends Moves rank s (rule s c a) a)
    (go free : (u : S) → C u → ℕ → Outcome (N u))
    (steps : (s : S) (c : C s) (a : ℕ) → go s c a ≡ follow sees fits go s (rule s c a) a)
    (free_right : (u : S) (d : C u) (i : ℕ) → Right sees all rule First Ends Moves rank size u d i (free u d i))
    (free_steps : (s : S) (c : C s) (a : ℕ) → free s c a ≡ follow sees all free s (rule s c a) a) where
  onward : (s : S) (c : C s) (w : Bool) (f : Form S C N K s) (a : ℕ) → Good sees First Ends Moves rank s c w f a
      → a ≤ stop (follow sees all free s f a)
  onward s c w f a g = forward sees all rule First Ends Moves rank size inside firsts good free free_right free_steps s c w f a g

  -- Where a form says that a reader goes past a place, the reader without limits does.
  past_follow : (s : S) (c : C s) (a : ℕ)
      → ((u : S) (d : C u) (i : ℕ) → measure rank size u d i < measure rank size s c a → Moves u d i → i < stop (free u d i))
      → (w : Bool) (f : Form S C N K s) (m : ℕ) → Kept w size a m → Good sees First Ends Moves rank s c w f m
      → Past sees First Ends Moves rank s f m → m < stop (follow sees all free s f m)
  past_follow s c a h w (done x) m kept g p = absurd p
  past_follow s c a h w (bar b q f) m kept g p =
      subst (λ r. m < stop r) (sym (other b _ _ p.0)) (past_follow s c a h w f m kept (g.1 p.0) p.1)
  past_follow s c a h w (token t f) m kept g p =
      subst (λ r. m < stop r) (sym (chosen (sees t m) _ _ p)) (omega (arith, onward s c false f (m + 1) (g p)))
  past_follow s c a h w (part u d k) m kept g p =
      let lt = h u d m (smaller sees all rule First Ends Moves rank size inside good s u c d w a m (low u d) kept g.0) p in
      on_then (λ r. m < stop r) (free u d m) _
      (λ y n e. let ok = subst (Right sees all rule First Ends Moves rank size u d m) e (free_right u d m) in
      omega (arith, ok.0, onward s c false (k y n) n ((g.1 y n).1 ok.3)))
      (λ x e. subst (λ r. m < stop r) e lt)
  past_follow s c a h w (limit n f) m kept g p =
      subst (λ r. m < stop r) (sym (chosen (all n) _ _ refl)) (past_follow s c a h w f m kept g.1 p)
  past_follow s c a h w (only b f) m kept g p = past_follow s c a h w f m kept g.1 p
  past_follow s c a h w (either b f f') m kept g p =
      on_choose
      (λ r. m < stop r) b _ _
      (λ e. past_follow s c a h w f m kept (g.2 e) (p.0 e))
      (λ e. past_follow s c a h w f' m kept (g.3 e) (p.1 e))

  past_in : (n : ℕ) (s : S) (c : C s) (a : ℕ) → measure rank size s c a < n → Moves s c a → a < stop (free s c a)
  past_in zero s c a lt m = absurd (omega arith)
  past_in (suc n) s c a lt m =
      subst (λ r. a < stop r) (sym (free_steps s c a))
      (past_follow s c a (λ u d i le. past_in n u d i (omega arith)) true (rule s c a) a refl (good s c a) (moves s c a m))

  -- The reader within limits and the one without answer alike, form by form.
  alike_follow : (s : S) (c : C s) (a : ℕ)
      → ((u : S) (d : C u) (i : ℕ) → measure rank size u d i < measure rank size s c a → Agrees (go u d i) (free u d i))
      → (w : Bool) (f : Form S C N K s) (m : ℕ) → Kept w size a m → Good sees First Ends Moves rank s c w f m
      → Agrees (follow sees fits go s f m) (follow sees all free s f m)
  alike_follow s c a h w (done x) m kept g = refl
  alike_follow s c a h w (bar b q f) m kept g = alike_choose b _ _ _ _ (λ e. refl) (λ e. alike_follow s c a h w f m kept (g.1 e))
  alike_follow s c a h w (token t f) m kept g =
      alike_choose (sees t m) _ _ _ _
      (λ e. let lt = inside t m e in
      alike_follow s c a h false f (m + 1)
      (kept_on sees all rule First Ends Moves rank size inside good w a m (m + 1) kept (omega arith) (omega arith)) (g e))
      (λ e. refl)
  alike_follow s c a h w (part u d k) m kept g =
      alike_then _ _ _ _ (h u d m (smaller sees all rule First Ends Moves rank size inside good s u c d w a m (low u d) kept g.0))
      (λ y n e. let r = subst (Right sees all rule First Ends Moves rank size u d m) e (free_right u d m) in
      alike_follow s c a h false (k y n) n
      (kept_on sees all rule First Ends Moves rank size inside good w a m n kept r.0 r.1) ((g.1 y n).1 r.3))
      (λ y n e. let r = subst (Right sees all rule First Ends Moves rank size u d m) e (free_right u d m) in
      onward s c false (k y n) n ((g.1 y n).1 r.3))
  alike_follow s c a h w (limit n f) m kept g =
      on_choose (λ r. Agrees r (choose (all n) (follow sees all free s f m) (Err (refuse deep m)))) (fits n) _ _
      (λ e. subst (Agrees (follow sees fits go s f m)) (sym (chosen (all n) _ _ refl)) (alike_follow s c a h w f m kept g.1))
      (λ e. subst (λ r. m < stop r) (sym (chosen (all n) _ _ refl))
      (past_follow s c a
      (λ u d i lt. past_in _ u d i (let le : measure rank size u d i < measure rank size u d i + 1 = omega arith in le))
      w f m kept g.1 g.0))
  alike_follow s c a h w (only b f) m kept g = alike_follow s c a h w f m kept g.1
  alike_follow s c a h w (either b f f') m kept g =
      alike_choose b _ _ _ _ (λ e. alike_follow s c a h w f m kept (g.2 e)) (λ e. alike_follow s c a h w f' m kept (g.3 e))

  agree_in : (n : ℕ) (s : S) (c : C s) (a : ℕ) → measure rank size s c a < n → Agrees (go s c a) (free s c a)
  agree_in zero s c a lt = absurd (omega arith)
  agree_in (suc n) s c a lt =
      subst (λ r. Agrees r (free s c a)) (sym (steps s c a))
      (subst (Agrees (follow sees fits go s (rule s c a) a)) (sym (free_steps s c a))
      (alike_follow s c a (λ u d i le. agree_in n u d i (omega arith)) true (rule s c a) a refl (good s c a)))

  -- The reader within limits and the one without answer alike.
  pub agree : (s : S) (c : C s) (a : ℕ) → Agrees (go s c a) (free s c a)
  agree s c a = agree_in (measure rank size s c a + 1) s c a (omega arith)
