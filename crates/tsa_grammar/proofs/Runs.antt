-- What a reader answers is so, and its number of steps is enough.
use Rattle.std.proofs.Common.{ℕ, zero, suc, ◌+◌, ◌-◌, ◌<◌, ◌≤◌, ◌≡◌, ◌∙◌, ap, subst, refl, Bool, true, false, Option, Some, None, Ok, Err}
use Rattle.std.proofs.Common.{arith}
use Rattle.tsa_grammar.specs.Form.{Form, done, bar, token, part, limit, only, either}
use Rattle.tsa_grammar.specs.Spelling.{Spells, by_rule, Goes, goes_done, goes_token, goes_part, goes_bar, goes_limit, goes_only, goes_left}
use Rattle.tsa_grammar.specs.Spelling.{goes_right, Begins, begins_rule, Starts, starts_here, starts_barred, starts_bar, starts_token}
use Rattle.tsa_grammar.specs.Spelling.{starts_in, starts_over, starts_limit, starts_only, starts_left, starts_right}
use Rattle.tsa_grammar.specs.Reading.{Code, syntax, deep, barred, refuse, Outcome, then, choose, follow, run_in, measure, run}
use Rattle.tsa_grammar.proofs.Good.{Whole, Lower, Good}
use Rattle.tsa_grammar.proofs.Cases.{on_choose, on_then}

-- This is the bar that a code names.
abbrev pub named : Code → Option ℕ
named syntax = None
named deep = None
named (barred q) = Some q

-- At a fresh place some token has to be read.
abbrev pub Beyond : Bool → ℕ → ℕ → Type 0
Beyond true a b = a < b
Beyond false a b = a ≤ b

-- A part began at a, and its reader is at m.
abbrev pub Kept : Bool → ℕ → ℕ → ℕ → Type 0
Kept true size a m = m ≡ a
Kept false size a m = (a < m) × (m - size ≤ a - size)

module _ {S : Type 0} {C N : S → Type 0} {K : Type 0} (sees : K → ℕ → Bool) (fits : ℕ → Bool)
    (rule : (s : S) → C s → ℕ → Form S C N K s)
    (First : (s : S) → C s → ℕ → Type 0) (Ends : (s : S) → C s → N s → ℕ → Type 0)
    (Moves : (s : S) → C s → ℕ → Type 0) (rank : (s : S) → C s → ℕ) (size : ℕ) where
  -- What a reader of a part answers is so: a tree is spelled, and the tokens before a refusal begin the part.
  abbrev pub Right : (s : S) (c : C s) → ℕ → Outcome (N s) → Type 0
  Right s c a (Ok p) = (a < p.1) × (p.1 - size ≤ a - size) × Spells rule sees fits s c p.0 a p.1 × Ends s c p.0 p.1
  Right s c a (Err e) = (a ≤ e.token) × Begins rule sees fits s c a e.token (named e.code)

  -- What a reader of a form answers is so.
  abbrev pub RightOf : (s : S) (c : C s) (fresh : Bool) → Form S C N K s → ℕ → Outcome (N s) → Type 0
  RightOf s c w f a (Ok p) = Beyond w a p.1 × (p.1 - size ≤ a - size) × Goes rule sees fits s f p.0 a p.1 × Ends s c p.0 p.1
  RightOf s c w f a (Err e) = (a ≤ e.token) × Starts rule sees fits s f a e.token (named e.code)

  module _ (inside : (t : K) (a : ℕ) → sees t a ≡ true → a < size) where
    right_done : (s : S) (c : C s) (w : Bool) (x : N s) (a : ℕ) → Whole sees First Ends Moves rank w (Ends s c x a)
        → RightOf s c w (done x) a (Ok (x, a))
    right_done s c true x a g = absurd g
    right_done s c false x a g = (omega arith, omega arith, goes_done, g)

    right_token : (s : S) (c : C s) (w : Bool) (t : K) (f : Form S C N K s) (a : ℕ) (r : Outcome (N s)) → sees t a ≡ true
        → RightOf s c false f (a + 1) r → RightOf s c w (token t f) a r
    right_token s c true t f a (Ok p) e h = let lt = inside t a e in (omega arith, omega arith, goes_token e h.2, h.3)
    right_token s c false t f a (Ok p) e h = let lt = inside t a e in (omega arith, omega arith, goes_token e h.2, h.3)
    right_token s c w t f a (Err x) e h = (omega arith, starts_token e h.1)

    right_part : (s u : S) (c : C s) (d : C u) (k : N u → ℕ → Form S C N K s) (w : Bool) (a m : ℕ) (y : N u) (r : Outcome (N s))
        → a < m → m - size ≤ a - size → Spells rule sees fits u d y a m → RightOf s c false (k y m) m r → RightOf s c w (part u d k) a r
    right_part s u c d k true a m y (Ok p) lt le sp h = (omega arith, omega arith, goes_part sp h.2, h.3)
    right_part s u c d k false a m y (Ok p) lt le sp h = (omega arith, omega arith, goes_part sp h.2, h.3)
    right_part s u c d k w a m y (Err x) lt le sp h = (omega arith, starts_over sp h.1)

    right_limit : (s : S) (c : C s) (w : Bool) (n : ℕ) (f : Form S C N K s) (a : ℕ) (r : Outcome (N s)) → fits n ≡ true
        → RightOf s c w f a r → RightOf s c w (limit n f) a r
    right_limit s c w n f a (Ok p) e h = (h.0, h.1, goes_limit e h.2, h.3)
    right_limit s c w n f a (Err x) e h = (h.0, starts_limit e h.1)

    right_only : (s : S) (c : C s) (w : Bool) (p : Bool) (f : Form S C N K s) (a : ℕ) (r : Outcome (N s)) → p ≡ true → RightOf s c w f a r
        → RightOf s c w (only p f) a r
    right_only s c w p f a (Ok x) e h = (h.0, h.1, goes_only e h.2, h.3)
    right_only s c w p f a (Err x) e h = (h.0, starts_only e h.1)

    right_left : (s : S) (c : C s) (w : Bool) (p : Bool) (f g : Form S C N K s) (a : ℕ) (r : Outcome (N s)) → RightOf s c w f a r
        → RightOf s c w (either p f g) a r
    right_left s c w p f g a (Ok x) h = (h.0, h.1, goes_left h.2, h.3)
    right_left s c w p f g a (Err x) h = (h.0, starts_left h.1)

    right_right : (s : S) (c : C s) (w : Bool) (p : Bool) (f g : Form S C N K s) (a : ℕ) (r : Outcome (N s)) → RightOf s c w g a r
        → RightOf s c w (either p f g) a r
    right_right s c w p f g a (Ok x) h = (h.0, h.1, goes_right h.2, h.3)
    right_right s c w p f g a (Err x) h = (h.0, starts_right h.1)

    right_bar : (s : S) (c : C s) (w : Bool) (p : Bool) (q : ℕ) (f : Form S C N K s) (a : ℕ) (r : Outcome (N s)) → RightOf s c w f a r
        → RightOf s c w (bar p q f) a r
    right_bar s c w p q f a (Ok x) h = (h.0, h.1, goes_bar h.2, h.3)
    right_bar s c w p q f a (Err x) h = (h.0, starts_bar h.1)

    pub right_follow : (go : (u : S) → C u → ℕ → Outcome (N u)) → ((u : S) (d : C u) (i : ℕ) → Right u d i (go u d i))
        → (s : S) (c : C s) (w : Bool) (f : Form S C N K s) (a : ℕ) → Good sees First Ends Moves rank s c w f a
        → RightOf s c w f a (follow sees fits go s f a)
    right_follow go ok s c w (done x) a g = right_done s c w x a g
    right_follow go ok s c w (bar p q f) a g =
        on_choose (RightOf s c w (bar p q f) a) p _ _
        (λ e. (omega arith, starts_barred e))
        (λ e. right_bar s c w p q f a _ (right_follow go ok s c w f a (g.1 e)))
    right_follow go ok s c w (token t f) a g =
        on_choose (RightOf s c w (token t f) a) (sees t a) _ _
        (λ e. right_token s c w t f a _ e (right_follow go ok s c false f (a + 1) (g e)))
        (λ e. (omega arith, starts_here))
    right_follow go ok s c w (part u d k) a g =
        on_then (RightOf s c w (part u d k) a) (go u d a) _
        (λ y m e. let h = subst (Right u d a) e (ok u d a) in
        right_part s u c d k w a m y _ h.0 h.1 h.2 (right_follow go ok s c false (k y m) m ((g.1 y m).1 h.3)))
        (λ x e. let h = subst (Right u d a) e (ok u d a) in (h.0, starts_in h.1))
    right_follow go ok s c w (limit n f) a g =
        on_choose (RightOf s c w (limit n f) a) (fits n) _ _
        (λ e. right_limit s c w n f a _ e (right_follow go ok s c w f a g.1))
        (λ e. (omega arith, starts_here))
    right_follow go ok s c w (only p f) a g = right_only s c w p f a _ g.0 (right_follow go ok s c w f a g.1)
    right_follow go ok s c w (either p f h) a g =
        on_choose (RightOf s c w (either p f h) a) p _ _
        (λ e. right_left s c w p f h a _ (right_follow go ok s c w f a (g.2 e)))
        (λ e. right_right s c w p f h a _ (right_follow go ok s c w h a (g.3 e)))

    right_rule : (s : S) (c : C s) (a : ℕ) (r : Outcome (N s)) → RightOf s c true (rule s c a) a r → Right s c a r
    right_rule s c a (Ok p) h = (h.0, h.1, by_rule h.2, h.3)
    right_rule s c a (Err x) h = (h.0, begins_rule h.1)

    module _ (good : (s : S) (c : C s) (a : ℕ) → Good sees First Ends Moves rank s c true (rule s c a) a) where
      pub right_in : (n : ℕ) (s : S) (c : C s) (a : ℕ) → Right s c a (run_in sees fits rule rank size n s c a)
      unfolding run_in
      right_in zero s c a = (omega arith, begins_rule starts_here)
      right_in (suc n) s c a =
          right_rule s c a _
          (right_follow (run_in sees fits rule rank size n) (λ u d i. right_in n u d i) s c true (rule s c a) a (good s c a))

      -- What a reader answers is so.
      pub right : (s : S) (c : C s) (a : ℕ) → Right s c a (run sees fits rule rank size s c a)
      unfolding run
      right s c a = right_in _ s c a

      same_then : {A B : Type 0} (r r' : Outcome A) (k k' : A → ℕ → Outcome B) → r ≡ r' → ((y : A) (m : ℕ) → r ≡ Ok (y, m) → k y m ≡ k' y m)
          → then r k ≡ then r' k'
      unfolding then
      same_then (Ok p) r' k k' e h = h p.0 p.1 refl ∙ ap (λ x. then x k') e
      same_then (Err x) r' k k' e h = ap (λ x. then x k') e

      same_choose : {A : Type 0} (b : Bool) (x x' y y' : A) → (b ≡ true → x ≡ x') → (b ≡ false → y ≡ y') → choose b x y ≡ choose b x' y'
      unfolding choose
      same_choose true x x' y y' h k = h refl
      same_choose false x x' y y' h k = k refl

      -- A part that stands in another takes fewer steps.
      pub smaller : (s u : S) (c : C s) (d : C u) (w : Bool) (a m : ℕ) → rank u d < 64 → Kept w size a m
          → Lower sees First Ends Moves rank w (rank u d < rank s c) → measure rank size u d m < measure rank size s c a
      unfolding measure
      smaller s u c d true a m r e l = omega (arith, l)
      smaller s u c d false a m r e l = omega (arith, e.0, e.1)

      pub kept_on : (w : Bool) (a m b : ℕ) → Kept w size a m → m < b → b - size ≤ m - size → Kept false size a b
      kept_on true a m b e lt le = (omega (arith, e), omega (arith, e))
      kept_on false a m b e lt le = (omega (arith, e.0), omega (arith, e.1))

      module _ (low : (s : S) (c : C s) → rank s c < 64) where
        same_follow : (go go' : (u : S) → C u → ℕ → Outcome (N u)) → ((u : S) (d : C u) (i : ℕ) → Right u d i (go u d i))
            → (s : S) (c : C s) (a : ℕ)
            → ((u : S) (d : C u) (i : ℕ) → measure rank size u d i < measure rank size s c a → go u d i ≡ go' u d i)
            → (w : Bool) (f : Form S C N K s) (m : ℕ) → Kept w size a m → Good sees First Ends Moves rank s c w f m
            → follow sees fits go s f m ≡ follow sees fits go' s f m
        same_follow go go' ok s c a h w (done x) m kept g = refl
        same_follow go go' ok s c a h w (bar p q f) m kept g =
            same_choose p _ _ _ _ (λ e. refl) (λ e. same_follow go go' ok s c a h w f m kept (g.1 e))
        same_follow go go' ok s c a h w (token t f) m kept g =
            same_choose (sees t m) _ _ _ _
            (λ e. let lt = inside t m e in
            same_follow go go' ok s c a h false f (m + 1) (kept_on w a m (m + 1) kept (omega arith) (omega arith)) (g e))
            (λ e. refl)
        same_follow go go' ok s c a h w (part u d k) m kept g =
            same_then _ _ _ _ (h u d m (smaller s u c d w a m (low u d) kept g.0))
            (λ y n e. let r = subst (Right u d m) e (ok u d m) in
            same_follow go go' ok s c a h false (k y n) n (kept_on w a m n kept r.0 r.1) ((g.1 y n).1 r.3))
        same_follow go go' ok s c a h w (limit n f) m kept g =
            ap (λ x. choose (fits n) x (Err (refuse deep m))) (same_follow go go' ok s c a h w f m kept g.1)
        same_follow go go' ok s c a h w (only p f) m kept g = same_follow go go' ok s c a h w f m kept g.1
        same_follow go go' ok s c a h w (either p f q) m kept g =
            same_choose p _ _ _ _
            (λ e. same_follow go go' ok s c a h w f m kept (g.2 e))
            (λ e. same_follow go go' ok s c a h w q m kept (g.3 e))

        -- More steps than are enough change nothing.
        same : (n n' : ℕ) (s : S) (c : C s) (a : ℕ) → measure rank size s c a < n → measure rank size s c a < n'
            → run_in sees fits rule rank size n s c a ≡ run_in sees fits rule rank size n' s c a
        unfolding run_in
        same zero n' s c a h h' = absurd (omega arith)
        same (suc n) zero s c a h h' = absurd (omega arith)
        same (suc n) (suc n') s c a h h' =
            same_follow (run_in sees fits rule rank size n) (run_in sees fits rule rank size n')
            (λ u d i. right_in n u d i) s c a
            (λ u d i lt. same n n' u d i (omega arith) (omega arith)) true (rule s c a) a refl (good s c a)

        -- Each part is read by its form.
        pub steps : (s : S) (c : C s) (a : ℕ)
            → run sees fits rule rank size s c a ≡ follow sees fits (run sees fits rule rank size) s (rule s c a) a
        unfolding run_in run
        steps s c a =
            let n = measure rank size s c a in
            (let e : n + 1 ≡ suc n = omega arith in ap (λ n. run_in sees fits rule rank size n s c a) e)
            ∙ same_follow (run_in sees fits rule rank size n) (run sees fits rule rank size) (λ u d i. right_in n u d i) s c a
            (λ u d i lt. same n (measure rank size u d i + 1) u d i lt (omega arith)) true (rule s c a) a refl (good s c a)
