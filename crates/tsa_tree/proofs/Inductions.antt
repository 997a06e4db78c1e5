-- What holds of every text that the parts of a grammar spell, or that begins them: what each row keeps.
use Rattle.std.proofs.Common.{ℕ, ◌+◌, ◌≡◌, Bool, true, Option, Some, None}
use Rattle.tsa_grammar.specs.Form.{Form, done, bar, token, part, limit, only, either}
use Rattle.tsa_grammar.specs.Spelling.{Spells, by_rule, Goes, goes_done, goes_token, goes_part, goes_bar, goes_limit, goes_only, goes_left}
use Rattle.tsa_grammar.specs.Spelling.{goes_right, Begins, begins_rule, Starts, starts_here, starts_barred, starts_bar, starts_token}
use Rattle.tsa_grammar.specs.Spelling.{starts_in, starts_over, starts_limit, starts_only, starts_left, starts_right}

-- Needs says what holds of the place where a part is asked for, Means what a part's text is, and Begun what begins one.
module _ {S : Type 0} {C N : S → Type 0} {K : Type 0}
    (rule : (s : S) → C s → ℕ → Form S C N K s) (sees : K → ℕ → Bool) (fits : ℕ → Bool)
    (Needs : (s : S) → C s → ℕ → Type 0) (Means : (s : S) → C s → N s → (a b : ℕ) → Type 0) where
  -- Whatever goes on from here as the form says ends where P holds.
  abbrev pub Keeps : (s : S) → (N s → ℕ → Type 0) → Form S C N K s → ℕ → Type 0
  Keeps s P (done x) a = P x a
  Keeps s P (bar p q f) a = Keeps s P f a
  Keeps s P (token t f) a = sees t a ≡ true → Keeps s P f (a + 1)
  Keeps s P (part u c k) a = Needs u c a × ((y : N u) (m : ℕ) → Means u c y a m → Keeps s P (k y m) m)
  Keeps s P (limit n f) a = fits n ≡ true → Keeps s P f a
  Keeps s P (only p f) a = p ≡ true → Keeps s P f a
  Keeps s P (either p f g) a = Keeps s P f a × Keeps s P g a

  module _ (rows : (s : S) (c : C s) (a : ℕ) → Needs s c a → Keeps s (λ x b. Means s c x a b) (rule s c a) a) where
    mutual
      -- Every text of a part is what its row keeps.
      pub means : {s : S} {c : C s} {x : N s} {a b : ℕ} → Spells rule sees fits s c x a b → Needs s c a → Means s c x a b
      means {c = c} {a = a} (by_rule g) h = kept c a g (rows _ c a h)

      kept : {s : S} {f : Form S C N K s} {x : N s} {a b : ℕ} (c : C s) (start : ℕ) → Goes rule sees fits s f x a b
          → Keeps s (λ x b. Means s c x start b) f a → Means s c x start b
      kept c start goes_done h = h
      kept c start (goes_token e g) h = kept c start g (h e)
      kept c start (goes_part {y = y} {m = m} sp g) h = kept c start g (h.1 y m (means sp h.0))
      kept c start (goes_bar g) h = kept c start g h
      kept c start (goes_limit e g) h = kept c start g (h e)
      kept c start (goes_only e g) h = kept c start g (h e)
      kept c start (goes_left g) h = kept c start g h.0
      kept c start (goes_right g) h = kept c start g h.1

  -- Begun says what begins a part, and Refused where a token of one is refused, by which rule.
  module _ (Begun : (s : S) → C s → (a b : ℕ) → Type 0) (Refused : (s : S) → C s → (a b q : ℕ) → Type 0) where
    -- Whatever begins what the form asks for, from here on, ends where B holds, and what is refused in it is so where R holds.
    abbrev pub Opens : (s : S) → (ℕ → Type 0) → (ℕ → ℕ → Type 0) → Form S C N K s → ℕ → Type 0
    Opens s B R (done x) a = B a
    Opens s B R (bar p q f) a = (p ≡ true → R a q) × Opens s B R f a
    Opens s B R (token t f) a = B a × (sees t a ≡ true → Opens s B R f (a + 1))
    Opens s B R (part u c k) a =
        B a × Needs u c a × ((b : ℕ) → Begun u c a b → B b) × ((b q : ℕ) → Refused u c a b q → R b q)
        × ((y : N u) (m : ℕ) → Means u c y a m → Opens s B R (k y m) m)
    Opens s B R (limit n f) a = B a × (fits n ≡ true → Opens s B R f a)
    Opens s B R (only p f) a = B a × (p ≡ true → Opens s B R f a)
    Opens s B R (either p f g) a = Opens s B R f a × Opens s B R g a

    here : (s : S) (B : ℕ → Type 0) (R : ℕ → ℕ → Type 0) (f : Form S C N K s) (a : ℕ) → Opens s B R f a → B a
    here s B R (done x) a h = h
    here s B R (bar p q f) a h = here s B R f a h.1
    here s B R (token t f) a h = h.0
    here s B R (part u c k) a h = h.0
    here s B R (limit n f) a h = h.0
    here s B R (only p f) a h = h.0
    here s B R (either p f g) a h = here s B R f a h.0

    -- What begins a part, and what is refused in it, by whether it is refused.
    abbrev pub Reached : (s : S) → C s → (a b : ℕ) → Option ℕ → Type 0
    Reached s c a b None = Begun s c a b
    Reached s c a b (Some q) = Refused s c a b q

    module _ (rows : (s : S) (c : C s) (a : ℕ) → Needs s c a → Keeps s (λ x b. Means s c x a b) (rule s c a) a)
        (opens : (s : S) (c : C s) (a : ℕ) → Needs s c a → Opens s (λ b. Begun s c a b) (λ b q. Refused s c a b q) (rule s c a) a) where
      mutual
        -- Everything that begins a part, and everything that is refused in it, is what its row keeps.
        pub reached : {s : S} {c : C s} {a b : ℕ} {w : Option ℕ} → Begins rule sees fits s c a b w → Needs s c a → Reached s c a b w
        reached {c = c} {a = a} (begins_rule g) h = opened c a g (opens _ c a h)

        opened : {s : S} {f : Form S C N K s} {a b : ℕ} {w : Option ℕ} (c : C s) (start : ℕ) → Starts rule sees fits s f a b w
            → Opens s (λ b. Begun s c start b) (λ b q. Refused s c start b q) f a → Reached s c start b w
        opened {s = s} {f = f} {a = a} c start starts_here h = here s (λ b. Begun s c start b) (λ b q. Refused s c start b q) f a h
        opened c start (starts_barred e) h = h.0 e
        opened c start (starts_bar g) h = opened c start g h.1
        opened c start (starts_token e g) h = opened c start g (h.1 e)
        opened {b = b} {w = None} c start (starts_in g) h = h.2 b (reached g h.1)
        opened {b = b} {w = Some q} c start (starts_in g) h = h.3 b q (reached g h.1)
        opened c start (starts_over {y = y} {m = m} sp g) h = opened c start g (h.4 y m (means rows sp h.1))
        opened c start (starts_limit e g) h = opened c start g (h.1 e)
        opened c start (starts_only e g) h = opened c start g (h.1 e)
        opened c start (starts_left g) h = opened c start g h.0
        opened c start (starts_right g) h = opened c start g h.1

-- A whole part begins itself.
module _ {S : Type 0} {C N : S → Type 0} {K : Type 0}
    (rule : (s : S) → C s → ℕ → Form S C N K s) (sees : K → ℕ → Bool) (fits : ℕ → Bool) where
  mutual
    pub begins_whole : {s : S} {c : C s} {x : N s} {a b : ℕ} → Spells rule sees fits s c x a b → Begins rule sees fits s c a b None
    begins_whole (by_rule g) = begins_rule (starts_whole g)

    pub starts_whole : {s : S} {f : Form S C N K s} {x : N s} {a b : ℕ} → Goes rule sees fits s f x a b → Starts rule sees fits s f a b None
    starts_whole goes_done = starts_here
    starts_whole (goes_token q h) = starts_token q (starts_whole h)
    starts_whole (goes_part sp h) = starts_over sp (starts_whole h)
    starts_whole (goes_bar h) = starts_bar (starts_whole h)
    starts_whole (goes_limit q h) = starts_limit q (starts_whole h)
    starts_whole (goes_only q h) = starts_only q (starts_whole h)
    starts_whole (goes_left h) = starts_left (starts_whole h)
    starts_whole (goes_right h) = starts_right (starts_whole h)
