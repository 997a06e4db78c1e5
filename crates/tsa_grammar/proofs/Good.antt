-- These definitions say what a grammar must meet, form by form, for its reader to be exact.
use Rattle.std.proofs.Common.{ℕ, ◌+◌, ◌<◌, ◌≡◌, ◌⊎◌, Bool, true, false}
use Rattle.tsa_grammar.specs.Form.{Form, done, bar, token, part, limit, only, either}

-- First says what is known of the place where a part begins that is not empty, Ends what is known of the place after a part where a reader
-- stops, and Moves where a reader of a part goes past its first place. A part of a lower rank may stand at the very beginning of a part.
module _ {S : Type 0} {C N : S → Type 0} {K : Type 0} (sees : K → ℕ → Bool)
    (First : (s : S) → C s → ℕ → Type 0) (Ends : (s : S) → C s → N s → ℕ → Type 0)
    (Moves : (s : S) → C s → ℕ → Type 0) (rank : (s : S) → C s → ℕ) where
  -- This is known of the place where a form goes on. E is known where it is whole.
  abbrev pub Next : (s : S) → (N s → ℕ → Type 0) → Form S C N K s → ℕ → Type 0
  Next s E (done x) a = E x a
  Next s E (bar p q f) a = (p ≡ true) ⊎ Next s E f a
  Next s E (token t f) a = sees t a ≡ true
  Next s E (part u c k) a = First u c a
  Next s E (limit n f) a = Next s E f a
  Next s E (only p f) a = (p ≡ true) × Next s E f a
  Next s E (either p f g) a = Next s E f a ⊎ Next s E g a

  -- A reader of the form goes past this place.
  abbrev pub Past : (s : S) → Form S C N K s → ℕ → Type 0
  Past s (done x) a = ⊥
  Past s (bar p q f) a = (p ≡ false) × Past s f a
  Past s (token t f) a = sees t a ≡ true
  Past s (part u c k) a = Moves u c a
  Past s (limit n f) a = Past s f a
  Past s (only p f) a = Past s f a
  Past s (either p f g) a = (p ≡ true → Past s f a) × (p ≡ false → Past s g a)

  -- Nothing that stands from this place on is all that the form asks for.
  abbrev pub Barren : (s : S) → Form S C N K s → ℕ → Type 0
  Barren s (done x) a = ⊥
  Barren s (bar p q f) a = Barren s f a
  Barren s (token t f) a = (sees t a ≡ false) ⊎ Barren s f (a + 1)
  Barren s (part u c k) a = First u c a → ⊥
  Barren s (limit n f) a = Barren s f a
  Barren s (only p f) a = (p ≡ false) ⊎ Barren s f a
  Barren s (either p f g) a = Barren s f a × Barren s g a

  -- A part that is whole is not empty, and E holds.
  abbrev pub Whole : (fresh : Bool) → Type 0 → Type 0
  Whole true E = ⊥
  Whole false E = E

  -- L holds of a part that stands at the very beginning of another.
  abbrev pub Lower : (fresh : Bool) → Type 0 → Type 0
  Lower true L = L
  Lower false L = Unit {0}

  -- A token comes next, whatever the form is after it.
  abbrev pub IsToken : (s : S) → Form S C N K s → Type 0
  IsToken s (token t f) = Unit {0}
  IsToken s _ = ⊥

  -- The form may stand here in a grammar. It is fresh while no token of its part was read. Each of its choices is decided by the token in
  -- sight, each part ends where the rest may go on, and a reader goes past each limit when there are no limits. No two bars stand at one
  -- place.
  abbrev pub Good : (s : S) (c : C s) (fresh : Bool) → Form S C N K s → ℕ → Type 0
  Good s c w (done x) a = Whole w (Ends s c x a)
  Good s c w (bar p q f) a = (p ≡ true → Barren s f a) × (p ≡ false → Good s c w f a) × IsToken s f
  Good s c w (token t f) a = sees t a ≡ true → Good s c false f (a + 1)
  Good s c w (part u d k) a =
      Lower w (rank u d < rank s c)
      × ((y : N u) (m : ℕ) → (Next s (Ends s c) (k y m) m → Ends u d y m) × (Ends u d y m → Good s c false (k y m) m))
  Good s c w (limit n f) a = Past s f a × Good s c w f a
  Good s c w (only p f) a = (p ≡ true) × Good s c w f a
  Good s c w (either p f g) a =
      (Next s (Ends s c) f a → p ≡ true) × (Next s (Ends s c) g a → p ≡ false)
      × (p ≡ true → Good s c w f a) × (p ≡ false → Good s c w g a)
