-- These relations say what the parts of a grammar spell, and what begins them. They go by the forms, and ask no reader.
use Rattle.std.specs.Prelude.{ℕ, ◌+◌, ◌≡◌, Bool, true, Option, Some, None}
use Rattle.tsa_grammar.specs.Form.{Form, done, bar, token, part, limit, only, either}

-- rule gives the form of a part at a place, sees says whether a token of this kind stands at a place, and fits says which numbers of
-- open constructs are within the limits.
module _ {S : Type 0} {C N : S → Type 0} {K : Type 0}
    (rule : (s : S) → C s → ℕ → Form S C N K s) (sees : K → ℕ → Bool) (fits : ℕ → Bool) where
  mutual
    -- The tokens from a up to before b are a whole part, and they spell x.
    pub data Spells : (s : S) → C s → N s → (a b : ℕ) → Type 0 where
      by_rule : {s : S} {c : C s} {x : N s} {a b : ℕ} → Goes s (rule s c a) x a b → Spells s c x a b

    -- The tokens from a up to before b are all that the form asks for, and x is made at their end.
    pub data Goes : (s : S) → Form S C N K s → N s → (a b : ℕ) → Type 0 where
      goes_done : {s : S} {x : N s} {a : ℕ} → Goes s (done x) x a a
      goes_token : {s : S} {t : K} {f : Form S C N K s} {x : N s} {a b : ℕ} →
          sees t a ≡ true → Goes s f x (a + 1) b → Goes s (token t f) x a b
      goes_part : {s u : S} {c : C u} {k : N u → ℕ → Form S C N K s} {y : N u} {x : N s} {a m b : ℕ} →
          Spells u c y a m → Goes s (k y m) x m b → Goes s (part u c k) x a b
      goes_bar : {s : S} {p : Bool} {q : ℕ} {f : Form S C N K s} {x : N s} {a b : ℕ} → Goes s f x a b → Goes s (bar p q f) x a b
      goes_limit : {s : S} {n : ℕ} {f : Form S C N K s} {x : N s} {a b : ℕ} →
          fits n ≡ true → Goes s f x a b → Goes s (limit n f) x a b
      goes_only : {s : S} {p : Bool} {f : Form S C N K s} {x : N s} {a b : ℕ} → p ≡ true → Goes s f x a b → Goes s (only p f) x a b
      goes_left : {s : S} {p : Bool} {f g : Form S C N K s} {x : N s} {a b : ℕ} → Goes s f x a b → Goes s (either p f g) x a b
      goes_right : {s : S} {p : Bool} {f g : Form S C N K s} {x : N s} {a b : ℕ} → Goes s g x a b → Goes s (either p f g) x a b

  mutual
    -- The tokens from a up to before b begin the part. With Some q, what the bar of number q refuses stands next, at b.
    pub data Begins : (s : S) → C s → (a b : ℕ) → Option ℕ → Type 0 where
      begins_rule : {s : S} {c : C s} {a b : ℕ} {w : Option ℕ} → Starts s (rule s c a) a b w → Begins s c a b w

    -- The tokens from a up to before b begin what the form asks for: whole pieces in order, and then what begins the next one.
    pub data Starts : (s : S) → Form S C N K s → (a b : ℕ) → Option ℕ → Type 0 where
      starts_here : {s : S} {f : Form S C N K s} {a : ℕ} → Starts s f a a None
      starts_barred : {s : S} {p : Bool} {q : ℕ} {f : Form S C N K s} {a : ℕ} → p ≡ true → Starts s (bar p q f) a a (Some q)
      starts_bar : {s : S} {p : Bool} {q : ℕ} {f : Form S C N K s} {a b : ℕ} {w : Option ℕ} →
          Starts s f a b w → Starts s (bar p q f) a b w
      starts_token : {s : S} {t : K} {f : Form S C N K s} {a b : ℕ} {w : Option ℕ} →
          sees t a ≡ true → Starts s f (a + 1) b w → Starts s (token t f) a b w
      starts_in : {s u : S} {c : C u} {k : N u → ℕ → Form S C N K s} {a b : ℕ} {w : Option ℕ} →
          Begins u c a b w → Starts s (part u c k) a b w
      starts_over : {s u : S} {c : C u} {k : N u → ℕ → Form S C N K s} {y : N u} {a m b : ℕ} {w : Option ℕ} →
          Spells u c y a m → Starts s (k y m) m b w → Starts s (part u c k) a b w
      starts_limit : {s : S} {n : ℕ} {f : Form S C N K s} {a b : ℕ} {w : Option ℕ} →
          fits n ≡ true → Starts s f a b w → Starts s (limit n f) a b w
      starts_only : {s : S} {p : Bool} {f : Form S C N K s} {a b : ℕ} {w : Option ℕ} →
          p ≡ true → Starts s f a b w → Starts s (only p f) a b w
      starts_left : {s : S} {p : Bool} {f g : Form S C N K s} {a b : ℕ} {w : Option ℕ} →
          Starts s f a b w → Starts s (either p f g) a b w
      starts_right : {s : S} {p : Bool} {f g : Form S C N K s} {a b : ℕ} {w : Option ℕ} →
          Starts s g a b w → Starts s (either p f g) a b w
