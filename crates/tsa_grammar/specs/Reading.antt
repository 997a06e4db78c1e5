-- The reader of a grammar follows the forms, one choice at a time.
use Rattle.std.specs.Prelude.{ℕ, zero, suc, ◌+◌, ◌*◌, ◌-◌, Bool, true, false, Result, Ok, Err}
use Rattle.tsa_grammar.specs.Form.{Form, done, bar, token, part, limit, only, either}

-- A token is refused because no text goes on so, because a limit is passed, or by the bar of this number.
pub data Code : Type 0 where
  syntax : Code
  deep : Code
  barred : ℕ → Code

-- A refusal names its reason and the place of the token that is refused.
pub record Refusal : Type 0 where
  pub code : Code
  pub token : ℕ

abbrev pub refuse : Code → ℕ → Refusal
refuse q i = record { code = q; token = i }

-- A reader answers with what it made and the place after it, or with a refusal.
abbrev pub Outcome : Type 0 → Type 0
Outcome A = Result (A × ℕ) Refusal

-- This is the place where a reader stopped.
abbrev pub stop : {A : Type 0} → Outcome A → ℕ
stop (Ok p) = p.1
stop (Err e) = e.token

-- The rest is read from the place where the part ended. A refusal ends the reading.
unfoldable pub then : {A B : Type 0} → Outcome A → (A → ℕ → Outcome B) → Outcome B
then (Ok p) go = go p.0 p.1
then (Err e) go = Err e

-- The first is taken where the test holds, and else the second.
unfoldable pub choose : {A : Type 0} → Bool → A → A → A
choose true x y = x
choose false x y = y

-- So many steps are enough for a part, where all ranks are below 64: a part begins after a token, or has a lower rank.
unfoldable pub measure : {S : Type 0} {C : S → Type 0} (rank : (s : S) → C s → ℕ) (size : ℕ) (s : S) → C s → ℕ → ℕ
measure rank size s c a = 64 * (size - a) + rank s c

-- There are no limits: each number of open constructs is allowed.
abbrev pub all : ℕ → Bool
all n = true

module _ {S : Type 0} {C N : S → Type 0} {K : Type 0} (sees : K → ℕ → Bool) (fits : ℕ → Bool) where
  -- This reads what a form asks for from a place on, where the parts are read by what is given.
  abbrev pub follow : ((u : S) → C u → ℕ → Outcome (N u)) → (s : S) → Form S C N K s → ℕ → Outcome (N s)
  follow run s (done x) a = Ok (x, a)
  follow run s (bar p q f) a = choose p (Err (refuse (barred q) a)) (follow run s f a)
  follow run s (token t f) a = choose (sees t a) (follow run s f (a + 1)) (Err (refuse syntax a))
  follow run s (part u c k) a = then (run u c a) (λ y m. follow run s (k y m) m)
  follow run s (limit n f) a = choose (fits n) (follow run s f a) (Err (refuse deep a))
  follow run s (only p f) a = follow run s f a
  follow run s (either p f g) a = choose p (follow run s f a) (follow run s g a)

  module _ (rule : (s : S) → C s → ℕ → Form S C N K s) (rank : (s : S) → C s → ℕ) (size : ℕ) where
    -- This reads a part from a place on, and opens parts in one another no more often than the first number says.
    unfoldable pub run_in : ℕ → (s : S) → C s → ℕ → Outcome (N s)
    run_in zero s c a = Err (refuse syntax a)
    run_in (suc n) s c a = follow (run_in n) s (rule s c a) a

    -- This reads a part from a place on.
    unfoldable pub run : (s : S) → C s → ℕ → Outcome (N s)
    run s c a = run_in (measure rank size s c a + 1) s c a
