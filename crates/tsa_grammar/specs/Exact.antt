-- These records say what an answer tells of the tokens from a on, exactly. Where they speak of the longest beginning of the part, they
-- mean the longest list of tokens from a that begins it when there are no limits.
use Rattle.std.specs.Prelude.{ℕ, ◌≤◌, ◌<◌, Bool, Some, None, Ok, Err}
use Rattle.tsa_grammar.specs.Form.{Form}
use Rattle.tsa_grammar.specs.Spelling.{Spells, Begins}
use Rattle.tsa_grammar.specs.Reading.{Code, syntax, deep, barred, Outcome, all}

module _ {S : Type 0} {C N : S → Type 0} {K : Type 0}
    (rule : (s : S) → C s → ℕ → Form S C N K s) (sees : K → ℕ → Bool) (fits : ℕ → Bool) (s : S) (c : C s) (a : ℕ) where
  -- The longest beginning ends at e and is a whole part that spells x. It passes no limit, and no bar stands in it or after it.
  pub record IsRead (x : N s) (e : ℕ) : Type 0 where
    pub spelled : Spells rule sees fits s c x a e
    pub longest : (b : ℕ) → Begins rule sees all s c a b None → b ≤ e
    pub no_bar : (b : ℕ) (q : ℕ) → Begins rule sees all s c a b (Some q) → ⊥

  -- The longest beginning ends at i. It passes no limit, and no bar stands in it or after it.
  pub record IsBroken (i : ℕ) : Type 0 where
    pub begins : Begins rule sees fits s c a i None
    pub longest : (b : ℕ) → Begins rule sees all s c a b None → b ≤ i
    pub no_bar : (b : ℕ) (q : ℕ) → Begins rule sees all s c a b (Some q) → ⊥

  -- The bar of number q stands at i, where no limit is passed before, and no bar stands before it.
  pub record IsBarred (q : ℕ) (i : ℕ) : Type 0 where
    pub begins : Begins rule sees fits s c a i (Some q)
    pub first : (b : ℕ) (q' : ℕ) → Begins rule sees all s c a b (Some q') → i ≤ b

  -- The tokens up to before i are the most that begins the part within the limits. Without limits it goes on, and no bar stands up to i.
  pub record IsTooDeep (i : ℕ) : Type 0 where
    pub begins : Begins rule sees fits s c a i None
    pub within : (b : ℕ) → Begins rule sees fits s c a b None → b ≤ i
    pub goes_on : (b : ℕ) × (i < b) × Begins rule sees all s c a b None
    pub no_bar : (b : ℕ) (q : ℕ) → Begins rule sees all s c a b (Some q) → i < b

  -- A refusal tells this of the tokens.
  abbrev pub ExactAt : Code → ℕ → Type 0
  ExactAt syntax i = IsBroken i
  ExactAt deep i = IsTooDeep i
  ExactAt (barred q) i = IsBarred q i

  -- An answer tells this of the tokens.
  abbrev pub Exact : Outcome (N s) → Type 0
  Exact (Ok p) = IsRead p.0 p.1
  Exact (Err e) = ExactAt e.code e.token
