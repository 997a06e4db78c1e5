-- The code of a term goes as the term.
use Rattle.std.specs.Prelude.{◌≡◌, ℕ, ◌+◌, ◌<◌, ◌≤◌, Bool, true, false, List, ◌++◌, length, Option, Some, None}
use Rattle.tsa_base.specs.declared.value.Value.{Value}
use Rattle.tsa_place_model.specs.Calls.{Layout}
use Rattle.tsa_core.specs.Terms.{Term}
use Rattle.tsa_mean.specs.Acts.{Act}
use Rattle.tsa_mean.specs.Working.{Locals}
use Rattle.tsa_lower_going.specs.Going.{Going, and_then, place_going, value_going}
use Rattle.tsa_lower_code.specs.Codes.{going, height, place_code, slot, value_code}
use Rattle.tsa_lower_code.specs.declared.instr.Instr.{Instr}

-- slot 0 has the answer of the point's call, where that is answered
abbrev pub HasAnswer : Option Value → Bool → List Value → Type 0
HasAnswer None false s = Unit {0}
HasAnswer (Some v) true s = slot s 0 ≡ v
HasAnswer _ _ s = ⊥

-- what follows goes on with the value in a slot, whatever stands above it
pub record GoesOn (k : ℕ) (s : List Value) (rest : List Value → Going Act) (next : Value → Going Act) : Type 0 where
  pub on : (v : Value) (t : List Value) → length t ≡ length s → ((j : ℕ) → j < k → slot t j ≡ slot s j) → slot t k ≡ v → rest t ≡ next v

-- The code of a term goes to its place or value, and then on as what follows.
pub record CodeGoesAsTheTerm : Type 0 where
  pub place : (l : Layout) (locals : Locals) (given : Option Value) (is_answered : Bool) (x : Term) (k : ℕ) (rest : List Instr)
      → (s : List Value) (next : Value → Going Act)
      → 0 < k → k + height x ≤ length s → HasAnswer given is_answered s → GoesOn k s (going l locals 0 rest) next
      → going l locals 0 (place_code l is_answered x k ++ rest) s ≡ and_then (place_going l locals given x) next
  pub value : (l : Layout) (locals : Locals) (given : Option Value) (is_answered : Bool) (x : Term) (k : ℕ) (rest : List Instr)
      → (s : List Value) (next : Value → Going Act)
      → 0 < k → k + height x ≤ length s → HasAnswer given is_answered s → GoesOn k s (going l locals 0 rest) next
      → going l locals 0 (value_code l is_answered x k ++ rest) s ≡ and_then (value_going l locals given x) next
