-- Schedules as texts: which text spells which picks, and where a text that spells none breaks.
use Rattle.std.specs.Prelude.{ℕ, ◌+◌, ◌≡◌, ◌<◌, ◌≤◌, ◌^◌, ◌++◌, ◌⊎◌, ℤ, pos, negsuc, List, [], ◌∷◌, length, take}
use Rattle.std.specs.Fmt.{decimal, signed_decimal}
use Rattle.tsa_base.specs.declared.limits.TheConstants.{TURN_LIMIT}
use Rattle.tsa_sched.specs.declared.pick.Pick.{Pick}

abbrev pub comma : ℕ
comma = 44

abbrev pub colon : ℕ
colon = 58

abbrev pub hyphen : ℕ
hyphen = 45

-- an answer is an `int`
abbrev pub IsInt : ℤ → Type 0
IsInt (pos n) = n < 2 ^ 31
IsInt (negsuc n) = n < 2 ^ 31

-- a pick is a thread, and behind a colon the answer, which is 0 where it is left out
abbrev pub SpellsPick : List ℕ → Pick → Type 0
SpellsPick text pick = ((text ≡ decimal pick.thread) × (pick.answer ≡ pos 0)) ⊎ (text ≡ decimal pick.thread ++ colon ∷ signed_decimal pick.answer)

pub record IsPickText (text : List ℕ) (pick : Pick) : Type 0 where
  pub thread : pick.thread < 2 ^ 32
  pub answer : IsInt pick.answer
  pub spells : SpellsPick text pick

-- picks are joined by commas
abbrev pub SpellsPicks : List ℕ → List Pick → Type 0
SpellsPicks text [] = text ≡ []
SpellsPicks text (pick ∷ []) = IsPickText text pick
SpellsPicks text (pick ∷ next ∷ picks) =
    (first rest : List ℕ) × ((text ≡ first ++ comma ∷ rest) × IsPickText first pick × SpellsPicks rest (next ∷ picks))

-- a schedule has at most so many picks
pub record SpellsSchedule (text : List ℕ) (picks : List Pick) : Type 0 where
  pub few : length picks ≤ TURN_LIMIT
  pub spells : SpellsPicks text picks

-- some schedule begins so
abbrev pub BeginsSchedule : List ℕ → Type 0
BeginsSchedule text = (more : List ℕ) × (picks : List Pick) × SpellsSchedule (text ++ more) picks

-- What comes before a byte begins a schedule; with the byte it doesn't, or there is none and the text is no schedule.
pub record IsMalformed (text : List ℕ) (byte : ℕ) : Type 0 where
  pub before : BeginsSchedule (take byte text)
  pub breaks : ((byte < length text) × (BeginsSchedule (take (byte + 1) text) → ⊥))
      ⊎ ((byte ≡ length text) × ((picks : List Pick) → SpellsSchedule text picks → ⊥))
