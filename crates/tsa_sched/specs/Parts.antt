-- What a byte makes of the pick that is being read.
use Rattle.std.specs.Prelude.{ℕ, ◌+◌, ◌-◌, ◌*◌, ◌≡◌, ◌<◌, ◌≤◌, ◌^◌, ◌++◌, ◌==◌, ◌&&◌, nat_le, nat_lt, Bool, true, false, ℤ, pos, negsuc, zero, suc, List, [], ◌∷◌, length, Option, Some, None, option_map, if◌then◌else◌}
use Rattle.tsa_base.specs.Bytes.{is_digit}
use Rattle.tsa_base.specs.declared.limits.TheConstants.{TURN_LIMIT}
use Rattle.tsa_sched.specs.declared.pick.Pick.{Pick}
use Rattle.tsa_sched.specs.declared.part.Part.{Part}
use Rattle.tsa_sched.specs.declared.part.Part.TheVariants.{Nothing, Begun, Thread, Asked, Minus, Answer}
use Rattle.tsa_sched.specs.Schedules.{comma, colon, hyphen}

-- the greatest size of an answer by its sign
abbrev pub most : Bool → ℕ
most true = 2 ^ 31
most false = 2 ^ 31 - 1

-- an answer by its sign and size; there is no 0 with a sign
abbrev pub signed : Bool → ℕ → ℤ
signed false n = pos n
signed true zero = pos 0
signed true (suc n) = negsuc n

abbrev pub digit : ℕ → Option ℕ
digit b = if is_digit b then Some (b - 48) else None

-- one digit more, where no 0 stands before it and the number stays small
abbrev pub longer : (limit n b : ℕ) → Option ℕ
longer limit n b = if is_digit b && (nat_lt 0 n && nat_le (n * 10 + (b - 48)) limit) then Some (n * 10 + (b - 48)) else None

-- the first digit behind a sign isn't 0
abbrev pub first_of_negative : ℕ → Option ℕ
first_of_negative b = if nat_lt 48 b && nat_le b 57 then Some (b - 48) else None

abbrev in_thread : ℕ → ℕ → Option Part
in_thread n b = if b == colon then Some (Asked n) else option_map Thread (longer (2 ^ 32 - 1) n b)

abbrev in_answer : ℕ → ℕ → Option Part
in_answer n b = if b == hyphen then Some (Minus n) else option_map (Answer n false) (digit b)

abbrev pub grown : Part → ℕ → Option Part
grown Nothing b = option_map Thread (digit b)
grown Begun b = option_map Thread (digit b)
grown (Thread n) b = in_thread n b
grown (Asked n) b = in_answer n b
grown (Minus n) b = option_map (Answer n true) (first_of_negative b)
grown (Answer n is_negative size) b = option_map (Answer n is_negative) (longer (most is_negative) size b)

-- the pick that may end there
abbrev pub pick_in : Part → Option Pick
pick_in (Thread n) = Some (record { thread = n; answer = pos 0 })
pick_in (Answer n is_negative size) = Some (record { thread = n; answer = signed is_negative size })
pick_in _ = None

-- the numbers of a part fit
abbrev pub IsPart : Part → Type 0
IsPart Nothing = Unit {0}
IsPart Begun = Unit {0}
IsPart (Thread n) = n < 2 ^ 32
IsPart (Asked n) = n < 2 ^ 32
IsPart (Minus n) = n < 2 ^ 32
IsPart (Answer n false size) = (n < 2 ^ 32) × (size ≤ 2 ^ 31 - 1)
IsPart (Answer n true size) = (n < 2 ^ 32) × ((0 < size) × (size ≤ 2 ^ 31))

-- the picks that are read, and what stands behind them
pub record Reading : Type 0 where
  pub picks : List Pick
  pub part : Part

abbrev pub reading : List Pick → Part → Reading
reading picks part = record { picks = picks; part = part }

abbrev pub start : Reading
start = reading [] Nothing

-- a comma ends a pick where a further one may come
abbrev pub behind_comma : List Pick → Option Pick → Option Reading
behind_comma picks None = None
behind_comma picks (Some pick) = if nat_lt (length picks + 1) TURN_LIMIT then Some (reading (picks ++ pick ∷ []) Begun) else None

abbrev pub step : Reading → ℕ → Option Reading
step r b = if b == comma then behind_comma r.picks (pick_in r.part) else option_map (reading r.picks) (grown r.part b)

abbrev pub and_then : Option Reading → (Reading → Option Reading) → Option Reading
and_then None f = None
and_then (Some r) f = f r

-- a text from a reading on
abbrev pub run : Reading → List ℕ → Option Reading
run r [] = Some r
run r (b ∷ bs) = and_then (step r b) (λ s. run s bs)

-- the picks where the text ends
abbrev pub finish : Reading → Option (List Pick)
finish r = by r.part
  where
    by : Part → Option (List Pick)
    by Nothing = Some r.picks
    by part = option_map (λ pick. r.picks ++ pick ∷ []) (pick_in part)

-- the picks of a text, read from its first byte on
abbrev pub picks_of_end : Option Reading → Option (List Pick)
picks_of_end None = None
picks_of_end (Some r) = finish r

abbrev pub picks_of : List ℕ → Option (List Pick)
picks_of text = picks_of_end (run start text)
