-- What the lines of held locks say after their places: `in F: P S`, S being the words of the statuses that P may have.
use Rattle.std.specs.Prelude.{◌<◌, ℕ, nat_eq, Bool, List, [], ◌++◌, map, filter, codes, decimal, slice_get, unwrap_or, Contains, AllPairs}
use Rattle.std.specs.Prelude.{◌↔◌, if◌then◌else◌}
use Rattle.std.specs.Int.{bit_at}
use Rattle.std.specs.List.{range_with_len, join_with_byte}
use Rattle.tsa_rules.specs.Sets.{Has}
use Rattle.tsa_rules.specs.Statuses.{number_of, status_of}
use Rattle.tsa_rules.specs.declared.status.Status.{Status}
use Rattle.tsa_rules.specs.declared.status.Status.TheVariants.{Free, Shared, Exclusive, Lent, Pending}
use Rattle.tsa_rules.specs.declared.statuses.Statuses.{Statuses}

-- what is said of a depth after `exclusive`: nothing of one hold, and the number of more
abbrev pub depth_text : (depth : ℕ) → List ℕ
depth_text depth = if nat_eq depth 1 then [] else codes " " ++ decimal depth

-- the name of a try variable by its number in a list of names; a number that none has is told by nothing
abbrev pub try_name : (tries : List (List ℕ)) → (variable : ℕ) → List ℕ
try_name tries variable = unwrap_or (slice_get tries variable) []

-- the word of a status
unfoldable pub status_word : (tries : List (List ℕ)) → Status → List ℕ
-- no hold is owned here
status_word tries Free = codes "free"
-- one hold together with other readers
status_word tries Shared = codes "shared"
-- one hold or more, alone
status_word tries (Exclusive depth) = codes "exclusive" ++ depth_text depth
-- a caller holds it
status_word tries Lent = codes "lent"
-- the answer of a try stands unseen in a variable
status_word tries (Pending variable) = codes "pending " ++ try_name tries variable

-- words in a row, with `|` (0x7C) between each two
unfoldable pub words_text : (words : List (List ℕ)) → List ℕ
words_text words = join_with_byte 124 words

-- whether a set has the status, by the bit of its number
abbrev pub is_member : Statuses → Status → Bool
is_member set s = nat_eq (bit_at set.bits (number_of s)) 1

-- those members of a set whose numbers are below a limit, from the smallest number on
unfoldable pub members_below : Statuses → (limit : ℕ) → List Status
members_below set limit = filter (is_member set) (map status_of (range_with_len 0 limit))

-- all members of a set; their numbers are below 64
abbrev pub members : Statuses → List Status
members set = members_below set 64

-- the words of the members of a set
unfoldable pub set_text : (tries : List (List ℕ)) → Statuses → List ℕ
set_text tries set = words_text (map (status_word tries) (members set))

-- `in F: P S`
unfoldable pub held_text : (tries : List (List ℕ)) → (function path : List ℕ) → Statuses → List ℕ
held_text tries function path set = codes "in " ++ function ++ codes ": " ++ path ++ codes " " ++ set_text tries set

-- The members are the statuses that a set has, and they stand in the order of their numbers, so each of them once.
abbrev pub MembersAreWhatSetsHave : Type 0
MembersAreWhatSetsHave = (set : Statuses) (s : Status) → Contains (members set) s ↔ Has set s

abbrev pub MembersAreInOrder : Type 0
MembersAreInOrder = (set : Statuses) → AllPairs (λ s t. number_of s < number_of t) (members set)
