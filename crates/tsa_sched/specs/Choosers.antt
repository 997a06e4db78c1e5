-- What the choosers choose, by their states.
use Rattle.std.specs.Prelude.{ℕ, ◌+◌, ◌*◌, ◌/◌, ◌%◌, ◌^◌, ℤ, pos, List, [], ◌∷◌, length, slice_index_or}
use Rattle.tsa_sched.specs.declared.pick.Pick.{Pick}

-- a state of one number
abbrev pub number : List ℕ → ℕ
number [] = 0
number (n ∷ ns) = n

-- the thread of a place in the list of those that are able
abbrev pub picked : (able : List ℕ) → (place : ℕ) → (answer : ℤ) → Pick
picked able place answer = record { thread = slice_index_or able place 0; answer = answer }

-- one after the other, counted modulo 2^32
abbrev pub robin_choice : (state able : List ℕ) → Pick
robin_choice state able = picked able (number state % length able) (pos 0)

abbrev pub robin_after : (state able : List ℕ) → List ℕ
robin_after state able = ((number state + 1) % 2 ^ 32) ∷ []

-- always the first one
abbrev pub steady_choice : (state able : List ℕ) → Pick
steady_choice state able = picked able 0 (pos 0)

abbrev pub steady_after : (state able : List ℕ) → List ℕ
steady_after state able = []

-- by a linear congruence: the upper half tells the thread, the last bit the answer
abbrev pub scattered : List ℕ → ℕ
scattered state = (1664525 * number state + 1013904223) % 2 ^ 32

abbrev pub scatter_choice : (state able : List ℕ) → Pick
scatter_choice state able = picked able (scattered state / 65536 % length able) (pos (scattered state % 2))

abbrev pub scatter_after : (state able : List ℕ) → List ℕ
scatter_after state able = scattered state ∷ []
