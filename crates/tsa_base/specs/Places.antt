-- Places in a text: the line and the column of a byte, and how a place is written.
use Rattle.std.specs.Prelude.{ℕ, ◌≡◌, ◌+◌, ◌≤◌, ◌<◌, ◌==◌, not, List, ◌++◌, length, take, slice_index, count_by, codes}
use Rattle.std.specs.List.{suffix_len}
use Rattle.std.specs.Fmt.{decimal}
use Rattle.tsa_base.specs.declared.places.Place.{Place}

-- one more than the line ends (0x0A) before a byte
unfoldable pub line_at : List ℕ → ℕ → ℕ
line_at bytes at = count_by (λ c. c == 10) (take at bytes) + 1

-- one more than the bytes since the last line end
unfoldable pub column_at : List ℕ → ℕ → ℕ
column_at bytes at = suffix_len (λ c. not (c == 10)) (take at bytes) + 1

-- past the end of the text, the place of its end
abbrev pub place_at : List ℕ → ℕ → Place
place_at bytes at = record { line = line_at bytes at; column = column_at bytes at }

-- `L:C: `
unfoldable pub place_text : Place → List ℕ
place_text place = decimal place.line ++ codes ":" ++ decimal place.column ++ codes ": "

-- The table after `LineStarts`, which no public clause names: the first bytes of the lines, in order, of all lines that
-- begin at a byte or before it.
pub record AreStarts (bytes : List ℕ) (at : ℕ) (starts : List ℕ) : Type 0 where
  pub all : length starts ≡ line_at bytes at
  pub first : slice_index starts 0 ≡ 0
  pub within : (k : ℕ) → k < length starts → slice_index starts k ≤ at
  pub line : (k : ℕ) → k < length starts → line_at bytes (slice_index starts k) ≡ k + 1
  pub column : (k : ℕ) → k < length starts → column_at bytes (slice_index starts k) ≡ 1
