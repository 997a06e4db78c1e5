-- What points say of paths: a row for each point that is begun, and in it a mark for each path, by the path's number.
use Rattle.std.specs.Prelude.{◌≡◌, ℕ, ◌-◌, ◌/◌, ◌%◌, ◌^◌, ◌<◌, ◌≤◌, nat_eq, Bool, ◌&&◌, List, map, unwrap_or, if◌then◌else◌}
use Rattle.std.specs.Map.{lookup}
use Rattle.tsa_rules.specs.declared.mark.Mark.{Mark}
use Rattle.tsa_rules.specs.Marks.{no_mark}
use Rattle.tsa_rules_table.specs.declared.entries.Entry.{Entry}

-- the marks that are noted, each under its row and the number of its path
pub record Rows : Type 0 where
  pub count : ℕ
  pub marks : List ((ℕ × ℕ) × Mark)

abbrev pub rows_in : Rows → ℕ
rows_in m = m.count

-- a mark that is noted, as one of them
abbrev pub entry_of : Entry → (ℕ × ℕ) × Mark
entry_of e = ((e.row, e.number), e.mark)

abbrev pub is_place : (row number : ℕ) → ℕ × ℕ → Bool
is_place row number at = nat_eq row at.0 && nat_eq number at.1

-- what a row says of the path of a number, which is nothing where nothing is noted
abbrev pub mark_in : Rows → (row number : ℕ) → Mark
mark_in m row number = unwrap_or (lookup (is_place row number) m.marks) no_mark

-- a number of 64 bits, seen as a row and the number of a path
abbrev pub place_of : ℕ → ℕ × ℕ
place_of key = (key / 2 ^ 32, key % 2 ^ 32)

abbrev pub rows_of : (count : ℕ) → List (ℕ × Mark) → Rows
rows_of count marks = record { count = count; marks = map (λ e. (place_of e.0, e.1)) marks }

-- rows that aren't begun say nothing
abbrev pub OnlyBegunRowsSay : Rows → Type 0
OnlyBegunRowsSay m = (row number : ℕ) → rows_in m ≤ row → mark_in m row number ≡ no_mark

-- a row is begun
abbrev pub IsBegun : Rows → Type 0
IsBegun m = 0 < rows_in m

-- the row that was begun last
abbrev pub last_row : Rows → ℕ
last_row m = rows_in m - 1

-- The rows before the last one stay as they are, and no row is begun.
pub record KeepsRows (old new : Rows) : Type 0 where
  pub count : rows_in new ≡ rows_in old
  pub marks : (row number : ℕ) → row < last_row old → mark_in new row number ≡ mark_in old row number

-- The last row says another thing of the path of a number, and nothing else changes.
pub record Puts (old new : Rows) (number : ℕ) (mark : Mark) : Type 0 where
  pub count : rows_in new ≡ rows_in old
  pub marks : (row n : ℕ) → mark_in new row n ≡ (if is_place (last_row old) number (row, n) then mark else mark_in old row n)
