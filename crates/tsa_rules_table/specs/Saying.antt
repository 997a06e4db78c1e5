-- What a mark says after some notes of a path: each is about the path that it names.
use Rattle.std.specs.Prelude.{◌≡◌, ℕ, Bool, false, ◌&&◌, List, [], ◌∷◌, Option, None, Some, slice_get, if◌then◌else◌}
use Rattle.tsa_place_model.specs.Ways.{Way}
use Rattle.tsa_core.specs.Programs.{Attr}
use Rattle.tsa_core.specs.Uses.{Access}
use Rattle.tsa_path.specs.PathTables.{AreDifferent}
use Rattle.tsa_rules.specs.Attributes.{is_path}
use Rattle.tsa_rules.specs.Marks.{claim_in, with_attribute, with_declaration, with_left, with_right}
use Rattle.tsa_rules.specs.Points.{mentions}
use Rattle.tsa_rules.specs.declared.mark.Mark.{Mark}
use Rattle.tsa_rules_table.specs.declared.note.Note.{Note}
use Rattle.tsa_rules_table.specs.declared.note.Note.TheVariants.{Named, Guards, Mentions}
use Rattle.tsa_rules_table.specs.declared.note.Side.{Side}
use Rattle.tsa_rules_table.specs.declared.note.Side.TheVariants.{Left, Right}
use Rattle.tsa_rules_table.specs.Rows.{Rows, is_place, last_row, mark_in, rows_in}

abbrev pub with_note : Note → Mark → Mark
with_note (Named claim) m = with_attribute m claim
with_note (Guards Left is_write) m = with_left m is_write
with_note (Guards Right is_write) m = with_right m is_write
with_note Mentions m = with_declaration m

-- The last row says more of the path of a number, and nothing else changes.
pub record Adds (old new : Rows) (number : ℕ) (note : Note) : Type 0 where
  pub count : rows_in new ≡ rows_in old
  pub marks : (row n : ℕ) → mark_in new row n ≡ (if is_place (last_row old) number (row, n) then with_note note (mark_in old row n) else mark_in old row n)

-- a note of a path, which may be none, and notes of some paths
abbrev pub noted : Option Way → Note → Way → Mark → Mark
noted w note c m = if is_path c w then with_note note m else m

abbrev pub noted_all : List (Option Way) → Note → Way → Mark → Mark
noted_all [] note c m = m
noted_all (w ∷ rest) note c m = noted_all rest note c (noted w note c m)

-- attributes and accesses, each behind the others
abbrev pub noted_attribute : Attr → Way → Mark → Mark
noted_attribute a = noted a.path (Named (claim_in a))

abbrev pub named_by : List Attr → Way → Mark → Mark
named_by [] c m = m
named_by (a ∷ rest) c m = named_by rest c (noted_attribute a c m)

abbrev pub noted_access : Side → Access → Way → Mark → Mark
noted_access side a = noted_all a.guards (Guards side a.is_write)

abbrev pub guarding : Side → List Access → Way → Mark → Mark
guarding side [] c m = m
guarding side (a ∷ rest) c m = guarding side rest c (noted_access side a c m)

-- whether the path of a number mentions a local
abbrev pub is_mentioning : List Way → (number local : ℕ) → Bool
is_mentioning paths number local = by (slice_get paths number)
  where
    by : Option Way → Bool
    by None = false
    by (Some c) = mentions local c

-- The last row says more of the path of a number, where that mentions a local, and nothing else changes.
pub record AddsMention (paths : List Way) (local : ℕ) (old new : Rows) (number : ℕ) : Type 0 where
  pub count : rows_in new ≡ rows_in old
  pub marks : (row n : ℕ) → mark_in new row n
      ≡ (if is_place (last_row old) number (row, n) && is_mentioning paths number local then with_note Mentions (mark_in old row n) else mark_in old row n)

-- The last row says of each of some different paths what `f` makes of what it said.
abbrev pub Says : List Way → (Way → Mark → Mark) → Rows → Rows → Type 0
Says paths f old new = (number : ℕ) (c : Way) → AreDifferent paths → slice_get paths number ≡ Some c
    → mark_in new (last_row new) number ≡ f c (mark_in old (last_row old) number)
