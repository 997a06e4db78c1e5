-- The declaration of a local, noted of one path after another.
use Rattle.std.proofs.Common.{◌≡◌, ℕ, nat_lt, ◌&&◌, if◌then◌else◌, List, Some, slice_get}
use Rattle.tsa_place_model.specs.Ways.{Way}
use Rattle.tsa_rules.specs.Points.{mentions}
use Rattle.tsa_rules_table.specs.declared.note.Note.TheVariants.{Mentions}
use Rattle.tsa_rules_table.specs.Rows.{Rows, last_row, mark_in}
use Rattle.tsa_rules_table.specs.Saying.{with_note}

-- the declaration is noted of the paths of the numbers below one
abbrev pub IsNotedBelow : List Way → (local at : ℕ) → (old now : Rows) → Type 0
IsNotedBelow paths local at old now = (n : ℕ) (c : Way) → slice_get paths n ≡ Some c
    → mark_in now (last_row now) n ≡ (if nat_lt n at && mentions local c then with_note Mentions (mark_in old (last_row old) n) else mark_in old (last_row old) n)
