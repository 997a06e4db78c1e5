-- How many slots operators use, of the parts that they stand before.
use Rattle.std.specs.Prelude.{ℕ, ◌+◌, max, Bool, List, if◌then◌else◌}
use Rattle.tsa_core.specs.Meanings.{beside}
use Rattle.tsa_core_rows.specs.Reading.{Part, part_at}
use Rattle.tsa_lower_code.specs.Codes.{height}

abbrev pub both_height : List Part → ℕ
both_height ps = max (height (part_at 0 ps).sense.term) (height (part_at 1 ps).sense.term + 1)

abbrev pub compared_height : List Part → ℕ
compared_height ps =
    max (height (beside (part_at 1 ps).sense.type.thing.kind (part_at 0 ps).sense))
    (height (beside (part_at 0 ps).sense.type.thing.kind (part_at 1 ps).sense) + 1)

-- the first slot above the null pointer in a slot, or above another part
abbrev pub null_or_top : Bool → (slot top : ℕ) → ℕ
null_or_top is_null slot top = if is_null then slot + 1 else top
