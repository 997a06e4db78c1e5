-- The numbers of some paths: where they stand.
use Rattle.std.specs.Prelude.{ℕ, nat_lt, List, length, Option, Some, None, if◌then◌else◌}
use Rattle.tsa_place_model.specs.Ways.{Way}
use Rattle.tsa_path.specs.PathTables.{number_of}

-- a number, where it is below a count
abbrev pub below_count : (number count : ℕ) → Option ℕ
below_count number count = if nat_lt number count then Some number else None

-- a path that isn't among them has no number
abbrev pub known_number : List Way → Way → Option ℕ
known_number paths w = below_count (number_of paths w) (length paths)
