-- When a fault may be answered.
use Rattle.std.specs.Prelude.{ℕ, ◌+◌, ◌-◌, ◌^◌, ◌≤◌, min}

-- a count that has come to the greatest `u64` stays there
abbrev pub one_more : ℕ → ℕ
one_more n = min (n + 1) (2 ^ 64 - 1)

-- a count of faults has gone up, or stands at the greatest `u64`
abbrev pub Rose : ℕ → ℕ → Type 0
Rose before now = one_more before ≤ now
