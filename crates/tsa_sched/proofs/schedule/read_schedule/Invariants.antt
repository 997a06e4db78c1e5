use Rattle.std.proofs.Common.{length, ◌-◌, ◌≡◌, Some, ℕ, ◌≤◌, take}
use Rattle.tsa_sched.specs.Parts.{reading, start, run, IsPart}
use Rattle.tsa_sched.proofs.schedule.read_schedule.Given as goal

abbrev pub decreases-bytes : goal.decreases-bytes
decreases-bytes l = length l.text - l.at

abbrev pub invariant-bytes : goal.invariant-bytes
invariant-bytes l = record { inside : l.at ≤ length l.text; run : run start (take l.at l.text) ≡ Some (reading l.picks.items l.part); part : IsPart l.part }
