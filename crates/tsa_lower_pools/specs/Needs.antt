-- How many slots instructions need.
use Rattle.std.specs.Prelude.{ℕ, ◌+◌, ◌≤◌, max}
use Rattle.tsa_lower_code.specs.declared.instr.Instr.{Instr}
use Rattle.tsa_lower_code.specs.declared.instr.Instr.TheVariants.{Constant, Local, Answer, Member, Element, Follow, Load, Convert, Prefix}
use Rattle.tsa_lower_code.specs.declared.instr.Instr.TheVariants.{Join, Skip, Truth, Stop, End}
use Rattle.tsa_lower_code.specs.declared.instr.Ending.{Ending}
use Rattle.tsa_lower_code.specs.declared.instr.Ending.TheVariants as ending

abbrev pub ending_needs : Ending → ℕ
ending_needs ending.Step = 0
ending_needs (ending.Set number from) = from + 1
ending_needs (ending.Write at) = at + 2
ending_needs (ending.Branch from) = from + 1
ending_needs (ending.Choose from) = from + 1
ending_needs (ending.Leave from) = from + 1
ending_needs (ending.Enter f from count) = from + count
ending_needs (ending.Lock kind success from f result) = from + 1
ending_needs (ending.Ask f result) = 0

abbrev pub needs : Instr → ℕ
needs (Constant to v) = to + 1
needs (Local to number) = to + 1
needs (Answer to) = to + 1
needs (Member at number) = at + 1
needs (Element at) = at + 2
needs (Follow at) = at + 1
needs (Load from to) = max (from + 1) (to + 1)
needs (Convert at kind) = at + 1
needs (Prefix at o) = at + 1
needs (Join left right to o) = max (left + 1) (max (right + 1) (to + 1))
needs (Skip at on by) = at + 1
needs (Truth at) = at + 1
needs (Stop kind) = 0
needs (End e) = ending_needs e

-- an instruction has its slots among so many
abbrev pub IsFit : (slots : ℕ) → Instr → Type 0
IsFit slots i = needs i ≤ slots
