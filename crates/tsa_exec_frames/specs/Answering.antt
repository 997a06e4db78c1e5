-- What is done in the same turn with the answer of a call, as the machine does it: a local is set, or a test goes one way.
use Rattle.std.specs.Prelude.{pos, Bool, false}
use Rattle.tsa_base.specs.declared.value.Value.{Value}
use Rattle.tsa_base.specs.declared.value.Value.TheVariants.{Int}
use Rattle.tsa_mean.specs.Acts.{Act, to_set, to_branch}
use Rattle.tsa_lower_going.specs.Going.{Going, gives}

-- what an act sets a local to, and which way it goes; another counts as 0
abbrev pub value_set : Act → Value
value_set (to_set n v) = v
value_set act = Int (pos 0)

abbrev pub way_gone : Act → Bool
way_gone (to_branch b) = b
way_gone act = false

-- the same of what is still to come, where a read and a trap count as 0
abbrev pub value_to_set : Going Act → Value
value_to_set (gives act) = value_set act
value_to_set other = Int (pos 0)

abbrev pub way_to_go : Going Act → Bool
way_to_go (gives act) = way_gone act
way_to_go other = false
