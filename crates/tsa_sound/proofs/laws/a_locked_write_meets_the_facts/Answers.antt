use Rattle.tsa_sound.proofs.Example as example
use Rattle.tsa_sound.proofs.laws.a_locked_write_meets_the_facts.Goals as goal

pub returns : goal.returns
returns c = example.a_locked_write_meets_the_facts
