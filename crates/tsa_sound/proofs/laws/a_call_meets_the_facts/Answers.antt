use Rattle.tsa_sound.proofs.ExampleCall as example_call
use Rattle.tsa_sound.proofs.laws.a_call_meets_the_facts.Goals as goal

pub returns : goal.returns
returns c = example_call.a_call_meets_the_facts
