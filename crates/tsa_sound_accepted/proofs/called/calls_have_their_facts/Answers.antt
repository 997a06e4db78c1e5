use Rattle.tsa_sound_accepted.proofs.called.CallsMeet as meeting
use Rattle.tsa_sound_accepted.proofs.called.calls_have_their_facts.Goals as goal

pub returns : goal.returns
returns c = meeting.calls_have_their_facts
