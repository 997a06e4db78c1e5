use Rattle.tsa_sound_accepted.proofs.SmallLayouts as small
use Rattle.tsa_sound_accepted.proofs.entered.layouts_are_small.Goals as goal

pub returns : goal.returns
returns c = small.layouts_are_small
