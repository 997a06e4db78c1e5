use Rattle.tsa_sound.proofs.EveryTurn as every_turn
use Rattle.tsa_sound.proofs.laws.every_turn_goes_well.Goals as goal

pub returns : goal.returns
returns c = every_turn.every_turn_goes_well
