use Rattle.tsa_sound_accepted.proofs.entered.PointsLead as points
use Rattle.tsa_sound_accepted.proofs.entered.arguments_lead_along_their_paths.Goals as goal

pub returns : goal.returns
returns c = points.arguments_lead
