use Rattle.tsa_sound_accepted.proofs.kept.NamedPaths as named
use Rattle.tsa_sound_accepted.proofs.kept.paths_are_named_once.Goals as goal

pub returns : goal.returns
returns c = named.paths_are_named_once
