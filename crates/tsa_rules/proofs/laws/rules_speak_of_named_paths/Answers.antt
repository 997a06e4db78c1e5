use Rattle.tsa_rules.proofs.OtherPaths as unnamed
use Rattle.tsa_rules.proofs.laws.rules_speak_of_named_paths.Goals as goal

pub returns : goal.returns
returns c = unnamed.rules_speak_of_named_paths
