use Rattle.tsa_profile_declarations.proofs.HeadParts.{more_than_one}
use Rattle.tsa_profile_declarations.proofs.functions.names_alone.Goals as goal

pub returns-in_default-2 : goal.returns-in_default-2
returns-in_default-2 c = more_than_one c.args.text.now c.args.args.now c.in_default.len_at_least
