use Rattle.tsa_tool_starts.proofs.Examples as proved
use Rattle.tsa_tool_starts.proofs.laws.words_are_as_written.Goals as goal

pub returns : goal.returns
returns c = proved.words_are_as_written
