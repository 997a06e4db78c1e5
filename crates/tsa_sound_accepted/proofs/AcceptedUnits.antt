-- A unit in the profile of which no rule fails is sound.
use Rattle.std.proofs.Common.{◌≡◌, refl}
use Rattle.tsa_core.specs.Programs.{program_of}
use Rattle.tsa_sound.proofs.Starting.{programs_are_sound}
use Rattle.tsa_sound_accepted.specs.Laws.{UnitsWithoutWarningsAreSound}
use Rattle.tsa_sound_accepted.proofs.Facts.{program_facts, program_rows}

pub units_without_warnings_are_sound : UnitsWithoutWarningsAreSound
units_without_warnings_are_sound items l ready quiet s start picks are =
    programs_are_sound (program_of items) (program_rows (program_of items)) s picks (program_facts items l (program_of items) refl ready quiet) start are
