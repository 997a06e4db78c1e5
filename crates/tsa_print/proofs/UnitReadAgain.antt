-- The tokens of a unit's canonical text spell the same unit, up to spans, and no other; and what was read can be printed so.
use Rattle.tsa_tree.proofs.units.Laws.{one_unit}
use Rattle.tsa_tree.proofs.units.Read.{unit_sound}
use Rattle.tsa_print.specs.UnitPrintLaws.{SoundUnitIsReadAgain, ReadUnitIsSound}
use Rattle.tsa_print.proofs.PlainPieces.{same_text}
use Rattle.tsa_print.proofs.SpelledUnits.{unit_spelled}
use Rattle.tsa_print.proofs.UnitTokens.{unit_tokens}

pub sound_unit_is_read_again : SoundUnitIsReadAgain
sound_unit_is_read_again items sound plain =
    let t = unit_tokens items sound plain in
    let r = unit_spelled items t.0 t.2 sound in
    record {
      tokens = t.0;
      of_text = t.1;
      read = r.0;
      spelled = r.1;
      same = r.2;
      no_other = λ other spelled. one_unit t.0 other r.0 spelled r.1;
      again = same_text r.0 items r.2;
    }

pub read_unit_is_sound : ReadUnitIsSound
read_unit_is_sound = unit_sound
