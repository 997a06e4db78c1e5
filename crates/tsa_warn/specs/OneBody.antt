-- The lines of warnings as the code keeps them.
use Rattle.tsa_warn.specs.WarningLines.{Warned}
use Rattle.tsa_warn.specs.declared.line_count.UnitLines.{UnitLines}

abbrev pub warned_of : UnitLines → Warned
warned_of lines = record { text = lines.text.items; count = lines.count }
