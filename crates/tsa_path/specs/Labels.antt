-- Names as the program has them.
use Rattle.tsa_path.specs.declared.names.Named.{Named}
use Rattle.tsa_path.specs.PathTexts.{Label}

abbrev pub label : Named → Label
label named = record { name = named.name.now; structure = named.structure }
