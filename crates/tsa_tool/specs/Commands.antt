-- What the words ask for.
use Rattle.std.specs.Prelude.{ℕ, List, [], ◌∷◌, Some, None, codes, if◌then◌else◌}
use Rattle.std.specs.Str.{bytes_eq}
use Rattle.std.specs.declared.option.Option.{Option}
use Rattle.tsa_tool.specs.declared.command.Command.{Command}
use Rattle.tsa_tool.specs.declared.command.Command.TheVariants.{Check, Print, Held}

-- the command of this name
abbrev pub command_named : List ℕ → Option Command
command_named name =
    if bytes_eq name (codes "check") then Some Check
    else (if bytes_eq name (codes "print") then Some Print else (if bytes_eq name (codes "held") then Some Held else None))

-- a command's name alone
abbrev pub command_of : List (List ℕ) → Option Command
command_of [] = None
command_of (name ∷ []) = command_named name
command_of (name ∷ word ∷ words) = None
