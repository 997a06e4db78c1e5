-- The kinds of locks that structs are, as code has them.
use Rattle.std.specs.Prelude.{ℕ, Bool, false, List, map, Option, Some, None, option_map, option_and_then, slice_get}
use Rattle.tsa_core.specs.Programs as core
use Rattle.tsa_rules_view.specs.declared.kind.LockKind.{LockKind}

-- which kind of the program the code's is
abbrev pub kind_of : LockKind → core.LockKind
kind_of k = record { text = k.text.now; is_reentrant = k.is_reentrant }

abbrev pub kinds_of : List (Option LockKind) → List (Option core.LockKind)
kinds_of kinds = map (option_map kind_of) kinds

-- the kind of the struct of a number, where there is one that is a lock
abbrev pub kind_numbered : List (Option core.LockKind) → ℕ → Option core.LockKind
kind_numbered kinds n = option_and_then (λ kind. kind) (slice_get kinds n)

abbrev pub kind_in : List (Option core.LockKind) → Option ℕ → Option core.LockKind
kind_in kinds structure = option_and_then (kind_numbered kinds) structure

-- whether its holder may take it again: what is no lock isn't taken
abbrev pub is_taken_again : Option core.LockKind → Bool
is_taken_again None = false
is_taken_again (Some kind) = kind.is_reentrant
