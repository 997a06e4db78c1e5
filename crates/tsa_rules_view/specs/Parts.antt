-- The parts of a view that are told by paths.
use Rattle.std.specs.Prelude.{ℕ, List, map, Option}
use Rattle.tsa_tree.specs.declarations.Syntax.{Parameter}
use Rattle.tsa_tree.specs.declared.kind.Kind.{Kind}
use Rattle.tsa_tree.specs.types.DeclaredTypes.{thing_type}
use Rattle.tsa_tree.specs.types.Scopes.{Scope}
use Rattle.tsa_place_model.specs.Ways.{Way}
use Rattle.tsa_place_model.specs.Calls.{Layout}
use Rattle.tsa_core.specs.Programs.{LockKind}
use Rattle.tsa_rules.specs.declared.case.Lock.{Lock}
use Rattle.tsa_rules_view.specs.Kinds.{kind_in, is_taken_again}
use Rattle.tsa_rules_view.specs.Structs.{struct_by}
use Rattle.tsa_rules_table.specs.Rows.{Rows, mark_in}

-- the kinds of the locks to which paths lead, by those of a unit's structs
abbrev pub kinds_along : List (Option LockKind) → Layout → List Kind → List Way → List (Option LockKind)
kinds_along kinds l locals paths = map (λ c. kind_in kinds (struct_by l locals c)) paths

-- what a function says of the lock of a kind to which a path leads, by what its own attributes say of the path
abbrev pub lock_with : Rows → (number : ℕ) → Option LockKind → Lock
lock_with own number kind = record { is_reentrant = is_taken_again kind; claim = (mark_in own 0 number).claim }

-- the kinds of a function's parameters, by what is known there
abbrev pub param_kinds : Scope → List Parameter → List Kind
param_kinds here params = map (λ p. (thing_type here p.ctype).kind) params
