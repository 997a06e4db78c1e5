-- The locks to which paths lead are those of the program.
use Rattle.std.specs.Prelude.{◌≡◌, Option}
use Rattle.tsa_place_model.specs.Ways.{Way}
use Rattle.tsa_core.specs.Programs.{Function, LockKind, Program}
use Rattle.tsa_rules.specs.Attributes.{local_kinds, struct_of, lock_kind_of, is_reentrant}
use Rattle.tsa_rules_view.specs.Kinds.{kind_in, is_taken_again}
use Rattle.tsa_rules_view.specs.Structs.{struct_by}

-- the kind of lock to which a path of a function leads, by the kinds of the program's structs
abbrev pub kind_led_to : Program → Function → Way → Option LockKind
kind_led_to u f c = kind_in u.locks (struct_by u.layout (local_kinds f) c)

pub record IsOfTheProgram (u : Program) (f : Function) (c : Way) : Type 0 where
  pub structure : struct_by u.layout (local_kinds f) c ≡ struct_of u f c
  pub kind : kind_led_to u f c ≡ lock_kind_of u f c
  pub taken_again : is_taken_again (kind_led_to u f c) ≡ is_reentrant u f c

-- of every path, in every function of every program
abbrev pub LockKindsAreOfTheProgram : Type 0
LockKindsAreOfTheProgram = (u : Program) (f : Function) (c : Way) → IsOfTheProgram u f c
