-- What is read where the value of a name is used, and what fails there.
use Rattle.std.specs.Prelude.{ℕ, Bool, false, ◌&&◌, is_none, List, Option, None}
use Rattle.std.specs.List.{list_any}
use Rattle.tsa_base.specs.declared.token.Span.{Span}
use Rattle.tsa_tree.specs.types.Scopes.{Scope, known_in}
use Rattle.tsa_place_model.specs.Calls.{Layout}
use Rattle.tsa_place_model.specs.Ways.{Way}
use Rattle.tsa_core.specs.Meanings.{is_cell, of_name}
use Rattle.tsa_core.specs.Uses.{name_guards}
use Rattle.tsa_profile_accesses.specs.Accesses.{Access}
use Rattle.tsa_profile_accesses.specs.declared.premise.ProfileCode.{ProfileCode}
use Rattle.tsa_profile_accesses.specs.declared.premise.ProfileCode.TheVariants.{PF2}
use Rattle.tsa_profile_accesses.specs.declared.thing.Thing.{Thing}
use Rattle.tsa_profile_accesses.specs.ExpressionViews.{Seen, own_access, thing_of}
use Rattle.tsa_profile_accesses.specs.NodeAnswers.{code_if}

-- what a name stands for, and the guards that are declared with that
abbrev pub thing_named : Scope → List ℕ → Thing
thing_named here name = thing_of (of_name (known_in here name))

abbrev pub guards_named : Layout → Scope → List ℕ → List (Option Way)
guards_named l here name = name_guards l here name (known_in here name)

-- what is seen, whatever it leads to
abbrev pub unled : Seen → Seen
unled s = record { thing = s.thing; led = None; guards = s.guards }

-- the cell that it stands for, where it stands for one
unfoldable pub name_read : Layout → Scope → List ℕ → Span → List Access
name_read l here name span = own_access (thing_named here name) (record { span = span; is_write = false; guards = guards_named l here name })

-- what fails where a thread reads it
unfoldable pub name_code : (is_run : Bool) → Layout → Scope → List ℕ → Option ProfileCode
name_code is_run l here name =
    code_if ((is_run && ((thing_named here name).is_place && is_cell (thing_named here name).expression.thing)) && list_any is_none (guards_named l here name)) PF2
