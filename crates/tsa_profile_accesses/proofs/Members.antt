-- A member is looked up in the struct that has it.
use Rattle.std.proofs.Common.{◌≡◌, ℕ, List, Option, Some, None, refl}
use Rattle.std.specs.Prelude.{option_and_then}
use Rattle.tsa_tree.specs.types.Scopes.{Scope}
use Rattle.tsa_tree.specs.types.Lookups.{members_at, numbered}
use Rattle.tsa_place_model.specs.Ways.{Way}
use Rattle.tsa_place_model.specs.Calls.{Layout}
use Rattle.tsa_core.specs.Uses.{field_guards}
use Rattle.tsa_profile_accesses.specs.Members.{found_guards}

pub found_are : (l : Layout) (here : Scope) (o : Option Way) (name : List ℕ) (struct : Option ℕ)
    → found_guards l o struct (option_and_then (λ struct. numbered (members_at here struct) name 0) struct) ≡ field_guards l here o name struct
found_are l here o name None = refl
found_are l here o name (Some struct) = refl
