-- The locks that the attributes of functions name.
use Rattle.std.specs.Prelude.{Bool, true, false, List, [], ◌∷◌, Option, option_and_then, is_none}
use Rattle.std.specs.List.{list_any}
use Rattle.tsa_tree.specs.declared.attr.AttrKind.{AttrKind}
use Rattle.tsa_tree.specs.declared.attr.AttrKind.TheVariants as attr
use Rattle.tsa_place_model.specs.Ways.{Way}
use Rattle.tsa_core.specs.Programs.{Attr}
use Rattle.tsa_path.specs.Substitution.{substituted}

abbrev pub is_empty : {A : Type 0} → List A → Bool
is_empty [] = true
is_empty (x ∷ rest) = false

-- a try function has a try attribute
abbrev pub is_try : AttrKind → Bool
is_try attr.TryAcquire = true
is_try attr.TryAcquireShared = true
is_try _ = false

abbrev pub tries : List Attr → Bool
tries attributes = list_any (λ a. is_try a.kind) attributes

-- a lock that the called function names has no path here
abbrev pub lacks_path : List (Option Way) → Attr → Bool
lacks_path ways a = is_none (option_and_then (substituted ways) a.path)
