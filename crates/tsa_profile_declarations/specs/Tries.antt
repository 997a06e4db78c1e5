-- Which results the tries name that stand before an attribute.
use Rattle.std.specs.Prelude.{Bool, true, false, not, ◌&&◌, ◌||◌, List, if◌then◌else◌}
use Rattle.std.specs.List.{list_any}
use Rattle.tsa_tree.specs.attributes.Syntax.{Attribute}
use Rattle.tsa_tree.specs.declared.kind.Kind.{Kind}
use Rattle.tsa_tree.specs.types.Runnable.{is_generic}
use Rattle.tsa_profile_accesses.specs.Locks.{is_try}
use Rattle.tsa_profile_declarations.specs.declared.tries.Tries.{Tries}
use Rattle.tsa_profile_declarations.specs.Declarations.{is_int, is_otherwise, value_of}

-- a try names another result than this
abbrev pub names_other : Bool → Attribute → Bool
names_other value a = is_try a.kind && is_otherwise value (value_of a)

abbrev pub tries_among : List Attribute → Tries
tries_among before = record { some_succeed = list_any (names_other false) before; some_fail = list_any (names_other true) before }

-- the same with a further attribute
abbrev pub with_attribute : Tries → Attribute → Tries
with_attribute tries a = record { some_succeed = tries.some_succeed || names_other false a; some_fail = tries.some_fail || names_other true a }

-- some of them name another result
abbrev pub some_other : Tries → Bool → Bool
some_other tries value = if value then tries.some_fail else tries.some_succeed

abbrev pub misfits_beside : Kind → Tries → Attribute → Bool
misfits_beside gives tries a = is_generic a.kind || (is_try a.kind && (not (is_int gives) || some_other tries (value_of a)))
