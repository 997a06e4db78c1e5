-- The paths of a call's arguments (C11 6.5.2.2p4): of a pointer that of the place where it points, of a number a constant or a local that
-- never changes.
use Rattle.std.specs.Prelude.{ℕ, Bool, true, Option, Some, None, option_map, if◌then◌else◌}
use Rattle.tsa_tree.specs.declared.kind.Kind.{Kind}
use Rattle.tsa_tree.specs.declared.meaning.Entry.{Entry}
use Rattle.tsa_tree.specs.declared.meaning.Meaning.{Meaning}
use Rattle.tsa_tree.specs.declared.meaning.Meaning.TheVariants as known
use Rattle.tsa_tree.specs.declared.number.Number.{Number}
use Rattle.tsa_tree.specs.expressions.Syntax.{Expression, named}
use Rattle.tsa_tree.specs.types.DeclaredTypes.{value_in}
use Rattle.tsa_tree.specs.types.Scopes.{Scope, context_of, known_in}
use Rattle.tsa_place_model.specs.LockPaths.{in_range, is_pointer, leads}
use Rattle.tsa_place_model.specs.Ways as way
use Rattle.tsa_place_model.specs.Ways.{Way, from, onward}

-- where an expression leads as a place, or as a pointer
abbrev pub way_of : (ℕ → Bool) → Scope → (as_pointer : Bool) → Expression → Option Way
way_of stable here as_pointer e = option_map (λ l. l.way) (leads stable here as_pointer e)

-- a constant that an array may have for an index is a step without an array
abbrev pub constant_argument : Option Number → Option Way
constant_argument value = option_map (λ step. onward step (from way.Owner)) (in_range 65536 value)

-- a local that never changes is a root without steps
abbrev pub local_argument : (ℕ → Bool) → Option Entry → Option Way
local_argument stable None = None
local_argument stable (Some e) = by e.meaning
  where
    by : Meaning → Option Way
    by (known.Local n) = if stable n then Some (from (way.Local n)) else None
    by _ = None

abbrev pub or_local : (ℕ → Bool) → Scope → Expression → Option Way → Option Way
or_local stable here at (Some w) = Some w
or_local stable here (named name span) None = local_argument stable (known_in here name.text)
or_local stable here at None = None

abbrev pub index_argument : (ℕ → Bool) → Scope → Expression → Option Way
index_argument stable here e = or_local stable here e (constant_argument (value_in (context_of here) e))

-- the path of an argument for a parameter of a kind; every other argument has none
abbrev pub argument_way : (ℕ → Bool) → Scope → Kind → Expression → Option Way
argument_way stable here kind e = if is_pointer kind then way_of stable here true e else index_argument stable here e
