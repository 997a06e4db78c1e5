-- The paths of lock expressions (C11 6.5.2.1, 6.5.2.3, 6.5.3.2): where an expression leads along pointers that never change.
use Rattle.std.specs.Prelude.{ℕ, pos, negsuc, Bool, true, false, ◌&&◌, nat_lt, List, Option, Some, None, option_map, option_and_then}
use Rattle.std.specs.Prelude.{slice_get, if◌then◌else◌}
use Rattle.tsa_tree.specs.declared.expr.UnaryOp.TheVariants as prefix
use Rattle.tsa_tree.specs.declared.number.Number.TheVariants as numeral
use Rattle.tsa_tree.specs.expressions.Syntax.{Expression, named, unary, field, index}
use Rattle.tsa_tree.specs.declared.number.Number.{Number}
use Rattle.tsa_tree.specs.types.DeclaredTypes.{value_in}
use Rattle.tsa_tree.specs.declared.meaning.Meaning.{Meaning}
use Rattle.tsa_tree.specs.declared.meaning.Meaning.TheVariants as known
use Rattle.tsa_tree.specs.declared.meaning.Entry.{Entry}
use Rattle.tsa_tree.specs.types.Operands.{integer_kind}
use Rattle.tsa_tree.specs.types.Scopes.{Scope, context_of, known_in}
use Rattle.tsa_tree.specs.types.Lookups.{numbered, members_at}
use Rattle.tsa_tree.specs.declared.kind.Kind.{Kind}
use Rattle.tsa_tree.specs.declared.kind.Kind.TheVariants as type
use Rattle.tsa_tree.specs.declared.kind.ThingType.{ThingType}
use Rattle.tsa_tree.specs.types.Types.{single}
use Rattle.tsa_place_model.specs.Ways as way
use Rattle.tsa_place_model.specs.Ways.{Way, from, onward}

-- whether a local never changes, by a list of those that are asked for
abbrev pub stable_in : List Bool → ℕ → Bool
stable_in stable local = by (slice_get stable local)
  where
    by : Option Bool → Bool
    by None = false
    by (Some b) = b

-- where an expression leads: the way, the type that was declared there, and whether a pointer there never changes
pub record Led : Type 0 where
  pub way : Way
  pub thing : ThingType
  pub is_stable : Bool

abbrev pub led : Way → ThingType → Led
led w t = record { way = w; thing = t; is_stable = t.is_const }

-- a member of a struct object to which a way leads
abbrev pub to_member : Way → Option (ℕ × ThingType) → Option Led
to_member w None = None
to_member w (Some m) = Some (led (onward (way.Field m.0) w) m.1)

abbrev pub member_step : Scope → List ℕ → Led → Option Led
member_step here name l = by l.thing.length l.thing.kind
  where
    by : Option ℕ → Kind → Option Led
    by None (type.Structure n) = to_member l.way (numbered (members_at here n) name 0)
    by _ _ = None

-- an index that is a constant in range, or an integer local that never changes
abbrev pub in_range : ℕ → Option Number → Option way.PathStep
in_range n None = None
in_range n (Some (numeral.Int (pos k))) = if nat_lt k n then Some (way.Constant k) else None
in_range n (Some (numeral.Int (negsuc k))) = None
in_range n (Some (numeral.Unsigned k)) = if nat_lt k n then Some (way.Constant k) else None

abbrev pub variable : (ℕ → Bool) → Option Entry → Option way.PathStep
variable stable None = None
variable stable (Some e) = by e.meaning
  where
    by : Meaning → Option way.PathStep
    by (known.Local k) = if stable k && integer_kind e.thing.kind then Some (way.Variable k) else None
    by _ = None

abbrev pub or_variable : (ℕ → Bool) → Scope → Expression → Option way.PathStep → Option way.PathStep
or_variable stable here at (Some step) = Some step
or_variable stable here (named name span) None = variable stable (known_in here name.text)
or_variable stable here at None = None

abbrev pub index_step : (ℕ → Bool) → Scope → ℕ → Expression → Option way.PathStep
index_step stable here length at = or_variable stable here at (in_range length (value_in (context_of here) at))

-- on to an element, which is declared with its array
abbrev pub to_element : Led → Option way.PathStep → Option Led
to_element l None = None
to_element l (Some step) = Some (record { way = onward step l.way; thing = single l.thing.kind l.thing.is_const; is_stable = l.is_stable })

abbrev pub element_step : (ℕ → Bool) → Scope → Expression → Led → Option Led
element_step stable here at l = by l.thing.length
  where
    by : Option ℕ → Option Led
    by None = None
    by (Some n) = to_element l (index_step stable here n at)

-- where a pointer that never changes points
abbrev pub pointed : Led → Option Led
pointed l = by l.thing.length l.thing.kind l.is_stable
  where
    by : Option ℕ → Kind → Bool → Option Led
    by None (type.Pointer target to_const) true = Some (led (onward way.Follow l.way) (single (type.Structure target) to_const))
    by _ _ _ = None

-- a name: a global, a local that never changes, or a member of the struct object that has the guard
abbrev pub name_way : (ℕ → Bool) → Scope → List ℕ → Entry → Option Led
name_way stable here name e = by e.meaning
  where
    by : Meaning → Option Led
    by (known.Global n) = Some (led (from (way.Global n)) e.thing)
    by (known.Local n) = if stable n then Some (record { way = from (way.Local n); thing = e.thing; is_stable = true }) else None
    by known.Owned = to_member (from way.Owner) (numbered here.owned name 0)
    by _ = None

-- a place that is meant itself, or where a pointer in it points
abbrev pub meant : Bool → Option Led → Option Led
meant false o = o
meant true o = option_and_then pointed o

-- Where an expression leads as a place, or, where it stands as a pointer, to what that points: `&` and `*` cancel.
unfoldable pub leads : (ℕ → Bool) → Scope → (as_pointer : Bool) → Expression → Option Led
leads stable here as_pointer (named name span) = meant as_pointer (option_and_then (name_way stable here name.text) (known_in here name.text))
leads stable here as_pointer (field base name arrow span) = meant as_pointer (option_and_then (member_step here name.text) (leads stable here arrow base))
leads stable here as_pointer (index base at span) = meant as_pointer (option_and_then (element_step stable here at) (leads stable here false base))
leads stable here true (unary prefix.Address inner span) = leads stable here false inner
leads stable here false (unary prefix.Follow inner span) = leads stable here true inner
leads stable here as_pointer e = None

-- the path of the lock that an expression is, or points to: what stands behind `&`, and where a pointer points that is no `&`
abbrev pub is_address : Expression → Bool
is_address (unary prefix.Address inner span) = true
is_address e = false

abbrev pub is_pointer : Kind → Bool
is_pointer (type.Pointer target to_const) = true
is_pointer _ = false

abbrev pub as_lock : Led → Option Led
as_lock l = meant (is_pointer l.thing.kind) (Some l)

abbrev pub lock_way : (ℕ → Bool) → Scope → Expression → Option Way
lock_way stable here e = option_map (λ l. l.way) (option_and_then as_lock (leads stable here (is_address e) e))
