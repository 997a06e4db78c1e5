-- Where the bodies of functions stand, and what is known there.
use Rattle.std.specs.Prelude.{ℕ, nat_eq, true, List, [], ◌∷◌, Option, Some, None, if◌then◌else◌}
use Rattle.tsa_tree.specs.declarations.Syntax.{Head}
use Rattle.tsa_tree.specs.statements.Syntax.{Statements}
use Rattle.tsa_tree.specs.types.Heads.{inside}
use Rattle.tsa_tree.specs.types.Scopes.{Scope}
use Rattle.tsa_tree.specs.types.Symbols.{number_of}
use Rattle.tsa_tree.specs.types.Units.{outset, behind_item}
use Rattle.tsa_tree.specs.units.Syntax.{UnitItem, body_item}
use Rattle.tsa_core.specs.Programs.{Attr}
use Rattle.tsa_profile.specs.Units.{Unit, attributes_behind, unit_of}

-- The body of a function: what is known by name in front of its item, the attributes of the functions that are declared up to it and with
-- it, and the item.
pub record Site : Type 0 where
  pub here : Scope
  pub attributes : List (List Attr)
  pub head : Head
  pub body : Statements

-- where its statements begin: the parameters are the first locals
abbrev pub within : Site → Scope
within s = inside s.here s.head true

-- an item that is the body of the function of a number
abbrev pub site_at : Unit → List (List Attr) → Scope → UnitItem → (function : ℕ) → Option Site
site_at u known here (body_item head body close) function =
    if nat_eq (number_of here head) function
    then Some (record { here = here; attributes = attributes_behind u known here (body_item head body close); head = head; body = body })
    else None
site_at u known here item function = None

abbrev pub or_later : Option Site → Option Site → Option Site
or_later (Some s) later = Some s
or_later None later = later

-- the first body of the function among items, each behind those before it
unfoldable pub site_among : Unit → List (List Attr) → Scope → List UnitItem → (function : ℕ) → Option Site
site_among u known here [] function = None
site_among u known here (item ∷ rest) function =
    or_later (site_at u known here item function) (site_among u (attributes_behind u known here item) (behind_item here item) rest function)

-- the body of a function of a unit
abbrev pub site_of : List UnitItem → (function : ℕ) → Option Site
site_of items function = site_among (unit_of [] items) [] (outset items) items function
