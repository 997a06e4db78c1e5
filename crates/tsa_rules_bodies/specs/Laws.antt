-- The body of a function by its number is that of the unit's core program, with what the program says of it.
use Rattle.std.specs.Prelude.{◌≡◌, ℕ, true, false, List, [], All, map, length, Option, Some, None, is_some, slice_get}
use Rattle.tsa_tree.specs.declared.kind.Kind.{Kind}
use Rattle.tsa_tree.specs.types.DeclaredTypes.{thing_type}
use Rattle.tsa_tree.specs.types.FirstFailing.{first_failing}
use Rattle.tsa_tree.specs.types.Symbols.{number_of}
use Rattle.tsa_tree.specs.units.Syntax.{UnitItem}
use Rattle.tsa_place_model.specs.LockPaths.{stable_in}
use Rattle.tsa_core.specs.Bodies.{Body, body_of, known_in_body}
use Rattle.tsa_core.specs.Meanings.{Call}
use Rattle.tsa_core.specs.Programs.{Attr, Function, program_of}
use Rattle.tsa_core.specs.Uses.{uses_of}
use Rattle.tsa_profile_accesses.specs.Expressions.{attributes_at}
use Rattle.tsa_profile.specs.Units.{stable_of, unit_of}
use Rattle.tsa_rules.specs.Points.{attrs_called, points_of}
use Rattle.tsa_rules.specs.TryVariables.{AreInOrder}
use Rattle.tsa_rules_bodies.specs.Sites.{Site, within, site_of}

-- what the statements do there, for a result of the kind that is known there
abbrev pub result_at : Site → Kind
result_at s = (thing_type (within s) s.head.result).kind

abbrev pub body_at : Site → Body
body_at s = body_of (within s) (result_at s) s.body

-- the attributes of a function that is called, by those that are known
abbrev pub called_attributes : List (List Attr) → Option Call → List Attr
called_attributes known None = []
called_attributes known (Some c) = attributes_at known c.function

-- The body stands for the function of a number: what is worked out from what is known there is what the program says.
pub record StandsFor (items : List UnitItem) (n : ℕ) (f : Function) (s : Site) : Type 0 where
  pub number : number_of s.here s.head ≡ n
  -- what it does and what it uses
  pub body : f.body ≡ Some (body_at s)
  pub uses : f.uses ≡ map (uses_of (program_of items).layout (stable_in (body_at s).stable)) (known_in_body (within s) s.body)
  -- which of its locals never change
  pub stable : stable_of (unit_of [] items) s.head ≡ stable_in (body_at s).stable
  -- its own attributes, and those of what it calls
  pub attributes : f.attrs ≡ attributes_at s.attributes n
  pub calls : All (λ x. called_attributes s.attributes x.call ≡ attrs_called (program_of items) x.call) (points_of f)
  -- its parameters are the first locals, and the others follow in order
  pub in_order : AreInOrder (within s).locals (points_of f)
  pub params : length f.params ≡ (within s).locals
  pub kinds : map (λ t. t.kind) f.params ≡ map (λ p. (thing_type (within s) p.ctype).kind) s.head.params
  pub result : f.result ≡ result_at s

-- a function with a body has it there, and one without is nowhere
pub record SitesAreOfTheProgram : Type 0 where
  pub of_bodies : (items : List UnitItem) (n : ℕ) (f : Function) → first_failing items ≡ None → slice_get (program_of items).functions n ≡ Some f
      → is_some f.body ≡ true → (s : Site) × ((site_of items n ≡ Some s) × StandsFor items n f s)
  pub of_no_body : (items : List UnitItem) (n : ℕ) (f : Function) → first_failing items ≡ None → slice_get (program_of items).functions n ≡ Some f
      → is_some f.body ≡ false → site_of items n ≡ None
  pub of_no_function : (items : List UnitItem) (n : ℕ) → first_failing items ≡ None → slice_get (program_of items).functions n ≡ None → site_of items n ≡ None
