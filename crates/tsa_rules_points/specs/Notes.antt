-- What is noted of some points of a body is what they are to the rules.
use Rattle.std.specs.Prelude.{◌≡◌, ℕ, List, length, map, Some, slice_get}
use Rattle.std.specs.List.{flat_map}
use Rattle.tsa_tree.specs.declared.kind.Kind.{Kind}
use Rattle.tsa_place_model.specs.Ways.{Way}
use Rattle.tsa_core.specs.Bodies.{kinds_by}
use Rattle.tsa_core.specs.Programs.{Program}
use Rattle.tsa_path.specs.PathTables.{AreDifferent}
use Rattle.tsa_core_points.specs.CoreLaws.{known_of}
use Rattle.tsa_core_points.specs.Points.{PlacedPoint}
use Rattle.tsa_rules.specs.TryVariables.{AreInOrder}
use Rattle.tsa_rules_roles.specs.ProgramDuties.{AreRoles}
use Rattle.tsa_rules_table.specs.Rows.{rows_in}
use Rattle.tsa_profile_points.specs.Bodies.{Around}
use Rattle.tsa_profile_points.specs.Ways.{called_at}
use Rattle.tsa_rules_points.specs.declared.notes.Notes.{Notes}
use Rattle.tsa_rules_points.specs.declared.points.Book.{Book}
use Rattle.tsa_rules_points.specs.Marking.{IsRowOf}
use Rattle.tsa_rules_points.specs.Points.{AllAgree, core_at}

pub record AreNotes (a : Around) (kind : Kind) (paths : List Way) (qs : List PlacedPoint) (n : Notes) : Type 0 where
  -- the functions that are called
  pub callees : n.callees.items ≡ map (λ q. called_at (known_of q)) qs
  -- the kinds of the locals that are declared
  pub kinds : n.kinds.items ≡ flat_map (λ q. kinds_by q.here q.deed) qs
  -- a row for each point
  pub rows : rows_in n.marks ≡ length qs
  pub marks : AreDifferent paths → (i : ℕ) (q : PlacedPoint) → slice_get qs i ≡ Some q → IsRowOf a paths n.marks i (known_of q)
  -- the roles of the points, in each program whose functions have the attributes that are known
  pub roles : (u : Program) (first : ℕ) → AllAgree u a kind qs → AreInOrder first (map (core_at kind) qs) → AreRoles u first (map (core_at kind) qs) n.roles

-- what is noted so far
abbrev pub notes_in : Book → Notes
notes_in b = record { roles = b.roles; callees = b.callees; kinds = b.kinds; marks = b.marking.marks }

-- there are as many rows as points whose roles are noted
abbrev pub HaveRows : Notes → Type 0
HaveRows n = rows_in n.marks ≡ length n.roles
