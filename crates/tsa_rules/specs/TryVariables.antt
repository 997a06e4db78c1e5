-- Try variables: their numbers, and the tries whose answers they keep, by the points that declare them.
use Rattle.std.specs.Prelude.{◌≡◌, ◌≤◌, ℕ, ◌+◌, List, [], ◌∷◌, length, take, filter_map, Option, Some, None, slice_get}
use Rattle.tsa_tree.specs.declared.kind.Kind.{Kind}
use Rattle.tsa_tree.specs.statements.Syntax.{Statements}
use Rattle.tsa_tree.specs.types.Scopes.{Scope}
use Rattle.tsa_place_model.specs.Ways.{Way}
use Rattle.tsa_core.specs.Bodies.{Point, body_of}
use Rattle.tsa_core.specs.Programs.{Function, Program}
use Rattle.tsa_rules.specs.Conditions.{the_local}
use Rattle.tsa_rules.specs.Points.{points_of, local_begun, try_variable_at, try_variables, try_number}
use Rattle.tsa_rules.specs.Marks.{mark_of}
use Rattle.tsa_rules.specs.Cases.{kept_for}

-- locals are declared in order of their numbers, from one on
abbrev pub IsNext : ℕ → Option ℕ → Type 0
IsNext n None = Unit {0}
IsNext n (Some m) = m ≡ n

abbrev pub begun_count : Option ℕ → ℕ
begun_count None = 0
begun_count (Some m) = 1

abbrev pub AreInOrder : ℕ → List Point → Type 0
AreInOrder n [] = Unit {0}
AreInOrder n (x ∷ points) = IsNext n (local_begun x.action) × AreInOrder (n + begun_count (local_begun x.action)) points

pub record TryVariablesAreToldByDeclarations : Type 0 where
  -- the locals of a body are so
  pub in_order : (here : Scope) (result : Kind) (body : Statements) → AreInOrder here.locals (body_of here result body).points
  -- where they are, the number of a try variable is how many come before it
  pub number : (u : Program) (f : Function) (n p : ℕ) (x : Point) (local : ℕ) → AreInOrder n (points_of f) → slice_get (points_of f) p ≡ Some x
      → try_variable_at u x ≡ Some local → try_number u f local ≡ length (filter_map (try_variable_at u) (take p (points_of f)))
  -- and what a test of a local finds of a path is the first try of it where the local is declared
  pub kept : (u : Program) (f : Function) (n p : ℕ) (x : Point) (local : ℕ) (c : Way) → AreInOrder n (points_of f) → slice_get (points_of f) p ≡ Some x
      → local_begun x.action ≡ Some local → kept_for u f c (the_local local) ≡ (mark_of u f p c).tried
  -- of a local that is no try variable it finds none
  pub none : (u : Program) (f : Function) (c : Way) (local : ℕ) → length (try_variables u f) ≤ try_number u f local → kept_for u f c (the_local local) ≡ None
