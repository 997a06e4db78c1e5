-- Statements that bear the numbers of their points, by the number at which these end.
use Rattle.std.specs.Prelude.{ℕ, ◌+◌, ◌≡◌, List, Some}
use Rattle.std.specs.declared.option.Option.{Option}
use Rattle.tsa_core.specs.Control.{count_all}
use Rattle.tsa_tree.specs.declared.stmt.Stmt.{Stmt}
use Rattle.tsa_tree.specs.statements.Shapes.{stmt_shapes, counted, IsNumbered, AreNumbered}

-- A part of a statement bears the numbers of its points. So many points of the statement stand before it and so many behind it, and those of
-- the statement end at a number.
pub record IsPartTo (before : ℕ) (part : Stmt) (behind end : ℕ) : Type 0 where
  pub at : ℕ
  pub ends : at + before + counted part.kind part.span + behind ≡ end
  pub numbered : IsNumbered part.kind part.point part.span (at + before)

-- the whole statement
abbrev pub IsNumberedTo : Stmt → (end : ℕ) → Type 0
IsNumberedTo s end = IsPartTo 0 s 0 end

-- the point of a loop's test has its number, where so many points of the loop stand before it and so many behind it
pub record IsTestTo (before : ℕ) (point : Option ℕ) (behind end : ℕ) : Type 0 where
  pub at : ℕ
  pub number : point ≡ Some (at + before)
  pub ends : at + before + 1 + behind ≡ end

-- statements one behind the other
pub record AreNumberedTo (ss : List Stmt) (end : ℕ) : Type 0 where
  pub at : ℕ
  pub ends : at + count_all (stmt_shapes ss) ≡ end
  pub numbered : AreNumbered ss at
