-- What keeping a statement answers, beside what was read.
use Rattle.std.specs.Prelude.{ℕ, ◌≡◌, ◌++◌, ◌∷◌, [], List, Ok, Err}
use Rattle.std.specs.declared.result.Result.{Result}
use Rattle.tsa_tree.specs.declared.stmt.Stmt.{Stmt}
use Rattle.tsa_expr.specs.declared.refusal.SyntaxRefusal.{SyntaxRefusal}
use Rattle.tsa_expr.specs.declared.refusal.SyntaxRefusal.TheVariants.{NoMemory}
use Rattle.tsa_unit_simple.specs.declared.points.Read.{Read}

-- the statement stands after the others, and the token is the one after it; else what was read was refused, or memory wanted
abbrev pub IsKept : (old new : List Stmt) → Result Read SyntaxRefusal → Result ℕ SyntaxRefusal → Type 0
IsKept old new (Ok r) (Ok next) = (new ≡ old ++ r.stmt ∷ []) × (next ≡ r.next)
IsKept old new (Ok r) (Err refusal) = refusal ≡ NoMemory
IsKept old new (Err e) (Ok next) = ⊥
IsKept old new (Err e) (Err refusal) = refusal ≡ e
