-- Names that are declared in a statement stand behind those that were known, and end with the block round it; the numbers of locals go on.
use Rattle.std.proofs.Common.{ℕ, ◌≡◌, ◌+◌, take, length, ap}
use Rattle.std.proofs.Math.Nat.{add_assoc}
use Rattle.tsa_tree.specs.statements.Syntax.{ForInit, Statement, Statements}
use Rattle.tsa_tree.specs.types.Scopes.{Scope, with_names, further}
use Rattle.tsa_tree.specs.types.Statements.{behind_init, behind, behind_all}
use Rattle.tsa_tree.specs.types.Targets.{declared_by_init, declared_in, declared_in_all}
use Rattle.tsa_tree.proofs.types.Grown.{closes, grown_by_all, grown_by_init, grown_by_one, grown_then, plus_none, scope}

-- the names end, the numbers go on
abbrev ended : Scope → Scope → Scope
ended here there = with_names (take (length here.names) there.names) there

pub closes_one : (here : Scope) (s : Statement) → ended here (behind here s) ≡ further (declared_in s) here
closes_one here s = closes here (declared_in s) (behind here s) (grown_by_one here s)

pub closes_all : (here : Scope) (items : Statements) → ended here (behind_all here items) ≡ further (declared_in_all items) here
closes_all here items = closes here (declared_in_all items) (behind_all here items) (grown_by_all here items)

pub closes_for : (here : Scope) (init : ForInit) (s : Statement)
    → ended here (behind (behind_init here init) s) ≡ further (declared_by_init init + declared_in s) here
closes_for here init s =
    closes here (declared_by_init init + declared_in s) (behind (behind_init here init) s)
    (grown_then here (declared_by_init init) (declared_in s) (behind_init here init) (behind (behind_init here init) s) (grown_by_init here init)
    (grown_by_one (behind_init here init) s))

pub further_further : (m n : ℕ) (here : Scope) → further n (further m here) ≡ further (m + n) here
further_further m n here = ap (scope here here.names) (add_assoc here.locals m n)

pub further_none : (here : Scope) → here ≡ further 0 here
further_none here = ap (scope here here.names) (plus_none here.locals)
