-- What fails at one node of an expression.
use Rattle.std.specs.Prelude.{ℕ, Bool, true, false, not, ◌&&◌, Option, Some, None, is_some, if◌then◌else◌}
use Rattle.tsa_tree.specs.declared.expr.BinaryOp.{BinaryOp}
use Rattle.tsa_tree.specs.declared.expr.BinaryOp.TheVariants as op
use Rattle.tsa_tree.specs.expressions.Syntax.{Expression, Arguments}
use Rattle.tsa_place_model.specs.LockPaths.{stable_in}
use Rattle.tsa_profile_accesses.specs.declared.body.Body.{Body}
use Rattle.tsa_profile_accesses.specs.declared.premise.ProfileCode.{ProfileCode}
use Rattle.tsa_profile_accesses.specs.declared.premise.ProfileCode.TheVariants.{PF1, PF2, PF5, PF8}
use Rattle.tsa_profile_accesses.specs.declared.standing.Standing.{Standing}
use Rattle.tsa_profile_accesses.specs.declared.standing.Standing.TheVariants.{Inside}
use Rattle.tsa_profile_accesses.specs.Locks.{tries}
use Rattle.tsa_profile_accesses.specs.Expressions.{View, attributes_at, compares_a_try, constant, lacks_a_path}
use Rattle.tsa_profile_accesses.specs.Standing.{beside, may_call, may_try}

-- what an expression stands in, by what the walk over it has
abbrev pub view_of : Body → View
view_of b = record { layout = b.layout.now; attributes = b.attributes.now; here = b.sight.scope.now; stable = stable_in b.sight.stable.now; is_run = b.is_run }

-- a code where something fails
abbrev pub code_if : Bool → ProfileCode → Option ProfileCode
code_if fails code = if fails then Some code else None

-- what fails at a call: of one that may not stand there that alone; of another's function, that a lock has no path, and that it tries
abbrev pub called_code : View → Standing → Arguments → ℕ → Option ProfileCode
called_code v s args n = if lacks_a_path v args n then Some PF2 else code_if (tries (attributes_at v.attributes n) && not (may_try s)) PF5

abbrev pub of_function : (ℕ → Option ProfileCode) → Option ℕ → Option ProfileCode
of_function code None = None
of_function code (Some n) = code n

abbrev pub call_code : View → Standing → Arguments → Option ℕ → Option ProfileCode
call_code v s args function = if not (may_call s) then Some PF1 else of_function (called_code v s args) function

abbrev pub is_equality : BinaryOp → Bool
is_equality op.Equal = true
is_equality op.Unequal = true
is_equality o = false

-- where a side of an operator stands beside the other, and what fails at an operator
abbrev pub side : View → Standing → BinaryOp → (other : Expression) → Standing
side v s o other = if is_equality o then beside s (is_some (constant v other)) else Inside

abbrev pub sides_code : View → BinaryOp → (left right : Expression) → Option ProfileCode
sides_code v o left right = if is_equality o then code_if (compares_a_try v left right) PF8 else None
