-- The code of a call, by what is known of the function that is called.
use Rattle.std.specs.Prelude.{◌≡◌, ℕ, zero, suc, List, [], ◌∷◌, ◌++◌, length, find, get_or, is_some, Option, Some, None, option_map}
use Rattle.tsa_tree.specs.declared.kind.Kind.{Kind}
use Rattle.tsa_place_model.specs.Calls.{Layout}
use Rattle.tsa_core.specs.Meanings.{Call}
use Rattle.tsa_core.specs.Programs.{Attr, Function, Program}
use Rattle.tsa_mean.specs.Acts.{changes_lock}
use Rattle.tsa_rules.specs.Points.{function_at, no_function}
use Rattle.tsa_lower_code.specs.Codes.{no_place}
use Rattle.tsa_lower_code.specs.PointCodes.{args_code, call_code, enter_code}
use Rattle.tsa_lower_code.specs.declared.instr.Instr.{Instr}
use Rattle.tsa_lower_code.specs.declared.instr.Instr.TheVariants.{Follow, End}
use Rattle.tsa_lower_code.specs.declared.instr.Ending.TheVariants as ending
use Rattle.tsa_lower_points.specs.declared.callee.Callee.{Callee}
use Rattle.tsa_lower_points.specs.declared.callee.LockDeed.{LockDeed}

abbrev pub lock_done : (args : ℕ) → (function : ℕ) → Kind → LockDeed → List Instr
lock_done zero f result a = no_place
lock_done (suc n) f result a = Follow 1 ∷ End (ending.Lock a.kind a.success 1 f result) ∷ []

abbrev pub outside_done : (args : ℕ) → (function : ℕ) → Kind → Option LockDeed → List Instr
outside_done n f result None = End (ending.Ask f result) ∷ []
outside_done n f result (Some a) = lock_done n f result a

abbrev pub done_code : Callee → (args : ℕ) → (function : ℕ) → List Instr
done_code k n f = enter_code k.has_body n f (outside_done n f k.result k.lock)

abbrev pub called_code : Layout → Callee → Call → List Instr
called_code l k c = args_code l c.args 1 ++ done_code k (length c.args) c.function

-- what is known of a function: whether it has a body, its result, and the first attribute of it that changes a lock
abbrev pub lock_deed : Attr → LockDeed
lock_deed a = record { kind = a.kind; success = a.success }

abbrev pub callee_of : Function → Callee
callee_of g = record { has_body = is_some g.body; result = g.result; lock = option_map lock_deed (find (λ a. changes_lock a.kind) g.attrs) }

-- callees by number are those of a program; one that isn't there is that of no function
abbrev pub callee_in : List Callee → ℕ → Callee
callee_in callees f = get_or callees f (callee_of no_function)

abbrev pub AreCallees : Program → List Callee → Type 0
AreCallees u callees = (f : ℕ) → callee_in callees f ≡ callee_of (function_at u f)

-- so the code is that of the call
abbrev pub CallsHaveTheirCode : Type 0
CallsHaveTheirCode = (u : Program) (callees : List Callee) → AreCallees u callees → (c : Call) → called_code u.layout (callee_in callees c.function) c ≡ call_code u c
