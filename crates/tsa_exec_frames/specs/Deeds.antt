-- What a frame does at the end of its point, as an act of the machine.
use Rattle.std.specs.Prelude.{ℕ, ◌+◌, ◌≤◌, List, drop, take, slice_set}
use Rattle.tsa_base.specs.declared.value.Value.{Value}
use Rattle.tsa_mean.specs.Acts.{Act, to_write, to_step, to_set, to_branch, to_choose, to_ask, to_enter, to_leave, on_lock}
use Rattle.tsa_mean.specs.Working.{Locals}
use Rattle.tsa_exec_frames.specs.declared.deed.Request.{Request}
use Rattle.tsa_exec_frames.specs.declared.deed.Request.TheVariants as request
use Rattle.tsa_exec_frames.specs.declared.deed.Deed.{Deed}
use Rattle.tsa_exec_frames.specs.declared.deed.Deed.TheVariants as deed

abbrev pub act_requested : Request → List Value → Act
act_requested (request.Choose v) s = to_choose v
act_requested (request.Leave v) s = to_leave v
act_requested (request.Enter f k n) s = to_enter f (take n (drop k s))
act_requested (request.Lock kind success place f result) s = on_lock kind success place (to_ask f result)
act_requested (request.Ask f result) s = to_ask f result

abbrev pub act_done : Deed → List Value → Act
act_done deed.Step s = to_step
act_done (deed.Set n v) s = to_set n v
act_done (deed.Write place v) s = to_write place v
act_done (deed.Branch b) s = to_branch b
act_done (deed.Request r) s = act_requested r s

-- the arguments of a function that is entered stand among so many slots
abbrev pub RequestFits : (slots : ℕ) → Request → Type 0
RequestFits n (request.Enter f k count) = k + count ≤ n
RequestFits n r = Unit {0}

abbrev pub DeedFits : (slots : ℕ) → Deed → Type 0
DeedFits n (deed.Request r) = RequestFits n r
DeedFits n d = Unit {0}

-- what a deed makes of the locals and of the store
abbrev pub locals_after : Deed → Locals → Locals
locals_after (deed.Set n v) locals = slice_set locals n v
locals_after d locals = locals

abbrev pub store_after : Deed → List Value → List Value
store_after (deed.Write place v) store = slice_set store place v
store_after d store = store
