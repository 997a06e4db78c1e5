-- The code of calls and of points, by what is known of the functions that are called.
use Rattle.std.proofs.Common.{◌≡◌, ◌∙◌, ℕ, zero, suc, false, List, ◌++◌, length, find, is_some, Option, Some, None, option_map, refl, ap}
use Rattle.tsa_tree.specs.declared.kind.Kind.{Kind}
use Rattle.tsa_place_model.specs.Calls.{Layout}
use Rattle.tsa_core.specs.Meanings.{Call}
use Rattle.tsa_core.specs.Programs.{Attr, Function, Program}
use Rattle.tsa_mean.specs.Acts.{changes_lock}
use Rattle.tsa_rules.specs.Points.{function_at}
use Rattle.tsa_lower_code.specs.PointCodes.{action_code, args_code, begin_code, enter_code, outcome_code, outside_code}
use Rattle.tsa_lower_code.specs.declared.instr.Instr.{Instr}
use Rattle.tsa_lower_points.specs.Actions.{PointNode, action_of, call_by}
use Rattle.tsa_lower_points.specs.Callees.{AreCallees, CallsHaveTheirCode, callee_in, callee_of, called_code, done_code, lock_deed, outside_done}
use Rattle.tsa_lower_points.specs.Points.{PointsHaveTheirCode, begun_code, point_of}
use Rattle.tsa_lower_points.specs.declared.callee.Callee.{Callee}

outside_same : (n f : ℕ) (k : Kind) (x : Option Attr) → outside_done n f k (option_map lock_deed x) ≡ outside_code n f k x
outside_same n f k None = refl
outside_same zero f k (Some a) = refl
outside_same (suc n) f k (Some a) = refl

done_same : (n f : ℕ) (g : Function) → done_code (callee_of g) n f ≡ outcome_code n f g
done_same n f g = ap (enter_code (is_some g.body) n f) (outside_same n f g.result (find (λ a. changes_lock a.kind) g.attrs))

pub calls_have_their_code : CallsHaveTheirCode
calls_have_their_code u callees are c =
    ap (λ (k : Callee). args_code u.layout c.args 1 ++ done_code k (length c.args) c.function) (are c.function)
    ∙ ap (λ (is : List Instr). args_code u.layout c.args 1 ++ is) (done_same (length c.args) c.function (function_at u c.function))

begun_same : (u : Program) (callees : List Callee) → AreCallees u callees → (p : PointNode) → p.source.layout ≡ u.layout → (c : Option Call)
    → begun_code callees p c ≡ begin_code u (point_of p) c
begun_same u callees are p same None = ap (λ (l : Layout). action_code l false (action_of p)) same
begun_same u callees are p same (Some c) =
    ap (λ (l : Layout). called_code l (callee_in callees c.function) c) same ∙ calls_have_their_code u callees are c

pub points_have_their_code : PointsHaveTheirCode
points_have_their_code u callees are p same = begun_same u callees are p same (call_by p p.op)
