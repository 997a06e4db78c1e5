-- What is to be worked out at a point fits it, where nothing is worked out yet; and where nothing is called, no status changes there.
use Rattle.std.proofs.Common.{◌≡◌, ◌∙◌, ℕ, Bool, List, [], ◌∷◌, Option, Some, None, refl, ap}
use Rattle.tsa_place_model.specs.Ways.{Way}
use Rattle.tsa_core.specs.Bodies.{Action, evaluate, set_local, set_cell, declare, test, branch, go_on, give, point}
use Rattle.tsa_place_model.specs.Calls.{Layout}
use Rattle.tsa_core.specs.Control.{Outcome, Next}
use Rattle.tsa_core.specs.Kinds.{Setting}
use Rattle.tsa_core.specs.Meanings.{Call}
use Rattle.tsa_core.specs.Programs.{Function, Program}
use Rattle.tsa_core.specs.Terms.{Term, constant, variable, answer, global, member, element, target, load, address, converted, prefixed}
use Rattle.tsa_core.specs.Terms.{joined}
use Rattle.tsa_rules.specs.declared.status.Status.{Status}
use Rattle.tsa_rules.specs.Attributes.{all_as_called, claim}
use Rattle.tsa_rules.specs.Conditions.{Condition, Subject, the_call, the_local, answer_by, condition_at}
use Rattle.tsa_rules.specs.Effects.{after_asking, after_call, after_claim, after_test, effect, later}
use Rattle.tsa_rules.specs.Points.{attrs_called, function_at, point_at, uses_at}
use Rattle.tsa_mean.specs.Frames.{first_work, left_of, right_of, work_at}
use Rattle.tsa_mean.specs.States.{Frame}
use Rattle.tsa_mean.specs.Working.{Locals}
use Rattle.tsa_sound.specs.FramesFit.{OldFits, IsWorkedLeft, WorkFits, setting_behind, setting_with, stable_of, status_by}
use Rattle.tsa_sound.specs.PartlyWorked.{AreWorked, IsWorked}

-- a term is a partly worked one of itself
module _ (k : Setting) (stable : ℕ → Bool) (locals : Locals) where
  pub worked_self : (x : Term) → IsWorked k stable locals x x
  worked_self (constant v) = refl
  worked_self (variable n) = refl
  worked_self answer = tt
  worked_self (global n) = refl
  worked_self (member base n) = (refl, worked_self base)
  worked_self (element base index) = (worked_self base, worked_self index)
  worked_self (target pointer) = worked_self pointer
  worked_self (load is_stable place) = (refl, worked_self place)
  worked_self (address place) = worked_self place
  worked_self (converted kind inner) = (refl, worked_self inner)
  worked_self (prefixed o inner) = (refl, worked_self inner)
  worked_self (joined o left right) = (refl, worked_self left, worked_self right)

  pub all_worked_self : (xs : List Term) → AreWorked k stable locals xs xs
  all_worked_self [] = tt
  all_worked_self (x ∷ xs) = (worked_self x, all_worked_self xs)

  pub left_self : (x : Option Term) → IsWorkedLeft k stable locals x x
  left_self None = tt
  left_self (Some x) = worked_self x

-- no old value is known yet
pub no_old : (l : Layout) (action : Action) → OldFits l action None
no_old l (set_cell place o kind x) = tt
no_old l (evaluate x) = tt
no_old l (set_local n o kind x) = tt
no_old l (declare n kind x) = tt
no_old l (test x) = tt
no_old l (branch x) = tt
no_old l go_on = tt
no_old l (give kind x) = tt

-- so what is to be worked out first fits its point
pub first_fits : (u : Program) (f : Function) (call : Option Call) (action : Action) (locals : Locals) → WorkFits u f (point call action) locals (first_work call action)
first_fits u f None action locals = record {
  goes_on = tt;
  right_side = worked_self (setting_behind u f (point None action)) (stable_of f.body) locals (right_of action);
  left_side = left_self (setting_behind u f (point None action)) (stable_of f.body) locals (left_of action);
  old_value = no_old u.layout action;
}
first_fits u f (Some c) action locals = all_worked_self (setting_with u f None) (stable_of f.body) locals c.args

pub work_fits : (u : Program) (n q : ℕ) (locals : Locals) → WorkFits u (function_at u n) (point_at (function_at u n) q) locals (work_at u n q)
work_fits u n q locals = first_fits u (function_at u n) (point_at (function_at u n) q).call (point_at (function_at u n) q).action locals

-- where nothing is called, an outcome that tells nothing changes no status
pub uncalled : (u : Program) (f : Function) (p : ℕ) (c : Way) (o : Outcome) (s : Status) → (point_at f p).call ≡ None → after_call u f p c o s ≡ s
uncalled u f p c o s none = ap (λ call. after_claim u f p c o (claim (all_as_called (uses_at f p).arguments (attrs_called u call)) c) s) none

pub untested : (u : Program) (f : Function) (c : Way) (k : Option Condition) (s : Status) → after_test u f c Next k s ≡ s
untested u f c None s = refl
untested u f c (Some k) s = by k.subject
  where
    by : (subject : Subject) → after_asking u f c subject (answer_by Next k) s ≡ s
    by the_call = refl
    by (the_local n) = refl

pub later_uncalled : (u : Program) (f : Function) (p : ℕ) (c : Way) (s : Status) → (point_at f p).call ≡ None → later u f p c s ≡ s
later_uncalled u f p c s none = untested u f c (condition_at (point_at f p).action) (after_call u f p c Next s) ∙ uncalled u f p c Next s none

pub effect_untested : (u : Program) (f : Function) (p : ℕ) (c : Way) (o : Outcome) (s : Status) → (point_at f p).call ≡ None → condition_at (point_at f p).action ≡ None
    → effect u f p c o s ≡ s
effect_untested u f p c o s none bare = ap (λ k. after_test u f c o k (after_call u f p c o s)) bare ∙ uncalled u f p c o s none

-- the status at a point where nothing is worked out yet is that of the row
pub fresh_status : (u : Program) (frame : Frame) (c : Way) (s : Status)
    → status_by u frame (first_work (point_at (function_at u frame.function) frame.point).call (point_at (function_at u frame.function) frame.point).action) c s ≡ s
fresh_status u frame c s = by (point_at (function_at u frame.function) frame.point).call refl
  where
    by : (call : Option Call) → (point_at (function_at u frame.function) frame.point).call ≡ call
        → status_by u frame (first_work call (point_at (function_at u frame.function) frame.point).action) c s ≡ s
    by None none = later_uncalled u (function_at u frame.function) frame.point c s none
    by (Some call) is = refl
