-- What a function that returns hands back to the frame below.
use Rattle.std.proofs.Common.{◌≡◌, ◌∙◌, ℕ, ◌+◌, Bool, true, List, ◌∷◌, Option, Some, refl, ap, sym, subst, arith}
use Rattle.std.specs.List.{list_any}
use Rattle.std.specs.Prelude.{All, Contains, IsSome}
use Rattle.tsa_base.specs.declared.value.Value.{Value}
use Rattle.tsa_place_model.specs.Ways.{Way}
use Rattle.tsa_core.specs.Kinds.{scalar_kind}
use Rattle.tsa_core.specs.Programs.{Attr, Program}
use Rattle.tsa_place_model.specs.Stores.{is_value_of}
use Rattle.tsa_rules.specs.declared.status.Status.TheVariants.{Free}
use Rattle.tsa_rules.specs.Attributes.{all_as_called, as_called, is_try}
use Rattle.tsa_rules.specs.Effects.{exit_with}
use Rattle.tsa_rules.specs.Points.{attrs_at, attrs_called, function_at, is_a_try, uses_at}
use Rattle.tsa_sched.specs.declared.event.Mode.{Mode}
use Rattle.tsa_mean.specs.Acts.{point_of, to_leave}
use Rattle.tsa_mean.specs.Returns.{attrs_of, if_lock, lock_of}
use Rattle.tsa_mean.specs.States.{Frame, Holds}
use Rattle.tsa_sound.specs.Facts.{FunctionFacts}
use Rattle.tsa_sound.specs.FramesFit.{ProgramRows, function_of, owned_below, owned_by_caller}
use Rattle.tsa_sound.specs.Invariant.{IsCallOf, StackFits}
use Rattle.tsa_sound.specs.LaidOut.{LaidOut}
use Rattle.tsa_sound.specs.SettledStatuses.{answer_held, lock_named, total, units}
use Rattle.tsa_sound.proofs.ReturnsCome.{Returns}
use Rattle.tsa_sound.proofs.Claims.{holds_named}
use Rattle.tsa_sound.proofs.ExitStatuses.{answered, exits, owns_exit, result_fits}
use Rattle.tsa_sound.proofs.HandedOver.{all_of}
use Rattle.tsa_sound.proofs.Lists.{all_mapped}
use Rattle.tsa_sound.proofs.Sums.{total_same}
use Rattle.tsa_sound.proofs.Transfer.{all_at, named_as_called}

module _ (u : Program) (x : ProgramRows) (held : Holds) (frame caller : Frame) (below : List Frame) (facts : FunctionFacts u x frame.function)
    (fits : StackFits u x held frame (caller ∷ below)) (laid : LaidOut u.layout) (v : Value)
    (returns : Returns u frame.locals (point_of u frame).action frame.work (to_leave v)) where
  abbrev call : IsCallOf u caller frame
  call = fits.lower.0

  abbrev ways : List (Option Way)
  ways = (uses_at (function_of u caller) caller.point).arguments

  -- the attributes of the call are those of the function that returns
  called_are : attrs_at u (function_of u caller) caller.point ≡ all_as_called ways (attrs_of u frame)
  called_are = ap (λ o. all_as_called ways (attrs_called u o)) call.there ∙ ap (λ n. all_as_called ways (function_at u n).attrs) call.function

  named_alike : (a : Attr) → Contains (attrs_of u frame) a → lock_named u frame.locals a ≡ lock_named u caller.locals (as_called ways a)
  named_alike a i =
      sym (all_at (λ a. lock_of u frame a ≡ lock_named u frame.locals a) (attrs_of u frame) a fits.top.steady i)
      ∙ all_at (λ a. lock_of u frame a ≡ lock_named u caller.locals (as_called ways a)) (attrs_of u frame) a call.agree i

  -- its answer is of its kind, and one of a try
  pub answer_kind : scalar_kind (function_at u call.call.function).result ≡ true → is_value_of u.layout (function_at u call.call.function).result v ≡ true
  answer_kind =
      subst (λ n. scalar_kind (function_at u n).result ≡ true → is_value_of u.layout (function_at u n).result v ≡ true) (sym call.function)
      (result_fits u x held frame (caller ∷ below) facts fits laid v returns)

  some_answer : {b : Bool} → answer_held v ≡ Some b → IsSome (answer_held v)
  some_answer e = subst IsSome (sym e) refl

  pub answer_tried : is_a_try u (Some call.call) ≡ true → IsSome (answer_held v)
  answer_tried =
      subst (λ n. list_any (λ a. is_try a.kind) (function_at u n).attrs ≡ true → IsSome (answer_held v)) (sym call.function)
      (λ tries. let own = answered u x held frame (caller ∷ below) facts fits laid v returns tries in some_answer own.2)

  -- what it hands back are locks of the caller
  pub exits_there : All (λ a. (exit_with (answer_held v) (Some a) ≡ Free → ⊥) → IsSome (lock_named u caller.locals a))
      (attrs_at u (function_of u caller) caller.point)
  exits_there =
      subst (All (λ a. (exit_with (answer_held v) (Some a) ≡ Free → ⊥) → IsSome (lock_named u caller.locals a))) (sym called_are)
      (all_mapped (λ a. (exit_with (answer_held v) (Some a) ≡ Free → ⊥) → IsSome (lock_named u frame.locals a))
      (λ a. lock_named u frame.locals a ≡ lock_named u caller.locals (as_called ways a))
      (λ a. (exit_with (answer_held v) (Some a) ≡ Free → ⊥) → IsSome (lock_named u caller.locals a)) (as_called ways)
      (λ a is same some. subst IsSome same (is some)) (attrs_of u frame) (exits u x held frame (caller ∷ below) facts fits laid v returns)
      (all_of (λ a. lock_named u frame.locals a ≡ lock_named u caller.locals (as_called ways a)) (attrs_of u frame) named_alike))

  -- so the thread holds what the caller has kept, what is handed back, and what the frames below own
  pub sum_there : (lock : ℕ) (mode : Mode) → held lock mode ≡ owned_by_caller u x caller lock mode
      + holds_named u caller.locals (λ a. exit_with (answer_held v) (Some a)) (attrs_at u (function_of u caller) caller.point) lock mode + owned_below u x
      below lock mode
  sum_there lock mode =
      let sum = fits.sum lock mode in
      let own = owns_exit u x held frame (caller ∷ below) facts fits laid v returns lock mode in
      let same = total_same (λ a. if_lock lock (lock_named u frame.locals a) (units (exit_with (answer_held v) (Some a)) mode))
      (λ a. if_lock lock (lock_named u caller.locals (as_called ways a)) (units (exit_with (answer_held v) (Some a)) mode)) (attrs_of u frame)
      (λ a i. ap (λ o. if_lock lock o (units (exit_with (answer_held v) (Some a)) mode)) (named_alike a i)) in
      let there : holds_named u caller.locals (λ a. exit_with (answer_held v) (Some a)) (attrs_at u (function_of u caller) caller.point) lock mode
      ≡ total (λ a. if_lock lock (lock_named u caller.locals (as_called ways a)) (units (exit_with (answer_held v) (Some a)) mode)) (attrs_of u frame) =
      ap (λ ats. holds_named u caller.locals (λ a. exit_with (answer_held v) (Some a)) ats lock mode) called_are
      ∙ named_as_called u caller.locals (λ a. exit_with (answer_held v) (Some a)) (λ args a. refl) ways (attrs_of u frame) lock mode in
      omega (arith, sum, own, same, there)
