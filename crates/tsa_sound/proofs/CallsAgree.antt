-- A function that is called begins with locals of their kinds, and its attributes name there what they name in the caller.
use Rattle.std.proofs.Common.{◌≡◌, ℕ, zero, suc, ◌≤◌, List, [], ◌∷◌, ◌++◌, length, map, Option, Some, None, option_and_then, option_map}
use Rattle.std.proofs.Common.{slice_get, refl, sym, subst, arith}
use Rattle.std.specs.Prelude.{All, IsSome}
use Rattle.tsa_base.specs.declared.value.Value.{Value}
use Rattle.tsa_tree.specs.declared.kind.Kind.{Kind}
use Rattle.tsa_place_model.specs.Ways.{Way}
use Rattle.tsa_place_model.specs.Calls.{evaluated}
use Rattle.tsa_place_model.specs.Items.{zero_of}
use Rattle.tsa_core.specs.KindLaws.{signatures}
use Rattle.tsa_core.specs.Kinds.{Setting}
use Rattle.tsa_core.specs.Meanings.{Call}
use Rattle.tsa_core.specs.PointKinds.{ArgsServe, CallHolds}
use Rattle.tsa_core.specs.Programs.{Function, Program}
use Rattle.tsa_core.specs.Terms.{Term}
use Rattle.tsa_path.specs.Laws.{IsSmall, Suits}
use Rattle.tsa_path.specs.Substitution.{substituted}
use Rattle.tsa_path.proofs.Keeping.{keeps_the_meaning}
use Rattle.tsa_rules.specs.Attributes.{all_as_called, as_called, declared_kinds, local_kinds}
use Rattle.tsa_rules.specs.Points.{attrs_called, function_at, or_no_function, uses_at}
use Rattle.tsa_mean.specs.Acts.{point_of}
use Rattle.tsa_mean.specs.Frames.{frame_of_call}
use Rattle.tsa_mean.specs.Outs.{yields}
use Rattle.tsa_mean.specs.Returns.{lock_of}
use Rattle.tsa_mean.specs.States.{Frame, Holds, calling}
use Rattle.tsa_mean.specs.WorthLaws.{values}
use Rattle.tsa_mean.specs.Working.{rvalues}
use Rattle.tsa_sound.specs.BodyFacts.{MentionsParameters}
use Rattle.tsa_sound.specs.Facts.{FunctionFacts}
use Rattle.tsa_sound.specs.FramesFit.{ArgsFit, LocalsFit, ProgramRows, WorkFits, function_of, setting_with, stable_of}
use Rattle.tsa_sound.specs.Invariant.{StackFits}
use Rattle.tsa_sound.specs.LaidOut.{LaidOut}
use Rattle.tsa_sound.specs.PartlyWorked.{AreWorked}
use Rattle.tsa_sound.specs.SettledStatuses.{lock_in, lock_named}
use Rattle.tsa_sound.proofs.ArgumentsLead.{arguments_suit}
use Rattle.tsa_sound.proofs.Lists.{all_alike, all_unmapped}
use Rattle.tsa_sound.proofs.LocalsBegin.{AreScalars, AreTyped, argument_begins, arguments_typed, begins_typed, begins_whole, length_mapped}
use Rattle.tsa_sound.proofs.LocalsOfPaths.{leads_alike}
use Rattle.tsa_sound.proofs.Tests.{none_is_some, same_some}

-- the kinds of a function's parameters
abbrev pub kinds_of : Function → List Kind
kinds_of f = map (λ t. t.kind) f.params

params_are : (o : Option Function) (kinds : List Kind) → option_map (λ f. kinds_of f) o ≡ Some kinds → kinds ≡ kinds_of (or_no_function o)
params_are None kinds e = none_is_some e
params_are (Some f) kinds e = sym (same_some e)

first_there : {A : Type 0} (xs ys : List A) (n : ℕ) (a : A) → slice_get xs n ≡ Some a → slice_get (xs ++ ys) n ≡ Some a
first_there [] ys n a e = none_is_some e
first_there (x ∷ xs) ys zero a e = e
first_there (x ∷ xs) ys (suc n) a e = first_there xs ys n a e

module _ (u : Program) (x : ProgramRows) (held : Holds) (frame : Frame) (below : List Frame) (facts : FunctionFacts u x frame.function)
    (fits : StackFits u x held frame below)
    (laid : LaidOut u.layout) (small : IsSmall u.layout) where
  -- the point of the frame calls a function with a body, and the arguments are worked out
  module _ (c : Call) (there : (point_of u frame).call ≡ Some c) (args : List Term) (is : frame.work ≡ calling args) (vs : List Value)
      (found : rvalues u.layout frame.locals args ≡ yields vs) (callee : FunctionFacts u x c.function) where
    abbrev g : Function
    g = function_at u c.function

    abbrev new : Frame
    new = frame_of_call u c.function vs held

    abbrev k : Setting
    k = setting_with u (function_of u frame) None

    abbrev ways : List (Option Way)
    ways = (uses_at (function_of u frame) frame.point).arguments

    serve : ArgsServe k (kinds_of g) c.args
    serve =
        let holds = subst (CallHolds (signatures u) k) there (facts.points frame.point).kinds.0 in
        subst (λ kinds. ArgsServe k kinds c.args) (params_are (slice_get u.functions c.function) holds.0 holds.1.0) holds.1.1

    worked : AreWorked k (stable_of (function_of u frame).body) frame.locals c.args args
    worked = subst (λ o. ArgsFit u (function_of u frame) frame.locals o args) there
        (subst (WorkFits u (function_of u frame) (point_of u frame) frame.locals) is fits.work)

    scalars : AreScalars (kinds_of g)
    scalars n kind e = callee.entered.scalars n kind (first_there (kinds_of g) (declared_kinds g.body) n kind e)

    pub values_typed : AreTyped u.layout (kinds_of g) vs
    values_typed = arguments_typed k (stable_of (function_of u frame).body) frame.locals laid fits.top.typed (kinds_of g) c.args args vs scalars serve
        ((facts.points frame.point).args_fit c there) worked found

    pub locals_fit : LocalsFit u g new.locals
    locals_fit = begins_typed u.layout (kinds_of g) (declared_kinds g.body) vs values_typed callee.entered.scalars

    -- it has as many as it may have
    pub locals_whole : length (local_kinds g) ≤ length new.locals
    locals_whole = begins_whole u.layout (kinds_of g) (declared_kinds g.body) vs values_typed

    -- what the attributes name with the arguments they name by the locals
    named_alike : (o : Option Way) → MentionsParameters (length g.params) o
        → option_and_then (evaluated u.layout (slice_get vs) None) o ≡ option_and_then (lock_in u new.locals) o
    named_alike None few = refl
    named_alike (Some w) few = leads_alike u.layout (slice_get vs) (values new.locals) w
        (λ n e. let less = few n e in let same = length_mapped (λ t. t.kind) g.params in
        argument_begins u.layout (kinds_of g) vs (map zero_of (declared_kinds g.body)) values_typed n (omega (arith, less, same)))

    pub steady : All (λ a. lock_of u new a ≡ lock_named u new.locals a) g.attrs
    steady = all_alike (λ a. MentionsParameters (length g.params) a.path) (λ a. lock_of u new a ≡ lock_named u new.locals a) (λ a few. named_alike a.path few)
        g.attrs callee.entered.parameters

    -- and by the caller's locals as the caller has them
    suits : Suits u.layout (values frame.locals) None ways (slice_get vs)
    suits = arguments_suit k (stable_of (function_of u frame).body) frame.locals fits.top.typed
        (kinds_of g) c.args args vs ways scalars serve worked found values_typed
        (facts.leads frame.point c there)

    named_there : All (λ a. IsSome (as_called ways a).path) g.attrs
    named_there = all_unmapped (λ a. IsSome a.path) (as_called ways) g.attrs
        (subst (λ o. All (λ a. IsSome a.path) (all_as_called ways (attrs_called u o))) there ((facts.points frame.point).calls c there).named)

    path_alike : (o : Option Way) → IsSome (option_and_then (substituted ways) o)
        → option_and_then (evaluated u.layout (slice_get vs) None) o ≡ option_and_then (lock_in u frame.locals) (option_and_then (substituted ways) o)
    path_alike None some = refl
    path_alike (Some w) some = by (substituted ways w) refl some
      where
        by : (o : Option Way) → substituted ways w ≡ o → IsSome o → evaluated u.layout (slice_get vs) None w ≡ option_and_then (lock_in u frame.locals) o
        by None e some = absurd cc
        by (Some after) e some = keeps_the_meaning u.layout (values frame.locals) (slice_get vs) None ways w after small suits e

    pub agree : All (λ a. lock_of u new a ≡ lock_named u frame.locals (as_called ways a)) g.attrs
    agree = all_alike (λ a. IsSome (as_called ways a).path) (λ a. lock_of u new a ≡ lock_named u frame.locals (as_called ways a)) (λ a some. path_alike a.path some)
        g.attrs named_there
