-- What the terms of a deed are, by what typing, reading, running and the profile say of it.
use Rattle.std.proofs.Common.{◌≡◌, ℕ, Bool, true, false, List, [], Option, Some, None, IsSome, if◌then◌else◌, refl, sym, subst}
use Rattle.tsa_tree.specs.declarations.Syntax.{Declaration, Initialiser, value, list}
use Rattle.tsa_tree.specs.declared.expr.BinaryOp.{BinaryOp}
use Rattle.tsa_tree.specs.declared.expr.BinaryOp.TheVariants as op
use Rattle.tsa_tree.specs.declared.kind.ExpressionType.{ExpressionType}
use Rattle.tsa_tree.specs.declared.kind.Kind.{Kind}
use Rattle.tsa_tree.specs.declared.kind.Kind.TheVariants as type
use Rattle.tsa_tree.specs.declared.kind.ThingType.{ThingType}
use Rattle.tsa_tree.specs.declarations.Sound.{SoundLocalInit}
use Rattle.tsa_tree.specs.expressions.Sound.{Words, SoundExpression}
use Rattle.tsa_tree.specs.expressions.Syntax.{Expression}
use Rattle.tsa_tree.specs.points.Syntax.{Deed, declares, evaluates, assigns, tests, switches, jumps, idles, returns, ends}
use Rattle.tsa_tree.specs.statements.Sound.{is_assigning}
use Rattle.tsa_tree.specs.types.Constants.{enumerator}
use Rattle.tsa_tree.specs.types.DeclaredTypes.{thing_type}
use Rattle.tsa_tree.specs.types.Expressions.{type_of, premises_of}
use Rattle.tsa_tree.specs.types.Locals.{names_in, names_in_init}
use Rattle.tsa_tree.specs.types.Premises.{first}
use Rattle.tsa_tree.specs.types.Runnable.{has_call, is_whole, is_whole_init, is_small}
use Rattle.tsa_tree.specs.types.Scopes.{Scope, context_of, known_in}
use Rattle.tsa_core.specs.Bodies.{Action, evaluate, set_local, set_cell, right_side, set_to, declared, point_by}
use Rattle.tsa_place_model.specs.Calls.{Layout}
use Rattle.tsa_core.specs.Cells.{own_cell, inner_cells, cells_read, read_before}
use Rattle.tsa_place_model.specs.Items.{zero_of}
use Rattle.tsa_core.specs.Kinds.{Setting, Belongs}
use Rattle.tsa_core.specs.Meanings.{Call, is_place, loaded, as_kind, call_in, meaning}
use Rattle.tsa_core.specs.PointKinds.{at_point}
use Rattle.tsa_core.specs.PointLoads.{init_cells, right_cells, written_cells, cells_inside, cells_before}
use Rattle.tsa_core.specs.Terms.{Term, constant, variable, answer, global, member, element, target, load, address, converted, prefixed}
use Rattle.tsa_core.specs.Terms.{joined}
use Rattle.tsa_core.proofs.DeedsHold.{Facts}
use Rattle.tsa_core.proofs.DeedsTold.{init_told, SetTold, set_told}
use Rattle.tsa_core.proofs.KindTests.{both_true, not_true}
use Rattle.tsa_core.proofs.NoFailure.{keeps_typed}
use Rattle.tsa_core.proofs.TypedTerms.{some_same}
use Rattle.tsa_mean.specs.Frames.{left_of, right_of}
use Rattle.tsa_profile.proofs.NumbersFit.{IsSmall}
use Rattle.tsa_sound.specs.Facts.{IsWhole, RightFits}
use Rattle.tsa_sound.specs.TermFacts.{AllFit, IsInRange, TermFits}
use Rattle.tsa_sound_accepted.proofs.terms.CellsAsked.{EachOf, each_of_parts, HasPaths, IsAsked}
use Rattle.tsa_sound_accepted.proofs.terms.CellsTold.{IsTold, cells_told, whole_told, condition_told}
use Rattle.tsa_sound_accepted.proofs.terms.PointsAsked.{DeedAsked, InitAsked}
use Rattle.tsa_sound_accepted.proofs.terms.TermsFit as terms
use Rattle.tsa_sound_accepted.proofs.terms.TermsFit.{as_kind_fits}
use Rattle.tsa_sound_accepted.proofs.terms.ValuesFit.{IsQuiet, as_kind_quiet, whole_quiet, condition_quiet, whole_fits, condition_fits}
use Rattle.tsa_sound_accepted.proofs.terms.ValuesFit.{whole_call_fits, condition_call_fits}
use Rattle.tsa_base.proofs.Truths.{never}

-- zero and null are in range
zero_in_range : (kind : Kind) → IsInRange (zero_of kind)
zero_in_range type.Int = refl
zero_in_range type.Unsigned = refl
zero_in_range type.Void = tt
zero_in_range (type.Structure n) = tt
zero_in_range (type.Pointer n c) = tt
zero_in_range type.Null = tt
zero_in_range type.Function = tt

-- what an assignment sets, and to what
set_right : (k : Setting) (stable : ℕ → Bool) (x : Term) (o : Option BinaryOp) (kind : Kind) (r : Term) → TermFits k stable r → RightFits k stable (set_to x o kind r)
set_right k stable (variable n) o kind r h = h
set_right k stable (global n) o kind r h = h
set_right k stable (member base n) o kind r h = h
set_right k stable (element base i) o kind r h = h
set_right k stable (target p) o kind r h = h
set_right k stable (constant v) o kind r h = h
set_right k stable answer o kind r h = h
set_right k stable (load s p) o kind r h = h
set_right k stable (address p) o kind r h = h
set_right k stable (converted to x) o kind r h = h
set_right k stable (prefixed u x) o kind r h = h
set_right k stable (joined b x y) o kind r h = h

set_quiet : (x : Term) (o : Option BinaryOp) (kind : Kind) (r : Term) → IsQuiet r → IsQuiet (right_of (set_to x o kind r))
set_quiet (variable n) o kind r h = h
set_quiet (global n) o kind r h = h
set_quiet (member base n) o kind r h = h
set_quiet (element base i) o kind r h = h
set_quiet (target p) o kind r h = h
set_quiet (constant v) o kind r h = h
set_quiet answer o kind r h = h
set_quiet (load s p) o kind r h = h
set_quiet (address p) o kind r h = h
set_quiet (converted to x) o kind r h = h
set_quiet (prefixed u x) o kind r h = h
set_quiet (joined b x y) o kind r h = h

set_left : (x : Term) (o : Option BinaryOp) (kind : Kind) (r left : Term) → left_of (set_to x o kind r) ≡ Some left → x ≡ left
set_left (variable n) o kind r left h = cc
set_left (global n) o kind r left h = some_same h
set_left (member base n) o kind r left h = some_same h
set_left (element base i) o kind r left h = some_same h
set_left (target p) o kind r left h = some_same h
set_left (constant v) o kind r left h = some_same h
set_left answer o kind r left h = some_same h
set_left (load s p) o kind r left h = some_same h
set_left (address p) o kind r left h = some_same h
set_left (converted to x) o kind r left h = some_same h
set_left (prefixed u x) o kind r left h = some_same h
set_left (joined b x y) o kind r left h = some_same h

-- the operator that joins the old value
abbrev pub operator_of : Action → Option BinaryOp
operator_of (set_local n o kind x) = o
operator_of (set_cell place o kind x) = o
operator_of action = None

set_operator : (x : Term) (o : Option BinaryOp) (kind : Kind) (r : Term) → operator_of (set_to x o kind r) ≡ o
set_operator (variable n) o kind r = refl
set_operator (global n) o kind r = refl
set_operator (member base n) o kind r = refl
set_operator (element base i) o kind r = refl
set_operator (target p) o kind r = refl
set_operator (constant v) o kind r = refl
set_operator answer o kind r = refl
set_operator (load s p) o kind r = refl
set_operator (address p) o kind r = refl
set_operator (converted to x) o kind r = refl
set_operator (prefixed u x) o kind r = refl
set_operator (joined b x y) o kind r = refl

abbrev pub IsWholeGiven : Option BinaryOp → Type 0
IsWholeGiven None = Unit {0}
IsWholeGiven (Some o) = IsWhole o

assigning_whole : (o : Option BinaryOp) → is_assigning o ≡ true → IsWholeGiven o
assigning_whole None h = tt
assigning_whole (Some op.Or) h = never (sym h)
assigning_whole (Some op.And) h = never (sym h)
assigning_whole (Some op.BitOr) h = tt
assigning_whole (Some op.BitXor) h = tt
assigning_whole (Some op.BitAnd) h = tt
assigning_whole (Some op.Equal) h = tt
assigning_whole (Some op.Unequal) h = tt
assigning_whole (Some op.Less) h = tt
assigning_whole (Some op.More) h = tt
assigning_whole (Some op.LessEqual) h = tt
assigning_whole (Some op.MoreEqual) h = tt
assigning_whole (Some op.Plus) h = tt
assigning_whole (Some op.Minus) h = tt
assigning_whole (Some op.Times) h = tt
assigning_whole (Some op.Divide) h = tt
assigning_whole (Some op.Remainder) h = tt

module _ (here : Scope) (l : Layout) (locals : ℕ → Option Kind) (bel : (given : Option Kind) → Belongs here (at_point l locals given)) (stable : ℕ → Bool) (words : Words)
    (small : (name : List ℕ) → IsSmall (enumerator (known_in here name))) (result : ThingType)
  where
    abbrev Told : Expression → Type 0
    Told e = IsTold here words e

    abbrev Has : Expression → Type 0
    Has e = HasPaths l stable here e

    -- the cells of a deed are typed, and their guards have paths
    abbrev Good : List Expression → Type 0
    Good cells = EachOf Told cells × EachOf Has cells

    pub record GoodCells (d : Deed) : Type 0 where
      pub right : Good (right_cells here d)
      pub written : Good (written_cells here d)
      pub inside : Good (cells_inside here d)
      pub before : Good (cells_before here d)

    -- a value that may be a call
    record IsValue (e : Expression) : Type 0 where
      t : ExpressionType
      typed : type_of (context_of here) e ≡ Some t
      whole : is_whole e ≡ true
      sound : SoundExpression words e

    value_of : (e : Expression) → first (premises_of (context_of here) e) ≡ None → is_whole e ≡ true → SoundExpression words e → IsValue e
    value_of e h whole sound = let t = keeps_typed (context_of here) e h in record { t = t.0; typed = t.1; whole = whole; sound = sound }

    init_value : (w : ThingType) (e : Expression) → first (names_in here (Some (value e))) ≡ None → is_whole_init (Some (value e)) ≡ true → SoundLocalInit words (Some (value e)) → IsValue e
    unfolding names_in_init
    init_value w e names whole sound = value_of e names whole sound

    value_good : (e : Expression) → IsValue e → IsAsked l stable here e → Good (cells_read here e)
    value_good e v a = (whole_told here words e v.t v.whole v.sound v.typed, a.cells)

    alone : (d : Deed) → Good (right_cells here d) → Good (written_cells here d) → Good (cells_inside here d) → Good (cells_before here d) → GoodCells d
    alone d r w i b = record { right = r; written = w; inside = i; before = b }

    none_good : Good []
    none_good = (tt, tt)

    init_good : (d : Declaration) → Facts words result here (declares d) → InitAsked l stable here d.init → Good (init_cells here d.init)
    init_good d f a =
        let told = init_told here d f.0 in
        by d.init told.1.0 (both_true (is_small (thing_type here d.ctype)) (is_whole_init d.init) f.1.0).1 f.1.1.2 a
      where
        by : (i : Option Initialiser) → first (names_in here i) ≡ None → is_whole_init i ≡ true → SoundLocalInit words i → InitAsked l stable here i → Good (init_cells here i)
        by None names whole sound a = none_good
        by (Some (list items span)) names whole sound a = none_good
        by (Some (value e)) names whole sound a = value_good e (init_value (thing_type here d.ctype) e names whole sound) a

    left_told : (left : Expression) (o : Option BinaryOp) (right : Expression) → SetTold here left o right → SoundExpression words left → Told left
    left_told left o right s sound = record { t = s.t; typed = s.left_typed; sound = sound; free = s.free }

    left_good : (left : Expression) → Told left → IsAsked l stable here left → Good (own_cell here left) × Good (inner_cells here left)
    left_good left told a =
        let ts = each_of_parts Told (own_cell here left) (inner_cells here left) (cells_told here words left told) in
        let hs = each_of_parts Has (own_cell here left) (inner_cells here left) a.cells in
        ((ts.0, hs.0), (ts.1, hs.1))

    before_good : (o : Option BinaryOp) (left : Expression) → Good (own_cell here left) → Good (read_before here o left)
    before_good None left h = none_good
    before_good (Some o) left h = h

    right_value : (left : Expression) (o : Option BinaryOp) (right : Expression) → SetTold here left o right → SoundExpression words right → IsValue right
    right_value left o right s sound = value_of right s.kept s.whole sound

    pub good_cells : (d : Deed) → Facts words result here d → DeedAsked l stable here d → GoodCells d
    good_cells (declares d) f a = alone (declares d) (init_good d f a) none_good none_good none_good
    good_cells (evaluates e) f a = alone (evaluates e) (value_good e (value_of e f.0 f.1.0 f.1.1) a) none_good none_good none_good
    good_cells (assigns left o right) f a =
        let s = set_told here left o right f.0.0 f.0.1 f.1.0 in
        let g = left_good left (left_told left o right s f.1.1.0) a.0 in
        alone (assigns left o right) (value_good right (right_value left o right s f.1.1.2) a.1) g.0 g.1 (before_good o left g.0)
    good_cells (tests None) f a = alone (tests None) none_good none_good none_good none_good
    good_cells (tests (Some e)) f a =
        let t = keeps_typed (context_of here) e f.1.0 in
        alone (tests (Some e)) (condition_told here words e t.0 f.1.1.0 f.1.1.1 t.1, a.cells) none_good none_good none_good
    good_cells (switches e) f a =
        let t = keeps_typed (context_of here) e f.1.0 in
        alone (switches e)
        (cells_told here words e (record { t = t.0; typed = t.1; sound = f.1.1.1; free = not_true (has_call e) f.1.1.0 }), a.cells) none_good none_good none_good
    good_cells jumps f a = alone jumps none_good none_good none_good none_good
    good_cells idles f a = alone idles none_good none_good none_good none_good
    good_cells (returns None) f a = alone (returns None) none_good none_good none_good none_good
    good_cells (returns (Some e)) f a = alone (returns (Some e)) (value_good e (value_of e f.1.0 f.1.1.0 f.1.1.1) a) none_good none_good none_good
    good_cells ends f a = alone ends none_good none_good none_good none_good

    -- The right side fits.
    abbrev pub RightIs : Option Kind → Deed → Type 0
    RightIs given d = RightFits (at_point l locals given) stable (point_by here result.kind d).action

    as_fits : (given : Option Kind) (kind : Kind) (e : Expression) → IsValue e → IsAsked l stable here e → TermFits (at_point l locals given) stable (as_kind kind (meaning here e))
    as_fits given kind e v a =
        as_kind_fits here (at_point l locals given) (bel given) stable words small kind (meaning here e)
        (whole_fits here l locals bel stable words small given e v.t v.whole v.sound a.addresses v.typed)

    init_fits : (given : Option Kind) (d : Declaration) (kind : Kind) → Facts words result here (declares d) → InitAsked l stable here d.init
        → RightFits (at_point l locals given) stable (declared here kind d.init).action
    init_fits given d kind f a =
        let told = init_told here d f.0 in
        by d.init told.1.0 (both_true (is_small (thing_type here d.ctype)) (is_whole_init d.init) f.1.0).1 f.1.1.2 a
      where
        by : (i : Option Initialiser) → first (names_in here i) ≡ None → is_whole_init i ≡ true → SoundLocalInit words i → InitAsked l stable here i
            → RightFits (at_point l locals given) stable (declared here kind i).action
        by None names whole sound a = zero_in_range kind
        by (Some (list items span)) names whole sound a = zero_in_range kind
        by (Some (value e)) names whole sound a = as_fits given kind e (init_value (thing_type here d.ctype) e names whole sound) a

    side_fits : (given : Option Kind) (o : Option BinaryOp) (kind : Kind) (e : Expression) → IsValue e → IsAsked l stable here e
        → TermFits (at_point l locals given) stable (right_side o kind (meaning here e))
    side_fits given None kind e v a = as_fits given kind e v a
    side_fits given (Some o) kind e v a = whole_fits here l locals bel stable words small given e v.t v.whole v.sound a.addresses v.typed

    pub right_fits : (given : Option Kind) (d : Deed) → Facts words result here d → DeedAsked l stable here d → RightIs given d
    right_fits given (declares d) f a = init_fits given d (thing_type here d.ctype).kind f a
    right_fits given (evaluates e) f a =
        let v = value_of e f.0 f.1.0 f.1.1 in whole_fits here l locals bel stable words small given e v.t v.whole v.sound a.addresses v.typed
    right_fits given (assigns left o right) f a =
        let s = set_told here left o right f.0.0 f.0.1 f.1.0 in
        let kind = (meaning here left).type.thing.kind in
        set_right (at_point l locals given) stable (meaning here left).term o kind (right_side o kind (meaning here right))
        (side_fits given o kind right (right_value left o right s f.1.1.2) a.1)
    right_fits given (tests None) f a = refl
    right_fits given (tests (Some e)) f a =
        let t = keeps_typed (context_of here) e f.1.0 in condition_fits here l locals bel stable words small given e t.0 f.1.1.0 f.1.1.1 a.addresses t.1
    right_fits given (switches e) f a =
        let t = keeps_typed (context_of here) e f.1.0 in
        (terms.fits here (at_point l locals given) (bel given) stable words small e f.1.1.1 (not_true (has_call e) f.1.1.0) a.addresses t.0 t.1).value
    right_fits given jumps f a = refl
    right_fits given idles f a = refl
    right_fits given (returns None) f a = zero_in_range result.kind
    right_fits given (returns (Some e)) f a = as_fits given result.kind e (value_of e f.1.0 f.1.1.0 f.1.1.1) a
    right_fits given ends f a = zero_in_range result.kind

    -- Only an assignment has a left side, and it joins by no operator that stops early.
    nothing_left : {A : Type 0} (left : Term) → ◌≡◌ {A = Option Term} None (Some left) → A
    nothing_left left h = absurd cc

    init_left : {A : Type 0} (kind : Kind) (i : Option Initialiser) (left : Term) → left_of (declared here kind i).action ≡ Some left → A
    init_left kind None left h = nothing_left left h
    init_left kind (Some (value e)) left h = nothing_left left h
    init_left kind (Some (list items span)) left h = nothing_left left h

    pub left_fits : (given : Option Kind) (d : Deed) → Facts words result here d → DeedAsked l stable here d → (left : Term)
        → left_of (point_by here result.kind d).action ≡ Some left → TermFits (at_point l locals given) stable left
    left_fits given (declares d) f a left h = init_left (thing_type here d.ctype).kind d.init left h
    left_fits given (evaluates e) f a left h = nothing_left left h
    left_fits given (assigns x o right) f a left h =
        let s = set_told here x o right f.0.0 f.0.1 f.1.0 in
        let kind = (meaning here x).type.thing.kind in
        subst (TermFits (at_point l locals given) stable) (set_left (meaning here x).term o kind (right_side o kind (meaning here right)) left h)
        (terms.fits here (at_point l locals given) (bel given) stable words small x f.1.1.0 s.free a.0.addresses s.t s.left_typed).term
    left_fits given (tests None) f a left h = nothing_left left h
    left_fits given (tests (Some e)) f a left h = nothing_left left h
    left_fits given (switches e) f a left h = nothing_left left h
    left_fits given jumps f a left h = nothing_left left h
    left_fits given idles f a left h = nothing_left left h
    left_fits given (returns None) f a left h = nothing_left left h
    left_fits given (returns (Some e)) f a left h = nothing_left left h
    left_fits given ends f a left h = nothing_left left h

    init_operator : (kind : Kind) (i : Option Initialiser) → IsWholeGiven (operator_of (declared here kind i).action)
    init_operator kind None = tt
    init_operator kind (Some (value e)) = tt
    init_operator kind (Some (list items span)) = tt

    pub operator_whole : (d : Deed) → Facts words result here d → IsWholeGiven (operator_of (point_by here result.kind d).action)
    operator_whole (declares d) f = init_operator (thing_type here d.ctype).kind d.init
    operator_whole (evaluates e) f = tt
    operator_whole (assigns x o right) f =
        let kind = (meaning here x).type.thing.kind in
        subst IsWholeGiven (sym (set_operator (meaning here x).term o kind (right_side o kind (meaning here right)))) (assigning_whole o f.1.1.1)
    operator_whole (tests None) f = tt
    operator_whole (tests (Some e)) f = tt
    operator_whole (switches e) f = tt
    operator_whole jumps f = tt
    operator_whole idles f = tt
    operator_whole (returns None) f = tt
    operator_whole (returns (Some e)) f = tt
    operator_whole ends f = tt

    -- The arguments of a call fit.
    abbrev Calls : Option Call → Type 0
    Calls o = (c : Call) → o ≡ Some c → AllFit (at_point l locals None) stable c.args

    no_call : Calls None
    no_call c h = absurd cc

    value_call : (e : Expression) → IsValue e → IsAsked l stable here e → Calls (call_in here e)
    value_call e v a = whole_call_fits here l locals bel stable words small e v.t v.whole v.sound a.addresses v.typed

    init_call : (d : Declaration) (kind : Kind) → Facts words result here (declares d) → InitAsked l stable here d.init → Calls (declared here kind d.init).call
    init_call d kind f a =
        let told = init_told here d f.0 in
        by d.init told.1.0 (both_true (is_small (thing_type here d.ctype)) (is_whole_init d.init) f.1.0).1 f.1.1.2 a
      where
        by : (i : Option Initialiser) → first (names_in here i) ≡ None → is_whole_init i ≡ true → SoundLocalInit words i → InitAsked l stable here i → Calls (declared here kind i).call
        by None names whole sound a = no_call
        by (Some (list items span)) names whole sound a = no_call
        by (Some (value e)) names whole sound a = value_call e (init_value (thing_type here d.ctype) e names whole sound) a

    pub args_fit : (d : Deed) → Facts words result here d → DeedAsked l stable here d → Calls (point_by here result.kind d).call
    args_fit (declares d) f a = init_call d (thing_type here d.ctype).kind f a
    args_fit (evaluates e) f a = value_call e (value_of e f.0 f.1.0 f.1.1) a
    args_fit (assigns left o right) f a =
        let s = set_told here left o right f.0.0 f.0.1 f.1.0 in value_call right (right_value left o right s f.1.1.2) a.1
    args_fit (tests None) f a = no_call
    args_fit (tests (Some e)) f a =
        let t = keeps_typed (context_of here) e f.1.0 in condition_call_fits here l locals bel stable words small e t.0 f.1.1.0 f.1.1.1 a.addresses t.1
    args_fit (switches e) f a = no_call
    args_fit jumps f a = no_call
    args_fit idles f a = no_call
    args_fit (returns None) f a = no_call
    args_fit (returns (Some e)) f a = value_call e (value_of e f.1.0 f.1.1.0 f.1.1.1) a
    args_fit ends f a = no_call

    -- Beside a call nothing is loaded.
    not_called : {A : Type 0} → IsSome {T = Call} None → A
    not_called h = never (sym h)

    init_quiet : (d : Declaration) (kind : Kind) → Facts words result here (declares d) → IsSome (declared here kind d.init).call → IsQuiet (right_of (declared here kind d.init).action)
    init_quiet d kind f =
        by d.init (both_true (is_small (thing_type here d.ctype)) (is_whole_init d.init) f.1.0).1
      where
        by : (i : Option Initialiser) → is_whole_init i ≡ true → IsSome (declared here kind i).call → IsQuiet (right_of (declared here kind i).action)
        by None whole h = not_called h
        by (Some (list items span)) whole h = not_called h
        by (Some (value e)) whole h = as_kind_quiet kind (meaning here e) (whole_quiet here e whole h)

    side_quiet : (o : Option BinaryOp) (kind : Kind) (e : Expression) → IsQuiet (loaded (meaning here e)) → IsQuiet (right_side o kind (meaning here e))
    side_quiet None kind e h = as_kind_quiet kind (meaning here e) h
    side_quiet (Some o) kind e h = h

    place_quiet : (x : Term) → IsQuiet x → IsQuiet (right_of (evaluate x))
    place_quiet x h = by (is_place x)
      where
        by : (b : Bool) → IsQuiet (if b then address x else x)
        by true c q g = h c q g
        by false c q g = h c q g

    pub silent : (d : Deed) → Facts words result here d → IsSome (point_by here result.kind d).call → IsQuiet (right_of (point_by here result.kind d).action)
    silent (declares d) f h = init_quiet d (thing_type here d.ctype).kind f h
    silent (evaluates e) f h = place_quiet (loaded (meaning here e)) (whole_quiet here e f.1.0 h)
    silent (assigns left o right) f h =
        let s = set_told here left o right f.0.0 f.0.1 f.1.0 in
        let kind = (meaning here left).type.thing.kind in
        set_quiet (meaning here left).term o kind (right_side o kind (meaning here right)) (side_quiet o kind right (whole_quiet here right s.whole h))
    silent (tests None) f h = not_called h
    silent (tests (Some e)) f h = condition_quiet here e f.1.1.0 h
    silent (switches e) f h = not_called h
    silent jumps f h = not_called h
    silent idles f h = not_called h
    silent (returns None) f h = not_called h
    silent (returns (Some e)) f h = as_kind_quiet result.kind (meaning here e) (whole_quiet here e f.1.1.0 h)
    silent ends f h = not_called h
