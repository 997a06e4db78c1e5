-- What the terms at a point are, by a layout, kinds of locals, signatures and the uses of the point.
use Rattle.std.proofs.Common.{◌≡◌, ◌∙◌, inl, inr, ℕ, Bool, true, false, List, [], ◌++◌, All, Contains, Option, Some, None, IsSome}
use Rattle.std.proofs.Common.{if◌then◌else◌, refl, sym, ap, subst}
use Rattle.std.proofs.lemmas.List.Elements.{All-contains, All-head}
use Rattle.std.specs.List.{list_any}
use Rattle.tsa_tree.specs.declared.expr.BinaryOp.{BinaryOp}
use Rattle.tsa_tree.specs.declared.kind.Kind.{Kind}
use Rattle.tsa_tree.specs.declared.kind.ThingType.{ThingType}
use Rattle.tsa_tree.specs.points.Syntax.{Deed}
use Rattle.tsa_tree.specs.expressions.Sound.{Words}
use Rattle.tsa_tree.specs.types.Constants.{enumerator}
use Rattle.tsa_tree.specs.types.Scopes.{Scope, known_in}
use Rattle.tsa_place_model.specs.Ways.{Way}
use Rattle.tsa_core.specs.Bodies.{Action, evaluate, set_local, set_cell, declare, test, branch, go_on, give, Point, knows, point, point_by}
use Rattle.tsa_place_model.specs.Calls.{Layout}
use Rattle.tsa_core.specs.Kinds.{Setting, Belongs}
use Rattle.tsa_core.specs.Loads.{loads, places}
use Rattle.tsa_core.specs.Meanings.{Call, is_place}
use Rattle.tsa_core.specs.PointKinds.{Signatures, answer_of, at_point}
use Rattle.tsa_core.specs.PointLoads.{call_loads, cell_set, cells_before, cells_inside, loads_inside, loads_right, old_value, right_cells}
use Rattle.tsa_core.specs.PointLoads.{written_cells, LoadsAgree, LoadsJustThose}
use Rattle.tsa_core.specs.Terms.{Term, address}
use Rattle.tsa_core.specs.Uses.{Access, Uses, accesses, uses, uses_by}
use Rattle.tsa_core.proofs.DeedsHold.{Facts}
use Rattle.tsa_core.proofs.KindTests.{or_left}
use Rattle.tsa_core.proofs.TypedTerms.{some_same}
use Rattle.tsa_core.proofs.UsesOfCells.{uses_are_of_cells}
use Rattle.tsa_mean.specs.Frames.{left_of, right_of}
use Rattle.tsa_profile.proofs.NumbersFit.{IsSmall}
use Rattle.tsa_rules.specs.Points.{is_guarded_by}
use Rattle.tsa_sound.specs.Facts.{IsWhole, ReadsUnder, RightFits, WritesUnder}
use Rattle.tsa_sound.specs.PartlyWorked.{guard_ways}
use Rattle.tsa_sound.specs.TermFacts.{AllFit, AllLoad, Loads, TermFits}
use Rattle.tsa_sound_accepted.proofs.terms.CellsRead.{all_contained, any_append, any_guarded, cells_under, is_under, loads_contained}
use Rattle.tsa_sound_accepted.proofs.terms.DeedTerms as deed
use Rattle.tsa_sound_accepted.proofs.terms.DeedTerms.{GoodCells, IsWholeGiven, operator_of}
use Rattle.tsa_sound_accepted.proofs.terms.PointsAsked.{DeedAsked}
use Rattle.tsa_base.proofs.Truths.{or_right}

pub record TermsAt (l : Layout) (locals : ℕ → Option Kind) (stable : ℕ → Bool) (sig : Signatures) (paths : List Way) (p : Point) (x : Uses) : Type 0 where
  pub args_fit : (c : Call) → p.call ≡ Some c → AllFit (at_point l locals None) stable c.args
  pub right_fits : RightFits (at_point l locals (answer_of sig p.call)) stable p.action
  pub left_fits : (left : Term) → left_of p.action ≡ Some left → TermFits (at_point l locals (answer_of sig p.call)) stable left
  pub args_read : (c : Call) (b : Bool) (q : Term) → p.call ≡ Some c → AllLoad c.args b q → All (ReadsUnder paths x.right) (guard_ways (at_point l locals None) stable q)
  pub right_read : (b : Bool) (q : Term) → p.call ≡ None → Loads (right_of p.action) b q
      → All (ReadsUnder paths x.right) (guard_ways (at_point l locals (answer_of sig p.call)) stable q)
  pub left_read : (left : Term) (b : Bool) (q : Term) → left_of p.action ≡ Some left → Loads left b q
      → All (ReadsUnder paths x.left) (guard_ways (at_point l locals (answer_of sig p.call)) stable q)
  pub old_read : (place : Term) (o : BinaryOp) (kind : Kind) (y : Term) → p.action ≡ set_cell place (Some o) kind y
      → All (ReadsUnder paths x.left) (guard_ways (at_point l locals (answer_of sig p.call)) stable place)
  pub whole : (place : Term) (o : BinaryOp) (kind : Kind) (y : Term) → p.action ≡ set_cell place (Some o) kind y → IsWhole o
  pub written : (place : Term) (o : Option BinaryOp) (kind : Kind) (y : Term) → p.action ≡ set_cell place o kind y
      → All (WritesUnder paths x.left) (guard_ways (at_point l locals (answer_of sig p.call)) stable place)
  pub whole_local : (n : ℕ) (o : BinaryOp) (kind : Kind) (y : Term) → p.action ≡ set_local n (Some o) kind y → IsWhole o
  pub silent : (b : Bool) (q : Term) → IsSome p.call → Loads (right_of p.action) b q → ⊥

-- where nothing is done
pub idle_terms : (l : Layout) (locals : ℕ → Option Kind) (stable : ℕ → Bool) (sig : Signatures) (paths : List Way) → TermsAt l locals stable sig paths (point None go_on) (uses [] [])
idle_terms l locals stable sig paths = record {
  args_fit = λ c h. absurd cc;
  right_fits = refl;
  left_fits = λ left h. absurd cc;
  args_read = λ c b q h f. absurd cc;
  right_read = λ b q h f. absurd f;
  left_read = λ left b q h f. absurd cc;
  old_read = λ place o kind y h. absurd cc;
  whole = λ place o kind y h. absurd cc;
  written = λ place o kind y h. absurd cc;
  whole_local = λ n o kind y h. absurd cc;
  silent = λ b q h f. f;
}

-- what an action loads
right_loads : (a : Action) → loads (right_of a) ≡ loads_right [] a
right_loads (evaluate x) = by (is_place x)
  where
    by : (b : Bool) → loads (if b then address x else x) ≡ loads x
    by true = refl
    by false = refl
right_loads (set_local n o kind x) = refl
right_loads (set_cell place o kind x) = refl
right_loads (declare n kind x) = refl
right_loads (test x) = refl
right_loads (branch x) = refl
right_loads go_on = refl
right_loads (give kind x) = refl

left_loads : (a : Action) (left : Term) → left_of a ≡ Some left → loads_inside a ≡ loads left
left_loads (set_cell place o kind x) left h = ap loads (some_same h)
left_loads (evaluate x) left h = absurd cc
left_loads (set_local n o kind x) left h = absurd cc
left_loads (declare n kind x) left h = absurd cc
left_loads (test x) left h = absurd cc
left_loads (branch x) left h = absurd cc
left_loads go_on left h = absurd cc
left_loads (give kind x) left h = absurd cc

module _ (here : Scope) (l : Layout) (locals : ℕ → Option Kind) (bel : (given : Option Kind) → Belongs here (at_point l locals given)) (stable : ℕ → Bool) (words : Words)
    (small : (name : List ℕ) → IsSmall (enumerator (known_in here name))) (result : ThingType) (sig : Signatures) (paths : List Way) (d : Deed)
    (facts : Facts words result here d) (asked : DeedAsked l stable here d) (agree : LoadsAgree result.kind (knows here d)) (just : LoadsJustThose result.kind (knows here d))
    (cover : (c : Way) → list_any (is_guarded_by c) ((uses_by l stable here d).left ++ (uses_by l stable here d).right) ≡ true → Contains paths c)
  where
    abbrev p : Point
    p = point_by here result.kind d

    abbrev x : Uses
    x = uses_by l stable here d

    abbrev k : Option Kind → Setting
    k given = at_point l locals given

    good : GoodCells here l locals bel stable words small result d
    good = deed.good_cells here l locals bel stable words small result d facts asked

    right_is : x.right ≡ accesses l stable here false (right_cells here d)
    right_is = (uses_are_of_cells l stable (knows here d)).0

    abbrev before : List Access
    before = accesses l stable here false (cells_before here d)

    abbrev written : List Access
    written = accesses l stable here true (written_cells here d)

    abbrev inside : List Access
    inside = accesses l stable here false (cells_inside here d)

    left_is : x.left ≡ before ++ (written ++ inside)
    left_is = (uses_are_of_cells l stable (knows here d)).1

    -- each path under which something is read or written is one of the function
    right_covers : (c : Way) → list_any (is_under false c) x.right ≡ true → Contains paths c
    right_covers c h =
        cover c
        (any_append (is_guarded_by c) x.left x.right (or_right (list_any (is_guarded_by c) x.left) (list_any (is_guarded_by c) x.right) (any_guarded false c x.right h)))

    left_covers : (b : Bool) (c : Way) → list_any (is_under b c) x.left ≡ true → Contains paths c
    left_covers b c h =
        cover c
        (any_append (is_guarded_by c) x.left x.right (or_left (list_any (is_guarded_by c) x.left) (list_any (is_guarded_by c) x.right) (any_guarded b c x.left h)))

    under_right : (c : Way) → list_any (is_under false c) (accesses l stable here false (right_cells here d)) ≡ true → ReadsUnder paths x.right (Some c)
    under_right c h = let r = ap (list_any (is_under false c)) right_is ∙ h in (right_covers c r, r)

    in_left : (b : Bool) (c : Way) → list_any (is_under b c) (before ++ (written ++ inside)) ≡ true → list_any (is_under b c) x.left ≡ true
    in_left b c h = ap (list_any (is_under b c)) left_is ∙ h

    reads_left : (c : Way) → list_any (is_under false c) (before ++ (written ++ inside)) ≡ true → ReadsUnder paths x.left (Some c)
    reads_left c h = let r = in_left false c h in (left_covers false c r, r)

    under_before : (c : Way) → list_any (is_under false c) before ≡ true → ReadsUnder paths x.left (Some c)
    under_before c h =
        reads_left c
        (any_append (is_under false c) before (written ++ inside) (or_left (list_any (is_under false c) before) (list_any (is_under false c) (written ++ inside)) h))

    under_inside : (c : Way) → list_any (is_under false c) inside ≡ true → ReadsUnder paths x.left (Some c)
    under_inside c h =
        reads_left c (any_append (is_under false c) before (written ++ inside) (or_right (list_any (is_under false c) before) (list_any (is_under false c) (written ++ inside))
        (any_append (is_under false c) written inside (or_right (list_any (is_under false c) written) (list_any (is_under false c) inside) h))))

    under_written : (c : Way) → list_any (is_under true c) written ≡ true → WritesUnder paths x.left (Some c)
    under_written c h =
        let r = in_left true c (any_append (is_under true c) before (written ++ inside) (or_right (list_any (is_under true c) before) (list_any (is_under true c) (written ++ inside))
        (any_append (is_under true c) written inside (or_left (list_any (is_under true c) written) (list_any (is_under true c) inside) h)))) in
        (left_covers true c r, r)

    -- the guards of the places of cells
    all_right : (given : Option Kind) → All (λ q. All (ReadsUnder paths x.right) (guard_ways (k given) stable q)) (places here (right_cells here d))
    all_right given = cells_under here (k given) (bel given) stable words false (ReadsUnder paths x.right) (right_cells here d) good.right.0 good.right.1 under_right

    all_before : (given : Option Kind) → All (λ q. All (ReadsUnder paths x.left) (guard_ways (k given) stable q)) (places here (cells_before here d))
    all_before given = cells_under here (k given) (bel given) stable words false (ReadsUnder paths x.left) (cells_before here d) good.before.0 good.before.1 under_before

    all_inside : (given : Option Kind) → All (λ q. All (ReadsUnder paths x.left) (guard_ways (k given) stable q)) (places here (cells_inside here d))
    all_inside given = cells_under here (k given) (bel given) stable words false (ReadsUnder paths x.left) (cells_inside here d) good.inside.0 good.inside.1 under_inside

    all_written : (given : Option Kind) → All (λ q. All (WritesUnder paths x.left) (guard_ways (k given) stable q)) (places here (written_cells here d))
    all_written given = cells_under here (k given) (bel given) stable words true (WritesUnder paths x.left) (written_cells here d) good.written.0 good.written.1 under_written

    -- what is loaded before the call, and where there is none
    args_read : (c : Call) (b : Bool) (q : Term) → p.call ≡ Some c → AllLoad c.args b q → All (ReadsUnder paths x.right) (guard_ways (k None) stable q)
    args_read c b q is h =
        let there = subst (λ o. Contains (call_loads o) q) (sym is) (all_contained c.args b q h) in
        All-contains (λ y. All (ReadsUnder paths x.right) (guard_ways (k None) stable y)) (places here (right_cells here d)) q (all_right None) ((just q).0 (inl there))

    right_read : (given : Option Kind) (b : Bool) (q : Term) → Loads (right_of p.action) b q → All (ReadsUnder paths x.right) (guard_ways (k given) stable q)
    right_read given b q h =
        let there = subst (λ ps. Contains ps q) (right_loads p.action) (loads_contained (right_of p.action) b q h) in
        All-contains (λ y. All (ReadsUnder paths x.right) (guard_ways (k given) stable y)) (places here (right_cells here d)) q (all_right given) ((just q).0 (inr there))

    left_read : (given : Option Kind) (left : Term) (b : Bool) (q : Term) → left_of p.action ≡ Some left → Loads left b q → All (ReadsUnder paths x.left) (guard_ways (k given) stable q)
    left_read given left b q is h =
        let there = subst (λ ps. Contains ps q) (sym (left_loads p.action left is) ∙ agree.inside) (loads_contained left b q h) in
        All-contains (λ y. All (ReadsUnder paths x.left) (guard_ways (k given) stable y)) (places here (cells_inside here d)) q (all_inside given) there

    old_read : (given : Option Kind) (place : Term) (o : BinaryOp) (kind : Kind) (y : Term) → p.action ≡ set_cell place (Some o) kind y
        → All (ReadsUnder paths x.left) (guard_ways (k given) stable place)
    old_read given place o kind y is =
        All-head (λ q. All (ReadsUnder paths x.left) (guard_ways (k given) stable q)) place []
        (subst (All (λ q. All (ReadsUnder paths x.left) (guard_ways (k given) stable q))) (sym agree.before ∙ ap old_value is) (all_before given))

    cell_written : (given : Option Kind) (place : Term) (o : Option BinaryOp) (kind : Kind) (y : Term) → p.action ≡ set_cell place o kind y
        → All (WritesUnder paths x.left) (guard_ways (k given) stable place)
    cell_written given place o kind y is =
        All-head (λ q. All (WritesUnder paths x.left) (guard_ways (k given) stable q)) place []
        (subst (All (λ q. All (WritesUnder paths x.left) (guard_ways (k given) stable q))) (sym agree.written ∙ ap cell_set is) (all_written given))

    pub terms : TermsAt l locals stable sig paths p x
    terms = record {
      args_fit = deed.args_fit here l locals bel stable words small result d facts asked;
      right_fits = deed.right_fits here l locals bel stable words small result (answer_of sig p.call) d facts asked;
      left_fits = deed.left_fits here l locals bel stable words small result (answer_of sig p.call) d facts asked;
      args_read = args_read;
      right_read = λ b q h f. right_read (answer_of sig p.call) b q f;
      left_read = left_read (answer_of sig p.call);
      old_read = old_read (answer_of sig p.call);
      whole = λ place o kind y h. subst IsWholeGiven (ap operator_of h) (deed.operator_whole here l locals bel stable words small result d facts);
      written = cell_written (answer_of sig p.call);
      whole_local = λ n o kind y h. subst IsWholeGiven (ap operator_of h) (deed.operator_whole here l locals bel stable words small result d facts);
      silent = λ b q h f. deed.silent here l locals bel stable words small result d facts h b q f;
    }
